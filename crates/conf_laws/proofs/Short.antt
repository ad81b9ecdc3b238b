-- A canonical text is no longer than its limit.
use Rattle.std.proofs.Common.{◌≡◌, ℕ, ◌+◌, ◌*◌, ◌≤◌, List, length, Ok, arith}
use Rattle.conf_tree.specs.declared.conf.Conf.{Conf}
use Rattle.conf_tree.specs.Canonical.{canonical}
use Rattle.conf_tree.specs.Language.{most_text_bytes, most_canonical_bytes, configuration}
use Rattle.conf_sound.proofs.Whole.{readable, within_limits}
use Rattle.conf_size.specs.Numbers.{sets_of}
use Rattle.conf_sound.proofs.SetCounts.{few_sets}
use Rattle.conf_size.proofs.TextSizes.{canonical_size}

in_all : (size sets : ℕ) → size ≤ 47 * sets + 35651537 → sets ≤ 2097153 → size ≤ 134217728
in_all size sets h few = omega (arith, h, few)

pub short : (text : List ℕ) (conf : Conf) → configuration text ≡ Ok conf → length (canonical conf) ≤ most_canonical_bytes
short text conf said =
    in_all (length (canonical conf)) (sets_of conf) (canonical_size conf (readable most_text_bytes text conf said) (within_limits most_text_bytes text conf said)) (few_sets text conf said)
