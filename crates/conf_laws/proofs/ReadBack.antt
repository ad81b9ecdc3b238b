-- The canonical text of a configuration that a text says is read as that configuration.
use Rattle.std.proofs.Common.{◌≡◌, ◌∙◌, ℕ, List, Ok, ap}
use Rattle.conf_tree.specs.declared.conf.Conf.{Conf}
use Rattle.conf_tree.specs.Canonical.{canonical}
use Rattle.conf_tree.specs.Checks.{checked}
use Rattle.conf_tree.specs.Faults.{◌>>=◌}
use Rattle.conf_tree.specs.Language.{most_text_bytes, most_canonical_bytes, configuration, configuration_within}
use Rattle.conf_tree.specs.Readable.{IsReadable, IsWithinLimits}
use Rattle.conf_round.proofs.DraftBack.{canonical_draft_back}
use Rattle.conf_back.proofs.Whole.{checked_back}
use Rattle.conf_sound.proofs.Whole.{readable, within_limits}
use Rattle.conf_sound.proofs.Settled.{settled}
use Rattle.conf_laws.proofs.Short.{short}

pub said_again : (text : List ℕ) (conf : Conf) → configuration text ≡ Ok conf → configuration_within most_canonical_bytes (canonical conf) ≡ Ok conf
unfolding configuration_within
said_again text conf said =
    let good : IsReadable conf = readable most_text_bytes text conf said in
    let few : IsWithinLimits conf = within_limits most_text_bytes text conf said in
    ap (λ draft. draft >>= checked) (canonical_draft_back most_canonical_bytes conf good few (short text conf said)) ∙ checked_back conf good few (settled most_text_bytes text conf said)
