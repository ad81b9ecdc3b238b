-- The sets have at most 77 bytes for each entry, 47 around each named set, and 12 around the roa-set.
use Rattle.std.proofs.Common.{ℕ, ◌+◌, ◌*◌, ◌≤◌, List, [], ◌∷◌, length, flat_map, codes, arith, length-append}
use Rattle.net_base.specs.declared.roa.Roa.{Roa}
use Rattle.conf_tree.specs.declared.conf.Conf.{Conf}
use Rattle.conf_tree.specs.declared.sets.PrefixSetConf.{PrefixSetConf}
use Rattle.conf_tree.specs.declared.sets.AsSetConf.{AsSetConf}
use Rattle.conf_tree.specs.declared.sets.OriginSetConf.{OriginSetConf}
use Rattle.conf_tree.specs.Canonical.{set_head, range_line, number_line, roa_line, prefix_set_text, as_set_text, origin_set_text, roa_set_text, sets_text}
use Rattle.conf_tree.specs.Readable.{Each, IsName, IsRange, IsRoa, IsAs, IsPrefixSet, IsAsSet, IsOriginSet, IsReadable, total, entries_of}
use Rattle.conf_size.specs.Numbers.{sets_of}
use Rattle.conf_size.proofs.ListSizes.{each_size, each_total_size}
use Rattle.conf_size.proofs.EntrySizes.{range_line_size, number_line_size, roa_line_size}

head_size : (kind name : List ℕ) → length kind ≤ 10 → IsName name → length (set_head kind name) ≤ 45
unfolding set_head
head_size kind name short good = omega (arith, good.short, length-append {A = ℕ})

prefix_set_size : (s : PrefixSetConf) → IsPrefixSet s → length (prefix_set_text s) ≤ 77 * length s.entries + 47
unfolding prefix_set_text
prefix_set_size s good =
    let kind : List ℕ = codes "prefix-set" in
    omega (arith, head_size kind s.name (omega arith) good.0, each_size range_line IsRange 77 s.entries range_line_size good.1, length-append {A = ℕ})

as_set_size : (s : AsSetConf) → IsAsSet s → length (as_set_text s) ≤ 77 * length s.numbers + 47
unfolding as_set_text
as_set_size s good =
    let kind : List ℕ = codes "as-set" in
    omega (arith, head_size kind s.name (omega arith) good.0, each_size number_line IsAs 77 s.numbers number_line_size good.1, length-append {A = ℕ})

origin_set_size : (s : OriginSetConf) → IsOriginSet s → length (origin_set_text s) ≤ 77 * length s.entries + 47
unfolding origin_set_text
origin_set_size s good =
    let kind : List ℕ = codes "origin-set" in
    omega (arith, head_size kind s.name (omega arith) good.0, each_size roa_line IsRoa 77 s.entries roa_line_size good.1, length-append {A = ℕ})

roa_set_size : (roas : List Roa) → Each IsRoa roas → length (roa_set_text roas) ≤ 77 * length roas + 12
roa_set_size [] good = omega arith
roa_set_size (r ∷ roas) good =
    let lines : List ℕ = flat_map roa_line (r ∷ roas) in
    let each : length lines ≤ 77 * length (r ∷ roas) = each_size roa_line IsRoa 77 (r ∷ roas) roa_line_size good in
    omega (arith, each, length-append lines (codes "}\n"))

pub sets_size : (conf : Conf) → IsReadable conf → length (sets_text conf) ≤ 77 * entries_of conf + 47 * sets_of conf + 12
unfolding sets_text
sets_size conf good =
    let prefixes : length (flat_map prefix_set_text conf.prefix_sets) ≤ 77 * total (λ s. length s.entries) conf.prefix_sets + 47 * length conf.prefix_sets =
    each_total_size prefix_set_text IsPrefixSet (λ s. length s.entries) 77 47 conf.prefix_sets prefix_set_size good.prefix_sets in
    let numbers : length (flat_map as_set_text conf.as_sets) ≤ 77 * total (λ s. length s.numbers) conf.as_sets + 47 * length conf.as_sets =
    each_total_size as_set_text IsAsSet (λ s. length s.numbers) 77 47 conf.as_sets as_set_size good.as_sets in
    let origins : length (flat_map origin_set_text conf.origin_sets) ≤ 77 * total (λ s. length s.entries) conf.origin_sets + 47 * length conf.origin_sets =
    each_total_size origin_set_text IsOriginSet (λ s. length s.entries) 77 47 conf.origin_sets origin_set_size good.origin_sets in
    omega (arith, prefixes, numbers, origins, roa_set_size conf.roas good.roas, length-append {A = ℕ})
