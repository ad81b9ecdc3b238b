-- What a set of a configuration holds: what some entry of its list fits.
use Rattle.std.specs.Prelude.{◌≡◌, ℕ, ◌<◌, Bool, ◌&&◌, List, [], length, Option, ◌==◌, nat_le, slice_get}
use Rattle.std.specs.List.{list_any}
use Rattle.std.specs.Option.{option_map_or}
use Rattle.net_base.specs.declared.prefix.Prefix.{Prefix}
use Rattle.net_base.specs.Prefix.{covers}
use Rattle.net_base.specs.Roa.{matches}
use Rattle.conf_tree.specs.declared.conf.Conf.{Conf}
use Rattle.conf_tree.specs.declared.sets.PrefixRange.{PrefixRange}
use Rattle.conf_tree.specs.declared.sets.SetId.{SetId}
use Rattle.conf_tree.specs.declared.sets.SetKind.{SetKind}
use Rattle.conf_tree.specs.declared.sets.SetKind.TheVariants as kinds

-- how many sets of a kind there are
abbrev pub count_of : Conf → SetKind → ℕ
count_of conf kinds.Prefix = length conf.prefix_sets
count_of conf kinds.As = length conf.as_sets
count_of conf kinds.Origin = length conf.origin_sets

-- the set is one of this kind, and it is there
pub record Names (conf : Conf) (kind : SetKind) (set : SetId) : Type 0 where
  pub of_kind : set.kind ≡ kind
  pub «there» : set.at < count_of conf kind

-- the entries of a set, of which there are none where there is no such set
abbrev pub entries_at : {S A : Type 0} → (S → List A) → List S → ℕ → List A
entries_at entries sets at = option_map_or entries (slice_get sets at) []

-- an entry holds a prefix which it covers, if the length is in its range
abbrev pub holds : Prefix → PrefixRange → Bool
holds prefix entry = covers entry.prefix prefix && nat_le entry.low prefix.len && nat_le prefix.len entry.high

unfoldable pub in_prefix_set : Conf → SetId → Prefix → Bool
in_prefix_set conf set prefix = list_any (holds prefix) (entries_at (λ s. s.entries) conf.prefix_sets set.at)

-- with `or-longer` the range of each entry goes from its own length to the width
unfoldable pub in_prefix_set_or_longer : Conf → SetId → Prefix → Bool
in_prefix_set_or_longer conf set prefix = list_any (λ entry. covers entry.prefix prefix) (entries_at (λ s. s.entries) conf.prefix_sets set.at)

unfoldable pub in_as_set : Conf → SetId → ℕ → Bool
in_as_set conf set asn = list_any (λ number. number == asn) (entries_at (λ s. s.numbers) conf.as_sets set.at)

unfoldable pub in_origin_set : Conf → SetId → Prefix → Option ℕ → Bool
in_origin_set conf set prefix origin = list_any (matches prefix origin) (entries_at (λ s. s.entries) conf.origin_sets set.at)
