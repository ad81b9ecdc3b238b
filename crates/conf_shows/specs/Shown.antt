-- What a configuration shows: its sets, its kernel tables and the names of its RIBs.
use Rattle.std.specs.Prelude.{ℕ, ◌-◌, ◌^◌, min, Bool, false, ◌||◌, ◌==◌, if◌then◌else◌, List, [], ◌∷◌, ◌++◌, length, map, filter, Option, Some, None}
use Rattle.std.specs.List.{list_any, range_with_len}
use Rattle.std.specs.Str.{bytes_eq}
use Rattle.net_base.specs.declared.roa.Roa.{Roa}
use Rattle.conf_tree.specs.declared.conf.Conf.{Conf}
use Rattle.conf_tree.specs.declared.conf.Rib.{Rib}
use Rattle.conf_tree.specs.Flat.{loc_rib}
use Rattle.conf_tree.specs.declared.sets.AsSetConf.{AsSetConf}
use Rattle.conf_tree.specs.declared.sets.OriginSetConf.{OriginSetConf}
use Rattle.conf_tree.specs.declared.sets.PrefixSetConf.{PrefixSetConf}
use Rattle.conf_tree.specs.declared.sets.SetKind.TheVariants.{Prefix, As, Origin}
use Rattle.core_msgs.specs.declared.answer.Line.{Line}
use Rattle.core_msgs.specs.declared.answer.Line.TheVariants as lines
use Rattle.core_msgs.specs.declared.frame.Frame.{Frame}
use Rattle.core_msgs.specs.declared.frame.Frame.TheVariants as frames
use Rattle.core_msgs.specs.declared.parts.Core.{Core}
use Rattle.core_msgs.specs.declared.parts.Core.TheVariants.{Parent}
use Rattle.core_msgs.specs.declared.row.Row.TheVariants as rows

-- a count as a number of a row, which stays at its last value
abbrev pub shown_count : ℕ → ℕ
shown_count n = min n (2 ^ 32 - 1)

abbrev pub prefix_set_rows : List PrefixSetConf → List Line
prefix_set_rows sets = map (λ s. lines.Row (rows.Set Prefix s.name (shown_count (length s.entries)))) sets

abbrev pub as_set_rows : List AsSetConf → List Line
as_set_rows sets = map (λ s. lines.Row (rows.Set As s.name (shown_count (length s.numbers)))) sets

abbrev pub origin_set_rows : List OriginSetConf → List Line
origin_set_rows sets = map (λ s. lines.Row (rows.Set Origin s.name (shown_count (length s.entries)))) sets

abbrev pub roa_rows : List Roa → List Line
roa_rows [] = []
roa_rows (first ∷ others) = lines.Row (rows.RoaSet (shown_count (length (first ∷ others)))) ∷ []

-- a row for each set of the configuration, and one for its ROAs if there are some
abbrev pub set_rows : Conf → List Line
set_rows conf = ((prefix_set_rows conf.prefix_sets ++ as_set_rows conf.as_sets) ++ origin_set_rows conf.origin_sets) ++ roa_rows conf.roas

abbrev pub is_number : ℕ → Option ℕ → Bool
is_number number None = false
is_number number (Some table) = table == number

-- whether one of them has this kernel table
abbrev pub is_among_tables : List Rib → ℕ → Bool
is_among_tables ribs number = list_any (λ rib. is_number number rib.table) ribs

-- whether one of them has this name
abbrev pub is_among_names : List Rib → List ℕ → Bool
is_among_names ribs name = list_any (λ rib. bytes_eq rib.name name) ribs

-- Whether a configuration has a kernel table of this number: 0 of Loc-RIB, and those of the other RIBs. The empty one has none.
abbrev pub has_table : Conf → ℕ → Bool
has_table conf number = if conf.asn == 0 then false else ((number == 0) || is_among_tables conf.ribs number)

-- whether it has a RIB of this name
abbrev pub has_rib : Conf → List ℕ → Bool
has_rib conf name = bytes_eq name loc_rib || is_among_names conf.ribs name

-- a kernel table is coupled, or decoupled
abbrev pub couple_frame : Bool → ℕ → Core × Frame
couple_frame on table = (Parent, frames.Couple table on)

-- each of the configuration, by number
unfoldable pub all_couple_frames : Conf → Bool → List (Core × Frame)
all_couple_frames conf on = map (couple_frame on) (filter (has_table conf) (range_with_len 0 256))
