-- The checks, over the neighbours as they are kept.
use Rattle.std.specs.Prelude.{ℕ, Bool, false, not, List, Option, Some, None, option_map, is_none, find}
use Rattle.std.specs.Option.{option_or}
use Rattle.net_base.specs.declared.addr.Addr.{Addr}
use Rattle.net_base.specs.declared.conf.ConfFault.{ConfFault}
use Rattle.net_base.specs.declared.conf.ConfKind.{ConfKind}
use Rattle.net_base.specs.declared.conf.ConfKind.TheVariants.{NoAs, UnknownName, FamilyMismatch}
use Rattle.net_base.specs.Order.{same_family}
use Rattle.conf_tree.specs.declared.conf.Conf.{Conf}
use Rattle.conf_tree.specs.declared.draft.StatementLine.{StatementLine}
use Rattle.conf_tree.specs.Checks.{fault_at, first_line, is_unknown_rib, missing_global, double_name, unknown_rule}
use Rattle.conf_check.specs.declared.placed.PlacedNeighbour.{PlacedNeighbour}
use Rattle.conf_check.specs.Doubles.{double_neighbour_in}

-- the line of the first neighbour that fails a check
abbrev pub line_where : (PlacedNeighbour → Bool) → List PlacedNeighbour → Option ℕ
line_where fails all = option_map (λ n. n.line) (find fails all)

-- a fault of this kind there
abbrev pub fault_where : ConfKind → (PlacedNeighbour → Bool) → List PlacedNeighbour → Option ConfFault
fault_where kind fails all = option_map (λ n. fault_at kind n.line) (find fails all)

unfoldable pub without_as_in : List PlacedNeighbour → Option ConfFault
without_as_in all = fault_where NoAs (λ n. is_none n.settings.plain.remote_as) all

abbrev pub is_mismatch_in : PlacedNeighbour → Option Addr → Bool
is_mismatch_in n None = false
is_mismatch_in n (Some own) = not (same_family own.family n.address.family)

unfoldable pub family_mismatch_in : List PlacedNeighbour → Option ConfFault
family_mismatch_in all = fault_where FamilyMismatch (λ n. is_mismatch_in n n.settings.plain.local_address) all

unfoldable pub unknown_neighbour_in : Conf → List PlacedNeighbour → Option ℕ
unknown_neighbour_in conf all = line_where (λ n. is_unknown_rib conf n.settings.rib) all

unfoldable pub unknown_name_in : Conf → List StatementLine → List PlacedNeighbour → Option ConfFault
unknown_name_in conf lines all = option_map (fault_at UnknownName) (first_line (unknown_neighbour_in conf all) (unknown_rule conf lines))

unfoldable pub first_fault_in : List StatementLine → Conf → List PlacedNeighbour → Option ConfFault
first_fault_in lines conf all =
    option_or (missing_global lines)
    (option_or (double_name lines)
    (option_or (double_neighbour_in all)
    (option_or (without_as_in all)
    (option_or (unknown_name_in conf lines all)
    (family_mismatch_in all)))))
