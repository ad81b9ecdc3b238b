-- The checks of a configuration that was read: each over the whole text before the next, and the configuration of a text
-- that passes them all.
use Rattle.std.specs.Prelude.{ℕ, Bool, false, ◌&&◌, ◌||◌, not, List, [], ◌∷◌, ◌++◌, Option, Some, None, map, option_map, is_none, find, filter_map, Result, Ok, Err, bytes_eq, ◌==◌, nat_le, if◌then◌else◌}
use Rattle.std.specs.List.{list_any}
use Rattle.std.specs.Option.{option_or, option_map_or}
use Rattle.net_base.specs.declared.addr.Addr.{Addr}
use Rattle.net_base.specs.declared.conf.ConfFault.{ConfFault}
use Rattle.net_base.specs.declared.conf.ConfKind.{ConfKind}
use Rattle.net_base.specs.declared.conf.ConfKind.TheVariants.{NoAs, NoRouterId, DoubleName, DoubleNeighbour, UnknownName, FamilyMismatch}
use Rattle.net_base.specs.Order.{same_family}
use Rattle.conf_tree.specs.declared.conf.Conf.{Conf}
use Rattle.conf_tree.specs.declared.draft.ConditionBlock.{ConditionBlock}
use Rattle.conf_tree.specs.declared.draft.ConditionBlock.TheVariants as block
use Rattle.conf_tree.specs.declared.draft.Draft.{Draft}
use Rattle.conf_tree.specs.declared.draft.NeighbourBlock.{NeighbourBlock}
use Rattle.conf_tree.specs.declared.draft.RuleBlock.{RuleBlock}
use Rattle.conf_tree.specs.declared.draft.Statement.{Statement}
use Rattle.conf_tree.specs.declared.draft.Statement.TheVariants as says
use Rattle.conf_tree.specs.declared.draft.StatementLine.{StatementLine}
use Rattle.conf_tree.specs.declared.rule.Peer.{Peer}
use Rattle.conf_tree.specs.declared.rule.Peer.TheVariants as peer
use Rattle.conf_tree.specs.Said.{last_said, as_of, router_id_of, remote_as_of, local_address_of, rib_option_of}
use Rattle.conf_tree.specs.Flat.{Placed, placed, taken, loc_rib, rib_number, prefix_set_id, as_set_id, origin_set_id, frame_of, flat}

-- a fault of this kind at this line
abbrev pub fault_at : ConfKind → ℕ → ConfFault
fault_at kind line = record { line = line; kind = kind }

-- the lesser of two lines, which stands first in the text
abbrev pub first_line : Option ℕ → Option ℕ → Option ℕ
first_line None b = b
first_line (Some a) None = Some a
first_line (Some a) (Some b) = Some (if nat_le a b then a else b)

-- ---- the own AS and the identifier

-- at line 0, the own AS first
unfoldable pub missing_global : List StatementLine → Option ConfFault
missing_global lines =
    if is_none (last_said as_of lines) then Some (fault_at NoAs 0)
    else (if is_none (last_said router_id_of lines) then Some (fault_at NoRouterId 0) else None)

-- ---- names that come twice

-- the line of the first name for which an earlier name, one of those before the list or in it, is the same
abbrev pub double_after : {K : Type 0} → (K → K → Bool) → List (ℕ × K) → List (ℕ × K) → Option ℕ
double_after same earlier [] = None
double_after same earlier (name ∷ later) =
    if list_any (λ e. same name.1 e.1) earlier then Some name.0 else double_after same (earlier ++ name ∷ []) later

-- the line of the first name that comes twice, among names with their lines
unfoldable pub first_double : {K : Type 0} → (K → K → Bool) → List (ℕ × K) → Option ℕ
first_double same names = double_after same [] names

-- the names of one kind, with the lines of their statements
abbrev pub named : {K : Type 0} → (Statement → Option K) → List StatementLine → List (ℕ × K)
named name_of lines = filter_map (λ l. option_map (λ name. (l.line, name)) (name_of l.statement)) lines

abbrev pub rib_name_of : Statement → Option (List ℕ)
rib_name_of (says.Rib name table) = Some name
rib_name_of _ = None

abbrev pub rib_table_of : Statement → Option ℕ
rib_table_of (says.Rib name table) = table
rib_table_of _ = None

abbrev pub prefix_set_name_of : Statement → Option (List ℕ)
prefix_set_name_of (says.PrefixSet name entries) = Some name
prefix_set_name_of _ = None

abbrev pub as_set_name_of : Statement → Option (List ℕ)
as_set_name_of (says.AsSet name numbers) = Some name
as_set_name_of _ = None

abbrev pub origin_set_name_of : Statement → Option (List ℕ)
origin_set_name_of (says.OriginSet name entries) = Some name
origin_set_name_of _ = None

abbrev pub group_name_of : Statement → Option (List ℕ)
group_name_of (says.Group group) = Some group.name
group_name_of _ = None

-- the line of the first name of a kind that comes twice
abbrev pub double_of : (Statement → Option (List ℕ)) → List StatementLine → Option ℕ
double_of name_of lines = first_double bytes_eq (named name_of lines)

-- the name Loc-RIB is taken before the text begins
abbrev pub double_rib : List StatementLine → Option ℕ
double_rib lines = first_double bytes_eq ((0, loc_rib) ∷ named rib_name_of lines)

-- the line of the first kernel table that comes twice
abbrev pub double_table : List StatementLine → Option ℕ
double_table lines = first_double (λ a b. a == b) (named rib_table_of lines)

-- at the first statement whose name or kernel table an earlier one has, each kind for itself
unfoldable pub double_name : List StatementLine → Option ConfFault
double_name lines =
    option_map (fault_at DoubleName)
    (first_line (double_rib lines)
    (first_line (double_table lines)
    (first_line (double_of prefix_set_name_of lines)
    (first_line (double_of as_set_name_of lines)
    (first_line (double_of origin_set_name_of lines)
    (double_of group_name_of lines))))))

-- ---- neighbours

abbrev pub same_addr : Addr → Addr → Bool
same_addr a b = same_family a.family b.family && (a.bits == b.bits)

-- at the first neighbour whose address an earlier one has, over all groups
unfoldable pub double_neighbour : List Placed → Option ConfFault
double_neighbour all = option_map (fault_at DoubleNeighbour) (first_double same_addr (map (λ n. (n.block.line, n.block.address)) all))

-- a fault of this kind at the word `neighbor`
abbrev pub fault_of : ConfKind → Option Placed → Option ConfFault
fault_of kind found = option_map (λ n. fault_at kind n.block.line) found

-- at the first neighbour without an AS, of its own or of its group
unfoldable pub without_as : List Placed → Option ConfFault
without_as all = fault_of NoAs (find (λ n. is_none (taken remote_as_of n)) all)

-- the own address of the session is of another family than the neighbour's
abbrev pub is_mismatch : Placed → Option Addr → Bool
is_mismatch n None = false
is_mismatch n (Some own) = not (same_family own.family n.block.address.family)

unfoldable pub family_mismatch : List Placed → Option ConfFault
family_mismatch all = fault_of FamilyMismatch (find (λ n. is_mismatch n (taken local_address_of n)) all)

-- ---- names that nothing has

abbrev pub is_unknown_rib : Conf → Option (List ℕ) → Bool
is_unknown_rib conf None = false
is_unknown_rib conf (Some name) = is_none (rib_number conf.ribs name)

-- the name, if there are neighbours
abbrev pub named_if_full : List ℕ → List NeighbourBlock → Option (List ℕ)
named_if_full name [] = None
named_if_full name (own ∷ others) = Some name

-- the name of the group of a statement, if it has neighbours
abbrev pub full_group : Statement → Option (List ℕ)
full_group (says.Group group) = named_if_full group.name group.neighbours
full_group _ = None

-- a group without neighbours counts as unknown
abbrev pub groups_of : List StatementLine → List (List ℕ)
groups_of lines = filter_map (λ l. full_group l.statement) lines

abbrev pub is_unknown_peer : List (List ℕ) → Peer → Bool
is_unknown_peer groups (peer.Group name) = not (list_any (bytes_eq name) groups)
is_unknown_peer groups _ = false

abbrev pub is_unknown_set : Conf → ConditionBlock → Bool
is_unknown_set conf (block.PrefixSet name) = is_none (prefix_set_id conf name)
is_unknown_set conf (block.PrefixSetOrLonger name) = is_none (prefix_set_id conf name)
is_unknown_set conf (block.PathSet part name) = is_none (as_set_id conf name)
is_unknown_set conf (block.OriginSet name) = is_none (origin_set_id conf name)
is_unknown_set conf _ = false

-- the rule names a RIB, a group or a set that there isn't
unfoldable pub has_unknown : Conf → List (List ℕ) → RuleBlock → Bool
has_unknown conf groups rule =
    is_unknown_rib conf rule.rib || list_any (is_unknown_peer groups) rule.peers || list_any (is_unknown_set conf) rule.conditions

abbrev pub is_unknown_rule : Conf → List (List ℕ) → Statement → Bool
is_unknown_rule conf groups (says.Rule rule) = has_unknown conf groups rule
is_unknown_rule conf groups _ = false

-- the line of the first neighbour that names a RIB that there isn't
unfoldable pub unknown_neighbour : Conf → List Placed → Option ℕ
unknown_neighbour conf all = option_map (λ n. n.block.line) (find (λ n. is_unknown_rib conf (taken rib_option_of n)) all)

-- the line of the first rule that names something that there isn't
unfoldable pub unknown_rule : Conf → List StatementLine → Option ℕ
unknown_rule conf lines = option_map (λ l. l.line) (find (λ l. is_unknown_rule conf (groups_of lines) l.statement) lines)

-- at the first neighbour or rule that names something that there isn't
unfoldable pub unknown_name : Conf → List StatementLine → Option ConfFault
unknown_name conf lines =
    option_map (fault_at UnknownName) (first_line (unknown_neighbour conf (placed lines)) (unknown_rule conf lines))

-- ---- the checks in their order

-- the fault of the first check that finds one
unfoldable pub first_fault : List StatementLine → Option ConfFault
first_fault lines =
    option_or (missing_global lines)
    (option_or (double_name lines)
    (option_or (double_neighbour (placed lines))
    (option_or (without_as (placed lines))
    (option_or (unknown_name (frame_of lines) lines)
    (family_mismatch (placed lines))))))

-- the configuration that a text stands for, or the first fault of its checks
unfoldable pub checked : Draft → Result Conf ConfFault
checked draft = option_map_or Err (first_fault draft.statements) (Ok (flat draft.statements))
