-- What is computed of the neighbours as they are kept is what the definitions say of the text.
use Rattle.std.proofs.Common.{◌≡◌, ◌∙◌, Bool, true, false, cond, List, [], ◌∷◌, map, Option, Some, None, refl, ap}
use Rattle.std.specs.Prelude.{option_map, find, is_none}
use Rattle.std.specs.Option.{option_or}
use Rattle.std.proofs.lemmas.Simd.{map-map}
use Rattle.net_base.specs.declared.conf.ConfKind.TheVariants.{NoAs, DoubleNeighbour, UnknownName, FamilyMismatch}
use Rattle.net_base.specs.Order.{addr_cmp}
use Rattle.conf_tree.specs.declared.conf.Conf.{Conf}
use Rattle.conf_tree.specs.declared.draft.StatementLine.{StatementLine}
use Rattle.conf_tree.specs.Said.{local_address_of}
use Rattle.conf_tree.specs.Flat.{Placed, placed, taken, by_key, frame_of, neighbour_of, neighbours_of, rules_of, flat}
use Rattle.conf_tree.specs.Checks.{fault_at, first_double, first_line, same_addr, fault_of, is_mismatch, is_unknown_rib, missing_global, double_name, double_neighbour, without_as, family_mismatch, unknown_neighbour, unknown_rule, unknown_name, first_fault}
use Rattle.conf_check.specs.Names.{HasOrderedSets}
use Rattle.conf_check.specs.Placed.{seen, placed_with}
use Rattle.conf_check.specs.Doubles.{double_neighbour_in}
use Rattle.conf_check.specs.Faults.{is_mismatch_in, without_as_in, family_mismatch_in, unknown_neighbour_in, unknown_name_in, first_fault_in}
use Rattle.conf_check.specs.Neighbours.{neighbour_with, neighbours_with}
use Rattle.conf_check.specs.Expand.{expanded}
use Rattle.conf_check.proofs.Sorted as order

pub frame_sorted : (lines : List StatementLine) → HasOrderedSets (frame_of lines)
frame_sorted lines = order.frame_sorted lines

-- the first that a test says of, among what a view shows
find_seen : {A B C : Type 0} (view : A → B) (test : B → Bool) (of : B → C) (xs : List A) → option_map of (find test (map view xs)) ≡ option_map (λ x. of (view x)) (find (λ x. test (view x)) xs)
find_seen view test of [] = refl
find_seen {A} view test of (x ∷ xs) = by (test (view x)) (find_seen view test of xs)
  where
    by : (b : Bool) → option_map of (find test (map view xs)) ≡ option_map (λ y. of (view y)) (find (λ y. test (view y)) xs)
        → option_map of (cond b (Some (view x)) (find test (map view xs))) ≡ option_map (λ y. of (view y)) (cond b (Some x) (find (λ y. test (view y)) xs))
    by true behind = refl
    by false behind = behind

double_seen : (all : List Placed) → double_neighbour_in (map seen all) ≡ double_neighbour all
unfolding double_neighbour_in double_neighbour placed_with
double_seen all = ap (λ names. option_map (fault_at DoubleNeighbour) (first_double same_addr names)) (map-map (λ n. (n.line, n.address)) seen all)

without_as_seen : (all : List Placed) → without_as_in (map seen all) ≡ without_as all
unfolding without_as_in without_as placed_with
without_as_seen all = find_seen seen (λ n. is_none n.settings.plain.remote_as) (λ n. fault_at NoAs n.line) all

mismatch_at : (n : Placed) (own : Option _) → is_mismatch_in (seen n) own ≡ is_mismatch n own
unfolding placed_with
mismatch_at n None = refl
mismatch_at n (Some own) = refl

mismatch_seen : (all : List Placed) → family_mismatch_in (map seen all) ≡ family_mismatch all
unfolding family_mismatch_in family_mismatch placed_with
mismatch_seen all =
    find_seen seen (λ n. is_mismatch_in n n.settings.plain.local_address) (λ n. fault_at FamilyMismatch n.line) all
    ∙ (λ i. fault_of FamilyMismatch (find (λ n. mismatch_at n (taken local_address_of n) i) all))

unknown_seen : (conf : Conf) (all : List Placed) → unknown_neighbour_in conf (map seen all) ≡ unknown_neighbour conf all
unfolding unknown_neighbour_in unknown_neighbour placed_with
unknown_seen conf all = find_seen seen (λ n. is_unknown_rib conf n.settings.rib) (λ n. n.line) all

unknown_name_seen : (lines : List StatementLine) → unknown_name_in (frame_of lines) lines (map seen (placed lines)) ≡ unknown_name (frame_of lines) lines
unfolding unknown_name_in unknown_name
unknown_name_seen lines = ap (λ line. option_map (fault_at UnknownName) (first_line line (unknown_rule (frame_of lines) lines))) (unknown_seen (frame_of lines) (placed lines))

pub fault_seen : (lines : List StatementLine) → first_fault_in lines (frame_of lines) (map seen (placed lines)) ≡ first_fault lines
unfolding first_fault_in first_fault
fault_seen lines =
    λ i. option_or (missing_global lines)
    (option_or (double_name lines)
    (option_or (double_seen (placed lines) i)
    (option_or (without_as_seen (placed lines) i)
    (option_or (unknown_name_seen lines i)
    (mismatch_seen (placed lines) i)))))

neighbours_seen : (conf : Conf) (all : List Placed) → neighbours_with conf (map seen all) ≡ neighbours_of conf all
unfolding neighbour_with neighbour_of neighbours_of placed_with
neighbours_seen conf all = ap (λ entries. map (λ entry. entry.1) (by_key addr_cmp entries)) (map-map (λ n. (n.address, neighbour_with conf n)) seen all)

pub expanded_seen : (lines : List StatementLine) → expanded (frame_of lines) lines (map seen (placed lines)) ≡ flat lines
unfolding expanded flat
expanded_seen lines = ap (λ ns. record (frame_of lines) { neighbours = ns; rules = rules_of (frame_of lines) lines }) (neighbours_seen (frame_of lines) (placed lines))
