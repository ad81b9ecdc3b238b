-- Reading what stands in a group one after the other, as a loop does.
use Rattle.std.proofs.Common.{◌≡◌, ℕ, suc, ◌-◌, ◌+◌, ◌≤◌, ◌<◌, true, false, List, [], ◌∷◌, ◌++◌, Ok, Err, refl, sym, ap, ◌∙◌, append_assoc, arith, ◌==◌}
use Rattle.std.specs.Prelude.{codes}
use Rattle.std.proofs.lemmas.List.{append-nil}
use Rattle.net_base.specs.declared.conf.ConfFault.{ConfFault}
use Rattle.net_base.specs.declared.conf.ConfKind.TheVariants.{UnexpectedWord}
use Rattle.conf_tree.specs.declared.token.Token.{Token}
use Rattle.conf_tree.specs.declared.draft.OptionLine.{OptionLine}
use Rattle.conf_tree.specs.declared.draft.NeighbourBlock.{NeighbourBlock}
use Rattle.conf_tree.specs.Faults.{◌>>=◌}
use Rattle.conf_tree.specs.Reading.{Reading, line_of, behind, mark_is, word_is}
use Rattle.conf_tree.specs.NeighbourReading.{Members, with_option, with_neighbour, after_line_ends, option_line_at, neighbour_line_at, group_members_at}
use Rattle.conf_parser.specs.Fronts.{behind_both}

regroup_option : (options : List OptionLine) (neighbours : List NeighbourBlock) (x : OptionLine) (read : Reading Members)
    → behind_both options neighbours (read >>= λ others. Ok (with_option x others.0, others.1)) ≡ behind_both (options ++ x ∷ []) neighbours read
regroup_option options neighbours x (Ok others) = ap (λ (xs : List OptionLine). Ok ((xs, neighbours ++ others.0.1), others.1)) (simp append_assoc)
regroup_option options neighbours x (Err fault) = refl

regroup_neighbour : (options : List OptionLine) (neighbours : List NeighbourBlock) (x : NeighbourBlock) (read : Reading Members)
    → behind_both options neighbours (read >>= λ others. Ok (with_neighbour x others.0, others.1)) ≡ behind_both options (neighbours ++ x ∷ []) read
regroup_neighbour options neighbours x (Ok others) = ap (λ (xs : List NeighbourBlock). Ok ((options ++ others.0.0, xs), others.1)) (simp append_assoc)
regroup_neighbour options neighbours x (Err fault) = refl

pub closes : (options : List OptionLine) (neighbours : List NeighbourBlock) (room count i : ℕ) (tokens : List Token) (total : Reading Members) → i < count
    → mark_is (codes "}") (after_line_ends tokens) ≡ true
    → behind_both options neighbours (group_members_at room (count - i) tokens) ≡ total → total ≡ Ok ((options, neighbours), behind (after_line_ends tokens))
unfolding group_members_at
closes options neighbours room count i tokens total lt closed so_far =
    let k : count - i ≡ suc (count - (i + 1)) = omega arith in
    let one : behind_both options neighbours (group_members_at room (count - i) tokens) ≡ Ok ((options, neighbours), behind (after_line_ends tokens)) =
    rw (k, closed) (ap (λ (xs : List OptionLine). Ok ((xs, neighbours ++ []), behind (after_line_ends tokens))) (append-nil options) ∙ ap (λ (xs : List NeighbourBlock). Ok ((options, xs), behind (after_line_ends tokens))) (append-nil neighbours)) in
    sym so_far ∙ one

pub goes_on_neighbour : (options : List OptionLine) (neighbours : List NeighbourBlock) (room count i : ℕ) (tokens : List Token) (x : NeighbourBlock) (after : List Token) (total : Reading Members) → i < count
    → mark_is (codes "}") (after_line_ends tokens) ≡ false → word_is (codes "neighbor") (after_line_ends tokens) ≡ true → neighbour_line_at (room == 0) (after_line_ends tokens) ≡ Ok (x, after)
    → behind_both options neighbours (group_members_at room (count - i) tokens) ≡ total
    → behind_both options (neighbours ++ x ∷ []) (group_members_at (room - 1) (count - (i + 1)) after) ≡ total
unfolding group_members_at
goes_on_neighbour options neighbours room count i tokens x after total lt open_yet is h so_far =
    let k : count - i ≡ suc (count - (i + 1)) = omega arith in
    let one : behind_both options neighbours (group_members_at room (count - i) tokens) ≡ behind_both options (neighbours ++ x ∷ []) (group_members_at (room - 1) (count - (i + 1)) after) =
    rw (k, open_yet, is, h) (regroup_neighbour options neighbours x (group_members_at (room - 1) (count - (i + 1)) after)) in
    sym one ∙ so_far

pub goes_on_option : (options : List OptionLine) (neighbours : List NeighbourBlock) (room count i : ℕ) (tokens : List Token) (x : OptionLine) (after : List Token) (total : Reading Members) → i < count
    → mark_is (codes "}") (after_line_ends tokens) ≡ false → word_is (codes "neighbor") (after_line_ends tokens) ≡ false → option_line_at (after_line_ends tokens) ≡ Ok (x, after)
    → behind_both options neighbours (group_members_at room (count - i) tokens) ≡ total
    → behind_both (options ++ x ∷ []) neighbours (group_members_at room (count - (i + 1)) after) ≡ total
unfolding group_members_at
goes_on_option options neighbours room count i tokens x after total lt open_yet is h so_far =
    let k : count - i ≡ suc (count - (i + 1)) = omega arith in
    let one : behind_both options neighbours (group_members_at room (count - i) tokens) ≡ behind_both (options ++ x ∷ []) neighbours (group_members_at room (count - (i + 1)) after) =
    rw (k, open_yet, is, h) (regroup_option options neighbours x (group_members_at room (count - (i + 1)) after)) in
    sym one ∙ so_far

pub ends_neighbour : (options : List OptionLine) (neighbours : List NeighbourBlock) (room count i : ℕ) (tokens : List Token) (fault : ConfFault) (total : Reading Members) → i < count
    → mark_is (codes "}") (after_line_ends tokens) ≡ false → word_is (codes "neighbor") (after_line_ends tokens) ≡ true → neighbour_line_at (room == 0) (after_line_ends tokens) ≡ Err fault
    → behind_both options neighbours (group_members_at room (count - i) tokens) ≡ total → total ≡ Err fault
unfolding group_members_at
ends_neighbour options neighbours room count i tokens fault total lt open_yet is h so_far =
    let k : count - i ≡ suc (count - (i + 1)) = omega arith in
    let one : behind_both options neighbours (group_members_at room (count - i) tokens) ≡ Err fault = rw (k, open_yet, is, h) refl in
    sym so_far ∙ one

pub ends_option : (options : List OptionLine) (neighbours : List NeighbourBlock) (room count i : ℕ) (tokens : List Token) (fault : ConfFault) (total : Reading Members) → i < count
    → mark_is (codes "}") (after_line_ends tokens) ≡ false → word_is (codes "neighbor") (after_line_ends tokens) ≡ false → option_line_at (after_line_ends tokens) ≡ Err fault
    → behind_both options neighbours (group_members_at room (count - i) tokens) ≡ total → total ≡ Err fault
unfolding group_members_at
ends_option options neighbours room count i tokens fault total lt open_yet is h so_far =
    let k : count - i ≡ suc (count - (i + 1)) = omega arith in
    let one : behind_both options neighbours (group_members_at room (count - i) tokens) ≡ Err fault = rw (k, open_yet, is, h) refl in
    sym so_far ∙ one

pub is_done : (options : List OptionLine) (neighbours : List NeighbourBlock) (room count i : ℕ) (tokens : List Token) (total : Reading Members) → count ≤ i
    → behind_both options neighbours (group_members_at room (count - i) tokens) ≡ total → total ≡ Err (record { line = line_of (after_line_ends tokens); kind = UnexpectedWord })
unfolding group_members_at
is_done options neighbours room count i tokens total le so_far =
    let k : count - i ≡ 0 = omega arith in
    let one : behind_both options neighbours (group_members_at room (count - i) tokens) ≡ Err (record { line = line_of (after_line_ends tokens); kind = UnexpectedWord }) = rw k refl in
    sym so_far ∙ one
