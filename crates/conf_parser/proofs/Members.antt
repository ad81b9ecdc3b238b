-- Reading the members of a list one after the other, as a loop does.
use Rattle.std.proofs.Common.{◌≡◌, ℕ, suc, ◌-◌, ◌+◌, ◌≤◌, ◌<◌, true, false, List, [], ◌∷◌, ◌++◌, Ok, Err, refl, sym, ap, ◌∙◌, append_assoc, arith, ◌==◌}
use Rattle.std.specs.Prelude.{codes}
use Rattle.std.proofs.lemmas.List.{append-nil}
use Rattle.net_base.specs.declared.conf.ConfFault.{ConfFault}
use Rattle.net_base.specs.declared.conf.ConfKind.TheVariants.{UnexpectedWord}
use Rattle.conf_tree.specs.declared.token.Token.{Token}
use Rattle.conf_tree.specs.Faults.{◌>>=◌}
use Rattle.conf_tree.specs.Reading.{Reading, Member, line_of, behind, mark_is, after_separators, members_at}
use Rattle.conf_parser.specs.Fronts.{behind_front}

regroup : {A : Type 0} (front : List A) (x : A) (read : Reading (List A)) → behind_front front (read >>= λ others. Ok (x ∷ others.0, others.1)) ≡ behind_front (front ++ x ∷ []) read
regroup front x (Ok others) = ap (λ xs. Ok (xs, others.1)) (simp append_assoc)
regroup front x (Err fault) = refl

pub closes : {A : Type 0} (read : Member A) (front : List A) (room count i : ℕ) (tokens : List Token) (total : Reading (List A)) → i < count
    → mark_is (codes "}") (after_separators tokens) ≡ true
    → behind_front front (members_at read room (count - i) tokens) ≡ total → total ≡ Ok (front, behind (after_separators tokens))
unfolding members_at
closes read front room count i tokens total lt closed so_far =
    let k : count - i ≡ suc (count - (i + 1)) = omega arith in
    let one : behind_front front (members_at read room (count - i) tokens) ≡ Ok (front, behind (after_separators tokens)) = rw (k, closed) (ap (λ xs. Ok (xs, behind (after_separators tokens))) (append-nil front)) in
    sym so_far ∙ one

pub goes_on : {A : Type 0} (read : Member A) (front : List A) (room count i : ℕ) (tokens : List Token) (x : A) (after : List Token) (total : Reading (List A)) → i < count
    → mark_is (codes "}") (after_separators tokens) ≡ false → read (room == 0) (after_separators tokens) ≡ Ok (x, after)
    → behind_front front (members_at read room (count - i) tokens) ≡ total
    → behind_front (front ++ x ∷ []) (members_at read (room - 1) (count - (i + 1)) after) ≡ total
unfolding members_at
goes_on read front room count i tokens x after total lt open_yet h so_far =
    let k : count - i ≡ suc (count - (i + 1)) = omega arith in
    let one : behind_front front (members_at read room (count - i) tokens) ≡ behind_front (front ++ x ∷ []) (members_at read (room - 1) (count - (i + 1)) after) = rw (k, open_yet, h) (regroup front x (members_at read (room - 1) (count - (i + 1)) after)) in
    sym one ∙ so_far

pub ends : {A : Type 0} (read : Member A) (front : List A) (room count i : ℕ) (tokens : List Token) (fault : ConfFault) (total : Reading (List A)) → i < count
    → mark_is (codes "}") (after_separators tokens) ≡ false → read (room == 0) (after_separators tokens) ≡ Err fault
    → behind_front front (members_at read room (count - i) tokens) ≡ total → total ≡ Err fault
unfolding members_at
ends read front room count i tokens fault total lt open_yet h so_far =
    let k : count - i ≡ suc (count - (i + 1)) = omega arith in
    let one : behind_front front (members_at read room (count - i) tokens) ≡ Err fault = rw (k, open_yet, h) refl in
    sym so_far ∙ one

pub is_done : {A : Type 0} (read : Member A) (front : List A) (room count i : ℕ) (tokens : List Token) (total : Reading (List A)) → count ≤ i
    → behind_front front (members_at read room (count - i) tokens) ≡ total → total ≡ Err (record { line = line_of (after_separators tokens); kind = UnexpectedWord })
unfolding members_at
is_done read front room count i tokens total le so_far =
    let k : count - i ≡ 0 = omega arith in
    let one : behind_front front (members_at read room (count - i) tokens) ≡ Err (record { line = line_of (after_separators tokens); kind = UnexpectedWord }) = rw k refl in
    sym so_far ∙ one
