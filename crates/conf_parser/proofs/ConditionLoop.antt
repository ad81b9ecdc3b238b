-- Reading the conditions of a rule one after the other, as a loop does.
use Rattle.std.proofs.Common.{◌≡◌, ℕ, suc, ◌-◌, ◌+◌, ◌≤◌, ◌<◌, true, false, List, [], ◌∷◌, ◌++◌, Ok, Err, refl, sym, ap, ◌∙◌, append_assoc, arith, ◌==◌}
use Rattle.std.proofs.lemmas.List.{append-nil}
use Rattle.net_base.specs.declared.conf.ConfFault.{ConfFault}
use Rattle.net_base.specs.declared.conf.ConfKind.TheVariants.{UnexpectedWord}
use Rattle.conf_tree.specs.declared.token.Token.{Token}
use Rattle.conf_tree.specs.declared.draft.ConditionBlock.{ConditionBlock}
use Rattle.conf_tree.specs.Faults.{◌>>=◌}
use Rattle.conf_tree.specs.Reading.{Reading, line_of}
use Rattle.conf_tree.specs.RuleReading.{Lists, condition_at, conditions_at, ends_conditions}
use Rattle.conf_parser.specs.Fronts.{behind_front}

regroup : (front : List ConditionBlock) (x : ConditionBlock) (read : Reading (List ConditionBlock)) → behind_front front (read >>= λ others. Ok (x ∷ others.0, others.1)) ≡ behind_front (front ++ x ∷ []) read
regroup front x (Ok others) = ap (λ (xs : List ConditionBlock). Ok (xs, others.1)) (simp append_assoc)
regroup front x (Err fault) = refl

pub closes : (front : List ConditionBlock) (lists : Lists) (room count i : ℕ) (tokens : List Token) (total : Reading (List ConditionBlock)) → i < count
    → ends_conditions tokens ≡ true
    → behind_front front (conditions_at lists room (count - i) tokens) ≡ total → total ≡ Ok (front, tokens)
unfolding conditions_at
closes front lists room count i tokens total lt closed so_far =
    let k : count - i ≡ suc (count - (i + 1)) = omega arith in
    let one : behind_front front (conditions_at lists room (count - i) tokens) ≡ Ok (front, tokens) = rw (k, closed) (ap (λ (xs : List ConditionBlock). Ok (xs, tokens)) (append-nil front)) in
    sym so_far ∙ one

pub goes_on : (front : List ConditionBlock) (lists : Lists) (room count i : ℕ) (tokens : List Token) (x : ConditionBlock) (left : Lists) (after : List Token) (total : Reading (List ConditionBlock)) → i < count
    → ends_conditions tokens ≡ false → condition_at lists (room == 0) tokens ≡ Ok ((x, left), after)
    → behind_front front (conditions_at lists room (count - i) tokens) ≡ total
    → behind_front (front ++ x ∷ []) (conditions_at left (room - 1) (count - (i + 1)) after) ≡ total
unfolding conditions_at
goes_on front lists room count i tokens x left after total lt open_yet h so_far =
    let k : count - i ≡ suc (count - (i + 1)) = omega arith in
    let one : behind_front front (conditions_at lists room (count - i) tokens) ≡ behind_front (front ++ x ∷ []) (conditions_at left (room - 1) (count - (i + 1)) after) = rw (k, open_yet, h) (regroup front x (conditions_at left (room - 1) (count - (i + 1)) after)) in
    sym one ∙ so_far

pub ends : (front : List ConditionBlock) (lists : Lists) (room count i : ℕ) (tokens : List Token) (fault : ConfFault) (total : Reading (List ConditionBlock)) → i < count
    → ends_conditions tokens ≡ false → condition_at lists (room == 0) tokens ≡ Err fault
    → behind_front front (conditions_at lists room (count - i) tokens) ≡ total → total ≡ Err fault
unfolding conditions_at
ends front lists room count i tokens fault total lt open_yet h so_far =
    let k : count - i ≡ suc (count - (i + 1)) = omega arith in
    let one : behind_front front (conditions_at lists room (count - i) tokens) ≡ Err fault = rw (k, open_yet, h) refl in
    sym so_far ∙ one

pub is_done : (front : List ConditionBlock) (lists : Lists) (room count i : ℕ) (tokens : List Token) (total : Reading (List ConditionBlock)) → count ≤ i
    → ends_conditions tokens ≡ true
    → behind_front front (conditions_at lists room (count - i) tokens) ≡ total → total ≡ Ok (front, tokens)
unfolding conditions_at
is_done front lists room count i tokens total le closed so_far =
    let k : count - i ≡ 0 = omega arith in
    let one : behind_front front (conditions_at lists room (count - i) tokens) ≡ Ok (front, tokens) = rw (k, closed) (ap (λ (xs : List ConditionBlock). Ok (xs, tokens)) (append-nil front)) in
    sym so_far ∙ one

pub is_over : (front : List ConditionBlock) (lists : Lists) (room count i : ℕ) (tokens : List Token) (total : Reading (List ConditionBlock)) → count ≤ i
    → ends_conditions tokens ≡ false
    → behind_front front (conditions_at lists room (count - i) tokens) ≡ total → total ≡ Err (record { line = line_of tokens; kind = UnexpectedWord })
unfolding conditions_at
is_over front lists room count i tokens total le open_yet so_far =
    let k : count - i ≡ 0 = omega arith in
    let one : behind_front front (conditions_at lists room (count - i) tokens) ≡ Err (record { line = line_of tokens; kind = UnexpectedWord }) = rw (k, open_yet) refl in
    sym so_far ∙ one
