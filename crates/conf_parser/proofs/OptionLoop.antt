-- Reading the options of a neighbour one after the other, as a loop does.
use Rattle.std.proofs.Common.{◌≡◌, ℕ, suc, ◌-◌, ◌+◌, ◌≤◌, ◌<◌, true, false, List, [], ◌∷◌, ◌++◌, Ok, Err, refl, sym, ap, ◌∙◌, append_assoc, arith}
use Rattle.std.specs.Prelude.{codes}
use Rattle.std.proofs.lemmas.List.{append-nil}
use Rattle.net_base.specs.declared.conf.ConfFault.{ConfFault}
use Rattle.net_base.specs.declared.conf.ConfKind.TheVariants.{UnexpectedWord}
use Rattle.conf_tree.specs.declared.token.Token.{Token}
use Rattle.conf_tree.specs.declared.draft.OptionLine.{OptionLine}
use Rattle.conf_tree.specs.Faults.{◌>>=◌}
use Rattle.conf_tree.specs.Reading.{Reading, line_of, behind, mark_is}
use Rattle.conf_tree.specs.NeighbourReading.{after_line_ends, option_line_at, options_at}
use Rattle.conf_parser.specs.Fronts.{behind_front}

regroup : (front : List OptionLine) (x : OptionLine) (read : Reading (List OptionLine)) → behind_front front (read >>= λ others. Ok (x ∷ others.0, others.1)) ≡ behind_front (front ++ x ∷ []) read
regroup front x (Ok others) = ap (λ (xs : List OptionLine). Ok (xs, others.1)) (simp append_assoc)
regroup front x (Err fault) = refl

pub closes : (front : List OptionLine) (count i : ℕ) (tokens : List Token) (total : Reading (List OptionLine)) → i < count
    → mark_is (codes "}") (after_line_ends tokens) ≡ true
    → behind_front front (options_at (count - i) tokens) ≡ total → total ≡ Ok (front, behind (after_line_ends tokens))
unfolding options_at
closes front count i tokens total lt closed so_far =
    let k : count - i ≡ suc (count - (i + 1)) = omega arith in
    let one : behind_front front (options_at (count - i) tokens) ≡ Ok (front, behind (after_line_ends tokens)) = rw (k, closed) (ap (λ (xs : List OptionLine). Ok (xs, behind (after_line_ends tokens))) (append-nil front)) in
    sym so_far ∙ one

pub goes_on : (front : List OptionLine) (count i : ℕ) (tokens : List Token) (x : OptionLine) (after : List Token) (total : Reading (List OptionLine)) → i < count
    → mark_is (codes "}") (after_line_ends tokens) ≡ false → option_line_at (after_line_ends tokens) ≡ Ok (x, after)
    → behind_front front (options_at (count - i) tokens) ≡ total
    → behind_front (front ++ x ∷ []) (options_at (count - (i + 1)) after) ≡ total
unfolding options_at
goes_on front count i tokens x after total lt open_yet h so_far =
    let k : count - i ≡ suc (count - (i + 1)) = omega arith in
    let one : behind_front front (options_at (count - i) tokens) ≡ behind_front (front ++ x ∷ []) (options_at (count - (i + 1)) after) = rw (k, open_yet, h) (regroup front x (options_at (count - (i + 1)) after)) in
    sym one ∙ so_far

pub ends : (front : List OptionLine) (count i : ℕ) (tokens : List Token) (fault : ConfFault) (total : Reading (List OptionLine)) → i < count
    → mark_is (codes "}") (after_line_ends tokens) ≡ false → option_line_at (after_line_ends tokens) ≡ Err fault
    → behind_front front (options_at (count - i) tokens) ≡ total → total ≡ Err fault
unfolding options_at
ends front count i tokens fault total lt open_yet h so_far =
    let k : count - i ≡ suc (count - (i + 1)) = omega arith in
    let one : behind_front front (options_at (count - i) tokens) ≡ Err fault = rw (k, open_yet, h) refl in
    sym so_far ∙ one

pub is_done : (front : List OptionLine) (count i : ℕ) (tokens : List Token) (total : Reading (List OptionLine)) → count ≤ i
    → behind_front front (options_at (count - i) tokens) ≡ total → total ≡ Err (record { line = line_of (after_line_ends tokens); kind = UnexpectedWord })
unfolding options_at
is_done front count i tokens total le so_far =
    let k : count - i ≡ 0 = omega arith in
    let one : behind_front front (options_at (count - i) tokens) ≡ Err (record { line = line_of (after_line_ends tokens); kind = UnexpectedWord }) = rw k refl in
    sym so_far ∙ one
