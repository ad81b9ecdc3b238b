-- How a run of bytes goes on, and where it ends.
use Rattle.std.proofs.Common.{◌≡◌, ◌∙◌, Bool, true, false, cond, List, [], ◌∷◌, refl, ap, sym}
use Rattle.conf_tree.specs.Joined.{Seen}
use Rattle.conf_tree.specs.Cuts.{run, behind}

pub run_on : (p : List Seen → Bool) (xs : List Seen) (a : Seen) (rest : List Seen) → xs ≡ a ∷ rest → p xs ≡ true → run p xs ≡ a ∷ run p rest
unfolding run
run_on p xs a rest e h = ap (run p) e ∙ ap (λ b. cond b (a ∷ run p rest) []) (sym (ap p e) ∙ h)

pub behind_on : (p : List Seen → Bool) (xs : List Seen) (a : Seen) (rest : List Seen) → xs ≡ a ∷ rest → p xs ≡ true → behind p xs ≡ behind p rest
unfolding behind
behind_on p xs a rest e h = ap (behind p) e ∙ ap (λ b. cond b (behind p rest) (a ∷ rest)) (sym (ap p e) ∙ h)

pub run_off : (p : List Seen → Bool) (xs : List Seen) → p xs ≡ false → run p xs ≡ []
unfolding run
run_off p [] h = refl
run_off p (a ∷ rest) h = ap (λ b. cond b (a ∷ run p rest) []) h

pub behind_off : (p : List Seen → Bool) (xs : List Seen) → p xs ≡ false → behind p xs ≡ xs
unfolding behind
behind_off p [] h = refl
behind_off p (a ∷ rest) h = ap (λ b. cond b (behind p rest) (a ∷ rest)) h
