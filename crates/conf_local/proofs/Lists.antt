-- Lists of members in braces go by their own tokens.
use Rattle.std.proofs.Common.{◌≡◌, ℕ, ◌-◌, ◌<◌, ◌≤◌, Bool, true, false, cond, eqb, List, [], ◌∷◌, length, Ok, Err, refl, ap, codes, arith}
use Rattle.conf_tree.specs.declared.token.Token.{Token}
use Rattle.conf_tree.specs.Faults.{◌>>=◌}
use Rattle.conf_tree.specs.Reading.{Reading, Member, behind, mark_is, is_separator, after_separators, members_at, list_at, full_list_at, one_or_list_at}
use Rattle.conf_local.specs.Texts.{IsText}
use Rattle.conf_local.proofs.Local.{Local, IsLocal, stays, takes, past, one_of, left_text, then, then_with}
use Rattle.conf_local.proofs.Tests.{mark_is_first, mark_begun}
use Rattle.conf_local.proofs.Loops.{after_text, after_shorter, skipping, shorter, weak, weaker, turns_local}

pub separators_local : {A : Type 0} {some : Bool} (g : List Token → Reading A) (t : List Token) → IsText t → ((y : List Token) → IsText y → length y ≤ length t → Local some g y) → Local some (λ x. g (after_separators x)) t
unfolding after_separators
separators_local g t h l = skipping is_separator g t h l

pub separated_text : (t : List Token) → IsText t → IsText (after_separators t)
unfolding after_separators
separated_text t h = after_text is_separator t h

separated_shorter : (t : List Token) → length (after_separators t) ≤ length t
unfolding after_separators
separated_shorter t = after_shorter is_separator t

module _ {A : Type 0} (read : Member A) (reads : (full : Bool) → IsLocal true (read full)) where
  abbrev others : (ℕ → List Token → Reading (List A)) → ℕ → (A × List Token) → Reading (List A)
  others f room first = f (room - 1) first.1 >>= λ others. Ok (first.0 ∷ others.0, others.1)

  abbrev round : (ℕ → List Token → Reading (List A)) → ℕ → List Token → Reading (List A)
  round f room x = cond (mark_is (codes "}") (after_separators x)) (Ok ([], behind (after_separators x))) (read (eqb room 0) (after_separators x) >>= others f room)

  goes_by_less : (f g : ℕ → List Token → Reading (List A)) (room : ℕ) (t : List Token) → IsText t → ((s : ℕ) (t' : List Token) → IsText t' → length t' < length t → f s t' ≡ g s t') → round f room t ≡ round g room t
  goes_by_less f g room t h same =
      let y : List Token = after_separators t in
      ap (λ (r : Reading (List A)). cond (mark_is (codes "}") y) (Ok ([], behind y)) r) (by (read (eqb room 0) y) refl)
    where
      l : Local true (read (eqb room 0)) (after_separators t)
      l = reads (eqb room 0) (after_separators t) (separated_text t h)

      by : (r : Reading A) → read (eqb room 0) (after_separators t) ≡ r → (r >>= others f room) ≡ (r >>= others g room)
      by (Err fault) e = refl
      by (Ok first) e =
          ap (λ (r : Reading (List A)). r >>= λ others. Ok (first.0 ∷ others.0, others.1))
          (same (room - 1) first.1 (left_text (read (eqb room 0)) (others f room) (after_separators t) l first.0 first.1 e)
          (omega (arith, shorter (read (eqb room 0)) (after_separators t) l first.0 first.1 e, separated_shorter t)))

  round_local : {some : Bool} (f : ℕ → List Token → Reading (List A)) (room : ℕ) (t : List Token) → IsText t → ((s : ℕ) (t' : List Token) → IsText t' → length t' < length t → Local false (f s) t') → Local some (round f room) t
  round_local {some} f room t h l =
      separators_local (λ y. cond (mark_is (codes "}") y) (Ok ([], behind y)) (read (eqb room 0) y >>= others f room)) t h here
    where
      here : (y : List Token) → IsText y → length y ≤ length t → Local some (λ y. cond (mark_is (codes "}") y) (Ok ([], behind y)) (read (eqb room 0) y >>= others f room)) y
      here y k short =
          one_of (λ x. mark_is (codes "}") x) (λ x. Ok ([], behind x)) (λ x. read (eqb room 0) x >>= others f room) y (mark_is_first _)
          (λ e. takes _ y (mark_begun _ y k e))
          (λ e. weaker (λ x. read (eqb room 0) x >>= others f room) y
          (then_with (read (eqb room 0)) (others f room) y (reads (eqb room 0) y k)
          (λ v left e' k'. then (λ x. f (room - 1) x) (λ others. Ok (v ∷ others.0, others.1)) left (l (room - 1) left k' (omega (arith, shorter (read (eqb room 0)) y (reads (eqb room 0) y k) v left e', short))) (λ w left' k''. stays _ left' k''))))

  pub list_local : {some : Bool} (room : ℕ) (tokens : List Token) → IsText tokens → Local some (list_at read room) tokens
  unfolding list_at members_at
  list_local {some} room tokens h =
      turns_local (members_at read) round (λ s n t. refl) goes_by_less round_local (λ s t q. weak some (λ x. members_at read s (length x) x) t q) room tokens h

  pub full_list_local : {some : Bool} (room : ℕ) (tokens : List Token) → IsText tokens → Local some (full_list_at read room) tokens
  unfolding full_list_at
  full_list_local room tokens h =
      separators_local (λ y. read (eqb room 0) y >>= λ first. list_at read (room - 1) first.1 >>= λ others. Ok (first.0 ∷ others.0, others.1)) tokens h
      (λ y k short. weaker (λ y. read (eqb room 0) y >>= λ first. list_at read (room - 1) first.1 >>= λ others. Ok (first.0 ∷ others.0, others.1)) y
      (then (read (eqb room 0)) (λ first. list_at read (room - 1) first.1 >>= λ others. Ok (first.0 ∷ others.0, others.1)) y (reads (eqb room 0) y k)
      (λ v left k'. then (list_at read (room - 1)) (λ others. Ok (v ∷ others.0, others.1)) left (list_local (room - 1) left k') (λ w left' k''. stays _ left' k''))))

  pub one_or_list_local : {some : Bool} (room : ℕ) (tokens : List Token) → IsText tokens → Local some (one_or_list_at read room) tokens
  unfolding one_or_list_at
  one_or_list_local room tokens h =
      one_of (λ x. mark_is (codes "{") x) (λ x. full_list_at read room (behind x)) (λ x. read false x >>= λ only. Ok (only.0 ∷ [], only.1)) tokens (mark_is_first _)
      (λ e. past (full_list_at read room) tokens (mark_begun _ tokens h e) (full_list_local room))
      (λ e. then (read false) (λ only. Ok (only.0 ∷ [], only.1)) tokens (weaker (read false) tokens (reads false tokens h)) (λ v left k. stays _ left k))
