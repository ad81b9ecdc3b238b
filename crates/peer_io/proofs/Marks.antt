-- What is left of messages behind so many of their bytes.
use Rattle.std.proofs.Common.{◌≡◌, ◌∙◌, ℕ, ◌+◌, ◌-◌, ◌<◌, ◌≤◌, Bool, true, false, cond, List, [], ◌∷◌, ◌++◌, length, refl, sym, ap, arith, leb}
use Rattle.std.specs.List.{sum_by}
use Rattle.std.proofs.lemmas.Bool.{leb-true, leb-false}
use Rattle.std.proofs.lemmas.List.Sums.{sum_by-cons}
use Rattle.std.proofs.lemmas.Bool.Decides.{nat_tests}
use Rattle.peer_io.specs.declared.outbox.Waiting.{Waiting}
use Rattle.peer_io.specs.Queue.{unsent, begun_of, ended, one_update, IsFirst}

abbrev pub total : List Waiting → ℕ
total ws = sum_by (λ w. w.size) ws

total-cons : (w : Waiting) (ws : List Waiting) → total (w ∷ ws) ≡ w.size + total ws
total-cons w ws = sum_by-cons (λ w. w.size) w ws

-- one message more at the end
pub unsent_push : (n : ℕ) (ws : List Waiting) (w : Waiting) → n ≤ total ws → 0 < w.size → unsent n (ws ++ w ∷ []) ≡ unsent n ws ++ w ∷ []
unsent_push n [] w h s = go (leb w.size n) refl
  where
    go : (b : Bool) → leb w.size n ≡ b → cond b [] (w ∷ []) ≡ w ∷ []
    go true e = absurd (omega (arith, h, s, leb-true _ _ e))
    go false e = refl
unsent_push n (x ∷ xs) w h s = go (λ below. unsent_push (n - x.size) xs w below s) (leb x.size n) refl
  where
    go : (n - x.size ≤ total xs → unsent (n - x.size) (xs ++ w ∷ []) ≡ unsent (n - x.size) xs ++ w ∷ []) → (b : Bool) → leb x.size n ≡ b →
        cond b (unsent (n - x.size) (xs ++ w ∷ [])) (x ∷ (xs ++ w ∷ [])) ≡ cond b (unsent (n - x.size) xs) (x ∷ xs) ++ w ∷ []
    go rec true e = rec (omega (arith, h, total-cons x xs))
    go rec false e = refl

pub begun_push : (n : ℕ) (ws : List Waiting) (w : Waiting) → n ≤ total ws → 0 < w.size → begun_of n (ws ++ w ∷ []) ≡ begun_of n ws
begun_push n [] w h s = go (leb w.size n) refl
  where
    go : (b : Bool) → leb w.size n ≡ b → cond b 0 n ≡ 0
    go true e = refl
    go false e = omega (arith, h)
begun_push n (x ∷ xs) w h s = go (λ below. begun_push (n - x.size) xs w below s) (leb x.size n) refl
  where
    go : (n - x.size ≤ total xs → begun_of (n - x.size) (xs ++ w ∷ []) ≡ begun_of (n - x.size) xs) → (b : Bool) → leb x.size n ≡ b →
        cond b (begun_of (n - x.size) (xs ++ w ∷ [])) n ≡ cond b (begun_of (n - x.size) xs) n
    go rec true e = rec (omega (arith, h, total-cons x xs))
    go rec false e = refl

-- so many bytes more
less : (n k s : ℕ) → s ≤ n → (n - s) + k ≡ (n + k) - s
less n k s h = omega (arith, h)

more_le : (n k s : ℕ) → leb s n ≡ true → leb s (n + k) ≡ true
more_le n k s e = let h = leb-true _ _ e in grind (arith, nat_tests)

pub unsent_more : (n k : ℕ) (ws : List Waiting) → unsent (begun_of n ws + k) (unsent n ws) ≡ unsent (n + k) ws
unsent_more n k [] = refl
unsent_more n k (x ∷ xs) = go (unsent_more (n - x.size) k xs) (leb x.size n) refl
  where
    go : unsent (begun_of (n - x.size) xs + k) (unsent (n - x.size) xs) ≡ unsent ((n - x.size) + k) xs → (b : Bool) → leb x.size n ≡ b →
        unsent (cond b (begun_of (n - x.size) xs) n + k) (cond b (unsent (n - x.size) xs) (x ∷ xs)) ≡ cond (leb x.size (n + k)) (unsent ((n + k) - x.size) xs) (x ∷ xs)
    go rec true e = rec ∙ ap (λ (m : ℕ). unsent m xs) (less n k x.size (leb-true _ _ e)) ∙ ap (λ (b : Bool). cond b (unsent ((n + k) - x.size) xs) (x ∷ xs)) (sym (more_le n k x.size e))
    go rec false e = refl

pub begun_more : (n k : ℕ) (ws : List Waiting) → begun_of (begun_of n ws + k) (unsent n ws) ≡ begun_of (n + k) ws
begun_more n k [] = refl
begun_more n k (x ∷ xs) = go (begun_more (n - x.size) k xs) (leb x.size n) refl
  where
    go : begun_of (begun_of (n - x.size) xs + k) (unsent (n - x.size) xs) ≡ begun_of ((n - x.size) + k) xs → (b : Bool) → leb x.size n ≡ b →
        begun_of (cond b (begun_of (n - x.size) xs) n + k) (cond b (unsent (n - x.size) xs) (x ∷ xs)) ≡ cond (leb x.size (n + k)) (begun_of ((n + k) - x.size) xs) (n + k)
    go rec true e = rec ∙ ap (λ (m : ℕ). begun_of m xs) (less n k x.size (leb-true _ _ e)) ∙ ap (λ (b : Bool). cond b (begun_of ((n + k) - x.size) xs) (n + k)) (sym (more_le n k x.size e))
    go rec false e = refl

add_behind : (a b c : ℕ) → (a + b) + c ≡ a + (b + c)
add_behind a b c = omega arith

pub ended_more : (n k : ℕ) (ws : List Waiting) → ended (n + k) ws ≡ ended n ws + ended (begun_of n ws + k) (unsent n ws)
ended_more n k [] = refl
ended_more n k (x ∷ xs) = go (ended_more (n - x.size) k xs) (leb x.size n) refl
  where
    go : ended ((n - x.size) + k) xs ≡ ended (n - x.size) xs + ended (begun_of (n - x.size) xs + k) (unsent (n - x.size) xs) → (b : Bool) → leb x.size n ≡ b →
        cond (leb x.size (n + k)) (one_update x + ended ((n + k) - x.size) xs) 0
        ≡ cond b (one_update x + ended (n - x.size) xs) 0 + ended (cond b (begun_of (n - x.size) xs) n + k) (cond b (unsent (n - x.size) xs) (x ∷ xs))
    go rec true e =
        ap (λ (b : Bool). cond b (one_update x + ended ((n + k) - x.size) xs) 0) (more_le n k x.size e)
        ∙ ap (λ (m : ℕ). one_update x + ended m xs) (sym (less n k x.size (leb-true _ _ e)))
        ∙ ap (λ (m : ℕ). one_update x + m) rec
        ∙ sym (add_behind (one_update x) (ended (n - x.size) xs) (ended (begun_of (n - x.size) xs + k) (unsent (n - x.size) xs)))
    go rec false e = omega arith

-- what is left has the bytes that are left
pub total_unsent : (n : ℕ) (ws : List Waiting) → n ≤ total ws → total (unsent n ws) + n ≡ begun_of n ws + total ws
total_unsent n [] h = omega (arith, h)
total_unsent n (x ∷ xs) h = go (λ below. total_unsent (n - x.size) xs below) (leb x.size n) refl
  where
    go : (n - x.size ≤ total xs → total (unsent (n - x.size) xs) + (n - x.size) ≡ begun_of (n - x.size) xs + total xs) → (b : Bool) → leb x.size n ≡ b →
        total (cond b (unsent (n - x.size) xs) (x ∷ xs)) + n ≡ cond b (begun_of (n - x.size) xs) n + total (x ∷ xs)
    go rec true e = omega (arith, rec (omega (arith, h, total-cons x xs)), leb-true _ _ e, total-cons x xs)
    go rec false e = omega arith

pub first_unsent : (n : ℕ) (ws : List Waiting) → IsFirst (begun_of n ws) (unsent n ws)
first_unsent n [] = refl
first_unsent n (x ∷ xs) = go (first_unsent (n - x.size) xs) (leb x.size n) refl
  where
    go : IsFirst (begun_of (n - x.size) xs) (unsent (n - x.size) xs) → (b : Bool) → leb x.size n ≡ b → IsFirst (cond b (begun_of (n - x.size) xs) n) (cond b (unsent (n - x.size) xs) (x ∷ xs))
    go rec true e = rec
    go rec false e = omega (arith, leb-false _ _ e)
