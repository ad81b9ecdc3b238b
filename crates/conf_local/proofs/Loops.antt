-- What stands behind separators, and readers that go round: the bound on their rounds is always enough.
use Rattle.std.proofs.Common.{◌≡◌, ◌∙◌, inl, inr, ℕ, zero, suc, ◌+◌, ◌-◌, ◌<◌, ◌≤◌, min, Bool, true, false, List, [], ◌∷◌, ◌++◌, length, length-append, drop, Ok, refl, ap, sym, subst, arith}
use Rattle.std.specs.List.{prefix_len}
use Rattle.conf_tree.specs.declared.token.Token.{Token}
use Rattle.conf_tree.specs.Reading.{Reading}
use Rattle.conf_local.specs.Texts.{ends_text, IsText}
use Rattle.conf_local.proofs.Local.{Local, replay, StopsAt, Moves, moves_past, text_again, same_as}

-- ---- tokens behind those that pass a test, but for the last token

abbrev pub after : (Token → Bool) → List Token → List Token
after passes t = drop (min (prefix_len passes t) (length t - 1)) t

module _ (passes : Token → Bool) where
  after_last : (z : Token) → after passes (z ∷ []) ≡ z ∷ []
  after_last z = ap (λ (n : ℕ). drop n (z ∷ [])) (none (prefix_len passes (z ∷ [])))
    where
      none : (n : ℕ) → min n (1 - 1) ≡ 0
      none n = omega arith

  after_stop : (z : Token) (r : List Token) → passes z ≡ false → after passes (z ∷ r) ≡ z ∷ r
  after_stop z r e = rw e (ap (λ (n : ℕ). drop n (z ∷ r)) (none (suc (length r) - 1)))
    where
      none : (n : ℕ) → min 0 n ≡ 0
      none n = omega arith

  after_step : (z y : Token) (r : List Token) → passes z ≡ true → after passes (z ∷ y ∷ r) ≡ after passes (y ∷ r)
  after_step z y r e = rw e (ap (λ (n : ℕ). drop n (z ∷ y ∷ r)) (less (prefix_len passes (y ∷ r)) (length r)))
    where
      less : (n m : ℕ) → min (1 + n) (suc (suc m) - 1) ≡ suc (min n (suc m - 1))
      less n m = omega arith

  last_text : (z y : Token) (r : List Token) → IsText (z ∷ y ∷ r) → IsText (y ∷ r)
  last_text z y r (inl last) = absurd (cc)
  last_text z y r (inr on) = on.1

  pub after_text : (t : List Token) → IsText t → IsText (after passes t)
  after_text [] h = absurd h
  after_text (z ∷ []) h = subst IsText (sym (after_last z)) h
  after_text (z ∷ y ∷ r) h = by (passes z) refl (after_text (y ∷ r) (last_text z y r h))
    where
      by : (b : Bool) → passes z ≡ b → IsText (after passes (y ∷ r)) → IsText (after passes (z ∷ y ∷ r))
      by true e k = subst IsText (sym (after_step z y r e)) k
      by false e k = subst IsText (sym (after_stop z (y ∷ r) e)) h

  pub after_shorter : (t : List Token) → length (after passes t) ≤ length t
  after_shorter t = dropped (min (prefix_len passes t) (length t - 1)) t
    where
      dropped : (n : ℕ) (t : List Token) → length (drop n t) ≤ length t
      dropped zero t = omega arith
      dropped (suc n) [] = omega arith
      dropped (suc n) (z ∷ t) = omega (arith, dropped n t)

  -- what stops stops, whatever follows
  last_again : (z : Token) (own : List Token) (w : Token) (rest other : List Token) → z ∷ [] ≡ own ++ (w ∷ rest) → ends_text z ≡ true → IsText (w ∷ other) → after passes (own ++ (w ∷ other)) ≡ own ++ (w ∷ other)
  last_again z [] w rest other s e (inl last) = ap (λ (o : List Token). after passes (w ∷ o)) last.1 ∙ after_last w ∙ ap (λ (o : List Token). w ∷ o) (sym last.1)
  last_again z [] w rest other s e (inr on) = absurd (let same : z ≡ w = cc in let f = ap ends_text same in let k = on.0 in cc)
  last_again z (y ∷ []) w rest other s e k = absurd (cc)
  last_again z (y ∷ x ∷ own) w rest other s e k = absurd (cc)

  stop_again : (z : Token) (r own : List Token) (w : Token) (rest other : List Token) → z ∷ r ≡ own ++ (w ∷ rest) → passes z ≡ false → after passes (own ++ (w ∷ other)) ≡ own ++ (w ∷ other)
  stop_again z r [] w rest other s e = after_stop w other (let same : z ≡ w = cc in ap passes (sym same) ∙ e)
  stop_again z r (y ∷ own) w rest other s e = after_stop y (own ++ (w ∷ other)) (let same : z ≡ y = cc in ap passes (sym same) ∙ e)

  step_again : (z : Token) (own : List Token) (w : Token) (other : List Token) → passes z ≡ true → after passes (z ∷ (own ++ (w ∷ other))) ≡ after passes (own ++ (w ∷ other))
  step_again z [] w other e = after_step z w other e
  step_again z (y ∷ own) w other e = after_step z y (own ++ (w ∷ other)) e

  -- a reader behind them
  pub skipping : {A : Type 0} {some : Bool} (g : List Token → Reading A) (t : List Token) → IsText t → ((y : List Token) → IsText y → length y ≤ length t → Local some g y) → Local some (λ x. g (after passes x)) t
  skipping g [] h l = absurd h
  skipping g (z ∷ []) (inr on) l = absurd on.1
  skipping {A} {some} g (z ∷ []) (inl last) l =
      let inner : Local some g (z ∷ []) = l (z ∷ []) (inl last) (omega arith) in
      same_as (λ x. g (after passes x)) g (z ∷ []) inner (ap g (after_last z)) (λ other k. ap g (last_again z inner.own inner.z inner.rest other inner.same last.0 k))
  skipping {A} {some} g (z ∷ y ∷ r) h l = by (passes z) refl (skipping g (y ∷ r) (last_text z y r h) (λ x k short. l x k (omega (arith, short))))
    where
      by : (b : Bool) → passes z ≡ b → Local some (λ x. g (after passes x)) (y ∷ r) → Local some (λ x. g (after passes x)) (z ∷ y ∷ r)
      by false e behind =
          let inner : Local some g (z ∷ y ∷ r) = l (z ∷ y ∷ r) h (omega arith) in
          same_as (λ x. g (after passes x)) g (z ∷ y ∷ r) inner (ap g (after_stop z (y ∷ r) e)) (λ other k. ap g (stop_again z (y ∷ r) inner.own inner.z inner.rest other inner.same e))
      by true e inner =
          let here : g (after passes (z ∷ y ∷ r)) ≡ g (after passes (y ∷ r)) = ap g (after_step z y r e) in
          record {
            own = z ∷ inner.own;
            z = inner.z;
            rest = inner.rest;
            same = ap (λ (ts : List Token). z ∷ ts) inner.same;
            text = inner.text;
            stops = subst (λ (q : Reading A). StopsAt q inner.z inner.rest) (sym here) inner.stops;
            moves = moves_past some (g (after passes (z ∷ y ∷ r))) z inner.own;
            again = λ other k. ap g (step_again z inner.own inner.z other e) ∙ inner.again other k ∙ ap (λ (q : Reading A). replay q (inner.z ∷ other)) (sym here);
          }

-- ---- rounds

-- what a reader leaves that read some token is shorter
pub shorter : {A : Type 0} (f : List Token → Reading A) (t : List Token) (l : Local true f t) (v : A) (left : List Token) → f t ≡ Ok (v, left) → length left < length t
shorter {A} f t l v left e =
    let stop : left ≡ l.z ∷ l.rest = subst (λ (r : Reading A). StopsAt r l.z l.rest) e l.stops in
    let some : 1 ≤ length l.own = subst (λ (r : Reading A). Moves true r l.own) e l.moves in
    omega (arith, ap length l.same, length-append l.own (l.z ∷ l.rest), ap length stop, some)

-- A reader of so many rounds at most, each of which goes on with fewer tokens.
module _ {S A : Type 0} (turns : S → ℕ → List Token → Reading A) (body : (S → List Token → Reading A) → S → List Token → Reading A)
    (turn : (s : S) (n : ℕ) (t : List Token) → turns s (suc n) t ≡ body (λ s' t'. turns s' n t') s t)
    (goes_by_less : (f g : S → List Token → Reading A) (s : S) (t : List Token) → IsText t → ((s' : S) (t' : List Token) → IsText t' → length t' < length t → f s' t' ≡ g s' t') → body f s t ≡ body g s t) where
  enough : (n m : ℕ) (s : S) (t : List Token) → IsText t → length t ≤ n → length t ≤ m → turns s n t ≡ turns s m t
  enough n m s [] h k l = absurd h
  enough zero m s (z ∷ t) h k l = absurd (omega arith)
  enough (suc n) zero s (z ∷ t) h k l = absurd (omega arith)
  enough (suc n) (suc m) s (z ∷ t) h k l =
      turn s n (z ∷ t)
      ∙ goes_by_less (λ s' t'. turns s' n t') (λ s' t'. turns s' m t') s (z ∷ t) h (λ s' t' h' less. enough n m s' t' h' (omega (arith, less)) (omega (arith, less)))
      ∙ sym (turn s m (z ∷ t))

  abbrev all_turns : S → List Token → Reading A
  all_turns s t = turns s (length t) t

  turns_on : (s : S) (t : List Token) → IsText t → all_turns s t ≡ body all_turns s t
  turns_on s [] h = absurd h
  turns_on s (z ∷ t) h =
      turn s (length t) (z ∷ t)
      ∙ goes_by_less (λ s' t'. turns s' (length t) t') all_turns s (z ∷ t) h (λ s' t' h' less. enough (length t) (length t') s' t' h' (omega (arith, less)) (omega arith))

  module _ {some : Bool} (is_local : (f : S → List Token → Reading A) (s : S) (t : List Token) → IsText t → ((s' : S) (t' : List Token) → IsText t' → length t' < length t → Local false (f s') t') → Local some (body f s) t)
      (less_asked : (s : S) (t : List Token) → Local some (all_turns s) t → Local false (all_turns s) t) where
    within : (k : ℕ) (s : S) (t : List Token) → IsText t → length t ≤ k → Local some (all_turns s) t
    within zero s [] h l = absurd h
    within zero s (z ∷ t) h l = absurd (omega arith)
    within (suc k) s t h l =
        let inner : Local some (body all_turns s) t = is_local all_turns s t h (λ s' t' h' less. less_asked s' t' (within k s' t' h' (omega (arith, less, l)))) in
        same_as (all_turns s) (body all_turns s) t inner (turns_on s t h) (λ other q. turns_on s (inner.own ++ (inner.z ∷ other)) (text_again inner.own inner.z inner.rest other (subst IsText inner.same h) q))

    pub turns_local : (s : S) (t : List Token) → IsText t → Local some (λ x. turns s (length x) x) t
    turns_local s t h = within (length t) s t h (omega arith)

-- less may be asked
pub weaker : {A : Type 0} {some : Bool} (f : List Token → Reading A) (t : List Token) → Local true f t → Local some f t
weaker {A} {some} f t l = record { own = l.own; z = l.z; rest = l.rest; same = l.same; text = l.text; stops = l.stops; moves = by some (f t) l.moves; again = l.again }
  where
    by : (some : Bool) (r : Reading A) → Moves true r l.own → Moves some r l.own
    by true r m = m
    by false r m = tt

pub weak : {A : Type 0} (some : Bool) (f : List Token → Reading A) (t : List Token) → Local some f t → Local false f t
weak some f t l = record { own = l.own; z = l.z; rest = l.rest; same = l.same; text = l.text; stops = l.stops; moves = tt; again = l.again }
