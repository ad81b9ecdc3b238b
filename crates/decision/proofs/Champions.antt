-- The first that none beats, by one walk, and what it says of the others.
use Rattle.std.proofs.Common.{◌≡◌, Bool, true, false, cond, not, inl, inr, List, [], ◌∷◌, Some, None, refl, sym, ap, ◌∙◌}
use Rattle.std.specs.List.{filter, fold, list_any}
use Rattle.decision.specs.Points.{better, champion_of}
use Rattle.decision.proofs.Lists.{In, same_answer, any_true, any_member, filter_on, filter_all}

-- a comparison in one number or in several in a row
pub record IsOrder {X : Type 0} (beats : X → X → Bool) : Type 0 where
  pub asymmetric : (x y : X) → beats x y ≡ true → beats y x ≡ false
  pub comparable : (x y m : X) → beats x y ≡ true → beats x m ≡ false → beats m y ≡ true

module _ {X : Type 0} (beats : X → X → Bool) (order : IsOrder beats) where
  irreflexive_by : (x : X) (b : Bool) → beats x x ≡ b → beats x x ≡ false
  irreflexive_by x true e = order.asymmetric x x e
  irreflexive_by x false e = e

  irreflexive : (x : X) → beats x x ≡ false
  irreflexive x = irreflexive_by x (beats x x) refl

  -- none beats the one that stands, held or among the others
  abbrev Stands : X → X → List X → Type 0
  Stands r h xs = In r (h ∷ xs) × ((d : X) → In d (h ∷ xs) → beats d r ≡ false)

  -- the one that was held and lost doesn't beat the one that stands
  lost_by : (x h r : X) → beats x h ≡ true → beats x r ≡ false → (b : Bool) → beats h r ≡ b → beats h r ≡ false
  lost_by x h r won stands true e = let again = order.comparable h r x e (order.asymmetric x h won) in absurd cc
  lost_by x h r won stands false e = e

  -- nor does one that didn't beat the one that was held
  weak_by : (x h r : X) → beats x h ≡ false → beats h r ≡ false → (b : Bool) → beats x r ≡ b → beats x r ≡ false
  weak_by x h r lost stands true e = let again = order.comparable x r h e lost in absurd cc
  weak_by x h r lost stands false e = e

  taken : (x h r : X) (xs : List X) → beats x h ≡ true → Stands r x xs → (d : X) → In d (h ∷ x ∷ xs) → beats d r ≡ false
  taken x h r xs won stands d (inl same) = ap (λ y. beats y r) same ∙ lost_by x h r won (stands.1 x (inl refl)) (beats h r) refl
  taken x h r xs won stands d (inr within) = stands.1 d within

  kept : (x h r : X) (xs : List X) → beats x h ≡ false → Stands r h xs → (d : X) → In d (h ∷ x ∷ xs) → beats d r ≡ false
  kept x h r xs lost stands d (inl same) = stands.1 d (inl same)
  kept x h r xs lost stands d (inr (inl same)) = ap (λ y. beats y r) same ∙ weak_by x h r lost (stands.1 h (inl refl)) (beats x r) refl
  kept x h r xs lost stands d (inr (inr within)) = stands.1 d (inr within)

  further : (x h r : X) (xs : List X) → In r (h ∷ xs) → In r (h ∷ x ∷ xs)
  further x h r xs (inl same) = inl same
  further x h r xs (inr within) = inr (inr within)

  stands_step : (x h r : X) (xs : List X) → ((y : X) → fold (better beats) (Some y) xs ≡ Some r → Stands r y xs) → (b : Bool) → beats x h ≡ b → fold (better beats) (cond b (Some x) (Some h)) xs ≡ Some r → Stands r h (x ∷ xs)
  stands_step x h r xs rest true won e = let stands = rest x e in (inr stands.0, taken x h r xs won stands)
  stands_step x h r xs rest false lost e = let stands = rest h e in (further x h r xs stands.0, kept x h r xs lost stands)

  stands_from : (h r : X) (xs : List X) → fold (better beats) (Some h) xs ≡ Some r → Stands r h xs
  stands_from h r [] e =
      let same : h ≡ r = cc in
      (inl (sym same), alone same)
    where
      alone : h ≡ r → (d : X) → In d (h ∷ []) → beats d r ≡ false
      alone same d (inl is) = ap (λ y. beats y r) (is ∙ same) ∙ irreflexive r
      alone same d (inr within) = absurd within
  stands_from h r (x ∷ xs) e = stands_step x h r xs (λ y. stands_from y r xs) (beats x h) refl e

  pub champion_stands : (xs : List X) (r : X) → champion_of beats xs ≡ Some r → In r xs × ((d : X) → In d xs → beats d r ≡ false)
  champion_stands [] r e = absurd cc
  champion_stands (x ∷ xs) r e = stands_from x r xs e

  someone_by : (x h : X) (xs : List X) → ((y : X) → fold (better beats) (Some y) xs ≡ None → ⊥) → (b : Bool) → fold (better beats) (cond b (Some x) (Some h)) xs ≡ None → ⊥
  someone_by x h xs rest true e = rest x e
  someone_by x h xs rest false e = rest h e

  someone : (h : X) (xs : List X) → fold (better beats) (Some h) xs ≡ None → ⊥
  someone h [] e = absurd cc
  someone h (x ∷ xs) e = someone_by x h xs (λ y. someone y xs) (beats x h) e

  pub nobody : (xs : List X) → champion_of beats xs ≡ None → (x : X) → In x xs → ⊥
  nobody [] e x within = within
  nobody (y ∷ ys) e x within = someone y ys e

  -- where there is no champion, nobody goes
  pub nobody_goes : (xs : List X) → champion_of beats xs ≡ None → xs ≡ filter (λ c. not (list_any (λ o. beats o c) xs)) xs
  nobody_goes xs none =
      sym (filter_all (λ c. not (list_any (λ o. beats o c) xs)) xs (λ c within. absurd (nobody xs none c within)))

  -- those go that the champion beats
  pub beaten_go : (xs : List X) (r : X) → champion_of beats xs ≡ Some r → filter (λ c. not (beats r c)) xs ≡ filter (λ c. not (list_any (λ o. beats o c) xs)) xs
  beaten_go xs r is =
      let stands = champion_stands xs r is in
      filter_on (λ c. not (beats r c)) (λ c. not (list_any (λ o. beats o c) xs)) xs (λ c within. ap not (same_answer _ _
      (λ e. any_true (λ o. beats o c) r xs stands.0 e)
      (λ e. by_member c stands.1 (any_member (λ o. beats o c) xs e))))
    where
      by_member : (c : X) → ((d : X) → In d xs → beats d r ≡ false) → (o : X) × In o xs × (beats o c ≡ true) → beats r c ≡ true
      by_member c stands m = order.comparable m.0 c r m.2 (stands m.0 m.1)
