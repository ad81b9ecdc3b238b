-- The routes of a session to some prefixes, taken out one prefix after the other.
use Rattle.std.proofs.Common.{◌≡◌, ℕ, ◌≤◌, Bool, true, false, cond, ◌||◌, List, [], ◌∷◌, ◌++◌, length, Option, Some, None, is_some, filter, refl, sym, ap, subst, ◌∙◌, arith}
use Rattle.std.specs.Prelude.{option_map}
use Rattle.std.specs.List.{All, cons_option}
use Rattle.std.specs.List.Sorted.{IsStrictlySortedBy}
use Rattle.std.specs.Map.{lookup, keys_of}
use Rattle.std.specs.Ordering.{is_eq, eq_by_cmp}
use Rattle.std.specs.declared.cmp.Ordering.{Ordering}
use Rattle.std.specs.declared.cmp.Ordering.TheVariants.{Less}
use Rattle.std.specs.Cmp.{eq_by_cmp_equiv}
use Rattle.std.proofs.lemmas.List.{append_assoc}
use Rattle.std.proofs.lemmas.List.Folds.{list_any_none}
use Rattle.std.proofs.lemmas.List.Kept.{IsStrictlySortedBy-filter}
use Rattle.net_base.specs.declared.prefix.Prefix.{Prefix}
use Rattle.net_base.specs.Order.{prefix_cmp}
use Rattle.net_base.specs.PrefixSet.{is_in}
use Rattle.net_base.proofs.Order.{prefix_cmp-Equal, prefix_cmp-total}
use Rattle.attr_model.specs.Numbered.{Numbered}
use Rattle.adj_rib_in.specs.declared.row.Entry.{Entry}
use Rattle.adj_rib_in.specs.Row.{attrs_of, without}
use Rattle.adj_rib_in.specs.Held.{Held, held_at, is_same, route_at, held_but, routes_of, SetsRow}

-- a prefix is none of those above it
pub above : (order : Prefix → Prefix → Ordering) → order ≡ prefix_cmp → (prefix : Prefix) (rest : List Prefix) → All (λ q. order prefix q ≡ Less) rest → is_in rest prefix ≡ false
above order e prefix rest all =
    let Above : (Prefix → Prefix → Ordering) → Type 0 = λ order. All (λ q. order prefix q ≡ Less) rest in
    let less : Above prefix_cmp = subst Above e all in
    list_any_none (eq_by_cmp prefix_cmp prefix) rest (λ k d lt. ap is_eq (less k d lt))

-- the route of a session in a row, with its prefix
abbrev one_of : ℕ → Prefix → List Entry → Option (Prefix × Numbered)
one_of session prefix row = option_map (λ attrs. (prefix, attrs)) (attrs_of session row)

module _ (session : ℕ) (old new : Held) (prefix : Prefix) where
  pub routes_same : (row : List Entry) → SetsRow old new prefix row → (rest : List Prefix) → is_in rest prefix ≡ false → routes_of session rest new ≡ routes_of session rest old
  routes_same row sets [] none = refl
  routes_same row sets (q ∷ rest) none = go (λ n. routes_same row sets rest n) (is_same prefix q) refl none
    where
      go : (is_in rest prefix ≡ false → routes_of session rest new ≡ routes_of session rest old) → (b : Bool) → is_same prefix q ≡ b → (b || is_in rest prefix) ≡ false → routes_of session (q ∷ rest) new ≡ routes_of session (q ∷ rest) old
      go rec true e n = absurd (yes n)
        where
          yes : true ≡ false → ⊥
          yes e = cc
      go rec false e n =
          let same : held_at new q ≡ held_at old q = sets q ∙ ap (λ b. cond b row (held_at old q)) e in
          ap (λ row. cons_option (one_of session q row) (routes_of session rest new)) same ∙ ap (cons_option (one_of session q (held_at old q))) (rec n)

  pub rows_step : SetsRow old new prefix (without session (held_at old prefix)) → (rest : List Prefix) → is_in rest prefix ≡ false → (p : Prefix) → held_but session rest (held_at new) p ≡ held_but session (prefix ∷ rest) (held_at old) p
  rows_step sets rest none p = go (is_same prefix p) refl
    where
      turned : (b : Bool) → is_same prefix p ≡ b → eq_by_cmp prefix_cmp p prefix ≡ b
      turned b e = sym ((eq_by_cmp_equiv prefix_cmp-total).symm prefix p) ∙ e

      right : (b : Bool) → is_same prefix p ≡ b → held_but session (prefix ∷ rest) (held_at old) p ≡ cond (b || is_in rest p) (without session (held_at old p)) (held_at old p)
      right b e = ap (λ b. cond (b || is_in rest p) (without session (held_at old p)) (held_at old p)) (turned b e)

      now : (b : Bool) → is_same prefix p ≡ b → held_at new p ≡ cond b (without session (held_at old prefix)) (held_at old p)
      now b e = sets p ∙ ap (λ b. cond b (without session (held_at old prefix)) (held_at old p)) e

      go : (b : Bool) → is_same prefix p ≡ b → held_but session rest (held_at new) p ≡ held_but session (prefix ∷ rest) (held_at old) p
      go true e =
          let is = prefix_cmp-Equal prefix p e in
          ap (λ b. cond b (without session (held_at new p)) (held_at new p)) (ap (is_in rest) (sym is) ∙ none) ∙ now true e ∙ ap (λ q. without session (held_at old q)) is ∙ sym (right true e)
      go false e = ap (λ row. cond (is_in rest p) (without session row) row) (now false e) ∙ sym (right false e)

module _ (session : ℕ) (held : Held) where
  -- each prefix has its route in the list
  pub lookup_routes : (q : Prefix) (keys : List Prefix) → lookup (is_same q) (routes_of session keys held) ≡ cond (is_in keys q) (route_at held q session) None
  lookup_routes q [] = refl
  lookup_routes q (key ∷ rest) = go (lookup_routes q rest) (route_at held key session) refl (is_same q key) refl
    where
      both : (b : Bool) (o : Option Numbered) → cond b o o ≡ o
      both true o = refl
      both false o = refl

      go : lookup (is_same q) (routes_of session rest held) ≡ cond (is_in rest q) (route_at held q session) None → (o : Option Numbered) → route_at held key session ≡ o → (b : Bool) → is_same q key ≡ b
          → lookup (is_same q) (cons_option (option_map (λ attrs. (key, attrs)) o) (routes_of session rest held)) ≡ cond (b || is_in rest q) (route_at held q session) None
      go rec None e true f =
          let none : route_at held q session ≡ None = ap (λ p. route_at held p session) (prefix_cmp-Equal q key f) ∙ e in
          rec ∙ ap (λ r. cond (is_in rest q) r None) none ∙ both (is_in rest q) None ∙ sym none
      go rec None e false f = rec
      go rec (Some attrs) e true f =
          ap (λ b. cond b (Some attrs) (lookup (is_same q) (routes_of session rest held))) f ∙ sym (ap (λ p. route_at held p session) (prefix_cmp-Equal q key f) ∙ e)
      go rec (Some attrs) e false f = ap (λ b. cond b (Some attrs) (lookup (is_same q) (routes_of session rest held))) f ∙ rec

  keys_routes : (keys : List Prefix) → keys_of (routes_of session keys held) ≡ filter (λ p. is_some (route_at held p session)) keys
  keys_routes [] = refl
  keys_routes (key ∷ rest) = go (keys_routes rest) (route_at held key session)
    where
      go : keys_of (routes_of session rest held) ≡ filter (λ p. is_some (route_at held p session)) rest → (o : Option Numbered)
          → keys_of (cons_option (option_map (λ attrs. (key, attrs)) o) (routes_of session rest held)) ≡ cond (is_some o) (key ∷ filter (λ p. is_some (route_at held p session)) rest) (filter (λ p. is_some (route_at held p session)) rest)
      go rec None = rec
      go rec (Some attrs) = ap (λ keys. key ∷ keys) rec

  pub routes_sorted : (keys : List Prefix) → IsStrictlySortedBy prefix_cmp keys → IsStrictlySortedBy prefix_cmp (keys_of (routes_of session keys held))
  routes_sorted keys sorted = subst (IsStrictlySortedBy prefix_cmp) (sym (keys_routes keys)) (IsStrictlySortedBy-filter prefix_cmp (λ p. is_some (route_at held p session)) keys sorted)

-- the route of a session to one prefix, or none
pub one_less : (session : ℕ) (held : Held) (prefix : Prefix) → length (routes_of session (prefix ∷ []) held) ≤ 1
one_less session held prefix = go (route_at held prefix session)
  where
    taken : Option Numbered → List (Prefix × Numbered)
    taken o = cons_option (option_map (λ attrs. (prefix, attrs)) o) []

    go : (o : Option Numbered) → length (taken o) ≤ 1
    go None = omega arith
    go (Some attrs) = omega arith

pub one_more : (session : ℕ) (old new : Held) (prefix : Prefix) (rest : List Prefix) (done : List (Prefix × Numbered)) → SetsRow old new prefix (without session (held_at old prefix)) → is_in rest prefix ≡ false
    → (done ++ routes_of session (prefix ∷ []) old) ++ routes_of session rest new ≡ done ++ routes_of session (prefix ∷ rest) old
one_more session old new prefix rest done sets none =
    ap (λ routes. (done ++ routes_of session (prefix ∷ []) old) ++ routes) (routes_same session old new prefix (without session (held_at old prefix)) sets rest none) ∙ append_assoc done (routes_of session (prefix ∷ []) old) (routes_of session rest old)
    ∙ ap (λ routes. done ++ routes) (go (route_at old prefix session))
  where
    go : (o : Option Numbered) → cons_option (option_map (λ attrs. (prefix, attrs)) o) [] ++ routes_of session rest old ≡ cons_option (option_map (λ attrs. (prefix, attrs)) o) (routes_of session rest old)
    go None = refl
    go (Some attrs) = refl
