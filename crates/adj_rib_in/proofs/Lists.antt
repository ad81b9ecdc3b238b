-- Each held route has its prefix listed for its session, also behind each change.
use Rattle.std.proofs.Common.{◌≡◌, ◌≢◌, ℕ, ◌==◌, Bool, true, false, cond, not, ◌&&◌, List, Option, Some, None, is_some, refl, sym, ap, ◌∙◌, subst}
use Rattle.std.specs.Prelude.{Result, Ok, Err, OnOk, OnErr}
use Rattle.std.specs.Map.{lookup}
use Rattle.std.proofs.lemmas.Bool.{eqb-true, eqb-false, false_from_ne_true}
use Rattle.net_base.specs.declared.prefix.Prefix.{Prefix}
use Rattle.net_base.specs.PrefixSet.{is_in}
use Rattle.net_base.proofs.Order.{prefix_cmp-Equal}
use Rattle.attr_model.specs.Numbered.{Numbered}
use Rattle.adj_rib_in.specs.declared.row.Entry.{Entry}
use Rattle.adj_rib_in.specs.Row.{attrs_of, put, without}
use Rattle.adj_rib_in.specs.Held.{Held, held_at, is_same, route_at, held_but, routes_of, SetsRow}
use Rattle.adj_rib_in.specs.Listed.{Listed, listed_of, is_listed, ListsAll}
use Rattle.adj_rib_in.proofs.Rows.{without_none}
use Rattle.adj_rib_in.proofs.Routes.{attrs_without, attrs_without_other, attrs_put_other}
use Rattle.adj_rib_in.proofs.Dropped.{lookup_routes}

not_true : false ≡ true → ⊥
not_true e = cc

is_none : (o : Option Numbered) → is_some o ≡ false → o ≡ None
is_none None e = refl
is_none (Some one) e = absurd (not_true (sym e))

other : (s session : ℕ) → (s == session) ≡ false → s ≢ session
other s session e same = eqb-false s session e same

-- the rows stay, and all that is listed stays listed
pub lists_same : (listed now : Listed) (old new : Held) → ListsAll listed old → ((s : ℕ) (p : Prefix) → is_listed listed s p ≡ true → is_listed now s p ≡ true) → ((p : Prefix) → held_at new p ≡ held_at old p) → ListsAll now new
lists_same listed now old new lists stays same s p is = stays s p (lists s p (subst (λ row. is_some (attrs_of s row) ≡ true) (same p) is))

-- a route is put, and listed
pub lists_put : (listed now : Listed) (old new : Held) (prefix : Prefix) (route : Entry) → ListsAll listed old → ((s : ℕ) (p : Prefix) → is_listed listed s p ≡ true → is_listed now s p ≡ true)
    → is_listed now route.session prefix ≡ true → SetsRow old new prefix (put route (held_at old prefix)) → ListsAll now new
lists_put listed now old new prefix route lists stays added sets s p is = go (is_same prefix p) refl (s == route.session) refl
  where
    row_is : (b : Bool) → is_same prefix p ≡ b → is_some (attrs_of s (cond b (put route (held_at old prefix)) (held_at old p))) ≡ true
    row_is b e = subst (λ row. is_some (attrs_of s row) ≡ true) (sets p ∙ ap (λ b. cond b (put route (held_at old prefix)) (held_at old p)) e) is

    go : (b : Bool) → is_same prefix p ≡ b → (d : Bool) → (s == route.session) ≡ d → is_listed now s p ≡ true
    go true e true f = subst (λ p. is_listed now s p ≡ true) (prefix_cmp-Equal prefix p e) (subst (λ s. is_listed now s prefix ≡ true) (sym (eqb-true s route.session f)) added)
    go true e false f =
        subst (λ p. is_listed now s p ≡ true) (prefix_cmp-Equal prefix p e)
        (stays s prefix (lists s prefix (subst (λ o. is_some o ≡ true) (attrs_put_other s route (held_at old prefix) (other s route.session f)) (row_is true e))))
    go false e d f = stays s p (lists s p (row_is false e))

-- a route goes, and is listed no longer
pub lists_less : (listed now : Listed) (old new : Held) (prefix : Prefix) (session : ℕ) → ListsAll listed old
    → ((s : ℕ) (p : Prefix) → is_listed now s p ≡ (not (session == s && is_same prefix p) && is_listed listed s p)) → SetsRow old new prefix (without session (held_at old prefix)) → ListsAll now new
lists_less listed now old new prefix session lists less sets s p is = less s p ∙ go (is_same prefix p) refl (session == s) refl
  where
    row_is : (b : Bool) → is_same prefix p ≡ b → is_some (attrs_of s (cond b (without session (held_at old prefix)) (held_at old p))) ≡ true
    row_is b e = subst (λ row. is_some (attrs_of s row) ≡ true) (sets p ∙ ap (λ b. cond b (without session (held_at old prefix)) (held_at old p)) e) is

    and_false : (d : Bool) → (not (d && false) && is_listed listed s p) ≡ is_listed listed s p
    and_false true = refl
    and_false false = refl

    go : (b : Bool) → is_same prefix p ≡ b → (d : Bool) → (session == s) ≡ d → (not (d && b) && is_listed listed s p) ≡ true
    go true e true f =
        let same = eqb-true session s f in
        absurd (not_true (sym (ap (λ o. is_some o) (attrs_without session (held_at old prefix))) ∙ ap (λ s. is_some (attrs_of s (without session (held_at old prefix)))) same ∙ row_is true e))
    go true e false f =
        let differ : s ≢ session = λ same. eqb-false session s f (sym same) in
        subst (λ p. is_listed listed s p ≡ true) (prefix_cmp-Equal prefix p e)
        (lists s prefix (subst (λ o. is_some o ≡ true) (attrs_without_other s session (held_at old prefix) differ) (row_is true e)))
    go false e d f = and_false d ∙ lists s p (row_is false e)

module _ (listed : Listed) (old new : Held) (session : ℕ) (keys : List Prefix) (lists : ListsAll listed old) (all : keys ≡ listed_of listed session) (rows : (p : Prefix) → held_at new p ≡ held_but session keys (held_at old) p) where
  unlisted : (p : Prefix) → is_in keys p ≡ false → route_at old p session ≡ None
  unlisted p e = is_none (route_at old p session) (false_from_ne_true _ (λ is. not_true (sym e ∙ ap (λ keys. is_in keys p) all ∙ lists session p is)))

  -- the session has no route any more
  pub rows_without : (p : Prefix) → held_at new p ≡ without session (held_at old p)
  rows_without p = rows p ∙ go (is_in keys p) refl
    where
      go : (b : Bool) → is_in keys p ≡ b → cond b (without session (held_at old p)) (held_at old p) ≡ without session (held_at old p)
      go true e = refl
      go false e = sym (without_none session (held_at old p) (unlisted p e))

  -- the list has all that the session held
  pub dropped_all : (p : Prefix) → lookup (is_same p) (routes_of session keys old) ≡ route_at old p session
  dropped_all p = lookup_routes session old p keys ∙ go (is_in keys p) refl
    where
      go : (b : Bool) → is_in keys p ≡ b → cond b (route_at old p session) None ≡ route_at old p session
      go true e = refl
      go false e = sym (unlisted p e)

  pub lists_dropped : (now : Listed) → ((s : ℕ) → s ≢ session → listed_of now s ≡ listed_of listed s) → ListsAll now new
  lists_dropped now others s p is = go (s == session) refl
    where
      there : is_some (attrs_of s (without session (held_at old p))) ≡ true
      there = subst (λ row. is_some (attrs_of s row) ≡ true) (rows_without p) is

      go : (b : Bool) → (s == session) ≡ b → is_listed now s p ≡ true
      go true e =
          absurd (not_true (sym (ap (λ o. is_some o) (attrs_without session (held_at old p))) ∙ ap (λ s. is_some (attrs_of s (without session (held_at old p)))) (sym (eqb-true s session e)) ∙ there))
      go false e =
          ap (λ keys. is_in keys p) (others s (other s session e))
          ∙ lists s p (subst (λ o. is_some o ≡ true) (attrs_without_other s session (held_at old p) (other s session e)) there)

pub either : {X E P Q R : Type 0} (r : Result X E) → (P → R) → (Q → R) → OnOk r P → OnErr r Q → R
either (Ok x) f g p q = f p
either (Err e) f g p q = g q
