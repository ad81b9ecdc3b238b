-- One row changes, and all others stay.
use Rattle.std.proofs.Common.{◌≡◌, Bool, true, false, cond, not, ◌&&◌, ◌||◌, [], Option, Some, None, is_some, IsSome, refl, sym, ap, ◌∙◌, subst, true≢false}
use Rattle.std.specs.Map.{lookup}
use Rattle.std.specs.BTreeMap.{is_at}
use Rattle.std.proofs.lemmas.Cmp.{eq_by_cmp_equiv}
use Rattle.std.specs.declared.cmp.Ordering.{Ordering}
use Rattle.net_base.specs.declared.prefix.Prefix.{Prefix}
use Rattle.net_base.specs.Order.{prefix_cmp}
use Rattle.net_base.proofs.Order.{prefix_cmp-Equal, prefix_cmp-total}
use Rattle.adj_rib_out.specs.declared.rows.Row.{Row}
use Rattle.adj_rib_out.specs.Rows.{SentRows, is_same, row_at, told_of, one_or_none}
use Rattle.adj_rib_out.proofs.Kept.{f_of}

abbrev pub ByPrefix : Type 0
ByPrefix = Prefix → Prefix → Ordering

-- the row by an order of prefixes
abbrev pub row_by : ByPrefix → SentRows → Prefix → Option Row
row_by cmp rows prefix = lookup (is_at (cmp prefix)) rows

pub same_turned : (p q : Prefix) → is_same p q ≡ is_same q p
same_turned p q = (eq_by_cmp_equiv prefix_cmp-total).symm p q

pub row_is : (cmp : ByPrefix) → cmp ≡ prefix_cmp → (rows : SentRows) (p : Prefix) → row_by cmp rows p ≡ row_at rows p
row_is cmp e rows p = ap (λ (cmp : ByPrefix). row_by cmp rows p) e

-- the row of one prefix is this now
abbrev pub Puts : SentRows → SentRows → Prefix → Option Row → Type 0
Puts old new prefix row = (p : Prefix) → row_at new p ≡ cond (is_same p prefix) row (row_at old p)

pub puts : (cmp : ByPrefix) → cmp ≡ prefix_cmp → (old new : SentRows) (prefix : Prefix) (row : Option Row)
    → ((q : Prefix) → row_by cmp new q ≡ cond (is_at (cmp prefix) q) row (row_by cmp old q)) → Puts old new prefix row
puts cmp e old new prefix row updates p =
    let by_order = subst (λ (cmp : ByPrefix). (q : Prefix) → row_by cmp new q ≡ cond (is_at (cmp prefix) q) row (row_by cmp old q)) e updates in
    by_order p ∙ ap (λ b. cond b row (row_at old p)) (same_turned prefix p)

module _ {X : Type 0} (f : Option Row → X) (old new : SentRows) (prefix : Prefix) (row : Option Row) (changed : Puts old new prefix row) where
  -- what a question on rows gives then
  pub asked : (p : Prefix) → f (row_at new p) ≡ cond (is_same p prefix) (f row) (f (row_at old p))
  asked p = ap f (changed p) ∙ go (is_same p prefix)
    where
      go : (b : Bool) → f (cond b row (row_at old p)) ≡ cond b (f row) (f (row_at old p))
      go true = refl
      go false = refl

  -- where the new row answers as the old one did, nothing changes
  pub unasked : f row ≡ f (row_at old prefix) → (p : Prefix) → f (row_at new p) ≡ f (row_at old p)
  unasked same p = asked p ∙ go (is_same p prefix) refl
    where
      go : (b : Bool) → is_same p prefix ≡ b → cond b (f row) (f (row_at old p)) ≡ f (row_at old p)
      go true e = same ∙ ap (λ q. f (row_at old q)) (sym (prefix_cmp-Equal p prefix e))
      go false e = refl

pub or_is : (b a : Bool) → cond b true a ≡ (b || a)
or_is true a = refl
or_is false a = refl

pub and_is : (b a : Bool) → cond b false a ≡ (not b && a)
and_is true a = refl
and_is false a = refl

pub elsewhere : {X : Type 0} (b : Bool) (x y : X) → b ≡ false → cond b x y ≡ y
elsewhere b x y e = ap (λ b. cond b x y) e

pub found_row : (o : Option Row) (row : Row) → Some row ≡ o → o ≡ Some row
found_row o row e = sym e

pub none_is : {X : Type 0} (o : Option X) → is_some o ≡ false → o ≡ None
none_is None e = refl
none_is (Some x) e = absurd (true≢false e)

pub some_is : {X : Type 0} (x : X) (o : Option X) → Some x ≡ o → IsSome o
some_is x o e = subst (λ o. IsSome o) e refl

pub nothing_kept : (o : Option Row) → told_of o ≡ None → f_of (λ (row : Row). one_or_none row.told) o ≡ []
nothing_kept None none = refl
nothing_kept (Some row) none = ap one_or_none none
