-- A verdict says what it leaves of a route.
use Rattle.std.proofs.Common.{◌≡◌, ◌⊎◌, inl, inr, Bool, true, false, Option, Some, None, refl, sym, ap, true≢false, ◌∙◌}
use Rattle.attr_model.specs.declared.attrs.Attrs.{Attrs}
use Rattle.filter_engine.specs.declared.verdict.Hop.{Hop}
use Rattle.filter_engine.specs.declared.verdict.Verdict.{Verdict}
use Rattle.filter_engine.specs.Verdict.{Says}
use Rattle.attr_model.proofs.SameAttrs.{attrs_eq-Decides}
use Rattle.route_world.specs.Import.{left_by}

-- a fact that a test decides holds or doesn't
decided : (test : Bool) (P : Type 0) → (test ≡ true → P) → (P → test ≡ true) → P ⊎ (P → ⊥)
decided true P then back = inl (then refl)
decided false P then back = inr (λ p. absurd (true≢false (sym (back p))))

same_or_not : (one other : Attrs) → (one ≡ other) ⊎ (one ≡ other → ⊥)
same_or_not one other =
    let decides = attrs_eq-Decides one other in
    decided _ (one ≡ other) decides.0 decides.1

pub said_is_left : (route : Attrs) (defined : Option (Attrs × Hop)) (verdict : Verdict) → Says route defined verdict → left_by route verdict ≡ defined
said_is_left route None verdict says = ap (left_by route) says
said_is_left route (Some (attrs, hop)) verdict says =
    elim (same_or_not attrs route) [
      | inl same ↦ ap (left_by route) (says.0 same) ∙ ap (λ a. Some (a, hop)) (sym same)
      | inr other ↦ ap (left_by route) (says.1 other)
    ]
