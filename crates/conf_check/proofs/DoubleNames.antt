-- A walk over names that keeps a set of those before.
use Rattle.std.proofs.Common.{◌≡◌, ◌∙◌, ℕ, Bool, true, false, cond, not, ◌||◌, List, [], ◌∷◌, ◌++◌, Option, Some, refl, sym, ap}
use Rattle.std.specs.List.{list_any}
use Rattle.std.specs.declared.cmp.Ordering.{Ordering}
use Rattle.std.specs.Ordering.{is_eq, eq_by_cmp}
use Rattle.std.specs.Cmp.{IsTotalOrder, eq_by_cmp_equiv}
use Rattle.std.proofs.lemmas.List.Folds.{list_any-append}
use Rattle.conf_tree.specs.Checks.{double_after}

either : (b x : Bool) → cond b true x ≡ (x || (b || false))
either true true = refl
either true false = refl
either false true = refl
either false false = refl

-- the keys of the set are the names before
abbrev pub SameNames : {K : Type 0} → (K → K → Ordering) → List K → List (ℕ × K) → Type 0
SameNames {K} cmp keys names = (q : K) → list_any (eq_by_cmp cmp q) keys ≡ list_any (λ e. eq_by_cmp cmp q e.1) names

module _ {K : Type 0} (cmp : K → K → Ordering) (yielded rest : List (ℕ × K)) (line : ℕ) (name : K) (keys : List K) where
  pub name_found : (total : Option ℕ) → SameNames cmp keys yielded → double_after (eq_by_cmp cmp) yielded ((line, name) ∷ rest) ≡ total
      → list_any (eq_by_cmp cmp name) keys ≡ true → Some line ≡ total
  name_found total same whole there =
      sym (ap (λ b. cond b (Some line) (double_after (eq_by_cmp cmp) (yielded ++ (line, name) ∷ []) rest)) (sym (same name) ∙ there)) ∙ whole

  pub name_new : (total : Option ℕ) → SameNames cmp keys yielded → double_after (eq_by_cmp cmp) yielded ((line, name) ∷ rest) ≡ total
      → list_any (eq_by_cmp cmp name) keys ≡ false → double_after (eq_by_cmp cmp) (yielded ++ (line, name) ∷ []) rest ≡ total
  name_new total same whole absent =
      sym (ap (λ b. cond b (Some line) (double_after (eq_by_cmp cmp) (yielded ++ (line, name) ∷ []) rest)) (sym (same name) ∙ absent)) ∙ whole

  pub names_more : (o : IsTotalOrder cmp) (more : List K) → SameNames cmp keys yielded
      → ((q : K) → list_any (eq_by_cmp cmp q) more ≡ cond (is_eq (cmp name q)) true (list_any (eq_by_cmp cmp q) keys))
      → SameNames cmp more (yielded ++ (line, name) ∷ [])
  names_more o more same now q =
      now q
      ∙ ap (λ b. cond b true (list_any (eq_by_cmp cmp q) keys)) ((eq_by_cmp_equiv o).symm name q)
      ∙ either (is_eq (cmp q name)) (list_any (eq_by_cmp cmp q) keys)
      ∙ ap (λ b. b || (is_eq (cmp q name) || false)) (same q)
      ∙ sym (list_any-append (λ e. eq_by_cmp cmp q e.1) yielded ((line, name) ∷ []))

pub was_there : (added there : Bool) → added ≡ not there → added ≡ false → there ≡ true
was_there added true e h = refl
was_there added false e h = absurd cc

pub was_absent : (added there : Bool) → added ≡ not there → added ≡ true → there ≡ false
was_absent added true e h = absurd cc
was_absent added false e h = refl
