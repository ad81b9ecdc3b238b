-- Attributes with unequal hashes are unequal.
use Rattle.std.proofs.Common.{◌≡◌, ◌≢◌, ℕ, ◌==◌, false, sym, ap, ◌∙◌}
use Rattle.std.proofs.lemmas.Bool.{false_from_ne_true, eqb-true}
use Rattle.attr_model.specs.declared.attrs.Attrs.{Attrs}
use Rattle.attr_model.specs.contracts.attrs.AttrsPartialEq.TheImpl.{eq-value as attrs_eq}
use Rattle.attr_model.proofs.SameAttrs.{attrs_eq-Decides}
use Rattle.attr_intern.specs.Hashed.{hash_of}

pub differ_by_hash : (a b : Attrs) → hash_of a ≢ hash_of b → attrs_eq.it a b ≡ false
differ_by_hash a b differ = false_from_ne_true _ (λ e. differ (ap hash_of ((attrs_eq-Decides a b).0 e)))

-- the test of the hashes, where it fails
pub differ_as_hashes : (a b : Attrs) (m n : ℕ) → m ≡ hash_of a → n ≡ hash_of b → m ≢ n → (m == n) ≡ attrs_eq.it a b
differ_as_hashes a b m n is also differ = false_from_ne_true _ (λ e. differ (eqb-true m n e)) ∙ sym (differ_by_hash a b (λ e. differ (is ∙ e ∙ sym also)))
