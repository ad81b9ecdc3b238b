-- The test of covering says what covering is.
use Rattle.std.proofs.Common.{◌≡◌, ◌≢◌, ℕ, ◌-◌, ◌*◌, ◌/◌, ◌%◌, ◌^◌, refl, sym, ap, ◌∙◌, arith, le-leb, eq-eqb, true≢false, nat_eq}
use Rattle.std.proofs.lemmas.Bool.{and_parts, and_from, leb-true}
use Rattle.std.proofs.lemmas.Bool.Decides.{Decides-eqb}
use Rattle.std.proofs.lemmas.Nat.{div-add-mod', shl-shr}
use Rattle.std.specs.Bool.{Decides}
use Rattle.net_base.specs.declared.addr.Family.{Family}
use Rattle.net_base.specs.declared.addr.Family.TheVariants.{V4, V6}
use Rattle.net_base.specs.declared.prefix.Prefix.{Prefix}
use Rattle.net_base.specs.Order.{same_family}
use Rattle.net_base.specs.Prefix.{Covers, covers}

different : V4 ≢ V6
different e = cc

pub same_family_Decides : (f g : Family) → Decides (same_family f g) (f ≡ g)
same_family_Decides V4 V4 = (λ _. refl, λ _. refl)
same_family_Decides V4 V6 = (λ e. absurd (true≢false (sym e)), λ e. absurd (different e))
same_family_Decides V6 V4 = (λ e. absurd (true≢false (sym e)), λ e. absurd (different (sym e)))
same_family_Decides V6 V6 = (λ _. refl, λ _. refl)

pub covers_Decides : (p q : Prefix) → Decides (covers p q) (Covers p q)
unfolding covers
covers_Decides p q = (
  λ e.
      let (front, same) = and_parts _ _ e in
      let (family, len) = and_parts _ _ front in
      record {
        same_family = (same_family_Decides p.family q.family).0 family;
        not_longer = leb-true p.len q.len len;
        same_front = (Decides-eqb _ _).0 same;
      },
  λ h.
      and_from _ _
      (and_from _ _ ((same_family_Decides p.family q.family).1 h.same_family) (le-leb p.len q.len h.not_longer))
      (eq-eqb _ _ h.same_front),
)

-- the first bits are the same where the rest is cleared and the bits are the same
pub same_front_is : (a b k : ℕ) → a % 2 ^ k ≡ 0 → Decides (nat_eq a (b - b % 2 ^ k)) (a / 2 ^ k ≡ b / 2 ^ k)
same_front_is a b k cleared =
    let m = 2 ^ k in
    let a_is : a ≡ a / m * m = omega (arith, div-add-mod' a m) in
    let b_is : b - b % m ≡ b / m * m = omega (arith, div-add-mod' b m) in (
      λ e. sym (shl-shr (a / m) k) ∙ ap (λ n. n / m) (sym a_is ∙ (Decides-eqb a (b - b % m)).0 e ∙ b_is) ∙ shl-shr (b / m) k,
      λ e. eq-eqb a (b - b % m) (a_is ∙ ap (λ n. n * m) e ∙ sym b_is),
    )
