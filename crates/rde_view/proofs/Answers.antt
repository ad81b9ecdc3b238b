-- An address is valid by its own answer.
use Rattle.std.proofs.Common.{◌≡◌, ℕ, ◌==◌, Bool, true, false, cond, ◌&&◌, ◌||◌, List, [], ◌∷◌, Option, Some, None, refl, sym, ap, subst, ◌∙◌, arith}
use Rattle.std.proofs.lemmas.Bool.{eqb-true, eqb-false}
use Rattle.std.specs.List.{AllByRecursion, list_any}
use Rattle.std.specs.List.Sorted.{IsStrictlySortedBy}
use Rattle.std.specs.Map.{lookup, keys_of}
use Rattle.std.specs.Ordering.{is_eq}
use Rattle.std.specs.Ordering.{nat_cmp, ordering_then}
use Rattle.std.specs.Cmp.{unsigned_ties}
use Rattle.std.specs.declared.cmp.Ordering.{Ordering}
use Rattle.std.specs.declared.cmp.Ordering.TheVariants.{Less}
use Rattle.net_base.specs.declared.addr.Family.{Family}
use Rattle.net_base.specs.declared.addr.Family.TheVariants.{V4, V6}
use Rattle.net_base.specs.declared.addr.Addr.{Addr}
use Rattle.net_base.specs.Order.{addr_cmp, family_cmp, same_family}
use Rattle.net_base.proofs.Order.{addr_cmp-Equal}
use Rattle.filter_engine.specs.Conditions.{same_address}
use Rattle.route_world.specs.World.{is_yes}

abbrev answered : Addr → Addr × Option Bool → Bool
answered addr entry = same_address entry.0 addr && is_yes entry.1

abbrev is_yes_if : Option (Option Bool) → Bool
is_yes_if None = false
is_yes_if (Some answer) = is_yes answer

turned : (m n : ℕ) → (m == n) ≡ (n == m)
turned m n = go (m == n) (n == m) refl refl
  where
    go : (b d : Bool) → (m == n) ≡ b → (n == m) ≡ d → (m == n) ≡ (n == m)
    go true true e f = e ∙ sym f
    go false false e f = e ∙ sym f
    go true false e f = absurd (omega (arith, eqb-true _ _ e, eqb-false _ _ f))
    go false true e f = absurd (omega (arith, eqb-false _ _ e, eqb-true _ _ f))

ties : (m n : ℕ) → (m == n) ≡ is_eq (nat_cmp n m)
ties m n = turned m n ∙ unsigned_ties n m

same_parts : (f g : Family) (m n : ℕ) → (same_family f g && (m == n)) ≡ is_eq (ordering_then (family_cmp g f) (nat_cmp n m))
same_parts V4 V4 m n = ties m n
same_parts V4 V6 m n = refl
same_parts V6 V4 m n = refl
same_parts V6 V6 m n = ties m n

same_is : (one other : Addr) → same_address one other ≡ is_eq (addr_cmp other one)
same_is one other = same_parts one.family other.family one.bits other.bits

abbrev Others : Addr → List Addr → Type 0
Others addr keys = AllByRecursion (λ k. is_eq (addr_cmp addr k) ≡ false) keys

none_of : (addr : Addr) (entries : List (Addr × Option Bool)) → Others addr (keys_of entries) → list_any (answered addr) entries ≡ false
none_of addr [] others = refl
none_of addr (e ∷ es) others =
    ap (λ b. (b && is_yes e.1) || list_any (answered addr) es) (same_is e.0 addr ∙ others.0) ∙ none_of addr es others.1

above_are_others : (a : Addr) (keys : List Addr) → AllByRecursion (λ k. addr_cmp a k ≡ Less) keys → Others a keys
above_are_others a [] all = tt
above_are_others a (k ∷ keys) all = (ap is_eq all.0, above_are_others a keys all.1)

or_false : (b c : Bool) → c ≡ false → (b || c) ≡ b
or_false true c e = refl
or_false false c e = e

valid_step : (addr : Addr) (e : Addr × Option Bool) (es : List (Addr × Option Bool)) → AllByRecursion (λ k. addr_cmp e.0 k ≡ Less) (keys_of es)
    → list_any (answered addr) es ≡ is_yes_if (lookup (λ k. is_eq (addr_cmp addr k)) es)
    → (b : Bool) → is_eq (addr_cmp addr e.0) ≡ b
    → list_any (answered addr) (e ∷ es) ≡ is_yes_if (cond (is_eq (addr_cmp addr e.0)) (Some e.1) (lookup (λ k. is_eq (addr_cmp addr k)) es))
valid_step addr e es above rest true q =
    let none = none_of addr es (subst (λ a. Others a (keys_of es)) (sym (addr_cmp-Equal addr e.0 q)) (above_are_others e.0 (keys_of es) above)) in
    ap (λ b. (b && is_yes e.1) || list_any (answered addr) es) (same_is e.0 addr ∙ q)
    ∙ or_false (is_yes e.1) (list_any (answered addr) es) none
    ∙ sym (ap (λ b. is_yes_if (cond b (Some e.1) (lookup (λ k. is_eq (addr_cmp addr k)) es))) q)
valid_step addr e es above rest false q =
    ap (λ b. (b && is_yes e.1) || list_any (answered addr) es) (same_is e.0 addr ∙ q)
    ∙ rest
    ∙ sym (ap (λ b. is_yes_if (cond b (Some e.1) (lookup (λ k. is_eq (addr_cmp addr k)) es))) q)

valid_by_answer : (addr : Addr) (entries : List (Addr × Option Bool)) → IsStrictlySortedBy addr_cmp (keys_of entries)
    → list_any (answered addr) entries ≡ is_yes_if (lookup (λ k. is_eq (addr_cmp addr k)) entries)
unfolding IsStrictlySortedBy
valid_by_answer addr [] sorted = refl
valid_by_answer addr (e ∷ es) sorted = valid_step addr e es sorted.0 (valid_by_answer addr es sorted.1) (is_eq (addr_cmp addr e.0)) refl

abbrev pub ByAddr : Type 0
ByAddr = Addr → Addr → Ordering

-- what is found of an address in a map is its answer
pub valid_from : (cmp : ByAddr) → cmp ≡ addr_cmp → (addr : Addr) (entries all : List (Addr × Option Bool)) → all ≡ entries
    → IsStrictlySortedBy cmp (keys_of all) → (found : Option (Option Bool)) → found ≡ lookup (λ k. is_eq (cmp addr k)) all
    → is_yes_if found ≡ list_any (answered addr) entries
valid_from cmp e addr entries all same sorted found is =
    let ordered = subst (λ (r : ByAddr). IsStrictlySortedBy r (keys_of entries)) e (subst (λ (rows : List (Addr × Option Bool)). IsStrictlySortedBy cmp (keys_of rows)) same sorted) in
    ap is_yes_if is
    ∙ ap (λ (rows : List (Addr × Option Bool)). is_yes_if (lookup (λ k. is_eq (cmp addr k)) rows)) same
    ∙ ap (λ (r : ByAddr). is_yes_if (lookup (λ k. is_eq (r addr k)) entries)) e
    ∙ sym (valid_by_answer addr entries ordered)
