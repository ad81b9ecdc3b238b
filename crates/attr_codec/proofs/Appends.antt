-- Bytes put one behind the other.
use Rattle.std.proofs.Common.{◌≡◌, ◌∙◌, ℕ, ◌≤◌, List, ◌++◌, ◌+◌, ◌<◌, ◌∷◌, [], length, take, get_or, flat_map, sym, ap, subst, arith, append_assoc, append-nil, Result, Ok, Err, length-append}
use Rattle.std.specs.Prelude.{OnErr}
use Rattle.std.specs.List.{AllByRecursion}
use Rattle.std.proofs.Math.Seq.{take-append_seam, take-take}
use Rattle.std.proofs.lemmas.List.{take_more}
use Rattle.std.proofs.lemmas.Grind.{flat_map-append}
use Rattle.bgp_wire.specs.Written.{Keeps}

pub two : (old a b x y : List ℕ) → x ≡ old ++ a → y ≡ x ++ b → y ≡ old ++ (a ++ b)
two old a b x y p q = q ∙ ap (λ (l : List ℕ). l ++ b) p ∙ append_assoc old a b

pub three : (old a b c x y z : List ℕ) → x ≡ old ++ a → y ≡ x ++ b → z ≡ y ++ c → z ≡ old ++ ((a ++ b) ++ c)
three old a b c x y z p q r =
    r ∙ ap (λ (l : List ℕ). l ++ c) (q ∙ ap (λ (l : List ℕ). l ++ b) p) ∙ ap (λ (l : List ℕ). l ++ c) (append_assoc old a b) ∙ append_assoc old (a ++ b) c

-- what begins with something longer begins with the shorter
pub keeps_on : (old mid new x : List ℕ) → mid ≡ old ++ x → Keeps mid new → Keeps old new
keeps_on old mid new x e k =
    let long : length old ≤ length mid = omega (arith, ap length e, length-append old x) in
    sym (take-take (length old) (length mid) new long) ∙ ap (take (length old)) (k ∙ e) ∙ take-append_seam old x

pub on_err : {A E : Type 0} (r : Result A E) (P : Type 0) → P → OnErr r P
on_err (Ok x) P p = tt
on_err (Err e) P p = p

-- one item more behind those that were put
pub bytes_more : {X : Type 0} (f : X → List ℕ) (old out new : List ℕ) (xs : List X) (i : ℕ) (d : X) → i < length xs → out ≡ old ++ flat_map f (take i xs) → new ≡ out ++ f (get_or xs i d) → new ≡ old ++ flat_map f (take (i + 1) xs)
bytes_more f old out new xs i d h before after =
    let all : flat_map f (take (i + 1) xs) ≡ flat_map f (take i xs) ++ f (get_or xs i d) =
    ap (flat_map f) (take_more xs i d h) ∙ flat_map-append f (take i xs) (get_or xs i d ∷ []) ∙ ap (λ (l : List ℕ). flat_map f (take i xs) ++ l) (append-nil (f (get_or xs i d))) in
    after ∙ ap (λ (l : List ℕ). l ++ f (get_or xs i d)) before ∙ append_assoc old (flat_map f (take i xs)) (f (get_or xs i d)) ∙ ap (λ (l : List ℕ). old ++ l) (sym all)

pub all_append : {X : Type 0} (P : X → Type 0) (xs ys : List X) → AllByRecursion P xs → AllByRecursion P ys → AllByRecursion P (xs ++ ys)
all_append P [] ys a b = b
all_append P (x ∷ xs) ys a b = (a.0, all_append P xs ys a.1 b)

pub all_more : {X : Type 0} (P : X → Type 0) (xs : List X) (i : ℕ) (d : X) → i < length xs → AllByRecursion P (take i xs) → P (get_or xs i d) → AllByRecursion P (take (i + 1) xs)
all_more P xs i d h before here = subst (AllByRecursion P) (sym (take_more xs i d h)) (all_append P (take i xs) (get_or xs i d ∷ []) before (here, tt))
