-- Items that are taken one by one.
use Rattle.std.proofs.Common.{◌≡◌, ◌∙◌, ℕ, suc, ◌+◌, ◌-◌, ◌<◌, ◌≤◌, List, [], ◌∷◌, ◌++◌, Option, Some, None, Result, Ok, Err, refl, ap, sym, arith, append_assoc, append-nil}
use Rattle.std.specs.Prelude.{option_and_then}
use Rattle.std.specs.Prelude.{IsErrAnd}
use Rattle.frame_codec.specs.declared.fault.FrameFault.{FrameFault}
use Rattle.frame_codec.specs.declared.fault.FrameFault.TheVariants.{BadFrame, NoMemory}
use Rattle.frame_codec.specs.Fields.{items_at, ReadsField}

-- some items, and those that the rest gives
abbrev pub behind : {X : Type 0} → List X → Option (List X × List ℕ) → Option (List X × List ℕ)
behind done None = None
behind done (Some x) = Some (done ++ x.0, x.1)

behind_more : {X : Type 0} (done : List X) (x : X) (o : Option (List X × List ℕ)) → behind done (behind (x ∷ []) o) ≡ behind (done ++ x ∷ []) o
behind_more done x None = refl
behind_more done x (Some y) = ap (λ (z : List _). Some (z, y.1)) (sym (append_assoc done (x ∷ []) y.0))

one_more : {X : Type 0} (x : X) (o : Option (List X × List ℕ)) → option_and_then (λ others. Some (x ∷ others.0, others.1)) o ≡ behind (x ∷ []) o
one_more x None = refl
one_more x (Some y) = refl

items_more : {X : Type 0} (get : List ℕ → Option (X × List ℕ)) (n : ℕ) (bytes rest : List ℕ) (x : X) → get bytes ≡ Some (x, rest) → items_at get (suc n) bytes ≡ behind (x ∷ []) (items_at get n rest)
unfolding items_at
items_more get n bytes rest x e = rw e (one_more x (items_at get n rest))

-- one item more
pub taken_more : {X : Type 0} (get : List ℕ → Option (X × List ℕ)) (count i : ℕ) (start left rest : List ℕ) (done more : List X) (x : X) → i < count →
    items_at get count start ≡ behind done (items_at get (count - i) left) → get left ≡ Some (x, rest) → more ≡ done ++ x ∷ [] →
    items_at get count start ≡ behind more (items_at get (count - (i + 1)) rest)
taken_more get count i start left rest done more x low h e m =
    let next : count - i ≡ suc (count - (i + 1)) = omega arith in
    h ∙ ap (λ (n : ℕ). behind done (items_at get n left)) next
    ∙ ap (behind done) (items_more get (count - (i + 1)) left rest x e)
    ∙ behind_more done x (items_at get (count - (i + 1)) rest)
    ∙ ap (λ (d : List _). behind d (items_at get (count - (i + 1)) rest)) (sym m)

-- all of them
pub taken_all : {X : Type 0} (get : List ℕ → Option (X × List ℕ)) (count i : ℕ) (start left : List ℕ) (done : List X) → count ≤ i →
    items_at get count start ≡ behind done (items_at get (count - i) left) → items_at get count start ≡ Some (done, left)
unfolding items_at
taken_all get count i start left done low h =
    let none : count - i ≡ 0 = omega arith in
    h ∙ ap (λ (n : ℕ). behind done (items_at get n left)) none ∙ ap (λ (d : List _). Some (d, left)) (append-nil done)

-- an item that can't be taken
pub taken_none : {X : Type 0} (get : List ℕ → Option (X × List ℕ)) (count i : ℕ) (start left : List ℕ) (done : List X) → i < count →
    items_at get count start ≡ behind done (items_at get (count - i) left) → get left ≡ None → items_at get count start ≡ None
unfolding items_at
taken_none get count i start left done low h e =
    let next : count - i ≡ suc (count - (i + 1)) = omega arith in
    h ∙ ap (λ (n : ℕ). behind done (items_at get n left)) next ∙ rw e refl

-- the fault of an item is that of the list
pub taken_fault : {X : Type 0} (get : List ℕ → Option (X × List ℕ)) (count i : ℕ) (start left mid end : List ℕ) (done : List X) (fault : FrameFault) (result : Result (List X) FrameFault) → i < count →
    items_at get count start ≡ behind done (items_at get (count - i) left) → ReadsField {X = X} get left mid (Err fault) → IsErrAnd result (λ f. f ≡ fault) → ReadsField (items_at get count) start end result
taken_fault get count i start left mid end done fault (Ok x) low h e r = absurd r
taken_fault get count i start left mid end done BadFrame (Err BadFrame) low h e r = taken_none get count i start left done low h e
taken_fault get count i start left mid end done NoMemory (Err BadFrame) low h e r = cc
taken_fault get count i start left mid end done fault (Err NoMemory) low h e r = tt
