-- Readers go by the tokens up to where they stop: they give the same, whatever stands behind the token at which they stop.
use Rattle.std.proofs.Common.{◌≡◌, ◌∙◌, inl, inr, ◌≤◌, Bool, true, false, cond, ◌&&◌, List, [], ◌∷◌, ◌++◌, append_assoc, length, length-append, Ok, Err, refl, ap, sym, subst, arith}
use Rattle.std.specs.Prelude.{◌==◌}
use Rattle.net_base.specs.declared.conf.ConfFault.{ConfFault}
use Rattle.net_base.specs.declared.conf.ConfKind.{ConfKind}
use Rattle.net_base.specs.declared.conf.Counted.{Counted}
use Rattle.conf_tree.specs.declared.token.Token.{Token}
use Rattle.conf_tree.specs.declared.token.TokenKind.{TokenKind}
use Rattle.conf_tree.specs.declared.token.TokenKind.TheVariants.{Word, Quoted, Mark, LineEnd}
use Rattle.conf_tree.specs.Faults.{◌>>=◌}
use Rattle.conf_tree.specs.Kinds.{is_line_end}
use Rattle.conf_tree.specs.Reading.{Reading, fails, behind, unless_full}
use Rattle.conf_local.specs.Texts.{IsText}

-- ---- texts

-- a first token that isn't the end, and the text behind it
pub record Begun (t : List Token) : Type 0 where
  pub first : Token
  pub rest : List Token
  pub same : t ≡ first ∷ rest
  pub text : IsText rest

no_line_end : (kind : TokenKind) (place : Bool) → is_line_end kind ≡ false → (is_line_end kind && place) ≡ true → ⊥
no_line_end Word place k e = cc
no_line_end Quoted place k e = cc
no_line_end Mark place k e = cc
no_line_end LineEnd place k e = cc

pub begun : (z : Token) (rest : List Token) → IsText (z ∷ rest) → is_line_end z.kind ≡ false → Begun (z ∷ rest)
begun z rest (inl last) k = absurd (no_line_end z.kind (z.start == z.end) k last.0)
begun z rest (inr on) k = record { first = z; rest = rest; same = refl; text = on.1 }

-- another end of a text
pub text_again : (own : List Token) (z : Token) (rest other : List Token) → IsText (own ++ (z ∷ rest)) → IsText (z ∷ other) → IsText (own ++ (z ∷ other))
text_again [] z rest other h k = k
text_again (x ∷ []) z rest other (inl last) k = absurd (cc)
text_again (x ∷ y ∷ own) z rest other (inl last) k = absurd (cc)
text_again (x ∷ own) z rest other (inr on) k = inr (on.0, text_again own z rest other on.1 k)

-- ---- what a reader does

-- the same outcome, with other tokens behind
abbrev pub replay : {A : Type 0} → Reading A → List Token → Reading A
replay (Ok found) tokens = Ok (found.0, tokens)
replay (Err fault) tokens = Err fault

-- it stops at a token: that is the first of those that are left, or its line is that of the fault
abbrev pub StopsAt : {A : Type 0} → Reading A → Token → List Token → Type 0
StopsAt (Ok found) z rest = found.1 ≡ z ∷ rest
StopsAt (Err fault) z rest = fault.line ≡ z.line

-- where there is no fault, it reads one token at least, if that is asked
abbrev pub Moves : {A : Type 0} → Bool → Reading A → List Token → Type 0
Moves false r own = Unit {0}
Moves true (Ok found) own = 1 ≤ length own
Moves true (Err fault) own = Unit {0}

-- A reader reads its own tokens and looks at one more, and goes by nothing else.
pub record Local {A : Type 0} (some : Bool) (f : List Token → Reading A) (t : List Token) : Type 0 where
  pub own : List Token
  pub z : Token
  pub rest : List Token
  pub same : t ≡ own ++ (z ∷ rest)
  pub text : IsText (z ∷ rest)
  pub stops : StopsAt (f t) z rest
  pub moves : Moves some (f t) own
  pub again : (other : List Token) → IsText (z ∷ other) → f (own ++ (z ∷ other)) ≡ replay (f t) (z ∷ other)

abbrev pub IsLocal : {A : Type 0} → Bool → (List Token → Reading A) → Type 0
IsLocal some f = (t : List Token) → IsText t → Local some f t

-- what is asked of the first token alone
abbrev pub OfFirst : {C : Type 0} → (List Token → C) → Type 0
OfFirst h = (z : Token) (a b : List Token) → h (z ∷ a) ≡ h (z ∷ b)

first_again : {C : Type 0} (h : List Token → C) → OfFirst h → (own : List Token) (z : Token) (rest other : List Token) → h (own ++ (z ∷ other)) ≡ h (own ++ (z ∷ rest))
first_again h o [] z rest other = o z other rest
first_again h o (x ∷ own) z rest other = o x (own ++ (z ∷ other)) (own ++ (z ∷ rest))

-- ---- readers that stop at once

pub stays : {A : Type 0} (v : A) (t : List Token) → IsText t → Local false (λ x. Ok (v, x)) t
stays v [] h = absurd h
stays v (z ∷ rest) h = record { own = []; z = z; rest = rest; same = refl; text = h; stops = refl; moves = tt; again = λ other k. refl }

moves_at_fault : (A : Type 0) (some : Bool) (fault : ConfFault) (own : List Token) → Moves {A = A} some (Err fault) own
moves_at_fault A true fault own = tt
moves_at_fault A false fault own = tt

pub fails_here : {A : Type 0} {some : Bool} (kind : ConfKind) (t : List Token) → IsText t → Local {A = A} some (λ x. fails kind x) t
fails_here kind [] h = absurd h
fails_here {A} {some} kind (z ∷ rest) h = record { own = []; z = z; rest = rest; same = refl; text = h; stops = refl; moves = moves_at_fault A some (record { line = z.line; kind = kind }) []; again = λ other k. refl }

-- ---- behind the first token

pub moves_past : {A : Type 0} (some : Bool) (r : Reading A) (x : Token) (own : List Token) → Moves some r (x ∷ own)
moves_past false r x own = tt
moves_past true (Ok found) x own = omega arith
moves_past true (Err fault) x own = tt

pub past : {A : Type 0} {some : Bool} (g : List Token → Reading A) (t : List Token) → Begun t → IsLocal false g → Local some (λ x. g (behind x)) t
past {A} {some} g t b l = by t b.same
  where
    inner : Local false g b.rest
    inner = l b.rest b.text

    here : Local some (λ x. g (behind x)) (b.first ∷ b.rest)
    here = record {
      own = b.first ∷ inner.own;
      z = inner.z;
      rest = inner.rest;
      same = ap (λ (ts : List Token). b.first ∷ ts) inner.same;
      text = inner.text;
      stops = inner.stops;
      moves = moves_past some (g b.rest) b.first inner.own;
      again = inner.again;
    }

    by : (t : List Token) → t ≡ b.first ∷ b.rest → Local some (λ x. g (behind x)) t
    by t e = subst (λ (ts : List Token). Local some (λ x. g (behind x)) ts) (sym e) here

pub takes : {A : Type 0} {some : Bool} (v : A) (t : List Token) → Begun t → Local some (λ x. Ok (v, behind x)) t
takes v t b = past (λ x. Ok (v, x)) t b (stays v)

-- ---- readers that give the same

-- at a text and at each that has the same tokens up to where it stops
pub same_as : {A : Type 0} {some : Bool} (f g : List Token → Reading A) (t : List Token) (l : Local some g t) → f t ≡ g t → ((other : List Token) → IsText (l.z ∷ other) → f (l.own ++ (l.z ∷ other)) ≡ g (l.own ++ (l.z ∷ other))) → Local some f t
same_as {A} {some} f g t l here there = record {
  own = l.own;
  z = l.z;
  rest = l.rest;
  same = l.same;
  text = l.text;
  stops = subst (λ (r : Reading A). StopsAt r l.z l.rest) (sym here) l.stops;
  moves = subst (λ (r : Reading A). Moves some r l.own) (sym here) l.moves;
  again = λ other k. there other k ∙ l.again other k ∙ ap (λ (r : Reading A). replay r (l.z ∷ other)) (sym here);
}

-- ---- one of two, by the first token

pub one_of : {A : Type 0} {some : Bool} (p : List Token → Bool) (f g : List Token → Reading A) (t : List Token) → OfFirst p → (p t ≡ true → Local some f t) → (p t ≡ false → Local some g t) → Local some (λ x. cond (p x) (f x) (g x)) t
one_of {A} {some} p f g t o first second = by (p t) refl
  where
    either : List Token → Reading A
    either x = cond (p x) (f x) (g x)

    by : (b : Bool) → p t ≡ b → Local some (λ x. cond (p x) (f x) (g x)) t
    by true e =
        let l : Local some f t = first e in
        same_as either f t l (ap (λ (b : Bool). cond b (f t) (g t)) e)
        (λ other k. ap (λ (b : Bool). cond b (f (l.own ++ (l.z ∷ other))) (g (l.own ++ (l.z ∷ other)))) (first_again p o l.own l.z l.rest other ∙ sym (ap p l.same) ∙ e))
    by false e =
        let l : Local some g t = second e in
        same_as either g t l (ap (λ (b : Bool). cond b (f t) (g t)) e)
        (λ other k. ap (λ (b : Bool). cond b (f (l.own ++ (l.z ∷ other))) (g (l.own ++ (l.z ∷ other)))) (first_again p o l.own l.z l.rest other ∙ sym (ap p l.same) ∙ e))

-- ---- a reader that asks something of the first token

pub by_first : {A C : Type 0} {some : Bool} (h : List Token → C) (f : C → List Token → Reading A) (t : List Token) → OfFirst h → ((c : C) → h t ≡ c → Local some (f c) t) → Local some (λ x. f (h x) x) t
by_first {A} {C} {some} h f t o l =
    let inner : Local some (f (h t)) t = l (h t) refl in
    same_as (λ x. f (h x) x) (f (h t)) t inner refl (λ other k. ap (λ (c : C). f c (inner.own ++ (inner.z ∷ other))) (first_again h o inner.own inner.z inner.rest other ∙ sym (ap h inner.same)))

-- ---- one reader after another

abbrev Both : {A B : Type 0} → (List Token → Reading A) → (A × List Token → Reading B) → List Token → Reading B
Both f g x = f x >>= g

moves_on : {A B : Type 0} (some : Bool) (v : A) (left : List Token) (r : Reading B) (own more : List Token) → Moves {A = A} some (Ok (v, left)) own → Moves some r (own ++ more)
moves_on false v left r own more m = tt
moves_on true v left (Ok found) own more m = omega (arith, m, length-append own more)
moves_on true v left (Err fault) own more m = tt

module _ {A B : Type 0} {some : Bool} (f : List Token → Reading A) (g : A × List Token → Reading B) (t : List Token) (first : Local some f t) where
  fault_first : (fault : ConfFault) → f t ≡ Err fault → Local some (Both f g) t
  fault_first fault e =
      let here : Both f g t ≡ Err fault = ap (λ (r : Reading A). r >>= g) e in
      record {
        own = first.own;
        z = first.z;
        rest = first.rest;
        same = first.same;
        text = first.text;
        stops = subst (λ (r : Reading B). StopsAt r first.z first.rest) (sym here) (subst (λ (r : Reading A). StopsAt r first.z first.rest) e first.stops);
        moves = subst (λ (r : Reading B). Moves some r first.own) (sym here) (moves_at_fault B some fault first.own);
        again = λ other k.
            ap (λ (r : Reading A). r >>= g) (first.again other k ∙ ap (λ (r : Reading A). replay r (first.z ∷ other)) e)
            ∙ ap (λ (r : Reading B). replay r (first.z ∷ other)) (sym here);
      }

  -- where the first reader stopped, the second one begins, whatever follows
  met : (v : A) (left : List Token) → f t ≡ Ok (v, left) → (own : List Token) (z : Token) (rest other : List Token) → left ≡ own ++ (z ∷ rest) → IsText (z ∷ other)
      → f (first.own ++ (own ++ (z ∷ other))) ≡ Ok (v, own ++ (z ∷ other))
  met v left e own z rest other same k =
      let stop : left ≡ first.z ∷ first.rest = subst (λ (r : Reading A). StopsAt r first.z first.rest) e first.stops in
      by own (sym stop ∙ same)
    where
      replayed : (more : List Token) → IsText (first.z ∷ more) → f (first.own ++ (first.z ∷ more)) ≡ Ok (v, first.z ∷ more)
      replayed more h = first.again more h ∙ ap (λ (r : Reading A). replay r (first.z ∷ more)) e

      by : (own : List Token) → first.z ∷ first.rest ≡ own ++ (z ∷ rest) → f (first.own ++ (own ++ (z ∷ other))) ≡ Ok (v, own ++ (z ∷ other))
      by [] s =
          let head : first.z ≡ z = cc in
          subst (λ (y : Token). f (first.own ++ (y ∷ other)) ≡ Ok (v, y ∷ other)) head (replayed other (subst (λ (y : Token). IsText (y ∷ other)) (sym head) k))
      by (y ∷ ys) s =
          let head : first.z ≡ y = cc in
          let whole : IsText (y ∷ (ys ++ (z ∷ rest))) = subst IsText s first.text in
          let more : IsText (y ∷ (ys ++ (z ∷ other))) = text_again (y ∷ ys) z rest other whole k in
          subst (λ (w : Token). f (first.own ++ (w ∷ (ys ++ (z ∷ other)))) ≡ Ok (v, w ∷ (ys ++ (z ∷ other)))) head (replayed (ys ++ (z ∷ other)) (subst (λ (w : Token). IsText (w ∷ (ys ++ (z ∷ other)))) (sym head) more))

  value_first : (v : A) (left : List Token) → f t ≡ Ok (v, left) → Local false (λ x. g (v, x)) left → Local some (Both f g) t
  value_first v left e second =
      let here : Both f g t ≡ g (v, left) = ap (λ (r : Reading A). r >>= g) e in
      let stop : left ≡ first.z ∷ first.rest = subst (λ (r : Reading A). StopsAt r first.z first.rest) e first.stops in
      record {
        own = first.own ++ second.own;
        z = second.z;
        rest = second.rest;
        same = first.same ∙ ap (λ (ts : List Token). first.own ++ ts) (sym stop ∙ second.same) ∙ sym (append_assoc first.own second.own (second.z ∷ second.rest));
        text = second.text;
        stops = subst (λ (r : Reading B). StopsAt r second.z second.rest) (sym here) second.stops;
        moves = moves_on some v left (Both f g t) first.own second.own (subst (λ (r : Reading A). Moves some r first.own) e first.moves);
        again = λ other k.
            ap (Both f g) (append_assoc first.own second.own (second.z ∷ other))
            ∙ ap (λ (r : Reading A). r >>= g) (met v left e second.own second.z second.rest other second.same k)
            ∙ second.again other k
            ∙ ap (λ (r : Reading B). replay r (second.z ∷ other)) (sym here);
      }

  -- what the first reader leaves is a text
  pub left_text : (v : A) (left : List Token) → f t ≡ Ok (v, left) → IsText left
  left_text v left e = subst IsText (sym (subst (λ (r : Reading A). StopsAt r first.z first.rest) e first.stops)) first.text

  -- the second reader is asked only for what the first one leaves
  pub then_with : ((v : A) (left : List Token) → f t ≡ Ok (v, left) → IsText left → Local false (λ x. g (v, x)) left) → Local some (λ x. f x >>= g) t
  then_with second = by (f t) refl
    where
      by : (r : Reading A) → f t ≡ r → Local some (λ x. f x >>= g) t
      by (Err fault) e = fault_first fault e
      by (Ok found) e = value_first found.0 found.1 e (second found.0 found.1 e (left_text found.0 found.1 e))

pub then : {A B : Type 0} {some : Bool} (f : List Token → Reading A) (g : A × List Token → Reading B) (t : List Token) → Local some f t → ((v : A) → IsLocal false (λ x. g (v, x))) → Local some (λ x. f x >>= g) t
then f g t first second = then_with f g t first (λ v left e k. second v left k)

-- unless there is no room
pub unless : {A : Type 0} {some : Bool} (f : List Token → Reading A) (full : Bool) (counted : Counted) (t : List Token) → IsText t → Local some f t → Local some (λ x. unless_full full counted x (f x)) t
unfolding unless_full
unless f true counted t h l = fails_here _ t h
unless f false counted t h l = l
