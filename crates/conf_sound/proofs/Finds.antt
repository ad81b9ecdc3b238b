-- What a reading finds is in form, and the tokens that it leaves are those of a text.
use Rattle.std.proofs.Common.{◌≡◌, Bool, true, false, cond, List, [], ◌∷◌, Option, Some, None, Result, Ok, Err, refl}
use Rattle.std.specs.Str.{IsUtf8}
use Rattle.net_base.specs.declared.conf.ConfFault.{ConfFault}
use Rattle.conf_tree.specs.declared.token.Token.{Token}
use Rattle.conf_tree.specs.Faults.{◌>>=◌}
use Rattle.conf_tree.specs.Kinds.{is_quoted}
use Rattle.conf_tree.specs.Reading.{Reading, behind}
use Rattle.conf_tree.specs.Readable.{Each, IfThere, can_be_quoted}

-- the text between quotes holds no quote and no line end, and is UTF-8
pub record IsGood (token : Token) : Type 0 where
  pub inside : is_quoted token.kind ≡ true → can_be_quoted token.text ≡ true
  pub utf8 : is_quoted token.kind ≡ true → IsUtf8 token.text

abbrev pub AreGood : List Token → Type 0
AreGood tokens = Each IsGood tokens

abbrev pub FindsIn : {A : Type 0} → (A → Type 0) → Reading A → Type 0
FindsIn Is (Ok found) = Is found.0 × AreGood found.1
FindsIn Is (Err fault) = Unit {0}

-- a value in form, unless there is a fault
pub record Finds {A : Type 0} (Is : A → Type 0) (r : Reading A) : Type 0 where
  pub found : FindsIn Is r

abbrev pub LeavesIn : Result (List Token) ConfFault → Type 0
LeavesIn (Ok rest) = AreGood rest
LeavesIn (Err fault) = Unit {0}

-- tokens alone, unless there is a fault
pub record Leaves (r : Result (List Token) ConfFault) : Type 0 where
  pub left : LeavesIn r

pub ok : {A : Type 0} {P : A → Type 0} (x : A) (rest : List Token) → P x → AreGood rest → Finds P (Ok (x, rest))
ok x rest p g = record { found = (p, g) }

pub err : {A : Type 0} {P : A → Type 0} (fault : ConfFault) → Finds P (Err fault)
err fault = record { found = tt }

pub rest_ok : (rest : List Token) → AreGood rest → Leaves (Ok rest)
rest_ok rest g = record { left = g }

pub rest_err : (fault : ConfFault) → Leaves (Err fault)
rest_err fault = record { left = tt }

pub bind : {A B : Type 0} {P : A → Type 0} {Q : B → Type 0} (r : Reading A) (f : A × List Token → Reading B) → Finds P r → ((x : A × List Token) → P x.0 → AreGood x.1 → Finds Q (f x)) → Finds Q (r >>= f)
bind (Ok x) f h then = then x h.found.0 h.found.1
bind (Err e) f h then = err e

pub bind_rest : {B : Type 0} {Q : B → Type 0} (r : Result (List Token) ConfFault) (f : List Token → Reading B) → Leaves r → ((rest : List Token) → AreGood rest → Finds Q (f rest)) → Finds Q (r >>= f)
bind_rest (Ok x) f h then = then x h.left
bind_rest (Err e) f h then = err e

pub either : {A : Type 0} {P : A → Type 0} (b : Bool) (x y : Reading A) → (b ≡ true → Finds P x) → (b ≡ false → Finds P y) → Finds P (cond b x y)
either true x y h k = h refl
either false x y h k = k refl

pub either_rest : (b : Bool) (x y : Result (List Token) ConfFault) → Leaves x → Leaves y → Leaves (cond b x y)
either_rest true x y h k = h
either_rest false x y h k = k

pub wider : {A : Type 0} {P Q : A → Type 0} (r : Reading A) → ((x : A) → P x → Q x) → Finds P r → Finds Q r
wider (Ok x) w h = record { found = (w x.0 h.found.0, h.found.1) }
wider (Err e) w h = err e

pub good_behind : (tokens : List Token) → AreGood tokens → AreGood (behind tokens)
good_behind [] g = tt
good_behind (token ∷ tokens) g = g.1

-- a value that is there, if a test holds
pub chosen : {A : Type 0} (P : A → Type 0) (b : Bool) (x y : Option A) → (b ≡ true → IfThere P x) → (b ≡ false → IfThere P y) → IfThere P (cond b x y)
chosen P true x y h k = h refl
chosen P false x y h k = k refl

pub anything : {A : Type 0} (value : Option A) → IfThere (λ (x : A). Unit {0}) value
anything None = tt
anything (Some x) = tt

pub ruleset reading = (either, either_rest, bind, bind_rest, ok, err, rest_ok, rest_err, good_behind)
