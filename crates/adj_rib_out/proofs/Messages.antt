-- What the rule of a message gives.
use Rattle.std.proofs.Common.{◌≡◌, ℕ, ◌+◌, ◌≤◌, nat_lt, nat_le, Bool, true, false, cond, ◌&&◌, ◌||◌, if◌then◌else◌, List, [], ◌∷◌, Option, Some, None, is_some, refl, ◌∙◌, arith, subst}
use Rattle.std.specs.Prelude.{find, fold, option_map, length}
use Rattle.std.specs.List.{AllByRecursion, list_any}
use Rattle.std.proofs.lemmas.Bool.{ltb-true, ltb-false, leb-true}
use Rattle.net_base.specs.declared.addr.Family.{Family}
use Rattle.net_base.specs.declared.addr.Family.TheVariants.{V4, V6}
use Rattle.bgp_wire.specs.declared.open.Encoding.{Encoding}
use Rattle.attr_model.specs.Numbered.{Numbered}
use Rattle.attr_codec.specs.Size.{attribute_size, nlri_size, capped}
use Rattle.attr_codec.specs.Prefixes.{prefixes_bytes}
use Rattle.adj_rib_out.specs.declared.look.Look.{Look}
use Rattle.adj_rib_out.specs.Rows.{one_or_none}
use Rattle.adj_rib_out.specs.Out.{Out}
use Rattle.adj_rib_out.specs.Message.{Message, has_news, joined, with_prefix, with_look, begun, told_size, message_size, message_of, built_as, built_of, prefixes_of, wanted_of, FitsAlone}
use Rattle.adj_rib_out.specs.Looks.{wanted_in, used_by}
use Rattle.net_base.specs.Order.{same_family}
use Rattle.adj_rib_out.specs.Same.{same_number}
use Rattle.adj_rib_out.specs.Tells.{FitsIn}
use Rattle.adj_rib_out.proofs.Settling.{and_right}
use Rattle.adj_rib_out.proofs.Kept.{all-front, all-back}

-- ---- more prefixes, more bytes

attribute_more : (n m : ℕ) → n ≤ m → attribute_size n ≤ attribute_size m
attribute_more n m le = go (nat_lt 255 n) refl (nat_lt 255 m) refl
  where
    go : (a : Bool) → nat_lt 255 n ≡ a → (b : Bool) → nat_lt 255 m ≡ b → cond a (4 + n) (3 + n) ≤ cond b (4 + m) (3 + m)
    go true e true f = omega (arith, le)
    go true e false f = omega (arith, le, ltb-true _ _ e, ltb-false _ _ f)
    go false e true f = omega (arith, le)
    go false e false f = omega (arith, le)

nlri_more : (family : Family) (n m : ℕ) → n ≤ m → nlri_size family n ≤ nlri_size family m
nlri_more V4 n m le = le
nlri_more V6 n m le = attribute_more (21 + n) (21 + m) (omega (arith, le))

told_more : (enc : Encoding) (family : Family) (wanted : Option Numbered) (n m : ℕ) → n ≤ m → told_size enc family wanted n ≤ told_size enc family wanted m
told_more enc V4 None n m le = omega (arith, le)
told_more enc V6 None n m le = omega (arith, attribute_more (3 + n) (3 + m) (omega (arith, le)))
told_more enc V4 (Some one) n m le = omega (arith, nlri_more one.attrs.hop.family n m le)
told_more enc V6 (Some one) n m le = omega (arith, nlri_more one.attrs.hop.family n m le)

begun_fits : (enc : Encoding) (look : Look) → FitsAlone enc look → message_size (begun enc look) ≤ 4096
begun_fits enc look alone = omega (arith, alone, told_more enc look.prefix.family look.wanted 0 (length (prefixes_bytes (look.prefix ∷ []))) (omega arith))

-- ---- the start

pub start_fits : (test : Look → Bool) (enc : Encoding) (looks : List Look) → AllByRecursion (FitsAlone enc) looks → FitsIn (option_map (begun enc) (find test looks))
start_fits test enc [] alone = tt
start_fits test enc (look ∷ rest) alone = go (start_fits test enc rest alone.1) (test look)
  where
    go : FitsIn (option_map (begun enc) (find test rest)) → (b : Bool) → FitsIn (option_map (begun enc) (cond b (Some look) (find test rest)))
    go later true = begun_fits enc look alone.0
    go later false = later

pub start_none : (enc : Encoding) (o : Option Look) → prefixes_of (option_map (begun enc) o) ≡ []
start_none enc None = refl
start_none enc (Some look) = refl

pub start_wanted : (P : Numbered → Type 0) (test : Look → Bool) (enc : Encoding) (looks : List Look) → AllByRecursion P (wanted_in looks) → AllByRecursion P (one_or_none (wanted_of (option_map (begun enc) (find test looks))))
start_wanted P test enc [] all = tt
start_wanted P test enc (look ∷ rest) all = go (start_wanted P test enc rest (all-back P (one_or_none look.wanted) (wanted_in rest) all)) (test look)
  where
    go : AllByRecursion P (one_or_none (wanted_of (option_map (begun enc) (find test rest)))) → (b : Bool) → AllByRecursion P (one_or_none (wanted_of (option_map (begun enc) (cond b (Some look) (find test rest)))))
    go later true = all-front P (one_or_none look.wanted) (wanted_in rest) all
    go later false = later

pub first_wanted : (P : Numbered → Type 0) (test : Look → Bool) (looks : List Look) (look : Look) → find test looks ≡ Some look → AllByRecursion P (wanted_in looks) → AllByRecursion P (one_or_none look.wanted)
first_wanted P test [] look is all = absurd (none is)
  where
    none : None ≡ Some look → ⊥
    none e = cc
first_wanted P test (first ∷ rest) look is all = go (λ e. first_wanted P test rest look e (all-back P (one_or_none first.wanted) (wanted_in rest) all)) (test first) is
  where
    one : (x y : Look) → Some x ≡ Some y → x ≡ y
    one x y e = cc

    go : (find test rest ≡ Some look → AllByRecursion P (one_or_none look.wanted)) → (b : Bool) → cond b (Some first) (find test rest) ≡ Some look → AllByRecursion P (one_or_none look.wanted)
    go later true e = subst (λ (look : Look). AllByRecursion P (one_or_none look.wanted)) (one first look e) (all-front P (one_or_none first.wanted) (wanted_in rest) all)
    go later false e = later e

-- ---- a message comes where some look has news

some_after : (old : Out) (message : Option Message) (look : Look) → is_some (with_look old message look) ≡ is_some message
some_after old message look = go (has_news old look && joined message look) message
  where
    go : (b : Bool) (message : Option Message) → is_some (if b then option_map (with_prefix look.prefix) message else message) ≡ is_some message
    go true None = refl
    go true (Some m) = refl
    go false message = refl

some_fold : (old : Out) (message : Option Message) (looks : List Look) → is_some (fold (with_look old) message looks) ≡ is_some message
some_fold old message [] = refl
some_fold old message (look ∷ rest) = some_fold old (with_look old message look) rest ∙ some_after old message look

some_found : (test : Look → Bool) (looks : List Look) → is_some (find test looks) ≡ list_any test looks
some_found test [] = refl
some_found test (look ∷ rest) = go (some_found test rest) (test look)
  where
    go : is_some (find test rest) ≡ list_any test rest → (b : Bool) → is_some (cond b (Some look) (find test rest)) ≡ (b || list_any test rest)
    go later true = refl
    go later false = later

some_mapped : {A B : Type 0} (f : A → B) (o : Option A) → is_some (option_map f o) ≡ is_some o
some_mapped f None = refl
some_mapped f (Some x) = refl

pub built_where_news : (enc : Encoding) (old : Out) (looks : List Look) → is_some (option_map built_of (message_of enc old looks)) ≡ list_any (has_news old) looks
built_where_news enc old looks =
    some_mapped built_of (message_of enc old looks) ∙ some_fold old (option_map (begun enc) (find (has_news old) looks)) looks
    ∙ some_mapped (begun enc) (find (has_news old) looks) ∙ some_found (has_news old) looks

-- what is wanted stays as it is fixed
wanted_after : (old : Out) (message : Option Message) (look : Look) → wanted_of (with_look old message look) ≡ wanted_of message
wanted_after old message look = go (has_news old look && joined message look) message
  where
    go : (b : Bool) (message : Option Message) → wanted_of (if b then option_map (with_prefix look.prefix) message else message) ≡ wanted_of message
    go true None = refl
    go true (Some m) = refl
    go false message = refl

pub wanted_fold : (old : Out) (message : Option Message) (looks : List Look) → wanted_of (fold (with_look old) message looks) ≡ wanted_of message
wanted_fold old message [] = refl
wanted_fold old message (look ∷ rest) = wanted_fold old (with_look old message look) rest ∙ wanted_after old message look

-- the reference in what was built
pub used_is : (message : Option Message) → used_by (option_map built_of message) ≡ one_or_none (wanted_of message)
used_is None = refl
used_is (Some message) = go message.wanted
  where
    go : (wanted : Option Numbered) → used_by (Some (built_as wanted message.prefixes)) ≡ one_or_none wanted
    go None = refl
    go (Some one) = refl

pub capped_is : (n : ℕ) → n ≤ 4096 → capped n ≡ n
capped_is n le = omega (arith, le)

-- ---- the message fits

fits_after : (old : Out) (message : Option Message) (look : Look) → FitsIn message → FitsIn (with_look old message look)
fits_after old message look fits = go (has_news old look) (joined message look) refl
  where
    go : (a b : Bool) → joined message look ≡ b → FitsIn (if a && b then option_map (with_prefix look.prefix) message else message)
    go true true e = taken message e
      where
        taken : (message : Option Message) → joined message look ≡ true → FitsIn (option_map (with_prefix look.prefix) message)
        taken None e = tt
        taken (Some m) e = leb-true _ _ (and_right (same_family m.family look.prefix.family && same_number m.wanted look.wanted) (nat_le (message_size (with_prefix look.prefix m)) 4096) e)
    go true false e = fits
    go false b e = fits

fits_fold : (old : Out) (message : Option Message) (looks : List Look) → FitsIn message → FitsIn (fold (with_look old) message looks)
fits_fold old message [] fits = fits
fits_fold old message (look ∷ rest) fits = fits_fold old (with_look old message look) rest (fits_after old message look fits)

pub message_fits : (enc : Encoding) (old : Out) (looks : List Look) → AllByRecursion (FitsAlone enc) looks → FitsIn (message_of enc old looks)
message_fits enc old looks alone = fits_fold old (option_map (begun enc) (find (has_news old) looks)) looks (start_fits (has_news old) enc looks alone)
