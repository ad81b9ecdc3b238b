-- Printed communities are read back.
use Rattle.std.proofs.Common.{◌≡◌, ◌∙◌, ℕ, suc, ◌+◌, ◌*◌, ◌/◌, ◌%◌, ◌^◌, ◌<◌, ◌≤◌, Bool, true, false, ◌&&◌, ◌||◌, eqb, List, [], ◌∷◌, ◌++◌, length, take, drop, codes, decimal, Option, Some, None, Ok, option_map, option_and_then, refl, ap, bytes_eq, lit≤, arith}
use Rattle.std.specs.List.{position_or_len, list_all}
use Rattle.std.specs.Char.{is_ascii_alphabetic}
use Rattle.std.proofs.lemmas.Bool.{or_parts}
use Rattle.std.proofs.lemmas.List.Folds.{list_any-append}
use Rattle.net_base.specs.Addr.{has_byte}
use Rattle.conf_tree.specs.declared.token.Token.{Token}
use Rattle.conf_tree.specs.declared.token.TokenKind.TheVariants.{Word}
use Rattle.conf_tree.specs.declared.rule.CommunityPattern.{CommunityPattern}
use Rattle.conf_tree.specs.declared.rule.LargePattern.{LargePattern}
use Rattle.conf_tree.specs.Reading.{text_of}
use Rattle.conf_tree.specs.Names.{is_name_byte, is_name}
use Rattle.conf_tree.specs.Values.{before, past, is_part, part_in, is_pair, is_triple, pattern_of, pair_of, two_parts, triple_of, named_community, unnamed_community_at, or_unnamed, community_at, large_community_at, word_passes, in_range}
use Rattle.conf_tree.specs.Canonical.{part_text, pattern_text, large_pattern_text, community_text}
use Rattle.conf_tree.specs.Readable.{IsPart, IsPattern, IsLargePattern, IsWithin}
use Rattle.std.proofs.lemmas.Bool.Decides.{nat_tests}
use Rattle.conf_tree.proofs.Both.{and_first, and_second}
use Rattle.conf_round.proofs.ReadValues.{token, is_number_decimal, within_decimal, decimal_lacks, differs}

-- ---- texts around a colon

front_step : (b : ℕ) (text rest : List ℕ) → eqb b 58 ≡ false → position_or_len (λ c. eqb c 58) (text ++ (58 ∷ rest)) ≡ length text → position_or_len (λ c. eqb c 58) (b ∷ (text ++ (58 ∷ rest))) ≡ suc (length text)
front_step b text rest e h = rw e (omega (arith, h))

colon_place : (text rest : List ℕ) → has_byte 58 text ≡ false → position_or_len (λ c. eqb c 58) (text ++ (58 ∷ rest)) ≡ length text
colon_place [] rest h = refl
colon_place (b ∷ text) rest h =
    let parts = or_parts (eqb b 58) (has_byte 58 text) h in
    front_step b text rest parts.0 (colon_place text rest parts.1)

take_front : (text rest : List ℕ) → take (length text) (text ++ (58 ∷ rest)) ≡ text
take_front [] rest = refl
take_front (b ∷ text) rest = ap (λ (l : List ℕ). b ∷ l) (take_front text rest)

drop_front : (text rest : List ℕ) → drop (suc (length text)) (text ++ (58 ∷ rest)) ≡ rest
drop_front [] rest = refl
drop_front (b ∷ text) rest = drop_front text rest

pub before_colon : (text rest : List ℕ) → has_byte 58 text ≡ false → before 58 (text ++ (58 ∷ rest)) ≡ text
before_colon text rest h = ap (λ (n : ℕ). take n (text ++ (58 ∷ rest))) (colon_place text rest h) ∙ take_front text rest

pub past_colon : (text rest : List ℕ) → has_byte 58 text ≡ false → past 58 (text ++ (58 ∷ rest)) ≡ rest
past_colon text rest h =
    let next : position_or_len (λ c. eqb c 58) (text ++ (58 ∷ rest)) + 1 ≡ suc (length text) = omega (arith, colon_place text rest h) in
    ap (λ (n : ℕ). drop n (text ++ (58 ∷ rest))) next ∙ drop_front text rest

-- ---- parts

small : (most n : ℕ) → most ≤ 4294967295 → IsWithin 0 most n → n < 2 ^ 64
small most n m w = omega (arith, w.most)

part_lacks : (most : ℕ) (part : Option ℕ) → most ≤ 4294967295 → IsPart most part → has_byte 58 (part_text part) ≡ false
part_lacks most None m h = refl
part_lacks most (Some n) m h = decimal_lacks 58 n (small most n m h) (lit≤ tt)

star_text : has_byte 42 (codes "*") ≡ true
star_text = refl

not_star : (n : ℕ) → n < 2 ^ 64 → bytes_eq (codes "*") (decimal n) ≡ false
not_star n h = differs (codes "*") (decimal n) (λ e. absurd (let f = ap (has_byte 42) e in let g = decimal_lacks 42 n h (lit≤ tt) in cc))

or_true : (b : Bool) → (b || true) ≡ true
or_true true = refl
or_true false = refl

-- `*` stands where it may
abbrev pub MayStand : Bool → Option ℕ → Type 0
MayStand true part = Unit {0}
MayStand false None = ⊥
MayStand false (Some n) = Unit {0}

part_ok : (star : Bool) (most : ℕ) (part : Option ℕ) → most ≤ 4294967295 → IsPart most part → MayStand star part → is_part star (part_text part) ≡ true
part_ok true most None m h c = refl
part_ok false most None m h c = absurd c
part_ok star most (Some n) m h c = rw (is_number_decimal n (small most n m h)) (or_true (star && bytes_eq (codes "*") (decimal n)))

part_value : (most : ℕ) (part : Option ℕ) → most ≤ 4294967295 → IsPart most part → part_in most (part_text part) ≡ Some part
part_value most None m h = refl
part_value most (Some n) m h = rw (not_star n (small most n m h)) (ap (option_map (λ (k : ℕ). Some k)) (within_decimal 0 most n h (omega (arith, m))))

-- ---- texts with a colon are no names

no_colon : (b : ℕ) → is_name_byte b ≡ true → eqb b 58 ≡ false
no_colon b h = grind (arith, nat_tests)

letter_no_colon : (b : ℕ) → is_ascii_alphabetic b ≡ true → eqb b 58 ≡ false
letter_no_colon b h = grind (arith, nat_tests)

or_false : (a b : Bool) → a ≡ false → b ≡ false → (a || b) ≡ false
or_false a b e f = rw (e, f) refl

names_lack : (text : List ℕ) → list_all is_name_byte text ≡ true → has_byte 58 text ≡ false
names_lack [] e = refl
names_lack (b ∷ text) e = or_false (eqb b 58) (has_byte 58 text) (no_colon b (and_first (is_name_byte b) (list_all is_name_byte text) e)) (names_lack text (and_second (is_name_byte b) (list_all is_name_byte text) e))

name_lacks : (text : List ℕ) → is_name text ≡ true → has_byte 58 text ≡ false
unfolding is_name
name_lacks [] e = refl
name_lacks (b ∷ text) e =
    or_false (eqb b 58) (has_byte 58 text) (letter_no_colon b (and_first (is_ascii_alphabetic b) (list_all is_name_byte text) e)) (names_lack text (and_second (is_ascii_alphabetic b) (list_all is_name_byte text) e))

no_name_by : (text : List ℕ) (v : Bool) → is_name text ≡ v → has_byte 58 text ≡ true → is_name text ≡ false
no_name_by text true e h = absurd (let f = name_lacks text e in cc)
no_name_by text false e h = e

no_name : (text : List ℕ) → has_byte 58 text ≡ true → is_name text ≡ false
no_name text h = no_name_by text (is_name text) refl h

pub has_colon : (front rest : List ℕ) → has_byte 58 (front ++ (58 ∷ rest)) ≡ true
has_colon front rest = list_any-append (λ c. eqb c 58) front (58 ∷ rest) ∙ or_true (has_byte 58 front)

pub unlike : (name text : List ℕ) → has_byte 58 name ≡ false → has_byte 58 text ≡ true → bytes_eq name text ≡ false
unlike name text n t = differs name text (λ e. absurd (let f = ap (has_byte 58) e in cc))

unnamed : (text : List ℕ) → has_byte 58 text ≡ true → named_community text ≡ None
unfolding named_community
unnamed text h = rw (unlike (codes "NO_EXPORT") text refl h, unlike (codes "NO_ADVERTISE") text refl h, unlike (codes "NO_EXPORT_SUBCONFED") text refl h) refl

-- ---- two parts

abbrev pub joined_pair : Option ℕ → Option ℕ → List ℕ
joined_pair high low = part_text high ++ (58 ∷ part_text low)

and_true : (a b : Bool) → a ≡ true → b ≡ true → (a && b) ≡ true
and_true a b e f = rw (e, f) refl

pair_ok : (star : Bool) (most : ℕ) (high low : Option ℕ) → most ≤ 4294967295 → IsPart most high → IsPart most low → MayStand star high → MayStand star low → is_pair star (joined_pair high low) ≡ true
unfolding is_pair
pair_ok star most high low m h l ch cl =
    and_true (is_part star (before 58 (joined_pair high low))) (is_part star (past 58 (joined_pair high low)))
    (ap (is_part star) (before_colon (part_text high) (part_text low) (part_lacks most high m h)) ∙ part_ok star most high m h ch)
    (ap (is_part star) (past_colon (part_text high) (part_text low) (part_lacks most high m h)) ∙ part_ok star most low m l cl)

pair_value : (p : CommunityPattern) → IsPattern p → pair_of (joined_pair p.high p.low) ≡ Some p
unfolding pair_of
pair_value p h =
    ap (λ (text : List ℕ). pattern_of (part_in 65535 text) (part_in 65535 (past 58 (joined_pair p.high p.low)))) (before_colon (part_text p.high) (part_text p.low) (part_lacks 65535 p.high (omega arith) h.0))
    ∙ ap (λ (text : List ℕ). pattern_of (part_in 65535 (part_text p.high)) (part_in 65535 text)) (past_colon (part_text p.high) (part_text p.low) (part_lacks 65535 p.high (omega arith) h.0))
    ∙ ap (λ (part : Option (Option ℕ)). pattern_of part (part_in 65535 (part_text p.low))) (part_value 65535 p.high (omega arith) h.0)
    ∙ ap (λ (part : Option (Option ℕ)). pattern_of (Some p.high) part) (part_value 65535 p.low (omega arith) h.1)

pub community_back : (star : Bool) (p : CommunityPattern) (line start end : ℕ) (rest : List Token) → IsPattern p → MayStand star p.high → MayStand star p.low → community_at star (token Word line start end (joined_pair p.high p.low) ∷ rest) ≡ Ok (p, rest)
unfolding community_at unnamed_community_at word_passes text_of
community_back star p line start end rest h ch cl =
    let text : List ℕ = joined_pair p.high p.low in
    let tokens : List Token = token Word line start end text ∷ rest in
    ap (or_unnamed star tokens) (unnamed text (has_colon (part_text p.high) (part_text p.low)))
    ∙ rw (no_name text (has_colon (part_text p.high) (part_text p.low)), pair_ok star 65535 p.high p.low (omega arith) h.0 h.1 ch cl) (ap (in_range tokens) (pair_value p h))

-- ---- three parts

abbrev pub joined_triple : LargePattern → List ℕ
joined_triple p = part_text p.global ++ (58 ∷ joined_pair p.first p.second)

triple_ok : (star : Bool) (p : LargePattern) → IsLargePattern p → MayStand star p.global → MayStand star p.first → MayStand star p.second → is_triple star (joined_triple p) ≡ true
unfolding is_triple
triple_ok star p h cg cf cs =
    and_true (is_part star (before 58 (joined_triple p))) (is_pair star (past 58 (joined_triple p)))
    (ap (is_part star) (before_colon (part_text p.global) (joined_pair p.first p.second) (part_lacks 4294967295 p.global (omega arith) h.0)) ∙ part_ok star 4294967295 p.global (omega arith) h.0 cg)
    (ap (is_pair star) (past_colon (part_text p.global) (joined_pair p.first p.second) (part_lacks 4294967295 p.global (omega arith) h.0)) ∙ pair_ok star 4294967295 p.first p.second (omega arith) h.1 h.2 cf cs)

two_value : (first second : Option ℕ) → IsPart 4294967295 first → IsPart 4294967295 second → two_parts (joined_pair first second) ≡ Some (first, second)
unfolding two_parts
two_value first second f s =
    let text : List ℕ = joined_pair first second in
    ap (λ (l : List ℕ). option_and_then (λ (one : Option ℕ). option_map (λ (two : Option ℕ). (one, two)) (part_in 4294967295 l)) (part_in 4294967295 (before 58 text))) (past_colon (part_text first) (part_text second) (part_lacks 4294967295 first (omega arith) f))
    ∙ ap (λ (l : List ℕ). option_and_then (λ (one : Option ℕ). option_map (λ (two : Option ℕ). (one, two)) (part_in 4294967295 (part_text second))) (part_in 4294967295 l)) (before_colon (part_text first) (part_text second) (part_lacks 4294967295 first (omega arith) f))
    ∙ ap (λ (o : Option (Option ℕ)). option_and_then (λ (one : Option ℕ). option_map (λ (two : Option ℕ). (one, two)) (part_in 4294967295 (part_text second))) o) (part_value 4294967295 first (omega arith) f)
    ∙ ap (option_map (λ (two : Option ℕ). (first, two))) (part_value 4294967295 second (omega arith) s)

abbrev with_global : Option (Option ℕ × Option ℕ) → Option ℕ → Option LargePattern
with_global parts global = option_map (λ (others : Option ℕ × Option ℕ). record { global = global; first = others.0; second = others.1 }) parts

triple_value : (p : LargePattern) → IsLargePattern p → triple_of (joined_triple p) ≡ Some p
unfolding triple_of
triple_value p h =
    let text : List ℕ = joined_triple p in
    ap (λ (l : List ℕ). option_and_then (with_global (two_parts l)) (part_in 4294967295 (before 58 text))) (past_colon (part_text p.global) (joined_pair p.first p.second) (part_lacks 4294967295 p.global (omega arith) h.0))
    ∙ ap (λ (o : Option (Option ℕ × Option ℕ)). option_and_then (with_global o) (part_in 4294967295 (before 58 text))) (two_value p.first p.second h.1 h.2)
    ∙ ap (λ (l : List ℕ). option_and_then (with_global (Some (p.first, p.second))) (part_in 4294967295 l)) (before_colon (part_text p.global) (joined_pair p.first p.second) (part_lacks 4294967295 p.global (omega arith) h.0))
    ∙ ap (option_and_then (with_global (Some (p.first, p.second)))) (part_value 4294967295 p.global (omega arith) h.0)

pub large_back : (star : Bool) (p : LargePattern) (line start end : ℕ) (rest : List Token) → IsLargePattern p → MayStand star p.global → MayStand star p.first → MayStand star p.second → large_community_at star (token Word line start end (joined_triple p) ∷ rest) ≡ Ok (p, rest)
unfolding large_community_at word_passes text_of
large_back star p line start end rest h cg cf cs = rw (triple_ok star p h cg cf cs) (ap (in_range (token Word line start end (joined_triple p) ∷ rest)) (triple_value p h))

-- ---- as they are printed

pub pattern_is_joined : (p : CommunityPattern) → pattern_text p ≡ joined_pair p.high p.low
unfolding pattern_text
pattern_is_joined p = refl

pub large_is_joined : (p : LargePattern) → large_pattern_text p ≡ joined_triple p
unfolding large_pattern_text
large_is_joined p = refl

pub community_is_joined : (n : ℕ) → community_text n ≡ joined_pair (Some (n / 65536)) (Some (n % 65536))
unfolding community_text
community_is_joined n = refl

pub halves : (n : ℕ) → n / 65536 * 2 ^ 16 + n % 65536 ≡ n
halves n = omega arith
