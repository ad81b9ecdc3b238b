-- Numbers, addresses, prefixes, names, quoted texts and communities are read in form.
use Rattle.std.proofs.Common.{◌≡◌, ℕ, zero, suc, ◌^◌, ◌<◌, ◌≤◌, Bool, true, false, cond, not, ◌&&◌, ◌||◌, eqb, List, [], ◌∷◌, length, codes, bytes_eq, Option, Some, None, Ok, option_and_then, option_map, refl, inl, inr, arith}
use Rattle.std.specs.Prelude.{nat_le, nat_lt}
use Rattle.std.specs.List.{list_all}
use Rattle.std.specs.Char.{is_ascii_alphabetic}
use Rattle.std.specs.Str.{IsUtf8, IsAscii}
use Rattle.std.proofs.lemmas.Str.{IsUtf8-append, IsUtf8-from_ascii, IsUtf8-nil}
use Rattle.std.proofs.lemmas.Bool.Decides.{nat_tests}
use Rattle.net_base.specs.declared.addr.Family.{Family}
use Rattle.net_base.specs.declared.addr.Family.TheVariants.{V4, V6}
use Rattle.net_base.specs.declared.addr.Addr.{Addr}
use Rattle.net_base.specs.declared.prefix.Prefix.{Prefix}
use Rattle.net_base.specs.declared.conf.ConfKind.TheVariants.{TooMany}
use Rattle.net_base.specs.declared.conf.Counted.TheVariants.{Names}
use Rattle.net_base.specs.Number.{number_of}
use Rattle.net_base.specs.Width.{width_of}
use Rattle.conf_tree.specs.declared.token.Token.{Token}
use Rattle.conf_tree.specs.declared.rule.CommunityPattern.{CommunityPattern}
use Rattle.conf_tree.specs.Faults.{◌>>=◌}
use Rattle.conf_tree.specs.Kinds.{is_quoted}
use Rattle.conf_tree.specs.Names.{is_name_byte, is_name}
use Rattle.conf_tree.specs.Reading.{line_of, behind, text_of, word_of, word_is}
use Rattle.conf_tree.specs.Values.{within, in_range, word_text, before, past, number_at, as_number_at, hold_at, yes_no_at, spelled, address_of, address_at, if_v4, v4_at, prefix_of_word, prefix_at, range, width, bound_at, both_bounds, glued_bounds_at, bounds_at, at_least_at, at_most_at, prefixlen_at, lengths_at, is_quoted_group_name, of_length, if_passes, or_else, most_name_bytes, most_quoted_bytes, name_at, group_name_at, quoted_at, part_in, pattern_of, pair_of, two_parts, triple_of, well_known, named_community, unnamed_community_at, or_unnamed, community_at, large_community_at, number_or_zero, one_community}
use Rattle.conf_tree.specs.Readable.{IfThere, IsName, can_be_quoted, IsQuotedText, IsGroupName, IsWithin, IsHold, IsPart, IsPattern, IsLargePattern, IsLength, IsRange}
use Rattle.conf_tree.proofs.Both.{and_first, and_second}
use Rattle.conf_sound.proofs.Finds.{AreGood, Finds, ok, err, bind, either, wider, good_behind, chosen, anything, reading}

-- ---- numbers

between : (low high n : ℕ) → (nat_le low n && nat_le n high) ≡ true → IsWithin low high n
between low high n e = record { least = grind (arith, nat_tests); most = grind (arith, nat_tests) }

pub within_form : (low high : ℕ) (text : List ℕ) → IfThere (IsWithin low high) (within low high text)
unfolding within
within_form low high text = of_number (number_of text)
  where
    of_number : (found : Option ℕ) → IfThere (IsWithin low high) (option_and_then (λ n. cond (nat_le low n && nat_le n high) (Some n) None) found)
    of_number None = tt
    of_number (Some n) = chosen (IsWithin low high) (nat_le low n && nat_le n high) (Some n) None (λ e. between low high n e) (λ e. tt)

pub in_range_form : {A : Type 0} (P : A → Type 0) (tokens : List Token) (value : Option A) → AreGood tokens → IfThere P value → Finds P (in_range tokens value)
in_range_form P tokens None g h = err _
in_range_form P tokens (Some value) g h = ok _ _ h (good_behind tokens g)

pub number_form : (low high : ℕ) (tokens : List Token) → AreGood tokens → Finds (IsWithin low high) (number_at low high tokens)
unfolding number_at
number_form low high tokens g =
    let value : Finds (IsWithin low high) (in_range tokens (within low high (word_text tokens))) = in_range_form (IsWithin low high) tokens _ g (within_form low high (word_text tokens)) in
    search (reading, value)

pub as_number_form : (low : ℕ) (tokens : List Token) → AreGood tokens → Finds (IsWithin low 4294967295) (as_number_at low tokens)
unfolding as_number_at
as_number_form low tokens g =
    search (reading, number_form low 4294967295 tokens g)

pub hold_form : (tokens : List Token) → AreGood tokens → Finds IsHold (hold_at tokens)
unfolding hold_at
hold_form tokens g =
    either (word_is (codes "0") tokens) (Ok (0, behind tokens)) (number_at 3 65535 tokens) (λ e. ok _ _ (inl refl) (good_behind tokens g)) (λ e. wider _ (λ n w. inr w) (number_form 3 65535 tokens g))

pub yes_no_form : (tokens : List Token) → AreGood tokens → Finds (λ (b : Bool). Unit {0}) (yes_no_at tokens)
unfolding yes_no_at
yes_no_form tokens g =
    search (reading, g, tt)

-- ---- addresses and prefixes

pub spelled_form : {A : Type 0} (P : A → Type 0) (tokens : List Token) (value : Option A) → AreGood tokens → IfThere P value → Finds P (spelled tokens value)
spelled_form P tokens None g h = err _
spelled_form P tokens (Some value) g h = ok _ _ h (good_behind tokens g)

pub address_form : (tokens : List Token) → AreGood tokens → Finds (λ (a : Addr). Unit {0}) (address_at tokens)
unfolding address_at
address_form tokens g = spelled_form _ tokens (address_of tokens) g (anything _)

v4_bits : (family : Family) (bits : ℕ) → bits < 2 ^ width_of family → IfThere (λ n. n ≤ 4294967295) (if_v4 family bits)
v4_bits V4 bits h = omega (arith, h)
v4_bits V6 bits h = tt

pub v4_form : (tokens : List Token) → AreGood tokens → Finds (λ n. n ≤ 4294967295) (v4_at tokens)
unfolding v4_at
v4_form tokens g = spelled_form _ tokens _ g (of_address (address_of tokens))
  where
    of_address : (found : Option Addr) → IfThere (λ n. n ≤ 4294967295) (option_and_then (λ address. if_v4 address.family address.bits) found)
    of_address None = tt
    of_address (Some a) = v4_bits a.family a.bits a.in_family

pub prefix_form : (tokens : List Token) → AreGood tokens → Finds (λ (p : Prefix). Unit {0}) (prefix_at tokens)
unfolding prefix_at
prefix_form tokens g = spelled_form _ tokens (prefix_of_word tokens) g (anything _)

-- ---- the lengths behind a prefix

pub own_length : (p : Prefix) → IsLength p p.len
own_length p = record { least = omega arith; most = p.within }

pub full_length : (p : Prefix) → IsLength p (width_of p.family)
full_length p = record { least = p.within; most = omega arith }

bound_form : (p : Prefix) (tokens : List Token) → AreGood tokens → Finds (IsLength p) (bound_at p tokens)
unfolding bound_at
bound_form p tokens g = number_form p.len (width_of p.family) tokens g

-- a range of this prefix
both_form : (p : Prefix) (low high : Option ℕ) → IfThere (IsLength p) low → IfThere (IsLength p) high → IfThere IsRange (both_bounds p low high)
both_form p None high l h = tt
both_form p (Some low) None l h = tt
both_form p (Some low) (Some high) l h = (l, h)

glued_form : (p : Prefix) (tokens : List Token) → AreGood tokens → Finds IsRange (glued_bounds_at p tokens)
unfolding glued_bounds_at
glued_form p tokens g = in_range_form IsRange tokens _ g (both_form p _ _ (within_form p.len (width p) (before 45 (word_text tokens))) (within_form p.len (width p) (past 45 (word_text tokens))))

bounds_form : (p : Prefix) (tokens : List Token) → AreGood tokens → Finds IsRange (bounds_at p tokens)
unfolding bounds_at
bounds_form p tokens g =
    bind _ _ (bound_form p tokens g)
    (λ low l rest. either (word_is (codes "-") low.1) (bound_at p (behind low.1) >>= λ high. Ok (range p low.0 high.0, high.1)) (Ok (range p low.0 low.0, low.1))
    (λ e. bind _ _ (bound_form p (behind low.1) (good_behind low.1 rest)) (λ high h left. ok _ _ (l, h) left))
    (λ e. ok _ _ (l, l) rest))

at_least_form : (p : Prefix) (tokens : List Token) → AreGood tokens → Finds IsRange (at_least_at p tokens)
unfolding at_least_at
at_least_form p tokens g =
    let both : (low : ℕ) → IsLength p low → IsRange (range p low (width p)) = λ low l. (l, full_length p) in
    search (reading, bound_form p tokens g, both)

at_most_form : (p : Prefix) (tokens : List Token) → AreGood tokens → Finds IsRange (at_most_at p tokens)
unfolding at_most_at
at_most_form p tokens g =
    let both : (high : ℕ) → IsLength p high → IsRange (range p p.len high) = λ high h. (own_length p, h) in
    search (reading, bound_form p tokens g, both)

prefixlen_form : (p : Prefix) (tokens : List Token) → AreGood tokens → Finds IsRange (prefixlen_at p tokens)
unfolding prefixlen_at
prefixlen_form p tokens g =
    search (reading, at_least_form p, at_most_form p, glued_form p, bounds_form p, g) depth 9

pub lengths_form : (p : Prefix) (tokens : List Token) → AreGood tokens → Finds IsRange (lengths_at p tokens)
unfolding lengths_at
lengths_form p tokens g =
    let wide : IsRange (range p p.len (width p)) = (own_length p, full_length p) in
    let own : IsRange (range p p.len p.len) = (own_length p, own_length p) in
    search (reading, wide, own, at_most_form p, prefixlen_form p, g) depth 9

-- ---- names and quoted texts

abbrev IsOf : (List ℕ → Type 0) → ℕ → List ℕ → Type 0
IsOf Is limit text = Is text × (length text ≤ limit)

at_most : (m n : ℕ) → nat_le m n ≡ true → m ≤ n
at_most m n e = grind (arith, nat_tests)

of_length_form : (Is : List ℕ → Type 0) (limit : ℕ) (tokens : List Token) (value : Option (List ℕ)) → AreGood tokens → IfThere Is value → Finds (IsOf Is limit) (of_length limit tokens value)
of_length_form Is limit tokens None g h = err _
of_length_form Is limit tokens (Some text) g h =
    either (nat_le (length text) limit) (Ok (text, behind tokens)) _ (λ e. ok _ _ (h, at_most (length text) limit e) (good_behind tokens g)) (λ e. err (record { line = line_of tokens; kind = TooMany Names }))

if_passes_form : (Is : List ℕ → Type 0) (test : List ℕ → Bool) (value : Option (List ℕ)) → IfThere (λ text. test text ≡ true → Is text) value → IfThere Is (if_passes test value)
if_passes_form Is test None h = tt
if_passes_form Is test (Some text) h = chosen Is (test text) (Some text) None h (λ e. tt)

or_else_form : (Is : List ℕ → Type 0) (a b : Option (List ℕ)) → IfThere Is a → IfThere Is b → IfThere Is (or_else a b)
or_else_form Is None b h k = k
or_else_form Is (Some a) b h k = h

if_there : {A : Type 0} (P Q : A → Type 0) (value : Option A) → ((x : A) → P x → Q x) → IfThere P value → IfThere Q value
if_there P Q None w h = tt
if_there P Q (Some x) w h = w x h

names : (value : Option (List ℕ)) → IfThere (λ text. is_name text ≡ true) (if_passes is_name value)
names value = if_passes_form _ is_name value (if_there _ _ value (λ text u e. e) (anything value))

pub name_form : (tokens : List Token) → AreGood tokens → Finds IsName (name_at tokens)
unfolding name_at
name_form tokens g =
    wider _ (λ text h. record { form = h.0; short = h.1 })
    (of_length_form (λ text. is_name text ≡ true) most_name_bytes tokens (or_else (if_passes is_name (word_of tokens)) (if_passes is_name (text_of is_quoted tokens))) g
    (or_else_form (λ text. is_name text ≡ true) (if_passes is_name (word_of tokens)) (if_passes is_name (text_of is_quoted tokens)) (names (word_of tokens)) (names (text_of is_quoted tokens))))

-- what stands between quotes
abbrev IsInside : List ℕ → Type 0
IsInside text = (can_be_quoted text ≡ true) × IsUtf8 text

inside_form : (tokens : List Token) → AreGood tokens → IfThere IsInside (text_of is_quoted tokens)
unfolding text_of
inside_form [] g = tt
inside_form (token ∷ tokens) g = chosen IsInside (is_quoted token.kind) (Some token.text) None (λ e. (g.0.inside e, g.0.utf8 e)) (λ e. tt)

pub quoted_form : (tokens : List Token) → AreGood tokens → Finds IsQuotedText (quoted_at tokens)
unfolding quoted_at
quoted_form tokens g = wider _ (λ text h. record { inside = h.0.0; utf8 = h.0.1; short = h.1 }) (of_length_form IsInside most_quoted_bytes tokens _ g (inside_form tokens g))

letter_seen : (b : ℕ) → is_ascii_alphabetic b ≡ true → (nat_le 32 b && nat_le b 126) ≡ true
letter_seen b e = grind (arith, nat_tests)

name_byte_seen : (b : ℕ) → is_name_byte b ≡ true → (nat_le 32 b && nat_le b 126) ≡ true
name_byte_seen b e = grind (arith, nat_tests)

letter_inside : (b : ℕ) → is_ascii_alphabetic b ≡ true → not (eqb b 34 || eqb b 10) ≡ true
letter_inside b e = grind (arith, nat_tests)

name_byte_inside : (b : ℕ) → is_name_byte b ≡ true → not (eqb b 34 || eqb b 10) ≡ true
name_byte_inside b e = grind (arith, nat_tests)

both_true : (a b : Bool) → a ≡ true → b ≡ true → (a && b) ≡ true
both_true true b e h = h
both_true false b e h = absurd (cc)

all_seen : (text : List ℕ) → list_all is_name_byte text ≡ true → list_all (λ b. nat_le 32 b && nat_le b 126) text ≡ true
all_seen [] e = refl
all_seen (b ∷ text) e = both_true _ _ (name_byte_seen b (and_first (is_name_byte b) (list_all is_name_byte text) e)) (all_seen text (and_second (is_name_byte b) (list_all is_name_byte text) e))

all_inside : (text : List ℕ) → list_all is_name_byte text ≡ true → can_be_quoted text ≡ true
all_inside [] e = refl
all_inside (b ∷ text) e = both_true _ _ (name_byte_inside b (and_first (is_name_byte b) (list_all is_name_byte text) e)) (all_inside text (and_second (is_name_byte b) (list_all is_name_byte text) e))

ascii_one : (b : ℕ) → b < 128 → IsUtf8 (b ∷ [])
ascii_one b h = IsUtf8-from_ascii (b ∷ []) is_ascii
  where
    is_ascii : IsAscii (b ∷ [])
    is_ascii zero = h
    is_ascii (suc i) = omega arith

seen_small : (b : ℕ) → (nat_le 32 b && nat_le b 126) ≡ true → b < 128
seen_small b e = grind (arith, nat_tests)

pub seen_utf8 : (text : List ℕ) → list_all (λ b. nat_le 32 b && nat_le b 126) text ≡ true → IsUtf8 text
seen_utf8 [] e = IsUtf8-nil
seen_utf8 (b ∷ text) e = IsUtf8-append (b ∷ []) text (ascii_one b (seen_small b (and_first (nat_le 32 b && nat_le b 126) (list_all (λ c. nat_le 32 c && nat_le c 126) text) e)))
    (seen_utf8 text (and_second (nat_le 32 b && nat_le b 126) (list_all (λ c. nat_le 32 c && nat_le c 126) text) e))

abbrev IsGroupText : List ℕ → Type 0
IsGroupText text = (is_quoted_group_name text ≡ true) × (can_be_quoted text ≡ true)

name_is_group : (text : List ℕ) → is_name text ≡ true → IsGroupText text
unfolding is_name is_quoted_group_name
name_is_group [] e = absurd (cc)
name_is_group (b ∷ text) e =
    let here : is_ascii_alphabetic b ≡ true = and_first (is_ascii_alphabetic b) (list_all is_name_byte text) e in
    let there : list_all is_name_byte text ≡ true = and_second (is_ascii_alphabetic b) (list_all is_name_byte text) e in
    (both_true _ _ (grind (arith, nat_tests)) (both_true _ _ (letter_seen b here) (all_seen text there)), both_true _ _ (letter_inside b here) (all_inside text there))

group_utf8 : (text : List ℕ) → is_quoted_group_name text ≡ true → IsUtf8 text
unfolding is_quoted_group_name
group_utf8 text e = seen_utf8 text (and_second (nat_lt 0 (length text)) (list_all (λ b. nat_le 32 b && nat_le b 126) text) e)

pub group_name_form : (tokens : List Token) → AreGood tokens → Finds IsGroupName (group_name_at tokens)
unfolding group_name_at
group_name_form tokens g =
    wider _ (λ text h. record { form = h.0.0; inside = h.0.1; utf8 = group_utf8 text h.0.0; short = h.1 })
    (of_length_form IsGroupText most_name_bytes tokens _ g (or_else_form IsGroupText _ _
    (if_passes_form IsGroupText is_name (word_of tokens) (if_there _ _ (word_of tokens) (λ text u e. name_is_group text e) (anything (word_of tokens))))
    (if_passes_form IsGroupText is_quoted_group_name (text_of is_quoted tokens) (if_there IsInside _ (text_of is_quoted tokens) (λ text h e. (e, h.0)) (inside_form tokens g)))))

-- ---- communities

part_form : (most : ℕ) (text : List ℕ) → IfThere (IsPart most) (part_in most text)
part_form most text = chosen (IsPart most) (bytes_eq (codes "*") text) (Some None) (option_map Some (within 0 most text)) (λ e. tt) (λ e. of_number (within 0 most text) (within_form 0 most text))
  where
    of_number : (value : Option ℕ) → IfThere (IsWithin 0 most) value → IfThere (IsPart most) (option_map Some value)
    of_number None h = tt
    of_number (Some n) h = h

pattern_form : (high low : Option (Option ℕ)) → IfThere (IsPart 65535) high → IfThere (IsPart 65535) low → IfThere IsPattern (pattern_of high low)
pattern_form None low h l = tt
pattern_form (Some high) None h l = tt
pattern_form (Some high) (Some low) h l = (h, l)

pair_form : (text : List ℕ) → IfThere IsPattern (pair_of text)
unfolding pair_of
pair_form text = pattern_form _ _ (part_form 65535 (before 58 text)) (part_form 65535 (past 58 text))

abbrev AreTwo : Option ℕ × Option ℕ → Type 0
AreTwo two = IsPart 4294967295 two.0 × IsPart 4294967295 two.1

two_form : (text : List ℕ) → IfThere AreTwo (two_parts text)
unfolding two_parts
two_form text = both (part_in 4294967295 (before 58 text)) (part_in 4294967295 (past 58 text)) (part_form 4294967295 (before 58 text)) (part_form 4294967295 (past 58 text))
  where
    both : (first second : Option (Option ℕ)) → IfThere (IsPart 4294967295) first → IfThere (IsPart 4294967295) second → IfThere AreTwo (option_and_then (λ f. option_map (λ s. (f, s)) second) first)
    both None second h k = tt
    both (Some first) None h k = tt
    both (Some first) (Some second) h k = (h, k)

triple_form : (text : List ℕ) → IfThere IsLargePattern (triple_of text)
unfolding triple_of
triple_form text = all (part_in 4294967295 (before 58 text)) (two_parts (past 58 text)) (part_form 4294967295 (before 58 text)) (two_form (past 58 text))
  where
    all : (global : Option (Option ℕ)) (others : Option (Option ℕ × Option ℕ)) → IfThere (IsPart 4294967295) global → IfThere AreTwo others
        → IfThere IsLargePattern (option_and_then (λ global. option_map (λ (others : Option ℕ × Option ℕ). record { global = global; first = others.0; second = others.1 }) others) global)
    all None others h k = tt
    all (Some global) None h k = tt
    all (Some global) (Some others) h k = (h, k.0, k.1)

known_form : (low : ℕ) → low ≤ 65535 → IfThere IsPattern (well_known low)
known_form low h = (record { least = omega arith; most = omega arith }, record { least = omega arith; most = h })

named_form : (text : List ℕ) → IfThere IsPattern (named_community text)
unfolding named_community
named_form text =
    chosen IsPattern (bytes_eq (codes "NO_EXPORT") text) (well_known 65281) (cond (bytes_eq (codes "NO_ADVERTISE") text) (well_known 65282) (cond (bytes_eq (codes "NO_EXPORT_SUBCONFED") text) (well_known 65283) None)) (λ e. known_form 65281 (omega arith))
    (λ e. chosen IsPattern (bytes_eq (codes "NO_ADVERTISE") text) (well_known 65282) (cond (bytes_eq (codes "NO_EXPORT_SUBCONFED") text) (well_known 65283) None) (λ e. known_form 65282 (omega arith))
    (λ e. chosen IsPattern (bytes_eq (codes "NO_EXPORT_SUBCONFED") text) (well_known 65283) None (λ e. known_form 65283 (omega arith)) (λ e. tt)))

unnamed_form : (star : Bool) (tokens : List Token) → AreGood tokens → Finds IsPattern (unnamed_community_at star tokens)
unfolding unnamed_community_at
unnamed_form star tokens g =
    let value : Finds IsPattern (in_range tokens (pair_of (word_text tokens))) = in_range_form IsPattern tokens _ g (pair_form (word_text tokens)) in
    search (reading, value)

or_unnamed_form : (star : Bool) (tokens : List Token) (value : Option CommunityPattern) → AreGood tokens → IfThere IsPattern value → Finds IsPattern (or_unnamed star tokens value)
or_unnamed_form star tokens None g h = unnamed_form star tokens g
or_unnamed_form star tokens (Some pattern) g h = ok _ _ h (good_behind tokens g)

pub community_form : (star : Bool) (tokens : List Token) → AreGood tokens → Finds IsPattern (community_at star tokens)
unfolding community_at
community_form star tokens g = or_unnamed_form star tokens _ g (of_word (word_of tokens))
  where
    of_word : (word : Option (List ℕ)) → IfThere IsPattern (option_and_then named_community word)
    of_word None = tt
    of_word (Some text) = named_form text

pub large_community_form : (star : Bool) (tokens : List Token) → AreGood tokens → Finds IsLargePattern (large_community_at star tokens)
unfolding large_community_at
large_community_form star tokens g =
    let value : Finds IsLargePattern (in_range tokens (triple_of (word_text tokens))) = in_range_form IsLargePattern tokens _ g (triple_form (word_text tokens)) in
    search (reading, value)

pub part_small : (most : ℕ) (part : Option ℕ) → IsPart most part → number_or_zero part ≤ most
part_small most None h = omega arith
part_small most (Some n) h = h.most

pub one_small : (pattern : CommunityPattern) → IsPattern pattern → IsWithin 0 4294967295 (one_community pattern)
one_small pattern h = record { least = omega arith; most = omega (arith, part_small 65535 pattern.high h.0, part_small 65535 pattern.low h.1) }
