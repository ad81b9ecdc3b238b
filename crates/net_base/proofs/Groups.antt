-- IPv6 texts without a dotted part are std's texts that have no dot.
use Rattle.std.proofs.Common.{◌≡◌, ◌≢◌, ℕ, zero, suc, ◌-◌, ◌^◌, ◌<◌, ◌≤◌, true, false, List, [], ◌∷◌, ◌++◌, length, get_or, replicate, codes, All, refl, sym, ap, subst, inl, inr, lit≤, arith, true≢false, length-append}
use Rattle.std.proofs.lemmas.Bool.{cases_lt}
use Rattle.std.proofs.lemmas.List.{get_or_past, length-replicate}
use Rattle.std.proofs.lemmas.List.Elements.{All-nil, All-cons, All-append, All-replicate, All-get_or}
use Rattle.std.proofs.lemmas.Int.Digits.{digits_value-lt}
use Rattle.std.proofs.Math.Nat.{pow-le-pow_right}
use Rattle.std.proofs.NetLemmas.Alphabet.{IsHexOrColon}
use Rattle.std.specs.Char.{digit_value}
use Rattle.std.specs.Net.Grammar.{IsDotted, IsGroupsAfter}
use Rattle.std.specs.Net.Grammar as Std
use Rattle.std.specs.Net.Text.{dotted_text}
use Rattle.net_base.specs.Addr.{IsColonHex}
use Rattle.net_base.proofs.Lacks.{Lacks}
use Rattle.net_base.proofs.Lacks as lacks

-- ---- a dotted part has a dot, and nothing but digits besides

dot_inside : (before text octets : List ℕ) → IsDotted text octets → ¬ (Lacks 46 (before ++ text))
dot_inside before text octets h all =
    let shown : Lacks 46 (before ++ dotted_text h.a h.b h.c h.d) = subst (λ (t : List ℕ). Lacks 46 (before ++ t)) h.spelled all in
    let to_c = lacks.left 46 _ _ (lacks.left 46 _ _ (lacks.right 46 before _ shown)) in
    let to_b = lacks.left 46 _ _ (lacks.left 46 _ _ to_c) in
    let dot : Lacks 46 (codes ".") = lacks.right 46 _ _ (lacks.left 46 _ _ to_b) in
    true≢false dot.lacks

pub dotted_lacks : (x : ℕ) (text octets : List ℕ) → IsDotted text octets → 10 ≤ digit_value x → x ≢ 46 → Lacks x text
dotted_lacks x text octets h far other =
    let dot : Lacks x (codes ".") = lacks.one x 46 (λ same. other (sym same)) in
    let a = lacks.numeral x h.a (omega (arith, h.fit)) far in
    let b = lacks.numeral x h.b (omega (arith, h.fit)) far in
    let c = lacks.numeral x h.c (omega (arith, h.fit)) far in
    let d = lacks.numeral x h.d (omega (arith, h.fit)) far in
    let to_b = lacks.both x _ _ (lacks.both x _ _ a dot) b in
    let to_c = lacks.both x _ _ (lacks.both x _ _ to_b dot) c in
    subst (Lacks x) (sym h.spelled) (lacks.both x _ _ (lacks.both x _ _ to_c dot) d)

four_bytes : (a b c d : ℕ) → a < 256 → b < 256 → c < 256 → d < 256 → (i : ℕ) → get_or (a ∷ b ∷ c ∷ d ∷ []) i 0 < 256
four_bytes a b c d p q r s zero = p
four_bytes a b c d p q r s (suc zero) = q
four_bytes a b c d p q r s (suc (suc zero)) = r
four_bytes a b c d p q r s (suc (suc (suc zero))) = s
four_bytes a b c d p q r s (suc (suc (suc (suc i)))) = omega arith

pub dotted_octets : (text octets : List ℕ) → IsDotted text octets → (length octets ≡ 4) × ((i : ℕ) → get_or octets i 0 < 256)
dotted_octets text octets h =
    let Small : List ℕ → Type 0 = λ xs. (length xs ≡ 4) × ((i : ℕ) → get_or xs i 0 < 256) in
    subst Small (sym h.value) (refl, four_bytes h.a h.b h.c h.d h.fit.0 h.fit.1 h.fit.2 h.fit.3)

-- ---- groups

-- groups with no dotted part are groups that may have one
weaker : (before text segments : List ℕ) → IsGroupsAfter false before text segments → IsGroupsAfter true before text segments
weaker before text [] h = h
weaker before text (s ∷ segments) (inl h) = inl (h.0, h.1, h.2, h.3, weaker (58 ∷ []) h.1 segments h.4)
weaker before text (s ∷ segments) (inr h) = inr (h.0, h.1, refl, h.3, h.4, h.5)

stricter : (before text segments : List ℕ) → IsGroupsAfter true before text segments → Lacks 46 text → IsGroupsAfter false before text segments
stricter before text [] h all = h
stricter before text (s ∷ segments) (inl h) all =
    let (group, rest, split, is_group, more) = h in
    let shown : Lacks 46 (before ++ group ++ rest) = subst (Lacks 46) split all in
    inl (group, rest, split, is_group, stricter (58 ∷ []) rest segments more (lacks.right 46 _ rest shown))
stricter before text (s ∷ segments) (inr h) all =
    let (last, octets, allowed, split, dotted, value) = h in
    absurd (dot_inside before last octets dotted (subst (Lacks 46) split all))

groups_lack : (x : ℕ) → 16 ≤ digit_value x → x ≢ 58 → (before text segments : List ℕ) → IsGroupsAfter false before text segments → Lacks x before → Lacks x text
groups_lack x far other before text [] h start = subst (Lacks x) (sym h) (lacks.none x)
groups_lack x far other before text (s ∷ segments) (inl h) start =
    let (group, rest, split, is_group, more) = h in
    let later = groups_lack x far other (58 ∷ []) rest segments more (lacks.one x 58 (λ same. other (sym same))) in
    let here = lacks.both x before group start (lacks.digits 16 x group is_group.0.0.1 far) in
    subst (Lacks x) (sym split) (lacks.both x _ rest here later)
groups_lack x far other before text (s ∷ segments) (inr h) start = absurd (true≢false (sym h.2))

-- ---- whole texts

pub std_from_plain : (text groups : List ℕ) → IsColonHex text groups → Std.IsColonHex text groups
std_from_plain text groups (inl h) = inl (weaker [] text groups h.0, h.1)
std_from_plain text groups (inr h) = inr (record {
  head_text = h.head_text;
  tail_text = h.tail_text;
  head = h.head;
  tail = h.tail;
  spelled = h.spelled;
  head_groups = h.head_groups;
  tail_groups = weaker [] h.tail_text h.tail h.tail_groups;
  room = h.room;
  value = h.value;
})

pub plain_from_std : (text groups : List ℕ) → Std.IsColonHex text groups → Lacks 46 text → IsColonHex text groups
plain_from_std text groups (inl h) all = inl (stricter [] text groups h.0 all, h.1)
plain_from_std text groups (inr h) all =
    let shown : Lacks 46 (h.head_text ++ codes "::" ++ h.tail_text) = subst (Lacks 46) h.spelled all in
    inr (record {
      head_text = h.head_text;
      tail_text = h.tail_text;
      head = h.head;
      tail = h.tail;
      spelled = h.spelled;
      head_groups = h.head_groups;
      tail_groups = stricter [] h.tail_text h.tail h.tail_groups (lacks.right 46 _ h.tail_text shown);
      room = h.room;
      value = h.value;
    })

pub colon_hex_lacks : (x : ℕ) → 16 ≤ digit_value x → x ≢ 58 → (text groups : List ℕ) → IsColonHex text groups → Lacks x text
colon_hex_lacks x far other text groups (inl h) = groups_lack x far other [] text groups h.0 (lacks.none x)
colon_hex_lacks x far other text groups (inr h) =
    let head = groups_lack x far other [] h.head_text h.head h.head_groups (lacks.none x) in
    let tail = groups_lack x far other [] h.tail_text h.tail h.tail_groups (lacks.none x) in
    let colon = lacks.one x 58 (λ same. other (sym same)) in
    let colons : Lacks x (codes "::") = lacks.both x (58 ∷ []) (58 ∷ []) colon colon in
    subst (Lacks x) (sym h.spelled) (lacks.both x _ h.tail_text (lacks.both x h.head_text (codes "::") head colons) tail)

-- ---- the groups of a text

abbrev IsSmall : ℕ → Type 0
IsSmall s = s < 2 ^ 16

groups_small : (before text segments : List ℕ) → IsGroupsAfter false before text segments → All IsSmall segments
groups_small before text [] h = All-nil IsSmall
groups_small before text (s ∷ segments) (inl h) =
    let (group, rest, split, is_group, more) = h in
    let below = digits_value-lt 16 group is_group.0.0.1 in
    let most : 16 ^ length group ≤ 16 ^ 4 = pow-le-pow_right (lit≤ tt) is_group.1 in
    All-cons IsSmall s segments (omega (arith, below, most, is_group.0.1)) (groups_small (58 ∷ []) rest segments more)
groups_small before text (s ∷ segments) (inr h) = absurd (true≢false (sym h.2))

pub colon_hex_groups : (text groups : List ℕ) → IsColonHex text groups → (length groups ≡ 8) × ((i : ℕ) → get_or groups i 0 < 2 ^ 16)
colon_hex_groups text groups h = (
  long h,
  λ i. elim (cases_lt i (length groups)) [
    | inl inside ↦ All-get_or IsSmall groups i 0 inside (small h)
    | inr past ↦ omega (arith, get_or_past groups i 0 past)
  ],
)
  where
    long : IsColonHex text groups → length groups ≡ 8
    long (inl h) = h.1
    long (inr h) =
        let gap : List ℕ = replicate (8 - length h.head - length h.tail) 0 in
        let zeros : length gap ≡ 8 - length h.head - length h.tail = length-replicate _ 0 in
        let whole : length groups ≡ length (h.head ++ gap ++ h.tail) = ap length h.value in
        omega (arith, h.room, length-append (h.head ++ gap) h.tail, length-append h.head gap)

    small : IsColonHex text groups → All IsSmall groups
    small (inl h) = groups_small [] text groups h.0
    small (inr h) =
        let gap : List ℕ = replicate (8 - length h.head - length h.tail) 0 in
        let zeros : All IsSmall gap = All-replicate IsSmall _ 0 (omega arith) in
        let front = All-append IsSmall h.head gap (groups_small [] h.head_text h.head h.head_groups) zeros in
        subst (All IsSmall) (sym h.value) (All-append IsSmall (h.head ++ gap) h.tail front (groups_small [] h.tail_text h.tail h.tail_groups))

not_dot : (c : ℕ) → IsHexOrColon c → c ≢ 46
not_dot c (inl h) = omega (arith, h)
not_dot c (inr h) = omega (arith, h)

pub hex_lacks_dot : (xs : List ℕ) → All IsHexOrColon xs → Lacks 46 xs
hex_lacks_dot [] h = lacks.none 46
hex_lacks_dot (c ∷ xs) h =
    lacks.both 46 (c ∷ []) xs (lacks.one 46 c (not_dot c (h 0 0 (omega arith)))) (hex_lacks_dot xs (λ k d lt. h (suc k) d (omega arith)))
