-- A text between quotes is UTF-8, as far as the text around it is.
use lib.Utf8.{scalar, scalars, encode, encodes}
use Rattle.std.proofs.Common.{◌≡◌, ◌∙◌, ℕ, zero, suc, ◌+◌, ◌/◌, ◌%◌, ◌<◌, ◌≤◌, ◌⊎◌, Bool, true, false, cond, not, ◌&&◌, ◌||◌, eqb, List, [], ◌∷◌, ◌++◌, length, Some, refl, sym, ap, subst, inl, inr, arith, append_assoc, append-nil, length-append, true≢false}
use Rattle.std.specs.Prelude.{nat_lt}
use Rattle.std.specs.Str.{IsUtf8, IsAscii}
use Rattle.std.specs.Option.{option_map_or}
use Rattle.std.proofs.lemmas.Bool.{cases_lt}
use Rattle.std.proofs.lemmas.Bool.Decides.{nat_tests}
use Rattle.std.proofs.lemmas.Str.{IsUtf8-append, IsUtf8-from_ascii, IsUtf8-nil, encode_ascii, length-encode, len_utf8_bounds}
use Rattle.conf_tree.specs.Joined.{Seen, is_lf, begins_with_lf, joins, line_behind, unless_gone, joined_from}
use Rattle.conf_tree.specs.Cuts.{Rules, byte_is, front_is, is_quote, in_quotes, run, behind, bytes_of}
use Rattle.conf_tree.specs.Readable.{Each}
use Rattle.conf_tree.proofs.Both.{and_first, and_second}

-- no byte is ASCII
abbrev pub AreHigh : List ℕ → Type 0
AreHigh bytes = Each (λ b. 128 ≤ b) bytes

abbrev pub FirstIsHigh : List ℕ → Type 0
FirstIsHigh [] = Unit {0}
FirstIsHigh (b ∷ bytes) = 128 ≤ b

abbrev pub is_ascii : Seen → Bool
is_ascii seen = option_map_or (λ b. nat_lt b 128) seen.byte true

abbrev pub seen_at : ℕ → ℕ → ℕ → Seen
seen_at line place b = record { byte = Some b; line = line; place = place }

abbrev pub FlagIsRight : Bool → List ℕ → Type 0
FlagIsRight flag text = flag ≡ true → begins_with_lf text ≡ true

ascii_one : (b : ℕ) → b < 128 → IsUtf8 (b ∷ [])
ascii_one b h = IsUtf8-from_ascii (b ∷ []) is_ascii_list
  where
    is_ascii_list : IsAscii (b ∷ [])
    is_ascii_list zero = h
    is_ascii_list (suc i) = omega arith

pub ascii_front : (b : ℕ) (text : List ℕ) → b < 128 → IsUtf8 text → IsUtf8 (b ∷ text)
ascii_front b text h u = IsUtf8-append (b ∷ []) text (ascii_one b h) u

-- ---- characters of more than one byte

high_two : (b c : ℕ) → 128 ≤ b → 128 ≤ c → AreHigh (b ∷ c ∷ [])
high_two b c h k = (h, (k, tt))

high_bytes : (x y : Bool) (a b c d e f : ℕ) → AreHigh (cond x ((192 + a) ∷ (128 + b) ∷ []) (cond y ((224 + c) ∷ (128 + d) ∷ (128 + b) ∷ []) ((240 + e) ∷ (128 + f) ∷ (128 + d) ∷ (128 + b) ∷ [])))
high_bytes true y a b c d e f = (omega arith, (omega arith, tt))
high_bytes false true a b c d e f = (omega arith, (omega arith, (omega arith, tt)))
high_bytes false false a b c d e f = (omega arith, (omega arith, (omega arith, (omega arith, tt))))

not_small : (c : ℕ) → 128 ≤ c → false ≡ nat_lt c 128
not_small c h = grind (arith, nat_tests)

pub encode_high : (c : ℕ) → 128 ≤ c → AreHigh (encode c)
unfolding encode
encode_high c h =
    subst (λ (small : Bool). AreHigh (cond small (c ∷ []) (cond (nat_lt c 2048) ((192 + c / 64) ∷ (128 + c % 64) ∷ []) (cond (nat_lt c 65536) ((224 + c / 4096) ∷ (128 + (c / 64) % 64) ∷ (128 + c % 64) ∷ []) ((240 + c / 262144) ∷ (128 + (c / 4096) % 64) ∷ (128 + (c / 64) % 64) ∷ (128 + c % 64) ∷ [])))))
    (not_small c h) (high_bytes (nat_lt c 2048) (nat_lt c 65536) (c / 64) (c % 64) (c / 4096) ((c / 64) % 64) (c / 262144) ((c / 4096) % 64))

encode_utf8 : (c : ℕ) → scalar c ≡ true → IsUtf8 (encode c)
encode_utf8 c e = (c ∷ [], (both (scalar c) e, append-nil (encode c)))
  where
    both : (b : Bool) → b ≡ true → (b && true) ≡ true
    both true e = refl
    both false e = e

-- ---- bytes that are no ASCII stay where lines are joined

no_join : (b : ℕ) (next : Bool) → 128 ≤ b → (eqb b 92 && next) ≡ false
no_join b next h = by (eqb b 92) (grind (arith, nat_tests))
  where
    by : (t : Bool) → t ≡ false → (t && next) ≡ false
    by true e = absurd (true≢false e)
    by false e = refl

no_lf : (b : ℕ) → 128 ≤ b → is_lf b ≡ false
no_lf b h = grind (arith, nat_tests)

no_quote : (b : ℕ) → 128 ≤ b → is_quote b ≡ false
no_quote b h = grind (arith, nat_tests)

no_ascii : (b : ℕ) → 128 ≤ b → nat_lt b 128 ≡ false
no_ascii b h = grind (arith, nat_tests)

pub high_here : (line place b : ℕ) (text : List ℕ) → 128 ≤ b → joined_from false line place (b ∷ text) ≡ seen_at line place b ∷ joined_from false line (place + 1) text
unfolding joined_from
high_here line place b text h = rw (no_join b (begins_with_lf text) h, no_lf b h) refl

flag_off : (flag : Bool) (b : ℕ) (text : List ℕ) → 128 ≤ b → FlagIsRight flag (b ∷ text) → false ≡ flag
flag_off true b text h right = sym (no_lf b h) ∙ right refl
flag_off false b text h right = refl

module _ (rules : Rules) where
  -- a quoted text that goes on here is closed
  abbrev pub IsOpen : List Seen → Type 0
  IsOpen rest = front_is is_quote (behind (in_quotes rules) rest) ≡ true

  -- the bytes of a quoted text that goes on here are UTF-8, behind these
  abbrev pub IsSafeBehind : List ℕ → List Seen → Type 0
  IsSafeBehind front rest = IsOpen rest → IsUtf8 (front ++ bytes_of (run (in_quotes rules) rest))

  -- no token that a quoted text ends or that ASCII makes comes to bytes that are no UTF-8
  abbrev pub IsSound : List Seen → Type 0
  IsSound [] = Unit {0}
  IsSound (seen ∷ rest) = (is_ascii seen ≡ true → IsSafeBehind [] rest × IsSound rest) × (IsOpen (seen ∷ rest) → IsSound rest)

  abbrev pub IsBoth : List Seen → Type 0
  IsBoth rest = IsSafeBehind [] rest × IsSound rest

  -- the quoted text goes on behind a byte that doesn't end it
  module _ (seen : Seen) (rest : List Seen) where
    pub on_run : in_quotes rules (seen ∷ rest) ≡ true → run (in_quotes rules) (seen ∷ rest) ≡ seen ∷ run (in_quotes rules) rest
    unfolding run
    on_run e = ap (λ b. cond b (seen ∷ run (in_quotes rules) rest) []) e

    pub off_run : in_quotes rules (seen ∷ rest) ≡ false → run (in_quotes rules) (seen ∷ rest) ≡ []
    unfolding run
    off_run e = ap (λ b. cond b (seen ∷ run (in_quotes rules) rest) []) e

    pub on_behind : in_quotes rules (seen ∷ rest) ≡ true → behind (in_quotes rules) (seen ∷ rest) ≡ behind (in_quotes rules) rest
    unfolding behind
    on_behind e = ap (λ b. cond b (behind (in_quotes rules) rest) (seen ∷ rest)) e

    pub off_behind : in_quotes rules (seen ∷ rest) ≡ false → behind (in_quotes rules) (seen ∷ rest) ≡ seen ∷ rest
    unfolding behind
    off_behind e = ap (λ b. cond b (behind (in_quotes rules) rest) (seen ∷ rest)) e

    stops : byte_is is_quote seen ≡ false → in_quotes rules (seen ∷ rest) ≡ false → IsOpen (seen ∷ rest) → ⊥
    stops n e opened = true≢false (sym opened ∙ ap (front_is is_quote) (off_behind e) ∙ n)

    pub still_open : in_quotes rules (seen ∷ rest) ≡ true → IsOpen (seen ∷ rest) → IsOpen rest
    still_open e opened = ap (front_is is_quote) (sym (on_behind e)) ∙ opened

    goes_on : byte_is is_quote seen ≡ false → IsOpen (seen ∷ rest) → in_quotes rules (seen ∷ rest) ≡ true
    goes_on n opened = by (in_quotes rules (seen ∷ rest)) refl
      where
        by : (b : Bool) → in_quotes rules (seen ∷ rest) ≡ b → b ≡ true
        by true e = refl
        by false e = absurd (stops n e opened)

  -- ---- ASCII

  safe_ascii : (line place b : ℕ) (rest : List Seen) → b < 128 → IsSafeBehind [] rest → IsSafeBehind [] (seen_at line place b ∷ rest)
  safe_ascii line place b rest h safe opened = by (in_quotes rules (seen_at line place b ∷ rest)) refl
    where
      by : (t : Bool) → in_quotes rules (seen_at line place b ∷ rest) ≡ t → IsUtf8 (bytes_of (run (in_quotes rules) (seen_at line place b ∷ rest)))
      by true e = subst (λ (xs : List Seen). IsUtf8 (bytes_of xs)) (sym (on_run (seen_at line place b) rest e)) (ascii_front b _ h (safe (still_open (seen_at line place b) rest e opened)))
      by false e = subst (λ (xs : List Seen). IsUtf8 (bytes_of xs)) (sym (off_run (seen_at line place b) rest e)) IsUtf8-nil

  both_ascii : (line place b : ℕ) (rest : List Seen) → b < 128 → IsBoth rest → IsBoth (seen_at line place b ∷ rest)
  both_ascii line place b rest h both = (safe_ascii line place b rest h both.0, ((λ e. both), (λ opened. both.1)))

  unless_gone_both : (gone : Bool) (line place b : ℕ) (rest : List Seen) → b < 128 → IsBoth rest → IsBoth (unless_gone gone (seen_at line place b) rest)
  unless_gone_both true line place b rest h both = both
  unless_gone_both false line place b rest h both = both_ascii line place b rest h both

  ascii_both : (flag : Bool) (line place b : ℕ) (text : List ℕ) → b < 128 → IsBoth (joined_from (joins b text) (line_behind line b) (place + 1) text) → IsBoth (joined_from flag line place (b ∷ text))
  unfolding joined_from
  ascii_both flag line place b text h both = unless_gone_both (flag || joins b text) line place b _ h both

  -- ---- bytes that are no ASCII

  safe_high : (line place b : ℕ) (front : List ℕ) (rest : List Seen) → 128 ≤ b → IsSafeBehind (front ++ b ∷ []) rest → IsSafeBehind front (seen_at line place b ∷ rest)
  safe_high line place b front rest h safe opened =
      let on : in_quotes rules (seen_at line place b ∷ rest) ≡ true = goes_on (seen_at line place b) rest (no_quote b h) opened in
      subst (λ (xs : List Seen). IsUtf8 (front ++ bytes_of xs)) (sym (on_run (seen_at line place b) rest on))
      (subst IsUtf8 (append_assoc front (b ∷ []) (bytes_of (run (in_quotes rules) rest))) (safe (still_open (seen_at line place b) rest on opened)))

  high_safe : (line place : ℕ) (front bytes text : List ℕ) → AreHigh bytes → ((place' : ℕ) → place' ≡ place + length bytes → IsSafeBehind (front ++ bytes) (joined_from false line place' text)) → IsSafeBehind front (joined_from false line place (bytes ++ text))
  high_safe line place front [] text h then = subst (λ (fs : List ℕ). IsSafeBehind fs (joined_from false line place text)) (append-nil front) (then place (omega arith))
  high_safe line place front (b ∷ bytes) text h then =
      subst (IsSafeBehind front) (sym (high_here line place b (bytes ++ text) h.0))
      (safe_high line place b front (joined_from false line (place + 1) (bytes ++ text)) h.0
      (high_safe line (place + 1) (front ++ b ∷ []) bytes text h.1
      (λ place' e. subst (λ (fs : List ℕ). IsSafeBehind fs (joined_from false line place' text)) (sym (append_assoc front (b ∷ []) bytes)) (then place' (omega (arith, e))))))

  sound_high : (line place b : ℕ) (rest : List Seen) → 128 ≤ b → IsSound rest → IsSound (seen_at line place b ∷ rest)
  sound_high line place b rest h sound = ((λ e. absurd (true≢false (sym e ∙ no_ascii b h))), (λ opened. sound))

  high_sound : (line place : ℕ) (bytes text : List ℕ) → AreHigh bytes → ((place' : ℕ) → place' ≡ place + length bytes → IsSound (joined_from false line place' text)) → IsSound (joined_from false line place (bytes ++ text))
  high_sound line place [] text h then = then place (omega arith)
  high_sound line place (b ∷ bytes) text h then =
      subst IsSound (sym (high_here line place b (bytes ++ text) h.0))
      (sound_high line place b _ h.0 (high_sound line (place + 1) bytes text h.1 (λ place' e. then place' (omega (arith, e)))))

  -- ---- where the UTF-8 ends

  -- the bytes behind it don't begin with ASCII, and no quoted text goes past them
  pub record IsEnd (place : ℕ) (text : List ℕ) : Type 0 where
    pub first : FirstIsHigh text
    pub blocked : (place ≡ rules.bad) ⊎ AreHigh text

  end_closed : (line place : ℕ) → IsOpen (joined_from false line place []) → ⊥
  unfolding joined_from behind
  end_closed line place opened = true≢false (sym opened)

  high_closed : (line place : ℕ) (text : List ℕ) → AreHigh text → IsOpen (joined_from false line place text) → ⊥
  high_closed line place [] h opened = end_closed line place opened
  high_closed line place (b ∷ text) h opened =
      let here : IsOpen (seen_at line place b ∷ joined_from false line (place + 1) text) = subst IsOpen (high_here line place b text h.0) opened in
      high_closed line (place + 1) text h.1 (still_open (seen_at line place b) _ (goes_on (seen_at line place b) _ (no_quote b h.0) here) here)

  bad_stops : (line place b : ℕ) (rest : List Seen) → place ≡ rules.bad → in_quotes rules (seen_at line place b ∷ rest) ≡ false
  bad_stops line place b rest e = by (not (is_quote b || is_lf b)) (eqb place rules.bad) (grind (arith, nat_tests))
    where
      by : (x y : Bool) → y ≡ true → (x && not y) ≡ false
      by true true e = refl
      by false y e = refl
      by true false e = absurd (cc)

  blocked_closed : (line place b : ℕ) (text : List ℕ) → 128 ≤ b → (place ≡ rules.bad) ⊎ AreHigh (b ∷ text) → IsOpen (joined_from false line place (b ∷ text)) → ⊥
  blocked_closed line place b text h (inl e) opened =
      stops (seen_at line place b) (joined_from false line (place + 1) text) (no_quote b h) (bad_stops line place b (joined_from false line (place + 1) text) e) (subst IsOpen (high_here line place b text h) opened)
  blocked_closed line place b text h (inr high) opened = high_closed line place (b ∷ text) high opened

  end_both : (flag : Bool) (line place : ℕ) (text : List ℕ) → FlagIsRight flag text → IsEnd place text → IsBoth (joined_from flag line place text)
  unfolding joined_from behind
  end_both flag line place [] right end = ((λ opened. absurd (true≢false (sym opened))), ((λ e. ((λ opened. absurd (true≢false (sym opened))), tt)), (λ opened. tt)))
  end_both flag line place (b ∷ text) right end =
      let closed : IsOpen (joined_from false line place (b ∷ text)) → ⊥ = blocked_closed line place b text end.first end.blocked in
      let here : IsBoth (seen_at line place b ∷ joined_from false line (place + 1) text) = (
        (λ opened. absurd (closed (subst IsOpen (sym (high_here line place b text end.first)) opened))),
        ((λ e. absurd (true≢false (sym e ∙ no_ascii b end.first))), (λ opened. absurd (closed (subst IsOpen (sym (high_here line place b text end.first)) opened)))),
      ) in
      subst (λ (f : Bool). IsBoth (joined_from f line place (b ∷ text))) (flag_off flag b text end.first right) (subst IsBoth (sym (high_here line place b text end.first)) here)

  -- ---- the whole text

  flag_behind : (b : ℕ) (text : List ℕ) → FlagIsRight (joins b text) text
  flag_behind b text e = and_second (eqb b 92) (begins_with_lf text) e

  flag_high : (flag : Bool) (bytes text : List ℕ) → 0 < length bytes → AreHigh bytes → FlagIsRight flag (bytes ++ text) → false ≡ flag
  flag_high flag [] text some h right = absurd (omega (arith, some))
  flag_high flag (b ∷ bytes) text some h right = flag_off flag b (bytes ++ text) h.0 right

  high_both : (flag : Bool) (line place : ℕ) (bytes text : List ℕ) → 0 < length bytes → AreHigh bytes → IsUtf8 bytes → FlagIsRight flag (bytes ++ text)
      → ((place' : ℕ) → place' ≡ place + length bytes → IsBoth (joined_from false line place' text)) → IsBoth (joined_from flag line place (bytes ++ text))
  high_both flag line place bytes text some h u right then =
      subst (λ (f : Bool). IsBoth (joined_from f line place (bytes ++ text))) (flag_high flag bytes text some h right) (
        high_safe line place [] bytes text h (λ place' e opened. IsUtf8-append bytes _ u ((then place' e).0 opened)),
        high_sound line place bytes text h (λ place' e. (then place' e).1),
      )

  not_lf_flag : (text : List ℕ) → FlagIsRight false text
  not_lf_flag text e = absurd (cc)

  char_both : (flag : Bool) (line place c : ℕ) (text : List ℕ) → scalar c ≡ true → FlagIsRight flag (encode c ++ text)
      → ((f : Bool) (l p : ℕ) → FlagIsRight f text → p ≡ place + length (encode c) → IsBoth (joined_from f l p text)) → IsBoth (joined_from flag line place (encode c ++ text))
  char_both flag line place c text s right then = elim (cases_lt c 128) [
    | inl h ↦ subst (λ (xs : List ℕ). IsBoth (joined_from flag line place (xs ++ text))) (sym (encode_ascii c h))
        (ascii_both flag line place c text h (then (joins c text) (line_behind line c) (place + 1) (flag_behind c text) (omega (arith, ap length (encode_ascii c h)))))
    | inr h ↦ high_both flag line place (encode c) text (omega (arith, length-encode c, (len_utf8_bounds c).0)) (encode_high c h) (encode_utf8 c s) right
        (λ place' e. then false line place' (not_lf_flag text) e)
  ]

  pub text_both : (cs text : List ℕ) (flag : Bool) (line place : ℕ) → scalars cs ≡ true → FlagIsRight flag (encodes cs ++ text) → IsEnd (place + length (encodes cs)) text → IsBoth (joined_from flag line place (encodes cs ++ text))
  text_both [] text flag line place s right end = end_both flag line place text right (subst (λ (n : ℕ). IsEnd n text) (omega arith) end)
  text_both (c ∷ cs) text flag line place s right end =
      let same : (encode c ++ encodes cs) ++ text ≡ encode c ++ (encodes cs ++ text) = append_assoc (encode c) (encodes cs) text in
      subst (λ (xs : List ℕ). IsBoth (joined_from flag line place xs)) (sym same)
      (char_both flag line place c (encodes cs ++ text) (and_first (scalar c) (scalars cs) s) (subst (FlagIsRight flag) same right)
      (λ f l p f_right e. text_both cs text f l p (and_second (scalar c) (scalars cs) s) f_right
      (subst (λ (n : ℕ). IsEnd n text) (omega (arith, e, length-append (encode c) (encodes cs))) end)))
