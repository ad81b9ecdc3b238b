-- The tokens of a text are good, as far as it is read.
use Rattle.std.proofs.Common.{◌≡◌, ◌∙◌, ℕ, ◌+◌, ◌-◌, ◌⊎◌, Bool, true, false, cond, not, ◌&&◌, ◌||◌, eqb, List, [], ◌∷◌, drop, Option, Some, None, Ok, Err, refl, sym, ap, inl, inr, arith, true≢false}
use Rattle.std.specs.Prelude.{nat_lt}
use Rattle.std.specs.List.{cons_option}
use Rattle.std.specs.Option.{option_map_or}
use Rattle.std.specs.Str.{IsUtf8}
use Rattle.std.proofs.lemmas.Bool.Decides.{nat_tests}
use Rattle.net_base.specs.declared.conf.ConfKind.TheVariants.{BadByte, OpenQuote}
use Rattle.conf_tree.specs.declared.token.TokenKind.TheVariants.{Quoted, LineEnd}
use Rattle.conf_tree.specs.Joined.{Seen, is_lf}
use Rattle.conf_tree.specs.Cuts.{Rules, byte_is, front_is, is_blank, is_printable, is_equals, is_mark, is_compare, is_quote, is_hash, mark_size, is_comment_byte, is_word_byte, in_blanks, in_comment, in_word, in_quotes, run, behind, bytes_of, token_at, fault_at, Cut, closed_by, closed, quoted_cut, mark_cut, word_cut, cut_by, cut_at, behind_comment, behind_blanks, first_cut_at, first_cut}
use Rattle.conf_tree.specs.Readable.{can_be_quoted}
use Rattle.conf_tree.proofs.Both.{and_first, and_second}
use Rattle.conf_sound.proofs.Characters.{is_ascii, IsOpen, IsSound, IsBoth, still_open}
use Rattle.conf_sound.proofs.CutForms.{plain_good, CutsWell, cut_ok, cut_err, cut_either, word_cut_form, text_end_form, mark_cut_form}

-- ---- bytes that are ASCII

ascii_of : (seen : Seen) (b : ℕ) → seen.byte ≡ Some b → nat_lt b 128 ≡ true → is_ascii seen ≡ true
ascii_of seen b e h = ap (λ (o : Option ℕ). option_map_or (λ c. nat_lt c 128) o true) e ∙ h

byte_ascii : (test : ℕ → Bool) → ((b : ℕ) → test b ≡ true → nat_lt b 128 ≡ true) → (seen : Seen) → byte_is test seen ≡ true → is_ascii seen ≡ true
byte_ascii test small seen = by seen.byte
  where
    by : (byte : Option ℕ) → option_map_or test byte false ≡ true → option_map_or (λ b. nat_lt b 128) byte true ≡ true
    by None e = refl
    by (Some b) e = small b e

blank_ascii : (b : ℕ) → is_blank b ≡ true → nat_lt b 128 ≡ true
blank_ascii b e = grind (arith, nat_tests)

printable_ascii : (b : ℕ) → is_printable b ≡ true → nat_lt b 128 ≡ true
printable_ascii b e = grind (arith, nat_tests)

seen_or_blank : (b : ℕ) → (is_printable b || is_blank b) ≡ true → nat_lt b 128 ≡ true
seen_or_blank b e = grind (arith, nat_tests)

equals_ascii : (b : ℕ) → is_equals b ≡ true → nat_lt b 128 ≡ true
equals_ascii b e = grind (arith, nat_tests)

mark_ascii : (b : ℕ) → is_mark b ≡ true → nat_lt b 128 ≡ true
mark_ascii b e = grind (arith, nat_tests)

compare_ascii : (b : ℕ) → is_compare b ≡ true → nat_lt b 128 ≡ true
compare_ascii b e = grind (arith, nat_tests)

quote_ascii : (b : ℕ) → is_quote b ≡ true → nat_lt b 128 ≡ true
quote_ascii b e = grind (arith, nat_tests)

lf_ascii : (b : ℕ) → is_lf b ≡ true → nat_lt b 128 ≡ true
lf_ascii b e = grind (arith, nat_tests)

both_true : (a b : Bool) → a ≡ true → b ≡ true → (a && b) ≡ true
both_true true b e h = h
both_true false b e h = absurd (true≢false (sym e))

module _ (bad : ℕ) (cut : Bool) where
  abbrev pub strictly : Rules
  strictly = record { strict = true; bad = bad; cut = cut }

  abbrev pub Sound : List Seen → Type 0
  Sound rest = IsSound strictly rest

  abbrev quotes : List Seen → Bool
  quotes rest = in_quotes strictly rest

  -- ---- runs of ASCII

  sound_behind : (p : List Seen → Bool) → ((seen : Seen) (rest : List Seen) → p (seen ∷ rest) ≡ true → is_ascii seen ≡ true) → (rest : List Seen) → Sound rest → Sound (behind p rest)
  unfolding behind
  sound_behind p heads [] h = tt
  sound_behind p heads (seen ∷ rest) h = by (p (seen ∷ rest)) refl (λ e. sound_behind p heads rest (h.0 (heads seen rest e)).1)
    where
      by : (b : Bool) → p (seen ∷ rest) ≡ b → (p (seen ∷ rest) ≡ true → Sound (behind p rest)) → Sound (cond b (behind p rest) (seen ∷ rest))
      by true e k = k e
      by false e k = h

  blanks_ascii : (seen : Seen) (rest : List Seen) → in_blanks (seen ∷ rest) ≡ true → is_ascii seen ≡ true
  blanks_ascii seen rest e = byte_ascii is_blank blank_ascii seen e

  comment_ascii : (seen : Seen) (rest : List Seen) → in_comment strictly (seen ∷ rest) ≡ true → is_ascii seen ≡ true
  comment_ascii seen rest e = byte_ascii (is_comment_byte strictly) seen_or_blank seen e

  word_byte_ascii : (b : ℕ) → is_word_byte strictly b ≡ true → nat_lt b 128 ≡ true
  word_byte_ascii b e = printable_ascii b (and_second (not (is_quote b || is_hash b)) (is_printable b) e)

  word_ascii : (seen : Seen) (rest : List Seen) → in_word strictly (seen ∷ rest) ≡ true → is_ascii seen ≡ true
  word_ascii seen rest e = byte_ascii (is_word_byte strictly) word_byte_ascii seen (and_first (front_is (is_word_byte strictly) (seen ∷ rest)) (eqb (mark_size (seen ∷ rest)) 0) e)

  -- ---- quoted texts

  sound_quotes : (rest : List Seen) → Sound rest → IsOpen strictly rest → Sound (behind quotes rest)
  unfolding behind
  sound_quotes [] h o = tt
  sound_quotes (seen ∷ rest) h o = by (quotes (seen ∷ rest)) refl (sound_quotes rest (h.1 o))
    where
      by : (b : Bool) → quotes (seen ∷ rest) ≡ b → (IsOpen strictly rest → Sound (behind quotes rest)) → Sound (cond b (behind quotes rest) (seen ∷ rest))
      by true e k = k (still_open strictly seen rest e o)
      by false e k = h

  in_byte : (byte : Option ℕ) (text : List ℕ) → option_map_or (λ b. not (is_quote b || is_lf b)) byte false ≡ true → can_be_quoted text ≡ true → can_be_quoted (cons_option byte text) ≡ true
  in_byte None text e h = h
  in_byte (Some b) text e h = both_true _ _ e h

  inside_run : (rest : List Seen) → can_be_quoted (bytes_of (run quotes rest)) ≡ true
  unfolding run
  inside_run [] = refl
  inside_run (seen ∷ rest) = by (quotes (seen ∷ rest)) refl (inside_run rest)
    where
      by : (b : Bool) → quotes (seen ∷ rest) ≡ b → can_be_quoted (bytes_of (run quotes rest)) ≡ true → can_be_quoted (bytes_of (cond b (seen ∷ run quotes rest) [])) ≡ true
      by true e h = in_byte seen.byte (bytes_of (run quotes rest)) (and_first (byte_is (λ b. not (is_quote b || is_lf b)) seen) (not (eqb seen.place bad)) e) h
      by false e h = refl

  -- what a quote must stand before
  abbrev IsClosing : List ℕ → List Seen → Type 0
  IsClosing text rest = front_is is_quote rest ≡ true → (can_be_quoted text ≡ true) × IsUtf8 text × Sound rest

  closed_form : (opening : Seen) (text : List ℕ) (rest : List Seen) → IsClosing text rest → CutsWell Sound (closed strictly opening text rest)
  closed_form opening text [] h = cut_err _
  closed_form opening text (seen ∷ rest) h = by seen.byte refl
    where
      by : (byte : Option ℕ) → seen.byte ≡ byte → CutsWell Sound (closed_by strictly opening text seen rest byte)
      by None e = cut_err _
      by (Some b) e =
          cut_either (is_quote b) (Ok (token_at opening Quoted (seen.place + 1) text, rest)) (cond (is_lf b) (Err (fault_at opening OpenQuote)) (Err (fault_at seen BadByte)))
          (λ q. let parts = h (ap (λ (o : Option ℕ). option_map_or is_quote o false) e ∙ q) in
          cut_ok (token_at opening Quoted (seen.place + 1) text) rest (record { inside = (λ _. parts.0); utf8 = (λ _. parts.1) }) (parts.2.0 (ascii_of seen b e (quote_ascii b q))).1)
          (λ q. cut_either (is_lf b) (Err (fault_at opening OpenQuote)) (Err (fault_at seen BadByte)) (λ l. cut_err (fault_at opening OpenQuote)) (λ l. cut_err (fault_at seen BadByte)))

  quoted_cut_form : (opening : Seen) (rest : List Seen) → IsBoth strictly rest → CutsWell Sound (quoted_cut strictly opening rest)
  unfolding quoted_cut
  quoted_cut_form opening rest h = closed_form opening (bytes_of (run quotes rest)) (behind quotes rest) (λ o. (inside_run rest, h.0 o, sound_quotes rest h.1 o))

  -- ---- marks

  mark_some : (m k : Bool) → nat_lt 0 (cond m 1 (cond k 2 0)) ≡ true → (m ≡ true) ⊎ (k ≡ true)
  mark_some true k e = inl refl
  mark_some false true e = inr refl
  mark_some false false e = absurd (true≢false (sym e))

  marks_ascii : (seen : Seen) (rest : List Seen) → nat_lt 0 (mark_size (seen ∷ rest)) ≡ true → is_ascii seen ≡ true
  marks_ascii seen rest e = elim (mark_some (byte_is is_mark seen) (byte_is is_compare seen && front_is is_equals rest) e) [
    | inl m ↦ byte_ascii is_mark mark_ascii seen m
    | inr k ↦ byte_ascii is_compare compare_ascii seen (and_first (byte_is is_compare seen) (front_is is_equals rest) k)
  ]

  equals_behind : (rest : List Seen) → Sound rest → front_is is_equals rest ≡ true → Sound (drop 1 rest)
  equals_behind [] h e = tt
  equals_behind (seen ∷ rest) h e = (h.0 (byte_ascii is_equals equals_ascii seen e)).1

  mark_sound : (seen : Seen) (rest : List Seen) → Sound rest → Sound (drop (mark_size (seen ∷ rest) - 1) rest)
  mark_sound seen rest h = by (byte_is is_mark seen) (byte_is is_compare seen && front_is is_equals rest) refl
    where
      by : (m k : Bool) → (byte_is is_compare seen && front_is is_equals rest) ≡ k → Sound (drop (cond m 1 (cond k 2 0) - 1) rest)
      by true k e = h
      by false true e = equals_behind rest h (and_second (byte_is is_compare seen) (front_is is_equals rest) e)
      by false false e = h

  -- ---- one token

  cut_by_form : (seen : Seen) (rest : List Seen) → Sound (seen ∷ rest) → (byte : Option ℕ) → seen.byte ≡ byte → CutsWell Sound (cut_by strictly seen rest byte)
  cut_by_form seen rest h None e = text_end_form strictly Sound seen rest (h.0 (ap (λ (o : Option ℕ). option_map_or (λ c. nat_lt c 128) o true) e)).1
  cut_by_form seen rest h (Some b) e =
      let last : Cut = cond (is_word_byte strictly b) (word_cut strictly seen rest) (Err (fault_at seen BadByte)) in
      let marks : Cut = cond (nat_lt 0 (mark_size (seen ∷ rest))) (mark_cut (mark_size (seen ∷ rest)) seen rest) last in
      cut_either (is_lf b) (Ok (token_at seen LineEnd (seen.place + 1) [], rest)) (cond (is_quote b) (quoted_cut strictly seen rest) marks)
      (λ l. cut_ok (token_at seen LineEnd (seen.place + 1) []) rest (plain_good _ refl) (h.0 (ascii_of seen b e (lf_ascii b l))).1)
      (λ l. cut_either (is_quote b) (quoted_cut strictly seen rest) marks (λ q. quoted_cut_form seen rest (h.0 (ascii_of seen b e (quote_ascii b q))))
      (λ q. cut_either (nat_lt 0 (mark_size (seen ∷ rest))) (mark_cut (mark_size (seen ∷ rest)) seen rest) last
      (λ m. mark_cut_form strictly Sound (mark_size (seen ∷ rest)) seen rest (mark_sound seen rest (h.0 (marks_ascii seen rest m)).1))
      (λ m. cut_either (is_word_byte strictly b) (word_cut strictly seen rest) (Err (fault_at seen BadByte))
      (λ w. word_cut_form strictly Sound seen rest (sound_behind (in_word strictly) word_ascii rest (h.0 (ascii_of seen b e (word_byte_ascii b w))).1))
      (λ w. cut_err (fault_at seen BadByte)))))

  first_at_form : (rest : List Seen) → Sound rest → CutsWell Sound (first_cut_at strictly rest)
  unfolding cut_at
  first_at_form [] h = record { well = tt }
  first_at_form (seen ∷ rest) h = cut_by_form seen rest h seen.byte refl

  comment_sound : (rest : List Seen) → Sound rest → Sound (behind_comment strictly rest)
  comment_sound rest h = by (front_is is_hash rest) (sound_behind (in_comment strictly) comment_ascii rest h)
    where
      by : (b : Bool) → Sound (behind (in_comment strictly) rest) → Sound (cond b (behind (in_comment strictly) rest) rest)
      by true k = k
      by false k = h

  pub first_cut_form : (rest : List Seen) → Sound rest → CutsWell Sound (first_cut strictly rest)
  unfolding first_cut behind_blanks
  first_cut_form rest h = first_at_form (behind_comment strictly (behind in_blanks rest)) (comment_sound (behind in_blanks rest) (sound_behind in_blanks blanks_ascii rest h))
