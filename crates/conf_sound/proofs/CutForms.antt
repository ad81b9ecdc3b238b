-- The tokens of a line are good, and so is what stands behind them.
use Rattle.std.proofs.Common.{◌≡◌, ◌∙◌, ℕ, zero, suc, ◌+◌, ◌-◌, Bool, true, false, cond, not, ◌||◌, eqb, List, [], ◌∷◌, length, drop, Option, Some, None, Ok, Err, refl, sym, true≢false}
use Rattle.std.specs.Prelude.{nat_lt}
use Rattle.std.specs.Option.{option_map_or}
use Rattle.net_base.specs.declared.conf.ConfFault.{ConfFault}
use Rattle.net_base.specs.declared.conf.ConfKind.TheVariants.{TooLong, BadByte}
use Rattle.conf_tree.specs.declared.token.Token.{Token}
use Rattle.conf_tree.specs.declared.token.TokenKind.TheVariants.{LineEnd}
use Rattle.conf_tree.specs.Joined.{Seen, is_lf, joined, joined_from, joins, line_behind, unless_gone}
use Rattle.conf_tree.specs.Kinds.{is_quoted, is_line_end}
use Rattle.conf_tree.specs.Cuts.{Rules, byte_is, front_is, is_quote, is_hash, mark_size, is_word_byte, in_blanks, in_comment, in_word, behind, token_at, fault_at, Cut, text_end, quoted_cut, mark_cut, end_in_front, word_ended, word_cut, cut_by, cut_at, behind_comment, behind_blanks, first_cut_at, first_cut, Line, in_front_of, line_by, line_in, first_line, plain_rules, split}
use Rattle.conf_tree.specs.Readable.{Each, can_be_quoted}
use Rattle.conf_tree.proofs.Both.{and_first, and_second}
use Rattle.conf_sound.proofs.Finds.{IsGood, AreGood}

-- a token that isn't quoted
pub plain_good : (token : Token) → is_quoted token.kind ≡ false → IsGood token
plain_good token e = record { inside = (λ h. absurd (true≢false (sym h ∙ e))); utf8 = (λ h. absurd (true≢false (sym h ∙ e))) }

-- ---- a token and what stands behind it

abbrev pub CutIn : (List Seen → Type 0) → Cut → Type 0
CutIn Fine (Ok found) = IsGood found.0 × Fine found.1
CutIn Fine (Err fault) = Unit {0}

pub record CutsWell (Fine : List Seen → Type 0) (cut : Cut) : Type 0 where
  pub well : CutIn Fine cut

pub cut_ok : {Fine : List Seen → Type 0} (token : Token) (rest : List Seen) → IsGood token → Fine rest → CutsWell Fine (Ok (token, rest))
cut_ok token rest g f = record { well = (g, f) }

pub cut_err : {Fine : List Seen → Type 0} (fault : ConfFault) → CutsWell Fine (Err fault)
cut_err fault = record { well = tt }

pub cut_either : {Fine : List Seen → Type 0} (b : Bool) (x y : Cut) → (b ≡ true → CutsWell Fine x) → (b ≡ false → CutsWell Fine y) → CutsWell Fine (cond b x y)
cut_either true x y h k = h refl
cut_either false x y h k = k refl

-- ---- a line of tokens

-- the tokens of a line are good, and so is its end
pub record IsLine (Fine : List Seen → Type 0) (line : Line) : Type 0 where
  pub tokens : AreGood line.tokens
  pub end : CutsWell Fine line.end

module _ (Fine : List Seen → Type 0) (rules : Rules) (cuts : (rest : List Seen) → Fine rest → CutsWell Fine (first_cut rules rest)) where
  by_kind : (ends : Bool) (found : Token × List Seen) (line : Line) → IsGood found.0 → Fine found.1 → IsLine Fine line → IsLine Fine (cond ends (record { tokens = []; end = Ok found }) (in_front_of (found.0 ∷ []) line))
  by_kind true found line g f l = record { tokens = tt; end = record { well = (g, f) } }
  by_kind false found line g f l = record { tokens = (g, l.tokens); end = l.end }

  line_by_form : (line : List Seen → Line) (cut : Cut) → ((rest : List Seen) → Fine rest → IsLine Fine (line rest)) → CutsWell Fine cut → IsLine Fine (line_by line cut)
  line_by_form line (Err fault) lines c = record { tokens = tt; end = cut_err fault }
  line_by_form line (Ok found) lines c = by_kind (is_line_end found.0.kind) found (line found.1) c.well.0 c.well.1 (lines found.1 c.well.1)

  line_in_form : (n : ℕ) (rest : List Seen) → Fine rest → IsLine Fine (line_in rules n rest)
  unfolding line_in
  line_in_form zero rest f = record { tokens = tt; end = record { well = tt } }
  line_in_form (suc n) rest f = line_by_form (line_in rules n) (first_cut rules rest) (line_in_form n) (cuts rest f)

  pub first_line_form : (rest : List Seen) → Fine rest → IsLine Fine (first_line rules rest)
  unfolding first_line
  first_line_form rest f = line_in_form (length rest) rest f

-- ---- a text without quotes

abbrev pub IsNoQuote : Seen → Type 0
IsNoQuote seen = byte_is is_quote seen ≡ false

abbrev pub NoQuotes : List Seen → Type 0
NoQuotes rest = Each IsNoQuote rest

pub none_behind : (p : List Seen → Bool) (rest : List Seen) → NoQuotes rest → NoQuotes (behind p rest)
unfolding behind
none_behind p [] h = tt
none_behind p (seen ∷ rest) h = by (p (seen ∷ rest)) (none_behind p rest h.1)
  where
    by : (b : Bool) → NoQuotes (behind p rest) → NoQuotes (cond b (behind p rest) (seen ∷ rest))
    by true k = k
    by false k = h

none_drop : (n : ℕ) (rest : List Seen) → NoQuotes rest → NoQuotes (drop n rest)
none_drop zero rest h = h
none_drop (suc n) [] h = tt
none_drop (suc n) (seen ∷ rest) h = none_drop n rest h.1

module _ (rules : Rules) where
  pub word_ended_form : (Fine : List Seen → Type 0) (word : Token) (rest : List Seen) → IsGood word → Fine rest → CutsWell Fine (word_ended rules word rest)
  word_ended_form Fine word rest g f = cut_either rules.cut _ (Ok (word, rest)) (λ e. by (end_in_front rest)) (λ e. cut_ok word rest g f)
    where
      by : (end : Option Seen) → CutsWell Fine (option_map_or (λ end. Err (fault_at end TooLong)) end (Ok (word, rest)))
      by None = cut_ok word rest g f
      by (Some end) = cut_err (fault_at end TooLong)

  pub word_cut_form : (Fine : List Seen → Type 0) (seen : Seen) (rest : List Seen) → Fine (behind (in_word rules) rest) → CutsWell Fine (word_cut rules seen rest)
  unfolding word_cut
  word_cut_form Fine seen rest f = word_ended_form Fine _ (behind (in_word rules) rest) (plain_good _ refl) f

  pub text_end_form : (Fine : List Seen → Type 0) (seen : Seen) (rest : List Seen) → Fine rest → CutsWell Fine (text_end rules seen rest)
  text_end_form Fine seen rest f = cut_either rules.cut (Err (fault_at seen TooLong)) (Ok (token_at seen LineEnd seen.place [], rest)) (λ e. cut_err (fault_at seen TooLong)) (λ e. cut_ok _ rest (plain_good _ refl) f)

  pub mark_cut_form : (Fine : List Seen → Type 0) (size : ℕ) (seen : Seen) (rest : List Seen) → Fine (drop (size - 1) rest) → CutsWell Fine (mark_cut size seen rest)
  unfolding mark_cut
  mark_cut_form Fine size seen rest f = cut_ok _ (drop (size - 1) rest) (plain_good _ refl) f

  -- where it isn't a quoted text
  unquoted_cut_form : (Fine : List Seen → Type 0) (seen : Seen) (rest : List Seen) (byte : Option ℕ) → option_map_or is_quote byte false ≡ false → Fine rest → Fine (drop (mark_size (seen ∷ rest) - 1) rest) → Fine (behind (in_word rules) rest)
      → CutsWell Fine (cut_by rules seen rest byte)
  unquoted_cut_form Fine seen rest None n f m w = text_end_form Fine seen rest f
  unquoted_cut_form Fine seen rest (Some b) n f m w =
      let last : Cut = cond (is_word_byte rules b) (word_cut rules seen rest) (Err (fault_at seen BadByte)) in
      let marks : Cut = cond (nat_lt 0 (mark_size (seen ∷ rest))) (mark_cut (mark_size (seen ∷ rest)) seen rest) last in
      cut_either (is_lf b) (Ok (token_at seen LineEnd (seen.place + 1) [], rest)) (cond (is_quote b) (quoted_cut rules seen rest) marks) (λ e. cut_ok _ rest (plain_good _ refl) f)
      (λ e. cut_either (is_quote b) (quoted_cut rules seen rest) marks (λ q. absurd (true≢false (sym q ∙ n)))
      (λ q. cut_either (nat_lt 0 (mark_size (seen ∷ rest))) (mark_cut (mark_size (seen ∷ rest)) seen rest) last (λ e. mark_cut_form Fine (mark_size (seen ∷ rest)) seen rest m)
      (λ e. cut_either (is_word_byte rules b) (word_cut rules seen rest) (Err (fault_at seen BadByte)) (λ e. word_cut_form Fine seen rest w) (λ e. cut_err (fault_at seen BadByte)))))

  pub none_comment : (rest : List Seen) → NoQuotes rest → NoQuotes (behind_comment rules rest)
  none_comment rest h = by (front_is is_hash rest) (none_behind (in_comment rules) rest h)
    where
      by : (b : Bool) → NoQuotes (behind (in_comment rules) rest) → NoQuotes (cond b (behind (in_comment rules) rest) rest)
      by true k = k
      by false k = h

  none_first : (rest : List Seen) → NoQuotes rest → CutsWell NoQuotes (first_cut_at rules rest)
  unfolding cut_at
  none_first [] h = record { well = tt }
  none_first (seen ∷ rest) h = unquoted_cut_form NoQuotes seen rest seen.byte h.0 h.1 (none_drop _ rest h.1) (none_behind (in_word rules) rest h.1)

  pub none_cut : (rest : List Seen) → NoQuotes rest → CutsWell NoQuotes (first_cut rules rest)
  unfolding first_cut behind_blanks
  none_cut rest h = none_first _ (none_comment (behind in_blanks rest) (none_behind in_blanks rest h))

pub joined_none : (flag : Bool) (line place : ℕ) (text : List ℕ) → can_be_quoted text ≡ true → NoQuotes (joined_from flag line place text)
unfolding joined_from
joined_none flag line place [] h = (refl, tt)
joined_none flag line place (b ∷ text) h =
    by (flag || joins b text) (joined_none (joins b text) (line_behind line b) (place + 1) text (and_second (not (eqb b 34 || eqb b 10)) (can_be_quoted text) h))
    (unquoted (eqb b 34) (eqb b 10) (and_first (not (eqb b 34 || eqb b 10)) (can_be_quoted text) h))
  where
    unquoted : (q l : Bool) → not (q || l) ≡ true → q ≡ false
    unquoted true l e = absurd (true≢false (sym e))
    unquoted false l e = refl

    by : (gone : Bool) → NoQuotes (joined_from (joins b text) (line_behind line b) (place + 1) text) → eqb b 34 ≡ false
        → NoQuotes (unless_gone gone (record { byte = Some b; line = line; place = place }) (joined_from (joins b text) (line_behind line b) (place + 1) text))
    by true k q = k
    by false k q = (q, k)

-- the tokens of a quoted value are good
pub split_form : (text : List ℕ) → can_be_quoted text ≡ true → AreGood (split text)
unfolding split
split_form text h = (first_line_form NoQuotes plain_rules (none_cut plain_rules) (joined text) (joined_none false 1 0 text h)).tokens
