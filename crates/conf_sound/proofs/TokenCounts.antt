-- A text of the language has no more tokens than it may have bytes, the bytes of replaced macros among them.
use Rattle.std.proofs.Common.{◌≡◌, ℕ, zero, suc, ◌+◌, ◌≤◌, Bool, false, List, [], ◌∷◌, ◌++◌, length, length-append, take, Option, Some, None, Result, Ok, Err, arith, subst}
use Rattle.std.proofs.lemmas.List.{length-take}
use Rattle.net_base.specs.declared.conf.ConfFault.{ConfFault}
use Rattle.conf_tree.specs.declared.token.Token.{Token}
use Rattle.conf_tree.specs.Joined.{Seen, joined}
use Rattle.conf_tree.specs.Cuts.{is_cut, bad_place, Cut, Line, first_line}
use Rattle.conf_tree.specs.Faults.{◌>>=◌}
use Rattle.conf_tree.specs.Macros.{Macros, no_macros, Expanded, most_replaced, expanded, defined}
use Rattle.conf_tree.specs.Tokens.{LineRead, line_with, line_read, lines_in, tokens}
use Rattle.conf_tree.specs.Language.{most_text_bytes}
use Rattle.conf_tree.specs.Readable.{Each, IfThere}
use Rattle.conf_tree.proofs.Joining.{joined_length}
use Rattle.conf_sound.proofs.StatementForms.{Gives}
use Rattle.conf_sound.proofs.CutForms.{CutsWell, IsLine, first_line_form}
use Rattle.conf_sound.proofs.SoundCuts.{Sound, strictly, first_cut_form}
use Rattle.conf_sound.proofs.TextRules.{text_sound}
use Rattle.conf_sound.proofs.CutCounts.{IsFilled, Leaves, line_leaves, words_filled}
use Rattle.conf_sound.proofs.MacroCounts.{HaveBytes, AreFull, IsCounted, expanded_counted, IsFullDefinition, defined_full, with_macro_full}

-- the tokens of n bytes, before which replacements gave so many bytes
abbrev FewTokens : ℕ → ℕ → List Token → Type 0
FewTokens size n found = length found + size ≤ n + most_replaced

module _ (bad : ℕ) (cut : Bool) where
  -- What a line of n bytes leaves, before which replacements gave so many bytes.
  record IsLineCounted (size n : ℕ) (line : LineRead) : Type 0 where
    few : length line.tokens + length line.rest + size ≤ n + line.size
    within : line.size ≤ most_replaced
    macros : AreFull line.macros
    rest : Sound bad cut line.rest

  line_with_counted : (Full : Type 0) (macros : Macros) (size n count : ℕ) (line : Expanded) (end : Token × List Seen) (definition : Option (List ℕ × List Token)) → AreFull macros → IsCounted Full size count line → suc (count + length end.1) ≤ n → Sound bad cut end.1
      → IfThere IsFullDefinition definition → IsLineCounted size n (line_with macros line end definition)
  line_with_counted Full macros size n count line end None h c left s d = record { few = omega (arith, c.few, left, length-append line.tokens (end.0 ∷ [])); within = c.within; macros = h; rest = s }
  line_with_counted Full macros size n count line end (Some definition) h c left s d = record { few = omega (arith, c.grows, left); within = c.within; macros = with_macro_full macros definition.0 definition.1 h d; rest = s }

  ended_counted : (Full : Type 0) (macros : Macros) (size n count : ℕ) (line : Expanded) (end : Cut) (definition : Option (List ℕ × List Token)) → AreFull macros → IsCounted Full size count line → Leaves n count end → CutsWell (Sound bad cut) end
      → IfThere IsFullDefinition definition → Gives (IsLineCounted size n) (end >>= λ end. Ok (line_with macros line end definition))
  ended_counted Full macros size n count line (Ok end) definition h c left s d = line_with_counted Full macros size n count line end definition h c left s.well.1 d
  ended_counted Full macros size n count line (Err fault) definition h c left s d = tt

  line_counted : (macros : Macros) (size n : ℕ) (line : Line) (r : Result Expanded ConfFault) → AreFull macros → IsLine (Sound bad cut) line → Each IsFilled line.tokens → Leaves n (length line.tokens) line.end → Gives (IsCounted (HaveBytes line.tokens) size (length line.tokens)) r
      → Gives (IsLineCounted size n) (r >>= λ replaced. line.end >>= λ end. Ok (line_with macros replaced end (defined line.tokens replaced.tokens)))
  line_counted macros size n line (Ok instead) h good filled left c =
      ended_counted (HaveBytes line.tokens) macros size n (length line.tokens) instead line.end (defined line.tokens instead.tokens) h c left good.end (defined_full line.tokens instead.tokens good.tokens filled c.full)
  line_counted macros size n line (Err fault) h good filled left c = tt

  line_read_counted : (macros : Macros) (size : ℕ) (rest : List Seen) → AreFull macros → size ≤ most_replaced → Sound bad cut rest → Gives (IsLineCounted size (length rest)) (line_read (strictly bad cut) macros size rest)
  unfolding line_read
  line_read_counted macros size rest h k s =
      let line : Line = first_line (strictly bad cut) rest in
      line_counted macros size (length rest) line (expanded macros size line.tokens) h (first_line_form (Sound bad cut) (strictly bad cut) (first_cut_form bad cut) rest s) (words_filled (strictly bad cut) rest)
      (line_leaves (strictly bad cut) rest) (expanded_counted macros size line.tokens h k)

  -- ---- lines

  more_counted : (size n : ℕ) (line : LineRead) (r : Result (List Token) ConfFault) → IsLineCounted size n line → Gives (FewTokens line.size (length line.rest)) r → Gives (FewTokens size n) (r >>= λ more. Ok (line.tokens ++ more))
  more_counted size n line (Ok more) h k = omega (arith, h.few, k, length-append line.tokens more)
  more_counted size n line (Err fault) h k = tt

  left_counted : (size n lines : ℕ) (r : Result LineRead ConfFault) → Gives (IsLineCounted size n) r
      → ((macros : Macros) (size : ℕ) (rest : List Seen) → AreFull macros → size ≤ most_replaced → Sound bad cut rest → Gives (FewTokens size (length rest)) (lines_in (strictly bad cut) lines macros size rest))
      → Gives (FewTokens size n) (r >>= λ line. lines_in (strictly bad cut) lines line.macros line.size line.rest >>= λ more. Ok (line.tokens ++ more))
  left_counted size n lines (Ok line) h rest = more_counted size n line (lines_in (strictly bad cut) lines line.macros line.size line.rest) h (rest line.macros line.size line.rest h.macros h.within h.rest)
  left_counted size n lines (Err fault) h rest = tt

  lines_counted : (lines : ℕ) (macros : Macros) (size : ℕ) (rest : List Seen) → AreFull macros → size ≤ most_replaced → Sound bad cut rest → Gives (FewTokens size (length rest)) (lines_in (strictly bad cut) lines macros size rest)
  unfolding lines_in
  lines_counted zero macros size rest h k s = omega (arith, k)
  lines_counted (suc lines) macros size [] h k s = omega (arith, k)
  lines_counted (suc lines) macros size (seen ∷ rest) h k s =
      left_counted size (suc (length rest)) lines (line_read (strictly bad cut) macros size (seen ∷ rest)) (line_read_counted macros size (seen ∷ rest) h k s) (lines_counted lines)

-- ---- the whole text

-- no more than the bytes, the end of the text, and what replacements give
abbrev pub AreWithin : ℕ → List Token → Type 0
AreWithin limit found = length found ≤ suc limit + most_replaced

within : (limit : ℕ) (text : List ℕ) (r : Result (List Token) ConfFault) → Gives (FewTokens 0 (length (joined (take limit text)))) r → Gives (AreWithin limit) r
within limit text (Ok found) h = omega (arith, h, joined_length false 1 0 (take limit text), length-take limit text)
within limit text (Err fault) h = tt

pub tokens_within : (limit : ℕ) (text : List ℕ) → Gives (AreWithin limit) (tokens limit text)
unfolding tokens
tokens_within limit text =
    within limit text (tokens limit text)
    (lines_counted (bad_place (is_cut limit text) (take limit text)) (is_cut limit text) (length (joined (take limit text))) no_macros 0 (joined (take limit text)) (λ name. tt) (omega arith) (text_sound (is_cut limit text) (take limit text)))

-- The tokens of a text of the language: those of its own bytes, and those that macros give.
pub few_tokens : (text : List ℕ) (found : List Token) → tokens most_text_bytes text ≡ Ok found → length found ≤ 2097153
few_tokens text found e = subst (Gives (AreWithin most_text_bytes)) e (tokens_within most_text_bytes text)
