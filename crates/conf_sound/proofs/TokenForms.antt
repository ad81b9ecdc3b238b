-- The tokens of a text are good, with its macros replaced.
use Rattle.std.proofs.Common.{◌≡◌, ℕ, zero, suc, ◌+◌, Bool, true, false, cond, List, [], ◌∷◌, ◌++◌, length, take, drop, map, bytes_eq, Option, Some, None, Result, Ok, Err, refl}
use Rattle.std.specs.Prelude.{nat_le, option_and_then, option_map}
use Rattle.std.specs.List.{list_all}
use Rattle.std.specs.Option.{option_map_or}
use Rattle.net_base.specs.declared.conf.ConfFault.{ConfFault}
use Rattle.net_base.specs.declared.conf.ConfKind.TheVariants.{TooLong, UnknownMacro}
use Rattle.conf_tree.specs.declared.token.Token.{Token}
use Rattle.conf_tree.specs.Joined.{Seen, joined}
use Rattle.conf_tree.specs.Cuts.{is_cut, bad_place, Cut, Line, first_line, split}
use Rattle.conf_tree.specs.Faults.{◌>>=◌}
use Rattle.conf_tree.specs.Kinds.{is_word, is_quoted}
use Rattle.conf_tree.specs.Macros.{Macros, no_macros, with_macro, followed, Expanded, most_replaced, text_size, moved, given, given_for, asked, unchanged, replaced, expanded, quoted_value, value_of, begins_definition, defined}
use Rattle.conf_tree.specs.Tokens.{LineRead, line_with, line_read, lines_in, tokens}
use Rattle.conf_tree.specs.Readable.{IfThere}
use Rattle.conf_sound.proofs.Finds.{IsGood, AreGood}
use Rattle.conf_sound.proofs.Lists.{each_map}
use Rattle.conf_tree.proofs.Each.{each_append}
use Rattle.conf_sound.proofs.ReadingForms.{good_drop}
use Rattle.conf_sound.proofs.StatementForms.{Gives}
use Rattle.conf_sound.proofs.CutForms.{plain_good, CutsWell, IsLine, first_line_form, split_form}
use Rattle.conf_sound.proofs.SoundCuts.{Sound, strictly, first_cut_form}
use Rattle.conf_sound.proofs.TextRules.{text_sound}

-- ---- what a token gives

-- the values of macros are good
abbrev pub AreGoodMacros : Macros → Type 0
AreGoodMacros macros = (name : List ℕ) → IfThere AreGood (macros name)

abbrev pub IsGoodExpanded : Expanded → Type 0
IsGoodExpanded e = AreGood e.tokens

moved_good : (word token : Token) → IsGood token → IsGood (moved word token)
moved_good word token g = record { inside = g.inside; utf8 = g.utf8 }

given_good : (word : Token) (size : ℕ) (found : List Token) → AreGood found → Gives IsGoodExpanded (given word size found)
given_good word size found g = by (nat_le (size + text_size found) most_replaced)
  where
    by : (b : Bool) → Gives IsGoodExpanded (cond b (Ok (record { tokens = map (moved word) found; size = size + text_size found })) (Err (record { line = word.line; kind = TooLong })))
    by true = each_map IsGood IsGood (moved word) found (moved_good word) g
    by false = tt

followed_good : (value : List Token) (more : List ℕ) → AreGood value → IfThere AreGood (followed value more)
followed_good value [] g = g
followed_good [] (b ∷ more) g = tt
followed_good (token ∷ []) (b ∷ more) g = (plain_good _ refl, tt)
followed_good (token ∷ another ∷ others) (b ∷ more) g = tt

given_for_good : (macros : Macros) (size : ℕ) (word : Token) (asking : List ℕ × List ℕ) → AreGoodMacros macros → Gives IsGoodExpanded (given_for macros size word asking)
given_for_good macros size word asking h = by (macros asking.0) (h asking.0)
  where
    last : (value : Option (List Token)) → IfThere AreGood value → Gives IsGoodExpanded (option_map_or (given word size) value (Err (record { line = word.line; kind = UnknownMacro })))
    last None g = tt
    last (Some value) g = given_good word size value g

    by : (value : Option (List Token)) → IfThere AreGood value
        → Gives IsGoodExpanded (option_map_or (given word size) (option_and_then (λ value. followed value asking.1) value) (Err (record { line = word.line; kind = UnknownMacro })))
    by None g = tt
    by (Some value) g = last (followed value asking.1) (followed_good value asking.1 g)

replaced_good : (macros : Macros) (size : ℕ) (token : Token) → AreGoodMacros macros → IsGood token → Gives IsGoodExpanded (replaced macros size token)
unfolding replaced
replaced_good macros size token h g = by (is_word token.kind) (asking (asked token.text))
  where
    asking : (name : Option (List ℕ × List ℕ)) → Gives IsGoodExpanded (option_map_or (given_for macros size token) name (Ok (unchanged size token)))
    asking None = (g, tt)
    asking (Some name) = given_for_good macros size token name h

    by : (b : Bool) → Gives IsGoodExpanded (option_map_or (given_for macros size token) (asked token.text) (Ok (unchanged size token)))
        → Gives IsGoodExpanded (cond b (option_map_or (given_for macros size token) (asked token.text) (Ok (unchanged size token))) (Ok (unchanged size token)))
    by true k = k
    by false k = (g, tt)

both_good : (here : Expanded) (r : Result Expanded ConfFault) → AreGood here.tokens → Gives IsGoodExpanded r → Gives IsGoodExpanded (r >>= λ more. Ok (record { tokens = here.tokens ++ more.tokens; size = more.size }))
both_good here (Ok more) g k = each_append IsGood here.tokens more.tokens g k
both_good here (Err fault) g k = tt

then_good : (macros : Macros) (found : List Token) (r : Result Expanded ConfFault) → Gives IsGoodExpanded r → ((size : ℕ) → Gives IsGoodExpanded (expanded macros size found))
    → Gives IsGoodExpanded (r >>= λ here. expanded macros here.size found >>= λ more. Ok (record { tokens = here.tokens ++ more.tokens; size = more.size }))
then_good macros found (Ok here) g k = both_good here (expanded macros here.size found) g (k here.size)
then_good macros found (Err fault) g k = tt

expanded_good : (macros : Macros) (size : ℕ) (found : List Token) → AreGoodMacros macros → AreGood found → Gives IsGoodExpanded (expanded macros size found)
expanded_good macros size [] h g = tt
expanded_good macros size (token ∷ found) h g = then_good macros found (replaced macros size token) (replaced_good macros size token h g.0) (λ size. expanded_good macros size found h g.1)

-- ---- what a line defines

quoted_value_good : (found : List Token) → AreGood found → IfThere AreGood (quoted_value found)
quoted_value_good [] g = tt
quoted_value_good (token ∷ []) g = by (is_quoted token.kind) refl
  where
    by : (b : Bool) → is_quoted token.kind ≡ b → IfThere AreGood (cond b (Some (split token.text)) None)
    by true e = split_form token.text (g.0.inside e)
    by false e = tt
quoted_value_good (token ∷ another ∷ others) g = tt

value_of_good : (found instead : List Token) → AreGood found → AreGood instead → IfThere AreGood (value_of found instead)
value_of_good found instead g k = by (list_all (λ token. is_word token.kind) found)
  where
    by : (b : Bool) → IfThere AreGood (cond b (Some instead) (quoted_value found))
    by true = k
    by false = quoted_value_good found g

-- a name and a value that is good
abbrev pub IsGoodDefinition : List ℕ × List Token → Type 0
IsGoodDefinition definition = AreGood definition.1

defined_good : (found instead : List Token) → AreGood found → AreGood instead → IfThere IsGoodDefinition (defined found instead)
defined_good [] instead g k = tt
defined_good (name ∷ []) instead g k = tt
defined_good (name ∷ equals ∷ value) instead g k = by (begins_definition name equals) (value_of value (drop 2 instead)) (value_of_good value (drop 2 instead) g.1.1 (good_drop 2 instead k))
  where
    by : (b : Bool) (o : Option (List Token)) → IfThere AreGood o → IfThere IsGoodDefinition (cond b (option_map (λ found. (name.text, found)) o) None)
    by true None h = tt
    by true (Some found) h = h
    by false o h = tt

with_macro_good : (macros : Macros) (name : List ℕ) (value : List Token) → AreGoodMacros macros → AreGood value → AreGoodMacros (with_macro macros name value)
with_macro_good macros name value h g other = by (bytes_eq name other)
  where
    by : (b : Bool) → IfThere AreGood (cond b (Some value) (macros other))
    by true = g
    by false = h other

-- ---- lines

module _ (bad : ℕ) (cut : Bool) where
  -- what a line leaves
  pub record IsLeft (line : LineRead) : Type 0 where
    pub tokens : AreGood line.tokens
    pub macros : AreGoodMacros line.macros
    pub rest : Sound bad cut line.rest

  line_with_good : (macros : Macros) (line : Expanded) (end : Token × List Seen) (definition : Option (List ℕ × List Token)) → AreGoodMacros macros → AreGood line.tokens → IsGood end.0 → Sound bad cut end.1 → IfThere IsGoodDefinition definition
      → IsLeft (line_with macros line end definition)
  line_with_good macros line end None h g e s d = record { tokens = each_append IsGood line.tokens (end.0 ∷ []) g (e, tt); macros = h; rest = s }
  line_with_good macros line end (Some definition) h g e s d = record { tokens = (e, tt); macros = with_macro_good macros definition.0 definition.1 h d; rest = s }

  ended_good : (macros : Macros) (line : Expanded) (end : Cut) (definition : Option (List ℕ × List Token)) → AreGoodMacros macros → AreGood line.tokens → CutsWell (Sound bad cut) end → IfThere IsGoodDefinition definition
      → Gives IsLeft (end >>= λ end. Ok (line_with macros line end definition))
  ended_good macros line (Ok end) definition h g c d = line_with_good macros line end definition h g c.well.0 c.well.1 d
  ended_good macros line (Err fault) definition h g c d = tt

  line_good : (macros : Macros) (line : Line) (r : Result Expanded ConfFault) → AreGoodMacros macros → AreGood line.tokens → CutsWell (Sound bad cut) line.end → Gives IsGoodExpanded r
      → Gives IsLeft (r >>= λ replaced. line.end >>= λ end. Ok (line_with macros replaced end (defined line.tokens replaced.tokens)))
  line_good macros line (Ok instead) h g c k = ended_good macros instead line.end (defined line.tokens instead.tokens) h k c (defined_good line.tokens instead.tokens g k)
  line_good macros line (Err fault) h g c k = tt

  line_read_good : (macros : Macros) (size : ℕ) (rest : List Seen) → AreGoodMacros macros → Sound bad cut rest → Gives IsLeft (line_read (strictly bad cut) macros size rest)
  unfolding line_read
  line_read_good macros size rest h s =
      let line : Line = first_line (strictly bad cut) rest in
      let good : IsLine (Sound bad cut) line = first_line_form (Sound bad cut) (strictly bad cut) (first_cut_form bad cut) rest s in
      line_good macros line (expanded macros size line.tokens) h good.tokens good.end (expanded_good macros size line.tokens h good.tokens)

  more_good : (line : LineRead) (r : Result (List Token) ConfFault) → AreGood line.tokens → Gives AreGood r → Gives AreGood (r >>= λ more. Ok (line.tokens ++ more))
  more_good line (Ok more) g k = each_append IsGood line.tokens more g k
  more_good line (Err fault) g k = tt

  left_good : (n : ℕ) (r : Result LineRead ConfFault) → Gives IsLeft r → ((macros : Macros) (size : ℕ) (rest : List Seen) → AreGoodMacros macros → Sound bad cut rest → Gives AreGood (lines_in (strictly bad cut) n macros size rest))
      → Gives AreGood (r >>= λ line. lines_in (strictly bad cut) n line.macros line.size line.rest >>= λ more. Ok (line.tokens ++ more))
  left_good n (Ok line) k lines = more_good line (lines_in (strictly bad cut) n line.macros line.size line.rest) k.tokens (lines line.macros line.size line.rest k.macros k.rest)
  left_good n (Err fault) k lines = tt

  lines_good : (n : ℕ) (macros : Macros) (size : ℕ) (rest : List Seen) → AreGoodMacros macros → Sound bad cut rest → Gives AreGood (lines_in (strictly bad cut) n macros size rest)
  unfolding lines_in
  lines_good zero macros size rest h s = tt
  lines_good (suc n) macros size [] h s = tt
  lines_good (suc n) macros size (seen ∷ rest) h s = left_good n (line_read (strictly bad cut) macros size (seen ∷ rest)) (line_read_good macros size (seen ∷ rest) h s) (lines_good n)

-- the tokens of a text
pub tokens_form : (limit : ℕ) (text : List ℕ) → Gives AreGood (tokens limit text)
unfolding tokens
tokens_form limit text =
    lines_good (bad_place (is_cut limit text) (take limit text)) (is_cut limit text) (length (joined (take limit text))) no_macros 0 (joined (take limit text)) (λ name. tt) (text_sound (is_cut limit text) (take limit text))
