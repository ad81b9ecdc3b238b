-- Macros give no more tokens than they give bytes.
use Rattle.std.proofs.Common.{◌≡◌, ℕ, zero, suc, ◌+◌, ◌≤◌, Bool, true, false, cond, ◌&&◌, List, [], ◌∷◌, ◌++◌, length, length-append, drop, map, bytes_eq, Option, Some, None, Result, Ok, Err, refl, sym, arith, true≢false}
use Rattle.std.specs.Prelude.{nat_le, option_and_then, option_map}
use Rattle.std.specs.List.{list_all}
use Rattle.std.specs.Option.{option_map_or}
use Rattle.std.proofs.lemmas.Bool.Decides.{nat_tests}
use Rattle.std.proofs.lemmas.List.Sums.{sum_by-cons}
use Rattle.net_base.specs.declared.conf.ConfFault.{ConfFault}
use Rattle.net_base.specs.declared.conf.ConfKind.TheVariants.{TooLong, UnknownMacro}
use Rattle.conf_tree.specs.declared.token.Token.{Token}
use Rattle.conf_tree.specs.Cuts.{split}
use Rattle.conf_tree.specs.Faults.{◌>>=◌}
use Rattle.conf_tree.specs.Kinds.{is_word, is_quoted, is_mark}
use Rattle.conf_tree.specs.Names.{is_name}
use Rattle.conf_tree.specs.Macros.{Macros, with_macro, followed, Expanded, most_replaced, text_size, moved, given, given_for, asked, unchanged, replaced, expanded, quoted_value, value_of, begins_definition, defined}
use Rattle.conf_tree.specs.Readable.{Each, IfThere}
use Rattle.conf_tree.proofs.Both.{and_first, and_second}
use Rattle.conf_sound.proofs.ChoiceSizes.{length_mapped}
use Rattle.conf_sound.proofs.Finds.{AreGood}
use Rattle.conf_sound.proofs.Lists.{each_map}
use Rattle.conf_tree.proofs.Each.{each_append}
use Rattle.conf_sound.proofs.StatementForms.{Gives}
use Rattle.conf_sound.proofs.CutCounts.{HasBytes, IsFilled, split_full}

-- each of them does
abbrev pub HaveBytes : List Token → Type 0
HaveBytes found = Each HasBytes found

-- each token in the value of a macro has bytes
abbrev pub AreFull : Macros → Type 0
AreFull macros = (name : List ℕ) → IfThere HaveBytes (macros name)

-- Of n tokens, behind so many bytes that replacements gave, come no more than n and one for each byte more. Where those
-- have bytes, all have.
pub record IsCounted (Full : Type 0) (size n : ℕ) (e : Expanded) : Type 0 where
  pub few : length e.tokens + size ≤ n + e.size
  pub grows : size ≤ e.size
  pub within : e.size ≤ most_replaced
  pub full : Full → HaveBytes e.tokens

-- ---- what a token gives

few_of_bytes : (found : List Token) → HaveBytes found → length found ≤ text_size found
few_of_bytes [] h = omega arith
few_of_bytes (token ∷ found) h = omega (arith, h.0, few_of_bytes found h.1, sum_by-cons (λ (t : Token). length t.text) token found)

module _ (Full : Type 0) (size : ℕ) (word : Token) where
  given_counted : (found : List Token) → HaveBytes found → Gives (IsCounted Full size 1) (given word size found)
  given_counted found h = by (nat_le (size + text_size found) most_replaced) refl
    where
      by : (b : Bool) → nat_le (size + text_size found) most_replaced ≡ b
          → Gives (IsCounted Full size 1) (cond b (Ok (record { tokens = map (moved word) found; size = size + text_size found })) (Err (record { line = word.line; kind = TooLong })))
      by true e = record {
        few = omega (arith, few_of_bytes found h, length_mapped (moved word) found);
        grows = omega arith;
        within = grind (arith, nat_tests);
        full = (λ all. each_map HasBytes HasBytes (moved word) found (λ token t. t) h);
      }
      by false e = tt

  followed_full : (value : List Token) (more : List ℕ) → HaveBytes value → IfThere HaveBytes (followed value more)
  followed_full value [] h = h
  followed_full [] (b ∷ more) h = tt
  followed_full (token ∷ []) (b ∷ more) h = (omega (arith, length-append token.text (b ∷ more)), tt)
  followed_full (token ∷ another ∷ others) (b ∷ more) h = tt

  given_for_counted : (macros : Macros) (asking : List ℕ × List ℕ) → AreFull macros → Gives (IsCounted Full size 1) (given_for macros size word asking)
  given_for_counted macros asking h = by (macros asking.0) (h asking.0)
    where
      last : (value : Option (List Token)) → IfThere HaveBytes value → Gives (IsCounted Full size 1) (option_map_or (given word size) value (Err (record { line = word.line; kind = UnknownMacro })))
      last None g = tt
      last (Some value) g = given_counted value g

      by : (value : Option (List Token)) → IfThere HaveBytes value
          → Gives (IsCounted Full size 1) (option_map_or (given word size) (option_and_then (λ value. followed value asking.1) value) (Err (record { line = word.line; kind = UnknownMacro })))
      by None g = tt
      by (Some value) g = last (followed value asking.1) (followed_full value asking.1 g)

unchanged_counted : (size : ℕ) (token : Token) → size ≤ most_replaced → IsCounted (HasBytes token) size 1 (unchanged size token)
unchanged_counted size token h = record { few = omega arith; grows = omega arith; within = h; full = (λ t. (t, tt)) }

replaced_counted : (macros : Macros) (size : ℕ) (token : Token) → AreFull macros → size ≤ most_replaced → Gives (IsCounted (HasBytes token) size 1) (replaced macros size token)
unfolding replaced
replaced_counted macros size token full h = by (is_word token.kind) (asking (asked token.text))
  where
    asking : (name : Option (List ℕ × List ℕ)) → Gives (IsCounted (HasBytes token) size 1) (option_map_or (given_for macros size token) name (Ok (unchanged size token)))
    asking None = unchanged_counted size token h
    asking (Some name) = given_for_counted (HasBytes token) size token macros name full

    by : (b : Bool) → Gives (IsCounted (HasBytes token) size 1) (option_map_or (given_for macros size token) (asked token.text) (Ok (unchanged size token)))
        → Gives (IsCounted (HasBytes token) size 1) (cond b (option_map_or (given_for macros size token) (asked token.text) (Ok (unchanged size token))) (Ok (unchanged size token)))
    by true k = k
    by false k = unchanged_counted size token h

-- ---- what a line gives

module _ (macros : Macros) (token : Token) (found : List Token) where
  both_counted : (size : ℕ) (here : Expanded) (r : Result Expanded ConfFault) → IsCounted (HasBytes token) size 1 here → Gives (IsCounted (HaveBytes found) here.size (length found)) r
      → Gives (IsCounted (HaveBytes (token ∷ found)) size (length (token ∷ found))) (r >>= λ more. Ok (record { tokens = here.tokens ++ more.tokens; size = more.size }))
  both_counted size here (Ok more) h k = record {
    few = omega (arith, h.few, k.few, length-append here.tokens more.tokens);
    grows = omega (arith, h.grows, k.grows);
    within = k.within;
    full = (λ all. each_append HasBytes here.tokens more.tokens (h.full all.0) (k.full all.1));
  }
  both_counted size here (Err fault) h k = tt

  then_counted : (size : ℕ) (r : Result Expanded ConfFault) → Gives (IsCounted (HasBytes token) size 1) r → ((behind : ℕ) → behind ≤ most_replaced → Gives (IsCounted (HaveBytes found) behind (length found)) (expanded macros behind found))
      → Gives (IsCounted (HaveBytes (token ∷ found)) size (length (token ∷ found))) (r >>= λ here. expanded macros here.size found >>= λ more. Ok (record { tokens = here.tokens ++ more.tokens; size = more.size }))
  then_counted size (Ok here) h rest = both_counted size here (expanded macros here.size found) h (rest here.size h.within)
  then_counted size (Err fault) h rest = tt

pub expanded_counted : (macros : Macros) (size : ℕ) (found : List Token) → AreFull macros → size ≤ most_replaced → Gives (IsCounted (HaveBytes found) size (length found)) (expanded macros size found)
expanded_counted macros size [] full h = record { few = omega arith; grows = omega arith; within = h; full = (λ all. tt) }
expanded_counted macros size (token ∷ found) full h =
    then_counted macros token found size (replaced macros size token) (replaced_counted macros size token full h) (λ behind k. expanded_counted macros behind found full k)

-- ---- what a line defines

quoted_value_full : (found : List Token) → AreGood found → IfThere HaveBytes (quoted_value found)
quoted_value_full [] g = tt
quoted_value_full (token ∷ []) g = by (is_quoted token.kind) refl
  where
    by : (b : Bool) → is_quoted token.kind ≡ b → IfThere HaveBytes (cond b (Some (split token.text)) None)
    by true e = split_full token.text (g.0.inside e)
    by false e = tt
quoted_value_full (token ∷ another ∷ others) g = tt

words_full : (found : List Token) → Each IsFilled found → list_all (λ token. is_word token.kind) found ≡ true → HaveBytes found
words_full [] h e = tt
words_full (token ∷ found) h e = (h.0 (and_first (is_word token.kind) (list_all (λ t. is_word t.kind) found) e), words_full found h.1 (and_second (is_word token.kind) (list_all (λ t. is_word t.kind) found) e))

value_of_full : (found instead : List Token) → AreGood found → Each IsFilled found → (HaveBytes found → HaveBytes instead) → IfThere HaveBytes (value_of found instead)
value_of_full found instead g h k = by (list_all (λ token. is_word token.kind) found) refl
  where
    by : (b : Bool) → list_all (λ token. is_word token.kind) found ≡ b → IfThere HaveBytes (cond b (Some instead) (quoted_value found))
    by true e = k (words_full found h e)
    by false e = quoted_value_full found g

drop_full : (n : ℕ) (found : List Token) → HaveBytes found → HaveBytes (drop n found)
drop_full zero found h = h
drop_full (suc n) [] h = tt
drop_full (suc n) (token ∷ found) h = drop_full n found h.1

equals_full : (text : List ℕ) → bytes_eq text (61 ∷ []) ≡ true → 1 ≤ length text
equals_full [] e = absurd (true≢false (sym e))
equals_full (b ∷ text) e = omega arith

-- a name and a value whose tokens have bytes
abbrev pub IsFullDefinition : List ℕ × List Token → Type 0
IsFullDefinition definition = HaveBytes definition.1

pub defined_full : (found instead : List Token) → AreGood found → Each IsFilled found → (HaveBytes found → HaveBytes instead) → IfThere IsFullDefinition (defined found instead)
defined_full [] instead g h k = tt
defined_full (name ∷ []) instead g h k = tt
defined_full (name ∷ equals ∷ value) instead g h k = by (begins_definition name equals) refl
  where
    valued : (o : Option (List Token)) → IfThere HaveBytes o → IfThere IsFullDefinition (option_map (λ found. (name.text, found)) o)
    valued None h = tt
    valued (Some found) h = h

    by : (b : Bool) → begins_definition name equals ≡ b → IfThere IsFullDefinition (cond b (option_map (λ found. (name.text, found)) (value_of value (drop 2 instead))) None)
    by true e =
        let front = and_first (is_word name.kind && is_name name.text) (is_mark equals.kind && bytes_eq equals.text (61 ∷ [])) e in
        let back = and_second (is_word name.kind && is_name name.text) (is_mark equals.kind && bytes_eq equals.text (61 ∷ [])) e in
        let first : HasBytes name = h.0 (and_first (is_word name.kind) (is_name name.text) front) in
        let second : HasBytes equals = equals_full equals.text (and_second (is_mark equals.kind) (bytes_eq equals.text (61 ∷ [])) back) in
        valued (value_of value (drop 2 instead)) (value_of_full value (drop 2 instead) g.1.1 h.1.1 (λ rest. drop_full 2 instead (k (first, (second, rest)))))
    by false e = tt

pub with_macro_full : (macros : Macros) (name : List ℕ) (value : List Token) → AreFull macros → HaveBytes value → AreFull (with_macro macros name value)
with_macro_full macros name value h g other = by (bytes_eq name other)
  where
    by : (b : Bool) → IfThere HaveBytes (cond b (Some value) (macros other))
    by true = g
    by false = h other
