-- A configuration has no more named sets than its text has tokens.
use Rattle.std.proofs.Common.{◌≡◌, ℕ, zero, suc, ◌+◌, ◌≤◌, Bool, true, false, cond, eqb, List, [], ◌∷◌, length, map, Option, Some, None, Result, Ok, Err, arith, subst}
use Rattle.std.specs.Option.{option_map_or}
use Rattle.std.specs.Ordering.{nat_cmp}
use Rattle.std.specs.declared.cmp.Ordering.{Ordering}
use Rattle.net_base.specs.declared.conf.ConfFault.{ConfFault}
use Rattle.conf_tree.specs.declared.conf.Conf.{Conf}
use Rattle.conf_tree.specs.declared.draft.Draft.{Draft}
use Rattle.conf_tree.specs.declared.draft.Statement.{Statement}
use Rattle.conf_tree.specs.declared.draft.Statement.TheVariants as says
use Rattle.conf_tree.specs.declared.draft.StatementLine.{StatementLine}
use Rattle.conf_tree.specs.declared.token.Token.{Token}
use Rattle.conf_tree.specs.Faults.{◌>>=◌}
use Rattle.conf_tree.specs.Reading.{Reading}
use Rattle.conf_tree.specs.Said.{said, prefix_set_of, as_set_of, origin_set_of}
use Rattle.conf_tree.specs.Flat.{text_cmp, range_cmp, roa_cmp, in_order, by_key, prefix_sets_of, as_sets_of, origin_sets_of, frame_of, flat}
use Rattle.conf_tree.specs.Tokens.{tokens}
use Rattle.conf_tree.specs.StatementReading.{Room, all_room, room_behind, statement_line_at, after_empty_lines, statements_at, draft_of}
use Rattle.conf_tree.specs.Checks.{first_fault, checked}
use Rattle.conf_tree.specs.Language.{most_text_bytes, draft_within, configuration_within, configuration}
use Rattle.conf_tree.specs.Macros.{most_replaced}
use Rattle.conf_tree.specs.Readable.{total}
use Rattle.conf_sound.proofs.ChoiceSizes.{length_mapped}
use Rattle.conf_sound.proofs.LimitForms.{said_size}
use Rattle.conf_sound.proofs.Sizes.{by_key_size}
use Rattle.conf_sound.proofs.StatementForms.{Gives}
use Rattle.conf_sound.proofs.Totals.{there, total_le, total_both, total_ones}
use Rattle.conf_sound.proofs.Whole.{gives_then}
use Rattle.conf_sound.specs.Numbers.{sets_of}
use Rattle.conf_sound.proofs.TokenCounts.{AreWithin, tokens_within}

-- ---- statements

abbrev AreAtMost : ℕ → List StatementLine → Type 0
AreAtMost most lines = length lines ≤ most

others_few : (most : ℕ) (first : StatementLine) (r : Result (List StatementLine) ConfFault) → Gives (AreAtMost most) r → Gives (AreAtMost (suc most)) (r >>= λ others. Ok (first ∷ others))
others_few most first (Ok others) h = omega (arith, h)
others_few most first (Err fault) h = tt

first_few : (room : Room) (most : ℕ) (r : Reading StatementLine) → ((left : Room) (found : List Token) → Gives (AreAtMost most) (statements_at left most found))
    → Gives (AreAtMost (suc most)) (r >>= λ first. statements_at (room_behind room first.0.statement) most first.1 >>= λ others. Ok (first.0 ∷ others))
first_few room most (Ok first) rest = others_few most first.0 (statements_at (room_behind room first.0.statement) most first.1) (rest (room_behind room first.0.statement) first.1)
first_few room most (Err fault) rest = tt

none_or : (most : ℕ) (b : Bool) (r : Result (List StatementLine) ConfFault) → Gives (AreAtMost most) r → Gives (AreAtMost most) (cond b (Ok []) r)
none_or most true r h = omega arith
none_or most false r h = h

statements_few : (most : ℕ) (room : Room) (found : List Token) → Gives (AreAtMost most) (statements_at room most found)
unfolding statements_at
statements_few zero room found = omega arith
statements_few (suc most) room found = none_or (suc most) (eqb (length (after_empty_lines found)) 0) _ (first_few room most (statement_line_at room (after_empty_lines found)) (statements_few most))

abbrev IsDraftOf : ℕ → Draft → Type 0
IsDraftOf limit draft = length draft.statements ≤ suc limit + most_replaced

draft_few : (limit : ℕ) (found : List Token) → AreWithin limit found → Gives (IsDraftOf limit) (draft_of found)
unfolding draft_of
draft_few limit found h = by (statements_at all_room (length found) found) (statements_few (length found) all_room found)
  where
    by : (r : Result (List StatementLine) ConfFault) → Gives (AreAtMost (length found)) r → Gives (IsDraftOf limit) (r >>= λ statements. Ok (record { statements = statements }))
    by (Ok statements) k = omega (arith, h, k)
    by (Err fault) k = tt

-- ---- sets

-- a statement names at most one set
abbrev names : Statement → ℕ
names s = there (λ x. 1) (prefix_set_of s) + (there (λ x. 1) (as_set_of s) + there (λ x. 1) (origin_set_of s))

one_set : (s : Statement) → names s ≤ 1
one_set (says.PrefixSet name entries) = omega arith
one_set (says.AsSet name numbers) = omega arith
one_set (says.OriginSet name entries) = omega arith
one_set _ = omega arith

-- sets by name are no more than the statements that name one
named_size : {A S : Type 0} (cmp : A → A → Ordering) (what : Statement → Option (List ℕ × List A)) (make : List ℕ × List A → S) (lines : List StatementLine)
    → length (map make (by_key text_cmp (map (λ set. (set.0, in_order cmp set.1)) (said what lines)))) ≤ total (λ l. there (λ x. 1) (what l.statement)) lines
named_size {A} cmp what make lines =
    let ordered : List ℕ × List A → List ℕ × List A = λ set. (set.0, in_order cmp set.1) in
    let all : List (List ℕ × List A) = map ordered (said what lines) in
    omega (arith, length_mapped make (by_key text_cmp all), by_key_size text_cmp all, length_mapped ordered (said what lines), said_size what lines)

module _ (lines : List StatementLine) where
  prefix_sets_size : length (prefix_sets_of lines) ≤ total (λ l. there (λ x. 1) (prefix_set_of l.statement)) lines
  prefix_sets_size = named_size range_cmp prefix_set_of (λ set. record { name = set.0; entries = set.1 }) lines

  as_sets_size : length (as_sets_of lines) ≤ total (λ l. there (λ x. 1) (as_set_of l.statement)) lines
  as_sets_size = named_size nat_cmp as_set_of (λ set. record { name = set.0; numbers = set.1 }) lines

  origin_sets_size : length (origin_sets_of lines) ≤ total (λ l. there (λ x. 1) (origin_set_of l.statement)) lines
  origin_sets_size = named_size roa_cmp origin_set_of (λ set. record { name = set.0; entries = set.1 }) lines

  named_few : total (λ l. there (λ x. 1) (prefix_set_of l.statement)) lines + (total (λ l. there (λ x. 1) (as_set_of l.statement)) lines + total (λ l. there (λ x. 1) (origin_set_of l.statement)) lines) ≤ length lines
  named_few =
      let fewer = total_le (λ (l : StatementLine). names l.statement) (λ l. 1) lines (λ l. one_set l.statement) in
      let two = total_both (λ (l : StatementLine). there (λ x. 1) (as_set_of l.statement)) (λ l. there (λ x. 1) (origin_set_of l.statement)) lines in
      let three = total_both (λ (l : StatementLine). there (λ x. 1) (prefix_set_of l.statement)) (λ l. there (λ x. 1) (as_set_of l.statement) + there (λ x. 1) (origin_set_of l.statement)) lines in
      omega (arith, fewer, two, three, total_ones lines)

  sets_few : sets_of (flat lines) ≤ length lines
  unfolding flat frame_of
  sets_few = omega (arith, prefix_sets_size, as_sets_size, origin_sets_size, named_few)

-- ---- the whole text

abbrev HasFewSets : ℕ → Conf → Type 0
HasFewSets limit conf = sets_of conf ≤ suc limit + most_replaced

checked_few : (limit : ℕ) (draft : Draft) → IsDraftOf limit draft → Gives (HasFewSets limit) (checked draft)
unfolding checked
checked_few limit draft h = by (first_fault draft.statements)
  where
    by : (fault : Option ConfFault) → Gives (HasFewSets limit) (option_map_or Err fault (Ok (flat draft.statements)))
    by None = omega (arith, h, sets_few draft.statements)
    by (Some fault) = tt

draft_within_few : (limit : ℕ) (text : List ℕ) → Gives (IsDraftOf limit) (draft_within limit text)
unfolding draft_within
draft_within_few limit text = gives_then (AreWithin limit) (IsDraftOf limit) draft_of (draft_few limit) (tokens limit text) (tokens_within limit text)

configuration_few : (limit : ℕ) (text : List ℕ) → Gives (HasFewSets limit) (configuration_within limit text)
unfolding configuration_within
configuration_few limit text = gives_then (IsDraftOf limit) (HasFewSets limit) checked (checked_few limit) (draft_within limit text) (draft_within_few limit text)

-- The named sets of a configuration of a text of the language.
pub few_sets : (text : List ℕ) (conf : Conf) → configuration text ≡ Ok conf → sets_of conf ≤ 2097153
few_sets text conf e = subst (Gives (HasFewSets most_text_bytes)) e (configuration_few most_text_bytes text)
