-- A canonical text is read as the draft that its definition says.
use Rattle.std.proofs.Common.{◌≡◌, ◌∙◌, ℕ, suc, ◌+◌, ◌≤◌, Bool, true, false, List, [], ◌∷◌, ◌++◌, length, length-append, map, filter, flat_map, codes, Ok, refl, ap, sym, arith}
use Rattle.std.proofs.lemmas.List.{length-map}
use Rattle.net_base.specs.declared.roa.Roa.{Roa}
use Rattle.conf_tree.specs.declared.conf.Conf.{Conf}
use Rattle.conf_tree.specs.declared.draft.NeighbourBlock.{NeighbourBlock}
use Rattle.conf_tree.specs.declared.draft.NeighbourOption.{NeighbourOption}
use Rattle.conf_tree.specs.declared.draft.Statement.TheVariants as says
use Rattle.conf_tree.specs.declared.draft.StatementLine.{StatementLine}
use Rattle.conf_tree.specs.declared.neighbour.Neighbour.{Neighbour}
use Rattle.conf_tree.specs.Canonical.{is_alone, is_of_group, group_names, canonical}
use Rattle.conf_tree.specs.CanonicalDraft.{options_of, block_of, block_length, blocks_of, StatementUnit, line_unit, qualify_units, listen_unit, rib_unit, prefix_set_unit, as_set_unit, origin_set_unit, roa_units, network_unit, neighbour_unit, group_unit, rule_unit, units_of, statements_from, canonical_draft}
use Rattle.conf_tree.specs.Language.{draft_within}
use Rattle.conf_tree.specs.Readable.{Each, IsNeighbour, IsReadable, IsWithinLimits, members_of, total}
use Rattle.conf_tree.specs.StatementReading.{draft_of}
use Rattle.conf_tree.proofs.Each.{each_filter}
use Rattle.conf_round.proofs.Pieces.{Piece}
use Rattle.conf_round.proofs.Lines.{shut}
use Rattle.conf_round.proofs.SetLines.{block_lines, range_pieces, number_pieces, roa_pieces, head_pieces}
use Rattle.conf_round.proofs.RuleLines.{option_lines, neighbour_lines, group_lines}
use Rattle.conf_round.proofs.Texts.{lines_tokens}
use Rattle.conf_round.proofs.GoodRules.{canonical_tokens}
use Rattle.conf_round.proofs.ReadOptions.{ReadAs, options_read}
use Rattle.conf_round.proofs.ReadNeighbours.{next_line, blocks_read, neighbour_head, group_head}
use Rattle.conf_round.proofs.ReadSets.{roa_head}
use Rattle.conf_round.proofs.ReadUnits.{shut_lines}
use Rattle.conf_round.proofs.ReadWhole.{Printed, printed_from, draft_back}
use Rattle.conf_round.proofs.ReadConf.{qualify_printed, listen_printed, rib_printed, prefix_set_printed, as_set_printed, origin_set_printed, roa_printed, network_printed, neighbour_printed, group_printed, rule_printed, printed_of, printed_lines, printed_say}

-- a printed statement, of whose lines only their number counts
abbrev counted : Printed → StatementUnit
counted u = (length u.0, u.1)

same_from : (line : ℕ) (us : List Printed) → printed_from line us ≡ statements_from line (map counted us)
same_from line [] = refl
same_from line (u ∷ us) = ap (λ (ls : List StatementLine). record { line = line; statement = u.1 line } ∷ ls) (same_from (line + length u.0) us)

-- ---- lines of blocks

lines_of_block : (head : List Piece) (inner : List (List Piece)) → length (block_lines head inner) ≡ length inner + 2
lines_of_block head inner = omega (arith, length-append inner ((shut ∷ []) ∷ []))

lines_of_entries : {A : Type 0} (head : List Piece) (f : A → List Piece) (xs : List A) → length (block_lines head (map f xs)) ≡ length xs + 2
lines_of_entries head f xs = lines_of_block head (map f xs) ∙ ap (λ (n : ℕ). n + 2) (length-map xs f)

lines_of_options : (ls : List (List Piece)) (os : List NeighbourOption) → ReadAs ls os → length ls ≡ length os
lines_of_options [] [] r = refl
lines_of_options [] (o ∷ os) r = absurd r
lines_of_options (l ∷ ls) [] r = absurd r
lines_of_options (l ∷ ls) (o ∷ os) r = ap suc (lines_of_options ls os r.2)

module _ (conf : Conf) where
  options_length : (n : Neighbour) → IsNeighbour conf n → length (option_lines conf n) ≡ length (options_of conf n)
  options_length n h = lines_of_options (option_lines conf n) (options_of conf n) (options_read conf n h)

  lines_of_neighbour : (n : Neighbour) → IsNeighbour conf n → length (neighbour_lines conf n) ≡ block_length conf n
  lines_of_neighbour n h = lines_of_block (neighbour_head n) (option_lines conf n) ∙ ap (λ (m : ℕ). m + 2) (options_length n h)

  lines_of_members : (ns : List Neighbour) → Each (IsNeighbour conf) ns → length (flat_map (neighbour_lines conf) ns) ≡ total (block_length conf) ns
  lines_of_members [] h = refl
  lines_of_members (n ∷ ns) h = omega (arith, length-append (neighbour_lines conf n) (flat_map (neighbour_lines conf) ns), lines_of_neighbour n h.0, lines_of_members ns h.1)

  next_same : (line : ℕ) (n : Neighbour) → IsNeighbour conf n → next_line conf line n ≡ line + block_length conf n
  next_same line n h = omega (arith, shut_lines (line + 1) (option_lines conf n), options_length n h)

  blocks_same : (line : ℕ) (ns : List Neighbour) → Each (IsNeighbour conf) ns → blocks_read conf line ns ≡ blocks_of conf line ns
  blocks_same line [] h = refl
  blocks_same line (n ∷ ns) h =
      ap (λ (bs : List NeighbourBlock). block_of conf line n ∷ bs) (ap (λ (next : ℕ). blocks_read conf next ns) (next_same line n h.0) ∙ blocks_same (line + block_length conf n) ns h.1)

-- ---- statements of one kind in front of others

kind_counted : {A : Type 0} (Is : A → Type 0) (printed : A → Printed) (unit : A → StatementUnit) → ((x : A) → Is x → counted (printed x) ≡ unit x)
    → (us : List Printed) (vs : List StatementUnit) → map counted us ≡ vs → (xs : List A) → Each Is xs → map counted (map printed xs ++ us) ≡ map unit xs ++ vs
kind_counted Is printed unit same us vs e [] h = e
kind_counted Is printed unit same us vs e (x ∷ xs) h = λ i. same x h.0 i ∷ kind_counted Is printed unit same us vs e xs h.1 i

each_any : {A : Type 0} (xs : List A) → Each (λ _. Unit {0}) xs
each_any [] = tt
each_any (x ∷ xs) = (tt, each_any xs)

-- of any value
any_counted : {A : Type 0} (printed : A → Printed) (unit : A → StatementUnit) → ((x : A) → counted (printed x) ≡ unit x) → (us : List Printed) (vs : List StatementUnit) → map counted us ≡ vs → (xs : List A)
    → map counted (map printed xs ++ us) ≡ map unit xs ++ vs
any_counted printed unit same us vs e xs = kind_counted (λ _. Unit {0}) printed unit (λ x h. same x) us vs e xs (each_any xs)

last_counted : {A : Type 0} (printed : A → Printed) (unit : A → StatementUnit) → ((x : A) → counted (printed x) ≡ unit x) → (xs : List A) → map counted (map printed xs) ≡ map unit xs
last_counted printed unit same [] = refl
last_counted printed unit same (x ∷ xs) = λ i. same x i ∷ last_counted printed unit same xs i

qualify_counted : (flag : Bool) (us : List Printed) (vs : List StatementUnit) → map counted us ≡ vs → map counted (qualify_printed flag ++ us) ≡ qualify_units flag ++ vs
qualify_counted true us vs e = ap (λ (all : List StatementUnit). line_unit says.QualifyDefault ∷ all) e
qualify_counted false us vs e = e

roa_counted : (roas : List Roa) (us : List Printed) (vs : List StatementUnit) → map counted us ≡ vs → map counted (roa_printed roas ++ us) ≡ roa_units roas ++ vs
roa_counted [] us vs e = e
roa_counted (r ∷ roas) us vs e = λ i. (lines_of_entries roa_head roa_pieces (r ∷ roas) i, λ _. says.RoaSet (r ∷ roas)) ∷ e i

group_counted : (conf : Conf) → Each (IsNeighbour conf) conf.neighbours → (name : List ℕ) → counted (group_printed conf name) ≡ group_unit conf name
group_counted conf h name =
    let members : Each (IsNeighbour conf) (members_of conf name) = each_filter (IsNeighbour conf) (is_of_group name) conf.neighbours h in
    let lines : length (group_lines conf name) ≡ total (block_length conf) (members_of conf name) + 2 =
    lines_of_block (group_head name) (flat_map (neighbour_lines conf) (members_of conf name)) ∙ ap (λ (n : ℕ). n + 2) (lines_of_members conf (members_of conf name) members) in
    λ i. (lines i, λ line. says.Group (record { name = name; options = []; neighbours = blocks_same conf (line + 1) (members_of conf name) members i }))

-- ---- all statements

units_same : (conf : Conf) → IsReadable conf → map counted (printed_of conf) ≡ units_of conf
units_same conf h =
    let alone : List Neighbour = filter is_alone conf.neighbours in
    ap (λ (us : List StatementUnit). line_unit (says.As conf.asn) ∷ line_unit (says.RouterId conf.router_id) ∷ line_unit (says.Hold conf.hold) ∷ line_unit (says.HoldMin conf.hold_min) ∷ line_unit (says.FibUpdate conf.fib_update) ∷ us)
    (qualify_counted conf.qualify_default _ _
    (ap (λ (us : List StatementUnit). line_unit (says.MedCompare conf.med_always) ∷ line_unit (says.Socket conf.socket) ∷ us)
    (any_counted listen_printed listen_unit (λ _. refl) _ _
    (any_counted rib_printed rib_unit (λ _. refl) _ _
    (any_counted prefix_set_printed prefix_set_unit (λ s i. (lines_of_entries (head_pieces (codes "prefix-set") s.name) range_pieces s.entries i, λ _. says.PrefixSet s.name s.entries)) _ _
    (any_counted as_set_printed as_set_unit (λ s i. (lines_of_entries (head_pieces (codes "as-set") s.name) number_pieces s.numbers i, λ _. says.AsSet s.name s.numbers)) _ _
    (any_counted origin_set_printed origin_set_unit (λ s i. (lines_of_entries (head_pieces (codes "origin-set") s.name) roa_pieces s.entries i, λ _. says.OriginSet s.name s.entries)) _ _
    (roa_counted conf.roas _ _
    (any_counted network_printed network_unit (λ _. refl) _ _
    (kind_counted (IsNeighbour conf) (neighbour_printed conf) (neighbour_unit conf) (λ n good i. (lines_of_neighbour conf n good i, λ line. says.Neighbour (block_of conf line n))) _ _
    (any_counted (group_printed conf) (group_unit conf) (group_counted conf h.neighbours) _ _ (last_counted (rule_printed conf) (rule_unit conf) (λ _. refl) conf.rules) (group_names conf.neighbours))
    alone (each_filter (IsNeighbour conf) is_alone conf.neighbours h.neighbours))
    conf.networks))
    conf.origin_sets)
    conf.as_sets)
    conf.prefix_sets)
    conf.ribs)
    conf.listen)))

-- A canonical text within the limit is read without fault, and its draft is the canonical one.
pub canonical_draft_back : (limit : ℕ) (conf : Conf) → IsReadable conf → IsWithinLimits conf → length (canonical conf) ≤ limit → draft_within limit (canonical conf) ≡ Ok (canonical_draft conf)
unfolding draft_within
canonical_draft_back limit conf h fits short =
    rw (canonical_tokens limit conf h short)
    (ap (λ (ls : List (List Piece)). draft_of (lines_tokens 1 0 ls)) (sym (printed_lines conf)) ∙ draft_back (printed_of conf) (printed_say conf h fits)
    ∙ ap (λ (statements : List StatementLine). Ok (record { statements = statements })) (same_from 1 (printed_of conf) ∙ ap (statements_from 1) (units_same conf h)))
