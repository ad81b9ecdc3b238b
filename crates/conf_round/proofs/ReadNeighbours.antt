-- Printed neighbours and groups are read back.
use Rattle.std.proofs.Common.{◌≡◌, ◌∙◌, ℕ, zero, suc, ◌+◌, ◌-◌, ◌≤◌, min, Bool, true, false, cond, eqb, List, [], ◌∷◌, ◌++◌, length, length-append, append_assoc, flat_map, codes, Some, None, Ok, refl, ap, sym, arith}
use Rattle.std.specs.Prelude.{nat_lt}
use Rattle.std.specs.List.{position}
use Rattle.std.proofs.lemmas.Bool.Decides.{nat_tests}
use Rattle.net_base.specs.declared.addr.Addr.{Addr}
use Rattle.net_base.specs.Addr.{addr_text, has_byte}
use Rattle.net_base.specs.Prefix.{read_prefix}
use Rattle.net_base.proofs.PrefixText.{no_slash}
use Rattle.net_base.proofs.AddrText.{addr_lacks_slash, addr_text-spells_only}
use Rattle.conf_tree.specs.declared.token.Token.{Token}
use Rattle.conf_tree.specs.declared.token.TokenKind.{TokenKind}
use Rattle.conf_tree.specs.declared.token.TokenKind.TheVariants.{Word, Quoted, Mark, LineEnd}
use Rattle.conf_tree.specs.declared.conf.Conf.{Conf}
use Rattle.conf_tree.specs.declared.neighbour.Neighbour.{Neighbour}
use Rattle.conf_tree.specs.declared.draft.NeighbourOption.{NeighbourOption}
use Rattle.conf_tree.specs.declared.draft.NeighbourBlock.{NeighbourBlock}
use Rattle.conf_tree.specs.declared.draft.Statement.TheVariants as says
use Rattle.conf_tree.specs.Kinds.{is_word, is_line_end}
use Rattle.conf_tree.specs.Reading.{line_of, text_of, word_is, mark_is, mark_at, ends_line, unless_full}
use Rattle.conf_tree.specs.Values.{prefix_of_word}
use Rattle.conf_tree.specs.NeighbourReading.{after_line_ends, separated_at, option_line_at, options_at, neighbour_body_at, neighbour_at, neighbour_line_at, group_members_at, group_at}
use Rattle.conf_tree.specs.StatementReading.{Room, neighbour_statement_at, group_statement_at, peer_word_at, set_word_at, engine_word_at, statement_at}
use Rattle.conf_tree.specs.Readable.{Each, IsGroupName, IsNeighbour}
use Rattle.conf_tree.specs.CanonicalDraft.{options_of, numbered, block_of}
use Rattle.conf_round.proofs.Pieces.{Piece, line_tokens, start, finish, line_finish, end_token}
use Rattle.conf_round.proofs.Texts.{lines_tokens}
use Rattle.conf_round.proofs.Lines.{first, word, quote, opening, shut}
use Rattle.conf_round.proofs.SetLines.{block_lines}
use Rattle.conf_round.proofs.RuleLines.{option_lines, neighbour_lines}
use Rattle.conf_round.proofs.ReadValues.{token, no_place}
use Rattle.conf_round.proofs.ReadTexts.{address_back, group_name_back}
use Rattle.conf_round.proofs.ReadLists.{starts_word, no_mark}
use Rattle.conf_round.proofs.ReadSets.{after_block, after_ends, line_then, block_tokens}
use Rattle.conf_round.proofs.ReadOptions.{OptionBack, ReadAs, options_read}

-- ---- line ends

word_ends_no_line : (kind : TokenKind) → is_word kind ≡ true → is_line_end kind ≡ false
word_ends_no_line Word e = refl
word_ends_no_line Quoted e = absurd (cc)
word_ends_no_line Mark e = absurd (cc)
word_ends_no_line LineEnd e = absurd (cc)

one_left : (n : ℕ) → min 1 (suc (suc n) - 1) ≡ 1
one_left n = omega arith

past_end : (line at : ℕ) (ts : List Token) → starts_word ts ≡ true → after_line_ends (end_token line at ∷ ts) ≡ ts
unfolding after_line_ends
past_end line at [] e = absurd (cc)
past_end line at (t ∷ ts) e = rw (word_ends_no_line t.kind e, one_left (length ts)) refl

past_end_shut : (line at l s e : ℕ) (rest : List Token) → after_line_ends (end_token line at ∷ token Mark l s e (codes "}") ∷ rest) ≡ token Mark l s e (codes "}") ∷ rest
unfolding after_line_ends
past_end_shut line at l s e rest = rw (one_left (length rest)) refl

shut_here : (line start end : ℕ) (rest : List Token) → mark_is (codes "}") (token Mark line start end (codes "}") ∷ rest) ≡ true
unfolding mark_is text_of
shut_here line start end rest = refl

separated : (ts : List Token) → ends_line ts ≡ true → separated_at ts ≡ Ok ts
unfolding separated_at
separated ts e = rw e refl

end_line : (line at : ℕ) (rest : List Token) → ends_line (end_token line at ∷ rest) ≡ true
unfolding ends_line
end_line line at rest = refl

-- ---- options

abbrev pub same_line : List Piece → List Piece
same_line l = l

ends_is : (t : Token) (ts : List Token) → ends_line (t ∷ ts) ≡ is_line_end t.kind
unfolding ends_line
ends_is t ts = refl

pub line_of_tokens : (line at : ℕ) (l : List Piece) (rest : List Token) → starts_word (line_tokens line at l ++ rest) ≡ true → ends_line rest ≡ true → line_of (line_tokens line at l ++ rest) ≡ line
line_of_tokens line at [] [] s e = absurd (cc)
line_of_tokens line at [] (t ∷ ts) s e = absurd (both_kinds t ts s e)
  where
    both_kinds : (t : Token) (ts : List Token) → is_word t.kind ≡ true → ends_line (t ∷ ts) ≡ true → ⊥
    both_kinds t ts s e = let n = word_ends_no_line t.kind s in let m = ends_is t ts in cc
line_of_tokens line at (p ∷ ps) rest s e = refl

option_line_back : (line at : ℕ) (l : List Piece) (o : NeighbourOption) (rest : List Token) → OptionBack l o → starts_word (line_tokens line at l ++ rest) ≡ true → ends_line rest ≡ true
    → option_line_at (line_tokens line at l ++ rest) ≡ Ok (record { line = line; option = o }, rest)
unfolding option_line_at
option_line_back line at l o rest back starts e =
    rw (back line at rest e) (rw (separated rest e) (ap (λ (n : ℕ). Ok (record { line = n; option = o }, rest)) (line_of_tokens line at l rest starts e)))

pub options_back : (n line at line' at' : ℕ) (ls : List (List Piece)) (os : List NeighbourOption) (more : List (List Piece)) → ReadAs ls os
    → length (end_token line' at' ∷ lines_tokens line at (ls ++ ((shut ∷ []) ∷ more))) ≤ n
    → options_at n (end_token line' at' ∷ lines_tokens line at (ls ++ ((shut ∷ []) ∷ more))) ≡ Ok (numbered line os, after_block same_line line at ls more)
unfolding options_at
options_back zero line at line' at' ls os more r fits = absurd (omega arith)
options_back (suc n) line at line' at' [] [] more r fits =
    let left : List Token = end_token line (line_finish at (shut ∷ [])) ∷ lines_tokens (line + 1) (line_finish at (shut ∷ []) + 1) more in
    rw (past_end_shut line' at' line (start at shut) (finish at shut) left) (rw (shut_here line (start at shut) (finish at shut) left) refl)
options_back (suc n) line at line' at' [] (o ∷ os) more r fits = absurd r
options_back (suc n) line at line' at' (l ∷ ls) [] more r fits = absurd r
options_back (suc n) line at line' at' (l ∷ ls) (o ∷ os) more r fits =
    let rest : List (List Piece) = ls ++ ((shut ∷ []) ∷ more) in
    let next : List Token = end_token line (line_finish at l) ∷ lines_tokens (line + 1) (line_finish at l + 1) rest in
    let ts : List Token = line_tokens line at l ++ next in
    let same : lines_tokens line at (l ∷ rest) ≡ ts = line_then line at l rest in
    let starts : starts_word ts ≡ true = r.1 line at next in
    let ended : ends_line next ≡ true = end_line line (line_finish at l) (lines_tokens (line + 1) (line_finish at l + 1) rest) in
    let passed : after_line_ends (end_token line' at' ∷ lines_tokens line at (l ∷ rest)) ≡ ts = ap (λ (l : List Token). after_line_ends (end_token line' at' ∷ l)) same ∙ past_end line' at' ts starts in
    let less : length next ≤ n = omega (arith, ap length same, length-append (line_tokens line at l) next, fits) in
    rw passed
    (rw (no_mark (codes "}") ts starts)
    (rw (option_line_back line at l o next r.0 starts ended)
    (rw (options_back n (line + 1) (line_finish at l + 1) line (line_finish at l) ls os more r.2 less) refl)))

-- ---- neighbours

not_below : (n : ℕ) → nat_lt n n ≡ false
not_below n = grind (arith, nat_tests)

not_at : (text : List ℕ) → has_byte 47 text ≡ false → position (λ c. eqb c 47) text ≡ None
not_at text h =
    ap (λ (n : ℕ). cond (nat_lt n (length text)) (Some n) None) (no_place 47 text h)
    ∙ ap (λ (b : Bool). cond b (Some (length text)) None) (not_below (length text))

no_prefix : (a : Addr) → read_prefix (addr_text a) ≡ None
no_prefix a = sym (no_slash (addr_text a) (sym (not_at (addr_text a) (addr_lacks_slash (addr_text a) a (addr_text-spells_only a).0).lacks)))

abbrev pub neighbour_head : Neighbour → List Piece
neighbour_head n = first (codes "neighbor") ∷ word (addr_text n.address) ∷ opening ∷ []

abbrev pub after_neighbour : Conf → ℕ → ℕ → Neighbour → List (List Piece) → List Token
after_neighbour conf line at n more = after_block same_line (line + 1) (line_finish at (neighbour_head n) + 1) (option_lines conf n) more

neighbour_here : (conf : Conf) (n : Neighbour) (line at line' at' : ℕ) (more : List (List Piece)) → IsNeighbour conf n
    → neighbour_at false (line_tokens line at (neighbour_head n) ++ (end_token line (line_finish at (neighbour_head n)) ∷ lines_tokens line' at' (option_lines conf n ++ ((shut ∷ []) ∷ more))))
    ≡ Ok (record { line = line; address = n.address; options = numbered line' (options_of conf n) }, after_block same_line line' at' (option_lines conf n) more)
unfolding neighbour_at unless_full neighbour_body_at mark_at mark_is text_of prefix_of_word
neighbour_here conf n line at line' at' more h =
    let rest : List Token = end_token line (line_finish at (neighbour_head n)) ∷ lines_tokens line' at' (option_lines conf n ++ ((shut ∷ []) ∷ more)) in
    rw (no_prefix n.address)
    (rw (address_back n.address line _ _ (line_tokens line _ (opening ∷ []) ++ rest))
    (rw (options_back (length rest) line' at' line (line_finish at (neighbour_head n)) (option_lines conf n) (options_of conf n) more (options_read conf n h) (omega arith)) refl))

pub neighbour_back : (conf : Conf) (n : Neighbour) (line at : ℕ) (more : List (List Piece)) → IsNeighbour conf n → neighbour_at false (lines_tokens line at (neighbour_lines conf n ++ more)) ≡ Ok (block_of conf line n, after_neighbour conf line at n more)
neighbour_back conf n line at more h = ap (neighbour_at false) (block_tokens line at (neighbour_head n) (option_lines conf n) more) ∙ neighbour_here conf n line at (line + 1) (line_finish at (neighbour_head n) + 1) more h

neighbour_word : (room : Room) (n : Neighbour) (line at : ℕ) (rest : List Token) → statement_at room (line_tokens line at (neighbour_head n) ++ rest) ≡ neighbour_statement_at room (line_tokens line at (neighbour_head n) ++ rest)
unfolding statement_at engine_word_at set_word_at peer_word_at word_is text_of
neighbour_word room n line at rest = refl

neighbour_said : (room : Room) (tokens : List Token) (block : NeighbourBlock) (rest : List Token) → eqb room.neighbours 0 ≡ false → neighbour_at false tokens ≡ Ok (block, rest) → neighbour_statement_at room tokens ≡ Ok (says.Neighbour block, rest)
unfolding neighbour_statement_at
neighbour_said room tokens block rest free e = rw free (rw e refl)

pub neighbour_statement_back : (conf : Conf) (room : Room) (n : Neighbour) (line at : ℕ) (more : List (List Piece)) → IsNeighbour conf n → eqb room.neighbours 0 ≡ false
    → statement_at room (lines_tokens line at (neighbour_lines conf n ++ more)) ≡ Ok (says.Neighbour (block_of conf line n), after_neighbour conf line at n more)
neighbour_statement_back conf room n line at more h free =
    let rest : List Token = end_token line (line_finish at (neighbour_head n)) ∷ lines_tokens (line + 1) (line_finish at (neighbour_head n) + 1) (option_lines conf n ++ ((shut ∷ []) ∷ more)) in
    let same = block_tokens line at (neighbour_head n) (option_lines conf n) more in
    ap (statement_at room) same ∙ neighbour_word room n line at rest ∙ ap (neighbour_statement_at room) (sym same)
    ∙ neighbour_said room (lines_tokens line at (neighbour_lines conf n ++ more)) (block_of conf line n) (after_neighbour conf line at n more) free (neighbour_back conf n line at more h)

-- ---- groups

-- the line and the place of the LF behind the `}` of a block
abbrev pub shut_line : ℕ → List (List Piece) → ℕ
shut_line line [] = line
shut_line line (l ∷ ls) = shut_line (line + 1) ls

abbrev pub shut_at : ℕ → List (List Piece) → ℕ
shut_at at [] = line_finish at (shut ∷ [])
shut_at at (l ∷ ls) = shut_at (line_finish at l + 1) ls

pub after_is : (line at : ℕ) (ls more : List (List Piece)) → after_block same_line line at ls more ≡ end_token (shut_line line ls) (shut_at at ls) ∷ lines_tokens (shut_line line ls + 1) (shut_at at ls + 1) more
after_is line at [] more = refl
after_is line at (l ∷ ls) more = after_is (line + 1) (line_finish at l + 1) ls more

pub after_shorter : (line at : ℕ) (ls more : List (List Piece)) → length (after_block same_line line at ls more) ≤ length (lines_tokens line at (ls ++ ((shut ∷ []) ∷ more)))
after_shorter line at [] more = omega arith
after_shorter line at (l ∷ ls) more =
    omega (arith, after_shorter (line + 1) (line_finish at l + 1) ls more, length-append (line_tokens line at l ++ (end_token line (line_finish at l) ∷ [])) (lines_tokens (line + 1) (line_finish at l + 1) (ls ++ ((shut ∷ []) ∷ more))))

abbrev pub next_line : Conf → ℕ → Neighbour → ℕ
next_line conf line n = shut_line (line + 1) (option_lines conf n) + 1

abbrev pub next_at : Conf → ℕ → Neighbour → ℕ
next_at conf at n = shut_at (line_finish at (neighbour_head n) + 1) (option_lines conf n) + 1

-- what is read of the neighbours of a group, of which the first begins on this line
abbrev pub blocks_read : Conf → ℕ → List Neighbour → List NeighbourBlock
blocks_read conf line [] = []
blocks_read conf line (n ∷ ns) = block_of conf line n ∷ blocks_read conf (next_line conf line n) ns

abbrev pub after_members : Conf → ℕ → ℕ → List Neighbour → List (List Piece) → List Token
after_members conf line at [] more = end_token line (line_finish at (shut ∷ [])) ∷ lines_tokens (line + 1) (line_finish at (shut ∷ []) + 1) more
after_members conf line at (n ∷ ns) more = after_members conf (next_line conf line n) (next_at conf at n) ns more

neighbour_line_back : (conf : Conf) (n : Neighbour) (line at : ℕ) (more : List (List Piece)) → IsNeighbour conf n → neighbour_line_at false (lines_tokens line at (neighbour_lines conf n ++ more)) ≡ Ok (block_of conf line n, after_neighbour conf line at n more)
unfolding neighbour_line_at
neighbour_line_back conf n line at more h =
    rw (neighbour_back conf n line at more h) (rw (separated (after_neighbour conf line at n more) (after_ends same_line (line + 1) (line_finish at (neighbour_head n) + 1) (option_lines conf n) more)) refl)

has_room : (room n : ℕ) → suc n ≤ room → eqb room 0 ≡ false
has_room room n h = grind (arith, nat_tests)

head_starts : (n : Neighbour) (line at : ℕ) (rest : List Token) → starts_word (line_tokens line at (neighbour_head n) ++ rest) ≡ true
head_starts n line at rest = refl

head_says : (n : Neighbour) (line at : ℕ) (rest : List Token) → word_is (codes "neighbor") (line_tokens line at (neighbour_head n) ++ rest) ≡ true
unfolding word_is text_of
head_says n line at rest = refl

neighbour_first : (conf : Conf) (n : Neighbour) (line at : ℕ) (more : List (List Piece)) → (starts_word (lines_tokens line at (neighbour_lines conf n ++ more)) ≡ true) × (word_is (codes "neighbor") (lines_tokens line at (neighbour_lines conf n ++ more)) ≡ true)
neighbour_first conf n line at more =
    let same = block_tokens line at (neighbour_head n) (option_lines conf n) more in
    let rest : List Token = end_token line (line_finish at (neighbour_head n)) ∷ lines_tokens (line + 1) (line_finish at (neighbour_head n) + 1) (option_lines conf n ++ ((shut ∷ []) ∷ more)) in
    (ap starts_word same ∙ head_starts n line at rest, ap (word_is (codes "neighbor")) same ∙ head_says n line at rest)

members_back : (conf : Conf) (n room line at line' at' : ℕ) (ns : List Neighbour) (more : List (List Piece)) → Each (IsNeighbour conf) ns → length ns ≤ room
    → length (end_token line' at' ∷ lines_tokens line at (flat_map (neighbour_lines conf) ns ++ ((shut ∷ []) ∷ more))) ≤ n
    → group_members_at room n (end_token line' at' ∷ lines_tokens line at (flat_map (neighbour_lines conf) ns ++ ((shut ∷ []) ∷ more))) ≡ Ok (([], blocks_read conf line ns), after_members conf line at ns more)
unfolding group_members_at
members_back conf zero room line at line' at' ns more h fits fuel = absurd (omega arith)
members_back conf (suc n) room line at line' at' [] more h fits fuel =
    let left : List Token = end_token line (line_finish at (shut ∷ [])) ∷ lines_tokens (line + 1) (line_finish at (shut ∷ []) + 1) more in
    rw (past_end_shut line' at' line (start at shut) (finish at shut) left) (rw (shut_here line (start at shut) (finish at shut) left) refl)
members_back conf (suc n) room line at line' at' (x ∷ ns) more h fits fuel =
    let rest : List (List Piece) = flat_map (neighbour_lines conf) ns ++ ((shut ∷ []) ∷ more) in
    let ts : List Token = lines_tokens line at (neighbour_lines conf x ++ rest) in
    let same : lines_tokens line at (flat_map (neighbour_lines conf) (x ∷ ns) ++ ((shut ∷ []) ∷ more)) ≡ ts = ap (lines_tokens line at) (append_assoc (neighbour_lines conf x) (flat_map (neighbour_lines conf) ns) ((shut ∷ []) ∷ more)) in
    let begins = neighbour_first conf x line at rest in
    let passed : after_line_ends (end_token line' at' ∷ lines_tokens line at (flat_map (neighbour_lines conf) (x ∷ ns) ++ ((shut ∷ []) ∷ more))) ≡ ts = ap (λ (l : List Token). after_line_ends (end_token line' at' ∷ l)) same ∙ past_end line' at' ts begins.0 in
    let left = after_is (line + 1) (line_finish at (neighbour_head x) + 1) (option_lines conf x) rest in
    let shorter = after_shorter (line + 1) (line_finish at (neighbour_head x) + 1) (option_lines conf x) rest in
    let tokens = block_tokens line at (neighbour_head x) (option_lines conf x) rest in
    let less : length (end_token (shut_line (line + 1) (option_lines conf x)) (shut_at (line_finish at (neighbour_head x) + 1) (option_lines conf x)) ∷ lines_tokens (next_line conf line x) (next_at conf at x) rest) ≤ n =
    omega (arith, ap length left, shorter, ap length tokens, ap length same, fuel, length-append (line_tokens line at (neighbour_head x)) (end_token line (line_finish at (neighbour_head x)) ∷ lines_tokens (line + 1) (line_finish at (neighbour_head x) + 1) (option_lines conf x ++ ((shut ∷ []) ∷ rest)))) in
    rw passed
    (rw (no_mark (codes "}") ts begins.0)
    (rw begins.1
    (rw (has_room room (length ns) fits)
    (rw (neighbour_line_back conf x line at rest h.0)
    (rw left
    (rw (members_back conf n (room - 1) (next_line conf line x) (next_at conf at x) (shut_line (line + 1) (option_lines conf x)) (shut_at (line_finish at (neighbour_head x) + 1) (option_lines conf x)) ns more h.1 (omega (arith, fits)) less) refl))))))

abbrev pub group_head : List ℕ → List Piece
group_head name = first (codes "group") ∷ quote name ∷ opening ∷ []

group_here : (conf : Conf) (room : Room) (name : List ℕ) (ns : List Neighbour) (line at line' at' : ℕ) (more : List (List Piece)) → IsGroupName name → Each (IsNeighbour conf) ns → length ns ≤ room.neighbours → eqb room.groups 0 ≡ false
    → statement_at room (line_tokens line at (group_head name) ++ (end_token line (line_finish at (group_head name)) ∷ lines_tokens line' at' (flat_map (neighbour_lines conf) ns ++ ((shut ∷ []) ∷ more))))
    ≡ Ok (says.Group (record { name = name; options = []; neighbours = blocks_read conf line' ns }), after_members conf line' at' ns more)
unfolding statement_at engine_word_at set_word_at peer_word_at word_is text_of unless_full group_statement_at group_at mark_at mark_is
group_here conf room name ns line at line' at' more g h fits free =
    let rest : List Token = end_token line (line_finish at (group_head name)) ∷ lines_tokens line' at' (flat_map (neighbour_lines conf) ns ++ ((shut ∷ []) ∷ more)) in
    rw free
    (rw (group_name_back name line _ _ (line_tokens line _ (opening ∷ []) ++ rest) g)
    (rw (members_back conf (length rest) room.neighbours line' at' line (line_finish at (group_head name)) ns more h fits (omega arith)) refl))

pub group_back : (conf : Conf) (room : Room) (name : List ℕ) (ns : List Neighbour) (line at : ℕ) (more : List (List Piece)) → IsGroupName name → Each (IsNeighbour conf) ns → length ns ≤ room.neighbours → eqb room.groups 0 ≡ false
    → statement_at room (lines_tokens line at (block_lines (group_head name) (flat_map (neighbour_lines conf) ns) ++ more))
    ≡ Ok (says.Group (record { name = name; options = []; neighbours = blocks_read conf (line + 1) ns }), after_members conf (line + 1) (line_finish at (group_head name) + 1) ns more)
group_back conf room name ns line at more g h fits free =
    ap (statement_at room) (block_tokens line at (group_head name) (flat_map (neighbour_lines conf) ns) more) ∙ group_here conf room name ns line at (line + 1) (line_finish at (group_head name) + 1) more g h fits free
