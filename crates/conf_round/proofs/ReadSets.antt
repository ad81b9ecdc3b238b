-- The printed sets, which go over several lines, are read back.
use Rattle.std.proofs.Common.{◌≡◌, ◌∙◌, ℕ, suc, ◌+◌, ◌-◌, ◌^◌, ◌<◌, ◌≤◌, min, Bool, true, false, eqb, List, [], ◌∷◌, ◌++◌, length, length-append, append_assoc, map, codes, decimal, None, Ok, refl, ap, bytes_eq, arith}
use Rattle.std.proofs.lemmas.Bool.Decides.{nat_tests}
use Rattle.net_base.specs.declared.addr.Family.{Family}
use Rattle.net_base.specs.declared.addr.Family.TheVariants.{V4, V6}
use Rattle.net_base.specs.declared.roa.Roa.{Roa}
use Rattle.net_base.specs.Width.{width_of}
use Rattle.net_base.specs.Number.{number_of}
use Rattle.net_base.specs.Prefix.{read_prefix}
use Rattle.conf_tree.specs.declared.token.Token.{Token}
use Rattle.conf_tree.specs.declared.token.TokenKind.TheVariants.{Mark}
use Rattle.conf_tree.specs.declared.draft.Statement.{Statement}
use Rattle.conf_tree.specs.declared.draft.Statement.TheVariants as says
use Rattle.conf_tree.specs.declared.sets.PrefixRange.{PrefixRange}
use Rattle.conf_tree.specs.declared.sets.PrefixSetConf.{PrefixSetConf}
use Rattle.conf_tree.specs.declared.sets.AsSetConf.{AsSetConf}
use Rattle.conf_tree.specs.declared.sets.OriginSetConf.{OriginSetConf}
use Rattle.conf_tree.specs.Reading.{Member, is_separator, after_separators, text_of, word_is, mark_is, mark_at, ends_line, behind, keyword_at, unless_full, list_at}
use Rattle.conf_tree.specs.RuleReading.{ranged_at, counted_number_at}
use Rattle.conf_tree.specs.StatementReading.{Room, entry_at, prefix_entry_at, number_entry_at, optional_maxlen_at, source_at, authorization_at, counted_authorization_at, roa_entry_at, named_brace_at, prefix_set_at, as_set_at, origin_set_at, roa_set_at, set_word_at, engine_word_at, statement_at}
use Rattle.conf_tree.specs.Readable.{Each, IsAs, IsRange, IsRoa, IsPrefixSet, IsAsSet, IsOriginSet}
use Rattle.conf_round.proofs.Pieces.{Piece, line_tokens, line_finish, end_token}
use Rattle.conf_round.proofs.Texts.{lines_tokens}
use Rattle.conf_round.proofs.Lines.{first, word, opening, shut}
use Rattle.conf_round.proofs.SetLines.{range_rest, range_pieces, number_pieces, roa_pieces, head_pieces, block_lines, prefix_set_lines, as_set_lines, origin_set_lines, roa_set_lines}
use Rattle.conf_round.proofs.ReadValues.{token, number_back, as_number_back, differs, number_of_decimal}
use Rattle.conf_round.proofs.ReadTexts.{prefix_back, lengths_back, name_back}
use Rattle.conf_round.proofs.ReadLists.{starts_word, pass, no_mark, Spells, list_back}
use Rattle.conf_round.proofs.ReadStatements.{prefix_unlike}

-- ---- blocks

-- what stands behind the last entry of a block and its `}`
abbrev pub after_block : {A : Type 0} → (A → List Piece) → ℕ → ℕ → List A → List (List Piece) → List Token
after_block f line at [] more = end_token line (line_finish at (shut ∷ [])) ∷ lines_tokens (line + 1) (line_finish at (shut ∷ []) + 1) more
after_block f line at (x ∷ es) more = after_block f (line + 1) (line_finish at (f x) + 1) es more

pub after_ends : {A : Type 0} (f : A → List Piece) (line at : ℕ) (es : List A) (more : List (List Piece)) → ends_line (after_block f line at es more) ≡ true
unfolding ends_line
after_ends f line at [] more = refl
after_ends f line at (x ∷ es) more = after_ends f (line + 1) (line_finish at (f x) + 1) es more

-- a line, its end, and the lines behind it
pub line_then : (line at : ℕ) (l : List Piece) (ls : List (List Piece)) → lines_tokens line at (l ∷ ls) ≡ line_tokens line at l ++ (end_token line (line_finish at l) ∷ lines_tokens (line + 1) (line_finish at l + 1) ls)
line_then line at l ls = append_assoc (line_tokens line at l) (end_token line (line_finish at l) ∷ []) (lines_tokens (line + 1) (line_finish at l + 1) ls)

two_left : (n : ℕ) → min 1 (suc (suc n) - 1) ≡ 1
two_left n = omega arith

-- a closing brace behind a separator
pub pass_shut : (s : Token) (line start end : ℕ) (rest : List Token) → is_separator s ≡ true → after_separators (s ∷ token Mark line start end (codes "}") ∷ rest) ≡ token Mark line start end (codes "}") ∷ rest
unfolding after_separators
pass_shut s line start end rest e = rw (e, two_left (length rest)) refl

shut_here : (line start end : ℕ) (rest : List Token) → mark_is (codes "}") (token Mark line start end (codes "}") ∷ rest) ≡ true
unfolding mark_is text_of
shut_here line start end rest = refl

end_line : (line at : ℕ) (rest : List Token) → ends_line (end_token line at ∷ rest) ≡ true
unfolding ends_line
end_line line at rest = refl

-- what is read of the line of an entry
abbrev pub ReadsEntry : {A : Type 0} → Member A → (A → List Piece) → A → Type 0
ReadsEntry {A} read f x = (line at : ℕ) (rest : List Token) → ends_line rest ≡ true → read false (line_tokens line at (f x) ++ rest) ≡ Ok (x, rest)

abbrev pub StartsEntry : {A : Type 0} → (A → List Piece) → A → Type 0
StartsEntry {A} f x = (line at : ℕ) (rest : List Token) → starts_word (line_tokens line at (f x) ++ rest) ≡ true

has_room : (room n : ℕ) → suc n ≤ room → eqb room 0 ≡ false
has_room room n h = grind (arith, nat_tests)

pub entries_spell : {A : Type 0} (read : Member A) (f : A → List Piece) (Is : A → Type 0) → ((x : A) → Is x → ReadsEntry read f x) → ((x : A) → StartsEntry f x)
    → (room line at : ℕ) (es : List A) (more : List (List Piece)) (e : Token) → is_separator e ≡ true → Each Is es → length es ≤ room
    → Spells read room es (e ∷ lines_tokens line at (map f es ++ ((shut ∷ []) ∷ more))) (after_block f line at es more)
entries_spell read f Is reads starts room line at [] more e s h fits = (ap (mark_is (codes "}")) (pass_shut e line _ _ _ s) ∙ shut_here line _ _ _, ap behind (pass_shut e line _ _ _ s))
entries_spell read f Is reads starts room line at (x ∷ es) more e s h fits =
    let ls : List (List Piece) = map f es ++ ((shut ∷ []) ∷ more) in
    let end : Token = end_token line (line_finish at (f x)) in
    let next : List Token = end ∷ lines_tokens (line + 1) (line_finish at (f x) + 1) ls in
    let ts : List Token = line_tokens line at (f x) ++ next in
    let same : lines_tokens line at (f x ∷ ls) ≡ ts = line_then line at (f x) ls in
    let passed : after_separators (e ∷ lines_tokens line at (f x ∷ ls)) ≡ ts = ap (λ (l : List Token). after_separators (e ∷ l)) same ∙ pass e ts s (starts x line at next) in (
      next,
      ap (mark_is (codes "}")) passed ∙ no_mark (codes "}") ts (starts x line at next),
      ap (read (eqb room 0)) passed ∙ ap (λ (full : Bool). read full ts) (has_room room (length es) fits) ∙ reads x h.0 line at next (end_line line (line_finish at (f x)) (lines_tokens (line + 1) (line_finish at (f x) + 1) ls)),
      omega (arith, ap length same, length-append (line_tokens line at (f x)) next),
      omega arith,
      entries_spell read f Is reads starts (room - 1) (line + 1) (line_finish at (f x) + 1) es more end refl h.1 (omega (arith, fits)),
    )

-- the entries of a block behind its first line
pub block_back : {A : Type 0} (read : Member A) (f : A → List Piece) (Is : A → Type 0) → ((x : A) → Is x → ReadsEntry read f x) → ((x : A) → StartsEntry f x)
    → (room line at : ℕ) (es : List A) (more : List (List Piece)) (e : Token) → is_separator e ≡ true → Each Is es → length es ≤ room
    → list_at read room (e ∷ lines_tokens line at (map f es ++ ((shut ∷ []) ∷ more))) ≡ Ok (es, after_block f line at es more)
block_back read f Is reads starts room line at es more e s h fits =
    list_back read room es (e ∷ lines_tokens line at (map f es ++ ((shut ∷ []) ∷ more))) (after_block f line at es more) (omega arith) (entries_spell read f Is reads starts room line at es more e s h fits)

-- the tokens of a block with the lines behind it
pub block_tokens : (line at : ℕ) (head : List Piece) (inner more : List (List Piece)) → lines_tokens line at (block_lines head inner ++ more) ≡ line_tokens line at head ++ (end_token line (line_finish at head) ∷ lines_tokens (line + 1) (line_finish at head + 1) (inner ++ ((shut ∷ []) ∷ more)))
block_tokens line at head inner more = ap (λ (ls : List (List Piece)). lines_tokens line at (head ∷ ls)) (append_assoc inner ((shut ∷ []) ∷ []) more) ∙ line_then line at head (inner ++ ((shut ∷ []) ∷ more))

-- ---- entries

no_expires : read_prefix (codes "expires") ≡ None
unfolding read_prefix
no_expires = refl

no_number : number_of (codes "expires") ≡ None
unfolding number_of
no_number = refl

no_expiry : (n : ℕ) → n < 2 ^ 64 → bytes_eq (codes "expires") (decimal n) ≡ false
no_expiry n h = differs (codes "expires") (decimal n) (λ e. absurd (let f = ap number_of e in let g = number_of_decimal n h in let i = no_number in cc))

range_entry_back : (r : PrefixRange) → IsRange r → ReadsEntry prefix_entry_at range_pieces r
unfolding prefix_entry_at entry_at word_is text_of ranged_at unless_full
range_entry_back r h line at rest e =
    rw (prefix_unlike (codes "expires") r.prefix no_expires) (rw (prefix_back r.prefix line _ _ (line_tokens line _ (range_rest r) ++ rest)) (lengths_back r line _ _ _ _ _ _ _ _ rest h))

number_entry_back : (n : ℕ) → IsAs n → ReadsEntry number_entry_at number_pieces n
unfolding number_entry_at entry_at word_is text_of counted_number_at unless_full
number_entry_back n h line at rest e = rw (no_expiry n (omega (arith, h.most))) (rw (as_number_back 1 n line _ _ rest h) refl)

width_small : (family : Family) → width_of family < 2 ^ 64
width_small V4 = omega arith
width_small V6 = omega arith

roa_entry_back : (r : Roa) → IsRoa r → ReadsEntry roa_entry_at roa_pieces r
unfolding roa_entry_at entry_at word_is text_of counted_authorization_at unless_full authorization_at optional_maxlen_at source_at keyword_at
roa_entry_back r h line at rest e =
    rw (prefix_unlike (codes "expires") r.prefix no_expires)
    (rw (prefix_back r.prefix line _ _ (line_tokens line _ (word (codes "maxlen") ∷ word (decimal r.maxlen) ∷ word (codes "source-as") ∷ word (decimal r.source) ∷ []) ++ rest))
    (rw (number_back r.prefix.len (width_of r.prefix.family) r.maxlen line _ _ (line_tokens line _ (word (codes "source-as") ∷ word (decimal r.source) ∷ []) ++ rest) h.0 (width_small r.prefix.family))
    (rw (as_number_back 0 r.source line _ _ rest h.1) refl)))

-- ---- sets

-- a statement of several lines, with the lines behind it
abbrev pub BlockBack : Room → List (List Piece) → Statement → ((line at : ℕ) (more : List (List Piece)) → List Token) → Type 0
BlockBack room lines statement left = (line at : ℕ) (more : List (List Piece)) → statement_at room (lines_tokens line at (lines ++ more)) ≡ Ok (statement, left line at more)

abbrev pub behind_block : {A : Type 0} → (A → List Piece) → List Piece → List A → ℕ → ℕ → List (List Piece) → List Token
behind_block f head es line at more = after_block f (line + 1) (line_finish at head + 1) es more

prefix_set_here : (room : Room) (s : PrefixSetConf) (line at : ℕ) (e : Token) (line' at' : ℕ) (more : List (List Piece)) → IsPrefixSet s → length s.entries ≤ room.entries → is_separator e ≡ true
    → statement_at room (line_tokens line at (head_pieces (codes "prefix-set") s.name) ++ (e ∷ lines_tokens line' at' (map range_pieces s.entries ++ ((shut ∷ []) ∷ more)))) ≡ Ok (says.PrefixSet s.name s.entries, after_block range_pieces line' at' s.entries more)
unfolding statement_at engine_word_at set_word_at word_is text_of prefix_set_at named_brace_at mark_at mark_is
prefix_set_here room s line at e line' at' more h fits sep =
    rw (name_back s.name line _ _ (line_tokens line _ (opening ∷ []) ++ (e ∷ lines_tokens line' at' (map range_pieces s.entries ++ ((shut ∷ []) ∷ more)))) h.0)
    (rw (block_back prefix_entry_at range_pieces IsRange range_entry_back (λ r line at rest. refl) room.entries line' at' s.entries more e sep h.1 fits) refl)

pub prefix_set_back : (room : Room) (s : PrefixSetConf) → IsPrefixSet s → length s.entries ≤ room.entries → BlockBack room (prefix_set_lines s) (says.PrefixSet s.name s.entries) (behind_block range_pieces (head_pieces (codes "prefix-set") s.name) s.entries)
prefix_set_back room s h fits line at more =
    let head : List Piece = head_pieces (codes "prefix-set") s.name in
    ap (statement_at room) (block_tokens line at head (map range_pieces s.entries) more) ∙ prefix_set_here room s line at (end_token line (line_finish at head)) (line + 1) (line_finish at head + 1) more h fits refl

as_set_here : (room : Room) (s : AsSetConf) (line at : ℕ) (e : Token) (line' at' : ℕ) (more : List (List Piece)) → IsAsSet s → length s.numbers ≤ room.entries → is_separator e ≡ true
    → statement_at room (line_tokens line at (head_pieces (codes "as-set") s.name) ++ (e ∷ lines_tokens line' at' (map number_pieces s.numbers ++ ((shut ∷ []) ∷ more)))) ≡ Ok (says.AsSet s.name s.numbers, after_block number_pieces line' at' s.numbers more)
unfolding statement_at engine_word_at set_word_at word_is text_of as_set_at named_brace_at mark_at mark_is
as_set_here room s line at e line' at' more h fits sep =
    rw (name_back s.name line _ _ (line_tokens line _ (opening ∷ []) ++ (e ∷ lines_tokens line' at' (map number_pieces s.numbers ++ ((shut ∷ []) ∷ more)))) h.0)
    (rw (block_back number_entry_at number_pieces IsAs number_entry_back (λ r line at rest. refl) room.entries line' at' s.numbers more e sep h.1 fits) refl)

pub as_set_back : (room : Room) (s : AsSetConf) → IsAsSet s → length s.numbers ≤ room.entries → BlockBack room (as_set_lines s) (says.AsSet s.name s.numbers) (behind_block number_pieces (head_pieces (codes "as-set") s.name) s.numbers)
as_set_back room s h fits line at more =
    let head : List Piece = head_pieces (codes "as-set") s.name in
    ap (statement_at room) (block_tokens line at head (map number_pieces s.numbers) more) ∙ as_set_here room s line at (end_token line (line_finish at head)) (line + 1) (line_finish at head + 1) more h fits refl

origin_set_here : (room : Room) (s : OriginSetConf) (line at : ℕ) (e : Token) (line' at' : ℕ) (more : List (List Piece)) → IsOriginSet s → length s.entries ≤ room.entries → is_separator e ≡ true
    → statement_at room (line_tokens line at (head_pieces (codes "origin-set") s.name) ++ (e ∷ lines_tokens line' at' (map roa_pieces s.entries ++ ((shut ∷ []) ∷ more)))) ≡ Ok (says.OriginSet s.name s.entries, after_block roa_pieces line' at' s.entries more)
unfolding statement_at engine_word_at set_word_at word_is text_of origin_set_at named_brace_at mark_at mark_is
origin_set_here room s line at e line' at' more h fits sep =
    rw (name_back s.name line _ _ (line_tokens line _ (opening ∷ []) ++ (e ∷ lines_tokens line' at' (map roa_pieces s.entries ++ ((shut ∷ []) ∷ more)))) h.0)
    (rw (block_back roa_entry_at roa_pieces IsRoa roa_entry_back (λ r line at rest. refl) room.entries line' at' s.entries more e sep h.1 fits) refl)

pub origin_set_back : (room : Room) (s : OriginSetConf) → IsOriginSet s → length s.entries ≤ room.entries → BlockBack room (origin_set_lines s) (says.OriginSet s.name s.entries) (behind_block roa_pieces (head_pieces (codes "origin-set") s.name) s.entries)
origin_set_back room s h fits line at more =
    let head : List Piece = head_pieces (codes "origin-set") s.name in
    ap (statement_at room) (block_tokens line at head (map roa_pieces s.entries) more) ∙ origin_set_here room s line at (end_token line (line_finish at head)) (line + 1) (line_finish at head + 1) more h fits refl

abbrev pub roa_head : List Piece
roa_head = first (codes "roa-set") ∷ opening ∷ []

roa_set_here : (room : Room) (roas : List Roa) (line at : ℕ) (e : Token) (line' at' : ℕ) (more : List (List Piece)) → Each IsRoa roas → length roas ≤ room.entries → is_separator e ≡ true
    → statement_at room (line_tokens line at roa_head ++ (e ∷ lines_tokens line' at' (map roa_pieces roas ++ ((shut ∷ []) ∷ more)))) ≡ Ok (says.RoaSet roas, after_block roa_pieces line' at' roas more)
unfolding statement_at engine_word_at set_word_at word_is text_of roa_set_at mark_at mark_is
roa_set_here room roas line at e line' at' more h fits sep = rw (block_back roa_entry_at roa_pieces IsRoa roa_entry_back (λ r line at rest. refl) room.entries line' at' roas more e sep h fits) refl

pub roa_set_back : (room : Room) (r : Roa) (roas : List Roa) → Each IsRoa (r ∷ roas) → length (r ∷ roas) ≤ room.entries → BlockBack room (roa_set_lines (r ∷ roas)) (says.RoaSet (r ∷ roas)) (behind_block roa_pieces roa_head (r ∷ roas))
roa_set_back room r roas h fits line at more =
    ap (statement_at room) (block_tokens line at roa_head (map roa_pieces (r ∷ roas)) more) ∙ roa_set_here room (r ∷ roas) line at (end_token line (line_finish at roa_head)) (line + 1) (line_finish at roa_head + 1) more h fits refl
