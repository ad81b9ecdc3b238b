-- Lists in braces are read back, and so are printed sets of items.
use Rattle.std.proofs.Common.{◌≡◌, ◌∙◌, ℕ, zero, suc, ◌-◌, ◌<◌, ◌≤◌, min, Bool, true, false, eqb, List, [], ◌∷◌, ◌++◌, length, length-append, append_assoc, codes, Ok, refl, ap, arith}
use Rattle.std.proofs.lemmas.Bool.Decides.{nat_tests}
use Rattle.conf_tree.specs.declared.token.Token.{Token}
use Rattle.conf_tree.specs.declared.token.TokenKind.{TokenKind}
use Rattle.conf_tree.specs.declared.token.TokenKind.TheVariants.{Word, Quoted, Mark, LineEnd}
use Rattle.conf_tree.specs.declared.draft.SetPlace.{SetPlace}
use Rattle.conf_tree.specs.declared.rule.Item.{Item}
use Rattle.conf_tree.specs.declared.rule.Item.TheVariants as items
use Rattle.conf_tree.specs.Kinds.{is_word, is_mark}
use Rattle.conf_tree.specs.Reading.{Member, is_separator, after_separators, text_of, mark_is, behind, members_at, list_at, full_list_at}
use Rattle.conf_tree.specs.ItemReading.{item_at}
use Rattle.conf_tree.specs.Readable.{Each, IsItem}
use Rattle.conf_round.proofs.Pieces.{Piece, piece_token, line_tokens, finish, line_finish}
use Rattle.conf_round.proofs.Lines.{comma}
use Rattle.conf_round.proofs.ItemLines.{item_pieces, more_pieces}
use Rattle.conf_round.proofs.ReadValues.{token}
use Rattle.conf_round.proofs.ReadItems.{item_back}

-- ---- separators

-- the first token is a word
abbrev pub starts_word : List Token → Bool
starts_word [] = false
starts_word (t ∷ ts) = is_word t.kind

word_separates : (kind : TokenKind) (line start end : ℕ) (text : List ℕ) → is_word kind ≡ true → is_separator (token kind line start end text) ≡ false
word_separates Word line start end text e = refl
word_separates Quoted line start end text e = absurd (cc)
word_separates Mark line start end text e = absurd (cc)
word_separates LineEnd line start end text e = absurd (cc)

none_in_front : (n : ℕ) → min 0 n ≡ 0
none_in_front n = omega arith

one_in_front : (n : ℕ) → min 1 (suc (suc n) - 1) ≡ 1
one_in_front n = omega arith

pub stay : (ts : List Token) → starts_word ts ≡ true → after_separators ts ≡ ts
unfolding after_separators
stay [] e = absurd (cc)
stay (t ∷ ts) e = rw (word_separates t.kind t.line t.start t.end t.text e, none_in_front (suc (length ts) - 1)) refl

pub pass : (s : Token) (ts : List Token) → is_separator s ≡ true → starts_word ts ≡ true → after_separators (s ∷ ts) ≡ ts
unfolding after_separators
pass s [] e w = absurd (cc)
pass s (t ∷ ts) e w = rw (e, word_separates t.kind t.line t.start t.end t.text w, one_in_front (length ts)) refl

word_is_no_mark : (kind : TokenKind) → is_word kind ≡ true → is_mark kind ≡ false
word_is_no_mark Word e = refl
word_is_no_mark Quoted e = refl
word_is_no_mark Mark e = absurd (cc)
word_is_no_mark LineEnd e = refl

pub no_mark : (name : List ℕ) (ts : List Token) → starts_word ts ≡ true → mark_is name ts ≡ false
unfolding mark_is text_of
no_mark name [] e = absurd (cc)
no_mark name (t ∷ ts) e = rw (word_is_no_mark t.kind e) refl

-- a closing brace behind no separator
shut_stays : (line start end : ℕ) (rest : List Token) → after_separators (token Mark line start end (codes "}") ∷ rest) ≡ token Mark line start end (codes "}") ∷ rest
unfolding after_separators
shut_stays line start end rest = rw (none_in_front (suc (length rest) - 1)) refl

is_shut : (line start end : ℕ) (rest : List Token) → mark_is (codes "}") (token Mark line start end (codes "}") ∷ rest) ≡ true
unfolding mark_is text_of
is_shut line start end rest = refl

-- ---- members

-- the tokens are those of these members, of a `}`, and then the rest
abbrev pub Spells : {A : Type 0} → Member A → ℕ → List A → List Token → List Token → Type 0
Spells {A} read room [] ts rest = (mark_is (codes "}") (after_separators ts) ≡ true) × (behind (after_separators ts) ≡ rest)
Spells {A} read room (x ∷ xs) ts rest =
    (next : List Token) × (mark_is (codes "}") (after_separators ts) ≡ false) × (read (eqb room 0) (after_separators ts) ≡ Ok (x, next)) × (length next < length ts) × (0 < length next) × Spells read (room - 1) xs next rest

pub members_back : {A : Type 0} (read : Member A) (room n : ℕ) (xs : List A) (ts rest : List Token) → 0 < length ts → length ts ≤ n → Spells read room xs ts rest → members_at read room n ts ≡ Ok (xs, rest)
unfolding members_at
members_back read room zero xs ts rest some most s = absurd (omega arith)
members_back read room (suc n) [] ts rest some most s = rw (s.0, s.1) refl
members_back read room (suc n) (x ∷ xs) ts rest some most s = rw (s.1, s.2) (rw (members_back read (room - 1) n xs s.0 rest s.4 (omega (arith, s.3)) s.5) refl)

pub list_back : {A : Type 0} (read : Member A) (room : ℕ) (xs : List A) (ts rest : List Token) → 0 < length ts → Spells read room xs ts rest → list_at read room ts ≡ Ok (xs, rest)
unfolding list_at
list_back read room xs ts rest some s = members_back read room (length ts) xs ts rest some (omega arith) s

-- a list that has one member at least
pub full_list_back : {A : Type 0} (read : Member A) (room : ℕ) (x : A) (xs : List A) (ts next rest : List Token) → read (eqb room 0) (after_separators ts) ≡ Ok (x, next) → 0 < length next → Spells read (room - 1) xs next rest
    → full_list_at read room ts ≡ Ok (x ∷ xs, rest)
unfolding full_list_at
full_list_back read room x xs ts next rest e some s = rw e (rw (list_back read (room - 1) xs next rest some s) refl)

-- ---- sets of items

pub tokens_append : (line at : ℕ) (ps qs : List Piece) → line_tokens line at (ps ++ qs) ≡ line_tokens line at ps ++ line_tokens line (line_finish at ps) qs
tokens_append line at [] qs = refl
tokens_append line at (p ∷ ps) qs = ap (λ (ts : List Token). piece_token line at p ∷ ts) (tokens_append line (finish at p) ps qs)

item_starts : (item : Item) (line at : ℕ) (rest : List Token) → starts_word (line_tokens line at (item_pieces item) ++ rest) ≡ true
item_starts (items.LocalPref change) line at rest = refl
item_starts (items.Med change) line at rest = refl
item_starts (items.Weight change) line at rest = refl
item_starts (items.PrependSelf times) line at rest = refl
item_starts (items.PrependNeighbor times) line at rest = refl
item_starts (items.Origin origin) line at rest = refl
item_starts (items.Community community) line at rest = refl
item_starts (items.DeleteCommunity pattern) line at rest = refl
item_starts (items.LargeCommunity global one two) line at rest = refl
item_starts (items.DeleteLargeCommunity pattern) line at rest = refl
item_starts (items.NextHop hop) line at rest = refl

-- the tokens behind an item
abbrev pub behind_item : ℕ → ℕ → Item → List Item → List Token → List Token
behind_item line at item set rest = line_tokens line (line_finish at (item_pieces item)) (more_pieces set) ++ rest

item_then : (line at : ℕ) (item : Item) (set : List Item) (rest : List Token) → line_tokens line at (item_pieces item ++ more_pieces set) ++ rest ≡ line_tokens line at (item_pieces item) ++ behind_item line at item set rest
item_then line at item set rest =
    ap (λ (ts : List Token). ts ++ rest) (tokens_append line at (item_pieces item) (more_pieces set)) ∙ append_assoc (line_tokens line at (item_pieces item)) (line_tokens line (line_finish at (item_pieces item)) (more_pieces set)) rest

has_room : (room n : ℕ) → suc n ≤ room → eqb room 0 ≡ false
has_room room n h = grind (arith, nat_tests)

pub more_some : (line at : ℕ) (set : List Item) (rest : List Token) → 0 < length (line_tokens line at (more_pieces set) ++ rest)
more_some line at [] rest = omega arith
more_some line at (item ∷ set) rest = omega arith

longer : (line at : ℕ) (item : Item) (set : List Item) (rest : List Token) → length (behind_item line at item set rest) < suc (length (line_tokens line at (item_pieces item ++ more_pieces set) ++ rest))
longer line at item set rest =
    omega (arith, ap length (item_then line at item set rest), length-append (line_tokens line at (item_pieces item)) (behind_item line at item set rest))

pub read_item : (place : SetPlace) (room line at : ℕ) (item : Item) (set : List Item) (ts rest : List Token) → IsItem place item → length (item ∷ set) ≤ room → ts ≡ line_tokens line at (item_pieces item ++ more_pieces set) ++ rest
    → item_at place (eqb room 0) ts ≡ Ok (item, behind_item line at item set rest)
read_item place room line at item set ts rest h fits e =
    ap (λ (full : Bool). item_at place full ts) (has_room room (length set) fits) ∙ ap (item_at place false) (e ∙ item_then line at item set rest)
    ∙ item_back place item h line at (behind_item line at item set rest)

pub items_start : (line at : ℕ) (item : Item) (set : List Item) (rest : List Token) → starts_word (line_tokens line at (item_pieces item ++ more_pieces set) ++ rest) ≡ true
items_start line at item set rest = ap starts_word (item_then line at item set rest) ∙ item_starts item line at (behind_item line at item set rest)

pub more_spell : (place : SetPlace) (room line at : ℕ) (set : List Item) (rest : List Token) → Each (IsItem place) set → length set ≤ room → Spells (item_at place) room set (line_tokens line at (more_pieces set) ++ rest) rest
more_spell place room line at [] rest h fits = (ap (mark_is (codes "}")) (shut_stays line _ _ rest) ∙ is_shut line _ _ rest, ap behind (shut_stays line _ _ rest))
more_spell place room line at (item ∷ set) rest h fits =
    let p : ℕ = finish at comma in
    let ts : List Token = line_tokens line p (item_pieces item ++ more_pieces set) ++ rest in
    let passed : after_separators (piece_token line at comma ∷ ts) ≡ ts = pass (piece_token line at comma) ts refl (items_start line p item set rest) in (
      behind_item line p item set rest,
      ap (mark_is (codes "}")) passed ∙ no_mark (codes "}") ts (items_start line p item set rest),
      ap (item_at place (eqb room 0)) passed ∙ read_item place room line p item set ts rest h.0 fits refl,
      longer line p item set rest,
      more_some line (line_finish p (item_pieces item)) set rest,
      more_spell place (room - 1) line (line_finish p (item_pieces item)) set rest h.1 (omega (arith, fits)),
    )
