-- What is asked of the first token alone, and what must stand there.
use Rattle.std.proofs.Common.{◌≡◌, ℕ, Bool, true, false, cond, ◌||◌, List, [], ◌∷◌, Option, Some, None, Ok, refl, bytes_eq, codes}
use Rattle.std.specs.List.{list_any}
use Rattle.std.specs.Option.{option_map_or}
use Rattle.conf_tree.specs.declared.token.Token.{Token}
use Rattle.conf_tree.specs.declared.token.TokenKind.{TokenKind}
use Rattle.conf_tree.specs.declared.token.TokenKind.TheVariants.{Word, Quoted, Mark, LineEnd}
use Rattle.conf_tree.specs.Faults.{◌>>=◌}
use Rattle.conf_tree.specs.Kinds.{is_word, is_mark, is_quoted, is_line_end}
use Rattle.conf_tree.specs.Reading.{Reading, unexpected, behind, text_of, word_is, word_in, mark_is, ends_line, keyword_at, mark_at}
use Rattle.conf_tree.specs.Values.{word_passes, in_range, spelled}
use Rattle.conf_tree.specs.NeighbourReading.{separated_at}
use Rattle.conf_local.specs.Texts.{IsText}
use Rattle.conf_local.proofs.Local.{Begun, begun, OfFirst, Local, IsLocal, takes, past, fails_here, by_first}

-- ---- tests

pub text_of_first : (is_kind : TokenKind → Bool) → OfFirst (text_of is_kind)
unfolding text_of
text_of_first is_kind z a b = refl

pub word_is_first : (name : List ℕ) → OfFirst (word_is name)
unfolding word_is text_of
word_is_first name z a b = refl

pub word_in_first : (names : List (List ℕ)) → OfFirst (word_in names)
unfolding word_in word_is text_of
word_in_first names z a b = refl

pub mark_is_first : (name : List ℕ) → OfFirst (mark_is name)
unfolding mark_is text_of
mark_is_first name z a b = refl

pub word_passes_first : (test : List ℕ → Bool) → OfFirst (word_passes test)
unfolding word_passes text_of
word_passes_first test z a b = refl

pub ends_line_first : OfFirst ends_line
unfolding ends_line
ends_line_first z a b = refl

-- ---- a first token that isn't the end

word_ends_nothing : (kind : TokenKind) → is_word kind ≡ true → is_line_end kind ≡ false
word_ends_nothing Word e = refl
word_ends_nothing Quoted e = absurd (cc)
word_ends_nothing Mark e = absurd (cc)
word_ends_nothing LineEnd e = absurd (cc)

mark_ends_nothing : (kind : TokenKind) → is_mark kind ≡ true → is_line_end kind ≡ false
mark_ends_nothing Word e = absurd (cc)
mark_ends_nothing Quoted e = absurd (cc)
mark_ends_nothing Mark e = refl
mark_ends_nothing LineEnd e = absurd (cc)

pub end_is_no_word : (kind : TokenKind) → is_line_end kind ≡ true → is_word kind ≡ false
end_is_no_word Word e = absurd (cc)
end_is_no_word Quoted e = absurd (cc)
end_is_no_word Mark e = absurd (cc)
end_is_no_word LineEnd e = refl

pub end_is_not_quoted : (kind : TokenKind) → is_line_end kind ≡ true → is_quoted kind ≡ false
end_is_not_quoted Word e = absurd (cc)
end_is_not_quoted Quoted e = absurd (cc)
end_is_not_quoted Mark e = absurd (cc)
end_is_not_quoted LineEnd e = refl

-- a text of a kind that passes a test
kind_begun : (is_kind : TokenKind → Bool) → ((kind : TokenKind) → is_kind kind ≡ true → is_line_end kind ≡ false) → (test : List ℕ → Bool) (t : List Token) → IsText t → option_map_or test (text_of is_kind t) false ≡ true → Begun t
unfolding text_of
kind_begun is_kind ends test [] h e = absurd h
kind_begun is_kind ends test (z ∷ rest) h e = by (is_kind z.kind) refl e
  where
    by : (b : Bool) → is_kind z.kind ≡ b → option_map_or test (cond b (Some z.text) None) false ≡ true → Begun (z ∷ rest)
    by true k f = begun z rest h (ends z.kind k)
    by false k f = absurd (cc)

pub word_begun : (name : List ℕ) (t : List Token) → IsText t → word_is name t ≡ true → Begun t
unfolding word_is
word_begun name t h e = kind_begun is_word word_ends_nothing (bytes_eq name) t h e

pub words_begun : (names : List (List ℕ)) (t : List Token) → IsText t → word_in names t ≡ true → Begun t
unfolding word_in
words_begun [] t h e = absurd (cc)
words_begun (name ∷ names) t h e = by (word_is name t) refl e (words_begun names t h)
  where
    by : (b : Bool) → word_is name t ≡ b → (b || list_any (λ name. word_is name t) names) ≡ true → (list_any (λ name. word_is name t) names ≡ true → Begun t) → Begun t
    by true k f others = word_begun name t h k
    by false k f others = others f

pub mark_begun : (name : List ℕ) (t : List Token) → IsText t → mark_is name t ≡ true → Begun t
unfolding mark_is
mark_begun name t h e = kind_begun is_mark mark_ends_nothing (bytes_eq name) t h e

pub passes_begun : (test : List ℕ → Bool) (t : List Token) → IsText t → word_passes test t ≡ true → Begun t
unfolding word_passes
passes_begun test t h e = kind_begun is_word word_ends_nothing test t h e

-- a value of the first token that no line end has
abbrev pub NoneAtEnd : {A : Type 0} → (List Token → Option A) → Type 0
NoneAtEnd value = (z : Token) (rest : List Token) → is_line_end z.kind ≡ true → value (z ∷ rest) ≡ None

pub value_begun : {A : Type 0} (value : List Token → Option A) → NoneAtEnd value → (t : List Token) → IsText t → (x : A) → value t ≡ Some x → Begun t
value_begun value none [] h x e = absurd h
value_begun value none (z ∷ rest) h x e = by (is_line_end z.kind) refl
  where
    by : (b : Bool) → is_line_end z.kind ≡ b → Begun (z ∷ rest)
    by true k = absurd (let n = none z rest k in cc)
    by false k = begun z rest h k

-- ---- values of one token

pub ranged : {A : Type 0} {some : Bool} (value : List Token → Option A) (t : List Token) → OfFirst value → Begun t → IsText t → Local some (λ x. in_range x (value x)) t
ranged {A} {some} value t o b h = by_first value (λ c x. in_range x c) t o (λ c e. by c)
  where
    by : (c : Option A) → Local some (λ x. in_range x c) t
    by None = fails_here _ t h
    by (Some v) = takes v t b

pub spelt : {A : Type 0} {some : Bool} (value : List Token → Option A) (t : List Token) → OfFirst value → NoneAtEnd value → IsText t → Local some (λ x. spelled x (value x)) t
spelt {A} {some} value t o none h = by_first value (λ c x. spelled x c) t o by
  where
    by : (c : Option A) → value t ≡ c → Local some (λ x. spelled x c) t
    by None e = fails_here _ t h
    by (Some v) e = takes v t (value_begun value none t h v e)

-- ---- what must stand there

pub keyword_then : {A : Type 0} {some : Bool} (name : List ℕ) (g : List Token → Reading A) (t : List Token) → IsText t → IsLocal false g → Local some (λ x. keyword_at name x >>= g) t
unfolding keyword_at
keyword_then {A} {some} name g t h l = by_first (word_is name) (λ b x. cond b (Ok (behind x)) (unexpected x) >>= g) t (word_is_first name) by
  where
    by : (b : Bool) → word_is name t ≡ b → Local some (λ x. cond b (Ok (behind x)) (unexpected x) >>= g) t
    by true e = past g t (word_begun name t h e) l
    by false e = fails_here _ t h

pub mark_then : {A : Type 0} {some : Bool} (name : List ℕ) (g : List Token → Reading A) (t : List Token) → IsText t → IsLocal false g → Local some (λ x. mark_at name x >>= g) t
unfolding mark_at
mark_then {A} {some} name g t h l = by_first (mark_is name) (λ b x. cond b (Ok (behind x)) (unexpected x) >>= g) t (mark_is_first name) by
  where
    by : (b : Bool) → mark_is name t ≡ b → Local some (λ x. cond b (Ok (behind x)) (unexpected x) >>= g) t
    by true e = past g t (mark_begun name t h e) l
    by false e = fails_here _ t h

pub separated_then : {A : Type 0} (g : List Token → Reading A) (t : List Token) → IsText t → IsLocal false g → Local false (λ x. separated_at x >>= g) t
unfolding separated_at ends_line mark_is text_of
separated_then {A} g t h l = by_first (λ x. ends_line x || mark_is (codes "}") x) (λ b x. cond b (Ok x) (unexpected x) >>= g) t (λ z a b. refl) by
  where
    by : (b : Bool) → (ends_line t || mark_is (codes "}") t) ≡ b → Local false (λ x. cond b (Ok x) (unexpected x) >>= g) t
    by true e = l t h
    by false e = fails_here _ t h
