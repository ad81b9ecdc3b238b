-- The tokens of a text by its statements, and the token of a fault.
use Rattle.std.proofs.Common.{◌≡◌, ◌∙◌, ◌⊎◌, inl, inr, ℕ, zero, suc, ◌+◌, ◌≤◌, Bool, true, false, cond, eqb, List, [], ◌∷◌, ◌++◌, length, length-append, append_assoc, drop, Result, Ok, Err, refl, ap, sym, subst, arith}
use Rattle.std.specs.List.{prefix_len}
use Rattle.std.proofs.lemmas.Bool.Decides.{nat_tests}
use Rattle.net_base.specs.declared.conf.ConfFault.{ConfFault}
use Rattle.conf_tree.specs.declared.draft.Draft.{Draft}
use Rattle.conf_tree.specs.declared.draft.Statement.{Statement}
use Rattle.conf_tree.specs.declared.draft.StatementLine.{StatementLine}
use Rattle.conf_tree.specs.declared.token.Token.{Token}
use Rattle.conf_tree.specs.Faults.{◌>>=◌}
use Rattle.conf_tree.specs.Kinds.{is_line_end}
use Rattle.conf_tree.specs.Reading.{Reading, line_of, unexpected, ends_line, line_end_at}
use Rattle.conf_tree.specs.StatementReading.{Room, all_room, room_behind, statement_at, statement_line_at, after_empty_lines, statements_at, draft_of}
use Rattle.conf_local.specs.Texts.{IsText}
use Rattle.conf_local.specs.Parts.{IsSaidBy, AreTokensOf, StandsAtToken}
use Rattle.conf_local.proofs.Local.{Local, StopsAt, replay}
use Rattle.conf_local.proofs.Statements.{statement_local}

-- ---- texts, or nothing at all

abbrev IsRest : List Token → Type 0
IsRest t = (t ≡ []) ⊎ IsText t

-- what stands behind some tokens of a text is one
behind_own : (own t : List Token) → IsText (own ++ t) → IsRest t
behind_own [] t h = inr h
behind_own (x ∷ []) t (inl last) = inl last.1
behind_own (x ∷ y ∷ own) t (inl last) = absurd (cc)
behind_own (x ∷ own) t (inr on) = behind_own own t on.1

text_behind : (own : List Token) (z : Token) (other : List Token) → IsText (own ++ (z ∷ other)) → IsText (z ∷ other)
text_behind own z other h = by (behind_own own (z ∷ other) h)
  where
    by : IsRest (z ∷ other) → IsText (z ∷ other)
    by (inl none) = absurd (cc)
    by (inr text) = text

-- ---- line ends in front

ends : Token → Bool
ends token = is_line_end token.kind

record HasEmptyLines (t : List Token) : Type 0 where
  front : List Token
  parts : t ≡ front ++ after_empty_lines t
  passes : (x : Token) (more : List Token) → is_line_end x.kind ≡ false → after_empty_lines (front ++ (x ∷ more)) ≡ x ∷ more
  stops : (x : Token) (more : List Token) → after_empty_lines t ≡ x ∷ more → is_line_end x.kind ≡ false

after_other : (x : Token) (more : List Token) → is_line_end x.kind ≡ false → after_empty_lines (x ∷ more) ≡ x ∷ more
unfolding after_empty_lines
after_other x more e = rw e refl

after_end : (x : Token) (more : List Token) → is_line_end x.kind ≡ true → after_empty_lines (x ∷ more) ≡ after_empty_lines more
unfolding after_empty_lines
after_end x more e = rw e (ap (λ (n : ℕ). drop n (x ∷ more)) (less (prefix_len (λ token. is_line_end token.kind) more)))
  where
    less : (n : ℕ) → 1 + n ≡ suc n
    less n = omega arith

after_none : after_empty_lines [] ≡ []
unfolding after_empty_lines
after_none = refl

empty_lines : (t : List Token) → HasEmptyLines t
empty_lines [] = record { front = []; parts = sym after_none; passes = after_other; stops = (λ x more e. absurd (let n = after_none in cc)) }
empty_lines (z ∷ t) = by (is_line_end z.kind) refl (empty_lines t)
  where
    by : (b : Bool) → is_line_end z.kind ≡ b → HasEmptyLines t → HasEmptyLines (z ∷ t)
    by true e h = record {
      front = z ∷ h.front;
      parts = ap (λ (ts : List Token). z ∷ ts) (h.parts ∙ ap (λ (ts : List Token). h.front ++ ts) (sym (after_end z t e)));
      passes = (λ x more k. after_end z (h.front ++ (x ∷ more)) e ∙ h.passes x more k);
      stops = (λ x more k. h.stops x more (sym (after_end z t e) ∙ k));
    }
    by false e h = record {
      front = [];
      parts = sym (after_other z t e);
      passes = after_other;
      stops = (λ x more k. let same : z ≡ x = let s = after_other z t e in cc in ap (λ (y : Token). is_line_end y.kind) (sym same) ∙ e);
    }

-- ---- a statement with its line

-- where a statement with its line ends, or its fault
abbrev Ends : Room → List Token → Reading StatementLine → Type 0
Ends room t (Ok found) = (own : List Token) × (t ≡ own ++ found.1) × (1 ≤ length own) × IsRest found.1 × IsSaidBy room found.0 own
Ends room t (Err fault) = (front : List Token) × (z : Token) × (rest : List Token) × (t ≡ front ++ (z ∷ rest)) × (fault.line ≡ z.line) × ((other : List Token) → IsText (z ∷ other) → statement_line_at room (front ++ (z ∷ other)) ≡ Err fault)

-- the line of the first token is that of the first token, whatever follows
line_again : (own : List Token) (z : Token) (rest other : List Token) → line_of (own ++ (z ∷ other)) ≡ line_of (own ++ (z ∷ rest))
line_again [] z rest other = refl
line_again (x ∷ own) z rest other = refl

abbrev line_then : ℕ → (Statement × List Token) → Reading StatementLine
line_then line statement = line_end_at statement.1 >>= λ rest. Ok (record { line = line; statement = statement.0 }, rest)

ended : (line : ℕ) (s : Statement) (z : Token) (other : List Token) → is_line_end z.kind ≡ true → line_then line (s, z ∷ other) ≡ Ok (record { line = line; statement = s }, other)
unfolding line_end_at ends_line
ended line s z other e = rw e refl

not_ended : (line : ℕ) (s : Statement) (z : Token) (other : List Token) → is_line_end z.kind ≡ false → line_then line (s, z ∷ other) ≡ unexpected (z ∷ other)
unfolding line_end_at ends_line
not_ended line s z other e = rw e refl

line_parts : (room : Room) (t : List Token) → IsText t → Ends room t (statement_line_at room t)
unfolding statement_line_at
line_parts room t h = by (statement_at room t) refl
  where
    l : Local true (statement_at room) t
    l = statement_local room t h

    -- the statement, with other tokens behind
    replayed : (r : Reading Statement) → statement_at room t ≡ r → (other : List Token) → IsText (l.z ∷ other) → (statement_at room (l.own ++ (l.z ∷ other)) >>= line_then (line_of (l.own ++ (l.z ∷ other)))) ≡ (replay r (l.z ∷ other) >>= line_then (line_of t))
    replayed r e other k =
        ap (λ (q : Reading Statement). q >>= line_then (line_of (l.own ++ (l.z ∷ other)))) (l.again other k ∙ ap (λ (q : Reading Statement). replay q (l.z ∷ other)) e)
        ∙ ap (λ (line : ℕ). replay r (l.z ∷ other) >>= line_then line) (line_again l.own l.z l.rest other ∙ sym (ap line_of l.same))

    stopped : (s : Statement) (left : List Token) → statement_at room t ≡ Ok (s, left) → left ≡ l.z ∷ l.rest
    stopped s left e = subst (λ (r : Reading Statement). StopsAt r l.z l.rest) e l.stops

    found : (s : Statement) (e : statement_at room t ≡ Ok (s, l.z ∷ l.rest)) (b : Bool) → is_line_end l.z.kind ≡ b → Ends room t (line_then (line_of t) (s, l.z ∷ l.rest))
    found s e true k = subst (Ends room t) (sym (ended (line_of t) s l.z l.rest k)) (
      l.own ++ (l.z ∷ []),
      l.same ∙ sym (append_assoc l.own (l.z ∷ []) l.rest),
      omega (arith, length-append l.own (l.z ∷ [])),
      behind_own (l.z ∷ []) l.rest l.text,
      record {
        whatever_follows = (λ other text.
            ap (statement_line_at room) (append_assoc l.own (l.z ∷ []) other)
            ∙ replayed (Ok (s, l.z ∷ l.rest)) e other (text_behind l.own l.z other (subst IsText (append_assoc l.own (l.z ∷ []) other) text))
            ∙ ended (line_of t) s l.z other k);
      },
    )
    found s e false k = subst (Ends room t) (sym (not_ended (line_of t) s l.z l.rest k))
        (l.own, l.z, l.rest, l.same, refl, λ other text. replayed (Ok (s, l.z ∷ l.rest)) e other text ∙ not_ended (line_of t) s l.z other k)

    by : (r : Reading Statement) → statement_at room t ≡ r → Ends room t (r >>= line_then (line_of t))
    by (Err fault) e = (l.own, l.z, l.rest, l.same, subst (λ (r : Reading Statement). StopsAt r l.z l.rest) e l.stops, λ other text. replayed (Err fault) e other text)
    by (Ok first) e =
        let same : first.1 ≡ l.z ∷ l.rest = stopped first.0 first.1 e in
        subst (λ (left : List Token). Ends room t (line_then (line_of t) (first.0, left))) (sym same)
        (found first.0 (e ∙ ap (λ (left : List Token). Ok (first.0, left)) same) (is_line_end l.z.kind) refl)

-- ---- all statements

empty_lines_shorter : (t : List Token) → length (after_empty_lines t) ≤ length t
empty_lines_shorter t =
    let h : HasEmptyLines t = empty_lines t in
    omega (arith, ap length h.parts, length-append h.front (after_empty_lines t))

empty_rest : (t : List Token) → IsRest t → IsRest (after_empty_lines t)
empty_rest t (inl none) = inl (ap after_empty_lines none ∙ after_none)
empty_rest t (inr text) =
    let h : HasEmptyLines t = empty_lines t in
    behind_own h.front (after_empty_lines t) (subst IsText h.parts text)

none_left : (t : List Token) → eqb (length t) 0 ≡ true → t ≡ []
none_left [] e = refl
none_left (z ∷ t) e = absurd (some (length t) e)
  where
    some : (n : ℕ) → eqb (suc n) 0 ≡ true → ⊥
    some n e = grind (arith, nat_tests)

some_left : (n : ℕ) → eqb (suc n) 0 ≡ false
some_left n = grind (arith, nat_tests)

some_text : (t : List Token) → IsRest t → eqb (length t) 0 ≡ false → IsText t
some_text t (inl none) e = absurd (let f = ap (λ (l : List Token). eqb (length l) 0) none in cc)
some_text t (inr text) e = text

abbrev others_of : Room → ℕ → (StatementLine × List Token) → Result (List StatementLine) ConfFault
others_of room most first = statements_at (room_behind room first.0.statement) most first.1 >>= λ others. Ok (first.0 ∷ others)

-- The tokens of a good text are those of its statements.
abbrev IsReadBy : ℕ → Type 0
IsReadBy n = (room : Room) (t : List Token) (lines : List StatementLine) → length t ≤ n → IsRest t → statements_at room n t ≡ Ok lines → AreTokensOf room t lines

tokens_by : (n : ℕ) → IsReadBy n
unfolding statements_at
tokens_by zero room [] lines short h e = subst (AreTokensOf room []) (let s : [] ≡ lines = cc in s) after_none
tokens_by zero room (z ∷ t) lines short h e = absurd (omega arith)
tokens_by (suc n) room t lines short h e = by (tokens_by n) (eqb (length (after_empty_lines t)) 0) refl e
  where
    good : IsReadBy n → (others : List StatementLine) (first : StatementLine × List Token) → Ends room (after_empty_lines t) (Ok first) → statements_at (room_behind room first.0.statement) n first.1 ≡ Ok others → first.0 ∷ others ≡ lines → AreTokensOf room t lines
    good again others first (own, same, some, rest, said) q s =
        subst (AreTokensOf room t) s
        (own, first.1, same, said, again (room_behind room first.0.statement) first.1 others (omega (arith, ap length same, length-append own first.1, some, empty_lines_shorter t, short)) rest q)

    after : IsReadBy n → (first : StatementLine × List Token) (r : Result (List StatementLine) ConfFault) → Ends room (after_empty_lines t) (Ok first) → statements_at (room_behind room first.0.statement) n first.1 ≡ r → (r >>= λ others. Ok (first.0 ∷ others)) ≡ Ok lines → AreTokensOf room t lines
    after again first (Ok others) p q f = good again others first p q (let s : first.0 ∷ others ≡ lines = cc in s)
    after again first (Err fault) p q f = absurd (cc)

    line : IsReadBy n → (r : Reading StatementLine) → Ends room (after_empty_lines t) r → (r >>= others_of room n) ≡ Ok lines → AreTokensOf room t lines
    line again (Ok first) p f = after again first (statements_at (room_behind room first.0.statement) n first.1) p refl f
    line again (Err fault) p f = absurd (cc)

    by : IsReadBy n → (b : Bool) → eqb (length (after_empty_lines t)) 0 ≡ b → cond b (Ok []) (statement_line_at room (after_empty_lines t) >>= others_of room n) ≡ Ok lines → AreTokensOf room t lines
    by again true k f = subst (AreTokensOf room t) (let s : [] ≡ lines = cc in s) (none_left (after_empty_lines t) k)
    by again false k f = line again (statement_line_at room (after_empty_lines t)) (line_parts room (after_empty_lines t) (some_text (after_empty_lines t) (empty_rest t h) k)) f

pub good_tokens : (tokens : List Token) (draft : Draft) → IsText tokens → draft_of tokens ≡ Ok draft → AreTokensOf all_room tokens draft.statements
unfolding draft_of
good_tokens tokens draft h e = by (statements_at all_room (length tokens) tokens) refl e
  where
    by : (r : Result (List StatementLine) ConfFault) → statements_at all_room (length tokens) tokens ≡ r → (r >>= λ statements. Ok (record { statements = statements })) ≡ Ok draft → AreTokensOf all_room tokens draft.statements
    by (Ok lines) k f = let s : record { statements = lines } ≡ draft = cc in tokens_by (length tokens) all_room tokens draft.statements (omega arith) (inr h) (k ∙ ap (λ (d : Draft). Ok d.statements) s)
    by (Err fault) k f = absurd (cc)

-- ---- the token of a fault

-- a fault of statements, whatever stands behind its token and however many more may come
record Faulty (room : Room) (t : List Token) (fault : ConfFault) : Type 0 where
  front : List Token
  z : Token
  rest : List Token
  same : t ≡ front ++ (z ∷ rest)
  line : fault.line ≡ z.line
  again : (m : ℕ) (other : List Token) → IsText (front ++ (z ∷ other)) → length (front ++ (z ∷ other)) ≤ m → statements_at room m (front ++ (z ∷ other)) ≡ Err fault

abbrev IsFaultyBy : ℕ → Type 0
IsFaultyBy n = (room : Room) (t : List Token) (fault : ConfFault) → length t ≤ n → IsRest t → statements_at room n t ≡ Err fault → Faulty room t fault

-- what is read of the first statement, where it stands behind line ends
module _ (room : Room) where
  first_read : (front : List Token) (w : Token) (more : List Token) (m : ℕ) → after_empty_lines (front ++ (w ∷ more)) ≡ w ∷ more → length (front ++ (w ∷ more)) ≤ m
      → (r : Result (List StatementLine) ConfFault) → ((k : ℕ) → length (front ++ (w ∷ more)) ≤ suc k → (statement_line_at room (w ∷ more) >>= others_of room k) ≡ r) → statements_at room m (front ++ (w ∷ more)) ≡ r
  unfolding statements_at
  first_read front w more zero after short r h = absurd (omega (arith, length-append front (w ∷ more)))
  first_read front w more (suc m) after short r h =
      ap (λ (y : List Token). cond (eqb (length y) 0) (Ok []) (statement_line_at room y >>= others_of room m)) after
      ∙ ap (λ (b : Bool). cond b (Ok []) (statement_line_at room (w ∷ more) >>= others_of room m)) (some_left (length more))
      ∙ h m short

-- the first token of what may follow is the same
record Same (w : Token) (own : List Token) (z : Token) (other : List Token) : Type 0 where
  more : List Token
  is : own ++ (z ∷ other) ≡ w ∷ more

same_first : (y : List Token) (w : Token) (ws own : List Token) (z : Token) (rest other : List Token) → y ≡ w ∷ ws → y ≡ own ++ (z ∷ rest) → Same w own z other
same_first y w ws [] z rest other e f = record { more = other; is = let s : w ≡ z = let g = sym e ∙ f in cc in ap (λ (x : Token). x ∷ other) (sym s) }
same_first y w ws (x ∷ own) z rest other e f = record { more = own ++ (z ∷ other); is = let s : w ≡ x = let g = sym e ∙ f in cc in ap (λ (x : Token). x ∷ (own ++ (z ∷ other))) (sym s) }

record FirstOf (y : List Token) : Type 0 where
  w : Token
  ws : List Token
  is : y ≡ w ∷ ws

first_of : (y : List Token) → IsText y → FirstOf y
first_of [] h = absurd h
first_of (w ∷ ws) h = record { w = w; ws = ws; is = refl }

module _ (room : Room) (n : ℕ) (t : List Token) (text : IsText (after_empty_lines t)) where
  lines : HasEmptyLines t
  lines = empty_lines t

  first : FirstOf (after_empty_lines t)
  first = first_of (after_empty_lines t) text

  -- the line ends in front of a statement, whatever the statement goes on with
  passed : (own : List Token) (z : Token) (rest other : List Token) → after_empty_lines t ≡ own ++ (z ∷ rest) → after_empty_lines (lines.front ++ (own ++ (z ∷ other))) ≡ own ++ (z ∷ other)
  passed own z rest other e =
      let s : Same first.w own z other = same_first (after_empty_lines t) first.w first.ws own z rest other first.is e in
      ap (λ (y : List Token). after_empty_lines (lines.front ++ y)) s.is ∙ lines.passes first.w s.more (lines.stops first.w first.ws first.is) ∙ sym s.is

  -- and so the statement is read
  read_behind : (own : List Token) (z : Token) (rest other : List Token) → after_empty_lines t ≡ own ++ (z ∷ rest) → (m : ℕ) → length (lines.front ++ (own ++ (z ∷ other))) ≤ m → (r : Result (List StatementLine) ConfFault)
      → ((k : ℕ) → length (lines.front ++ (own ++ (z ∷ other))) ≤ suc k → (statement_line_at room (own ++ (z ∷ other)) >>= others_of room k) ≡ r) → statements_at room m (lines.front ++ (own ++ (z ∷ other))) ≡ r
  read_behind own z rest other e m short r h =
      let s : Same first.w own z other = same_first (after_empty_lines t) first.w first.ws own z rest other first.is e in
      ap (λ (y : List Token). statements_at room m (lines.front ++ y)) s.is
      ∙ first_read room lines.front first.w s.more m (ap (λ (y : List Token). after_empty_lines (lines.front ++ y)) (sym s.is) ∙ passed own z rest other e ∙ s.is)
      (subst (λ (y : List Token). length (lines.front ++ y) ≤ m) s.is short) r
      (λ k less. ap (λ (y : List Token). statement_line_at room y >>= others_of room k) (sym s.is) ∙ h k (subst (λ (y : List Token). length (lines.front ++ y) ≤ suc k) (sym s.is) less))

  -- a fault of the first statement
  first_faulty : (fault : ConfFault) → Ends room (after_empty_lines t) (Err fault) → Faulty room t fault
  first_faulty fault (front, z, rest, same, line, again) = record {
    front = lines.front ++ front;
    z = z;
    rest = rest;
    same = lines.parts ∙ ap (λ (y : List Token). lines.front ++ y) same ∙ sym (append_assoc lines.front front (z ∷ rest));
    line = line;
    again = λ m other text short.
        let regrouped : (lines.front ++ front) ++ (z ∷ other) ≡ lines.front ++ (front ++ (z ∷ other)) = append_assoc lines.front front (z ∷ other) in
        ap (statements_at room m) regrouped
        ∙ read_behind front z rest other same m (subst (λ (y : List Token). length y ≤ m) regrouped short) (Err fault)
        (λ k less. ap (λ (r : Reading StatementLine). r >>= others_of room k) (again other (text_behind (lines.front ++ front) z other text)));
  }

  -- a fault of a later one
  later_faulty : (found : StatementLine × List Token) (fault : ConfFault) → Ends room (after_empty_lines t) (Ok found) → Faulty (room_behind room found.0.statement) found.1 fault → Faulty room t fault
  later_faulty found fault (own, same, some, rest, said) f =
      let whole : after_empty_lines t ≡ (own ++ f.front) ++ (f.z ∷ f.rest) = same ∙ ap (λ (y : List Token). own ++ y) f.same ∙ sym (append_assoc own f.front (f.z ∷ f.rest)) in
      record {
        front = lines.front ++ (own ++ f.front);
        z = f.z;
        rest = f.rest;
        same = lines.parts ∙ ap (λ (y : List Token). lines.front ++ y) whole ∙ sym (append_assoc lines.front (own ++ f.front) (f.z ∷ f.rest));
        line = f.line;
        again = λ m other text short.
            let regrouped : (lines.front ++ (own ++ f.front)) ++ (f.z ∷ other) ≡ lines.front ++ ((own ++ f.front) ++ (f.z ∷ other)) = append_assoc lines.front (own ++ f.front) (f.z ∷ other) in
            let inner : (own ++ f.front) ++ (f.z ∷ other) ≡ own ++ (f.front ++ (f.z ∷ other)) = append_assoc own f.front (f.z ∷ other) in
            let behind : List Token = f.front ++ (f.z ∷ other) in
            let all : IsText (own ++ behind) = some_behind lines.front (own ++ behind) (subst IsText (regrouped ∙ ap (λ (y : List Token). lines.front ++ y) inner) text) (nonempty own f.front f.z other) in
            let left : IsText behind = some_behind own behind all (nonempty [] f.front f.z other) in
            ap (statements_at room m) regrouped
            ∙ read_behind (own ++ f.front) f.z f.rest other whole m (subst (λ (y : List Token). length y ≤ m) regrouped short) (Err fault)
            (λ k less.
            ap (λ (y : List Token). statement_line_at room y >>= others_of room k) inner
            ∙ ap (λ (r : Reading StatementLine). r >>= others_of room k) (said.whatever_follows behind all)
            ∙ ap (λ (r : Result (List StatementLine) ConfFault). r >>= λ others. Ok (found.0 ∷ others))
            (f.again k other left (omega (arith, less, some, length-append lines.front ((own ++ f.front) ++ (f.z ∷ other)), ap length inner, length-append own behind))));
      }
    where
      nonempty : (a b : List Token) (z : Token) (c : List Token) → a ++ (b ++ (z ∷ c)) ≡ [] → ⊥
      nonempty [] [] z c e = cc
      nonempty [] (x ∷ b) z c e = cc
      nonempty (x ∷ a) b z c e = cc

      some_behind : (a b : List Token) → IsText (a ++ b) → (b ≡ [] → ⊥) → IsText b
      some_behind a b h some = by (behind_own a b h)
        where
          by : IsRest b → IsText b
          by (inl none) = absurd (some none)
          by (inr text) = text

faulty_by : (n : ℕ) → IsFaultyBy n
unfolding statements_at
faulty_by zero room t fault short h e = absurd (cc)
faulty_by (suc n) room t fault short h e = by (faulty_by n) (eqb (length (after_empty_lines t)) 0) refl e
  where
    after : IsFaultyBy n → IsText (after_empty_lines t) → (found : StatementLine × List Token) (r : Result (List StatementLine) ConfFault) → Ends room (after_empty_lines t) (Ok found) → statements_at (room_behind room found.0.statement) n found.1 ≡ r
        → (r >>= λ others. Ok (found.0 ∷ others)) ≡ Err fault → Faulty room t fault
    after again text found (Ok others) p q f = absurd (cc)
    after again text found (Err other) p q f =
        let s : other ≡ fault = cc in
        later_faulty room n t text found fault p (again (room_behind room found.0.statement) found.1 fault (omega (arith, ap length p.1, length-append p.0 found.1, p.2, empty_lines_shorter t, short)) p.3 (q ∙ ap (λ (x : ConfFault). Err x) s))

    line : IsFaultyBy n → IsText (after_empty_lines t) → (r : Reading StatementLine) → Ends room (after_empty_lines t) r → (r >>= others_of room n) ≡ Err fault → Faulty room t fault
    line again text (Ok found) p f = after again text found (statements_at (room_behind room found.0.statement) n found.1) p refl f
    line again text (Err other) p f =
        let s : other ≡ fault = cc in
        first_faulty room n t text fault (subst (λ (x : ConfFault). Ends room (after_empty_lines t) (Err x)) s p)

    by : IsFaultyBy n → (b : Bool) → eqb (length (after_empty_lines t)) 0 ≡ b → cond b (Ok []) (statement_line_at room (after_empty_lines t) >>= others_of room n) ≡ Err fault → Faulty room t fault
    by again true k f = absurd (cc)
    by again false k f =
        let text : IsText (after_empty_lines t) = some_text (after_empty_lines t) (empty_rest t h) k in
        line again text (statement_line_at room (after_empty_lines t)) (line_parts room (after_empty_lines t) text) f

abbrev draft_with : Result (List StatementLine) ConfFault → Result Draft ConfFault
draft_with r = r >>= λ statements. Ok (record { statements = statements })

pub fault_at_token : (tokens : List Token) (fault : ConfFault) → IsText tokens → draft_of tokens ≡ Err fault → StandsAtToken tokens fault
unfolding draft_of
fault_at_token tokens fault h e = by (statements_at all_room (length tokens) tokens) refl e
  where
    by : (r : Result (List StatementLine) ConfFault) → statements_at all_room (length tokens) tokens ≡ r → draft_with r ≡ Err fault → StandsAtToken tokens fault
    by (Ok lines) k f = absurd (cc)
    by (Err other) k f =
        let s : other ≡ fault = cc in
        let p : Faulty all_room tokens fault = faulty_by (length tokens) all_room tokens fault (omega arith) (inr h) (k ∙ ap (λ (x : ConfFault). Err x) s) in
        record { front = p.front; token = p.z; behind = p.rest; parts = p.same; line = p.line; whatever_follows = λ more text. ap draft_with (p.again (length (p.front ++ (p.z ∷ more))) more text (omega arith)) }
