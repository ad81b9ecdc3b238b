-- What is read of each printed statement, with the lines behind it.
use Rattle.std.proofs.Common.{◌≡◌, ◌∙◌, ℕ, ◌+◌, true, List, [], ◌∷◌, ◌++◌, length, length-append, append_assoc, map, flat_map, Ok, refl, ap, sym, arith}
use Rattle.conf_tree.specs.declared.token.Token.{Token}
use Rattle.conf_tree.specs.declared.conf.Conf.{Conf}
use Rattle.conf_tree.specs.declared.neighbour.Neighbour.{Neighbour}
use Rattle.conf_tree.specs.declared.draft.Statement.{Statement}
use Rattle.conf_tree.specs.Reading.{line_of, ends_line}
use Rattle.conf_tree.specs.StatementReading.{Room, statement_at}
use Rattle.conf_round.proofs.Pieces.{Piece, line_tokens, line_finish, end_token}
use Rattle.conf_round.proofs.Texts.{lines_tokens}
use Rattle.conf_round.proofs.Lines.{shut}
use Rattle.conf_round.proofs.SetLines.{block_lines}
use Rattle.conf_round.proofs.RuleLines.{option_lines, neighbour_lines}
use Rattle.conf_round.proofs.ReadLists.{starts_word}
use Rattle.conf_round.proofs.ReadStatements.{StatementBack, LineBack}
use Rattle.conf_round.proofs.ReadSets.{after_block, line_then, block_tokens}
use Rattle.conf_round.proofs.ReadOptions.{StartsLine}
use Rattle.conf_round.proofs.ReadNeighbours.{same_line, neighbour_head, line_of_tokens, shut_line, shut_at, after_is, after_shorter, next_line, next_at, after_members}
use Rattle.conf_round.proofs.ReadWhole.{Says}

end_line : (line at : ℕ) (rest : List Token) → ends_line (end_token line at ∷ rest) ≡ true
unfolding ends_line
end_line line at rest = refl

-- ---- statements of one line

pub line_says : (room : Room) (l : List Piece) (s : Statement) → LineBack room l s → StartsLine l → Says room (l ∷ [], λ _. s)
line_says room l s back starts line at more =
    let next : List Token = end_token line (line_finish at l) ∷ lines_tokens (line + 1) (line_finish at l + 1) more in
    let same = line_then line at l more in
    let ended : ends_line next ≡ true = end_line line (line_finish at l) (lines_tokens (line + 1) (line_finish at l + 1) more) in
    record {
      end_line = line;
      end_place = line_finish at l;
      next = line_finish at l + 1;
      says = ap (statement_at room) same ∙ back line at next ended;
      starts = ap starts_word same ∙ starts line at next;
      begins = ap line_of same ∙ line_of_tokens line at l next (starts line at next) ended;
      longer = omega (arith, ap length same, length-append (line_tokens line at l) next);
    }

pub any_line : (room : Room) (l : List Piece) (s : Statement) → StatementBack room l s → LineBack room l s
any_line room l s back line at rest e = back line at rest

-- ---- statements of several lines

pub shut_lines : (line : ℕ) (ls : List (List Piece)) → shut_line line ls ≡ line + length ls
shut_lines line [] = omega arith
shut_lines line (l ∷ ls) = omega (arith, shut_lines (line + 1) ls)

pub block_says : (room : Room) (head : List Piece) (inner : List (List Piece)) (s : ℕ → Statement)
    → ((line at : ℕ) (more : List (List Piece)) → statement_at room (lines_tokens line at (block_lines head inner ++ more)) ≡ Ok (s line, after_block same_line (line + 1) (line_finish at head + 1) inner more)) → StartsLine head
    → Says room (block_lines head inner, s)
block_says room head inner s back starts line at more =
    let at' : ℕ = line_finish at head + 1 in
    let behind : List Token = end_token line (line_finish at head) ∷ lines_tokens (line + 1) at' (inner ++ ((shut ∷ []) ∷ more)) in
    let same = block_tokens line at head inner more in
    let left = after_is (line + 1) at' inner more in
    let lines : shut_line (line + 1) inner + 1 ≡ line + length (block_lines head inner) = omega (arith, shut_lines (line + 1) inner, length-append inner ((shut ∷ []) ∷ [])) in
    let ended : ends_line behind ≡ true = end_line line (line_finish at head) (lines_tokens (line + 1) at' (inner ++ ((shut ∷ []) ∷ more))) in
    let moved : lines_tokens (shut_line (line + 1) inner + 1) (shut_at at' inner + 1) more ≡ lines_tokens (line + length (block_lines head inner)) (shut_at at' inner + 1) more = ap (λ (n : ℕ). lines_tokens n (shut_at at' inner + 1) more) lines in
    record {
      end_line = shut_line (line + 1) inner;
      end_place = shut_at at' inner;
      next = shut_at at' inner + 1;
      says = back line at more ∙ ap (λ (ts : List Token). Ok (s line, ts)) (left ∙ ap (λ (ts : List Token). end_token (shut_line (line + 1) inner) (shut_at at' inner) ∷ ts) moved);
      starts = ap starts_word same ∙ starts line at behind;
      begins = ap line_of same ∙ line_of_tokens line at head behind (starts line at behind) ended;
      longer = omega (arith, ap length moved, ap length left, after_shorter (line + 1) at' inner more, ap length same, length-append (line_tokens line at head) behind);
    }

-- the entries of a block as lines
pub after_map : {A : Type 0} (f : A → List Piece) (line at : ℕ) (es : List A) (more : List (List Piece)) → after_block f line at es more ≡ after_block same_line line at (map f es) more
after_map f line at [] more = refl
after_map f line at (x ∷ es) more = after_map f (line + 1) (line_finish at (f x) + 1) es more

-- ---- groups

abbrev place_after : ℕ → List (List Piece) → ℕ
place_after at [] = at
place_after at (l ∷ ls) = place_after (line_finish at l + 1) ls

shut_place : (at : ℕ) (ls : List (List Piece)) → shut_at at ls ≡ line_finish (place_after at ls) (shut ∷ [])
shut_place at [] = refl
shut_place at (l ∷ ls) = shut_place (line_finish at l + 1) ls

after_append : (line at : ℕ) (ls ms more : List (List Piece)) → after_block same_line line at (ls ++ ms) more ≡ after_block same_line (shut_line line ls) (place_after at ls) ms more
after_append line at [] ms more = refl
after_append line at (l ∷ ls) ms more = after_append (line + 1) (line_finish at l + 1) ls ms more

pub members_after : (conf : Conf) (line at : ℕ) (ns : List Neighbour) (more : List (List Piece)) → after_members conf line at ns more ≡ after_block same_line line at (flat_map (neighbour_lines conf) ns) more
members_after conf line at [] more = refl
members_after conf line at (n ∷ ns) more =
    let head : ℕ = line_finish at (neighbour_head n) + 1 in
    let options : List (List Piece) = option_lines conf n in
    let others : List (List Piece) = flat_map (neighbour_lines conf) ns in
    members_after conf (next_line conf line n) (next_at conf at n) ns more
    ∙ ap (λ (place : ℕ). after_block same_line (shut_line (line + 1) options + 1) (place + 1) others more) (shut_place head options)
    ∙ sym (after_append (line + 1) head options ((shut ∷ []) ∷ others) more)
    ∙ ap (λ (ls : List (List Piece)). after_block same_line (line + 1) head ls more) (sym (append_assoc options ((shut ∷ []) ∷ []) others))
