-- The message in front of a peer's bytes.
use Rattle.std.proofs.Common.{◌≡◌, ℕ, ◌+◌, ◌≤◌, Bool, true, false, List, length, drop, take, Option, Some, None, refl, sym, arith, length-drop}
use Rattle.std.specs.Prelude.{◌||◌, not, nat_lt, cond}
use Rattle.std.proofs.lemmas.Option.{none-some}
use Rattle.std.proofs.lemmas.List.{length-take-le}
use Rattle.bgp_wire.specs.declared.notify.Notify.{Notify}
use Rattle.bgp_wire.specs.declared.front.Cut.TheVariants as cuts
use Rattle.bgp_wire.specs.Message.{Header, IsGood, cut_of, fits_kind, header_of, is_all_ones}
use Rattle.bgp_wire.proofs.Stream.{cut_message, good_size}

row_none : (b : Bool) (fault : Notify) (others : Option Notify) → cond b (Some fault) others ≡ None → (b ≡ false) × (others ≡ None)
row_none true fault others h = absurd (none-some fault (sym h))
row_none false fault others h = (refl, h)

not_not : (b : Bool) → not b ≡ false → b ≡ true
not_not true h = refl
not_not false h = sym h

good_kind : (h : Header) → IsGood h → fits_kind h.kind h.size ≡ true
good_kind h g =
    let past_marker = row_none (not (is_all_ones h.marker)) _ _ g in
    let past_size = row_none (nat_lt h.size 19 || nat_lt 4096 h.size) _ _ past_marker.1 in
    let past_kind = row_none (nat_lt h.kind 1 || nat_lt 5 h.kind) _ _ past_size.1 in
    let last = row_none (not (fits_kind h.kind h.size)) _ _ past_kind.1 in
    not_not (fits_kind h.kind h.size) last.0

-- what is known of a message that is cut off
pub record IsFront (bytes : List ℕ) (its_kind its_size : ℕ) : Type 0 where
  pub header : 19 ≤ its_size
  pub whole : its_size ≤ length bytes
  pub fits : fits_kind its_kind (19 + length (drop 19 (take its_size bytes))) ≡ true

pub front_is : (bytes : List ℕ) (kind size : ℕ) → cut_of bytes ≡ cuts.Message kind size → IsFront bytes kind size
front_is bytes kind size h =
    let found = cut_message bytes kind size h in
    let long : 19 ≤ size = rw found.size (good_size (header_of bytes) found.good).0 in
    let whole : size ≤ length bytes = found.whole in
    let body : 19 + length (drop 19 (take size bytes)) ≡ size = simp (length-drop, length-take-le) (omega arith) in
    let good : fits_kind kind size ≡ true = rw (found.kind, found.size) (good_kind (header_of bytes) found.good) in
    record { header = long; whole = whole; fits = rw body good }
