-- Each point of the choice compares by one number, or by the address of the neighbour.
use Rattle.std.proofs.Common.{◌≡◌, ℕ, Bool, true, false, Option, Some, None, refl, arith}
use Rattle.std.specs.Prelude.{nat_lt}
use Rattle.std.proofs.lemmas.Bool.Decides.{nat_tests}
use Rattle.std.specs.Cmp.{IsStrictWeakOrder}
use Rattle.std.specs.Ordering.{is_lt}
use Rattle.std.proofs.lemmas.List.MinMax.{ranks_by}
use Rattle.net_base.specs.declared.addr.Addr.{Addr}
use Rattle.net_base.specs.Order.{addr_cmp}
use Rattle.net_base.proofs.Order.{addr_cmp-total}
use Rattle.decision.specs.declared.candidate.Candidate.{Candidate}
use Rattle.decision.specs.declared.point.Point.{Point}
use Rattle.decision.specs.declared.point.Point.TheVariants as point
use Rattle.attr_model.specs.Path.{path_length}
use Rattle.decision.specs.Best.{local_pref_of, med_of, kind_of, peer_of, comes_first}
use Rattle.decision.specs.Points.{beats}
use Rattle.decision.proofs.Champions.{IsOrder}

less_asymmetric : (m n : ℕ) → nat_lt m n ≡ true → nat_lt n m ≡ false
less_asymmetric m n e = grind (arith, nat_tests)

less_comparable : (m n k : ℕ) → nat_lt m n ≡ true → nat_lt m k ≡ false → nat_lt k n ≡ true
less_comparable m n k e f = grind (arith, nat_tests)

greater_comparable : (m n k : ℕ) → nat_lt n m ≡ true → nat_lt k m ≡ false → nat_lt n k ≡ true
greater_comparable m n k e f = grind (arith, nat_tests)

by_less : (f : Candidate → ℕ) → IsOrder (λ one other. nat_lt (f one) (f other))
by_less f = record {
  asymmetric = λ x y. less_asymmetric (f x) (f y);
  comparable = λ x y m. less_comparable (f x) (f y) (f m);
}

by_greater : (f : Candidate → ℕ) → IsOrder (λ one other. nat_lt (f other) (f one))
by_greater f = record {
  asymmetric = λ x y. less_asymmetric (f y) (f x);
  comparable = λ x y m. greater_comparable (f x) (f y) (f m);
}

-- the order of addresses is one in which any two compare
addresses : IsStrictWeakOrder (λ (x y : Addr). is_lt (addr_cmp x y))
addresses = ranks_by addr_cmp-total (λ (x : Addr). x)

below_comparable : (x y m : Addr) → is_lt (addr_cmp x y) ≡ true → is_lt (addr_cmp x m) ≡ false → is_lt (addr_cmp m y) ≡ true
below_comparable x y m e d = by (is_lt (addr_cmp m y)) refl
  where
    by : (b : Bool) → is_lt (addr_cmp m y) ≡ b → is_lt (addr_cmp m y) ≡ true
    by true h = h
    by false h = let no = addresses.chain x m y d h in absurd cc

first_asymmetric : (x y : Option Addr) → comes_first x y ≡ true → comes_first y x ≡ false
first_asymmetric None None e = refl
first_asymmetric None (Some y) e = refl
first_asymmetric (Some x) None e = absurd cc
first_asymmetric (Some x) (Some y) e = addresses.one_way x y e

first_comparable : (x y m : Option Addr) → comes_first x y ≡ true → comes_first x m ≡ false → comes_first m y ≡ true
first_comparable None None m e d = absurd cc
first_comparable None (Some y) None e d = refl
first_comparable None (Some y) (Some m) e d = absurd cc
first_comparable (Some x) None m e d = absurd cc
first_comparable (Some x) (Some y) None e d = refl
first_comparable (Some x) (Some y) (Some m) e d = below_comparable x y m e d

by_peer : IsOrder (λ (one other : Candidate). comes_first (peer_of one.from) (peer_of other.from))
by_peer = record {
  asymmetric = λ x y. first_asymmetric (peer_of x.from) (peer_of y.from);
  comparable = λ x y m. first_comparable (peer_of x.from) (peer_of y.from) (peer_of m.from);
}

pub order_of : (p : Point) → IsOrder (beats p)
order_of point.LocalPref = by_greater local_pref_of
order_of point.PathLength = by_less (λ c. path_length c.attrs.attrs.path)
order_of point.Origin = by_less (λ c. c.attrs.attrs.origin)
order_of point.Med = by_less med_of
order_of point.Kind = by_less (λ c. kind_of c.from)
order_of point.Weight = by_greater (λ c. c.attrs.attrs.weight)
order_of point.BgpId = by_less (λ c. c.bgp_id)
order_of point.Peer = by_peer
