-- A route as the tests send it.
use Rattle.std.proofs.Common.{◌≡◌, ◌∙◌, ℕ, ◌≤◌, true, false, List, [], ◌∷◌, length, None, refl, ap, sym, subst, arith}
use Rattle.std.specs.Prelude.{not}
use Rattle.std.specs.List.Sorted.{IsStrictlySortedBy}
use Rattle.std.specs.declared.cmp.Ordering.{Ordering}
use Rattle.std.specs.Ordering.{nat_cmp}
use Rattle.net_base.specs.declared.addr.Family.{Family}
use Rattle.net_base.specs.declared.addr.Family.TheVariants.{V4}
use Rattle.net_base.specs.declared.addr.Addr.{Addr}
use Rattle.net_base.specs.declared.prefix.Prefix.{Prefix}
use Rattle.bgp_wire.specs.declared.open.Encoding.{Encoding}
use Rattle.attr_model.specs.declared.attrs.Attrs.{Attrs}
use Rattle.attr_model.specs.declared.path.Segment.{Segment}
use Rattle.attr_model.specs.declared.path.Segment.TheVariants.{Sequence}
use Rattle.attr_model.specs.Valid.{IsPath, IsValid}
use Rattle.update_codec.specs.declared.out_update.OutUpdate.TheVariants.{Announce}
use Rattle.update_codec.specs.Written.{is_agreed, IsWritable}

none_sorted : {K : Type 0} (c : K → K → Ordering) → IsStrictlySortedBy c []
unfolding IsStrictlySortedBy
none_sorted c = tt

abbrev pub plain : List Segment → Addr → Attrs
plain path hop = record { origin = 0; path = path; hop = hop; med = None; local_pref = None; atomic = false; aggregator = None; communities = []; large = []; unknown = []; «partial» = 0; weight = 0 }

plain_valid : (path : List Segment) (hop : Addr) → IsPath path → IsValid (plain path hop)
plain_valid path hop is = record {
  origin = omega arith;
  path = is;
  communities = none_sorted nat_cmp;
  large = none_sorted _;
  unknown = none_sorted nat_cmp;
  unknown_types = tt;
  «partial» = record { below = omega arith; aggregator = λ some. absurd (some refl); communities = λ some. absurd (some refl); large = λ some. absurd (some refl) };
}

plain_writable : (enc : Encoding) (path : List Segment) (hop : Addr) (p : Prefix) → enc.v4 ≡ true → enc.external ≡ true → IsPath path → hop.family ≡ V4 → p.family ≡ V4 → IsWritable enc (Announce (plain path hop) (p ∷ []))
plain_writable enc path hop p v4 external is e f = (
  record { some = λ e. absurd cc; each = (f ∙ sym e, tt); agreed = subst (λ (f : Family). is_agreed enc f ≡ true) (sym e) v4 },
  record { valid = plain_valid path hop is; weight = refl; local_pref = sym (ap not external) },
)

-- the same for lists that equal these
pub writable : (enc : Encoding) (path : List Segment) (hop : Addr) (cs : List ℕ) (ls : List (ℕ × ℕ × ℕ)) (us : List (ℕ × List ℕ)) (ps : List Prefix) (p : Prefix) (ns : List ℕ) → enc.v4 ≡ true → enc.external ≡ true → hop.family ≡ V4 → p.family ≡ V4
    → path ≡ Sequence ns ∷ [] → 1 ≤ length ns → length ns ≤ 255 → cs ≡ [] → ls ≡ [] → us ≡ [] → ps ≡ p ∷ []
    → IsWritable enc (Announce (record { origin = 0; path = path; hop = hop; med = None; local_pref = None; atomic = false; aggregator = None; communities = cs; large = ls; unknown = us; «partial» = 0; weight = 0 }) ps)
writable enc path hop cs ls us ps p ns v4 external e f path_is some few cs_is ls_is us_is ps_is =
    rw (cs_is, ls_is, us_is, ps_is, path_is) (plain_writable enc (Sequence ns ∷ []) hop p v4 external (record { some = some; counted = few }, tt) e f)
