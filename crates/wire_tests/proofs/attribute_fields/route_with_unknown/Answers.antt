use Rattle.std.proofs.Common.{ℕ, ◌≤◌, List, [], ◌∷◌, length, refl, arith, None, false}
use Rattle.std.specs.List.Sorted.{IsStrictlySortedBy}
use Rattle.net_base.specs.declared.addr.Addr.{Addr}
use Rattle.attr_model.specs.declared.attrs.Attrs.{Attrs}
use Rattle.attr_model.specs.declared.path.Segment.{Segment}
use Rattle.attr_model.specs.Valid.{IsValid}
use Rattle.wire_tests.specs.declared.attribute_fields.TheConstants.{EXTERNAL}
use Rattle.attr_codec.specs.Written.{HaveShortValues}
use Rattle.wire_tests.proofs.attribute_fields.route_with_unknown.Goals as goal

abbrev like : List Segment → Addr → List ℕ → List (ℕ × ℕ × ℕ) → List (ℕ × List ℕ) → Attrs
like path hop cs ls us = record { origin = 0; path = path; hop = hop; med = None; local_pref = None; atomic = false; aggregator = None; communities = cs; large = ls; unknown = us; «partial» = 0; weight = 0 }

valid : (hop : Addr) (value : List ℕ) → IsValid (like [] hop [] [] ((200, value) ∷ []))
unfolding IsStrictlySortedBy
valid hop value = record {
  origin = omega arith;
  path = tt;
  communities = tt;
  large = tt;
  unknown = (tt, tt);
  unknown_types = (refl, tt);
  «partial» = record { below = omega arith; aggregator = λ some. absurd (some refl); communities = λ some. absurd (some refl); large = λ some. absurd (some refl) };
}

short : (hop : Addr) (value : List ℕ) → length value ≤ 65535 → HaveShortValues EXTERNAL (like [] hop [] [] ((200, value) ∷ []))
short hop value h = record { path = omega arith; as4_path = tt; communities = omega arith; large = omega arith; unknown = (λ small. h, tt) }

pub returns-clause-valid : goal.returns-clause-valid
returns-clause-valid c = rw (c.in_ok-push.ensures.ok, c.new-unknown.ensures, c.new.ensures, c.new-2.ensures, c.new-3.ensures) (valid _ _)

pub returns-clause-short : goal.returns-clause-short
returns-clause-short c =
    rw (c.in_ok-push.ensures.ok, c.new-unknown.ensures, c.new.ensures, c.new-2.ensures, c.new-3.ensures, c.in_ok-from_slice.ensures) (short _ (1 ∷ []) (omega arith))
