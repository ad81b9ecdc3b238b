-- An OPEN that was written says what its rules announce.
use Rattle.std.proofs.Common.{◌≡◌, ◌≢◌, ◌∙◌, ℕ, ◌<◌, ◌≤◌, ◌^◌, Bool, true, false, List, [], ◌∷◌, ◌++◌, length, drop, Option, Some, None, Ok, refl, ap, sym, arith, append-nil, inl, inr}
use Rattle.std.specs.Prelude.{if◌then◌else◌, ◌&&◌, ◌||◌, ◌==◌, not, nat_lt, nat_eq, cond, flat_map, ◌⊎◌, unwrap_or}
use Rattle.std.specs.List.{list_any, list_all}
use Rattle.std.proofs.lemmas.List.Folds.{list_any-append, list_all-append}
use Rattle.std.proofs.lemmas.Bool.Decides.{nat_tests}
use Rattle.byteorder.specs.Endian.{big_bytes, big_number}
use Rattle.byteorder.specs.Numbers.{big_number-reads_back}
use Rattle.bgp_wire.specs.declared.open.OpenRules.{OpenRules}
use Rattle.bgp_wire.specs.declared.open.OpenFacts.{OpenFacts}
use Rattle.bgp_wire.specs.declared.notify.Notify.{Notify}
use Rattle.bgp_wire.specs.Message.{first_row}
use Rattle.bgp_wire.specs.Entries.{Entry, entry_bytes}
use Rattle.bgp_wire.specs.Open.{Open, open_of, lists_of, parameters_of, capabilities_in, has_its_length, is_of_code, is_of_family, offers_v4, offers_v6, offers, four_octet_as, as_of, answer_to, open_rows, facts_of, answered}
use Rattle.bgp_wire.specs.Written.{announced, capabilities_by, parameters_by, my_as_by, optional_by, open_by, heard_asn, facts_by, IsAcceptable, RulesHaveWidth}
use Rattle.bgp_wire.proofs.Cutting.{entries_written}
use Rattle.bgp_wire.proofs.Offers.{later_as, or_false}
use Rattle.bgp_wire.proofs.Judging.{or_none}

-- a test of what is announced
any_announced : (p : Entry → Bool) (b : Bool) (code : ℕ) (value : List ℕ) → list_any p (announced b code value) ≡ (b && p (record { code = code; value = value }))
any_announced p true code value = or_false (p (record { code = code; value = value }))
any_announced p false code value = refl

all_announced : (p : Entry → Bool) (b : Bool) (code : ℕ) (value : List ℕ) → p (record { code = code; value = value }) ≡ true → list_all p (announced b code value) ≡ true
all_announced p true code value h = rw h refl
all_announced p false code value h = refl

-- a test of all capabilities
any_by : (p : Entry → Bool) (r : OpenRules) → list_any p (capabilities_by r) ≡
    (((r.v4 && p (record { code = 1; value = 0 ∷ 1 ∷ 0 ∷ 1 ∷ [] }) || r.v6 && p (record { code = 1; value = 0 ∷ 2 ∷ 0 ∷ 1 ∷ [] })) || r.refresh && p (record { code = 2; value = [] })) || r.as4 && p (record { code = 65; value = big_bytes 4 r.asn }))
any_by p r = simp (list_any-append, any_announced)

all_by : (r : OpenRules) → list_all has_its_length (capabilities_by r) ≡ true
all_by r =
    rw (
      list_all-append has_its_length ((announced r.v4 1 (0 ∷ 1 ∷ 0 ∷ 1 ∷ []) ++ announced r.v6 1 (0 ∷ 2 ∷ 0 ∷ 1 ∷ [])) ++ announced r.refresh 2 []) (announced r.as4 65 (big_bytes 4 r.asn)),
      list_all-append has_its_length (announced r.v4 1 (0 ∷ 1 ∷ 0 ∷ 1 ∷ []) ++ announced r.v6 1 (0 ∷ 2 ∷ 0 ∷ 1 ∷ [])) (announced r.refresh 2 []),
      list_all-append has_its_length (announced r.v4 1 (0 ∷ 1 ∷ 0 ∷ 1 ∷ [])) (announced r.v6 1 (0 ∷ 2 ∷ 0 ∷ 1 ∷ [])),
      all_announced has_its_length r.v4 1 (0 ∷ 1 ∷ 0 ∷ 1 ∷ []) refl,
      all_announced has_its_length r.v6 1 (0 ∷ 2 ∷ 0 ∷ 1 ∷ []) refl,
      all_announced has_its_length r.refresh 2 [] refl,
      all_announced has_its_length r.as4 65 (big_bytes 4 r.asn) refl,
    ) refl

none_announced : (b : Bool) (code : ℕ) (value : List ℕ) → (code == 65) ≡ false → four_octet_as (announced b code value) ≡ None
none_announced true code value h = rw h refl
none_announced false code value h = refl

as_announced : (b : Bool) (value : List ℕ) → four_octet_as (announced b 65 value) ≡ (if b then Some (big_number 4 value) else None)
as_announced true value = refl
as_announced false value = refl

as_by : (r : OpenRules) → r.asn < 2 ^ 32 → four_octet_as (capabilities_by r) ≡ (if r.as4 then Some r.asn else None)
as_by r h =
    let v4 = announced r.v4 1 (0 ∷ 1 ∷ 0 ∷ 1 ∷ []) in
    let v6 = announced r.v6 1 (0 ∷ 2 ∷ 0 ∷ 1 ∷ []) in
    let refresh = announced r.refresh 2 [] in
    let number : big_number 4 (big_bytes 4 r.asn) ≡ r.asn = big_number-reads_back 4 r.asn [] h in
    rw (
      later_as ((v4 ++ v6) ++ refresh) (announced r.as4 65 (big_bytes 4 r.asn)),
      later_as (v4 ++ v6) refresh,
      later_as v4 v6,
      none_announced r.v4 1 (0 ∷ 1 ∷ 0 ∷ 1 ∷ []) refl,
      none_announced r.v6 1 (0 ∷ 2 ∷ 0 ∷ 1 ∷ []) refl,
      none_announced r.refresh 2 [] refl,
      as_announced r.as4 (big_bytes 4 r.asn),
      number,
      or_none (if r.as4 then Some r.asn else None),
    ) refl

no_entries : (es : List Entry) → nat_eq (length es) 0 ≡ true → es ≡ []
no_entries [] h = refl
no_entries (e ∷ es) h = let n : nat_eq (length (e ∷ es)) 0 ≡ false = grind (arith, nat_tests) in cc

-- the capabilities of the parameters
capabilities_back : (r : OpenRules) → capabilities_in (parameters_by r) ≡ Some (capabilities_by r)
unfolding capabilities_in
capabilities_back r = back (nat_eq (length (capabilities_by r)) 0) refl
  where
    back : (b : Bool) → nat_eq (length (capabilities_by r)) 0 ≡ b → capabilities_in (cond b [] (record { code = 2; value = flat_map entry_bytes (capabilities_by r) } ∷ [])) ≡ Some (capabilities_by r)
    back true h = ap (λ (es : List Entry). Some es) (sym (no_entries (capabilities_by r) h))
    back false h = rw (entries_written (capabilities_by r), append-nil (capabilities_by r)) refl

lists_back : (r : OpenRules) → lists_of (open_by r).body ≡ Some (parameters_by r, capabilities_by r)
unfolding lists_of parameters_of
lists_back r =
    let fills : nat_eq (length (optional_by r)) (length (optional_by r)) ≡ true = grind (arith, nat_tests) in
    rw (fills, entries_written (parameters_by r), capabilities_back r, all_by r) refl

-- the fields that are read are those that were written
said_by : OpenRules → Open
said_by r = record {
  version = 4;
  my_as = my_as_by r;
  hold = r.hold;
  id = r.router_id;
  well_formed = true;
  parameters = parameters_by r;
  capabilities = capabilities_by r;
}

my_as_fits : (r : OpenRules) → my_as_by r < 2 ^ 16
my_as_fits r = fits (nat_lt r.asn 65536) refl
  where
    fits : (b : Bool) → nat_lt r.asn 65536 ≡ b → cond b r.asn 23456 < 2 ^ 16
    fits true h = grind (arith, nat_tests)
    fits false h = omega arith

open_back : (r : OpenRules) → RulesHaveWidth r → open_of (open_by r).body ≡ said_by r
unfolding said_by
open_back r w =
    let my_as : big_number 2 (drop 1 (open_by r).body) ≡ my_as_by r = big_number-reads_back 2 (my_as_by r) (drop 3 (open_by r).body) (my_as_fits r) in
    let hold : big_number 2 (drop 3 (open_by r).body) ≡ r.hold = big_number-reads_back 2 r.hold (drop 5 (open_by r).body) w.hold in
    let id : big_number 4 (drop 5 (open_by r).body) ≡ r.router_id = big_number-reads_back 4 r.router_id (drop 9 (open_by r).body) w.router_id in
    rw (lists_back r, my_as, hold, id) refl

no_foreign : (r : OpenRules) → list_any (λ (p : Entry). not (p.code == 2)) (parameters_by r) ≡ false
no_foreign r = none (nat_eq (length (capabilities_by r)) 0)
  where
    none : (b : Bool) → list_any (λ (p : Entry). not (p.code == 2)) (cond b [] (record { code = 2; value = flat_map entry_bytes (capabilities_by r) } ∷ [])) ≡ false
    none true = refl
    none false = refl

unwrapped : (b : Bool) (x y : ℕ) → unwrap_or (if b then Some x else None) y ≡ (if b then x else y)
unwrapped true x y = refl
unwrapped false x y = refl

as_back : (r : OpenRules) → RulesHaveWidth r → as_of (said_by r) ≡ heard_asn r
unfolding said_by
as_back r w = rw (as_by r w.asn) (unwrapped r.as4 r.asn (my_as_by r))

and_true : (b : Bool) → (b && true) ≡ b
and_true true = refl
and_true false = refl

and_false : (b : Bool) → (b && false) ≡ false
and_false true = refl
and_false false = refl

either_or : (a b : Bool) → (not (a || b) || a) ≡ (a || not b)
either_or true b = refl
either_or false true = refl
either_or false false = refl

v4_back : (r : OpenRules) → offers_v4 (capabilities_by r) ≡ (r.v4 || not r.v6)
v4_back r = rw (any_by (is_of_code 1) r, any_by (is_of_family 1) r) (simp (and_true, and_false, or_false) (either_or r.v4 r.v6))

v6_back : (r : OpenRules) → offers_v6 (capabilities_by r) ≡ r.v6
v6_back r = rw (any_by (is_of_family 2) r) (simp (and_true, and_false, or_false))

as4_back : (r : OpenRules) → offers 65 (capabilities_by r) ≡ r.as4
as4_back r = rw (any_by (is_of_code 65) r) (simp (and_true, and_false))

refresh_back : (r : OpenRules) → offers 2 (capabilities_by r) ≡ r.refresh
refresh_back r = rw (any_by (is_of_code 2) r) (simp (and_true, and_false, or_false))

facts_back : (ours theirs : OpenRules) → RulesHaveWidth ours → facts_of (said_by ours) theirs ≡ facts_by ours theirs
unfolding said_by
facts_back ours theirs w = rw (as_back ours w, v4_back ours, v6_back ours, as4_back ours, refresh_back ours) refl

good_hold : (hold least : ℕ) → (hold ≡ 0) ⊎ ((3 ≤ hold) × (least ≤ hold)) → (((hold == 1) || (hold == 2)) || (not (hold == 0) && nat_lt hold least)) ≡ false
good_hold hold least (inl none) = rw none refl
good_hold hold least (inr enough) =
    let one : nat_eq hold 1 ≡ false = grind (arith, nat_tests) in
    let two : nat_eq hold 2 ≡ false = grind (arith, nat_tests) in
    let low : nat_lt hold least ≡ false = grind (arith, nat_tests) in
    rw (one, two, low) (and_false (not (nat_eq hold 0)))

good_id : (id other remote own : ℕ) → 0 < id → (id ≢ other) ⊎ (remote ≢ own) → ((id == 0) || ((id == other) && (remote == own))) ≡ false
good_id id other remote own h (inl others) =
    let some : nat_eq id 0 ≡ false = grind (arith, nat_tests) in
    let differs : nat_eq id other ≡ false = grind (arith, nat_tests) in
    rw (some, differs) refl
good_id id other remote own h (inr external) =
    let some : nat_eq id 0 ≡ false = grind (arith, nat_tests) in
    let differs : nat_eq remote own ≡ false = grind (arith, nat_tests) in
    rw (some, differs) (and_false (nat_eq id other))

no_row : (ours theirs : OpenRules) → RulesHaveWidth ours → IsAcceptable ours theirs → first_row (open_rows (said_by ours) theirs) ≡ None
unfolding said_by
no_row ours theirs w a =
    let same_as : nat_eq (as_of (said_by ours)) theirs.remote_as ≡ true = rw (as_back ours w, a.asn) (grind (arith, nat_tests)) in
    rw (no_foreign ours, same_as, good_hold ours.hold theirs.hold_min a.hold, good_id ours.router_id theirs.router_id theirs.remote_as theirs.asn a.id a.other_id) refl

-- what the other side answers to an OPEN that is acceptable
pub answer_back : (ours theirs : OpenRules) → RulesHaveWidth ours → IsAcceptable ours theirs → answer_to (open_of (open_by ours).body) theirs ≡ Ok (facts_by ours theirs)
answer_back ours theirs w a =
    ap (λ (o : Open). answer_to o theirs) (open_back ours w)
    ∙ ap (λ (f : Option Notify). answered f (facts_of (said_by ours) theirs)) (no_row ours theirs w a)
    ∙ ap (λ (f : OpenFacts). Ok f) (facts_back ours theirs w)
