-- The bytes of a message, put one behind the other.
use Rattle.std.proofs.Common.{◌≡◌, ◌∙◌, ℕ, ◌+◌, ◌≤◌, Bool, true, false, List, [], ◌∷◌, ◌++◌, length, refl, ap, sym, arith, append_assoc, length-append, replicate}
use Rattle.std.specs.Prelude.{nat_lt, nat_le, nat_eq, cond, flat_map}
use Rattle.std.proofs.lemmas.Bool.Decides.{nat_tests}
use Rattle.std.proofs.lemmas.Grind.{flat_map-append}
use Rattle.byteorder.specs.Endian.{big_bytes}
use Rattle.bgp_wire.specs.Entries.{entry_bytes}
use Rattle.bgp_wire.specs.declared.open.OpenRules.{OpenRules}
use Rattle.bgp_wire.specs.Message.{message_header, message_bytes, header_fault, IsMessage}
use Rattle.bgp_wire.specs.Written.{open_by, optional_by, fixed_by, announced, capabilities_by}

-- the body of an OPEN has ten bytes before its optional parameters
pub open_length : (r : OpenRules) → 19 + length (open_by r).body ≡ 29 + length (optional_by r)
open_length r = let e = length-append (fixed_by r ++ (length (optional_by r) ∷ [])) (optional_by r) in omega arith

pub open_message : (r : OpenRules) (old header whole : List ℕ) (size : ℕ) → size ≡ 29 + length (optional_by r) → header ≡ old ++ message_header 1 size → whole ≡ header ++ (open_by r).body → whole ≡ old ++ message_bytes (open_by r)
open_message r old header whole size s h w =
    let e : size ≡ 19 + length (open_by r).body = s ∙ sym (open_length r) in
    w ∙ ap (λ (x : List ℕ). x ++ (open_by r).body) h ∙ append_assoc old (message_header 1 size) (open_by r).body ∙ ap (λ (n : ℕ). old ++ (message_header 1 n ++ (open_by r).body)) e

-- an OPEN is a good message
announced_length : (b : Bool) (code : ℕ) (value : List ℕ) → length (flat_map entry_bytes (announced b code value)) ≤ 2 + length value
announced_length true code value = let l = length-append value [] in omega arith
announced_length false code value = omega arith

capabilities_length : (r : OpenRules) → length (flat_map entry_bytes (capabilities_by r)) ≤ 20
capabilities_length r =
    let a = announced_length r.v4 1 (0 ∷ 1 ∷ 0 ∷ 1 ∷ []) in
    let b = announced_length r.v6 1 (0 ∷ 2 ∷ 0 ∷ 1 ∷ []) in
    let d = announced_length r.refresh 2 [] in
    let e = announced_length r.as4 65 (big_bytes 4 r.asn) in
    simp (flat_map-append, length-append) (omega arith)

optional_length : (r : OpenRules) → length (optional_by r) ≤ 22
optional_length r = few (nat_eq (length (capabilities_by r)) 0)
  where
    few : (b : Bool) → length (flat_map entry_bytes (cond b [] (record { code = 2; value = flat_map entry_bytes (capabilities_by r) } ∷ []))) ≤ 22
    few true = omega arith
    few false = let l = capabilities_length r in let e = length-append (flat_map entry_bytes (capabilities_by r)) [] in omega arith

pub open_is_message : (r : OpenRules) → IsMessage (open_by r)
open_is_message r =
    let size : 19 + length (open_by r).body ≡ 29 + length (optional_by r) = open_length r in
    let few = optional_length r in
    let low : nat_lt (29 + length (optional_by r)) 19 ≡ false = grind (arith, nat_tests) in
    let high : nat_lt 4096 (29 + length (optional_by r)) ≡ false = grind (arith, nat_tests) in
    let fits : nat_le 29 (29 + length (optional_by r)) ≡ true = grind (arith, nat_tests) in
    ap (λ (n : ℕ). header_fault (record { marker = replicate 16 255; size = n; kind = 1 })) size ∙ rw (low, high, fits) refl
