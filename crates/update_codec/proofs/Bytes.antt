-- The bytes of an UPDATE, put one behind the other, and how many they are.
use Rattle.std.proofs.Common.{◌≡◌, ◌∙◌, ℕ, ◌+◌, ◌≤◌, Bool, true, false, List, [], ◌∷◌, ◌++◌, length, Some, Result, Ok, Err, refl, ap, sym, arith, append_assoc, length-append, replicate}
use Rattle.std.specs.Prelude.{nat_lt, nat_le, OnErr}
use Rattle.bgp_wire.specs.Written.{Keeps}
use Rattle.attr_codec.proofs.Appends.{keeps_on}
use Rattle.std.proofs.lemmas.Bool.Decides.{nat_tests}
use Rattle.byteorder.specs.Endian.{big_bytes}
use Rattle.net_base.specs.declared.addr.Family.{Family}
use Rattle.net_base.specs.declared.addr.Family.TheVariants.{V4, V6}
use Rattle.net_base.specs.declared.prefix.Prefix.{Prefix}
use Rattle.bgp_wire.specs.declared.open.Encoding.{Encoding}
use Rattle.bgp_wire.specs.Message.{message_header, message_bytes, header_fault, IsMessage}
use Rattle.attr_model.specs.declared.attrs.Attrs.{Attrs}
use Rattle.attr_codec.specs.Prefixes.{prefixes_bytes}
use Rattle.attr_codec.specs.Written.{row, header_bytes, row_bytes, attrs_bytes, reach_row, unreach_row}
use Rattle.attr_codec.specs.Size.{attribute_size, nlri_size}
use Rattle.update_codec.specs.declared.out_update.OutUpdate.{OutUpdate}
use Rattle.update_codec.specs.declared.out_update.OutUpdate.TheVariants.{Withdraw, Announce}
use Rattle.update_codec.specs.Written.{family_of, withdraw_body, announce_body, update_body, update_message, withdraw_size, message_size, Fits, FitsSize}

row_by : (flags kind : ℕ) (value : List ℕ) (b : Bool) → nat_lt 255 (length value) ≡ b → length (row_bytes (row flags kind (Some value))) ≡ attribute_size (length value)
row_by flags kind value true e = rw e (omega (arith, length-append (header_bytes flags kind (length value)) value))
row_by flags kind value false e = rw e (omega (arith, length-append (header_bytes flags kind (length value)) value))

pub row_size : (flags kind : ℕ) (value : List ℕ) (n : ℕ) → length value ≡ n → length (row_bytes (row flags kind (Some value))) ≡ attribute_size n
row_size flags kind value n e = row_by flags kind value (nat_lt 255 (length value)) refl ∙ ap attribute_size e

unreach_size : (prefixes : List Prefix) → length (row_bytes (unreach_row prefixes)) ≡ attribute_size (3 + length (prefixes_bytes prefixes))
unreach_size prefixes = row_size 128 15 ((0 ∷ 2 ∷ 1 ∷ []) ++ prefixes_bytes prefixes) (3 + length (prefixes_bytes prefixes)) (omega arith)

reach_size : (hop : ℕ) (prefixes : List Prefix) → length (row_bytes (reach_row hop prefixes)) ≡ attribute_size (21 + length (prefixes_bytes prefixes))
reach_size hop prefixes = row_size 128 14 (((0 ∷ 2 ∷ 1 ∷ 16 ∷ []) ++ big_bytes 16 hop) ++ ((0 ∷ []) ++ prefixes_bytes prefixes)) (21 + length (prefixes_bytes prefixes)) (omega arith)

withdraw_is : (family : Family) (prefixes : List Prefix) → 19 + length (withdraw_body family prefixes) ≡ withdraw_size family (length (prefixes_bytes prefixes))
withdraw_is V4 prefixes = omega (arith, length-append (prefixes_bytes prefixes) (0 ∷ 0 ∷ []))
withdraw_is V6 prefixes =
    let all : 19 + length (withdraw_body V6 prefixes) ≡ 23 + length (row_bytes (unreach_row prefixes)) = omega arith in
    all ∙ ap (λ n. 23 + n) (unreach_size prefixes)

announce_is : (enc : Encoding) (attrs : Attrs) (family : Family) (prefixes : List Prefix) → 19 + length (announce_body enc attrs family prefixes) ≡ 23 + (length (attrs_bytes enc attrs) + nlri_size family (length (prefixes_bytes prefixes)))
announce_is enc attrs V4 prefixes = omega (arith, length-append (attrs_bytes enc attrs) (prefixes_bytes prefixes))
announce_is enc attrs V6 prefixes =
    let field = length-append (row_bytes (reach_row attrs.hop.bits prefixes)) (attrs_bytes enc attrs) in
    let all : 19 + length (announce_body enc attrs V6 prefixes) ≡ 23 + (length (attrs_bytes enc attrs) + length (row_bytes (reach_row attrs.hop.bits prefixes))) = omega arith in
    all ∙ ap (λ n. 23 + (length (attrs_bytes enc attrs) + n)) (reach_size attrs.hop.bits prefixes)

body_size : (enc : Encoding) (update : OutUpdate) → 19 + length (update_body enc update) ≡ message_size enc update
body_size enc (Withdraw prefixes) = withdraw_is (family_of prefixes) prefixes
body_size enc (Announce attrs prefixes) = announce_is enc attrs attrs.hop.family prefixes

pub size_is : (enc : Encoding) (update : OutUpdate) → 19 + length (update_message enc update).body ≡ message_size enc update
unfolding update_message
size_is enc update = body_size enc update

pub whole_size : (enc : Encoding) (update : OutUpdate) → length (message_bytes (update_message enc update)) ≡ message_size enc update
whole_size enc update = omega (arith, size_is enc update)

pub body_is : (enc : Encoding) (update : OutUpdate) → (update_message enc update).body ≡ update_body enc update
unfolding update_message
body_is enc update = refl

kind_is : (enc : Encoding) (update : OutUpdate) → (update_message enc update).kind ≡ 2
unfolding update_message
kind_is enc update = refl

-- the header and the body are the message
pub message_put : (enc : Encoding) (update : OutUpdate) (old header whole : List ℕ) (size : ℕ) → size ≡ message_size enc update → header ≡ old ++ message_header 2 size → whole ≡ header ++ update_body enc update → whole ≡ old ++ message_bytes (update_message enc update)
unfolding update_message
message_put enc update old header whole size s h w =
    let e : size ≡ 19 + length (update_body enc update) = s ∙ sym (body_size enc update) in
    w ∙ ap (λ (x : List ℕ). x ++ update_body enc update) h ∙ append_assoc old (message_header 2 size) (update_body enc update) ∙ ap (λ (n : ℕ). old ++ (message_header 2 n ++ update_body enc update)) e

-- an UPDATE has at least 23 bytes
withdraw_least : (family : Family) (n : ℕ) → 23 ≤ withdraw_size family n
withdraw_least V4 n = omega arith
withdraw_least V6 n = omega arith

least : (enc : Encoding) (update : OutUpdate) → 23 ≤ message_size enc update
least enc (Withdraw prefixes) = withdraw_least (family_of prefixes) (length (prefixes_bytes prefixes))
least enc (Announce attrs prefixes) = omega arith

pub fits_size : (enc : Encoding) (update : OutUpdate) → Fits enc update → FitsSize enc update
fits_size enc update fits = omega (arith, whole_size enc update)

pub is_message : (enc : Encoding) (update : OutUpdate) → FitsSize enc update → IsMessage (update_message enc update)
unfolding update_message
is_message enc update fits =
    let some = least enc update in
    let low : nat_lt (message_size enc update) 19 ≡ false = grind (arith, nat_tests) in
    let high : nat_lt 4096 (message_size enc update) ≡ false = grind (arith, nat_tests) in
    let long : nat_le 23 (message_size enc update) ≡ true = grind (arith, nat_tests) in
    ap (λ (n : ℕ). header_fault (record { marker = replicate 16 255; size = n; kind = 2 })) (body_size enc update) ∙ rw (low, high, long) refl

-- what keeps what it began with keeps what stood in front of that
pub keeps_result : {A E : Type 0} (r : Result A E) (old mid new x : List ℕ) → mid ≡ old ++ x → OnErr r (Keeps mid new) → OnErr r (Keeps old new)
keeps_result (Ok v) old mid new x e k = tt
keeps_result (Err f) old mid new x e k = keeps_on old mid new x e k
