-- The list of the slots of three columns.
use Rattle.std.proofs.Common.{◌≡◌, ℕ, zero, suc, ◌/◌, ◌%◌, ◌<◌, List, [], ◌∷◌, ◌++◌, length, get_or, refl, ap, sym, ◌∙◌, arith}
use Rattle.std.specs.Prelude.{slice_get, Some}
use Rattle.lane_scan.specs.declared.columns.Slot.{Slot}
use Rattle.lane_scan.specs.Slots.{slots_of, whole_of}

pub length-slots : (highs lows lens : List ℕ) → length lows ≡ length highs → length lens ≡ length highs → length (slots_of highs lows lens) ≡ length highs
length-slots [] lows lens p q = refl
length-slots (h ∷ highs) [] lens p q = absurd (omega arith)
length-slots (h ∷ highs) (l ∷ lows) [] p q = absurd (omega arith)
length-slots (h ∷ highs) (l ∷ lows) (n ∷ lens) p q = ap suc (length-slots highs lows lens (omega arith) (omega arith))

pub slot_at : (highs lows lens : List ℕ) (i high low len : ℕ) → length lows ≡ length highs → length lens ≡ length highs → i < length highs
    → high ≡ get_or highs i high → low ≡ get_or lows i low → len ≡ get_or lens i len
    → slice_get (slots_of highs lows lens) i ≡ Some (record { bits = whole_of high low; len = len })
slot_at [] lows lens i high low len p q h a b c = absurd (omega arith)
slot_at (h ∷ highs) [] lens i high low len p q r a b c = absurd (omega arith)
slot_at (h ∷ highs) (l ∷ lows) [] i high low len p q r a b c = absurd (omega arith)
slot_at (h ∷ highs) (l ∷ lows) (n ∷ lens) zero high low len p q r a b c = λ i. Some (record { bits = whole_of (sym a i) (sym b i); len = sym c i })
slot_at (h ∷ highs) (l ∷ lows) (n ∷ lens) (suc i) high low len p q r a b c = slot_at highs lows lens i high low len (omega arith) (omega arith) (omega arith) a b c

pub slots-push : (highs lows lens : List ℕ) (high low len : ℕ) → length lows ≡ length highs → length lens ≡ length highs
    → slots_of (highs ++ high ∷ []) (lows ++ low ∷ []) (lens ++ len ∷ []) ≡ slots_of highs lows lens ++ record { bits = whole_of high low; len = len } ∷ []
slots-push [] [] [] high low len p q = refl
slots-push [] (l ∷ lows) lens high low len p q = absurd (omega arith)
slots-push [] [] (n ∷ lens) high low len p q = absurd (omega arith)
slots-push (h ∷ highs) [] lens high low len p q = absurd (omega arith)
slots-push (h ∷ highs) (l ∷ lows) [] high low len p q = absurd (omega arith)
slots-push (h ∷ highs) (l ∷ lows) (n ∷ lens) high low len p q = ap (λ (rest : List Slot). record { bits = whole_of h l; len = n } ∷ rest) (slots-push highs lows lens high low len (omega arith) (omega arith))

-- the slots behind a push of each column
pub slots_pushed : (highs lows lens highs' lows' lens' : List ℕ) (slot : Slot) → length lows ≡ length highs → length lens ≡ length highs
    → highs' ≡ highs ++ (slot.bits / 18446744073709551616) ∷ [] → lows' ≡ lows ++ (slot.bits % 18446744073709551616) ∷ [] → lens' ≡ lens ++ slot.len ∷ []
    → slots_of highs' lows' lens' ≡ slots_of highs lows lens ++ slot ∷ []
slots_pushed highs lows lens highs' lows' lens' slot p q h l n =
    let high = slot.bits / 18446744073709551616 in
    let low = slot.bits % 18446744073709551616 in
    let whole : whole_of high low ≡ slot.bits = omega arith in
    (λ i. slots_of (h i) (l i) (n i))
    ∙ (slots-push highs lows lens high low slot.len p q
    ∙ (λ i. slots_of highs lows lens ++ record { bits = whole i; len = slot.len } ∷ []))
