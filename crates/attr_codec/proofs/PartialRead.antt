-- A partial bit that is read stands only where its attribute counts.
use Rattle.std.proofs.Common.{◌≡◌, ◌≢◌, ℕ, ◌+◌, ◌<◌, Bool, true, false, cond, ◌&&◌, List, [], ◌∷◌, refl, lit<}
use Rattle.std.specs.Prelude.{is_some, IsSome, IsBitSet}
use Rattle.attr_codec.specs.declared.parts.Paths.{Paths}
use Rattle.attr_codec.specs.declared.parts.Lists.{Lists}
use Rattle.attr_codec.specs.Field.{Attribute, first_of}
use Rattle.attr_codec.specs.Parts.{has_partial_bit, is_filled, partial_bits}

abbrev bits : Bool → Bool → Bool → ℕ
bits a b c = (cond a 1 0 + cond b 2 0) + cond c 4 0

bits_below : (a b c : Bool) → bits a b c < 8
bits_below true true true = lit< tt
bits_below true true false = lit< tt
bits_below true false true = lit< tt
bits_below true false false = lit< tt
bits_below false true true = lit< tt
bits_below false true false = lit< tt
bits_below false false true = lit< tt
bits_below false false false = lit< tt

bit_0 : (a b c : Bool) → IsBitSet (bits a b c) 0 → a ≡ true
bit_0 true b c set = refl
bit_0 false true true set = absurd (set refl)
bit_0 false true false set = absurd (set refl)
bit_0 false false true set = absurd (set refl)
bit_0 false false false set = absurd (set refl)

bit_1 : (a b c : Bool) → IsBitSet (bits a b c) 1 → b ≡ true
bit_1 a true c set = refl
bit_1 true false true set = absurd (set refl)
bit_1 true false false set = absurd (set refl)
bit_1 false false true set = absurd (set refl)
bit_1 false false false set = absurd (set refl)

bit_2 : (a b c : Bool) → IsBitSet (bits a b c) 2 → c ≡ true
bit_2 a b true set = refl
bit_2 true true false set = absurd (set refl)
bit_2 true false false set = absurd (set refl)
bit_2 false true false set = absurd (set refl)
bit_2 false false false set = absurd (set refl)

both : (a b : Bool) → (a && b) ≡ true → a ≡ true
both true b e = refl
both false b e = absurd cc

filled : {X : Type 0} (xs : List X) → is_filled xs ≡ true → xs ≢ []
filled [] e none = absurd cc
filled (x ∷ xs) e none = absurd cc

-- what each bit says
pub record Counts (paths : Paths) (lists : Lists) (n : ℕ) : Type 0 where
  pub below : n < 8
  pub aggregator : IsBitSet n 0 → IsSome paths.aggregator
  pub communities : IsBitSet n 1 → lists.communities ≢ []
  pub large : IsBitSet n 2 → lists.large ≢ []

pub partial_read : (paths : Paths) (lists : Lists) (attributes : List Attribute) → Counts paths lists (partial_bits paths lists attributes)
partial_read paths lists attributes =
    let a = is_some paths.aggregator && has_partial_bit (first_of 7 attributes) in
    let b = is_filled lists.communities && has_partial_bit (first_of 8 attributes) in
    let c = is_filled lists.large && has_partial_bit (first_of 32 attributes) in
    record {
      below = bits_below a b c;
      aggregator = λ set. both (is_some paths.aggregator) (has_partial_bit (first_of 7 attributes)) (bit_0 a b c set);
      communities = λ set. filled lists.communities (both (is_filled lists.communities) (has_partial_bit (first_of 8 attributes)) (bit_1 a b c set));
      large = λ set. filled lists.large (both (is_filled lists.large) (has_partial_bit (first_of 32 attributes)) (bit_2 a b c set));
    }
