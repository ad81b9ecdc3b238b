-- A text made of the entries of a list has no more bytes than the greatest entry times their number.
use Rattle.std.proofs.Common.{ℕ, ◌+◌, ◌*◌, ◌≤◌, List, [], ◌∷◌, length, flat_map, arith, length-append}
use Rattle.std.proofs.Math.Nat.{mul-add, mul-suc}
use Rattle.conf_tree.specs.Readable.{Each, total}

module _ {A : Type 0} (text : A → List ℕ) where
  pub all_size : (most : ℕ) (xs : List A) → ((x : A) → length (text x) ≤ most) → length (flat_map text xs) ≤ most * length xs
  all_size most [] short = omega arith
  all_size most (x ∷ xs) short =
      omega (arith, short x, all_size most xs short, mul-suc most (length xs), length-append (text x) (flat_map text xs))

  module _ (Is : A → Type 0) where
    pub each_size : (most : ℕ) (xs : List A) → ((x : A) → Is x → length (text x) ≤ most) → Each Is xs → length (flat_map text xs) ≤ most * length xs
    each_size most [] short each = omega arith
    each_size most (x ∷ xs) short each =
        omega (arith, short x each.0, each_size most xs short each.1, mul-suc most (length xs), length-append (text x) (flat_map text xs))

    -- entries that are lists themselves, each with something around it
    pub each_total_size : (count : A → ℕ) (most around : ℕ) (xs : List A) → ((x : A) → Is x → length (text x) ≤ most * count x + around) → Each Is xs
        → length (flat_map text xs) ≤ most * total count xs + around * length xs
    each_total_size count most around [] short each = omega arith
    each_total_size count most around (x ∷ xs) short each =
        omega (arith, short x each.0, each_total_size count most around xs short each.1, mul-add most (count x) (total count xs), mul-suc around (length xs), length-append (text x) (flat_map text xs))
