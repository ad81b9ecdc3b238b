-- When two wanted values are the same.
use Rattle.std.specs.Prelude.{◌==◌, Bool, true, false, Option, None, Some}
use Rattle.attr_model.specs.Numbered.{Numbered}

-- the same number, or none on both sides; equal numbers of one table stand for equal attributes
abbrev pub same_number : Option Numbered → Option Numbered → Bool
same_number None None = true
same_number None (Some other) = false
same_number (Some one) None = false
same_number (Some one) (Some other) = one.number == other.number
