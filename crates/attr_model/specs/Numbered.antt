-- Attributes under a number.
use Rattle.std.specs.Prelude.{ℕ}
use Rattle.attr_model.specs.declared.attrs.Attrs.{Attrs}

-- Attributes that a table shares, with the number that it gave them.
pub record Numbered : Type 0 where
  pub number : ℕ
  pub attrs : Attrs
