-- The flags that a type of attribute has (RFC 4271 section 4.3): optional (128) and transitive (64). The bit of
-- the extended length (16) is free, and the partial bit (32) for optional transitive types.
use Rattle.std.specs.Prelude.{ℕ, Bool, ◌==◌, bit_and}
use Rattle.attr_codec.specs.declared.said.Flags.{Flags}
use Rattle.attr_codec.specs.declared.said.Flags.TheVariants.{WellKnown, Optional, OptionalTransitive}

abbrev pub fits : Flags → ℕ → Bool
fits WellKnown flags = bit_and flags 239 == 64
fits Optional flags = bit_and flags 239 == 128
fits OptionalTransitive flags = bit_and flags 207 == 192
