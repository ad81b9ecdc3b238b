-- A message that looks join, and for how many prefixes there is room.
use Rattle.std.specs.Prelude.{ℕ, length, Option, None, Some}
use Rattle.bgp_wire.specs.declared.open.Encoding.{Encoding}
use Rattle.attr_model.specs.Numbered.{Numbered}
use Rattle.attr_codec.specs.Written.{attrs_bytes}
use Rattle.adj_rib_out.specs.Message.{Message}

pub record Packed : Type 0 where
  pub message : Message
  pub room : ℕ

abbrev pub message_in : Option Packed → Option Message
message_in None = None
message_in (Some packed) = Some packed.message

-- how many bytes the attributes have
abbrev pub attributes_of : Encoding → Option Numbered → ℕ
attributes_of enc None = 0
attributes_of enc (Some one) = length (attrs_bytes enc one.attrs)
