-- What an UPDATE says by one attribute (RFC 7606 section 2): nothing, where it isn't there or is dropped; its
-- value; or that the announced prefixes count as withdrawn, where it is malformed.
use Rattle.std.specs.Prelude.{ℕ, Bool, true, false, if◌then◌else◌, List, Option, Some, None}
use Rattle.attr_codec.specs.declared.said.Said.{Said}
use Rattle.attr_codec.specs.declared.said.Said.TheVariants.{Nothing, Malformed, Value}
use Rattle.std.specs.Borrow.{Bor}
use Rattle.attr_codec.specs.Field.{Attribute, first_of}

-- A `do` block goes on where each of its lines says a value.
infixl 10 ◌>>=◌
abbrev pub ◌>>=◌ : {A B : Type 0} → Said A → (A → Said B) → Said B
Nothing >>= f = Nothing
Malformed >>= f = Malformed
(Value x) >>= f = f x

-- A value that has to be there, and one that is dropped where it is bad.
abbrev pub or_malformed : {X : Type 0} → Option X → Said X
or_malformed None = Malformed
or_malformed (Some x) = Value x

abbrev pub or_dropped : {X : Type 0} → Option X → Said X
or_dropped None = Nothing
or_dropped (Some x) = Value x

abbrev pub value_of : {X : Type 0} → Said X → Option X
value_of Nothing = None
value_of Malformed = None
value_of (Value x) = Some x

abbrev pub is_malformed : {X : Type 0} → Said X → Bool
is_malformed Nothing = false
is_malformed Malformed = true
is_malformed (Value x) = false

-- The bytes that the first attribute of a type says, where it has the flags of that type.
abbrev pub bytes_with : (ℕ → Bool) → Option Attribute → Said (List ℕ)
bytes_with fits None = Nothing
bytes_with fits (Some attribute) = if fits attribute.flags then Value attribute.value else Malformed

abbrev pub bytes_said : (ℕ → Bool) → ℕ → List Attribute → Said (List ℕ)
bytes_said fits kind attributes = bytes_with fits (first_of kind attributes)

-- what the bytes of a reference are
abbrev pub said_now : Said (Bor (List ℕ)) → Said (List ℕ)
said_now Nothing = Nothing
said_now Malformed = Malformed
said_now (Value x) = Value x.now
