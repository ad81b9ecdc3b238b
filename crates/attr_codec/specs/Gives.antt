-- What a call gives that reads: what a definition says, or no memory, which is free.
use Rattle.std.specs.Prelude.{◌≡◌, ℕ, Result, Ok, Err}
use Rattle.attr_codec.specs.declared.update_fault.UpdateFault.{UpdateFault}
use Rattle.attr_codec.specs.declared.update_fault.UpdateFault.TheVariants.{Notify, NoMemory}

abbrev pub Fails : {X : Type 0} → UpdateFault → Result X ℕ → Type 0
Fails (Notify sub) said = said ≡ Err sub
Fails NoMemory said = Unit {0}

abbrev pub Gives : {X : Type 0} → Result X UpdateFault → Result X ℕ → Type 0
Gives (Ok value) said = said ≡ Ok value
Gives (Err fault) said = Fails fault said
