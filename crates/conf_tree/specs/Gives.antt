-- What a call that may want memory says of a definition.
use Rattle.std.specs.Prelude.{◌≡◌, Result, Ok, Err}
use Rattle.net_base.specs.declared.conf.ConfFault.{ConfFault}
use Rattle.net_base.specs.declared.conf.ConfError.{ConfError}
use Rattle.net_base.specs.declared.conf.ConfError.TheVariants.{Fault, NoMemory}

-- a call gives the value, seen by a view, or the fault that the definition gives, unless memory was refused
abbrev pub Gives : {A B : Type 0} → (A → B) → Result A ConfError → Result B ConfFault → Type 0
Gives view (Ok value) defined = defined ≡ Ok (view value)
Gives view (Err NoMemory) defined = Unit {0}
Gives view (Err (Fault found)) defined = defined ≡ Err found
