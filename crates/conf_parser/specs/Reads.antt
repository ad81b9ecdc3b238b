-- What a call that reads from the front of a cursor says of a definition.
use Rattle.std.specs.Prelude.{◌≡◌, List, Result, Ok, Err}
use Rattle.net_base.specs.declared.conf.ConfFault.{ConfFault}
use Rattle.net_base.specs.declared.conf.ConfError.{ConfError}
use Rattle.net_base.specs.declared.conf.ConfError.TheVariants.{Fault, NoMemory}
use Rattle.conf_tree.specs.declared.token.Token.{Token}
use Rattle.conf_tree.specs.Reading.{Reading}

-- A cursor over the tokens `old` is left over the tokens `new`: the call gives the value that the definition reads and
-- stands behind it, or gives its fault, unless memory was refused. Behind an error nothing is read.
abbrev pub Reads : {A : Type 0} → (List Token → Reading A) → List Token → List Token → Result A ConfError → Type 0
Reads definition old new (Ok value) = definition old ≡ Ok (value, new)
Reads definition old new (Err NoMemory) = Unit {0}
Reads definition old new (Err (Fault found)) = definition old ≡ Err found

-- The same of what must stand there and has no value.
abbrev pub Passes : (List Token → Result (List Token) ConfFault) → List Token → List Token → Result Unit ConfError → Type 0
Passes definition old new (Ok value) = definition old ≡ Ok new
Passes definition old new (Err NoMemory) = Unit {0}
Passes definition old new (Err (Fault found)) = definition old ≡ Err found
