-- What a call gives that reads: what a definition says, or no memory, which is free.
use Rattle.std.specs.Prelude.{◌≡◌, List, Result, Ok, Err}
use Rattle.net_base.specs.declared.conf.ConfFault.{ConfFault}
use Rattle.net_base.specs.declared.conf.ConfError.{ConfError}
use Rattle.net_base.specs.declared.conf.ConfError.TheVariants.{Fault, NoMemory}
use Rattle.conf_tree.specs.Joined.{Seen}

abbrev pub Fails : {X : Type 0} → ConfError → Result X ConfFault → Type 0
Fails (Fault fault) said = said ≡ Err fault
Fails NoMemory said = Unit {0}

abbrev pub Gives : {X : Type 0} → Result X ConfFault → Result X ConfError → Type 0
Gives said (Ok value) = said ≡ Ok value
Gives said (Err error) = Fails error said

-- a call that reads from a text, of which this is left
abbrev pub Reads : {X : Type 0} → Result (X × List Seen) ConfFault → Result X ConfError → List Seen → Type 0
Reads said (Ok value) left = said ≡ Ok (value, left)
Reads said (Err error) left = Fails error said
