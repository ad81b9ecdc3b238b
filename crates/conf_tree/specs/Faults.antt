-- A `do` block goes on where each of its lines has no fault.
use Rattle.std.specs.Prelude.{Result, Ok, Err}
use Rattle.net_base.specs.declared.conf.ConfFault.{ConfFault}

infixl 10 ◌>>=◌
abbrev pub ◌>>=◌ : {A B : Type 0} → Result A ConfFault → (A → Result B ConfFault) → Result B ConfFault
(Ok x) >>= f = f x
(Err fault) >>= f = Err fault
