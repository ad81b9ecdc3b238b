-- Lists whose front was read before the rest of it.
use Rattle.std.specs.Prelude.{List, ◌++◌, Result, Ok, Err}
use Rattle.net_base.specs.declared.conf.ConfFault.{ConfFault}
use Rattle.conf_tree.specs.Reading.{Reading}

-- what was read, behind what was read before
abbrev pub behind_front : {A : Type 0} → List A → Reading (List A) → Reading (List A)
behind_front front (Ok x) = Ok (front ++ x.0, x.1)
behind_front front (Err fault) = Err fault

-- the same of two lists
abbrev pub behind_both : {A B : Type 0} → List A → List B → Reading (List A × List B) → Reading (List A × List B)
behind_both front more (Ok x) = Ok ((front ++ x.0.0, more ++ x.0.1), x.1)
behind_both front more (Err fault) = Err fault

-- the same of a whole text
abbrev pub behind_statements : {A : Type 0} → List A → Result (List A) ConfFault → Result (List A) ConfFault
behind_statements front (Ok xs) = Ok (front ++ xs)
behind_statements front (Err fault) = Err fault
