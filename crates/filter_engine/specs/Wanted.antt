-- The AS numbers that a condition asks for.
use Rattle.std.specs.Prelude.{ℕ, ◌-◌, Bool, ◌==◌, List, length, Option, slice_get}
use Rattle.conf_tree.specs.declared.conf.Conf.{Conf}
use Rattle.conf_tree.specs.declared.sets.SetKind.TheVariants as kinds
use Rattle.conf_tree.specs.Membership.{Names, in_as_set}
use Rattle.filter_engine.specs.declared.path_test.Wanted.{Wanted}
use Rattle.filter_engine.specs.declared.path_test.Wanted.TheVariants.{Number, Of}

abbrev pub is_wanted : Conf → Wanted → ℕ → Bool
is_wanted conf (Number asn) number = number == asn
is_wanted conf (Of set) number = in_as_set conf set number

abbrev pub IsThere : Conf → Wanted → Type 0
IsThere conf (Number asn) = Unit {0}
IsThere conf (Of set) = Names conf kinds.As set

abbrev pub last_of : List ℕ → Option ℕ
last_of numbers = slice_get numbers (length numbers - 1)
