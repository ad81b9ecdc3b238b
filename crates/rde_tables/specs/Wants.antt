-- What a session is to be told, as looks at its queue without numbers.
use Rattle.std.specs.Prelude.{Option, None, Some}
use Rattle.attr_model.specs.declared.attrs.Attrs.{Attrs}
use Rattle.attr_model.specs.Numbered.{Numbered}
use Rattle.adj_rib_out.specs.declared.look.Look.{Look}
use Rattle.rde_tables.specs.declared.outcome.Want.{Want}

abbrev pub unnumbered : Option Attrs → Option Numbered
unnumbered None = None
unnumbered (Some attrs) = Some (record { number = 0; attrs = attrs })

abbrev pub look_of : Want → Look
look_of want = record { prefix = want.prefix; wanted = unnumbered want.attrs }

-- a look without its number
abbrev pub bare_of : Option Numbered → Option Numbered
bare_of None = None
bare_of (Some one) = Some (record { number = 0; attrs = one.attrs })

abbrev pub bare : Look → Look
bare look = record { prefix = look.prefix; wanted = bare_of look.wanted }
