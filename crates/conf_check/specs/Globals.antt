-- What the global statements of a text say.
use Rattle.std.specs.Prelude.{List, None}
use Rattle.std.specs.List.{last_or}
use Rattle.conf_tree.specs.declared.draft.StatementLine.{StatementLine}
use Rattle.conf_tree.specs.Said.{said, as_of, router_id_of, hold_of, hold_min_of, fib_update_of, qualify_default_of, med_always_of}
use Rattle.conf_check.specs.declared.globals.Globals.{Globals}

-- what more statements leave of those before them
abbrev pub globals_behind : Globals → List StatementLine → Globals
globals_behind before lines = record {
  asn = last_or before.asn (said as_of lines);
  router_id = last_or before.router_id (said router_id_of lines);
  hold = last_or before.hold (said hold_of lines);
  hold_min = last_or before.hold_min (said hold_min_of lines);
  fib_update = last_or before.fib_update (said fib_update_of lines);
  qualify_default = last_or before.qualify_default (said qualify_default_of lines);
  med_always = last_or before.med_always (said med_always_of lines);
}

abbrev pub no_globals : Globals
no_globals = record { asn = None; router_id = None; hold = None; hold_min = None; fib_update = None; qualify_default = None; med_always = None }

abbrev pub globals_of : List StatementLine → Globals
globals_of lines = globals_behind no_globals lines
