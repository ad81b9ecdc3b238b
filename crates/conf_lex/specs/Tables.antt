-- A table of macros as what each NAME stands for.
use Rattle.std.specs.Prelude.{bytes_eq}
use Rattle.indexmap.specs.IndexMap.{get}
use Rattle.conf_tree.specs.Macros as macros
use Rattle.conf_lex.specs.declared.macros.Macros.{Macros}

abbrev pub macros_of : Macros → macros.Macros
macros_of table name = get bytes_eq table.values name
