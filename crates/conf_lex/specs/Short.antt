-- Tokens whose texts are no longer than a text may be.
use Rattle.std.specs.Prelude.{◌≤◌, List, length, All}
use Rattle.conf_tree.specs.declared.token.Token.{Token}

abbrev pub IsShort : Token → Type 0
IsShort token = length token.text ≤ 134217729

abbrev pub AllShort : List Token → Type 0
AllShort tokens = All IsShort tokens
