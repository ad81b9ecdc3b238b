-- The kinds of tokens.
use Rattle.std.specs.Prelude.{Bool, true, false}
use Rattle.conf_tree.specs.declared.token.TokenKind.{TokenKind}
use Rattle.conf_tree.specs.declared.token.TokenKind.TheVariants.{Word, Quoted, Mark, LineEnd}

abbrev pub is_word : TokenKind → Bool
is_word Word = true
is_word Quoted = false
is_word Mark = false
is_word LineEnd = false

abbrev pub is_quoted : TokenKind → Bool
is_quoted Word = false
is_quoted Quoted = true
is_quoted Mark = false
is_quoted LineEnd = false

abbrev pub is_mark : TokenKind → Bool
is_mark Word = false
is_mark Quoted = false
is_mark Mark = true
is_mark LineEnd = false

abbrev pub is_line_end : TokenKind → Bool
is_line_end Word = false
is_line_end Quoted = false
is_line_end Mark = false
is_line_end LineEnd = true
