-- Which test a part goes on by, and what bytes that are taken leave.
use Rattle.std.specs.Prelude.{Bool, List, ◌++◌}
use Rattle.conf_tree.specs.Joined.{Seen}
use Rattle.conf_tree.specs.Cuts.{Rules, in_blanks, in_comment, in_word, in_quotes, bytes_of, end_of, token_at}
use Rattle.conf_tree.specs.declared.token.Token.{Token}
use Rattle.conf_tree.specs.declared.token.TokenKind.{TokenKind}
use Rattle.conf_lex.specs.declared.run.Part.{Part}
use Rattle.conf_lex.specs.declared.run.Part.TheVariants.{Blanks, Comment, Word, Quotes}
use Rattle.conf_lex.specs.declared.run.Taken.{Taken}

abbrev pub goes_on : Rules → Part → List Seen → Bool
goes_on rules Blanks = in_blanks
goes_on rules Comment = in_comment rules
goes_on rules Word = in_word rules
goes_on rules Quotes = in_quotes rules

-- bytes behind those that were taken before
abbrev pub taken_behind : Taken → List Seen → Taken
taken_behind taken seen = record { text = taken.text ++ bytes_of seen; end = end_of taken.end seen }

-- the token of bytes that were taken
abbrev pub token_with : TokenKind → Seen → Taken → Token
token_with kind seen taken = token_at seen kind taken.end taken.text
