-- The texts that the program prints of itself.
use Rattle.std.specs.Prelude.{ℕ, List, codes}

abbrev pub usage_text : List ℕ
usage_text = codes "usage: bgpd replay\n       bgpd -n [-v] -f FILE\n       bgpd --help\n       bgpd --version\n"

abbrev pub help_text : List ℕ
help_text = codes "bgpd replay\n    reads events from standard input and writes their transcript to standard output\nbgpd -n [-v] -f FILE\n    checks a configuration file; with -v prints its canonical text first\nbgpd --help\n    prints this text\nbgpd --version\n    prints the version\n\nThe status is 0 where the command is done, 1 where the configuration file has a fault, 2 where the words fit no\ncommand, 3 where a line of the event file isn't an event, 4 where the input failed, 5 where the output failed, 7 where\nmemory ran out, and 8 where the event file or a line of it is too long. A text on standard error says which.\n\ndocs/EVENTS.md says what event files and transcripts are, docs/CONFIGURATION.md and docs/POLICY.md what a\nconfiguration is.\n"

abbrev pub version_text : List ℕ
version_text = codes "bgpd 0.1\n"
