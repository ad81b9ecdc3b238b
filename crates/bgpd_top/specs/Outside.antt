-- What the program finds of the outside, and what it leaves.
use Rattle.std.specs.Prelude.{◌≡◌, ◌<◌, ℕ, List, Option}
use Rattle.std.specs.Io.KnownBytes.{append_known}
use Rattle.io_edge.specs.Faults.{last_count}

pub record Outside : Type 0 where
  -- what standard input has still to give, where it tells that
  pub left : Option (List ℕ)
  -- what stands on standard output, where it tells that
  pub written : Option (List ℕ)
  -- how many faults the files had, and standard input, and standard output
  pub of_files : ℕ
  pub of_input : ℕ
  pub of_output : ℕ

abbrev pub outside : Option (List ℕ) → Option (List ℕ) → ℕ → ℕ → ℕ → Outside
outside l w f i o = record { left = l; written = w; of_files = f; of_input = i; of_output = o }

-- standard error: what stands there, where it tells that, and how many faults it had
pub record ErrorOutput : Type 0 where
  pub text : Option (List ℕ)
  pub faults : ℕ

abbrev pub error_output : Option (List ℕ) → ℕ → ErrorOutput
error_output t n = record { text = t; faults = n }

-- a text was written there, where the count of faults didn't rise and isn't at its last value
abbrev pub Tells : List ℕ → ErrorOutput → ErrorOutput → Type 0
Tells text old new = new.faults ≡ old.faults → old.faults < last_count → new.text ≡ append_known old.text text
