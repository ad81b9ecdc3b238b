-- What the check of a configuration file prints, and what each way to end says of its text.
use Rattle.std.specs.Prelude.{◌≡◌, ℕ, Bool, true, false, List, [], ◌++◌, Option, IfSome, Result, Ok, Err, codes}
use Rattle.std.specs.Io.KnownBytes.{append_known}
use Rattle.net_base.specs.declared.conf.ConfFault.{ConfFault}
use Rattle.net_base.specs.declared.conf.ConfError.{ConfError}
use Rattle.net_base.specs.declared.conf.ConfError.TheVariants.{Fault, NoMemory}
use Rattle.conf_tree.specs.declared.conf.Conf.{Conf}
use Rattle.conf_tree.specs.Language.{configuration}
use Rattle.conf_tree.specs.Canonical.{canonical}
use Rattle.bgpd_top.specs.declared.status.Status.{Status}
use Rattle.bgpd_top.specs.declared.status.Status.TheVariants as status

-- the canonical text, where it is asked for
abbrev pub shown_text : Bool → Conf → List ℕ
shown_text true conf = canonical conf
shown_text false conf = []

-- what is printed of a text that has a configuration
abbrev pub good_text : Bool → Conf → List ℕ
good_text verbose conf = shown_text verbose conf ++ codes "configuration OK\n"

-- what is printed is what a text with this configuration gives
abbrev pub PrintsConf : Bool → List ℕ → Result Conf ConfFault → Type 0
PrintsConf verbose printed (Ok conf) = printed ≡ good_text verbose conf
PrintsConf verbose printed (Err found) = ⊥

-- the fault is the text's, or memory was refused
abbrev pub IsFaultOf : Result Conf ConfFault → ConfError → Type 0
IsFaultOf says (Fault found) = says ≡ Err found
IsFaultOf says NoMemory = Unit {0}

-- the text has a configuration, and what is printed of it was written
pub record IsGood (verbose : Bool) (before after : Option (List ℕ)) (text : List ℕ) : Type 0 where
  pub conf : Conf
  pub says : configuration text ≡ Ok conf
  pub written : after ≡ append_known before (good_text verbose conf)

-- what a check's text says of its end, where the content of the file is told, and what then stands on standard output
abbrev pub EndsCheck : Bool → Option (List ℕ) → Status → Option (List ℕ) → Option (List ℕ) → Type 0
EndsCheck verbose content status.Done before after = IfSome content (IsGood verbose before after)
EndsCheck verbose content (status.Refused found) before after = IfSome content (λ text. configuration text ≡ Err found) × (after ≡ before)
EndsCheck verbose content status.ReadFault before after = after ≡ before
EndsCheck verbose content status.WriteFault before after = Unit {0}
EndsCheck verbose content status.NoMemory before after = after ≡ before
EndsCheck verbose content _ before after = ⊥
