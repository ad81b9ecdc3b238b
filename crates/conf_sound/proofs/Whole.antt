-- What every configuration keeps that a text of the language says.
use Rattle.std.proofs.Common.{◌≡◌, ℕ, List, Result, Ok, Err, subst}
use Rattle.net_base.specs.declared.conf.ConfFault.{ConfFault}
use Rattle.conf_tree.specs.declared.conf.Conf.{Conf}
use Rattle.conf_tree.specs.Faults.{◌>>=◌}
use Rattle.conf_tree.specs.Tokens.{tokens}
use Rattle.conf_tree.specs.StatementReading.{draft_of}
use Rattle.conf_tree.specs.Checks.{checked}
use Rattle.conf_tree.specs.Language.{draft_within, configuration_within}
use Rattle.conf_tree.specs.Readable.{IsReadable, IsWithinLimits}
use Rattle.conf_sound.proofs.Finds.{AreGood}
use Rattle.conf_sound.proofs.StatementForms.{Gives, IsDraft, draft_form}
use Rattle.conf_sound.proofs.TokenForms.{tokens_form}
use Rattle.conf_sound.proofs.WholeForms.{checked_form}
use Rattle.conf_sound.proofs.LimitForms.{checked_within}

-- what comes of a part that gives good values
module _ {A B : Type 0} (Is : A → Type 0) (Now : B → Type 0) (f : A → Result B ConfFault) (w : (x : A) → Is x → Gives Now (f x)) where
  pub gives_then : (r : Result A ConfFault) → Gives Is r → Gives Now (r >>= f)
  gives_then (Ok x) h = w x h
  gives_then (Err fault) h = tt

draft_within_form : (limit : ℕ) (text : List ℕ) → Gives IsDraft (draft_within limit text)
unfolding draft_within
draft_within_form limit text = gives_then AreGood IsDraft draft_of draft_form (tokens limit text) (tokens_form limit text)

configuration_form : (limit : ℕ) (text : List ℕ) → Gives IsReadable (configuration_within limit text)
unfolding configuration_within
configuration_form limit text = gives_then IsDraft IsReadable checked checked_form (draft_within limit text) (draft_within_form limit text)

-- a configuration that a text says can be written
pub readable : (limit : ℕ) (text : List ℕ) (conf : Conf) → configuration_within limit text ≡ Ok conf → IsReadable conf
readable limit text conf e = subst (Gives IsReadable) e (configuration_form limit text)

limits_form : (limit : ℕ) (text : List ℕ) → Gives IsWithinLimits (configuration_within limit text)
unfolding configuration_within
limits_form limit text = gives_then IsDraft IsWithinLimits checked checked_within (draft_within limit text) (draft_within_form limit text)

-- a configuration that a text says has no more of anything than a text may have
pub within_limits : (limit : ℕ) (text : List ℕ) (conf : Conf) → configuration_within limit text ≡ Ok conf → IsWithinLimits conf
within_limits limit text conf e = subst (Gives IsWithinLimits) e (limits_form limit text)
