-- What a check says of the text that it read is what it says of the content of the file.
use Rattle.std.proofs.Common.{◌≡◌, ℕ, Bool, List, Option, None, Some, IfSome, Result, Ok, Err, take, refl, sym, ap, ◌∙◌}
use Rattle.std.specs.Io.KnownBytes.{append_known}
use Rattle.net_base.specs.declared.conf.ConfFault.{ConfFault}
use Rattle.conf_tree.specs.declared.conf.Conf.{Conf}
use Rattle.conf_tree.specs.Language.{configuration}
use Rattle.bgpd_top.specs.Checking.{PrintsConf, IsGood, EndsCheck}
use Rattle.bgpd_top.specs.Ending.{EndsPrint}
use Rattle.bgpd_top.specs.declared.status.Status.{Status}
use Rattle.bgpd_top.specs.declared.status.Status.TheVariants.{Done, Refused, Usage, BadEvent, ReadFault, WriteFault, NoMemory, TooLong}
use Rattle.bgpd_top.proofs.FrontOfText.{front_says}

good : (verbose : Bool) (text printed : List ℕ) (before after : Option (List ℕ)) (says : Result Conf ConfFault) → configuration text ≡ says →
    PrintsConf verbose printed says → after ≡ append_known before printed → IsGood verbose before after text
good verbose text printed before after (Ok conf) is prints written = record { conf = conf; says = is; written = written ∙ ap (append_known before) prints }
good verbose text printed before after (Err found) is prints written = absurd prints

-- what a text with a configuration prints was printed
pub printed_cause : (verbose : Bool) (text printed : List ℕ) (status : Status) (before after : Option (List ℕ)) →
    PrintsConf verbose printed (configuration text) → EndsPrint printed status before after → EndsCheck verbose (Some text) status before after
printed_cause verbose text printed Done before after prints ends = good verbose text printed before after (configuration text) refl prints ends
printed_cause verbose text printed WriteFault before after prints ends = tt
printed_cause verbose text printed (Refused found) before after prints ends = absurd ends
printed_cause verbose text printed Usage before after prints ends = absurd ends
printed_cause verbose text printed (BadEvent line) before after prints ends = absurd ends
printed_cause verbose text printed ReadFault before after prints ends = absurd ends
printed_cause verbose text printed NoMemory before after prints ends = absurd ends
printed_cause verbose text printed TooLong before after prints ends = absurd ends

-- the text says what the content says whose front it is
front_is : (text file : List ℕ) → text ≡ take 1048577 file → configuration file ≡ configuration text
front_is text file is = sym (front_says file) ∙ ap configuration (sym is)

good_front : (verbose : Bool) (before after : Option (List ℕ)) (text file : List ℕ) → text ≡ take 1048577 file →
    IsGood verbose before after text → IsGood verbose before after file
good_front verbose before after text file is found = record { conf = found.conf; says = front_is text file is ∙ found.says; written = found.written }

pub content_cause : (verbose : Bool) (content : Option (List ℕ)) (text : List ℕ) (status : Status) (before after : Option (List ℕ)) →
    IfSome content (λ file. text ≡ take 1048577 file) → EndsCheck verbose (Some text) status before after → EndsCheck verbose content status before after
content_cause verbose None text Done before after is ends = tt
content_cause verbose (Some file) text Done before after is ends = good_front verbose before after text file is ends
content_cause verbose None text (Refused found) before after is ends = (tt, ends.1)
content_cause verbose (Some file) text (Refused found) before after is ends = (front_is text file is ∙ ends.0, ends.1)
content_cause verbose content text Usage before after is ends = ends
content_cause verbose content text (BadEvent line) before after is ends = ends
content_cause verbose content text ReadFault before after is ends = ends
content_cause verbose content text WriteFault before after is ends = ends
content_cause verbose content text NoMemory before after is ends = ends
content_cause verbose content text TooLong before after is ends = ends
