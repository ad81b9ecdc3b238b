-- The rows of a show, and the configuration of a reload that was accepted.
use Rattle.std.proofs.Common.{◌≡◌, ℕ, Bool, true, false, List, [], ◌∷◌, map, Option, None, Some, Result, Ok, Err, IfSome, IfNone, ◌⊎◌, inl, inr, refl, sym, ap, ◌∙◌, arith}
use Rattle.net_base.specs.declared.conf.ConfFault.{ConfFault}
use Rattle.conf_tree.specs.declared.conf.Conf.{Conf}
use Rattle.core_msgs.specs.declared.event.Event.TheVariants as event
use Rattle.core_msgs.specs.declared.answer.Answer.{Answer}
use Rattle.core_msgs.specs.declared.answer.Line.{Line}
use Rattle.core_msgs.specs.declared.answer.Line.TheVariants as line
use Rattle.core_msgs.specs.declared.answer.Refusal.TheVariants as refusal
use Rattle.core_msgs.specs.declared.parts.PartName.TheVariants as part
use Rattle.core_msgs.specs.declared.row.Row.TheVariants as row
use Rattle.route_world.specs.Networks.{network_rows}
use Rattle.run_record.specs.Run.{History, generation, generation_told, under_way, conf, conf_told, conf_or}
use Rattle.run_record.specs.Taken.{taken}
use Rattle.run_record.specs.Answers.{step, only, Answers, AnswersControl, IsReadingOf, are_show_rib}

-- 1 for the line `ok`, and 0 for every other
abbrev ok_count : Line → ℕ
ok_count line.Ok = 1
ok_count _ = 0

not_ok : (l : Line) → ok_count l ≡ 0 → l ≡ line.Ok → ⊥
not_ok l none e = omega (arith, none, ap ok_count e)

show_rows : (busy : Option ℕ) (c : Conf) (answer : Answer) →
    IfSome busy (λ other. answer ≡ only (line.Pending part.Reload)) →
    IfNone busy (answer ≡ record { lines = map (λ r. line.Row (row.Route r)) (network_rows c); last = line.Ok }) →
    answer.last ≡ line.Ok → answer.lines ≡ map (λ r. line.Row (row.Route r)) (network_rows c)
show_rows (Some other) c answer b i e = absurd (not_ok answer.last (ap (λ (a : Answer). ok_count a.last) b) e)
show_rows None c answer b i e = ap (λ (a : Answer). a.lines) i

control_rows : (is_show : Bool) (h : History) (answer : Answer) → AnswersControl is_show h answer → answer.last ≡ line.Ok →
    answer.lines ≡ map (λ r. line.Row (row.Route r)) (network_rows (conf h))
control_rows true h answer a e = show_rows (under_way h) (conf h) answer a.busy a.idle e
control_rows false h answer a e = absurd (not_ok answer.last (ap (λ (a : Answer). ok_count a.last) a) e)

pub rows_of_show : (h : History) (words : List (List ℕ)) (answer : Answer) → Answers h (event.Ctl words) answer → answer.last ≡ line.Ok →
    answer.lines ≡ map (λ r. line.Row (row.Route r)) (network_rows (conf h))
rows_of_show h words answer a e = control_rows (are_show_rib words) h answer a e

-- a line that leaves every generation brings none
brings_none : (l : Line) (g : ℕ) → ((n : ℕ) → generation_told n l ≡ n) → l ≡ line.OkGeneration g → ⊥
brings_none l g leaves e =
    omega (arith, sym (ap (generation_told 0) e) ∙ leaves 0, sym (ap (generation_told 1) e) ∙ leaves 1)

read_is : (busy : Option ℕ) (read : Result Conf ConfFault) (last : ℕ) (l : Line) (c : Conf) (g : ℕ) →
    IfSome busy (λ other. l ≡ line.Refused (refusal.UnderWay other)) →
    IfNone busy ((l ≡ line.Refused refusal.NoMemory) ⊎ IsReadingOf read last l) →
    l ≡ line.OkGeneration g → read ≡ Ok (conf_or c read)
read_is (Some other) read last l c g b i e = absurd (brings_none l g (λ n. ap (generation_told n) b) e)
read_is None read last l c g b (inl i) e = absurd (brings_none l g (λ n. ap (generation_told n) i) e)
read_is None (Err fault) last l c g b (inr i) e = absurd (brings_none l g (λ n. ap (generation_told n) i) e)
read_is None (Ok conf) last l c g b (inr i) e = refl

pub conf_of_reload : (h : History) (text : List ℕ) (answer : Answer) (g : ℕ) → Answers h (event.Reload text) answer →
    answer.last ≡ line.OkGeneration g → taken text ≡ Ok (conf (step (event.Reload text) answer ∷ h))
conf_of_reload h text answer g a e =
    read_is (under_way h) (taken text) (generation h) answer.last (conf h) g a.busy a.idle e
    ∙ ap (λ l. Ok (conf_told (conf h) (event.Reload text) l)) (sym e)
