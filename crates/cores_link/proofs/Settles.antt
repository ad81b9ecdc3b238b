-- A settle ends the reload that was under way.
use Rattle.std.proofs.Common.{◌≡◌, ℕ, Bool, true, false, List, [], ◌∷◌, filter, fold, Option, Some, None, refl, sym, ap, ◌∙◌}
use Rattle.net_base.specs.declared.addr.Addr.{Addr}
use Rattle.core_msgs.specs.declared.answer.Answer.{Answer}
use Rattle.core_msgs.specs.declared.answer.Line.{Line}
use Rattle.core_msgs.specs.declared.answer.Line.TheVariants as line
use Rattle.core_msgs.specs.declared.event.Event.TheVariants.{Settle}
use Rattle.run_record.specs.Run.{History, under_way, under_way_told, conf, generation}
use Rattle.run_record.specs.Sessions.{peers_up, up_told}
use Rattle.run_record.specs.Answers.{step, reload_reports, is_reload_report, AnswersSettle}
use Rattle.run_record.proofs.Nobody.{right_without_sessions}
use Rattle.cores_link.specs.declared.accepted.Accepted.{Accepted}
use Rattle.cores_link.specs.Standing.{AcceptedBy, Follows, generation_if}

reports_end : (u : Option ℕ) → fold under_way_told u (reload_reports u) ≡ None
reports_end None = refl
reports_end (Some generation) = refl

reports_are_all : (u : Option ℕ) → filter is_reload_report (reload_reports u) ≡ reload_reports u
reports_are_all None = refl
reports_are_all (Some generation) = refl

reports_bring_nobody : (u : Option ℕ) (peers : List Addr) → fold up_told peers (reload_reports u) ≡ peers
reports_bring_nobody None peers = refl
reports_bring_nobody (Some generation) peers = refl

abbrev settled : Option ℕ → Answer
settled u = record { lines = reload_reports u; last = line.Quiet }

-- nothing else changes
pub settle_follows : (old new : Accepted) (u : Option ℕ) → new ≡ record old { under_way = false } →
    ((h : History) → AcceptedBy old h → u ≡ under_way h) → Follows old new Settle (settled u)
settle_follows old new u is busy h by =
    let nobody : peers_up (step Settle (settled u) ∷ h) ≡ [] = reports_bring_nobody u (peers_up h) ∙ by.nobody in
    let done : under_way (step Settle (settled u) ∷ h) ≡ None =
    ap (λ before. fold under_way_told before (reload_reports u)) (sym (busy h by)) ∙ reports_end u in (
      record {
        quiet = tt;
        done = done;
        reports = reports_are_all u ∙ ap reload_reports (busy h by);
        right = right_without_sessions (step Settle (settled u) ∷ h) [] nobody;
      },
      record {
        conf = ap (λ (a : Accepted). a.conf) is ∙ by.conf;
        generation = ap (λ (a : Accepted). a.generation) is ∙ by.generation;
        under_way = ap (λ (a : Accepted). generation_if a.under_way a.generation) is ∙ sym done;
        nobody = nobody;
      },
    )
