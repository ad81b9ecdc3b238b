-- A show changes nothing of what a history says.
use Rattle.std.proofs.Common.{◌≡◌, ℕ, true, List, [], ◌∷◌, map, fold, Option, Some, None, IfSome, IfNone, refl, sym, ap, ◌∙◌, subst}
use Rattle.net_base.specs.declared.addr.Addr.{Addr}
use Rattle.attr_model.specs.declared.row.RouteRow.{RouteRow}
use Rattle.core_msgs.specs.declared.answer.Answer.{Answer}
use Rattle.core_msgs.specs.declared.answer.Line.TheVariants as line
use Rattle.core_msgs.specs.declared.row.Row.TheVariants as row
use Rattle.core_msgs.specs.declared.parts.PartName.TheVariants as part
use Rattle.core_msgs.specs.declared.event.Event.TheVariants.{Ctl}
use Rattle.conf_tree.specs.declared.conf.Conf.{Conf}
use Rattle.route_world.specs.Networks.{network_rows}
use Rattle.run_record.specs.Run.{History, generation, generation_told, under_way, under_way_told, conf}
use Rattle.run_record.specs.Sessions.{peers_up, up_told}
use Rattle.run_record.specs.Answers.{are_show_rib, only, AnswersControl, AnswersShowRib}
use Rattle.cores_link.specs.declared.accepted.Accepted.{Accepted}
use Rattle.cores_link.specs.Standing.{AcceptedBy, Follows}

rows_keep : (u : Option ℕ) (routes : List RouteRow) → fold under_way_told u (map (λ route. line.Row (row.Route route)) routes) ≡ u
rows_keep u [] = refl
rows_keep u (route ∷ routes) = rows_keep u routes

rows_bring_nobody : (peers : List Addr) (routes : List RouteRow) → fold up_told peers (map (λ route. line.Row (row.Route route)) routes) ≡ peers
rows_bring_nobody peers [] = refl
rows_bring_nobody peers (route ∷ routes) = rows_bring_nobody peers routes

record Keeps (u : Option ℕ) (g : ℕ) (peers : List Addr) (answer : Answer) : Type 0 where
  generation : generation_told g answer.last ≡ g
  under_way : under_way_told (fold under_way_told u answer.lines) answer.last ≡ u
  nobody_more : fold up_told peers answer.lines ≡ peers

show_keeps : (busy : Option ℕ) (g : ℕ) (up : List Addr) (c : Conf) (answer : Answer) →
    IfSome busy (λ other. answer ≡ only (line.Pending part.Reload)) →
    IfNone busy (answer ≡ record { lines = map (λ r. line.Row (row.Route r)) (network_rows c); last = line.Ok }) → Keeps busy g up answer
show_keeps (Some other) g up c answer b i = rw b (record { generation = refl; under_way = refl; nobody_more = refl })
show_keeps None g up c answer b i =
    rw i (record { generation = refl; under_way = rows_keep None (network_rows c); nobody_more = rows_bring_nobody up (network_rows c) })

-- the rows that a show answers, and what is accepted afterwards
pub show_follows : (a : Accepted) (words : List (List ℕ)) (answer : Answer) → are_show_rib words ≡ true →
    ((h : History) → AcceptedBy a h → AnswersShowRib h answer) → Follows a a (Ctl words) answer
show_follows a words answer is_show rows h by =
    let keeps : Keeps (under_way h) (generation h) (peers_up h) answer =
    show_keeps (under_way h) (generation h) (peers_up h) (conf h) answer (rows h by).busy (rows h by).idle in (
      subst (λ is. AnswersControl is h answer) (sym is_show) (rows h by),
      record {
        conf = by.conf;
        generation = by.generation ∙ sym keeps.generation;
        under_way = by.under_way ∙ sym keeps.under_way;
        nobody = keeps.nobody_more ∙ by.nobody;
      },
    )
