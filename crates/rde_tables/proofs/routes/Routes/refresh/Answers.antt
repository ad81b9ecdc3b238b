use Rattle.std.proofs.Common.{[], ◌++◌, sym, subst}
use Rattle.attr_intern.specs.Table.{CameFrom}
use Rattle.adj_rib_in.specs.Uses.{kept as held_refs}
use Rattle.rib_multi.specs.Rows.{Ribs}
use Rattle.rib_multi.specs.Uses.{refs_of, refs_in, refs_of_change}
use Rattle.adj_rib_out.specs.Out.{kept as told_refs}
use Rattle.rde_tables.specs.Routes.{IsExact}
use Rattle.attr_intern.proofs.References.{came_back}
use Rattle.rde_tables.proofs.Kept.{came_middle, came_turned, keeps_came, keeps_middle, keeps_moved, keeps_refreshed, exact_on}
use Rattle.rde_tables.proofs.routes.Routes.refresh.Goals as goal

pub refresh-requires-clause-came : goal.refresh-requires-clause-came
refresh-requires-clause-came c =
    let table = c.self.inside.table in
    let ribs = refs_of c.self.inside.ribs in
    let now = refs_in c.in_ok-candidates.candidates in
    let came = came_middle table (held_refs c.self.inside.held) ribs (told_refs c.self.inside.outs) c.self.invariant in
    came_turned c.numbered.new.table now ribs (c.in_ok-candidates.ensures.keeps.came ribs came)

pub invariant_of-self-in_err-change : goal.invariant_of-self-in_err-change
invariant_of-self-in_err-change c =
    let mid = c.numbered.new.table in
    let after = c.refresh.new.table in
    let held = held_refs c.self.inside.held in
    let told = told_refs c.self.inside.outs in
    let all = held ++ (refs_of c.self.inside.ribs ++ told) in
    let came = c.numbered.ensures.stays all c.self.invariant in
    let moves = c.in_err-change.ensures.err_uses in
    let keeps = keeps_moved mid after [] [] moves.stays moves.uses (λ _. tt) in
    subst (λ (ribs : Ribs). CameFrom after (held ++ (refs_of ribs ++ told))) (sym c.in_err-change.ensures.err) (keeps.came all came)

pub give_change-requires : goal.give_change-requires
give_change-requires c = came_back c.refresh.new.table (refs_of c.refresh.new.self) (refs_of_change c.in_ok-change.change) c.in_ok-change.ensures.came

pub invariant_of-self-2 : goal.invariant_of-self-2
invariant_of-self-2 c =
    let table = c.self.inside.table in
    let after = c.give_change.new.table in
    let held = held_refs c.self.inside.held in
    let told = told_refs c.self.inside.outs in
    let old = refs_of c.self.inside.ribs in
    let new = refs_of c.refresh.new.self in
    let keeps = keeps_refreshed table c.numbered.new.table c.refresh.new.table after old new (refs_in c.in_ok-candidates.candidates) (refs_of_change c.in_ok-change.change)
    c.in_ok-candidates.ensures.keeps c.in_ok-change.ensures.uses c.in_ok-change.ensures.came c.give_change.ensures in
    keeps_came table after (held ++ (old ++ told)) (held ++ (new ++ told)) (keeps_middle table after held old new told keeps) c.self.invariant

pub returns-clause-exact : goal.returns-clause-exact
returns-clause-exact c exact =
    let table = c.self.inside.table in
    let after = c.give_change.new.table in
    let held = held_refs c.self.inside.held in
    let told = told_refs c.self.inside.outs in
    let old = refs_of c.self.inside.ribs in
    let new = refs_of c.refresh.new.self in
    let keeps = keeps_middle table after held old new told (keeps_refreshed table c.numbered.new.table c.refresh.new.table after old new (refs_in c.in_ok-candidates.candidates) (refs_of_change c.in_ok-change.change)
    c.in_ok-candidates.ensures.keeps c.in_ok-change.ensures.uses c.in_ok-change.ensures.came c.give_change.ensures) in
    exact_on table after (held ++ (old ++ told)) (held ++ (new ++ told)) (keeps_came table after (held ++ (old ++ told)) (held ++ (new ++ told)) keeps c.self.invariant) keeps (subst IsExact (sym c.self.view_is) exact)
