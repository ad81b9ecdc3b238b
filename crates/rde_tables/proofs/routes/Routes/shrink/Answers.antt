use Rattle.std.proofs.Common.{◌++◌, sym, subst}
use Rattle.adj_rib_in.specs.Uses.{kept as held_refs}
use Rattle.rib_multi.specs.Uses.{refs_of}
use Rattle.adj_rib_out.specs.Out.{kept as told_refs}
use Rattle.rde_tables.specs.Routes.{IsExact}
use Rattle.rde_tables.proofs.Kept.{came_middle, keeps_came, keeps_middle, keeps_moves, exact_on}
use Rattle.rde_tables.proofs.routes.Routes.shrink.Goals as goal

pub shrink-requires : goal.shrink-requires
shrink-requires c = came_middle c.self.inside.table (held_refs c.self.inside.held) (refs_of c.self.inside.ribs) (told_refs c.self.inside.outs) c.self.invariant

pub invariant_of-self : goal.invariant_of-self
invariant_of-self c =
    let table = c.self.inside.table in
    let after = c.shrink.new.table in
    let held = held_refs c.self.inside.held in
    let told = told_refs c.self.inside.outs in
    let old = refs_of c.self.inside.ribs in
    let new = refs_of c.shrink.new.self in
    keeps_came table after (held ++ (old ++ told)) (held ++ (new ++ told)) (keeps_middle table after held old new told (keeps_moves table after old new c.shrink.ensures.uses c.shrink.ensures.came)) c.self.invariant

pub returns-clause-exact : goal.returns-clause-exact
returns-clause-exact c exact =
    let table = c.self.inside.table in
    let after = c.shrink.new.table in
    let held = held_refs c.self.inside.held in
    let told = told_refs c.self.inside.outs in
    let old = refs_of c.self.inside.ribs in
    let new = refs_of c.shrink.new.self in
    let keeps = keeps_middle table after held old new told (keeps_moves table after old new c.shrink.ensures.uses c.shrink.ensures.came) in
    exact_on table after (held ++ (old ++ told)) (held ++ (new ++ told)) (keeps_came table after (held ++ (old ++ told)) (held ++ (new ++ told)) keeps c.self.invariant) keeps (subst IsExact (sym c.self.view_is) exact)
