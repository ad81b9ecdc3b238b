use Rattle.std.proofs.Common.{◌≡◌, true, [], ◌++◌, map, sym, subst}
use Rattle.std.specs.List.{AllByRecursion}
use Rattle.adj_rib_in.specs.Uses.{kept as held_refs}
use Rattle.rib_multi.specs.Uses.{refs_of}
use Rattle.adj_rib_out.specs.declared.look.Look.{Look}
use Rattle.adj_rib_out.specs.Out.{out_at, is_queued, kept as told_refs}
use Rattle.adj_rib_out.specs.Looks.{wanted_in, used_by}
use Rattle.adj_rib_out.specs.Message.{IsInOrder, FitsAlone}
use Rattle.rde_tables.specs.Routes.{AllRoutes, IsExact}
use Rattle.rde_tables.specs.Wants.{look_of}
use Rattle.rde_tables.proofs.Wanted.{all_queued, in_order, all_fit}
use Rattle.attr_intern.proofs.References.{came_back}
use Rattle.rde_tables.proofs.Kept.{came_turned, keeps_came, keeps_beside, keeps_turned, keeps_last, keeps_then, keeps_trades, keeps_answered, exact_on, on_ok}
use Rattle.rde_tables.proofs.routes.Routes.build.Goals as goal

pub build-requires-clause-queued : goal.build-requires-clause-queued
build-requires-clause-queued c =
    let out = out_at c.self.inside.outs c.args.session in
    let queued = subst (λ (routes : AllRoutes). AllByRecursion (λ (look : Look). is_queued (out_at routes.outs c.args.session) look.prefix ≡ true) (map look_of c.args.wants)) (sym c.self.view_is) c.requires.queued in
    all_queued out c.in_ok-looks.looks (subst (AllByRecursion (λ (look : Look). is_queued out look.prefix ≡ true)) (sym c.in_ok-looks.ensures.like) queued)

pub build-requires-clause-order : goal.build-requires-clause-order
build-requires-clause-order c = in_order c.in_ok-looks.looks (subst IsInOrder (sym c.in_ok-looks.ensures.like) c.requires.order)

pub build-requires-clause-alone : goal.build-requires-clause-alone
build-requires-clause-alone c = all_fit c.args.enc c.in_ok-looks.looks (subst (AllByRecursion (FitsAlone c.args.enc)) (sym c.in_ok-looks.ensures.like) c.requires.alone)

pub build-requires-clause-came : goal.build-requires-clause-came
build-requires-clause-came c =
    let table = c.self.inside.table in
    let ribs = refs_of c.self.inside.ribs in
    let told = told_refs c.self.inside.outs in
    let now = wanted_in c.in_ok-looks.looks in
    let came = came_back table ribs told (came_back table (held_refs c.self.inside.held) (ribs ++ told) c.self.invariant) in
    came_turned c.looks_of.new.table now told (c.in_ok-looks.ensures.keeps.came told came)

pub told_of-requires : goal.told_of-requires
told_of-requires c =
    let table = c.self.inside.table in
    let mid = c.looks_of.new.table in
    let after = c.build.new.table in
    let ribs = refs_of c.self.inside.ribs in
    let told = told_refs c.self.inside.outs in
    let left = told_refs c.build.new.self in
    let now = wanted_in c.in_ok-looks.looks in
    let used = used_by c.in_ok-built.built in
    let came = came_back table ribs told (came_back table (held_refs c.self.inside.held) (ribs ++ told) c.self.invariant) in
    let before = came_turned mid now told (c.in_ok-looks.ensures.keeps.came told came) in
    came_back after left used (keeps_came mid after (told ++ now) (left ++ used) (keeps_trades mid after (told ++ now) (left ++ used) c.in_ok-built.ensures.uses) before)

pub invariant_of-self-2 : goal.invariant_of-self-2
invariant_of-self-2 c =
    let table = c.self.inside.table in
    let mid = c.looks_of.new.table in
    let later = c.build.new.table in
    let after = c.told_of.new.table in
    let held = held_refs c.self.inside.held in
    let ribs = refs_of c.self.inside.ribs in
    let told = told_refs c.self.inside.outs in
    let left = told_refs c.build.new.self in
    let now = wanted_in c.in_ok-looks.looks in
    let used = used_by c.in_ok-built.built in
    let keeps = keeps_answered table mid later after told left now used c.in_ok-looks.ensures.keeps (keeps_trades mid later (told ++ now) (left ++ used) c.in_ok-built.ensures.uses) c.told_of.ensures in
    keeps_came table after (held ++ (ribs ++ told)) (held ++ (ribs ++ left)) (keeps_last table after held ribs told left keeps) c.self.invariant

pub returns-clause-exact : goal.returns-clause-exact
returns-clause-exact c exact =
    let table = c.self.inside.table in
    let mid = c.looks_of.new.table in
    let later = c.build.new.table in
    let after = c.told_of.new.table in
    let held = held_refs c.self.inside.held in
    let ribs = refs_of c.self.inside.ribs in
    let told = told_refs c.self.inside.outs in
    let left = told_refs c.build.new.self in
    let now = wanted_in c.in_ok-looks.looks in
    let used = used_by c.in_ok-built.built in
    let keeps = keeps_last table after held ribs told left (keeps_answered table mid later after told left now used c.in_ok-looks.ensures.keeps (keeps_trades mid later (told ++ now) (left ++ used) c.in_ok-built.ensures.uses) c.told_of.ensures) in
    let state : AllRoutes = record { table = after; held = c.self.inside.held; ribs = c.self.inside.ribs; outs = c.build.new.self } in
    on_ok (IsExact state) c.told_of.result
    (exact_on table after (held ++ (ribs ++ told)) (held ++ (ribs ++ left)) (keeps_came table after (held ++ (ribs ++ told)) (held ++ (ribs ++ left)) keeps c.self.invariant) keeps (subst IsExact (sym c.self.view_is) exact))

pub invariant_of-self-in_err-built : goal.invariant_of-self-in_err-built
invariant_of-self-in_err-built c =
    let table = c.self.inside.table in
    let mid = c.looks_of.new.table in
    let after = c.build.new.table in
    let held = held_refs c.self.inside.held in
    let ribs = refs_of c.self.inside.ribs in
    let told = told_refs c.self.inside.outs in
    let left = told_refs c.build.new.self in
    let now = wanted_in c.in_ok-looks.looks in
    let handed = (keeps_last table mid held ribs told (told ++ now) (keeps_then table mid mid told (now ++ told) (told ++ now) (keeps_beside table mid [] now told c.in_ok-looks.ensures.keeps) (keeps_turned mid now told))) in
    let all = keeps_then table mid after (held ++ (ribs ++ told)) (held ++ (ribs ++ (told ++ now))) (held ++ (ribs ++ left)) handed
    (keeps_last mid after held ribs (told ++ now) left (keeps_trades mid after (told ++ now) left c.in_err-built.ensures.back)) in
    keeps_came table after (held ++ (ribs ++ told)) (held ++ (ribs ++ left)) all c.self.invariant
