use Rattle.std.proofs.Common.{ℕ, ◌<◌, ◌≤◌, ◌++◌, ◌∷◌, [], length, List, Some, sym, ap, ◌∙◌, subst}
use Rattle.std.specs.Prelude.{option_map}
use Rattle.std.specs.List.{AllByRecursion}
use Rattle.std.proofs.lemmas.List.{append-nil}
use Rattle.attr_intern.specs.Table.{Table, IsOf, times}
use Rattle.adj_rib_out.specs.Out.{kept_of}
use Rattle.adj_rib_out.specs.Uses.{Moves}
use Rattle.adj_rib_out.specs.Message.{built_of}
use Rattle.adj_rib_out.specs.Looks.{wanted_in}
use Rattle.adj_rib_out.specs.Tells.{Tells}
use Rattle.adj_rib_out.proofs.Messages.{capped_is}
use Rattle.adj_rib_out.proofs.building.finish.Goals as goal

pub send-requires : goal.send-requires
send-requires c = subst (λ (flight : List ℕ). length flight < 16) (sym c.in-Some.ensures.settles.flight) c.requires.window

pub returns-in-Some-clause-tells : goal.returns-in-Some-clause-tells
returns-in-Some-clause-tells c =
    let settles = c.in-Some.ensures.settles in
    let old = c.args.out.now in
    let size = c.size.ensures ∙ capped_is _ settles.fits in
    subst (λ message. Tells message c.args.looks old c.send.new.self) settles.rule
    (subst (λ new. Tells (Some c.in-Some.packing.message) c.args.looks old new) (sym c.send.ensures)
    (record {
      told = settles.told;
      queued = settles.queued;
      again = settles.again;
      flight = ap (λ flight. flight ++ c.size.result ∷ []) settles.flight ∙ ap (λ n. old.flight ++ n ∷ []) size;
    }))

pub returns-in-Some-clause-built : goal.returns-in-Some-clause-built
returns-in-Some-clause-built c = ap Some c.into_built.ensures ∙ ap (option_map built_of) c.in-Some.ensures.settles.rule

pub returns-in-Some-clause-moves : goal.returns-in-Some-clause-moves
returns-in-Some-clause-moves c = subst (λ new. Moves c.args.table.now c.settle.new.table (kept_of c.args.out.now ++ wanted_in c.args.looks) (kept_of new)) (sym c.send.ensures) c.in-Some.ensures.moves

pub returns-in-Some-clause-less : goal.returns-in-Some-clause-less
returns-in-Some-clause-less c = subst (λ new. (number : ℕ) → times number (kept_of new) ≤ times number (kept_of c.args.out.now ++ wanted_in c.args.looks)) (sym c.send.ensures) c.in-Some.ensures.less

pub returns-in-Some-clause-each : goal.returns-in-Some-clause-each
returns-in-Some-clause-each c =
    subst (λ new. (other : Table) → AllByRecursion (IsOf other) (kept_of c.args.out.now ++ wanted_in c.args.looks) → AllByRecursion (IsOf other) (kept_of new)) (sym c.send.ensures) c.in-Some.ensures.each

pub returns-in-None-clause-tells : goal.returns-in-None-clause-tells
returns-in-None-clause-tells c =
    let settles = c.in-None.ensures.settles in
    subst (λ message. Tells message c.args.looks c.args.out.now c.settle.new.out) settles.rule
    (record {
      told = settles.told;
      queued = settles.queued;
      again = settles.again;
      flight = settles.flight ∙ sym (append-nil c.args.out.now.flight);
    })

pub returns-in-None-clause-built : goal.returns-in-None-clause-built
returns-in-None-clause-built c = ap (option_map built_of) c.in-None.ensures.settles.rule
