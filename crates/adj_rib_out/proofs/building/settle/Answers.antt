use Rattle.std.proofs.Common.{◌≡◌, ℕ, ◌+◌, ◌≤◌, ◌++◌, [], List, length, ap, ◌∙◌, subst, arith}
use Rattle.std.specs.List.{AllByRecursion}
use Rattle.std.specs.Vec.Iter.{into_iter_items}
use Rattle.std.proofs.lemmas.List.{append-nil}
use Rattle.attr_model.specs.Numbered.{Numbered}
use Rattle.attr_intern.specs.Table.{Table, IsOf, times}
use Rattle.adj_rib_out.specs.declared.look.Look.{Look}
use Rattle.adj_rib_out.specs.Rows.{one_or_none}
use Rattle.adj_rib_out.specs.Out.{kept_of}
use Rattle.adj_rib_out.specs.Uses.{Moves}
use Rattle.adj_rib_out.specs.Packed.{message_in}
use Rattle.adj_rib_out.specs.Looks.{wanted_in}
use Rattle.adj_rib_out.proofs.Kept.{times-append, all-append, all-front, all-back}
use Rattle.adj_rib_out.proofs.Uses.{nothing_left, back_of, moves_more, split_more, room_first, room_more}
use Rattle.adj_rib_out.proofs.Settling.{IsAhead, step, settled}
use Rattle.adj_rib_out.proofs.building.settle.Goals as goal

-- what is held with a look is what is held behind it, and what goes back
traded : (mid new : List Numbered) (w back rest left : List Numbered) → left ≡ w ++ rest → ((number : ℕ) → times number new + times number back ≡ times number mid + times number w)
    → (number : ℕ) → times number (mid ++ left) ≡ times number (new ++ rest) + times number back
traded mid new w back rest left is uses number =
    omega (arith, uses number, split_more left w rest is number, times-append number mid left, times-append number new rest)

pub settle_look-back-requires-clause-queued : goal.settle_look-back-requires-clause-queued
settle_look-back-requires-clause-queued c = (subst (AllByRecursion (IsAhead c.args.out.now c.loop-look.out)) c.in-Some.ensures.steps.0 c.loop-look.invariant.0.ahead).0.queued

pub settle_look-back-requires-clause-room : goal.settle_look-back-requires-clause-room
settle_look-back-requires-clause-room c = room_first c.loop-look.packing (into_iter_items c.loop-look.look-iterator) c.in-Some.look (into_iter_items c.next.new.self) c.in-Some.ensures.steps.0 c.loop-look.invariant.4

pub give_back-requires : goal.give_back-requires
give_back-requires c =
    let t0 = c.args.table.now in
    let back = one_or_none c.settle_look-back.result in
    let left = wanted_in (into_iter_items c.loop-look.look-iterator) in
    let rest = wanted_in (into_iter_items c.next.new.self) in
    let w = one_or_none c.in-Some.look.wanted in
    let mid = kept_of c.loop-look.out in
    let split : left ≡ w ++ rest = ap wanted_in c.in-Some.ensures.steps.0 in
    let all = c.loop-look.invariant.2 t0 c.requires.came.each in
    back_of t0 c.loop-look.table (kept_of c.args.out.now ++ wanted_in c.args.looks) (mid ++ left) back c.requires.came.uses
    (λ number. omega (arith, traded mid (kept_of c.settle_look-back.new.out) w back rest left split c.settle_look-back.ensures.uses number))
    (c.settle_look-back.ensures.gone t0 (all-front (IsOf t0) mid left all) (all-front (IsOf t0) w rest (subst (AllByRecursion (IsOf t0)) split (all-back (IsOf t0) mid left all))))
    c.loop-look.invariant.1

pub loop-look-preserved : goal.loop-look-preserved
loop-look-preserved c =
    let t0 = c.args.table.now in
    let back = one_or_none c.settle_look-back.result in
    let looks = into_iter_items c.loop-look.look-iterator in
    let more = into_iter_items c.next.new.self in
    let left = wanted_in looks in
    let rest = wanted_in more in
    let w = one_or_none c.in-Some.look.wanted in
    let mid = kept_of c.loop-look.out in
    let new = kept_of c.settle_look-back.new.out in
    let first = c.in-Some.ensures.steps.0 in
    let split : left ≡ w ++ rest = ap wanted_in first in
    let trade = traded mid new w back rest left split c.settle_look-back.ensures.uses in
    let given : (table : Table) → AllByRecursion (IsOf table) (kept_of c.args.out.now ++ wanted_in c.args.looks) → AllByRecursion (IsOf table) w =
    λ table all. all-front (IsOf table) w rest (subst (AllByRecursion (IsOf table)) split (all-back (IsOf table) mid left (c.loop-look.invariant.2 table all))) in (
      step c.args.looks c.args.out.now c.loop-look.out c.settle_look-back.new.out (message_in c.args.packing) (message_in c.loop-look.packing) (message_in c.settle_look-back.new.packing) c.in-Some.look looks more t0 first
          c.settle_look-back.ensures.message c.loop-look.invariant.0 c.requires.wanted (given t0 c.requires.came.each)
          c.settle_look-back.ensures.as_told c.settle_look-back.ensures.stays c.settle_look-back.ensures.told,
      moves_more t0 c.loop-look.table c.give_back.new.table (kept_of c.args.out.now ++ wanted_in c.args.looks) (mid ++ left) back (new ++ rest) trade c.loop-look.invariant.1 c.give_back.ensures,
      (λ table all. all-append (IsOf table) new rest
          (c.settle_look-back.ensures.each table (all-front (IsOf table) mid left (c.loop-look.invariant.2 table all)) (given table all))
          (all-back (IsOf table) w rest (subst (AllByRecursion (IsOf table)) split (all-back (IsOf table) mid left (c.loop-look.invariant.2 table all))))),
      (λ number. omega (arith, trade number, c.loop-look.invariant.3 number)),
      room_more c.loop-look.packing c.settle_look-back.new.packing looks c.in-Some.look more first c.loop-look.invariant.4 (c.settle_look-back.ensures.room (length more)),
    )

pub returns-clause-settles : goal.returns-clause-settles
returns-clause-settles c = settled c.args.looks c.args.out.now c.loop-look.out (message_in c.args.packing) (message_in c.loop-look.packing) (into_iter_items c.loop-look.look-iterator) (nothing_left _ _ c.loop-look.look-iterator.rest.ok.0 c.in-None.ensures.steps.0) c.loop-look.invariant.0

held_end : (mid : List Numbered) (left : List Look) → left ≡ [] → mid ++ wanted_in left ≡ mid
held_end mid left end = ap (λ looks. mid ++ wanted_in looks) end ∙ append-nil mid

pub returns-clause-moves : goal.returns-clause-moves
returns-clause-moves c =
    subst (λ held. Moves c.args.table.now c.loop-look.table (kept_of c.args.out.now ++ wanted_in c.args.looks) held)
    (held_end (kept_of c.loop-look.out) (into_iter_items c.loop-look.look-iterator) (nothing_left _ _ c.loop-look.look-iterator.rest.ok.0 c.in-None.ensures.steps.0)) c.loop-look.invariant.1

pub returns-clause-less : goal.returns-clause-less
returns-clause-less c =
    subst (λ held. (number : ℕ) → times number held ≤ times number (kept_of c.args.out.now ++ wanted_in c.args.looks))
    (held_end (kept_of c.loop-look.out) (into_iter_items c.loop-look.look-iterator) (nothing_left _ _ c.loop-look.look-iterator.rest.ok.0 c.in-None.ensures.steps.0)) c.loop-look.invariant.3

pub returns-clause-each : goal.returns-clause-each
returns-clause-each c = λ other all.
    subst (λ held. AllByRecursion (IsOf other) held) (held_end (kept_of c.loop-look.out) (into_iter_items c.loop-look.look-iterator) (nothing_left _ _ c.loop-look.look-iterator.rest.ok.0 c.in-None.ensures.steps.0)) (c.loop-look.invariant.2 other all)
