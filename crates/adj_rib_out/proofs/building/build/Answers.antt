use Rattle.std.proofs.Common.{◌≡◌, ◌++◌, Bool, List, Option, sym, ap, ◌∙◌, subst}
use Rattle.std.specs.Prelude.{fold, find, option_map}
use Rattle.std.specs.List.{AllByRecursion}
use Rattle.bgp_wire.specs.declared.open.Encoding.{Encoding}
use Rattle.adj_rib_out.specs.declared.look.Look.{Look}
use Rattle.attr_model.specs.Numbered.{Numbered}
use Rattle.attr_intern.specs.Table.{Table, IsOf, CameFrom}
use Rattle.adj_rib_out.specs.Rows.{one_or_none}
use Rattle.adj_rib_out.specs.Out.{kept_of}
use Rattle.adj_rib_out.specs.Uses.{Moves}
use Rattle.adj_rib_out.specs.Message.{Message, has_news, begun, with_look, built_of, prefixes_of, wanted_of}
use Rattle.adj_rib_out.specs.Packed.{message_in}
use Rattle.adj_rib_out.specs.Looks.{wanted_in, used_by}
use Rattle.adj_rib_out.specs.Tells.{FitsIn, Tells}
use Rattle.adj_rib_out.proofs.Kept.{all-append, all-back}
use Rattle.adj_rib_out.proofs.Uses.{came_still, came_back, hands_moves, moves_beside}
use Rattle.adj_rib_out.proofs.Messages.{start_fits, start_none, start_wanted, wanted_fold, used_is}
use Rattle.adj_rib_out.proofs.building.build.Goals as goal

ones_of : (table : Table) (kept : List Numbered) (test : Look → Bool) (enc : Encoding) (looks : List Look) (message : Option Message) → message ≡ option_map (begun enc) (find test looks) → CameFrom table (kept ++ wanted_in looks)
    → AllByRecursion (IsOf table) (one_or_none (wanted_of message))
ones_of table kept test enc looks message is came =
    subst (λ message. AllByRecursion (IsOf table) (one_or_none (wanted_of message))) (sym is) (start_wanted (IsOf table) test enc looks (all-back (IsOf table) kept (wanted_in looks) came.each))

pub begin-requires : goal.begin-requires
begin-requires c = subst (λ looks. AllByRecursion (IsOf c.args.table.now) (wanted_in looks)) (sym c.as_slice.ensures) (all-back (IsOf c.args.table.now) (kept_of c.args.out.now) (wanted_in c.args.looks) c.requires.came.each)

pub finish-requires-clause-fits : goal.finish-requires-clause-fits
finish-requires-clause-fits c = subst FitsIn (sym (c.in-Ok.ensures.message ∙ ap (λ looks. option_map (begun c.args.enc) (find (has_news c.args.out.now) looks)) c.as_slice.ensures)) (start_fits (has_news c.args.out.now) c.args.enc c.args.looks c.requires.alone)

pub finish-requires-clause-none : goal.finish-requires-clause-none
finish-requires-clause-none c = ap prefixes_of (c.in-Ok.ensures.message ∙ ap (λ looks. option_map (begun c.args.enc) (find (has_news c.args.out.now) looks)) c.as_slice.ensures) ∙ start_none c.args.enc (find (has_news c.args.out.now) c.args.looks)

pub finish-requires-clause-came : goal.finish-requires-clause-came
finish-requires-clause-came c =
    came_still c.args.table.now c.begin.new.table (one_or_none (wanted_of (message_in c.in-Ok.packing))) (kept_of c.args.out.now ++ wanted_in c.args.looks)
    (ones_of c.args.table.now (kept_of c.args.out.now) (has_news c.args.out.now) c.args.enc c.args.looks (message_in c.in-Ok.packing) (c.in-Ok.ensures.message ∙ ap (λ looks. option_map (begun c.args.enc) (find (has_news c.args.out.now) looks)) c.as_slice.ensures) c.requires.came)
    c.in-Ok.ensures.hands c.requires.came

pub finish-requires-clause-wanted : goal.finish-requires-clause-wanted
finish-requires-clause-wanted c = c.in-Ok.ensures.hands.each

pub give_back_all-requires : goal.give_back_all-requires
give_back_all-requires c = subst (λ (table : Table). CameFrom table (wanted_in c.args.looks)) (sym c.in-Err.ensures.err) (came_back c.args.table.now (kept_of c.args.out.now) (wanted_in c.args.looks) c.requires.came)

pub returns-in-Ok-clause-tells : goal.returns-in-Ok-clause-tells
returns-in-Ok-clause-tells c = subst (λ message. Tells (fold (with_look c.args.out.now) message c.args.looks) c.args.looks c.args.out.now c.finish.new.out) (c.in-Ok.ensures.message ∙ ap (λ looks. option_map (begun c.args.enc) (find (has_news c.args.out.now) looks)) c.as_slice.ensures) c.finish.ensures.tells

pub returns-in-Ok-clause-built : goal.returns-in-Ok-clause-built
returns-in-Ok-clause-built c = c.finish.ensures.built ∙ ap (λ message. option_map built_of (fold (with_look c.args.out.now) message c.args.looks)) (c.in-Ok.ensures.message ∙ ap (λ looks. option_map (begun c.args.enc) (find (has_news c.args.out.now) looks)) c.as_slice.ensures)

pub returns-in-Ok-clause-moves : goal.returns-in-Ok-clause-moves
returns-in-Ok-clause-moves c =
    let message = message_in c.in-Ok.packing in
    let ones = one_or_none (wanted_of message) in
    let used : used_by c.finish.result ≡ ones =
    ap used_by c.finish.ensures.built ∙ used_is (fold (with_look c.args.out.now) message c.args.looks) ∙ ap one_or_none (wanted_fold c.args.out.now message c.args.looks) in
    let before = kept_of c.args.out.now ++ wanted_in c.args.looks in
    subst (λ used. Moves c.args.table.now c.finish.new.table before (kept_of c.finish.new.out ++ used)) (sym used)
    (hands_moves c.args.table.now c.begin.new.table c.finish.new.table ones before (kept_of c.finish.new.out)
    (ones_of c.args.table.now (kept_of c.args.out.now) (has_news c.args.out.now) c.args.enc c.args.looks message (c.in-Ok.ensures.message ∙ ap (λ looks. option_map (begun c.args.enc) (find (has_news c.args.out.now) looks)) c.as_slice.ensures) c.requires.came)
    c.in-Ok.ensures.hands c.finish.ensures.less c.finish.ensures.moves)

pub returns-in-Ok-clause-each : goal.returns-in-Ok-clause-each
returns-in-Ok-clause-each c =
    let message = message_in c.in-Ok.packing in
    let ones = one_or_none (wanted_of message) in
    let used : used_by c.finish.result ≡ ones =
    ap used_by c.finish.ensures.built ∙ used_is (fold (with_look c.args.out.now) message c.args.looks) ∙ ap one_or_none (wanted_fold c.args.out.now message c.args.looks) in
    subst (λ used. AllByRecursion (IsOf c.args.table.now) (kept_of c.finish.new.out ++ used)) (sym used)
    (all-append (IsOf c.args.table.now) (kept_of c.finish.new.out) ones (c.finish.ensures.each c.args.table.now c.requires.came.each)
    (ones_of c.args.table.now (kept_of c.args.out.now) (has_news c.args.out.now) c.args.enc c.args.looks message (c.in-Ok.ensures.message ∙ ap (λ looks. option_map (begun c.args.enc) (find (has_news c.args.out.now) looks)) c.as_slice.ensures) c.requires.came))

pub returns-in-Err-clause-back : goal.returns-in-Err-clause-back
returns-in-Err-clause-back c =
    subst (λ (table : Table). Moves table c.give_back_all.new.table (kept_of c.args.out.now ++ wanted_in c.args.looks) (kept_of c.args.out.now)) c.in-Err.ensures.err
    (moves_beside c.begin.new.table c.give_back_all.new.table (kept_of c.args.out.now) (wanted_in c.args.looks) c.give_back_all.ensures)
