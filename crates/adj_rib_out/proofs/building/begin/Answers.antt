use Rattle.std.proofs.Common.{Option, Some, [], sym, ap, ◌∙◌, subst, arith}
use Rattle.std.specs.Prelude.{option_map}
use Rattle.attr_model.specs.Numbered.{Numbered}
use Rattle.attr_intern.specs.Table.{IsOf, Hands}
use Rattle.adj_rib_out.specs.Rows.{one_or_none}
use Rattle.adj_rib_out.specs.Message.{Message, has_news, begun}
use Rattle.adj_rib_out.proofs.Uses.{times-none}
use Rattle.adj_rib_out.proofs.Messages.{first_wanted}
use Rattle.adj_rib_out.proofs.building.begin.Goals as goal

pub returns-in_default-clause-message : goal.returns-in_default-clause-message
returns-in_default-clause-message c = ap (option_map (begun c.args.enc)) c.in_default.ensures

pub returns-in_default-clause-hands : goal.returns-in_default-clause-hands
returns-in_default-clause-hands c = record { each = tt; uses = λ number. omega (arith, times-none number); stays = λ number attrs is. is }

pub again-requires : goal.again-requires
again-requires c = first_wanted (IsOf c.args.table.now) (has_news c.args.out.now) c.args.looks.now c.in-Some.first.now (sym c.in-Some.ensures) c.requires

pub returns-clause-message : goal.returns-clause-message
returns-clause-message c =
    ap Some (c.begin.ensures.message ∙ (λ i. record { enc = c.args.enc; family = c.in-Some.first.now.prefix.family; wanted = c.in_ok-wanted.ensures.same i; prefixes = [] }))
    ∙ ap (option_map (begun c.args.enc)) c.in-Some.ensures

pub returns-clause-hands : goal.returns-clause-hands
returns-clause-hands c =
    subst (λ (wanted : Option Numbered). Hands c.args.table.now c.again.new.table (one_or_none wanted)) (sym (ap (λ (m : Message). m.wanted) c.begin.ensures.message)) c.in_ok-wanted.ensures.hands
