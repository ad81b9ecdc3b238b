use Rattle.std.proofs.Common.{◌+◌, true, false, if◌then◌else◌, refl, sym, ap, ◌∙◌, subst, true≢false}
use Rattle.std.specs.Prelude.{option_map}
use Rattle.std.specs.List.{AllByRecursion}
use Rattle.attr_intern.specs.Table.{IsOf, times}
use Rattle.adj_rib_out.specs.Rows.{one_or_none}
use Rattle.adj_rib_out.specs.Message.{joined, with_prefix}
use Rattle.adj_rib_out.specs.Packed.{message_in}
use Rattle.adj_rib_out.proofs.Uses.{room_less}
use Rattle.adj_rib_out.proofs.Settling.{looked, left_false}
use Rattle.adj_rib_out.proofs.building.settle_look.Goals as goal

pub tell-requires : goal.tell-requires
tell-requires c = c.requires.queued

pub returns-then-takes-clause-message : goal.returns-then-takes-clause-message
returns-then-takes-clause-message c =
    c.takes.ensures.message ∙ ap (λ b. if b then option_map (with_prefix c.args.look.prefix) (message_in c.args.packing.now) else message_in c.args.packing.now) c.if-takes.true
    ∙ sym (looked c.args.out.now (message_in c.args.packing.now) c.args.look true true (sym c.has_news.ensures ∙ c.if-has_news.true) (sym c.takes.ensures.value ∙ c.if-takes.true))

pub returns-then-takes-clause-room : goal.returns-then-takes-clause-room
returns-then-takes-clause-room c = c.takes.ensures.room

pub returns-then-takes-clause-as_told : goal.returns-then-takes-clause-as_told
returns-then-takes-clause-as_told c = λ stale. absurd (true≢false (sym (sym c.has_news.ensures ∙ c.if-has_news.true) ∙ stale))

pub returns-then-takes-clause-stays : goal.returns-then-takes-clause-stays
returns-then-takes-clause-stays c = λ news stays. absurd (true≢false (sym (sym c.takes.ensures.value ∙ c.if-takes.true) ∙ stays))

pub returns-then-takes-clause-told : goal.returns-then-takes-clause-told
returns-then-takes-clause-told c = λ news joins. record { told = c.tell.ensures.told; queued = c.tell.ensures.queued; again = c.tell.ensures.again; flight = c.tell.ensures.flight }

pub returns-then-takes-clause-uses : goal.returns-then-takes-clause-uses
returns-then-takes-clause-uses c = c.tell.ensures.uses

pub returns-then-takes-clause-each : goal.returns-then-takes-clause-each
returns-then-takes-clause-each c = c.tell.ensures.each

pub returns-then-takes-clause-gone : goal.returns-then-takes-clause-gone
returns-then-takes-clause-gone c = λ table kept wanted. c.tell.ensures.gone table kept

pub returns-else-takes-clause-message : goal.returns-else-takes-clause-message
returns-else-takes-clause-message c =
    c.takes.ensures.message ∙ ap (λ b. if b then option_map (with_prefix c.args.look.prefix) (message_in c.args.packing.now) else message_in c.args.packing.now) c.if-takes.false
    ∙ sym (looked c.args.out.now (message_in c.args.packing.now) c.args.look true false (sym c.has_news.ensures ∙ c.if-has_news.true) (sym c.takes.ensures.value ∙ c.if-takes.false))

pub returns-else-takes-clause-room : goal.returns-else-takes-clause-room
returns-else-takes-clause-room c = c.takes.ensures.room

pub returns-else-takes-clause-as_told : goal.returns-else-takes-clause-as_told
returns-else-takes-clause-as_told c = λ stale. absurd (true≢false (sym (sym c.has_news.ensures ∙ c.if-has_news.true) ∙ stale))

pub returns-else-takes-clause-stays : goal.returns-else-takes-clause-stays
returns-else-takes-clause-stays c = λ news stays. refl

pub returns-else-takes-clause-told : goal.returns-else-takes-clause-told
returns-else-takes-clause-told c = λ news joins. absurd (true≢false (sym joins ∙ (sym c.takes.ensures.value ∙ c.if-takes.false)))

pub returns-else-takes-clause-uses : goal.returns-else-takes-clause-uses
returns-else-takes-clause-uses c = λ number. refl

pub returns-else-takes-clause-each : goal.returns-else-takes-clause-each
returns-else-takes-clause-each c = λ table kept wanted. kept

pub returns-else-takes-clause-gone : goal.returns-else-takes-clause-gone
returns-else-takes-clause-gone c = λ table kept wanted. wanted

pub pass-requires : goal.pass-requires
pass-requires c = left_false _ _ (sym c.has_news.ensures ∙ c.if-has_news.false)

pub returns-else-has_news-clause-message : goal.returns-else-has_news-clause-message
returns-else-has_news-clause-message c =
    sym (looked c.args.out.now (message_in c.args.packing.now) c.args.look false (joined (message_in c.args.packing.now) c.args.look) (sym c.has_news.ensures ∙ c.if-has_news.false) refl)

pub returns-else-has_news-clause-room : goal.returns-else-has_news-clause-room
returns-else-has_news-clause-room c = λ left some. room_less c.args.packing.now left some

pub returns-else-has_news-clause-as_told : goal.returns-else-has_news-clause-as_told
returns-else-has_news-clause-as_told c = λ stale. record { told = c.pass.ensures.told; queued = c.pass.ensures.queued; again = c.pass.ensures.again; flight = c.pass.ensures.flight }

pub returns-else-has_news-clause-stays : goal.returns-else-has_news-clause-stays
returns-else-has_news-clause-stays c = λ news stays. absurd (true≢false (sym news ∙ (sym c.has_news.ensures ∙ c.if-has_news.false)))

pub returns-else-has_news-clause-told : goal.returns-else-has_news-clause-told
returns-else-has_news-clause-told c = λ news joins. absurd (true≢false (sym news ∙ (sym c.has_news.ensures ∙ c.if-has_news.false)))

pub returns-else-has_news-clause-uses : goal.returns-else-has_news-clause-uses
returns-else-has_news-clause-uses c = λ number. ap (λ ones. times number ones + times number (one_or_none c.args.look.wanted)) c.pass.ensures.kept

pub returns-else-has_news-clause-each : goal.returns-else-has_news-clause-each
returns-else-has_news-clause-each c = λ table kept wanted. subst (AllByRecursion (IsOf table)) (sym c.pass.ensures.kept) kept

pub returns-else-has_news-clause-gone : goal.returns-else-has_news-clause-gone
returns-else-has_news-clause-gone c = λ table kept wanted. wanted
