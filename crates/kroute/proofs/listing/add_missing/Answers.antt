use Rattle.std.proofs.Common.{◌≡◌, ◌&&◌, ◌||◌, Bool, true, not, is_some, subst, sym, ap, ◌∙◌}
use Rattle.net_base.specs.declared.prefix.Prefix.{Prefix}
use Rattle.net_base.specs.PrefixSet.{is_in}
use Rattle.kroute.specs.Phases.{row_at}
use Rattle.kroute.specs.Rows.{Rows}
use Rattle.kroute.proofs.Steps.{one_more, in_order_added}
use Rattle.kroute.proofs.listing.add_missing.Goals as goal

pub loop-prefix-preserved-in-Continue-1 : goal.loop-prefix-preserved-in-Continue-1
loop-prefix-preserved-in-Continue-1 c =
    let keep : Prefix → Bool = λ q. not (is_in c.args.known.now q) in
    let all : Prefix → Bool = λ q. is_in c.args.job.now q || (is_some (row_at c.into_iter-prefix-iterator.result q) && keep q) in
    let missing : keep c.in-Some.prefix.now ≡ true = ap not (sym c.has.ensures.value ∙ c.if-not-has.true) in (
      one_more keep c.loop-prefix.job c.add.new.self c.in-Some.prefix.now c.in-Some.field-0-1.now c.next.new.self all c.in_ok-add.ensures.members missing
          (subst (λ (rows : Rows). (q : Prefix) → (is_in c.loop-prefix.job q || (is_some (row_at rows q) && keep q)) ≡ all q) c.in-Some.ensures.steps c.loop-prefix.invariant.0),
      λ order. in_order_added c.loop-prefix.job c.add.new.self c.in-Some.prefix.now c.in_ok-add.ensures.ok (c.loop-prefix.invariant.1 order),
    )
