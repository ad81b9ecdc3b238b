use Rattle.std.proofs.Common.{◌≡◌, ◌∙◌, true, false, ap, length, drop, arith}
use Rattle.std.specs.Prelude.{nat_eq, slice_index}
use Rattle.std.proofs.lemmas.Bool.Decides.{nat_tests}
use Rattle.bgp_wire.specs.Hearing.{heard_in, nothing}
use Rattle.bgp_wire.proofs.Judging.{lists_filled, lists_unfilled}
use Rattle.bgp_wire.proofs.open.optional.Goals as goal

pub returns-then-from-field : goal.returns-then-from-field
returns-then-from-field c =
    let e : nat_eq (slice_index c.args.body.now 9) (length (drop 10 c.args.body.now)) ≡ false = grind (arith, nat_tests) in
    lists_unfilled c.args.body.now e

pub returns : goal.returns
returns c =
    let e : nat_eq (slice_index c.args.body.now 9) (length (drop 10 c.args.body.now)) ≡ true = grind (arith, nat_tests) in
    c.hear.ensures ∙ ap (heard_in nothing) c.split_at.ensures.back ∙ lists_filled c.args.body.now e
