use Rattle.std.proofs.Common.{◌≡◌, Bool, true, ◌&&◌, find, filter, ap, subst, ◌∙◌}
use Rattle.std.specs.Ordering.{is_le}
use Rattle.std.specs.declared.cmp.Ordering.{Ordering}
use Rattle.net_base.specs.declared.prefix.Prefix.{Prefix}
use Rattle.net_base.specs.Order.{prefix_cmp}
use Rattle.net_base.proofs.FirstFrom.{first_found, from_start}
use Rattle.net_base.proofs.Order.{derived_prefix_cmp}
use Rattle.net_base.proofs.prefix_set.PrefixSet.first_from.Goals as goal

pub returns : goal.returns
returns c =
    let keys = c.self.inside.prefixes.keys in
    let Between : (Prefix → Prefix → Ordering) → Type 0 = λ order. c.range.result ≡ filter (λ p. is_le (order c.args.from p) && true) keys in
    let between : Between prefix_cmp = subst Between derived_prefix_cmp (c.range.ensures.between tt) in
    let not_below : Prefix → Bool = λ p. is_le (prefix_cmp c.args.from p) in
    let first = first_found (λ p. not_below p && true) not_below (λ p. from_start (not_below p)) c.next.result c.next.new.self keys c.range.result between c.next.ensures.steps in
    c.copied.ensures ∙ first ∙ ap (find not_below) c.self.view_is
