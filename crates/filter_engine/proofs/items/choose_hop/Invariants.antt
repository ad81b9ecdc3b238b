use Rattle.std.proofs.Common.{◌≡◌, drop}
use Rattle.filter_engine.specs.Items.{hop_with_items}
use Rattle.filter_engine.proofs.items.choose_hop.Given as goal

abbrev pub invariant-loop-item : goal.invariant-loop-item
invariant-loop-item l = hop_with_items l.context l.chosen (drop l.item-index l.item-items) ≡ hop_with_items l.context l.initial.chosen l.item-items
