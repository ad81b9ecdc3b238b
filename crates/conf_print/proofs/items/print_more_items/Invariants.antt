use Rattle.std.proofs.Common.{◌≡◌, ◌++◌, drop, flat_map, codes}
use Rattle.conf_tree.specs.Canonical.{item_text}
use Rattle.conf_print.proofs.items.print_more_items.Given as goal

-- the text so far, followed by what is to come, is the whole
abbrev pub invariant-loop-item : goal.invariant-loop-item
invariant-loop-item l = l.text ++ flat_map (λ item. codes ", " ++ item_text item) (drop l.item-index l.items) ≡ l.fn.text ++ flat_map (λ item. codes ", " ++ item_text item) l.items
