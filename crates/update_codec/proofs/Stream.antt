-- The messages of some bytes, one after the other.
use Rattle.std.proofs.Common.{◌≡◌, ◌∙◌, List, ◌∷◌, flat_map, fold, ap, sym}
use Rattle.std.proofs.lemmas.List.Sums.{fold-append}
use Rattle.bgp_wire.specs.declared.open.Encoding.{Encoding}
use Rattle.bgp_wire.specs.Message.{Message}
use Rattle.attr_model.specs.Routes.{RouteTable}
use Rattle.update_codec.specs.Held.{with_update, updates_in, told_from}

-- one message more was taken
pub one_more : (enc : Encoding) (routes : RouteTable) (left rest : List Message) (m : Message) → left ≡ m ∷ rest → told_from enc (fold with_update routes (updates_in enc m)) rest ≡ told_from enc routes left
one_more enc routes left rest m e = sym (ap (told_from enc routes) e ∙ fold-append with_update routes (updates_in enc m) (flat_map (updates_in enc) rest))
