use Rattle.std.proofs.Common.{ℕ, List, [], ◌∷◌, ◌++◌, ap, ◌∙◌}
use Rattle.byteorder.specs.Endian.{big_bytes}
use Rattle.attr_codec.proofs.Appends.{two}
use Rattle.attr_codec.proofs.put_prefixes.put_hop.Goals as goal

pub returns-clause-ok : goal.returns-clause-ok
returns-clause-ok c =
    two c.args.out.now (0 ∷ 2 ∷ 1 ∷ 16 ∷ []) (big_bytes 16 c.args.hop.bits) c.push.new.self c.push-2.new.self c.in_ok-push.ensures.ok
    (c.in_ok-push-2.ensures.ok ∙ ap (λ (l : List ℕ). c.push.new.self ++ l) c.to_be_bytes.ensures)
