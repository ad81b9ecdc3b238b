use Rattle.std.proofs.Common.{ap, ◌∙◌}
use Rattle.attr_intern.specs.Hashed.{hash_of}
use Rattle.attr_intern.proofs.Equal.{differ_as_hashes}
use Rattle.attr_intern.proofs.hashed.HashedPartialEq.eq.Goals as goal

pub returns-else-self-other : goal.returns-else-self-other
returns-else-self-other c = differ_as_hashes c.args.self.now c.args.other.now _ _ (c.self.invariant ∙ ap hash_of c.self.view_is) (c.other.invariant ∙ ap hash_of c.other.view_is) c.if-self-other.false
