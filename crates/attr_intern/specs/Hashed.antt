-- The hash of attributes.
use Rattle.std.specs.Prelude.{ℕ, fold}
use Rattle.std.specs.Hash.FoldHasher as folding
use Rattle.attr_model.specs.declared.attrs.Attrs.{Attrs}
use Rattle.attr_model.specs.contracts.attrs.AttrsHash.TheImpl.{hash_input-value as attrs_input}

-- the hash of all fields, one after another
unfoldable pub hash_of : Attrs → ℕ
hash_of attrs = folding.finish (fold folding.write folding.initial (attrs_input.it attrs))
