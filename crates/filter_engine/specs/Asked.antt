-- The answers that an evaluation keeps are those of the sets.
use Rattle.std.specs.Prelude.{◌≡◌, ℕ, Bool, Option, Some, None}
use Rattle.std.specs.List.{All}
use Rattle.net_base.specs.declared.prefix.Prefix.{Prefix}
use Rattle.net_base.specs.declared.roa.Ovs.{Ovs}
use Rattle.net_base.specs.Roa.{origin_validation}
use Rattle.conf_tree.specs.declared.conf.Conf.{Conf}
use Rattle.conf_tree.specs.declared.sets.SetKind.TheVariants as kinds
use Rattle.conf_tree.specs.Membership.{in_origin_set}
use Rattle.filter_engine.specs.declared.context.Context.{Context}
use Rattle.filter_engine.specs.declared.asked.Asked.{Asked}

abbrev pub IsSaid : Conf → Prefix → Option ℕ → Option Ovs → Type 0
IsSaid conf prefix origin None = Unit {0}
IsSaid conf prefix origin (Some said) = said ≡ origin_validation conf.roas prefix origin

abbrev pub IsTold : Conf → Prefix → Option ℕ → Option (ℕ × Bool) → Type 0
IsTold conf prefix origin None = Unit {0}
IsTold conf prefix origin (Some (at, said)) = said ≡ in_origin_set conf (record { kind = kinds.Origin; at = at }) prefix origin

pub record AreRight (conf : Conf) (context : Context) (origin : Option ℕ) (asked : Asked) : Type 0 where
  pub ovs : IsSaid conf context.prefix origin asked.ovs
  pub origin_sets : All (IsTold conf context.prefix origin) asked.origin_sets
