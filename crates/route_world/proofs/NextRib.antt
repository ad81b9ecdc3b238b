-- The attributes of one RIB more.
use Rattle.std.proofs.Common.{◌≡◌, ℕ, suc, ◌+◌, List, [], ◌∷◌, ◌++◌, refl, ap, ◌∙◌, arith}
use Rattle.std.specs.List.{flat_map}
use Rattle.std.proofs.lemmas.Grind.{flat_map-append}
use Rattle.std.proofs.lemmas.List.{append-nil}
use Rattle.net_base.specs.declared.prefix.Prefix.{Prefix}
use Rattle.attr_model.specs.declared.attrs.Attrs.{Attrs}
use Rattle.route_world.specs.declared.world.World.{World}
use Rattle.route_world.specs.Loc.{below, rib_at}

below_next : (n : ℕ) → below (n + 1) ≡ below n ++ (n ∷ [])
below_next n =
    let more : n + 1 ≡ suc n = omega arith in
    ap below more

pub with_next : (world : World) (prefix : Prefix) (rib : ℕ) → flat_map (rib_at world prefix) (below (rib + 1)) ≡ flat_map (rib_at world prefix) (below rib) ++ rib_at world prefix rib
with_next world prefix rib =
    let at = rib_at world prefix in
    ap (flat_map at) (below_next rib)
    ∙ flat_map-append at (below rib) (rib ∷ [])
    ∙ ap (λ (last : List Attrs). flat_map at (below rib) ++ last) (append-nil (at rib))
