-- Looks at a queue, with numbers and without.
use Rattle.std.proofs.Common.{◌≡◌, true, List, [], ◌∷◌, ◌++◌, map, Option, Some, None, refl, sym, ap, ◌∙◌}
use Rattle.std.specs.List.{AllByRecursion}
use Rattle.std.specs.Ordering.{is_lt}
use Rattle.net_base.specs.declared.prefix.Prefix.{Prefix}
use Rattle.net_base.specs.Order.{prefix_cmp}
use Rattle.bgp_wire.specs.declared.open.Encoding.{Encoding}
use Rattle.attr_model.specs.Numbered.{Numbered}
use Rattle.adj_rib_out.specs.declared.look.Look.{Look}
use Rattle.adj_rib_out.specs.Out.{Out, is_queued}
use Rattle.adj_rib_out.specs.Rows.{one_or_none}
use Rattle.adj_rib_out.specs.Looks.{wanted_in}
use Rattle.adj_rib_out.specs.Message.{IsInOrder, FitsAlone}
use Rattle.rde_tables.specs.Wants.{bare, bare_of}

-- ---- one look more

nothing_more : (ones : List Numbered) → ones ++ [] ≡ ones
nothing_more [] = refl
nothing_more (one ∷ rest) = ap (λ (more : List Numbered). one ∷ more) (nothing_more rest)

joined : (xs ys zs : List Numbered) → (xs ++ ys) ++ zs ≡ xs ++ (ys ++ zs)
joined [] ys zs = refl
joined (x ∷ xs) ys zs = ap (λ (more : List Numbered). x ∷ more) (joined xs ys zs)

pub wanted_pushed : (looks : List Look) (look : Look) → wanted_in (looks ++ look ∷ []) ≡ wanted_in looks ++ one_or_none look.wanted
wanted_pushed [] look = nothing_more (one_or_none look.wanted)
wanted_pushed (first ∷ rest) look =
    ap (λ (more : List Numbered). one_or_none first.wanted ++ more) (wanted_pushed rest look) ∙ sym (joined (one_or_none first.wanted) (wanted_in rest) (one_or_none look.wanted))

pub bare_pushed : (looks : List Look) (look : Look) (rest : List Look) → map bare (looks ++ look ∷ []) ++ rest ≡ map bare looks ++ (bare look ∷ rest)
bare_pushed [] look rest = refl
bare_pushed (first ∷ others) look rest = ap (λ (more : List Look). bare first ∷ more) (bare_pushed others look rest)

pub no_rest : (looks : List Look) → looks ++ [] ≡ looks
no_rest [] = refl
no_rest (first ∷ rest) = ap (λ (more : List Look). first ∷ more) (no_rest rest)

-- ---- what is said of looks without numbers holds of the looks

pub all_queued : (out : Out) (looks : List Look) → AllByRecursion (λ (look : Look). is_queued out look.prefix ≡ true) (map bare looks) → AllByRecursion (λ (look : Look). is_queued out look.prefix ≡ true) looks
all_queued out [] all = tt
all_queued out (look ∷ rest) all = (all.0, all_queued out rest all.1)

all_above : (prefix : Prefix) (looks : List Look) → AllByRecursion (λ (other : Look). is_lt (prefix_cmp prefix other.prefix) ≡ true) (map bare looks)
    → AllByRecursion (λ (other : Look). is_lt (prefix_cmp prefix other.prefix) ≡ true) looks
all_above prefix [] all = tt
all_above prefix (look ∷ rest) all = (all.0, all_above prefix rest all.1)

pub in_order : (looks : List Look) → IsInOrder (map bare looks) → IsInOrder looks
in_order [] order = tt
in_order (look ∷ rest) order = (all_above look.prefix rest order.0, in_order rest order.1)

fits_at : (enc : Encoding) (prefix : Prefix) (wanted : Option Numbered) → FitsAlone enc (record { prefix = prefix; wanted = bare_of wanted }) → FitsAlone enc (record { prefix = prefix; wanted = wanted })
fits_at enc prefix None fits = fits
fits_at enc prefix (Some one) fits = fits

pub all_fit : (enc : Encoding) (looks : List Look) → AllByRecursion (FitsAlone enc) (map bare looks) → AllByRecursion (FitsAlone enc) looks
all_fit enc [] all = tt
all_fit enc (look ∷ rest) all = (fits_at enc look.prefix look.wanted all.0, all_fit enc rest all.1)
