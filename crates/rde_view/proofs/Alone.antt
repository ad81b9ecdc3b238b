-- What a session is told of a prefix fits with it into one message.
use Rattle.std.proofs.Common.{◌≡◌, ℕ, ◌+◌, ◌/◌, ◌≤◌, nat_le, nat_lt, Bool, true, false, cond, List, [], ◌∷◌, ◌++◌, length, take, min, Option, Some, None, IfSome, refl, sym, ap, subst, ◌∙◌, arith}
use Rattle.std.specs.Prelude.{option_and_then, option_map}
use Rattle.std.proofs.lemmas.Bool.{leb-true, ltb-true}
use Rattle.std.proofs.lemmas.List.{append-nil, length-take}
use Rattle.byteorder.specs.Numbers.{length-bytes_high_first}
use Rattle.net_base.specs.declared.addr.Family.{Family}
use Rattle.net_base.specs.declared.addr.Family.TheVariants.{V4, V6}
use Rattle.net_base.specs.declared.prefix.Prefix.{Prefix}
use Rattle.bgp_wire.specs.declared.open.Encoding.{Encoding}
use Rattle.bgp_wire.specs.declared.open.OpenFacts.{OpenFacts}
use Rattle.attr_model.specs.declared.attrs.Attrs.{Attrs}
use Rattle.attr_model.specs.Numbered.{Numbered}
use Rattle.attr_codec.specs.Prefixes.{addr_bytes, octet_count, prefix_bytes, prefixes_bytes}
use Rattle.attr_codec.specs.Size.{attribute_size, update_size}
use Rattle.adj_rib_out.specs.Message.{FitsAlone, told_size}
use Rattle.conf_tree.specs.declared.conf.Conf.{Conf}
use Rattle.conf_tree.specs.declared.neighbour.Neighbour.{Neighbour}
use Rattle.decision.specs.declared.candidate.Candidate.{Candidate}
use Rattle.filter_engine.specs.declared.verdict.Hop.{Hop}
use Rattle.route_world.specs.World.{neighbour_at}
use Rattle.filter_engine.specs.Verdict.{verdict}
use Rattle.route_world.specs.Export.{as_told, export, export_context, if_it_fits, is_kept_back, told_if_it_fits, without_med}
use Rattle.rde_tables.specs.declared.outcome.Want.{Want}
use Rattle.rde_tables.specs.Wants.{look_of, unnumbered}
use Rattle.rde_view.specs.declared.live.Live.{Live}
use Rattle.rde_view.specs.View.{ViewState, facts_of, told_by}

-- ---- what is announced

abbrev Fits : Encoding → Prefix → Attrs → Type 0
Fits enc prefix attrs = update_size enc attrs (length (prefix_bytes prefix)) ≤ 4096

behind : {X : Type 0} (P : Attrs → Type 0) (f : X → Option Attrs) → ((x : X) → IfSome (f x) P) → (o : Option X) → IfSome (option_and_then f o) P
behind P f each None = tt
behind P f each (Some x) = each x

unless : (P : Attrs → Type 0) (b : Bool) (o : Option Attrs) → IfSome o P → IfSome (cond b None o) P
unless P true o there = tt
unless P false o there = there

fits_or_none : (enc : Encoding) (prefix : Prefix) (attrs : Attrs) → IfSome (if_it_fits enc prefix attrs) (Fits enc prefix)
fits_or_none enc prefix attrs = go (nat_le (update_size enc attrs (length (prefix_bytes prefix))) 4096) refl
  where
    go : (b : Bool) → nat_le (update_size enc attrs (length (prefix_bytes prefix))) 4096 ≡ b → IfSome (cond b (Some attrs) None) (Fits enc prefix)
    go true e = leb-true _ _ e
    go false e = tt

export_fits : (conf : Conf) (facts : OpenFacts) (neighbour : Neighbour) (prefix : Prefix) (best : Candidate) → IfSome (export conf facts neighbour prefix best) (Fits facts.encoding prefix)
unfolding export
export_fits conf facts neighbour prefix best =
    let fits = Fits facts.encoding prefix in
    let said = verdict conf conf.rules (export_context conf facts neighbour prefix) (without_med facts.encoding.external best.from best.attrs.attrs) in
    let told = option_and_then (told_if_it_fits conf facts neighbour prefix) said in
    unless fits (is_kept_back facts.encoding neighbour prefix best) told
    (behind fits (told_if_it_fits conf facts neighbour prefix)
    (λ passed. behind fits (if_it_fits facts.encoding prefix) (fits_or_none facts.encoding prefix) (as_told conf facts neighbour prefix passed)) said)

told_fits : (view : ViewState) (live : Live) (prefix : Prefix) (best : Option Candidate) → IfSome (told_by view live prefix best) (Fits (facts_of view.conf.asn live).encoding prefix)
told_fits view live prefix best =
    let facts = facts_of view.conf.asn live in
    behind (Fits facts.encoding prefix) (λ (candidate : Candidate). option_and_then (λ neighbour. export view.conf facts neighbour prefix candidate) (neighbour_at view.conf live.peer))
    (λ candidate. behind (Fits facts.encoding prefix) (λ (neighbour : Neighbour). export view.conf facts neighbour prefix candidate) (λ neighbour. export_fits view.conf facts neighbour prefix candidate) (neighbour_at view.conf live.peer)) best

-- ---- what is withdrawn

few_octets : (family : Family) (n bits : ℕ) → length (take n (addr_bytes family bits)) ≤ 16
few_octets V4 n bits = omega (arith, length-take n (addr_bytes V4 bits), length-bytes_high_first 4 bits)
few_octets V6 n bits = omega (arith, length-take n (addr_bytes V6 bits), length-bytes_high_first 16 bits)

few_bytes : (prefix : Prefix) → length (prefix_bytes prefix) ≤ 17
few_bytes prefix = omega (arith, few_octets prefix.family ((prefix.len + 7) / 8) prefix.bits)

short : (n : ℕ) → n ≤ 20 → attribute_size n ≤ 24
short n le = go (nat_lt 255 n) refl
  where
    go : (b : Bool) → nat_lt 255 n ≡ b → cond b (4 + n) (3 + n) ≤ 24
    go true e = omega (arith, le)
    go false e = omega (arith, le)

withdrawal_fits : (enc : Encoding) (family : Family) (n : ℕ) → n ≤ 17 → told_size enc family None n ≤ 4096
withdrawal_fits enc V4 n le = omega (arith, le)
withdrawal_fits enc V6 n le = omega (arith, le, short (3 + n) (omega (arith, le)))

-- ---- both

of_one : (prefix : Prefix) → length (prefixes_bytes ([] ++ prefix ∷ [])) ≡ length (prefix_bytes prefix)
of_one prefix = ap (λ bytes. length bytes) (append-nil (prefix_bytes prefix))

size_fits : (enc : Encoding) (prefix : Prefix) (attrs : Option Attrs) → IfSome attrs (Fits enc prefix) → told_size enc prefix.family (unnumbered attrs) (length (prefix_bytes prefix)) ≤ 4096
size_fits enc prefix None fits = withdrawal_fits enc prefix.family (length (prefix_bytes prefix)) (few_bytes prefix)
size_fits enc prefix (Some attrs) fits = fits

pub want_fits : (view : ViewState) (live : Live) (prefix : Prefix) (best : Option Candidate) (want : Want) → want.prefix ≡ prefix → want.attrs ≡ told_by view live prefix best
    → FitsAlone (facts_of view.conf.asn live).encoding (look_of want)
want_fits view live prefix best want at is =
    let enc = (facts_of view.conf.asn live).encoding in
    let fits = subst (λ o. IfSome o (Fits enc prefix)) (sym is) (told_fits view live prefix best) in
    let there = subst (λ p. IfSome want.attrs (Fits enc p)) (sym at) fits in
    subst (λ n. told_size enc want.prefix.family (unnumbered want.attrs) n ≤ 4096) (sym (of_one want.prefix)) (size_fits enc want.prefix want.attrs there)
