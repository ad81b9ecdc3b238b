-- The globals and the lists of a canonical text are those of its configuration.
use Rattle.std.proofs.Common.{◌≡◌, ◌∙◌, ℕ, Bool, true, false, List, [], ◌∷◌, map, filter, flat_map, refl, ap, map-id, append-nil}
use Rattle.std.specs.Prelude.{unwrap_or}
use Rattle.std.specs.List.Sorted.{IsStrictlySortedBy}
use Rattle.std.specs.Ordering.{nat_cmp}
use Rattle.std.specs.declared.cmp.Ordering.{Ordering}
use Rattle.std.specs.Cmp.{IsTotalOrder}
use Rattle.std.specs.Cmp.Lexicographic.{nat_list_cmp_total}
use Rattle.std.proofs.lemmas.Cmp.{nat_cmp_total, on_total, then_total}
use Rattle.net_base.specs.declared.roa.Roa.{Roa}
use Rattle.net_base.specs.Order.{prefix_cmp}
use Rattle.net_base.proofs.Order.{prefix_cmp-total}
use Rattle.conf_tree.specs.declared.conf.Conf.{Conf}
use Rattle.conf_tree.specs.declared.conf.Network.{Network}
use Rattle.conf_tree.specs.declared.sets.AsSetConf.{AsSetConf}
use Rattle.conf_tree.specs.declared.sets.OriginSetConf.{OriginSetConf}
use Rattle.conf_tree.specs.declared.sets.PrefixRange.{PrefixRange}
use Rattle.conf_tree.specs.declared.sets.PrefixSetConf.{PrefixSetConf}
use Rattle.conf_tree.specs.Canonical.{is_alone, group_names}
use Rattle.conf_tree.specs.Said.{last, roas_of}
use Rattle.conf_tree.specs.Flat.{text_cmp, range_cmp, roa_cmp, in_order, by_key, default_socket, prefix_sets_of, as_sets_of, origin_sets_of, roas_said, networks_of, frame_of}
use Rattle.conf_tree.specs.Readable.{Each}
use Rattle.conf_tree.specs.Settled.{IsSettled}
use Rattle.conf_tree.specs.CanonicalDraft.{listen_unit, rib_unit, prefix_set_unit, as_set_unit, origin_set_unit, roa_units, network_unit, neighbour_unit, group_unit, rule_unit, qualify_units}
use Rattle.conf_back.proofs.Framed.{framed, lines_back}
use Rattle.conf_back.proofs.Told.{Tells, nothing, none_tell, Parts, all_told}
use Rattle.conf_back.proofs.Selected.{if_true, as_said, router_id_said, hold_said, hold_min_said, fib_update_said, qualify_said, med_always_said, socket_said, listens_said, ribs_said, prefix_sets_said, as_sets_said, origin_sets_said, networks_said}
use Rattle.conf_back.proofs.InOrder.{order_stays, things_stay}

-- ---- orders

range_cmp-total : IsTotalOrder range_cmp
range_cmp-total = then_total (on_total (λ (r : PrefixRange). r.prefix) prefix_cmp-total) (then_total (on_total (λ (r : PrefixRange). r.low) nat_cmp_total) (on_total (λ (r : PrefixRange). r.high) nat_cmp_total))

roa_cmp-total : IsTotalOrder roa_cmp
roa_cmp-total = then_total (on_total (λ (r : Roa). r.prefix) prefix_cmp-total) (then_total (on_total (λ (r : Roa). r.maxlen) nat_cmp_total) (on_total (λ (r : Roa). r.source) nat_cmp_total))

-- ---- lists

-- sets whose entries are in order
entries_stay : {S A : Type 0} (R : A → A → Ordering) → IsTotalOrder R → (name : S → List ℕ) (entries : S → List A) (sets : List S) → Each (λ s. IsStrictlySortedBy R (entries s)) sets
    → map {A = List ℕ × List A} {B = List ℕ × List A} (λ set. (set.0, in_order R set.1)) (map (λ s. (name s, entries s)) sets) ≡ map (λ s. (name s, entries s)) sets
entries_stay R o name entries [] h = refl
entries_stay R o name entries (s ∷ sets) h = λ i. (name s, order_stays R o (entries s) h.0 i) ∷ entries_stay R o name entries sets h.1 i

module _ (conf : Conf) (s : IsSettled conf) where
  prefix_sets_back : prefix_sets_of (lines_back conf) ≡ conf.prefix_sets
  prefix_sets_back =
      ap (λ (found : List (List ℕ × List PrefixRange)). map (λ set. record { name = set.0; entries = set.1 }) (by_key text_cmp found))
      (ap (map (λ set. (set.0, in_order range_cmp set.1))) (prefix_sets_said conf) ∙ entries_stay range_cmp range_cmp-total (λ (s : PrefixSetConf). s.name) (λ s. s.entries) conf.prefix_sets s.prefix_entries)
      ∙ things_stay text_cmp nat_list_cmp_total (λ (s : PrefixSetConf). s.name) (λ s. s.entries) (λ set. record { name = set.0; entries = set.1 }) conf.prefix_sets (λ x. refl) s.prefix_sets

  as_sets_back : as_sets_of (lines_back conf) ≡ conf.as_sets
  as_sets_back =
      ap (λ (found : List (List ℕ × List ℕ)). map (λ set. record { name = set.0; numbers = set.1 }) (by_key text_cmp found))
      (ap (map (λ set. (set.0, in_order nat_cmp set.1))) (as_sets_said conf) ∙ entries_stay nat_cmp nat_cmp_total (λ (s : AsSetConf). s.name) (λ s. s.numbers) conf.as_sets s.as_entries)
      ∙ things_stay text_cmp nat_list_cmp_total (λ (s : AsSetConf). s.name) (λ s. s.numbers) (λ set. record { name = set.0; numbers = set.1 }) conf.as_sets (λ x. refl) s.as_sets

  origin_sets_back : origin_sets_of (lines_back conf) ≡ conf.origin_sets
  origin_sets_back =
      ap (λ (found : List (List ℕ × List Roa)). map (λ set. record { name = set.0; entries = set.1 }) (by_key text_cmp found))
      (ap (map (λ set. (set.0, in_order roa_cmp set.1))) (origin_sets_said conf) ∙ entries_stay roa_cmp roa_cmp-total (λ (s : OriginSetConf). s.name) (λ s. s.entries) conf.origin_sets s.origin_entries)
      ∙ things_stay text_cmp nat_list_cmp_total (λ (s : OriginSetConf). s.name) (λ s. s.entries) (λ set. record { name = set.0; entries = set.1 }) conf.origin_sets (λ x. refl) s.origin_sets

  networks_back : networks_of (lines_back conf) ≡ conf.networks
  networks_back =
      ap (λ found. map (λ network. record { prefix = network.0; set = network.1 }) (by_key prefix_cmp found)) (networks_said conf)
      ∙ things_stay prefix_cmp prefix_cmp-total (λ (n : Network). n.prefix) (λ n. n.set) (λ network. record { prefix = network.0; set = network.1 }) conf.networks (λ x. refl) s.networks

  roas_tell : (roas : List Roa) → Tells roas_of (roa_units roas) roas
  roas_tell [] = nothing roas_of
  roas_tell (r ∷ roas) = record { from = λ line. append-nil (r ∷ roas) }

  qualify_tells_no_roas : (flag : Bool) → Tells roas_of (qualify_units flag) []
  qualify_tells_no_roas true = record { from = λ line. refl }
  qualify_tells_no_roas false = nothing roas_of

  roas_parts : Parts roas_of conf [] [] [] [] [] conf.roas [] [] [] []
  roas_parts = record {
    of_listens = none_tell roas_of listen_unit conf.listen (λ x line. refl);
    of_ribs = none_tell roas_of rib_unit conf.ribs (λ x line. refl);
    of_prefixes = none_tell roas_of prefix_set_unit conf.prefix_sets (λ x line. refl);
    of_numbers = none_tell roas_of as_set_unit conf.as_sets (λ x line. refl);
    of_origins = none_tell roas_of origin_set_unit conf.origin_sets (λ x line. refl);
    of_roas = roas_tell conf.roas;
    of_networks = none_tell roas_of network_unit conf.networks (λ x line. refl);
    of_alone = none_tell roas_of (neighbour_unit conf) (filter is_alone conf.neighbours) (λ x line. refl);
    of_groups = none_tell roas_of (group_unit conf) (group_names conf.neighbours) (λ x line. refl);
    of_rules = none_tell roas_of (rule_unit conf) conf.rules (λ x line. refl);
  }

  roas_told : flat_map (λ l. roas_of l.statement) (lines_back conf) ≡ conf.roas
  roas_told = all_told roas_of conf [] [] [] [] [] [] conf.roas [] [] [] [] (qualify_tells_no_roas conf.qualify_default) roas_parts ∙ append-nil conf.roas

  roas_back : roas_said (lines_back conf) ≡ conf.roas
  roas_back = ap (in_order roa_cmp) roas_told ∙ order_stays roa_cmp roa_cmp-total conf.roas s.roas

  -- ---- the whole

  last_true : (flag : Bool) → unwrap_or (last (if_true flag)) false ≡ flag
  last_true true = refl
  last_true false = refl

  -- the configuration without its neighbours and rules
  pub frame_back : frame_of (lines_back conf) ≡ framed conf
  unfolding frame_of
  frame_back = λ i. record {
    asn = unwrap_or (last (as_said conf i)) 0;
    router_id = unwrap_or (last (router_id_said conf i)) 0;
    hold = unwrap_or (last (hold_said conf i)) 90;
    hold_min = unwrap_or (last (hold_min_said conf i)) 3;
    fib_update = unwrap_or (last (fib_update_said conf i)) true;
    qualify_default = (ap (λ (found : List Bool). unwrap_or (last found) false) (qualify_said conf) ∙ last_true conf.qualify_default) i;
    med_always = unwrap_or (last (med_always_said conf i)) false;
    socket = unwrap_or (last (socket_said conf i)) default_socket;
    listen = (listens_said conf ∙ map-id conf.listen) i;
    ribs = (ribs_said conf ∙ map-id conf.ribs) i;
    prefix_sets = prefix_sets_back i;
    as_sets = as_sets_back i;
    origin_sets = origin_sets_back i;
    roas = roas_back i;
    networks = networks_back i;
    neighbours = [];
    rules = [];
  }
