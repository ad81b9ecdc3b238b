-- The selectors of statements, asked of a canonical text.
use Rattle.std.proofs.Common.{◌≡◌, ◌∙◌, Bool, true, false, List, [], ◌∷◌, ◌++◌, map, filter, Option, None, refl, append-nil}
use Rattle.conf_tree.specs.declared.conf.Conf.{Conf}
use Rattle.conf_tree.specs.declared.conf.Listen.{Listen}
use Rattle.conf_tree.specs.declared.conf.Rib.{Rib}
use Rattle.conf_tree.specs.declared.draft.Statement.{Statement}
use Rattle.conf_tree.specs.declared.draft.Statement.TheVariants as says
use Rattle.conf_tree.specs.Canonical.{is_alone, group_names}
use Rattle.conf_tree.specs.Said.{said, as_of, router_id_of, hold_of, hold_min_of, fib_update_of, qualify_default_of, med_always_of, socket_of, listen_of, rib_of, prefix_set_of, as_set_of, origin_set_of, network_of, rule_of}
use Rattle.conf_tree.specs.Checks.{rib_name_of, prefix_set_name_of, as_set_name_of, origin_set_name_of}
use Rattle.conf_tree.specs.CanonicalDraft.{rule_block, listen_unit, rib_unit, prefix_set_unit, as_set_unit, origin_set_unit, network_unit, neighbour_unit, group_unit, rule_unit, qualify_units}
use Rattle.conf_back.proofs.Framed.{lines_back}
use Rattle.conf_back.proofs.Told.{Tells, nothing, Parts, all_told, listed, said_told, no_qualify, no_roas, unasked, asked, IsSilent, silent}

-- `true`, if it is printed
abbrev pub if_true : Bool → List Bool
if_true true = true ∷ []
if_true false = []

-- what is asked of the globals alone is not asked of lists

as_silent : IsSilent as_of
as_silent (says.As asn) e = absurd (cc)
as_silent _ e = refl

router_id_silent : IsSilent router_id_of
router_id_silent (says.RouterId id) e = absurd (cc)
router_id_silent _ e = refl

hold_silent : IsSilent hold_of
hold_silent (says.Hold seconds) e = absurd (cc)
hold_silent _ e = refl

hold_min_silent : IsSilent hold_min_of
hold_min_silent (says.HoldMin seconds) e = absurd (cc)
hold_min_silent _ e = refl

fib_update_silent : IsSilent fib_update_of
fib_update_silent (says.FibUpdate on) e = absurd (cc)
fib_update_silent _ e = refl

med_always_silent : IsSilent med_always_of
med_always_silent (says.MedCompare always) e = absurd (cc)
med_always_silent _ e = refl

socket_silent : IsSilent socket_of
socket_silent (says.Socket path) e = absurd (cc)
socket_silent _ e = refl

qualify_silent : IsSilent qualify_default_of
qualify_silent says.QualifyDefault e = absurd (cc)
qualify_silent _ e = refl

module _ (conf : Conf) where
  -- ---- globals

  -- what is said of the globals, but for `nexthop qualify via default`
  abbrev globals : {A : Type 0} → (Statement → List A) → List A
  globals what = what (says.As conf.asn) ++ (what (says.RouterId conf.router_id) ++ (what (says.Hold conf.hold) ++ (what (says.HoldMin conf.hold_min) ++ (what (says.FibUpdate conf.fib_update)
      ++ (what (says.MedCompare conf.med_always) ++ (what (says.Socket conf.socket) ++ []))))))

  global_said : {A : Type 0} (what : Statement → Option A) → IsSilent what → what says.QualifyDefault ≡ None → said what (lines_back conf) ≡ globals (listed what)
  global_said what lists qualify = said_told what conf ∙ all_told (listed what) conf [] [] [] [] [] [] [] [] [] [] [] (no_qualify what conf qualify) (silent what conf lists)

  pub as_said : said as_of (lines_back conf) ≡ conf.asn ∷ []
  as_said = global_said as_of as_silent refl

  pub router_id_said : said router_id_of (lines_back conf) ≡ conf.router_id ∷ []
  router_id_said = global_said router_id_of router_id_silent refl

  pub hold_said : said hold_of (lines_back conf) ≡ conf.hold ∷ []
  hold_said = global_said hold_of hold_silent refl

  pub hold_min_said : said hold_min_of (lines_back conf) ≡ conf.hold_min ∷ []
  hold_min_said = global_said hold_min_of hold_min_silent refl

  pub fib_update_said : said fib_update_of (lines_back conf) ≡ conf.fib_update ∷ []
  fib_update_said = global_said fib_update_of fib_update_silent refl

  pub med_always_said : said med_always_of (lines_back conf) ≡ conf.med_always ∷ []
  med_always_said = global_said med_always_of med_always_silent refl

  pub socket_said : said socket_of (lines_back conf) ≡ conf.socket ∷ []
  socket_said = global_said socket_of socket_silent refl

  qualify_tells : (flag : Bool) → Tells (listed qualify_default_of) (qualify_units flag) (if_true flag)
  qualify_tells true = record { from = λ line. refl }
  qualify_tells false = nothing (listed qualify_default_of)

  pub qualify_said : said qualify_default_of (lines_back conf) ≡ if_true conf.qualify_default
  qualify_said = said_told qualify_default_of conf ∙ all_told (listed qualify_default_of) conf (if_true conf.qualify_default) [] [] [] [] [] [] [] [] [] [] (qualify_tells conf.qualify_default) (silent qualify_default_of conf qualify_silent) ∙ append-nil (if_true conf.qualify_default)

  -- ---- lists

  listens_parts : Parts (listed listen_of) conf (map (λ (l : Listen). l) conf.listen) [] [] [] [] [] [] [] [] []
  listens_parts = record {
    of_listens = asked listen_of listen_unit (λ (l : Listen). l) conf.listen (λ x line. refl);
    of_ribs = unasked listen_of rib_unit conf.ribs (λ x line. refl);
    of_prefixes = unasked listen_of prefix_set_unit conf.prefix_sets (λ x line. refl);
    of_numbers = unasked listen_of as_set_unit conf.as_sets (λ x line. refl);
    of_origins = unasked listen_of origin_set_unit conf.origin_sets (λ x line. refl);
    of_roas = no_roas listen_of conf (λ roas. refl);
    of_networks = unasked listen_of network_unit conf.networks (λ x line. refl);
    of_alone = unasked listen_of (neighbour_unit conf) (filter is_alone conf.neighbours) (λ x line. refl);
    of_groups = unasked listen_of (group_unit conf) (group_names conf.neighbours) (λ x line. refl);
    of_rules = unasked listen_of (rule_unit conf) conf.rules (λ x line. refl);
  }

  pub listens_said : said listen_of (lines_back conf) ≡ map (λ (l : Listen). l) conf.listen
  listens_said = said_told listen_of conf ∙ all_told (listed listen_of) conf [] (map (λ (l : Listen). l) conf.listen) [] [] [] [] [] [] [] [] [] (no_qualify listen_of conf refl) listens_parts ∙ append-nil (map (λ (l : Listen). l) conf.listen)

  ribs_parts : Parts (listed rib_of) conf [] (map (λ (r : Rib). r) conf.ribs) [] [] [] [] [] [] [] []
  ribs_parts = record {
    of_listens = unasked rib_of listen_unit conf.listen (λ x line. refl);
    of_ribs = asked rib_of rib_unit (λ (r : Rib). r) conf.ribs (λ x line. refl);
    of_prefixes = unasked rib_of prefix_set_unit conf.prefix_sets (λ x line. refl);
    of_numbers = unasked rib_of as_set_unit conf.as_sets (λ x line. refl);
    of_origins = unasked rib_of origin_set_unit conf.origin_sets (λ x line. refl);
    of_roas = no_roas rib_of conf (λ roas. refl);
    of_networks = unasked rib_of network_unit conf.networks (λ x line. refl);
    of_alone = unasked rib_of (neighbour_unit conf) (filter is_alone conf.neighbours) (λ x line. refl);
    of_groups = unasked rib_of (group_unit conf) (group_names conf.neighbours) (λ x line. refl);
    of_rules = unasked rib_of (rule_unit conf) conf.rules (λ x line. refl);
  }

  pub ribs_said : said rib_of (lines_back conf) ≡ map (λ (r : Rib). r) conf.ribs
  ribs_said = said_told rib_of conf ∙ all_told (listed rib_of) conf [] [] (map (λ (r : Rib). r) conf.ribs) [] [] [] [] [] [] [] [] (no_qualify rib_of conf refl) ribs_parts ∙ append-nil (map (λ (r : Rib). r) conf.ribs)

  prefix_sets_parts : Parts (listed prefix_set_of) conf [] [] (map (λ s. (s.name, s.entries)) conf.prefix_sets) [] [] [] [] [] [] []
  prefix_sets_parts = record {
    of_listens = unasked prefix_set_of listen_unit conf.listen (λ x line. refl);
    of_ribs = unasked prefix_set_of rib_unit conf.ribs (λ x line. refl);
    of_prefixes = asked prefix_set_of prefix_set_unit (λ s. (s.name, s.entries)) conf.prefix_sets (λ x line. refl);
    of_numbers = unasked prefix_set_of as_set_unit conf.as_sets (λ x line. refl);
    of_origins = unasked prefix_set_of origin_set_unit conf.origin_sets (λ x line. refl);
    of_roas = no_roas prefix_set_of conf (λ roas. refl);
    of_networks = unasked prefix_set_of network_unit conf.networks (λ x line. refl);
    of_alone = unasked prefix_set_of (neighbour_unit conf) (filter is_alone conf.neighbours) (λ x line. refl);
    of_groups = unasked prefix_set_of (group_unit conf) (group_names conf.neighbours) (λ x line. refl);
    of_rules = unasked prefix_set_of (rule_unit conf) conf.rules (λ x line. refl);
  }

  pub prefix_sets_said : said prefix_set_of (lines_back conf) ≡ map (λ s. (s.name, s.entries)) conf.prefix_sets
  prefix_sets_said = said_told prefix_set_of conf ∙ all_told (listed prefix_set_of) conf [] [] [] (map (λ s. (s.name, s.entries)) conf.prefix_sets) [] [] [] [] [] [] [] (no_qualify prefix_set_of conf refl) prefix_sets_parts ∙ append-nil (map (λ s. (s.name, s.entries)) conf.prefix_sets)

  as_sets_parts : Parts (listed as_set_of) conf [] [] [] (map (λ s. (s.name, s.numbers)) conf.as_sets) [] [] [] [] [] []
  as_sets_parts = record {
    of_listens = unasked as_set_of listen_unit conf.listen (λ x line. refl);
    of_ribs = unasked as_set_of rib_unit conf.ribs (λ x line. refl);
    of_prefixes = unasked as_set_of prefix_set_unit conf.prefix_sets (λ x line. refl);
    of_numbers = asked as_set_of as_set_unit (λ s. (s.name, s.numbers)) conf.as_sets (λ x line. refl);
    of_origins = unasked as_set_of origin_set_unit conf.origin_sets (λ x line. refl);
    of_roas = no_roas as_set_of conf (λ roas. refl);
    of_networks = unasked as_set_of network_unit conf.networks (λ x line. refl);
    of_alone = unasked as_set_of (neighbour_unit conf) (filter is_alone conf.neighbours) (λ x line. refl);
    of_groups = unasked as_set_of (group_unit conf) (group_names conf.neighbours) (λ x line. refl);
    of_rules = unasked as_set_of (rule_unit conf) conf.rules (λ x line. refl);
  }

  pub as_sets_said : said as_set_of (lines_back conf) ≡ map (λ s. (s.name, s.numbers)) conf.as_sets
  as_sets_said = said_told as_set_of conf ∙ all_told (listed as_set_of) conf [] [] [] [] (map (λ s. (s.name, s.numbers)) conf.as_sets) [] [] [] [] [] [] (no_qualify as_set_of conf refl) as_sets_parts ∙ append-nil (map (λ s. (s.name, s.numbers)) conf.as_sets)

  origin_sets_parts : Parts (listed origin_set_of) conf [] [] [] [] (map (λ s. (s.name, s.entries)) conf.origin_sets) [] [] [] [] []
  origin_sets_parts = record {
    of_listens = unasked origin_set_of listen_unit conf.listen (λ x line. refl);
    of_ribs = unasked origin_set_of rib_unit conf.ribs (λ x line. refl);
    of_prefixes = unasked origin_set_of prefix_set_unit conf.prefix_sets (λ x line. refl);
    of_numbers = unasked origin_set_of as_set_unit conf.as_sets (λ x line. refl);
    of_origins = asked origin_set_of origin_set_unit (λ s. (s.name, s.entries)) conf.origin_sets (λ x line. refl);
    of_roas = no_roas origin_set_of conf (λ roas. refl);
    of_networks = unasked origin_set_of network_unit conf.networks (λ x line. refl);
    of_alone = unasked origin_set_of (neighbour_unit conf) (filter is_alone conf.neighbours) (λ x line. refl);
    of_groups = unasked origin_set_of (group_unit conf) (group_names conf.neighbours) (λ x line. refl);
    of_rules = unasked origin_set_of (rule_unit conf) conf.rules (λ x line. refl);
  }

  pub origin_sets_said : said origin_set_of (lines_back conf) ≡ map (λ s. (s.name, s.entries)) conf.origin_sets
  origin_sets_said = said_told origin_set_of conf ∙ all_told (listed origin_set_of) conf [] [] [] [] [] (map (λ s. (s.name, s.entries)) conf.origin_sets) [] [] [] [] [] (no_qualify origin_set_of conf refl) origin_sets_parts ∙ append-nil (map (λ s. (s.name, s.entries)) conf.origin_sets)

  networks_parts : Parts (listed network_of) conf [] [] [] [] [] [] (map (λ n. (n.prefix, n.set)) conf.networks) [] [] []
  networks_parts = record {
    of_listens = unasked network_of listen_unit conf.listen (λ x line. refl);
    of_ribs = unasked network_of rib_unit conf.ribs (λ x line. refl);
    of_prefixes = unasked network_of prefix_set_unit conf.prefix_sets (λ x line. refl);
    of_numbers = unasked network_of as_set_unit conf.as_sets (λ x line. refl);
    of_origins = unasked network_of origin_set_unit conf.origin_sets (λ x line. refl);
    of_roas = no_roas network_of conf (λ roas. refl);
    of_networks = asked network_of network_unit (λ n. (n.prefix, n.set)) conf.networks (λ x line. refl);
    of_alone = unasked network_of (neighbour_unit conf) (filter is_alone conf.neighbours) (λ x line. refl);
    of_groups = unasked network_of (group_unit conf) (group_names conf.neighbours) (λ x line. refl);
    of_rules = unasked network_of (rule_unit conf) conf.rules (λ x line. refl);
  }

  pub networks_said : said network_of (lines_back conf) ≡ map (λ n. (n.prefix, n.set)) conf.networks
  networks_said = said_told network_of conf ∙ all_told (listed network_of) conf [] [] [] [] [] [] [] (map (λ n. (n.prefix, n.set)) conf.networks) [] [] [] (no_qualify network_of conf refl) networks_parts ∙ append-nil (map (λ n. (n.prefix, n.set)) conf.networks)

  rules_parts : Parts (listed rule_of) conf [] [] [] [] [] [] [] [] [] (map (rule_block conf) conf.rules)
  rules_parts = record {
    of_listens = unasked rule_of listen_unit conf.listen (λ x line. refl);
    of_ribs = unasked rule_of rib_unit conf.ribs (λ x line. refl);
    of_prefixes = unasked rule_of prefix_set_unit conf.prefix_sets (λ x line. refl);
    of_numbers = unasked rule_of as_set_unit conf.as_sets (λ x line. refl);
    of_origins = unasked rule_of origin_set_unit conf.origin_sets (λ x line. refl);
    of_roas = no_roas rule_of conf (λ roas. refl);
    of_networks = unasked rule_of network_unit conf.networks (λ x line. refl);
    of_alone = unasked rule_of (neighbour_unit conf) (filter is_alone conf.neighbours) (λ x line. refl);
    of_groups = unasked rule_of (group_unit conf) (group_names conf.neighbours) (λ x line. refl);
    of_rules = asked rule_of (rule_unit conf) (rule_block conf) conf.rules (λ x line. refl);
  }

  pub rules_said : said rule_of (lines_back conf) ≡ map (rule_block conf) conf.rules
  rules_said = said_told rule_of conf ∙ all_told (listed rule_of) conf [] [] [] [] [] [] [] [] [] [] (map (rule_block conf) conf.rules) (no_qualify rule_of conf refl) rules_parts

  rib_names_parts : Parts (listed rib_name_of) conf [] (map (λ r. r.name) conf.ribs) [] [] [] [] [] [] [] []
  rib_names_parts = record {
    of_listens = unasked rib_name_of listen_unit conf.listen (λ x line. refl);
    of_ribs = asked rib_name_of rib_unit (λ r. r.name) conf.ribs (λ x line. refl);
    of_prefixes = unasked rib_name_of prefix_set_unit conf.prefix_sets (λ x line. refl);
    of_numbers = unasked rib_name_of as_set_unit conf.as_sets (λ x line. refl);
    of_origins = unasked rib_name_of origin_set_unit conf.origin_sets (λ x line. refl);
    of_roas = no_roas rib_name_of conf (λ roas. refl);
    of_networks = unasked rib_name_of network_unit conf.networks (λ x line. refl);
    of_alone = unasked rib_name_of (neighbour_unit conf) (filter is_alone conf.neighbours) (λ x line. refl);
    of_groups = unasked rib_name_of (group_unit conf) (group_names conf.neighbours) (λ x line. refl);
    of_rules = unasked rib_name_of (rule_unit conf) conf.rules (λ x line. refl);
  }

  pub rib_names_said : said rib_name_of (lines_back conf) ≡ map (λ r. r.name) conf.ribs
  rib_names_said = said_told rib_name_of conf ∙ all_told (listed rib_name_of) conf [] [] (map (λ r. r.name) conf.ribs) [] [] [] [] [] [] [] [] (no_qualify rib_name_of conf refl) rib_names_parts ∙ append-nil (map (λ r. r.name) conf.ribs)

  prefix_set_names_parts : Parts (listed prefix_set_name_of) conf [] [] (map (λ s. s.name) conf.prefix_sets) [] [] [] [] [] [] []
  prefix_set_names_parts = record {
    of_listens = unasked prefix_set_name_of listen_unit conf.listen (λ x line. refl);
    of_ribs = unasked prefix_set_name_of rib_unit conf.ribs (λ x line. refl);
    of_prefixes = asked prefix_set_name_of prefix_set_unit (λ s. s.name) conf.prefix_sets (λ x line. refl);
    of_numbers = unasked prefix_set_name_of as_set_unit conf.as_sets (λ x line. refl);
    of_origins = unasked prefix_set_name_of origin_set_unit conf.origin_sets (λ x line. refl);
    of_roas = no_roas prefix_set_name_of conf (λ roas. refl);
    of_networks = unasked prefix_set_name_of network_unit conf.networks (λ x line. refl);
    of_alone = unasked prefix_set_name_of (neighbour_unit conf) (filter is_alone conf.neighbours) (λ x line. refl);
    of_groups = unasked prefix_set_name_of (group_unit conf) (group_names conf.neighbours) (λ x line. refl);
    of_rules = unasked prefix_set_name_of (rule_unit conf) conf.rules (λ x line. refl);
  }

  pub prefix_set_names_said : said prefix_set_name_of (lines_back conf) ≡ map (λ s. s.name) conf.prefix_sets
  prefix_set_names_said = said_told prefix_set_name_of conf ∙ all_told (listed prefix_set_name_of) conf [] [] [] (map (λ s. s.name) conf.prefix_sets) [] [] [] [] [] [] [] (no_qualify prefix_set_name_of conf refl) prefix_set_names_parts ∙ append-nil (map (λ s. s.name) conf.prefix_sets)

  as_set_names_parts : Parts (listed as_set_name_of) conf [] [] [] (map (λ s. s.name) conf.as_sets) [] [] [] [] [] []
  as_set_names_parts = record {
    of_listens = unasked as_set_name_of listen_unit conf.listen (λ x line. refl);
    of_ribs = unasked as_set_name_of rib_unit conf.ribs (λ x line. refl);
    of_prefixes = unasked as_set_name_of prefix_set_unit conf.prefix_sets (λ x line. refl);
    of_numbers = asked as_set_name_of as_set_unit (λ s. s.name) conf.as_sets (λ x line. refl);
    of_origins = unasked as_set_name_of origin_set_unit conf.origin_sets (λ x line. refl);
    of_roas = no_roas as_set_name_of conf (λ roas. refl);
    of_networks = unasked as_set_name_of network_unit conf.networks (λ x line. refl);
    of_alone = unasked as_set_name_of (neighbour_unit conf) (filter is_alone conf.neighbours) (λ x line. refl);
    of_groups = unasked as_set_name_of (group_unit conf) (group_names conf.neighbours) (λ x line. refl);
    of_rules = unasked as_set_name_of (rule_unit conf) conf.rules (λ x line. refl);
  }

  pub as_set_names_said : said as_set_name_of (lines_back conf) ≡ map (λ s. s.name) conf.as_sets
  as_set_names_said = said_told as_set_name_of conf ∙ all_told (listed as_set_name_of) conf [] [] [] [] (map (λ s. s.name) conf.as_sets) [] [] [] [] [] [] (no_qualify as_set_name_of conf refl) as_set_names_parts ∙ append-nil (map (λ s. s.name) conf.as_sets)

  origin_set_names_parts : Parts (listed origin_set_name_of) conf [] [] [] [] (map (λ s. s.name) conf.origin_sets) [] [] [] [] []
  origin_set_names_parts = record {
    of_listens = unasked origin_set_name_of listen_unit conf.listen (λ x line. refl);
    of_ribs = unasked origin_set_name_of rib_unit conf.ribs (λ x line. refl);
    of_prefixes = unasked origin_set_name_of prefix_set_unit conf.prefix_sets (λ x line. refl);
    of_numbers = unasked origin_set_name_of as_set_unit conf.as_sets (λ x line. refl);
    of_origins = asked origin_set_name_of origin_set_unit (λ s. s.name) conf.origin_sets (λ x line. refl);
    of_roas = no_roas origin_set_name_of conf (λ roas. refl);
    of_networks = unasked origin_set_name_of network_unit conf.networks (λ x line. refl);
    of_alone = unasked origin_set_name_of (neighbour_unit conf) (filter is_alone conf.neighbours) (λ x line. refl);
    of_groups = unasked origin_set_name_of (group_unit conf) (group_names conf.neighbours) (λ x line. refl);
    of_rules = unasked origin_set_name_of (rule_unit conf) conf.rules (λ x line. refl);
  }

  pub origin_set_names_said : said origin_set_name_of (lines_back conf) ≡ map (λ s. s.name) conf.origin_sets
  origin_set_names_said = said_told origin_set_name_of conf ∙ all_told (listed origin_set_name_of) conf [] [] [] [] [] (map (λ s. s.name) conf.origin_sets) [] [] [] [] [] (no_qualify origin_set_name_of conf refl) origin_set_names_parts ∙ append-nil (map (λ s. s.name) conf.origin_sets)
