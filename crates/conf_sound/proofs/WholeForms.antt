-- A configuration that passes the checks can be written.
use Rattle.std.proofs.Common.{◌≡◌, ℕ, Bool, true, false, cond, List, [], ◌∷◌, Option, Some, None, Ok, Err, refl}
use Rattle.std.specs.Prelude.{find, is_none}
use Rattle.std.specs.Option.{option_or, option_map_or}
use Rattle.net_base.specs.declared.conf.ConfFault.{ConfFault}
use Rattle.net_base.specs.declared.conf.ConfKind.TheVariants.{NoAs, NoRouterId}
use Rattle.conf_tree.specs.declared.draft.Draft.{Draft}
use Rattle.conf_tree.specs.declared.draft.StatementLine.{StatementLine}
use Rattle.conf_tree.specs.declared.neighbour.Neighbour.{Neighbour}
use Rattle.conf_tree.specs.declared.rule.Condition.{Condition}
use Rattle.conf_tree.specs.declared.rule.Condition.TheVariants as conds
use Rattle.conf_tree.specs.declared.rule.Direction.{Direction}
use Rattle.conf_tree.specs.declared.rule.Direction.TheVariants.{From, To}
use Rattle.conf_tree.specs.declared.rule.Rule.{Rule}
use Rattle.conf_tree.specs.Said.{last_said, as_of, router_id_of, remote_as_of}
use Rattle.conf_tree.specs.Flat.{Placed, placed, taken, frame_of, flat, neighbours_of, rules_of}
use Rattle.conf_tree.specs.Checks.{fault_at, missing_global, double_name, double_neighbour, without_as, unknown_name, family_mismatch, first_fault, checked}
use Rattle.conf_tree.specs.Canonical.{prefix_set_name, as_set_name, origin_set_name, rib_name}
use Rattle.conf_tree.specs.Readable.{Each, IsName, IsAs, IsNeighbour, IsCondition, IsRuleRib, IsRule, IsReadable}
use Rattle.conf_sound.specs.InForm.{AreStatements}
use Rattle.conf_sound.proofs.Lists.{unwrap_some, find_none, or_none, map_none}
use Rattle.conf_tree.proofs.Each.{each_both}
use Rattle.conf_sound.proofs.StatementForms.{Gives, IsDraft}
use Rattle.conf_sound.proofs.FlatForms.{last_said_form, as_given, IsFrame, frame_form, IsPlaced, placed_form, neighbours_form, rules_form}

-- ---- what the checks leave

has_as : (missing unidentified : Bool) (a b : ConfFault) → cond missing (Some a) (cond unidentified (Some b) None) ≡ None → missing ≡ false
has_as true unidentified a b e = absurd (cc)
has_as false unidentified a b e = refl

as_said : (lines : List StatementLine) → missing_global lines ≡ None → is_none (last_said as_of lines) ≡ false
unfolding missing_global
as_said lines e = has_as (is_none (last_said as_of lines)) (is_none (last_said router_id_of lines)) (fault_at NoAs 0) (fault_at NoRouterId 0) e

all_have_as : (all : List Placed) → without_as all ≡ None → Each (λ n. is_none (taken remote_as_of n) ≡ false) all
unfolding without_as
all_have_as all e = find_none (λ n. is_none (taken remote_as_of n)) all (map_none (λ n. fault_at NoAs n.block.line) (find (λ n. is_none (taken remote_as_of n)) all) e)

-- no own AS is missing, and none of a neighbour
pub record HaveAs (lines : List StatementLine) : Type 0 where
  pub own : is_none (last_said as_of lines) ≡ false
  pub neighbours : Each (λ n. is_none (taken remote_as_of n) ≡ false) (placed lines)

no_fault : (lines : List StatementLine) → first_fault lines ≡ None → HaveAs lines
unfolding first_fault
no_fault lines e =
    let one = or_none (missing_global lines) (option_or (double_name lines) (option_or (double_neighbour (placed lines)) (option_or (without_as (placed lines)) (option_or (unknown_name (frame_of lines) lines) (family_mismatch (placed lines)))))) e in
    let two = or_none (double_name lines) (option_or (double_neighbour (placed lines)) (option_or (without_as (placed lines)) (option_or (unknown_name (frame_of lines) lines) (family_mismatch (placed lines))))) one.1 in
    let three = or_none (double_neighbour (placed lines)) (option_or (without_as (placed lines)) (option_or (unknown_name (frame_of lines) lines) (family_mismatch (placed lines)))) two.1 in
    let four = or_none (without_as (placed lines)) (option_or (unknown_name (frame_of lines) lines) (family_mismatch (placed lines))) three.1 in
    record { own = as_said lines one.0; neighbours = all_have_as (placed lines) four.0 }

-- ---- the names are those of the configuration without its neighbours and rules

module _ (lines : List StatementLine) where
  same_ribs : (number : ℕ) → IsName (rib_name (frame_of lines) number) → IsName (rib_name (flat lines) number)
  unfolding flat rib_name
  same_ribs number h = h

  same_neighbour : (n : Neighbour) → IsNeighbour (frame_of lines) n → IsNeighbour (flat lines) n
  same_neighbour n h = record {
    group = h.group;
    remote_as = h.remote_as;
    description = h.description;
    port = h.port;
    multihop = h.multihop;
    hold = h.hold;
    hold_min = h.hold_min;
    max_prefix = h.max_prefix;
    rib = same_ribs n.rib h.rib;
    set = h.set;
  }

  same_condition : (c : Condition) → IsCondition (frame_of lines) c → IsCondition (flat lines) c
  unfolding flat prefix_set_name as_set_name origin_set_name
  same_condition (conds.Prefix range) h = h
  same_condition (conds.PrefixSet set) h = h
  same_condition (conds.PrefixSetOrLonger set) h = h
  same_condition (conds.PathNumber part asn) h = h
  same_condition (conds.PathSet part set) h = h
  same_condition (conds.OriginSet set) h = h
  same_condition (conds.Ovs state) h = h
  same_condition (conds.Community pattern) h = h
  same_condition (conds.LargeCommunity pattern) h = h
  same_condition (conds.MaxAsLen most) h = h
  same_condition (conds.NextHop address) h = h
  same_condition (conds.Family family) h = h

  same_conditions : (cs : List Condition) → Each (IsCondition (frame_of lines)) cs → Each (IsCondition (flat lines)) cs
  same_conditions [] h = tt
  same_conditions (c ∷ cs) h = (same_condition c h.0, same_conditions cs h.1)

  same_rule_rib : (direction : Direction) (number : Option ℕ) → IsRuleRib (frame_of lines) direction number → IsRuleRib (flat lines) direction number
  same_rule_rib From None h = tt
  same_rule_rib To None h = tt
  same_rule_rib From (Some number) h = same_ribs number h
  same_rule_rib To (Some number) h = absurd h

  same_rule : (r : Rule) → IsRule (frame_of lines) r → IsRule (flat lines) r
  same_rule r h = record { rib = same_rule_rib r.direction r.rib h.rib; peer = h.peer; conditions = same_conditions r.conditions h.conditions; few = h.few; set = h.set }

  same_neighbours : (ns : List Neighbour) → Each (IsNeighbour (frame_of lines)) ns → Each (IsNeighbour (flat lines)) ns
  same_neighbours [] h = tt
  same_neighbours (n ∷ ns) h = (same_neighbour n h.0, same_neighbours ns h.1)

  same_rules : (rs : List Rule) → Each (IsRule (frame_of lines)) rs → Each (IsRule (flat lines)) rs
  same_rules [] h = tt
  same_rules (r ∷ rs) h = (same_rule r h.0, same_rules rs h.1)

  frame_as : AreStatements lines → is_none (last_said as_of lines) ≡ false → IsAs (frame_of lines).asn
  unfolding frame_of
  frame_as h some = unwrap_some IsAs (last_said as_of lines) 0 some (last_said_form IsAs as_of as_given lines h)

  flat_readable : IsAs (frame_of lines).asn → IsFrame (frame_of lines) → Each (IsNeighbour (flat lines)) (neighbours_of (frame_of lines) (placed lines)) → Each (IsRule (flat lines)) (rules_of (frame_of lines) lines) → IsReadable (flat lines)
  unfolding flat
  flat_readable asn f neighbours rules = record {
    asn = asn;
    router_id = f.router_id;
    hold = f.hold;
    hold_min = f.hold_min;
    socket = f.socket;
    listen = f.listen;
    ribs = f.ribs;
    prefix_sets = f.prefix_sets;
    as_sets = f.as_sets;
    origin_sets = f.origin_sets;
    roas = f.roas;
    networks = f.networks;
    neighbours = neighbours;
    rules = rules;
  }

  flat_form : AreStatements lines → HaveAs lines → IsReadable (flat lines)
  flat_form h some =
      let f : IsFrame (frame_of lines) = frame_form lines h in
      flat_readable (frame_as h some.own) f
      (same_neighbours (neighbours_of (frame_of lines) (placed lines)) (neighbours_form (frame_of lines) (placed lines) f
      (each_both IsPlaced (λ n. is_none (taken remote_as_of n) ≡ false) (placed lines) (placed_form lines h) some.neighbours)))
      (same_rules (rules_of (frame_of lines) lines) (rules_form (frame_of lines) f lines h))

-- the configuration of a draft in form
pub checked_form : (draft : Draft) → IsDraft draft → Gives IsReadable (checked draft)
unfolding checked
checked_form draft h = by (first_fault draft.statements) refl
  where
    by : (fault : Option ConfFault) → first_fault draft.statements ≡ fault → Gives IsReadable (option_map_or Err fault (Ok (flat draft.statements)))
    by None e = flat_form draft.statements h.0 (no_fault draft.statements e)
    by (Some fault) e = tt
