-- Statements go by their own tokens.
use Rattle.std.specs.Prelude.{true, false, List, [], ◌∷◌, Some, Ok, ◌==◌, codes}
use Rattle.net_base.specs.declared.prefix.Prefix.{Prefix}
use Rattle.net_base.specs.declared.conf.ConfKind.TheVariants.{NotInProfile}
use Rattle.net_base.specs.declared.conf.Counted.TheVariants as counted
use Rattle.conf_tree.specs.declared.token.Token.{Token}
use Rattle.conf_tree.specs.declared.rule.Action.{Action}
use Rattle.conf_tree.specs.declared.rule.Action.TheVariants as actions
use Rattle.conf_tree.specs.declared.draft.SetPlace.TheVariants as places
use Rattle.conf_tree.specs.declared.draft.Statement.TheVariants as says
use Rattle.conf_tree.specs.Faults.{◌>>=◌}
use Rattle.conf_tree.specs.Reading.{Reading, fails, behind, word_is, word_in, keyword_at, mark_at, list_at, unless_full}
use Rattle.conf_tree.specs.Values.{number_at, as_number_at, hold_at, yes_no_at, address_at, v4_at, prefix_at, width, name_at, quoted_at}
use Rattle.conf_tree.specs.ItemReading.{optional_set_at}
use Rattle.conf_tree.specs.RuleReading.{ranged_at, counted_number_at, rule_at}
use Rattle.conf_tree.specs.NeighbourReading.{neighbour_at, group_at}
use Rattle.conf_tree.specs.StatementReading.{as_statement_at, router_id_at, hold_min_statement_at, hold_statement_at, any_hold_statement_at, fib_update_at, qualify_word_at, qualify_at, compare_word_at, med_compare_at, optional_table_at, rib_at, rde_at, socket_at, optional_port_at, listen_at, entry_at, prefix_entry_at, number_entry_at, optional_maxlen_at, source_at, authorization_at, counted_authorization_at, roa_entry_at, named_brace_at, prefix_set_at, as_set_at, origin_set_at, roa_set_at, network_body_at, network_at, neighbour_statement_at, group_statement_at, rule_statement_at, left_out_statements, rule_word_at, peer_word_at, set_word_at, engine_word_at, statement_at, Room}
use Rattle.conf_local.specs.Texts.{IsText}
use Rattle.conf_local.proofs.Local.{Begun, Local, stays, takes, past, fails_here, one_of, then, unless}
use Rattle.conf_local.proofs.Tests.{word_is_first, word_in_first, word_begun, keyword_then, mark_then}
use Rattle.conf_local.proofs.Values.{number_local, as_number_local, hold_local, yes_no_local, address_local, v4_local, prefix_local, name_local, quoted_local}
use Rattle.conf_local.proofs.Lists.{list_local}
use Rattle.std.proofs.Common.{Bool}
use Rattle.conf_tree.specs.RuleReading.{rule_at}
use Rattle.conf_local.proofs.Items.{optional_set_local}
use Rattle.conf_local.proofs.Rules.{prefix_then, ranged_local, counted_number_local, rule_local}
use Rattle.conf_local.proofs.Neighbours.{neighbour_local, group_local}

pub as_statement_local : {some : Bool} (tokens : List Token) → IsText tokens → Local some as_statement_at tokens
unfolding as_statement_at
as_statement_local tokens h =
    then (λ x. as_number_at 1 x) (λ asn. Ok (says.As asn.0, asn.1)) tokens (as_number_local _ tokens h)
    (λ asn t1 h1. stays _ t1 h1)

pub router_id_local : {some : Bool} (tokens : List Token) → IsText tokens → Local some router_id_at tokens
unfolding router_id_at
router_id_local tokens h =
    then (λ x. v4_at x) (λ id. Ok (says.RouterId id.0, id.1)) tokens (v4_local tokens h)
    (λ id t1 h1. stays _ t1 h1)

pub hold_min_statement_local : {some : Bool} (tokens : List Token) → IsText tokens → Local some hold_min_statement_at tokens
unfolding hold_min_statement_at
hold_min_statement_local tokens h =
    then (λ x. number_at 3 65535 x) (λ seconds. Ok (says.HoldMin seconds.0, seconds.1)) tokens (number_local _ _ tokens h)
    (λ seconds t1 h1. stays _ t1 h1)

pub hold_statement_local : {some : Bool} (tokens : List Token) → IsText tokens → Local some hold_statement_at tokens
unfolding hold_statement_at
hold_statement_local tokens h =
    then (λ x. hold_at x) (λ seconds. Ok (says.Hold seconds.0, seconds.1)) tokens (hold_local tokens h)
    (λ seconds t1 h1. stays _ t1 h1)

pub any_hold_statement_local : {some : Bool} (tokens : List Token) → IsText tokens → Local some any_hold_statement_at tokens
unfolding any_hold_statement_at
any_hold_statement_local tokens h =
    one_of (λ x. word_is (codes "min") x) (λ x. hold_min_statement_at (behind x)) _ tokens (word_is_first _)
    (λ e1. past hold_min_statement_at tokens (word_begun _ tokens h e1) hold_min_statement_local)
    (λ e1. hold_statement_local tokens h)

pub fib_update_local : {some : Bool} (tokens : List Token) → IsText tokens → Local some fib_update_at tokens
unfolding fib_update_at
fib_update_local tokens h =
    then (λ x. yes_no_at x) (λ on. Ok (says.FibUpdate on.0, on.1)) tokens (yes_no_local tokens h)
    (λ on t1 h1. stays _ t1 h1)

pub qualify_word_local : {some : Bool} (tokens : List Token) → IsText tokens → Local some qualify_word_at tokens
unfolding qualify_word_at
qualify_word_local tokens h =
    one_of (λ x. word_is (codes "bgp") x) (λ x. fails NotInProfile x) _ tokens (word_is_first _)
    (λ e1. fails_here _ tokens h)
    (λ e1. one_of (λ x. word_is (codes "default") x) (λ x. Ok (says.QualifyDefault, behind x)) _ tokens (word_is_first _)
    (λ e2. takes _ tokens (word_begun _ tokens h e2))
    (λ e2. fails_here _ tokens h))

pub qualify_local : {some : Bool} (tokens : List Token) → IsText tokens → Local some qualify_at tokens
unfolding qualify_at
qualify_local tokens h =
    keyword_then _ (λ via. keyword_at (codes "via") via >>= λ what. qualify_word_at what) tokens h (λ t1 h1. keyword_then _ (λ what. qualify_word_at what) t1 h1 (λ t2 h2. qualify_word_local t2 h2))

pub compare_word_local : {some : Bool} (tokens : List Token) → IsText tokens → Local some compare_word_at tokens
unfolding compare_word_at
compare_word_local tokens h =
    one_of (λ x. word_is (codes "always") x) (λ x. Ok (says.MedCompare true, behind x)) _ tokens (word_is_first _)
    (λ e1. takes _ tokens (word_begun _ tokens h e1))
    (λ e1. one_of (λ x. word_is (codes "strict") x) (λ x. Ok (says.MedCompare false, behind x)) _ tokens (word_is_first _)
    (λ e2. takes _ tokens (word_begun _ tokens h e2))
    (λ e2. fails_here _ tokens h))

pub med_compare_local : {some : Bool} (tokens : List Token) → IsText tokens → Local some med_compare_at tokens
unfolding med_compare_at
med_compare_local tokens h =
    keyword_then _ (λ how. compare_word_at how) tokens h (λ t1 h1. compare_word_local t1 h1)

pub optional_table_local : (tokens : List Token) → IsText tokens → Local false optional_table_at tokens
unfolding optional_table_at
optional_table_local tokens h =
    one_of (λ x. word_is (codes "rtable") x) (λ x. number_at 1 255 (behind x) >>= λ table. Ok (Some table.0, table.1)) _ tokens (word_is_first _)
    (λ e1. then (λ x. number_at 1 255 (behind x)) (λ table. Ok (Some table.0, table.1)) tokens (past (number_at 1 255) tokens (word_begun _ tokens h e1) (number_local _ _))
    (λ table t2 h2. stays _ t2 h2))
    (λ e1. stays _ tokens h)

pub rib_local : {some : Bool} (tokens : List Token) → IsText tokens → Local some rib_at tokens
unfolding rib_at
rib_local tokens h =
    then (λ x. name_at x) (λ name. optional_table_at name.1 >>= λ table. Ok (says.Rib name.0 table.0, table.1)) tokens (name_local tokens h)
    (λ name t1 h1. then (λ x. optional_table_at x) (λ table. Ok (says.Rib name table.0, table.1)) t1 (optional_table_local t1 h1)
    (λ table t2 h2. stays _ t2 h2))

pub rde_local : {some : Bool} (room : Room) (tokens : List Token) → IsText tokens → Local some (rde_at room) tokens
unfolding rde_at
rde_local room tokens h =
    one_of (λ x. word_is (codes "route-age") x) (λ x. fails NotInProfile x) _ tokens (word_is_first _)
    (λ e1. fails_here _ tokens h)
    (λ e1. one_of (λ x. word_is (codes "med") x) (λ x. med_compare_at (behind x)) _ tokens (word_is_first _)
    (λ e2. past med_compare_at tokens (word_begun _ tokens h e2) med_compare_local)
    (λ e2. one_of (λ x. word_is (codes "rib") x) (λ x. unless_full (room.ribs == 0) counted.Ribs x (rib_at (behind x))) _ tokens (word_is_first _)
    (λ e3. unless (λ x. rib_at (behind x)) _ _ tokens h (past rib_at tokens (word_begun _ tokens h e3) rib_local))
    (λ e3. fails_here _ tokens h)))

pub socket_local : {some : Bool} (tokens : List Token) → IsText tokens → Local some socket_at tokens
unfolding socket_at
socket_local tokens h =
    then (λ x. quoted_at x) (λ path. Ok (says.Socket path.0, path.1)) tokens (quoted_local tokens h)
    (λ path t1 h1. stays _ t1 h1)

pub optional_port_local : (tokens : List Token) → IsText tokens → Local false optional_port_at tokens
unfolding optional_port_at
optional_port_local tokens h =
    one_of (λ x. word_is (codes "port") x) (λ x. number_at 1 65535 (behind x)) _ tokens (word_is_first _)
    (λ e1. past (number_at 1 65535) tokens (word_begun _ tokens h e1) (number_local _ _))
    (λ e1. stays _ tokens h)

pub listen_local : {some : Bool} (tokens : List Token) → IsText tokens → Local some listen_at tokens
unfolding listen_at
listen_local tokens h =
    keyword_then _ (λ where_to. address_at where_to >>= λ address. optional_port_at address.1 >>= λ port. Ok (says.Listen (record { address = address.0; port = port.0 }), port.1)) tokens h (λ t1 h1. then (λ x. address_at x) (λ address. optional_port_at address.1 >>= λ port. Ok (says.Listen (record { address = address.0; port = port.0 }), port.1)) t1 (address_local t1 h1)
    (λ address t2 h2. then (λ x. optional_port_at x) (λ port. Ok (says.Listen (record { address = address; port = port.0 }), port.1)) t2 (optional_port_local t2 h2)
    (λ port t3 h3. stays _ t3 h3)))

entry_by : {A : Type 0} {some : Bool} (f : List Token → Reading A) (t : List Token) → IsText t → Local some f t → Local some (λ x. entry_at x (f x)) t
unfolding entry_at
entry_by f t h l = one_of (λ x. word_is (codes "expires") x) (λ x. fails NotInProfile x) f t (word_is_first _) (λ e. fails_here _ t h) (λ e. l)

pub prefix_entry_local : {some : Bool} (full : Bool) (tokens : List Token) → IsText tokens → Local some (prefix_entry_at full) tokens
unfolding prefix_entry_at
prefix_entry_local full tokens h =
    entry_by (λ x. ranged_at full counted.Entries x) tokens h (ranged_local _ _ tokens h)

pub number_entry_local : {some : Bool} (full : Bool) (tokens : List Token) → IsText tokens → Local some (number_entry_at full) tokens
unfolding number_entry_at
number_entry_local full tokens h =
    entry_by (λ x. counted_number_at 1 full counted.Entries x) tokens h (counted_number_local _ _ _ tokens h)

pub optional_maxlen_local : (prefix : Prefix) (tokens : List Token) → IsText tokens → Local false (optional_maxlen_at prefix) tokens
unfolding optional_maxlen_at
optional_maxlen_local prefix tokens h =
    one_of (λ x. word_is (codes "maxlen") x) (λ x. number_at prefix.len (width prefix) (behind x)) _ tokens (word_is_first _)
    (λ e1. past (number_at prefix.len (width prefix)) tokens (word_begun _ tokens h e1) (number_local _ _))
    (λ e1. stays _ tokens h)

pub source_local : {some : Bool} (tokens : List Token) → IsText tokens → Local some source_at tokens
unfolding source_at
source_local tokens h =
    entry_by (λ x. keyword_at (codes "source-as") x >>= λ rest. as_number_at 0 rest) tokens h (keyword_then _ (λ rest. as_number_at 0 rest) tokens h (λ t1 h1. as_number_local _ t1 h1))

pub authorization_local : (prefix : Prefix) (tokens : List Token) → IsText tokens → Local false (authorization_at prefix) tokens
unfolding authorization_at
authorization_local prefix tokens h =
    then (λ x. optional_maxlen_at prefix x) (λ maxlen. source_at maxlen.1 >>= λ source. Ok (record { prefix = prefix; maxlen = maxlen.0; source = source.0 }, source.1)) tokens (optional_maxlen_local _ tokens h)
    (λ maxlen t1 h1. then (λ x. source_at x) (λ source. Ok (record { prefix = prefix; maxlen = maxlen; source = source.0 }, source.1)) t1 (source_local t1 h1)
    (λ source t2 h2. stays _ t2 h2))

counted_authorization_local : {some : Bool} (full : Bool) (tokens : List Token) → IsText tokens → Local some (counted_authorization_at full) tokens
unfolding counted_authorization_at
counted_authorization_local full tokens h = prefix_then authorization_at full counted.Entries tokens h authorization_local

pub roa_entry_local : {some : Bool} (full : Bool) (tokens : List Token) → IsText tokens → Local some (roa_entry_at full) tokens
unfolding roa_entry_at
roa_entry_local full tokens h =
    entry_by (λ x. counted_authorization_at full x) tokens h (counted_authorization_local _ tokens h)

pub named_brace_local : {some : Bool} (tokens : List Token) → IsText tokens → Local some named_brace_at tokens
unfolding named_brace_at
named_brace_local tokens h =
    then (λ x. name_at x) (λ name. mark_at (codes "{") name.1 >>= λ rest. Ok (name.0, rest)) tokens (name_local tokens h)
    (λ name t1 h1. mark_then _ (λ rest. Ok (name, rest)) t1 h1 (λ t2 h2. stays _ t2 h2))

prefix_set_local : {some : Bool} (room : Room) (tokens : List Token) → IsText tokens → Local some (prefix_set_at room) tokens
unfolding prefix_set_at
prefix_set_local room tokens h =
    then named_brace_at (λ name. list_at prefix_entry_at room.entries name.1 >>= λ entries. Ok (says.PrefixSet name.0 entries.0, entries.1)) tokens (named_brace_local tokens h)
    (λ name t1 h1. then (list_at prefix_entry_at room.entries) (λ entries. Ok (says.PrefixSet name entries.0, entries.1)) t1 (list_local prefix_entry_at prefix_entry_local room.entries t1 h1) (λ entries t2 h2. stays _ t2 h2))

as_set_local : {some : Bool} (room : Room) (tokens : List Token) → IsText tokens → Local some (as_set_at room) tokens
unfolding as_set_at
as_set_local room tokens h =
    then named_brace_at (λ name. list_at number_entry_at room.entries name.1 >>= λ entries. Ok (says.AsSet name.0 entries.0, entries.1)) tokens (named_brace_local tokens h)
    (λ name t1 h1. then (list_at number_entry_at room.entries) (λ entries. Ok (says.AsSet name entries.0, entries.1)) t1 (list_local number_entry_at number_entry_local room.entries t1 h1) (λ entries t2 h2. stays _ t2 h2))

origin_set_local : {some : Bool} (room : Room) (tokens : List Token) → IsText tokens → Local some (origin_set_at room) tokens
unfolding origin_set_at
origin_set_local room tokens h =
    then named_brace_at (λ name. list_at roa_entry_at room.entries name.1 >>= λ entries. Ok (says.OriginSet name.0 entries.0, entries.1)) tokens (named_brace_local tokens h)
    (λ name t1 h1. then (list_at roa_entry_at room.entries) (λ entries. Ok (says.OriginSet name entries.0, entries.1)) t1 (list_local roa_entry_at roa_entry_local room.entries t1 h1) (λ entries t2 h2. stays _ t2 h2))

roa_set_local : {some : Bool} (room : Room) (tokens : List Token) → IsText tokens → Local some (roa_set_at room) tokens
unfolding roa_set_at
roa_set_local room tokens h =
    mark_then _ (λ rest. list_at roa_entry_at room.entries rest >>= λ entries. Ok (says.RoaSet entries.0, entries.1)) tokens h
    (λ t1 h1. then (list_at roa_entry_at room.entries) (λ entries. Ok (says.RoaSet entries.0, entries.1)) t1 (list_local roa_entry_at roa_entry_local room.entries t1 h1) (λ entries t2 h2. stays _ t2 h2))

pub network_body_local : {some : Bool} (tokens : List Token) → IsText tokens → Local some network_body_at tokens
unfolding network_body_at
network_body_local tokens h =
    then (λ x. prefix_at x) (λ prefix. optional_set_at places.Network prefix.1 >>= λ set. Ok (says.Network prefix.0 set.0, set.1)) tokens (prefix_local tokens h)
    (λ prefix t1 h1. then (λ x. optional_set_at places.Network x) (λ set. Ok (says.Network prefix set.0, set.1)) t1 (optional_set_local _ t1 h1)
    (λ set t2 h2. stays _ t2 h2))

pub network_local : {some : Bool} (tokens : List Token) → IsText tokens → Local some network_at tokens
unfolding network_at
network_local tokens h =
    one_of (λ x. word_in (codes "inet" ∷ codes "inet6" ∷ codes "prefix-set" ∷ []) x) (λ x. fails NotInProfile x) _ tokens (word_in_first _)
    (λ e1. fails_here _ tokens h)
    (λ e1. network_body_local tokens h)

pub neighbour_statement_local : {some : Bool} (room : Room) (tokens : List Token) → IsText tokens → Begun tokens → Local some (neighbour_statement_at room) tokens
unfolding neighbour_statement_at
neighbour_statement_local room tokens h b =
    then (λ x. neighbour_at (room.neighbours == 0) x) (λ neighbour. Ok (says.Neighbour neighbour.0, neighbour.1)) tokens (neighbour_local _ tokens h b)
    (λ neighbour t1 h1. stays _ t1 h1)

pub group_statement_local : {some : Bool} (room : Room) (tokens : List Token) → IsText tokens → Local some (group_statement_at room) tokens
unfolding group_statement_at
group_statement_local room tokens h =
    then (λ x. group_at room.neighbours x) (λ group. Ok (says.Group group.0, group.1)) tokens (group_local _ tokens h)
    (λ group t1 h1. stays _ t1 h1)

pub rule_statement_local : {some : Bool} (room : Room) (action : Action) (tokens : List Token) → IsText tokens → Begun tokens → Local some (rule_statement_at room action) tokens
unfolding rule_statement_at
rule_statement_local room action tokens h b =
    unless (λ x. rule_at room.rules action (behind x) >>= λ rule. Ok (says.Rule rule.0, rule.1)) _ _ tokens h (then (λ x. rule_at room.rules action (behind x)) (λ rule. Ok (says.Rule rule.0, rule.1)) tokens (past (rule_at room.rules action) tokens b (rule_local _ _))
    (λ rule t1 h1. stays _ t1 h1))

pub rule_word_local : {some : Bool} (room : Room) (tokens : List Token) → IsText tokens → Local some (rule_word_at room) tokens
unfolding rule_word_at
rule_word_local room tokens h =
    one_of (λ x. word_is (codes "allow") x) (λ x. rule_statement_at room actions.Allow x) _ tokens (word_is_first _)
    (λ e1. rule_statement_local _ _ tokens h (word_begun _ tokens h e1))
    (λ e1. one_of (λ x. word_is (codes "deny") x) (λ x. rule_statement_at room actions.Deny x) _ tokens (word_is_first _)
    (λ e2. rule_statement_local _ _ tokens h (word_begun _ tokens h e2))
    (λ e2. one_of (λ x. word_is (codes "match") x) (λ x. rule_statement_at room actions.Match x) _ tokens (word_is_first _)
    (λ e3. rule_statement_local _ _ tokens h (word_begun _ tokens h e3))
    (λ e3. one_of (λ x. word_in left_out_statements x) (λ x. fails NotInProfile x) _ tokens (word_in_first _)
    (λ e4. fails_here _ tokens h)
    (λ e4. fails_here _ tokens h))))

pub peer_word_local : {some : Bool} (room : Room) (tokens : List Token) → IsText tokens → Local some (peer_word_at room) tokens
unfolding peer_word_at
peer_word_local room tokens h =
    one_of (λ x. word_is (codes "network") x) (λ x. unless_full (room.networks == 0) counted.Networks x (network_at (behind x))) _ tokens (word_is_first _)
    (λ e1. unless (λ x. network_at (behind x)) _ _ tokens h (past network_at tokens (word_begun _ tokens h e1) network_local))
    (λ e1. one_of (λ x. word_is (codes "neighbor") x) (λ x. neighbour_statement_at room x) _ tokens (word_is_first _)
    (λ e2. neighbour_statement_local _ tokens h (word_begun _ tokens h e2))
    (λ e2. one_of (λ x. word_is (codes "group") x) (λ x. unless_full (room.groups == 0) counted.Groups x (group_statement_at room (behind x))) _ tokens (word_is_first _)
    (λ e3. unless (λ x. group_statement_at room (behind x)) _ _ tokens h (past (group_statement_at room) tokens (word_begun _ tokens h e3) (group_statement_local _)))
    (λ e3. rule_word_local _ tokens h)))

pub set_word_local : {some : Bool} (room : Room) (tokens : List Token) → IsText tokens → Local some (set_word_at room) tokens
unfolding set_word_at
set_word_local room tokens h =
    one_of (λ x. word_is (codes "prefix-set") x) (λ x. prefix_set_at room (behind x)) _ tokens (word_is_first _)
    (λ e1. past (prefix_set_at room) tokens (word_begun _ tokens h e1) (prefix_set_local _))
    (λ e1. one_of (λ x. word_is (codes "as-set") x) (λ x. as_set_at room (behind x)) _ tokens (word_is_first _)
    (λ e2. past (as_set_at room) tokens (word_begun _ tokens h e2) (as_set_local _))
    (λ e2. one_of (λ x. word_is (codes "origin-set") x) (λ x. origin_set_at room (behind x)) _ tokens (word_is_first _)
    (λ e3. past (origin_set_at room) tokens (word_begun _ tokens h e3) (origin_set_local _))
    (λ e3. one_of (λ x. word_is (codes "roa-set") x) (λ x. roa_set_at room (behind x)) _ tokens (word_is_first _)
    (λ e4. past (roa_set_at room) tokens (word_begun _ tokens h e4) (roa_set_local _))
    (λ e4. peer_word_local _ tokens h))))

pub engine_word_local : {some : Bool} (room : Room) (tokens : List Token) → IsText tokens → Local some (engine_word_at room) tokens
unfolding engine_word_at
engine_word_local room tokens h =
    one_of (λ x. word_is (codes "nexthop") x) (λ x. qualify_at (behind x)) _ tokens (word_is_first _)
    (λ e1. past qualify_at tokens (word_begun _ tokens h e1) qualify_local)
    (λ e1. one_of (λ x. word_is (codes "rde") x) (λ x. rde_at room (behind x)) _ tokens (word_is_first _)
    (λ e2. past (rde_at room) tokens (word_begun _ tokens h e2) (rde_local _))
    (λ e2. one_of (λ x. word_is (codes "socket") x) (λ x. socket_at (behind x)) _ tokens (word_is_first _)
    (λ e3. past socket_at tokens (word_begun _ tokens h e3) socket_local)
    (λ e3. one_of (λ x. word_is (codes "listen") x) (λ x. unless_full (room.listens == 0) counted.Listens x (listen_at (behind x))) _ tokens (word_is_first _)
    (λ e4. unless (λ x. listen_at (behind x)) _ _ tokens h (past listen_at tokens (word_begun _ tokens h e4) listen_local))
    (λ e4. set_word_local _ tokens h))))

pub statement_local : {some : Bool} (room : Room) (tokens : List Token) → IsText tokens → Local some (statement_at room) tokens
unfolding statement_at
statement_local room tokens h =
    one_of (λ x. word_is (codes "AS") x) (λ x. as_statement_at (behind x)) _ tokens (word_is_first _)
    (λ e1. past as_statement_at tokens (word_begun _ tokens h e1) as_statement_local)
    (λ e1. one_of (λ x. word_is (codes "router-id") x) (λ x. router_id_at (behind x)) _ tokens (word_is_first _)
    (λ e2. past router_id_at tokens (word_begun _ tokens h e2) router_id_local)
    (λ e2. one_of (λ x. word_is (codes "holdtime") x) (λ x. any_hold_statement_at (behind x)) _ tokens (word_is_first _)
    (λ e3. past any_hold_statement_at tokens (word_begun _ tokens h e3) any_hold_statement_local)
    (λ e3. one_of (λ x. word_is (codes "fib-update") x) (λ x. fib_update_at (behind x)) _ tokens (word_is_first _)
    (λ e4. past fib_update_at tokens (word_begun _ tokens h e4) fib_update_local)
    (λ e4. engine_word_local _ tokens h))))
