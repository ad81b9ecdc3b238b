-- Printed lines of rules are read back.
use Rattle.std.proofs.Common.{◌≡◌, ◌∙◌, ℕ, zero, suc, ◌-◌, ◌/◌, ◌<◌, ◌≤◌, Bool, true, false, ◌||◌, eqb, List, [], ◌∷◌, ◌++◌, length, length-append, append_assoc, map, codes, Option, Some, None, option_map, Ok, refl, ap, arith}
use Rattle.std.proofs.lemmas.Bool.Decides.{nat_tests}
use Rattle.net_base.specs.declared.addr.Family.TheVariants.{V4, V6}
use Rattle.conf_tree.specs.declared.token.Token.{Token}
use Rattle.conf_tree.specs.declared.conf.Conf.{Conf}
use Rattle.conf_tree.specs.declared.draft.RuleBlock.{RuleBlock}
use Rattle.conf_tree.specs.declared.draft.Statement.TheVariants as says
use Rattle.conf_tree.specs.declared.rule.Action.{Action}
use Rattle.conf_tree.specs.declared.rule.Action.TheVariants.{Allow, Deny, Match}
use Rattle.conf_tree.specs.declared.rule.Direction.{Direction}
use Rattle.conf_tree.specs.declared.rule.Direction.TheVariants.{From, To}
use Rattle.conf_tree.specs.declared.rule.PathPart.TheVariants as parts
use Rattle.conf_tree.specs.declared.rule.Peer.{Peer}
use Rattle.conf_tree.specs.declared.rule.Peer.TheVariants as peers
use Rattle.conf_tree.specs.declared.rule.Condition.{Condition}
use Rattle.conf_tree.specs.declared.rule.Condition.TheVariants as conditions
use Rattle.conf_tree.specs.declared.rule.Item.{Item}
use Rattle.conf_tree.specs.declared.rule.Rule.{Rule}
use Rattle.conf_tree.specs.Reading.{text_of, word_is, ends_line, keyword_at, unless_full, one_or_list_at}
use Rattle.conf_tree.specs.RuleReading.{Lists, peer_at, most_conditions, ends_conditions, conditions_at, place_of, rule_body_at, rib_rule_at, directed_rule_at, rule_at}
use Rattle.conf_tree.specs.StatementReading.{Room, rule_statement_at, rule_word_at, peer_word_at, set_word_at, engine_word_at, statement_at}
use Rattle.conf_tree.specs.Canonical.{rib_name, action_word, direction_word}
use Rattle.conf_tree.specs.Readable.{Each, IsPeer, IsCondition, IsRuleRib, IsRule}
use Rattle.conf_tree.specs.CanonicalDraft.{condition_block, rule_block}
use Rattle.conf_round.proofs.Pieces.{Piece, line_tokens, line_finish}
use Rattle.conf_round.proofs.Lines.{first, word}
use Rattle.conf_round.proofs.ItemLines.{behind_pieces}
use Rattle.conf_round.proofs.RuleLines.{peer_pieces, condition_pieces, conditions_pieces, quick_pieces, rule_rib_pieces, head_rest, rule_pieces}
use Rattle.conf_round.proofs.ReadTexts.{name_back}
use Rattle.conf_round.proofs.ReadLists.{starts_word, no_mark, tokens_append}
use Rattle.conf_round.proofs.ReadStatements.{LineBack, no_word, set_back}
use Rattle.conf_round.proofs.ReadRules.{peer_back, condition_back}

-- ---- conditions

-- the first word of a condition ends no conditions, and isn't `or-longer`
goes_on : (conf : Conf) (c : Condition) (line at : ℕ) (rest : List Token) → ends_conditions (line_tokens line at (condition_pieces conf c) ++ rest) ≡ false
unfolding ends_conditions word_is text_of ends_line
goes_on conf (conditions.Prefix range) line at rest = refl
goes_on conf (conditions.PrefixSet set) line at rest = refl
goes_on conf (conditions.PrefixSetOrLonger set) line at rest = refl
goes_on conf (conditions.PathNumber parts.Any asn) line at rest = refl
goes_on conf (conditions.PathNumber parts.Source asn) line at rest = refl
goes_on conf (conditions.PathNumber parts.Transit asn) line at rest = refl
goes_on conf (conditions.PathNumber parts.Peer asn) line at rest = refl
goes_on conf (conditions.PathSet parts.Any set) line at rest = refl
goes_on conf (conditions.PathSet parts.Source set) line at rest = refl
goes_on conf (conditions.PathSet parts.Transit set) line at rest = refl
goes_on conf (conditions.PathSet parts.Peer set) line at rest = refl
goes_on conf (conditions.OriginSet set) line at rest = refl
goes_on conf (conditions.Ovs ovs) line at rest = refl
goes_on conf (conditions.Community pattern) line at rest = refl
goes_on conf (conditions.LargeCommunity pattern) line at rest = refl
goes_on conf (conditions.MaxAsLen most) line at rest = refl
goes_on conf (conditions.NextHop address) line at rest = refl
goes_on conf (conditions.Family V4) line at rest = refl
goes_on conf (conditions.Family V6) line at rest = refl

not_longer : (conf : Conf) (c : Condition) (line at : ℕ) (rest : List Token) → word_is (codes "or-longer") (line_tokens line at (condition_pieces conf c) ++ rest) ≡ false
unfolding word_is text_of
not_longer conf (conditions.Prefix range) line at rest = refl
not_longer conf (conditions.PrefixSet set) line at rest = refl
not_longer conf (conditions.PrefixSetOrLonger set) line at rest = refl
not_longer conf (conditions.PathNumber parts.Any asn) line at rest = refl
not_longer conf (conditions.PathNumber parts.Source asn) line at rest = refl
not_longer conf (conditions.PathNumber parts.Transit asn) line at rest = refl
not_longer conf (conditions.PathNumber parts.Peer asn) line at rest = refl
not_longer conf (conditions.PathSet parts.Any set) line at rest = refl
not_longer conf (conditions.PathSet parts.Source set) line at rest = refl
not_longer conf (conditions.PathSet parts.Transit set) line at rest = refl
not_longer conf (conditions.PathSet parts.Peer set) line at rest = refl
not_longer conf (conditions.OriginSet set) line at rest = refl
not_longer conf (conditions.Ovs ovs) line at rest = refl
not_longer conf (conditions.Community pattern) line at rest = refl
not_longer conf (conditions.LargeCommunity pattern) line at rest = refl
not_longer conf (conditions.MaxAsLen most) line at rest = refl
not_longer conf (conditions.NextHop address) line at rest = refl
not_longer conf (conditions.Family V4) line at rest = refl
not_longer conf (conditions.Family V6) line at rest = refl

-- the tokens of a condition, and of those behind it
then_tokens : (line at : ℕ) (ps qs : List Piece) (rest : List Token) → line_tokens line at (ps ++ qs) ++ rest ≡ line_tokens line at ps ++ (line_tokens line (line_finish at ps) qs ++ rest)
then_tokens line at ps qs rest = ap (λ (ts : List Token). ts ++ rest) (tokens_append line at ps qs) ∙ append_assoc (line_tokens line at ps) (line_tokens line (line_finish at ps) qs) rest

none_longer : (conf : Conf) (cs : List Condition) (line at : ℕ) (rest : List Token) → word_is (codes "or-longer") rest ≡ false → word_is (codes "or-longer") (line_tokens line at (conditions_pieces conf cs) ++ rest) ≡ false
none_longer conf [] line at rest e = e
none_longer conf (c ∷ cs) line at rest e =
    ap (word_is (codes "or-longer")) (then_tokens line at (condition_pieces conf c) (conditions_pieces conf cs) rest)
    ∙ not_longer conf c line at (line_tokens line (line_finish at (condition_pieces conf c)) (conditions_pieces conf cs) ++ rest)

has_room : (room n : ℕ) → suc n ≤ room → eqb room 0 ≡ false
has_room room n h = grind (arith, nat_tests)

conditions_back : (conf : Conf) (lists : Lists) (room n line at : ℕ) (cs : List Condition) (rest : List Token) → Each (IsCondition conf) cs → length cs ≤ room → length cs ≤ n → ends_conditions rest ≡ true → word_is (codes "or-longer") rest ≡ false
    → conditions_at lists room n (line_tokens line at (conditions_pieces conf cs) ++ rest) ≡ Ok (map (condition_block conf) cs, rest)
unfolding conditions_at
conditions_back conf lists room zero line at [] rest h fits fuel ends longer = rw ends refl
conditions_back conf lists room (suc n) line at [] rest h fits fuel ends longer = rw ends refl
conditions_back conf lists room zero line at (c ∷ cs) rest h fits fuel ends longer = absurd (omega arith)
conditions_back conf lists room (suc n) line at (c ∷ cs) rest h fits fuel ends longer =
    let at' : ℕ = line_finish at (condition_pieces conf c) in
    let next : List Token = line_tokens line at' (conditions_pieces conf cs) ++ rest in
    rw (then_tokens line at (condition_pieces conf c) (conditions_pieces conf cs) rest)
    (rw (goes_on conf c line at next)
    (rw (has_room room (length cs) fits)
    (rw (condition_back conf c h.0 lists line at next (none_longer conf cs line at' rest longer))
    (rw (conditions_back conf lists (room - 1) n line at' cs rest h.1 (omega (arith, fits)) (omega (arith, fuel)) ends longer) refl))))

-- ---- the set behind them

or_true : (b : Bool) → (b || true) ≡ true
or_true true = refl
or_true false = refl

line_ends : (rest : List Token) → ends_line rest ≡ true → ends_conditions rest ≡ true
unfolding ends_conditions
line_ends rest e = rw e (or_true (word_is (codes "set") rest))

word_ends : (line at : ℕ) (item : Item) (set : List Item) (rest : List Token) → ends_conditions (line_tokens line at (behind_pieces (item ∷ set)) ++ rest) ≡ true
unfolding ends_conditions word_is text_of
word_ends line at item set rest = refl

set_ends : (line at : ℕ) (set : List Item) (rest : List Token) → ends_line rest ≡ true → ends_conditions (line_tokens line at (behind_pieces set) ++ rest) ≡ true
set_ends line at [] rest e = line_ends rest e
set_ends line at (item ∷ set) rest e = word_ends line at item set rest

set_word : (line at : ℕ) (item : Item) (set : List Item) (rest : List Token) → word_is (codes "or-longer") (line_tokens line at (behind_pieces (item ∷ set)) ++ rest) ≡ false
unfolding word_is text_of
set_word line at item set rest = refl

set_not_longer : (line at : ℕ) (set : List Item) (rest : List Token) → ends_line rest ≡ true → word_is (codes "or-longer") (line_tokens line at (behind_pieces set) ++ rest) ≡ false
set_not_longer line at [] rest e = no_word (codes "or-longer") rest e
set_not_longer line at (item ∷ set) rest e = set_word line at item set rest

peer_starts : (peer : Peer) (line at : ℕ) (rest : List Token) → starts_word (line_tokens line at (peer_pieces peer) ++ rest) ≡ true
peer_starts peers.Any line at rest = refl
peer_starts peers.Ebgp line at rest = refl
peer_starts peers.Ibgp line at rest = refl
peer_starts (peers.Address address) line at rest = refl
peer_starts (peers.Group name) line at rest = refl
peer_starts (peers.As asn) line at rest = refl

one_peer : (room : ℕ) (peer : Peer) (line at : ℕ) (rest : List Token) → IsPeer peer → one_or_list_at peer_at room (line_tokens line at (peer_pieces peer) ++ rest) ≡ Ok (peer ∷ [], rest)
unfolding one_or_list_at
one_peer room peer line at rest h = rw (no_mark (codes "{") (line_tokens line at (peer_pieces peer) ++ rest) (peer_starts peer line at rest)) (rw (peer_back peer h line at rest) refl)

abbrev behind_peer : Conf → Rule → List Piece
behind_peer conf r = conditions_pieces conf r.conditions ++ behind_pieces r.set

some_tokens : (conf : Conf) (c : Condition) (line at : ℕ) → 0 < length (line_tokens line at (condition_pieces conf c))
some_tokens conf (conditions.Prefix range) line at = omega arith
some_tokens conf (conditions.PrefixSet set) line at = omega arith
some_tokens conf (conditions.PrefixSetOrLonger set) line at = omega arith
some_tokens conf (conditions.PathNumber part asn) line at = omega arith
some_tokens conf (conditions.PathSet part set) line at = omega arith
some_tokens conf (conditions.OriginSet set) line at = omega arith
some_tokens conf (conditions.Ovs ovs) line at = omega arith
some_tokens conf (conditions.Community pattern) line at = omega arith
some_tokens conf (conditions.LargeCommunity pattern) line at = omega arith
some_tokens conf (conditions.MaxAsLen most) line at = omega arith
some_tokens conf (conditions.NextHop address) line at = omega arith
some_tokens conf (conditions.Family family) line at = omega arith

few_tokens : (conf : Conf) (cs : List Condition) (line at : ℕ) (rest : List Token) → length cs ≤ length (line_tokens line at (conditions_pieces conf cs) ++ rest)
few_tokens conf [] line at rest = omega arith
few_tokens conf (c ∷ cs) line at rest =
    let at' : ℕ = line_finish at (condition_pieces conf c) in
    omega (arith, few_tokens conf cs line at' rest, ap length (then_tokens line at (condition_pieces conf c) (conditions_pieces conf cs) rest), length-append (line_tokens line at (condition_pieces conf c)) (line_tokens line at' (conditions_pieces conf cs) ++ rest), some_tokens conf c line at)

body_here : (conf : Conf) (room : ℕ) (r : Rule) (rib : Option (List ℕ)) (line at at' at'' : ℕ) (rest : List Token) → IsRule conf r → ends_line rest ≡ true
    → rule_body_at room r.action r.quick rib r.direction (line_tokens line at (peer_pieces r.peer) ++ (line_tokens line at' (conditions_pieces conf r.conditions) ++ (line_tokens line at'' (behind_pieces r.set) ++ rest)))
    ≡ Ok (record (rule_block conf r) { rib = rib }, rest)
unfolding rule_body_at
body_here conf room r rib line at at' at'' rest h e =
    let sets : List Token = line_tokens line at'' (behind_pieces r.set) ++ rest in
    let found : List Token = line_tokens line at' (conditions_pieces conf r.conditions) ++ sets in
    rw (one_peer room r.peer line at found h.peer)
    (rw (conditions_back conf (record { room = room / 1; prefixes = false; numbers = false }) most_conditions (length found) line at' r.conditions sets h.conditions h.few (few_tokens conf r.conditions line at' sets) (set_ends line at'' r.set rest e) (set_not_longer line at'' r.set rest e))
    (rw (set_back (place_of r.direction) line at'' r.set rest h.set e) refl))

body_back : (conf : Conf) (room : ℕ) (r : Rule) (rib : Option (List ℕ)) (line at : ℕ) (rest : List Token) → IsRule conf r → ends_line rest ≡ true
    → rule_body_at room r.action r.quick rib r.direction (line_tokens line at (peer_pieces r.peer ++ behind_peer conf r) ++ rest) ≡ Ok (record (rule_block conf r) { rib = rib }, rest)
body_back conf room r rib line at rest h e =
    let at' : ℕ = line_finish at (peer_pieces r.peer) in
    let at'' : ℕ = line_finish at' (conditions_pieces conf r.conditions) in
    ap (rule_body_at room r.action r.quick rib r.direction)
    (then_tokens line at (peer_pieces r.peer) (behind_peer conf r) rest
    ∙ ap (λ (ts : List Token). line_tokens line at (peer_pieces r.peer) ++ ts) (then_tokens line at' (conditions_pieces conf r.conditions) (behind_pieces r.set) rest))
    ∙ body_here conf room r rib line at at' at'' rest h e

-- ---- a line of a rule

directed_back : (conf : Conf) (room : ℕ) (action : Action) (quick : Bool) (rib : Option ℕ) (direction : Direction) (ps : List Piece) (block : Option (List ℕ) → RuleBlock) (line at : ℕ) (rest : List Token) → IsRuleRib conf direction rib
    → ((name : Option (List ℕ)) (at : ℕ) → rule_body_at room action quick name direction (line_tokens line at ps ++ rest) ≡ Ok (block name, rest))
    → directed_rule_at room action quick (line_tokens line at (rule_rib_pieces conf rib ++ (word (direction_word direction) ∷ ps)) ++ rest) ≡ Ok (block (option_map (rib_name conf) rib), rest)
unfolding directed_rule_at word_is text_of rib_rule_at keyword_at
directed_back conf room action quick None From ps block line at rest h body = body None _
directed_back conf room action quick None To ps block line at rest h body = body None _
directed_back conf room action quick (Some number) From ps block line at rest h body =
    rw (name_back (rib_name conf number) line _ _ (line_tokens line _ (word (codes "from") ∷ ps) ++ rest) h) (body (Some (rib_name conf number)) _)
directed_back conf room action quick (Some number) To ps block line at rest h body = absurd h

not_quick : (conf : Conf) (rib : Option ℕ) (direction : Direction) (ps : List Piece) (line at : ℕ) (rest : List Token)
    → word_is (codes "quick") (line_tokens line at (rule_rib_pieces conf rib ++ (word (direction_word direction) ∷ ps)) ++ rest) ≡ false
unfolding word_is text_of
not_quick conf None From ps line at rest = refl
not_quick conf None To ps line at rest = refl
not_quick conf (Some number) direction ps line at rest = refl

quick_back : (conf : Conf) (room : ℕ) (action : Action) (rib : Option ℕ) (direction : Direction) (ps : List Piece) (block : Option (List ℕ) → RuleBlock) (line at : ℕ) (rest : List Token) → IsRuleRib conf direction rib
    → ((name : Option (List ℕ)) (at : ℕ) → rule_body_at room action true name direction (line_tokens line at ps ++ rest) ≡ Ok (block name, rest))
    → rule_at room action (line_tokens line at (word (codes "quick") ∷ (rule_rib_pieces conf rib ++ (word (direction_word direction) ∷ ps))) ++ rest) ≡ Ok (block (option_map (rib_name conf) rib), rest)
unfolding rule_at word_is text_of
quick_back conf room action rib direction ps block line at rest h body = directed_back conf room action true rib direction ps block line _ rest h body

slow_back : (conf : Conf) (room : ℕ) (action : Action) (rib : Option ℕ) (direction : Direction) (ps : List Piece) (block : Option (List ℕ) → RuleBlock) (line at : ℕ) (rest : List Token) → IsRuleRib conf direction rib
    → ((name : Option (List ℕ)) (at : ℕ) → rule_body_at room action false name direction (line_tokens line at ps ++ rest) ≡ Ok (block name, rest))
    → rule_at room action (line_tokens line at (rule_rib_pieces conf rib ++ (word (direction_word direction) ∷ ps)) ++ rest) ≡ Ok (block (option_map (rib_name conf) rib), rest)
unfolding rule_at
slow_back conf room action rib direction ps block line at rest h body = rw (not_quick conf rib direction ps line at rest) (directed_back conf room action false rib direction ps block line at rest h body)

either_back : (conf : Conf) (room : ℕ) (action : Action) (quick : Bool) (rib : Option ℕ) (direction : Direction) (ps : List Piece) (block : Option (List ℕ) → RuleBlock) (line at : ℕ) (rest : List Token) → IsRuleRib conf direction rib
    → ((name : Option (List ℕ)) (at : ℕ) → rule_body_at room action quick name direction (line_tokens line at ps ++ rest) ≡ Ok (block name, rest))
    → rule_at room action (line_tokens line at (quick_pieces quick ++ (rule_rib_pieces conf rib ++ (word (direction_word direction) ∷ ps))) ++ rest) ≡ Ok (block (option_map (rib_name conf) rib), rest)
either_back conf room action true rib direction ps block line at rest h body = quick_back conf room action rib direction ps block line at rest h body
either_back conf room action false rib direction ps block line at rest h body = slow_back conf room action rib direction ps block line at rest h body

regrouped : (q r p b : List Piece) (d : Piece) → (q ++ (r ++ (d ∷ p))) ++ b ≡ q ++ (r ++ (d ∷ (p ++ b)))
regrouped q r p b d = append_assoc q (r ++ (d ∷ p)) b ∙ ap (λ (l : List Piece). q ++ l) (append_assoc r (d ∷ p) b)

rule_said : (conf : Conf) (room : ℕ) (r : Rule) (line at : ℕ) (rest : List Token) → IsRule conf r → ends_line rest ≡ true → rule_at room r.action (line_tokens line at (head_rest conf r ++ behind_peer conf r) ++ rest) ≡ Ok (rule_block conf r, rest)
rule_said conf room r line at rest h e =
    ap (λ (ps : List Piece). rule_at room r.action (line_tokens line at ps ++ rest)) (regrouped (quick_pieces r.quick) (rule_rib_pieces conf r.rib) (peer_pieces r.peer) (behind_peer conf r) (word (direction_word r.direction)))
    ∙ either_back conf room r.action r.quick r.rib r.direction (peer_pieces r.peer ++ behind_peer conf r) (λ name. record (rule_block conf r) { rib = name }) line at rest h.rib (λ name at. body_back conf room r name line at rest h e)

action_word_is : (room : Room) (action : Action) (ps : List Piece) (line at : ℕ) (rest : List Token)
    → statement_at room (line_tokens line at (first (action_word action) ∷ ps) ++ rest) ≡ rule_statement_at room action (line_tokens line at (first (action_word action) ∷ ps) ++ rest)
unfolding statement_at engine_word_at set_word_at peer_word_at rule_word_at word_is text_of
action_word_is room Allow ps line at rest = refl
action_word_is room Deny ps line at rest = refl
action_word_is room Match ps line at rest = refl

rule_here : (conf : Conf) (room : Room) (r : Rule) (line at : ℕ) (rest : List Token) → IsRule conf r → eqb room.rules 0 ≡ false → ends_line rest ≡ true
    → rule_statement_at room r.action (line_tokens line at (rule_pieces conf r) ++ rest) ≡ Ok (says.Rule (rule_block conf r), rest)
unfolding rule_statement_at unless_full
rule_here conf room r line at rest h free e = rw free (rw (rule_said conf room.rules r line _ rest h e) refl)

pub rule_back : (conf : Conf) (room : Room) (r : Rule) → IsRule conf r → eqb room.rules 0 ≡ false → LineBack room (rule_pieces conf r) (says.Rule (rule_block conf r))
rule_back conf room r h free line at rest e = action_word_is room r.action (head_rest conf r ++ behind_peer conf r) line at rest ∙ rule_here conf room r line at rest h free e
