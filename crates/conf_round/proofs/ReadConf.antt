-- The statements of a canonical text are read back in the room that they have.
use Rattle.std.proofs.Common.{◌≡◌, ◌∙◌, ℕ, suc, ◌+◌, ◌-◌, ◌≤◌, Bool, true, false, eqb, List, [], ◌∷◌, ◌++◌, length, append_assoc, append-nil, map, flat_map, filter, codes, Ok, refl, ap, sym, subst, arith}
use Rattle.std.proofs.lemmas.Bool.Decides.{nat_tests}
use Rattle.net_base.specs.declared.roa.Roa.{Roa}
use Rattle.conf_tree.specs.declared.token.Token.{Token}
use Rattle.conf_tree.specs.declared.conf.Conf.{Conf}
use Rattle.conf_tree.specs.declared.conf.Listen.{Listen}
use Rattle.conf_tree.specs.declared.conf.Network.{Network}
use Rattle.conf_tree.specs.declared.conf.Rib.{Rib}
use Rattle.conf_tree.specs.declared.draft.Statement.{Statement}
use Rattle.conf_tree.specs.declared.draft.Statement.TheVariants as says
use Rattle.conf_tree.specs.declared.neighbour.Neighbour.{Neighbour}
use Rattle.conf_tree.specs.declared.rule.Condition.{Condition}
use Rattle.conf_tree.specs.declared.rule.Condition.TheVariants as conditions
use Rattle.conf_tree.specs.declared.rule.Rule.{Rule}
use Rattle.conf_tree.specs.declared.sets.PrefixSetConf.{PrefixSetConf}
use Rattle.conf_tree.specs.declared.sets.AsSetConf.{AsSetConf}
use Rattle.conf_tree.specs.declared.sets.OriginSetConf.{OriginSetConf}
use Rattle.conf_tree.specs.RuleReading.{factor, factors, flat_rules_of}
use Rattle.conf_tree.specs.StatementReading.{Room, all_room, room_behind}
use Rattle.conf_tree.specs.Canonical.{is_alone, is_of_group, group_names}
use Rattle.conf_tree.specs.Readable.{Each, IsGroupName, IsListen, IsRib, IsPrefixSet, IsAsSet, IsOriginSet, IsRoa, IsNetwork, IsNeighbour, IsRule, IsReadable, members_of, total, entries_of, IsWithinLimits}
use Rattle.conf_tree.specs.CanonicalDraft.{condition_block, rule_block, block_of}
use Rattle.conf_round.proofs.Pieces.{Piece, line_finish}
use Rattle.conf_round.proofs.SetLines.{as_pieces, router_id_pieces, hold_pieces, hold_min_pieces, fib_update_pieces, qualify_pieces, med_pieces, socket_pieces, listen_pieces, rib_pieces, head_pieces, range_pieces, number_pieces, roa_pieces, set_lines, prefix_set_lines, as_set_lines, origin_set_lines, roa_set_lines, network_pieces}
use Rattle.conf_round.proofs.RuleLines.{option_lines, neighbour_lines, group_lines, rule_pieces, canonical_lines}
use Rattle.conf_tree.proofs.Each.{each_filter}
use Rattle.conf_tree.proofs.GroupNames.{each_group}
use Rattle.conf_round.proofs.ReadOptions.{StartsLine}
use Rattle.conf_round.proofs.ReadStatements.{LineBack, as_back, router_id_back, hold_statement_back, hold_min_back, fib_update_back, qualify_back, med_compare_back, socket_back, listen_back, rib_back, network_back}
use Rattle.conf_round.proofs.ReadSets.{prefix_set_back, as_set_back, origin_set_back, roa_head, roa_set_back}
use Rattle.conf_round.proofs.ReadNeighbours.{next_line, blocks_read, neighbour_head, neighbour_statement_back, group_head, group_back}
use Rattle.conf_round.proofs.ReadRuleLines.{rule_back}
use Rattle.conf_round.proofs.ReadWhole.{Printed, lines_of, Says, SaysAll}
use Rattle.conf_round.proofs.ReadUnits.{line_says, any_line, block_says, after_map, members_after}

-- ---- the statements of a canonical text

abbrev pub one : List Piece → Statement → Printed
one l s = (l ∷ [], λ _. s)

abbrev pub qualify_printed : Bool → List Printed
qualify_printed true = one qualify_pieces says.QualifyDefault ∷ []
qualify_printed false = []

abbrev pub listen_printed : Listen → Printed
listen_printed l = one (listen_pieces l) (says.Listen l)

abbrev pub rib_printed : Rib → Printed
rib_printed r = one (rib_pieces r) (says.Rib r.name r.table)

abbrev pub prefix_set_printed : PrefixSetConf → Printed
prefix_set_printed s = (prefix_set_lines s, λ _. says.PrefixSet s.name s.entries)

abbrev pub as_set_printed : AsSetConf → Printed
as_set_printed s = (as_set_lines s, λ _. says.AsSet s.name s.numbers)

abbrev pub origin_set_printed : OriginSetConf → Printed
origin_set_printed s = (origin_set_lines s, λ _. says.OriginSet s.name s.entries)

abbrev pub roa_printed : List Roa → List Printed
roa_printed [] = []
roa_printed (r ∷ roas) = (roa_set_lines (r ∷ roas), λ _. says.RoaSet (r ∷ roas)) ∷ []

abbrev pub network_printed : Network → Printed
network_printed n = one (network_pieces n) (says.Network n.prefix n.set)

abbrev pub neighbour_printed : Conf → Neighbour → Printed
neighbour_printed conf n = (neighbour_lines conf n, λ line. says.Neighbour (block_of conf line n))

abbrev pub group_printed : Conf → List ℕ → Printed
group_printed conf name = (group_lines conf name, λ line. says.Group (record { name = name; options = []; neighbours = blocks_read conf (line + 1) (members_of conf name) }))

abbrev pub rule_printed : Conf → Rule → Printed
rule_printed conf r = one (rule_pieces conf r) (says.Rule (rule_block conf r))

abbrev pub printed_of : Conf → List Printed
printed_of conf =
    one (as_pieces conf.asn) (says.As conf.asn) ∷ one (router_id_pieces conf.router_id) (says.RouterId conf.router_id) ∷ one (hold_pieces conf.hold) (says.Hold conf.hold)
    ∷ one (hold_min_pieces conf.hold_min) (says.HoldMin conf.hold_min) ∷ one (fib_update_pieces conf.fib_update) (says.FibUpdate conf.fib_update)
    ∷ (qualify_printed conf.qualify_default ++ (one (med_pieces conf.med_always) (says.MedCompare conf.med_always) ∷ one (socket_pieces conf.socket) (says.Socket conf.socket)
    ∷ (map listen_printed conf.listen ++ (map rib_printed conf.ribs ++ (map prefix_set_printed conf.prefix_sets ++ (map as_set_printed conf.as_sets ++ (map origin_set_printed conf.origin_sets
    ++ (roa_printed conf.roas ++ (map network_printed conf.networks ++ (map (neighbour_printed conf) (filter is_alone conf.neighbours) ++ (map (group_printed conf) (group_names conf.neighbours) ++ map (rule_printed conf) conf.rules)))))))))))

-- ---- room

-- there is room for what is wanted
pub record Enough (room wanted : Room) : Type 0 where
  pub neighbours : wanted.neighbours ≤ room.neighbours
  pub groups : wanted.groups ≤ room.groups
  pub ribs : wanted.ribs ≤ room.ribs
  pub rules : wanted.rules ≤ room.rules
  pub networks : wanted.networks ≤ room.networks
  pub entries : wanted.entries ≤ room.entries
  pub listens : wanted.listens ≤ room.listens

has_room : (room n : ℕ) → suc n ≤ room → eqb room 0 ≡ false
has_room room n h = grind (arith, nat_tests)

-- another number of one kind, of which there is enough
with_neighbours : {room wanted : Room} (n m : ℕ) → Enough room wanted → n ≤ m → Enough (record room { neighbours = m }) (record wanted { neighbours = n })
with_neighbours n m h k = record { neighbours = k; groups = h.groups; ribs = h.ribs; rules = h.rules; networks = h.networks; entries = h.entries; listens = h.listens }

with_groups : {room wanted : Room} (n m : ℕ) → Enough room wanted → n ≤ m → Enough (record room { groups = m }) (record wanted { groups = n })
with_groups n m h k = record { neighbours = h.neighbours; groups = k; ribs = h.ribs; rules = h.rules; networks = h.networks; entries = h.entries; listens = h.listens }

with_ribs : {room wanted : Room} (n m : ℕ) → Enough room wanted → n ≤ m → Enough (record room { ribs = m }) (record wanted { ribs = n })
with_ribs n m h k = record { neighbours = h.neighbours; groups = h.groups; ribs = k; rules = h.rules; networks = h.networks; entries = h.entries; listens = h.listens }

with_rules : {room wanted : Room} (n m : ℕ) → Enough room wanted → n ≤ m → Enough (record room { rules = m }) (record wanted { rules = n })
with_rules n m h k = record { neighbours = h.neighbours; groups = h.groups; ribs = h.ribs; rules = k; networks = h.networks; entries = h.entries; listens = h.listens }

with_networks : {room wanted : Room} (n m : ℕ) → Enough room wanted → n ≤ m → Enough (record room { networks = m }) (record wanted { networks = n })
with_networks n m h k = record { neighbours = h.neighbours; groups = h.groups; ribs = h.ribs; rules = h.rules; networks = k; entries = h.entries; listens = h.listens }

with_entries : {room wanted : Room} (n m : ℕ) → Enough room wanted → n ≤ m → Enough (record room { entries = m }) (record wanted { entries = n })
with_entries n m h k = record { neighbours = h.neighbours; groups = h.groups; ribs = h.ribs; rules = h.rules; networks = h.networks; entries = k; listens = h.listens }

with_listens : {room wanted : Room} (n m : ℕ) → Enough room wanted → n ≤ m → Enough (record room { listens = m }) (record wanted { listens = n })
with_listens n m h k = record { neighbours = h.neighbours; groups = h.groups; ribs = h.ribs; rules = h.rules; networks = h.networks; entries = h.entries; listens = k }

-- statements of one kind, and then others, where each leaves the room that the next ones want
kind_says : {A : Type 0} (printed : A → Printed) (Fits : List A → Room → Type 0) → ((x : A) (xs : List A) (room : Room) → Fits (x ∷ xs) room → Says room (printed x))
    → ((x : A) (xs : List A) (room : Room) (line : ℕ) → Fits (x ∷ xs) room → Fits xs (room_behind room ((printed x).1 line))) → (us : List Printed) → ((room : Room) → Fits [] room → SaysAll room us)
    → (xs : List A) (room : Room) → Fits xs room → SaysAll room (map printed xs ++ us)
kind_says printed Fits says leaves us others [] room fits = others room fits
kind_says printed Fits says leaves us others (x ∷ xs) room fits = (says x xs room fits, λ line. kind_says printed Fits says leaves us others xs (room_behind room ((printed x).1 line)) (leaves x xs room line fits))

-- ---- listening addresses

abbrev ListensFit : Room → List Listen → Room → Type 0
ListensFit w xs room = Each IsListen xs × Enough room (record w { listens = length xs })

listens_leave : (w : Room) (x : Listen) (xs : List Listen) (room : Room) (line : ℕ) → ListensFit w (x ∷ xs) room → ListensFit w xs (room_behind room (says.Listen x))
unfolding room_behind
listens_leave w x xs room line fits = (fits.0.1, with_listens (length xs) (room.listens - 1) fits.1 (omega (arith, fits.1.listens)))

listens_says : (w : Room) (x : Listen) (xs : List Listen) (room : Room) → ListensFit w (x ∷ xs) room → Says room (listen_printed x)
listens_says w x xs room fits =
    line_says room (listen_pieces x) (says.Listen x) (any_line room (listen_pieces x) (says.Listen x) (listen_back room x fits.0.0 (has_room room.listens (length xs) fits.1.listens))) (λ line at rest. refl)

listens_say : (w : Room) (us : List Printed) → ((room : Room) → Enough room (record w { listens = 0 }) → SaysAll room us) → (xs : List Listen) (room : Room) → ListensFit w xs room → SaysAll room (map listen_printed xs ++ us)
listens_say w us others = kind_says listen_printed (ListensFit w) (listens_says w) (listens_leave w) us (λ room fits. others room fits.1)

-- ---- RIBs

abbrev RibsFit : Room → List Rib → Room → Type 0
RibsFit w xs room = Each IsRib xs × Enough room (record w { ribs = length xs })

ribs_leave : (w : Room) (x : Rib) (xs : List Rib) (room : Room) (line : ℕ) → RibsFit w (x ∷ xs) room → RibsFit w xs (room_behind room ((rib_printed x).1 line))
unfolding room_behind
ribs_leave w x xs room line fits = (fits.0.1, with_ribs (length xs) (room.ribs - 1) fits.1 (omega (arith, fits.1.ribs)))

ribs_says : (w : Room) (x : Rib) (xs : List Rib) (room : Room) → RibsFit w (x ∷ xs) room → Says room (rib_printed x)
ribs_says w x xs room fits = line_says room (rib_pieces x) (says.Rib x.name x.table) (rib_back room x fits.0.0 (has_room room.ribs (length xs) fits.1.ribs)) (λ line at rest. refl)

ribs_say : (w : Room) (us : List Printed) → ((room : Room) → Enough room (record w { ribs = 0 }) → SaysAll room us) → (xs : List Rib) (room : Room) → RibsFit w xs room → SaysAll room (map rib_printed xs ++ us)
ribs_say w us others = kind_says rib_printed (RibsFit w) (ribs_says w) (ribs_leave w) us (λ room fits. others room fits.1)

-- ---- sets: each takes the room of its entries, and those behind them want some too

no_entries : {room : Room} (w : Room) (e : ℕ) → Enough room (record w { entries = 0 + e }) → Enough room (record w { entries = e })
no_entries {room} w e h = with_entries e room.entries h (omega (arith, h.entries))

abbrev PrefixSetsFit : Room → ℕ → List PrefixSetConf → Room → Type 0
PrefixSetsFit w e xs room = Each IsPrefixSet xs × Enough room (record w { entries = total (λ s. length s.entries) xs + e })

prefix_sets_leave : (w : Room) (e : ℕ) (x : PrefixSetConf) (xs : List PrefixSetConf) (room : Room) (line : ℕ) → PrefixSetsFit w e (x ∷ xs) room → PrefixSetsFit w e xs (room_behind room ((prefix_set_printed x).1 line))
unfolding room_behind
prefix_sets_leave w e x xs room line fits = (fits.0.1, with_entries (total (λ (s : PrefixSetConf). length s.entries) xs + e) (room.entries - length x.entries) fits.1 (omega (arith, fits.1.entries)))

prefix_sets_says : (w : Room) (e : ℕ) (x : PrefixSetConf) (xs : List PrefixSetConf) (room : Room) → PrefixSetsFit w e (x ∷ xs) room → Says room (prefix_set_printed x)
prefix_sets_says w e x xs room fits = block_says room (head_pieces (codes "prefix-set") x.name) (map range_pieces x.entries) (λ _. says.PrefixSet x.name x.entries)
    (λ line at more. prefix_set_back room x fits.0.0 (omega (arith, fits.1.entries)) line at more ∙ ap (λ (ts : List Token). Ok (says.PrefixSet x.name x.entries, ts)) (after_map range_pieces (line + 1) (line_finish at (head_pieces (codes "prefix-set") x.name) + 1) x.entries more)) (λ line at rest. refl)

prefix_sets_say : (w : Room) (e : ℕ) (us : List Printed) → ((room : Room) → Enough room (record w { entries = e }) → SaysAll room us) → (xs : List PrefixSetConf) (room : Room) → PrefixSetsFit w e xs room → SaysAll room (map prefix_set_printed xs ++ us)
prefix_sets_say w e us others = kind_says prefix_set_printed (PrefixSetsFit w e) (prefix_sets_says w e) (prefix_sets_leave w e) us (λ room fits. others room (no_entries w e fits.1))

abbrev AsSetsFit : Room → ℕ → List AsSetConf → Room → Type 0
AsSetsFit w e xs room = Each IsAsSet xs × Enough room (record w { entries = total (λ s. length s.numbers) xs + e })

as_sets_leave : (w : Room) (e : ℕ) (x : AsSetConf) (xs : List AsSetConf) (room : Room) (line : ℕ) → AsSetsFit w e (x ∷ xs) room → AsSetsFit w e xs (room_behind room ((as_set_printed x).1 line))
unfolding room_behind
as_sets_leave w e x xs room line fits = (fits.0.1, with_entries (total (λ (s : AsSetConf). length s.numbers) xs + e) (room.entries - length x.numbers) fits.1 (omega (arith, fits.1.entries)))

as_sets_says : (w : Room) (e : ℕ) (x : AsSetConf) (xs : List AsSetConf) (room : Room) → AsSetsFit w e (x ∷ xs) room → Says room (as_set_printed x)
as_sets_says w e x xs room fits = block_says room (head_pieces (codes "as-set") x.name) (map number_pieces x.numbers) (λ _. says.AsSet x.name x.numbers)
    (λ line at more. as_set_back room x fits.0.0 (omega (arith, fits.1.entries)) line at more ∙ ap (λ (ts : List Token). Ok (says.AsSet x.name x.numbers, ts)) (after_map number_pieces (line + 1) (line_finish at (head_pieces (codes "as-set") x.name) + 1) x.numbers more)) (λ line at rest. refl)

as_sets_say : (w : Room) (e : ℕ) (us : List Printed) → ((room : Room) → Enough room (record w { entries = e }) → SaysAll room us) → (xs : List AsSetConf) (room : Room) → AsSetsFit w e xs room → SaysAll room (map as_set_printed xs ++ us)
as_sets_say w e us others = kind_says as_set_printed (AsSetsFit w e) (as_sets_says w e) (as_sets_leave w e) us (λ room fits. others room (no_entries w e fits.1))

abbrev OriginSetsFit : Room → ℕ → List OriginSetConf → Room → Type 0
OriginSetsFit w e xs room = Each IsOriginSet xs × Enough room (record w { entries = total (λ s. length s.entries) xs + e })

origin_sets_leave : (w : Room) (e : ℕ) (x : OriginSetConf) (xs : List OriginSetConf) (room : Room) (line : ℕ) → OriginSetsFit w e (x ∷ xs) room → OriginSetsFit w e xs (room_behind room ((origin_set_printed x).1 line))
unfolding room_behind
origin_sets_leave w e x xs room line fits = (fits.0.1, with_entries (total (λ (s : OriginSetConf). length s.entries) xs + e) (room.entries - length x.entries) fits.1 (omega (arith, fits.1.entries)))

origin_sets_says : (w : Room) (e : ℕ) (x : OriginSetConf) (xs : List OriginSetConf) (room : Room) → OriginSetsFit w e (x ∷ xs) room → Says room (origin_set_printed x)
origin_sets_says w e x xs room fits = block_says room (head_pieces (codes "origin-set") x.name) (map roa_pieces x.entries) (λ _. says.OriginSet x.name x.entries)
    (λ line at more. origin_set_back room x fits.0.0 (omega (arith, fits.1.entries)) line at more ∙ ap (λ (ts : List Token). Ok (says.OriginSet x.name x.entries, ts)) (after_map roa_pieces (line + 1) (line_finish at (head_pieces (codes "origin-set") x.name) + 1) x.entries more)) (λ line at rest. refl)

origin_sets_say : (w : Room) (e : ℕ) (us : List Printed) → ((room : Room) → Enough room (record w { entries = e }) → SaysAll room us) → (xs : List OriginSetConf) (room : Room) → OriginSetsFit w e xs room → SaysAll room (map origin_set_printed xs ++ us)
origin_sets_say w e us others = kind_says origin_set_printed (OriginSetsFit w e) (origin_sets_says w e) (origin_sets_leave w e) us (λ room fits. others room (no_entries w e fits.1))

roa_leaves : (w room : Room) (x : Roa) (roas : List Roa) → Enough room (record w { entries = length (x ∷ roas) }) → Enough (room_behind room (says.RoaSet (x ∷ roas))) (record w { entries = 0 })
unfolding room_behind
roa_leaves w room x roas fits = with_entries 0 (room.entries - length (x ∷ roas)) fits (omega arith)

roa_say : (w : Room) (us : List Printed) → ((room : Room) → Enough room (record w { entries = 0 }) → SaysAll room us) → (roas : List Roa) (room : Room) → Each IsRoa roas → Enough room (record w { entries = length roas })
    → SaysAll room (roa_printed roas ++ us)
roa_say w us others [] room h fits = others room fits
roa_say w us others (x ∷ roas) room h fits = (
  block_says room roa_head (map roa_pieces (x ∷ roas)) (λ _. says.RoaSet (x ∷ roas))
      (λ line at more. roa_set_back room x roas h fits.entries line at more ∙ ap (λ (ts : List Token). Ok (says.RoaSet (x ∷ roas), ts)) (after_map roa_pieces (line + 1) (line_finish at roa_head + 1) (x ∷ roas) more)) (λ line at rest. refl),
  λ line. others (room_behind room (says.RoaSet (x ∷ roas))) (roa_leaves w room x roas fits),
)

-- ---- networks

abbrev NetworksFit : Room → List Network → Room → Type 0
NetworksFit w xs room = Each IsNetwork xs × Enough room (record w { networks = length xs })

networks_leave : (w : Room) (x : Network) (xs : List Network) (room : Room) (line : ℕ) → NetworksFit w (x ∷ xs) room → NetworksFit w xs (room_behind room ((network_printed x).1 line))
unfolding room_behind
networks_leave w x xs room line fits = (fits.0.1, with_networks (length xs) (room.networks - 1) fits.1 (omega (arith, fits.1.networks)))

networks_says : (w : Room) (x : Network) (xs : List Network) (room : Room) → NetworksFit w (x ∷ xs) room → Says room (network_printed x)
networks_says w x xs room fits = line_says room (network_pieces x) (says.Network x.prefix x.set) (network_back room x fits.0.0 (has_room room.networks (length xs) fits.1.networks)) (λ line at rest. refl)

networks_say : (w : Room) (us : List Printed) → ((room : Room) → Enough room (record w { networks = 0 }) → SaysAll room us) → (xs : List Network) (room : Room) → NetworksFit w xs room → SaysAll room (map network_printed xs ++ us)
networks_say w us others = kind_says network_printed (NetworksFit w) (networks_says w) (networks_leave w) us (λ room fits. others room fits.1)

-- ---- neighbours: those of groups want room behind them

no_neighbours : {room : Room} (w : Room) (n : ℕ) → Enough room (record w { neighbours = 0 + n }) → Enough room (record w { neighbours = n })
no_neighbours {room} w n h = with_neighbours n room.neighbours h (omega (arith, h.neighbours))

abbrev NeighboursFit : Conf → Room → ℕ → List Neighbour → Room → Type 0
NeighboursFit conf w n xs room = Each (IsNeighbour conf) xs × Enough room (record w { neighbours = length xs + n })

neighbours_leave : (conf : Conf) (w : Room) (n : ℕ) (x : Neighbour) (xs : List Neighbour) (room : Room) (line : ℕ) → NeighboursFit conf w n (x ∷ xs) room → NeighboursFit conf w n xs (room_behind room ((neighbour_printed conf x).1 line))
unfolding room_behind
neighbours_leave conf w n x xs room line fits = (fits.0.1, with_neighbours (length xs + n) (room.neighbours - 1) fits.1 (omega (arith, fits.1.neighbours)))

neighbours_says : (conf : Conf) (w : Room) (n : ℕ) (x : Neighbour) (xs : List Neighbour) (room : Room) → NeighboursFit conf w n (x ∷ xs) room → Says room (neighbour_printed conf x)
neighbours_says conf w n x xs room fits = block_says room (neighbour_head x) (option_lines conf x) (λ line. says.Neighbour (block_of conf line x))
    (λ line at more. neighbour_statement_back conf room x line at more fits.0.0 (has_room room.neighbours (length xs + n) (omega (arith, fits.1.neighbours)))) (λ line at rest. refl)

neighbours_say : (conf : Conf) (w : Room) (n : ℕ) (us : List Printed) → ((room : Room) → Enough room (record w { neighbours = n }) → SaysAll room us) → (xs : List Neighbour) (room : Room) → NeighboursFit conf w n xs room
    → SaysAll room (map (neighbour_printed conf) xs ++ us)
neighbours_say conf w n us others = kind_says (neighbour_printed conf) (NeighboursFit conf w n) (neighbours_says conf w n) (neighbours_leave conf w n) us (λ room fits. others room (no_neighbours w n fits.1))

-- ---- rules stand for one rule each

one_each : (conf : Conf) (c : Condition) → factor (condition_block conf c) ≡ 1
one_each conf (conditions.Prefix range) = refl
one_each conf (conditions.PrefixSet set) = refl
one_each conf (conditions.PrefixSetOrLonger set) = refl
one_each conf (conditions.PathNumber part asn) = refl
one_each conf (conditions.PathSet part set) = refl
one_each conf (conditions.OriginSet set) = refl
one_each conf (conditions.Ovs ovs) = refl
one_each conf (conditions.Community pattern) = refl
one_each conf (conditions.LargeCommunity pattern) = refl
one_each conf (conditions.MaxAsLen most) = refl
one_each conf (conditions.NextHop address) = refl
one_each conf (conditions.Family family) = refl

all_one : (conf : Conf) (cs : List Condition) → factors (map (condition_block conf) cs) ≡ 1
unfolding factors
all_one conf [] = refl
all_one conf (c ∷ cs) = rw (one_each conf c, all_one conf cs) refl

one_rule : (conf : Conf) (r : Rule) → flat_rules_of (rule_block conf r) ≡ 1
one_rule conf r = rw (all_one conf r.conditions) refl

abbrev RulesFit : Conf → Room → List Rule → Room → Type 0
RulesFit conf w xs room = Each (IsRule conf) xs × Enough room (record w { rules = length xs })

rules_leave : (conf : Conf) (w : Room) (x : Rule) (xs : List Rule) (room : Room) (line : ℕ) → RulesFit conf w (x ∷ xs) room → RulesFit conf w xs (room_behind room ((rule_printed conf x).1 line))
unfolding room_behind
rules_leave conf w x xs room line fits = (fits.0.1, with_rules (length xs) (room.rules - flat_rules_of (rule_block conf x)) fits.1 (omega (arith, fits.1.rules, one_rule conf x)))

rules_says : (conf : Conf) (w : Room) (x : Rule) (xs : List Rule) (room : Room) → RulesFit conf w (x ∷ xs) room → Says room (rule_printed conf x)
rules_says conf w x xs room fits = line_says room (rule_pieces conf x) (says.Rule (rule_block conf x)) (rule_back conf room x fits.0.0 (has_room room.rules (length xs) fits.1.rules)) (λ line at rest. refl)

rules_say : (conf : Conf) (w : Room) (us : List Printed) → ((room : Room) → Enough room (record w { rules = 0 }) → SaysAll room us) → (xs : List Rule) (room : Room) → RulesFit conf w xs room → SaysAll room (map (rule_printed conf) xs ++ us)
rules_say conf w us others = kind_says (rule_printed conf) (RulesFit conf w) (rules_says conf w) (rules_leave conf w) us (λ room fits. others room fits.1)

-- ---- groups

blocks_length : (conf : Conf) (line : ℕ) (ns : List Neighbour) → length (blocks_read conf line ns) ≡ length ns
blocks_length conf line [] = refl
blocks_length conf line (n ∷ ns) = ap suc (blocks_length conf (next_line conf line n) ns)

abbrev GroupsFit : Conf → Room → List (List ℕ) → Room → Type 0
GroupsFit conf w names room =
    (Each IsGroupName names × Each (IsNeighbour conf) conf.neighbours) × Enough room (record w { neighbours = total (λ name. length (members_of conf name)) names; groups = length names })

groups_leave : (conf : Conf) (w : Room) (x : List ℕ) (xs : List (List ℕ)) (room : Room) (line : ℕ) → GroupsFit conf w (x ∷ xs) room → GroupsFit conf w xs (room_behind room ((group_printed conf x).1 line))
unfolding room_behind
groups_leave conf w x xs room line fits = (
  (fits.0.0.1, fits.0.1),
  with_neighbours (total (λ name. length (members_of conf name)) xs) (room.neighbours - length (blocks_read conf (line + 1) (members_of conf x)))
      (with_groups (length xs) (room.groups - 1) fits.1 (omega (arith, fits.1.groups)))
      (omega (arith, fits.1.neighbours, blocks_length conf (line + 1) (members_of conf x))),
)

abbrev group_statement : Conf → List ℕ → ℕ → Statement
group_statement conf x line = says.Group (record { name = x; options = []; neighbours = blocks_read conf (line + 1) (members_of conf x) })

groups_says : (conf : Conf) (w : Room) (x : List ℕ) (xs : List (List ℕ)) (room : Room) → GroupsFit conf w (x ∷ xs) room → Says room (group_printed conf x)
groups_says conf w x xs room fits =
    block_says room (group_head x) (flat_map (neighbour_lines conf) (members_of conf x)) (group_statement conf x)
    (λ line at more.
    group_back conf room x (members_of conf x) line at more fits.0.0.0 (each_filter (IsNeighbour conf) (is_of_group x) conf.neighbours fits.0.1) (omega (arith, fits.1.neighbours)) (has_room room.groups (length xs) fits.1.groups)
    ∙ ap (λ (ts : List Token). Ok (group_statement conf x line, ts)) (members_after conf (line + 1) (line_finish at (group_head x) + 1) (members_of conf x) more))
    (λ line at rest. refl)

groups_say : (conf : Conf) (w : Room) (us : List Printed) → ((room : Room) → Enough room (record w { neighbours = 0; groups = 0 }) → SaysAll room us) → (xs : List (List ℕ)) (room : Room) → GroupsFit conf w xs room
    → SaysAll room (map (group_printed conf) xs ++ us)
groups_say conf w us others = kind_says (group_printed conf) (GroupsFit conf w) (groups_says conf w) (groups_leave conf w) us (λ room fits. others room fits.1)

-- ---- the lines of the statements are those of the text

lines_both : (us vs : List Printed) → lines_of (us ++ vs) ≡ lines_of us ++ lines_of vs
lines_both [] vs = refl
lines_both (u ∷ us) vs = ap (λ (ls : List (List Piece)). u.0 ++ ls) (lines_both us vs) ∙ sym (append_assoc u.0 (lines_of us) (lines_of vs))

lines_ones : {A : Type 0} (unit : A → Printed) (f : A → List Piece) → ((x : A) → (unit x).0 ≡ f x ∷ []) → (xs : List A) → lines_of (map unit xs) ≡ map f xs
lines_ones unit f same [] = refl
lines_ones unit f same (x ∷ xs) = ap (λ (ls : List (List Piece)). ls ++ lines_of (map unit xs)) (same x) ∙ ap (λ (ls : List (List Piece)). f x ∷ ls) (lines_ones unit f same xs)

lines_flats : {A : Type 0} (unit : A → Printed) (g : A → List (List Piece)) → ((x : A) → (unit x).0 ≡ g x) → (xs : List A) → lines_of (map unit xs) ≡ flat_map g xs
lines_flats unit g same [] = refl
lines_flats unit g same (x ∷ xs) = ap (λ (ls : List (List Piece)). ls ++ lines_of (map unit xs)) (same x) ∙ ap (λ (ls : List (List Piece)). g x ++ ls) (lines_flats unit g same xs)

joined : (us vs : List Printed) (ls ms : List (List Piece)) → lines_of us ≡ ls → lines_of vs ≡ ms → lines_of (us ++ vs) ≡ ls ++ ms
joined us vs ls ms e f = lines_both us vs ∙ ap (λ (l : List (List Piece)). l ++ lines_of vs) e ∙ ap (λ (l : List (List Piece)). ls ++ l) f

qualify_lines : (flag : Bool) → lines_of (qualify_printed flag) ≡ set_lines flag qualify_pieces
qualify_lines true = refl
qualify_lines false = refl

roa_lines : (roas : List Roa) → lines_of (roa_printed roas) ≡ roa_set_lines roas
roa_lines [] = refl
roa_lines (r ∷ roas) = append-nil (roa_set_lines (r ∷ roas))

-- the lists of a text in one row
regrouped_lines : (q : List (List Piece)) (m s : List Piece) (l b p a o r w x g u : List (List Piece))
    → q ++ (m ∷ s ∷ (l ++ (b ++ (p ++ (a ++ (o ++ (r ++ (w ++ (x ++ (g ++ u)))))))))) ≡ (q ++ (m ∷ s ∷ l)) ++ (b ++ ((p ++ (a ++ (o ++ r))) ++ (w ++ ((x ++ g) ++ u))))
regrouped_lines q m s l b p a o r w x g u = simp append_assoc

pub printed_lines : (conf : Conf) → lines_of (printed_of conf) ≡ canonical_lines conf
printed_lines conf =
    let q : List (List Piece) = set_lines conf.qualify_default qualify_pieces in
    let m : List Piece = med_pieces conf.med_always in
    let s : List Piece = socket_pieces conf.socket in
    let l : List (List Piece) = map listen_pieces conf.listen in
    let b : List (List Piece) = map rib_pieces conf.ribs in
    let p : List (List Piece) = flat_map prefix_set_lines conf.prefix_sets in
    let a : List (List Piece) = flat_map as_set_lines conf.as_sets in
    let o : List (List Piece) = flat_map origin_set_lines conf.origin_sets in
    let r : List (List Piece) = roa_set_lines conf.roas in
    let w : List (List Piece) = map network_pieces conf.networks in
    let x : List (List Piece) = flat_map (neighbour_lines conf) (filter is_alone conf.neighbours) in
    let g : List (List Piece) = flat_map (group_lines conf) (group_names conf.neighbours) in
    let u : List (List Piece) = map (rule_pieces conf) conf.rules in
    ap (λ (ls : List (List Piece)). as_pieces conf.asn ∷ router_id_pieces conf.router_id ∷ hold_pieces conf.hold ∷ hold_min_pieces conf.hold_min ∷ fib_update_pieces conf.fib_update ∷ ls)
    (joined (qualify_printed conf.qualify_default) _ q (m ∷ s ∷ (l ++ (b ++ (p ++ (a ++ (o ++ (r ++ (w ++ (x ++ (g ++ u)))))))))) (qualify_lines conf.qualify_default)
    (ap (λ (ls : List (List Piece)). m ∷ s ∷ ls)
    (joined (map listen_printed conf.listen) _ l (b ++ (p ++ (a ++ (o ++ (r ++ (w ++ (x ++ (g ++ u)))))))) (lines_ones listen_printed listen_pieces (λ _. refl) conf.listen)
    (joined (map rib_printed conf.ribs) _ b (p ++ (a ++ (o ++ (r ++ (w ++ (x ++ (g ++ u))))))) (lines_ones rib_printed rib_pieces (λ _. refl) conf.ribs)
    (joined (map prefix_set_printed conf.prefix_sets) _ p (a ++ (o ++ (r ++ (w ++ (x ++ (g ++ u)))))) (lines_flats prefix_set_printed prefix_set_lines (λ _. refl) conf.prefix_sets)
    (joined (map as_set_printed conf.as_sets) _ a (o ++ (r ++ (w ++ (x ++ (g ++ u))))) (lines_flats as_set_printed as_set_lines (λ _. refl) conf.as_sets)
    (joined (map origin_set_printed conf.origin_sets) _ o (r ++ (w ++ (x ++ (g ++ u)))) (lines_flats origin_set_printed origin_set_lines (λ _. refl) conf.origin_sets)
    (joined (roa_printed conf.roas) _ r (w ++ (x ++ (g ++ u))) (roa_lines conf.roas)
    (joined (map network_printed conf.networks) _ w (x ++ (g ++ u)) (lines_ones network_printed network_pieces (λ _. refl) conf.networks)
    (joined (map (neighbour_printed conf) (filter is_alone conf.neighbours)) _ x (g ++ u) (lines_flats (neighbour_printed conf) (neighbour_lines conf) (λ _. refl) (filter is_alone conf.neighbours))
    (joined (map (group_printed conf) (group_names conf.neighbours)) (map (rule_printed conf) conf.rules) g u (lines_flats (group_printed conf) (group_lines conf) (λ _. refl) (group_names conf.neighbours))
    (lines_ones (rule_printed conf) (rule_pieces conf) (λ _. refl) conf.rules)))))))))))
    ∙ regrouped_lines q m s l b p a o r w x g u)

-- ---- the whole text

-- the room that the statements behind the single ones want
abbrev wanted_of : Conf → Room
wanted_of conf = record {
  neighbours = length (filter is_alone conf.neighbours) + total (λ name. length (members_of conf name)) (group_names conf.neighbours);
  groups = length (group_names conf.neighbours);
  ribs = length conf.ribs;
  rules = length conf.rules;
  networks = length conf.networks;
  entries = entries_of conf;
  listens = length conf.listen;
}

whole_room : (conf : Conf) → IsWithinLimits conf → Enough all_room (wanted_of conf)
whole_room conf h = record { neighbours = h.neighbours; groups = h.groups; ribs = h.ribs; rules = h.rules; networks = h.networks; entries = h.entries; listens = h.listens }

-- the statements behind the single ones
abbrev lists_printed : Conf → List Printed → List Printed
lists_printed conf rules =
    map listen_printed conf.listen ++ (map rib_printed conf.ribs ++ (map prefix_set_printed conf.prefix_sets ++ (map as_set_printed conf.as_sets ++ (map origin_set_printed conf.origin_sets
    ++ (roa_printed conf.roas ++ (map network_printed conf.networks ++ (map (neighbour_printed conf) (filter is_alone conf.neighbours) ++ (map (group_printed conf) (group_names conf.neighbours) ++ rules))))))))

lists_say : (conf : Conf) → IsReadable conf → IsWithinLimits conf → SaysAll all_room (lists_printed conf (map (rule_printed conf) conf.rules ++ []))
lists_say conf h fits =
    let n : ℕ = total (λ name. length (members_of conf name)) (group_names conf.neighbours) in
    let alone : List Neighbour = filter is_alone conf.neighbours in
    let origins : ℕ = total (λ s. length s.entries) conf.origin_sets + length conf.roas in
    let numbers : ℕ = total (λ s. length s.numbers) conf.as_sets + origins in
    let sets : Room = record (wanted_of conf) { listens = 0; ribs = 0 } in
    let peers : Room = record sets { entries = 0; networks = 0 } in
    let groups : Room = record peers { neighbours = n } in
    listens_say (wanted_of conf) _
    (λ room enough.
    ribs_say (record (wanted_of conf) { listens = 0 }) _
    (λ room enough.
    prefix_sets_say sets numbers _
    (λ room enough.
    as_sets_say sets origins _
    (λ room enough.
    origin_sets_say sets (length conf.roas) _
    (λ room enough.
    roa_say sets _
    (λ room enough.
    networks_say (record sets { entries = 0 }) _
    (λ room enough.
    neighbours_say conf peers n _
    (λ room enough.
    groups_say conf groups _
    (λ room enough. rules_say conf (record groups { neighbours = 0; groups = 0 }) [] (λ room enough. tt) conf.rules room (h.rules, enough))
    (group_names conf.neighbours) room ((each_group conf conf.neighbours h.neighbours, h.neighbours), enough))
    alone room (each_filter (IsNeighbour conf) is_alone conf.neighbours h.neighbours, enough))
    conf.networks room (h.networks, enough))
    conf.roas room h.roas enough)
    conf.origin_sets room (h.origin_sets, enough))
    conf.as_sets room (h.as_sets, enough))
    conf.prefix_sets room (h.prefix_sets, enough))
    conf.ribs room (h.ribs, enough))
    conf.listen all_room (h.listen, whole_room conf fits)

-- a single statement takes no room
abbrev KeepsRoom : Statement → Type 0
KeepsRoom s = (room : Room) → room_behind room s ≡ room

single_say : (room : Room) (l : List Piece) (s : Statement) (us : List Printed) → LineBack room l s → StartsLine l → KeepsRoom s → SaysAll room us → SaysAll room (one l s ∷ us)
single_say room l s us back starts keeps others = (line_says room l s back starts, λ line. subst (λ (r : Room). SaysAll r us) (sym (keeps room)) others)

as_keeps : (n : ℕ) → KeepsRoom (says.As n)
unfolding room_behind
as_keeps n room = refl

router_id_keeps : (n : ℕ) → KeepsRoom (says.RouterId n)
unfolding room_behind
router_id_keeps n room = refl

hold_keeps : (n : ℕ) → KeepsRoom (says.Hold n)
unfolding room_behind
hold_keeps n room = refl

hold_min_keeps : (n : ℕ) → KeepsRoom (says.HoldMin n)
unfolding room_behind
hold_min_keeps n room = refl

fib_update_keeps : (on : Bool) → KeepsRoom (says.FibUpdate on)
unfolding room_behind
fib_update_keeps on room = refl

qualify_keeps : KeepsRoom says.QualifyDefault
unfolding room_behind
qualify_keeps room = refl

med_keeps : (always : Bool) → KeepsRoom (says.MedCompare always)
unfolding room_behind
med_keeps always room = refl

socket_keeps : (path : List ℕ) → KeepsRoom (says.Socket path)
unfolding room_behind
socket_keeps path room = refl

qualify_say : (flag : Bool) (us : List Printed) → SaysAll all_room us → SaysAll all_room (qualify_printed flag ++ us)
qualify_say true us others = single_say all_room qualify_pieces says.QualifyDefault us (any_line all_room qualify_pieces says.QualifyDefault (qualify_back all_room)) (λ line at rest. refl) qualify_keeps others
qualify_say false us others = others

pub printed_say : (conf : Conf) → IsReadable conf → IsWithinLimits conf → SaysAll all_room (printed_of conf)
printed_say conf h fits =
    let lists : List Printed = lists_printed conf (map (rule_printed conf) conf.rules) in
    let lists_good : SaysAll all_room lists = subst (λ (rules : List Printed). SaysAll all_room (lists_printed conf rules)) (append-nil (map (rule_printed conf) conf.rules)) (lists_say conf h fits) in
    let socket : List Printed = one (socket_pieces conf.socket) (says.Socket conf.socket) ∷ lists in
    let med : List Printed = one (med_pieces conf.med_always) (says.MedCompare conf.med_always) ∷ socket in
    let qualify : List Printed = qualify_printed conf.qualify_default ++ med in
    let fib : List Printed = one (fib_update_pieces conf.fib_update) (says.FibUpdate conf.fib_update) ∷ qualify in
    let least : List Printed = one (hold_min_pieces conf.hold_min) (says.HoldMin conf.hold_min) ∷ fib in
    let hold : List Printed = one (hold_pieces conf.hold) (says.Hold conf.hold) ∷ least in
    let id : List Printed = one (router_id_pieces conf.router_id) (says.RouterId conf.router_id) ∷ hold in
    single_say all_room (as_pieces conf.asn) (says.As conf.asn) id (any_line all_room (as_pieces conf.asn) (says.As conf.asn) (as_back all_room conf.asn h.asn)) (λ line at rest. refl) (as_keeps conf.asn)
    (single_say all_room (router_id_pieces conf.router_id) (says.RouterId conf.router_id) hold (any_line all_room (router_id_pieces conf.router_id) (says.RouterId conf.router_id) (router_id_back all_room conf.router_id h.router_id)) (λ line at rest. refl) (router_id_keeps conf.router_id)
    (single_say all_room (hold_pieces conf.hold) (says.Hold conf.hold) least (any_line all_room (hold_pieces conf.hold) (says.Hold conf.hold) (hold_statement_back all_room conf.hold h.hold)) (λ line at rest. refl) (hold_keeps conf.hold)
    (single_say all_room (hold_min_pieces conf.hold_min) (says.HoldMin conf.hold_min) fib (any_line all_room (hold_min_pieces conf.hold_min) (says.HoldMin conf.hold_min) (hold_min_back all_room conf.hold_min h.hold_min)) (λ line at rest. refl) (hold_min_keeps conf.hold_min)
    (single_say all_room (fib_update_pieces conf.fib_update) (says.FibUpdate conf.fib_update) qualify (any_line all_room (fib_update_pieces conf.fib_update) (says.FibUpdate conf.fib_update) (fib_update_back all_room conf.fib_update)) (λ line at rest. refl) (fib_update_keeps conf.fib_update)
    (qualify_say conf.qualify_default med
    (single_say all_room (med_pieces conf.med_always) (says.MedCompare conf.med_always) socket (any_line all_room (med_pieces conf.med_always) (says.MedCompare conf.med_always) (med_compare_back all_room conf.med_always)) (λ line at rest. refl) (med_keeps conf.med_always)
    (single_say all_room (socket_pieces conf.socket) (says.Socket conf.socket) lists (any_line all_room (socket_pieces conf.socket) (says.Socket conf.socket) (socket_back all_room conf.socket h.socket)) (λ line at rest. refl) (socket_keeps conf.socket)
    lists_good)))))))
