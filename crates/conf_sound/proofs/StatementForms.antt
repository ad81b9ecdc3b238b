-- The statements of a text are read in form, and no more of them than there is room for.
use Rattle.std.proofs.Common.{ℕ, zero, suc, ◌≤◌, Bool, true, false, cond, eqb, List, [], ◌∷◌, codes, length, Result, Ok, Err}
use Rattle.net_base.specs.declared.conf.ConfFault.{ConfFault}
use Rattle.net_base.specs.declared.conf.ConfKind.TheVariants.{TooMany}
use Rattle.net_base.specs.declared.conf.Counted.{Counted}
use Rattle.net_base.specs.declared.conf.Counted.TheVariants as counted
use Rattle.conf_tree.specs.declared.token.Token.{Token}
use Rattle.conf_tree.specs.declared.rule.Action.{Action}
use Rattle.conf_tree.specs.declared.rule.Action.TheVariants as actions
use Rattle.conf_tree.specs.declared.draft.SetPlace.TheVariants as places
use Rattle.conf_tree.specs.declared.draft.Statement.{Statement}
use Rattle.conf_tree.specs.declared.draft.StatementLine.{StatementLine}
use Rattle.conf_tree.specs.declared.draft.Draft.{Draft}
use Rattle.conf_tree.specs.Faults.{◌>>=◌}
use Rattle.conf_tree.specs.Reading.{Reading, fails, behind, unless_full}
use Rattle.conf_tree.specs.StatementReading.{Room, all_room, room_behind, as_statement_at, router_id_at, hold_min_statement_at, hold_statement_at, any_hold_statement_at, fib_update_at, qualify_word_at, qualify_at, compare_word_at, med_compare_at, rib_at, rde_at, socket_at, listen_at, prefix_entry_at, number_entry_at, roa_entry_at, prefix_set_at, as_set_at, origin_set_at, roa_set_at, network_body_at, network_at, neighbour_statement_at, group_statement_at, rule_statement_at, rule_word_at, peer_word_at, set_word_at, engine_word_at, statement_at, statement_line_at, after_empty_lines, statements_at, draft_of}
use Rattle.conf_tree.specs.Readable.{IsRange, IsRoa, IsAs}
use Rattle.conf_sound.specs.InForm.{IsStatement, AreStatements}
use Rattle.conf_sound.specs.InRoom.{Fits, AllFit}
use Rattle.conf_sound.proofs.Finds.{AreGood, Finds, ok, err, bind, bind_rest, either, good_behind, reading}
use Rattle.conf_sound.proofs.ReadingForms.{some_room, good_drop, list_form, keyword_form, mark_form, line_end_form}
use Rattle.conf_sound.proofs.ValueForms.{number_form, as_number_form, hold_form, yes_no_form, address_form, v4_form, prefix_form, name_form, quoted_form}
use Rattle.conf_sound.proofs.ItemForms.{optional_set_form}
use Rattle.conf_sound.proofs.RuleForms.{rule_form}
use Rattle.conf_sound.proofs.NeighbourForms.{neighbour_form, group_form}
use Rattle.conf_sound.proofs.EntryForms.{optional_table_form, optional_port_form, prefix_entry_form, number_entry_form, roa_entry_form, named_brace_form}

-- in form, and there is room for what it counts
abbrev IsFitting : Room → Statement → Type 0
IsFitting room statement = IsStatement statement × Fits room statement

abbrev IsFittingLine : Room → StatementLine → Type 0
IsFittingLine room line = IsFitting room line.statement

-- what a statement with no value of its own takes
nothing : Unit {0} × Unit {0}
nothing = (tt, tt)

module _ (room : Room) where
  -- ---- global settings

  as_form : (tokens : List Token) → AreGood tokens → Finds (IsFitting room) (as_statement_at tokens)
  unfolding as_statement_at
  as_form tokens g = bind _ _ (as_number_form 1 tokens g) (λ asn h rest. ok _ _ (h, tt) rest)

  router_id_form : (tokens : List Token) → AreGood tokens → Finds (IsFitting room) (router_id_at tokens)
  unfolding router_id_at
  router_id_form tokens g = bind _ _ (v4_form tokens g) (λ id h rest. ok _ _ (h, tt) rest)

  hold_min_statement_form : (tokens : List Token) → AreGood tokens → Finds (IsFitting room) (hold_min_statement_at tokens)
  unfolding hold_min_statement_at
  hold_min_statement_form tokens g = bind _ _ (number_form 3 65535 tokens g) (λ seconds h rest. ok _ _ (h, tt) rest)

  hold_statement_form : (tokens : List Token) → AreGood tokens → Finds (IsFitting room) (hold_statement_at tokens)
  unfolding hold_statement_at
  hold_statement_form tokens g = bind _ _ (hold_form tokens g) (λ seconds h rest. ok _ _ (h, tt) rest)

  any_hold_statement_form : (tokens : List Token) → AreGood tokens → Finds (IsFitting room) (any_hold_statement_at tokens)
  unfolding any_hold_statement_at
  any_hold_statement_form tokens g = search (reading, hold_min_statement_form, hold_statement_form, g)

  fib_update_form : (tokens : List Token) → AreGood tokens → Finds (IsFitting room) (fib_update_at tokens)
  unfolding fib_update_at
  fib_update_form tokens g = bind _ _ (yes_no_form tokens g) (λ on h rest. ok _ _ (tt, tt) rest)

  qualify_word_form : (tokens : List Token) → AreGood tokens → Finds (IsFitting room) (qualify_word_at tokens)
  unfolding qualify_word_at
  qualify_word_form tokens g = search (reading, g, nothing) depth 9

  qualify_form : (tokens : List Token) → AreGood tokens → Finds (IsFitting room) (qualify_at tokens)
  unfolding qualify_at
  qualify_form tokens g = bind_rest _ _ (keyword_form (codes "qualify") tokens g) (λ via rest. bind_rest _ _ (keyword_form (codes "via") via rest) (λ what left. qualify_word_form what left))

  compare_word_form : (tokens : List Token) → AreGood tokens → Finds (IsFitting room) (compare_word_at tokens)
  unfolding compare_word_at
  compare_word_form tokens g = search (reading, g, nothing) depth 9

  med_compare_form : (tokens : List Token) → AreGood tokens → Finds (IsFitting room) (med_compare_at tokens)
  unfolding med_compare_at
  med_compare_form tokens g = bind_rest _ _ (keyword_form (codes "compare") tokens g) (λ how rest. compare_word_form how rest)

  rib_form : 1 ≤ room.ribs → (tokens : List Token) → AreGood tokens → Finds (IsFitting room) (rib_at tokens)
  unfolding rib_at
  rib_form some tokens g = bind _ _ (name_form tokens g) (λ name h rest. bind _ _ (optional_table_form name.1 rest) (λ table k left. ok _ _ ((h, k), some) left))

  -- a statement that there may be no room for
  full_form : (left : ℕ) (tokens : List Token) (kind : Counted) (found : Reading Statement) → (1 ≤ left → Finds (IsFitting room) found) → Finds (IsFitting room) (unless_full (eqb left 0) kind tokens found)
  unfolding unless_full
  full_form left tokens kind found h = either (eqb left 0) (fails (TooMany kind) tokens) found (λ e. err _) (λ e. h (some_room left e))

  rde_form : (tokens : List Token) → AreGood tokens → Finds (IsFitting room) (rde_at room tokens)
  unfolding rde_at
  rde_form tokens g = search (reading, med_compare_form, full_form room.ribs tokens counted.Ribs (rib_at (behind tokens)) (λ some. rib_form some (behind tokens) (good_behind tokens g)), g) depth 9

  socket_form : (tokens : List Token) → AreGood tokens → Finds (IsFitting room) (socket_at tokens)
  unfolding socket_at
  socket_form tokens g = bind _ _ (quoted_form tokens g) (λ path h rest. ok _ _ (h, tt) rest)

  listen_form : 1 ≤ room.listens → (tokens : List Token) → AreGood tokens → Finds (IsFitting room) (listen_at tokens)
  unfolding listen_at
  listen_form some tokens g =
      bind_rest _ _ (keyword_form (codes "on") tokens g)
      (λ where_to rest. bind _ _ (address_form where_to rest) (λ address u left. bind _ _ (optional_port_form address.1 left) (λ port h behind_it. ok _ _ (h, some) behind_it)))

  prefix_set_form : (tokens : List Token) → AreGood tokens → Finds (IsFitting room) (prefix_set_at room tokens)
  unfolding prefix_set_at
  prefix_set_form tokens g = bind _ _ (named_brace_form tokens g) (λ name h rest. bind _ _ (list_form IsRange prefix_entry_at room.entries name.1 prefix_entry_form rest) (λ entries k left. ok _ _ ((h, k.0), k.1) left))

  as_set_form : (tokens : List Token) → AreGood tokens → Finds (IsFitting room) (as_set_at room tokens)
  unfolding as_set_at
  as_set_form tokens g = bind _ _ (named_brace_form tokens g) (λ name h rest. bind _ _ (list_form IsAs number_entry_at room.entries name.1 number_entry_form rest) (λ numbers k left. ok _ _ ((h, k.0), k.1) left))

  origin_set_form : (tokens : List Token) → AreGood tokens → Finds (IsFitting room) (origin_set_at room tokens)
  unfolding origin_set_at
  origin_set_form tokens g = bind _ _ (named_brace_form tokens g) (λ name h rest. bind _ _ (list_form IsRoa roa_entry_at room.entries name.1 roa_entry_form rest) (λ entries k left. ok _ _ ((h, k.0), k.1) left))

  roa_set_form : (tokens : List Token) → AreGood tokens → Finds (IsFitting room) (roa_set_at room tokens)
  unfolding roa_set_at
  roa_set_form tokens g = bind_rest _ _ (mark_form (codes "{") tokens g) (λ inside rest. bind _ _ (list_form IsRoa roa_entry_at room.entries inside roa_entry_form rest) (λ entries k left. ok _ _ (k.0, k.1) left))

  -- ---- networks, neighbours, groups and rules

  network_body_form : 1 ≤ room.networks → (tokens : List Token) → AreGood tokens → Finds (IsFitting room) (network_body_at tokens)
  unfolding network_body_at
  network_body_form some tokens g = bind _ _ (prefix_form tokens g) (λ p u rest. bind _ _ (optional_set_form places.Network p.1 rest) (λ set h left. ok _ _ (h, some) left))

  network_form : 1 ≤ room.networks → (tokens : List Token) → AreGood tokens → Finds (IsFitting room) (network_at tokens)
  unfolding network_at
  network_form some tokens g = search (reading, network_body_form some tokens g)

  neighbour_statement_form : (tokens : List Token) → AreGood tokens → Finds (IsFitting room) (neighbour_statement_at room tokens)
  unfolding neighbour_statement_at
  neighbour_statement_form tokens g = bind _ _ (neighbour_form (eqb room.neighbours 0) tokens g) (λ neighbour h rest. ok _ _ (h.0, some_room room.neighbours h.1) rest)

  group_statement_form : 1 ≤ room.groups → (tokens : List Token) → AreGood tokens → Finds (IsFitting room) (group_statement_at room tokens)
  unfolding group_statement_at
  group_statement_form some tokens g = bind _ _ (group_form room.neighbours tokens g) (λ group h rest. ok _ _ (h.0, (some, h.1)) rest)

  rule_statement_form : (action : Action) (tokens : List Token) → AreGood tokens → Finds (IsFitting room) (rule_statement_at room action tokens)
  unfolding rule_statement_at
  rule_statement_form action tokens g = full_form room.rules tokens counted.Rules _ (λ some. bind _ _ (rule_form room.rules some action (behind tokens) (good_behind tokens g)) (λ rule h rest. ok _ _ h rest))

  -- ---- a statement by its word

  rule_word_form : (tokens : List Token) → AreGood tokens → Finds (IsFitting room) (rule_word_at room tokens)
  unfolding rule_word_at
  rule_word_form tokens g = search (reading, rule_statement_form actions.Allow tokens g, rule_statement_form actions.Deny tokens g, rule_statement_form actions.Match tokens g) depth 9

  peer_word_form : (tokens : List Token) → AreGood tokens → Finds (IsFitting room) (peer_word_at room tokens)
  unfolding peer_word_at
  peer_word_form tokens g =
      search (
        reading,
        full_form room.networks tokens counted.Networks (network_at (behind tokens)) (λ some. network_form some (behind tokens) (good_behind tokens g)),
        neighbour_statement_form tokens g,
        full_form room.groups tokens counted.Groups (group_statement_at room (behind tokens)) (λ some. group_statement_form some (behind tokens) (good_behind tokens g)),
        rule_word_form tokens g,
      ) depth 9

  set_word_form : (tokens : List Token) → AreGood tokens → Finds (IsFitting room) (set_word_at room tokens)
  unfolding set_word_at
  set_word_form tokens g = search (reading, prefix_set_form, as_set_form, origin_set_form, roa_set_form, peer_word_form, g) depth 9

  engine_word_form : (tokens : List Token) → AreGood tokens → Finds (IsFitting room) (engine_word_at room tokens)
  unfolding engine_word_at
  engine_word_form tokens g =
      search (reading, qualify_form, rde_form, socket_form, full_form room.listens tokens counted.Listens (listen_at (behind tokens)) (λ some. listen_form some (behind tokens) (good_behind tokens g)), set_word_form, g) depth 9

  statement_form : (tokens : List Token) → AreGood tokens → Finds (IsFitting room) (statement_at room tokens)
  unfolding statement_at
  statement_form tokens g = search (reading, as_form, router_id_form, any_hold_statement_form, fib_update_form, engine_word_form, g) depth 9

  statement_line_form : (tokens : List Token) → AreGood tokens → Finds (IsFittingLine room) (statement_line_at room tokens)
  unfolding statement_line_at
  statement_line_form tokens g = bind _ _ (statement_form tokens g) (λ statement h rest. bind_rest _ _ (line_end_form statement.1 rest) (λ after left. ok _ _ h left))

-- ---- the whole text

empty_lines_good : (tokens : List Token) → AreGood tokens → AreGood (after_empty_lines tokens)
unfolding after_empty_lines
empty_lines_good tokens g = good_drop _ tokens g

abbrev pub Gives : {A : Type 0} → (A → Type 0) → Result A ConfFault → Type 0
Gives Is (Ok x) = Is x
Gives Is (Err fault) = Unit {0}

-- statements in form, with room for all that they count
abbrev pub AreFitting : Room → List StatementLine → Type 0
AreFitting room lines = AreStatements lines × AllFit room lines

gives_front : (room : Room) (first : StatementLine) (r : Result (List StatementLine) ConfFault) → IsFittingLine room first → Gives (AreFitting (room_behind room first.statement)) r → Gives (AreFitting room) (r >>= λ others. Ok (first ∷ others))
gives_front room first (Ok others) h k = ((h.0, k.0), (h.1, k.1))
gives_front room first (Err fault) h k = tt

gives_behind : {A : Type 0} {P : A → Type 0} (Q : List StatementLine → Type 0) (r : Reading A) (f : A × List Token → Result (List StatementLine) ConfFault) → Finds P r → ((x : A × List Token) → P x.0 → AreGood x.1 → Gives Q (f x)) → Gives Q (r >>= f)
gives_behind Q (Ok x) f h then = then x h.found.0 h.found.1
gives_behind Q (Err fault) f h then = tt

gives_either : (Q : List StatementLine → Type 0) (b : Bool) (x y : Result (List StatementLine) ConfFault) → Gives Q x → Gives Q y → Gives Q (cond b x y)
gives_either Q true x y h k = h
gives_either Q false x y h k = k

statements_form : (room : Room) (most : ℕ) (tokens : List Token) → AreGood tokens → Gives (AreFitting room) (statements_at room most tokens)
unfolding statements_at
statements_form room zero tokens g = nothing
statements_form room (suc most) tokens g =
    let after : List Token = after_empty_lines tokens in
    gives_either (AreFitting room) (eqb (length after) 0) (Ok []) _ nothing
    (gives_behind (AreFitting room) (statement_line_at room after) (λ first. statements_at (room_behind room first.0.statement) most first.1 >>= λ others. Ok (first.0 ∷ others)) (statement_line_form room after (empty_lines_good tokens g))
    (λ first h rest. gives_front room first.0 (statements_at (room_behind room first.0.statement) most first.1) h (statements_form (room_behind room first.0.statement) most first.1 rest)))

abbrev pub IsDraft : Draft → Type 0
IsDraft draft = AreFitting all_room draft.statements

-- the draft that good tokens write
pub draft_form : (tokens : List Token) → AreGood tokens → Gives IsDraft (draft_of tokens)
unfolding draft_of
draft_form tokens g = made (statements_at all_room (length tokens) tokens) (statements_form all_room (length tokens) tokens g)
  where
    made : (r : Result (List StatementLine) ConfFault) → Gives (AreFitting all_room) r → Gives IsDraft (r >>= λ statements. Ok (record { statements = statements }))
    made (Ok statements) h = h
    made (Err fault) h = tt
