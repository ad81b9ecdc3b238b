-- What a kernel route changes.
use Rattle.std.proofs.Common.{◌≡◌, ℕ, Bool, true, false, not, ◌&&◌, ◌||◌, cond, List, [], ◌∷◌, Option, Some, None, nat_lt, refl, sym, ap, subst, ◌∙◌, ◌⊎◌, inl, inr, true≢false, if◌then◌else◌}
use Rattle.std.proofs.lemmas.Bool.{and_parts, and_from}
use Rattle.std.specs.Cmp.{eq_by_cmp_equiv}
use Rattle.std.specs.List.{list_any, filter, filter_map, cons_option}
use Rattle.std.specs.Ordering.{eq_by_cmp}
use Rattle.net_base.specs.declared.addr.Addr.{Addr}
use Rattle.net_base.specs.declared.prefix.Prefix.{Prefix}
use Rattle.net_base.specs.Order.{prefix_cmp}
use Rattle.net_base.specs.Prefix.{covers}
use Rattle.net_base.specs.PrefixSet.{is_in}
use Rattle.net_base.proofs.Order.{prefix_cmp-total, prefix_cmp-Equal}
use Rattle.nexthop_track.specs.declared.hops.HopChange.{HopChange}
use Rattle.nexthop_track.specs.Answers.{differ}
use Rattle.nexthop_track.specs.Hops.{Hops, host_of, is_other, is_valid, is_valid_by, is_valid_besides, makes_valid}
use Rattle.nexthop_track.specs.Changes.{answer_changed, answer_besides, answers_changed, answers_below}
use Rattle.nexthop_track.proofs.Coverings.{Had, any_has, has_any, same_bool}

either : (a b : Bool) → (a || b) ≡ true → (a ≡ true) ⊎ (b ≡ true)
either true b h = inl refl
either false b h = inr h

first_of : (a b : Bool) → a ≡ true → (a || b) ≡ true
first_of a b h = ap (λ c. c || b) h

second_of : (a b : Bool) → b ≡ true → (a || b) ≡ true
second_of true b h = refl
second_of false b h = h

-- the routes after a route came up or went down, prefix by prefix
abbrev pub IsSet : Prefix → Bool → List Prefix → List Prefix → Type 0
IsSet p up old new = (q : Prefix) → is_in new q ≡ (if eq_by_cmp prefix_cmp q p then up else is_in old q)

-- some route but p makes the address valid
abbrev rest : Bool → Prefix → List Prefix → Addr → Bool
rest default p ps a = list_any (λ r. is_other (Some p) r && makes_valid default a r) ps

-- valid by p itself, or by another route
split : (default : Bool) (p : Prefix) (ps : List Prefix) (a : Addr) → is_valid_by default ps a ≡ ((is_in ps p && makes_valid default a p) || rest default p ps a)
split default p ps a = same_bool _ _ (λ h. by (any_has (makes_valid default a) ps h)) (λ h. back (either (is_in ps p && makes_valid default a p) (rest default p ps a) h))
  where
    by : Had (makes_valid default a) ps → ((is_in ps p && makes_valid default a p) || rest default p ps a) ≡ true
    by (r, found) = elim (eq_by_cmp prefix_cmp p r) as (λ b. eq_by_cmp prefix_cmp p r ≡ b → ((is_in ps p && makes_valid default a p) || rest default p ps a) ≡ true) [
      | true ↦ λ e. let same = sym (prefix_cmp-Equal p r e) in first_of (is_in ps p && makes_valid default a p) (rest default p ps a) (and_from _ _ (ap (is_in ps) (sym same) ∙ found.0) (ap (makes_valid default a) (sym same) ∙ found.1))
      | false ↦ λ e. second_of (is_in ps p && makes_valid default a p) (rest default p ps a) (has_any (λ x. is_other (Some p) x && makes_valid default a x) ps r found.0 (and_from (not (eq_by_cmp prefix_cmp p r)) (makes_valid default a r) (ap not e) found.1))
    ] refl

    back : ((is_in ps p && makes_valid default a p) ≡ true) ⊎ (rest default p ps a ≡ true) → is_valid_by default ps a ≡ true
    back (inl h) = let both = and_parts (is_in ps p) (makes_valid default a p) h in has_any (makes_valid default a) ps p both.0 both.1
    back (inr h) = other (any_has (λ x. is_other (Some p) x && makes_valid default a x) ps h)
      where
        other : Had (λ x. is_other (Some p) x && makes_valid default a x) ps → is_valid_by default ps a ≡ true
        other (r, found) = has_any (makes_valid default a) ps r found.0 (and_parts (is_other (Some p) r) (makes_valid default a r) found.1).1

not_back : (b : Bool) → not b ≡ true → b ≡ false
not_back true h = sym h
not_back false h = refl

-- the other routes are the same
rest_same : (default : Bool) (p : Prefix) (up : Bool) (old new : List Prefix) → IsSet p up old new → (a : Addr) → rest default p new a ≡ rest default p old a
rest_same default p up old new set a = same_bool _ _ (λ h. over (any_has _ new h)) (λ h. back (any_has _ old h))
  where
    test : Prefix → Bool
    test = λ r. is_other (Some p) r && makes_valid default a r

    kept : (r : Prefix) → (is_other (Some p) r && makes_valid default a r) ≡ true → is_in new r ≡ is_in old r
    kept r h = set r ∙ ap (λ b. if b then up else is_in old r) ((eq_by_cmp_equiv prefix_cmp-total).symm r p ∙ not_back (eq_by_cmp prefix_cmp p r) (and_parts (is_other (Some p) r) (makes_valid default a r) h).0)

    over : Had (λ r. is_other (Some p) r && makes_valid default a r) new → rest default p old a ≡ true
    over (r, found) = has_any (λ r. is_other (Some p) r && makes_valid default a r) old r (sym (kept r found.1) ∙ found.0) found.1

    back : Had (λ r. is_other (Some p) r && makes_valid default a r) old → rest default p new a ≡ true
    back (r, found) = has_any (λ r. is_other (Some p) r && makes_valid default a r) new r (kept r found.1 ∙ found.0) found.1

is_set_in : (p : Prefix) (up : Bool) (old new : List Prefix) → IsSet p up old new → is_in new p ≡ up
is_set_in p up old new set = set p ∙ ap (λ b. if b then up else is_in old p) ((eq_by_cmp_equiv prefix_cmp-total).refl p)

abbrev change : Addr → Bool → HopChange
change a valid = record { addr = a; valid = valid }

no_change : (b : Bool) (x : HopChange) → (if differ b b then Some x else None) ≡ None
no_change true x = refl
no_change false x = refl

none_of : (old new : Hops) (tracked : List Addr) → ((a : Addr) → is_valid old a ≡ is_valid new a) → filter_map (answer_changed old new) tracked ≡ []
none_of old new [] same = refl
none_of old new (a ∷ more) same =
    let rest = none_of old new more same in
    (λ i. cons_option (if differ (same a i) (is_valid new a) then Some (change a (is_valid new a)) else None) (filter_map (answer_changed old new) more))
    ∙ ap (λ o. cons_option o (filter_map (answer_changed old new) more)) (no_change (is_valid new a) (change a (is_valid new a)))
    ∙ rest

filtered : (test : Addr → Bool) (give : Addr → Option HopChange) (xs : List Addr) → filter_map give (filter test xs) ≡ filter_map (λ a. if test a then give a else None) xs
filtered test give [] = refl
filtered test give (a ∷ xs) =
    let more = filtered test give xs in
    elim (test a) as (λ b. filter_map give (cond b (a ∷ filter test xs) (filter test xs)) ≡ cons_option (if b then give a else None) (filter_map (λ a. if test a then give a else None) xs)) [
      | true ↦ ap (cons_option (give a)) more
      | false ↦ more
    ]

pub valid_is : (h : Hops) (a : Addr) → is_valid h a ≡ is_valid_by h.qualify_default h.routes a
unfolding is_valid
valid_is h a = refl

changed_is : (old new : Hops) → answers_changed old new ≡ filter_map (answer_changed old new) new.tracked
unfolding answers_changed
changed_is old new = refl

-- ---- the three cases of a kernel route

module _ (h : Hops) (p : Prefix) (up : Bool) (routes : List Prefix) (set : IsSet p up h.routes routes) where
  abbrev after : Hops
  after = record h { routes = routes }

  -- a route that makes nothing valid
  pub unqualified : (h.qualify_default || nat_lt 0 p.len) ≡ false → [] ≡ answers_changed h after
  unqualified short = sym (changed_is h after ∙ none_of h after h.tracked same)
    where
      nothing : (b v : Bool) → (b && (v && false)) ≡ false
      nothing true true = refl
      nothing true false = refl
      nothing false v = refl

      by : (ps : List Prefix) (a : Addr) → is_valid_by h.qualify_default ps a ≡ rest h.qualify_default p ps a
      by ps a = split h.qualify_default p ps a ∙ ap (λ b. b || rest h.qualify_default p ps a) (ap (λ b. is_in ps p && (covers p (host_of a) && b)) short ∙ nothing (is_in ps p) (covers p (host_of a)))

      same : (a : Addr) → is_valid h a ≡ is_valid after a
      same a = valid_is h a ∙ by h.routes a ∙ sym (rest_same h.qualify_default p up h.routes routes set a) ∙ sym (by routes a) ∙ sym (valid_is after a)

  -- a route that is there already, or isn't
  pub as_before : is_in h.routes p ≡ up → [] ≡ answers_changed h after
  as_before there = sym (changed_is h after ∙ none_of h after h.tracked same)
    where
      same : (a : Addr) → is_valid h a ≡ is_valid after a
      same a = valid_is h a ∙ split h.qualify_default p h.routes a
          ∙ (λ i. ((there ∙ sym (is_set_in p up h.routes routes set)) i && makes_valid h.qualify_default a p) || sym (rest_same h.qualify_default p up h.routes routes set a) i)
          ∙ sym (split h.qualify_default p routes a) ∙ sym (valid_is after a)

  -- a route that changes the answers of the addresses that it covers and no other makes valid
  pub below_changes : (h.qualify_default || nat_lt 0 p.len) ≡ true → is_in h.routes p ≡ not up → answers_below h p up ≡ answers_changed h after
  below_changes long there = filtered (λ a. covers p (host_of a)) (answer_besides h p up) h.tracked ∙ ap (λ f. filter_map f h.tracked) (λ i a. each a i) ∙ sym (changed_is h after)
    where
      table : (u v w vo vn : Bool) (a : Addr) → vo ≡ ((not u && (v && true)) || w) → vn ≡ ((u && (v && true)) || w)
          → (if v then (if w then None else Some (change a u)) else None) ≡ (if differ vo vn then Some (change a vn) else None)
      table true true true vo vn a e f = λ i. if differ (sym e i) (sym f i) then Some (change a (sym f i)) else None
      table true true false vo vn a e f = λ i. if differ (sym e i) (sym f i) then Some (change a (sym f i)) else None
      table true false true vo vn a e f = λ i. if differ (sym e i) (sym f i) then Some (change a (sym f i)) else None
      table true false false vo vn a e f = λ i. if differ (sym e i) (sym f i) then Some (change a (sym f i)) else None
      table false true true vo vn a e f = λ i. if differ (sym e i) (sym f i) then Some (change a (sym f i)) else None
      table false true false vo vn a e f = λ i. if differ (sym e i) (sym f i) then Some (change a (sym f i)) else None
      table false false true vo vn a e f = λ i. if differ (sym e i) (sym f i) then Some (change a (sym f i)) else None
      table false false false vo vn a e f = λ i. if differ (sym e i) (sym f i) then Some (change a (sym f i)) else None

      each : (a : Addr) → (if covers p (host_of a) then answer_besides h p up a else None) ≡ answer_changed h after a
      each a = table up (covers p (host_of a)) (rest h.qualify_default p h.routes a) (is_valid h a) (is_valid after a) a
          (valid_is h a ∙ split h.qualify_default p h.routes a ∙ (λ i. (there i && (covers p (host_of a) && long i)) || rest h.qualify_default p h.routes a))
          (valid_is after a ∙ split h.qualify_default p routes a ∙ (λ i. (is_set_in p up h.routes routes set i && (covers p (host_of a) && long i)) || rest_same h.qualify_default p up h.routes routes set a i))
