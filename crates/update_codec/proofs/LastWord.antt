-- The routes that UPDATEs leave ascend by prefix, and hold what the last word on a prefix announces.
use Rattle.std.proofs.Common.{◌≡◌, ◌∙◌, Bool, true, false, cond, List, [], ◌∷◌, map, Option, Some, None, refl, ap, sym, subst}
use Rattle.std.specs.Prelude.{fold, flat_map}
use Rattle.std.specs.List.{AllByRecursion}
use Rattle.std.specs.List.Sorted.{IsStrictlySortedBy}
use Rattle.std.specs.BTreeMap.{is_at, insert_entry}
use Rattle.std.specs.Map.{lookup, keys_of}
use Rattle.std.specs.Ordering.{ordering_reverse, match_ordering}
use Rattle.std.specs.declared.cmp.Ordering.{Ordering}
use Rattle.std.specs.declared.cmp.Ordering.TheVariants.{Less, Equal, Greater}
use Rattle.std.proofs.lemmas.Grind.{fold-append}
use Rattle.net_base.specs.declared.prefix.Prefix.{Prefix}
use Rattle.net_base.specs.Bits.{addr_of, prefix_of}
use Rattle.net_base.specs.declared.addr.Family.TheVariants.{V4}
use Rattle.net_base.specs.Order.{prefix_cmp}
use Rattle.net_base.proofs.Order.{prefix_cmp-total, prefix_cmp-Equal}
use Rattle.attr_model.specs.declared.attrs.Attrs.{Attrs}
use Rattle.update_codec.specs.declared.update.Update.{Update}
use Rattle.attr_model.specs.Routes.{RouteTable, without_route, with_route}
use Rattle.update_codec.specs.Held.{with_group, with_update, held, withdrawal_of, announcements_of, words_of, with_word, last_word}

abbrev Word : Type 0
Word = Prefix × Option Attrs

abbrev IsBelow : Prefix → RouteTable → Type 0
IsBelow p routes = AllByRecursion (λ q. prefix_cmp p q ≡ Less) (keys_of routes)

abbrev Ascends : RouteTable → Type 0
Ascends routes = IsStrictlySortedBy prefix_cmp (keys_of routes)

-- ---- one word

below_first : (p q : Prefix) (routes : RouteTable) → prefix_cmp p q ≡ Less → IsBelow q routes → IsBelow p routes
below_first p q [] h all = tt
below_first p q (r ∷ routes) h all = (prefix_cmp-total.trans p q r.0 h all.0, below_first p q routes h all.1)

below_with : (low p : Prefix) (attrs : Attrs) (routes : RouteTable) → prefix_cmp low p ≡ Less → IsBelow low routes → IsBelow low (insert_entry prefix_cmp routes p attrs)
below_with low p attrs [] h all = (h, tt)
below_with low p attrs (r ∷ routes) h all = by (prefix_cmp p r.0) (below_with low p attrs routes h all.1)
  where
    by : (o : Ordering) → IsBelow low (insert_entry prefix_cmp routes p attrs) → IsBelow low (match_ordering o ((p, attrs) ∷ r ∷ routes) ((r.0, attrs) ∷ routes) (r ∷ insert_entry prefix_cmp routes p attrs))
    by Less behind = (h, all)
    by Equal behind = all
    by Greater behind = (all.0, behind)

with_ascends : (attrs : Attrs) (routes : RouteTable) (p : Prefix) → Ascends routes → Ascends (with_route attrs routes p)
unfolding IsStrictlySortedBy
with_ascends attrs [] p is = (tt, tt)
with_ascends attrs (r ∷ routes) p is = by (prefix_cmp p r.0) refl (with_ascends attrs routes p is.1)
  where
    by : (o : Ordering) → prefix_cmp p r.0 ≡ o → Ascends (insert_entry prefix_cmp routes p attrs) → Ascends (match_ordering o ((p, attrs) ∷ r ∷ routes) ((r.0, attrs) ∷ routes) (r ∷ insert_entry prefix_cmp routes p attrs))
    by Less h behind = ((h, below_first p r.0 routes h is.0), is)
    by Equal h behind = is
    by Greater h behind = (below_with r.0 p attrs routes (prefix_cmp-total.antisymm r.0 p ∙ ap ordering_reverse h) is.0, behind)

below_without : (low p : Prefix) (routes : RouteTable) → IsBelow low routes → IsBelow low (without_route routes p)
below_without low p [] all = tt
below_without low p (r ∷ routes) all = by (is_at (prefix_cmp p) r.0) (below_without low p routes all.1)
  where
    by : (b : Bool) → IsBelow low (without_route routes p) → IsBelow low (cond b routes (r ∷ without_route routes p))
    by true behind = all.1
    by false behind = (all.0, behind)

without_ascends : (routes : RouteTable) (p : Prefix) → Ascends routes → Ascends (without_route routes p)
unfolding IsStrictlySortedBy
without_ascends [] p is = tt
without_ascends (r ∷ routes) p is = by (is_at (prefix_cmp p) r.0) (without_ascends routes p is.1)
  where
    by : (b : Bool) → Ascends (without_route routes p) → Ascends (cond b routes (r ∷ without_route routes p))
    by true behind = is.1
    by false behind = (below_without r.0 p routes is.0, behind)

-- ---- what stands under a prefix

same : (p q : Prefix) → is_at (prefix_cmp p) q ≡ true → p ≡ q
same p q e = prefix_cmp-Equal p q e

abbrev at : Prefix → RouteTable → Option Attrs
at p routes = lookup (is_at (prefix_cmp p)) routes

none_below : (p : Prefix) (routes : RouteTable) → IsBelow p routes → at p routes ≡ None
none_below p [] all = refl
none_below p (r ∷ routes) all = rw all.0 (none_below p routes all.1)

at_with : (attrs : Attrs) (routes : RouteTable) (p q : Prefix) → at q (with_route attrs routes p) ≡ cond (is_at (prefix_cmp q) p) (Some attrs) (at q routes)
at_with attrs [] p q = refl
at_with attrs (r ∷ routes) p q = by (prefix_cmp p r.0) refl (at_with attrs routes p q)
  where
    there : (b c : Bool) → is_at (prefix_cmp q) p ≡ b → is_at (prefix_cmp q) r.0 ≡ c → prefix_cmp p r.0 ≡ Greater → at q (insert_entry prefix_cmp routes p attrs) ≡ cond b (Some attrs) (at q routes)
        → cond c (Some r.1) (at q (insert_entry prefix_cmp routes p attrs)) ≡ cond b (Some attrs) (cond c (Some r.1) (at q routes))
    there true true eb ec h behind =
        let one : p ≡ r.0 = sym (same q p eb) ∙ same q r.0 ec in
        let equal : is_at (prefix_cmp q) q ≡ true = ap (is_at (prefix_cmp q)) (same q p eb) ∙ eb in
        let twice : is_at (prefix_cmp p) r.0 ≡ true = subst (λ (x : Prefix). is_at (prefix_cmp x) r.0 ≡ true) (same q p eb) ec in
        let not : is_at (prefix_cmp p) r.0 ≡ false = rw h refl in
        absurd cc
    there true false eb ec h behind = behind
    there false true eb ec h behind = refl
    there false false eb ec h behind = behind

    by : (o : Ordering) → prefix_cmp p r.0 ≡ o → at q (insert_entry prefix_cmp routes p attrs) ≡ cond (is_at (prefix_cmp q) p) (Some attrs) (at q routes)
        → at q (match_ordering o ((p, attrs) ∷ r ∷ routes) ((r.0, attrs) ∷ routes) (r ∷ insert_entry prefix_cmp routes p attrs)) ≡ cond (is_at (prefix_cmp q) p) (Some attrs) (at q (r ∷ routes))
    by Less h behind = refl
    by Equal h behind =
        let one : p ≡ r.0 = same p r.0 (rw h refl) in
        ap (λ (x : Prefix). cond (is_at (prefix_cmp q) x) (Some attrs) (at q routes)) (sym one) ∙ either (is_at (prefix_cmp q) p) (is_at (prefix_cmp q) r.0) (ap (is_at (prefix_cmp q)) one)
      where
        either : (b c : Bool) → b ≡ c → cond b (Some attrs) (at q routes) ≡ cond b (Some attrs) (cond c (Some r.1) (at q routes))
        either true c e = refl
        either false c e = rw (← e) refl
    by Greater h behind = there (is_at (prefix_cmp q) p) (is_at (prefix_cmp q) r.0) refl refl h behind

at_without : (routes : RouteTable) (p q : Prefix) → Ascends routes → at q (without_route routes p) ≡ cond (is_at (prefix_cmp q) p) None (at q routes)
unfolding IsStrictlySortedBy
at_without [] p q is = either (is_at (prefix_cmp q) p)
  where
    either : (b : Bool) → ◌≡◌ {A = Option Attrs} None (cond b None None)
    either true = refl
    either false = refl
at_without (r ∷ routes) p q is = by (is_at (prefix_cmp p) r.0) (is_at (prefix_cmp q) p) (is_at (prefix_cmp q) r.0) refl refl refl (at_without routes p q is.1)
  where
    by : (a b c : Bool) → is_at (prefix_cmp p) r.0 ≡ a → is_at (prefix_cmp q) p ≡ b → is_at (prefix_cmp q) r.0 ≡ c → at q (without_route routes p) ≡ cond b None (at q routes)
        → at q (cond a routes (r ∷ without_route routes p)) ≡ cond b None (cond c (Some r.1) (at q routes))
    by true true c ea eb ec behind =
        let one : r.0 ≡ q = sym (same p r.0 ea) ∙ sym (same q p eb) in
        none_below q routes (subst (λ (x : Prefix). IsBelow x routes) one is.0)
    by true false true ea eb ec behind =
        let one : p ≡ r.0 = same p r.0 ea in
        let twice : is_at (prefix_cmp q) p ≡ true = ap (is_at (prefix_cmp q)) one ∙ ec in
        absurd cc
    by true false false ea eb ec behind = refl
    by false true c ea eb ec behind =
        let one : q ≡ p = same q p eb in
        let off : is_at (prefix_cmp q) r.0 ≡ false = ap (λ (x : Prefix). is_at (prefix_cmp x) r.0) one ∙ ea in
        rw off behind
    by false false c ea eb ec behind = rw (behind, ec) refl

-- ---- all words

abbrev after_word : RouteTable → Word → RouteTable
after_word routes (p, None) = without_route routes p
after_word routes (p, Some attrs) = with_route attrs routes p

-- The routes ascend, and under the prefix stands what was said of it last.
record IsSaid (p : Prefix) (said : Option Attrs) (routes : RouteTable) : Type 0 where
  ascends : Ascends routes
  under : at p routes ≡ said

one_word : (p : Prefix) (said : Option Attrs) (routes : RouteTable) (q : Prefix) (o : Option Attrs) → IsSaid p said routes → IsSaid p (with_word p said (q, o)) (after_word routes (q, o))
one_word p said routes q None is = record { ascends = without_ascends routes q is.ascends; under = at_without routes q p is.ascends ∙ ap (cond (is_at (prefix_cmp p) q) None) is.under }
one_word p said routes q (Some attrs) is = record { ascends = with_ascends attrs routes q is.ascends; under = at_with attrs routes q p ∙ ap (cond (is_at (prefix_cmp p) q) (Some attrs)) is.under }

all_words : (p : Prefix) (said : Option Attrs) (routes : RouteTable) (words : List Word) → IsSaid p said routes → IsSaid p (fold (with_word p) said words) (fold after_word routes words)
all_words p said routes [] is = is
all_words p said routes (w ∷ words) is = all_words p (with_word p said w) (after_word routes w) words (one_word p said routes w.0 w.1 is)

withdrawals : (routes : RouteTable) (ps : List Prefix) → fold after_word routes (map withdrawal_of ps) ≡ fold without_route routes ps
withdrawals routes [] = refl
withdrawals routes (p ∷ ps) = withdrawals (without_route routes p) ps

announcements : (attrs : Attrs) (routes : RouteTable) (ps : List Prefix) → fold after_word routes (announcements_of (attrs, ps)) ≡ fold (with_route attrs) routes ps
announcements attrs routes [] = refl
announcements attrs routes (p ∷ ps) = announcements attrs (with_route attrs routes p) ps

groups : (routes : RouteTable) (gs : List (Attrs × List Prefix)) → fold after_word routes (flat_map announcements_of gs) ≡ fold with_group routes gs
groups routes [] = refl
groups routes (g ∷ gs) =
    fold-append after_word routes (announcements_of g) (flat_map announcements_of gs)
    ∙ ap (λ (r : RouteTable). fold after_word r (flat_map announcements_of gs)) (announcements g.0 routes g.1)
    ∙ groups (with_group routes g) gs

one_update : (routes : RouteTable) (u : Update) → fold after_word routes (words_of u) ≡ with_update routes u
one_update routes u =
    fold-append after_word routes (map withdrawal_of u.withdrawn) (flat_map announcements_of u.announced)
    ∙ ap (λ (r : RouteTable). fold after_word r (flat_map announcements_of u.announced)) (withdrawals routes u.withdrawn)
    ∙ groups (fold without_route routes u.withdrawn) u.announced

all_updates : (routes : RouteTable) (us : List Update) → fold after_word routes (flat_map words_of us) ≡ fold with_update routes us
all_updates routes [] = refl
all_updates routes (u ∷ us) =
    fold-append after_word routes (words_of u) (flat_map words_of us)
    ∙ ap (λ (r : RouteTable). fold after_word r (flat_map words_of us)) (one_update routes u)
    ∙ all_updates (with_update routes u) us

begins : (p : Prefix) → IsSaid p None []
unfolding IsStrictlySortedBy
begins p = record { ascends = tt; under = refl }

held_said : (us : List Update) (p : Prefix) → IsSaid p (last_word p (flat_map words_of us)) (held us)
held_said us p = subst (IsSaid p (last_word p (flat_map words_of us))) (all_updates [] us) (all_words p None [] (flat_map words_of us) (begins p))

pub held_ascends : (us : List Update) → Ascends (held us)
held_ascends us = (held_said us (prefix_of (addr_of V4 0) 0)).ascends

pub held_last : (us : List Update) (p : Prefix) → at p (held us) ≡ last_word p (flat_map words_of us)
held_last us p = (held_said us p).under
