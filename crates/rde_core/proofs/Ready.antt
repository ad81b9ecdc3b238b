-- The prefixes that a build looks at are queued and in order, and so are its looks.
use Rattle.std.proofs.Common.{◌≡◌, ℕ, zero, suc, Bool, true, false, cond, ◌||◌, List, [], ◌∷◌, map, take, refl, sym, ap, subst, ◌∙◌, true≢false}
use Rattle.std.specs.List.{AllByRecursion, filter}
use Rattle.std.specs.List.Sorted.{IsStrictlySortedBy}
use Rattle.std.specs.Ordering.{is_lt, eq_by_cmp}
use Rattle.std.specs.declared.cmp.Ordering.{Ordering}
use Rattle.std.specs.declared.cmp.Ordering.TheVariants.{Less}
use Rattle.std.specs.Cmp.{eq_by_cmp_equiv}
use Rattle.std.proofs.lemmas.List.Kept.{IsStrictlySortedBy-filter}
use Rattle.net_base.specs.declared.prefix.Prefix.{Prefix}
use Rattle.net_base.specs.Order.{prefix_cmp}
use Rattle.net_base.specs.PrefixSet.{is_in}
use Rattle.net_base.proofs.Order.{prefix_cmp-total}
use Rattle.adj_rib_out.specs.Message.{IsInOrder}
use Rattle.adj_rib_out.specs.Out.{Out, Outs, out_at, is_queued}
use Rattle.rde_tables.specs.declared.outcome.Want.{Want}
use Rattle.rde_tables.specs.Wants.{look_of}
use Rattle.rde_core.specs.Ready.{IsAscending, IsReady}

-- ---- lists of prefixes

all_below : (p : Prefix) (ps : List Prefix) → AllByRecursion (λ q. prefix_cmp p q ≡ Less) ps → AllByRecursion (λ q. is_lt (prefix_cmp p q) ≡ true) ps
all_below p [] below = tt
all_below p (q ∷ qs) below = (ap is_lt below.0, all_below p qs below.1)

pub ascends : (ps : List Prefix) → IsStrictlySortedBy prefix_cmp ps → IsAscending ps
unfolding IsStrictlySortedBy
ascends [] sorted = tt
ascends (p ∷ ps) sorted = (all_below p ps sorted.0, ascends ps sorted.1)

pub all_in_front : (Q : Prefix → Type 0) (n : ℕ) (ps : List Prefix) → AllByRecursion Q ps → AllByRecursion Q (take n ps)
all_in_front Q zero [] all = tt
all_in_front Q zero (p ∷ ps) all = tt
all_in_front Q (suc n) [] all = tt
all_in_front Q (suc n) (p ∷ ps) all = (all.0, all_in_front Q n ps all.1)

pub front_ascends : (n : ℕ) (ps : List Prefix) → IsAscending ps → IsAscending (take n ps)
front_ascends zero [] order = tt
front_ascends zero (p ∷ ps) order = tt
front_ascends (suc n) [] order = tt
front_ascends (suc n) (p ∷ ps) order = (all_in_front (λ q. is_lt (prefix_cmp p q) ≡ true) n ps order.0, front_ascends n ps order.1)

all_kept_at : (Q : Prefix → Type 0) (p : Prefix) (rest : List Prefix) (b : Bool) → Q p → AllByRecursion Q rest → AllByRecursion Q (cond b (p ∷ rest) rest)
all_kept_at Q p rest true here all = (here, all)
all_kept_at Q p rest false here all = all

pub all_kept : (Q : Prefix → Type 0) (test : Prefix → Bool) (ps : List Prefix) → AllByRecursion Q ps → AllByRecursion Q (filter test ps)
all_kept Q test [] all = tt
all_kept Q test (p ∷ ps) all = all_kept_at Q p (filter test ps) (test p) all.0 (all_kept Q test ps all.1)

-- ---- a queue

or_true : (b c : Bool) → c ≡ true → (b || c) ≡ true
or_true true c h = refl
or_true false c h = h

or_this : (b c : Bool) → b ≡ true → (b || c) ≡ true
or_this true c h = refl
or_this false c h = absurd (true≢false (sym h))

all_more : (p : Prefix) (ps qs : List Prefix) → AllByRecursion (λ q. is_in ps q ≡ true) qs → AllByRecursion (λ q. is_in (p ∷ ps) q ≡ true) qs
all_more p ps [] all = tt
all_more p ps (q ∷ qs) all = (or_true (eq_by_cmp prefix_cmp q p) (is_in ps q) all.0, all_more p ps qs all.1)

pub each_is_in : (ps : List Prefix) → AllByRecursion (λ p. is_in ps p ≡ true) ps
each_is_in [] = tt
each_is_in (p ∷ ps) = (or_this (eq_by_cmp prefix_cmp p p) (is_in ps p) ((eq_by_cmp_equiv prefix_cmp-total).refl p), all_more p ps ps (each_is_in ps))

-- the first of a queue that pass a test
pub first_are_ready : (outs : Outs) (session n : ℕ) (test : Prefix → Bool) → IsStrictlySortedBy prefix_cmp (out_at outs session).queue
    → IsReady outs session (take n (filter test (out_at outs session).queue))
first_are_ready outs session n test sorted = record {
  queued = all_in_front (λ p. is_queued (out_at outs session) p ≡ true) n _
      (all_kept (λ p. is_queued (out_at outs session) p ≡ true) test _ (each_is_in (out_at outs session).queue));
  order = front_ascends n _ (ascends _ (IsStrictlySortedBy-filter prefix_cmp test _ sorted));
}

pub ready_from : (outs : Outs) (session n : ℕ) (test : Prefix → Bool) (queue : List Prefix) → queue ≡ (out_at outs session).queue → IsStrictlySortedBy prefix_cmp queue
    → (ready : List Prefix) → ready ≡ take n (filter test queue) → IsReady outs session ready
ready_from outs session n test queue is sorted ready first =
    subst (IsReady outs session) (sym (first ∙ ap (λ ps. take n (filter test ps)) is))
    (first_are_ready outs session n test (subst (IsStrictlySortedBy prefix_cmp) is sorted))

abbrev ByPrefix : Type 0
ByPrefix = Prefix → Prefix → Ordering

-- the keys of a set ascend by the order of prefixes
pub by_prefix : (cmp : ByPrefix) → cmp ≡ prefix_cmp → (keys queue : List Prefix) → keys ≡ queue → IsStrictlySortedBy cmp keys → IsStrictlySortedBy prefix_cmp queue
by_prefix cmp e keys queue is sorted = subst (λ (r : ByPrefix). IsStrictlySortedBy r queue) e (subst (IsStrictlySortedBy cmp) is sorted)

-- ---- looks

looks_below : (p : Prefix) (wants : List Want) → AllByRecursion (λ q. is_lt (prefix_cmp p q) ≡ true) (map (λ want. want.prefix) wants)
    → AllByRecursion (λ other. is_lt (prefix_cmp p other.prefix) ≡ true) (map look_of wants)
looks_below p [] below = tt
looks_below p (want ∷ wants) below = (below.0, looks_below p wants below.1)

pub looks_in_order : (wants : List Want) → IsAscending (map (λ want. want.prefix) wants) → IsInOrder (map look_of wants)
looks_in_order [] order = tt
looks_in_order (want ∷ wants) order = (looks_below want.prefix wants order.0, looks_in_order wants order.1)

pub looks_queued : (out : Out) (wants : List Want) → AllByRecursion (λ p. is_queued out p ≡ true) (map (λ want. want.prefix) wants)
    → AllByRecursion (λ look. is_queued out look.prefix ≡ true) (map look_of wants)
looks_queued out [] queued = tt
looks_queued out (want ∷ wants) queued = (queued.0, looks_queued out wants queued.1)

pub order_by : (wants : List Want) (ready : List Prefix) (outs : Outs) (session : ℕ) → map (λ want. want.prefix) wants ≡ ready → IsReady outs session ready → IsInOrder (map look_of wants)
order_by wants ready outs session is there = looks_in_order wants (subst IsAscending (sym is) there.order)

pub queued_by : (wants : List Want) (ready : List Prefix) (outs : Outs) (session : ℕ) → map (λ want. want.prefix) wants ≡ ready → IsReady outs session ready
    → AllByRecursion (λ look. is_queued (out_at outs session) look.prefix ≡ true) (map look_of wants)
queued_by wants ready outs session is there =
    looks_queued (out_at outs session) wants (subst (AllByRecursion (λ p. is_queued (out_at outs session) p ≡ true)) (sym is) there.queued)
