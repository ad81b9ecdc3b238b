-- The choice goes by the members of a list alone.
use Rattle.std.proofs.Common.{◌≡◌, ◌≢◌, ◌↔◌, ℕ, ◌≤◌, Bool, true, false, true≢false, not, inl, inr, List, [], ◌∷◌, Some, length, refl, sym, ap, ◌∙◌, arith}
use Rattle.std.specs.Prelude.{slice_get, nat_lt}
use Rattle.std.specs.List.{filter, list_any, AllByRecursion, Contains}
use Rattle.std.proofs.lemmas.Bool.Decides.{nat_tests}
use Rattle.std.specs.declared.cmp.Ordering.{Ordering}
use Rattle.std.specs.declared.cmp.Ordering.TheVariants.{Less, Equal, Greater}
use Rattle.std.specs.Ordering.{is_eq, is_lt, ordering_reverse}
use Rattle.net_base.specs.declared.addr.Addr.{Addr}
use Rattle.net_base.specs.Order.{addr_cmp}
use Rattle.net_base.proofs.Order.{addr_cmp-total, addr_cmp-Equal}
use Rattle.decision.specs.declared.candidate.Origin.{Origin}
use Rattle.decision.specs.declared.candidate.Origin.TheVariants.{Local, External, Internal}
use Rattle.decision.specs.declared.candidate.Candidate.{Candidate}
use Rattle.decision.specs.Best.{best_of, thinned, unbeaten, eligible_of, kind_of, peer_of, comes_first, has_lower_med_among, is_preferred, has_shorter_path, has_lower_origin, has_nearer_origin, is_heavier, has_lower_id, has_lower_peer}
use Rattle.decision.specs.Members.{HaveDistinctOrigins}
use Rattle.decision.proofs.Lists.{In, not_true, not_false, any_false, none_passes, In_filter, of_filter, In_from_Contains, Contains_from_In}

-- ---- members of what is left

abbrev Within : List Candidate → List Candidate → Type 0
Within ones others = (c : Candidate) → In c ones → In c others

left_within : (beats : Candidate → Candidate → Bool) (cs : List Candidate) → Within (unbeaten beats cs) cs
left_within beats cs c within = (of_filter (λ candidate. not (list_any (λ other. beats other candidate) cs)) c cs within).0

thinned_eligible : (always : Bool) (cs : List Candidate) → Within (thinned always cs) (eligible_of cs)
unfolding thinned
thinned_eligible always cs c within =
    left_within _ _ c (left_within _ _ c (left_within _ _ c (left_within _ _ c (left_within _ _ c (left_within _ _ c (left_within _ _ c (left_within _ _ c within)))))))

first_in : (cs : List Candidate) (c : Candidate) → slice_get cs 0 ≡ Some c → In c cs
first_in [] c e = absurd cc
first_in (x ∷ xs) c e = inl (first_is x c e)
  where
    first_is : (x c : Candidate) → Some x ≡ Some c → c ≡ x
    first_is x c e = cc

best_eligible : (always : Bool) (cs : List Candidate) (c : Candidate) → best_of always cs ≡ Some c → In c cs × (c.eligible ≡ true)
unfolding best_of
best_eligible always cs c e = of_filter (λ candidate. candidate.eligible) c cs (thinned_eligible always cs c (first_in (thinned always cs) c e))

pub best_there : (always : Bool) (cs : List Candidate) (c : Candidate) → best_of always cs ≡ Some c → Contains cs c
best_there always cs c e = Contains_from_In c cs (best_eligible always cs c e).0

pub best_may : (always : Bool) (cs : List Candidate) (c : Candidate) → best_of always cs ≡ Some c → c.eligible ≡ true
best_may always cs c e = (best_eligible always cs c e).1

-- ---- lists with the same members

pub record Same (ones others : List Candidate) : Type 0 where
  pub there : Within ones others
  pub back : Within others ones

same_filter : (p : Candidate → Bool) (ones others : List Candidate) → Within ones others → Within (filter p ones) (filter p others)
same_filter p ones others same c within = let m = of_filter p c ones within in In_filter p c others (same c m.0) m.1

left_same : (beats : Candidate → Candidate → Bool) (ones others : List Candidate) → Within ones others → Within others ones → Within (unbeaten beats ones) (unbeaten beats others)
left_same beats ones others there back c within =
    let m = of_filter (λ candidate. not (list_any (λ other. beats other candidate) ones)) c ones within in
    let none = none_passes (λ other. beats other c) ones (not_true _ m.1) in
    In_filter (λ candidate. not (list_any (λ other. beats other candidate) others)) c others (there c m.0) (not_false _ (any_false (λ other. beats other c) others (λ o h. none o (back o h))))

same_left : (beats : Candidate → Candidate → Bool) (ones others : List Candidate) → Same ones others → Same (unbeaten beats ones) (unbeaten beats others)
same_left beats ones others same = record { there = left_same beats ones others same.there same.back; back = left_same beats others ones same.back same.there }

same_thinned : (always : Bool) (ones others : List Candidate) → Same ones others → Same (thinned always ones) (thinned always others)
unfolding thinned
same_thinned always ones others same =
    let eligible : Same (eligible_of ones) (eligible_of others) = record { there = same_filter (λ candidate. candidate.eligible) ones others same.there; back = same_filter (λ candidate. candidate.eligible) others ones same.back } in
    same_left has_lower_peer _ _ (same_left has_lower_id _ _ (same_left is_heavier _ _ (same_left has_nearer_origin _ _ (same_left (has_lower_med_among always) _ _ (same_left has_lower_origin _ _ (same_left has_shorter_path _ _ (same_left is_preferred _ _ eligible)))))))

-- ---- at most one is left

distinct_filter_by : (p : Candidate → Bool) (c : Candidate) (cs : List Candidate) → AllByRecursion (λ (other : Candidate). c.from ≢ other.from) cs → AllByRecursion (λ (other : Candidate). c.from ≢ other.from) (filter p cs)
distinct_filter_by p c [] each = each
distinct_filter_by p c (x ∷ xs) each = step (p x) refl (distinct_filter_by p c xs each.1)
  where
    step : (b : Bool) → p x ≡ b → AllByRecursion (λ (other : Candidate). c.from ≢ other.from) (filter p xs) → AllByRecursion (λ (other : Candidate). c.from ≢ other.from) (filter p (x ∷ xs))
    step true e rest = rw e (each.0, rest)
    step false e rest = rw e rest

distinct_filter : (p : Candidate → Bool) (cs : List Candidate) → HaveDistinctOrigins cs → HaveDistinctOrigins (filter p cs)
distinct_filter p [] each = each
distinct_filter p (x ∷ xs) each = step (p x) refl (distinct_filter p xs each.1)
  where
    step : (b : Bool) → p x ≡ b → HaveDistinctOrigins (filter p xs) → HaveDistinctOrigins (filter p (x ∷ xs))
    step true e rest = rw e (distinct_filter_by p x xs each.0, rest)
    step false e rest = rw e rest

distinct_left : (beats : Candidate → Candidate → Bool) (cs : List Candidate) → HaveDistinctOrigins cs → HaveDistinctOrigins (unbeaten beats cs)
distinct_left beats cs each = distinct_filter (λ candidate. not (list_any (λ other. beats other candidate) cs)) cs each

neither_beats : (beats : Candidate → Candidate → Bool) (cs : List Candidate) (one other : Candidate) → In one (unbeaten beats cs) → In other (unbeaten beats cs) → beats one other ≡ false
neither_beats beats cs one other here there =
    let m = of_filter (λ candidate. not (list_any (λ o. beats o candidate) cs)) one cs here in
    let n = of_filter (λ candidate. not (list_any (λ o. beats o candidate) cs)) other cs there in
    none_passes (λ o. beats o other) cs (not_true _ n.1) one m.0

equal_numbers : (m n : ℕ) → nat_lt m n ≡ false → nat_lt n m ≡ false → m ≡ n
equal_numbers m n e f = grind (arith, nat_tests)

equal_by : (a b : Addr) (o : Ordering) → addr_cmp a b ≡ o → is_lt (addr_cmp a b) ≡ false → is_lt (addr_cmp b a) ≡ false → a ≡ b
equal_by a b Less e one other = absurd (true≢false (ap is_lt (sym e) ∙ one))
equal_by a b Equal e one other = addr_cmp-Equal a b (ap is_eq e)
equal_by a b Greater e one other = absurd (true≢false (ap is_lt (sym (addr_cmp-total.antisymm b a ∙ ap ordering_reverse e)) ∙ other))

equal_peers : (a b : Addr) → comes_first (Some a) (Some b) ≡ false → comes_first (Some b) (Some a) ≡ false → a ≡ b
equal_peers a b one other = equal_by a b (addr_cmp a b) refl one other

-- of one kind and with one address is of one place
one_place : (x y : Origin) → kind_of x ≡ kind_of y → comes_first (peer_of x) (peer_of y) ≡ false → comes_first (peer_of y) (peer_of x) ≡ false → x ≡ y
one_place Local Local k e d = refl
one_place Local (External b) k e d = absurd (omega arith)
one_place Local (Internal b) k e d = absurd (omega arith)
one_place (External a) Local k e d = absurd (omega arith)
one_place (External a) (External b) k e d = ap External (equal_peers a b e d)
one_place (External a) (Internal b) k e d = absurd (omega arith)
one_place (Internal a) Local k e d = absurd (omega arith)
one_place (Internal a) (External b) k e d = absurd (omega arith)
one_place (Internal a) (Internal b) k e d = ap Internal (equal_peers a b e d)

one_left : (cs : List Candidate) → HaveDistinctOrigins cs → ((one other : Candidate) → In one cs → In other cs → one.from ≡ other.from) → length cs ≤ 1
one_left [] each same = omega arith
one_left (x ∷ []) each same = omega arith
one_left (x ∷ y ∷ cs) each same = absurd (each.0.0 (same x y (inl refl) (inr (inl refl))))

pub at_most_one : (always : Bool) (cs : List Candidate) → HaveDistinctOrigins cs → length (thinned always cs) ≤ 1
unfolding thinned
at_most_one always cs each =
    let lowest_med = unbeaten (has_lower_med_among always) (unbeaten has_lower_origin (unbeaten has_shorter_path (unbeaten is_preferred (eligible_of cs)))) in
    let lowest_id = unbeaten has_lower_id (unbeaten is_heavier (unbeaten has_nearer_origin lowest_med)) in
    let distinct = distinct_left has_lower_peer _ (distinct_left has_lower_id _ (distinct_left is_heavier _ (distinct_left has_nearer_origin _ (distinct_left (has_lower_med_among always) _ (distinct_left has_lower_origin _ (distinct_left has_shorter_path _ (distinct_left is_preferred _ (distinct_filter (λ candidate. candidate.eligible) cs each)))))))) in
    one_left (unbeaten has_lower_peer lowest_id) distinct (λ one other here there.
    let near = λ (c : Candidate) (h : In c (unbeaten has_lower_peer lowest_id)). left_within _ _ c (left_within _ _ c (left_within _ _ c h)) in
    let kinds = neither_beats has_nearer_origin lowest_med one other (near one here) (near other there) in
    let kinds_back = neither_beats has_nearer_origin lowest_med other one (near other there) (near one here) in
    one_place one.from other.from (equal_numbers _ _ kinds kinds_back) (neither_beats has_lower_peer lowest_id one other here there) (neither_beats has_lower_peer lowest_id other one there here))

-- ---- so the best is the same

first_same : (ones others : List Candidate) → length ones ≤ 1 → length others ≤ 1 → Same ones others → slice_get ones 0 ≡ slice_get others 0
first_same [] [] h k same = refl
first_same [] (y ∷ others) h k same = absurd (same.back y (inl refl))
first_same (x ∷ ones) [] h k same = absurd (same.there x (inl refl))
first_same (x ∷ []) (y ∷ []) h k same = first_is (same.there x (inl refl))
  where
    first_is : In x (y ∷ []) → Some x ≡ Some y
    first_is (inl e) = ap Some e
    first_is (inr within) = absurd within
first_same (x ∷ z ∷ ones) (y ∷ others) h k same = absurd (omega arith)
first_same (x ∷ []) (y ∷ z ∷ others) h k same = absurd (omega arith)

pub any_order : (always : Bool) (ones others : List Candidate) → HaveDistinctOrigins ones → HaveDistinctOrigins others → ((c : Candidate) → Contains ones c ↔ Contains others c) → best_of always ones ≡ best_of always others
unfolding best_of
any_order always ones others d e members =
    let same : Same ones others = record {
      there = λ c within. In_from_Contains c others ((members c).0 (Contains_from_In c ones within));
      back = λ c within. In_from_Contains c ones ((members c).1 (Contains_from_In c others within));
    } in
    first_same (thinned always ones) (thinned always others) (at_most_one always ones d) (at_most_one always others e) (same_thinned always ones others same)
