-- Someone is left of the eligible ones, whatever the steps.
use Rattle.std.proofs.Common.{◌≡◌, ℕ, zero, suc, ◌<◌, Bool, true, false, not, ◌⊎◌, inl, inr, List, [], ◌∷◌, Option, Some, None, length, refl, arith}
use Rattle.std.specs.Prelude.{slice_get, option_and_then, IfSome, IsNone}
use Rattle.std.specs.List.{list_any}
use Rattle.decision.specs.declared.candidate.Candidate.{Candidate}
use Rattle.decision.specs.declared.point.Point.TheVariants as point
use Rattle.decision.specs.Best.{best_of, thinned, unbeaten, eligible_of, has_lower_med_among, is_preferred, has_shorter_path, has_lower_origin, has_nearer_origin, is_heavier, has_lower_id}
use Rattle.decision.specs.Points.{beats, champion_of}
use Rattle.decision.proofs.Lists.{In, both_true, true_or_false, not_false, any_false, none_passes, In_filter, of_filter}
use Rattle.decision.proofs.Champions.{IsOrder, champion_stands, nobody}
use Rattle.decision.proofs.Orders.{order_of}

abbrev Empty : List Candidate → Type 0
Empty cs = (c : Candidate) → In c cs → ⊥

-- the champion of an order isn't beaten in a weaker comparison either
module _ (b weaker : Candidate → Candidate → Bool) (order : IsOrder b) (implies : (o c : Candidate) → weaker o c ≡ true → b o c ≡ true) where
  unbeaten_too : (o c : Candidate) → b o c ≡ false → (weaker o c ≡ true) ⊎ (weaker o c ≡ false) → weaker o c ≡ false
  unbeaten_too o c e (inr f) = f
  unbeaten_too o c e (inl f) = let g = implies o c f in absurd cc

  emptied_by : (cs : List Candidate) → Empty (unbeaten weaker cs) → (o : Option Candidate) → champion_of b cs ≡ o → Empty cs
  emptied_by cs none None e = nobody b order cs e
  emptied_by cs none (Some r) e =
      let stands = champion_stands b order cs r e in
      absurd (none r (In_filter (λ c. not (list_any (λ o. weaker o c) cs)) r cs stands.0 (not_false _ (any_false (λ o. weaker o r) cs (λ o within. unbeaten_too o r (stands.1 o within) (true_or_false (weaker o r)))))))

  emptied : (cs : List Candidate) → Empty (unbeaten weaker cs) → Empty cs
  emptied cs none = emptied_by cs none (champion_of b cs) refl

by_point : (p : point.the_data) (cs : List Candidate) → Empty (unbeaten (beats p) cs) → Empty cs
by_point p cs none = emptied (beats p) (beats p) (order_of p) (λ o c e. e) cs none

med_implies : (always : Bool) (o c : Candidate) → has_lower_med_among always o c ≡ true → beats point.Med o c ≡ true
med_implies true o c e = e
med_implies false o c e = (both_true _ _ e).1

by_med : (always : Bool) (cs : List Candidate) → Empty (unbeaten (has_lower_med_among always) cs) → Empty cs
by_med always cs none = emptied (beats point.Med) (has_lower_med_among always) (order_of point.Med) (med_implies always) cs none

thinned_empty : (always : Bool) (cs : List Candidate) → Empty (thinned always cs) → Empty (eligible_of cs)
unfolding thinned
thinned_empty always cs none =
    by_point point.LocalPref (eligible_of cs)
    (by_point point.PathLength (unbeaten is_preferred (eligible_of cs))
    (by_point point.Origin (unbeaten has_shorter_path (unbeaten is_preferred (eligible_of cs)))
    (by_med always (unbeaten has_lower_origin (unbeaten has_shorter_path (unbeaten is_preferred (eligible_of cs))))
    (by_point point.Kind (unbeaten (has_lower_med_among always) (unbeaten has_lower_origin (unbeaten has_shorter_path (unbeaten is_preferred (eligible_of cs)))))
    (by_point point.Weight (unbeaten has_nearer_origin (unbeaten (has_lower_med_among always) (unbeaten has_lower_origin (unbeaten has_shorter_path (unbeaten is_preferred (eligible_of cs))))))
    (by_point point.BgpId (unbeaten is_heavier (unbeaten has_nearer_origin (unbeaten (has_lower_med_among always) (unbeaten has_lower_origin (unbeaten has_shorter_path (unbeaten is_preferred (eligible_of cs)))))))
    (by_point point.Peer (unbeaten has_lower_id (unbeaten is_heavier (unbeaten has_nearer_origin (unbeaten (has_lower_med_among always) (unbeaten has_lower_origin (unbeaten has_shorter_path (unbeaten is_preferred (eligible_of cs)))))))) none)))))))

first_none : (cs : List Candidate) → slice_get cs 0 ≡ None → Empty cs
first_none [] e c within = within
first_none (x ∷ xs) e c within = absurd cc

eligible_by : (cs : List Candidate) → Empty (eligible_of cs) → (c : Candidate) → In c cs → (b : Bool) → c.eligible ≡ b → c.eligible ≡ false
eligible_by cs none c within false e = e
eligible_by cs none c within true e = absurd (none c (In_filter (λ candidate. candidate.eligible) c cs within e))

-- where there is no best, none is eligible
pub some_eligible : (always : Bool) (cs : List Candidate) → best_of always cs ≡ None → list_any (λ candidate. candidate.eligible) cs ≡ false
unfolding best_of
some_eligible always cs e =
    let none = thinned_empty always cs (first_none (thinned always cs) e) in
    any_false (λ candidate. candidate.eligible) cs (λ c within. eligible_by cs none c within c.eligible refl)

none_left : (cs : List Candidate) → list_any (λ candidate. candidate.eligible) cs ≡ false → eligible_of cs ≡ []
none_left cs e = empty (eligible_of cs) (λ c within. let m = of_filter (λ candidate. candidate.eligible) c cs within in let no = none_passes (λ candidate. candidate.eligible) cs e c m.0 in absurd (two c m.1 no))
  where
    two : (c : Candidate) → c.eligible ≡ true → c.eligible ≡ false → ⊥
    two c e f = absurd cc

    empty : (xs : List Candidate) → Empty xs → xs ≡ []
    empty [] none = refl
    empty (x ∷ xs) none = absurd (none x (inl refl))

-- where none is eligible, there is no best
pub none_eligible : (always : Bool) (cs : List Candidate) → list_any (λ candidate. candidate.eligible) cs ≡ false → best_of always cs ≡ None
unfolding best_of thinned
none_eligible always cs e = rw (none_left cs e) refl

no_entry_at : (cs : List Candidate) (at : ℕ) → at < length cs → slice_get cs at ≡ None → ⊥
no_entry_at [] at h e = absurd (omega arith)
no_entry_at (x ∷ xs) zero h e = absurd cc
no_entry_at (x ∷ xs) (suc at) h e = no_entry_at xs at (omega arith) e

-- a place within the list has an entry
pub no_place : (cs : List Candidate) (flags : List Bool) (o : Option ℕ) → length flags ≡ length cs → IfSome o (λ at. at < length flags) → option_and_then (slice_get cs) o ≡ None → IsNone o
no_place cs flags None same within e = refl
no_place cs flags (Some at) same within e = absurd (no_entry_at cs at (omega (arith, same, within)) e)

pub no_entry : (cs : List Candidate) (o : Option ℕ) → IsNone o → option_and_then (slice_get cs) o ≡ None
no_entry cs None none = refl
no_entry cs (Some at) none = absurd cc
