-- The links of a skip table, rule by rule from the last one.
use Rattle.std.proofs.Common.{◌≡◌, ℕ, ◌+◌, ◌<◌, ◌≤◌, inl, inr, List, length, map, replicate, get_or, refl, sym, ap, ◌∙◌, subst, arith}
use Rattle.std.specs.Prelude.{◌≢◌, slice_set}
use Rattle.std.proofs.lemmas.Bool.{cases_eq}
use Rattle.std.proofs.lemmas.List.{get_or-replicate, get_or-set_other, get_or-set_same, length-map, length-replicate, length-set}
use Rattle.std.proofs.lemmas.List.Elements.{All-map, All-same}
use Rattle.conf_tree.specs.declared.rule.Rule.{Rule}
use Rattle.filter_engine.specs.Skips.{AreLinked, AreNext, IsNext, bucket_of, peer_number, way_number}
use Rattle.filter_engine.proofs.Meets.{below}

-- a rule is the next one in its own bucket
at_itself : (buckets : List ℕ) (at : ℕ) → IsNext buckets (get_or buckets at 0) at at
at_itself buckets at = record {
  ahead = omega arith;
  clear = λ k from before within. absurd (omega (arith, from, before));
  there = λ within. refl;
}

-- a rule of another bucket doesn't count
one_before : (buckets : List ℕ) (wanted at place : ℕ) → get_or buckets at 0 ≢ wanted → IsNext buckets wanted (at + 1) place → IsNext buckets wanted at place
one_before buckets wanted at place other next = record {
  ahead = omega (arith, next.ahead);
  clear = λ k from before within. elim (cases_eq k at) [
    | inl same ↦ λ e. other (ap (λ n. get_or buckets n 0) (sym same) ∙ e)
    | inr differs ↦ next.clear k (omega (arith, from, differs)) before within
  ];
  there = next.there;
}

-- a place that isn't the rule's stays the next one behind it
pub stays : (buckets : List ℕ) (wanted at place : ℕ) → place ≢ at → IsNext buckets wanted at place → IsNext buckets wanted (at + 1) place
stays buckets wanted at place other next = record {
  ahead = omega (arith, next.ahead, other);
  clear = λ k from before within. next.clear k (omega (arith, from)) before within;
  there = next.there;
}

-- the next place behind a rule that is in the bucket itself
pub goes : (buckets heads next : List ℕ) (wanted at place : ℕ) → place ≡ at → at < length buckets → AreLinked 0 buckets heads next → IsNext buckets wanted at place → IsNext buckets wanted (at + 1) (get_or next at 0)
goes buckets heads next wanted at place same within linked now =
    let mine : get_or buckets at 0 ≡ wanted = ap (λ n. get_or buckets n 0) (sym same) ∙ now.there (omega (arith, same, within)) in
    subst (λ w. IsNext buckets w (at + 1) (get_or next at 0)) mine (linked.later at (omega arith) within)

-- one rule more in front
pub linked_more : (buckets heads next : List ℕ) (at : ℕ) → at < length buckets → AreLinked (at + 1) buckets heads next
    → AreLinked at buckets (slice_set heads (get_or buckets at 0) at) (slice_set next at (get_or heads (get_or buckets at 0) 0))
linked_more buckets heads next at within linked =
    let mine = get_or buckets at 0 in
    let old = get_or heads mine 0 in
    record {
      many = length-set next at old ∙ linked.many;
      within = λ k h. omega (arith, length-set heads mine at, linked.within k h);
      first = λ wanted h. elim (cases_eq wanted mine) [
        | inl same ↦ subst (λ place. IsNext buckets wanted at place) (sym (ap (λ w. get_or (slice_set heads mine at) w 0) same ∙ get_or-set_same heads mine at 0 (linked.within at within)))
            (subst (λ w. IsNext buckets w at at) (sym same) (at_itself buckets at))
        | inr differs ↦ subst (λ place. IsNext buckets wanted at place) (sym (get_or-set_other heads mine wanted at 0 differs))
            (one_before buckets wanted at (get_or heads wanted 0) (λ e. differs (sym e)) (linked.first wanted (omega (arith, h, length-set heads mine at))))
      ];
      later = λ k from h. elim (cases_eq k at) [
        | inl same ↦ subst (λ place. IsNext buckets (get_or buckets k 0) (k + 1) place) (sym (ap (λ n. get_or (slice_set next at old) n 0) same ∙ get_or-set_same next at old 0 (omega (arith, linked.many, within))))
            (subst (λ n. IsNext buckets (get_or buckets n 0) (n + 1) old) (sym same) (linked.first mine (linked.within at within)))
        | inr differs ↦ subst (λ place. IsNext buckets (get_or buckets k 0) (k + 1) place) (sym (get_or-set_other next at k old 0 differs))
            (linked.later k (omega (arith, from, differs)) h)
      ];
    }

-- places from a rule on are the next ones from each rule on that isn't behind them
pub moved : (buckets asked places : List ℕ) (from to : ℕ) → from ≤ to → ((k : ℕ) → k < 10 → to ≤ get_or places k 0) → AreNext buckets asked from places → AreNext buckets asked to places
moved buckets asked places from to ordered low next = λ k within. record {
  ahead = low k within;
  clear = λ j after before short. (next k within).clear j (omega (arith, ordered, after)) before short;
  there = (next k within).there;
}

-- before the first rule is linked
pub linked_none : (count : ℕ) (rules : List Rule) (buckets heads next : List ℕ) → 0 < count → buckets ≡ map (bucket_of count) rules
    → heads ≡ replicate count (length rules) → next ≡ replicate (length rules) (length rules) → AreLinked (length buckets) buckets heads next
linked_none count rules buckets heads next some placed first later =
    let long : length buckets ≡ length rules = ap length placed ∙ length-map rules (bucket_of count) in
    let many : length heads ≡ count = ap length first ∙ length-replicate count (length rules) in
    record {
      many = ap length later ∙ (length-replicate (length rules) (length rules) ∙ sym long);
      within = λ at h. omega (arith, many, bucket_below placed at h);
      first = λ wanted h. subst (IsNext buckets wanted (length buckets)) (long ∙ sym (ap (λ (l : List ℕ). get_or l wanted 0) first ∙ get_or-replicate count wanted (length rules) 0 (omega (arith, h, many)))) (at_end buckets wanted);
      later = λ at from h. absurd (omega (arith, from, h));
    }
  where
    at_end : (buckets : List ℕ) (wanted : ℕ) → IsNext buckets wanted (length buckets) (length buckets)
    at_end buckets wanted = record {
      ahead = omega arith;
      clear = λ k from before within. absurd (omega (arith, from, before));
      there = λ within. absurd (omega (arith, within));
    }

    bucket_below : buckets ≡ map (bucket_of count) rules → (at : ℕ) → at < length buckets → get_or buckets at 0 < count
    bucket_below placed at h =
        All-same (λ b. b < count) buckets (map (bucket_of count) rules) placed
        (All-map (λ b. b < count) (bucket_of count) rules (λ k d within. below count (way_number (get_or rules k d).direction (get_or rules k d).rib) (peer_number (get_or rules k d).peer) some))
        at 0 h
