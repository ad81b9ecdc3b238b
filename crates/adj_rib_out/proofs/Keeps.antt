-- What the rows and the queue of a session keep, step by step.
use Rattle.std.proofs.Common.{◌≡◌, Bool, true, false, not, ◌&&◌, ◌||◌, List, refl, sym, ap, ◌∙◌, true≢false}
use Rattle.net_base.specs.declared.prefix.Prefix.{Prefix}
use Rattle.net_base.specs.PrefixSet.{is_in}
use Rattle.net_base.proofs.Order.{prefix_cmp-Equal}
use Rattle.adj_rib_out.specs.Rows.{SentRows, is_same, has_row, again_in}
use Rattle.adj_rib_out.specs.Keeps.{IsKept}

or_right : (a b : Bool) → b ≡ true → (a || b) ≡ true
or_right true b e = refl
or_right false b e = e

or_cases : {X : Type 0} (a b : Bool) → (a || b) ≡ true → (a ≡ true → X) → (b ≡ true → X) → X
or_cases true b e one other = one refl
or_cases false b e one other = other e

and_both : (a b : Bool) → (not a && b) ≡ true → (a ≡ false) × (b ≡ true)
and_both true b e = absurd (true≢false (sym e))
and_both false b e = (refl, e)

and_here : (a b : Bool) → a ≡ false → b ≡ true → (not a && b) ≡ true
and_here true b e f = absurd (true≢false e)
and_here false b e f = f

-- more prefixes have a row
pub kept_more : (rows more : SentRows) (queue : List Prefix) (prefix : Prefix) → IsKept rows queue → ((p : Prefix) → has_row more p ≡ (is_same p prefix || has_row rows p)) → ((p : Prefix) → again_in more p ≡ again_in rows p)
    → IsKept more queue
kept_more rows more queue prefix kept has again = record {
  has_row = λ p queued. has p ∙ or_right (is_same p prefix) (has_row rows p) (kept.has_row p queued);
  queued = λ p is. kept.queued p (sym (again p) ∙ is);
}

-- as many have
pub kept_same : (rows more : SentRows) (queue : List Prefix) → IsKept rows queue → ((p : Prefix) → has_row more p ≡ has_row rows p) → ((p : Prefix) → again_in more p ≡ again_in rows p) → IsKept more queue
kept_same rows more queue kept has again = record {
  has_row = λ p queued. has p ∙ kept.has_row p queued;
  queued = λ p is. kept.queued p (sym (again p) ∙ is);
}

-- a prefix with a row is queued
pub kept_queued : (rows more : SentRows) (queue longer : List Prefix) (prefix : Prefix) → IsKept rows queue → ((p : Prefix) → has_row more p ≡ (is_same p prefix || has_row rows p)) → ((p : Prefix) → again_in more p ≡ again_in rows p)
    → ((p : Prefix) → is_in longer p ≡ (is_same p prefix || is_in queue p)) → IsKept more longer
kept_queued rows more queue longer prefix kept has again members = record {
  has_row = λ p queued. has p ∙ or_cases (is_same p prefix) (is_in queue p) (sym (members p) ∙ queued)
      (λ same. ap (λ b. b || has_row rows p) same)
      (λ there. or_right (is_same p prefix) (has_row rows p) (kept.has_row p there));
  queued = λ p is. members p ∙ or_right (is_same p prefix) (is_in queue p) (kept.queued p (sym (again p) ∙ is));
}

-- a queued prefix is to be told again
pub kept_marked : (rows more : SentRows) (queue : List Prefix) (prefix : Prefix) → IsKept rows queue → ((p : Prefix) → has_row more p ≡ has_row rows p) → ((p : Prefix) → again_in more p ≡ (is_same p prefix || again_in rows p))
    → is_in queue prefix ≡ true → IsKept more queue
kept_marked rows more queue prefix kept has again queued = record {
  has_row = λ p there. has p ∙ kept.has_row p there;
  queued = λ p is. or_cases (is_same p prefix) (again_in rows p) (sym (again p) ∙ is)
      (λ same. ap (is_in queue) (prefix_cmp-Equal p prefix same) ∙ queued)
      (kept.queued p);
}

-- a prefix is no longer to be told again
pub kept_less : (rows less : SentRows) (queue : List Prefix) (prefix : Prefix) → IsKept rows queue → ((p : Prefix) → has_row less p ≡ has_row rows p) → ((p : Prefix) → again_in less p ≡ (not (is_same p prefix) && again_in rows p))
    → IsKept less queue
kept_less rows less queue prefix kept has again = record {
  has_row = λ p there. has p ∙ kept.has_row p there;
  queued = λ p is. kept.queued p (and_both (is_same p prefix) (again_in rows p) (sym (again p) ∙ is)).1;
}

-- a prefix that isn't to be told again leaves the queue, and may lose its row
pub kept_passed : (rows less : SentRows) (queue shorter : List Prefix) (prefix : Prefix) → IsKept rows queue → ((p : Prefix) → is_same p prefix ≡ false → has_row less p ≡ has_row rows p) → ((p : Prefix) → again_in less p ≡ again_in rows p)
    → again_in rows prefix ≡ false → ((p : Prefix) → is_in shorter p ≡ (not (is_same p prefix) && is_in queue p)) → IsKept less shorter
kept_passed rows less queue shorter prefix kept has again not_again members = record {
  has_row = λ p there. let both = and_both (is_same p prefix) (is_in queue p) (sym (members p) ∙ there) in has p both.0 ∙ kept.has_row p both.1;
  queued = λ p is. members p ∙ and_here (is_same p prefix) (is_in queue p) (apart p (sym (again p) ∙ is)) (kept.queued p (sym (again p) ∙ is));
}
  where
    apart : (p : Prefix) → again_in rows p ≡ true → is_same p prefix ≡ false
    apart p is = go (is_same p prefix) refl
      where
        go : (b : Bool) → is_same p prefix ≡ b → b ≡ false
        go true e = absurd (true≢false (sym is ∙ ap (again_in rows) (prefix_cmp-Equal p prefix e) ∙ not_again))
        go false e = refl
