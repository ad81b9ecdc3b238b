-- One session's list changes, and all others stay.
use Rattle.std.proofs.Common.{◌≡◌, ◌≢◌, ℕ, ◌==◌, Bool, true, false, cond, not, ◌&&◌, ◌||◌, List, [], Option, Some, None, is_some, IsSome, refl, sym, ap, ◌∙◌, subst}
use Rattle.std.specs.BTreeMap.{is_at}
use Rattle.std.specs.BTreeSet.{BTreeSet}
use Rattle.std.specs.Cmp.{unsigned_ties, eq_by_cmp_equiv}
use Rattle.std.specs.List.Sorted.{IsStrictlySortedBy}
use Rattle.std.specs.Map.{lookup}
use Rattle.std.specs.Ordering.{nat_cmp, eq_by_cmp}
use Rattle.std.proofs.lemmas.Bool.{false_from_ne_true}
use Rattle.std.proofs.lemmas.Bool.Decides.{Decides-eqb}
use Rattle.net_base.specs.declared.prefix.Prefix.{Prefix}
use Rattle.net_base.specs.Order.{prefix_cmp}
use Rattle.net_base.specs.PrefixSet.{is_in}
use Rattle.net_base.proofs.Order.{prefix_cmp-total}
use Rattle.adj_rib_in.specs.Held.{is_same}
use Rattle.adj_rib_in.specs.Listed.{Listed, keys_or_none, listed_of, is_listed}

-- what stands under a number, by the order of numbers
abbrev pub set_by : Listed → ℕ → Option (BTreeSet Prefix)
set_by listed session = lookup (is_at (nat_cmp session)) listed

pub set_is : (listed : Listed) (session : ℕ) → keys_or_none (set_by listed session) ≡ listed_of listed session
set_is listed session = ap (λ test. keys_or_none (lookup test listed)) (λ i other. sym (unsigned_ties session other) i)

pub found_is : (listed : Listed) (session : ℕ) (set : BTreeSet Prefix) → Some set ≡ set_by listed session → listed_of listed session ≡ set.keys
found_is listed session set is = sym (set_is listed session) ∙ ap keys_or_none (sym is)

pub none_is : (listed : Listed) (session : ℕ) → None ≡ set_by listed session → listed_of listed session ≡ []
none_is listed session is = sym (set_is listed session) ∙ ap keys_or_none (sym is)

pub some_set : (set : BTreeSet Prefix) (o : Option (BTreeSet Prefix)) → Some set ≡ o → IsSome o
some_set set o e = subst (λ o. IsSome o) e refl

module _ (old new : Listed) (session : ℕ) (set : Option (BTreeSet Prefix)) (puts : (q : ℕ) → set_by new q ≡ cond (is_at (nat_cmp session) q) set (set_by old q)) where
  pub at : (other : ℕ) → listed_of new other ≡ cond (session == other) (keys_or_none set) (listed_of old other)
  at other =
      sym (set_is new other) ∙ ap keys_or_none (puts other) ∙ ap (λ b. keys_or_none (cond b set (set_by old other))) (sym (unsigned_ties session other))
      ∙ go (session == other)
    where
      go : (b : Bool) → keys_or_none (cond b set (set_by old other)) ≡ cond b (keys_or_none set) (listed_of old other)
      go true = refl
      go false = set_is old other

  pub at_session : listed_of new session ≡ keys_or_none set
  at_session = at session ∙ ap (λ b. cond b (keys_or_none set) (listed_of old session)) ((Decides-eqb session session).1 refl)

  pub at_others : (other : ℕ) → other ≢ session → listed_of new other ≡ listed_of old other
  at_others other differ = at other ∙ ap (λ b. cond b (keys_or_none set) (listed_of old other)) (false_from_ne_true _ (λ e. differ (sym ((Decides-eqb session other).0 e))))

  -- what a session has is what it had
  pub at_same : keys_or_none set ≡ listed_of old session → (other : ℕ) → listed_of new other ≡ listed_of old other
  at_same same other = at other ∙ go (session == other) refl
    where
      go : (b : Bool) → (session == other) ≡ b → cond b (keys_or_none set) (listed_of old other) ≡ listed_of old other
      go true e = same ∙ ap (listed_of old) ((Decides-eqb session other).0 e)
      go false e = refl

-- one set takes the place of another
module _ (old new : Listed) (session : ℕ) (was now : BTreeSet Prefix) (found : Some was ≡ set_by old session) (puts : (q : ℕ) → set_by new q ≡ cond (is_at (nat_cmp session) q) (Some now) (set_by old q)) where
  -- a set with all that there was keeps all that is listed
  pub stays : ((p : Prefix) → is_in was.keys p ≡ true → is_in now.keys p ≡ true) → (s : ℕ) (p : Prefix) → is_listed old s p ≡ true → is_listed new s p ≡ true
  stays more s p is = go (session == s) refl
    where
      go : (b : Bool) → (session == s) ≡ b → is_listed new s p ≡ true
      go true e =
          let was_in : is_in was.keys p ≡ true = ap (λ keys. is_in keys p) (sym (found_is old session was found) ∙ ap (listed_of old) ((Decides-eqb session s).0 e)) ∙ is in
          ap (λ keys. is_in keys p) (at old new session (Some now) puts s ∙ ap (λ b. cond b now.keys (listed_of old s)) e) ∙ more p was_in
      go false e = ap (λ keys. is_in keys p) (at old new session (Some now) puts s ∙ ap (λ b. cond b now.keys (listed_of old s)) e) ∙ is

  -- one prefix less
  pub less : (prefix : Prefix) → ((p : Prefix) → is_in now.keys p ≡ (not (eq_by_cmp prefix_cmp p prefix) && is_in was.keys p))
      → (s : ℕ) (p : Prefix) → is_listed new s p ≡ (not (session == s && is_same prefix p) && is_listed old s p)
  less prefix without s p = go (session == s) refl
    where
      go : (b : Bool) → (session == s) ≡ b → is_listed new s p ≡ (not (b && is_same prefix p) && is_listed old s p)
      go true e =
          ap (λ keys. is_in keys p) (at old new session (Some now) puts s ∙ ap (λ b. cond b now.keys (listed_of old s)) e) ∙ without p
          ∙ ap (λ b. not b && is_in was.keys p) ((eq_by_cmp_equiv prefix_cmp-total).symm p prefix)
          ∙ ap (λ keys. not (is_same prefix p) && is_in keys p) (sym (found_is old session was found) ∙ ap (listed_of old) ((Decides-eqb session s).0 e))
      go false e = ap (λ keys. is_in keys p) (at old new session (Some now) puts s ∙ ap (λ b. cond b now.keys (listed_of old s)) e)

-- what isn't listed needn't go
pub none_less : (old : Listed) (session : ℕ) (prefix : Prefix) → listed_of old session ≡ [] → (s : ℕ) (p : Prefix) → is_listed old s p ≡ (not (session == s && is_same prefix p) && is_listed old s p)
none_less old session prefix none s p = go (session == s) refl
  where
    both : (b : Bool) → false ≡ (b && false)
    both true = refl
    both false = refl

    go : (b : Bool) → (session == s) ≡ b → is_listed old s p ≡ (not (b && is_same prefix p) && is_listed old s p)
    go true e =
        let empty : is_listed old s p ≡ false = ap (λ keys. is_in keys p) (ap (listed_of old) (sym ((Decides-eqb session s).0 e)) ∙ none) in
        empty ∙ both (not (is_same prefix p)) ∙ ap (λ b. not (is_same prefix p) && b) (sym empty)
    go false e = refl

pub or_stays : (a b c : Bool) → c ≡ (a || b) → b ≡ true → c ≡ true
or_stays true b c e f = e
or_stays false b c e f = e ∙ f

pub or_added : (a b c : Bool) → c ≡ (a || b) → a ≡ true → c ≡ true
or_added a b c e f = e ∙ ap (λ a. a || b) f

pub none_by : (o : Option (BTreeSet Prefix)) → is_some o ≡ false → o ≡ None
none_by None e = refl
none_by (Some set) e = absurd (yes e)
  where
    yes : true ≡ false → ⊥
    yes e = cc

none_sorted : IsStrictlySortedBy prefix_cmp []
unfolding IsStrictlySortedBy
none_sorted = tt

pub sorted_none : (keys : List Prefix) → keys ≡ [] → IsStrictlySortedBy prefix_cmp keys
sorted_none keys e = subst (IsStrictlySortedBy prefix_cmp) (sym e) none_sorted
