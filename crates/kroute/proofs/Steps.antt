-- Loops over rows, at every prefix.
use Rattle.std.proofs.Common.{◌≡◌, Bool, true, false, cond, not, ◌&&◌, ◌||◌, List, [], ◌∷◌, Option, Some, None, is_some, length, arith, refl, sym, ap, ◌∙◌, subst}
use Rattle.std.specs.Cmp.{eq_by_cmp_equiv}
use Rattle.std.specs.BTreeMap.{is_at}
use Rattle.std.specs.BTreeSet.{insert_key}
use Rattle.std.specs.Map.{keys_of}
use Rattle.std.specs.Ordering.{is_eq, eq_by_cmp}
use Rattle.std.proofs.lemmas.Map.{lookup-none}
use Rattle.std.proofs.lemmas.Map.Entries.{none_past_head}
use Rattle.std.proofs.lemmas.Map.Keys.{sorted_tail, IsDistinct-from_sorted}
use Rattle.net_base.specs.declared.addr.Addr.{Addr}
use Rattle.net_base.specs.declared.prefix.Prefix.{Prefix}
use Rattle.net_base.specs.Order.{prefix_cmp}
use Rattle.net_base.specs.PrefixSet.{is_in}
use Rattle.net_base.proofs.Order.{prefix_cmp-total, prefix_cmp-Equal}
use Rattle.kroute.specs.Phases.{row_at, differ}
use Rattle.kroute.specs.Rows.{Rows, IsByPrefix, IsInOrder, IsSetOf}
use Rattle.kroute.proofs.Order.{any_inserted, sorted_insert, sorted_nil}

-- one more prefix in the set, and one row fewer ahead
pub one_more : (keep : Prefix → Bool) (job new : List Prefix) (p : Prefix) (hop : Addr) (more : List (Prefix × Addr)) (all : Prefix → Bool)
    → ((q : Prefix) → is_in new q ≡ (eq_by_cmp prefix_cmp q p || is_in job q)) → keep p ≡ true
    → ((q : Prefix) → (is_in job q || (is_some (row_at ((p, hop) ∷ more) q) && keep q)) ≡ all q)
    → (q : Prefix) → (is_in new q || (is_some (row_at more q) && keep q)) ≡ all q
one_more keep job new p hop more all added kept so_far q = ap (λ b. b || (is_some (row_at more q) && keep q)) (added q) ∙ go (eq_by_cmp prefix_cmp q p) refl (so_far q)
  where
    go : (b : Bool) → eq_by_cmp prefix_cmp q p ≡ b → (is_in job q || (is_some (cond b (Some hop) (row_at more q)) && keep q)) ≡ all q
        → ((b || is_in job q) || (is_some (row_at more q) && keep q)) ≡ all q
    go false e h = h
    go true e h = behind (is_in job q) (keep q) (ap keep (prefix_cmp-Equal q p e) ∙ kept) h
      where
        behind : (a b : Bool) → b ≡ true → (a || b) ≡ all q → true ≡ all q
        behind true b e h = h
        behind false b e h = sym e ∙ h

-- a row that isn't kept
pub passed_over : (keep : Prefix → Bool) (job : List Prefix) (p : Prefix) (hop : Addr) (more : List (Prefix × Addr)) (all : Prefix → Bool)
    → keep p ≡ false
    → ((q : Prefix) → (is_in job q || (is_some (row_at ((p, hop) ∷ more) q) && keep q)) ≡ all q)
    → (q : Prefix) → (is_in job q || (is_some (row_at more q) && keep q)) ≡ all q
passed_over keep job p hop more all dropped so_far q = go (eq_by_cmp prefix_cmp q p) refl (so_far q)
  where
    go : (b : Bool) → eq_by_cmp prefix_cmp q p ≡ b → (is_in job q || (is_some (cond b (Some hop) (row_at more q)) && keep q)) ≡ all q
        → (is_in job q || (is_some (row_at more q) && keep q)) ≡ all q
    go false e h = h
    go true e h =
        let none : keep q ≡ false = ap keep (prefix_cmp-Equal q p e) ∙ dropped in
        ap (λ b. is_in job q || (is_some (row_at more q) && b)) none ∙ same (is_in job q) (is_some (row_at more q)) ∙ sym (ap (λ b. is_in job q || (true && b)) none) ∙ h
      where
        same : (a b : Bool) → (a || (b && false)) ≡ (a || (true && false))
        same true b = refl
        same false true = refl
        same false false = refl

-- The rows that differ so far, with those that are left, are all that differ; those that are left are in order.
pub record Differing (job : List Prefix) (wanted left all : Rows) : Type 0 where
  pub by_prefix : IsByPrefix left
  pub in_order : IsInOrder job
  pub so_far : (q : Prefix) → (is_in job q || (is_some (row_at left q) && differ (row_at left q) (row_at wanted q))) ≡ (is_some (row_at all q) && differ (row_at all q) (row_at wanted q))

behind : (a b x : Bool) → b ≡ true → (a || b) ≡ x → true ≡ x
behind true b x e h = h
behind false b x e h = sym e ∙ h

or_false : (b : Bool) → b ≡ (b || false)
or_false true = refl
or_false false = refl

nothing : (rows : Rows) → length rows ≡ 0 → rows ≡ []
nothing [] e = refl
nothing (row ∷ rows) e = absurd (omega (arith, e))

-- The prefixes so far, in order, and with those of the rows that are left those of all rows.
pub record Known (known : List Prefix) (left all : Rows) : Type 0 where
  pub in_order : IsInOrder known
  pub so_far : (q : Prefix) → (is_in known q || is_some (row_at left q)) ≡ is_some (row_at all q)

pub none_known : (rows all : Rows) (known : List Prefix) → known ≡ [] → rows ≡ all → Known known rows all
none_known rows all known none same = record {
  in_order = subst (λ (ps : List Prefix). IsInOrder ps) (sym none) (sorted_nil prefix_cmp);
  so_far = λ q. ap (λ (ps : List Prefix). is_in ps q || is_some (row_at rows q)) none ∙ ap (λ (rs : Rows). is_some (row_at rs q)) same;
}

pub in_order_added : (job new : List Prefix) (p : Prefix) → new ≡ insert_key prefix_cmp job p → IsInOrder job → IsInOrder new
in_order_added job new p is order = subst (λ (ps : List Prefix). IsInOrder ps) (sym is) (sorted_insert prefix_cmp-total job p order)

-- one more prefix is known
pub one_prefix : (known new : List Prefix) (e : Prefix × Addr) (more all : Rows) → new ≡ insert_key prefix_cmp known e.0 → Known known (e ∷ more) all → Known new more all
one_prefix known new e more all is so_far = record {
  in_order = in_order_added known new e.0 is so_far.in_order;
  so_far = λ q. ap (λ b. b || is_some (row_at more q)) (ap (λ (ps : List Prefix). is_in ps q) is ∙ any_inserted prefix_cmp-total q e.0 known) ∙ go q (eq_by_cmp prefix_cmp q e.0) (so_far.so_far q);
}
  where
    go : (q : Prefix) (b : Bool) → (is_in known q || is_some (cond b (Some e.1) (row_at more q))) ≡ is_some (row_at all q) → ((b || is_in known q) || is_some (row_at more q)) ≡ is_some (row_at all q)
    go q false h = h
    go q true h = behind (is_in known q) true (is_some (row_at all q)) refl h

pub all_known : (known : List Prefix) (left all : Rows) → length left ≡ 0 → Known known left all → IsSetOf known (λ q. is_some (row_at all q))
all_known known left all none so_far = record {
  in_order = so_far.in_order;
  has = λ q. or_false (is_in known q) ∙ sym (ap (λ (rows : Rows). is_in known q || is_some (row_at rows q)) (nothing left none)) ∙ so_far.so_far q;
}

-- the row of a prefix that stands in front is the only one of it
past : (e : Prefix × Addr) (more : Rows) (q : Prefix) → IsByPrefix (e ∷ more) → eq_by_cmp prefix_cmp q e.0 ≡ true → row_at more q ≡ None
past e more q sorted same = lookup-none (is_at (prefix_cmp q)) more (none_past_head (eq_by_cmp_equiv prefix_cmp-total) q e more (IsDistinct-from_sorted prefix_cmp (keys_of (e ∷ more)) sorted) same)

abbrev pub off : Rows → Rows → Prefix → Bool
off wanted rows q = is_some (row_at rows q) && differ (row_at rows q) (row_at wanted q)

-- one more row differs
pub one_differs : (job new : List Prefix) (wanted : Rows) (e : Prefix × Addr) (more all : Rows)
    → new ≡ insert_key prefix_cmp job e.0 → differ (Some e.1) (row_at wanted e.0) ≡ true
    → Differing job wanted (e ∷ more) all → Differing new wanted more all
one_differs job new wanted e more all is differs so_far = record {
  in_order = in_order_added job new e.0 is so_far.in_order;
  by_prefix = sorted_tail prefix_cmp e.0 (keys_of more) so_far.by_prefix;
  so_far = λ q. ap (λ b. b || off wanted more q) (ap (λ (ps : List Prefix). is_in ps q) is ∙ any_inserted prefix_cmp-total q e.0 job) ∙ go q (eq_by_cmp prefix_cmp q e.0) refl (so_far.so_far q);
}
  where
    go : (q : Prefix) (b : Bool) → eq_by_cmp prefix_cmp q e.0 ≡ b
        → (is_in job q || (is_some (cond b (Some e.1) (row_at more q)) && differ (cond b (Some e.1) (row_at more q)) (row_at wanted q))) ≡ off wanted all q
        → ((b || is_in job q) || off wanted more q) ≡ off wanted all q
    go q false same h = h
    go q true same h = behind (is_in job q) (differ (Some e.1) (row_at wanted q)) (off wanted all q) (ap (λ (r : Prefix). differ (Some e.1) (row_at wanted r)) (prefix_cmp-Equal q e.0 same) ∙ differs) h

-- a row that is wanted as it is
pub one_is_right : (job : List Prefix) (wanted : Rows) (e : Prefix × Addr) (more all : Rows)
    → differ (Some e.1) (row_at wanted e.0) ≡ false → Differing job wanted (e ∷ more) all → Differing job wanted more all
one_is_right job wanted e more all right so_far = record {
  in_order = so_far.in_order;
  by_prefix = sorted_tail prefix_cmp e.0 (keys_of more) so_far.by_prefix;
  so_far = λ q. go q (eq_by_cmp prefix_cmp q e.0) refl (so_far.so_far q);
}
  where
    go : (q : Prefix) (b : Bool) → eq_by_cmp prefix_cmp q e.0 ≡ b
        → (is_in job q || (is_some (cond b (Some e.1) (row_at more q)) && differ (cond b (Some e.1) (row_at more q)) (row_at wanted q))) ≡ off wanted all q
        → (is_in job q || off wanted more q) ≡ off wanted all q
    go q false same h = h
    go q true same h =
        ap (λ (o : Option Addr). is_in job q || (is_some o && differ o (row_at wanted q))) (past e more q so_far.by_prefix same)
        ∙ sym (ap (λ b. is_in job q || b) (ap (λ (r : Prefix). differ (Some e.1) (row_at wanted r)) (prefix_cmp-Equal q e.0 same) ∙ right)) ∙ h

pub all_differing : (job : List Prefix) (wanted left all : Rows) → length left ≡ 0 → Differing job wanted left all → IsSetOf job (off wanted all)
all_differing job wanted left all none so_far = record {
  in_order = so_far.in_order;
  has = λ q. or_false (is_in job q) ∙ sym (ap (λ (rows : Rows). is_in job q || off wanted rows q) (nothing left none)) ∙ so_far.so_far q;
}

pub none_differ : (job : List Prefix) (wanted rows all : Rows) → job ≡ [] → rows ≡ all → IsByPrefix all → Differing job wanted rows all
none_differ job wanted rows all none same sorted = record {
  by_prefix = subst (λ (rs : Rows). IsByPrefix rs) (sym same) sorted;
  in_order = subst (λ (ps : List Prefix). IsInOrder ps) (sym none) (sorted_nil prefix_cmp);
  so_far = λ q. ap (λ (ps : List Prefix). is_in ps q || off wanted rows q) none ∙ ap (λ (rs : Rows). off wanted rs q) same;
}
