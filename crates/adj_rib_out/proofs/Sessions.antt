-- One session changes, and all others stay.
use Rattle.std.proofs.Common.{◌≡◌, ◌≢◌, ℕ, ◌≤◌, ◌==◌, Bool, true, false, cond, List, [], ◌++◌, Option, Some, None, refl, sym, ap, ◌∙◌, subst, arith}
use Rattle.std.specs.Prelude.{unwrap_or, IsSome, Result, Ok, Err, IfOk, OnErr}
use Rattle.std.specs.List.{AllByRecursion}
use Rattle.std.specs.Map.{lookup, set_value, remove_entry}
use Rattle.std.specs.BTreeMap.{is_at}
use Rattle.std.specs.Cmp.{unsigned_ties}
use Rattle.std.specs.Ordering.{nat_cmp}
use Rattle.std.proofs.lemmas.Bool.{false_from_ne_true}
use Rattle.std.proofs.lemmas.List.{append-nil}
use Rattle.std.proofs.lemmas.Bool.Decides.{Decides-eqb}
use Rattle.attr_model.specs.Numbered.{Numbered}
use Rattle.attr_intern.specs.Table.{Table, times, IsOf, CameFrom}
use Rattle.adj_rib_out.specs.Out.{Out, Outs, nothing, out_at, kept, kept_of}
use Rattle.adj_rib_out.specs.Uses.{Moves, Trades}
use Rattle.adj_rib_out.specs.Steps.{IsSame}
use Rattle.adj_rib_out.proofs.Kept.{times-append, all-append, all-front, all-back, held-swap, held-less, all-set, all-remove, all-found, f_of}
use Rattle.adj_rib_out.proofs.Uses.{counted_still, still_of, moves_same}

-- what stands under a number, by the order of numbers
abbrev pub out_by : Outs → ℕ → Option Out
out_by outs session = lookup (is_at (nat_cmp session)) outs

pub out_is : (outs : Outs) (session : ℕ) → unwrap_or (out_by outs session) nothing ≡ out_at outs session
out_is outs session = ap (λ test. unwrap_or (lookup test outs) nothing) (λ i other. sym (unsigned_ties session other) i)

module _ (old new : Outs) (session : ℕ) (out : Option Out) (puts : (q : ℕ) → out_by new q ≡ cond (is_at (nat_cmp session) q) out (out_by old q)) where
  at : (other : ℕ) → out_at new other ≡ cond (session == other) (unwrap_or out nothing) (out_at old other)
  at other =
      sym (out_is new other) ∙ ap (λ o. unwrap_or o nothing) (puts other) ∙ ap (λ b. unwrap_or (cond b out (out_by old other)) nothing) (sym (unsigned_ties session other))
      ∙ go (session == other)
    where
      go : (b : Bool) → unwrap_or (cond b out (out_by old other)) nothing ≡ cond b (unwrap_or out nothing) (out_at old other)
      go true = refl
      go false = out_is old other

  pub at_session : out_at new session ≡ unwrap_or out nothing
  at_session = at session ∙ ap (λ b. cond b (unwrap_or out nothing) (out_at old session)) ((Decides-eqb session session).1 refl)

  pub at_others : (other : ℕ) → other ≢ session → out_at new other ≡ out_at old other
  at_others other differ = at other ∙ ap (λ b. cond b (unwrap_or out nothing) (out_at old other)) (false_from_ne_true _ (λ e. differ (sym ((Decides-eqb session other).0 e))))

-- a session that begins with nothing, or ends with nothing, has what it had
pub at_same : (old new : Outs) (session : ℕ) → ((q : ℕ) → out_by new q ≡ cond (is_at (nat_cmp session) q) (Some nothing) (out_by old q)) → out_by old session ≡ None → (other : ℕ) → out_at new other ≡ out_at old other
at_same old new session puts absent other = at old new session (Some nothing) puts other ∙ go (session == other) refl
  where
    go : (b : Bool) → (session == other) ≡ b → cond b nothing (out_at old other) ≡ out_at old other
    go true e = ap (λ o. unwrap_or o nothing) (sym absent) ∙ out_is old session ∙ ap (out_at old) ((Decides-eqb session other).0 e)
    go false e = refl

-- what is held of one session is of those that are held
pub part_counted : (number : ℕ) (outs : Outs) (session : ℕ) → times number (f_of kept_of (out_by outs session)) ≤ times number (kept outs)
part_counted number outs session = omega (arith, held-less kept_of (is_at (nat_cmp session)) number outs)

pub came_part : (table : Table) (outs : Outs) (session : ℕ) (out : Out) (more : List Numbered) → Some out ≡ out_by outs session → CameFrom table (kept outs ++ more) → CameFrom table (kept_of out ++ more)
came_part table outs session out more is came = record {
  each = all-append (IsOf table) (kept_of out) more
      (subst (λ o. AllByRecursion (IsOf table) (f_of kept_of o)) (sym is) (all-found kept_of (is_at (nat_cmp session)) (IsOf table) outs (all-front (IsOf table) (kept outs) more came.each)))
      (all-back (IsOf table) (kept outs) more came.each);
  uses = λ number. omega (
    arith,
    came.uses number,
    times-append number (kept outs) more,
    times-append number (kept_of out) more,
    part_counted number outs session,
    ap (λ o. times number (f_of kept_of o)) is,
  );
}

-- What moves for one session moves for all.
pub trades_all : (old new : Table) (outs after : Outs) (session : ℕ) (out : Out) (was : Out) (more used : List Numbered)
    → Some was ≡ out_by outs session → after ≡ set_value (is_at (nat_cmp session)) outs out
    → CameFrom old (kept outs ++ more) → Moves old new (kept_of was ++ more) (kept_of out ++ used) → AllByRecursion (IsOf old) (kept_of out ++ used)
    → Trades old new (kept outs ++ more) (kept after ++ used)
trades_all old new outs after session out was more used is set came moves each = record {
  moves = whole;
  each = still_of old new (kept after ++ used)
      (all-append (IsOf old) (kept after) used
      (subst (λ after. AllByRecursion (IsOf old) (kept after)) (sym set) (all-set kept_of (is_at (nat_cmp session)) (IsOf old) outs out (all-front (IsOf old) (kept outs) more came.each) (all-front (IsOf old) (kept_of out) used each)))
      (all-back (IsOf old) (kept_of out) used each))
      (counted_still old new (kept outs ++ more) (kept after ++ used) came.uses whole)
      moves.stays;
}
  where
    whole : Moves old new (kept outs ++ more) (kept after ++ used)
    whole = record {
      uses = λ number. omega (
        arith,
        moves.uses number,
        times-append number (kept outs) more,
        times-append number (kept_of was) more,
        times-append number (kept after) used,
        times-append number (kept_of out) used,
        ap (λ after. times number (kept after)) set,
        held-swap kept_of (is_at (nat_cmp session)) number outs was out (sym is),
      );
      stays = moves.stays;
    }

-- a session that ends takes what it holds along
pub trades_less : (old new : Table) (outs after : Outs) (session : ℕ) (was : Out) → Some was ≡ out_by outs session → after ≡ remove_entry (is_at (nat_cmp session)) outs → CameFrom old (kept outs) → Moves old new (kept_of was) []
    → Trades old new (kept outs) (kept after)
trades_less old new outs after session was is gone came moves = record {
  moves = whole;
  each = still_of old new (kept after)
      (subst (λ after. AllByRecursion (IsOf old) (kept after)) (sym gone) (all-remove kept_of (is_at (nat_cmp session)) (IsOf old) outs came.each))
      (counted_still old new (kept outs) (kept after) came.uses whole)
      moves.stays;
}
  where
    whole : Moves old new (kept outs) (kept after)
    whole = record {
      uses = λ number. omega (
        arith,
        moves.uses number,
        ap (λ after. times number (kept after)) gone,
        held-less kept_of (is_at (nat_cmp session)) number outs,
        ap (λ o. times number (f_of kept_of o)) is,
      );
      stays = moves.stays;
    }

pub found_at : (outs : Outs) (session : ℕ) (out : Out) → Some out ≡ out_by outs session → out_at outs session ≡ out
found_at outs session out is = sym (out_is outs session) ∙ ap (λ o. unwrap_or o nothing) (sym is)

pub none_at : (outs : Outs) (session : ℕ) → None ≡ out_by outs session → out_at outs session ≡ nothing
none_at outs session is = sym (out_is outs session) ∙ ap (λ o. unwrap_or o nothing) (sym is)

pub came_one : (table : Table) (outs : Outs) (session : ℕ) (out : Out) → Some out ≡ out_by outs session → CameFrom table (kept outs) → CameFrom table (kept_of out)
came_one table outs session out is came =
    subst (CameFrom table) (append-nil (kept_of out)) (came_part table outs session out [] is (subst (CameFrom table) (sym (append-nil (kept outs))) came))

-- nothing moves
pub trades_none : (table : Table) (ones after : List Numbered) → ones ≡ after → CameFrom table ones → Trades table table ones after
trades_none table ones after is came = record {
  moves = subst (Moves table table ones) is (moves_same table ones);
  each = subst (AllByRecursion (IsOf table)) is came.each;
}

pub some_out : (out : Out) (o : Option Out) → Some out ≡ o → IsSome o
some_out out o e = subst (λ o. IsSome o) e refl

pub same_is : (old new : Out) → new ≡ old → IsSame old new
same_is old new e = subst (λ new. IsSame old new) (sym e) (record { told = λ p. refl; queued = λ p. refl; again = λ p. refl; flight = refl })

pub if_ok : {T E : Type 0} {P Q : T → Type 0} (r : Result T E) → ((x : T) → P x → Q x) → IfOk r P → IfOk r Q
if_ok (Ok x) f p = f x p
if_ok (Err e) f p = p

pub on_err : {T E : Type 0} {P Q : Type 0} (r : Result T E) → (P → Q) → OnErr r P → OnErr r Q
on_err (Ok x) f p = tt
on_err (Err e) f p = f p

pub trades_kept : {T E : Type 0} {P Q R : T → Type 0} (r : Result T E) → ((x : T) → P x → Q x → R x) → IfOk r P → IfOk r Q → IfOk r R
trades_kept (Ok x) f p q = f x p q
trades_kept (Err e) f p q = p

pub on_err_both : {T E : Type 0} {P Q R : Type 0} (r : Result T E) → (P → Q → R) → OnErr r P → OnErr r Q → OnErr r R
on_err_both (Ok x) f p q = tt
on_err_both (Err e) f p q = f p q

-- the references of looks go back, and the session keeps what it had
pub trades_back : (old new : Table) (outs after : Outs) (session : ℕ) (out was : Out) (more : List Numbered) → Some was ≡ out_by outs session → after ≡ set_value (is_at (nat_cmp session)) outs out → CameFrom old (kept outs ++ more)
    → out ≡ was → Moves old new (kept_of was ++ more) (kept_of was) → Trades old new (kept outs ++ more) (kept after)
trades_back old new outs after session out was more is set came e moves =
    let same : kept_of was ≡ kept_of out ++ [] = ap kept_of (sym e) ∙ sym (append-nil (kept_of out)) in
    subst (Trades old new (kept outs ++ more)) (append-nil (kept after))
    (trades_all old new outs after session out was more [] is set came
    (subst (Moves old new (kept_of was ++ more)) same moves)
    (subst (AllByRecursion (IsOf old)) same (all-front (IsOf old) (kept_of was) more (came_part old outs session was more is came).each)))
