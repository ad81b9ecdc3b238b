-- Each call keeps what is kept of the tables in agreement with the kernel's rows.
use Rattle.std.proofs.Common.{◌≡◌, ◌≢◌, ◌⊎◌, ℕ, Bool, true, false, cond, not, ◌&&◌, ◌||◌, List, [], ◌∷◌, Option, Some, None, IfSome, is_some, inl, inr, refl, sym, ap, subst, ◌∙◌, true≢false}
use Rattle.std.specs.BTreeMap.{is_at, insert_entry}
use Rattle.std.specs.BTreeSet.{insert_key}
use Rattle.std.proofs.lemmas.Bool.Decides.{Decides-eqb}
use Rattle.std.specs.Cmp.{eq_by_cmp_equiv, nat_cmp_total, unsigned_ties}
use Rattle.std.specs.Map.{remove_entry}
use Rattle.std.specs.Option.{option_map}
use Rattle.std.specs.Ordering.{is_eq, eq_by_cmp, nat_cmp}
use Rattle.net_base.specs.declared.addr.Addr.{Addr}
use Rattle.net_base.specs.declared.prefix.Prefix.{Prefix}
use Rattle.net_base.specs.Order.{addr_cmp, prefix_cmp}
use Rattle.net_base.specs.PrefixSet.{is_in}
use Rattle.net_base.proofs.Order.{addr_cmp-Equal, prefix_cmp-total, prefix_cmp-Equal}
use Rattle.kroute.specs.declared.phase.Coupling.TheVariants.{Coupled as IsCoupled, Decoupled as IsDecoupled, Lost as IsLost}
use Rattle.kroute.specs.declared.phase.Phase.{Phase}
use Rattle.kroute.specs.declared.phase.Phase.TheVariants.{New, Listing, Coupled, Clearing, Lost}
use Rattle.kroute.specs.declared.phase.Work.{Work}
use Rattle.kroute.specs.declared.phase.Work.TheVariants.{ListRows, PutRight, Delete}
use Rattle.kroute.specs.Agreement.{Agrees, Fits, IsLeft, IsRight}
use Rattle.kroute.specs.Calls.{IsAfter, IsNext, Listed, Outcome, Outside, StandsAfter, put_row, after_put, asked}
use Rattle.kroute.specs.Phases.{all_but, coupling_of, differ, row_at, with_work}
use Rattle.kroute.specs.Rows.{Rows, IsByPrefix, IsInOrder, IsSetOf}
use Rattle.kroute.specs.Table.{IsListed, TableState, new_table, wants, wants_no, couples, decouples, loses}
use Rattle.kroute.specs.Tables.{ChangesTable, SetsTable, TablesState, table_at}
use Rattle.kroute.specs.Units.{Calls, CallsOn, FallsDue, Idles, IsUnit}
use Rattle.kroute.proofs.Order.{any_inserted, any_removed, keys_inserted, keys_removed, lookup_inserted, lookup_removed, sorted_insert, sorted_remove}

-- ---- one table

put_in_order : (rows : Rows) (p : Prefix) (hop : Addr) → IsByPrefix rows → IsByPrefix (insert_entry prefix_cmp rows p hop)
put_in_order rows p hop order = subst (λ (ps : List Prefix). IsInOrder ps) (sym (keys_inserted prefix_cmp rows p hop)) (sorted_insert prefix_cmp-total _ p order)

taken_in_order : (rows : Rows) (p : Prefix) → IsByPrefix rows → IsByPrefix (remove_entry (is_at (prefix_cmp p)) rows)
taken_in_order rows p order = subst (λ (ps : List Prefix). IsInOrder ps) (sym (keys_removed (is_at (prefix_cmp p)) rows)) (sorted_remove prefix_cmp (is_at (prefix_cmp p)) _ order)

-- a prefix that isn't in the larger job is another one, and isn't in the smaller
outside : (p q : Prefix) (job : List Prefix) → is_in (insert_key prefix_cmp job p) q ≡ false → (eq_by_cmp prefix_cmp q p ≡ false) × (is_in job q ≡ false)
outside p q job h = split (eq_by_cmp prefix_cmp q p) (is_in job q) (sym (any_inserted prefix_cmp-total q p job) ∙ h)
  where
    split : (a b : Bool) → (a || b) ≡ false → (a ≡ false) × (b ≡ false)
    split true b e = absurd (true≢false e)
    split false b e = (refl, e)

-- the wanted rows change at a prefix that is then to be put right
fits_wants : (t : Phase) (p : Prefix) (wanted new rows : Rows) → ((q : Prefix) → eq_by_cmp prefix_cmp q p ≡ false → row_at new q ≡ row_at wanted q)
    → Fits t wanted rows → Fits (with_work p t) new rows
fits_wants New p wanted new rows same fits = tt
fits_wants (Listing coupled) p wanted new rows same fits = tt
fits_wants (Coupled known job) p wanted new rows same fits = record {
  by_prefix = fits.by_prefix;
  are_known = fits.are_known;
  in_order = sorted_insert prefix_cmp-total job p fits.in_order;
  right = λ q none. let apart = outside p q job none in fits.right q apart.1 ∙ sym (same q apart.0);
}
fits_wants (Clearing job) p wanted new rows same fits = fits
fits_wants Lost p wanted new rows same fits = tt

other_put : (wanted : Rows) (p : Prefix) (hop : Addr) (q : Prefix) → eq_by_cmp prefix_cmp q p ≡ false → row_at (insert_entry prefix_cmp wanted p hop) q ≡ row_at wanted q
other_put wanted p hop q apart = lookup_inserted prefix_cmp-total q p hop wanted ∙ ap (λ b. cond b (Some hop) (row_at wanted q)) apart

-- without a premise on the order of the list: the first entry of p goes, which no other prefix finds
other_taken : (wanted : Rows) (p : Prefix) (q : Prefix) → eq_by_cmp prefix_cmp q p ≡ false → row_at (remove_entry (is_at (prefix_cmp p)) wanted) q ≡ row_at wanted q
other_taken [] p q apart = refl
other_taken (e ∷ es) p q apart = go (other_taken es p q apart) (is_eq (prefix_cmp p e.0)) refl
  where
    go : row_at (remove_entry (is_at (prefix_cmp p)) es) q ≡ row_at es q → (b : Bool) → is_eq (prefix_cmp p e.0) ≡ b
        → row_at (cond b es (e ∷ remove_entry (is_at (prefix_cmp p)) es)) q ≡ cond (is_eq (prefix_cmp q e.0)) (Some e.1) (row_at es q)
    go rec true same = sym (ap (λ (b : Bool). cond b (Some e.1) (row_at es q)) (ap (λ (r : Prefix). is_eq (prefix_cmp q r)) (sym (prefix_cmp-Equal p e.0 same)) ∙ apart))
    go rec false same = ap (cond (is_eq (prefix_cmp q e.0)) (Some e.1)) rec

pub fits_decoupled : (phase : Phase) (wanted rows : Rows) → Fits phase wanted rows → Fits (decouples (record { wanted = wanted; phase = phase })).phase wanted rows
fits_decoupled New wanted rows fits = tt
fits_decoupled (Listing coupled) wanted rows fits = tt
fits_decoupled (Coupled known job) wanted rows fits = record { by_prefix = fits.by_prefix; are_left = fits.are_known }
fits_decoupled (Clearing job) wanted rows fits = fits
fits_decoupled Lost wanted rows fits = tt

-- ---- one call

no_rows : (rows : Rows) → {told : Option Rows} → told ≡ None → told ≡ Some rows → ⊥
no_rows rows none some = cc

one_rows : (a b : Rows) → Some a ≡ Some b → a ≡ b
one_rows a b e = cc

same_hop : (a b : Option Addr) → differ a b ≡ false → a ≡ b
same_hop None None h = refl
same_hop None (Some b) h = absurd (true≢false h)
same_hop (Some a) None h = absurd (true≢false h)
same_hop (Some a) (Some b) h = ap Some (addr_cmp-Equal a b (was (eq_by_cmp addr_cmp a b) h))
  where
    was : (c : Bool) → not c ≡ false → c ≡ true
    was true e = refl
    was false e = absurd (true≢false e)

listed_fits : (coupled : Bool) (phase : Phase) (wanted rows : Rows) → IsByPrefix rows → IsListed coupled wanted rows phase → Fits phase wanted rows
listed_fits coupled New wanted rows order leave = tt
listed_fits coupled (Listing again) wanted rows order leave = tt
listed_fits coupled Lost wanted rows order leave = tt
listed_fits true (Coupled known job) wanted rows order leave = record {
  by_prefix = order;
  are_known = leave.0;
  in_order = leave.1.in_order;
  right = λ q none. same_hop (row_at rows q) (row_at wanted q) (sym (leave.1.has q) ∙ none);
}
listed_fits false (Coupled known job) wanted rows order leave = absurd leave
listed_fits true (Clearing job) wanted rows order leave = absurd leave
listed_fits false (Clearing job) wanted rows order leave = record { by_prefix = order; are_left = leave }

not_in : (a b : Bool) → (not a && b) ≡ false → (a ≡ true) ⊎ (b ≡ false)
not_in true b h = inl refl
not_in false b h = inr h

now_there : (b : Bool) (hop : Addr) (o : Option Addr) → (b || is_some o) ≡ is_some (cond b (Some hop) o)
now_there true hop o = refl
now_there false hop o = refl

now_gone : (b : Bool) (o : Option Addr) → (not b && is_some o) ≡ is_some (cond b None o)
now_gone true o = refl
now_gone false o = refl

-- the row of a prefix was set as it is wanted
set_fits : (known job : List Prefix) (wanted rows : Rows) (p : Prefix) (hop : Addr) → row_at wanted p ≡ Some hop → IsRight known job wanted rows
    → IsRight (insert_key prefix_cmp known p) (all_but p job) wanted (insert_entry prefix_cmp rows p hop)
set_fits known job wanted rows p hop is fits = record {
  by_prefix = put_in_order rows p hop fits.by_prefix;
  are_known = record {
    in_order = sorted_insert prefix_cmp-total known p fits.are_known.in_order;
    has = λ q. any_inserted prefix_cmp-total q p known ∙ ap (λ b. eq_by_cmp prefix_cmp q p || b) (fits.are_known.has q) ∙ now_there (eq_by_cmp prefix_cmp q p) hop (row_at rows q)
        ∙ sym (ap is_some (lookup_inserted prefix_cmp-total q p hop rows));
  };
  in_order = sorted_remove prefix_cmp (λ q. is_at (prefix_cmp p) q) job fits.in_order;
  right = λ q none. lookup_inserted prefix_cmp-total q p hop rows ∙ go q (eq_by_cmp prefix_cmp q p) refl (sym (any_removed prefix_cmp-total q p job fits.in_order) ∙ none);
}
  where
    go : (q : Prefix) (b : Bool) → eq_by_cmp prefix_cmp q p ≡ b → (not b && is_in job q) ≡ false → cond b (Some hop) (row_at rows q) ≡ row_at wanted q
    go q true same h = sym (ap (row_at wanted) (prefix_cmp-Equal q p same) ∙ is)
    go q false same h = fits.right q h

-- the row of a prefix was deleted, and none is wanted
del_fits : (known job : List Prefix) (wanted rows : Rows) (p : Prefix) → row_at wanted p ≡ None → IsRight known job wanted rows
    → IsRight (all_but p known) (all_but p job) wanted (remove_entry (is_at (prefix_cmp p)) rows)
del_fits known job wanted rows p is fits = record {
  by_prefix = taken_in_order rows p fits.by_prefix;
  are_known = record {
    in_order = sorted_remove prefix_cmp (λ q. is_at (prefix_cmp p) q) known fits.are_known.in_order;
    has = λ q. any_removed prefix_cmp-total q p known fits.are_known.in_order ∙ ap (λ b. not (eq_by_cmp prefix_cmp q p) && b) (fits.are_known.has q) ∙ now_gone (eq_by_cmp prefix_cmp q p) (row_at rows q)
        ∙ sym (ap is_some (lookup_removed prefix_cmp-total q p rows fits.by_prefix));
  };
  in_order = sorted_remove prefix_cmp (λ q. is_at (prefix_cmp p) q) job fits.in_order;
  right = λ q none. lookup_removed prefix_cmp-total q p rows fits.by_prefix ∙ go q (eq_by_cmp prefix_cmp q p) refl (sym (any_removed prefix_cmp-total q p job fits.in_order) ∙ none);
}
  where
    go : (q : Prefix) (b : Bool) → eq_by_cmp prefix_cmp q p ≡ b → (not b && is_in job q) ≡ false → cond b None (row_at rows q) ≡ row_at wanted q
    go q true same h = sym (ap (row_at wanted) (prefix_cmp-Equal q p same) ∙ is)
    go q false same h = fits.right q h

cleared_fits : (job : List Prefix) (rows : Rows) (p : Prefix) → IsLeft job rows → IsLeft (all_but p job) (remove_entry (is_at (prefix_cmp p)) rows)
cleared_fits job rows p fits = record {
  by_prefix = taken_in_order rows p fits.by_prefix;
  are_left = record {
    in_order = sorted_remove prefix_cmp (λ q. is_at (prefix_cmp p) q) job fits.are_left.in_order;
    has = λ q. any_removed prefix_cmp-total q p job fits.are_left.in_order ∙ ap (λ b. not (eq_by_cmp prefix_cmp q p) && b) (fits.are_left.has q) ∙ now_gone (eq_by_cmp prefix_cmp q p) (row_at rows q)
        ∙ sym (ap is_some (lookup_removed prefix_cmp-total q p rows fits.by_prefix));
  };
}

put_right_fits : (hop : Option Addr) (known job : List Prefix) (wanted : Rows) (p : Prefix) → row_at wanted p ≡ hop → (told new : Option Rows) → new ≡ put_row hop p told
    → ((rows : Rows) → told ≡ Some rows → IsRight known job wanted rows) → (rows : Rows) → new ≡ Some rows → Fits (after_put hop p (Coupled known job)) wanted rows
put_right_fits (Some hop) known job wanted p is None new put fits rows some = absurd (no_rows rows put some)
put_right_fits (Some hop) known job wanted p is (Some old) new put fits rows some =
    subst (λ (rs : Rows). IsRight (insert_key prefix_cmp known p) (all_but p job) wanted rs) (one_rows _ rows (sym put ∙ some)) (set_fits known job wanted old p hop is (fits old refl))
put_right_fits None known job wanted p is None new put fits rows some = absurd (no_rows rows put some)
put_right_fits None known job wanted p is (Some old) new put fits rows some =
    subst (λ (rs : Rows). IsRight (all_but p known) (all_but p job) wanted rs) (one_rows _ rows (sym put ∙ some)) (del_fits known job wanted old p is (fits old refl))

delete_fits : (job : List Prefix) (p : Prefix) (told new : Option Rows) → new ≡ put_row None p told
    → ((rows : Rows) → told ≡ Some rows → IsLeft job rows) → (rows : Rows) → new ≡ Some rows → IsLeft (all_but p job) rows
delete_fits job p None new put fits rows some = absurd (no_rows rows put some)
delete_fits job p (Some old) new put fits rows some =
    subst (λ (rs : Rows). IsLeft (all_but p job) rs) (one_rows _ rows (sym put ∙ some)) (cleared_fits job old p (fits old refl))

was_told : (told : Option Rows) (given rows : Rows) → IfSome told (λ all. given ≡ all) → told ≡ Some rows → given ≡ rows
was_told None given rows h some = absurd (no_rows rows refl some)
was_told (Some all) given rows h some = h ∙ one_rows all rows some

no_work : (work : Work) → {A : Type 0} → Some work ≡ None → A
no_work work e = absurd (none e)
  where
    none : Some work ≡ None → ⊥
    none h = cc

no_list : (p : Prefix) (coupled : Bool) → Some (PutRight p) ≡ Some (ListRows coupled) → ⊥
no_list p coupled e = cc

no_list_2 : (p : Prefix) (coupled : Bool) → Some (Delete p) ≡ Some (ListRows coupled) → ⊥
no_list_2 p coupled e = cc

made_fits : (work : Work) (phase new : Phase) (wanted : Rows) (told told_then : Option Rows) (listed listed_then : ℕ) → IsNext phase (Some work)
    → IsAfter work wanted told phase new listed listed_then → told_then ≡ asked wanted work told
    → ((rows : Rows) → told ≡ Some rows → Fits phase wanted rows) → (rows : Rows) → told_then ≡ Some rows → Fits new wanted rows
made_fits (ListRows coupled) phase new wanted told told_then listed listed_then next after same fits rows some =
    subst (λ (rs : Rows). Fits new wanted rs) (was_told told after.rows rows after.are_told (sym same ∙ some)) (listed_fits coupled new wanted after.rows after.by_prefix after.leave)
made_fits (PutRight p) New new wanted told told_then listed listed_then next after same fits rows some = no_work (PutRight p) next
made_fits (PutRight p) (Listing coupled) new wanted told told_then listed listed_then next after same fits rows some = absurd (no_list p coupled next)
made_fits (PutRight p) (Coupled known job) new wanted told told_then listed listed_then next after same fits rows some =
    subst (λ (phase : Phase). Fits phase wanted rows) (sym after.0) (put_right_fits (row_at wanted p) known job wanted p refl told told_then same fits rows some)
made_fits (PutRight p) (Clearing job) new wanted told told_then listed listed_then next after same fits rows some = absurd next
made_fits (PutRight p) Lost new wanted told told_then listed listed_then next after same fits rows some = no_work (PutRight p) next
made_fits (Delete p) New new wanted told told_then listed listed_then next after same fits rows some = no_work (Delete p) next
made_fits (Delete p) (Listing coupled) new wanted told told_then listed listed_then next after same fits rows some = absurd (no_list_2 p coupled next)
made_fits (Delete p) (Coupled known job) new wanted told told_then listed listed_then next after same fits rows some = absurd next
made_fits (Delete p) (Clearing job) new wanted told told_then listed listed_then next after same fits rows some =
    subst (λ (phase : Phase). Fits phase wanted rows) (sym after.0) (delete_fits job p told told_then same fits rows some)
made_fits (Delete p) Lost new wanted told told_then listed listed_then next after same fits rows some = no_work (Delete p) next

call_fits : (lost : Bool) (n : ℕ) (work : Work) (was is : TableState) (before after : Outside) → IsNext was.phase (Some work) → Outcome lost n work was is before after
    → ((rows : Rows) → before.held n ≡ Some rows → Fits was.phase was.wanted rows) → (rows : Rows) → after.held n ≡ Some rows → Fits is.phase is.wanted rows
call_fits true n work was is before after next outcome fits rows some = subst (λ (phase : Phase). Fits phase is.wanted rows) (sym outcome.phase.0) tt
call_fits false n work was is before after next outcome fits rows some =
    subst (λ (wanted : Rows). Fits is.phase wanted rows) (sym outcome.wanted)
    (made_fits work was.phase is.phase was.wanted (before.held n) (after.held n) before.listed after.listed next outcome.phase outcome.rows fits rows some)

-- ---- all tables

same_number : (n m : ℕ) → is_at (nat_cmp n) m ≡ true → n ≡ m
same_number n m e = (Decides-eqb n m).0 (unsigned_ties n m ∙ e)

pub sets_agree : (held held_then : ℕ → Option Rows) (o : Option TableState) (n : ℕ) (old new : TablesState) → SetsTable o n old new
    → ((m : ℕ) → m ≢ n → held_then m ≡ held m) → ((t : TableState) (rows : Rows) → o ≡ Some t → held_then n ≡ Some rows → Fits t.phase t.wanted rows)
    → Agrees held old → Agrees held_then new
sets_agree held held_then o n old new sets others own agrees m t rows there told = go (is_at (nat_cmp n) m) refl
  where
    set : (b : Bool) → is_at (nat_cmp n) m ≡ b → cond b o (table_at old m) ≡ Some t
    set b is = sym (ap (λ (c : Bool). cond c o (table_at old m)) is) ∙ sym (sets m) ∙ there

    apart : is_at (nat_cmp n) m ≡ false → m ≡ n → ⊥
    apart is e = true≢false (sym ((eq_by_cmp_equiv nat_cmp_total).refl n) ∙ ap (λ (k : ℕ). is_at (nat_cmp n) k) (sym e) ∙ is)

    go : (b : Bool) → is_at (nat_cmp n) m ≡ b → Fits t.phase t.wanted rows
    go true is = own t rows (set true is) (ap held_then (same_number n m is) ∙ told)
    go false is = agrees m t rows (set false is) (sym (others m (apart is)) ∙ told)

no_table : (t : TableState) → None ≡ Some t → ⊥
no_table t e = cc

one_table : (a b : TableState) → Some a ≡ Some b → a ≡ b
one_table a b e = cc

pub changes_agree : (f : TableState → TableState) → ((t : TableState) (rows : Rows) → Fits t.phase t.wanted rows → Fits (f t).phase (f t).wanted rows)
    → (held : ℕ → Option Rows) (n : ℕ) (old new : TablesState) → ChangesTable f n old new → Agrees held old → Agrees held new
changes_agree f keeps held n old new changes agrees = sets_agree held held (option_map f (table_at old n)) n old new changes (λ m _. refl) (own (table_at old n) (λ t rows there told. agrees n t rows there told)) agrees
  where
    own : (o : Option TableState) → ((t : TableState) (rows : Rows) → o ≡ Some t → held n ≡ Some rows → Fits t.phase t.wanted rows)
        → (t : TableState) (rows : Rows) → option_map f o ≡ Some t → held n ≡ Some rows → Fits t.phase t.wanted rows
    own None fits t rows there told = absurd (no_table t there)
    own (Some was) fits t rows there told = subst (λ (u : TableState). Fits u.phase u.wanted rows) (one_table (f was) t there) (keeps was rows (fits was rows refl told))

pub want_agrees : (p : Prefix) (hop : Addr) (held : ℕ → Option Rows) (n : ℕ) (old new : TablesState) → ChangesTable (wants p hop) n old new → Agrees held old → Agrees held new
want_agrees p hop = changes_agree (wants p hop) (λ t rows fits. fits_wants t.phase p t.wanted (insert_entry prefix_cmp t.wanted p hop) rows (other_put t.wanted p hop) fits)

pub want_none_agrees : (p : Prefix) (held : ℕ → Option Rows) (n : ℕ) (old new : TablesState) → ChangesTable (wants_no p) n old new → Agrees held old → Agrees held new
want_none_agrees p = changes_agree (wants_no p) (λ t rows fits. fits_wants t.phase p t.wanted (remove_entry (is_at (prefix_cmp p)) t.wanted) rows (other_taken t.wanted p) fits)

pub couple_agrees : (held : ℕ → Option Rows) (n : ℕ) (old new : TablesState) → ChangesTable couples n old new → Agrees held old → Agrees held new
couple_agrees = changes_agree couples (λ t rows fits. tt)

pub decouple_agrees : (held : ℕ → Option Rows) (n : ℕ) (old new : TablesState) → ChangesTable decouples n old new → Agrees held old → Agrees held new
decouple_agrees = changes_agree decouples (λ t rows fits. fits_decoupled t.phase t.wanted rows fits)

lose_agrees : (held : ℕ → Option Rows) (n : ℕ) (old new : TablesState) → ChangesTable loses n old new → Agrees held old → Agrees held new
lose_agrees = changes_agree loses (λ t rows fits. tt)

pub add_agrees : (held : ℕ → Option Rows) (n : ℕ) (old new : TablesState) → SetsTable (Some new_table) n old new → Agrees held old → Agrees held new
add_agrees held n old new sets = sets_agree held held (Some new_table) n old new sets (λ m _. refl) (λ t rows there told. subst (λ (u : TableState). Fits u.phase u.wanted rows) (one_table new_table t there) tt)

pub remove_agrees : (held : ℕ → Option Rows) (n : ℕ) (old new : TablesState) → SetsTable None n old new → Agrees held old → Agrees held new
remove_agrees held n old new sets = sets_agree held held None n old new sets (λ m _. refl) (λ t rows there told. absurd (no_table t there))

pub unit_agrees : (lost : Option ℕ) (old new : TablesState) (before after : Outside) → IsUnit lost old new before after → Agrees before.held old → Agrees after.held new
unit_agrees lost old new before after (inl idles) agrees =
    subst (λ (s : TablesState). Agrees after.held s) (sym idles.same) (subst (λ (o : Outside). Agrees o.held old) (sym idles.untouched) agrees)
unit_agrees lost old new before after (inr (inl due)) agrees =
    subst (λ (o : Outside). Agrees o.held new) (sym due.untouched) (lose_agrees before.held due.number old new due.tables agrees)
unit_agrees lost old new before after (inr (inr calls)) agrees =
    let call = calls.call in
    sets_agree before.held after.held (Some call.is) calls.number old new call.tables call.outcome.others
    (λ t rows there told. subst (λ (u : TableState). Fits u.phase u.wanted rows) (one_table call.is t there)
    (call_fits calls.failed calls.number calls.work call.was call.is before after call.next call.outcome (λ rs some. agrees calls.number call.was rs call.there some) rows told)) agrees

-- ---- where no job is left

not_decoupled : IsDecoupled ≡ IsCoupled → ⊥
not_decoupled e = cc

not_lost : IsLost ≡ IsCoupled → ⊥
not_lost e = cc

not_lost_2 : IsLost ≡ IsDecoupled → ⊥
not_lost_2 e = cc

no_next : (coupled : Bool) → None ≡ Some (ListRows coupled) → ⊥
no_next coupled e = cc

pub coupled_holds : (phase : Phase) (wanted rows : Rows) → Fits phase wanted rows → coupling_of phase ≡ IsCoupled → IsNext phase None → (q : Prefix) → row_at rows q ≡ row_at wanted q
coupled_holds New wanted rows fits is none q = absurd (not_decoupled is)
coupled_holds (Listing coupled) wanted rows fits is none q = absurd (no_next coupled none)
coupled_holds (Coupled known job) wanted rows fits is none q = fits.right q (none q)
coupled_holds (Clearing job) wanted rows fits is none q = absurd (not_decoupled is)
coupled_holds Lost wanted rows fits is none q = absurd (not_lost is)

pub decoupled_is_empty : (phase : Phase) (wanted rows : Rows) → Fits phase wanted rows → coupling_of phase ≡ IsDecoupled → phase ≢ New → IsNext phase None → rows ≡ []
decoupled_is_empty New wanted rows fits is old none = absurd (old refl)
decoupled_is_empty (Listing coupled) wanted rows fits is old none = absurd (no_next coupled none)
decoupled_is_empty (Coupled known job) wanted rows fits is old none = absurd (not_decoupled (sym is))
decoupled_is_empty (Clearing job) wanted rows fits is old none = empty rows (λ q. sym (fits.are_left.has q) ∙ none q)
  where
    empty : (rows : Rows) → ((q : Prefix) → is_some (row_at rows q) ≡ false) → rows ≡ []
    empty [] gone = refl
    empty (e ∷ es) gone = absurd (true≢false (sym (ap (λ (b : Bool). is_some (cond b (Some e.1) (row_at es e.0))) ((eq_by_cmp_equiv prefix_cmp-total).refl e.0)) ∙ gone e.0))
decoupled_is_empty Lost wanted rows fits is old none = absurd (not_lost_2 is)
