-- No name of a RIB comes twice and no kernel table: names of which none comes twice are distinct.
use Rattle.std.proofs.Common.{◌≡◌, ◌∙◌, ℕ, Bool, true, false, ◌||◌, List, [], ◌∷◌, ◌++◌, map, Option, Some, None, refl, sym, ap, subst, bytes_eq}
use Rattle.std.specs.Prelude.{◌==◌, filter_map, option_map}
use Rattle.std.specs.List.{AllByRecursion, IsDistinct, list_any, cons_option}
use Rattle.std.specs.Cmp.{IsEquivalence}
use Rattle.std.proofs.lemmas.Cmp.{nat_eq_equiv, nat_list_eq_equiv}
use Rattle.std.proofs.lemmas.List.Folds.{list_any-append}
use Rattle.conf_tree.specs.declared.conf.Rib.{Rib}
use Rattle.conf_tree.specs.declared.draft.Statement.{Statement}
use Rattle.conf_tree.specs.declared.draft.Statement.TheVariants as says
use Rattle.conf_tree.specs.declared.draft.StatementLine.{StatementLine}
use Rattle.net_base.specs.declared.conf.ConfKind.TheVariants.{DoubleName}
use Rattle.conf_tree.specs.Said.{said, rib_of}
use Rattle.conf_tree.specs.Flat.{loc_rib}
use Rattle.conf_tree.specs.Checks.{double_after, first_double, first_line, named, rib_name_of, rib_table_of, prefix_set_name_of, as_set_name_of, origin_set_name_of, group_name_of, double_of, double_rib, double_table, double_name, fault_at}
use Rattle.conf_tree.specs.Readable.{Each}
use Rattle.conf_sound.proofs.Lists.{found_none, map_none}

-- neither of two is true
pub neither : (a b : Bool) → (a || b) ≡ false → (a ≡ false) × (b ≡ false)
neither true b e = absurd (cc)
neither false b e = (refl, e)

-- no line, and so neither of two
pub no_line : (a b : Option ℕ) → first_line a b ≡ None → (a ≡ None) × (b ≡ None)
no_line None b e = (refl, e)
no_line (Some a) None e = absurd (cc)
no_line (Some a) (Some b) e = absurd (cc)

-- ---- names of which none comes twice

module _ {K : Type 0} (same : K → K → Bool) where
  -- no earlier name is the same as this one
  abbrev IsNew : List (ℕ × K) → ℕ × K → Type 0
  IsNew earlier name = list_any (λ e. same name.1 e.1) earlier ≡ false

  fewer_before : (earlier : List (ℕ × K)) (one : ℕ × K) (names : List (ℕ × K)) → Each (IsNew (earlier ++ one ∷ [])) names
      → Each (IsNew earlier) names × AllByRecursion (λ k. same k one.1 ≡ false) (map (λ e. e.1) names)
  fewer_before earlier one [] h = (tt, tt)
  fewer_before earlier one (name ∷ names) h =
      let parts = neither (list_any (λ e. same name.1 e.1) earlier) (same name.1 one.1 || false) (sym (list_any-append (λ e. same name.1 e.1) earlier (one ∷ [])) ∙ h.0) in
      let rest = fewer_before earlier one names h.1 in
      ((parts.0, rest.0), ((neither (same name.1 one.1) false parts.1).0, rest.1))

  all_new : (earlier names : List (ℕ × K)) → double_after same earlier names ≡ None → Each (IsNew earlier) names
  all_new earlier [] e = tt
  all_new earlier (name ∷ names) e =
      let parts = found_none (list_any (λ x. same name.1 x.1) earlier) name.0 (double_after same (earlier ++ name ∷ []) names) e in
      (parts.0, (fewer_before earlier name names (all_new (earlier ++ name ∷ []) names parts.1)).0)

  module _ (laws : IsEquivalence same) where
    turned : (one : K) (names : List K) → AllByRecursion (λ k. same k one ≡ false) names → AllByRecursion (λ k. same one k ≡ false) names
    turned one [] h = tt
    turned one (k ∷ names) h = (laws.symm one k ∙ h.0, turned one names h.1)

    distinct_after : (earlier names : List (ℕ × K)) → double_after same earlier names ≡ None → IsDistinct same (map (λ e. e.1) names)
    unfolding IsDistinct
    distinct_after earlier [] e = tt
    distinct_after earlier (name ∷ names) e =
        let parts = found_none (list_any (λ x. same name.1 x.1) earlier) name.0 (double_after same (earlier ++ name ∷ []) names) e in
        (turned name.1 _ (fewer_before earlier name names (all_new (earlier ++ name ∷ []) names parts.1)).1, distinct_after (earlier ++ name ∷ []) names parts.1)

    pub distinct_names : (names : List (ℕ × K)) → first_double same names ≡ None → IsDistinct same (map (λ e. e.1) names)
    unfolding first_double
    distinct_names names e = distinct_after [] names e

-- ---- RIBs

rib_names : (lines : List StatementLine) → map (λ e. e.1) (named rib_name_of lines) ≡ map (λ r. r.name) (said rib_of lines)
rib_names [] = refl
rib_names (l ∷ lines) = by l.statement (rib_names lines)
  where
    by : (s : Statement) → map (λ e. e.1) (named rib_name_of lines) ≡ map (λ (r : Rib). r.name) (said rib_of lines)
        → map (λ e. e.1) (cons_option (option_map (λ name. (l.line, name)) (rib_name_of s)) (named rib_name_of lines)) ≡ map (λ (r : Rib). r.name) (cons_option (rib_of s) (said rib_of lines))
    by (says.Rib name table) e = ap (λ names. name ∷ names) e
    by _ e = e

rib_tables : (lines : List StatementLine) → map (λ e. e.1) (named rib_table_of lines) ≡ filter_map (λ r. r.table) (said rib_of lines)
rib_tables [] = refl
rib_tables (l ∷ lines) = by l.statement (rib_tables lines)
  where
    by : (s : Statement) → map (λ e. e.1) (named rib_table_of lines) ≡ filter_map (λ (r : Rib). r.table) (said rib_of lines)
        → map (λ e. e.1) (cons_option (option_map (λ table. (l.line, table)) (rib_table_of s)) (named rib_table_of lines)) ≡ filter_map (λ (r : Rib). r.table) (cons_option (rib_of s) (said rib_of lines))
    by (says.Rib name None) e = e
    by (says.Rib name (Some table)) e = ap (λ tables. table ∷ tables) e
    by _ e = e

-- no double RIB and no double kernel table
no_double : (lines : List StatementLine) → double_name lines ≡ None → (double_rib lines ≡ None) × (double_table lines ≡ None)
unfolding double_name
no_double lines e =
    let sets = first_line (double_of prefix_set_name_of lines) (first_line (double_of as_set_name_of lines) (first_line (double_of origin_set_name_of lines) (double_of group_name_of lines))) in
    let one = no_line (double_rib lines) (first_line (double_table lines) sets) (map_none (fault_at DoubleName) _ e) in
    let two = no_line (double_table lines) sets one.1 in
    (one.0, two.0)

pub ribs_distinct : (lines : List StatementLine) → double_name lines ≡ None → IsDistinct bytes_eq (loc_rib ∷ map (λ r. r.name) (said rib_of lines))
ribs_distinct lines e =
    subst (λ names. IsDistinct bytes_eq (loc_rib ∷ names)) (rib_names lines)
    (distinct_names bytes_eq nat_list_eq_equiv ((0, loc_rib) ∷ named rib_name_of lines) (no_double lines e).0)

pub tables_distinct : (lines : List StatementLine) → double_name lines ≡ None → IsDistinct (λ a b. a == b) (filter_map (λ r. r.table) (said rib_of lines))
tables_distinct lines e =
    subst (IsDistinct (λ a b. a == b)) (rib_tables lines)
    (distinct_names (λ a b. a == b) nat_eq_equiv (named rib_table_of lines) (no_double lines e).1)
