-- No name of a canonical text comes twice.
use Rattle.std.proofs.Common.{◌≡◌, ◌∙◌, ℕ, List, [], ◌∷◌, map, Option, Some, None, refl, ap, sym, subst, map-id, bytes_eq}
use Rattle.std.specs.Prelude.{option_map, option_and_then, filter_map, ◌==◌}
use Rattle.std.specs.List.{IsDistinct, cons_option}
use Rattle.std.proofs.lemmas.Cmp.{nat_eq_equiv, nat_list_eq_equiv}
use Rattle.conf_tree.specs.declared.conf.Conf.{Conf}
use Rattle.conf_tree.specs.declared.conf.Rib.{Rib}
use Rattle.conf_tree.specs.declared.draft.Statement.{Statement}
use Rattle.conf_tree.specs.declared.draft.Statement.TheVariants as says
use Rattle.conf_tree.specs.declared.draft.StatementLine.{StatementLine}
use Rattle.conf_tree.specs.Said.{said, rib_of}
use Rattle.conf_tree.specs.Flat.{loc_rib}
use Rattle.conf_tree.specs.Checks.{named, rib_name_of, rib_table_of, prefix_set_name_of, as_set_name_of, origin_set_name_of, double_of, double_rib, double_table}
use Rattle.conf_tree.specs.Settled.{IsSettled}
use Rattle.conf_back.proofs.Framed.{lines_back}
use Rattle.conf_back.proofs.Selected.{ribs_said, rib_names_said, prefix_set_names_said, as_set_names_said, origin_set_names_said}
use Rattle.conf_back.proofs.NamesBack.{distinct_names}
use Rattle.conf_back.proofs.Differing.{no_double}

-- ---- names with their lines

module _ {K : Type 0} where
  abbrev pub names_in : List (ℕ × K) → List K
  names_in names = map (λ n. n.1) names

  pub names_said : (name_of : Statement → Option K) (lines : List StatementLine) → names_in (named name_of lines) ≡ said name_of lines
  names_said name_of [] = refl
  names_said name_of (l ∷ lines) = by (name_of l.statement) (names_said name_of lines)
    where
      by : (o : Option K) → names_in (named name_of lines) ≡ said name_of lines → names_in (cons_option (option_map (λ name. (l.line, name)) o) (named name_of lines)) ≡ cons_option o (said name_of lines)
      by None h = h
      by (Some name) h = ap (λ (names : List K). name ∷ names) h

-- ---- the names of a canonical text

pub no_double_of : (name_of : Statement → Option (List ℕ)) (lines : List StatementLine) (names : List (List ℕ)) → said name_of lines ≡ names → IsDistinct bytes_eq names → double_of name_of lines ≡ None
no_double_of name_of lines names e d = no_double bytes_eq nat_list_eq_equiv.symm (named name_of lines) (subst (IsDistinct bytes_eq) (sym (names_said name_of lines ∙ e)) d)

table_said : (s : Statement) → rib_table_of s ≡ option_and_then (λ r. r.table) (rib_of s)
table_said (says.Rib name table) = refl
table_said _ = refl

tables_said : (lines : List StatementLine) → said rib_table_of lines ≡ filter_map (λ r. r.table) (said rib_of lines)
tables_said [] = refl
tables_said (l ∷ lines) = ap (λ (o : Option ℕ). cons_option o (said rib_table_of lines)) (table_said l.statement) ∙ by (rib_of l.statement) (tables_said lines)
  where
    by : (o : Option Rib) → said rib_table_of lines ≡ filter_map (λ r. r.table) (said rib_of lines) → cons_option (option_and_then (λ r. r.table) o) (said rib_table_of lines) ≡ filter_map (λ r. r.table) (cons_option o (said rib_of lines))
    by None h = h
    by (Some r) h = ap (cons_option r.table) h

module _ (conf : Conf) (s : IsSettled conf) where
  pub no_double_rib : double_rib (lines_back conf) ≡ None
  no_double_rib =
      no_double bytes_eq nat_list_eq_equiv.symm ((0, loc_rib) ∷ named rib_name_of (lines_back conf))
      (subst (λ (names : List (List ℕ)). IsDistinct bytes_eq (loc_rib ∷ names)) (sym (names_said rib_name_of (lines_back conf) ∙ rib_names_said conf)) s.ribs)

  pub no_double_table : double_table (lines_back conf) ≡ None
  no_double_table =
      no_double (λ a b. a == b) nat_eq_equiv.symm (named rib_table_of (lines_back conf))
      (subst (IsDistinct (λ a b. a == b)) (sym (names_said rib_table_of (lines_back conf) ∙ tables_said (lines_back conf) ∙ ap (filter_map (λ r. r.table)) (ribs_said conf ∙ map-id conf.ribs))) s.tables)

  pub no_double_prefix_set : double_of prefix_set_name_of (lines_back conf) ≡ None
  no_double_prefix_set = no_double_of prefix_set_name_of (lines_back conf) (map (λ s. s.name) conf.prefix_sets) (prefix_set_names_said conf) (distinct_names (λ s. s.name) conf.prefix_sets s.prefix_sets)

  pub no_double_as_set : double_of as_set_name_of (lines_back conf) ≡ None
  no_double_as_set = no_double_of as_set_name_of (lines_back conf) (map (λ s. s.name) conf.as_sets) (as_set_names_said conf) (distinct_names (λ s. s.name) conf.as_sets s.as_sets)

  pub no_double_origin_set : double_of origin_set_name_of (lines_back conf) ≡ None
  no_double_origin_set = no_double_of origin_set_name_of (lines_back conf) (map (λ s. s.name) conf.origin_sets) (origin_set_names_said conf) (distinct_names (λ s. s.name) conf.origin_sets s.origin_sets)
