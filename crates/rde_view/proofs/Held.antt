-- The held list of a session has the routes of its number.
use Rattle.std.proofs.Common.{◌≡◌, ℕ, Bool, true, false, cond, List, [], ◌∷◌, ◌++◌, Option, Some, None, refl, sym, ap, subst, ◌∙◌}
use Rattle.std.specs.Prelude.{option_map, option_to_list, unwrap_or, find, ◌==◌}
use Rattle.std.specs.List.{AllByRecursion}
use Rattle.std.specs.List.Sorted.{IsStrictlySortedBy}
use Rattle.std.specs.Map.{lookup, keys_of}
use Rattle.std.specs.Ordering.{is_eq}
use Rattle.std.specs.declared.cmp.Ordering.TheVariants.{Less}
use Rattle.net_base.specs.declared.prefix.Prefix.{Prefix}
use Rattle.net_base.specs.Order.{prefix_cmp}
use Rattle.net_base.proofs.Order.{prefix_cmp-Equal}
use Rattle.attr_model.specs.declared.attrs.Attrs.{Attrs}
use Rattle.attr_model.specs.Numbered.{Numbered}
use Rattle.attr_model.specs.Routes.{route_at as listed_at}
use Rattle.adj_rib_in.specs.declared.row.Entry.{Entry}
use Rattle.adj_rib_in.specs.Row.{attrs_of}
use Rattle.adj_rib_in.specs.Held.{Held, route_at}
use Rattle.rde_view.specs.View.{held_list}

-- each key is another prefix
abbrev Others : Prefix → List Prefix → Type 0
Others prefix keys = AllByRecursion (λ k. is_eq (prefix_cmp prefix k) ≡ false) keys

abbrev row_list : Prefix → Option Numbered → List (Prefix × Attrs)
row_list q o = option_to_list (option_map (λ one. (q, one.attrs)) o)

behind : (prefix q : Prefix) (o : Option Numbered) (rest : List (Prefix × Attrs)) → is_eq (prefix_cmp prefix q) ≡ false
    → listed_at (row_list q o ++ rest) prefix ≡ listed_at rest prefix
behind prefix q None rest e = refl
behind prefix q (Some one) rest e = ap (λ b. cond b (Some one.attrs) (listed_at rest prefix)) e

absent : (number : ℕ) (prefix : Prefix) (held : Held) → Others prefix (keys_of held) → listed_at (held_list number held) prefix ≡ None
absent number prefix [] others = refl
absent number prefix ((q, row) ∷ rest) others =
    behind prefix q (attrs_of number row) (held_list number rest) others.0 ∙ absent number prefix rest others.1

abbrev AllAbove : Prefix → List Prefix → Type 0
AllAbove q keys = AllByRecursion (λ k. prefix_cmp q k ≡ Less) keys

above_are_others : (q : Prefix) (keys : List Prefix) → AllAbove q keys → Others q keys
above_are_others q [] all = tt
above_are_others q (k ∷ keys) all = (ap is_eq all.0, above_are_others q keys all.1)

-- what a look-up among rows gives of a number
abbrev from_row : ℕ → Bool → List Entry → Option (List Entry) → Option Attrs
from_row number b row o = option_map (λ one. one.attrs) (attrs_of number (unwrap_or (cond b (Some row) o) []))

list_step : (number : ℕ) (prefix q : Prefix) (row : List Entry) (rest : Held) → AllAbove q (keys_of rest)
    → listed_at (held_list number rest) prefix ≡ option_map (λ one. one.attrs) (route_at rest prefix number)
    → (b : Bool) → is_eq (prefix_cmp prefix q) ≡ b → (o : Option Numbered) → attrs_of number row ≡ o
    → listed_at (row_list q (attrs_of number row) ++ held_list number rest) prefix
    ≡ from_row number (is_eq (prefix_cmp prefix q)) row (lookup (λ other. is_eq (prefix_cmp prefix other)) rest)
list_step number prefix q row rest above behind_it false e o f =
    behind prefix q (attrs_of number row) (held_list number rest) e ∙ behind_it
    ∙ sym (ap (λ b. from_row number b row (lookup (λ other. is_eq (prefix_cmp prefix other)) rest)) e)
list_step number prefix q row rest above behind_it true e (Some one) f =
    ap (λ o. listed_at (row_list q o ++ held_list number rest) prefix) f
    ∙ ap (λ b. cond b (Some one.attrs) (listed_at (held_list number rest) prefix)) e
    ∙ sym (ap (option_map (λ (one : Numbered). one.attrs)) f)
    ∙ sym (ap (λ b. from_row number b row (lookup (λ other. is_eq (prefix_cmp prefix other)) rest)) e)
list_step number prefix q row rest above behind_it true e None f =
    ap (λ o. listed_at (row_list q o ++ held_list number rest) prefix) f
    ∙ absent number prefix rest (subst (λ p. Others p (keys_of rest)) (sym (prefix_cmp-Equal prefix q e)) (above_are_others q (keys_of rest) above))
    ∙ sym (ap (option_map (λ (one : Numbered). one.attrs)) f)
    ∙ sym (ap (λ b. from_row number b row (lookup (λ other. is_eq (prefix_cmp prefix other)) rest)) e)

pub route_at_list : (number : ℕ) (prefix : Prefix) (held : Held) → IsStrictlySortedBy prefix_cmp (keys_of held)
    → listed_at (held_list number held) prefix ≡ option_map (λ one. one.attrs) (route_at held prefix number)
unfolding IsStrictlySortedBy
route_at_list number prefix [] sorted = refl
route_at_list number prefix ((q, row) ∷ rest) sorted =
    list_step number prefix q row rest sorted.0 (route_at_list number prefix rest sorted.1) (is_eq (prefix_cmp prefix q)) refl (attrs_of number row) refl

-- the route of a session is that of its first entry
pub attrs_found : (number : ℕ) (row : List Entry) → option_map (λ (entry : Entry). entry.attrs) (find (λ (entry : Entry). entry.session == number) row) ≡ attrs_of number row
attrs_found number [] = refl
attrs_found number (entry ∷ rest) = go (attrs_found number rest) (entry.session == number)
  where
    go : option_map (λ (entry : Entry). entry.attrs) (find (λ (entry : Entry). entry.session == number) rest) ≡ attrs_of number rest
        → (b : Bool) → option_map (λ (entry : Entry). entry.attrs) (cond b (Some entry) (find (λ (entry : Entry). entry.session == number) rest)) ≡ cond b (Some entry.attrs) (attrs_of number rest)
    go rec true = refl
    go rec false = rec
