-- No name comes twice among those of the groups of neighbours.
use Rattle.std.proofs.Common.{◌≡◌, ◌∙◌, ℕ, ◌+◌, ◌≤◌, Bool, true, false, List, [], ◌∷◌, bytes_eq, refl, sym, ap, subst, arith}
use Rattle.std.specs.List.{AllByRecursion}
use Rattle.std.specs.List.Sorted.{IsStrictlySortedBy}
use Rattle.std.specs.Ordering.{is_eq}
use Rattle.std.specs.declared.cmp.Ordering.TheVariants.{Less}
use Rattle.std.proofs.lemmas.Map.Text.{is_eq-slice_cmp}
use Rattle.std.proofs.lemmas.Slice.Eq.{bytes_eq-Decides}
use Rattle.conf_tree.specs.declared.neighbour.Neighbour.{Neighbour}
use Rattle.conf_tree.specs.Flat.{text_cmp}
use Rattle.conf_tree.specs.Canonical.{group_names}
use Rattle.conf_tree.specs.Readable.{total}
use Rattle.conf_tree.proofs.GroupNames.{names_sorted}
use Rattle.conf_sound.proofs.Totals.{one}

-- each name is there once at most
abbrev pub IsOnce : List (List ℕ) → Type 0
IsOnce names = (wanted : List ℕ) → total (λ name. one (bytes_eq wanted name)) names ≤ 1

above_differs : (wanted name : List ℕ) → text_cmp wanted name ≡ Less → bytes_eq wanted name ≡ false
above_differs wanted name h = sym (is_eq-slice_cmp wanted name) ∙ ap is_eq h

none_above : (wanted : List ℕ) (names : List (List ℕ)) → AllByRecursion (λ name. text_cmp wanted name ≡ Less) names → total (λ name. one (bytes_eq wanted name)) names ≡ 0
none_above wanted [] all = refl
none_above wanted (name ∷ names) all = rw (above_differs wanted name all.0) (omega (arith, none_above wanted names all.1))

sorted_once : (names : List (List ℕ)) → IsStrictlySortedBy text_cmp names → IsOnce names
unfolding IsStrictlySortedBy
sorted_once [] strict wanted = omega arith
sorted_once (name ∷ names) strict wanted = by (bytes_eq wanted name) refl (sorted_once names strict.1 wanted)
  where
    by : (b : Bool) → bytes_eq wanted name ≡ b → total (λ name. one (bytes_eq wanted name)) names ≤ 1 → one b + total (λ name. one (bytes_eq wanted name)) names ≤ 1
    by true e behind =
        let same : name ≡ wanted = sym ((bytes_eq-Decides wanted name).0 e) in
        let above : AllByRecursion (λ y. text_cmp wanted y ≡ Less) names = subst (λ w. AllByRecursion (λ y. text_cmp w y ≡ Less) names) same strict.0 in
        omega (arith, none_above wanted names above)
    by false e behind = omega (arith, behind)

pub names_once : (ns : List Neighbour) → IsOnce (group_names ns)
names_once ns = sorted_once (group_names ns) (names_sorted ns)
