-- What holds of each entry of lists that are made of others.
use Rattle.std.proofs.Common.{Bool, true, false, cond, List, [], ◌∷◌, ◌++◌, filter}
use Rattle.std.specs.Ordering.{match_ordering}
use Rattle.std.specs.declared.cmp.Ordering.{Ordering}
use Rattle.std.specs.declared.cmp.Ordering.TheVariants.{Less, Equal, Greater}
use Rattle.std.specs.BTreeSet.{insert_key}
use Rattle.conf_tree.specs.Readable.{Each}

module _ {A : Type 0} (Is : A → Type 0) where
  pub each_append : (xs ys : List A) → Each Is xs → Each Is ys → Each Is (xs ++ ys)
  each_append [] ys h k = k
  each_append (x ∷ xs) ys h k = (h.0, each_append xs ys h.1 k)

  pub each_both : (Also : A → Type 0) (xs : List A) → Each Is xs → Each Also xs → Each (λ x. Is x × Also x) xs
  each_both Also [] h k = tt
  each_both Also (x ∷ xs) h k = ((h.0, k.0), each_both Also xs h.1 k.1)

  -- one entry more, at its place in an order
  pub each_insert : (cmp : A → A → Ordering) (xs : List A) (x : A) → Each Is xs → Is x → Each Is (insert_key cmp xs x)
  each_insert cmp [] x h k = (k, tt)
  each_insert cmp (y ∷ ys) x h k = by (cmp x y) (each_insert cmp ys x h.1 k)
    where
      by : (r : Ordering) → Each Is (insert_key cmp ys x) → Each Is (match_ordering r (x ∷ y ∷ ys) (y ∷ ys) (y ∷ insert_key cmp ys x))
      by Less behind = (k, h)
      by Equal behind = h
      by Greater behind = (h.0, behind)

  each_cond : (passes : Bool) (x : A) (rest : List A) → Is x → Each Is rest → Each Is (cond passes (x ∷ rest) rest)
  each_cond true x rest h r = (h, r)
  each_cond false x rest h r = r

  pub each_filter : (test : A → Bool) (xs : List A) → Each Is xs → Each Is (filter test xs)
  each_filter test [] h = tt
  each_filter test (x ∷ xs) h = each_cond (test x) x (filter test xs) h.0 (each_filter test xs h.1)
