-- Capabilities and parameters add one after the other to what was heard.
use Rattle.std.proofs.Common.{append-nil, ◌≡◌, ◌∙◌, ℕ, Bool, true, false, List, [], ◌∷◌, ◌++◌, Option, Some, None, refl, ap}
use Rattle.std.specs.Prelude.{IsTrue, ◌||◌, ◌&&◌, not, ◌==◌, cond, reverse, find, option_map}
use Rattle.std.specs.List.{list_any}
use Rattle.std.specs.Option.{option_or}
use Rattle.std.proofs.lemmas.List.{reverse-append}
use Rattle.std.proofs.lemmas.List.Folds.{list_any-append, list_all-append, find-append}
use Rattle.std.proofs.Math.Bool.{or_assoc}
use Rattle.wire_buf.specs.Field.{◌>>=◌}
use Rattle.byteorder.specs.Endian.{big_number}
use Rattle.bgp_wire.specs.declared.hearing.Offer.{Offer}
use Rattle.bgp_wire.specs.declared.hearing.Heard.{Heard}
use Rattle.bgp_wire.specs.Entries.{Entry, entry_at, entries}
use Rattle.bgp_wire.specs.Open.{is_of_code, is_of_family, four_octet_as, has_its_length, capabilities_in}
use Rattle.bgp_wire.specs.Hearing.{offer_with, heard_with, offer_in, heard_in}
use Rattle.bgp_wire.proofs.Fields.{InTurn, none_of, not_empty, walk_cut, walk_on, entries_end}

map_or : {A B : Type 0} (f : A → B) (o p : Option A) → option_map f (option_or o p) ≡ option_or (option_map f o) (option_map f p)
map_or f None p = refl
map_or f (Some x) p = refl

or_or : {A : Type 0} (o p q : Option A) → option_or (option_or o p) q ≡ option_or o (option_or p q)
or_or None p q = refl
or_or (Some x) p q = refl

-- the last four-octet AS number is the later one
pub later_as : (xs ys : List Entry) → four_octet_as (xs ++ ys) ≡ option_or (four_octet_as ys) (four_octet_as xs)
later_as xs ys =
    rw (reverse-append xs ys, find-append (is_of_code 65) (reverse ys) (reverse xs))
    (map_or (λ c. big_number 4 c.value) (find (is_of_code 65) (reverse ys)) (find (is_of_code 65) (reverse xs)))

-- what both lists say, said at once or one after the other
two_offers : (o : Offer) (a b : Bool) (f f' g g' h h' r r' : Bool) (n n' : Option ℕ) →
    cond {A = Option Offer} (a && b) (Some (record { families = o.families || (f || f'); v4 = o.v4 || (g || g'); v6 = o.v6 || (h || h'); refresh = o.refresh || (r || r'); asn = option_or (option_or n' n) o.asn })) None
    ≡ (cond {A = Option Offer} a (Some (record { families = o.families || f; v4 = o.v4 || g; v6 = o.v6 || h; refresh = o.refresh || r; asn = option_or n o.asn })) None
    >>= λ o. cond {A = Option Offer} b (Some (record { families = o.families || f'; v4 = o.v4 || g'; v6 = o.v6 || h'; refresh = o.refresh || r'; asn = option_or n' o.asn })) None)
two_offers o false b f f' g g' h h' r r' n n' = refl
two_offers o true false f f' g g' h h' r r' n n' = refl
two_offers o true true f f' g g' h h' r r' n n' =
    rw (← or_assoc o.families f f', ← or_assoc o.v4 g g', ← or_assoc o.v6 h h', ← or_assoc o.refresh r r', or_or n' n o.asn) refl

pub offer_with-append : (o : Offer) (xs ys : List Entry) → offer_with o (xs ++ ys) ≡ (offer_with o xs >>= λ p. offer_with p ys)
unfolding offer_with
offer_with-append o xs ys =
    rw (list_all-append has_its_length xs ys, list_any-append (is_of_code 1) xs ys, list_any-append (is_of_family 1) xs ys, list_any-append (is_of_family 2) xs ys, list_any-append (is_of_code 2) xs ys, later_as xs ys)
    (two_offers o _ _ _ _ _ _ _ _ _ _ _ _)

pub offers_in_turn : InTurn offer_with
offers_in_turn o c cs = offer_with-append o (c ∷ []) cs

foreign_more : (f p q : Bool) → (f || (p || q)) ≡ ((f || (p || false)) || q)
foreign_more true p q = refl
foreign_more false true q = refl
foreign_more false false q = refl

abbrev pub heard : Bool → Offer → Heard
heard f o = record { foreign = f; offer = o }

two_heard : (f p q : Bool) (a : Option Offer) (b : Offer → Option Offer) →
    ((a >>= b) >>= λ o. Some (heard (f || (p || q)) o))
    ≡ ((a >>= λ o. Some (heard (f || (p || false)) o)) >>= λ t. b t.offer >>= λ o. Some (heard (t.foreign || q) o))
two_heard f p q None b = refl
two_heard f p q (Some o) b = rw (foreign_more f p q) refl

-- one parameter's capabilities, and those of the parameters behind it
parameter_in_turn : (h : Heard) (p q : Bool) (here others : Option (List Entry)) →
    ((here >>= λ x. others >>= λ y. Some (x ++ y)) >>= λ cs. offer_with h.offer cs >>= λ o. Some (heard (h.foreign || (p || q)) o))
    ≡ (((here >>= λ x. Some (x ++ [])) >>= λ cs. offer_with h.offer cs >>= λ o. Some (heard (h.foreign || (p || false)) o))
    >>= λ t. others >>= λ cs. offer_with t.offer cs >>= λ o. Some (heard (t.foreign || q) o))
parameter_in_turn h p q None others = refl
parameter_in_turn h p q (Some x) None =
    none_of (offer_with h.offer (x ++ []) >>= λ o. Some (heard (h.foreign || (p || false)) o))
parameter_in_turn h p q (Some x) (Some y) =
    rw (append-nil x, offer_with-append h.offer x y)
    (two_heard h.foreign p q (offer_with h.offer x) (λ o. offer_with o y))

pub heard_in_turn : InTurn heard_with
unfolding heard_with capabilities_in
heard_in_turn h p ps =
    parameter_in_turn h (not (p.code == 2)) (list_any (λ p. not (p.code == 2)) ps) (cond (p.code == 2) (entries p.value) (Some [])) (capabilities_in ps)

pub or_false : (b : Bool) → (b || false) ≡ b
or_false true = refl
or_false false = refl

-- no capability adds anything
offer_with-nil : (o : Offer) → offer_with o [] ≡ Some o
unfolding offer_with
offer_with-nil o = rw (or_false o.families, or_false o.v4, or_false o.v6, or_false o.refresh) refl

heard_with-nil : (h : Heard) → heard_with h [] ≡ Some h
unfolding heard_with capabilities_in
heard_with-nil h = rw (offer_with-nil h.offer, or_false h.foreign) refl

-- a step of the loop over capabilities: the field ends, is cut, or goes on
pub offer_end : (o : Offer) (bytes : List ℕ) → bytes ≡ [] → Some o ≡ offer_in o bytes
unfolding offer_in
offer_end o bytes e = rw (e, entries_end, offer_with-nil o) refl

pub offer_cut : (o : Offer) (bytes : List ℕ) → (bytes ≡ [] → IsTrue false) → entry_at bytes ≡ None → offer_in o bytes ≡ None
unfolding offer_in
offer_cut o bytes h none = walk_cut offer_with o bytes (not_empty bytes h) none

pub offer_on : (o : Offer) (bytes : List ℕ) (e : Entry × List ℕ) (after : Option Offer) → (bytes ≡ [] → IsTrue false) → entry_at bytes ≡ Some e → offer_with o (e.0 ∷ []) ≡ after →
    offer_in o bytes ≡ (after >>= λ p. offer_in p e.1)
unfolding offer_in
offer_on o bytes e after h first one =
    walk_on offer_with offers_in_turn o bytes e (not_empty bytes h) first ∙ ap (λ (a : Option Offer). a >>= λ p. offer_in p e.1) one

-- the same for parameters
pub heard_end : (h : Heard) (bytes : List ℕ) → bytes ≡ [] → Some h ≡ heard_in h bytes
unfolding heard_in
heard_end h bytes e = rw (e, entries_end, heard_with-nil h) refl

pub heard_cut : (o : Heard) (bytes : List ℕ) → (bytes ≡ [] → IsTrue false) → entry_at bytes ≡ None → heard_in o bytes ≡ None
unfolding heard_in
heard_cut o bytes h none = walk_cut heard_with o bytes (not_empty bytes h) none

pub heard_on : (o : Heard) (bytes : List ℕ) (e : Entry × List ℕ) (after : Option Heard) → (bytes ≡ [] → IsTrue false) → entry_at bytes ≡ Some e → heard_with o (e.0 ∷ []) ≡ after →
    heard_in o bytes ≡ (after >>= λ p. heard_in p e.1)
unfolding heard_in
heard_on o bytes e after h first one =
    walk_on heard_with heard_in_turn o bytes e (not_empty bytes h) first ∙ ap (λ (a : Option Heard). a >>= λ p. heard_in p e.1) one

or_true : (b : Bool) → (b || true) ≡ true
or_true true = refl
or_true false = refl

-- a parameter of another type
pub foreign_parameter : (h : Heard) (p : Entry) → (p.code == 2) ≡ false → Some (heard true h.offer) ≡ heard_with h (p ∷ [])
unfolding heard_with capabilities_in
foreign_parameter h p e = rw (e, offer_with-nil h.offer, or_true h.foreign) refl

and_then_all : (h : Heard) (o : Option (List Entry)) →
    ((o >>= λ x. Some (x ++ [])) >>= λ cs. offer_with h.offer cs >>= λ q. Some (heard (h.foreign || false) q))
    ≡ ((o >>= offer_with h.offer) >>= λ q. Some (heard h.foreign q))
and_then_all h None = refl
and_then_all h (Some x) = rw (append-nil x, or_false h.foreign) refl

-- a parameter of capabilities
pub capabilities_parameter : (h : Heard) (p : Entry) (after : Option Offer) → (p.code == 2) ≡ true → offer_in h.offer p.value ≡ after →
    heard_with h (p ∷ []) ≡ (after >>= λ o. Some (heard h.foreign o))
unfolding heard_with capabilities_in offer_in
capabilities_parameter h p after e here =
    rw e (and_then_all h (entries p.value)) ∙ ap (λ (a : Option Offer). a >>= λ o. Some (heard h.foreign o)) here
