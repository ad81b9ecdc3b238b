-- From what was heard to the answer.
use Rattle.std.proofs.Common.{◌≡◌, ◌∙◌, ℕ, Bool, true, false, List, [], ◌∷◌, Option, Some, None, refl, ap, drop, length}
use Rattle.std.specs.Prelude.{◌||◌, not, ◌==◌, nat_eq, cond, reverse, find, option_map, is_some, slice_index, if◌then◌else◌}
use Rattle.std.specs.List.{list_any, list_all}
use Rattle.std.specs.Option.{option_or}
use Rattle.std.proofs.lemmas.List.{reverse-append}
use Rattle.std.proofs.lemmas.List.Folds.{list_any-append}
use Rattle.std.proofs.Math.Bool.{or_comm}
use Rattle.bgp_wire.proofs.Offers.{or_false}
use Rattle.wire_buf.specs.Field.{◌>>=◌}
use Rattle.byteorder.specs.Endian.{big_number}
use Rattle.bgp_wire.specs.declared.hearing.Heard.{Heard}
use Rattle.bgp_wire.specs.declared.open.OpenRules.{OpenRules}
use Rattle.bgp_wire.specs.Message.{first_row}
use Rattle.bgp_wire.specs.Entries.{Entry, entries}
use Rattle.bgp_wire.specs.Open.{is_of_code, four_octet_as, has_its_length, capabilities_in, parameters_of, lists_of, open_of, open_with, answer_to, answered}
use Rattle.bgp_wire.specs.Hearing.{nothing, offer_with, offer_of, heard_of, heard_with, heard_in, said_of, later_rows, later_facts}

pub or_none : {A : Type 0} (o : Option A) → option_or o None ≡ o
or_none None = refl
or_none (Some x) = refl

-- the capabilities of all parameters, and whether each is of its length
abbrev pub checked : List Entry → Option (List Entry) → Option (List Entry × List Entry)
checked ps capabilities = capabilities >>= λ cs. if list_all has_its_length cs then Some (ps, cs) else None

offers_all : (cs : List Entry) → offer_with nothing.offer cs ≡ cond (list_all has_its_length cs) (Some (offer_of cs)) None
unfolding offer_with
offers_all cs = rw (or_none (four_octet_as cs)) refl

map_cond : {A B : Type 0} (f : A → B) (b : Bool) (x : A) → option_map f (cond b (Some x) None) ≡ cond b (Some (f x)) None
map_cond f true x = refl
map_cond f false x = refl

checked_heard : (ps : List Entry) (capabilities : Option (List Entry)) →
    (capabilities >>= λ cs. offer_with nothing.offer cs >>= λ o. Some (record { foreign = list_any (λ p. not (p.code == 2)) ps; offer = o }))
    ≡ option_map heard_of (checked ps capabilities)
checked_heard ps None = refl
checked_heard ps (Some cs) = rw (offers_all cs) (after (list_all has_its_length cs))
  where
    after : (b : Bool) → (cond b (Some (offer_of cs)) None >>= λ o. Some (record { foreign = list_any (λ p. not (p.code == 2)) ps; offer = o })) ≡ option_map heard_of (cond b (Some (ps, cs)) None)
    after true = refl
    after false = refl

all_heard : (entries_there : Option (List Entry)) → (entries_there >>= heard_with nothing) ≡ option_map heard_of (entries_there >>= λ ps. checked ps (capabilities_in ps))
unfolding heard_with
all_heard None = refl
all_heard (Some ps) = checked_heard ps (capabilities_in ps)

-- what the parameters say, where they fill their length, and where they don't
pub lists_unfilled : (body : List ℕ) → nat_eq (slice_index body 9) (length (drop 10 body)) ≡ false → None ≡ option_map heard_of (lists_of body)
unfolding lists_of parameters_of
lists_unfilled body e = rw e refl

pub lists_filled : (body : List ℕ) → nat_eq (slice_index body 9) (length (drop 10 body)) ≡ true → heard_in nothing (drop 10 body) ≡ option_map heard_of (lists_of body)
unfolding lists_of parameters_of heard_in
lists_filled body e = rw e (all_heard (entries (drop 10 body)))

some_found : (p : Entry → Bool) (cs : List Entry) → is_some (find p cs) ≡ list_any p cs
some_found p [] = refl
some_found p (c ∷ cs) = first (p c) ∙ ap (λ (b : Bool). p c || b) (some_found p cs)
  where
    first : (b : Bool) → is_some (cond b (Some c) (find p cs)) ≡ (b || is_some (find p cs))
    first true = refl
    first false = refl

any_reversed : (p : Entry → Bool) (cs : List Entry) → list_any p (reverse cs) ≡ list_any p cs
any_reversed p [] = refl
any_reversed p (c ∷ cs) =
    ap (list_any p) (reverse-append (c ∷ []) cs)
    ∙ list_any-append p (reverse cs) (c ∷ [])
    ∙ rw (any_reversed p cs, or_false (p c)) (or_comm (list_any p cs) (p c))

mapped_some : {A B : Type 0} (f : A → B) (o : Option A) → is_some (option_map f o) ≡ is_some o
mapped_some f None = refl
mapped_some f (Some x) = refl

-- a four-octet AS number is there where its capability is
as_there : (cs : List Entry) → is_some (four_octet_as cs) ≡ list_any (is_of_code 65) cs
as_there cs = mapped_some (λ c. big_number 4 c.value) (find (is_of_code 65) (reverse cs)) ∙ some_found (is_of_code 65) (reverse cs) ∙ any_reversed (is_of_code 65) cs

answered_from : (body : List ℕ) (heard : Heard) (mine : OpenRules) → nat_eq (slice_index body 0) 4 ≡ true → (lists : Option (List Entry × List Entry)) → Some heard ≡ option_map heard_of lists →
    answer_to (open_with body lists) mine ≡ answered (first_row (later_rows (said_of body heard) mine)) (later_facts (said_of body heard) mine)
answered_from body heard mine version None h = cc
answered_from body heard mine version (Some l) h =
    let same : heard ≡ heard_of l = cc in
    rw (same, version, as_there l.1) refl

-- the answer where version and form are right
pub answer_behind : (body : List ℕ) (heard : Heard) (mine : OpenRules) → nat_eq (slice_index body 0) 4 ≡ true → Some heard ≡ option_map heard_of (lists_of body) →
    answer_to (open_of body) mine ≡ answered (first_row (later_rows (said_of body heard) mine)) (later_facts (said_of body heard) mine)
answer_behind body heard mine version h = answered_from body heard mine version (lists_of body) h
