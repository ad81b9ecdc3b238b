-- A text spells one prefix at most, the reader finds it, and what is printed is such a text.
use Rattle.std.proofs.Common.{◌≡◌, ℕ, suc, ◌+◌, ◌-◌, ◌%◌, ◌^◌, ◌<◌, ◌≤◌, min, Bool, false, not, List, [], ◌∷◌, ◌++◌, length, get_or, take, drop, decimal, codes, Some, None, Result, Ok, Err, refl, sym, ap, ◌∙◌, subst, arith, lt-ltb, le-leb, lit≤, add-one, append_assoc, length-append, take_at, ◌==◌}
use Rattle.std.proofs.lemmas.Bool.{or_parts, leb-true, lt-leb}
use Rattle.std.proofs.lemmas.Bool.Decides.{Decides-eqb}
use Rattle.std.proofs.lemmas.List.{take-append-drop, drop_at}
use Rattle.std.proofs.lemmas.List.Quantifiers.{position-Some}
use Rattle.std.proofs.lemmas.Option.{none-some, same_Some}
use Rattle.std.proofs.Math.Seq.{drop-cons}
use Rattle.std.proofs.NetLemmas.Options.{cond_some, and_then_some}
use Rattle.std.specs.List.{prefix_len, position}
use Rattle.std.specs.Net.Grammar.{Parses}
use Rattle.std.specs.Result.{result_ok}
use Rattle.net_base.specs.declared.addr.Family.{Family}
use Rattle.net_base.specs.declared.addr.Family.TheVariants.{V4, V6}
use Rattle.net_base.specs.declared.addr.Addr.{Addr}
use Rattle.net_base.specs.declared.prefix.Prefix.{Prefix}
use Rattle.net_base.specs.declared.number.BadNumber.{BadNumber}
use Rattle.net_base.specs.declared.number.BadNumber.TheVariants.{NotNumber, TooLarge}
use Rattle.net_base.specs.Width.{width_of}
use Rattle.net_base.specs.Bits.{without_low, host_len, prefix_of, prefix_addr}
use Rattle.net_base.specs.Addr.{has_byte, read_addr, bits_text, addr_text, SpellsOnly}
use Rattle.net_base.specs.Number.{IsNumberText, ReadsNumber, number_of}
use Rattle.net_base.specs.Prefix.{IsPrefixText, prefix_text, prefix_from, read_prefix}
use Rattle.net_base.proofs.AddrText.{none_unless, read_addr_complete, read_addr_sound, addr_text-spells_only, addr_lacks_slash}
use Rattle.net_base.proofs.Equal.{same_prefix}
use Rattle.net_base.proofs.Lacks.{Lacks}
use Rattle.net_base.proofs.Numbers.{number_of_sound, number_of_complete, IsNumberText-decimal, number_text_is_decimal}

abbrev is_slash : ℕ → Bool
is_slash c = c == 47

-- ---- the only slash

slash_place : (front rest : List ℕ) → has_byte 47 front ≡ false → prefix_len (λ c. not (is_slash c)) (front ++ (47 ∷ rest)) ≡ length front
slash_place [] rest h = refl
slash_place (c ∷ front) rest h =
    let (here, later) = or_parts (c == 47) (has_byte 47 front) h in
    let other : (c == 47) ≡ false = here in
    rw other (omega (arith, slash_place front rest later))

slash_position : (front rest : List ℕ) → Lacks 47 front → position is_slash (front ++ (47 ∷ rest)) ≡ Some (length front)
slash_position front rest h =
    let inside : length front < length (front ++ (47 ∷ rest)) = omega (arith, length-append front (47 ∷ rest)) in
    rw (slash_place front rest h.lacks, lt-ltb _ _ inside) refl

behind_slash : (front rest : List ℕ) → drop (length front + 1) (front ++ (47 ∷ rest)) ≡ rest
behind_slash front rest =
    subst (λ (t : List ℕ). drop (length front + 1) t ≡ rest) (append_assoc front (47 ∷ []) rest)
    (drop_at (front ++ (47 ∷ [])) rest (length front + 1) (length-append front (47 ∷ [])))

cut_at_slash : (text : List ℕ) (slash : ℕ) → position is_slash text ≡ Some slash → text ≡ take slash text ++ (47 ∷ drop (slash + 1) text)
cut_at_slash text slash e =
    let (inside, is, before) = position-Some is_slash text slash 0 e in
    let byte : get_or text slash 0 ≡ 47 = (Decides-eqb (get_or text slash 0) 47).0 is in
    let next : drop slash text ≡ 47 ∷ drop (slash + 1) text = drop-cons text slash 0 inside ∙ (λ i. byte i ∷ drop (suc slash) text) ∙ ap (λ n. 47 ∷ drop n text) (sym (add-one slash)) in
    sym (take-append-drop slash text) ∙ ap (λ t. take slash text ++ t) next

-- ---- the reader finds what a text spells

width_at_most : (f : Family) → width_of f ≤ 128
width_at_most V4 = lit≤ tt
width_at_most V6 = lit≤ tt

pub read_prefix_complete : (text : List ℕ) (p : Prefix) → IsPrefixText text p → read_prefix text ≡ Some p
unfolding read_prefix prefix_from
read_prefix_complete text p h =
    let front = h.front in
    let rest = decimal p.len in
    let within : p.len ≤ width_of p.family = p.within in
    let fits : p.len ≤ width_of h.addr.family = subst (λ (f : Family). p.len ≤ width_of f) (ap (λ q. q.family) h.value) within in
    let small : p.len < 2 ^ 64 = omega (arith, within, width_at_most p.family) in
    let place = slash_position front rest (addr_lacks_slash front h.addr h.front_text) in
    let before = take_at front (47 ∷ rest) (length front) refl in
    let addr = read_addr_complete front h.addr h.front_text in
    let number = number_of_complete rest p.len (IsNumberText-decimal p.len small) in
    rw (h.spelled, place, before, addr, behind_slash front rest, number, le-leb p.len (width_of h.addr.family) fits)
    (ap Some (sym h.value))

pub read_prefix_sound : (text : List ℕ) (p : Prefix) → read_prefix text ≡ Some p → IsPrefixText text p
unfolding read_prefix prefix_from
read_prefix_sound text p e =
    and_then_some _ (position is_slash text) p e λ slash at e₁.
    and_then_some _ (read_addr (take slash text)) p e₁ λ addr spelled e₂.
    and_then_some _ (number_of (drop (slash + 1) text)) p e₂ λ len number e₃.
    let (test, same) = cond_some _ _ _ e₃ in
    let fits : len ≤ width_of addr.family = leb-true _ _ test in
    let kept : min len (width_of addr.family) ≡ len = omega arith in
    let len_is : p.len ≡ len = ap (λ (q : Prefix). q.len) (sym same) ∙ kept in
    let small : len < 2 ^ 64 = omega (arith, fits, width_at_most addr.family) in
    let printed : drop (slash + 1) text ≡ decimal len = number_text_is_decimal _ len (number_of_sound _ len number) small in
    record {
      front = take slash text;
      addr = addr;
      spelled = cut_at_slash text slash at ∙ ap (λ t. take slash text ++ (47 ∷ t)) (printed ∙ ap decimal (sym len_is));
      front_text = read_addr_sound _ addr spelled;
      value = sym same ∙ ap (prefix_of addr) (sym len_is);
    }

-- ---- what the reader answers, part by part

pub no_addr : (front rest : List ℕ) → None ≡ read_addr front → None ≡ prefix_from front rest
unfolding prefix_from
no_addr front rest none = rw (sym none) refl

pub no_len : (front rest : List ℕ) (addr : Addr) (e : BadNumber) → Some addr ≡ read_addr front → ReadsNumber (2 ^ 32) rest (Err e) → None ≡ prefix_from front rest
unfolding prefix_from
no_len front rest addr NotNumber some h =
    let none : number_of rest ≡ None = none_unless _ (λ n e. h n (number_of_sound rest n e)) in
    rw (sym some, none) refl
no_len front rest addr TooLarge some (n, number, large) =
    let past : width_of addr.family < n = omega (arith, width_at_most addr.family) in
    rw (sym some, number_of_complete rest n number, lt-leb n (width_of addr.family) past) refl

pub long_len : (front rest : List ℕ) (addr : Addr) (len : ℕ) → Some addr ≡ read_addr front → IsNumberText rest len → width_of addr.family < len → None ≡ prefix_from front rest
unfolding prefix_from
long_len front rest addr len some number past =
    rw (sym some, number_of_complete rest len number, lt-leb len (width_of addr.family) past) refl

pub both_parts : (front rest : List ℕ) (addr : Addr) (len : ℕ) → Some addr ≡ read_addr front → IsNumberText rest len → len ≤ width_of addr.family → Some (prefix_of addr len) ≡ prefix_from front rest
unfolding prefix_from
both_parts front rest addr len some number fits =
    rw (sym some, number_of_complete rest len number, le-leb len (width_of addr.family) fits) refl

pub no_slash : (text : List ℕ) → None ≡ position is_slash text → None ≡ read_prefix text
unfolding read_prefix
no_slash text none = rw (sym none) refl

pub parts_at : (text : List ℕ) (slash : ℕ) → Some slash ≡ position is_slash text → prefix_from (take slash text) (drop (slash + 1) text) ≡ read_prefix text
unfolding read_prefix
parts_at text slash some = rw (sym some) refl

pub IsPrefixText_unique : (text : List ℕ) (p q : Prefix) → IsPrefixText text p → IsPrefixText text q → p ≡ q
IsPrefixText_unique text p q h k =
    same_Some p q (sym (read_prefix_complete text p h) ∙ read_prefix_complete text q k)

pub parses_prefix : {E : Type 0} (text : List ℕ) (r : Result Prefix E) → result_ok r ≡ read_prefix text → Parses IsPrefixText text r
parses_prefix text (Ok p) e = read_prefix_sound text p (sym e)
parses_prefix text (Err e) none = λ p h. none-some p (none ∙ read_prefix_complete text p h)

-- ---- what is printed

whole_prefix : (p : Prefix) → p ≡ prefix_of (prefix_addr p) p.len
whole_prefix p =
    let within : p.len ≤ width_of p.family = p.within in
    let zero_bits : p.bits % 2 ^ (width_of p.family - p.len) ≡ 0 = p.host_bits_zero in
    let kept : min p.len (width_of p.family) ≡ p.len = omega arith in
    let bits : p.bits ≡ without_low (host_len p.family (min p.len (width_of p.family))) p.bits = rw (kept, zero_bits) (omega arith) in
    same_prefix p _ refl bits (sym kept)

pub prefix_text-spells_only : (p : Prefix) → SpellsOnly IsPrefixText (prefix_text p) p
unfolding prefix_text
prefix_text-spells_only p =
    let spells : IsPrefixText (prefix_text p) p = record {
      front = bits_text p.family p.bits;
      addr = prefix_addr p;
      spelled = refl;
      front_text = (addr_text-spells_only (prefix_addr p)).0;
      value = whole_prefix p;
    } in
    (spells, λ q k. IsPrefixText_unique _ q p k spells)

pub shown_prefix : (p : Prefix) (a : Addr) → a ≡ prefix_addr p → prefix_text p ≡ addr_text a ++ (codes "/" ++ decimal p.len)
unfolding prefix_text
shown_prefix p a e = ap (λ (x : Addr). addr_text x ++ (codes "/" ++ decimal p.len)) (sym e)
