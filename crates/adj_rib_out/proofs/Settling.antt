-- Looks that are handled one after the other: what is done so far, followed by what is left, is the whole.
use Rattle.std.proofs.Common.{◌≡◌, nat_le, Bool, true, false, cond, not, ◌&&◌, ◌||◌, if◌then◌else◌, List, [], ◌∷◌, Option, Some, None, map, refl, sym, ap, ◌∙◌, subst, true≢false}
use Rattle.std.specs.Prelude.{fold, option_map}
use Rattle.std.specs.List.{AllByRecursion, filter}
use Rattle.std.specs.Ordering.{is_eq, is_lt}
use Rattle.std.specs.declared.cmp.Ordering.{Ordering}
use Rattle.std.specs.declared.cmp.Ordering.TheVariants.{Less, Equal, Greater}
use Rattle.std.proofs.lemmas.Bool.{leb-true}
use Rattle.std.proofs.lemmas.Bool.Decides.{Decides-eqb}
use Rattle.std.proofs.lemmas.List.{append-nil}
use Rattle.std.proofs.lemmas.List.Folds.{list_any-append}
use Rattle.net_base.specs.declared.prefix.Prefix.{Prefix}
use Rattle.net_base.specs.Order.{prefix_cmp, same_family}
use Rattle.net_base.specs.PrefixSet.{is_in}
use Rattle.attr_model.specs.Numbered.{Numbered}
use Rattle.attr_model.specs.declared.attrs.Attrs.{Attrs}
use Rattle.attr_intern.specs.Table.{Table, attrs_at, IsOf}
use Rattle.adj_rib_out.specs.declared.look.Look.{Look}
use Rattle.adj_rib_out.specs.Same.{same_number}
use Rattle.adj_rib_out.specs.Rows.{is_same, one_or_none}
use Rattle.adj_rib_out.specs.Out.{Out, nothing, told_at, is_queued, is_again}
use Rattle.adj_rib_out.specs.Message.{Message, has_news, joins, joined, with_prefix, with_look, message_size, prefixes_of, wanted_of, as_told, IsInOrder}
use Rattle.adj_rib_out.specs.Tells.{Passes, Takes, FitsIn, Settled, Tells}
use Rattle.adj_rib_out.proofs.Puts.{same_turned}

-- The prefix of a look that is left has what it had.
pub record IsAhead (old out : Out) (look : Look) : Type 0 where
  pub told : told_at out look.prefix ≡ told_at old look.prefix
  pub again : is_again out look.prefix ≡ is_again old look.prefix
  pub queued : is_queued out look.prefix ≡ true

pub record Settling (looks : List Look) (old out : Out) (start message : Option Message) (left : List Look) : Type 0 where
  pub rule : fold (with_look old) message left ≡ fold (with_look old) start looks
  pub fits : FitsIn message
  pub same : wanted_of message ≡ wanted_of start
  pub told : (p : Prefix) → told_at out p ≡ (if is_in (prefixes_of message) p then wanted_of message else told_at old p)
  pub queued : (p : Prefix) → (is_queued out p && not (is_in (as_told old left) p)) ≡ (is_queued old p && not (is_in (prefixes_of message) p) && not (is_in (as_told old looks) p))
  pub again : (p : Prefix) → is_again out p ≡ (is_again old p && not (is_in (prefixes_of message) p))
  pub flight : out.flight ≡ old.flight
  pub ahead : AllByRecursion (IsAhead old out) left
  pub order : IsInOrder left

-- ---- on tests

and_true : (a : Bool) → a ≡ (a && true)
and_true true = refl
and_true false = refl

and_two : (a b : Bool) → (a && not b) ≡ (a && not false && not b)
and_two true b = refl
and_two false b = refl

and_end : (a : Bool) → (a && not false) ≡ a
and_end true = refl
and_end false = refl

stale_queue : (s q r whole : Bool) → (q && not (s || r)) ≡ whole → (not s && q && not r) ≡ whole
stale_queue true true r whole e = e
stale_queue true false r whole e = e
stale_queue false q r whole e = e

taken_queue : (s q r o m t : Bool) → (q && not r) ≡ (o && not m && not t) → (not s && q && not r) ≡ (o && not (m || (s || false)) && not t)
taken_queue true q r true true t e = refl
taken_queue true q r true false t e = refl
taken_queue true q r false m t e = refl
taken_queue false q r true true t e = e
taken_queue false q r true false t e = e
taken_queue false q r false m t e = e

taken_again : (s a o m : Bool) → a ≡ (o && not m) → (not s && a) ≡ (o && not (m || (s || false)))
taken_again true a true true e = refl
taken_again true a true false e = refl
taken_again true a false m e = refl
taken_again false a true true e = e
taken_again false a true false e = e
taken_again false a false m e = e

taken_told : {X : Type 0} (s m : Bool) (wanted its was out : X) → wanted ≡ its → out ≡ (if m then its else was) → (if s then wanted else out) ≡ (if (m || (s || false)) then its else was)
taken_told true true wanted its was out e now = e
taken_told true false wanted its was out e now = e
taken_told false true wanted its was out e now = now
taken_told false false wanted its was out e now = now

and_left : (a b : Bool) → (a && b) ≡ true → a ≡ true
and_left true b e = refl
and_left false b e = e

pub and_right : (a b : Bool) → (a && b) ≡ true → b ≡ true
and_right true b e = e
and_right false b e = absurd (true≢false (sym e))

pub left_false : (a b : Bool) → (a || b) ≡ false → a ≡ false
left_false true b e = e
left_false false b e = refl

-- what a look does to the message, by the two tests
pub looked : (old : Out) (message : Option Message) (look : Look) (news joins : Bool) → has_news old look ≡ news → joined message look ≡ joins
    → with_look old message look ≡ (if news && joins then option_map (with_prefix look.prefix) message else message)
looked old message look news joins e f = λ i. if e i && f i then option_map (with_prefix look.prefix) message else message

-- ---- what is as told

in_told_stale : (old : Out) (look : Look) (rest : List Look) (p : Prefix) → has_news old look ≡ false → is_in (as_told old (look ∷ rest)) p ≡ (is_same p look.prefix || is_in (as_told old rest) p)
in_told_stale old look rest p e =
    ap (λ b. is_in (map (λ (look : Look). look.prefix) (cond (not b) (look ∷ filter (λ look. not (has_news old look)) rest) (filter (λ look. not (has_news old look)) rest))) p) e

in_told_news : (old : Out) (look : Look) (rest : List Look) (p : Prefix) → has_news old look ≡ true → is_in (as_told old (look ∷ rest)) p ≡ is_in (as_told old rest) p
in_told_news old look rest p e =
    ap (λ b. is_in (map (λ (look : Look). look.prefix) (cond (not b) (look ∷ filter (λ look. not (has_news old look)) rest) (filter (λ look. not (has_news old look)) rest))) p) e

-- ---- looks that are left

apart : (p q : Prefix) → is_lt (prefix_cmp p q) ≡ true → is_same q p ≡ false
apart p q lt = same_turned q p ∙ go (prefix_cmp p q) lt
  where
    go : (o : Ordering) → is_lt o ≡ true → is_eq o ≡ false
    go Less e = refl
    go Equal e = absurd (true≢false (sym e))
    go Greater e = refl

-- Nothing changes but at one prefix.
pub record ChangesAt (prefix : Prefix) (out new : Out) : Type 0 where
  pub told : (p : Prefix) → is_same p prefix ≡ false → told_at new p ≡ told_at out p
  pub again : (p : Prefix) → is_same p prefix ≡ false → is_again new p ≡ is_again out p
  pub queued : (p : Prefix) → is_same p prefix ≡ false → is_queued new p ≡ is_queued out p

still_ahead : (old out new : Out) (prefix : Prefix) (rest : List Look) → ChangesAt prefix out new → AllByRecursion (λ other. is_lt (prefix_cmp prefix other.prefix) ≡ true) rest → AllByRecursion (IsAhead old out) rest → AllByRecursion (IsAhead old new) rest
still_ahead old out new prefix [] change below ahead = tt
still_ahead old out new prefix (other ∷ rest) change below ahead =
    let far = apart prefix other.prefix below.0 in (
      record { told = change.told other.prefix far ∙ ahead.0.told; again = change.again other.prefix far ∙ ahead.0.again; queued = change.queued other.prefix far ∙ ahead.0.queued },
      still_ahead old out new prefix rest change below.1 ahead.1,
    )

passes_at : (prefix : Prefix) (out new : Out) → Passes prefix out new → ChangesAt prefix out new
passes_at prefix out new passes = record {
  told = λ p far. passes.told p;
  again = λ p far. passes.again p;
  queued = λ p far. passes.queued p ∙ ap (λ b. not b && is_queued out p) far;
}

takes_at : (prefix : Prefix) (wanted : Option Numbered) (out new : Out) → Takes prefix wanted out new → ChangesAt prefix out new
takes_at prefix wanted out new takes = record {
  told = λ p far. takes.told p ∙ ap (λ b. if b then wanted else told_at out p) far;
  again = λ p far. takes.again p ∙ ap (λ b. not b && is_again out p) far;
  queued = λ p far. takes.queued p ∙ ap (λ b. not b && is_queued out p) far;
}

-- a look that is left has news where it had
pub news_are : (old out : Out) (look : Look) → IsAhead old out look → has_news out look ≡ has_news old look
news_are old out look ahead =
    ap (λ b. b || not (same_number look.wanted (told_at out look.prefix))) ahead.again ∙ ap (λ told. is_again old look.prefix || not (same_number look.wanted told)) ahead.told

-- ---- equal numbers of one table

pub same_wanted : (table : Table) (one other : Option Numbered) → AllByRecursion (IsOf table) (one_or_none one) → AllByRecursion (IsOf table) (one_or_none other) → same_number one other ≡ true → other ≡ one
same_wanted table None None a b e = refl
same_wanted table None (Some other) a b e = absurd (true≢false (sym e))
same_wanted table (Some one) None a b e = absurd (true≢false (sym e))
same_wanted table (Some one) (Some other) a b e =
    let number : other.number ≡ one.number = sym ((Decides-eqb one.number other.number).0 e) in
    let attrs : Some other.attrs ≡ Some one.attrs = sym b.0 ∙ ap (attrs_at table) number ∙ a.0 in
    ap Some (λ i. record { number = number i; attrs = inner other.attrs one.attrs attrs i })
  where
    inner : (x y : Attrs) → Some x ≡ Some y → x ≡ y
    inner x y e = cc

-- ---- the start, a step for each kind of look, and the end

pub settling_start : (looks : List Look) (old : Out) (start : Option Message) → FitsIn start → prefixes_of start ≡ [] → AllByRecursion (λ look. is_queued old look.prefix ≡ true) looks → IsInOrder looks → Settling looks old old start start looks
settling_start looks old start fits none queued order = record {
  rule = refl;
  fits = fits;
  same = refl;
  told = λ p. ap (λ ps. if is_in ps p then wanted_of start else told_at old p) (sym none);
  queued = λ p. and_two (is_queued old p) (is_in (as_told old looks) p) ∙ ap (λ ps. is_queued old p && not (is_in ps p) && not (is_in (as_told old looks) p)) (sym none);
  again = λ p. and_true (is_again old p) ∙ ap (λ ps. is_again old p && not (is_in ps p)) (sym none);
  flight = refl;
  ahead = all_ahead looks queued;
  order = order;
}
  where
    all_ahead : (looks : List Look) → AllByRecursion (λ look. is_queued old look.prefix ≡ true) looks → AllByRecursion (IsAhead old old) looks
    all_ahead [] queued = tt
    all_ahead (look ∷ rest) queued = (record { told = refl; again = refl; queued = queued.0 }, all_ahead rest queued.1)

module _ (looks : List Look) (old out new : Out) (start message more : Option Message) (look : Look) (left rest : List Look) (first : left ≡ look ∷ rest) (now : more ≡ with_look out message look) (settling : Settling looks old out start message left) where
  here : Settling looks old out start message (look ∷ rest)
  here = subst (Settling looks old out start message) first settling

  rule_more : fold (with_look old) more rest ≡ fold (with_look old) start looks
  rule_more =
      ap (λ m. fold (with_look old) m rest) (now ∙ ap (λ b. if b && joined message look then option_map (with_prefix look.prefix) message else message) (news_are old out look here.ahead.0))
      ∙ here.rule

  pub step_stale : has_news out look ≡ false → Passes look.prefix out new → Settling looks old new start more rest
  step_stale stale passes =
      subst (λ more. fold (with_look old) more rest ≡ fold (with_look old) start looks → Settling looks old new start more rest)
      (sym (now ∙ ap (λ b. if b && joined message look then option_map (with_prefix look.prefix) message else message) stale))
      (λ rule. record {
        rule = rule;
        fits = settling.fits;
        same = settling.same;
        told = λ p. passes.told p ∙ settling.told p;
        queued = λ p.
            ap (λ b. b && not (is_in (as_told old rest) p)) (passes.queued p)
            ∙ stale_queue (is_same p look.prefix) (is_queued out p) (is_in (as_told old rest) p) _
            (ap (λ b. is_queued out p && not b) (sym (in_told_stale old look rest p (sym (news_are old out look here.ahead.0) ∙ stale))) ∙ here.queued p);
        again = λ p. passes.again p ∙ settling.again p;
        flight = passes.flight ∙ settling.flight;
        ahead = still_ahead old out new look.prefix rest (passes_at look.prefix out new passes) here.order.0 here.ahead.1;
        order = here.order.1;
      })
      rule_more

  pub step_stays : has_news out look ≡ true → joined message look ≡ false → new ≡ out → Settling looks old new start more rest
  step_stays news stays same =
      subst (λ new. Settling looks old new start more rest) (sym same)
      (subst (λ more. fold (with_look old) more rest ≡ fold (with_look old) start looks → Settling looks old out start more rest)
      (sym (now ∙ ap (λ b. if b && joined message look then option_map (with_prefix look.prefix) message else message) news
      ∙ ap (λ b. if b then option_map (with_prefix look.prefix) message else message) stays))
      (λ rule. record {
        rule = rule;
        fits = settling.fits;
        same = settling.same;
        told = settling.told;
        queued = λ p. ap (λ b. is_queued out p && not b) (sym (in_told_news old look rest p (sym (news_are old out look here.ahead.0) ∙ news))) ∙ here.queued p;
        again = settling.again;
        flight = settling.flight;
        ahead = here.ahead.1;
        order = here.order.1;
      })
      rule_more)

  pub step_taken : (table : Table) → AllByRecursion (IsOf table) (one_or_none (wanted_of start)) → AllByRecursion (IsOf table) (one_or_none look.wanted) → has_news out look ≡ true → joined message look ≡ true → Takes look.prefix look.wanted out new
      → Settling looks old new start more rest
  step_taken table ours its news joins takes = go message refl
    where
      join_is : (m : Message) → message ≡ Some m → joined (Some m) look ≡ true
      join_is m e = ap (λ m. joined m look) (sym e) ∙ joins

      more_is : (m : Message) → message ≡ Some m → more ≡ Some (with_prefix look.prefix m)
      more_is m e =
          now ∙ ap (λ b. if b && joined message look then option_map (with_prefix look.prefix) message else message) news
          ∙ ap (λ b. if b then option_map (with_prefix look.prefix) message else message) joins ∙ ap (option_map (with_prefix look.prefix)) e

      go : (m : Option Message) → message ≡ m → Settling looks old new start more rest
      go None e = absurd (true≢false (sym (ap (λ m. joined m look) (sym e) ∙ joins)))
      go (Some m) e =
          let whole = subst (λ message. Settling looks old out start message (look ∷ rest)) e here in
          let alike = and_left (same_family m.family look.prefix.family && same_number m.wanted look.wanted) (nat_le (message_size (with_prefix look.prefix m)) 4096) (join_is m e) in
          let number = and_right (same_family m.family look.prefix.family) (same_number m.wanted look.wanted) alike in
          let small = and_right (same_family m.family look.prefix.family && same_number m.wanted look.wanted) (nat_le (message_size (with_prefix look.prefix m)) 4096) (join_is m e) in
          let wanted : look.wanted ≡ m.wanted = same_wanted table m.wanted look.wanted (subst (λ w. AllByRecursion (IsOf table) (one_or_none w)) (sym whole.same) ours) its number in
          subst (λ more. fold (with_look old) more rest ≡ fold (with_look old) start looks → Settling looks old new start more rest) (sym (more_is m e))
          (λ rule. record {
            rule = rule;
            fits = leb-true _ _ small;
            same = whole.same;
            told = λ p.
                takes.told p
                ∙ taken_told (is_same p look.prefix) (is_in m.prefixes p) look.wanted m.wanted (told_at old p) (told_at out p) wanted (whole.told p)
                ∙ ap (λ b. if b then m.wanted else told_at old p) (sym (list_any-append (λ q. is_same p q) m.prefixes (look.prefix ∷ [])));
            queued = λ p.
                ap (λ b. b && not (is_in (as_told old rest) p)) (takes.queued p)
                ∙ taken_queue (is_same p look.prefix) (is_queued out p) (is_in (as_told old rest) p) (is_queued old p) (is_in m.prefixes p) (is_in (as_told old looks) p)
                (ap (λ b. is_queued out p && not b) (sym (in_told_news old look rest p (sym (news_are old out look whole.ahead.0) ∙ news))) ∙ whole.queued p)
                ∙ ap (λ b. is_queued old p && not b && not (is_in (as_told old looks) p)) (sym (list_any-append (λ q. is_same p q) m.prefixes (look.prefix ∷ [])));
            again = λ p.
                takes.again p ∙ taken_again (is_same p look.prefix) (is_again out p) (is_again old p) (is_in m.prefixes p) (whole.again p)
                ∙ ap (λ b. is_again old p && not b) (sym (list_any-append (λ q. is_same p q) m.prefixes (look.prefix ∷ [])));
            flight = takes.flight ∙ whole.flight;
            ahead = still_ahead old out new look.prefix rest (takes_at look.prefix look.wanted out new takes) whole.order.0 whole.ahead.1;
            order = whole.order.1;
          })
          rule_more

-- the step, whatever kind of look it is
pub step : (looks : List Look) (old out new : Out) (start message more : Option Message) (look : Look) (left rest : List Look) (table : Table) → left ≡ look ∷ rest → more ≡ with_look out message look → Settling looks old out start message left
    → AllByRecursion (IsOf table) (one_or_none (wanted_of start)) → AllByRecursion (IsOf table) (one_or_none look.wanted)
    → (has_news out look ≡ false → Passes look.prefix out new)
    → (has_news out look ≡ true → joined message look ≡ false → new ≡ out)
    → (has_news out look ≡ true → joined message look ≡ true → Takes look.prefix look.wanted out new)
    → Settling looks old new start more rest
step looks old out new start message more look left rest table first now settling ours its passes stays takes = by_news (has_news out look) refl (joined message look) refl
  where
    by_news : (b : Bool) → has_news out look ≡ b → (j : Bool) → joined message look ≡ j → Settling looks old new start more rest
    by_news false e j f = step_stale looks old out new start message more look left rest first now settling e (passes e)
    by_news true e false f = step_stays looks old out new start message more look left rest first now settling e f (stays e f)
    by_news true e true f = step_taken looks old out new start message more look left rest first now settling table ours its e f (takes e f)

pub settled : (looks : List Look) (old out : Out) (start message : Option Message) (left : List Look) → left ≡ [] → Settling looks old out start message left → Settled looks old out start message
settled looks old out start message left end settling =
    let done = subst (Settling looks old out start message) end settling in
    record {
      rule = done.rule;
      fits = done.fits;
      same = done.same;
      told = done.told;
      queued = λ p. sym (and_end (is_queued out p)) ∙ done.queued p;
      again = done.again;
      flight = done.flight;
    }

-- no look, no message
pub tells_none : (old : Out) → Tells None [] old old
tells_none old = record {
  told = λ p. refl;
  queued = λ p. and_two_true (is_queued old p);
  again = λ p. and_true (is_again old p);
  flight = sym (append-nil old.flight);
}
  where
    and_two_true : (a : Bool) → a ≡ (a && not false && not false)
    and_two_true true = refl
    and_two_true false = refl

pub no_looks : (looks : List Look) → AllByRecursion (λ look. is_queued nothing look.prefix ≡ true) looks → looks ≡ []
no_looks [] queued = refl
no_looks (look ∷ rest) queued = absurd (true≢false (sym queued.0))
