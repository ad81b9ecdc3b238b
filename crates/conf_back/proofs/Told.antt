-- What the statements of a canonical text say, each kind for itself.
use Rattle.std.proofs.Common.{◌≡◌, ◌∙◌, ℕ, ◌+◌, Bool, true, false, List, [], ◌∷◌, ◌++◌, map, filter, flat_map, Option, Some, None, refl, ap, sym, append_assoc}
use Rattle.std.specs.Prelude.{option_to_list}
use Rattle.std.specs.List.{cons_option}
use Rattle.net_base.specs.declared.roa.Roa.{Roa}
use Rattle.conf_tree.specs.declared.conf.Conf.{Conf}
use Rattle.conf_tree.specs.declared.draft.Statement.{Statement}
use Rattle.conf_tree.specs.declared.draft.Statement.TheVariants as says
use Rattle.conf_tree.specs.declared.draft.StatementLine.{StatementLine}
use Rattle.conf_tree.specs.Canonical.{is_alone, group_names}
use Rattle.conf_tree.specs.Said.{said}
use Rattle.conf_tree.specs.CanonicalDraft.{StatementUnit, statements_from, listen_unit, rib_unit, prefix_set_unit, as_set_unit, origin_set_unit, roa_units, network_unit, neighbour_unit, group_unit, rule_unit, qualify_units, units_of}
use Rattle.conf_back.proofs.Framed.{lines_back}

module _ {A : Type 0} (what : Statement → List A) where
  -- what the statements from a line on say
  abbrev pub told : ℕ → List StatementUnit → List A
  told line us = flat_map (λ l. what l.statement) (statements_from line us)

  -- wherever they stand, the statements say this
  pub record Tells (us : List StatementUnit) (xs : List A) : Type 0 where
    pub from : (line : ℕ) → told line us ≡ xs

  pub nothing : Tells [] []
  nothing = record { from = λ line. refl }

  -- a statement says this, wherever it stands, and those behind it the others
  pub one_tells : (u : StatementUnit) (us : List StatementUnit) (x xs : List A) → ((line : ℕ) → what (u.1 line) ≡ x) → Tells us xs → Tells (u ∷ us) (x ++ xs)
  one_tells u us x xs h k = record { from = λ line i. h line i ++ k.from (line + u.0) i }

  pub both_tell : (us vs : List StatementUnit) (xs ys : List A) → Tells us xs → Tells vs ys → Tells (us ++ vs) (xs ++ ys)
  both_tell us vs xs ys h k = record { from = λ line. both us line ∙ ap (λ (zs : List A). zs ++ ys) (h.from line) }
    where
      both : (us : List StatementUnit) (line : ℕ) → told line (us ++ vs) ≡ told line us ++ ys
      both [] line = k.from line
      both (u ∷ us) line = ap (λ (zs : List A). what (u.1 line) ++ zs) (both us (line + u.0)) ∙ sym (append_assoc (what (u.1 line)) (told (line + u.0) us) ys)

  -- statements of a kind that isn't asked for
  pub none_tell : {B : Type 0} (unit : B → StatementUnit) (xs : List B) → ((x : B) (line : ℕ) → what ((unit x).1 line) ≡ []) → Tells (map unit xs) []
  none_tell unit [] h = nothing
  none_tell unit (x ∷ xs) h = one_tells (unit x) (map unit xs) [] [] (h x) (none_tell unit xs h)

  -- statements of the kind that is asked for
  pub each_tells : {B : Type 0} (unit : B → StatementUnit) (f : B → A) (xs : List B) → ((x : B) (line : ℕ) → what ((unit x).1 line) ≡ f x ∷ []) → Tells (map unit xs) (map f xs)
  each_tells unit f [] h = nothing
  each_tells unit f (x ∷ xs) h = one_tells (unit x) (map unit xs) (f x ∷ []) (map f xs) (h x) (each_tells unit f xs h)

  module _ (conf : Conf) where
    abbrev pub alone_units : List StatementUnit
    alone_units = map (neighbour_unit conf) (filter is_alone conf.neighbours)

    abbrev pub group_units : List StatementUnit
    group_units = map (group_unit conf) (group_names conf.neighbours)

    -- what the lists of a configuration say, kind by kind
    pub record Parts (listens ribs prefixes numbers origins roas networks alone groups rules : List A) : Type 0 where
      pub of_listens : Tells (map listen_unit conf.listen) listens
      pub of_ribs : Tells (map rib_unit conf.ribs) ribs
      pub of_prefixes : Tells (map prefix_set_unit conf.prefix_sets) prefixes
      pub of_numbers : Tells (map as_set_unit conf.as_sets) numbers
      pub of_origins : Tells (map origin_set_unit conf.origin_sets) origins
      pub of_roas : Tells (roa_units conf.roas) roas
      pub of_networks : Tells (map network_unit conf.networks) networks
      pub of_alone : Tells alone_units alone
      pub of_groups : Tells group_units groups
      pub of_rules : Tells (map (rule_unit conf) conf.rules) rules

    -- all that a canonical text says
    all_tell : (q l b p a o r w x g u : List A) → Tells (qualify_units conf.qualify_default) q → Parts l b p a o r w x g u → Tells (units_of conf)
        (what (says.As conf.asn) ++ (what (says.RouterId conf.router_id) ++ (what (says.Hold conf.hold) ++ (what (says.HoldMin conf.hold_min) ++ (what (says.FibUpdate conf.fib_update)
        ++ (q ++ (what (says.MedCompare conf.med_always) ++ (what (says.Socket conf.socket) ++ (l ++ (b ++ (p ++ (a ++ (o ++ (r ++ (w ++ (x ++ (g ++ u)))))))))))))))))
    all_tell q l b p a o r w x g u qualifies parts =
        one_tells _ _ (what (says.As conf.asn)) _ (λ _. refl)
        (one_tells _ _ (what (says.RouterId conf.router_id)) _ (λ _. refl)
        (one_tells _ _ (what (says.Hold conf.hold)) _ (λ _. refl)
        (one_tells _ _ (what (says.HoldMin conf.hold_min)) _ (λ _. refl)
        (one_tells _ _ (what (says.FibUpdate conf.fib_update)) _ (λ _. refl)
        (both_tell (qualify_units conf.qualify_default) _ q _ qualifies
        (one_tells _ _ (what (says.MedCompare conf.med_always)) _ (λ _. refl)
        (one_tells _ _ (what (says.Socket conf.socket)) _ (λ _. refl)
        (both_tell (map listen_unit conf.listen) _ l _ parts.of_listens
        (both_tell (map rib_unit conf.ribs) _ b _ parts.of_ribs
        (both_tell (map prefix_set_unit conf.prefix_sets) _ p _ parts.of_prefixes
        (both_tell (map as_set_unit conf.as_sets) _ a _ parts.of_numbers
        (both_tell (map origin_set_unit conf.origin_sets) _ o _ parts.of_origins
        (both_tell (roa_units conf.roas) _ r _ parts.of_roas
        (both_tell (map network_unit conf.networks) _ w _ parts.of_networks
        (both_tell alone_units _ x _ parts.of_alone
        (both_tell group_units (map (rule_unit conf) conf.rules) g u parts.of_groups parts.of_rules))))))))))))))))

    pub all_told : (q l b p a o r w x g u : List A) → Tells (qualify_units conf.qualify_default) q → Parts l b p a o r w x g u
        → told 1 (units_of conf)
        ≡ what (says.As conf.asn) ++ (what (says.RouterId conf.router_id) ++ (what (says.Hold conf.hold) ++ (what (says.HoldMin conf.hold_min) ++ (what (says.FibUpdate conf.fib_update)
        ++ (q ++ (what (says.MedCompare conf.med_always) ++ (what (says.Socket conf.socket) ++ (l ++ (b ++ (p ++ (a ++ (o ++ (r ++ (w ++ (x ++ (g ++ u))))))))))))))))
    all_told q l b p a o r w x g u qualifies parts = (all_tell q l b p a o r w x g u qualifies parts).from 1

-- ---- one answer for each statement at most

abbrev pub listed : {A : Type 0} → (Statement → Option A) → Statement → List A
listed what s = option_to_list (what s)

said_listed : {A : Type 0} (what : Statement → Option A) (lines : List StatementLine) → said what lines ≡ flat_map (λ l. listed what l.statement) lines
said_listed what [] = refl
said_listed {A} what (l ∷ lines) = by (what l.statement) (said_listed what lines)
  where
    by : (o : Option A) → said what lines ≡ flat_map (λ l. listed what l.statement) lines → cons_option o (said what lines) ≡ option_to_list o ++ flat_map (λ l. listed what l.statement) lines
    by None h = h
    by (Some x) h = ap (λ (xs : List A). x ∷ xs) h

-- a statement of which a text may have several, each for itself
abbrev pub is_listed : Statement → Bool
is_listed (says.Listen listen) = true
is_listed (says.Rib name table) = true
is_listed (says.PrefixSet name entries) = true
is_listed (says.AsSet name numbers) = true
is_listed (says.OriginSet name entries) = true
is_listed (says.RoaSet entries) = true
is_listed (says.Network prefix set) = true
is_listed (says.Neighbour neighbour) = true
is_listed (says.Group group) = true
is_listed (says.Rule rule) = true
is_listed _ = false

-- none of those is asked for
abbrev pub IsSilent : {A : Type 0} → (Statement → Option A) → Type 0
IsSilent what = (s : Statement) → is_listed s ≡ true → what s ≡ None

module _ {A : Type 0} (what : Statement → Option A) (conf : Conf) where
  pub said_told : said what (lines_back conf) ≡ told (listed what) 1 (units_of conf)
  said_told = said_listed what (lines_back conf)

  -- the statements of the kinds that aren't asked for
  pub no_qualify : what says.QualifyDefault ≡ None → Tells (listed what) (qualify_units conf.qualify_default) []
  no_qualify h = by conf.qualify_default
    where
      by : (flag : Bool) → Tells (listed what) (qualify_units flag) []
      by true = record { from = λ line. ap (λ (o : Option A). option_to_list o ++ []) h }
      by false = nothing (listed what)

  pub no_roas : ((roas : List Roa) → what (says.RoaSet roas) ≡ None) → Tells (listed what) (roa_units conf.roas) []
  no_roas h = by conf.roas
    where
      by : (roas : List Roa) → Tells (listed what) (roa_units roas) []
      by [] = nothing (listed what)
      by (r ∷ roas) = record { from = λ line. ap (λ (o : Option A). option_to_list o ++ []) (h (r ∷ roas)) }

module _ {A : Type 0} (what : Statement → Option A) where
  pub unasked : {B : Type 0} (unit : B → StatementUnit) (xs : List B) → ((x : B) (line : ℕ) → what ((unit x).1 line) ≡ None) → Tells (listed what) (map unit xs) []
  unasked unit xs h = none_tell (listed what) unit xs (λ x line. ap option_to_list (h x line))

  pub asked : {B : Type 0} (unit : B → StatementUnit) (f : B → A) (xs : List B) → ((x : B) (line : ℕ) → what ((unit x).1 line) ≡ Some (f x)) → Tells (listed what) (map unit xs) (map f xs)
  asked unit f xs h = each_tells (listed what) unit f xs (λ x line. ap option_to_list (h x line))

  -- nothing of the lists is asked for
  pub silent : (conf : Conf) → IsSilent what → Parts (listed what) conf [] [] [] [] [] [] [] [] [] []
  silent conf lists = record {
    of_listens = unasked listen_unit conf.listen (λ x line. lists (says.Listen x) refl);
    of_ribs = unasked rib_unit conf.ribs (λ x line. lists ((rib_unit x).1 line) refl);
    of_prefixes = unasked prefix_set_unit conf.prefix_sets (λ x line. lists ((prefix_set_unit x).1 line) refl);
    of_numbers = unasked as_set_unit conf.as_sets (λ x line. lists ((as_set_unit x).1 line) refl);
    of_origins = unasked origin_set_unit conf.origin_sets (λ x line. lists ((origin_set_unit x).1 line) refl);
    of_roas = no_roas what conf (λ roas. lists (says.RoaSet roas) refl);
    of_networks = unasked network_unit conf.networks (λ x line. lists ((network_unit x).1 line) refl);
    of_alone = unasked (neighbour_unit conf) (filter is_alone conf.neighbours) (λ x line. lists ((neighbour_unit conf x).1 line) refl);
    of_groups = unasked (group_unit conf) (group_names conf.neighbours) (λ x line. lists ((group_unit conf x).1 line) refl);
    of_rules = unasked (rule_unit conf) conf.rules (λ x line. lists ((rule_unit conf x).1 line) refl);
  }
