-- The rules of two sessions are the same exactly where all that they say is.
use Rattle.std.proofs.Common.{◌≡◌, ◌≢◌, ◌∙◌, ◌&&◌, ◌==◌, not, ℕ, Bool, true, false, Result, OnOk, refl, sym, ap, subst, true≢false, eqb-true, arith}
use Rattle.bgp_wire.specs.declared.open.OpenRules.{OpenRules}
use Rattle.core_msgs.specs.declared.frame.Done.{Done}
use Rattle.peer_session.specs.declared.neighbour.Settings.{Settings}
use Rattle.peer_session.specs.Calls.{configures}
use Rattle.peer_session.specs.Neighbour.{Does, Neighbour, course}
use Rattle.session_core.specs.Reloads.{reconfigures, same_flag, same_rules}

abbrev rules_of : ℕ → ℕ → ℕ → ℕ → ℕ → Bool → Bool → Bool → Bool → OpenRules
rules_of asn remote_as router_id hold hold_min v4 v6 refresh as4 =
    record { asn = asn; remote_as = remote_as; router_id = router_id; hold = hold; hold_min = hold_min; v4 = v4; v6 = v6; refresh = refresh; as4 = as4 }

both : (a b : Bool) → (a && b) ≡ true → (a ≡ true) × (b ≡ true)
both true b h = (refl, h)
both false b h = absurd (true≢false (sym h))

flag_is : (a b : Bool) → same_flag a b ≡ true → a ≡ b
flag_is true true h = refl
flag_is true false h = sym h
flag_is false true h = absurd (true≢false (sym h))
flag_is false false h = refl

flag_self : (a : Bool) → same_flag a a ≡ true
flag_self true = refl
flag_self false = refl

rules_are : (a b : OpenRules) → same_rules a b ≡ true → a ≡ b
rules_are a b h =
    let h1 = both (a.asn == b.asn) _ h in
    let h2 = both (a.remote_as == b.remote_as) _ h1.1 in
    let h3 = both (a.router_id == b.router_id) _ h2.1 in
    let h4 = both (a.hold == b.hold) _ h3.1 in
    let h5 = both (a.hold_min == b.hold_min) _ h4.1 in
    let h6 = both (same_flag a.v4 b.v4) _ h5.1 in
    let h7 = both (same_flag a.v6 b.v6) _ h6.1 in
    let h8 = both (same_flag a.refresh b.refresh) _ h7.1 in
    let e1 : a.asn ≡ b.asn = eqb-true a.asn b.asn h1.0 in
    let e2 : a.remote_as ≡ b.remote_as = eqb-true a.remote_as b.remote_as h2.0 in
    let e3 : a.router_id ≡ b.router_id = eqb-true a.router_id b.router_id h3.0 in
    let e4 : a.hold ≡ b.hold = eqb-true a.hold b.hold h4.0 in
    let e5 : a.hold_min ≡ b.hold_min = eqb-true a.hold_min b.hold_min h5.0 in
    let e6 : a.v4 ≡ b.v4 = flag_is a.v4 b.v4 h6.0 in
    let e7 : a.v6 ≡ b.v6 = flag_is a.v6 b.v6 h7.0 in
    let e8 : a.refresh ≡ b.refresh = flag_is a.refresh b.refresh h8.0 in
    let e9 : a.as4 ≡ b.as4 = flag_is a.as4 b.as4 h8.1 in
    same_parts a b e1 e2 e3 e4 e5 e6 e7 e8 e9
  where
    same_parts : (a b : OpenRules) → a.asn ≡ b.asn → a.remote_as ≡ b.remote_as → a.router_id ≡ b.router_id → a.hold ≡ b.hold → a.hold_min ≡ b.hold_min
        → a.v4 ≡ b.v4 → a.v6 ≡ b.v6 → a.refresh ≡ b.refresh → a.as4 ≡ b.as4 → a ≡ b
    same_parts a b e1 e2 e3 e4 e5 e6 e7 e8 e9 =
        ap (λ (x : ℕ). rules_of x a.remote_as a.router_id a.hold a.hold_min a.v4 a.v6 a.refresh a.as4) e1
        ∙ ap (λ (x : ℕ). rules_of b.asn x a.router_id a.hold a.hold_min a.v4 a.v6 a.refresh a.as4) e2
        ∙ ap (λ (x : ℕ). rules_of b.asn b.remote_as x a.hold a.hold_min a.v4 a.v6 a.refresh a.as4) e3
        ∙ ap (λ (x : ℕ). rules_of b.asn b.remote_as b.router_id x a.hold_min a.v4 a.v6 a.refresh a.as4) e4
        ∙ ap (λ (x : ℕ). rules_of b.asn b.remote_as b.router_id b.hold x a.v4 a.v6 a.refresh a.as4) e5
        ∙ ap (λ (x : Bool). rules_of b.asn b.remote_as b.router_id b.hold b.hold_min x a.v6 a.refresh a.as4) e6
        ∙ ap (λ (x : Bool). rules_of b.asn b.remote_as b.router_id b.hold b.hold_min b.v4 x a.refresh a.as4) e7
        ∙ ap (λ (x : Bool). rules_of b.asn b.remote_as b.router_id b.hold b.hold_min b.v4 b.v6 x a.as4) e8
        ∙ ap (λ (x : Bool). rules_of b.asn b.remote_as b.router_id b.hold b.hold_min b.v4 b.v6 b.refresh x) e9

number_self : (n : ℕ) → (n == n) ≡ true
number_self n = grind arith

rules_self : (a : OpenRules) → same_rules a a ≡ true
rules_self a = rw (number_self a.asn, number_self a.remote_as, number_self a.router_id, number_self a.hold, number_self a.hold_min, flag_self a.v4, flag_self a.v6, flag_self a.refresh, flag_self a.as4) refl

pub reconfigured : {E : Type 0} (settings : Settings) (now : ℕ) (old new : Neighbour) (before behind : Done) (answer : Result (Unit {0}) E)
    → (old.settings.rules ≢ settings.rules → OnOk answer (Does (configures true settings now) old new before behind))
    → (old.settings.rules ≡ settings.rules → OnOk answer (Does (configures false settings now) old new before behind))
    → OnOk answer (Does (reconfigures settings now) old new before behind)
reconfigured settings now old new before behind answer changed same = go (same_rules old.settings.rules settings.rules) refl
  where
    go : (b : Bool) → same_rules old.settings.rules settings.rules ≡ b
        → OnOk answer (course new behind ≡ configures (not b) settings now (course old before))
    go true e = same (rules_are old.settings.rules settings.rules e)
    go false e = changed (λ is. true≢false (sym (subst (λ (r : OpenRules). same_rules old.settings.rules r ≡ true) is (rules_self old.settings.rules)) ∙ e))
