use Rattle.std.proofs.Common.{◌≡◌, ◌∙◌, true, false, ap, sym}
use Rattle.peer_session.specs.declared.neighbour.Settings.{Settings}
use Rattle.peer_session.proofs.Takes.{configure_does}
use Rattle.peer_session.proofs.neighbour.NeighbourSession.configure.Goals as goal

pub returns-clause-changed : goal.returns-clause-changed
returns-clause-changed c differ =
    let changed : c.differ-changed.result ≡ true = c.differ-changed.ensures.yes (λ same. differ (ap (λ (s : Settings). s.rules) (sym c.settings-was.ensures) ∙ same)) in
    configure_does true c.differ-changed.result c.is_only_first-goes_down.result c.is_only_first-comes_back.result c.settings-was.result
    c.args.settings c.args.now c.args.self.now c.set.new.self c.come_back_where.new.self c.end_for_rules_where.new.self c.args.done.now
    c.come_back_where.new.done c.end_for_rules_where.new.done c.settings-was.ensures c.is_only_first-goes_down.ensures
    c.is_only_first-comes_back.ensures changed c.set.ensures c.if-goes_down.false c.in_ok-come_back_where.ensures c.in_ok-end_for_rules_where.ensures

pub returns-clause-same : goal.returns-clause-same
returns-clause-same c same =
    let changed : c.differ-changed.result ≡ false = c.differ-changed.ensures.no (ap (λ (s : Settings). s.rules) c.settings-was.ensures ∙ same) in
    configure_does false c.differ-changed.result c.is_only_first-goes_down.result c.is_only_first-comes_back.result c.settings-was.result
    c.args.settings c.args.now c.args.self.now c.set.new.self c.come_back_where.new.self c.end_for_rules_where.new.self c.args.done.now
    c.come_back_where.new.done c.end_for_rules_where.new.done c.settings-was.ensures c.is_only_first-goes_down.ensures
    c.is_only_first-comes_back.ensures changed c.set.ensures c.if-goes_down.false c.in_ok-come_back_where.ensures c.in_ok-end_for_rules_where.ensures
