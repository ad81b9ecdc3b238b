use Rattle.policy_tests.proofs.filters.raised.Given as goal

abbrev pub ghosts-decide_both : goal.ghosts-decide_both
ghosts-decide_both a = record { name = a.blank.name; parts = a.blank.parts }
