use Rattle.policy_tests.proofs.filters.verdict_of.Given as goal

abbrev pub ghosts-decide_counted : goal.ghosts-decide_counted
ghosts-decide_counted a = record { name = a.blank.name; parts = a.blank.parts }
