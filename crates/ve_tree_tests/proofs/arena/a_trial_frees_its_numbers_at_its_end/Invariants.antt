use Rattle.ve_tree_tests.proofs.arena.a_trial_frees_its_numbers_at_its_end.Given as goal

abbrev pub ghosts-is_given_after_trial : goal.ghosts-is_given_after_trial
ghosts-is_given_after_trial g a = record { name = a.blank.name; parts = a.blank.parts }
