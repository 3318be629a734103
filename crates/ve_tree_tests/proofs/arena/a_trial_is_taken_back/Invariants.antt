use Rattle.ve_tree_tests.proofs.arena.a_trial_is_taken_back.Given as goal

abbrev pub ghosts-is_taken_back : goal.ghosts-is_taken_back
ghosts-is_taken_back g a = record { name = a.blank.name; parts = a.blank.parts }
