use Rattle.ve_tree_tests.proofs.arena.a_freed_number_is_given_out_again.Given as goal

abbrev pub ghosts-is_given_again : goal.ghosts-is_given_again
ghosts-is_given_again g a = record { name = a.blank.name; parts = a.blank.parts }
