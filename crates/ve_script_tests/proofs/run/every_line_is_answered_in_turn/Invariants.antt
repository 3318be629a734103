use Rattle.ve_script_tests.proofs.run.every_line_is_answered_in_turn.Given as goal

abbrev pub ghosts-ran_with : goal.ghosts-ran_with
ghosts-ran_with g a = record { name = a.blank.name; parts = a.blank.parts }
