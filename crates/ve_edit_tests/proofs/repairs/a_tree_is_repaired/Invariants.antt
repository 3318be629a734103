use Rattle.ve_edit_tests.proofs.repairs.a_tree_is_repaired.Given as goal

abbrev pub ghosts-is_split : goal.ghosts-is_split
ghosts-is_split g a = record { name = a.blank.name; parts = a.blank.parts }
