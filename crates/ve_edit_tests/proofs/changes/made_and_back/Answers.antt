use Rattle.ve_edit_tests.proofs.changes.made_and_back.Goals as goal

pub there_and_back-requires-clause-back_cites : goal.there_and_back-requires-clause-back_cites
there_and_back-requires-clause-back_cites c = λ values. c.in_ok-back.ensures.cites values (c.requires values)
