use Rattle.ve_sites.proofs.EventLemmas as law
use Rattle.ve_sites.proofs.laws.turns_are_events.Goals as goal

pub returns-clause-edit : goal.returns-clause-edit
returns-clause-edit c = law.edit_happens

pub returns-clause-attempt : goal.returns-clause-attempt
returns-clause-attempt c = law.attempt_happens

pub returns-clause-select : goal.returns-clause-select
returns-clause-select c = law.select_happens

pub returns-clause-tell : goal.returns-clause-tell
returns-clause-tell c = law.tell_happens

pub returns-clause-undo : goal.returns-clause-undo
returns-clause-undo c = law.undo_happens

pub returns-clause-redo : goal.returns-clause-redo
returns-clause-redo c = law.redo_happens

pub returns-clause-revoke : goal.returns-clause-revoke
returns-clause-revoke c = law.revoke_happens

pub returns-clause-send : goal.returns-clause-send
returns-clause-send c = law.send_happens

pub returns-clause-serve : goal.returns-clause-serve
returns-clause-serve c = law.serve_happens

pub returns-clause-take : goal.returns-clause-take
returns-clause-take c = law.take_happens
