use Rattle.ve_session.specs.Program.{seen_of}
use Rattle.ve_session.proofs.ProgramLemmas.{ended_new, headline_new, prefix_new}
use Rattle.ve_session.proofs.program.run_program.Goals as goal

pub returns-clause-headline : goal.returns-clause-headline
returns-clause-headline g c is done =
    headline_new _ c.run.new.world _ _ _ _ c.new-world.ensures (c.run.ensures.headline is done)

pub returns-clause-ended : goal.returns-clause-ended
returns-clause-ended g c =
    ended_new _ c.new-world.result c.run.new.world
    (seen_of c.args.steps.now (g.S.Source.left c.args.source.now) (g.K.Sink.held c.args.sink.now) (g.S.Source.faults c.args.source.now) (g.K.Sink.faults c.args.sink.now))
    (seen_of c.run.new.steps (g.S.Source.left c.run.new.source) (g.K.Sink.held c.run.new.sink) (g.S.Source.faults c.run.new.source) (g.K.Sink.faults c.run.new.sink))
    c.run.result c.new-world.ensures c.run.ensures.ended

pub returns-clause-prefix : goal.returns-clause-prefix
returns-clause-prefix g c is =
    prefix_new c.new-world.result c.run.new.world
    (seen_of c.args.steps.now (g.S.Source.left c.args.source.now) (g.K.Sink.held c.args.sink.now) (g.S.Source.faults c.args.source.now) (g.K.Sink.faults c.args.sink.now))
    (seen_of c.run.new.steps (g.S.Source.left c.run.new.source) (g.K.Sink.held c.run.new.sink) (g.S.Source.faults c.run.new.source) (g.K.Sink.faults c.run.new.sink))
    c.new-world.ensures (c.run.ensures.prefix is)

pub returns-clause-unread : goal.returns-clause-unread
returns-clause-unread g c = c.run.ensures.unread

pub returns-clause-unstepped : goal.returns-clause-unstepped
returns-clause-unstepped g c other still = (c.run.ensures.unmoved other still).1

pub returns-clause-complete : goal.returns-clause-complete
returns-clause-complete g c = c.run.ensures.complete

pub returns-clause-complete_else : goal.returns-clause-complete_else
returns-clause-complete_else g c = c.run.ensures.complete_else

pub returns-clause-source_later : goal.returns-clause-source_later
returns-clause-source_later g c = c.run.ensures.source_later

pub returns-clause-sink_later : goal.returns-clause-sink_later
returns-clause-sink_later g c = c.run.ensures.sink_later

pub returns-clause-counted : goal.returns-clause-counted
returns-clause-counted g c = c.run.ensures.counted
