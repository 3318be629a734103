use Rattle.std.proofs.Common.{◌∙◌}
use Rattle.ve_session.specs.Program.{seen_of}
use Rattle.vemodel.proofs.RunLemmas.{ended_from_none, prefix_from_none}
use Rattle.vemodel.proofs.run_all.Goals as goal

pub returns-clause-headline : goal.returns-clause-headline
returns-clause-headline g c = c.run_program.ensures.headline

pub returns-clause-ended : goal.returns-clause-ended
returns-clause-ended g c = (
  c.run_program.new.steps,
  ended_from_none _ c.start-steps.result (g.R.Read.remaining c.args.source.now.reader) (g.W.Write.contents c.args.sink.now.writer) c.args.source.now.faults.count c.args.sink.now.faults.count
      (seen_of c.run_program.new.steps (g.R.Read.remaining c.run_program.new.source.reader) (g.W.Write.contents c.run_program.new.sink.writer) c.run_program.new.source.faults.count c.run_program.new.sink.faults.count)
      c.run_program.result c.start-steps.ensures c.run_program.ensures.ended,
  λ other still. c.run_program.ensures.unstepped other still ∙ c.start-steps.ensures,
)

pub returns-clause-prefix : goal.returns-clause-prefix
returns-clause-prefix g c is = (
  c.run_program.new.steps,
  prefix_from_none c.start-steps.result (g.R.Read.remaining c.args.source.now.reader) (g.W.Write.contents c.args.sink.now.writer) c.args.source.now.faults.count c.args.sink.now.faults.count
      (seen_of c.run_program.new.steps (g.R.Read.remaining c.run_program.new.source.reader) (g.W.Write.contents c.run_program.new.sink.writer) c.run_program.new.source.faults.count c.run_program.new.sink.faults.count)
      c.start-steps.ensures (c.run_program.ensures.prefix is),
)

pub returns-clause-unread : goal.returns-clause-unread
returns-clause-unread g c = c.run_program.ensures.unread

pub returns-clause-complete : goal.returns-clause-complete
returns-clause-complete g c = c.run_program.ensures.complete

pub returns-clause-complete_else : goal.returns-clause-complete_else
returns-clause-complete_else g c = c.run_program.ensures.complete_else

pub returns-clause-source_later : goal.returns-clause-source_later
returns-clause-source_later g c = c.run_program.ensures.source_later

pub returns-clause-sink_later : goal.returns-clause-sink_later
returns-clause-sink_later g c = c.run_program.ensures.sink_later
