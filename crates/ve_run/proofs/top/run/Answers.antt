use Rattle.std.proofs.Common.{inl, inr, refl, ap, ◌∙◌}
use Rattle.ve_words.specs.Words.{Asks, Refused, HelpWanted}
use Rattle.ve_words.specs.declared.read.Mode.TheVariants.{Run, Make, Soak}
use Rattle.ve_gen.specs.Generated.{script, script_lines}
use Rattle.ve_run.specs.declared.status.Status.TheVariants as status
use Rattle.ve_run.specs.Ended.{moment}
use Rattle.ve_run.specs.Run.{scene}
use Rattle.ve_run.specs.Soak.{soak_text}
use Rattle.ve_run.specs.Status.{usage_line}
use Rattle.ve_run.proofs.Ends.{means, ended_as, ends_by, make_runs_not, soak_runs_not, refused_runs_not, help_runs_not, text_completes, unread_words, nothing_written, memory_ends_by_length, memory_ends_by_words}
use Rattle.ve_run.proofs.top.run.Goals as goal

pub returns-in-Err-Memory-clause-ended : goal.returns-in-Err-Memory-clause-ended
returns-in-Err-Memory-clause-ended g c =
    unread_words g.M.Machine.meaning c.args.words.now (moment (scene c.args.world.now c.args.steps.now (g.K.Sink.held c.args.sink.now)) (g.S.Source.left c.args.source.now) (g.S.Source.faults c.args.source.now) (g.K.Sink.faults c.args.sink.now))

pub returns-in-Err-Memory-clause-prefix : goal.returns-in-Err-Memory-clause-prefix
returns-in-Err-Memory-clause-prefix g c _ =
    nothing_written g.M.Machine.meaning (g.S.Source.left c.args.source.now) (scene c.args.world.now c.args.steps.now (g.K.Sink.held c.args.sink.now))

pub returns-in-Err-Memory-clause-complete : goal.returns-in-Err-Memory-clause-complete
returns-in-Err-Memory-clause-complete g c _ _ =
    memory_ends_by_length (g.S.Source.left c.args.source.now)

pub returns-in-Err-Memory-clause-complete_else : goal.returns-in-Err-Memory-clause-complete_else
returns-in-Err-Memory-clause-complete_else g c _ _ =
    memory_ends_by_words c.args.words.now

pub write_usage-requires : goal.write_usage-requires
write_usage-requires g c =
    inl refl

pub returns-in-Err-Usage-clause-headline : goal.returns-in-Err-Usage-clause-headline
returns-in-Err-Usage-clause-headline g c is =
    let e = means c.args.words.now Refused (c.asked.ensures.usage (cc)) in
    absurd (refused_runs_not c.args.words.now e is)

pub returns-in-Err-Usage-clause-prefix : goal.returns-in-Err-Usage-clause-prefix
returns-in-Err-Usage-clause-prefix g c is =
    let e = means c.args.words.now Refused (c.asked.ensures.usage (cc)) in
    absurd (refused_runs_not c.args.words.now e is)

pub returns-in-Err-Usage-clause-complete : goal.returns-in-Err-Usage-clause-complete
returns-in-Err-Usage-clause-complete g c is =
    let e = means c.args.words.now Refused (c.asked.ensures.usage (cc)) in
    absurd (refused_runs_not c.args.words.now e is)

pub returns-in-Err-Usage-clause-ended : goal.returns-in-Err-Usage-clause-ended
returns-in-Err-Usage-clause-ended g c =
    let e = means c.args.words.now Refused (c.asked.ensures.usage (cc)) in
    ended_as g.M.Machine.meaning c.args.words.now (moment (scene c.args.world.now c.args.steps.now (g.K.Sink.held c.args.sink.now)) (g.S.Source.left c.args.source.now) (g.S.Source.faults c.args.source.now) (g.K.Sink.faults c.args.sink.now)) (moment (scene c.args.world.now c.args.steps.now (g.K.Sink.held c.write_usage.new.sink)) (g.S.Source.left c.args.source.now) (g.S.Source.faults c.args.source.now) (g.K.Sink.faults c.write_usage.new.sink)) c.write_usage.result Refused e c.write_usage.ensures.ended

pub returns-in-Err-Usage-clause-complete_else : goal.returns-in-Err-Usage-clause-complete_else
returns-in-Err-Usage-clause-complete_else g c _ no_fault =
    let e = means c.args.words.now Refused (c.asked.ensures.usage (cc)) in
    ends_by c.args.words.now c.write_usage.result Refused e (text_completes status.Usage usage_line (g.K.Sink.held c.args.sink.now) (g.K.Sink.held c.write_usage.new.sink) (g.K.Sink.faults c.args.sink.now) (g.K.Sink.faults c.write_usage.new.sink) c.write_usage.result c.write_usage.ensures.ended no_fault)

pub write_usage-requires-in-Err-Help : goal.write_usage-requires-in-Err-Help
write_usage-requires-in-Err-Help g c =
    inr refl

pub returns-in-Err-Help-clause-headline : goal.returns-in-Err-Help-clause-headline
returns-in-Err-Help-clause-headline g c is =
    let e = means c.args.words.now HelpWanted (c.asked.ensures.help (cc)) in
    absurd (help_runs_not c.args.words.now e is)

pub returns-in-Err-Help-clause-prefix : goal.returns-in-Err-Help-clause-prefix
returns-in-Err-Help-clause-prefix g c is =
    let e = means c.args.words.now HelpWanted (c.asked.ensures.help (cc)) in
    absurd (help_runs_not c.args.words.now e is)

pub returns-in-Err-Help-clause-complete : goal.returns-in-Err-Help-clause-complete
returns-in-Err-Help-clause-complete g c is =
    let e = means c.args.words.now HelpWanted (c.asked.ensures.help (cc)) in
    absurd (help_runs_not c.args.words.now e is)

pub returns-in-Err-Help-clause-ended : goal.returns-in-Err-Help-clause-ended
returns-in-Err-Help-clause-ended g c =
    let e = means c.args.words.now HelpWanted (c.asked.ensures.help (cc)) in
    ended_as g.M.Machine.meaning c.args.words.now (moment (scene c.args.world.now c.args.steps.now (g.K.Sink.held c.args.sink.now)) (g.S.Source.left c.args.source.now) (g.S.Source.faults c.args.source.now) (g.K.Sink.faults c.args.sink.now)) (moment (scene c.args.world.now c.args.steps.now (g.K.Sink.held c.write_usage-in-Err-Help.new.sink)) (g.S.Source.left c.args.source.now) (g.S.Source.faults c.args.source.now) (g.K.Sink.faults c.write_usage-in-Err-Help.new.sink)) c.write_usage-in-Err-Help.result HelpWanted e c.write_usage-in-Err-Help.ensures.ended

pub returns-in-Err-Help-clause-complete_else : goal.returns-in-Err-Help-clause-complete_else
returns-in-Err-Help-clause-complete_else g c _ no_fault =
    let e = means c.args.words.now HelpWanted (c.asked.ensures.help (cc)) in
    ends_by c.args.words.now c.write_usage-in-Err-Help.result HelpWanted e (text_completes status.Help usage_line (g.K.Sink.held c.args.sink.now) (g.K.Sink.held c.write_usage-in-Err-Help.new.sink) (g.K.Sink.faults c.args.sink.now) (g.K.Sink.faults c.write_usage-in-Err-Help.new.sink) c.write_usage-in-Err-Help.result c.write_usage-in-Err-Help.ensures.ended no_fault)

pub returns-in-Run-clause-headline : goal.returns-in-Run-clause-headline
returns-in-Run-clause-headline g c _ =
    c.end_lines.ensures.headline

pub returns-in-Run-clause-prefix : goal.returns-in-Run-clause-prefix
returns-in-Run-clause-prefix g c _ =
    c.end_lines.ensures.prefix

pub returns-in-Run-clause-complete : goal.returns-in-Run-clause-complete
returns-in-Run-clause-complete g c _ =
    c.end_lines.ensures.complete

pub returns-in-Run-clause-unread : goal.returns-in-Run-clause-unread
returns-in-Run-clause-unread g c other =
    let e = means c.args.words.now (Asks Run c.in-Ok.asked.start c.in-Ok.asked.edits) (c.in-Ok.ensures.ok ∙ ap (λ m. Asks m c.in-Ok.asked.start c.in-Ok.asked.edits) c.in-Run.is) in
    absurd (other (c.in-Ok.asked.start, c.in-Ok.asked.edits, e))

pub returns-in-Run-clause-unmoved : goal.returns-in-Run-clause-unmoved
returns-in-Run-clause-unmoved g c other _ =
    let e = means c.args.words.now (Asks Run c.in-Ok.asked.start c.in-Ok.asked.edits) (c.in-Ok.ensures.ok ∙ ap (λ m. Asks m c.in-Ok.asked.start c.in-Ok.asked.edits) c.in-Run.is) in
    absurd (other (c.in-Ok.asked.start, c.in-Ok.asked.edits, e))

pub returns-in-Run-clause-complete_else : goal.returns-in-Run-clause-complete_else
returns-in-Run-clause-complete_else g c other _ =
    let e = means c.args.words.now (Asks Run c.in-Ok.asked.start c.in-Ok.asked.edits) (c.in-Ok.ensures.ok ∙ ap (λ m. Asks m c.in-Ok.asked.start c.in-Ok.asked.edits) c.in-Run.is) in
    absurd (other (c.in-Ok.asked.start, c.in-Ok.asked.edits, e))

pub returns-in-Run-clause-ended : goal.returns-in-Run-clause-ended
returns-in-Run-clause-ended g c =
    let e = means c.args.words.now (Asks Run c.in-Ok.asked.start c.in-Ok.asked.edits) (c.in-Ok.ensures.ok ∙ ap (λ m. Asks m c.in-Ok.asked.start c.in-Ok.asked.edits) c.in-Run.is) in
    ended_as g.M.Machine.meaning c.args.words.now (moment (scene c.args.world.now c.args.steps.now (g.K.Sink.held c.args.sink.now)) (g.S.Source.left c.args.source.now) (g.S.Source.faults c.args.source.now) (g.K.Sink.faults c.args.sink.now)) (moment (scene c.end_lines.new.world c.end_lines.new.steps (g.K.Sink.held c.end_lines.new.sink)) (g.S.Source.left c.end_lines.new.source) (g.S.Source.faults c.end_lines.new.source) (g.K.Sink.faults c.end_lines.new.sink)) c.end_lines.result (Asks Run c.in-Ok.asked.start c.in-Ok.asked.edits) e c.end_lines.ensures.ended

pub returns-in-Make-clause-headline : goal.returns-in-Make-clause-headline
returns-in-Make-clause-headline g c is =
    let e = means c.args.words.now (Asks Make c.in-Ok.asked.start c.in-Ok.asked.edits) (c.in-Ok.ensures.ok ∙ ap (λ m. Asks m c.in-Ok.asked.start c.in-Ok.asked.edits) c.in-Make.is) in
    absurd (make_runs_not c.args.words.now c.in-Ok.asked.start c.in-Ok.asked.edits e is)

pub returns-in-Make-clause-prefix : goal.returns-in-Make-clause-prefix
returns-in-Make-clause-prefix g c is =
    let e = means c.args.words.now (Asks Make c.in-Ok.asked.start c.in-Ok.asked.edits) (c.in-Ok.ensures.ok ∙ ap (λ m. Asks m c.in-Ok.asked.start c.in-Ok.asked.edits) c.in-Make.is) in
    absurd (make_runs_not c.args.words.now c.in-Ok.asked.start c.in-Ok.asked.edits e is)

pub returns-in-Make-clause-complete : goal.returns-in-Make-clause-complete
returns-in-Make-clause-complete g c is =
    let e = means c.args.words.now (Asks Make c.in-Ok.asked.start c.in-Ok.asked.edits) (c.in-Ok.ensures.ok ∙ ap (λ m. Asks m c.in-Ok.asked.start c.in-Ok.asked.edits) c.in-Make.is) in
    absurd (make_runs_not c.args.words.now c.in-Ok.asked.start c.in-Ok.asked.edits e is)

pub returns-in-Make-clause-ended : goal.returns-in-Make-clause-ended
returns-in-Make-clause-ended g c =
    let e = means c.args.words.now (Asks Make c.in-Ok.asked.start c.in-Ok.asked.edits) (c.in-Ok.ensures.ok ∙ ap (λ m. Asks m c.in-Ok.asked.start c.in-Ok.asked.edits) c.in-Make.is) in
    ended_as g.M.Machine.meaning c.args.words.now (moment (scene c.args.world.now c.args.steps.now (g.K.Sink.held c.args.sink.now)) (g.S.Source.left c.args.source.now) (g.S.Source.faults c.args.source.now) (g.K.Sink.faults c.args.sink.now)) (moment (scene c.args.world.now c.args.steps.now (g.K.Sink.held c.end_make.new.sink)) (g.S.Source.left c.args.source.now) (g.S.Source.faults c.args.source.now) (g.K.Sink.faults c.end_make.new.sink)) c.end_make.result (Asks Make c.in-Ok.asked.start c.in-Ok.asked.edits) e c.end_make.ensures.ended

pub returns-in-Make-clause-complete_else : goal.returns-in-Make-clause-complete_else
returns-in-Make-clause-complete_else g c _ no_fault =
    let e = means c.args.words.now (Asks Make c.in-Ok.asked.start c.in-Ok.asked.edits) (c.in-Ok.ensures.ok ∙ ap (λ m. Asks m c.in-Ok.asked.start c.in-Ok.asked.edits) c.in-Make.is) in
    ends_by c.args.words.now c.end_make.result (Asks Make c.in-Ok.asked.start c.in-Ok.asked.edits) e (text_completes status.Done (script c.in-Ok.asked.start c.in-Ok.asked.edits) (g.K.Sink.held c.args.sink.now) (g.K.Sink.held c.end_make.new.sink) (g.K.Sink.faults c.args.sink.now) (g.K.Sink.faults c.end_make.new.sink) c.end_make.result c.end_make.ensures.ended no_fault)

pub returns-in-Soak-clause-headline : goal.returns-in-Soak-clause-headline
returns-in-Soak-clause-headline g c is =
    let e = means c.args.words.now (Asks Soak c.in-Ok.asked.start c.in-Ok.asked.edits) (c.in-Ok.ensures.ok ∙ ap (λ m. Asks m c.in-Ok.asked.start c.in-Ok.asked.edits) c.in-Soak.is) in
    absurd (soak_runs_not c.args.words.now c.in-Ok.asked.start c.in-Ok.asked.edits e is)

pub returns-in-Soak-clause-prefix : goal.returns-in-Soak-clause-prefix
returns-in-Soak-clause-prefix g c is =
    let e = means c.args.words.now (Asks Soak c.in-Ok.asked.start c.in-Ok.asked.edits) (c.in-Ok.ensures.ok ∙ ap (λ m. Asks m c.in-Ok.asked.start c.in-Ok.asked.edits) c.in-Soak.is) in
    absurd (soak_runs_not c.args.words.now c.in-Ok.asked.start c.in-Ok.asked.edits e is)

pub returns-in-Soak-clause-complete : goal.returns-in-Soak-clause-complete
returns-in-Soak-clause-complete g c is =
    let e = means c.args.words.now (Asks Soak c.in-Ok.asked.start c.in-Ok.asked.edits) (c.in-Ok.ensures.ok ∙ ap (λ m. Asks m c.in-Ok.asked.start c.in-Ok.asked.edits) c.in-Soak.is) in
    absurd (soak_runs_not c.args.words.now c.in-Ok.asked.start c.in-Ok.asked.edits e is)

pub returns-in-Soak-clause-unmoved : goal.returns-in-Soak-clause-unmoved
returns-in-Soak-clause-unmoved g c _ other =
    let e = means c.args.words.now (Asks Soak c.in-Ok.asked.start c.in-Ok.asked.edits) (c.in-Ok.ensures.ok ∙ ap (λ m. Asks m c.in-Ok.asked.start c.in-Ok.asked.edits) c.in-Soak.is) in
    absurd (other (c.in-Ok.asked.start, c.in-Ok.asked.edits, e))

pub returns-in-Soak-clause-ended : goal.returns-in-Soak-clause-ended
returns-in-Soak-clause-ended g c =
    let e = means c.args.words.now (Asks Soak c.in-Ok.asked.start c.in-Ok.asked.edits) (c.in-Ok.ensures.ok ∙ ap (λ m. Asks m c.in-Ok.asked.start c.in-Ok.asked.edits) c.in-Soak.is) in
    ended_as g.M.Machine.meaning c.args.words.now (moment (scene c.args.world.now c.args.steps.now (g.K.Sink.held c.args.sink.now)) (g.S.Source.left c.args.source.now) (g.S.Source.faults c.args.source.now) (g.K.Sink.faults c.args.sink.now)) (moment (scene c.end_soak.new.world c.end_soak.new.steps (g.K.Sink.held c.end_soak.new.sink)) (g.S.Source.left c.args.source.now) (g.S.Source.faults c.args.source.now) (g.K.Sink.faults c.end_soak.new.sink)) c.end_soak.result (Asks Soak c.in-Ok.asked.start c.in-Ok.asked.edits) e c.end_soak.ensures.ended

pub returns-in-Soak-clause-complete_else : goal.returns-in-Soak-clause-complete_else
returns-in-Soak-clause-complete_else g c _ no_fault =
    let e = means c.args.words.now (Asks Soak c.in-Ok.asked.start c.in-Ok.asked.edits) (c.in-Ok.ensures.ok ∙ ap (λ m. Asks m c.in-Ok.asked.start c.in-Ok.asked.edits) c.in-Soak.is) in
    ends_by c.args.words.now c.end_soak.result (Asks Soak c.in-Ok.asked.start c.in-Ok.asked.edits) e (text_completes status.Done (soak_text g.M.Machine.meaning c.args.world.now (script_lines c.in-Ok.asked.start c.in-Ok.asked.edits)) (g.K.Sink.held c.args.sink.now) (g.K.Sink.held c.end_soak.new.sink) (g.K.Sink.faults c.args.sink.now) (g.K.Sink.faults c.end_soak.new.sink) c.end_soak.result c.end_soak.ensures.ended.text no_fault)
