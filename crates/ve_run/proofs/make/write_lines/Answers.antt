use Rattle.std.proofs.Common.{◌++◌, ◌∷◌, [], arith, refl, sym, ◌∙◌, subst, append_assoc}
use Rattle.std.specs.Io.KnownBytes.{Appends}
use Rattle.std.proofs.KnownBytes.{Appends-nil, Appends-trans}
use Rattle.model_script.specs.Lines.{with_newlines}
use Rattle.ve_run.specs.Run.{AppendsPrefix}
use Rattle.ve_run.proofs.Soaks.{line_comes, line_further, none_comes, on_err, one_less, prefix_further, prefix_of_whole, whole_done}
use Rattle.ve_run.proofs.make.write_lines.Goals as goal

pub lines-init : goal.lines-init
lines-init g c = record { done = []; whole = refl; appended = Appends-nil (g.K.Sink.held c.args.sink.now); later = omega arith }

pub returns-in_err-next-clause-err : goal.returns-in_err-next-clause-err
returns-in_err-next-clause-err g c =
    let inv = c.lines.invariant in
    on_err c.from_residual.result (prefix_of_whole (g.K.Sink.held c.args.sink.now) (g.K.Sink.held c.lines.sink) inv.done (with_newlines c.lines.lines) (with_newlines c.args.lines.now) inv.whole inv.appended)

pub returns-in_err-push_byte-clause-err : goal.returns-in_err-push_byte-clause-err
returns-in_err-push_byte-clause-err g c =
    let inv = c.lines.invariant in
    on_err c.from_residual-in_err-push_byte.result
    (prefix_of_whole (g.K.Sink.held c.args.sink.now) (g.K.Sink.held c.lines.sink) inv.done (with_newlines c.lines.lines) (with_newlines c.args.lines.now) inv.whole inv.appended)

pub lines-smaller : goal.lines-smaller
lines-smaller g c = one_less c.next.new.line c.lines.lines c.next.new.self (line_comes c.in_ok-next.field-0 c.lines.lines c.next.new.self c.next.new.line c.if-branch.true c.in_ok-next.ensures)

pub lines-preserved : goal.lines-preserved
lines-preserved g c =
    let inv = c.lines.invariant in
    let is = line_comes c.in_ok-next.field-0 c.lines.lines c.next.new.self c.next.new.line c.if-branch.true c.in_ok-next.ensures in
    let piece = c.next.new.line ++ 10 ∷ [] in
    let bytes = c.as_slice.ensures ∙ c.in_ok-push_byte.ensures.ok in
    record {
      done = inv.done ++ piece;
      whole = line_further inv.done (with_newlines c.args.lines.now) c.next.new.line c.lines.lines c.next.new.self inv.whole is ∙ sym (append_assoc inv.done piece (with_newlines c.next.new.self));
      appended = Appends-trans (g.K.Sink.held c.args.sink.now) (g.K.Sink.held c.lines.sink) (g.K.Sink.held c.write_all.new.sink) inv.done piece inv.appended
          (subst (Appends (g.K.Sink.held c.lines.sink) (g.K.Sink.held c.write_all.new.sink)) bytes c.in_ok-write_all.ensures.ok);
      later = omega (arith, inv.later, c.write_all.ensures.cause.later);
    }

pub returns-in_err-write_all-clause-err : goal.returns-in_err-write_all-clause-err
returns-in_err-write_all-clause-err g c =
    let inv = c.lines.invariant in
    let is = line_comes c.in_ok-next.field-0 c.lines.lines c.next.new.self c.next.new.line c.if-branch.true c.in_ok-next.ensures in
    let piece = c.next.new.line ++ 10 ∷ [] in
    let bytes = c.as_slice.ensures ∙ c.in_ok-push_byte.ensures.ok in
    on_err c.from_residual-in_err-write_all.result
    (prefix_further (g.K.Sink.held c.args.sink.now) (g.K.Sink.held c.lines.sink) (g.K.Sink.held c.write_all.new.sink) inv.done piece (with_newlines c.next.new.self) (with_newlines c.args.lines.now)
    (line_further inv.done (with_newlines c.args.lines.now) c.next.new.line c.lines.lines c.next.new.self inv.whole is) inv.appended
    (subst (AppendsPrefix (g.K.Sink.held c.lines.sink) (g.K.Sink.held c.write_all.new.sink)) bytes c.in_err-write_all.ensures.err))

pub returns-clause-ok : goal.returns-clause-ok
returns-clause-ok g c =
    let inv = c.lines.invariant in
    let none = none_comes c.in_ok-next.field-0 c.lines.lines c.next.new.self c.next.new.line c.if-branch.false c.in_ok-next.ensures in
    subst (Appends (g.K.Sink.held c.args.sink.now) (g.K.Sink.held c.lines.sink)) (whole_done inv.done (with_newlines c.args.lines.now) c.lines.lines inv.whole none) inv.appended
