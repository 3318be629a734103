use Rattle.std.proofs.Common.{◌≤◌, ◌+◌, ◌++◌, ◌∷◌, [], arith, refl, sym, ap, ◌∙◌, subst, append-nil}
use Rattle.ve_run.specs.Run.{reply_line}
use Rattle.ve_run.specs.Soak.{IsTally, reply_lines}
use Rattle.ve_run.proofs.Soaks.{done_further, few, line_comes, none_comes, one_less, tally_one_more, took_all, took_none, took_one_more}
use Rattle.ve_run.proofs.soak.step_lines.Goals as goal

pub lines-init : goal.lines-init
lines-init g c = record {
  done = [];
  parts = refl;
  took = took_none g.M.Machine.meaning c.args.world.now c.args.steps.now;
  tally = c.requires.none;
  counted = omega arith;
}

pub add-requires-clause-few : goal.add-requires-clause-few
add-requires-clause-few g c =
    let inv = c.lines.invariant in
    (few g.M.Machine.meaning c.args.world.now inv.done c.args.lines.now c.lines.lines c.next.new.self c.next.new.line c.lines.tally inv.tally inv.parts (line_comes c.in_ok-next.field-0 c.lines.lines c.next.new.self c.next.new.line c.if-branch.true c.in_ok-next.ensures) c.requires.few).0

pub add-requires-clause-few_accepted : goal.add-requires-clause-few_accepted
add-requires-clause-few_accepted g c =
    let inv = c.lines.invariant in
    (few g.M.Machine.meaning c.args.world.now inv.done c.args.lines.now c.lines.lines c.next.new.self c.next.new.line c.lines.tally inv.tally inv.parts (line_comes c.in_ok-next.field-0 c.lines.lines c.next.new.self c.next.new.line c.if-branch.true c.in_ok-next.ensures) c.requires.few).1

pub add-requires-clause-few_refused : goal.add-requires-clause-few_refused
add-requires-clause-few_refused g c =
    let inv = c.lines.invariant in
    (few g.M.Machine.meaning c.args.world.now inv.done c.args.lines.now c.lines.lines c.next.new.self c.next.new.line c.lines.tally inv.tally inv.parts (line_comes c.in_ok-next.field-0 c.lines.lines c.next.new.self c.next.new.line c.if-branch.true c.in_ok-next.ensures) c.requires.few).2

pub lines-smaller : goal.lines-smaller
lines-smaller g c = one_less c.next.new.line c.lines.lines c.next.new.self (line_comes c.in_ok-next.field-0 c.lines.lines c.next.new.self c.next.new.line c.if-branch.true c.in_ok-next.ensures)

pub lines-preserved : goal.lines-preserved
lines-preserved g c =
    let m = g.M.Machine.meaning in
    let inv = c.lines.invariant in
    let is = line_comes c.in_ok-next.field-0 c.lines.lines c.next.new.self c.next.new.line c.if-branch.true c.in_ok-next.ensures in
    let line = c.as_slice.ensures in
    let state = c.in_ok-step.ensures.state ∙ ap (λ x. m.next c.lines.world x) line in
    let reply = c.as_slice-in-lines.ensures ∙ c.in_ok-step.ensures.reply ∙ ap (λ x. x ++ reply_line (m.reply c.lines.world c.as_slice.result.now)) c.clear.ensures ∙ ap (λ x. reply_line (m.reply c.lines.world x)) line in
    record {
      done = inv.done ++ c.next.new.line ∷ [];
      parts = done_further inv.done c.args.lines.now c.lines.lines c.next.new.self c.next.new.line inv.parts is;
      took = took_one_more m c.args.world.now c.lines.world c.step.new.self c.args.steps.now c.lines.steps c.step.new.steps inv.done c.next.new.line inv.took state
          (subst (λ x. c.step.new.steps ≤ c.lines.steps + m.cost c.lines.world x) line c.in_ok-step.ensures.cost);
      tally = tally_one_more m c.args.world.now c.lines.world c.args.steps.now c.lines.steps inv.done c.next.new.line c.as_slice-in-lines.result.now c.lines.tally c.add.new.self inv.took reply inv.tally c.add.ensures;
      counted = omega (arith, inv.counted, c.step.ensures.counted);
    }

pub returns-clause-tally : goal.returns-clause-tally
returns-clause-tally g c =
    let inv = c.lines.invariant in
    let none = none_comes c.in_ok-next.field-0 c.lines.lines c.next.new.self c.next.new.line c.if-branch.false c.in_ok-next.ensures in
    subst (λ x. IsTally c.lines.tally (reply_lines g.M.Machine.meaning c.args.world.now x)) (sym (inv.parts ∙ ap (λ x. inv.done ++ x) none ∙ append-nil inv.done)) inv.tally

pub returns-clause-took : goal.returns-clause-took
returns-clause-took g c =
    let inv = c.lines.invariant in
    let none = none_comes c.in_ok-next.field-0 c.lines.lines c.next.new.self c.next.new.line c.if-branch.false c.in_ok-next.ensures in
    took_all g.M.Machine.meaning c.args.world.now c.lines.world c.args.steps.now c.lines.steps inv.done c.args.lines.now c.lines.lines inv.took inv.parts none
