use Rattle.std.proofs.Common.{◌≡◌, ◌-◌, ◌<◌, suc, length, ap, arith, rules}
use Rattle.ve_select.specs.Runs.{chars_back}
use Rattle.ve_select.proofs.RunLemmas.{chars_before}
use Rattle.ve_select.proofs.run.run_start.Goals as goal

pub loop-start-preserved : goal.loop-start-preserved
loop-start-preserved c =
    let items = c.args.list.now.items in
    let start = c.loop-start.start in
    let some : 0 < start = search rules in
    let within = c.loop-start.invariant.within in
    let read = c.loop-start.invariant.read in
    let more : length (chars_back items start) ≡ suc (length (chars_back items (start - 1))) =
    ap length (chars_before items start c.get.result _ some c.get.ensures c.in-Char.is) in
    record { within = omega arith; read = omega arith }

pub returns-in-Opening : goal.returns-in-Opening
returns-in-Opening c =
    let items = c.args.list.now.items in
    let start = c.loop-start.start in
    let some : 0 < start = search rules in
    let read = c.loop-start.invariant.read in
    let none : length (chars_back items start) ≡ 0 = ap length (chars_before items start c.get.result _ some c.get.ensures c.in-Opening.is) in
    omega arith

pub returns-in-Closing : goal.returns-in-Closing
returns-in-Closing c =
    let items = c.args.list.now.items in
    let start = c.loop-start.start in
    let some : 0 < start = search rules in
    let read = c.loop-start.invariant.read in
    let none : length (chars_back items start) ≡ 0 = ap length (chars_before items start c.get.result _ some c.get.ensures c.in-Closing.is) in
    omega arith
