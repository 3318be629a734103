use Rattle.std.proofs.Common.{◌≡◌, length, arith}
use Rattle.ve_tx.proofs.TurnedLemmas.{with_positions-append}
use Rattle.ve_tx.proofs.gathered.Gathered.push.Goals as goal

pub returns-clause-ok : goal.returns-clause-ok
returns-clause-ok c =
    let even : length c.args.self.now.ops.items ≡ length c.args.self.now.kept.items = omega (arith, c.args.self.now.ops.ok, c.args.self.now.kept.ok, c.requires.even) in
    rw (c.in_ok-push.ensures.items, c.in_ok-push-2.ensures.items)
    (with_positions-append c.args.self.now.ops.items c.args.self.now.kept.items c.args.op c.args.kept even)
