use Rattle.std.proofs.Common.{◌≡◌, arith}
use Rattle.ve_tx.specs.Spliced.{come_count}
use Rattle.ve_editor.proofs.NoteLemmas.{come-popped}
use Rattle.ve_editor.proofs.back.Back.pop.Goals as goal

pub overflow_sub-self : goal.overflow_sub-self
overflow_sub-self c =
    let all = come-popped c.self.inside.splices.items c.pop.new.self.items c.pop.result c.in-Some.splice c.pop.ensures.items c.in-Some.is in
    let owed : c.self.inside.owed ≡ come_count c.self.inside.splices.items = c.self.invariant in
    rw c.as_slice.ensures (omega arith)

pub invariant_of-self : goal.invariant_of-self
invariant_of-self c =
    let all = come-popped c.self.inside.splices.items c.pop.new.self.items c.pop.result c.in-Some.splice c.pop.ensures.items c.in-Some.is in
    let owed : c.self.inside.owed ≡ come_count c.self.inside.splices.items = c.self.invariant in
    rw c.as_slice.ensures (omega arith)
