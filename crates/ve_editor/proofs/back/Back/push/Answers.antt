use Rattle.std.proofs.Common.{◌≡◌, ◌+◌, ◌++◌, ◌∷◌, [], length, ap, arith}
use Rattle.ve_tx.specs.Spliced.{come_count}
use Rattle.ve_editor.proofs.ReturnLemmas.{come-append}
use Rattle.ve_editor.proofs.back.Back.push.Goals as goal

pub invariant_of-self-2 : goal.invariant_of-self-2
invariant_of-self-2 c =
    let pushed : come_count c.push.new.self.items ≡ come_count (c.self.inside.splices.items ++ c.args.splice ∷ []) = ap come_count c.in_ok-push.ensures.items in
    let all = come-append c.self.inside.splices.items (c.args.splice ∷ []) in
    let one : come_count (c.args.splice ∷ []) ≡ length c.args.splice.items = omega arith in
    let owed : c.self.inside.owed ≡ come_count c.self.inside.splices.items = c.self.invariant in
    let come : length c.as_slice.result.now ≡ length c.args.splice.items = ap length c.as_slice.ensures in
    let sum : c.in-Some.owed ≡ c.self.inside.owed + length c.as_slice.result.now = c.in-Some.ensures.1 in
    omega arith
