use Rattle.std.proofs.Common.{◌≡◌, ◌-◌, ◌≤◌, length}
use Rattle.ve_html_tree.proofs.Runs.{SoFar}
use Rattle.ve_html_tree.proofs.reader.read.Given as goal

abbrev pub invariant-loop-fault : goal.invariant-loop-fault
invariant-loop-fault l = SoFar l.text l.scanner l.nodes.items l.opened × (l.scanner.text ≡ l.text) × (l.scanner.at ≤ length l.text)

abbrev pub decreases-loop-fault : goal.decreases-loop-fault
decreases-loop-fault l = length l.text - l.scanner.at
