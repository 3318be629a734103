use Rattle.std.proofs.Common.{length, ◌-◌, ◌≤◌, ◌<◌, get_or}
use Rattle.ve_html_scan.proofs.AttrWalk.{SoFar}
use Rattle.ve_html_scan.proofs.attrs.attrs_end.Given as goal

abbrev pub invariant-loop-at : goal.invariant-loop-at
invariant-loop-at l = SoFar l.names l.bytes l.tag l.from l.at (256 - length l.names) × (l.at ≤ length l.bytes) × (l.from ≤ l.at) × (l.from < l.at → get_or l.bytes l.from 0 < 128)

abbrev pub decreases-loop-at : goal.decreases-loop-at
decreases-loop-at l = length l.bytes - l.at
