use Rattle.std.proofs.Common.{◌-◌, ◌+◌, ◌*◌, ◌≤◌, length}
use Rattle.ve_read.proofs.ContentLoops.{LeftOf}
use Rattle.ve_read.proofs.content.+content.Given as goal

abbrev pub decreases-annotation : goal.decreases-annotation
decreases-annotation l = 3 * (length l.forest.now - l.n)

abbrev pub decreases-read_part : goal.decreases-read_part
decreases-read_part l = 3 * (length l.forest.now - l.n) + 1

abbrev pub decreases-read_content : goal.decreases-read_content
decreases-read_content l = 3 * (length l.forest.now - l.from) + 2

abbrev pub invariant-read_content-parts : goal.invariant-read_content-parts
invariant-read_content-parts l = (l.from ≤ l.n) × LeftOf l.text l.forest l.from l.n l.to.end l.to.byte l.fn.reader l.reader

abbrev pub decreases-read_content-parts : goal.decreases-read_content-parts
decreases-read_content-parts l = l.to.end - l.n
