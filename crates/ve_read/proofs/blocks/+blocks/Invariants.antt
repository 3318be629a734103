use Rattle.std.proofs.Common.{◌≡◌, ◌-◌, ◌+◌, ◌*◌, ◌≤◌, [], length}
use denote.Shadow.{shadow}
use denote.Text.{Utf8}
use Rattle.ve_classify.specs.Fits.{parent_of}
use Rattle.ve_read.proofs.BlockLoops.{LeftOf}
use Rattle.ve_read.proofs.blocks.+blocks.Given as goal

abbrev pub decreases-push_branch : goal.decreases-push_branch
decreases-push_branch l = 5 * (length l.forest.now - l.n)

abbrev pub decreases-push_block : goal.decreases-push_block
decreases-push_block l = 5 * (length l.forest.now - l.n) + 1

abbrev pub decreases-push_unit : goal.decreases-push_unit
decreases-push_unit l = 5 * (length l.forest.now - l.n) + 2

abbrev pub decreases-read_blocks : goal.decreases-read_blocks
decreases-read_blocks l = 5 * (length l.forest.now - l.from) + 3

abbrev pub decreases-read_siblings : goal.decreases-read_siblings
decreases-read_siblings l = 5 * (length l.forest.now - l.from) + 4

abbrev pub invariant-read_blocks-siblings : goal.invariant-read_blocks-siblings
invariant-read_blocks-siblings l =
    (l.from ≤ l.n) × (l.reader.marks ≡ []) × LeftOf l.text l.forest (parent_of l.around) l.from l.n l.to.end l.to.byte l.white l.fn.reader l.reader × shadow (Utf8 l.white)

abbrev pub decreases-read_blocks-siblings : goal.decreases-read_blocks-siblings
decreases-read_blocks-siblings l = l.to.end - l.n
