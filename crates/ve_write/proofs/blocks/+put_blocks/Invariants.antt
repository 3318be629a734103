use Rattle.std.proofs.Common.{◌-◌, ◌≤◌, false, length, IsUtf8}
use Rattle.ve_write.specs.Siblings.{SameOuter}
use Rattle.ve_write.specs.Told.{blocks_at, known_of, GoesOn}
use Rattle.ve_write.proofs.blocks.+put_blocks.Given as goal

abbrev pub decreases-put_blocks : goal.decreases-put_blocks
decreases-put_blocks l = length l.page.list.now.items - l.from

abbrev pub invariant-sibling : goal.invariant-sibling
invariant-sibling l = record {
  more : l.from ≤ l.at;
  within : l.at ≤ length l.page.list.now.items;
  outer : SameOuter l.page.list.now.items l.from l.at;
  text : GoesOn (known_of l.page) l.initial.out l.out (λ w v. blocks_at w v l.page.list.now.items false l.from) (λ w v. blocks_at w v l.page.list.now.items l.before l.at);
  utf8 : IsUtf8 l.initial.out → IsUtf8 l.out;
}

abbrev pub decreases-sibling : goal.decreases-sibling
decreases-sibling l = length l.page.list.now.items - l.at
