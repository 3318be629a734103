use Rattle.std.proofs.Common.{◌≡◌, ◌-◌, ◌≤◌, false, length, drop, IsUtf8}
use Rattle.ve_write.specs.Siblings.{is_end, SameOuter}
use Rattle.ve_write.specs.Told.{blocks_at, known_of, GoesOn, StandsBefore}
use Rattle.ve_write.proofs.blocks.put_run.Given as goal

abbrev pub invariant-sibling : goal.invariant-sibling
invariant-sibling l = record {
  more : l.from.at ≤ l.run.at;
  within : l.run.at ≤ length l.page.list.now.items;
  before : is_end (drop l.run.at l.page.list.now.items) ≡ false → StandsBefore l.page l.run.at;
  outer : SameOuter l.page.list.now.items l.from.at l.run.at;
  text : GoesOn (known_of l.page) l.initial.out l.out (λ w v. blocks_at w v l.page.list.now.items l.from.bare l.from.at) (λ w v. blocks_at w v l.page.list.now.items l.run.bare l.run.at);
  utf8 : IsUtf8 l.initial.out → IsUtf8 l.out;
}

abbrev pub decreases-sibling : goal.decreases-sibling
decreases-sibling l = length l.page.list.now.items - l.run.at
