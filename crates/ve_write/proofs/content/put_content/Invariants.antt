use Rattle.std.proofs.Common.{◌-◌, ◌≤◌, [], length, IsUtf8}
use Rattle.model_items.specs.Plain.{value_at, marks_in, CitesMarks}
use Rattle.ve_write.specs.Siblings.{SameOuter}
use Rattle.ve_write.specs.Told.{content_at, known_of, GoesOn}
use Rattle.ve_write.proofs.content.put_content.Given as goal

abbrev pub invariant-loop-out : goal.invariant-loop-out
invariant-loop-out l = record {
  more : l.from ≤ l.at;
  within : l.at ≤ length l.page.list.now.items;
  cites : CitesMarks l.page.store.now l.opened;
  outer : SameOuter l.page.list.now.items l.from l.at;
  text : GoesOn (known_of l.page) l.initial.out l.out (λ w v. content_at w v l.page.list.now.items [] l.from)
      (λ w v. content_at w v l.page.list.now.items (marks_in (value_at l.page.store.now l.opened)) l.at);
  utf8 : IsUtf8 l.initial.out → IsUtf8 l.out;
}

abbrev pub decreases-loop-out : goal.decreases-loop-out
decreases-loop-out l = length l.page.list.now.items - l.at
