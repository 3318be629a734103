use Rattle.std.proofs.Common.{◌-◌, ◌+◌, ◌≤◌, length, IsUtf8}
use Rattle.model_items.specs.Plain.{value_at, marks_in, CitesMarks}
use Rattle.ve_write.specs.Siblings.{SameOuter}
use Rattle.ve_write.specs.Told.{content_at, known_of, GoesOn}
use Rattle.ve_write.proofs.content.put_letters.Given as goal

abbrev pub invariant-loop-count : goal.invariant-loop-count
invariant-loop-count l = record {
  within : l.count ≤ length l.piece;
  cites : CitesMarks l.page.store.now l.opened;
  outer : SameOuter l.page.list.now.items l.at (l.at + l.count);
  text : GoesOn (known_of l.page) l.initial.out l.out (λ w v. content_at w v l.page.list.now.items (marks_in (value_at l.page.store.now l.initial.opened)) l.at)
      (λ w v. content_at w v l.page.list.now.items (marks_in (value_at l.page.store.now l.opened)) (l.at + l.count));
  utf8 : IsUtf8 l.initial.out → IsUtf8 l.out;
}

abbrev pub decreases-loop-count : goal.decreases-loop-count
decreases-loop-count l = length l.piece - l.count
