use Rattle.std.proofs.Common.{◌≡◌, ℕ, take}
use Rattle.model_items.specs.Plain.{plain_list}
use Rattle.model_page.specs.References.{table}
use Rattle.ve_write.specs.BodyTexts.{notes_place, text_by}
use Rattle.ve_write.specs.Range.{in_range}
use Rattle.ve_write.specs.Told.{text_of}
use Rattle.ve_write.proofs.range.range_texts.Given as goal

abbrev pub invariant-loop-row : goal.invariant-loop-row
invariant-loop-row l = record {
  notes : l.notes ≡ notes_place (plain_list l.store l.list.items);
  rows : l.row-items ≡ table (plain_list l.store l.list.items);
  texts : (p : ℕ) → text_of l.texts p ≡ in_range l.from l.to (text_by (plain_list l.store l.list.items) (take l.row-index l.row-items)) p;
}
