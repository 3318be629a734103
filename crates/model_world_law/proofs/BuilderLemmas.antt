-- Each builder gives a reduced transaction that puts in names apart: both are laws of edits.
use Rattle.std.proofs.Common.{◌≡◌, ℕ, List, Option, Ok}
use Rattle.ve_kinds.specs.declared.kind.Kind.{Kind}
use Rattle.ve_base.specs.declared.marks.Mark.{Mark}
use Rattle.model_items.specs.declared.plain_item.PlainItem.{PlainItem}
use Rattle.model_change.specs.Attributes.{AllNamesApart}
use Rattle.model_change.specs.Transaction.{Transaction, InsertedApart}
use Rattle.model_edit.specs.declared.wrap_plan.WrapPlan.{WrapPlan}
use Rattle.model_edit.specs.Insert.{insertion, split}
use Rattle.model_edit.specs.Remove.{removal}
use Rattle.model_edit.specs.Marking.{marking, unmarking}
use Rattle.model_edit.specs.Wrap.{wrap}
use Rattle.model_edit.specs.Convert.{convert, attribute}
use Rattle.model_edit_law.specs.Fine.{Fine}
use Rattle.model_edit_law.specs.ApartLaws.{PlanApart}
use Rattle.model_edit_law.proofs.ApartEditLemmas.{insertion_apart, split_apart, removal_apart, marking_apart, unmarking_apart, wrap_apart, convert_apart, attribute_apart, indent_apart, outdent_apart, row_in_apart, row_out_apart, col_in_apart, col_out_apart}
use Rattle.model_edit_law.proofs.InsertLemmas.{insertion_fine, split_fine}
use Rattle.model_edit_law.proofs.RemoveLemmas.{removal_fine}
use Rattle.model_edit_law.proofs.ShapeLemmas.{marking_fine, unmarking_fine, convert_fine, attribute_fine}
use Rattle.model_edit_law.proofs.WrapLemmas.{wrap_fine}
use Rattle.model_edit_law.proofs.IndentLemmas.{indent_fine}
use Rattle.model_edit_law.proofs.OutdentLemmas.{outdent_fine}
use Rattle.model_edit_law.proofs.TableFineLemmas.{row_in_fine, row_out_fine, col_in_fine, col_out_fine}
use Rattle.model_site_law.specs.Sound.{Sound}
use Rattle.model_world_law.specs.Fit.{Fit, MovesFit}

fit : (items : List PlainItem) (t : Transaction) → Fine items t → InsertedApart t → Fit t
fit items t f p = record { reduced = f.reduced; apart = p }

pub insertion_fits : (items : List PlainItem) (at : ℕ) (pieces : List PlainItem) (t : Transaction) → Sound items → AllNamesApart pieces → insertion items at pieces ≡ Ok t → Fit t
insertion_fits items at pieces t s p h = fit items t (insertion_fine items at pieces t h) (insertion_apart items at pieces t s.apart p h)

pub split_fits : (items : List PlainItem) (at depth : ℕ) (t : Transaction) → Sound items → split items at depth ≡ Ok t → Fit t
split_fits items at depth t s h = fit items t (split_fine items at depth t h) (split_apart items at depth t s.apart h)

pub removal_fits : (items : List PlainItem) (from to : ℕ) (t : Transaction) → Sound items → removal items from to ≡ Ok t → Fit t
removal_fits items from to t s h = fit items t (removal_fine items from to t s.lawful h) (removal_apart items from to t h)

pub marking_fits : (items : List PlainItem) (from to : ℕ) (m : Mark) (t : Transaction) → Sound items → marking items from to m ≡ Ok t → Fit t
marking_fits items from to m t s h = fit items t (marking_fine items from to m t h) (marking_apart items from to m t s.apart h)

pub unmarking_fits : (items : List PlainItem) (from to : ℕ) (m : Mark) (t : Transaction) → Sound items → unmarking items from to m ≡ Ok t → Fit t
unmarking_fits items from to m t s h = fit items t (unmarking_fine items from to m t h) (unmarking_apart items from to m t s.apart h)

pub wrap_fits : (items : List PlainItem) (from to : ℕ) (plan : WrapPlan) (t : Transaction) → PlanApart plan → Sound items → wrap items from to plan ≡ Ok t → Fit t
wrap_fits items from to plan t p s h = fit items t (wrap_fine items from to plan t s.lawful h) (wrap_apart items from to plan t p h)

pub convert_fits : (items : List PlainItem) (at : ℕ) (kind : Kind) (t : Transaction) → Sound items → convert items at kind ≡ Ok t → Fit t
convert_fits items at kind t s h = fit items t (convert_fine items at kind t s.lawful h) (convert_apart items at kind t s.apart h)

pub attribute_fits : (items : List PlainItem) (at : ℕ) (name : List ℕ) (to : Option (List ℕ)) (t : Transaction) → attribute items at name to ≡ Ok t → Fit t
attribute_fits items at name to t h = fit items t (attribute_fine items at name to t h) (attribute_apart items at name to t h)

pub moves_fit : MovesFit
moves_fit = record {
  row_in = λ items at row t s h. fit items t (row_in_fine items at row t s.lawful h) (row_in_apart items at row t h);
  row_out = λ items at row t s h. fit items t (row_out_fine items at row t s.lawful h) (row_out_apart items at row t h);
  col_in = λ items at column t s h. fit items t (col_in_fine items at column t s.lawful h) (col_in_apart items at column t h);
  col_out = λ items at column t s h. fit items t (col_out_fine items at column t s.lawful h) (col_out_apart items at column t h);
  indent = λ items at t s h. fit items t (indent_fine items at t s.lawful h) (indent_apart items at t h);
  outdent = λ items at t s h. fit items t (outdent_fine items at t s.lawful h) (outdent_apart items at t s.apart h);
}
