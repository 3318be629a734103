-- Which items a page under edit may have.
use Rattle.std.specs.Prelude.{◌≡◌, ℕ, Bool, true, false, not, is_some, Some, None, IsUtf8, ◌&&◌, ◌||◌, nat_le, List, [], ◌∷◌, length}
use Rattle.std.specs.List.{AllByRecursion}
use Rattle.ve_kinds.specs.Table.{is_element}
use Rattle.ve_base.specs.Limits.{max_marks, max_open_elements}
use Rattle.model_items.specs.declared.plain_item.PlainItem.{PlainItem}
use Rattle.model_items.specs.declared.plain_item.PlainItem.TheVariants.{Char, Opening, Closing}
use Rattle.ve_kinds.specs.declared.kind.Kind.{Kind}
use Rattle.model_spelling.specs.Forest.{Forest, is_forest, spelling}
use Rattle.model_page.specs.Editable.{item_refers}
use Rattle.model_page.specs.Fragment.{fragment_items}
use Rattle.model_page.specs.Limits.{fragment_limit, page_limit}
use Rattle.model_page.specs.PageItems.{items_of_page, page_made}
use Rattle.model_site_law.specs.ItemLaws.{AllPass}
use Rattle.model_world.specs.declared.edit_command.OpWords.{OpWords}
use Rattle.model_world.specs.declared.edit_command.OpWords.TheVariants as op
use Rattle.model_edit.specs.Marking.{item_marks}
use Rattle.model_edit.specs.declared.wrap_plan.Shape.{Shape}
use Rattle.model_edit.specs.declared.wrap_plan.WrapPlan.{WrapPlan}

-- at most 64 marks
abbrev pub has_few_marks : PlainItem → Bool
has_few_marks item = nat_le (length (item_marks item)) max_marks

-- a reference has its key and is editable, an internal item has its key, and no item has more than
-- 64 marks
abbrev pub may_stand : PlainItem → Bool
may_stand item = item_refers item && has_few_marks item

-- A fragment within its limit has such items alone,
abbrev pub FragmentsWithin : Type 0
FragmentsWithin = (stack : List Kind) (f : Forest) → fragment_limit stack f ≡ None → AllPass has_few_marks (fragment_items stack f)

-- and one over it has not, where it is UTF-8;
abbrev pub FragmentsOver : Type 0
FragmentsOver = (stack : List Kind) (f : Forest) (at : ℕ) → is_forest max_open_elements f ≡ true → IsUtf8 (spelling f) →
    fragment_limit stack f ≡ Some at → AllPass has_few_marks (fragment_items stack f) → ⊥

-- So has a page within its limits, reference bodies and all; it begins at any byte.
abbrev pub PagesWithin : Type 0
PagesWithin = (at : ℕ) (f : Forest) → page_limit at f ≡ None → AllPass has_few_marks (items_of_page (page_made at f))

-- the nodes that a plan wraps are elements
abbrev pub ShapesOfElements : List Shape → Type 0
ShapesOfElements shapes = AllByRecursion (λ (s : Shape). is_element s.kind ≡ true) shapes

abbrev pub PlanOfElements : WrapPlan → Type 0
PlanOfElements plan = ShapesOfElements plan.wrap_outer × ShapesOfElements plan.wrap_each

-- all that operations insert may stand
abbrev pub OpsStand : List OpWords → Type 0
OpsStand [] = Unit {0}
OpsStand (op.Retain count ∷ ops) = OpsStand ops
OpsStand (op.Remove count insert ∷ ops) = AllPass may_stand insert × OpsStand ops
OpsStand (op.Attr name to ∷ ops) = OpsStand ops

-- a leaf that no tag spells, of which the page has the head by its origin
abbrev pub has_its_origin : PlainItem → Bool
has_its_origin (Char c marks) = false
has_its_origin (Opening kind head marks pre origin generated) = not (is_element kind) && is_some origin
has_its_origin (Closing kind pre) = false

-- at most 64 marks, and a head that it may stand with, or an origin in its place
abbrev pub may_be_read : PlainItem → Bool
may_be_read item = (item_refers item || has_its_origin item) && has_few_marks item

-- of all that operations insert
abbrev pub OpsRead : List OpWords → Type 0
OpsRead [] = Unit {0}
OpsRead (op.Retain count ∷ ops) = OpsRead ops
OpsRead (op.Remove count insert ∷ ops) = AllPass may_be_read insert × OpsRead ops
OpsRead (op.Attr name to ∷ ops) = OpsRead ops
