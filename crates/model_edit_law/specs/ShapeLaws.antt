-- Laws of marking, converting and setting an attribute.
use Rattle.std.specs.Prelude.{◌≡◌, ℕ, List, Option, Ok}
use Rattle.ve_kinds.specs.declared.kind.Kind.{Kind}
use Rattle.ve_base.specs.declared.marks.Mark.{Mark}
use Rattle.model_items.specs.declared.plain_item.PlainItem.{PlainItem}
use Rattle.model_items.specs.Law.{Lawful}
use Rattle.model_change.specs.Transaction.{Transaction, edited}
use Rattle.model_edit_law.specs.Fine.{Fine}
use Rattle.model_edit.specs.Marking.{marking, unmarking}
use Rattle.model_edit.specs.declared.wrap_plan.WrapPlan.{WrapPlan}
use Rattle.model_edit.specs.Convert.{convert, attribute}
use Rattle.model_edit.specs.Wrap.{wrap}

-- The transactions are reduced, apply, and can put back what they remove. Those that look for a
-- bracket's partner ask for a lawful list.
abbrev pub MarkingIsFine : Type 0
MarkingIsFine = (items : List PlainItem) (from to : ℕ) (m : Mark) (t : Transaction) → marking items from to m ≡ Ok t → Fine items t

abbrev pub UnmarkingIsFine : Type 0
UnmarkingIsFine = (items : List PlainItem) (from to : ℕ) (m : Mark) (t : Transaction) → unmarking items from to m ≡ Ok t → Fine items t

abbrev pub ConvertIsFine : Type 0
ConvertIsFine = (items : List PlainItem) (at : ℕ) (kind : Kind) (t : Transaction) → Lawful items → convert items at kind ≡ Ok t →
    Fine items t

abbrev pub AttributeIsFine : Type 0
AttributeIsFine = (items : List PlainItem) (at : ℕ) (name : List ℕ) (to : Option (List ℕ)) (t : Transaction) →
    attribute items at name to ≡ Ok t → Fine items t

-- A converted branch leaves a lawful list lawful.
abbrev pub ConvertStaysLawful : Type 0
ConvertStaysLawful = (items : List PlainItem) (at : ℕ) (kind : Kind) (t : Transaction) → Lawful items → convert items at kind ≡ Ok t →
    Lawful (edited t items)

abbrev pub WrapIsFine : Type 0
WrapIsFine = (items : List PlainItem) (from to : ℕ) (plan : WrapPlan) (t : Transaction) → Lawful items → wrap items from to plan ≡ Ok t →
    Fine items t

-- So do marks set and taken, and an attribute set.
abbrev pub MarkingStaysLawful : Type 0
MarkingStaysLawful = (items : List PlainItem) (from to : ℕ) (m : Mark) (t : Transaction) → Lawful items →
    marking items from to m ≡ Ok t → Lawful (edited t items)

abbrev pub UnmarkingStaysLawful : Type 0
UnmarkingStaysLawful = (items : List PlainItem) (from to : ℕ) (m : Mark) (t : Transaction) → Lawful items →
    unmarking items from to m ≡ Ok t → Lawful (edited t items)

abbrev pub AttributeStaysLawful : Type 0
AttributeStaysLawful = (items : List PlainItem) (at : ℕ) (name : List ℕ) (to : Option (List ℕ)) (t : Transaction) → Lawful items →
    attribute items at name to ≡ Ok t → Lawful (edited t items)
