-- Pasted fragments: the items that a fragment becomes where some kinds are open.
use Rattle.std.specs.Prelude.{◌≡◌, ◌⊎◌, ℕ, true, List, [], Some, None, Ok}
use Rattle.model_spelling.specs.Forest.{Forest}
use Rattle.ve_kinds.specs.declared.kind.Kind.{Kind}
use Rattle.model_items.specs.declared.plain_item.PlainItem.{PlainItem}
use Rattle.model_items.specs.declared.law_fault.LawFault.TheVariants.{TooDeep}
use Rattle.model_items.specs.Law.{Lawful, verdict}
use Rattle.model_change.specs.Transaction.{Transaction, edited}
use Rattle.model_page.specs.Fragment.{fragment_items}
use Rattle.model_edit.specs.Insert.{insertion}
use Rattle.model_edit_law.specs.InsertLaws.{are_children}

-- Whatever kinds are open, the items of a fragment are children of some kind. That need not be the
-- open kind that the fragment is read in. Where a leaf or the internal list is open, a comment is
-- read in that, and it is a block.
abbrev pub FragmentsAreChildren : Type 0
FragmentsAreChildren = (stack : List Kind) (f : Forest) → (parent : Kind) × (are_children parent [] (fragment_items stack f) ≡ true)

-- So what is pasted leaves a lawful list lawful, or its nodes are nested over 100 deep; nothing is
-- asked of the pieces.
abbrev pub PastingStaysLawful : Type 0
PastingStaysLawful = (items : List PlainItem) (at : ℕ) (stack : List Kind) (f : Forest) (t : Transaction) → Lawful items →
    insertion items at (fragment_items stack f) ≡ Ok t →
    (verdict (edited t items) ≡ None) ⊎ ((n : ℕ) × (verdict (edited t items) ≡ Some (TooDeep n)))
