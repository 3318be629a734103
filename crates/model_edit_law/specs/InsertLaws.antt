-- Laws of insertions and splits.
use Rattle.std.specs.Prelude.{◌≡◌, ◌⊎◌, ℕ, Bool, true, false, not, ◌&&◌, List, [], ◌∷◌, Some, None, Ok}
use Rattle.ve_kinds.specs.declared.kind.Kind.{Kind}
use Rattle.ve_kinds.specs.declared.kind.Kind.TheVariants.{InternalList}
use Rattle.model_items.specs.declared.plain_item.PlainItem.{PlainItem}
use Rattle.model_items.specs.declared.plain_item.PlainItem.TheVariants.{Char, Opening, Closing}
use Rattle.ve_kinds.specs.Table.{kind_same, may_hold, is_content_branch}
use Rattle.ve_base.specs.declared.marks.Mark.{Mark}
use Rattle.model_items.specs.declared.law_fault.LawFault.TheVariants.{TooDeep}
use Rattle.model_items.specs.Law.{Lawful, verdict}
use Rattle.model_change.specs.Transaction.{Transaction, edited}
use Rattle.model_edit_law.specs.Fine.{Fine}
use Rattle.model_edit.specs.Insert.{split, insertion, text_pieces}

-- A split leaves a lawful list lawful.
abbrev pub SplitStaysLawful : Type 0
SplitStaysLawful = (items : List PlainItem) (at depth : ℕ) (t : Transaction) → Lawful items → split items at depth ≡ Ok t →
    Lawful (edited t items)

-- Typing, with any marks, leaves it lawful, or its nodes are nested over 100 deep.
abbrev pub TypingStaysLawful : Type 0
TypingStaysLawful = (items : List PlainItem) (at : ℕ) (marks : List Mark) (text : List ℕ) (t : Transaction) → Lawful items →
    insertion items at (text_pieces marks text) ≡ Ok t →
    (verdict (edited t items) ≡ None) ⊎ ((n : ℕ) × (verdict (edited t items) ≡ Some (TooDeep n)))

-- the innermost of the nodes that pieces opened, or else the kind that they stand in
abbrev pub innermost : Kind → List Kind → Kind
innermost parent [] = parent
innermost parent (k ∷ opened) = k

-- Pieces are children of a kind: each item may stand where it does, and each bracket has its
-- partner. How deep they nest is left out.
abbrev pub are_children : Kind → List Kind → List PlainItem → Bool
are_children parent [] [] = true
are_children parent (k ∷ opened) [] = false
are_children parent opened (Char c marks ∷ items) = is_content_branch (innermost parent opened) && are_children parent opened items
are_children parent opened (Opening kind head marks pre origin generated ∷ items) =
    may_hold (innermost parent opened) kind && (not (kind_same kind InternalList) && are_children parent (kind ∷ opened) items)
are_children parent [] (Closing kind pre ∷ items) = false
are_children parent (k ∷ opened) (Closing kind pre ∷ items) = kind_same k kind && are_children parent opened items

-- So does what is pasted, where the pieces are children of some kind, whichever they were read in.
abbrev pub FragmentStaysLawful : Type 0
FragmentStaysLawful = (items : List PlainItem) (at : ℕ) (parent : Kind) (pieces : List PlainItem) (t : Transaction) → Lawful items →
    are_children parent [] pieces ≡ true → insertion items at pieces ≡ Ok t →
    (verdict (edited t items) ≡ None) ⊎ ((n : ℕ) × (verdict (edited t items) ≡ Some (TooDeep n)))

-- The transactions are reduced, apply, and can put back what they remove.
abbrev pub InsertionIsFine : Type 0
InsertionIsFine = (items : List PlainItem) (at : ℕ) (pieces : List PlainItem) (t : Transaction) → insertion items at pieces ≡ Ok t →
    Fine items t

abbrev pub SplitIsFine : Type 0
SplitIsFine = (items : List PlainItem) (at depth : ℕ) (t : Transaction) → split items at depth ≡ Ok t → Fine items t
