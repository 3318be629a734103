-- Laws of moving a list item in and out.
use Rattle.std.specs.Prelude.{◌≡◌, ◌≢◌, ℕ, suc, ◌-◌, Bool, true, if◌then◌else◌, List, filter, slice_get, Some, None, Ok, ◌⊎◌}
use Rattle.ve_kinds.specs.declared.kind.Kind.TheVariants.{Li}
use Rattle.model_items.specs.declared.plain_item.PlainItem.{PlainItem}
use Rattle.model_items.specs.declared.plain_item.PlainItem.TheVariants.{Char, Opening, Closing}
use Rattle.ve_kinds.specs.Table.{is_leaf}
use Rattle.model_items.specs.declared.law_fault.LawFault.TheVariants.{TooDeep}
use Rattle.model_items.specs.Law.{Lawful, verdict}
use Rattle.model_change.specs.Transaction.{Transaction, edited}
use Rattle.model_edit.specs.Brackets.{closing_of, is_closing_of}
use Rattle.model_items.specs.Offsets.{kind_at, partner}
use Rattle.model_edit_law.specs.Fine.{Fine}
use Rattle.model_edit.specs.Lists.{indent, outdent, passes_before}

-- the sibling before the item ends with a list of the item's kind, which it joins
abbrev pub joins_list : List PlainItem → ℕ → Bool
joins_list items at = passes_before (is_closing_of (kind_at items at)) items (at - 1)

-- where the item stands after it was moved deeper
abbrev pub indented_place : List PlainItem → ℕ → ℕ
indented_place items at = if joins_list items at then at - 2 else at

-- no whitespace is lost, and a list that the item joins is not empty
pub record Plain (items : List PlainItem) (at : ℕ) : Type 0 where
  pub before : slice_get items (at - 1) ≡ Some (closing_of Li)
  pub its_own : slice_get items (partner items at) ≡ Some (closing_of Li)
  pub list : joins_list items at ≡ true → slice_get items (at - 2) ≡ Some (closing_of (kind_at items at))
  pub not_empty : joins_list items at ≡ true → suc (partner items (at - 2)) ≢ at - 2

pub record GivesBack (items new : List PlainItem) (at : ℕ) : Type 0 where
  pub back : Transaction
  pub outdented : outdent new at ≡ Ok back
  pub same : edited back new ≡ items

-- An item moved in and out again: the list is as it was.
abbrev pub IndentIsUndone : Type 0
IndentIsUndone = (items : List PlainItem) (at : ℕ) (t : Transaction) → Lawful items → indent items at ≡ Ok t → Plain items at →
    GivesBack items (edited t items) (indented_place items at)

-- characters, and the brackets of leaves
abbrev pub is_character_or_leaf : PlainItem → Bool
is_character_or_leaf (Char c marks) = true
is_character_or_leaf (Opening kind head marks pre origin generated) = is_leaf kind
is_character_or_leaf (Closing kind pre) = is_leaf kind

-- Moving an item deeper keeps characters and leaves in order.
abbrev pub IndentKeepsText : Type 0
IndentKeepsText = (items : List PlainItem) (at : ℕ) (t : Transaction) → Lawful items → indent items at ≡ Ok t →
    filter is_character_or_leaf (edited t items) ≡ filter is_character_or_leaf items

-- It leaves a lawful list lawful, or its nodes are nested over 100 deep.
abbrev pub IndentStaysLawful : Type 0
IndentStaysLawful = (items : List PlainItem) (at : ℕ) (t : Transaction) → Lawful items → indent items at ≡ Ok t →
    (verdict (edited t items) ≡ None) ⊎ ((n : ℕ) × (verdict (edited t items) ≡ Some (TooDeep n)))

-- Moving an item out keeps them too, and leaves a lawful list lawful.
abbrev pub OutdentKeepsText : Type 0
OutdentKeepsText = (items : List PlainItem) (at : ℕ) (t : Transaction) → Lawful items → outdent items at ≡ Ok t →
    filter is_character_or_leaf (edited t items) ≡ filter is_character_or_leaf items

abbrev pub OutdentStaysLawful : Type 0
OutdentStaysLawful = (items : List PlainItem) (at : ℕ) (t : Transaction) → Lawful items → outdent items at ≡ Ok t → Lawful (edited t items)

-- Both are transactions that cannot be written shorter, apply, and can put back what they remove.
abbrev pub IndentIsFine : Type 0
IndentIsFine = (items : List PlainItem) (at : ℕ) (t : Transaction) → Lawful items → indent items at ≡ Ok t → Fine items t

abbrev pub OutdentIsFine : Type 0
OutdentIsFine = (items : List PlainItem) (at : ℕ) (t : Transaction) → Lawful items → outdent items at ≡ Ok t → Fine items t
