-- The three classes of an offset of a list. They read no value that an item cites.
use Rattle.std.specs.Prelude.{◌≡◌, ℕ, suc, if◌then◌else◌, Some, List, slice_get}
use Rattle.ve_kinds.specs.Table.{is_inline_leaf}
use Rattle.model_items.specs.declared.item.Item.{Item}
use Rattle.model_items.specs.declared.item.Item.TheVariants.{Char, Opening, Closing}
use Rattle.model_items.specs.declared.offset_class.OffsetClass.{OffsetClass}
use Rattle.model_items.specs.declared.offset_class.OffsetClass.TheVariants.{Content, Structural, Inside}
use Rattle.model_items.specs.Law.{Lawful}
use Rattle.model_items.specs.Tree.{class_in, class_at}
use Rattle.ve_tree.specs.IsTree.{unvalued}

-- the innermost node round it is a content branch
abbrev pub IsContent : List Item → ℕ → Type 0
IsContent items o = class_at (unvalued items) o ≡ Content

-- it is a leaf
abbrev pub IsInsideLeaf : List Item → ℕ → Type 0
IsInsideLeaf items o = class_at (unvalued items) o ≡ Inside

-- it is anything else, or the root
abbrev pub IsStructural : List Item → ℕ → Type 0
IsStructural items o = class_at (unvalued items) o ≡ Structural

-- the class of the offset after an item: after a closing it lies in what holds the closed node, and
-- content branches hold inline leaves alone
abbrev pub class_after : Item → OffsetClass
class_after (Char ch marks) = Content
class_after (Opening kind generated head marks pre origin) = class_in kind
class_after (Closing kind pre) = if is_inline_leaf kind then Content else Structural

-- In a lawful list the item before an offset decides its class.
abbrev pub ItemDecidesClass : Type 0
ItemDecidesClass =
    (items : List Item) (m : ℕ) (x : Item) → Lawful (unvalued items) → slice_get items m ≡ Some x →
    class_at (unvalued items) (suc m) ≡ class_after x
