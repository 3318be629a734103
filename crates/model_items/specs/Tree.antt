-- The tree that a list of items spells, the node round an offset, and the offset's class.
use Rattle.std.specs.Prelude.{◌≡◌, ℕ, zero, suc, ◌+◌, ◌<◌, Bool, true, false, if◌then◌else◌, List, [], ◌∷◌, ◌++◌, length, take, drop, replicate, map}
use Rattle.ve_kinds.specs.declared.kind.Kind.{Kind}
use Rattle.ve_kinds.specs.declared.kind.Kind.TheVariants.{Root}
use Rattle.ve_base.specs.declared.value.Value.{Value}
use Rattle.model_items.specs.declared.item.Item.{Item}
use Rattle.model_items.specs.declared.plain_item.PlainItem.{PlainItem}
use Rattle.model_items.specs.declared.plain_item.PlainItem.TheVariants.{Char, Opening, Closing}
use Rattle.ve_kinds.specs.Table.{is_content_branch, is_leaf}
use Rattle.model_items.specs.Plain.{plain_list}
use Rattle.model_items.specs.Law.{Lawful}
use Rattle.model_items.specs.declared.offset_class.OffsetClass.{OffsetClass}
use Rattle.model_items.specs.declared.offset_class.OffsetClass.TheVariants.{Content, Structural, Inside}

-- sibling nodes in order, each with those inside it
pub data Forest : Type 0 where
  Empty : Forest
  -- a run of characters, and the nodes after it
  Run : (count : ℕ) (later : Forest) → Forest
  -- a node of a kind, with the nodes inside it, and those after it
  Branch : (kind : Kind) (inside later : Forest) → Forest

-- one more character before
abbrev pub with_char : Forest → Forest
with_char (Run count later) = Run (suc count) later
with_char Empty = Run 1 Empty
with_char (Branch kind inside later) = Run 1 (Branch kind inside later)

-- The reading of the items from a position to the list's end. First come the siblings that they
-- begin with; then, from the inside out, those that follow each node which they close.
pub record Reading : Type 0 where
  pub here : Forest
  pub outer : List Forest

abbrev pub first_forest : List Forest → Forest
first_forest [] = Empty
first_forest (f ∷ outer) = f

abbrev pub reading_with : PlainItem → Reading → Reading
reading_with (Char c marks) r = record { here = with_char r.here; outer = r.outer }
reading_with (Closing kind pre) r = record { here = Empty; outer = r.here ∷ r.outer }
reading_with (Opening kind head marks pre origin generated) r =
    record { here = Branch kind r.here (first_forest r.outer); outer = drop 1 r.outer }

abbrev pub reading : List PlainItem → Reading
reading [] = record { here = Empty; outer = [] }
reading (item ∷ items) = reading_with item (reading items)

-- The children of the root, which is over all. The list is read from its end, one item at a time.
abbrev pub tree_of : List PlainItem → Forest
tree_of items = (reading items).here

-- how many nodes stand in it
abbrev pub node_count : Forest → ℕ
node_count Empty = 0
node_count (Run count later) = 1 + node_count later
node_count (Branch kind inside later) = 1 + (node_count inside + node_count later)

-- how many nodes the tree of a list has, the root counted
abbrev pub number_of_nodes : List PlainItem → ℕ
number_of_nodes items = suc (node_count (tree_of items))

-- how many items the nodes take
abbrev pub item_count : Forest → ℕ
item_count Empty = 0
item_count (Run count later) = count + item_count later
item_count (Branch kind inside later) = item_count inside + 2 + item_count later

-- an open node: its kind and the position of its opening
pub record Open : Type 0 where
  pub kind : Kind
  pub from : ℕ

abbrev pub opens_with : PlainItem → ℕ → List Open → List Open
opens_with (Char c marks) at opens = opens
opens_with (Opening kind head marks pre origin generated) at opens = record { kind = kind; from = at } ∷ opens
opens_with (Closing kind pre) at opens = drop 1 opens

-- the nodes that are open after the items, innermost first; the first item's position is `at`
abbrev pub opens_after : List Open → ℕ → List PlainItem → List Open
opens_after opens at [] = opens
opens_after opens at (item ∷ items) = opens_after (opens_with item at opens) (suc at) items

-- how many items up to and with the closing of the depth-th open node, 0 for the innermost
abbrev pub length_to_close : ℕ → List PlainItem → ℕ
length_to_close depth [] = 0
length_to_close depth (Char c marks ∷ items) = suc (length_to_close depth items)
length_to_close depth (Opening kind head marks pre origin generated ∷ items) = suc (length_to_close (suc depth) items)
length_to_close zero (Closing kind pre ∷ items) = 1
length_to_close (suc depth) (Closing kind pre ∷ items) = suc (length_to_close depth items)

-- a node's kind and the positions where it begins and ends
pub record NodeExtent : Type 0 where
  pub kind : Kind
  pub from : ℕ
  pub to : ℕ

abbrev pub place_with : List Open → ℕ → List PlainItem → NodeExtent
place_with [] at rest = record { kind = Root; from = 0; to = at + length rest }
place_with (inner ∷ outer) at rest = record { kind = inner.kind; from = inner.from; to = at + length_to_close 0 rest }

-- the innermost node round an offset, text nodes aside: its opening stands before the offset, its
-- closing at the offset or after it
abbrev pub node_at : List PlainItem → ℕ → NodeExtent
node_at items at = place_with (opens_after [] 0 (take at items)) at (drop at items)

-- characters may stand in a content branch, and nothing in a leaf
abbrev pub class_in : Kind → OffsetClass
class_in k = if is_content_branch k then Content else (if is_leaf k then Inside else Structural)

abbrev pub class_at : List PlainItem → ℕ → OffsetClass
class_at items at = class_in (node_at items at).kind

-- the shape of an item: all that the tree reads of it
pub data Shape : Type 0 where
  Letter : Shape
  Begin : (kind : Kind) → Shape
  End : (kind : Kind) → Shape

abbrev pub shape_of : PlainItem → Shape
shape_of (Char c marks) = Letter
shape_of (Opening kind head marks pre origin generated) = Begin kind
shape_of (Closing kind pre) = End kind

-- the forest written out
abbrev pub shapes : Forest → List Shape
shapes Empty = []
shapes (Run count later) = replicate count Letter ++ shapes later
shapes (Branch kind inside later) = Begin kind ∷ (shapes inside ++ End kind ∷ shapes later)

-- The tree of a lawful list, written out, is the list.
abbrev pub TreeSpells : Type 0
TreeSpells = (items : List PlainItem) → Lawful items → shapes (tree_of items) ≡ map shape_of items

abbrev pub begins_with_run : Forest → Bool
begins_with_run (Run count later) = true
begins_with_run _ = false

-- each run is as long as can be: none is empty, and none stands just before another
abbrev pub HasWholeRuns : Forest → Type 0
HasWholeRuns Empty = Unit {0}
HasWholeRuns (Run count later) = (0 < count) × (begins_with_run later ≡ false) × HasWholeRuns later
HasWholeRuns (Branch kind inside later) = HasWholeRuns inside × HasWholeRuns later

abbrev pub TreeHasWholeRuns : Type 0
TreeHasWholeRuns = (items : List PlainItem) → HasWholeRuns (tree_of items)

-- It is the only such forest that, written out, is the list.
abbrev pub TreeIsOnly : Type 0
TreeIsOnly = (items : List PlainItem) (f : Forest) → HasWholeRuns f → shapes f ≡ map shape_of items → f ≡ tree_of items

-- The tree reads no values.
abbrev pub TreeReadsNoValues : Type 0
TreeReadsNoValues = (values others : List Value) (items : List Item) → tree_of (plain_list values items) ≡ tree_of (plain_list others items)
