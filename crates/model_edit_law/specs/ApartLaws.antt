-- No opening has two attributes of one name: what edits insert keeps this.
use Rattle.std.specs.Prelude.{◌≡◌, ℕ, List, [], ◌∷◌, ◌++◌, length, Option, Ok}
use Rattle.std.specs.List.{AllByRecursion}
use Rattle.ve_kinds.specs.declared.kind.Kind.{Kind}
use Rattle.ve_base.specs.declared.marks.Mark.{Mark}
use Rattle.ve_base.specs.Names.{NamesApart}
use Rattle.model_items.specs.declared.plain_item.PlainItem.{PlainItem}
use Rattle.model_change.specs.Attributes.{AllNamesApart}
use Rattle.model_change.specs.Transaction.{Transaction, all_inserted, edited, InsertedApart}
use Rattle.model_edit.specs.Edits.{Edit, Change, Set, InOrder, MaySet, transaction_of, substituted}
use Rattle.model_edit.specs.Insert.{insertion, text_insertion, plain_text_insertion, split}
use Rattle.model_edit.specs.Remove.{removal}
use Rattle.model_edit.specs.Marking.{marking, unmarking}
use Rattle.model_edit.specs.declared.wrap_plan.Shape.{Shape}
use Rattle.model_edit.specs.declared.wrap_plan.WrapPlan.{WrapPlan}
use Rattle.model_edit.specs.Wrap.{wrap}
use Rattle.model_edit.specs.Convert.{convert, attribute}
use Rattle.model_edit.specs.Lists.{indent, outdent}
use Rattle.model_edit.specs.Tables.{row_in, col_in, row_out, col_out}
use Rattle.model_edit_law.specs.Fine.{Fine}

-- the pieces that edits insert, one after the other
abbrev pub inserted_pieces : List Edit → List PlainItem
inserted_pieces [] = []
inserted_pieces (Change place count inserted ∷ edits) = inserted ++ inserted_pieces edits
inserted_pieces (Set place name to ∷ edits) = inserted_pieces edits

-- The one transaction of edits inserts just that.
abbrev pub EditsInsertPieces : Type 0
EditsInsertPieces = (items : List PlainItem) (edits : List Edit) → all_inserted (transaction_of items edits) ≡ inserted_pieces edits

-- Where the pieces have names apart, so has what the transaction inserts.
abbrev pub EditsAreApart : Type 0
EditsAreApart = (items : List PlainItem) (edits : List Edit) → AllNamesApart (inserted_pieces edits) → InsertedApart (transaction_of items edits)

-- Edits in order then leave names of the list apart.
abbrev pub EditsStayApart : Type 0
EditsStayApart = (items : List PlainItem) (edits : List Edit) → InOrder 0 (length items) edits → MaySet 0 items edits →
    AllNamesApart items → AllNamesApart (inserted_pieces edits) → AllNamesApart (substituted items edits)

-- So does each edit, which is fine: it inserts names apart, by the laws below.
abbrev pub FineStaysApart : Type 0
FineStaysApart = (items : List PlainItem) (t : Transaction) → Fine items t → AllNamesApart items → InsertedApart t →
    AllNamesApart (edited t items)

-- Insertion and split open copies of the list's openings. What is inserted has names apart where
-- they have, and the pieces.
abbrev pub InsertionIsApart : Type 0
InsertionIsApart = (items : List PlainItem) (at : ℕ) (pieces : List PlainItem) (t : Transaction) → AllNamesApart items →
    AllNamesApart pieces → insertion items at pieces ≡ Ok t → InsertedApart t

abbrev pub SplitIsApart : Type 0
SplitIsApart = (items : List PlainItem) (at depth : ℕ) (t : Transaction) → AllNamesApart items → split items at depth ≡ Ok t →
    InsertedApart t

-- Characters have no attributes.
abbrev pub TypingIsApart : Type 0
TypingIsApart = (items : List PlainItem) (at : ℕ) (text : List ℕ) (t : Transaction) → AllNamesApart items →
    text_insertion items at text ≡ Ok t → InsertedApart t

abbrev pub PlainTypingIsApart : Type 0
PlainTypingIsApart = (items : List PlainItem) (at : ℕ) (text : List ℕ) (t : Transaction) → AllNamesApart items →
    plain_text_insertion items at text ≡ Ok t → InsertedApart t

-- A removal inserts closings alone.
abbrev pub RemovalIsApart : Type 0
RemovalIsApart = (items : List PlainItem) (from to : ℕ) (t : Transaction) → removal items from to ≡ Ok t → InsertedApart t

-- Items with other marks, and an opening with another kind, keep their attributes.
abbrev pub MarkingIsApart : Type 0
MarkingIsApart = (items : List PlainItem) (from to : ℕ) (m : Mark) (t : Transaction) → AllNamesApart items →
    marking items from to m ≡ Ok t → InsertedApart t

abbrev pub UnmarkingIsApart : Type 0
UnmarkingIsApart = (items : List PlainItem) (from to : ℕ) (m : Mark) (t : Transaction) → AllNamesApart items →
    unmarking items from to m ≡ Ok t → InsertedApart t

abbrev pub ConvertIsApart : Type 0
ConvertIsApart = (items : List PlainItem) (at : ℕ) (kind : Kind) (t : Transaction) → AllNamesApart items → convert items at kind ≡ Ok t →
    InsertedApart t

-- Setting an attribute inserts nothing.
abbrev pub AttributeIsApart : Type 0
AttributeIsApart = (items : List PlainItem) (at : ℕ) (name : List ℕ) (to : Option (List ℕ)) (t : Transaction) →
    attribute items at name to ≡ Ok t → InsertedApart t

-- no node of a plan has two attributes of one name
abbrev pub ShapesApart : List Shape → Type 0
ShapesApart shapes = AllByRecursion (λ (s : Shape). NamesApart s.attrs) shapes

abbrev pub PlanApart : WrapPlan → Type 0
PlanApart plan = ShapesApart plan.wrap_outer × ShapesApart plan.wrap_each

-- A wrap inserts the openings that its plan gives.
abbrev pub WrapIsApart : Type 0
WrapIsApart = (items : List PlainItem) (from to : ℕ) (plan : WrapPlan) (t : Transaction) → PlanApart plan →
    wrap items from to plan ≡ Ok t → InsertedApart t

-- A list that an item begins by moving deeper has no attributes, and one that is continued after an
-- item moved out is a copy.
abbrev pub IndentIsApart : Type 0
IndentIsApart = (items : List PlainItem) (at : ℕ) (t : Transaction) → indent items at ≡ Ok t → InsertedApart t

abbrev pub OutdentIsApart : Type 0
OutdentIsApart = (items : List PlainItem) (at : ℕ) (t : Transaction) → AllNamesApart items → outdent items at ≡ Ok t → InsertedApart t

-- New rows and cells have no attributes.
abbrev pub RowInIsApart : Type 0
RowInIsApart = (items : List PlainItem) (at row : ℕ) (t : Transaction) → row_in items at row ≡ Ok t → InsertedApart t

abbrev pub ColInIsApart : Type 0
ColInIsApart = (items : List PlainItem) (at column : ℕ) (t : Transaction) → col_in items at column ≡ Ok t → InsertedApart t

-- A row or a column taken out inserts nothing.
abbrev pub RowOutIsApart : Type 0
RowOutIsApart = (items : List PlainItem) (at row : ℕ) (t : Transaction) → row_out items at row ≡ Ok t → InsertedApart t

abbrev pub ColOutIsApart : Type 0
ColOutIsApart = (items : List PlainItem) (at column : ℕ) (t : Transaction) → col_out items at column ≡ Ok t → InsertedApart t
