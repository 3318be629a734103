-- The form of lists that reading back speaks of, told of their nodes.
use Rattle.std.specs.Prelude.{◌≡◌, ℕ, true, false, ◌||◌, List, [], map}
use Rattle.std.specs.Char.{IsScalar}
use Rattle.model_spelling.specs.Forest.{Forest, spelling, is_forest}
use Rattle.ve_kinds.specs.declared.kind.Kind.{Kind}
use Rattle.ve_kinds.specs.declared.kind.Kind.TheVariants.{Root, Br, Img, InternalList}
use Rattle.ve_kinds.specs.Table.{kind_same, may_hold, is_content_branch, is_element, is_leaf}
use Rattle.ve_base.specs.declared.marks.Mark.{Mark}
use Rattle.ve_base.specs.Empty.{empty_head}
use Rattle.model_items.specs.declared.plain_item.PlainItem.{PlainItem}
use Rattle.model_items.specs.Same.{mark_same}
use Rattle.model_page.specs.Elements.{is_white}
use Rattle.model_page.specs.PageItems.{items_of_page as items_read, page_made}
use Rattle.model_page_write.specs.Nodes.{Start, Nodes, Empty, Letter, Node, node_list_items, carried_items}
use Rattle.model_page_write.specs.PageText.{fresh}
use Rattle.model_page_law.specs.Formed.{ArePlainMarks, IsHead}
use Rattle.model_page_law.specs.ReadBack.{without_origin}

-- an inline leaf br or img
pub record IsLeaf (s : Start) (inside : Nodes) (pre : List ℕ) : Type 0 where
  pub kind : (kind_same s.kind Br || kind_same s.kind Img) ≡ true
  pub head : IsHead s.head
  pub alone : inside ≡ Empty
  pub before : s.pre ≡ []
  pub closing : pre ≡ []

abbrev pub IsContent : Nodes → Type 0
IsContent Empty = Unit {0}
IsContent (Letter c marks later) = IsScalar c × ArePlainMarks marks × IsContent later
IsContent (Node s inside pre later) = IsLeaf s inside pre × ArePlainMarks s.marks × IsContent later

-- a branch that the parent may hold
pub record IsBranch (parent : Kind) (s : Start) : Type 0 where
  pub held : may_hold parent s.kind ≡ true
  pub element : is_element s.kind ≡ true
  pub branch : is_leaf s.kind ≡ false
  pub head : IsHead s.head
  pub marks : s.marks ≡ []
  pub before : is_white s.pre ≡ true

-- the nodes of a flow or structural parent
abbrev pub AreBlocks : Kind → Nodes → Type 0
AreBlocks parent Empty = Unit {0}
AreBlocks parent (Letter c marks later) = ⊥
AreBlocks parent (Node s inside pre later) =
    IsBranch parent s
    × (is_content_branch s.kind ≡ true → IsContent inside × (pre ≡ []))
    × (is_content_branch s.kind ≡ false → AreBlocks s.kind inside × (is_white pre ≡ true))
    × AreBlocks parent later

-- an empty internal list
pub record IsList (s : Start) : Type 0 where
  pub kind : s.kind ≡ InternalList
  pub head : s.head ≡ empty_head
  pub marks : s.marks ≡ []
  pub before : is_white s.pre ≡ true

-- these nodes, and then the internal list
abbrev pub with_list : Nodes → Start → Nodes
with_list Empty list = Node list Empty [] Empty
with_list (Letter c marks later) list = Letter c marks (with_list later list)
with_list (Node s inside pre later) list = Node s inside pre (with_list later list)

-- the list's items are those of such nodes
pub record IsSuch (items : List PlainItem) : Type 0 where
  pub nodes : Nodes
  pub list : Start
  pub are : carried_items items ≡ node_list_items (with_list nodes list)
  pub blocks : AreBlocks Root nodes
  pub last : IsList list

-- the test of marks means equality
abbrev pub MarksMean : Type 0
MarksMean = (m n : Mark) → mark_same m n ≡ true → m ≡ n

abbrev pub IsReadBack : Type 0
IsReadBack = (items : List PlainItem) → IsSuch items →
    (f : Forest) (at : ℕ) → is_forest 200 f ≡ true → spelling f ≡ fresh items → map without_origin (items_read (page_made at f)) ≡ map without_origin items
