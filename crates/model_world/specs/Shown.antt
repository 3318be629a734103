-- Items, references and grids as JSON, and a tree as words.
use Rattle.std.specs.Prelude.{ℕ, Bool, true, false, if◌then◌else◌, List, [], ◌∷◌, ◌++◌, map, codes, decimal, encode_utf8_all, Option, Some, None}
use Rattle.serde_json.specs.Data.{unsigned, Data, null, boolean, number, string, array, object, Items, no_items, item, Members, no_members, put}
use Rattle.ve_kinds.specs.declared.kind.Kind.{Kind}
use Rattle.ve_kinds.specs.declared.kind.Kind.TheVariants.{Root}
use Rattle.ve_base.specs.declared.attrs.Attr.{Attr}
use Rattle.ve_base.specs.declared.marks.Mark.{Mark}
use Rattle.ve_base.specs.declared.head.Key.{Key}
use Rattle.ve_base.specs.declared.head.Key.TheVariants.{Named, Auto}
use Rattle.ve_base.specs.declared.head.RefKey.{RefKey}
use Rattle.ve_base.specs.declared.head.Head.{Head}
use Rattle.model_items.specs.declared.plain_item.PlainItem.{PlainItem}
use Rattle.model_items.specs.declared.plain_item.PlainItem.TheVariants.{Char, Opening, Closing}
use Rattle.model_items.specs.Same.{marks_same}
use Rattle.model_items.specs.Tree.{Forest, Empty, Run, Branch}
use Rattle.model_page.specs.declared.ref_table.RefRow.{RefRow}
use Rattle.model_edit.specs.declared.grid_cell.GridCell.{GridCell}
use Rattle.model_site.specs.declared.patch.Patch.{Patch}
use Rattle.model_world.specs.declared.shown.TreeWord.{TreeWord}
use Rattle.model_world.specs.declared.shown.TreeWord.TheVariants as tree
use Rattle.model_world.specs.Names.{kind_name}

-- ---- lists, texts and numbers

abbrev pub json_items : List Data → Items
json_items [] = no_items
json_items (one ∷ more) = item one (json_items more)

abbrev pub json_list : List Data → Data
json_list values = array (json_items values)

abbrev pub json_text : List ℕ → Data
json_text text = string (encode_utf8_all text)

abbrev pub json_number : ℕ → Data
json_number n = number (unsigned n)

-- ---- attributes, marks and references

abbrev pub attr_shown : Attr → Data
attr_shown a = json_list (json_text a.name ∷ json_text a.value ∷ [])

abbrev pub attrs_shown : List Attr → Data
attrs_shown attrs = json_list (map attr_shown attrs)

abbrev pub mark_shown : Mark → Data
mark_shown m = json_list (json_text m.tag ∷ attrs_shown m.attrs ∷ [])

abbrev pub marks_shown : List Mark → Data
marks_shown marks = json_list (map mark_shown marks)

-- `n:` and the name, or `a:` and the number
abbrev pub key_text : Key → List ℕ
key_text (Named name) = codes "n:" ++ name
key_text (Auto n) = codes "a:" ++ decimal n

abbrev pub key_shown : RefKey → Data
key_shown key = json_list (json_text key.group ∷ json_text (key_text key.key) ∷ [])

-- ---- brackets: each member but the first stands only where it is not empty; members stand in the
-- order of their names

abbrev pub with_text : List ℕ → List ℕ → Members → Members
with_text name [] members = members
with_text name (c ∷ cs) members = put name (json_text (c ∷ cs)) members

abbrev pub with_attrs : List Attr → Members → Members
with_attrs [] members = members
with_attrs (a ∷ attrs) members = put (codes "attrs") (attrs_shown (a ∷ attrs)) members

abbrev pub with_marks : List Mark → Members → Members
with_marks [] members = members
with_marks (m ∷ marks) members = put (codes "marks") (marks_shown (m ∷ marks)) members

abbrev pub with_flag : List ℕ → Bool → Members → Members
with_flag name false members = members
with_flag name true members = put name (boolean true) members

abbrev pub with_origin : Option ℕ → Members → Members
with_origin None members = members
with_origin (Some k) members = put (codes "origin") (json_number k) members

abbrev pub with_reference : Option RefKey → Members → Members
with_reference None members = members
with_reference (Some key) members = put (codes "ref") (key_shown key) members

abbrev pub opening_shown : Kind → Head → List Mark → List ℕ → Option ℕ → Bool → Members
opening_shown kind head marks pre origin generated =
    put (codes "open") (json_text (kind_name kind))
    (with_attrs head.attrs
    (with_flag (codes "gen") generated
    (with_marks marks
    (with_origin origin
    (with_flag (codes "owner") head.owner
    (with_text (codes "pre") pre
    (with_text (codes "raw") head.raw
    (with_reference head.reference
    (with_text (codes "tag") head.tag no_members)))))))))

abbrev pub closing_shown : Kind → List ℕ → Members
closing_shown kind pre = put (codes "close") (json_text (kind_name kind)) (with_text (codes "pre") pre no_members)

-- ---- items

-- a text, with its marks where there are some
abbrev pub run_shown : List Mark → List ℕ → Data
run_shown [] text = json_text text
run_shown (m ∷ marks) text = json_list (json_text text ∷ marks_shown (m ∷ marks) ∷ [])

-- the items from a position on: a run of characters with equal marks and what follows it, or what
-- begins with no character
pub data Shown : Type 0 where
  Together : (marks : List Mark) (text : List ℕ) (later : List Data) → Shown
  Apart : (later : List Data) → Shown

abbrev pub all_shown : Shown → List Data
all_shown (Together marks text later) = run_shown marks text ∷ later
all_shown (Apart later) = later

-- a character joins the run after it where their marks are equal
abbrev pub char_shown : ℕ → List Mark → Shown → Shown
char_shown c marks (Together others text later) =
    if marks_same marks others
    then Together others (c ∷ text) later
    else Together marks (c ∷ []) (run_shown others text ∷ later)
char_shown c marks (Apart later) = Together marks (c ∷ []) later

abbrev pub as_shown : List PlainItem → Shown
as_shown [] = Apart []
as_shown (Char c marks ∷ items) = char_shown c marks (as_shown items)
as_shown (Opening kind head marks pre origin generated ∷ items) =
    Apart (object (opening_shown kind head marks pre origin generated) ∷ all_shown (as_shown items))
as_shown (Closing kind pre ∷ items) = Apart (object (closing_shown kind pre) ∷ all_shown (as_shown items))

abbrev pub items_shown : List PlainItem → Data
items_shown items = json_list (all_shown (as_shown items))

-- ---- patches, references and cells

-- `[position, removed, inserted]`
abbrev pub patch_shown : Patch → Data
patch_shown p = json_list (json_number p.at ∷ json_number p.removed ∷ json_number p.inserted ∷ [])

abbrev pub place_or_null : Option ℕ → Data
place_or_null None = null
place_or_null (Some at) = json_number at

-- `[place, group, key, number, carrier, body]`
abbrev pub row_shown : RefRow → Data
row_shown r =
    json_list
    (json_number r.at
    ∷ json_text r.key.group
    ∷ json_text (key_text r.key.key)
    ∷ json_number r.number
    ∷ boolean r.carrier
    ∷ place_or_null r.body_at
    ∷ [])

-- `[place, row, column, rows, columns]`
abbrev pub cell_shown : GridCell → Data
cell_shown c = json_list (json_number c.at ∷ json_number c.row ∷ json_number c.column ∷ json_number c.rows ∷ json_number c.columns ∷ [])

-- ---- trees

abbrev pub forest_words : Forest → List TreeWord
forest_words Empty = []
forest_words (Run count later) = tree.Run count ∷ forest_words later
forest_words (Branch kind inside later) = tree.Begin kind ∷ (forest_words inside ++ tree.End ∷ forest_words later)

-- the root, and all in it
abbrev pub tree_words : Forest → List TreeWord
tree_words forest = tree.Begin Root ∷ forest_words forest ++ tree.End ∷ []
