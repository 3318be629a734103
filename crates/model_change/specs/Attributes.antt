-- The change of one attribute of an opening: what it does to the attributes, where it is allowed,
-- and what is needed to undo it.
use Rattle.std.specs.Prelude.{◌≡◌, ℕ, suc, Bool, true, false, not, ◌&&◌, ◌||◌, if◌then◌else◌, List, [], ◌∷◌, ◌++◌, take, drop, codes, Option, Some, None, is_some}
use Rattle.ve_base.specs.declared.attrs.Attr.{Attr}
use Rattle.ve_base.specs.Names.{NamesApart}
use Rattle.ve_kinds.specs.Table.{is_element}
use Rattle.model_items.specs.declared.plain_item.PlainItem.{PlainItem}
use Rattle.model_items.specs.declared.plain_item.PlainItem.TheVariants.{Char, Opening, Closing}
use Rattle.model_items.specs.Same.{text_same, option_same, bool_same}

-- `from` is the value before and `to` the value after, `None` where the attribute is absent. An
-- attribute that is added is put at the position `kept`, or at the end.
pub record AttrChange : Type 0 where
  pub name : List ℕ
  pub from : Option (List ℕ)
  pub to : Option (List ℕ)
  pub kept : Option ℕ

-- the value of the first attribute of this name
abbrev pub value_of : List ℕ → List Attr → Option (List ℕ)
value_of name [] = None
value_of name (a ∷ attrs) = if text_same a.name name then Some a.value else value_of name attrs

-- how many attributes stand before the first of this name
abbrev pub position_of : List ℕ → List Attr → ℕ
position_of name [] = 0
position_of name (a ∷ attrs) = if text_same a.name name then 0 else suc (position_of name attrs)

-- at a position, which counts as the end where it is past the end
abbrev pub attr_added : Option ℕ → Attr → List Attr → List Attr
attr_added None a attrs = attrs ++ a ∷ []
attr_added (Some at) a attrs = take at attrs ++ a ∷ drop at attrs

-- the first attribute of this name with another value
abbrev pub attr_replaced : List ℕ → List ℕ → List Attr → List Attr
attr_replaced name value [] = []
attr_replaced name value (a ∷ attrs) =
    if text_same a.name name then record { name = a.name; value = value } ∷ attrs else a ∷ attr_replaced name value attrs

-- without the first attribute of this name
abbrev pub attr_removed : List ℕ → List Attr → List Attr
attr_removed name [] = []
attr_removed name (a ∷ attrs) = if text_same a.name name then attrs else a ∷ attr_removed name attrs

abbrev pub attrs_changed : List ℕ → Option ℕ → Option (List ℕ) → Option (List ℕ) → List Attr → List Attr
attrs_changed name kept None None attrs = attrs
attrs_changed name kept None (Some value) attrs = attr_added kept (record { name = name; value = value }) attrs
attrs_changed name kept (Some old) (Some value) attrs = attr_replaced name value attrs
attrs_changed name kept (Some old) None attrs = attr_removed name attrs

-- an item after the change: of an opening the attributes change, and nothing else
abbrev pub item_changed : AttrChange → PlainItem → PlainItem
item_changed c (Opening kind head marks pre origin generated) =
    Opening
    kind
    (record {
      tag = head.tag;
      attrs = attrs_changed c.name c.kept c.from c.to head.attrs;
      raw = head.raw;
      reference = head.reference;
      owner = head.owner;
    })
    marks
    pre
    origin
    generated
item_changed c (Char ch marks) = Char ch marks
item_changed c (Closing kind pre) = Closing kind pre

-- names that say what a node is, and are not set like others
abbrev pub is_reserved : List ℕ → Bool
is_reserved name = text_same name (codes "about") || text_same name (codes "typeof")

-- the change may be made: the item is the opening of an element kind, where the attribute has the
-- old value, and its name is not reserved
abbrev pub allows : AttrChange → PlainItem → Bool
allows c (Opening kind head marks pre origin generated) =
    is_element kind && (option_same text_same (value_of c.name head.attrs) c.from && not (is_reserved c.name))
allows c (Char ch marks) = false
allows c (Closing kind pre) = false

-- an attribute comes or goes, so that others move
abbrev pub adds_or_removes : AttrChange → Bool
adds_or_removes c = not (bool_same (is_some c.from) (is_some c.to))

-- two changes of one item that depend on their order: of one name, or each adds or removes an
-- attribute
abbrev pub clash : AttrChange → AttrChange → Bool
clash c d = text_same c.name d.name || (adds_or_removes c && adds_or_removes d)

-- where the attribute of this name stands in an item
abbrev pub position_in : List ℕ → PlainItem → Option ℕ
position_in name (Opening kind head marks pre origin generated) = Some (position_of name head.attrs)
position_in name (Char ch marks) = None
position_in name (Closing kind pre) = None

-- the position to keep: that of the attribute, where it is removed
abbrev pub position_kept : Option (List ℕ) → Option (List ℕ) → List ℕ → Option ℕ → PlainItem → Option ℕ
position_kept (Some old) None name kept item = position_in name item
position_kept (Some old) (Some value) name kept item = kept
position_kept None to name kept item = kept

-- the change with the position of what it removes
abbrev pub change_filled : AttrChange → PlainItem → AttrChange
change_filled c item = record { name = c.name; from = c.from; to = c.to; kept = position_kept c.from c.to c.name c.kept item }

-- the inverse of the change
abbrev pub change_back : AttrChange → AttrChange
change_back c = record { name = c.name; from = c.to; to = c.from; kept = c.kept }

-- putting back what the change removes, at its kept position or at the end, gives the attributes
-- again
abbrev pub IsPutBack : List ℕ → Option ℕ → Option (List ℕ) → Option (List ℕ) → List Attr → Type 0
IsPutBack name kept (Some old) None attrs = attr_added kept (record { name = name; value = old }) (attr_removed name attrs) ≡ attrs
IsPutBack name kept (Some old) (Some value) attrs = Unit {0}
IsPutBack name kept None to attrs = Unit {0}

abbrev pub PutsBack : AttrChange → PlainItem → Type 0
PutsBack c (Opening kind head marks pre origin generated) = IsPutBack c.name c.kept c.from c.to head.attrs
PutsBack c (Char ch marks) = Unit {0}
PutsBack c (Closing kind pre) = Unit {0}

-- no two attributes of the item's head have one name
abbrev pub NamesApartIn : PlainItem → Type 0
NamesApartIn (Opening kind head marks pre origin generated) = NamesApart head.attrs
NamesApartIn (Char ch marks) = Unit {0}
NamesApartIn (Closing kind pre) = Unit {0}

-- of every item
abbrev pub AllNamesApart : List PlainItem → Type 0
AllNamesApart [] = Unit {0}
AllNamesApart (item ∷ items) = NamesApartIn item × AllNamesApart items

-- Where names are apart, a change that is allowed is undone by the change back, which is allowed
-- then, if what it removes is put back.
pub record IsChangedBack (c : AttrChange) (item : PlainItem) : Type 0 where
  pub undone : item_changed (change_back c) (item_changed c item) ≡ item
  pub allowed : allows (change_back c) (item_changed c item) ≡ true
  pub put_back : PutsBack (change_back c) (item_changed c item)
  pub apart : NamesApartIn (item_changed c item)

abbrev pub ChangeIsUndone : Type 0
ChangeIsUndone = (c : AttrChange) (item : PlainItem) → allows c item ≡ true → PutsBack c item → NamesApartIn item → IsChangedBack c item

-- A change that keeps the position of what it removes does the same, and puts it back.
abbrev pub FilledPutsBack : Type 0
FilledPutsBack = (c : AttrChange) (item : PlainItem) → allows c item ≡ true →
    (item_changed (change_filled c item) item ≡ item_changed c item) × PutsBack (change_filled c item) item

-- Two changes that don't clash may be made in either order.
abbrev pub ChangesCommute : Type 0
ChangesCommute = (c d : AttrChange) (item : PlainItem) → clash c d ≡ false →
    (item_changed d (item_changed c item) ≡ item_changed c (item_changed d item)) × (allows d (item_changed c item) ≡ allows d item)
