-- Items put back as they were shown: a line with `exact` reads them, and what it doesn't say of a
-- leaf that no tag spells comes from the page as it was first read.
use Rattle.std.specs.Prelude.{◌≡◌, ◌<◌, ◌≤◌, ◌+◌, ◌-◌, ℕ, zero, suc, Bool, true, false, not, ◌&&◌, ◌||◌, nat_lt, if◌then◌else◌, List, [], ◌∷◌, ◌++◌, length, map, take, drop, slice_get, codes, Option, Some, None, Ok}
use Rattle.std.specs.List.{AllByRecursion}
use Rattle.serde_json.specs.Data.{Data, no_members, object, put}
use Rattle.ve_base.specs.Limits.{max_items}
use Rattle.ve_kinds.specs.declared.kind.Kind.{Kind}
use Rattle.ve_kinds.specs.declared.kind.Kind.TheVariants.{Root, InternalList, InternalItem}
use Rattle.ve_kinds.specs.Table.{is_element, kind_same}
use Rattle.ve_base.specs.declared.head.Head.{Head}
use Rattle.model_items.specs.declared.plain_item.PlainItem.{PlainItem}
use Rattle.model_items.specs.declared.plain_item.PlainItem.TheVariants.{Char, Opening, Closing}
use Rattle.model_items.specs.Same.{head_same}
use Rattle.model_page.specs.PageItems.{Opened}
use Rattle.model_site.specs.Session.{Member, Session}
use Rattle.model_site_law.specs.ItemLaws.{AllPass}
use Rattle.model_world.specs.World.{Closed, Open, world_after}
use Rattle.model_change.specs.Transaction.{Transaction, edited}
use Rattle.model_world.specs.declared.edit_command.OpWords.{OpWords}
use Rattle.model_world.specs.declared.edit_command.EditCommand.TheVariants.{Apply}
use Rattle.model_world.specs.Attributes.{are_allowed}
use Rattle.model_world.specs.Completed.{completed, read_for}
use Rattle.model_world.specs.Edits.{change_of}
use Rattle.model_world.specs.ItemWords.{all_items_in, may_close, may_come, may_open}
use Rattle.model_world.specs.Operations.{ops_in}
use Rattle.model_world.specs.Shown.{items_shown, json_list, json_number}
use Rattle.model_world_law.specs.ShownLaws.{AreAttrs, AreMarks, IsText, IsWhite, plain_head}

-- a kind that a line can write
abbrev pub is_outer : Kind → Bool
is_outer kind = not (kind_same kind Root || kind_same kind InternalList || kind_same kind InternalItem)

-- an element's head has attributes and nothing else, and none that says that it is kept whole
pub record IsElementHead (head : Head) : Type 0 where
  pub plain : head ≡ plain_head head.attrs
  pub attrs : AreAttrs head.attrs
  pub allowed : are_allowed true head.attrs ≡ true

abbrev pub IsOrigin : Option ℕ → Type 0
IsOrigin None = Unit {0}
IsOrigin (Some n) = nat_lt n 4294967296 ≡ true

-- an item that a line can put back: any but brackets of the internal list and its items
abbrev pub CanPutBack : PlainItem → Type 0
CanPutBack (Char c marks) = IsText (c ∷ []) × AreMarks true marks
CanPutBack (Opening kind head marks pre origin generated) =
    (is_outer kind ≡ true) × (is_element kind ≡ true → IsElementHead head) × AreMarks true marks × IsWhite pre × (may_open kind marks pre ≡ true)
    × IsOrigin origin × (may_come kind (record { origin = origin; generated = generated }) ≡ true)
CanPutBack (Closing kind pre) = (is_outer kind ≡ true) × IsWhite pre × (may_close kind pre ≡ true)

-- a leaf that no tag spells, without its head
abbrev pub without_head : PlainItem → PlainItem
without_head (Opening kind head marks pre origin generated) = Opening kind (if is_element kind then head else plain_head []) marks pre origin generated
without_head (Char c marks) = Char c marks
without_head (Closing kind pre) = Closing kind pre

-- Shown and read back, they are the same items, but for the heads of these leaves.
abbrev pub ExactIsRead : Type 0
ExactIsRead = (items : List PlainItem) → AllByRecursion CanPutBack items → all_items_in true (items_shown items) ≡ Some (map without_head items)

-- The page has an opening of this kind for the origin; of a leaf that no tag spells it has this head.
abbrev pub is_as_read : Kind → Head → Option (Kind × Head) → Bool
is_as_read kind head None = false
is_as_read kind head (Some first) = kind_same kind first.0 && (is_element kind || head_same head first.1)

-- so it is of an opening with an origin
abbrev pub has_first : (opened : List PlainItem) → PlainItem → Bool
has_first opened (Opening kind head marks pre (Some origin) generated) = is_as_read kind head (read_for origin opened)
has_first opened (Opening kind head marks pre None generated) = true
has_first opened (Char c marks) = true
has_first opened (Closing kind pre) = true

-- Whatever the lines, it is so of each item of each site's list.
abbrev pub OriginsStay : Type 0
OriginsStay = (lines : List (List ℕ)) (page : Opened) (w : Session) (k : ℕ) (m : Member) → world_after Closed lines ≡ Open page w → slice_get w.members k ≡ Some m →
    AllPass (has_first page.items) m.site.replica.items

-- ---- the change

-- `{"retain":n}`, unless it is nothing
abbrev pub retained_shown : ℕ → List Data
retained_shown zero = []
retained_shown (suc n) = object (put (codes "retain") (json_number (suc n)) no_members) ∷ []

-- Operations of a line: after so many items some go, and what a reply shows of the range comes.
abbrev pub put_shown : (range : List PlainItem) (at count rest : ℕ) → Data
put_shown range at count rest =
    let replaced = object (put (codes "remove") (json_number count) (put (codes "insert") (items_shown range) no_members)) in
    json_list (retained_shown at ++ (replaced ∷ retained_shown rest))

-- A line with `exact` reads them, and the change makes the list this one.
pub record IsPut (opened items range : List PlainItem) (at count : ℕ) (result : List PlainItem) : Type 0 where
  pub ops : List OpWords
  pub reads : ops_in true (put_shown range at count (length items - (at + count))) ≡ Some ops
  pub t : Transaction
  pub gives : change_of items (completed opened (Apply ops)) ≡ Ok t
  pub list : edited t items ≡ result

-- So it is wherever items are put of which each can be put back, and each opening with an origin is
-- the page's.
abbrev pub PutBackStays : Type 0
PutBackStays = (opened items range : List PlainItem) (at count : ℕ) → length items ≤ max_items → at + count ≤ length items → 0 < count + length range →
    AllByRecursion CanPutBack range → AllPass (has_first opened) range → IsPut opened items range at count (take at items ++ (range ++ drop (at + count) items))
