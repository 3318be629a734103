-- Where the nodes of a page that was just opened come from, and where they stand in its list.
use Rattle.std.specs.Prelude.{◌≡◌, ℕ, ◌+◌, ◌-◌, ◌<◌, ◌≤◌, Bool, List, ◌∷◌, ◌++◌, length, take, drop, Some, All, IsUtf8, IsCharBoundary}
use Rattle.ve_kinds.specs.declared.kind.Kind.{Kind}
use Rattle.ve_base.specs.declared.marks.Mark.{Mark}
use Rattle.ve_base.specs.declared.head.Head.{Head}
use Rattle.model_items.specs.declared.plain_item.PlainItem.{PlainItem}
use Rattle.model_items.specs.declared.plain_item.PlainItem.TheVariants.{Opening, Closing}
use Rattle.model_page.specs.References.{inside_from}
use Rattle.model_page.specs.Pieces.{SourceSpan}
use Rattle.model_page.specs.PageItems.{Opened, opened_page}
use Rattle.model_page_write.specs.Nodes.{carried_items}
use Rattle.model_page_write.specs.PageText.{node_with}

-- ---- in the page

-- A range of a page that is cut between characters.
pub record IsWholeChars (page : List ℕ) (s : SourceSpan) : Type 0 where
  pub rises : s.from ≤ s.to
  pub first : IsCharBoundary page s.from
  pub last : IsCharBoundary page s.to

-- A part of a body: a range within it of one or more whole characters.
pub record IsPart (page : List ℕ) (body s : SourceSpan) : Type 0 where
  pub cut : IsWholeChars page s
  pub some : s.from < s.to
  pub from : body.from ≤ s.from
  pub to : s.to ≤ body.to

-- The body of an opened page is cut between characters,
abbrev pub BodyIsCut : Type 0
BodyIsCut = (page : List ℕ) (o : Opened) → IsUtf8 page → opened_page page ≡ Some o → IsWholeChars o.page o.body

-- and each origin has its part of the body.
abbrev pub SpansAreParts : Type 0
SpansAreParts = (page : List ℕ) (o : Opened) → IsUtf8 page → opened_page page ≡ Some o → All (IsPart o.page o.body) o.spans

-- ---- in the list

-- The node of the origin k in a list: it begins with its opening, at the position `from`, and ends
-- with the closing of that opening, before the position `to`.
pub record NodeAt (items : List PlainItem) (k from to : ℕ) : Type 0 where
  pub before : List PlainItem
  pub kind : Kind
  pub head : Head
  pub marks : List Mark
  pub pre : List ℕ
  pub generated : Bool
  pub inside : List PlainItem
  pub white : List ℕ
  pub after : List PlainItem
  pub items_are : items ≡ before ++ (Opening kind head marks pre (Some k) generated ∷ inside ++ Closing kind white ∷ after)
  pub closes : inside_from 0 (inside ++ Closing kind white ∷ after) ≡ (inside, white)
  pub from_is : from ≡ length before
  pub to_is : to ≡ from + length inside + 2

-- The node of each origin stands in the list of the opened page, at a range of its positions.
abbrev pub OriginsStand : Type 0
OriginsStand =
    (page : List ℕ) (o : Opened) → opened_page page ≡ Some o → (k : ℕ) → k < length o.spans →
    (from : ℕ) × (to : ℕ) × (to ≤ length o.items) × NodeAt o.items k from to

-- So what a node of the origin k is compared with, where it may be kept, are the items at that
-- range, with what they carry.
abbrev pub RangesAreCompared : Type 0
RangesAreCompared = (page : List ℕ) (o : Opened) → opened_page page ≡ Some o → (k from to : ℕ) → NodeAt o.items k from to →
    node_with k (carried_items o.items) ≡ take (to - from) (drop from (carried_items o.items))
