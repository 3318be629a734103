-- The borrowed parts of the page that was first read, and the answers about it.
use Rattle.std.specs.Prelude.{◌≡◌, ◌≤◌, ◌<◌, ℕ, ◌-◌, Bool, false, List, map, take, slice_get, Option, Some, None, All, IsCharBoundary}
use Rattle.std.specs.List.{list_any}
use Rattle.ve_base.specs.declared.value.Value.{Value}
use Rattle.model_items.specs.declared.item.Item.{Item}
use Rattle.model_items.specs.Plain.{plain_list, AreDistinct, CitesWell}
use Rattle.model_page.specs.declared.ref_table.RefRow.{RefRow}
use Rattle.model_page.specs.Pieces.{SourceSpan}
use Rattle.model_page.specs.References.{table}
use Rattle.model_page_write.specs.Nodes.{carried_items}
use Rattle.model_page_write.specs.PageText.{is_kept}
use Rattle.ve_html_scan.specs.declared.token.Span.{Span}
use Rattle.ve_origin.specs.Kept.{node_at, opens_notes, IsNodeRange}
use Rattle.ve_origin.specs.declared.origin.OriginRow.{OriginRow}

abbrev pub source_span : Span → SourceSpan
source_span s = record { from = s.from; to = s.to }

-- the spans of the origins
abbrev pub spans : List OriginRow → List SourceSpan
spans rows = map (λ (r : OriginRow). source_span r.span) rows

-- how many items the node of a row had
abbrev pub items_had : Option OriginRow → ℕ
items_had None = 0
items_had (Some row) = row.to - row.from

-- The page that was first read: its text, where its body stands, a row for each origin, the items
-- of its list, and the table of their references.
pub record FirstRead : Type 0 where
  pub page : List ℕ
  pub body : Span
  pub rows : List OriginRow
  pub items : List Item
  pub refs : List RefRow

abbrev pub first_read : List ℕ → Span → List OriginRow → List Item → List RefRow → FirstRead
first_read page body rows items refs = record { page = page; body = body; rows = rows; items = items; refs = refs }

-- whole characters of a page
pub record IsCut (page : List ℕ) (s : Span) : Type 0 where
  pub rises : s.from ≤ s.to
  pub first : IsCharBoundary page s.from
  pub last : IsCharBoundary page s.to

-- a row has whole characters of the page, and one or more items of so many
pub record IsRow (page : List ℕ) (count : ℕ) (row : OriginRow) : Type 0 where
  pub span : IsCut page row.span
  pub some : row.from < row.to
  pub within : row.to ≤ count

abbrev pub AreRows : List ℕ → ℕ → List OriginRow → Type 0
AreRows page count rows = (k : ℕ) (row : OriginRow) → slice_get rows k ≡ Some row → IsRow page count row

-- The answer of `kept` for the node at a position, whatever distinct values both lists cite.
abbrev pub Keeps : FirstRead → ℕ → List Item → ℕ → List RefRow → Bool → Type 0
Keeps o k now from refs kept =
    (values : List Value) (row : OriginRow) → AreDistinct values → All (CitesWell values) o.items → All (CitesWell values) now →
    slice_get o.rows k ≡ Some row → IsNodeRange (plain_list values o.items) k row.from row.to → o.refs ≡ table (plain_list values o.items) →
    list_any opens_notes (take from (plain_list values now)) ≡ false → refs ≡ table (plain_list values now) →
    kept ≡ is_kept (carried_items (plain_list values o.items)) k (node_at (carried_items (plain_list values now)) from)
