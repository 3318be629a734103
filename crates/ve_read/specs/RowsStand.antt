-- Where the rows of a page that was read stand: what a writer of the page asks of them.
use Rattle.std.specs.Prelude.{◌≡◌, ℕ, List, length, slice_get, Some, IsUtf8}
use Rattle.model_items.specs.Plain.{plain_list}
use Rattle.model_page_law.specs.Origins.{origins_of, counted_from}
use Rattle.ve_origin.specs.declared.origin.OriginRow.{OriginRow}
use Rattle.ve_origin.specs.Kept.{IsNodeRange}
use Rattle.ve_origin.specs.Origins.{AreRows, IsCut}
use Rattle.ve_read.specs.declared.pages.PageRead.{PageRead}
use Rattle.ve_read.specs.Pages.{HasPlaces, IsReadPage}

-- The body is cut between characters. Each row has whole characters of the page, and is the range
-- of its node, before the internal list. The origins of the list are the numbers of the rows, each
-- once and in order.
pub record RowsStand (text : List ℕ) (p : PageRead) : Type 0 where
  pub cut : IsCut text p.body
  pub are_rows : AreRows text (length p.list.items) p.rows
  pub ranges : (k : ℕ) (row : OriginRow) → slice_get p.rows k ≡ Some row → IsNodeRange (plain_list p.values p.list.items) k row.from row.to
  pub numbered : origins_of (plain_list p.values p.list.items) ≡ counted_from 0 (length p.rows)

-- So they stand in every page that was read, where its text is UTF-8.
abbrev pub RowsStandLaw : Type 0
RowsStandLaw = (text : List ℕ) (p : PageRead) → IsUtf8 text → IsReadPage text p → HasPlaces p → RowsStand text p
