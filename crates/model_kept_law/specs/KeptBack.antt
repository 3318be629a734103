-- A page that is written with nodes kept in it, by the bytes that they had, is read back as the
-- list that it was written from. That it opens where a forest spells its body is `WrittenOpens` of
-- model_page_law.
use Rattle.std.specs.Prelude.{◌≡◌, false, List, ℕ, map, Some}
use Rattle.ve_kinds.specs.declared.kind.Kind.TheVariants.{Root}
use Rattle.model_items.specs.declared.plain_item.PlainItem.{PlainItem}
use Rattle.model_items.specs.Law.{Lawful}
use Rattle.model_page.specs.PageItems.{Opened, opened_page}
use Rattle.model_page_write.specs.Nodes.{carried_nodes, carried_items}
use Rattle.model_page_write.specs.PageText.{page_writer, write}
use Rattle.model_page_law.specs.Formed.{AreFormed}
use Rattle.model_page_law.specs.ReadBack.{without_origin}
use Rattle.model_kept_law.specs.Readable.{has_references, AreReadable}

-- A lawful list of the form, of which any nodes are kept, at any depth. Where the page that it
-- gives opens, the opened page has the items of the list, up to origins and the flag generated.
abbrev pub KeptIsReadBack : Type 0
KeptIsReadBack = (page : List ℕ) (o again : Opened) (items : List PlainItem) → opened_page page ≡ Some o → Lawful items → AreFormed items →
    opened_page (write o items) ≡ Some again → map without_origin again.items ≡ map without_origin items

-- The same of lists in which leaves are kept whole, if no element of the first page is of the type
-- of references.
abbrev pub ReadableIsReadBack : Type 0
ReadableIsReadBack = (page : List ℕ) (o again : Opened) (items : List PlainItem) → opened_page page ≡ Some o → has_references o ≡ false → Lawful items →
    AreReadable (page_writer o) Root (carried_nodes (carried_items items)) →
    opened_page (write o items) ≡ Some again → map without_origin again.items ≡ map without_origin items
