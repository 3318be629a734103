-- The text of a range of a list, by itself.
use Rattle.std.specs.Prelude.{ℕ, false, List, [], slice_range}
use Rattle.model_items.specs.declared.plain_item.PlainItem.{PlainItem}
use Rattle.model_page_write.specs.Nodes.{carried_items, carried_nodes}
use Rattle.model_page_write.specs.PageText.{fresh_writer}
use Rattle.model_page_write.specs.Written.{blocks}

-- The nodes from one position up to another, fresh, as if nothing stood beside them: the whitespace
-- before the item after them is no part of it. Each reference has the body that it carries in the
-- list.
abbrev pub fresh_range : List PlainItem → ℕ → ℕ → List ℕ
fresh_range items from to = blocks fresh_writer false [] (carried_nodes (slice_range (carried_items items) from to))
