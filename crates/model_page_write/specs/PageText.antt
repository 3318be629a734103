-- The page that a list of items gives, after the page that was first read: fresh text, and the
-- bytes of what is kept.
use Rattle.std.specs.Prelude.{ℕ, zero, suc, ◌==◌, Bool, false, ◌&&◌, if◌then◌else◌, List, [], ◌∷◌, ◌++◌, take, drop, Option, Some, None, slice_get, encode_utf8_all}
use Rattle.model_items.specs.declared.plain_item.PlainItem.{PlainItem}
use Rattle.model_items.specs.declared.plain_item.PlainItem.TheVariants.{Char, Opening, Closing}
use Rattle.model_items.specs.Same.{list_same, option_same, item_same}
use Rattle.model_page.specs.References.{Body}
use Rattle.model_page.specs.Pieces.{SourceSpan}
use Rattle.model_page.specs.PageItems.{Opened, slice}
use Rattle.model_page_write.specs.Nodes.{Carried, carried_items, carrying_nothing, carried_nodes}
use Rattle.model_page_write.specs.Written.{Writer, blocks}

-- ---- fresh text

-- no original bytes, and no bodies
abbrev pub bare_writer : Writer
bare_writer = record { original = λ start items. None; html = λ body. [] }

-- the text of a body: its items fresh, and the whitespace before the closing of its internal item
abbrev pub html_of : Body → List ℕ
html_of b = blocks bare_writer false b.pre (carried_nodes (carrying_nothing b.items)) ++ encode_utf8_all b.pre

-- no original bytes
abbrev pub fresh_writer : Writer
fresh_writer = record { original = λ start items. None; html = html_of }

-- the text of all items, without the prefix and the suffix of a page
abbrev pub fresh : List PlainItem → List ℕ
fresh items = blocks fresh_writer false [] (carried_nodes (carried_items items))

-- ---- what is kept

abbrev pub has_origin : ℕ → PlainItem → Bool
has_origin k (Opening kind head marks pre origin generated) = option_same (λ m n. m == n) origin (Some k)
has_origin k (Closing kind pre) = false
has_origin k (Char c marks) = false

-- up to the closing of the node that is open, where so many more are open in it
abbrev pub up_to_closing : ℕ → PlainItem → (ℕ → List Carried) → List Carried
up_to_closing depth (Char c marks) rest = rest depth
up_to_closing depth (Opening kind head marks pre origin generated) rest = rest (suc depth)
up_to_closing zero (Closing kind pre) rest = []
up_to_closing (suc depth) (Closing kind pre) rest = rest depth

abbrev pub node_from : List Carried → ℕ → List Carried
node_from [] depth = []
node_from (c ∷ cs) depth = c ∷ up_to_closing depth c.item (node_from cs)

-- the items of the node of an origin
abbrev pub node_with : ℕ → List Carried → List Carried
node_with k [] = []
node_with k (c ∷ cs) = if has_origin k c.item then c ∷ node_from cs 0 else node_with k cs

abbrev pub item_without_pre : PlainItem → PlainItem
item_without_pre (Opening kind head marks pre origin generated) = Opening kind head marks [] origin generated
item_without_pre (Closing kind pre) = Closing kind pre
item_without_pre (Char c marks) = Char c marks

-- without the whitespace before the node
abbrev pub without_pre : List Carried → List Carried
without_pre [] = []
without_pre (c ∷ cs) = record { item = item_without_pre c.item; body = c.body } ∷ cs

-- a reference carries the same items
abbrev pub body_same : Body → Body → Bool
body_same a b = list_same item_same a.items b.items

abbrev pub carried_same : Carried → Carried → Bool
carried_same a b = item_same a.item b.item && option_same body_same a.body b.body

-- the items of a node are those that were first read for the origin k
abbrev pub is_kept : List Carried → ℕ → List Carried → Bool
is_kept first k items = list_same carried_same (without_pre items) (without_pre (node_with k first))

abbrev pub part_at : List ℕ → Option SourceSpan → List ℕ
part_at page None = []
part_at page (Some s) = slice page s.from s.to

abbrev pub original_at : Opened → List Carried → Option ℕ → List Carried → Option (List ℕ)
original_at o first None items = None
original_at o first (Some k) items = if is_kept first k items then Some (part_at o.page (slice_get o.spans k)) else None

-- ---- the page

abbrev pub page_writer : Opened → Writer
page_writer o =
    let first = carried_items o.items in
    record { original = λ start items. original_at o first start.origin items; html = html_of }

-- the prefix before the body, the items and the suffix after the body: a node with an origin has
-- its original bytes where it is kept
abbrev pub write : Opened → List PlainItem → List ℕ
write o items =
    take o.body.from o.page ++ blocks (page_writer o) false [] (carried_nodes (carried_items items)) ++ drop o.body.to o.page
