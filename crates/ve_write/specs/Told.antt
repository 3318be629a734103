-- A writer that is told the texts of bodies and the bytes that nodes were, and the text that
-- writing appends.
use Rattle.std.specs.Prelude.{◌≡◌, ℕ, Bool, List, ◌++◌, nat_eq, encode_utf8_all, Option, None, option_map}
use Rattle.indexmap.specs.IndexMap.{IndexMap, get}
use Rattle.ve_base.specs.declared.marks.Mark.{Mark}
use Rattle.ve_base.specs.declared.value.Value.{Value}
use Rattle.model_items.specs.declared.item.Item.{Item}
use Rattle.model_items.specs.declared.plain_item.PlainItem.{PlainItem}
use Rattle.model_page.specs.References.{Body}
use Rattle.model_page_write.specs.Nodes.{NodesEnding, Nodes, Empty, Letter, Node, body_carried, first_outer, node_items}
use Rattle.model_page_write.specs.PageText.{html_of}
use Rattle.model_page_write.specs.Written.{Writer, blocks, content, is_bare, original_of, white_after}
use Rattle.ve_write.specs.Siblings.{View, ending_at}
use Rattle.ve_write.specs.declared.first_page.Page.{Page}
use Rattle.ve_origin.specs.declared.known.Known.{Known as Compared}
use Rattle.ve_write.specs.Originals.{original_in, originals_of, read_of, AreLent, IsBefore, IsKnownFor}

-- the text that is known for a position
abbrev pub text_of : {S : Type 0} → IndexMap ℕ (List ℕ) S → ℕ → Option (List ℕ)
text_of texts at = option_map encode_utf8_all (get nat_eq texts at)

-- These are the texts of the bodies that the references of the list carry, by the positions of the
-- references.
abbrev pub AreBodyTexts : List PlainItem → (ℕ → Option (List ℕ)) → Type 0
AreBodyTexts items texts = (at : ℕ) → option_map html_of (body_carried items at) ≡ texts at

-- The knowledge of a writer. It has the bytes that the nodes at each position were, where they are
-- kept, and the texts of the bodies that the references at each position carry.
pub record Known : Type 0 where
  pub values : List Value
  pub items : List Item
  pub originals : ℕ → Option (List ℕ)
  pub texts : ℕ → Option (List ℕ)

abbrev pub known_of : Page → Known
known_of page = record {
  values = page.store.now;
  items = page.list.now.items;
  originals = originals_of (read_of page.first) page.store.now page.list.now.items;
  texts = text_of page.texts.now;
}

-- Where the page that was first read is borrowed, it stands over the list and its values.
abbrev pub LendsFirst : Page → Type 0
LendsFirst page = AreLent page.store.now page.list.now.items page.refs.now page.first

-- Where it is borrowed, the internal list opens at this position or after it.
abbrev pub StandsBefore : Page → ℕ → Type 0
StandsBefore page at = IsBefore page.store.now page.list.now.items page.first at

-- Where it is lent, this is known of its list and the one that is written.
abbrev pub IsKnownOf : Page → Compared → Type 0
IsKnownOf page known = IsKnownFor page.list.now.items page.refs.now page.first known

abbrev pub view_of : Known → (ℕ → Option Body) → View
view_of k bodies = record { values = k.values; bodies = bodies }

-- The writer copies and writes what is known.
pub record Told (k : Known) (w : Writer) (bodies : ℕ → Option Body) : Type 0 where
  pub original : (at : ℕ) → original_in w (ending_at (view_of k bodies) k.items at).here ≡ k.originals at
  pub known : (at : ℕ) → option_map w.html (bodies at) ≡ k.texts at

-- the text of the content from a position on, where these marks are open
abbrev pub content_at : Writer → View → List Item → List Mark → ℕ → List ℕ
content_at w v items opened at = content w opened (ending_at v items at).here

-- the text of the blocks from a position on: whether the sibling before them is bare
abbrev pub blocks_at : Writer → View → List Item → Bool → ℕ → List ℕ
blocks_at w v items before at = blocks w before (first_outer (ending_at v items at).outer).pre (ending_at v items at).here

-- Such a text is appended, for every writer that is told this.
abbrev pub IsAppended : Known → List ℕ → List ℕ → (Writer → View → List ℕ) → Type 0
IsAppended k old new text = (w : Writer) (bodies : ℕ → Option Body) → Told k w bodies → new ≡ old ++ text w (view_of k bodies)

-- ---- private functions

-- Where `text` was still to be written, `rest` is.
abbrev pub GoesOn : Known → List ℕ → List ℕ → (Writer → View → List ℕ) → (Writer → View → List ℕ) → Type 0
GoesOn k old new text rest =
    (w : Writer) (bodies : ℕ → Option Body) → Told k w bodies → new ++ rest w (view_of k bodies) ≡ old ++ text w (view_of k bodies)

-- the bytes in the place of the text of the node that comes first, by a writer
abbrev pub copied_in : Writer → Bool → List ℕ → Nodes → Option (List ℕ)
copied_in w before closing Empty = None
copied_in w before closing (Letter c marks later) = None
copied_in w before closing (Node s inside pre later) = original_of w (is_bare before s inside (white_after later closing)) s (node_items s inside pre)

abbrev pub copied_first : Writer → Bool → NodesEnding → Option (List ℕ)
copied_first w before e = copied_in w before (first_outer e.outer).pre e.here

-- The block at a position is written afresh.
abbrev pub IsAfresh : Known → Bool → ℕ → Type 0
IsAfresh k before at =
    (w : Writer) (bodies : ℕ → Option Body) → Told k w bodies → copied_first w before (ending_at (view_of k bodies) k.items at) ≡ None
