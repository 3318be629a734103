-- The items of a fragment that is inserted: its forest becomes children of the innermost open kind
-- that it fits. No item has an origin, none is generated, and no reference is editable.
use Rattle.std.specs.Prelude.{ℕ, Bool, true, false, not, ◌&&◌, ◌||◌, if◌then◌else◌, List, [], ◌∷◌, ◌++◌, map, chars, Some, None}
use Rattle.model_spelling.specs.Forest.{Forest}
use Rattle.ve_kinds.specs.declared.kind.Kind.{Kind}
use Rattle.ve_kinds.specs.declared.kind.Kind.TheVariants.{Root, P}
use Rattle.model_items.specs.declared.plain_item.PlainItem.{PlainItem}
use Rattle.model_items.specs.declared.plain_item.PlainItem.TheVariants.{Char, Opening, Closing}
use Rattle.ve_kinds.specs.Table.{is_content_branch, is_flow, may_hold}
use Rattle.model_page.specs.Elements.{is_white}
use Rattle.model_page.specs.Parts.{Parts, Ended, Words, Note, Group, Single, Parent, parts_of, source_of}
use Rattle.ve_kinds.specs.Tags.{kind_of_tag}
use Rattle.model_page.specs.Tags.{is_inline_tag}
use Rattle.model_page.specs.Fit.{around_in, has_inline_tags}
use Rattle.ve_base.specs.Empty.{empty_head}
use Rattle.model_page.specs.Pieces.{Made, Progress}
use Rattle.model_page.specs.Convert.{made_of, inside_piece}

-- all are texts, comments or inline-tag elements
abbrev pub fits_content : Parts → Bool
fits_content Ended = true
fits_content (Words text later) = fits_content later
fits_content (Note text later) = fits_content later
fits_content (Group nodes later) = has_inline_tags nodes && fits_content later
fits_content (Single name attrs source later) = is_inline_tag name && fits_content later
fits_content (Parent name attrs children later) = is_inline_tag name && fits_content later

abbrev pub may_hold_tag : Kind → List ℕ → Bool
may_hold_tag k name = elim (kind_of_tag name) [ Some kind ↦ may_hold k kind | None ↦ false ]

-- all are whitespace texts, comments, or elements that are not held and whose kind k may hold
abbrev pub fits_structural : Kind → Parts → Bool
fits_structural k Ended = true
fits_structural k (Words text later) = is_white text && fits_structural k later
fits_structural k (Note text later) = fits_structural k later
fits_structural k (Group nodes later) = false
fits_structural k (Single name attrs source later) = may_hold_tag k name && fits_structural k later
fits_structural k (Parent name attrs children later) = may_hold_tag k name && fits_structural k later

-- a flow kind always fits
abbrev pub fits_in : Parts → Kind → Bool
fits_in parts k =
    if is_content_branch k then fits_content parts
    else (is_flow k || (fits_structural k parts && not (is_white (source_of parts))))

-- the innermost open kind that fits, the root last
abbrev pub context_of : Parts → List Kind → Kind
context_of parts [] = Root
context_of parts (k ∷ outer) = if fits_in parts k then k else context_of parts outer

-- not generated
abbrev pub item_unmade : PlainItem → PlainItem
item_unmade (Opening kind head marks pre origin generated) = Opening kind head marks pre origin false
item_unmade (Closing kind pre) = Closing kind pre
item_unmade (Char c marks) = Char c marks

-- the conversion of the parts as children of k
abbrev pub pieces_in : Kind → Parts → Made
pieces_in k parts =
    let w : Progress = record { at = 0; owners = []; editable = false } in
    inside_piece (around_in k) w (made_of (around_in k) parts w)

-- the items of a fragment where these kinds are open, innermost first; whitespace alone is a
-- paragraph where blocks may stand
abbrev pub fragment_items : List Kind → Forest → List PlainItem
fragment_items stack forest =
    let parts = parts_of forest in
    let k = context_of parts stack in
    if is_flow k && is_white (source_of parts)
    then Opening P empty_head [] [] None false ∷ map (λ c. Char c []) (chars (source_of parts)) ++ Closing P [] ∷ []
    else map item_unmade (pieces_in k parts).later.items
