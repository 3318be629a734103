-- Items as a line writes them: as a reply shows them, with a text for its characters. They have no
-- origin and are not generated, but where they are exact: then each stands for the very item that is
-- shown so, and of a leaf that no tag spells the origin alone counts.
use Rattle.std.specs.Prelude.{ℕ, Bool, true, flat_map, false, not, ◌&&◌, ◌||◌, if◌then◌else◌, List, [], ◌∷◌, codes, Option, Some, None, is_some, option_map, option_and_then}
use Rattle.serde_json.specs.Data.{Data, string, array, object, Members}
use Rattle.serde_json.specs.Find.{as_bool, get_member}
use Rattle.ve_kinds.specs.declared.kind.Kind.{Kind}
use Rattle.ve_kinds.specs.declared.kind.Kind.TheVariants.{P}
use Rattle.ve_kinds.specs.Table.{is_element, is_leaf, is_inline_leaf, is_content_branch, kind_same}
use Rattle.ve_base.specs.declared.attrs.Attr.{Attr}
use Rattle.ve_base.specs.declared.marks.Mark.{Mark}
use Rattle.model_items.specs.declared.plain_item.PlainItem.{PlainItem}
use Rattle.model_items.specs.declared.plain_item.PlainItem.TheVariants.{Opening, Closing}
use Rattle.model_page.specs.Elements.{is_white}
use Rattle.model_page_write.specs.Written.{is_empty}
use Rattle.model_edit.specs.Insert.{text_pieces}
use Rattle.model_world.specs.Values.{◌>>=◌, such_that, some_number_in, text_in, list_in, pair_in, member_or}
use Rattle.model_world.specs.Attributes.{allowed_attrs_in, marks_in, kind_in}

-- ---- brackets

abbrev pub white_in : Data → Option (List ℕ)
white_in json = such_that is_white (text_in json)

-- marks stand on inline leaves alone, and whitespace before everything else
abbrev pub may_open : Kind → List Mark → List ℕ → Bool
may_open kind marks pre = if is_inline_leaf kind then is_empty pre else is_empty marks

-- where an opening comes from
pub record Provenance : Type 0 where
  pub origin : Option ℕ
  pub generated : Bool

abbrev pub opening_with : Kind → List Attr → List Mark → List ℕ → Provenance → Option PlainItem
opening_with kind attrs marks pre provenance =
    if may_open kind marks pre
    then Some (
    Opening
    kind
    (record { tag = []; attrs = attrs; raw = []; reference = None; owner = false })
    marks
    pre
    provenance.origin
    provenance.generated
    )
    else None

-- a paragraph alone is generated, and a leaf that no tag spells has an origin
abbrev pub may_come : Kind → Provenance → Bool
may_come kind provenance = (not provenance.generated || kind_same kind P) && (is_element kind || is_some provenance.origin)

abbrev pub provenance_in : (exact : Bool) → Members → Kind → Option Provenance
provenance_in false _ kind = Some (record { origin = None; generated = false })
provenance_in true members kind = do
  generated ← member_or (codes "gen") false as_bool members
  origin ← member_or (codes "origin") None some_number_in members
  such_that (may_come kind) (Some (record { origin = origin; generated = generated }))

-- the attributes of an element; those of a leaf that no tag spells are not read
abbrev pub opening_attrs_in : (exact : Bool) → Members → Kind → Option (List Attr)
opening_attrs_in exact members kind = if is_element kind then member_or (codes "attrs") [] (allowed_attrs_in exact) members else Some []

-- the members of an opening, of which the kind was read
abbrev pub opening_in : (exact : Bool) → Members → Kind → Option PlainItem
opening_in exact members kind = do
  attrs ← opening_attrs_in exact members kind
  marks ← member_or (codes "marks") [] (marks_in exact) members
  pre ← member_or (codes "pre") [] white_in members
  provenance ← provenance_in exact members kind
  opening_with kind attrs marks pre provenance

-- no whitespace stands before the closing of a leaf or of a content branch
abbrev pub may_close : Kind → List ℕ → Bool
may_close kind pre = is_empty pre || not (is_leaf kind || is_content_branch kind)

abbrev pub closing_in : Members → Kind → Option PlainItem
closing_in members kind = do
  pre ← member_or (codes "pre") [] white_in members
  if may_close kind pre then Some (Closing kind pre) else None

-- an opening where there is a member `open`, else a closing
abbrev pub bracket_in : (exact : Bool) → Members → Option Data → Option Data → Option PlainItem
bracket_in exact members (Some opened) closed = option_and_then (opening_in exact members) (kind_in exact opened)
bracket_in exact members None closed = option_and_then (closing_in members) (option_and_then (kind_in exact) closed)

-- ---- characters

-- `[text, marks]`
abbrev pub marked_text_in : (exact : Bool) → Data → Option (List PlainItem)
marked_text_in exact json = do
  pair ← pair_in json
  text ← text_in pair.0
  marks ← marks_in exact pair.1
  Some (text_pieces marks text)

-- ---- items

-- a text, a text with marks, or a bracket
abbrev pub items_in : (exact : Bool) → Data → Option (List PlainItem)
items_in exact (string bytes) = option_map (text_pieces []) (text_in (string bytes))
items_in exact (array items) = marked_text_in exact (array items)
items_in exact (object members) =
    option_map (λ one. one ∷ []) (bracket_in exact members (get_member (codes "open") members) (get_member (codes "close") members))
items_in exact _ = None

-- one list of all their items
abbrev pub one_list : List (List PlainItem) → List PlainItem
one_list lists = flat_map (λ items. items) lists

abbrev pub all_items_in : (exact : Bool) → Data → Option (List PlainItem)
all_items_in exact json = option_map one_list (list_in (items_in exact) json)
