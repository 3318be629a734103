-- The items of one node: heads, marks, and leaves. They are those of model_page's conversion, as
-- the laws say.
use Rattle.std.specs.Prelude.{◌≡◌, ℕ, Bool, false, List, [], ◌∷◌, ◌++◌, Option, Some, None, chars, is_some}
use Rattle.model_spelling.specs.Grammar.{Attr as Spelled}
use Rattle.model_spelling.specs.Forest.{Forest, spelling}
use Rattle.ve_base.specs.declared.marks.Mark.{Mark}
use Rattle.ve_base.specs.declared.head.Head.{Head}
use Rattle.ve_base.specs.declared.head.RefKey.{RefKey}
use Rattle.ve_kinds.specs.declared.kind.Kind.{Kind}
use Rattle.model_items.specs.declared.plain_item.PlainItem.{PlainItem}
use Rattle.model_items.specs.declared.plain_item.PlainItem.TheVariants.{Opening, Closing}
use Rattle.model_page.specs.DataMw.{RefRead}
use Rattle.model_page.specs.Fit.{Around, Content}
use Rattle.model_page.specs.Heads.{characters, attrs_of}
use Rattle.model_page.specs.Pieces.{SourceSpan, Progress, leaf, chars_piece, items_after}
use Rattle.model_page.specs.ReferenceNodes.{ref_node, key_of}
use Rattle.model_page.specs.Convert.{marks_at, marked_around}
use Rattle.model_page.specs.PageItems.{with_origins}
use Rattle.ve_reader.specs.Drafted.{Drafted}

-- the mark of an annotation, from its start tag
abbrev pub mark_from : List ℕ → List Spelled → Mark
mark_from name attrs = record { tag = chars name; attrs = attrs_of attrs }

-- the head of a reference, from its start tag, its inner source and its key
abbrev pub head_of_ref : List ℕ → List ℕ → RefKey → Bool → List Spelled → Head
head_of_ref name inner key owner attrs =
    record { tag = chars name; attrs = attrs_of attrs; raw = chars inner; reference = Some key; owner = owner }

-- the opening of a leaf after whitespace, and its closing
abbrev pub leaf_items : Kind → Head → List Mark → List ℕ → Option ℕ → List PlainItem
leaf_items kind head marks white origin = Opening kind head marks white origin false ∷ Closing kind [] ∷ []

-- the characters of a spelled text, with these marks
abbrev pub text_items : List Mark → List ℕ → List PlainItem
text_items marks spelled = (chars_piece marks (characters spelled)).items

-- a draft with these items too
abbrev pub with_items : List PlainItem → Drafted → Drafted
with_items items d = record { items = d.items ++ items; marks = d.marks }

-- ---- laws

-- a leaf is the model's, by itself or behind whitespace
abbrev pub LeavesArePieces : Type 0
LeavesArePieces =
    (kind : Kind) (head : Head) (marks : List Mark) (span : SourceSpan) (white : List ℕ)
    → items_after white (leaf kind head marks span).items ≡ leaf_items kind head marks white None

-- a leaf has its origin as the model numbers it
abbrev pub LeavesAreNumbered : Type 0
LeavesAreNumbered =
    (kind : Kind) (head : Head) (marks : List Mark) (white : List ℕ) (k : ℕ)
    → with_origins k (leaf_items kind head marks white None) ≡ leaf_items kind head marks white (Some k)

-- an annotation puts its mark inside those around
abbrev pub MarksAreAround : Type 0
MarksAreAround =
    (around : Around) (name : List ℕ) (attrs : List Spelled)
    → marked_around around name attrs ≡ Content (marks_at around ++ mark_from name attrs ∷ [])

-- the head of a reference is the model's
abbrev pub HeadsAreReferences : Type 0
HeadsAreReferences =
    (place : Progress) (name : List ℕ) (attrs : List Spelled) (children : Forest) (reading : RefRead)
    → (ref_node place name attrs children reading).head
    ≡ head_of_ref name (spelling children) (key_of place.owners reading) (is_some reading.html) attrs
