-- Which groups may be references, and what their `data-mw` is.
use Rattle.std.specs.Prelude.{◌≡◌, ℕ, ◌+◌, Bool, true, false, not, ◌&&◌, if◌then◌else◌, List, [], ◌∷◌, Option, Some, None, option_map, codes}
use Rattle.std.specs.Borrow.{Bor}
use Rattle.model_spelling.specs.Grammar.{Attr}
use Rattle.model_spelling.specs.Forest.{Forest, Nothing, Text, Remark, Void, RawElement, Element}
use Rattle.model_spelling.specs.ForestNodes.{ForestNode, forest_size}
use Rattle.model_spelling.specs.Written.{decoded}
use Rattle.ve_kinds.specs.declared.kind.Kind.{Kind}
use Rattle.ve_kinds.specs.Tags.{is_one_of}
use Rattle.ve_base.specs.declared.marks.Mark.{Mark}
use Rattle.model_page.specs.DataMw.{RefRead}
use Rattle.model_page.specs.Elements.{value_named, has_type, is_transclusion, is_reference_type}
use Rattle.model_page.specs.Parts.{Parts, Group, parts_of}
use Rattle.model_page.specs.Fit.{Around, Flow, Structural, Content}
use Rattle.model_page.specs.Pieces.{Owner, Progress}
use Rattle.model_page.specs.ReferenceNodes.{RefNode, ref_node, ref_of, reference_in}
use Rattle.ve_html_tree.specs.declared.node.Node.{Node}
use Rattle.ve_classify.specs.Standing.{Stands}

-- `sup` or `span`, of the type of references and of no transclusion
abbrev pub is_citation : List ℕ → List Attr → Bool
is_citation name attrs =
    is_one_of (codes "sup" ∷ codes "span" ∷ []) name && has_type is_reference_type attrs && not (has_type is_transclusion attrs)

-- the `data-mw` of a group that may be a reference: it is one such element
abbrev pub cited_in : Forest → Option (List ℕ)
cited_in (Element name attrs children Nothing) = if is_citation name attrs then value_named (codes "data-mw") attrs else None
cited_in _ = None

-- The answer for the group at a node that ends before another, whatever siblings stand there: its
-- `data-mw` as it stands in the page.
abbrev pub IsCited : List Node → ℕ → ℕ → Option (Bor (List ℕ)) → Type 0
IsCited nodes n end result =
    (f group : Forest) (later : Parts) (at : ℕ) (more : List ForestNode) → Stands nodes n at f more → parts_of f ≡ Group group later
    → end ≡ n + forest_size group → option_map (λ v. decoded v.now) result ≡ cited_in group

-- ---- the law

-- the reference that an element is, where this was read of it
abbrev pub ref_from : Progress → Forest → Option RefRead → Option RefNode
ref_from place (Element name attrs children rest) reading = option_map (ref_node place name attrs children) reading
ref_from place _ reading = None

-- in a page, but not in a structural parent, a group is the reference that its `data-mw` says
abbrev pub ReferencesAreCited : Type 0
ReferencesAreCited =
    (at : ℕ) (owners : List Owner) (kind : Kind) (marks : List Mark) (group : Forest)
    → let place : Progress = record { at = at; owners = owners; editable = true } in
    let reading = ref_from place group (reference_in owners (cited_in group)) in
    (ref_of place (Flow kind) group ≡ reading) × (ref_of place (Content marks) group ≡ reading)
