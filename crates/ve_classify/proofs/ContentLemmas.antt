-- Content from the first part on, with references.
use Rattle.std.proofs.Common.{◌≡◌, ℕ, Bool, true, false, List, [], ◌∷◌, ◌++◌, Option, Some, None, refl, ap, ◌∙◌, subst}
use Rattle.model_spelling.specs.Grammar.{Attr, Comment, token_text}
use Rattle.model_spelling.specs.Forest.{Forest, spelling}
use Rattle.ve_base.specs.declared.marks.Mark.{Mark}
use Rattle.ve_kinds.specs.Table.{is_inline_leaf}
use Rattle.ve_kinds.specs.declared.kind.Kind.TheVariants.{Ref}
use Rattle.ve_kinds.specs.Tags.{kind_of_tag}
use Rattle.model_page.specs.Parts.{Parts, Ended, Words, Note, Group, Single, Parent}
use Rattle.model_page.specs.Fit.{Around, Content, Fit, Annotation, Leaf, Branch, Whole, fit_in_content, whole_kind, is_generated, note_kind}
use Rattle.model_page.specs.Heads.{characters, head_with, whole_head}
use Rattle.model_page.specs.Pieces.{Piece, Owner, Made, Progress, past, source_span, leaf, chars_piece, in_run}
use Rattle.model_page.specs.ReferenceNodes.{RefNode, ref_of}
use Rattle.model_page.specs.Convert.{marked_around, element_source, inside_of, leaf_made, group_made, element_made, made_of}
use Rattle.ve_classify.specs.FirstPart.{has_part, later_of, first_source}
use Rattle.ve_classify.specs.Siblings.{first_made, IsInline, ContentSplits}
use Rattle.ve_classify.proofs.RunLemmas.{leaf_inline, fit_inline, content_inline, single_inline}

-- The part of this source in content, whatever follows it.
record Inline (source : List ℕ) (w : Progress) (made : (Progress → Made) → Made) : Type 0 where
  piece : Piece
  owners : List Owner
  is : (later : Progress → Made) → made later ≡ in_run piece source owners (later (past w source owners))

leaf_is : (marks : List Mark) (attrs : List Attr) (source : List ℕ) (w : Progress) (f : Fit) → leaf_inline f ≡ true →
    Inline source w (λ later. leaf_made (Content marks) attrs source later w f)
leaf_is marks attrs source w Annotation e = absurd cc
leaf_is marks attrs source w (Branch k) e = absurd cc
leaf_is marks attrs source w (Leaf k) e = record { piece = leaf k (head_with attrs) marks (source_span w source); owners = []; is = λ later. rw e refl }
leaf_is marks attrs source w (Whole k) e = record { piece = leaf k (whole_head source) marks (source_span w source); owners = []; is = λ later. rw e refl }

element_is : (marks : List Mark) (name : List ℕ) (attrs : List Attr) (source : List ℕ) (children : Around → Progress → Made) (w : Progress) (f : Fit) → fit_inline f ≡ true →
    Inline source w (λ later. element_made (Content marks) name attrs source children later w f)
element_is marks name attrs source children w Annotation e =
    let inside = children (marked_around (Content marks) name attrs) (inside_of w name attrs) in
    record { piece = inside.run; owners = inside.owners; is = λ later. refl }
element_is marks name attrs source children w (Branch k) e = absurd cc
element_is marks name attrs source children w (Leaf k) e = leaf_is marks attrs source w (Leaf k) e
element_is marks name attrs source children w (Whole k) e = leaf_is marks attrs source w (Whole k) e

whole_leaf : (generated : Bool) → is_inline_leaf (whole_kind generated true) ≡ true
whole_leaf true = refl
whole_leaf false = refl

group_is : (marks : List Mark) (nodes : Forest) (w : Progress) (r : Option RefNode) → Inline (spelling nodes) w (λ later. group_made (Content marks) nodes later w r)
group_is marks nodes w (Some r) = record { piece = leaf Ref r.head marks (source_span w (spelling nodes)); owners = r.owners; is = λ later. refl }
group_is marks nodes w None = record {
  piece = leaf (whole_kind (is_generated nodes) true) (whole_head (spelling nodes)) marks (source_span w (spelling nodes));
  owners = [];
  is = λ later. rw (whole_leaf (is_generated nodes)) refl;
}

first_is : (marks : List Mark) (parts : Parts) (w : Progress) → has_part parts ≡ true → Inline (first_source parts) w (λ later. first_made (Content marks) parts later w)
first_is marks Ended w e = absurd cc
first_is marks (Words text rest) w e = record { piece = chars_piece marks (characters text); owners = []; is = λ later. refl }
first_is marks (Note text rest) w e = leaf_is marks [] (token_text (Comment text)) w (Whole (note_kind (Content marks))) refl
first_is marks (Group nodes rest) w e = group_is marks nodes w (ref_of w (Content marks) nodes)
first_is marks (Single name attrs source rest) w e = leaf_is marks attrs source w (fit_in_content name Ended (kind_of_tag name)) (single_inline name (kind_of_tag name))
first_is marks (Parent name attrs children rest) w e =
    element_is marks name attrs (element_source name attrs children) (λ a. made_of a children) w (fit_in_content name children (kind_of_tag name)) (content_inline name children (kind_of_tag name))

unfolds : (marks : List Mark) (parts : Parts) (w : Progress) → has_part parts ≡ true → made_of (Content marks) parts w ≡ first_made (Content marks) parts (made_of (Content marks) (later_of parts)) w
unfolds marks Ended w e = absurd cc
unfolds marks (Words text rest) w e = refl
unfolds marks (Note text rest) w e = refl
unfolds marks (Group nodes rest) w e = refl
unfolds marks (Single name attrs source rest) w e = refl
unfolds marks (Parent name attrs children rest) w e = refl

pub content_splits : ContentSplits
content_splits = λ marks parts w e.
    let p = first_is marks parts w e in
    (record { piece = p.piece; owners = p.owners; is = p.is }, unfolds marks parts w e ∙ p.is (made_of (Content marks) (later_of parts)))
