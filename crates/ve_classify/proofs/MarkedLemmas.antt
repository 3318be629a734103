-- Where annotations stand too deep, from the first part on.
use Rattle.std.proofs.Common.{◌≡◌, ℕ, ◌+◌, Bool, true, false, ◌&&◌, if◌then◌else◌, List, [], ◌++◌, length, Option, Some, None, refl, sym, ap, ◌∙◌, arith}
use Rattle.std.specs.Prelude.{nat_lt}
use Rattle.std.specs.Option.{option_or}
use Rattle.std.proofs.lemmas.List.{length-append}
use Rattle.model_spelling.specs.Grammar.{Attr, Comment, token_text, start_text}
use Rattle.model_spelling.specs.Forest.{Forest, spelling}
use Rattle.model_spelling.proofs.AttrReading.{and_left, and_right}
use Rattle.ve_kinds.specs.declared.kind.Kind.{Kind}
use Rattle.ve_kinds.specs.Tags.{kind_of_tag}
use Rattle.ve_base.specs.Limits.{max_marks}
use Rattle.model_page.specs.Parts.{Parts, Ended, Words, Note, Group, Single, Parent, source_of}
use Rattle.model_page.specs.Fit.{Around, Flow, Content, Fit, Annotation, Leaf, Branch, Whole, fit_of, fit_in_content, has_inline_tags}
use Rattle.model_page.specs.Tags.{is_inline_tag}
use Rattle.model_page.specs.Convert.{marks_at, marked_around, element_source}
use Rattle.model_page.specs.Limits.{marked_at}
use Rattle.ve_classify.specs.FirstPart.{has_part, later_of, first_source}
use Rattle.ve_classify.specs.Runs.{then_parts, is_run}
use Rattle.ve_classify.specs.Marked.{element_marked, first_marked, MarksSplit, RunsMarked}

or_some : (b : Bool) (a later : Option ℕ) (at : ℕ) → (if b then option_or a later else Some at) ≡ option_or (if b then a else Some at) later
or_some true a later at = refl
or_some false a later at = refl

element_splits : (around : Around) (name : List ℕ) (attrs : List Attr) (children : Parts) (at : ℕ) (later : Option ℕ) (f : Fit) →
    (elim f [
      | Annotation ↦
          if nat_lt (length (marks_at around)) max_marks
          then option_or (marked_at (marked_around around name attrs) children (at + length (start_text name attrs false))) later
          else Some at
      | Branch kind ↦ option_or (element_marked around name attrs children at (Branch kind)) later
      | _ ↦ later
    ]) ≡ option_or (element_marked around name attrs children at f) later
element_splits around name attrs children at later Annotation = or_some (nat_lt (length (marks_at around)) max_marks) (marked_at (marked_around around name attrs) children (at + length (start_text name attrs false))) later at
element_splits around name attrs children at later (Branch kind) = refl
element_splits around name attrs children at later (Leaf kind) = refl
element_splits around name attrs children at later (Whole kind) = refl

pub marks_split : MarksSplit
marks_split around Ended at = refl
marks_split around (Words text rest) at = refl
marks_split around (Note text rest) at = refl
marks_split around (Group nodes rest) at = refl
marks_split around (Single name attrs source rest) at = refl
marks_split around (Parent name attrs children rest) at =
    element_splits around name attrs children at (marked_at around rest (at + length (element_source name attrs children))) (fit_of around name children)

-- ---- runs

inline_fit : (kind : Kind) (name : List ℕ) (children : Parts) → is_inline_tag name ≡ true → fit_of (Flow kind) name children ≡ fit_in_content name children (kind_of_tag name)
inline_fit kind name children e = rw e refl

or_assoc : (a b c : Option ℕ) → option_or a (option_or b c) ≡ option_or (option_or a b) c
or_assoc None b c = refl
or_assoc (Some x) b c = refl

same_element : (kind : Kind) (name : List ℕ) (attrs : List Attr) (children : Parts) (at : ℕ) (f : Fit) → element_marked (Flow kind) name attrs children at f ≡ element_marked (Content []) name attrs children at f
same_element kind name attrs children at Annotation = refl
same_element kind name attrs children at (Branch k) = refl
same_element kind name attrs children at (Leaf k) = refl
same_element kind name attrs children at (Whole k) = refl

farther : (around : Around) (parts : Parts) (at : ℕ) (a b : List ℕ) → marked_at around parts (at + length a + length b) ≡ marked_at around parts (at + length (a ++ b))
farther around parts at a b = ap (marked_at around parts) (omega (arith, length-append a b))

pub runs_marked : RunsMarked
runs_marked kind Ended rest at e = ap (marked_at (Flow kind) rest) (omega arith)
runs_marked kind (Note text later) rest at e = absurd cc
runs_marked kind (Words text later) rest at e =
    runs_marked kind later rest (at + length text) e ∙ ap (option_or (marked_at (Content []) later (at + length text))) (farther (Flow kind) rest at text (source_of later))
runs_marked kind (Group nodes later) rest at e =
    runs_marked kind later rest (at + length (spelling nodes)) (and_right (has_inline_tags nodes) (is_run later) e) ∙ ap (option_or (marked_at (Content []) later (at + length (spelling nodes)))) (farther (Flow kind) rest at (spelling nodes) (source_of later))
runs_marked kind (Single name attrs source later) rest at e =
    runs_marked kind later rest (at + length source) (and_right (is_inline_tag name) (is_run later) e) ∙ ap (option_or (marked_at (Content []) later (at + length source))) (farther (Flow kind) rest at source (source_of later))
runs_marked kind (Parent name attrs children later) rest at e =
    let source : List ℕ = element_source name attrs children in
    let end : ℕ = at + length source in
    let f : Fit = fit_in_content name children (kind_of_tag name) in
    let first : Option ℕ = element_marked (Content []) name attrs children at f in
    let here : element_marked (Flow kind) name attrs children at (fit_of (Flow kind) name children) ≡ first =
    ap (element_marked (Flow kind) name attrs children at) (inline_fit kind name children (and_left (is_inline_tag name) (is_run later) e)) ∙ same_element kind name attrs children at f in
    marks_split (Flow kind) (Parent name attrs children (then_parts later rest)) at
    ∙ ap (λ (o : Option ℕ). option_or o (marked_at (Flow kind) (then_parts later rest) end)) here
    ∙ ap (option_or first) (runs_marked kind later rest end (and_right (is_inline_tag name) (is_run later) e) ∙ ap (option_or (marked_at (Content []) later end)) (farther (Flow kind) rest at source (source_of later)))
    ∙ or_assoc first (marked_at (Content []) later end) (marked_at (Flow kind) rest (at + length (source ++ source_of later)))
    ∙ ap (λ (o : Option ℕ). option_or o (marked_at (Flow kind) rest (at + length (source ++ source_of later)))) (sym (marks_split (Content []) (Parent name attrs children later) at))
