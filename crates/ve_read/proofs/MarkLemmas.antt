-- The inside of an annotation is read inside of its mark.
use Rattle.std.proofs.Common.{◌≡◌, ℕ, ◌+◌, ◌<◌, Bool, true, false, if◌then◌else◌, List, length, Option, Some, None, refl, sym, ap, ◌∙◌, append-nil, arith}
use Rattle.std.specs.Prelude.{IfSome, option_map, nat_lt}
use Rattle.std.specs.Option.{option_or}
use Rattle.model_spelling.specs.Grammar.{Attr, start_text}
use Rattle.ve_base.specs.Limits.{max_marks}
use Rattle.model_page.specs.Parts.{Parts, Ended, Parent, source_of}
use Rattle.model_page.specs.Fit.{Content, Annotation, fit_of}
use Rattle.model_page.specs.Pieces.{Made, Owner, Progress, past, in_run}
use Rattle.model_page.specs.Convert.{made_of, element_made, element_source, marked_around}
use Rattle.model_page.specs.Limits.{Limit, TooManyMarks, limit_at, earlier, marked_at}
use Rattle.ve_reader.specs.Leaves.{mark_from}
use Rattle.ve_classify.specs.Marked.{element_marked}
use Rattle.ve_reader.specs.ReadSoFar.{ReadSoFar, is_page, place_in, with_piece, with_mark}
use Rattle.ve_reader.specs.Stops.{deep_in}
use Rattle.ve_reader.proofs.JoinLemmas.{marks_are_left}
use Rattle.ve_read.specs.Content.{content_made}
use Rattle.ve_read.specs.ContentLaws.{AnnotationsAreRead, AnnotationLimits}
use Rattle.ve_read.proofs.LimitLemmas.{moves}
use Rattle.ve_read.proofs.ContentTurns.{joined_none, alone_marked, some_map, deep_from}

-- the children, as they are read inside of the mark
abbrev inner : Parts → ℕ → List ℕ → List Attr → ReadSoFar → Made
inner children at name attrs r = content_made children (at + length (start_text name attrs false)) (with_mark (mark_from name attrs) r)

-- what the annotation is
made_inside : (name : List ℕ) (attrs : List Attr) (children : Parts) (at : ℕ) (r : ReadSoFar) → fit_of (Content r.marks) name children ≡ Annotation
    → content_made (Parent name attrs children Ended) at r
    ≡ in_run (inner children at name attrs r).run (element_source name attrs children) (inner children at name attrs r).owners
    (made_of (Content r.marks) Ended (past (place_in r at) (element_source name attrs children) (inner children at name attrs r).owners))
made_inside name attrs children at r e =
    let source : List ℕ = element_source name attrs children in
    let w : Progress = place_in r at in
    let start : ℕ = at + length (start_text name attrs false) in
    ap (element_made (Content r.marks) name attrs source (λ a. made_of a children) (made_of (Content r.marks) Ended) w) e
    ∙ ap (λ (owners : List Owner).
    let made = made_of (marked_around (Content r.marks) name attrs) children (record { at = start; owners = owners; editable = is_page r.purpose }) in
    in_run made.run source made.owners (made_of (Content r.marks) Ended (past w source made.owners))) (append-nil r.owners)

pub annotations_are_read : AnnotationsAreRead
annotations_are_read = λ name attrs children at r e.
    let made : Made = inner children at name attrs r in
    let piece = joined_none made.run in
    let owners = append-nil made.owners in
    ap (λ (m : Made). with_piece m.run m.owners r) (made_inside name attrs children at r e)
    ∙ (λ j. with_piece (piece j) (owners j) r)
    ∙ sym (marks_are_left (mark_from name attrs) made.run made.owners r)

-- where the mark is one too many, nothing in it comes before it
mark_first : (at : ℕ) (deep : Option Limit) → IfSome deep (λ l. at < limit_at l) → earlier deep (Some (TooManyMarks at)) ≡ Some (TooManyMarks at)
mark_first at None h = refl
mark_first at (Some l) h = moves l (TooManyMarks at) h

marked_or : (b : Bool) (at : ℕ) (deep : Option Limit) (inside : Option ℕ) → IfSome deep (λ l. at < limit_at l) →
    earlier deep (option_map (λ n. TooManyMarks n) (if b then inside else Some at))
    ≡ option_or (if b then None else Some (TooManyMarks at)) (earlier deep (option_map (λ n. TooManyMarks n) inside))
marked_or true at deep inside h = refl
marked_or false at deep inside h = mark_first at deep h

pub annotation_limits : AnnotationLimits
annotation_limits = λ name attrs children at r e.
    let made : Made = inner children at name attrs r in
    let start : ℕ = at + length (start_text name attrs false) in
    let entered : ReadSoFar = with_mark (mark_from name attrs) r in
    let deep = ap (λ (m : Made). deep_in r m.run) (made_inside name attrs children at r e) ∙ ap (deep_in r) (joined_none made.run) in
    let marked =
    ap (option_map (λ n. TooManyMarks n))
    (alone_marked r.marks (Parent name attrs children Ended) at ∙ ap (element_marked (Content r.marks) name attrs children at) e) in
    let past_mark =
    some_map _ _ (deep_in r made.run) (λ l b. omega (arith, b.0)) (deep_from children start entered (start + length (source_of children)) (omega arith)) in
    (λ j. earlier (deep j) (marked j))
    ∙ marked_or (nat_lt (length r.marks) max_marks) at (deep_in r made.run) (marked_at (Content entered.marks) children start) past_mark
