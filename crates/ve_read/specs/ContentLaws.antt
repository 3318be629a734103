-- How content is read: one part after the other, and what is in an annotation inside of its mark;
-- and where that stops.
use Rattle.std.specs.Prelude.{◌≡◌, ℕ, ◌+◌, ◌<◌, ◌≤◌, true, false, List, length, Option, IfSome}
use Rattle.std.specs.Option.{option_or}
use Rattle.model_spelling.specs.Grammar.{Attr, start_text}
use Rattle.model_page.specs.Parts.{Parts, Ended, Parent}
use Rattle.model_page.specs.Fit.{Content, Annotation, fit_of}
use Rattle.model_page.specs.Limits.{Limit, limit_at, earlier}
use Rattle.ve_reader.specs.Leaves.{mark_from}
use Rattle.ve_classify.specs.FirstPart.{has_part, later_of, first_source, take_parts}
use Rattle.ve_reader.specs.ReadSoFar.{ReadSoFar, with_mark, mark_left}
use Rattle.ve_reader.specs.Stops.{mark_limit}
use Rattle.ve_read.specs.Content.{with_content, content_limit}

-- Two limits are found before a byte, and two at it or past it. The earlier of all is the earlier
-- of the first two, or else of the others.
abbrev pub EarlierJoins : Type 0
EarlierJoins =
    (byte : ℕ) (deep marked deep_later marked_later : Option Limit)
    → IfSome deep (λ l. limit_at l ≤ byte) → IfSome marked (λ l. limit_at l < byte)
    → IfSome deep_later (λ l. byte ≤ limit_at l) → IfSome marked_later (λ l. byte ≤ limit_at l)
    → earlier (option_or deep deep_later) (option_or marked marked_later) ≡ option_or (earlier deep marked) (earlier deep_later marked_later)

-- The first part is read, and then the later ones;
abbrev pub PartsInTurn : Type 0
PartsInTurn =
    (parts : Parts) (at : ℕ) (r : ReadSoFar) → has_part parts ≡ true
    → with_content parts at r ≡ with_content (later_of parts) (at + length (first_source parts)) (with_content (take_parts 1 parts) at r)

-- and what is over a limit stands in the first part, or else in the later ones.
abbrev pub LimitsInTurn : Type 0
LimitsInTurn =
    (parts : Parts) (at : ℕ) (r : ReadSoFar) → has_part parts ≡ true
    → content_limit parts at r
    ≡ option_or (content_limit (take_parts 1 parts) at r) (content_limit (later_of parts) (at + length (first_source parts)) (with_content (take_parts 1 parts) at r))

-- The inside of an annotation is read inside of its mark, which is left then;
abbrev pub AnnotationsAreRead : Type 0
AnnotationsAreRead =
    (name : List ℕ) (attrs : List Attr) (children : Parts) (at : ℕ) (r : ReadSoFar) → fit_of (Content r.marks) name children ≡ Annotation
    → with_content (Parent name attrs children Ended) at r
    ≡ mark_left (with_content children (at + length (start_text name attrs false)) (with_mark (mark_from name attrs) r))

-- and what is over a limit is the mark, or else stands in it.
abbrev pub AnnotationLimits : Type 0
AnnotationLimits =
    (name : List ℕ) (attrs : List Attr) (children : Parts) (at : ℕ) (r : ReadSoFar) → fit_of (Content r.marks) name children ≡ Annotation
    → content_limit (Parent name attrs children Ended) at r
    ≡ option_or (mark_limit r at) (content_limit children (at + length (start_text name attrs false)) (with_mark (mark_from name attrs) r))
