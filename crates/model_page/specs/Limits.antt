-- The first position of a page where an item would be inside of more than `max_open_kinds` kinds or
-- of more than `max_marks` marks.
use Rattle.std.specs.Prelude.{ℕ, suc, ◌+◌, ◌-◌, false, if◌then◌else◌, nat_lt, List, [], ◌∷◌, length, Option, Some, None, option_map}
use Rattle.model_spelling.specs.Grammar.{Comment, token_text, start_text}
use Rattle.model_spelling.specs.Forest.{Forest, spelling}
use Rattle.ve_kinds.specs.declared.kind.Kind.{Kind}
use Rattle.ve_kinds.specs.declared.kind.Kind.TheVariants.{Root, InternalItem}
use Rattle.model_items.specs.declared.plain_item.PlainItem.{PlainItem}
use Rattle.model_items.specs.declared.plain_item.PlainItem.TheVariants.{Char, Opening, Closing}
use Rattle.model_spelling.specs.Parsed.{forest_of}
use Rattle.std.specs.Option.{option_or}
use Rattle.model_page.specs.Parts.{Parts, Ended, Words, Note, Group, Single, Parent, parts_of}
use Rattle.model_page.specs.Fit.{Around, Flow, Annotation, Branch, around_in, fit_of}
use Rattle.model_page.specs.Pieces.{SourceSpan, Owner, Made}
use Rattle.model_page.specs.Convert.{marks_at, marked_around, element_source}
use Rattle.model_page.specs.PageItems.{body_made, or_nothing, page_made}
use Rattle.model_page.specs.Fragment.{context_of}
use Rattle.ve_base.specs.Limits.{max_open_kinds, max_marks}

-- a limit that is passed, and the byte of the page where that starts
pub data Limit : Type 0 where
  TooDeep : ℕ → Limit
  TooManyMarks : ℕ → Limit

abbrev pub limit_at : Limit → ℕ
limit_at (TooDeep at) = at
limit_at (TooManyMarks at) = at

-- the one that comes first in the text
abbrev pub earlier : Option Limit → Option Limit → Option Limit
earlier None other = other
earlier (Some a) None = Some a
earlier (Some a) (Some b) = if nat_lt (limit_at b) (limit_at a) then Some b else Some a

-- the byte of the first opening inside of `max_open_kinds` kinds, where so many are open before,
-- and these are the spans of the openings
abbrev pub deep_at : ℕ → List PlainItem → List SourceSpan → Option ℕ
deep_at depth [] spans = None
deep_at depth (Char c marks ∷ items) spans = deep_at depth items spans
deep_at depth (Closing kind pre ∷ items) spans = deep_at (depth - 1) items spans
deep_at depth (Opening kind head marks pre origin generated ∷ items) [] = None
deep_at depth (Opening kind head marks pre origin generated ∷ items) (span ∷ spans) =
    if nat_lt depth max_open_kinds then deep_at (suc depth) items spans else Some span.from

-- the byte of the first annotation inside of `max_marks` marks; the parts begin at the byte `at`
abbrev pub marked_at : Around → Parts → ℕ → Option ℕ
marked_at around Ended at = None
marked_at around (Words text later) at = marked_at around later (at + length text)
marked_at around (Note text later) at = marked_at around later (at + length (token_text (Comment text)))
marked_at around (Group nodes later) at = marked_at around later (at + length (spelling nodes))
marked_at around (Single name attrs source later) at = marked_at around later (at + length source)
marked_at around (Parent name attrs children later) at =
    let inside = at + length (start_text name attrs false) in
    let end = at + length (element_source name attrs children) in
    elim (fit_of around name children) [
      | Annotation ↦
          if nat_lt (length (marks_at around)) max_marks
          then option_or (marked_at (marked_around around name attrs) children inside) (marked_at around later end)
          else Some at
      | Branch kind ↦ option_or (marked_at (around_in kind) children inside) (marked_at around later end)
      | _ ↦ marked_at around later end
    ]

-- of what stands in a flow parent with so many kinds open
abbrev pub limit_of : ℕ → Around → Parts → ℕ → Made → Option Limit
limit_of depth around parts at m =
    earlier
    (option_map (λ n. TooDeep n) (deep_at depth m.later.items m.later.spans))
    (option_map (λ n. TooManyMarks n) (marked_at around parts at))

abbrev pub moved_to : ℕ → Limit → Limit
moved_to at (TooDeep n) = TooDeep at
moved_to at (TooManyMarks n) = TooManyMarks at

-- of a body, which stands inside of two kinds; it names the start of its owner
abbrev pub body_limit : Owner → Option Limit
body_limit o =
    let forest = or_nothing (forest_of o.html) in
    option_map (moved_to o.at) (limit_of 2 (Flow InternalItem) (parts_of forest) 0 (body_made forest))

-- of the bodies, in the order of their owners
abbrev pub first_body_limit : List Owner → Option Limit
first_body_limit [] = None
first_body_limit (o ∷ owners) = option_or (body_limit o) (first_body_limit owners)

-- of a page whose body begins at the byte `at`; bodies come after the whole page
abbrev pub page_limit : ℕ → Forest → Option Limit
page_limit at forest =
    let made = page_made at forest in
    option_or (limit_of 0 (Flow Root) (parts_of forest) at made) (first_body_limit made.owners)

-- The byte of the first annotation of a fragment inside of `max_marks` marks, where these kinds are
-- open, innermost first. How deep a fragment is says the law, once it is inserted.
abbrev pub fragment_limit : List Kind → Forest → Option ℕ
fragment_limit stack forest = let parts = parts_of forest in marked_at (around_in (context_of parts stack)) parts 0
