-- Counts that the limits on nesting and marks speak of: the kinds that are open at each opening of
-- a list, and the marks of each item.
use Rattle.std.specs.Prelude.{◌≡◌, ℕ, suc, ◌+◌, ◌-◌, false, nat_lt, List, [], ◌∷◌, ◌++◌, length, map, filter}
use Rattle.ve_kinds.specs.declared.kind.Kind.{Kind}
use Rattle.model_items.specs.declared.plain_item.PlainItem.{PlainItem}
use Rattle.model_items.specs.declared.plain_item.PlainItem.TheVariants.{Char, Opening, Closing}
use Rattle.model_spelling.specs.Grammar.{Comment, token_text, start_text}
use Rattle.model_spelling.specs.Forest.{spelling}
use Rattle.model_edit.specs.Marking.{item_marks}
use Rattle.model_page.specs.Parts.{Parts, Ended, Words, Note, Group, Single, Parent}
use Rattle.model_page.specs.Heads.{characters}
use Rattle.model_page.specs.Fit.{Around, Flow, Annotation, Branch, around_in, fit_of}
use Rattle.model_page.specs.Pieces.{SourceSpan, Progress}
use Rattle.model_page.specs.Convert.{marked_around, element_source, in_flow}

-- ---- nesting

-- Of each opening, in order: how many kinds are open, itself among them, and the byte where its
-- source begins. So many kinds are open before.
abbrev pub openings : ℕ → List PlainItem → List SourceSpan → List (ℕ × ℕ)
openings depth [] spans = []
openings depth (Char c marks ∷ items) spans = openings depth items spans
openings depth (Closing kind pre ∷ items) spans = openings (depth - 1) items spans
openings depth (Opening kind head marks pre origin generated ∷ items) [] = []
openings depth (Opening kind head marks pre origin generated ∷ items) (span ∷ spans) =
    (suc depth, span.from) ∷ openings (suc depth) items spans

-- the kinds alone
abbrev pub open_counts : ℕ → List PlainItem → List ℕ
open_counts depth [] = []
open_counts depth (Char c marks ∷ items) = open_counts depth items
open_counts depth (Closing kind pre ∷ items) = open_counts (depth - 1) items
open_counts depth (Opening kind head marks pre origin generated ∷ items) = suc depth ∷ open_counts (suc depth) items

-- ---- marks

-- Of each character and leaf, in order: the bytes where the elements begin that mark it. The parts
-- begin at the byte `at`, inside of marks whose elements begin at the bytes `outer`.
abbrev pub mark_places : List ℕ → Around → Parts → ℕ → List (List ℕ)
mark_places outer around Ended at = []
mark_places outer around (Words text later) at = map (λ c. outer) (characters text) ++ mark_places outer around later (at + length text)
mark_places outer around (Note text later) at = outer ∷ mark_places outer around later (at + length (token_text (Comment text)))
mark_places outer around (Group nodes later) at = outer ∷ mark_places outer around later (at + length (spelling nodes))
mark_places outer around (Single name attrs source later) at = outer ∷ mark_places outer around later (at + length source)
mark_places outer around (Parent name attrs children later) at =
    let inside = at + length (start_text name attrs false) in
    let end = at + length (element_source name attrs children) in
    elim (fit_of around name children) [
      | Annotation ↦ mark_places (outer ++ at ∷ []) (marked_around around name attrs) children inside ++ mark_places outer around later end
      | Branch kind ↦ mark_places [] (around_in kind) children inside ++ mark_places outer around later end
      | _ ↦ outer ∷ mark_places outer around later end
    ]

-- how many positions there are for each item that is marked
abbrev pub place_counts : List (List ℕ) → List ℕ
place_counts places = filter (nat_lt 0) (map length places)

-- how many marks each item has that is marked
abbrev pub mark_counts : List PlainItem → List ℕ
mark_counts items = filter (nat_lt 0) (map (λ item. length (item_marks item)) items)

-- ---- what is counted is what the list has

-- each opening of what stands in a flow parent is counted,
abbrev pub OpeningsAreCounted : Type 0
OpeningsAreCounted = (depth : ℕ) (kind : Kind) (parts : Parts) (w : Progress) → let made = in_flow kind parts w in
    map (λ (o : ℕ × ℕ). o.0) (openings depth made.later.items made.later.spans) ≡ open_counts depth made.later.items

-- and each item that is marked has as many positions as marks.
abbrev pub MarksHavePlaces : Type 0
MarksHavePlaces = (kind : Kind) (parts : Parts) (w : Progress) →
    mark_counts (in_flow kind parts w).later.items ≡ place_counts (mark_places [] (Flow kind) parts w.at)
