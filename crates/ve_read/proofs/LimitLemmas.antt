-- Where limits lie: the spans of what parts make begin in their source, and an annotation that is
-- over the limit stands in it.
use Rattle.std.proofs.Common.{◌≡◌, ℕ, ◌+◌, ◌-◌, ◌<◌, ◌≤◌, suc, Bool, true, false, if◌then◌else◌, List, [], ◌∷◌, ◌++◌, length, Option, Some, None, refl, length-append, lt-ltb, le-ltb, arith}
use Rattle.std.specs.Prelude.{chars, nat_lt, IfSome}
use Rattle.std.specs.Option.{option_or}
use Rattle.std.specs.List.{AllByRecursion}
use Rattle.model_spelling.specs.Grammar.{Attr, Comment, token_text, start_text, end_text}
use Rattle.model_spelling.specs.Forest.{Forest, spelling}
use Rattle.ve_base.specs.Limits.{max_marks, max_open_kinds}
use Rattle.ve_base.specs.declared.marks.Mark.{Mark}
use Rattle.ve_base.specs.declared.head.Head.{Head}
use Rattle.ve_kinds.specs.declared.kind.Kind.{Kind}
use Rattle.ve_kinds.specs.declared.kind.Kind.TheVariants.{Ref}
use Rattle.ve_kinds.specs.Table.{is_inline_leaf}
use Rattle.model_items.specs.declared.plain_item.PlainItem.{PlainItem}
use Rattle.model_items.specs.declared.plain_item.PlainItem.TheVariants.{Char, Opening, Closing}
use Rattle.model_page.specs.Elements.{is_white}
use Rattle.model_page.specs.Parts.{Parts, Ended, Words, Note, Group, Single, Parent, source_of}
use Rattle.model_page.specs.Fit.{Around, Flow, Structural, Content, Fit, Annotation, Leaf, Branch, Whole, around_in, fit_of, group_kind, note_kind}
use Rattle.model_page.specs.Heads.{characters, head_with, whole_head}
use Rattle.model_page.specs.Pieces.{SourceSpan, Piece, Owner, Made, Progress, past, source_span, leaf, node, chars_piece, with_white, run_dropped, paragraph_before, run_ended, run_closed, in_run, before_run, leaf_before}
use Rattle.model_page.specs.ReferenceNodes.{RefNode, ref_of}
use Rattle.model_page.specs.Convert.{marks_at, marked_around, element_source, inside_of, inside_piece, words_before, group_made, leaf_made, element_made, made_of}
use Rattle.model_page.specs.Limits.{Limit, limit_at, earlier, deep_at, marked_at}
use Rattle.ve_read.specs.ContentLaws.{EarlierJoins}

-- ---- two limits

stays : (x y : Limit) → limit_at x ≤ limit_at y → earlier (Some x) (Some y) ≡ Some x
stays x y l = rw (le-ltb (limit_at y) (limit_at x) l) refl

pub moves : (x y : Limit) → limit_at y < limit_at x → earlier (Some x) (Some y) ≡ Some y
moves x y l = rw (lt-ltb (limit_at y) (limit_at x) l) refl

pub earlier_joins : EarlierJoins
earlier_joins byte None None later other d m l o = refl
earlier_joins byte (Some x) None later None d m l o = refl
earlier_joins byte (Some x) None later (Some y) d m l o = stays x y (omega (arith, d, o))
earlier_joins byte None (Some y) None other d m l o = refl
earlier_joins byte None (Some y) (Some x) other d m l o = moves x y (omega (arith, m, l))
earlier_joins byte (Some x) (Some y) later other d m l o = either (nat_lt (limit_at y) (limit_at x)) refl
  where
    either : (b : Bool) → nat_lt (limit_at y) (limit_at x) ≡ b → earlier (Some x) (Some y) ≡ option_or (earlier (Some x) (Some y)) (earlier later other)
    either true e = rw e refl
    either false e = rw e refl

-- ---- annotations

-- where there is one, it lies there
abbrev pub LiesIn : ℕ → ℕ → Option ℕ → Type 0
LiesIn low high place = IfSome place (λ p. (low ≤ p) × (p < high))

lies_wider : (low lower high higher : ℕ) (place : Option ℕ) → lower ≤ low → high ≤ higher → LiesIn low high place → LiesIn lower higher place
lies_wider low lower high higher None l h i = tt
lies_wider low lower high higher (Some p) l h i = (omega (arith, l, i.0), omega (arith, h, i.1))

lies_either : (low high : ℕ) (a b : Option ℕ) → LiesIn low high a → LiesIn low high b → LiesIn low high (option_or a b)
lies_either low high None b h g = g
lies_either low high (Some x) b h g = h

lies_chosen : (low high : ℕ) (c : Bool) (a b : Option ℕ) → LiesIn low high a → LiesIn low high b → LiesIn low high (if c then a else b)
lies_chosen low high true a b h g = h
lies_chosen low high false a b h g = g

-- after a part of this source
lies_later : (at : ℕ) (part rest : List ℕ) (place : Option ℕ) → LiesIn (at + length part) (at + length part + length rest) place → LiesIn at (at + length (part ++ rest)) place
lies_later at part rest place h =
    lies_wider (at + length part) at (at + length part + length rest) (at + length (part ++ rest)) place (omega arith) (omega (arith, length-append part rest)) h

lies_inside : (at : ℕ) (name : List ℕ) (attrs : List Attr) (children : Parts) (place : Option ℕ) →
    LiesIn (at + length (start_text name attrs false)) (at + length (start_text name attrs false) + length (source_of children)) place → LiesIn at (at + length (element_source name attrs children)) place
lies_inside at name attrs children place h =
    let start : List ℕ = start_text name attrs false in
    lies_wider (at + length start) at (at + length start + length (source_of children)) (at + length (element_source name attrs children)) place (omega arith)
    (omega (arith, length-append (start ++ source_of children) (end_text name), length-append start (source_of children))) h

-- an element by its fit
element_lies : (around : Around) (name : List ℕ) (attrs : List Attr) (children : Parts) (at : ℕ) (later : Option ℕ) (high : ℕ) (f : Fit) → at < high →
    ((a : Around) → LiesIn at high (marked_at a children (at + length (start_text name attrs false)))) → LiesIn at high later →
    LiesIn at high (elim f [
      | Annotation ↦
          if nat_lt (length (marks_at around)) max_marks
          then option_or (marked_at (marked_around around name attrs) children (at + length (start_text name attrs false))) later
          else Some at
      | Branch kind ↦ option_or (marked_at (around_in kind) children (at + length (start_text name attrs false))) later
      | _ ↦ later
    ])
element_lies around name attrs children at later high Annotation lt inside after =
    lies_chosen at high (nat_lt (length (marks_at around)) max_marks) _ (Some at)
    (lies_either at high (marked_at (marked_around around name attrs) children (at + length (start_text name attrs false))) later (inside (marked_around around name attrs)) after)
    (omega arith, lt)
element_lies around name attrs children at later high (Branch kind) lt inside after =
    lies_either at high (marked_at (around_in kind) children (at + length (start_text name attrs false))) later (inside (around_in kind)) after
element_lies around name attrs children at later high (Leaf kind) lt inside after = after
element_lies around name attrs children at later high (Whole kind) lt inside after = after

pub marked_lies : (around : Around) (parts : Parts) (at : ℕ) → LiesIn at (at + length (source_of parts)) (marked_at around parts at)
marked_lies around Ended at = tt
marked_lies around (Words text later) at = lies_later at text (source_of later) _ (marked_lies around later (at + length text))
marked_lies around (Note text later) at = lies_later at (token_text (Comment text)) (source_of later) _ (marked_lies around later (at + length (token_text (Comment text))))
marked_lies around (Group nodes later) at = lies_later at (spelling nodes) (source_of later) _ (marked_lies around later (at + length (spelling nodes)))
marked_lies around (Single name attrs source later) at = lies_later at source (source_of later) _ (marked_lies around later (at + length source))
marked_lies around (Parent name attrs children later) at =
    let source : List ℕ = element_source name attrs children in
    let start : List ℕ = start_text name attrs false in
    let high : ℕ = at + length (source ++ source_of later) in
    let long : length (source ++ source_of later) ≡ length source + length (source_of later) = length-append source (source_of later) in
    element_lies around name attrs children at (marked_at around later (at + length source)) high (fit_of around name children)
    (omega (arith, long))
    (λ a. lies_wider at at (at + length source) high (marked_at a children (at + length start)) (omega arith) (omega (arith, long))
    (lies_inside at name attrs children (marked_at a children (at + length start)) (marked_lies a children (at + length start))))
    (lies_later at source (source_of later) (marked_at around later (at + length source)) (marked_lies around later (at + length source)))

-- ---- spans

-- each span begins there
abbrev pub BeginIn : ℕ → ℕ → List SourceSpan → Type 0
BeginIn low high spans = AllByRecursion (λ (s : SourceSpan). (low ≤ s.from) × (s.from ≤ high)) spans

begin_wider : (low lower high higher : ℕ) (spans : List SourceSpan) → lower ≤ low → high ≤ higher → BeginIn low high spans → BeginIn lower higher spans
begin_wider low lower high higher [] l h i = tt
begin_wider low lower high higher (s ∷ spans) l h i = ((omega (arith, l, i.0.0), omega (arith, h, i.0.1)), begin_wider low lower high higher spans l h i.1)

begin_both : (low high : ℕ) (xs ys : List SourceSpan) → BeginIn low high xs → BeginIn low high ys → BeginIn low high (xs ++ ys)
begin_both low high [] ys h g = g
begin_both low high (x ∷ xs) ys h g = (h.0, begin_both low high xs ys h.1 g)

-- the first opening that is too deep is one of them
pub deep_lies : (depth : ℕ) (items : List PlainItem) (spans : List SourceSpan) (low high : ℕ) → BeginIn low high spans → IfSome (deep_at depth items spans) (λ p. (low ≤ p) × (p ≤ high))
deep_lies depth [] spans low high b = tt
deep_lies depth (Char c marks ∷ items) spans low high b = deep_lies depth items spans low high b
deep_lies depth (Closing kind pre ∷ items) spans low high b = deep_lies (depth - 1) items spans low high b
deep_lies depth (Opening kind head marks pre origin generated ∷ items) [] low high b = tt
deep_lies depth (Opening kind head marks pre origin generated ∷ items) (span ∷ spans) low high b = either (nat_lt depth max_open_kinds) (deep_lies (suc depth) items spans low high b.1)
  where
    either : (c : Bool) → IfSome (deep_at (suc depth) items spans) (λ p. (low ≤ p) × (p ≤ high)) →
        IfSome (if c then deep_at (suc depth) items spans else Some span.from) (λ p. (low ≤ p) × (p ≤ high))
    either true later = later
    either false later = b.0

-- The items that were made from a position on: their spans begin there.
pub record Begins (low high : ℕ) (m : Made) : Type 0 where
  pub run : BeginIn low high m.run.spans
  pub later : BeginIn low high m.later.spans

begins_wider : (low lower high : ℕ) (m : Made) → lower ≤ low → Begins low high m → Begins lower high m
begins_wider low lower high m l b = record { run = begin_wider low lower high high m.run.spans l (omega arith) b.run; later = begin_wider low lower high high m.later.spans l (omega arith) b.later }

begins_chosen : (low high : ℕ) (c : Bool) (a b : Made) → Begins low high a → Begins low high b → Begins low high (if c then a else b)
begins_chosen low high true a b f g = f
begins_chosen low high false a b f g = g

begins_ended : (source : List ℕ) (w : Progress) (high : ℕ) (m : Made) → w.at ≤ high → Begins w.at high m → Begins w.at high (run_ended source w m)
begins_ended [] w high m le b = record { run = tt; later = b.later }
begins_ended (x ∷ xs) w high m le b =
    begins_chosen w.at high (is_white (x ∷ xs)) (with_white (chars (x ∷ xs)) (run_dropped m)) (paragraph_before (source_span w (x ∷ xs)) m)
    (record { run = tt; later = b.later })
    (record { run = tt; later = ((omega arith, le), begin_both w.at high m.run.spans m.later.spans b.run b.later) })

begins_run : (low high : ℕ) (piece : Piece) (source : List ℕ) (owners : List Owner) (m : Made) → BeginIn low high piece.spans → Begins low high m → Begins low high (in_run piece source owners m)
begins_run low high piece source owners m p b = record { run = begin_both low high piece.spans m.run.spans p b.run; later = b.later }

begins_block : (low high : ℕ) (w : Progress) (piece : Piece) (owners : List Owner) (m : Made) → low ≤ w.at → w.at ≤ high → BeginIn low high piece.spans → Begins w.at high m → Begins low high (before_run w piece owners m)
begins_block low high w piece owners m l h p b =
    let c = begins_wider w.at low high (run_closed w m) l (begins_ended m.source w high m h b) in
    record { run = c.run; later = begin_both low high piece.spans (run_closed w m).later.spans p c.later }

-- a part of this source stands there, and what is made after it begins after it
record After (w : Progress) (source : List ℕ) (high : ℕ) (later : Progress → Made) : Type 0 where
  within : w.at + length source ≤ high
  later_begins : (owners : List Owner) → Begins (w.at + length source) high (later (past w source owners))

begins_leaf : (w : Progress) (kind : Kind) (head : Head) (marks : List Mark) (source : List ℕ) (owners : List Owner) (high : ℕ) (later : Progress → Made) → After w source high later →
    Begins w.at high (leaf_before w kind head marks source owners (later (past w source owners)))
begins_leaf w kind head marks source owners high later a =
    let piece : Piece = leaf kind head marks (source_span w source) in
    let p : BeginIn w.at high piece.spans = ((omega arith, omega (arith, a.within)), tt) in
    let m : Made = later (past w source owners) in
    begins_chosen w.at high (is_inline_leaf kind) (in_run piece source owners m) (before_run (past w source owners) piece owners m)
    (begins_run w.at high piece source owners m p (begins_wider (w.at + length source) w.at high m (omega arith) (a.later_begins owners)))
    (begins_block w.at high (past w source owners) piece owners m (omega arith) a.within p (a.later_begins owners))

begins_group : (around : Around) (nodes : Forest) (high : ℕ) (later : Progress → Made) (w : Progress) (r : Option RefNode) → After w (spelling nodes) high later →
    Begins w.at high (group_made around nodes later w r)
begins_group around nodes high later w (Some r) a = begins_leaf w Ref r.head (marks_at around) (spelling nodes) r.owners high later a
begins_group around nodes high later w None a = begins_leaf w (group_kind around nodes) (whole_head (spelling nodes)) (marks_at around) (spelling nodes) [] high later a

begins_leaf_made : (around : Around) (attrs : List Attr) (source : List ℕ) (high : ℕ) (later : Progress → Made) (w : Progress) (f : Fit) → After w source high later →
    Begins w.at high (leaf_made around attrs source later w f)
begins_leaf_made around attrs source high later w (Leaf kind) a = begins_leaf w kind (head_with attrs) (marks_at around) source [] high later a
begins_leaf_made around attrs source high later w (Whole kind) a = begins_leaf w kind (whole_head source) (marks_at around) source [] high later a
begins_leaf_made around attrs source high later w Annotation a = begins_leaf w (note_kind around) (whole_head source) (marks_at around) source [] high later a
begins_leaf_made around attrs source high later w (Branch kind) a = begins_leaf w (note_kind around) (whole_head source) (marks_at around) source [] high later a

begins_inside : (around : Around) (w : Progress) (high : ℕ) (m : Made) → w.at ≤ high → Begins w.at high m → BeginIn w.at high (inside_piece around w m).later.spans
begins_inside (Content marks) w high m le b = b.run
begins_inside (Flow kind) w high m le b = (begins_ended m.source w high m le b).later
begins_inside (Structural kind) w high m le b = b.later

begins_element : (around : Around) (name : List ℕ) (attrs : List Attr) (source : List ℕ) (children : Around → Progress → Made) (high : ℕ) (later : Progress → Made) (w : Progress) (f : Fit) →
    After w source high later → (inside_of w name attrs).at ≤ high → ((a : Around) → Begins (inside_of w name attrs).at high (children a (inside_of w name attrs))) →
    Begins w.at high (element_made around name attrs source children later w f)
begins_element around name attrs source children high later w Annotation a le inside =
    let at = inside_of w name attrs in
    let made : Made = children (marked_around around name attrs) at in
    let m : Made = later (past w source made.owners) in
    begins_run w.at high made.run source made.owners m
    (begin_wider at.at w.at high high made.run.spans (omega arith) (omega arith) (inside (marked_around around name attrs)).run)
    (begins_wider (w.at + length source) w.at high m (omega arith) (a.later_begins made.owners))
begins_element around name attrs source children high later w (Branch kind) a le inside =
    let at = inside_of w name attrs in
    let made : Made = inside_piece (around_in kind) at (children (around_in kind) at) in
    let spans : BeginIn w.at high made.later.spans =
    begin_wider at.at w.at high high made.later.spans (omega arith) (omega arith) (begins_inside (around_in kind) at high (children (around_in kind) at) le (inside (around_in kind))) in
    begins_block w.at high (past w source made.owners) (node kind (head_with attrs) [] false (source_span w source) made.later made.pre) made.owners (later (past w source made.owners))
    (omega arith) a.within ((omega arith, omega (arith, a.within)), spans) (a.later_begins made.owners)
begins_element around name attrs source children high later w (Leaf kind) a le inside = begins_leaf_made around attrs source high later w (Leaf kind) a
begins_element around name attrs source children high later w (Whole kind) a le inside = begins_leaf_made around attrs source high later w (Whole kind) a

begins_words : (around : Around) (text : List ℕ) (low high : ℕ) (m : Made) → Begins low high m → Begins low high (words_before around text m)
begins_words (Structural kind) text low high m b = record { run = b.run; later = b.later }
begins_words (Flow kind) text low high m b = begins_run low high (chars_piece [] (characters text)) text [] m tt b
begins_words (Content marks) text low high m b = begins_run low high (chars_piece marks (characters text)) text [] m tt b

-- ---- all parts

split_at : (at high : ℕ) (source rest : List ℕ) → at + length (source ++ rest) ≤ high → (at + length source ≤ high) × (at + length source + length rest ≤ high)
split_at at high source rest h = let l = length-append source rest in (omega (arith, l, h), omega (arith, l, h))

-- the spans of what parts make begin in their source
pub parts_begin : (around : Around) (parts : Parts) (w : Progress) (high : ℕ) → w.at + length (source_of parts) ≤ high → Begins w.at high (made_of around parts w)
parts_begin around Ended w high le = record { run = tt; later = tt }
parts_begin around (Words text later) w high le =
    begins_words around text w.at high (made_of around later (past w text []))
    (begins_wider (w.at + length text) w.at high (made_of around later (past w text [])) (omega arith)
    (parts_begin around later (past w text []) high (split_at w.at high text (source_of later) le).1))
parts_begin around (Note text later) w high le =
    let source : List ℕ = token_text (Comment text) in
    let f = split_at w.at high source (source_of later) le in
    begins_leaf_made around [] source high (made_of around later) w (Whole (note_kind around)) (record { within = f.0; later_begins = λ owners. parts_begin around later (past w source owners) high f.1 })
parts_begin around (Group nodes later) w high le =
    let f = split_at w.at high (spelling nodes) (source_of later) le in
    begins_group around nodes high (made_of around later) w (ref_of w around nodes) (record { within = f.0; later_begins = λ owners. parts_begin around later (past w (spelling nodes) owners) high f.1 })
parts_begin around (Single name attrs source later) w high le =
    let f = split_at w.at high source (source_of later) le in
    begins_leaf_made around attrs source high (made_of around later) w (fit_of around name Ended) (record { within = f.0; later_begins = λ owners. parts_begin around later (past w source owners) high f.1 })
parts_begin around (Parent name attrs children later) w high le =
    let source : List ℕ = element_source name attrs children in
    let start : List ℕ = start_text name attrs false in
    let f = split_at w.at high source (source_of later) le in
    let long : w.at + length start + length (source_of children) ≤ high =
    omega (arith, f.0, length-append (start ++ source_of children) (end_text name), length-append start (source_of children)) in
    begins_element around name attrs source (λ a. made_of a children) high (made_of around later) w (fit_of around name children)
    (record { within = f.0; later_begins = λ owners. parts_begin around later (past w source owners) high f.1 })
    (omega (arith, long))
    (λ a. parts_begin a children (inside_of w name attrs) high long)
