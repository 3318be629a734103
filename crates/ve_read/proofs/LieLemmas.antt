-- Where limits of siblings lie: the spans of what they become begin in their source.
use Rattle.std.proofs.Common.{◌≡◌, ℕ, ◌+◌, ◌<◌, ◌≤◌, Bool, true, false, if◌then◌else◌, List, [], ◌∷◌, ◌++◌, length, Option, Some, None, refl, sym, ap, ◌∙◌, arith}
use Rattle.std.specs.Prelude.{IfSome, option_map, chars}
use Rattle.std.specs.Option.{option_or}
use Rattle.ve_kinds.specs.declared.kind.Kind.{Kind}
use Rattle.ve_base.specs.declared.head.Head.{Head}
use Rattle.model_page.specs.Elements.{is_white}
use Rattle.model_page.specs.Parts.{Parts, source_of}
use Rattle.model_page.specs.Fit.{Around, Flow, Structural, Content}
use Rattle.model_page.specs.Pieces.{SourceSpan, Piece, Made, Progress, source_span, with_white, run_dropped, paragraph_before, run_ended, node}
use Rattle.model_page.specs.Convert.{made_of}
use Rattle.model_page.specs.Limits.{Limit, TooDeep, TooManyMarks, limit_at, earlier, deep_at}
use Rattle.ve_classify.specs.Siblings.{siblings}
use Rattle.ve_reader.specs.declared.purpose.Purpose.{Purpose}
use Rattle.ve_reader.specs.declared.purpose.Purpose.TheVariants as purpose
use Rattle.ve_reader.specs.ReadSoFar.{ReadSoFar, opening_piece, with_opening}
use Rattle.ve_reader.specs.Stops.{depth_limit, deep_in}
use Rattle.ve_reader.specs.Laws.{IsEven}
use Rattle.ve_reader.proofs.JoinLemmas.{node_depths}
use Rattle.ve_read.proofs.PieceLemmas.{deep_after}
use Rattle.ve_read.proofs.LimitLemmas.{BeginIn, Begins, LiesIn, deep_lies, parts_begin, earlier_joins}
use Rattle.ve_read.proofs.ContentTurns.{some_map}

-- ---- spans

begin_both : (low high : ℕ) (xs ys : List SourceSpan) → BeginIn low high xs → BeginIn low high ys → BeginIn low high (xs ++ ys)
begin_both low high [] ys h g = g
begin_both low high (x ∷ xs) ys h g = (h.0, begin_both low high xs ys h.1 g)

begin_chosen : (low high : ℕ) (c : Bool) (a b : Made) → BeginIn low high a.later.spans → BeginIn low high b.later.spans → BeginIn low high (if c then a else b).later.spans
begin_chosen low high true a b f g = f
begin_chosen low high false a b f g = g

begin_ended : (source : List ℕ) (w : Progress) (high : ℕ) (m : Made) → w.at ≤ high → Begins w.at high m → BeginIn w.at high (run_ended source w m).later.spans
begin_ended [] w high m le b = b.later
begin_ended (x ∷ xs) w high m le b =
    begin_chosen w.at high (is_white (x ∷ xs)) (with_white (chars (x ∷ xs)) (run_dropped m)) (paragraph_before (source_span w (x ∷ xs)) m) b.later
    ((omega arith, le), begin_both w.at high m.run.spans m.later.spans b.run b.later)

begin_inside : (around : Around) (parts : Parts) (w : Progress) (high : ℕ) → w.at ≤ high → Begins w.at high (made_of around parts w) → BeginIn w.at high (siblings around parts w).later.spans
begin_inside (Content marks) parts w high le b = b.run
begin_inside (Flow kind) parts w high le b = begin_ended (made_of (Flow kind) parts w).source w high (made_of (Flow kind) parts w) le b
begin_inside (Structural kind) parts w high le b = b.later

-- the spans of what siblings become begin in their source
pub siblings_begin : (around : Around) (parts : Parts) (w : Progress) (high : ℕ) → w.at + length (source_of parts) ≤ high → BeginIn w.at high (siblings around parts w).later.spans
siblings_begin around parts w high le = begin_inside around parts w high (omega (arith, le)) (parts_begin around parts w high le)

-- ---- limits

some_of : {A B : Type 0} (f : A → B) (P : B → Type 0) (o : Option A) → IfSome o (λ x. P (f x)) → IfSome (option_map f o) P
some_of f P None h = tt
some_of f P (Some x) h = h

pub limit_lies : (p : Purpose) (depth : ℕ) (piece : Piece) (low high : ℕ) → BeginIn low high piece.spans → IfSome (depth_limit p depth piece) (λ l. (low ≤ limit_at l) × (limit_at l ≤ high))
limit_lies purpose.Page depth piece low high b = some_of (λ n. TooDeep n) _ (deep_at depth piece.items piece.spans) (deep_lies depth piece.items piece.spans low high b)
limit_lies purpose.Body depth piece low high b = some_of (λ n. TooDeep n) _ (deep_at depth piece.items piece.spans) (deep_lies depth piece.items piece.spans low high b)
limit_lies purpose.Fragment depth piece low high b = tt

abbrev pub tagged : Option ℕ → Option Limit
tagged place = option_map (λ n. TooManyMarks n) place

pub mark_lies : (low high : ℕ) (place : Option ℕ) → LiesIn low high place → IfSome (tagged place) (λ l. (low ≤ limit_at l) × (limit_at l < high))
mark_lies low high place h = some_of (λ n. TooManyMarks n) _ place h

pub tagged_or : (a b : Option ℕ) → tagged (option_or a b) ≡ option_or (tagged a) (tagged b)
tagged_or None b = refl
tagged_or (Some x) b = refl

pub earlier_none : (deep : Option Limit) → earlier deep None ≡ deep
earlier_none None = refl
earlier_none (Some l) = refl

-- ---- a node

-- The item of a node over a limit is its opening, or else stands inside, where nothing inside
-- begins before it.
pub node_limits : (kind : Kind) (head : Head) (white : List ℕ) (generated : Bool) (span : SourceSpan) (inside : Piece) (pre : List ℕ) (r : ReadSoFar) (marked : Option ℕ) (high : ℕ) → IsEven inside
    → BeginIn span.from high inside.spans → LiesIn span.from high marked
    → earlier (deep_in r (node kind head [] generated span inside pre)) (tagged marked)
    ≡ option_or (deep_in r (opening_piece kind head white generated span)) (earlier (deep_in (with_opening kind head white generated span r) inside) (tagged marked))
node_limits kind head white generated span inside pre r marked high even begins lies =
    let opening : Option Limit = deep_in r (opening_piece kind head white generated span) in
    let deeper : Option Limit = deep_in (with_opening kind head white generated span r) inside in
    let first = limit_lies r.purpose r.depth (opening_piece kind head white generated span) span.from span.from ((omega arith, omega arith), tt) in
    let later = limit_lies r.purpose _ inside span.from high begins in
    let marks = mark_lies span.from high marked lies in
    ap (λ d. earlier d (tagged marked)) (sym (deep_after r white (node kind head [] generated span inside pre)) ∙ node_depths kind head white generated span inside pre r even)
    ∙ earlier_joins span.from opening None deeper (tagged marked)
    (some_map _ _ opening (λ l b. b.1) first) tt
    (some_map _ _ deeper (λ l b. b.0) later) (some_map _ _ (tagged marked) (λ l b. b.0) marks)
    ∙ ap (λ d. option_or d (earlier deeper (tagged marked))) (earlier_none opening)

-- ---- wider bounds

pub begin_lower : (low lower high : ℕ) (spans : List SourceSpan) → lower ≤ low → BeginIn low high spans → BeginIn lower high spans
begin_lower low lower high [] l h = tt
begin_lower low lower high (s ∷ spans) l h = ((omega (arith, l, h.0.0), h.0.1), begin_lower low lower high spans l h.1)

pub lies_lower : (low lower high : ℕ) (place : Option ℕ) → lower ≤ low → LiesIn low high place → LiesIn lower high place
lies_lower low lower high None l h = tt
lies_lower low lower high (Some p) l h = (omega (arith, l, h.0), h.1)
