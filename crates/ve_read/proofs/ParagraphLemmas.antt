-- A run that isn't whitespace alone is read as a paragraph.
use Rattle.std.proofs.Common.{◌≡◌, ℕ, zero, suc, ◌+◌, ◌<◌, Bool, true, false, if◌then◌else◌, List, [], ◌∷◌, ◌++◌, length, Option, Some, None, refl, sym, ap, ◌∙◌, subst, append-nil, append_assoc, length-append, arith}
use Rattle.std.specs.Prelude.{slice_get, chars}
use Rattle.std.specs.Option.{option_or}
use Rattle.model_spelling.specs.Forest.{Forest, spelling}
use Rattle.model_spelling.specs.ForestNodes.{ForestNode, forest_size}
use Rattle.model_spelling.proofs.ForestLaws.{spelling_then}
use Rattle.ve_kinds.specs.declared.kind.Kind.{Kind}
use Rattle.ve_kinds.specs.declared.kind.Kind.TheVariants.{P}
use Rattle.ve_base.specs.Empty.{empty_head}
use Rattle.ve_base.specs.declared.head.Head.{Head}
use Rattle.model_items.specs.declared.plain_item.PlainItem.TheVariants.{Opening, Closing}
use Rattle.model_page.specs.Elements.{is_white}
use Rattle.model_page.specs.Parts.{Parts, Ended, Words, Note, Group, Single, Parent, parts_of, source_of}
use Rattle.model_page.specs.Fit.{Flow, Content}
use Rattle.model_page.specs.Pieces.{SourceSpan, Made, source_span, node, no_piece, with_white}
use Rattle.model_page.specs.Convert.{made_of}
use Rattle.model_page.specs.Limits.{earlier, marked_at}
use Rattle.ve_html_tree.specs.declared.node.Node.{Node}
use Rattle.ve_classify.specs.FirstPart.{has_part, later_of, first_source, take_parts, part_nodes}
use Rattle.ve_classify.specs.Places.{StandsIn, PartsTo, AfterParts}
use Rattle.ve_classify.proofs.PartSource.{parted}
use Rattle.ve_classify.proofs.PartLemmas.{part_split, after_steps, part_begins, some_after}
use Rattle.ve_classify.specs.Runs.{then_parts, is_run, starts_block}
use Rattle.ve_classify.specs.Siblings.{siblings, front, paragraph}
use Rattle.ve_classify.proofs.BlockLemmas.{runs_read}
use Rattle.ve_classify.proofs.MarkedLemmas.{runs_marked}
use Rattle.ve_reader.specs.declared.purpose.ReadStop.{ReadStop}
use Rattle.ve_reader.specs.declared.reader.OpenNode.{OpenNode}
use Rattle.ve_reader.specs.ReadSoFar.{ReadSoFar, is_page, place_in, with_piece, piece_after, opening_piece, with_opening, with_closing, node_opened}
use Rattle.ve_reader.specs.Stops.{stop_limit, deep_in}
use Rattle.ve_reader.specs.Laws.{IsEven}
use Rattle.ve_reader.proofs.EvenLemmas.{pieces_are_even, insides_are_even}
use Rattle.ve_reader.proofs.JoinLemmas.{nodes_join}
use Rattle.ve_read.specs.Content.{content_made, with_content, content_limit}
use Rattle.ve_read.specs.ContentParts.{OfParts}
use Rattle.ve_read.proofs.LimitLemmas.{marked_lies, parts_begin}
use Rattle.ve_read.proofs.ContentTurns.{joined_none}
use Rattle.ve_read.proofs.ContentLoops.{stop_first}
use Rattle.ve_read.specs.Blocks.{with_siblings, siblings_limit, run_owners, with_paragraph, paragraph_limit}
use Rattle.ve_read.specs.BlockLaws.{RunsInTurn, RunLimits}
use Rattle.ve_read.proofs.PieceLemmas.{piece_alone}
use Rattle.ve_read.proofs.LieLemmas.{node_limits, tagged}
use Rattle.ve_read.proofs.BlockTurns.{Adds, adds_read, adds_limit}

-- ---- a run before what follows it

-- a text that isn't whitespace has a byte
record Bytes (s : List ℕ) : Type 0 where
  b : ℕ
  bs : List ℕ
  is : s ≡ b ∷ bs

some_bytes : (s : List ℕ) → is_white s ≡ false → Bytes s
some_bytes [] e = absurd cc
some_bytes (b ∷ bs) e = record { b = b; bs = bs; is = refl }

run_whole : (kind : Kind) (run rest : Parts) (at : ℕ) (r : ReadSoFar) → is_run run ≡ true → starts_block rest ≡ true → is_white (source_of run) ≡ false
    → siblings (Flow kind) (then_parts run rest) (place_in r at)
    ≡ front (paragraph run (place_in r at)) (run_owners run at r) (siblings (Flow kind) rest (place_in (with_paragraph run at r) (at + length (source_of run))))
run_whole kind run rest at r is next other =
    let b = some_bytes (source_of run) other in
    let after : Made = siblings (Flow kind) rest (place_in (with_paragraph run at r) (at + length (source_of run))) in
    runs_read kind run rest (place_in r at) b.b b.bs is next b.is
    ∙ ap (λ (white : Bool). if white then with_white (chars (source_of run)) (front no_piece (run_owners run at r) after) else front (paragraph run (place_in r at)) (run_owners run at r) after) other

paragraph_even : (kind : Kind) (run : Parts) (at : ℕ) (r : ReadSoFar) → is_run run ≡ true → is_white (source_of run) ≡ false → IsEven (paragraph run (place_in r at))
paragraph_even kind run at r is other =
    subst IsEven (ap (λ (m : Made). m.later) (run_whole kind run Ended at r is refl other) ∙ joined_none (paragraph run (place_in r at)))
    (insides_are_even (Flow kind) (then_parts run Ended) (place_in r at))

pub run_adds : (kind : Kind) (run rest : Parts) (at : ℕ) (r : ReadSoFar) → is_run run ≡ true → starts_block rest ≡ true → is_white (source_of run) ≡ false
    → Adds (Flow kind) (then_parts run rest) rest at (at + length (source_of run)) r (paragraph run (place_in r at)) (run_owners run at r) (marked_at (Content []) run at)
run_adds kind run rest at r is next other =
    let c : Made = made_of (Content []) run (place_in r at) in
    record {
      item = Opening P empty_head [] [] None true;
      items = c.run.items ++ Closing P [] ∷ [];
      some = refl;
      even = paragraph_even kind run at r is other;
      whole = run_whole kind run rest at r is next other;
      marked = runs_marked kind run rest at is;
      spans = ((omega arith, omega arith), (parts_begin (Content []) run (place_in r at) (at + length (source_of run)) (omega arith)).run);
      lies = marked_lies (Content []) run at;
    }

alone_paragraph : (run : Parts) (at : ℕ) (r : ReadSoFar) → with_piece (piece_after [] (paragraph run (place_in r at))) (run_owners run at r) r ≡ with_paragraph run at r
alone_paragraph run at r = ap (λ p. with_piece p (run_owners run at r) r) (piece_alone (paragraph run (place_in r at)))

alone_siblings : (kind : Kind) (parts : Parts) (at : ℕ) (r : ReadSoFar) → with_piece (piece_after [] (siblings (Flow kind) parts (place_in r at)).later) (siblings (Flow kind) parts (place_in r at)).owners r ≡ with_siblings (Flow kind) parts at r
alone_siblings kind parts at r = ap (λ p. with_piece p (siblings (Flow kind) parts (place_in r at)).owners r) (piece_alone (siblings (Flow kind) parts (place_in r at)).later)

pub runs_in_turn : RunsInTurn
runs_in_turn = λ kind run rest at r is next other.
    let end : ℕ = at + length (source_of run) in
    sym (alone_siblings kind (then_parts run rest) at r)
    ∙ adds_read [] (Flow kind) (then_parts run rest) rest at end r (paragraph run (place_in r at)) (run_owners run at r) (marked_at (Content []) run at) (run_adds kind run rest at r is next other)
    ∙ ap (with_siblings (Flow kind) rest end) (alone_paragraph run at r)

pub run_limits : RunLimits
run_limits = λ kind run rest at r is next other.
    let end : ℕ = at + length (source_of run) in
    adds_limit [] (Flow kind) (then_parts run rest) rest at end r (paragraph run (place_in r at)) (run_owners run at r) (marked_at (Content []) run at) (run_adds kind run rest at r is next other)
    ∙ ap (λ x. option_or (paragraph_limit run at r) (siblings_limit (Flow kind) rest end x)) (alone_paragraph run at r)

-- ---- the paragraph: its opening, content, and its closing

-- content, after the opening, where no mark is around
opened_made : (run : Parts) (at : ℕ) (span : SourceSpan) (r : ReadSoFar) → r.marks ≡ [] → content_made run at (with_opening P empty_head [] true span r) ≡ made_of (Content []) run (place_in r at)
opened_made run at span r none =
    let owners = append-nil r.owners in
    λ j. made_of (Content (none j)) run (record { at = at; owners = owners j; editable = is_page r.purpose })

pub paragraph_read : (run : Parts) (at : ℕ) (span : SourceSpan) (r : ReadSoFar) → r.marks ≡ [] → span ≡ source_span (place_in r at) (source_of run)
    → with_closing (node_opened P r) [] (with_content run at (with_opening P empty_head [] true span r)) ≡ with_paragraph run at r
paragraph_read run at span r none is =
    let opened : ReadSoFar = with_opening P empty_head [] true span r in
    let c : Made = made_of (Content []) run (place_in r at) in
    ap (λ (m : Made). with_closing (node_opened P r) [] (with_piece m.run m.owners opened)) (opened_made run at span r none)
    ∙ sym (nodes_join P empty_head [] true span c.run [] c.owners r (pieces_are_even (Content []) run (place_in r at)).0)
    ∙ ap (λ p. with_piece p c.owners r) (piece_alone (node P empty_head [] true span c.run []))
    ∙ ap (λ s. with_piece (node P empty_head [] true s c.run []) c.owners r) is

pub paragraph_stops : (run : Parts) (at : ℕ) (span : SourceSpan) (r : ReadSoFar) → r.marks ≡ [] → span ≡ source_span (place_in r at) (source_of run)
    → paragraph_limit run at r ≡ option_or (deep_in r (opening_piece P empty_head [] true span)) (content_limit run at (with_opening P empty_head [] true span r))
paragraph_stops run at span r none is =
    let opened : ReadSoFar = with_opening P empty_head [] true span r in
    let c : Made = made_of (Content []) run (place_in r at) in
    let marked : Option ℕ = marked_at (Content []) run at in
    let high : ℕ = at + length (source_of run) in
    let whole : SourceSpan = source_span (place_in r at) (source_of run) in
    let made = opened_made run at span r none in
    node_limits P empty_head [] true whole c.run [] r marked high (pieces_are_even (Content []) run (place_in r at)).0
    (parts_begin (Content []) run (place_in r at) high (omega arith)).run (marked_lies (Content []) run at)
    ∙ ap (λ s. option_or (deep_in r (opening_piece P empty_head [] true s)) (earlier (deep_in (with_opening P empty_head [] true s r) c.run) (tagged marked))) (sym is)
    ∙ sym (λ j. option_or (deep_in r (opening_piece P empty_head [] true span)) (earlier (deep_in opened (made j).run) (tagged (marked_at (Content (none j)) run at))))

-- ---- where it stands

pub taken_source : (m : ℕ) (p : Parts) → has_part p ≡ true → source_of (take_parts (suc m) p) ≡ first_source p ++ source_of (take_parts m (later_of p))
taken_source m Ended e = absurd cc
taken_source m (Words text rest) e = refl
taken_source m (Note text rest) e = refl
taken_source m (Group nodes rest) e = refl
taken_source m (Single name attrs source rest) e = refl
taken_source m (Parent name attrs children rest) e = refl

pub taken_spelling : (m : ℕ) (f rest : Forest) → AfterParts m f rest → spelling f ≡ source_of (take_parts m (parts_of f)) ++ spelling rest
taken_spelling zero f rest e = ap spelling e
taken_spelling (suc m) f rest t =
    let s = part_split f t.1 in
    let later = taken_spelling m s.after rest (after_steps m f rest s.after s.is t) in
    ap spelling s.is
    ∙ spelling_then (part_nodes f) s.after
    ∙ (λ j. sym s.source j ++ later j)
    ∙ sym (append_assoc (first_source (parts_of f)) (source_of (take_parts m (parts_of s.after))) (spelling rest))
    ∙ ap (λ p. (first_source (parts_of f) ++ source_of (take_parts m p)) ++ spelling rest) (sym s.later)
    ∙ ap (λ x. x ++ spelling rest) (sym (taken_source m (parts_of f) (parted f t.1)))

pub run_span : (text : List ℕ) (nodes : List Node) (n at : ℕ) (f : Forest) (more : List ForestNode) (end byte m : ℕ) (x : Node) (r : ReadSoFar) → n < end → StandsIn text nodes n at f more → PartsTo f n at end byte m → slice_get nodes n ≡ Some x →
    record { from = x.span.from; to = byte } ≡ source_span (place_in r at) (source_of (take_parts m (parts_of f)))
run_span text nodes n at f more end byte m x r lt s t is =
    let some = some_after f n (n + forest_size f) (omega (arith, lt, t.to_is)) refl in
    let from = part_begins text nodes n at f more x s some is in
    let long = ap length (taken_spelling m f t.after t.steps) ∙ length-append (source_of (take_parts m (parts_of f))) (spelling t.after) in
    let to : byte ≡ at + length (source_of (take_parts m (parts_of f))) = omega (arith, t.byte_is, long) in
    λ j. record { from = from j; to = to j }

module _ (text : List ℕ) (nodes : List Node) (n end byte : ℕ) (x : Node) (old : ReadSoFar) (lt : n < end) (is : slice_get nodes n ≡ Some x) (none : old.marks ≡ []) (head : Head) (white : List ℕ) (heads : head ≡ empty_head) (empty : white ≡ []) where
  -- what is over a limit is its opening, or else stands in the content
  limit_by : (f : Forest) (at m : ℕ) (more : List ForestNode) → StandsIn text nodes n at f more → PartsTo f n at end byte m →
      paragraph_limit (take_parts m (parts_of f)) at old
      ≡ option_or (deep_in old (opening_piece P head white true (record { from = x.span.from; to = byte }))) (content_limit (take_parts m (parts_of f)) at (with_opening P head white true (record { from = x.span.from; to = byte }) old))
  limit_by f at m more s t =
      let run : Parts = take_parts m (parts_of f) in
      let span : SourceSpan = record { from = x.span.from; to = byte } in
      paragraph_stops run at span old none (run_span text nodes n at f more end byte m x old lt s t is)
      ∙ sym (λ j. option_or (deep_in old (opening_piece P (heads j) (empty j) true span)) (content_limit run at (with_opening P (heads j) (empty j) true span old)))

  pub opening_stops : (e : ReadStop) → stop_limit e (deep_in old (opening_piece P head white true (record { from = x.span.from; to = byte }))) → OfParts text nodes n end byte (λ run at. stop_limit e (paragraph_limit run at old))
  opening_stops e stops = λ f at m more s t.
      stop_first e (deep_in old (opening_piece P head white true (record { from = x.span.from; to = byte }))) _ (paragraph_limit (take_parts m (parts_of f)) at old) (limit_by f at m more s t) stops

  module _ (opened : ReadSoFar) (opens : opened ≡ with_opening P head white true (record { from = x.span.from; to = byte }) old) (within : deep_in old (opening_piece P head white true (record { from = x.span.from; to = byte })) ≡ None) where
    rest_limit : (f : Forest) (at m : ℕ) (more : List ForestNode) → StandsIn text nodes n at f more → PartsTo f n at end byte m → paragraph_limit (take_parts m (parts_of f)) at old ≡ content_limit (take_parts m (parts_of f)) at opened
    rest_limit f at m more s t = limit_by f at m more s t ∙ (λ j. option_or (within j) (content_limit (take_parts m (parts_of f)) at (sym opens j)))

    pub content_stops : (e : ReadStop) → OfParts text nodes n end byte (λ run at. stop_limit e (content_limit run at opened)) → OfParts text nodes n end byte (λ run at. stop_limit e (paragraph_limit run at old))
    content_stops e stops = λ f at m more s t. subst (stop_limit e) (sym (rest_limit f at m more s t)) (stops f at m more s t)

    pub run_within : OfParts text nodes n end byte (λ run at. content_limit run at opened ≡ None) → OfParts text nodes n end byte (λ run at. paragraph_limit run at old ≡ None)
    run_within rest = λ f at m more s t. rest_limit f at m more s t ∙ rest f at m more s t

    pub run_is_read : (inside new : ReadSoFar) (node : OpenNode) → OfParts text nodes n end byte (λ run at. inside ≡ with_content run at opened) → node ≡ node_opened P old → new ≡ with_closing node white inside
        → OfParts text nodes n end byte (λ run at. new ≡ with_paragraph run at old)
    run_is_read inside new node reads node_is closes = λ f at m more s t.
        let run : Parts = take_parts m (parts_of f) in
        let span : SourceSpan = record { from = x.span.from; to = byte } in
        let read = reads f at m more s t in
        closes
        ∙ (λ j. with_closing (node_is j) (empty j) (read j))
        ∙ ap (λ r. with_closing (node_opened P old) [] (with_content run at r)) (opens ∙ (λ j. with_opening P (heads j) (empty j) true span old))
        ∙ paragraph_read run at span old none (run_span text nodes n at f more end byte m x old lt s t is)
