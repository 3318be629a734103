-- The walk over siblings: what stands first, and what is left after it.
use Rattle.std.proofs.Common.{◌≡◌, inl, inr, ℕ, ◌+◌, ◌<◌, ◌≤◌, true, false, List, [], ◌++◌, length, Option, None, refl, sym, ap, ◌∙◌, subst, append-nil, length-append, arith}
use Rattle.std.specs.Prelude.{chars}
use Rattle.std.specs.Option.{option_or}
use Rattle.std.proofs.lemmas.Str.{chars-nil}
use Rattle.model_spelling.specs.Forest.{Forest, Nothing, spelling}
use Rattle.model_spelling.specs.ForestNodes.{ForestNode, forest_size}
use Rattle.ve_base.specs.declared.marks.Mark.{Mark}
use Rattle.ve_kinds.specs.declared.kind.Kind.{Kind}
use Rattle.model_page.specs.Parts.{Parts, Ended, Words, Note, Group, Single, Parent, parts_of, source_of}
use Rattle.model_page.specs.Fit.{Around, Flow, Structural, Content, around_in}
use Rattle.model_page.specs.Pieces.{Piece, Owner, Made, Progress, past, no_piece, with_white}
use Rattle.model_page.specs.Convert.{made_of}
use Rattle.model_page.specs.Limits.{Limit, earlier, marked_at}
use Rattle.ve_html_tree.specs.declared.node.Node.{Node}
use Rattle.ve_classify.specs.Standing.{Stands}
use Rattle.ve_classify.specs.FirstPart.{first_source, take_parts}
use Rattle.ve_classify.specs.Places.{StandsIn, PartsTo, PartEnds}
use Rattle.ve_classify.proofs.PartLemmas.{all_parts, some_after, none_after}
use Rattle.ve_classify.specs.Siblings.{siblings, paragraph, first_block}
use Rattle.ve_classify.specs.Marked.{first_marked}
use Rattle.ve_classify.specs.Units.{Whole, WholeRun}
use Rattle.ve_classify.proofs.ContentLemmas.{content_splits}
use Rattle.ve_reader.specs.declared.purpose.Purpose.{Purpose}
use Rattle.ve_reader.specs.declared.purpose.Purpose.TheVariants as purpose
use Rattle.ve_reader.specs.declared.purpose.ReadStop.{ReadStop}
use Rattle.ve_reader.specs.ReadSoFar.{ReadSoFar, is_page, items_here, shown_rows, place_in, with_piece, piece_after}
use Rattle.ve_reader.specs.Stops.{stop_limit, depth_limit, deep_in}
use Rattle.ve_read.specs.Content.{with_content, content_limit}
use Rattle.ve_read.specs.ContentParts.{OfParts, SomeParts}
use Rattle.ve_read.proofs.ContentLoops.{stop_first}
use Rattle.ve_read.specs.declared.units.Sort.TheVariants as sort
use Rattle.ve_read.specs.declared.units.Unit.{Unit}
use Rattle.ve_read.specs.Blocks.{siblings_made, with_siblings, white_at_end, siblings_limit, made_after, with_blocks, white_after, run_owners, with_paragraph, paragraph_limit}
use Rattle.ve_read.specs.Places.{OfBlock, OfSiblings, SomeBlock, SomeSiblings}
use Rattle.ve_read.specs.Units.{is_ready, MayWait, IsTextAt, SomeText, IsWhite, IsRun, IsBlockAt, SortIs, IsUnitAt, SomeUnit, OfUnit, After}
use Rattle.ve_read.proofs.PieceLemmas.{piece_alone, left_alone, deep_after}
use Rattle.ve_read.proofs.LieLemmas.{tagged}
use Rattle.ve_read.proofs.BlockTurns.{Adds, adds_read, adds_pre, adds_limit, block_alone, block_adds}
use Rattle.ve_read.proofs.FitLemmas.{block_of}
use Rattle.ve_read.proofs.ParagraphLemmas.{run_adds, taken_spelling}

-- ---- no whitespace is pending

no_chars : (white : List ℕ) → white ≡ [] → chars white ≡ []
no_chars white e = ap chars e ∙ chars-nil

-- what is made then
none_before : (m : Made) → with_white [] m ≡ m
none_before m =
    let piece = piece_alone m.later in
    let pre = left_alone m.later.items m.pre in
    λ j. record { run = m.run; source = m.source; later = piece j; pre = pre j; owners = m.owners }

pub made_alone : (white : List ℕ) (around : Around) (parts : Parts) (at : ℕ) (r : ReadSoFar) → white ≡ [] → made_after (chars white) around parts at r ≡ siblings_made around parts at r
made_alone white around parts at r e = ap (λ w. with_white w (siblings_made around parts at r)) (no_chars white e) ∙ none_before (siblings_made around parts at r)

-- ---- whitespace

no_wait : (around : Around) (white : List ℕ) (f : Forest) → MayWait around white f → is_ready around f ≡ false → white ≡ []
no_wait around white f (inl e) r = e
no_wait around white f (inr e) r = absurd cc

module _ (text : List ℕ) (nodes : List Node) (around : Around) (n end byte : ℕ) (white next : List ℕ) (r : ReadSoFar) (f : Forest) (at : ℕ) (more : List ForestNode) (u : IsWhite text nodes around n at f more end byte) (none : white ≡ []) (is : next ≡ u.white) where
  -- where what follows it is read
  place_is : past (place_in r at) u.white [] ≡ place_in r byte
  place_is =
      let owners = append-nil r.owners in
      let to = sym u.byte_is in
      λ j. record { at = to j; owners = owners j; editable = is_page r.purpose }

  goes_on : siblings_made around (parts_of f) at r ≡ made_after (chars next) around (parts_of u.after) byte r
  goes_on =
      let to = place_is in
      let w = sym is in
      u.goes (place_in r at) ∙ (λ j. with_white (chars (w j)) (siblings around (parts_of u.after) (to j)))

  white_made : made_after (chars next) around (parts_of u.after) byte r ≡ made_after (chars white) around (parts_of f) at r
  white_made = sym (made_alone white around (parts_of f) at r none ∙ goes_on)

  white_limit : siblings_limit around (parts_of u.after) byte r ≡ siblings_limit around (parts_of f) at r
  white_limit =
      let deep = ap (λ (m : Made). deep_in r m.later) goes_on ∙ deep_after r (chars next) (siblings_made around (parts_of u.after) byte r).later in
      let marked = ap (λ x. marked_at around (parts_of x) at) u.is ∙ ap (marked_at around (parts_of u.after)) (sym u.byte_is) in
      sym (λ j. earlier (deep j) (tagged (marked j)))

  pub after_white : After text nodes around n end byte white next r r f at more
  after_white = record {
    after = u.after;
    stands = u.stands;
    to_is = u.to_is;
    length_is = omega (arith, u.byte_is, ap (λ x. length (spelling x)) u.is, length-append u.white (spelling u.after));
    waits = inr u.next;
    read = ap (λ (m : Made). with_piece m.later m.owners r) white_made;
    pre = ap (λ (m : Made). m.pre) white_made;
    limit = white_limit;
  }

-- the text of the node is the whitespace
pub white_text : (text : List ℕ) (nodes : List Node) (around : Around) (n at : ℕ) (f : Forest) (more : List ForestNode) (end byte : ℕ) (next : List ℕ) → StandsIn text nodes n at f more → (u : IsWhite text nodes around n at f more end byte) → IsTextAt nodes n next → next ≡ u.white
white_text text nodes around n at f more end byte next s u is = is u.white u.after at more (subst (λ x. Stands nodes n at x more) u.is s.stands)

pub some_text : (text : List ℕ) (nodes : List Node) (around : Around) (n at : ℕ) (f : Forest) (more : List ForestNode) (end byte : ℕ) → StandsIn text nodes n at f more → IsWhite text nodes around n at f more end byte → SomeText nodes n
some_text text nodes around n at f more end byte s u = record { text = u.white; rest = u.after; at = at; more = more; stands = subst (λ x. Stands nodes n at x more) u.is s.stands }

-- ---- a block or a run

module _ (text : List ℕ) (nodes : List Node) (around : Around) (n end byte : ℕ) (white next : List ℕ) (old new : ReadSoFar) (f : Forest) (at : ℕ) (more : List ForestNode) (after : Forest) (stands : StandsIn text nodes end byte after more)
    (to_is : n + forest_size f ≡ end + forest_size after) (length_is : at + length (spelling f) ≡ byte + length (spelling after)) (piece : Piece) (owners : List Owner) (here : Option ℕ)
    (a : Adds around (parts_of f) (parts_of after) at byte old piece owners here) (empty : next ≡ []) (reads : new ≡ with_piece (piece_after (chars white) piece) owners old) (within : earlier (deep_in old piece) (tagged here) ≡ None) where
  pub after_piece : After text nodes around n end byte white next old new f at more
  after_piece =
      let read = adds_read (chars white) around (parts_of f) (parts_of after) at byte old piece owners here a in
      let pre = adds_pre (chars white) around (parts_of f) (parts_of after) at byte old piece owners here a in
      let limit = adds_limit (chars white) around (parts_of f) (parts_of after) at byte old piece owners here a in
      let made = made_alone next around (parts_of after) byte new empty in
      record {
        after = after;
        stands = stands;
        to_is = to_is;
        length_is = length_is;
        waits = inl empty;
        read = ap (λ (m : Made). with_piece m.later m.owners new) made ∙ ap (with_siblings around (parts_of after) byte) reads ∙ sym read;
        pre = ap (λ (m : Made). m.pre) made ∙ ap (λ x. (siblings_made around (parts_of after) byte x).pre) reads ∙ sym pre;
        limit = ap (siblings_limit around (parts_of after) byte) reads ∙ sym (limit ∙ ap (λ o. option_or o (siblings_limit around (parts_of after) byte (with_piece (piece_after (chars white) piece) owners old))) within);
      }

-- A block before other siblings, as it is added.
record BlockAdds (text : List ℕ) (nodes : List Node) (around : Around) (n end byte : ℕ) (f : Forest) (at : ℕ) (more : List ForestNode) (old : ReadSoFar) (part : PartEnds text nodes n at f more end byte) : Type 0 where
  piece : Piece
  owners : List Owner
  adds : Adds around (parts_of f) (parts_of part.after) at byte old piece owners (first_marked around (parts_of f) at)
  read : (white : List ℕ) → with_blocks white around (take_parts 1 (parts_of f)) at old ≡ with_piece (piece_after white piece) owners old
  limit : siblings_limit around (take_parts 1 (parts_of f)) at old ≡ earlier (deep_in old piece) (tagged (first_marked around (parts_of f) at))

block_added : (text : List ℕ) (nodes : List Node) (around : Around) (n end byte : ℕ) (f : Forest) (at : ℕ) (more : List ForestNode) (old : ReadSoFar) (part : PartEnds text nodes n at f more end byte) → first_block around (parts_of f) ≡ true
    → BlockAdds text nodes around n end byte f at more old part
block_added text nodes around n end byte f at more old part block =
    let b = block_of around (parts_of f) (place_in old at) block in
    let alone = block_alone around (parts_of f) at old b.piece b.owners block b.is in
    let adds = block_adds around (parts_of f) at old b.piece b.owners b.item b.items block b.is b.some in
    let to = sym part.byte_is in
    let parts = part.parts in
    record {
      piece = b.piece;
      owners = b.owners;
      adds = subst (λ to. Adds around (parts_of f) (parts_of part.after) at to old b.piece b.owners (first_marked around (parts_of f) at)) to
          (subst (λ p. Adds around (parts_of f) p at (at + length (first_source (parts_of f))) old b.piece b.owners (first_marked around (parts_of f) at)) parts adds);
      read = alone.read;
      limit = alone.limit;
    }

pub after_block : (text : List ℕ) (nodes : List Node) (around : Around) (n end byte : ℕ) (white next : List ℕ) (old new : ReadSoFar) (f : Forest) (at : ℕ) (more : List ForestNode) → IsBlockAt text nodes around n at f more end byte
    → next ≡ [] → new ≡ with_blocks (chars white) around (take_parts 1 (parts_of f)) at old → siblings_limit around (take_parts 1 (parts_of f)) at old ≡ None → After text nodes around n end byte white next old new f at more
after_block text nodes around n end byte white next old new f at more u empty reads within =
    let b = block_added text nodes around n end byte f at more old u.part u.block in
    after_piece text nodes around n end byte white next old new f at more u.part.after u.part.stands u.part.count_is u.part.length_is b.piece b.owners (first_marked around (parts_of f) at) b.adds empty
    (reads ∙ b.read (chars white)) (sym b.limit ∙ within)

pub block_stops : (text : List ℕ) (nodes : List Node) (around : Around) (n end byte : ℕ) (old : ReadSoFar) (f : Forest) (at : ℕ) (more : List ForestNode) (e : ReadStop) → IsBlockAt text nodes around n at f more end byte
    → stop_limit e (siblings_limit around (take_parts 1 (parts_of f)) at old) → stop_limit e (siblings_limit around (parts_of f) at old)
block_stops text nodes around n end byte old f at more e u stops =
    let b = block_added text nodes around n end byte f at more old u.part u.block in
    stop_first e (siblings_limit around (take_parts 1 (parts_of f)) at old) _ (siblings_limit around (parts_of f) at old)
    (adds_limit [] around (parts_of f) (parts_of u.part.after) at byte old b.piece b.owners (first_marked around (parts_of f) at) b.adds
    ∙ ap (λ o. option_or o (siblings_limit around (parts_of u.part.after) byte (with_piece (piece_after [] b.piece) b.owners old))) (sym b.limit)) stops

-- A run before other siblings.
run_added : (text : List ℕ) (nodes : List Node) (kind : Kind) (n end byte : ℕ) (f : Forest) (at : ℕ) (more : List ForestNode) (old : ReadSoFar) → (run : WholeRun text nodes n at f more end byte false)
    → let parts = take_parts run.so_far.parts (parts_of f) in
    Adds (Flow kind) (parts_of f) (parts_of run.so_far.run.after) at byte old (paragraph parts (place_in old at)) (run_owners parts at old) (marked_at (Content []) parts at)
run_added text nodes kind n end byte f at more old run =
    let parts : Parts = take_parts run.so_far.parts (parts_of f) in
    let after : Forest = run.so_far.run.after in
    let spelled = ap length (taken_spelling run.so_far.parts f after run.so_far.run.steps) ∙ length-append (source_of parts) (spelling after) in
    let to : at + length (source_of parts) ≡ byte = omega (arith, run.so_far.run.byte_is, spelled) in
    let adds = run_adds kind parts (parts_of after) at old run.so_far.is run.next (sym run.so_far.white_is) in
    subst (λ to. Adds (Flow kind) (parts_of f) (parts_of after) at to old (paragraph parts (place_in old at)) (run_owners parts at old) (marked_at (Content []) parts at)) to
    (subst (λ p. Adds (Flow kind) p (parts_of after) at (at + length (source_of parts)) old (paragraph parts (place_in old at)) (run_owners parts at old) (marked_at (Content []) parts at)) (sym run.split) adds)

pub after_run : (text : List ℕ) (nodes : List Node) (around : Around) (n end byte : ℕ) (white next : List ℕ) (old new : ReadSoFar) (f : Forest) (at : ℕ) (more : List ForestNode) → StandsIn text nodes n at f more → IsRun text nodes around n at f more end byte
    → MayWait around white f → next ≡ [] → OfParts text nodes n end byte (λ run at. new ≡ with_paragraph run at old) → OfParts text nodes n end byte (λ run at. paragraph_limit run at old ≡ None)
    → After text nodes around n end byte white next old new f at more
after_run text nodes around n end byte white next old new f at more s u waits empty reads within =
    let run = u.run.so_far.run in
    let parts : Parts = take_parts u.run.so_far.parts (parts_of f) in
    let none = no_wait around white f waits (ap (λ a. is_ready a f) u.flow ∙ u.first) in
    let adds = subst (λ a. Adds a (parts_of f) (parts_of run.after) at byte old (paragraph parts (place_in old at)) (run_owners parts at old) (marked_at (Content []) parts at)) (sym u.flow) (run_added text nodes u.kind n end byte f at more old u.run) in
    let alone = sym (ap (λ w. piece_after w (paragraph parts (place_in old at))) (no_chars white none) ∙ piece_alone (paragraph parts (place_in old at))) in
    after_piece text nodes around n end byte white next old new f at more run.after u.run.so_far.stands run.to_is run.byte_is (paragraph parts (place_in old at)) (run_owners parts at old) (marked_at (Content []) parts at) adds empty
    (reads f at u.run.so_far.parts more s run ∙ ap (λ p. with_piece p (run_owners parts at old) old) alone) (within f at u.run.so_far.parts more s run)

pub run_stops : (text : List ℕ) (nodes : List Node) (around : Around) (n end byte : ℕ) (old : ReadSoFar) (f : Forest) (at : ℕ) (more : List ForestNode) (e : ReadStop) → StandsIn text nodes n at f more → IsRun text nodes around n at f more end byte
    → OfParts text nodes n end byte (λ run at. stop_limit e (paragraph_limit run at old)) → stop_limit e (siblings_limit around (parts_of f) at old)
run_stops text nodes around n end byte old f at more e s u stops =
    let run = u.run.so_far.run in
    let parts : Parts = take_parts u.run.so_far.parts (parts_of f) in
    let adds = run_added text nodes u.kind n end byte f at more old u.run in
    stop_first e (paragraph_limit parts at old) _ (siblings_limit around (parts_of f) at old)
    (ap (λ a. siblings_limit a (parts_of f) at old) u.flow
    ∙ adds_limit [] (Flow u.kind) (parts_of f) (parts_of run.after) at byte old (paragraph parts (place_in old at)) (run_owners parts at old) (marked_at (Content []) parts at) adds)
    (stops f at u.run.so_far.parts more s run)

-- ---- marks stay as they are

pub run_marks : (text : List ℕ) (nodes : List Node) (n end byte : ℕ) (old new : ReadSoFar) → SomeParts text nodes n end byte → OfParts text nodes n end byte (λ run at. new ≡ with_paragraph run at old) → old.marks ≡ [] → new.marks ≡ []
run_marks text nodes n end byte old new p reads none = ap (λ (r : ReadSoFar). r.marks) (reads p.forest p.at p.count p.more p.stands p.parts) ∙ none

pub block_marks : (text : List ℕ) (nodes : List Node) (around : Around) (n end byte : ℕ) (white : List ℕ) (old new : ReadSoFar) → SomeBlock text nodes around n end byte
    → OfBlock text nodes around n end byte (λ parts at. new ≡ with_blocks white around parts at old) → old.marks ≡ [] → new.marks ≡ []
block_marks text nodes around n end byte white old new b reads none = ap (λ (r : ReadSoFar). r.marks) (reads b.forest b.at b.more b.stands b.some b.block b.part) ∙ none

-- ---- what stands first, by its sort

module _ (text : List ℕ) (nodes : List Node) (around : Around) (n : ℕ) (white next : List ℕ) (unit : Unit) where
  -- some siblings stand there, of which it stands first
  pub unit_text : SomeUnit text nodes around n unit → unit.sort ≡ sort.White → SomeText nodes n
  unit_text u is = some_text text nodes around n u.at u.forest u.more unit.part.end unit.part.byte u.stands (subst (λ s. SortIs s text nodes around n u.at u.forest u.more unit.part.end unit.part.byte) is u.is)

  pub unit_parts : SomeUnit text nodes around n unit → unit.sort ≡ sort.Run → SomeParts text nodes n unit.part.end unit.part.byte
  unit_parts u is =
      let r : IsRun text nodes around n u.at u.forest u.more unit.part.end unit.part.byte = subst (λ s. SortIs s text nodes around n u.at u.forest u.more unit.part.end unit.part.byte) is u.is in
      record { forest = u.forest; at = u.at; more = u.more; count = r.run.so_far.parts; stands = u.stands; parts = r.run.so_far.run }

  pub unit_block : n < unit.part.end → SomeUnit text nodes around n unit → unit.sort ≡ sort.Block → SomeBlock text nodes around n unit.part.end unit.part.byte
  unit_block lt u is =
      let b : IsBlockAt text nodes around n u.at u.forest u.more unit.part.end unit.part.byte = subst (λ s. SortIs s text nodes around n u.at u.forest u.more unit.part.end unit.part.byte) is u.is in
      record { forest = u.forest; at = u.at; more = u.more; stands = u.stands; some = some_after u.forest n (n + forest_size u.forest) (omega (arith, lt, b.part.count_is)) refl; block = b.block; part = b.part }

  -- it is read
  pub white_read : (r : ReadSoFar) → unit.sort ≡ sort.White → IsTextAt nodes n next → OfUnit text nodes around n unit white (After text nodes around n unit.part.end unit.part.byte white next r r)
  white_read r is text_is = λ f at more s sorted waits.
      let u : IsWhite text nodes around n at f more unit.part.end unit.part.byte = subst (λ k. SortIs k text nodes around n at f more unit.part.end unit.part.byte) is sorted in
      after_white text nodes around n unit.part.end unit.part.byte white next r f at more u (no_wait around white f waits u.first) (white_text text nodes around n at f more unit.part.end unit.part.byte next s u text_is)

  pub run_read : (old new : ReadSoFar) → unit.sort ≡ sort.Run → next ≡ [] → OfParts text nodes n unit.part.end unit.part.byte (λ run at. new ≡ with_paragraph run at old)
      → OfParts text nodes n unit.part.end unit.part.byte (λ run at. paragraph_limit run at old ≡ None) → OfUnit text nodes around n unit white (After text nodes around n unit.part.end unit.part.byte white next old new)
  run_read old new is empty reads within = λ f at more s sorted waits.
      let u : IsRun text nodes around n at f more unit.part.end unit.part.byte = subst (λ k. SortIs k text nodes around n at f more unit.part.end unit.part.byte) is sorted in
      after_run text nodes around n unit.part.end unit.part.byte white next old new f at more s u waits empty reads within

  pub block_read : (old new : ReadSoFar) → unit.sort ≡ sort.Block → n < unit.part.end → next ≡ [] → OfBlock text nodes around n unit.part.end unit.part.byte (λ parts at. new ≡ with_blocks (chars white) around parts at old)
      → OfBlock text nodes around n unit.part.end unit.part.byte (λ parts at. siblings_limit around parts at old ≡ None) → OfUnit text nodes around n unit white (After text nodes around n unit.part.end unit.part.byte white next old new)
  block_read old new is lt empty reads within = λ f at more s sorted waits.
      let u : IsBlockAt text nodes around n at f more unit.part.end unit.part.byte = subst (λ k. SortIs k text nodes around n at f more unit.part.end unit.part.byte) is sorted in
      let some = some_after f n (n + forest_size f) (omega (arith, lt, u.part.count_is)) refl in
      after_block text nodes around n unit.part.end unit.part.byte white next old new f at more u empty (reads f at more s some u.block u.part) (within f at more s some u.block u.part)

  -- reading stops in it
  pub run_over : (old : ReadSoFar) (e : ReadStop) → unit.sort ≡ sort.Run → OfParts text nodes n unit.part.end unit.part.byte (λ run at. stop_limit e (paragraph_limit run at old))
      → OfUnit text nodes around n unit white (λ f at _. stop_limit e (siblings_limit around (parts_of f) at old))
  run_over old e is stops = λ f at more s sorted waits.
      let u : IsRun text nodes around n at f more unit.part.end unit.part.byte = subst (λ k. SortIs k text nodes around n at f more unit.part.end unit.part.byte) is sorted in
      run_stops text nodes around n unit.part.end unit.part.byte old f at more e s u stops

  pub block_over : (old : ReadSoFar) (e : ReadStop) → unit.sort ≡ sort.Block → n < unit.part.end → OfBlock text nodes around n unit.part.end unit.part.byte (λ parts at. stop_limit e (siblings_limit around parts at old))
      → OfUnit text nodes around n unit white (λ f at _. stop_limit e (siblings_limit around (parts_of f) at old))
  block_over old e is lt stops = λ f at more s sorted waits.
      let u : IsBlockAt text nodes around n at f more unit.part.end unit.part.byte = subst (λ k. SortIs k text nodes around n at f more unit.part.end unit.part.byte) is sorted in
      let some = some_after f n (n + forest_size f) (omega (arith, lt, u.part.count_is)) refl in
      block_stops text nodes around n unit.part.end unit.part.byte old f at more e u (stops f at more s some u.block u.part)

-- ---- the loop

-- Siblings and whitespace are left, after which all is read as it was to be, and what is over a
-- limit is what was to be.
pub record Left (text : List ℕ) (nodes : List Node) (around : Around) (n to byte : ℕ) (white : List ℕ) (old now : ReadSoFar) (parts : Parts) (at : ℕ) : Type 0 where
  pub forest : Forest
  pub place : ℕ
  pub more : List ForestNode
  pub stands : StandsIn text nodes n place forest more
  pub whole : Whole forest n place to byte
  pub waits : MayWait around white forest
  pub read : with_blocks (chars white) around (parts_of forest) place now ≡ with_siblings around parts at old
  pub pre : white_after (chars white) around (parts_of forest) place now ≡ white_at_end around parts at old
  pub limit : siblings_limit around (parts_of forest) place now ≡ siblings_limit around parts at old

abbrev pub LeftOf : List ℕ → List Node → Around → ℕ → ℕ → ℕ → ℕ → List ℕ → ReadSoFar → ReadSoFar → Type 0
LeftOf text nodes around from n to byte white old now = OfSiblings text nodes from to byte (Left text nodes around n to byte white old now)

pub all_left : (text : List ℕ) (nodes : List Node) (around : Around) (from to byte : ℕ) (white : List ℕ) (r : ReadSoFar) → white ≡ [] → LeftOf text nodes around from from to byte white r r
all_left text nodes around from to byte white r none = λ f at more s w.
    let made = made_alone white around (parts_of f) at r none in
    record {
      forest = f;
      place = at;
      more = more;
      stands = s;
      whole = w;
      waits = inl none;
      read = ap (λ (m : Made). with_piece m.later m.owners r) made;
      pre = ap (λ (m : Made). m.pre) made;
      limit = refl;
    }

-- what stands first is read
pub left_after : (text : List ℕ) (nodes : List Node) (around : Around) (from n to byte : ℕ) (white next : List ℕ) (unit : Unit) (old now new : ReadSoFar) → IsUnitAt nodes around n to byte unit
    → OfUnit text nodes around n unit white (After text nodes around n unit.part.end unit.part.byte white next now new) → LeftOf text nodes around from n to byte white old now
    → LeftOf text nodes around from unit.part.end to byte next old new
left_after text nodes around from n to byte white next unit old now new is after left = λ f at more s w.
    let l = left f at more s w in
    let a = after l.forest l.place l.more l.stands (is text l.forest l.place l.more l.stands l.whole) l.waits in
    record {
      forest = a.after;
      place = unit.part.byte;
      more = l.more;
      stands = a.stands;
      whole = record { to_is = omega (arith, a.to_is, l.whole.to_is); byte_is = omega (arith, a.length_is, l.whole.byte_is) };
      waits = a.waits;
      read = a.read ∙ l.read;
      pre = a.pre ∙ l.pre;
      limit = a.limit ∙ l.limit;
    }

pub left_stops : (text : List ℕ) (nodes : List Node) (around : Around) (from n to byte : ℕ) (white : List ℕ) (unit : Unit) (old now : ReadSoFar) (e : ReadStop) → IsUnitAt nodes around n to byte unit
    → OfUnit text nodes around n unit white (λ f at _. stop_limit e (siblings_limit around (parts_of f) at now)) → LeftOf text nodes around from n to byte white old now
    → OfSiblings text nodes from to byte (λ parts at. stop_limit e (siblings_limit around parts at old))
left_stops text nodes around from n to byte white unit old now e is stops left = λ f at more s w.
    let l = left f at more s w in
    subst (stop_limit e) l.limit (stops l.forest l.place l.more l.stands (is text l.forest l.place l.more l.stands l.whole) l.waits)

pub some_unit : (text : List ℕ) (nodes : List Node) (around : Around) (from n to byte : ℕ) (white : List ℕ) (unit : Unit) (old now : ReadSoFar) → IsUnitAt nodes around n to byte unit → SomeSiblings text nodes from to byte
    → LeftOf text nodes around from n to byte white old now → SomeUnit text nodes around n unit
some_unit text nodes around from n to byte white unit old now is p left =
    let l = left p.forest p.at p.more p.stands p.whole in
    record { forest = l.forest; at = l.place; more = l.more; stands = l.stands; is = is text l.forest l.place l.more l.stands l.whole }

-- ---- nothing is left

shown_none : (p : Purpose) (k : ℕ) → items_here p k [] ≡ []
shown_none purpose.Page k = refl
shown_none purpose.Body k = refl
shown_none purpose.Fragment k = refl

rows_none : (p : Purpose) (at : ℕ) → shown_rows p at no_piece ≡ []
rows_none purpose.Page at = refl
rows_none purpose.Body at = refl
rows_none purpose.Fragment at = refl

with_none : (r : ReadSoFar) → with_piece no_piece [] r ≡ r
with_none r =
    let items = ap (λ xs. r.items ++ xs) (shown_none r.purpose (length r.rows)) ∙ append-nil r.items in
    let rows = ap (λ xs. r.rows ++ xs) (rows_none r.purpose (length r.items)) ∙ append-nil r.rows in
    let owners = append-nil r.owners in
    λ j. record { purpose = r.purpose; depth = r.depth; items = items j; marks = r.marks; rows = rows j; owners = owners j }

deep_none : (p : Purpose) (depth : ℕ) → earlier (depth_limit p depth no_piece) None ≡ None
deep_none purpose.Page depth = refl
deep_none purpose.Body depth = refl
deep_none purpose.Fragment depth = refl

ended_read : (white : List ℕ) (around : Around) (at : ℕ) (r : ReadSoFar) → with_blocks white around Ended at r ≡ with_piece no_piece [] r
ended_read white (Flow kind) at r = refl
ended_read white (Structural kind) at r = refl
ended_read white (Content marks) at r = refl

ended_pre : (white : List ℕ) (around : Around) (at : ℕ) (r : ReadSoFar) → white_after white around Ended at r ≡ white ++ []
ended_pre white (Flow kind) at r = refl
ended_pre white (Structural kind) at r = refl
ended_pre white (Content marks) at r = refl

ended_limit : (around : Around) (at : ℕ) (r : ReadSoFar) → siblings_limit around Ended at r ≡ earlier (depth_limit r.purpose r.depth no_piece) None
ended_limit (Flow kind) at r = refl
ended_limit (Structural kind) at r = refl
ended_limit (Content marks) at r = refl

module _ (text : List ℕ) (nodes : List Node) (around : Around) (from n to byte : ℕ) (white : List ℕ) (old now : ReadSoFar) (le : to ≤ n) (left : LeftOf text nodes around from n to byte white old now) where
  pub all_read : OfSiblings text nodes from to byte (λ parts at. now ≡ with_siblings around parts at old)
  all_read = λ f at more s w.
      let l = left f at more s w in
      let none = none_after l.forest n to le (sym l.whole.to_is) in
      sym (ap (λ x. with_blocks (chars white) around (parts_of x) l.place now) none ∙ ended_read (chars white) around l.place now ∙ with_none now) ∙ l.read

  pub all_white : OfSiblings text nodes from to byte (λ parts at. chars white ≡ white_at_end around parts at old)
  all_white = λ f at more s w.
      let l = left f at more s w in
      let none = none_after l.forest n to le (sym l.whole.to_is) in
      sym (ap (λ x. white_after (chars white) around (parts_of x) l.place now) none ∙ ended_pre (chars white) around l.place now ∙ append-nil (chars white)) ∙ l.pre

  pub all_within : OfSiblings text nodes from to byte (λ parts at. siblings_limit around parts at old ≡ None)
  all_within = λ f at more s w.
      let l = left f at more s w in
      let none = none_after l.forest n to le (sym l.whole.to_is) in
      sym l.limit ∙ ap (λ x. siblings_limit around (parts_of x) l.place now) none ∙ ended_limit around l.place now ∙ deep_none now.purpose now.depth

-- ---- content

-- no whitespace is left at the end of content
content_pre : (marks : List Mark) (parts : Parts) (w : Progress) → (made_of (Content marks) parts w).pre ≡ []
content_pre marks Ended w = refl
content_pre marks (Words text rest) w = content_pre marks rest (past w text [])
content_pre marks (Note text rest) w = let s = content_splits marks (Note text rest) w refl in ap (λ (m : Made). m.pre) s.1 ∙ content_pre marks rest (past w (first_source (Note text rest)) s.0.owners)
content_pre marks (Group nodes rest) w = let s = content_splits marks (Group nodes rest) w refl in ap (λ (m : Made). m.pre) s.1 ∙ content_pre marks rest (past w (first_source (Group nodes rest)) s.0.owners)
content_pre marks (Single name attrs source rest) w =
    let s = content_splits marks (Single name attrs source rest) w refl in ap (λ (m : Made). m.pre) s.1 ∙ content_pre marks rest (past w (first_source (Single name attrs source rest)) s.0.owners)
content_pre marks (Parent name attrs children rest) w =
    let s = content_splits marks (Parent name attrs children rest) w refl in ap (λ (m : Made). m.pre) s.1 ∙ content_pre marks rest (past w (first_source (Parent name attrs children rest)) s.0.owners)

-- all parts
whole_to : (f : Forest) (n at to byte : ℕ) → Whole f n at to byte → PartsTo f n at to byte (all_parts f).0
whole_to f n at to byte w = record { after = Nothing; steps = (all_parts f).1; to_is = omega (arith, w.to_is); byte_is = omega (arith, w.byte_is) }

pub content_parts : (text : List ℕ) (nodes : List Node) (from to byte : ℕ) → SomeSiblings text nodes from to byte → SomeParts text nodes from to byte
content_parts text nodes from to byte p =
    record { forest = p.forest; at = p.at; more = p.more; count = (all_parts p.forest).0; stands = p.stands; parts = whole_to p.forest from p.at to byte p.whole }

module _ (text : List ℕ) (nodes : List Node) (kind : Kind) (from to byte : ℕ) (old : ReadSoFar) (content : around_in kind ≡ Content []) (none : old.marks ≡ []) where
  pub content_read : (new : ReadSoFar) → OfParts text nodes from to byte (λ parts at. new ≡ with_content parts at old) → OfSiblings text nodes from to byte (λ parts at. new ≡ with_siblings (around_in kind) parts at old)
  content_read new reads = λ f at more s w.
      let all = all_parts f in
      reads f at all.0 more s (whole_to f from at to byte w)
      ∙ ap (λ p. with_content p at old) all.2
      ∙ ap (λ marks. let made = made_of (Content marks) (parts_of f) (place_in old at) in with_piece made.run made.owners old) none
      ∙ sym (ap (λ a. with_siblings a (parts_of f) at old) content)

  pub content_white : (white : List ℕ) → white ≡ [] → OfSiblings text nodes from to byte (λ parts at. chars white ≡ white_at_end (around_in kind) parts at old)
  content_white white empty = λ f at more s w. no_chars white empty ∙ sym (ap (λ a. white_at_end a (parts_of f) at old) content ∙ content_pre [] (parts_of f) (place_in old at))

  -- what is said of what is over a limit
  pub content_limits : (says : Option Limit → Type 0) → OfParts text nodes from to byte (λ parts at. says (content_limit parts at old)) → OfSiblings text nodes from to byte (λ parts at. says (siblings_limit (around_in kind) parts at old))
  content_limits says said = λ f at more s w.
      let all = all_parts f in
      subst says
      (ap (λ p. content_limit p at old) all.2
      ∙ ap (λ marks. earlier (deep_in old (made_of (Content marks) (parts_of f) (place_in old at)).run) (tagged (marked_at (Content marks) (parts_of f) at))) none
      ∙ sym (ap (λ a. siblings_limit a (parts_of f) at old) content))
      (said f at all.0 more s (whole_to f from at to byte w))
