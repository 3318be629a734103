-- A block, or a run as a paragraph, is read before what follows it, and what is over a limit stands
-- in it or else in what follows it.
use Rattle.std.proofs.Common.{◌≡◌, ℕ, ◌+◌, true, List, [], ◌∷◌, ◌++◌, length, Option, Some, None, refl, sym, ap, ◌∙◌, subst, append-nil, length-append, arith}
use Rattle.std.specs.Option.{option_or}
use Rattle.model_items.specs.declared.plain_item.PlainItem.{PlainItem}
use Rattle.model_page.specs.Parts.{Parts, Ended, Words, Note, Group, Single, Parent, source_of}
use Rattle.model_page.specs.Fit.{Around, Flow, Structural, Content}
use Rattle.model_page.specs.Pieces.{Piece, Owner, Made, Progress, past, no_piece, joined_pieces, before_run, white_left}
use Rattle.model_page.specs.Limits.{earlier, marked_at}
use Rattle.ve_classify.specs.FirstPart.{later_of, first_source, take_parts}
use Rattle.ve_classify.specs.Siblings.{siblings, front, first_made, first_block, IsBlock}
use Rattle.ve_classify.specs.Marked.{first_marked}
use Rattle.ve_classify.proofs.BlockLemmas.{blocks_split}
use Rattle.ve_classify.proofs.MarkedLemmas.{marks_split}
use Rattle.ve_reader.specs.ReadSoFar.{ReadSoFar, place_in, with_piece, piece_after}
use Rattle.ve_reader.specs.Stops.{deep_in}
use Rattle.ve_reader.specs.Laws.{IsEven}
use Rattle.ve_reader.proofs.EvenLemmas.{insides_are_even}
use Rattle.ve_reader.proofs.JoinLemmas.{pieces_join, depths_join}
use Rattle.ve_read.proofs.LimitLemmas.{BeginIn, LiesIn, earlier_joins, marked_lies}
use Rattle.ve_read.proofs.ContentTurns.{joined_none, some_map}
use Rattle.ve_read.specs.Blocks.{siblings_made, with_siblings, siblings_limit, with_blocks, white_after}
use Rattle.ve_read.proofs.PieceLemmas.{after_joined, left_joined, even_after}
use Rattle.ve_read.proofs.LieLemmas.{siblings_begin, limit_lies, mark_lies, tagged, tagged_or}

-- ---- a piece before what follows it

-- The first unit, from a byte to another, adds a piece with owners, whatever follows it. An
-- annotation in it may stand in too many marks.
pub record Adds (around : Around) (parts rest : Parts) (at byte : ℕ) (r : ReadSoFar) (piece : Piece) (owners : List Owner) (here : Option ℕ) : Type 0 where
  pub item : PlainItem
  pub items : List PlainItem
  pub some : piece.items ≡ item ∷ items
  pub even : IsEven piece
  pub whole : siblings around parts (place_in r at) ≡ front piece owners (siblings around rest (place_in (with_piece piece owners r) byte))
  pub marked : marked_at around parts at ≡ option_or here (marked_at around rest byte)
  pub spans : BeginIn at byte piece.spans
  pub lies : LiesIn at byte here

module _ (white : List ℕ) (around : Around) (parts rest : Parts) (at byte : ℕ) (r : ReadSoFar) (piece : Piece) (owners : List Owner) (here : Option ℕ) (a : Adds around parts rest at byte r piece owners here) where
  -- it is read after whitespace, and then what follows it
  pub adds_read : with_blocks white around parts at r ≡ with_siblings around rest byte (with_piece (piece_after white piece) owners r)
  adds_read =
      let m : Made = siblings around rest (place_in (with_piece piece owners r) byte) in
      ap (λ (x : Made). with_piece (piece_after white x.later) x.owners r) a.whole
      ∙ ap (λ p. with_piece p (owners ++ m.owners) r) (after_joined white piece m.later a.item a.items a.some)
      ∙ pieces_join (piece_after white piece) m.later owners m.owners r (even_after white piece a.even)

  pub adds_pre : white_after white around parts at r ≡ (siblings_made around rest byte (with_piece (piece_after white piece) owners r)).pre
  adds_pre =
      let m : Made = siblings around rest (place_in (with_piece piece owners r) byte) in
      ap (λ (x : Made). white_left white x.later.items x.pre) a.whole ∙ left_joined white piece m.later a.item a.items m.pre a.some

  -- what is over a limit stands in it, or else in what follows it
  pub adds_limit : siblings_limit around parts at r ≡ option_or (earlier (deep_in r piece) (tagged here)) (siblings_limit around rest byte (with_piece (piece_after white piece) owners r))
  adds_limit =
      let m : Made = siblings around rest (place_in (with_piece piece owners r) byte) in
      let there : Option ℕ = marked_at around rest byte in
      let deep = ap (λ (x : Made). deep_in r x.later) a.whole ∙ depths_join piece m.later owners r a.even in
      let marked = ap tagged a.marked ∙ tagged_or here there in
      let high : ℕ = byte + length (source_of rest) in
      let deep_here = limit_lies r.purpose r.depth piece at byte a.spans in
      let marks_here = mark_lies at byte here a.lies in
      let deep_there = limit_lies r.purpose r.depth m.later byte high (siblings_begin around rest (place_in (with_piece piece owners r) byte) high (omega arith)) in
      let marks_there = mark_lies byte high there (marked_lies around rest byte) in
      (λ j. earlier (deep j) (marked j))
      ∙ earlier_joins byte (deep_in r piece) (tagged here) (deep_in r m.later) (tagged there)
      (some_map _ _ (deep_in r piece) (λ l b. b.1) deep_here)
      (some_map _ _ (tagged here) (λ l b. b.1) marks_here)
      (some_map _ _ (deep_in r m.later) (λ l b. b.0) deep_there)
      (some_map _ _ (tagged there) (λ l b. b.0) marks_there)

-- ---- a block

-- The first part, as a block of this piece, whatever follows it.
abbrev pub IsBlockOf : Around → Parts → Progress → Piece → List Owner → Type 0
IsBlockOf around parts w piece owners =
    (later : Progress → Made) → first_made around parts later w ≡ before_run (past w (first_source parts) owners) piece owners (later (past w (first_source parts) owners))

-- there is one such piece
record Same (around : Around) (parts : Parts) (w : Progress) (piece : Piece) (owners : List Owner) (b : IsBlock around parts w) : Type 0 where
  piece_is : b.piece ≡ piece
  owners_is : b.owners ≡ owners

same_block : (around : Around) (parts : Parts) (w : Progress) (piece : Piece) (owners : List Owner) → IsBlockOf around parts w piece owners → (b : IsBlock around parts w) → Same around parts w piece owners b
same_block around parts w piece owners is b =
    let none : Made = record { run = no_piece; source = []; later = no_piece; pre = []; owners = [] } in
    let source : List ℕ = first_source parts in
    let e : before_run (past w source b.owners) b.piece b.owners none ≡ before_run (past w source owners) piece owners none = sym (b.is (λ _. none)) ∙ is (λ _. none) in
    record {
      piece_is = sym (joined_none b.piece) ∙ ap (λ (m : Made). m.later) e ∙ joined_none piece;
      owners_is = sym (append-nil b.owners) ∙ ap (λ (m : Made). m.owners) e ∙ append-nil owners;
    }

block_whole : (around : Around) (parts : Parts) (w : Progress) (piece : Piece) (owners : List Owner) → first_block around parts ≡ true → IsBlockOf around parts w piece owners
    → siblings around parts w ≡ front piece owners (siblings around (later_of parts) (past w (first_source parts) owners))
block_whole around parts w piece owners block is =
    let s = blocks_split around parts w block in
    let b = s.0 in
    let same = same_block around parts w piece owners is b in
    s.1 ∙ (λ j. front (same.piece_is j) (same.owners_is j) (siblings around (later_of parts) (past w (first_source parts) (same.owners_is j))))

-- ---- a block alone

alone_block : (around : Around) (parts : Parts) → first_block around parts ≡ true → first_block around (take_parts 1 parts) ≡ true
alone_block around Ended e = e
alone_block around (Words text rest) e = e
alone_block (Flow kind) (Note text rest) e = e
alone_block (Structural kind) (Note text rest) e = e
alone_block (Content marks) (Note text rest) e = e
alone_block (Flow kind) (Group nodes rest) e = e
alone_block (Structural kind) (Group nodes rest) e = e
alone_block (Content marks) (Group nodes rest) e = e
alone_block (Flow kind) (Single name attrs source rest) e = e
alone_block (Structural kind) (Single name attrs source rest) e = e
alone_block (Content marks) (Single name attrs source rest) e = e
alone_block (Flow kind) (Parent name attrs children rest) e = e
alone_block (Structural kind) (Parent name attrs children rest) e = e
alone_block (Content marks) (Parent name attrs children rest) e = e

alone_of : (around : Around) (parts : Parts) (w : Progress) (piece : Piece) (owners : List Owner) → IsBlockOf around parts w piece owners → IsBlockOf around (take_parts 1 parts) w piece owners
alone_of around Ended w piece owners is = is
alone_of around (Words text rest) w piece owners is = is
alone_of around (Note text rest) w piece owners is = is
alone_of around (Group nodes rest) w piece owners is = is
alone_of around (Single name attrs source rest) w piece owners is = is
alone_of around (Parent name attrs children rest) w piece owners is = is

alone_later : (parts : Parts) → later_of (take_parts 1 parts) ≡ Ended
alone_later Ended = refl
alone_later (Words text rest) = refl
alone_later (Note text rest) = refl
alone_later (Group nodes rest) = refl
alone_later (Single name attrs source rest) = refl
alone_later (Parent name attrs children rest) = refl

pub alone_source : (parts : Parts) → source_of (take_parts 1 parts) ≡ first_source parts ++ []
alone_source Ended = refl
alone_source (Words text rest) = refl
alone_source (Note text rest) = refl
alone_source (Group nodes rest) = refl
alone_source (Single name attrs source rest) = refl
alone_source (Parent name attrs children rest) = refl

or_none : {A : Type 0} (a : Option A) → option_or a None ≡ a
or_none None = refl
or_none (Some x) = refl

pub alone_marked : (around : Around) (parts : Parts) (at : ℕ) → marked_at around (take_parts 1 parts) at ≡ first_marked around parts at
alone_marked around Ended at = refl
alone_marked around (Words text rest) at = refl
alone_marked around (Note text rest) at = refl
alone_marked around (Group nodes rest) at = refl
alone_marked around (Single name attrs source rest) at = refl
alone_marked around (Parent name attrs children rest) at = marks_split around (Parent name attrs children Ended) at ∙ or_none (first_marked around (Parent name attrs children rest) at)

-- what no part becomes
record MadeOfNone (m : Made) : Type 0 where
  later : m.later ≡ no_piece
  owners : m.owners ≡ []
  pre : m.pre ≡ []

made_of_none : (around : Around) (w : Progress) → MadeOfNone (siblings around Ended w)
made_of_none (Flow kind) w = record { later = refl; owners = refl; pre = refl }
made_of_none (Structural kind) w = record { later = refl; owners = refl; pre = refl }
made_of_none (Content marks) w = record { later = refl; owners = refl; pre = refl }

-- The block alone: its piece, its owners, and what is over a limit in it.
pub record Alone (around : Around) (parts : Parts) (at : ℕ) (r : ReadSoFar) (piece : Piece) (owners : List Owner) : Type 0 where
  pub later : (siblings_made around (take_parts 1 parts) at r).later ≡ piece
  pub owners_is : (siblings_made around (take_parts 1 parts) at r).owners ≡ owners
  pub even : IsEven piece
  pub read : (white : List ℕ) → with_blocks white around (take_parts 1 parts) at r ≡ with_piece (piece_after white piece) owners r
  pub limit : siblings_limit around (take_parts 1 parts) at r ≡ earlier (deep_in r piece) (tagged (first_marked around parts at))

pub block_alone : (around : Around) (parts : Parts) (at : ℕ) (r : ReadSoFar) (piece : Piece) (owners : List Owner) → first_block around parts ≡ true → IsBlockOf around parts (place_in r at) piece owners
    → Alone around parts at r piece owners
block_alone around parts at r piece owners block is =
    let w : Progress = place_in r at in
    let one : Parts = take_parts 1 parts in
    let end : Progress = past w (first_source one) owners in
    let whole = block_whole around one w piece owners (alone_block around parts block) (alone_of around parts w piece owners is) ∙ ap (λ p. front piece owners (siblings around p end)) (alone_later parts) in
    let none = made_of_none around end in
    let later = ap (λ (m : Made). m.later) whole ∙ ap (joined_pieces piece) none.later ∙ joined_none piece in
    let owned = ap (λ (m : Made). m.owners) whole ∙ ap (λ (o : List Owner). owners ++ o) none.owners ∙ append-nil owners in
    record {
      later = later;
      owners_is = owned;
      even = subst IsEven later (insides_are_even around one w);
      read = λ white. (λ j. with_piece (piece_after white (later j)) (owned j) r);
      limit = λ j. earlier (deep_in r (later j)) (tagged (alone_marked around parts at j));
    }

-- ---- a block before what follows it

pub block_adds : (around : Around) (parts : Parts) (at : ℕ) (r : ReadSoFar) (piece : Piece) (owners : List Owner) (item : PlainItem) (items : List PlainItem) → first_block around parts ≡ true
    → IsBlockOf around parts (place_in r at) piece owners → piece.items ≡ item ∷ items
    → Adds around parts (later_of parts) at (at + length (first_source parts)) r piece owners (first_marked around parts at)
block_adds around parts at r piece owners item items block is some =
    let w : Progress = place_in r at in
    let alone = block_alone around parts at r piece owners block is in
    let long : at + length (source_of (take_parts 1 parts)) ≡ at + length (first_source parts) = omega (arith, ap length (alone_source parts), length-append (first_source parts) []) in
    record {
      item = item;
      items = items;
      some = some;
      even = alone.even;
      whole = block_whole around parts w piece owners block is;
      marked = marks_split around parts at;
      spans = subst (λ (p : Piece). BeginIn at (at + length (first_source parts)) p.spans) alone.later (siblings_begin around (take_parts 1 parts) w (at + length (first_source parts)) (omega (arith, long)));
      lies = subst (LiesIn at (at + length (first_source parts))) (alone_marked around parts at) (subst (λ high. LiesIn at high (marked_at around (take_parts 1 parts) at)) long (marked_lies around (take_parts 1 parts) at));
    }
