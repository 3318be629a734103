-- Content is read one part after the other, and so is what is over a limit in it.
use Rattle.std.proofs.Common.{◌≡◌, ℕ, ◌+◌, ◌<◌, ◌≤◌, true, List, [], ◌++◌, length, Option, Some, None, refl, sym, ap, ◌∙◌, subst, append-nil, length-append, arith}
use Rattle.std.specs.Prelude.{IfSome, option_map}
use Rattle.std.specs.Option.{option_or}
use Rattle.ve_base.specs.declared.marks.Mark.{Mark}
use Rattle.model_page.specs.Parts.{Parts, Ended, Words, Note, Group, Single, Parent, source_of}
use Rattle.model_page.specs.Fit.{Content}
use Rattle.model_page.specs.Pieces.{Piece, Owner, Made, Progress, past, no_piece, joined_pieces, in_run}
use Rattle.model_page.specs.Convert.{made_of}
use Rattle.model_page.specs.Limits.{Limit, TooDeep, TooManyMarks, limit_at, earlier, marked_at, deep_at}
use Rattle.ve_classify.specs.FirstPart.{has_part, later_of, first_source, take_parts}
use Rattle.ve_classify.specs.Siblings.{first_made}
use Rattle.ve_classify.specs.Marked.{first_marked}
use Rattle.ve_classify.proofs.ContentLemmas.{content_splits}
use Rattle.ve_classify.proofs.MarkedLemmas.{marks_split}
use Rattle.ve_reader.specs.declared.purpose.Purpose.{Purpose}
use Rattle.ve_reader.specs.declared.purpose.Purpose.TheVariants as purpose
use Rattle.ve_reader.specs.ReadSoFar.{ReadSoFar, place_in, with_piece}
use Rattle.ve_reader.specs.Stops.{depth_limit, deep_in}
use Rattle.ve_reader.specs.Laws.{IsEven}
use Rattle.ve_reader.proofs.EvenLemmas.{pieces_are_even}
use Rattle.ve_reader.proofs.JoinLemmas.{pieces_join, depths_join}
use Rattle.ve_read.specs.Content.{content_made, with_content, content_limit}
use Rattle.ve_read.specs.ContentLaws.{PartsInTurn, LimitsInTurn}
use Rattle.ve_read.proofs.LimitLemmas.{earlier_joins, marked_lies, BeginIn, deep_lies, parts_begin}

-- ---- the first part alone

pub joined_none : (piece : Piece) → joined_pieces piece no_piece ≡ piece
joined_none piece =
    let items = append-nil piece.items in
    let spans = append-nil piece.spans in
    λ j. record { items = items j; spans = spans j }

alone_made : (marks : List Mark) (parts : Parts) (w : Progress) → made_of (Content marks) (take_parts 1 parts) w ≡ first_made (Content marks) parts (made_of (Content marks) Ended) w
alone_made marks Ended w = refl
alone_made marks (Words text rest) w = refl
alone_made marks (Note text rest) w = refl
alone_made marks (Group nodes rest) w = refl
alone_made marks (Single name attrs source rest) w = refl
alone_made marks (Parent name attrs children rest) w = refl

alone_source : (parts : Parts) → source_of (take_parts 1 parts) ≡ first_source parts ++ []
alone_source Ended = refl
alone_source (Words text rest) = refl
alone_source (Note text rest) = refl
alone_source (Group nodes rest) = refl
alone_source (Single name attrs source rest) = refl
alone_source (Parent name attrs children rest) = refl

or_none : {A : Type 0} (a : Option A) → option_or a None ≡ a
or_none None = refl
or_none (Some x) = refl

pub alone_marked : (marks : List Mark) (parts : Parts) (at : ℕ) → marked_at (Content marks) (take_parts 1 parts) at ≡ first_marked (Content marks) parts at
alone_marked marks Ended at = refl
alone_marked marks (Words text rest) at = refl
alone_marked marks (Note text rest) at = refl
alone_marked marks (Group nodes rest) at = refl
alone_marked marks (Single name attrs source rest) at = refl
alone_marked marks (Parent name attrs children rest) at =
    marks_split (Content marks) (Parent name attrs children Ended) at ∙ or_none (first_marked (Content marks) (Parent name attrs children rest) at)

-- The first part, whatever follows it, and alone.
pub record Turn (parts : Parts) (at : ℕ) (r : ReadSoFar) : Type 0 where
  pub piece : Piece
  pub owners : List Owner
  pub whole :
      content_made parts at r
      ≡ in_run piece (first_source parts) owners (made_of (Content r.marks) (later_of parts) (past (place_in r at) (first_source parts) owners))
  pub alone :
      content_made (take_parts 1 parts) at r
      ≡ in_run piece (first_source parts) owners (made_of (Content r.marks) Ended (past (place_in r at) (first_source parts) owners))
  pub even : IsEven piece

turn : (parts : Parts) (at : ℕ) (r : ReadSoFar) → has_part parts ≡ true → Turn parts at r
turn parts at r h =
    let s = content_splits r.marks parts (place_in r at) h in
    let p = s.0 in
    let alone = alone_made r.marks parts (place_in r at) ∙ p.is (made_of (Content r.marks) Ended) in
    record {
      piece = p.piece;
      owners = p.owners;
      whole = s.1;
      alone = alone;
      even =
          subst IsEven (joined_none p.piece)
          (subst (λ (m : Made). IsEven m.run) alone (pieces_are_even (Content r.marks) (take_parts 1 parts) (place_in r at)).0);
    }

-- reading it alone adds its piece
alone_read : (parts : Parts) (at : ℕ) (r : ReadSoFar) → (t : Turn parts at r) → with_content (take_parts 1 parts) at r ≡ with_piece t.piece t.owners r
alone_read parts at r t =
    let piece = joined_none t.piece in
    let owners = append-nil t.owners in
    ap (λ (m : Made). with_piece m.run m.owners r) t.alone ∙ (λ j. with_piece (piece j) (owners j) r)

pub parts_in_turn : PartsInTurn
parts_in_turn = λ parts at r h.
    let t = turn parts at r h in
    let later : Made = made_of (Content r.marks) (later_of parts) (past (place_in r at) (first_source parts) t.owners) in
    ap (λ (m : Made). with_piece m.run m.owners r) t.whole
    ∙ pieces_join t.piece later.run t.owners later.owners r t.even
    ∙ sym (ap (with_content (later_of parts) (at + length (first_source parts))) (alone_read parts at r t))

-- ---- limits

pub some_map : {A : Type 0} (P Q : A → Type 0) (o : Option A) → ((x : A) → P x → Q x) → IfSome o P → IfSome o Q
some_map P Q None f h = tt
some_map P Q (Some x) f h = f x h

some_of : {A B : Type 0} (f : A → B) (P : B → Type 0) (o : Option A) → IfSome o (λ x. P (f x)) → IfSome (option_map f o) P
some_of f P None h = tt
some_of f P (Some x) h = h

option_map-or : {A B : Type 0} (f : A → B) (a b : Option A) → option_map f (option_or a b) ≡ option_or (option_map f a) (option_map f b)
option_map-or f None b = refl
option_map-or f (Some x) b = refl

limit_lies : (p : Purpose) (depth : ℕ) (piece : Piece) (low high : ℕ) → BeginIn low high piece.spans → IfSome (depth_limit p depth piece) (λ l. (low ≤ limit_at l) × (limit_at l ≤ high))
limit_lies purpose.Page depth piece low high b = some_of (λ n. TooDeep n) _ (deep_at depth piece.items piece.spans) (deep_lies depth piece.items piece.spans low high b)
limit_lies purpose.Body depth piece low high b = some_of (λ n. TooDeep n) _ (deep_at depth piece.items piece.spans) (deep_lies depth piece.items piece.spans low high b)
limit_lies purpose.Fragment depth piece low high b = tt

-- an opening that is too deep in content begins there
pub deep_from : (parts : Parts) (at : ℕ) (r : ReadSoFar) (high : ℕ) → at + length (source_of parts) ≤ high → IfSome (deep_in r (content_made parts at r).run) (λ l. (at ≤ limit_at l) × (limit_at l ≤ high))
deep_from parts at r high le = limit_lies r.purpose r.depth (content_made parts at r).run at high (parts_begin (Content r.marks) parts (place_in r at) high le).run

-- and so does an annotation inside of too many marks
pub marked_from : (parts : Parts) (at : ℕ) (r : ReadSoFar) →
    IfSome (option_map (λ n. TooManyMarks n) (marked_at (Content r.marks) parts at)) (λ l. (at ≤ limit_at l) × (limit_at l < at + length (source_of parts)))
marked_from parts at r = some_of (λ n. TooManyMarks n) _ (marked_at (Content r.marks) parts at) (marked_lies (Content r.marks) parts at)

-- the first part's
alone_limit : (parts : Parts) (at : ℕ) (r : ReadSoFar) → (t : Turn parts at r) →
    content_limit (take_parts 1 parts) at r ≡ earlier (deep_in r t.piece) (option_map (λ n. TooManyMarks n) (first_marked (Content r.marks) parts at))
alone_limit parts at r t =
    let deep = ap (λ (m : Made). deep_in r m.run) t.alone ∙ ap (deep_in r) (joined_none t.piece) in
    let marked = ap (option_map (λ n. TooManyMarks n)) (alone_marked r.marks parts at) in
    λ j. earlier (deep j) (marked j)

pub limits_in_turn : LimitsInTurn
limits_in_turn = λ parts at r h.
    let t = turn parts at r h in
    let end : ℕ = at + length (first_source parts) in
    let first : ReadSoFar = with_piece t.piece t.owners r in
    let later : Made = made_of (Content r.marks) (later_of parts) (past (place_in r at) (first_source parts) t.owners) in
    let here : Option ℕ = first_marked (Content r.marks) parts at in
    let there : Option ℕ = marked_at (Content r.marks) (later_of parts) end in
    let tagged : Option ℕ → Option Limit = option_map (λ n. TooManyMarks n) in
    let deep = ap (λ (m : Made). deep_in r m.run) t.whole ∙ depths_join t.piece later.run t.owners r t.even in
    let marked = ap tagged (marks_split (Content r.marks) parts at) ∙ option_map-or (λ n. TooManyMarks n) here there in
    let ends : at + length (source_of (take_parts 1 parts)) ≡ end = omega (arith, ap length (alone_source parts), length-append (first_source parts) []) in
    let deep_before =
    subst (λ d. IfSome d (λ l. (at ≤ limit_at l) × (limit_at l ≤ end)))
    (ap (λ (m : Made). deep_in r m.run) t.alone ∙ ap (deep_in r) (joined_none t.piece))
    (deep_from (take_parts 1 parts) at r end (omega (arith, ends))) in
    let marked_before =
    subst (λ (m : Option Limit). IfSome m (λ l. (at ≤ limit_at l) × (limit_at l < at + length (source_of (take_parts 1 parts)))))
    (ap tagged (alone_marked r.marks parts at)) (marked_from (take_parts 1 parts) at r) in
    let deep_after = deep_from (later_of parts) end first (end + length (source_of (later_of parts))) (omega arith) in
    let marked_after = marked_from (later_of parts) end first in
    let joined =
    earlier_joins end (deep_in r t.piece) (tagged here) (deep_in first later.run) (tagged there)
    (some_map _ _ (deep_in r t.piece) (λ l b. b.1) deep_before)
    (some_map _ _ (tagged here) (λ l b. omega (arith, b.1, ends)) marked_before)
    (some_map _ _ (deep_in first later.run) (λ l b. b.0) deep_after)
    (some_map _ _ (tagged there) (λ l b. b.0) marked_after) in
    let one = alone_limit parts at r t in
    let rest = ap (content_limit (later_of parts) end) (alone_read parts at r t) in
    (λ j. earlier (deep j) (marked j)) ∙ joined ∙ sym (λ j. option_or (one j) (rest j))
