-- Pieces; and that reading them one after the other is reading them joined.
use Rattle.std.specs.Prelude.{◌≡◌, ℕ, zero, suc, Bool, true, false, List, [], ◌∷◌, ◌++◌, length}
use Rattle.std.specs.Option.{option_or}
use Rattle.ve_base.specs.declared.head.Head.{Head}
use Rattle.ve_base.specs.declared.marks.Mark.{Mark}
use Rattle.ve_kinds.specs.declared.kind.Kind.{Kind}
use Rattle.model_items.specs.declared.plain_item.PlainItem.{PlainItem}
use Rattle.model_items.specs.declared.plain_item.PlainItem.TheVariants.{Char, Opening, Closing}
use Rattle.model_page.specs.Parts.{Parts}
use Rattle.model_page.specs.Fit.{Around}
use Rattle.model_page.specs.Pieces.{SourceSpan, Piece, Owner, Progress, joined_pieces, node}
use Rattle.model_page.specs.Convert.{made_of, inside_piece}
use Rattle.ve_reader.specs.ReadSoFar.{ReadSoFar, with_piece, piece_after, opening_piece, with_opening, with_closing, node_opened, with_mark, mark_left}
use Rattle.ve_reader.specs.Stops.{deep_in}

-- ---- even pieces

abbrev pub openings : List PlainItem → ℕ
openings [] = 0
openings (Char c marks ∷ items) = openings items
openings (Closing kind pre ∷ items) = openings items
openings (Opening kind head marks pre origin generated ∷ items) = suc (openings items)

abbrev pub is_zero : ℕ → Bool
is_zero zero = true
is_zero (suc n) = false

-- each opening is closed, and so are so many that are open before; no other closing stands here
abbrev pub is_closed : ℕ → List PlainItem → Bool
is_closed depth [] = is_zero depth
is_closed depth (Char c marks ∷ items) = is_closed depth items
is_closed depth (Opening kind head marks pre origin generated ∷ items) = is_closed (suc depth) items
is_closed zero (Closing kind pre ∷ items) = false
is_closed (suc depth) (Closing kind pre ∷ items) = is_closed depth items

-- A piece has a span for each opening, and whole nodes alone.
pub record IsEven (piece : Piece) : Type 0 where
  pub spans : length piece.spans ≡ openings piece.items
  pub closed : is_closed 0 piece.items ≡ true

-- Converted siblings are even: their run and what comes after it,
abbrev pub PiecesAreEven : Type 0
PiecesAreEven = (around : Around) (parts : Parts) (w : Progress) → IsEven (made_of around parts w).run × IsEven (made_of around parts w).later

-- and what stands inside a branch.
abbrev pub InsidesAreEven : Type 0
InsidesAreEven = (around : Around) (parts : Parts) (w : Progress) → IsEven (inside_piece around w (made_of around parts w)).later

-- ---- one piece after the other

-- Joined pieces are read one after the other.
abbrev pub PiecesJoin : Type 0
PiecesJoin =
    (a b : Piece) (x y : List Owner) (r : ReadSoFar) → IsEven a
    → with_piece (joined_pieces a b) (x ++ y) r ≡ with_piece b y (with_piece a x r)

-- A node after whitespace is its opening, what is in it, and its closing.
abbrev pub NodesJoin : Type 0
NodesJoin =
    (kind : Kind) (head : Head) (white : List ℕ) (generated : Bool) (span : SourceSpan) (inside : Piece) (pre : List ℕ) (owners : List Owner) (r : ReadSoFar)
    → IsEven inside
    → with_piece (piece_after white (node kind head [] generated span inside pre)) owners r
    ≡ with_closing (node_opened kind r) pre (with_piece inside owners (with_opening kind head white generated span r))

-- The inside of a mark is read, and then the mark is left.
abbrev pub MarksAreLeft : Type 0
MarksAreLeft =
    (mark : Mark) (piece : Piece) (owners : List Owner) (r : ReadSoFar) → mark_left (with_piece piece owners (with_mark mark r)) ≡ with_piece piece owners r

-- ---- limits

-- The first opening that is too deep stands in the first piece or else in the other,
abbrev pub DepthsJoin : Type 0
DepthsJoin = (a b : Piece) (x : List Owner) (r : ReadSoFar) → IsEven a → deep_in r (joined_pieces a b) ≡ option_or (deep_in r a) (deep_in (with_piece a x r) b)

-- and of a node it is its own, or else it stands inside.
abbrev pub NodeDepths : Type 0
NodeDepths =
    (kind : Kind) (head : Head) (white : List ℕ) (generated : Bool) (span : SourceSpan) (inside : Piece) (pre : List ℕ) (r : ReadSoFar) → IsEven inside
    → deep_in r (piece_after white (node kind head [] generated span inside pre))
    ≡ option_or (deep_in r (opening_piece kind head white generated span)) (deep_in (with_opening kind head white generated span r) inside)
