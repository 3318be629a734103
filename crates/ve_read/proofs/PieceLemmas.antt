-- Whitespace before a piece.
use Rattle.std.proofs.Common.{◌≡◌, ℕ, List, [], ◌∷◌, ◌++◌, refl, sym, ap, ◌∙◌}
use Rattle.std.specs.Prelude.{option_map}
use Rattle.model_items.specs.declared.plain_item.PlainItem.{PlainItem}
use Rattle.model_items.specs.declared.plain_item.PlainItem.TheVariants.{Char, Opening, Closing}
use Rattle.model_page.specs.Pieces.{SourceSpan, Piece, joined_pieces, item_after, items_after, white_left}
use Rattle.model_page.specs.Limits.{deep_at}
use Rattle.ve_reader.specs.declared.purpose.Purpose.{Purpose}
use Rattle.ve_reader.specs.declared.purpose.Purpose.TheVariants as purpose
use Rattle.ve_reader.specs.ReadSoFar.{ReadSoFar, piece_after}
use Rattle.ve_reader.specs.Stops.{depth_limit, deep_in}
use Rattle.ve_reader.specs.Laws.{openings, is_closed, IsEven}

-- ---- no whitespace

item_alone : (item : PlainItem) → item_after [] item ≡ item
item_alone (Opening kind head marks pre origin generated) = refl
item_alone (Closing kind pre) = refl
item_alone (Char c marks) = refl

items_alone : (items : List PlainItem) → items_after [] items ≡ items
items_alone [] = refl
items_alone (item ∷ items) = ap (λ x. x ∷ items) (item_alone item)

pub piece_alone : (piece : Piece) → piece_after [] piece ≡ piece
piece_alone piece = ap (λ items. record { items = items; spans = piece.spans }) (items_alone piece.items)

pub left_alone : (items : List PlainItem) (pre : List ℕ) → white_left [] items pre ≡ pre
left_alone [] pre = refl
left_alone (item ∷ items) pre = refl

-- ---- whitespace before pieces

-- it goes before the first item, where there is one
pub after_joined : (white : List ℕ) (a b : Piece) (item : PlainItem) (items : List PlainItem) → a.items ≡ item ∷ items → piece_after white (joined_pieces a b) ≡ joined_pieces (piece_after white a) b
after_joined white a b item items e =
    ap (λ (l : List PlainItem). record { items = items_after white (l ++ b.items); spans = a.spans ++ b.spans }) e
    ∙ sym (ap (λ (l : List PlainItem). record { items = items_after white l ++ b.items; spans = a.spans ++ b.spans }) e)

pub left_joined : (white : List ℕ) (a b : Piece) (item : PlainItem) (items : List PlainItem) (pre : List ℕ) → a.items ≡ item ∷ items → white_left white (joined_pieces a b).items pre ≡ pre
left_joined white a b item items pre e = ap (λ (l : List PlainItem). white_left white (l ++ b.items) pre) e

openings_after : (white : List ℕ) (items : List PlainItem) → openings (items_after white items) ≡ openings items
openings_after white [] = refl
openings_after white (Char c marks ∷ items) = refl
openings_after white (Closing kind pre ∷ items) = refl
openings_after white (Opening kind head marks pre origin generated ∷ items) = refl

closed_after : (white : List ℕ) (items : List PlainItem) → is_closed 0 (items_after white items) ≡ is_closed 0 items
closed_after white [] = refl
closed_after white (Char c marks ∷ items) = refl
closed_after white (Closing kind pre ∷ items) = refl
closed_after white (Opening kind head marks pre origin generated ∷ items) = refl

pub even_after : (white : List ℕ) (piece : Piece) → IsEven piece → IsEven (piece_after white piece)
even_after white piece e = record { spans = e.spans ∙ sym (openings_after white piece.items); closed = closed_after white piece.items ∙ e.closed }

deep_at_after : (depth : ℕ) (white : List ℕ) (items : List PlainItem) (spans : List SourceSpan) → deep_at depth (items_after white items) spans ≡ deep_at depth items spans
deep_at_after depth white [] spans = refl
deep_at_after depth white (Char c marks ∷ items) spans = refl
deep_at_after depth white (Closing kind pre ∷ items) spans = refl
deep_at_after depth white (Opening kind head marks pre origin generated ∷ items) [] = refl
deep_at_after depth white (Opening kind head marks pre origin generated ∷ items) (span ∷ spans) = refl

limit_after : (p : Purpose) (depth : ℕ) (white : List ℕ) (piece : Piece) → depth_limit p depth (piece_after white piece) ≡ depth_limit p depth piece
limit_after purpose.Page depth white piece = ap (option_map _) (deep_at_after depth white piece.items piece.spans)
limit_after purpose.Body depth white piece = ap (option_map _) (deep_at_after depth white piece.items piece.spans)
limit_after purpose.Fragment depth white piece = refl

pub deep_after : (r : ReadSoFar) (white : List ℕ) (piece : Piece) → deep_in r (piece_after white piece) ≡ deep_in r piece
deep_after r white piece = limit_after r.purpose r.depth white piece
