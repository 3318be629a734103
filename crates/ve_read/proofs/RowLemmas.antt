-- Rows, moved one after the other, and the positions of the openings that they are of.
use Rattle.std.proofs.Common.{◌≡◌, ℕ, zero, suc, ◌+◌, ◌<◌, ◌≤◌, true, List, [], ◌∷◌, ◌++◌, length, map, get_or, slice_set, refl, sym, ap, ◌∙◌, true≢false, arith}
use Rattle.model_items.specs.declared.plain_item.PlainItem.{PlainItem}
use Rattle.model_items.specs.declared.plain_item.PlainItem.TheVariants.{Char, Opening, Closing}
use Rattle.model_items.specs.Tree.{length_to_close}
use Rattle.model_page.specs.Pieces.{SourceSpan, Piece, Owner}
use Rattle.model_page.specs.PageItems.{with_origins, internal_list}
use Rattle.ve_origin.specs.declared.origin.OriginRow.{OriginRow}
use Rattle.ve_origin.specs.Origins.{spans}
use Rattle.ve_reader.specs.Laws.{openings, is_closed, IsEven}
use Rattle.ve_reader.specs.ReadSoFar.{node_rows}
use Rattle.ve_read.specs.Moved.{span_moved, row_moved}

-- ---- in place

-- the first rows, so many, are moved
abbrev pub moved_first : ℕ → ℕ → List OriginRow → List OriginRow
moved_first d zero rows = rows
moved_first d (suc k) [] = []
moved_first d (suc k) (row ∷ rows) = row_moved d row ∷ moved_first d k rows

pub moved_count : (d k : ℕ) (rows : List OriginRow) → length (moved_first d k rows) ≡ length rows
moved_count d zero rows = refl
moved_count d (suc k) [] = refl
moved_count d (suc k) (row ∷ rows) = ap suc (moved_count d k rows)

pub moved_next : (d k : ℕ) (rows : List OriginRow) (row : OriginRow) → k < length rows → row ≡ get_or (moved_first d k rows) k row
    → slice_set (moved_first d k rows) k (row_moved d row) ≡ moved_first d (suc k) rows
moved_next d k [] row l e = absurd (omega (arith, l))
moved_next d zero (r ∷ rows) row l e = ap (λ x. row_moved d x ∷ rows) e
moved_next d (suc k) (r ∷ rows) row l e = ap (λ rs. row_moved d r ∷ rs) (moved_next d k rows row (omega (arith, l)) e)

pub moved_all : (d k : ℕ) (rows : List OriginRow) → length rows ≤ k → moved_first d k rows ≡ map (row_moved d) rows
moved_all d zero [] l = refl
moved_all d zero (row ∷ rows) l = absurd (omega (arith, l))
moved_all d (suc k) [] l = refl
moved_all d (suc k) (row ∷ rows) l = ap (λ rs. row_moved d row ∷ rs) (moved_all d k rows (omega (arith, l)))

-- ---- the rows of openings

pub rows_move : (d at : ℕ) (items : List PlainItem) (places : List SourceSpan) → map (row_moved d) (node_rows at items places) ≡ node_rows at items (map (span_moved d) places)
rows_move d at [] places = refl
rows_move d at (Char c marks ∷ items) places = rows_move d (suc at) items places
rows_move d at (Closing kind pre ∷ items) places = rows_move d (suc at) items places
rows_move d at (Opening kind head marks pre origin generated ∷ items) [] = refl
rows_move d at (Opening kind head marks pre origin generated ∷ items) (place ∷ places) =
    ap (λ rows. record { span = record { from = d + place.from; to = d + place.to }; from = at; to = suc (at + length_to_close 0 items) } ∷ rows)
    (rows_move d (suc at) items places)

pub spans_kept : (at : ℕ) (items : List PlainItem) (places : List SourceSpan) → length places ≡ openings items → spans (node_rows at items places) ≡ places
spans_kept at [] [] e = refl
spans_kept at [] (place ∷ places) e = absurd (omega (arith, e))
spans_kept at (Char c marks ∷ items) places e = spans_kept (suc at) items places e
spans_kept at (Closing kind pre ∷ items) places e = spans_kept (suc at) items places e
spans_kept at (Opening kind head marks pre origin generated ∷ items) [] e = refl
spans_kept at (Opening kind head marks pre origin generated ∷ items) (place ∷ places) e = ap (λ ps. place ∷ ps) (spans_kept (suc at) items places (omega (arith, e)))

count_moved : (d : ℕ) (places : List SourceSpan) → length (map (span_moved d) places) ≡ length places
count_moved d [] = refl
count_moved d (place ∷ places) = ap suc (count_moved d places)

-- ---- before the internal list

-- where all nodes that are open are closed, the inner ones are, whatever origins they have
closes_numbered : (j n m k : ℕ) (xs ys : List PlainItem) → m ≡ suc (j + n) → is_closed m xs ≡ true → length_to_close j (with_origins k xs ++ ys) ≡ length_to_close j xs
closes_numbered j n zero k [] ys e h = absurd (omega (arith, e))
closes_numbered j n (suc m) k [] ys e h = absurd (true≢false (sym h))
closes_numbered j n m k (Char c marks ∷ xs) ys e h = ap suc (closes_numbered j n m k xs ys e h)
closes_numbered j n m k (Opening kind head marks pre origin generated ∷ xs) ys e h = ap suc (closes_numbered (suc j) n (suc m) (suc k) xs ys (omega (arith, e)) h)
closes_numbered j n zero k (Closing kind pre ∷ xs) ys e h = absurd (true≢false (sym h))
closes_numbered zero n (suc m) k (Closing kind pre ∷ xs) ys e h = refl
closes_numbered (suc j) n (suc m) k (Closing kind pre ∷ xs) ys e h = ap suc (closes_numbered j n m k xs ys (omega (arith, e)) h)

none_opens : (at : ℕ) (pre : List ℕ) (owners : List Owner) → node_rows at (internal_list pre owners) [] ≡ []
none_opens at pre owners = refl

-- the openings of the internal list have no rows, and origins change none
rows_before : (n at k : ℕ) (xs : List PlainItem) (pre : List ℕ) (owners : List Owner) (places : List SourceSpan) → is_closed n xs ≡ true → length places ≡ openings xs
    → node_rows at (with_origins k xs ++ internal_list pre owners) places ≡ node_rows at xs places
rows_before n at k [] pre owners [] h e = none_opens at pre owners
rows_before n at k [] pre owners (place ∷ places) h e = absurd (omega (arith, e))
rows_before n at k (Char c marks ∷ xs) pre owners places h e = rows_before n (suc at) k xs pre owners places h e
rows_before zero at k (Closing kind white ∷ xs) pre owners places h e = absurd (true≢false (sym h))
rows_before (suc n) at k (Closing kind white ∷ xs) pre owners places h e = rows_before n (suc at) k xs pre owners places h e
rows_before n at k (Opening kind head marks white origin generated ∷ xs) pre owners [] h e = absurd (omega (arith, e))
rows_before n at k (Opening kind head marks white origin generated ∷ xs) pre owners (place ∷ places) h e =
    ap (λ l. record { span = record { from = place.from; to = place.to }; from = at; to = suc (at + l) } ∷ node_rows (suc at) (with_origins (suc k) xs ++ internal_list pre owners) places)
    (closes_numbered 0 n (suc n) (suc k) xs (internal_list pre owners) (omega arith) h)
    ∙ ap (λ rows. record { span = record { from = place.from; to = place.to }; from = at; to = suc (at + length_to_close 0 xs) } ∷ rows)
    (rows_before (suc n) (suc at) (suc k) xs pre owners places h (omega (arith, e)))

-- the rows of a piece, moved, are those of the page's openings, with the spans that they have
pub placed_rows : (d : ℕ) (piece : Piece) (pre : List ℕ) (owners : List Owner) → IsEven piece
    → (spans (map (row_moved d) (node_rows 0 piece.items piece.spans)) ≡ map (span_moved d) piece.spans)
    × (map (row_moved d) (node_rows 0 piece.items piece.spans) ≡ node_rows 0 (with_origins 0 piece.items ++ internal_list pre owners) (map (span_moved d) piece.spans))
placed_rows d piece pre owners even =
    let moved = rows_move d 0 piece.items piece.spans in
    let count = count_moved d piece.spans ∙ even.spans in (
      ap spans moved ∙ spans_kept 0 piece.items (map (span_moved d) piece.spans) count,
      moved ∙ sym (rows_before 0 0 0 piece.items pre owners (map (span_moved d) piece.spans) even.closed count),
    )
