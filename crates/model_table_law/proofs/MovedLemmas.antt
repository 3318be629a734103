-- Filled cells that are moved and new ones, and what stands in an empty paragraph's cell.
use Rattle.std.specs.Prelude.{filter, flat_map}
use Rattle.std.specs.List.{list_any}
use Rattle.std.proofs.Common.{◌≡◌, ℕ, Bool, true, false, cond, not, ◌||◌, if◌then◌else◌, List, [], ◌∷◌, ◌++◌, map, None, refl, ap, ◌∙◌}
use Rattle.ve_kinds.specs.declared.kind.Kind.TheVariants.{P, Td}
use Rattle.model_items.specs.declared.plain_item.PlainItem.{PlainItem}
use Rattle.model_edit.specs.Brackets.{opening_of, closing_of}
use Rattle.model_edit.specs.declared.grid_cell.GridCell.{GridCell}
use Rattle.model_edit.specs.Layout.{Rectangle}
use Rattle.model_edit.specs.Tables.{new_cell}
use Rattle.model_edit_law.specs.Spans.{rectangle_of}
use Rattle.model_table_law.specs.Cells.{inside, FilledCell, at_rectangle, new_filled}
use Rattle.model_table_law.proofs.ReadLemmas.{InRow}
use Rattle.model_table_law.proofs.PieceLemmas.{Walk, Walk-none, Walk-join, Walk-cell}
use Rattle.model_table_law.proofs.FilledLemmas.{rectangles_of, insides_of, cell_insides}

abbrev pub filled : List PlainItem → List GridCell → List FilledCell
filled items cells = map (λ (c : GridCell). record { rectangle = rectangle_of c; inside = inside items c.at }) cells

pub rectangles_are : (items : List PlainItem) (cells : List GridCell) → rectangles_of (filled items cells) ≡ map rectangle_of cells
rectangles_are items [] = refl
rectangles_are items (c ∷ cells) = ap (λ v. rectangle_of c ∷ v) (rectangles_are items cells)

pub rectangles_moved : (f : Rectangle → Rectangle) (test : Rectangle → Bool) (cells : List FilledCell) →
    rectangles_of (map (at_rectangle f) (filter (λ (c : FilledCell). test c.rectangle) cells)) ≡ map f (filter test (rectangles_of cells))
rectangles_moved f test [] = refl
rectangles_moved f test (c ∷ cells) = by (test c.rectangle) (rectangles_moved f test cells)
  where
    rest : List FilledCell
    rest = filter (λ (d : FilledCell). test d.rectangle) cells

    by : (b : Bool) → rectangles_of (map (at_rectangle f) rest) ≡ map f (filter test (rectangles_of cells)) →
        rectangles_of (map (at_rectangle f) (cond b (c ∷ rest) rest)) ≡ map f
        (cond b (c.rectangle ∷ filter test (rectangles_of cells)) (filter test (rectangles_of cells)))
    by true e = ap (λ v. f c.rectangle ∷ v) e
    by false e = e

pub insides_moved : (items : List PlainItem) (f : Rectangle → Rectangle) (test : Rectangle → Bool) (cells : List GridCell) →
    insides_of (map (at_rectangle f) (filter (λ (c : FilledCell). test c.rectangle) (filled items cells))) ≡ cell_insides items
    (filter (λ (c : GridCell). test (rectangle_of c)) cells)
insides_moved items f test [] = refl
insides_moved items f test (c ∷ cells) = by (test (rectangle_of c)) (insides_moved items f test cells)
  where
    rest : List FilledCell
    rest = filter (λ (d : FilledCell). test d.rectangle) (filled items cells)

    left : List GridCell
    left = filter (λ (d : GridCell). test (rectangle_of d)) cells

    by : (b : Bool) → insides_of (map (at_rectangle f) rest) ≡ cell_insides items left →
        insides_of (map (at_rectangle f) (cond b (record { rectangle = rectangle_of c; inside = inside items c.at } ∷ rest) rest)) ≡ cell_insides items (cond b (c ∷ left) left)
    by true e = ap (λ v. inside items c.at ∷ v) e
    by false e = e

-- a test over cells by their rectangles
pub any_rectangle : (test : Rectangle → Bool) (cells : List GridCell) →
    list_any test (map rectangle_of cells) ≡ list_any (λ (c : GridCell). test (rectangle_of c)) cells
any_rectangle test [] = refl
any_rectangle test (c ∷ cells) = ap (λ b. test (rectangle_of c) || b) (any_rectangle test cells)

abbrev pub empty_paragraph : List PlainItem
empty_paragraph = opening_of P [] ∷ closing_of P ∷ []

pub Walk-new : Walk InRow InRow new_cell (empty_paragraph ∷ [])
Walk-new = Walk-cell Td _ [] [] None false Td [] empty_paragraph refl (λ other. refl)

-- at each number that a test refuses
abbrev pub new_insides : (ℕ → Bool) → List ℕ → List (List PlainItem)
new_insides test numbers = flat_map (λ n. if test n then [] else empty_paragraph ∷ []) numbers

pub Walk-new_cells : (test : ℕ → Bool) (numbers : List ℕ) →
    Walk InRow InRow (flat_map (λ n. if test n then [] else new_cell) numbers) (new_insides test numbers)
Walk-new_cells test [] = Walk-none
Walk-new_cells test (n ∷ numbers) =
    Walk-join (if test n then [] else new_cell) (flat_map (λ m. if test m then [] else new_cell) numbers)
    (if test n then [] else empty_paragraph ∷ []) (new_insides test numbers) (by (test n)) (Walk-new_cells test numbers)
  where
    by : (b : Bool) → Walk InRow InRow (if b then [] else new_cell) (if b then [] else empty_paragraph ∷ [])
    by true = Walk-none
    by false = Walk-new

pub rectangles_new : (f : ℕ → Rectangle) (numbers : List ℕ) → rectangles_of (map (λ n. new_filled (f n)) numbers) ≡ map f numbers
rectangles_new f [] = refl
rectangles_new f (n ∷ numbers) = ap (λ v. f n ∷ v) (rectangles_new f numbers)

pub insides_new : (f : ℕ → Rectangle) (test other : ℕ → Bool) (numbers : List ℕ) → ((n : ℕ) → other n ≡ test n) →
    insides_of (map (λ n. new_filled (f n)) (filter (λ n. not (other n)) numbers)) ≡ new_insides test numbers
insides_new f test other [] h = refl
insides_new f test other (n ∷ numbers) h =
    ap (λ b. insides_of (map (λ m. new_filled (f m)) (cond (not b) (n ∷ rest) rest))) (h n) ∙ by (test n) (insides_new f test other numbers h)
  where
    rest : List ℕ
    rest = filter (λ m. not (other m)) numbers

    by : (b : Bool) → insides_of (map (λ m. new_filled (f m)) rest) ≡ new_insides test numbers →
        insides_of (map (λ m. new_filled (f m)) (cond (not b) (n ∷ rest) rest)) ≡ (if b then [] else empty_paragraph ∷ []) ++ new_insides test numbers
    by true e = e
    by false e = ap (λ v. empty_paragraph ∷ v) e
