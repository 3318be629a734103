-- The new cells of a row, and the columns in which there are none.
use Rattle.std.specs.Prelude.{All, flat_map}
use Rattle.std.specs.List.{range_with_len}
use Rattle.std.proofs.Common.{◌≡◌, ℕ, suc, ◌+◌, ◌<◌, ◌≤◌, Bool, true, false, ◌&&◌, ◌||◌, if◌then◌else◌, None, List, [], ◌∷◌, ◌++◌, length, take, drop, replicate, get_or, refl, sym, ap, ◌∙◌, subst, arith, zero-add, append-nil, append_assoc}
use Rattle.std.proofs.lemmas.List.{map-append, take_more, drop_more, drop_all, length-replicate, get_or-replicate}
use Rattle.std.proofs.lemmas.List.Concat.{flat_map-append}
use Rattle.std.proofs.lemmas.List.Elements.{All-nil, All-cons, All-append}
use Rattle.ve_base.specs.declared.value.Value.{Value}
use Rattle.ve_kinds.specs.declared.kind.Kind.TheVariants.{Tr}
use Rattle.model_items.specs.declared.item.Item.{Item}
use Rattle.model_items.specs.declared.item.Item.TheVariants as item
use Rattle.model_items.specs.Plain.{plain, plain_list, CitesWell}
use Rattle.model_items.specs.declared.plain_item.PlainItem.{PlainItem}
use Rattle.model_edit.specs.declared.grid_cell.GridCell.{GridCell}
use Rattle.model_edit.specs.Grid.{Grid, covers_column}
use Rattle.model_edit.specs.Brackets.{opening_of, closing_of}
use Rattle.model_edit.specs.Tables.{spans_row, new_cell, new_row}
use Rattle.ve_tables.specs.Fresh.{AreMarked, is_taken, AreTaken, cells_for, AreCellsPut}

-- over a list and over its positions
cells_places : (f : ℕ → Bool) (xs : List Bool) (from : ℕ) → ((k : ℕ) → k < length xs → get_or xs k false ≡ f (from + k)) →
    cells_for xs ≡ flat_map (λ column. if f column then [] else new_cell) (range_with_len from (length xs))
cells_places f [] from same = refl
cells_places f (x ∷ xs) from same =
    let z : from + 0 ≡ from = omega arith in
    let here : x ≡ f from = same 0 (omega arith) ∙ ap f z in
    let put : Bool → List PlainItem = λ b. if b then [] else new_cell in
    ap (λ b. put b ++ cells_for xs) here
    ∙ ap (λ l. put (f from) ++ l) (cells_places f xs (from + 1) (λ k less. same (suc k) (omega arith) ∙ (let y : from + suc k ≡ (from + 1) + k = omega arith in ap f y)))

pub cells_are : (row : ℕ) (g : Grid) (taken : List Bool) → AreTaken row g taken →
    cells_for taken ≡ flat_map (λ column. if is_taken row g.cells column then [] else new_cell) (range_with_len 0 g.columns)
cells_are row g taken are =
    let n = are.long in
    cells_places (is_taken row g.cells) taken 0 (λ k less. are.each k (omega arith) ∙ ap (is_taken row g.cells) (sym (zero-add k)))
    ∙ ap (λ n. flat_map (λ column. if is_taken row g.cells column then [] else new_cell) (range_with_len 0 n)) n

-- ---- which columns are taken, cell by cell

-- The columns that are marked, or are taken by a cell that is left.
pub record AreTakenTo (row : ℕ) (g : Grid) (index : ℕ) (taken : List Bool) : Type 0 where
  pub long : length taken ≡ g.columns
  pub each : (k : ℕ) → k < g.columns → (get_or taken k false || is_taken row (drop index g.cells) k) ≡ is_taken row g.cells k

pub taken_first : (row : ℕ) (g : Grid) (taken : List Bool) → taken ≡ replicate g.columns false → AreTakenTo row g 0 taken
taken_first row g taken is = record {
  long = ap (λ (l : List Bool). length l) is ∙ length-replicate g.columns false;
  each = λ k less. ap (λ (l : List Bool). get_or l k false || is_taken row g.cells k) is ∙ ap (λ b. b || is_taken row g.cells k) (get_or-replicate g.columns k false false less);
}

or_moved : (a b c : Bool) → ((a || b) || c) ≡ (a || (b || c))
or_moved true b c = refl
or_moved false b c = refl

or_none : (a : Bool) → (a || false) ≡ a
or_none true = refl
or_none false = refl

module _ (row : ℕ) (g : Grid) (index : ℕ) (d : GridCell) (inside : index < length g.cells) where
  abbrev here : GridCell
  here = get_or g.cells index d

  left : (k : ℕ) → is_taken row (drop index g.cells) k ≡ ((spans_row row here && covers_column here k) || is_taken row (drop (index + 1) g.cells) k)
  left k = ap (λ l. is_taken row l k) (drop_more g.cells index d inside)

  pub taken_passed : (taken : List Bool) → spans_row row here ≡ false → AreTakenTo row g index taken → AreTakenTo row g (index + 1) taken
  taken_passed taken none so_far = record {
    long = so_far.long;
    each = λ k less.
        let same : is_taken row (drop index g.cells) k ≡ is_taken row (drop (index + 1) g.cells) k =
        left k ∙ ap (λ b. (b && covers_column here k) || is_taken row (drop (index + 1) g.cells) k) none in
        ap (λ b. get_or taken k false || b) (sym same) ∙ so_far.each k less;
  }

  pub taken_marked : (taken new : List Bool) → spans_row row here ≡ true → AreMarked here taken new → AreTakenTo row g index taken → AreTakenTo row g (index + 1) new
  taken_marked taken new spans marked so_far = record {
    long = marked.long ∙ so_far.long;
    each = λ k less.
        let n = so_far.long in
        let rest = is_taken row (drop (index + 1) g.cells) k in
        let same : is_taken row (drop index g.cells) k ≡ (covers_column here k || rest) = left k ∙ ap (λ b. (b && covers_column here k) || rest) spans in
        ap (λ b. b || rest) (marked.each k (omega arith)) ∙ or_moved (get_or taken k false) (covers_column here k) rest
        ∙ ap (λ b. get_or taken k false || b) (sym same) ∙ so_far.each k less;
  }

pub taken_last : (row : ℕ) (g : Grid) (index : ℕ) (taken : List Bool) → length g.cells ≤ index → AreTakenTo row g index taken → AreTaken row g taken
taken_last row g index taken past so_far = record {
  long = so_far.long;
  each = λ k less.
      sym (or_none (get_or taken k false)) ∙ ap (λ l. get_or taken k false || is_taken row l k) (sym (drop_all index g.cells past)) ∙ so_far.each k less;
}

-- ---- new cells put one after the other

cells_more : (taken : List Bool) (i : ℕ) (d : Bool) → i < length taken → cells_for (take (i + 1) taken) ≡ cells_for (take i taken) ++ (if get_or taken i d then [] else new_cell)
cells_more taken i d inside =
    let put : Bool → List PlainItem = λ b. if b then [] else new_cell in
    ap cells_for (take_more taken i d inside) ∙ flat_map-append put (take i taken) (get_or taken i d ∷ []) ∙ ap (λ l. cells_for (take i taken) ++ l) (append-nil (put (get_or taken i d)))

pub cells_skipped : (old now : List Item) (taken : List Bool) (i : ℕ) (d : Bool) → i < length taken → get_or taken i d ≡ true → AreCellsPut old (take i taken) now → AreCellsPut old (take (i + 1) taken) now
cells_skipped old now taken i d inside yes_ so_far =
    let put : Bool → List PlainItem = λ b. if b then [] else new_cell in
    let same : cells_for (take (i + 1) taken) ≡ cells_for (take i taken) = cells_more taken i d inside ∙ ap (λ b. cells_for (take i taken) ++ put b) yes_ ∙ append-nil (cells_for (take i taken)) in
    record { means = λ values. so_far.means values ∙ ap (λ l. plain_list values old ++ l) (sym same); cites = so_far.cites }

pub cells_put : (old now cell new : List Item) (taken : List Bool) (i : ℕ) (d : Bool) → i < length taken → get_or taken i d ≡ false → new ≡ now ++ cell →
    ((values : List Value) → plain_list values cell ≡ new_cell) → ((values : List Value) → All (CitesWell values) cell) → AreCellsPut old (take i taken) now → AreCellsPut old (take (i + 1) taken) new
cells_put old now cell new taken i d inside no_ whole means cites so_far =
    let put : Bool → List PlainItem = λ b. if b then [] else new_cell in
    let same : cells_for (take (i + 1) taken) ≡ cells_for (take i taken) ++ new_cell = cells_more taken i d inside ∙ ap (λ b. cells_for (take i taken) ++ put b) no_ in
    record {
      means = λ values.
          ap (plain_list values) whole ∙ map-append (plain values) now cell ∙ ap (λ l. l ++ plain_list values cell) (so_far.means values)
          ∙ ap (λ l. (plain_list values old ++ cells_for (take i taken)) ++ l) (means values) ∙ append_assoc (plain_list values old) (cells_for (take i taken)) new_cell
          ∙ ap (λ l. plain_list values old ++ l) (sym same);
      cites = λ values listed. subst (All (CitesWell values)) (sym whole) (All-append (CitesWell values) now cell (so_far.cites values listed) (cites values));
    }

-- between the row's brackets
module _ (row : ℕ) (g : Grid) (taken : List Bool) (first mid last : List Item) (are : AreTaken row g taken) (begun : first ≡ item.Opening Tr false None None None None ∷ []) (put : AreCellsPut first taken mid)
    (ended : last ≡ mid ++ item.Closing Tr None ∷ []) where
  pub row_means : (values : List Value) → plain_list values last ≡ new_row g row
  row_means values =
      ap (plain_list values) ended ∙ map-append (plain values) mid (item.Closing Tr None ∷ []) ∙ ap (λ l. l ++ closing_of Tr ∷ []) (put.means values)
      ∙ ap (λ l. (plain_list values l ++ cells_for taken) ++ closing_of Tr ∷ []) begun
      ∙ ap (λ l. opening_of Tr [] ∷ (l ++ closing_of Tr ∷ [])) (cells_are row g taken are)

  pub row_cites : (values : List Value) → All (CitesWell values) last
  row_cites values =
      let W = CitesWell values in
      let opened : All W first = subst (All W) (sym begun) (All-cons W (item.Opening Tr false None None None None) [] (tt, tt, tt) (All-nil W)) in
      subst (All W) (sym ended) (All-append W mid (item.Closing Tr None ∷ []) (put.cites values opened) (All-cons W (item.Closing Tr None) [] tt (All-nil W)))
