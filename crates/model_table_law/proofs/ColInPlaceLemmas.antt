-- The edits that put a column in, row by row: where they stand, and the node that each new cell
-- stands just inside.
use Rattle.std.specs.Prelude.{slice_get, filter, flat_map, codes, decimal, nat_le}
use Rattle.std.specs.List.{list_any, enumerate_from}
use Rattle.std.proofs.Common.{◌≡◌, ◌⊎◌, inl, inr, ℕ, zero, suc, ◌+◌, ◌-◌, ◌≤◌, ◌==◌, Bool, true, false, cond, ◌&&◌, if◌then◌else◌, nat_lt, List, [], ◌∷◌, ◌++◌, length, map, Option, Some, None, refl, sym, ap, ◌∙◌, subst, arith}
use Rattle.std.proofs.lemmas.Bool.{leb-true, leb-false, lt-ltb}
use Rattle.std.proofs.lemmas.List.{append_assoc}
use Rattle.ve_kinds.specs.declared.kind.Kind.{Kind}
use Rattle.ve_kinds.specs.declared.kind.Kind.TheVariants.{Tr}
use Rattle.ve_kinds.specs.Table.{is_among}
use Rattle.model_items.specs.declared.plain_item.PlainItem.{PlainItem}
use Rattle.model_items.specs.Law.{Lawful}
use Rattle.model_items.specs.Tree.{Open}
use Rattle.model_items.specs.Offsets.{partner, end_of_node, children}
use Rattle.model_edit.specs.Edits.{Edit, Change, Set}
use Rattle.model_edit.specs.declared.grid_cell.GridCell.{GridCell}
use Rattle.model_edit.specs.Grid.{TableRow, Grid, table_rows, row_cells, covers_row}
use Rattle.model_edit.specs.Tables.{spans_column, new_cell, cell_place, column_edits}
use Rattle.model_edit_law.specs.Spans.{rectangle_of}
use Rattle.model_edit_law.proofs.TablePlaceLemmas.{Opens, Chain, Chain-filter, row_at, cell_kinds, cell_at, Standing}
use Rattle.model_edit_law.proofs.TableFineLemmas.{sets, chain_between, row_between, place_between, row_ahead}
use Rattle.model_edit_law.proofs.TableSetLemmas.{Among, among_after}
use Rattle.model_edit_law.proofs.SiblingLemmas.{no_less}
use Rattle.model_edit_law.proofs.RowOutLemmas.{among_opens}
use Rattle.model_edit_law.proofs.CellRowLemmas.{Pairs, cells_in, AmongNodes}
use Rattle.model_table_law.proofs.RowsAddLemmas.{Rising}
use Rattle.model_table_law.proofs.PutEditsLemmas.{Puts, Apart, Apart-append}
use Rattle.model_table_law.proofs.JustInsideLemmas.{JustInside, just_one, begins_inside, ends_inside, closes_inside}

pub Puts-append : (xs ys : List Edit) → Puts xs → Puts ys → Puts (xs ++ ys)
Puts-append [] ys x y = y
Puts-append (Change p count inserted ∷ xs) ys x y = (x.0, x.1, Puts-append xs ys x.2 y)
Puts-append (Set p name value ∷ xs) ys x y = Puts-append xs ys x y

Puts-sets : (name : List ℕ) (f : GridCell → Option (List ℕ)) (cells : List GridCell) → Puts (sets name f cells)
Puts-sets name f [] = tt
Puts-sets name f (c ∷ cells) = Puts-sets name f cells

Apart-sets : (items : List PlainItem) (a : ℕ) (name : List ℕ) (f : GridCell → Option (List ℕ)) (cells : List GridCell) → Apart items a (sets name f cells)
Apart-sets items a name f [] = tt
Apart-sets items a name f (c ∷ cells) = Apart-sets items a name f cells

AmongNodes-filter : (test : Open → Bool) (n : Open) (nodes : List Open) → AmongNodes n (filter test nodes) → AmongNodes n nodes
AmongNodes-filter test n [] a = absurd a
AmongNodes-filter test n (x ∷ nodes) a = by (test x) a (λ b. AmongNodes-filter test n nodes b)
  where
    by : (b : Bool) → AmongNodes n (cond b (x ∷ filter test nodes) (filter test nodes)) → (AmongNodes n (filter test nodes) → AmongNodes n nodes) → (x ≡ n) ⊎ AmongNodes n nodes
    by true (inl e) next = inl e
    by true (inr b) next = inr (next b)
    by false b next = inr (next b)

pair_among : (items : List PlainItem) (cells : List GridCell) (nodes : List Open) (c : GridCell) → Pairs items cells nodes → Among c cells → (n : Open) × AmongNodes n nodes × (n.from ≡ c.at)
pair_among items [] nodes c p a = absurd a
pair_among items (x ∷ cells) [] c p a = absurd p
pair_among items (x ∷ cells) (n ∷ nodes) c p (inl e) = (n, inl refl, sym p.0 ∙ ap (λ (v : GridCell). v.at) e)
pair_among items (x ∷ cells) (n ∷ nodes) c p (inr a) = let r = pair_among items cells nodes c p.3 a in (r.0, inr r.1, r.2)

rising_after : (low : ℕ) (cells : List GridCell) (c : GridCell) → Rising low (map rectangle_of cells) → Among c cells → low ≤ c.column
rising_after low [] c r a = absurd a
rising_after low (x ∷ cells) c r (inl e) = subst (λ (v : GridCell). low ≤ v.column) e r.0
rising_after low (x ∷ cells) c r (inr a) = let l = r.0 in let m = rising_after x.column cells c r.1 a in omega arith

-- a cell stands before the new cell where it begins left of the column
module _ (items : List PlainItem) (row : TableRow) (column : ℕ) where
  pub place_agrees : (cells : List GridCell) (low rise : ℕ) (c : GridCell) → Chain cell_at items cell_kinds low (partner items row.at) cells → Rising rise (map rectangle_of cells) → Among c cells →
      nat_lt c.at (cell_place items row column cells) ≡ nat_lt c.column column
  place_agrees [] low rise c chain r a = absurd a
  place_agrees (x ∷ []) low rise c chain r (inr a) = absurd a
  place_agrees (x ∷ []) low rise c chain r (inl e) = subst (λ (v : GridCell). nat_lt v.at (cell_place items row column (x ∷ [])) ≡ nat_lt v.column column) e (by (nat_le column x.column) refl)
    where
      by : (b : Bool) → nat_le column x.column ≡ b → nat_lt x.at (if b then x.at else end_of_node items x.at) ≡ nat_lt x.column column
      by true t = no_less x.at x.at (omega arith) ∙ sym (no_less x.column column (leb-true column x.column t))
      by false t = let l = (chain.1.2).ahead in let m = leb-false column x.column t in lt-ltb x.at (end_of_node items x.at) (omega arith) ∙ sym (lt-ltb x.column column (omega arith))
  place_agrees (x ∷ next ∷ cells) low rise c chain r a =
      by (nat_le column x.column) refl a (λ b. place_agrees (next ∷ cells) (end_of_node items x.at) x.column c chain.2 r.1 b)
    where
      later : ℕ
      later = cell_place items row column (next ∷ cells)

      after : (x ≡ c) ⊎ Among c (next ∷ cells) → (x.at ≤ c.at) × (x.column ≤ c.column)
      after (inl e) = subst (λ (v : GridCell). (x.at ≤ v.at) × (x.column ≤ v.column)) e (omega arith, omega arith)
      after (inr b) =
          let l = among_after (codes "colspan") (λ d. None) items (next ∷ cells) (end_of_node items x.at) (partner items row.at) c chain.2 b in
          let v = (chain.1.2).ahead in
          (omega arith, rising_after x.column (next ∷ cells) c r.1 b)

      by : (b : Bool) → nat_le column x.column ≡ b → (x ≡ c) ⊎ Among c (next ∷ cells) → (Among c (next ∷ cells) → nat_lt c.at later ≡ nat_lt c.column column) →
          nat_lt c.at (if b then x.at else later) ≡ nat_lt c.column column
      by true t m rest =
          let l = leb-true column x.column t in
          let p = after m in
          let p1 = p.1 in
          no_less c.at x.at p.0 ∙ sym (no_less c.column column (omega arith))
      by false t (inr b) rest = rest b
      by false t (inl e) rest =
          let m = leb-false column x.column t in
          let l = (place_between items row column (end_of_node items x.at) (next ∷ cells) chain.2).0 in
          let v = (chain.1.2).ahead in
          subst (λ (v : GridCell). nat_lt v.at later ≡ nat_lt v.column column) e (lt-ltb x.at later (omega arith) ∙ sym (lt-ltb x.column column (omega arith)))

  -- the new cell's position is the row's end, or where a cell begins or ends
  place_is : (P : ℕ → Type 0) (cells : List GridCell) → P (partner items row.at) → ((c : GridCell) → Among c cells → P c.at × P (end_of_node items c.at)) → P (cell_place items row column cells)
  place_is P [] end each = end
  place_is P (x ∷ []) end each = by (nat_le column x.column)
    where
      by : (b : Bool) → P (if b then x.at else end_of_node items x.at)
      by true = (each x (inl refl)).0
      by false = (each x (inl refl)).1
  place_is P (x ∷ next ∷ cells) end each = by (nat_le column x.column) (place_is P (next ∷ cells) end (λ c m. each c (inr m)))
    where
      by : (b : Bool) → P (cell_place items row column (next ∷ cells)) → P (if b then x.at else cell_place items row column (next ∷ cells))
      by true rest = (each x (inl refl)).0
      by false rest = rest

row_opens : (items : List PlainItem) (low high : ℕ) (rows : List TableRow) (k : ℕ) (r : TableRow) → Chain row_at items (Tr ∷ []) low high rows → slice_get rows k ≡ Some r →
    (kind : Kind) × (is_among (Tr ∷ []) kind ≡ true) × Opens items kind r.at
row_opens items low high [] k r c h = cc
row_opens items low high (one ∷ rows) zero r c h =
    let e : one ≡ r = cc in subst (λ (v : TableRow). (kind : Kind) × (is_among (Tr ∷ []) kind ≡ true) × Opens items kind v.at) e c.1
row_opens items low high (one ∷ rows) (suc k) r c h = row_opens items (end_of_node items one.at) high rows k r c.2 h

module _ (items : List PlainItem) (at column : ℕ) (g : Grid) (lawful : Lawful items) (s : Standing items at g)
    (pairs : (k : ℕ) (r : TableRow) → slice_get (table_rows items at) k ≡ Some r → Pairs items (cells_in k g.cells) (row_cells items r.at)) where
  abbrev rows : List TableRow
  rows = table_rows items at

  abbrev pub is_row : ℕ → TableRow → Type 0
  is_row k r = slice_get (table_rows items at) k ≡ Some r

  pub opens_row : (k : ℕ) (r : TableRow) → is_row k r → (kind : Kind) × (is_among (Tr ∷ []) kind ≡ true) × Opens items kind r.at
  opens_row k r e = row_opens items (suc at) (partner items at) rows k r s.rows e

  -- the cells of a row stand in it
  pub row_chain : (k : ℕ) (r : TableRow) → is_row k r → Chain cell_at items cell_kinds (suc r.at) (partner items r.at) (cells_in k g.cells)
  row_chain k r e =
      chain_between items (suc at) (partner items at) (suc r.at) (partner items r.at) (cells_in k g.cells) (row_ahead items (Tr ∷ []) (suc at) (partner items at) rows k r s.rows e)
      (row_between items rows k r g.cells (s.cells).homes e)
      (Chain-filter cell_at items cell_kinds (λ (c : GridCell). c.row == k) (suc at) (partner items at) g.cells (s.cells).chain)

  abbrev pub place : ℕ → TableRow → ℕ
  place k r = cell_place items r column (cells_in k g.cells)

  -- The new cell's position lies just inside the row.
  pub place_inside : (k : ℕ) (r : TableRow) → is_row k r → JustInside items r.at (place k r)
  place_inside k r e =
      let o = opens_row k r e in
      place_is items r column (JustInside items r.at) (cells_in k g.cells) (closes_inside items o.0 r.at lawful o.2)
      (λ c m. each c m (pair_among items (cells_in k g.cells) (row_cells items r.at) c (pairs k r e) m))
    where
      each : (c : GridCell) → Among c (cells_in k g.cells) → (n : Open) × AmongNodes n (row_cells items r.at) × (n.from ≡ c.at) → JustInside items r.at c.at × JustInside items r.at (end_of_node items c.at)
      each c m n =
          let begins = subst (JustInside items r.at) n.2 (begins_inside items r.at n.0 (AmongNodes-filter (λ (o : Open). is_among cell_kinds o.kind) n.0 (children items r.at) n.1)) in
          let w = among_opens items (cells_in k g.cells) (suc r.at) (partner items r.at) c (row_chain k r e) m in
          let l = among_after (codes "colspan") (λ d. None) items (cells_in k g.cells) (suc r.at) (partner items r.at) c (row_chain k r e) m in
          (begins, ends_inside items w.0 r.at c.at lawful w.1 (omega arith) begins)

  abbrev pub grows : ℕ → Bool
  grows k = list_any (λ (c : GridCell). spans_column column c && covers_row c k) g.cells

  abbrev pub widened : ℕ → List Edit
  widened k = sets (codes "colspan") (λ (c : GridCell). Some (decimal (suc c.columns))) (filter (spans_column column) (cells_in k g.cells))

  abbrev pub edits_at : ℕ → TableRow → List Edit
  edits_at k r = column_edits items column g (k, r)

  abbrev pub edits_from : ℕ → List TableRow → List Edit
  edits_from k rs = flat_map (column_edits items column g) (enumerate_from k rs)

  Puts_at : (k : ℕ) (r : TableRow) → Puts (edits_at k r)
  Puts_at k r = Puts-append (widened k) (if grows k then [] else Change (place k r) 0 new_cell ∷ []) (Puts-sets (codes "colspan") (λ (c : GridCell). Some (decimal (suc c.columns))) (filter (spans_column column) (cells_in k g.cells))) (by (grows k))
    where
      by : (b : Bool) → Puts (if b then [] else Change (place k r) 0 new_cell ∷ [])
      by true = tt
      by false = (refl, refl, tt)

  pub Puts_from : (k : ℕ) (rs : List TableRow) → Puts (edits_from k rs)
  Puts_from k [] = tt
  Puts_from k (r ∷ rs) = Puts-append (edits_at k r) (edits_from (k + 1) rs) (Puts_at k r) (Puts_from (k + 1) rs)

  -- in a node that is no row, or another row, none of a row's edits puts a cell
  pub Apart_at : (kind : Kind) (a k : ℕ) (r : TableRow) → Opens items kind a → is_row k r → (a ≡ r.at → ⊥) → Apart items a (edits_at k r)
  Apart_at kind a k r o e other =
      Apart-append items a (widened k) (if grows k then [] else Change (place k r) 0 new_cell ∷ [])
      (Apart-sets items a (codes "colspan") (λ (c : GridCell). Some (decimal (suc c.columns))) (filter (spans_column column) (cells_in k g.cells))) (by (grows k))
    where
      by : (b : Bool) → Apart items a (if b then [] else Change (place k r) 0 new_cell ∷ [])
      by true = tt
      by false =
          let w = opens_row k r e in
          let l = (place_between items r column (suc r.at) (cells_in k g.cells) (row_chain k r e)).0 in
          (just_one items kind w.0 a r.at (place k r) o w.2 other (omega arith) (place_inside k r e), tt)

  -- a row into which a cell grows gets no new cell
  pub Apart_grown : (a k : ℕ) (r : TableRow) → grows k ≡ true → Apart items a (edits_at k r)
  Apart_grown a k r e =
      Apart-append items a (widened k) (if grows k then [] else Change (place k r) 0 new_cell ∷ [])
      (Apart-sets items a (codes "colspan") (λ (c : GridCell). Some (decimal (suc c.columns))) (filter (spans_column column) (cells_in k g.cells)))
      (subst (λ b. Apart items a (if b then [] else Change (place k r) 0 new_cell ∷ [])) (sym e) tt)

  pub Apart_from : (kind : Kind) (a k : ℕ) (rs : List TableRow) → Opens items kind a → ((n : ℕ) (r : TableRow) → slice_get rs n ≡ Some r → is_row (k + n) r × (a ≡ r.at → ⊥)) → Apart items a (edits_from k rs)
  Apart_from kind a k [] o h = tt
  Apart_from kind a k (r ∷ rs) o h =
      let z : k + 0 ≡ k = omega arith in
      let own = h 0 r refl in
      Apart-append items a (edits_at k r) (edits_from (k + 1) rs) (Apart_at kind a k r o (subst (λ n. is_row n r) z own.0) own.1)
      (Apart_from kind a (k + 1) rs o (λ n r' e. let y : k + suc n ≡ (k + 1) + n = omega arith in let t = h (suc n) r' e in (subst (λ m. is_row m r') y t.0, t.1)))

  pub edits_from-append : (k n : ℕ) (xs ys : List TableRow) → n ≡ k + length xs → edits_from k (xs ++ ys) ≡ edits_from k xs ++ edits_from n ys
  edits_from-append k n [] ys e = let z : k ≡ n = omega arith in ap (λ m. edits_from m ys) z
  edits_from-append k n (x ∷ xs) ys e =
      ap (λ v. edits_at k x ++ v) (edits_from-append (k + 1) n xs ys (omega arith)) ∙ sym (append_assoc (edits_at k x) (edits_from (k + 1) xs) (edits_from n ys))
