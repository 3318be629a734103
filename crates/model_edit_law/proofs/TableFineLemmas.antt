-- The transactions of the four calls are in normal form, and apply.
use Rattle.std.specs.Prelude.{slice_get, filter, flat_map, codes, decimal}
use Rattle.std.specs.List.{list_any, enumerate_from}
use Rattle.std.proofs.Common.{◌≡◌, inl, inr, ℕ, zero, suc, ◌+◌, ◌-◌, ◌<◌, ◌≤◌, ◌==◌, Bool, true, false, cond, not, ◌&&◌, if◌then◌else◌, nat_le, nat_lt, List, [], ◌∷◌, ◌++◌, length, map, drop, Option, Some, None, Result, Ok, Err, refl, sym, ap, ◌∙◌, subst, arith}
use Rattle.std.proofs.lemmas.Bool.{cases_Bool, and_parts, and_from, or_parts, eqb-true, ltb-true, lt-ltb, le-leb}
use Rattle.ve_kinds.specs.declared.kind.Kind.{Kind}
use Rattle.ve_kinds.specs.declared.kind.Kind.TheVariants.{Tr, Td, Th}
use Rattle.model_items.specs.declared.plain_item.PlainItem.{PlainItem}
use Rattle.model_items.specs.declared.plain_item.PlainItem.TheVariants.{Opening}
use Rattle.ve_kinds.specs.Table.{is_among, is_element}
use Rattle.model_items.proofs.LawLemmas.{Ok-same}
use Rattle.model_change.specs.Attributes.{is_reserved}
use Rattle.model_change.specs.Transaction.{Transaction}
use Rattle.model_items.specs.Offsets.{partner, end_of_node}
use Rattle.model_edit_law.specs.Fine.{Fine}
use Rattle.model_edit.specs.Edits.{Edit, Change, Set, transaction_of, InOrder, may_set, MaySet}
use Rattle.model_edit_law.proofs.OrderLemmas.{Fine-edits}
use Rattle.model_edit.specs.declared.grid_cell.GridCell.{GridCell}
use Rattle.model_edit.specs.Causes.{TableCause}
use Rattle.model_edit.specs.Grid.{TableRow, Grid, grid, table_rows, covers_row, covers_column}
use Rattle.model_edit.specs.Tables.{spans_row, spans_column, fault_or, on_grid, row_place, new_row, new_cell, row_in_edits, cell_place, column_edits, whole_node, row_removed, cell_removed}
use Rattle.model_edit_law.specs.TableLaws.{RowInIsFine, ColInIsFine, RowOutIsFine, ColOutIsFine}
use Rattle.model_edit_law.proofs.TablePlaceLemmas.{Opens, Chain, Chain-within, Chain-ends, Chain-filter, row_at, cell_kinds, cell_at, Homes, Standing, grid_stands}

pub InOrder-within : (at at' end end' : ℕ) (edits : List Edit) → at' ≤ at → end ≤ end' → InOrder at end edits → InOrder at' end' edits
InOrder-within at at' end end' [] low high h = omega arith
InOrder-within at at' end end' (Change place count inserted ∷ edits) low high h =
    let a = h.0 in (omega arith, InOrder-within (place + count) (place + count) end end' edits (omega arith) high h.1)
InOrder-within at at' end end' (Set place name to ∷ edits) low high h =
    let a = h.0 in (omega arith, InOrder-within (suc place) (suc place) end end' edits (omega arith) high h.1)

InOrder-append : (at middle end : ℕ) (xs ys : List Edit) → InOrder at middle xs → InOrder middle end ys → InOrder at end (xs ++ ys)
InOrder-append at middle end [] ys h g = InOrder-within middle at end end ys h (omega arith) g
InOrder-append at middle end (Change place count inserted ∷ xs) ys h g = (h.0, InOrder-append (place + count) middle end xs ys h.1 g)
InOrder-append at middle end (Set place name to ∷ xs) ys h g = (h.0, InOrder-append (suc place) middle end xs ys h.1 g)

-- each attribute may be set where it is
abbrev pub EachMay : List PlainItem → List Edit → Type 0
EachMay whole [] = Unit {0}
EachMay whole (Change place count inserted ∷ edits) = EachMay whole edits
EachMay whole (Set place name to ∷ edits) = (may_set name (drop place whole) ≡ true) × EachMay whole edits

EachMay-append : (whole : List PlainItem) (xs ys : List Edit) → EachMay whole xs → EachMay whole ys → EachMay whole (xs ++ ys)
EachMay-append whole [] ys h g = g
EachMay-append whole (Change place count inserted ∷ xs) ys h g = EachMay-append whole xs ys h g
EachMay-append whole (Set place name to ∷ xs) ys h g = (h.0, EachMay-append whole xs ys h.1 g)

drop_none : (n : ℕ) → drop {A = PlainItem} n [] ≡ []
drop_none zero = refl
drop_none (suc n) = refl

pub drop_twice : (a b n : ℕ) (xs : List PlainItem) → b + a ≡ n → drop a (drop b xs) ≡ drop n xs
drop_twice a b n [] e = ap (drop a) (drop_none b) ∙ drop_none a ∙ sym (drop_none n)
drop_twice a zero n (x ∷ xs) e = let z : a ≡ n = omega arith in ap (λ k. drop k (x ∷ xs)) z
drop_twice a (suc b) zero (x ∷ xs) e = absurd (omega arith)
drop_twice a (suc b) (suc n) (x ∷ xs) e = drop_twice a b n xs (omega arith)

MaySet-each : (whole : List PlainItem) (n end : ℕ) (edits : List Edit) → InOrder n end edits → EachMay whole edits → MaySet n (drop n whole) edits
MaySet-each whole n end [] h m = tt
MaySet-each whole n end (Change place count inserted ∷ edits) h m =
    let low = h.0 in
    let e : drop count (drop (place - n) (drop n whole)) ≡ drop (place + count) whole =
    ap (drop count) (drop_twice (place - n) n place whole (omega arith)) ∙ drop_twice count place (place + count) whole refl in
    subst (λ v. MaySet (place + count) v edits) (sym e) (MaySet-each whole (place + count) end edits h.1 m)
MaySet-each whole n end (Set place name to ∷ edits) h m =
    let low = h.0 in
    let e : drop (place - n) (drop n whole) ≡ drop place whole = drop_twice (place - n) n place whole (omega arith) in
    subst (λ v. (may_set name v ≡ true) × MaySet place v edits) (sym e)
    (m.0, MaySet-each whole place end edits (InOrder-within (suc place) place end end edits (omega arith) (omega arith) h.1) m.1)

fine_each : (items : List PlainItem) (edits : List Edit) → InOrder 0 (length items) edits → EachMay items edits → Fine items (transaction_of items edits)
fine_each items edits h m = Fine-edits items edits h (MaySet-each items 0 (length items) edits h m)

cell_is_element : (k : Kind) → is_among cell_kinds k ≡ true → is_element k ≡ true
cell_is_element Td h = refl
cell_is_element Th h = refl
cell_is_element _ h = cc

pub drop_at : (items : List PlainItem) (n : ℕ) (x : PlainItem) → slice_get items n ≡ Some x → drop n items ≡ x ∷ drop (suc n) items
drop_at [] n x h = cc
drop_at (y ∷ items) zero x h = (let e : y ≡ x = cc in ap (λ v. v ∷ items) e)
drop_at (y ∷ items) (suc n) x h = drop_at items n x h

may_here : (items : List PlainItem) (kind : Kind) (at : ℕ) (name : List ℕ) → is_reserved name ≡ false → is_among cell_kinds kind ≡ true → Opens items kind at →
    may_set name (drop at items) ≡ true
may_here items kind at name free cell o =
    ap (may_set name) (drop_at items at (Opening kind o.head o.marks o.pre o.origin o.generated) o.here)
    ∙ and_from (is_element kind) (not (is_reserved name)) (cell_is_element kind cell) (ap not free)

-- each stands before a position
abbrev Ups : ℕ → List GridCell → Type 0
Ups place [] = Unit {0}
Ups place (c ∷ cells) = (suc c.at ≤ place) × Ups place cells

abbrev pub sets : List ℕ → (GridCell → Option (List ℕ)) → List GridCell → List Edit
sets name f cells = map (λ (c : GridCell). Set c.at name (f c)) cells

sets_order : (items : List PlainItem) (name : List ℕ) (f : GridCell → Option (List ℕ)) (cells : List GridCell) (low high place end : ℕ) (tail : List Edit) →
    Chain cell_at items cell_kinds low high cells → Ups place cells → low ≤ place → ((l : ℕ) → l ≤ place → InOrder l end tail) → InOrder low end (sets name f cells ++ tail)
sets_order items name f [] low high place end tail c u h t = t low h
sets_order items name f (cell ∷ cells) low high place end tail c u h t =
    let a = (c.1.2).ahead in
    (c.0, sets_order items name f cells (suc cell.at) high place end tail (Chain-within cell_at items cell_kinds (end_of_node items cell.at) (suc cell.at) high high cells (omega arith) (omega arith) c.2) u.1 (u.0) t)

sets_may : (items : List PlainItem) (name : List ℕ) (f : GridCell → Option (List ℕ)) (cells : List GridCell) (low high : ℕ) → is_reserved name ≡ false →
    Chain cell_at items cell_kinds low high cells → EachMay items (sets name f cells)
sets_may items name f [] low high free c = tt
sets_may items name f (cell ∷ cells) low high free c =
    (may_here items (c.1.0) cell.at name free (c.1.1) (c.1.2), sets_may items name f cells (end_of_node items cell.at) high free c.2)

-- a row stands where the chain does
pub row_within : (items : List PlainItem) (kinds : List Kind) (low high : ℕ) (rows : List TableRow) (i : ℕ) (r : TableRow) → Chain row_at items kinds low high rows → slice_get rows i ≡ Some r →
    (low ≤ r.at) × (suc (partner items r.at) ≤ high)
row_within items kinds low high [] i r c h = cc
row_within items kinds low high (one ∷ rows) zero r c h =
    let e : one ≡ r = cc in
    let z = Chain-ends row_at items kinds (end_of_node items one.at) high rows c.2 in
    subst (λ v. (low ≤ v.at) × (suc (partner items v.at) ≤ high)) e (c.0, z)
row_within items kinds low high (one ∷ rows) (suc i) r c h =
    let p = row_within items kinds (end_of_node items one.at) high rows i r c.2 h in
    let a = (c.1.2).ahead in
    let b = c.0 in
    let q = p.0 in
    (omega arith, p.1)

-- an earlier row ends before a later one begins
pub rows_apart : (items : List PlainItem) (kinds : List Kind) (low high : ℕ) (rows : List TableRow) (i k : ℕ) (r later : TableRow) → Chain row_at items kinds low high rows →
    slice_get rows i ≡ Some r → slice_get rows k ≡ Some later → i < k → suc (partner items r.at) ≤ later.at
rows_apart items kinds low high [] i k r later c h g less = cc
rows_apart items kinds low high (one ∷ rows) i zero r later c h g less = absurd (omega arith)
rows_apart items kinds low high (one ∷ rows) zero (suc k) r later c h g less =
    let e : one ≡ r = cc in
    subst (λ (v : TableRow). suc (partner items v.at) ≤ later.at) e (row_within items kinds (end_of_node items one.at) high rows k later c.2 g).0
rows_apart items kinds low high (one ∷ rows) (suc i) (suc k) r later c h g less = rows_apart items kinds (end_of_node items one.at) high rows i k r later c.2 h g (omega arith)

pub place_within : (items : List PlainItem) (kinds : List Kind) (low high : ℕ) (one : TableRow) (rows : List TableRow) (k : ℕ) → Chain row_at items kinds low high (one ∷ rows) →
    (low ≤ row_place items (one ∷ rows) k) × (row_place items (one ∷ rows) k ≤ high)
place_within items kinds low high one [] zero c = let a = c.0 in let b = c.2 in let d = (c.1.2).ahead in (c.0, omega arith)
place_within items kinds low high one [] (suc k) c = let a = c.0 in let b = c.2 in let d = (c.1.2).ahead in (omega arith, c.2)
place_within items kinds low high one (next ∷ rows) zero c =
    let a = c.0 in let b = Chain-ends row_at items kinds (end_of_node items one.at) high (next ∷ rows) c.2 in let d = (c.1.2).ahead in (c.0, omega arith)
place_within items kinds low high one (next ∷ rows) (suc k) c =
    let r = place_within items kinds (end_of_node items one.at) high next rows k c.2 in
    let a = c.0 in let d = (c.1.2).ahead in let q = r.0 in (omega arith, r.1)

pub place_after : (items : List PlainItem) (kinds : List Kind) (low high : ℕ) (rows : List TableRow) (i k : ℕ) (r : TableRow) → Chain row_at items kinds low high rows →
    slice_get rows i ≡ Some r → i < k → suc (partner items r.at) ≤ row_place items rows k
place_after items kinds low high [] i k r c h less = cc
place_after items kinds low high (one ∷ rows) i zero r c h less = absurd (omega arith)
place_after items kinds low high (one ∷ []) zero (suc k) r c h less = let e : one ≡ r = cc in subst (λ (v : TableRow). suc (partner items v.at) ≤ suc (partner items one.at)) e (omega arith)
place_after items kinds low high (one ∷ []) (suc i) (suc k) r c h less = cc
place_after items kinds low high (one ∷ next ∷ rows) zero (suc k) r c h less =
    let e : one ≡ r = cc in
    subst (λ (v : TableRow). suc (partner items v.at) ≤ row_place items (next ∷ rows) k) e (place_within items kinds (end_of_node items one.at) high next rows k c.2).0
place_after items kinds low high (one ∷ next ∷ rows) (suc i) (suc k) r c h less =
    place_after items kinds (end_of_node items one.at) high (next ∷ rows) i k r c.2 h (omega arith)

-- cells of rows above a position
spanning_up : (items : List PlainItem) (rows : List TableRow) (row place : ℕ) (cells : List GridCell) → Homes items rows cells →
    ((i : ℕ) (r : TableRow) → slice_get rows i ≡ Some r → i < row → suc (partner items r.at) ≤ place) → Ups place (filter (spans_row row) cells)
spanning_up items rows row place [] h g = tt
spanning_up items rows row place (cell ∷ cells) h g =
    let F = filter (spans_row row) cells in
    let rest = spanning_up items rows row place cells h.1 g in
    elim (cases_Bool (spans_row row cell)) [
      | inl yes_ ↦
          (let home = h.0 in
          let less = ltb-true cell.row row (and_parts (nat_lt cell.row row) _ yes_).0 in
          let end = g cell.row home.row home.named less in
          let inside = home.inside in
          subst (λ b. Ups place (cond b (cell ∷ F) F)) (sym yes_) (omega arith, rest))
      | inr no_ ↦ subst (λ b. Ups place (cond b (cell ∷ F) F)) (sym no_) rest
    ]

pub fault_or_is : (o : Option TableCause) (s t : Transaction) → fault_or o s ≡ Ok t → s ≡ t
fault_or_is None s t h = Ok-same {E = TableCause} s t h
fault_or_is (Some e) s t h = cc

pub grid_given : (r : Result Grid TableCause) (f : Grid → Result Transaction TableCause) (t : Transaction) → on_grid r f ≡ Ok t → (g : Grid) × (r ≡ Ok g) × (f g ≡ Ok t)
grid_given (Err e) f t h = cc
grid_given (Ok g) f t h = (g, refl, h)

row_place_high : (items : List PlainItem) (kinds : List Kind) (low high : ℕ) (rows : List TableRow) (k : ℕ) → Chain row_at items kinds low high rows → row_place items rows k ≤ high
row_place_high items kinds low high [] k c = omega arith
row_place_high items kinds low high (one ∷ rows) k c = (place_within items kinds low high one rows k c).1

pub row_in_order : (items : List PlainItem) (at row : ℕ) (g : Grid) → Standing items at g → InOrder 0 (length items) (row_in_edits items (table_rows items at) row g)
row_in_order items at row g s =
    let rows = table_rows items at in
    let place = row_place items rows row in
    let cells = filter (spans_row row) g.cells in
    let within = (s.table).within in
    let high = row_place_high items (Tr ∷ []) (suc at) (partner items at) rows row s.rows in
    let chain = Chain-within cell_at items cell_kinds (suc at) 0 (partner items at) (partner items at) cells (omega arith) (omega arith)
    (Chain-filter cell_at items cell_kinds (spans_row row) (suc at) (partner items at) g.cells (s.cells).chain) in
    let ups = spanning_up items rows row place g.cells (s.cells).homes (λ i r e less. place_after items (Tr ∷ []) (suc at) (partner items at) rows i row r s.rows e less) in
    sets_order items (codes "rowspan") (λ c. Some (decimal (suc c.rows))) cells 0 (partner items at) place (length items) (Change place 0 (new_row g row) ∷ []) chain ups (omega arith) (λ l low. (low, omega arith))

pub row_in_fine : RowInIsFine
row_in_fine items at row t lawful h =
    let p = grid_given (grid items at) _ t h in
    let g = p.0 in
    let s = grid_stands items at g lawful p.1 in
    let cells = filter (spans_row row) g.cells in
    let f : GridCell → Option (List ℕ) = λ c. Some (decimal (suc c.rows)) in
    let edits = row_in_edits items (table_rows items at) row g in
    let chain = Chain-filter cell_at items cell_kinds (spans_row row) (suc at) (partner items at) g.cells (s.cells).chain in
    let may : EachMay items edits = EachMay-append items (sets (codes "rowspan") f cells) (Change (row_place items (table_rows items at) row) 0 (new_row g row) ∷ []) (sets_may items (codes "rowspan") f cells (suc at) (partner items at) refl chain) tt in
    subst (Fine items) (fault_or_is _ (transaction_of items edits) t p.2) (fine_each items edits (row_in_order items at row g s) may)

removed_order : (items : List PlainItem) (place : ℕ) (o : Option TableRow) → ((r : TableRow) → o ≡ Some r → (place ≡ r.at) × (suc (partner items r.at) ≤ length items) × (suc r.at ≤ partner items r.at)) →
    place ≤ length items → (l : ℕ) → l ≤ place → InOrder l (length items) (row_removed items o)
removed_order items place None h high l low = omega arith
removed_order items place (Some r) h high l low =
    let p = h r refl in
    let a = p.0 in
    let b = p.1 in
    let c = p.2 in
    (omega arith, omega arith)

removed_may : (items : List PlainItem) (o : Option TableRow) → EachMay items (row_removed items o)
removed_may items None = tt
removed_may items (Some r) = tt

pub row_ahead : (items : List PlainItem) (kinds : List Kind) (low high : ℕ) (rows : List TableRow) (i : ℕ) (r : TableRow) → Chain row_at items kinds low high rows → slice_get rows i ≡ Some r → suc r.at ≤ partner items r.at
row_ahead items kinds low high [] i r c h = cc
row_ahead items kinds low high (one ∷ rows) zero r c h = let e : one ≡ r = cc in subst (λ (v : TableRow). suc v.at ≤ partner items v.at) e (c.1.2).ahead
row_ahead items kinds low high (one ∷ rows) (suc i) r c h = row_ahead items kinds (end_of_node items one.at) high rows i r c.2 h

-- where the row stands, and else the end of the list
place_or_end : List PlainItem → Option TableRow → ℕ
place_or_end items None = length items
place_or_end items (Some r) = r.at

pub row_out_order : (items : List PlainItem) (at row : ℕ) (g : Grid) → Standing items at g → (o : Option TableRow) → slice_get (table_rows items at) row ≡ o →
    InOrder 0 (length items) (sets (codes "rowspan") (λ c. Some (decimal (c.rows - 1))) (filter (spans_row row) g.cells) ++ row_removed items o)
row_out_order items at row g s None e =
    let rows = table_rows items at in
    let cells = filter (spans_row row) g.cells in
    let within = (s.table).within in
    let chain = Chain-within cell_at items cell_kinds (suc at) 0 (partner items at) (partner items at) cells (omega arith) (omega arith)
    (Chain-filter cell_at items cell_kinds (spans_row row) (suc at) (partner items at) g.cells (s.cells).chain) in
    let ups = spanning_up items rows row (length items) g.cells (s.cells).homes (λ i r e less. let q = (row_within items (Tr ∷ []) (suc at) (partner items at) rows i r s.rows e).1 in omega arith) in
    sets_order items (codes "rowspan") (λ c. Some (decimal (c.rows - 1))) cells 0 (partner items at) (length items) (length items) [] chain ups (omega arith) (λ l low. low)
row_out_order items at row g s (Some r) e =
    let rows = table_rows items at in
    let cells = filter (spans_row row) g.cells in
    let within = (s.table).within in
    let q = (row_within items (Tr ∷ []) (suc at) (partner items at) rows row r s.rows e).1 in
    let a = row_ahead items (Tr ∷ []) (suc at) (partner items at) rows row r s.rows e in
    let chain = Chain-within cell_at items cell_kinds (suc at) 0 (partner items at) (partner items at) cells (omega arith) (omega arith)
    (Chain-filter cell_at items cell_kinds (spans_row row) (suc at) (partner items at) g.cells (s.cells).chain) in
    let ups = spanning_up items rows row r.at g.cells (s.cells).homes (λ i r' e' less. rows_apart items (Tr ∷ []) (suc at) (partner items at) rows i row r' r s.rows e' e less) in
    sets_order items (codes "rowspan") (λ c. Some (decimal (c.rows - 1))) cells 0 (partner items at) r.at (length items) (whole_node items r.at ∷ []) chain ups (omega arith)
    (λ l low. (low, omega arith))

pub row_out_fine : RowOutIsFine
row_out_fine items at row t lawful h =
    let p = grid_given (grid items at) _ t h in
    let g = p.0 in
    let s = grid_stands items at g lawful p.1 in
    let o = slice_get (table_rows items at) row in
    let cells = filter (spans_row row) g.cells in
    let f : GridCell → Option (List ℕ) = λ c. Some (decimal (c.rows - 1)) in
    let chain = Chain-filter cell_at items cell_kinds (spans_row row) (suc at) (partner items at) g.cells (s.cells).chain in
    let edits = sets (codes "rowspan") f cells ++ row_removed items o in
    subst (Fine items) (fault_or_is _ (transaction_of items edits) t p.2)
    (fine_each items edits (row_out_order items at row g s o refl)
    (EachMay-append items (sets (codes "rowspan") f cells) (row_removed items o) (sets_may items (codes "rowspan") f cells (suc at) (partner items at) refl chain) (removed_may items o)))

-- a column's cells go or shrink
pub col_out_order : (items : List PlainItem) (cells : List GridCell) (low high : ℕ) → Chain cell_at items cell_kinds low high cells → InOrder low high (map (cell_removed items) cells)
col_out_order items [] low high c = c
col_out_order items (cell ∷ cells) low high c =
    let a = (c.1.2).ahead in
    let rest = col_out_order items cells (end_of_node items cell.at) high c.2 in
    elim (cell.columns == 1) as (λ b. InOrder low high ((if b then whole_node items cell.at else Set cell.at (codes "colspan") (Some (decimal (cell.columns - 1)))) ∷ map (cell_removed items) cells)) [
      | true ↦ (c.0, InOrder-within (end_of_node items cell.at) (cell.at + (end_of_node items cell.at - cell.at)) high high _ (omega arith) (omega arith) rest)
      | false ↦ (c.0, InOrder-within (end_of_node items cell.at) (suc cell.at) high high _ (omega arith) (omega arith) rest)
    ]

col_out_may : (items : List PlainItem) (cells : List GridCell) (low high : ℕ) → Chain cell_at items cell_kinds low high cells → EachMay items (map (cell_removed items) cells)
col_out_may items [] low high c = tt
col_out_may items (cell ∷ cells) low high c =
    let rest = col_out_may items cells (end_of_node items cell.at) high c.2 in
    elim (cell.columns == 1) as (λ b. EachMay items ((if b then whole_node items cell.at else Set cell.at (codes "colspan") (Some (decimal (cell.columns - 1)))) ∷ map (cell_removed items) cells)) [
      | true ↦ rest
      | false ↦ (may_here items (c.1.0) cell.at (codes "colspan") refl (c.1.1) (c.1.2), rest)
    ]

pub col_out_fine : ColOutIsFine
col_out_fine items at column t lawful h =
    let p = grid_given (grid items at) _ t h in
    let g = p.0 in
    let s = grid_stands items at g lawful p.1 in
    let within = (s.table).within in
    let test : GridCell → Bool = λ c. covers_column c column in
    let cells = filter test g.cells in
    let chain = Chain-filter cell_at items cell_kinds test (suc at) (partner items at) g.cells (s.cells).chain in
    let edits = map (cell_removed items) cells in
    subst (Fine items) (fault_or_is _ (transaction_of items edits) t p.2)
    (fine_each items edits (InOrder-within (suc at) 0 (partner items at) (length items) edits (omega arith) (omega arith) (col_out_order items cells (suc at) (partner items at) chain))
    (col_out_may items cells (suc at) (partner items at) chain))

-- cells that all lie between two positions
abbrev pub Between : List PlainItem → (low high : ℕ) → List GridCell → Type 0
Between items low high [] = Unit {0}
Between items low high (c ∷ cells) = (low ≤ c.at) × (end_of_node items c.at ≤ high) × Between items low high cells

chain_up_to : (items : List PlainItem) (low high high' : ℕ) (cells : List GridCell) → low ≤ high' → Between items 0 high' cells → Chain cell_at items cell_kinds low high cells →
    Chain cell_at items cell_kinds low high' cells
chain_up_to items low high high' [] h b c = h
chain_up_to items low high high' (cell ∷ cells) h b c = (c.0, c.1, chain_up_to items (end_of_node items cell.at) high high' cells b.1 b.2 c.2)

Between-zero : (items : List PlainItem) (low high : ℕ) (cells : List GridCell) → Between items low high cells → Between items 0 high cells
Between-zero items low high [] b = tt
Between-zero items low high (c ∷ cells) b = (omega arith, b.1, Between-zero items low high cells b.2)

pub chain_between : (items : List PlainItem) (low high low' high' : ℕ) (cells : List GridCell) → low' ≤ high' → Between items low' high' cells → Chain cell_at items cell_kinds low high cells →
    Chain cell_at items cell_kinds low' high' cells
chain_between items low high low' high' [] h b c = h
chain_between items low high low' high' (cell ∷ cells) h b c =
    (b.0, c.1, chain_up_to items (end_of_node items cell.at) high high' cells b.1 (Between-zero items low' high' cells b.2) c.2)

-- the cells of one row
pub row_between : (items : List PlainItem) (rows : List TableRow) (index : ℕ) (row : TableRow) (cells : List GridCell) → Homes items rows cells → slice_get rows index ≡ Some row →
    Between items (suc row.at) (partner items row.at) (filter (λ (c : GridCell). c.row == index) cells)
row_between items rows index row [] h e = tt
row_between items rows index row (cell ∷ cells) h e =
    let F = filter (λ (c : GridCell). c.row == index) cells in
    let rest = row_between items rows index row cells h.1 e in
    let P : Bool → Type 0 = λ b. Between items (suc row.at) (partner items row.at) (cond b (cell ∷ F) F) in
    elim (cases_Bool (cell.row == index)) [
      | inl yes_ ↦
          (let home = h.0 in
          let z = eqb-true cell.row index yes_ in
          let same : home.row ≡ row = (let q : ◌≡◌ {A = Option TableRow} (Some home.row) (Some row) = sym home.named ∙ ap (slice_get rows) z ∙ e in cc) in
          let low : suc row.at ≤ cell.at = subst (λ (r : TableRow). suc r.at ≤ cell.at) same home.low in
          let high : end_of_node items cell.at ≤ partner items row.at = subst (λ (r : TableRow). end_of_node items cell.at ≤ partner items r.at) same home.high in
          subst P (sym yes_) (low, high, rest))
      | inr no_ ↦ subst P (sym no_) rest
    ]

-- where no cell grows into the new column at this row, none of the row's cells spans it
pub none_spans : (items : List PlainItem) (rows : List TableRow) (index column : ℕ) (cells : List GridCell) → Homes items rows cells →
    list_any (λ (c : GridCell). spans_column column c && covers_row c index) cells ≡ false →
    filter (spans_column column) (filter (λ (c : GridCell). c.row == index) cells) ≡ []
none_spans items rows index column [] h n = refl
none_spans items rows index column (cell ∷ cells) h n =
    let F = filter (λ (c : GridCell). c.row == index) cells in
    let p = or_parts (spans_column column cell && covers_row cell index) _ n in
    let rest = none_spans items rows index column cells h.1 p.1 in
    let tall = (h.0).tall in
    let P : Bool → Type 0 = λ b. filter (spans_column column) (cond b (cell ∷ F) F) ≡ [] in
    elim (cases_Bool (cell.row == index)) [
      | inl yes_ ↦ subst P (sym yes_)
          (let z = eqb-true cell.row index yes_ in
          let covers : covers_row cell index ≡ true = and_from _ _ (le-leb cell.row index (omega arith)) (lt-ltb index (cell.row + cell.rows) (omega arith)) in
          let not_spans : spans_column column cell ≡ false = and_false (spans_column column cell) (covers_row cell index) covers p.0 in
          ap (λ b. cond b (cell ∷ filter (spans_column column) F) (filter (spans_column column) F)) not_spans ∙ rest)
      | inr no_ ↦ subst P (sym no_) rest
    ]
  where
    and_false : (a b : Bool) → b ≡ true → (a && b) ≡ false → a ≡ false
    and_false true true e h = h
    and_false true false e h = cc
    and_false false b e h = refl

-- the new cell's position is in the row
pub place_between : (items : List PlainItem) (row : TableRow) (column low : ℕ) (cells : List GridCell) → Chain cell_at items cell_kinds low (partner items row.at) cells →
    (low ≤ cell_place items row column cells) × (cell_place items row column cells ≤ partner items row.at)
place_between items row column low [] c = (c, omega arith)
place_between items row column low (cell ∷ []) c =
    let a = c.0 in
    let b = (c.1.2).ahead in
    let d = c.2 in
    elim (nat_le column cell.column) as (λ v. (low ≤ (if v then cell.at else end_of_node items cell.at)) × ((if v then cell.at else end_of_node items cell.at) ≤ partner items row.at)) [
      | true ↦ (c.0, omega arith)
      | false ↦ (omega arith, c.2)
    ]
place_between items row column low (cell ∷ next ∷ cells) c =
    let a = c.0 in
    let b = (c.1.2).ahead in
    let far = Chain-ends cell_at items cell_kinds (end_of_node items cell.at) (partner items row.at) (next ∷ cells) c.2 in
    let r = place_between items row column (end_of_node items cell.at) (next ∷ cells) c.2 in
    let q = r.0 in
    let other = cell_place items row column (next ∷ cells) in
    elim (nat_le column cell.column) as (λ v. (low ≤ (if v then cell.at else other)) × ((if v then cell.at else other) ≤ partner items row.at)) [
      | true ↦ (c.0, omega arith)
      | false ↦ (omega arith, r.1)
    ]

Ups-between : (items : List PlainItem) (low high : ℕ) (cells : List GridCell) → Chain cell_at items cell_kinds low high cells → Ups high cells
Ups-between items low high [] c = tt
Ups-between items low high (cell ∷ cells) c =
    let b = (c.1.2).ahead in
    let far = Chain-ends cell_at items cell_kinds (end_of_node items cell.at) high cells c.2 in
    (omega arith, Ups-between items (end_of_node items cell.at) high cells c.2)

-- the edits of one row
pub record RowEdits (items : List PlainItem) (low high : ℕ) (edits : List Edit) : Type 0 where
  pub order : InOrder low high edits
  pub may : EachMay items edits

row_edits : (items : List PlainItem) (at column : ℕ) (g : Grid) → Standing items at g → (index : ℕ) (row : TableRow) → slice_get (table_rows items at) index ≡ Some row →
    RowEdits items (suc row.at) (partner items row.at) (column_edits items column g (index, row))
row_edits items at column g s index row e =
    let rows = table_rows items at in
    let cells = filter (λ (c : GridCell). c.row == index) g.cells in
    let spanned = filter (spans_column column) cells in
    let f : GridCell → Option (List ℕ) = λ c. Some (decimal (suc c.columns)) in
    let ahead = row_ahead items (Tr ∷ []) (suc at) (partner items at) rows index row s.rows e in
    let whole = Chain-filter cell_at items cell_kinds (λ (c : GridCell). c.row == index) (suc at) (partner items at) g.cells (s.cells).chain in
    let chain = chain_between items (suc at) (partner items at) (suc row.at) (partner items row.at) cells (omega arith) (row_between items rows index row g.cells (s.cells).homes e) whole in
    let chain' = Chain-filter cell_at items cell_kinds (spans_column column) (suc row.at) (partner items row.at) cells chain in
    let grows = list_any (λ (c : GridCell). spans_column column c && covers_row c index) g.cells in
    let place = cell_place items row column cells in
    let P : Bool → Type 0 = λ b. RowEdits items (suc row.at) (partner items row.at) (sets (codes "colspan") f spanned ++ (if b then [] else Change place 0 new_cell ∷ [])) in
    let ups = Ups-between items (suc row.at) (partner items row.at) spanned chain' in
    let between = place_between items row column (suc row.at) cells chain in
    let b0 = between.0 in
    let b1 = between.1 in
    elim (cases_Bool grows) [
      | inl yes_ ↦ subst P (sym yes_) (record {
        order = sets_order items (codes "colspan") f spanned (suc row.at) (partner items row.at) (partner items row.at) (partner items row.at) [] chain' ups ahead (λ l low. low);
        may = EachMay-append items (sets (codes "colspan") f spanned) [] (sets_may items (codes "colspan") f spanned (suc row.at) (partner items row.at) refl chain') tt;
      })
      | inr no_ ↦ subst P (sym no_)
          (let none = none_spans items rows index column g.cells (s.cells).homes no_ in
          subst (λ v. RowEdits items (suc row.at) (partner items row.at) (sets (codes "colspan") f v ++ Change place 0 new_cell ∷ [])) (sym none)
          (record { order = (b0, omega arith); may = tt }))
    ]

pub all_row_edits : (items : List PlainItem) (at column : ℕ) (g : Grid) → Standing items at g → (rows : List TableRow) (index low high : ℕ) →
    ((n : ℕ) (row : TableRow) → slice_get rows n ≡ Some row → slice_get (table_rows items at) (index + n) ≡ Some row) → Chain row_at items (Tr ∷ []) low high rows →
    RowEdits items low high (flat_map (column_edits items column g) (enumerate_from index rows))
all_row_edits items at column g s [] index low high named c = record { order = c; may = tt }
all_row_edits items at column g s (row ∷ rows) index low high named c =
    let z : index + 0 ≡ index = omega arith in
    let here = row_edits items at column g s index row (subst (λ n. slice_get (table_rows items at) n ≡ Some row) z (named 0 row refl)) in
    let rest = all_row_edits items at column g s rows (index + 1) (end_of_node items row.at) high
    (λ n r e. let y : index + suc n ≡ (index + 1) + n = omega arith in subst (λ m. slice_get (table_rows items at) m ≡ Some r) y (named (suc n) r e)) c.2 in
    let a = c.0 in
    let first = column_edits items column g (index, row) in
    record {
      order = InOrder-append low (end_of_node items row.at) high first _ (InOrder-within (suc row.at) low (partner items row.at) (end_of_node items row.at) first (omega arith) (omega arith) here.order) rest.order;
      may = EachMay-append items first _ here.may rest.may;
    }

pub col_in_fine : ColInIsFine
col_in_fine items at column t lawful h =
    let p = grid_given (grid items at) _ t h in
    let g = p.0 in
    let s = grid_stands items at g lawful p.1 in
    let within = (s.table).within in
    let rows = table_rows items at in
    let edits = flat_map (column_edits items column g) (enumerate_from 0 rows) in
    let all = all_row_edits items at column g s rows 0 (suc at) (partner items at) (λ n r e. let z : n ≡ 0 + n = omega arith in subst (λ m. slice_get rows m ≡ Some r) z e) s.rows in
    subst (Fine items) (fault_or_is _ (transaction_of items edits) t p.2)
    (fine_each items edits (InOrder-within (suc at) 0 (partner items at) (length items) edits (omega arith) (omega arith) all.order) all.may)
