-- A row or a column taken out leaves a lawful list lawful.
use Rattle.std.specs.Prelude.{slice_get, filter, codes, decimal}
use Rattle.std.proofs.Common.{◌≡◌, ◌⊎◌, inl, inr, ℕ, zero, suc, ◌+◌, ◌-◌, ◌<◌, ◌≤◌, ◌==◌, Bool, true, false, not, ◌&&◌, if◌then◌else◌, List, [], ◌∷◌, ◌++◌, length, map, take, drop, Option, Some, None, Result, Ok, Err, refl, sym, ap, ◌∙◌, subst, arith, zero-add}
use Rattle.std.proofs.lemmas.List.{append_assoc}
use Rattle.ve_kinds.specs.declared.kind.Kind.{Kind}
use Rattle.ve_kinds.specs.declared.kind.Kind.TheVariants.{Tr, Td, Th, InternalList}
use Rattle.model_items.specs.declared.plain_item.PlainItem.{PlainItem}
use Rattle.model_items.specs.declared.plain_item.PlainItem.TheVariants.{Opening, Closing}
use Rattle.ve_kinds.specs.Table.{kind_same, is_among}
use Rattle.model_items.specs.declared.law_fault.LawFault.{LawFault}
use Rattle.model_items.specs.declared.law_fault.LawFault.TheVariants.{TooDeep}
use Rattle.model_items.specs.Law.{State, step, after, Lawful}
use Rattle.model_items.proofs.LawLemmas.{Ok-same, joined-ok, after_parts, closed_before}
use Rattle.model_change.specs.Transaction.{edited}
use Rattle.model_items.specs.Offsets.{partner, end_of_node}
use Rattle.model_edit.specs.Edits.{Edit, Set, transaction_of}
use Rattle.model_edit_law.proofs.EditLemmas.{take-whole}
use Rattle.model_edit_law.proofs.BracketLemmas.{state_of, node_parts, HoldsSame-itself}
use Rattle.model_edit_law.proofs.NodeLemmas.{opened_state}
use Rattle.model_edit.specs.declared.grid_cell.GridCell.{GridCell}
use Rattle.model_edit.specs.Grid.{TableRow, grid, table_rows, covers_column}
use Rattle.model_edit.specs.Tables.{spans_row, whole_node, row_removed, cell_removed}
use Rattle.model_edit_law.specs.TableLaws.{RowOutStaysLawful, ColOutStaysLawful}
use Rattle.model_edit_law.proofs.NeutralLemmas.{EachNeutral, neutral_lawful}
use Rattle.model_edit_law.proofs.TablePlaceLemmas.{Opens, Chain, Chain-filter, row_at, cell_kinds, cell_at, grid_stands}
use Rattle.model_edit_law.proofs.TableFineLemmas.{drop_at, InOrder-within, row_out_order, col_out_order, sets, fault_or_is, grid_given}

-- a whole node leads back to where it began
pub node_back : (items : List PlainItem) (kind : Kind) (at : ℕ) → Lawful items → kind_same kind InternalList ≡ false → Opens items kind at → (s v : State) →
    after s (take (end_of_node items at - at) (drop at items)) ≡ Ok v → after s [] ≡ Ok v
node_back items kind at lawful other o s v h =
    let x = Opening kind o.head o.marks o.pre o.origin o.generated in
    let p = node_parts items at kind o.head o.marks o.pre o.origin o.generated lawful o.here in
    let c = p.closed in
    let far = p.its_partner in
    let node = c.inside ++ Closing kind c.pre ∷ [] in
    let count : end_of_node items at - at ≡ suc (length c.inside + 1) = omega arith in
    let size : length node ≡ length c.inside + 1 = Rattle.std.proofs.Common.length-append c.inside (Closing kind c.pre ∷ []) in
    let list : drop at items ≡ x ∷ (node ++ c.rest) = drop_at items at x o.here ∙ ap (λ y. x ∷ y) (c.whole ∙ sym (append_assoc c.inside (Closing kind c.pre ∷ []) c.rest)) in
    let cut : take (end_of_node items at - at) (drop at items) ≡ x ∷ node =
    (λ i. take (count i) (list i)) ∙ ap (λ n. x ∷ take n (node ++ c.rest)) (sym size) ∙ ap (λ y. x ∷ y) (take-whole node c.rest) in
    let g : after s (x ∷ node) ≡ Ok v = ap (after s) (sym cut) ∙ h in
    let q = joined-ok 1 (step s x) (λ next. after next node) v g in
    let st = opened_state s q.0 kind other q.1 in
    let r = after_parts c.inside (Closing kind c.pre ∷ []) q.0 v q.2 in
    let w = joined-ok 1 (step r.0 (Closing kind c.pre)) (λ next. Ok next) v r.2 in
    let b = closed_before (r.0).stack (r.0).seen kind w.0 w.1 in
    let end : w.0 ≡ v = Ok-same {E = LawFault} w.0 v w.2 in
    let leads = c.leads kind s.stack s.seen (HoldsSame-itself kind) in
    let ran : after (state_of (kind ∷ s.stack) s.seen) c.inside ≡ Ok r.0 = ap (λ y. after y c.inside) (sym st.2) ∙ r.1 in
    by c.inside r.0 w.0 leads ran b.0 b.1 end
  where
    by : (inside : List PlainItem) (m w : State) →
        (after (state_of (kind ∷ s.stack) s.seen) inside ≡ Ok (state_of (kind ∷ s.stack) s.seen)) ⊎ ((n : ℕ) × (after (state_of (kind ∷ s.stack) s.seen) inside ≡ Err (TooDeep n))) →
        after (state_of (kind ∷ s.stack) s.seen) inside ≡ Ok m → m.stack ≡ kind ∷ w.stack → m.seen ≡ w.seen → w ≡ v → after s [] ≡ Ok v
    by inside m w (inr deep) ran stack seen end = absurd (let e : ◌≡◌ {A = Result State LawFault} (Ok m) (Err (TooDeep deep.0)) = sym ran ∙ deep.1 in cc)
    by inside m w (inl fine) ran stack seen end =
        let e : m ≡ state_of (kind ∷ s.stack) s.seen = Ok-same {E = LawFault} m _ (sym ran ∙ fine) in
        let st : kind ∷ s.stack ≡ kind ∷ w.stack = ap (λ (y : State). y.stack) (sym e) ∙ stack in
        let sn : s.seen ≡ w.seen = ap (λ (y : State). y.seen) (sym e) ∙ seen in
        let st' : s.stack ≡ w.stack = cc in
        ap Ok ((λ i. state_of (st' i) (sn i)) ∙ end)

not_first : (k : Kind) → is_among (Tr ∷ []) k ≡ true → kind_same k InternalList ≡ false
not_first Tr h = refl
not_first _ h = cc

pub cell_not_first : (k : Kind) → is_among cell_kinds k ≡ true → kind_same k InternalList ≡ false
cell_not_first Td h = refl
cell_not_first Th h = refl
cell_not_first _ h = cc

sets_neutral : (items : List PlainItem) (name : List ℕ) (f : GridCell → Option (List ℕ)) (cells : List GridCell) (tail : List Edit) → EachNeutral items tail → EachNeutral items (sets name f cells ++ tail)
sets_neutral items name f [] tail h = h
sets_neutral items name f (c ∷ cells) tail h = sets_neutral items name f cells tail h

pub row_opens : (items : List PlainItem) (low high : ℕ) (rows : List TableRow) (i : ℕ) (r : TableRow) → Chain row_at items (Tr ∷ []) low high rows → slice_get rows i ≡ Some r →
    (kind : Kind) × (kind_same kind InternalList ≡ false) × Opens items kind r.at
row_opens items low high [] i r c h = cc
row_opens items low high (one ∷ rows) zero r c h =
    let e : one ≡ r = cc in
    subst (λ (v : TableRow). (kind : Kind) × (kind_same kind InternalList ≡ false) × Opens items kind v.at) e (c.1.0, not_first (c.1.0) (c.1.1), c.1.2)
row_opens items low high (one ∷ rows) (suc i) r c h = row_opens items (end_of_node items one.at) high rows i r c.2 h

pub row_out_lawful : RowOutStaysLawful
row_out_lawful items at row t lawful h =
    let p = grid_given (grid items at) _ t h in
    let g = p.0 in
    let s = grid_stands items at g lawful p.1 in
    let o = slice_get (table_rows items at) row in
    let cells = filter (spans_row row) g.cells in
    let f : GridCell → Option (List ℕ) = λ c. Some (decimal (c.rows - 1)) in
    let edits = sets (codes "rowspan") f cells ++ row_removed items o in
    subst (λ v. Lawful (edited v items)) (fault_or_is _ (transaction_of items edits) t p.2)
    (neutral_lawful items edits lawful (row_out_order items at row g s o refl)
    (sets_neutral items (codes "rowspan") f cells (row_removed items o) (gone s.rows o refl)))
  where
    gone : Chain row_at items (Tr ∷ []) (suc at) (partner items at) (table_rows items at) → (o : Option TableRow) → slice_get (table_rows items at) row ≡ o → EachNeutral items (row_removed items o)
    gone c None e = tt
    gone c (Some r) e = let q = row_opens items (suc at) (partner items at) (table_rows items at) row r c e in (node_back items q.0 r.at lawful q.1 q.2, tt)

removed_neutral : (items : List PlainItem) (cells : List GridCell) (low high : ℕ) → Lawful items → Chain cell_at items cell_kinds low high cells → EachNeutral items (map (cell_removed items) cells)
removed_neutral items [] low high lawful c = tt
removed_neutral items (cell ∷ cells) low high lawful c =
    let rest = removed_neutral items cells (end_of_node items cell.at) high lawful c.2 in
    elim (cell.columns == 1) as (λ b. EachNeutral items ((if b then whole_node items cell.at else Set cell.at (codes "colspan") (Some (decimal (cell.columns - 1)))) ∷ map (cell_removed items) cells)) [
      | true ↦ (node_back items (c.1.0) cell.at lawful (cell_not_first (c.1.0) (c.1.1)) (c.1.2), rest)
      | false ↦ rest
    ]

pub col_out_lawful : ColOutStaysLawful
col_out_lawful items at column t lawful h =
    let p = grid_given (grid items at) _ t h in
    let g = p.0 in
    let s = grid_stands items at g lawful p.1 in
    let within = (s.table).within in
    let test : GridCell → Bool = λ c. covers_column c column in
    let cells = filter test g.cells in
    let chain = Chain-filter cell_at items cell_kinds test (suc at) (partner items at) g.cells (s.cells).chain in
    let edits = map (cell_removed items) cells in
    subst (λ v. Lawful (edited v items)) (fault_or_is _ (transaction_of items edits) t p.2)
    (neutral_lawful items edits lawful
    (InOrder-within (suc at) 0 (partner items at) (length items) edits (omega arith) (omega arith) (col_out_order items cells (suc at) (partner items at) chain))
    (removed_neutral items cells (suc at) (partner items at) lawful chain))
