-- A row put in leaves a lawful list lawful, but for nesting.
use Rattle.std.specs.Prelude.{slice_get, filter, flat_map, codes, decimal, nat_le}
use Rattle.std.specs.List.{list_any, range_with_len, enumerate_from}
use Rattle.std.proofs.lemmas.Bool.{and_parts, and_from, or_parts}
use Rattle.ve_kinds.specs.declared.kind.Kind.TheVariants.{Th, Tr, Td, P, InternalList}
use Rattle.ve_kinds.specs.Table.{may_hold, is_among, kind_same}
use Rattle.model_items.specs.Law.{top, state_opened, State, start, finish, may_open, step, outcome_then, after, verdict, verdict_at, Lawful}
use Rattle.model_edit_law.proofs.BracketLemmas.{HoldsSame-itself, state_of, Leads, leads_cons, leads_append, opened_leads, node_parts}
use Rattle.model_edit_law.proofs.EditLemmas.{take-whole, edited-transaction_from, order_ends}
use Rattle.model_edit.specs.Grid.{covers_row, TableRow, Grid, grid, table_rows, covers_column}
use Rattle.model_edit.specs.Tables.{spans_column, cell_place, column_edits, spans_row, first_fault, fault_or, row_place, new_row, new_cell, row_in_edits}
use Rattle.model_edit_law.specs.TableLaws.{ColInStaysLawful, RowInStaysLawful}
use Rattle.model_edit_law.proofs.TableFineLemmas.{all_row_edits, InOrder-within, drop_twice, drop_at, sets, fault_or_is, grid_given, row_in_order}
use Rattle.model_edit_law.proofs.NeutralLemmas.{same_step}
use Rattle.model_edit_law.proofs.TableLawfulLemmas.{cell_not_first, node_back}
use Rattle.std.proofs.Common.{◌≡◌, ◌⊎◌, inl, inr, ℕ, zero, suc, ◌+◌, ◌-◌, ◌<◌, ◌≤◌, ◌==◌, Bool, true, false, ◌&&◌, ◌||◌, if◌then◌else◌, nat_lt, List, [], ◌∷◌, ◌++◌, length, take, drop, Option, Some, None, Ok, refl, sym, ap, ◌∙◌, subst, arith, zero-add}
use Rattle.std.proofs.lemmas.List.{take-append-drop}
use Rattle.ve_kinds.specs.declared.kind.Kind.{Kind}
use Rattle.model_items.specs.declared.plain_item.PlainItem.{PlainItem}
use Rattle.model_items.specs.declared.plain_item.PlainItem.TheVariants.{Opening}
use Rattle.model_items.specs.declared.law_fault.LawFault.{LawFault}
use Rattle.model_items.specs.declared.law_fault.LawFault.TheVariants.{TooDeep}
use Rattle.model_items.proofs.LawLemmas.{Ok-same, after_parts, after_whole, after_from_Lawful}
use Rattle.model_change.specs.Attributes.{item_changed}
use Rattle.model_change.specs.Transaction.{Transaction, on_first, edited}
use Rattle.model_edit.specs.Brackets.{opening_of, closing_of}
use Rattle.model_items.specs.Offsets.{partner, end_of_node}
use Rattle.model_edit.specs.Edits.{Edit, Change, Set, setting, transaction_of, substituted_from, InOrder}
use Rattle.model_edit_law.proofs.NodeLemmas.{opened_state}
use Rattle.model_edit.specs.declared.grid_cell.GridCell.{GridCell}
use Rattle.model_edit.specs.Causes.{TableCause}
use Rattle.model_edit_law.proofs.TablePlaceLemmas.{Opens, Chain, Chain-filter, row_at, cell_kinds, cell_at, grid_stands}

take_split : (n k m : ℕ) (xs : List PlainItem) → n + k ≡ m → take m xs ≡ take n xs ++ take k (drop n xs)
take_split zero k m xs e = let z : k ≡ m = omega arith in ap (λ j. take j xs) (sym z)
take_split (suc n) k zero xs e = absurd (omega arith)
take_split (suc n) zero (suc m) [] e = refl
take_split (suc n) (suc k) (suc m) [] e = refl
take_split (suc n) k (suc m) (x ∷ xs) e = ap (λ v. x ∷ v) (take_split n k m xs (omega arith))

pub skip_first : (edits : List Edit) (at end : ℕ) (x : PlainItem) (items : List PlainItem) → InOrder (suc at) end edits → substituted_from at (x ∷ items) edits ≡ x ∷ substituted_from (suc at) items edits
skip_first [] at end x items h = refl
skip_first (Change place count inserted ∷ edits) at end x items h =
    let low = h.0 in
    let e : place - at ≡ suc (place - suc at) = omega arith in
    ap (λ n. take n (x ∷ items) ++ (inserted ++ substituted_from (place + count) (drop count (drop n (x ∷ items))) edits)) e
skip_first (Set place name to ∷ edits) at end x items h =
    let low = h.0 in
    let e : place - at ≡ suc (place - suc at) = omega arith in
    ap (λ n. take n (x ∷ items) ++ substituted_from place (on_first (item_changed (setting name to (drop n (x ∷ items)))) (drop n (x ∷ items))) edits) e

-- what is put in at a position leads on from the state there
abbrev EachLed : List PlainItem → List Edit → Type 0
EachLed whole [] = Unit {0}
EachLed whole (Change place count inserted ∷ edits) =
    ((s v : State) → after start (take place whole) ≡ Ok s → after s (take count (drop place whole)) ≡ Ok v → Leads (after s inserted) v) × EachLed whole edits
EachLed whole (Set place name to ∷ edits) = EachLed whole edits

some_there : (items : List PlainItem) (n : ℕ) → n < length items → (x : PlainItem) × (slice_get items n ≡ Some x)
some_there [] n h = absurd (omega arith)
some_there (x ∷ items) zero h = (x, refl)
some_there (x ∷ items) (suc n) h = some_there items n (omega arith)

led : (whole : List PlainItem) (edits : List Edit) (n end : ℕ) (s : State) → InOrder n end edits → end ≤ length whole → EachLed whole edits →
    after start (take n whole) ≡ Ok s → after s (drop n whole) ≡ Ok finish → Leads (after s (substituted_from n (drop n whole) edits)) finish
led whole [] n end s o w m r h = inl h
led whole (Change place count inserted ∷ edits) n end s o w m r h =
    let low = o.0 in
    let items = drop n whole in
    let rest = drop (place - n) items in
    let e : rest ≡ drop place whole = drop_twice (place - n) n place whole (omega arith) in
    let e' : drop count rest ≡ drop (place + count) whole = ap (drop count) e ∙ drop_twice count place (place + count) whole refl in
    let p = after_parts (take (place - n) items) rest s finish (ap (after s) (take-append-drop (place - n) items) ∙ h) in
    let q = after_parts (take count rest) (drop count rest) p.0 finish (ap (after p.0) (take-append-drop count rest) ∙ p.2) in
    let there : after start (take place whole) ≡ Ok p.0 =
    ap (after start) (take_split n (place - n) place whole (omega arith)) ∙ after_whole (take n whole) (take (place - n) items) start s p.0 r p.1 in
    let past : after start (take (place + count) whole) ≡ Ok q.0 =
    ap (after start) (take_split place count (place + count) whole refl) ∙ after_whole (take place whole) (take count (drop place whole)) start p.0 q.0 there (ap (λ v. after p.0 (take count v)) (sym e) ∙ q.1) in
    let later : Leads (after q.0 (substituted_from (place + count) (drop count rest) edits)) finish =
    subst (λ v. Leads (after q.0 (substituted_from (place + count) v edits)) finish) (sym e')
    (led whole edits (place + count) end q.0 o.1 w m.1 past (ap (after q.0) (sym e') ∙ q.2)) in
    leads_append s p.0 finish (take (place - n) items) (inserted ++ substituted_from (place + count) (drop count rest) edits) (inl p.1)
    (leads_append p.0 q.0 finish inserted (substituted_from (place + count) (drop count rest) edits)
    (m.0 p.0 q.0 there (ap (λ v. after p.0 (take count v)) (sym e) ∙ q.1)) later)
led whole (Set place name to ∷ edits) n end s o w m r h =
    let low = o.0 in
    let items = drop n whole in
    let rest = drop (place - n) items in
    let ends = order_ends (suc place) end edits o.1 in
    let x = some_there whole place (omega arith) in
    let e : rest ≡ drop place whole = drop_twice (place - n) n place whole (omega arith) in
    let e1 : rest ≡ x.0 ∷ drop (suc place) whole = e ∙ drop_at whole place x.0 x.1 in
    let p = after_parts (take (place - n) items) rest s finish (ap (after s) (take-append-drop (place - n) items) ∙ h) in
    let there : after start (take place whole) ≡ Ok p.0 =
    ap (after start) (take_split n (place - n) place whole (omega arith)) ∙ after_whole (take n whole) (take (place - n) items) start s p.0 r p.1 in
    let q = after_parts (x.0 ∷ []) (drop (suc place) whole) p.0 finish (ap (after p.0) (sym e1) ∙ p.2) in
    let z : place + 1 ≡ suc place = omega arith in
    let one : take 1 (drop place whole) ≡ x.0 ∷ [] = ap (take 1) (drop_at whole place x.0 x.1) in
    let past : after start (take (suc place) whole) ≡ Ok q.0 =
    ap (after start) (take_split place 1 (suc place) whole z) ∙ after_whole (take place whole) (take 1 (drop place whole)) start p.0 q.0 there (ap (after p.0) one ∙ q.1) in
    let c = setting name to rest in
    let changed : after p.0 (item_changed c x.0 ∷ []) ≡ Ok q.0 = ap (λ v. outcome_then 1 v (λ next. Ok next)) (same_step c p.0 x.0) ∙ q.1 in
    let later = led whole edits (suc place) end q.0 o.1 w m past q.2 in
    let tail : substituted_from place (on_first (item_changed c) rest) edits ≡ item_changed c x.0 ∷ substituted_from (suc place) (drop (suc place) whole) edits =
    ap (λ v. substituted_from place (on_first (item_changed c) v) edits) e1 ∙ skip_first edits place end (item_changed c x.0) (drop (suc place) whole) o.1 in
    leads_append s p.0 finish (take (place - n) items) (substituted_from place (on_first (item_changed c) rest) edits) (inl p.1)
    (subst (λ v. Leads (after p.0 v) finish) (sym tail)
    (leads_append p.0 q.0 finish (item_changed c x.0 ∷ []) (substituted_from (suc place) (drop (suc place) whole) edits) (inl changed) later))

led_verdict : (items : List PlainItem) (edits : List Edit) → Lawful items → InOrder 0 (length items) edits → EachLed items edits →
    (verdict (edited (transaction_of items edits) items) ≡ None) ⊎ ((n : ℕ) × (verdict (edited (transaction_of items edits) items) ≡ Some (TooDeep n)))
led_verdict items edits lawful order m =
    let e = edited-transaction_from 0 items edits (subst (λ k. InOrder 0 k edits) (sym (zero-add (length items))) order) in
    subst (λ v. (verdict v ≡ None) ⊎ ((n : ℕ) × (verdict v ≡ Some (TooDeep n)))) (sym e)
    (elim (led items edits 0 (length items) start order (omega arith) m refl (after_from_Lawful items lawful)) [
      | inl fine ↦ inl (ap (verdict_at (length (substituted_from 0 items edits))) fine)
      | inr deep ↦ inr (deep.0, ap (verdict_at (length (substituted_from 0 items edits))) deep.1)
    ])

-- a new cell in a row
cell_leads : (outer : List Kind) (seen : Bool) → Leads (after (state_of (Tr ∷ outer) seen) new_cell) (state_of (Tr ∷ outer) seen)
cell_leads outer seen =
    let s = state_of (Tr ∷ outer) seen in
    let a = state_of (Td ∷ Tr ∷ outer) seen in
    let b = state_of (P ∷ Td ∷ Tr ∷ outer) seen in
    leads_cons s a s (opening_of Td []) (opening_of P [] ∷ closing_of P ∷ closing_of Td ∷ []) (opened_leads s Td refl refl)
    (leads_cons a b s (opening_of P []) (closing_of P ∷ closing_of Td ∷ []) (opened_leads a P refl refl) (inl refl))

cells_lead : (test : ℕ → Bool) (ns : List ℕ) (outer : List Kind) (seen : Bool) → Leads (after (state_of (Tr ∷ outer) seen) (flat_map (λ n. if test n then [] else new_cell) ns)) (state_of (Tr ∷ outer) seen)
cells_lead test [] outer seen = inl refl
cells_lead test (n ∷ ns) outer seen =
    let s = state_of (Tr ∷ outer) seen in
    leads_append s s s (if test n then [] else new_cell) (flat_map (λ n. if test n then [] else new_cell) ns)
    (elim (test n) as (λ b. Leads (after s (if b then [] else new_cell)) s) [ true ↦ inl refl | false ↦ cell_leads outer seen ])
    (cells_lead test ns outer seen)

row_leads : (g : Grid) (row : ℕ) (s : State) → may_open s Tr ≡ true → Leads (after s (new_row g row)) s
row_leads g row s may =
    let a = state_of (Tr ∷ s.stack) s.seen in
    let test : ℕ → Bool = λ column. list_any (λ c. spans_row row c && covers_column c column) g.cells in
    let cells = flat_map (λ column. if test column then [] else new_cell) (range_with_len 0 g.columns) in
    leads_cons s a s (opening_of Tr []) (cells ++ closing_of Tr ∷ []) (opened_leads s Tr may refl)
    (leads_append a a s cells (closing_of Tr ∷ []) (cells_lead test (range_with_len 0 g.columns) s.stack s.seen) (inl refl))

is_Tr : (k : Kind) → is_among (Tr ∷ []) k ≡ true → k ≡ Tr
is_Tr Tr h = refl
is_Tr _ h = cc

-- where a row begins, a row may open; and so after it
may_at : (items : List PlainItem) (at : ℕ) → Lawful items → Opens items Tr at → (s : State) → after start (take at items) ≡ Ok s → may_open s Tr ≡ true
may_at items at lawful o s h =
    let p = node_parts items at Tr o.head o.marks o.pre o.origin o.generated lawful o.here in
    let e : p.before ≡ s = Ok-same {E = LawFault} p.before s (sym p.reached ∙ h) in
    subst (λ (v : State). may_open v Tr ≡ true) e (opened_state p.before p.allowed.0 Tr refl p.allowed.1).0

may_after : (items : List PlainItem) (at : ℕ) → Lawful items → Opens items Tr at → (s : State) → after start (take (end_of_node items at) items) ≡ Ok s → may_open s Tr ≡ true
may_after items at lawful o s h =
    let ahead = o.ahead in
    let p = after_parts (take at items) (take (end_of_node items at - at) (drop at items)) start s (ap (after start) (sym (take_split at (end_of_node items at - at) (end_of_node items at) items (omega arith))) ∙ h) in
    let back = node_back items Tr at lawful refl o p.0 s p.2 in
    let e : p.0 ≡ s = Ok-same {E = LawFault} p.0 s back in
    subst (λ (v : State). may_open v Tr ≡ true) e (may_at items at lawful o p.0 p.1)

opens_Tr : (items : List PlainItem) (at : ℕ) → (kind : Kind) × (is_among (Tr ∷ []) kind ≡ true) × Opens items kind at → Opens items Tr at
opens_Tr items at o = subst (λ k. Opens items k at) (is_Tr o.0 o.1) o.2

may_place : (items : List PlainItem) (low high : ℕ) (one : TableRow) (rows : List TableRow) (k : ℕ) → Lawful items → Chain row_at items (Tr ∷ []) low high (one ∷ rows) → (s : State) →
    after start (take (row_place items (one ∷ rows) k) items) ≡ Ok s → may_open s Tr ≡ true
may_place items low high one [] zero lawful c s h = may_at items one.at lawful (opens_Tr items one.at c.1) s h
may_place items low high one [] (suc k) lawful c s h = may_after items one.at lawful (opens_Tr items one.at c.1) s h
may_place items low high one (next ∷ rows) zero lawful c s h = may_at items one.at lawful (opens_Tr items one.at c.1) s h
may_place items low high one (next ∷ rows) (suc k) lawful c s h = may_place items (end_of_node items one.at) high next rows k lawful c.2 s h

first_no : (b : Bool) (e : TableCause) (causes : List (Bool × TableCause)) (s t : Transaction) → fault_or (first_fault ((b, e) ∷ causes)) s ≡ Ok t → b ≡ false
first_no false e causes s t h = refl
first_no true e causes s t h = cc

sets_led : (items : List PlainItem) (name : List ℕ) (f : GridCell → Option (List ℕ)) (cells : List GridCell) (tail : List Edit) → EachLed items tail → EachLed items (sets name f cells ++ tail)
sets_led items name f [] tail h = h
sets_led items name f (c ∷ cells) tail h = sets_led items name f cells tail h

pub row_in_lawful : RowInStaysLawful
row_in_lawful items at row t lawful h =
    let p = grid_given (grid items at) _ t h in
    let g = p.0 in
    let s = grid_stands items at g lawful p.1 in
    let edits = row_in_edits items (table_rows items at) row g in
    let some = (or_parts (g.rows == 0) _ (first_no ((g.rows == 0) || nat_lt g.rows row) _ _ _ t p.2)).0 in
    subst (λ v. (verdict (edited v items) ≡ None) ⊎ ((n : ℕ) × (verdict (edited v items) ≡ Some (TooDeep n)))) (fault_or_is _ (transaction_of items edits) t p.2)
    (led_verdict items edits lawful (row_in_order items at row g s)
    (sets_led items (codes "rowspan") (λ c. Some (decimal (suc c.rows))) (filter (spans_row row) g.cells) (Change (row_place items (table_rows items at) row) 0 (new_row g row) ∷ [])
    ((λ st v r e. subst (Leads (after st (new_row g row))) (Ok-same {E = LawFault} st v e) (row_leads g row st (may (table_rows items at) s.rows (sym s.count) some st r))), tt)))
  where
    may : (rows : List TableRow) → Chain row_at items (Tr ∷ []) (suc at) (partner items at) rows → {n : ℕ} → length rows ≡ n → (n == 0) ≡ false → (st : State) → after start (take (row_place items rows row) items) ≡ Ok st → may_open st Tr ≡ true
    may [] c e z st r = absurd (let q = ap (λ n. n == 0) e in let w : true ≡ false = q ∙ z in cc)
    may (one ∷ rows) c e z st r = may_place items (suc at) (partner items at) one rows row lawful c st r

-- the same of cells
cell_may_at : (items : List PlainItem) (kind : Kind) (at : ℕ) → Lawful items → kind_same kind InternalList ≡ false → Opens items kind at → (s : State) → after start (take at items) ≡ Ok s → may_open s kind ≡ true
cell_may_at items kind at lawful other o s h =
    let p = node_parts items at kind o.head o.marks o.pre o.origin o.generated lawful o.here in
    let e : p.before ≡ s = Ok-same {E = LawFault} p.before s (sym p.reached ∙ h) in
    subst (λ (v : State). may_open v kind ≡ true) e (opened_state p.before p.allowed.0 kind other p.allowed.1).0

cell_may_after : (items : List PlainItem) (kind : Kind) (at : ℕ) → Lawful items → kind_same kind InternalList ≡ false → Opens items kind at → (s : State) →
    after start (take (end_of_node items at) items) ≡ Ok s → may_open s kind ≡ true
cell_may_after items kind at lawful other o s h =
    let ahead = o.ahead in
    let p = after_parts (take at items) (take (end_of_node items at - at) (drop at items)) start s (ap (after start) (sym (take_split at (end_of_node items at - at) (end_of_node items at) items (omega arith))) ∙ h) in
    let e : p.0 ≡ s = Ok-same {E = LawFault} p.0 s (node_back items kind at lawful other o p.0 s p.2) in
    subst (λ (v : State). may_open v kind ≡ true) e (cell_may_at items kind at lawful other o p.0 p.1)

th_td : (k : Kind) → may_hold k Th ≡ true → may_hold k Td ≡ true
th_td Tr h = refl
th_td _ h = cc

as_Td : (s : State) (kind : Kind) → is_among cell_kinds kind ≡ true → may_open s kind ≡ true → may_open s Td ≡ true
as_Td s Td c h = h
as_Td s Th c h = let p = and_parts (may_hold (top s.stack) Th) _ h in and_from _ _ (th_td (top s.stack) p.0) p.1
as_Td s _ c h = cc

-- before the closing of a row
row_end_may : (items : List PlainItem) (at : ℕ) → Lawful items → Opens items Tr at → (s : State) → after start (take (partner items at) items) ≡ Ok s → may_open s Td ≡ true
row_end_may items at lawful o s h =
    let x = Opening Tr o.head o.marks o.pre o.origin o.generated in
    let p = node_parts items at Tr o.head o.marks o.pre o.origin o.generated lawful o.here in
    let c = p.closed in
    let far = p.its_partner in
    let st = opened_state p.before p.allowed.0 Tr refl p.allowed.1 in
    let a = state_of (Tr ∷ (p.before).stack) (p.before).seen in
    let tail = drop (suc at) items in
    let cut : take (partner items at) items ≡ take at items ++ (x ∷ c.inside) =
    take_split at (suc (length c.inside)) (partner items at) items (omega arith)
    ∙ ap (λ v. take at items ++ v) (ap (take (suc (length c.inside))) (drop_at items at x o.here) ∙ ap (λ v. x ∷ take (length c.inside) v) c.whole ∙ ap (λ v. x ∷ v) (take-whole c.inside _)) in
    let inside : after p.before (x ∷ c.inside) ≡ Ok a =
    ap (λ r. outcome_then 1 r (λ next. after next c.inside)) (p.allowed.1 ∙ ap Ok st.2) ∙ ap (λ r. Rattle.model_items.specs.Law.outcome_moved 1 r) (c.kept Tr (p.before).stack (p.before).seen (HoldsSame-itself Tr) (omega arith)) in
    let e : a ≡ s = Ok-same {E = LawFault} a s (sym (after_whole (take at items) (x ∷ c.inside) start p.before a p.reached inside) ∙ ap (after start) (sym cut) ∙ h) in
    subst (λ (v : State). may_open v Td ≡ true) e refl

cell_place_may : (items : List PlainItem) (row : TableRow) (column low high : ℕ) (cells : List GridCell) → Lawful items → Opens items Tr row.at → Chain cell_at items cell_kinds low high cells → (s : State) →
    after start (take (cell_place items row column cells) items) ≡ Ok s → may_open s Td ≡ true
cell_place_may items row column low high [] lawful o c s h = row_end_may items row.at lawful o s h
cell_place_may items row column low high (cell ∷ []) lawful o c s h = by (nat_le column cell.column) h
  where
    by : (b : Bool) → after start (take (if b then cell.at else end_of_node items cell.at) items) ≡ Ok s → may_open s Td ≡ true
    by true h = as_Td s c.1.0 c.1.1 (cell_may_at items c.1.0 cell.at lawful (cell_not_first c.1.0 c.1.1) c.1.2 s h)
    by false h = as_Td s c.1.0 c.1.1 (cell_may_after items c.1.0 cell.at lawful (cell_not_first c.1.0 c.1.1) c.1.2 s h)
cell_place_may items row column low high (cell ∷ next ∷ cells) lawful o c s h =
    by (λ g. cell_place_may items row column (end_of_node items cell.at) high (next ∷ cells) lawful o c.2 s g) (nat_le column cell.column) h
  where
    by : (after start (take (cell_place items row column (next ∷ cells)) items) ≡ Ok s → may_open s Td ≡ true) → (b : Bool) →
        after start (take (if b then cell.at else cell_place items row column (next ∷ cells)) items) ≡ Ok s → may_open s Td ≡ true
    by rest true h = as_Td s c.1.0 c.1.1 (cell_may_at items c.1.0 cell.at lawful (cell_not_first c.1.0 c.1.1) c.1.2 s h)
    by rest false h = rest h

new_leads : (s : State) → may_open s Td ≡ true → Leads (after s new_cell) s
new_leads s may =
    let a = state_of (Td ∷ s.stack) s.seen in
    let b = state_of (P ∷ Td ∷ s.stack) s.seen in
    leads_cons s a s (opening_of Td []) (opening_of P [] ∷ closing_of P ∷ closing_of Td ∷ []) (opened_leads s Td may refl)
    (leads_cons a b s (opening_of P []) (closing_of P ∷ closing_of Td ∷ []) (opened_leads a P refl refl) (inl refl))

EachLed-append : (items : List PlainItem) (xs ys : List Edit) → EachLed items xs → EachLed items ys → EachLed items (xs ++ ys)
EachLed-append items [] ys h g = g
EachLed-append items (Change place count inserted ∷ xs) ys h g = (h.0, EachLed-append items xs ys h.1 g)
EachLed-append items (Set place name to ∷ xs) ys h g = EachLed-append items xs ys h g

columns_led : (items : List PlainItem) (column : ℕ) (g : Grid) (clow chigh : ℕ) → Lawful items → Chain cell_at items cell_kinds clow chigh g.cells → (rows : List TableRow) (index low high : ℕ) →
    Chain row_at items (Tr ∷ []) low high rows → EachLed items (flat_map (column_edits items column g) (enumerate_from index rows))
columns_led items column g clow chigh lawful cells [] index low high c = tt
columns_led items column g clow chigh lawful cells (row ∷ rows) index low high c =
    let mine = filter (λ (c : GridCell). c.row == index) g.cells in
    let chain = Chain-filter cell_at items cell_kinds (λ (c : GridCell). c.row == index) clow chigh g.cells cells in
    let spanned = filter (spans_column column) mine in
    let place = cell_place items row column mine in
    let new : EachLed items (if list_any (λ (c : GridCell). spans_column column c && covers_row c index) g.cells then [] else Change place 0 new_cell ∷ []) =
    elim (list_any (λ (c : GridCell). spans_column column c && covers_row c index) g.cells) as (λ b. EachLed items (if b then [] else Change place 0 new_cell ∷ [])) [
      | true ↦ tt
      | false ↦ (
        (λ st v r e. subst (Leads (after st new_cell)) (Ok-same {E = LawFault} st v e)
            (new_leads st (cell_place_may items row column clow chigh mine lawful (opens_Tr items row.at c.1) chain st r))),
        tt,
      )
    ] in
    EachLed-append items (column_edits items column g (index, row)) _
    (sets_led items (codes "colspan") (λ c. Some (decimal (suc c.columns))) spanned _ new)
    (columns_led items column g clow chigh lawful cells rows (index + 1) (end_of_node items row.at) high c.2)

pub col_in_lawful : ColInStaysLawful
col_in_lawful items at column t lawful h =
    let p = grid_given (grid items at) _ t h in
    let g = p.0 in
    let s = grid_stands items at g lawful p.1 in
    let within = (s.table).within in
    let rows = table_rows items at in
    let edits = flat_map (column_edits items column g) (enumerate_from 0 rows) in
    let all = all_row_edits items at column g s rows 0 (suc at) (partner items at) (λ n r e. let z : n ≡ 0 + n = omega arith in subst (λ m. slice_get rows m ≡ Some r) z e) s.rows in
    subst (λ v. (verdict (edited v items) ≡ None) ⊎ ((n : ℕ) × (verdict (edited v items) ≡ Some (TooDeep n)))) (fault_or_is _ (transaction_of items edits) t p.2)
    (led_verdict items edits lawful (InOrder-within (suc at) 0 (partner items at) (length items) edits (omega arith) (omega arith) all.order)
    (columns_led items column g (suc at) (partner items at) lawful (s.cells).chain rows 0 (suc at) (partner items at) s.rows))
