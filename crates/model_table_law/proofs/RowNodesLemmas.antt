-- Nodes of a row that were moved, a new cell among them, and the spans of the cells that they are.
use Rattle.std.specs.Prelude.{slice_get, filter}
use Rattle.std.specs.List.{list_any}
use Rattle.std.proofs.Common.{◌≡◌, inl, inr, ℕ, zero, suc, ◌+◌, ◌-◌, ◌<◌, ◌≤◌, Bool, true, false, cond, not, ◌&&◌, ◌||◌, nat_lt, List, [], ◌∷◌, ◌++◌, length, map, Some, refl, sym, ap, ◌∙◌, subst, arith}
use Rattle.std.proofs.lemmas.Bool.{ltb-true, ltb-false, le-leb}
use Rattle.ve_kinds.specs.declared.kind.Kind.{Kind}
use Rattle.ve_kinds.specs.declared.kind.Kind.TheVariants.{Tr, Td}
use Rattle.ve_kinds.specs.Table.{is_among}
use Rattle.model_items.specs.declared.plain_item.PlainItem.{PlainItem}
use Rattle.model_items.specs.Tree.{Open}
use Rattle.model_items.specs.Offsets.{end_of_node, children}
use Rattle.model_edit.specs.declared.grid_cell.GridCell.{GridCell}
use Rattle.model_edit.specs.Grid.{TableRow, children_of, covers_row}
use Rattle.model_edit.specs.Layout.{Rectangle, moved_right}
use Rattle.model_edit.specs.Tables.{spans_column}
use Rattle.model_edit_law.specs.Spans.{rectangle_of, size_of, cell_span_at}
use Rattle.model_edit_law.proofs.TablePlaceLemmas.{Chain, row_at, cell_kinds}
use Rattle.model_edit_law.proofs.TableSetLemmas.{map-append, Among}
use Rattle.model_edit_law.proofs.SiblingLemmas.{no_less}
use Rattle.model_edit_law.proofs.CellRowLemmas.{Pairs}
use Rattle.model_table_law.proofs.RowsAddLemmas.{Rising}
use Rattle.model_table_law.proofs.ColInCoverLemmas.{no_least, grown, lefts, rights, moved}
use Rattle.model_table_law.proofs.PutInLemmas.{moved_by, past, nodes_before, nodes_after, with_new}

-- a row among the rows
pub record Split (items : List PlainItem) (low high : ℕ) (rows : List TableRow) (k : ℕ) (r : TableRow) : Type 0 where
  pub earlier : List TableRow
  pub later : List TableRow
  pub whole : rows ≡ earlier ++ r ∷ later
  pub count : length earlier ≡ k
  pub before : Chain row_at items (Tr ∷ []) low r.at earlier
  pub behind : Chain row_at items (Tr ∷ []) (end_of_node items r.at) high later
  pub get_earlier : (n : ℕ) (x : TableRow) → slice_get earlier n ≡ Some x → (n < k) × (slice_get rows n ≡ Some x)
  pub get_later : (n : ℕ) (x : TableRow) → slice_get later n ≡ Some x → slice_get rows (suc k + n) ≡ Some x

pub split : (items : List PlainItem) (rows : List TableRow) (low high k : ℕ) (r : TableRow) → Chain row_at items (Tr ∷ []) low high rows → slice_get rows k ≡ Some r → Split items low high rows k r
split items [] low high k r c h = cc
split items (one ∷ rows) low high zero r c h =
    let e : one ≡ r = cc in
    record {
      earlier = [];
      later = rows;
      whole = ap (λ v. v ∷ rows) e;
      count = refl;
      before = subst (λ (v : TableRow). low ≤ v.at) e c.0;
      behind = subst (λ (v : TableRow). Chain row_at items (Tr ∷ []) (end_of_node items v.at) high rows) e c.2;
      get_earlier = λ n x g. cc;
      get_later = λ n x g. (let z : 1 + n ≡ suc n = omega arith in ap (slice_get (one ∷ rows)) z ∙ g);
    }
split items (one ∷ rows) low high (suc k) r c h =
    let s = split items rows (end_of_node items one.at) high k r c.2 h in
    record {
      earlier = one ∷ s.earlier;
      later = s.later;
      whole = ap (λ v. one ∷ v) s.whole;
      count = ap suc s.count;
      before = (c.0, c.1, s.before);
      behind = s.behind;
      get_earlier = λ n x g. first s.earlier n x g s.get_earlier;
      get_later = λ n x g. (let z : suc (suc k) + n ≡ suc (suc k + n) = omega arith in ap (slice_get (one ∷ rows)) z ∙ s.get_later n x g);
    }
  where
    first : (earlier : List TableRow) (n : ℕ) (x : TableRow) → slice_get (one ∷ earlier) n ≡ Some x → ((m : ℕ) (y : TableRow) → slice_get earlier m ≡ Some y → (m < k) × (slice_get rows m ≡ Some y)) →
        (n < suc k) × (slice_get (one ∷ rows) n ≡ Some x)
    first earlier zero x g next = (omega arith, g)
    first earlier (suc n) x g next = let p = next n x g in let l = p.0 in (omega arith, p.1)

-- nodes of some kinds
pub filter_moved : (kinds : List Kind) (f : ℕ → ℕ) (nodes : List Open) → filter (λ (o : Open). is_among kinds o.kind) (map (moved_by f) nodes) ≡ map (moved_by f) (filter (λ (o : Open). is_among kinds o.kind) nodes)
filter_moved kinds f [] = refl
filter_moved kinds f (o ∷ nodes) = by (is_among kinds o.kind) (filter_moved kinds f nodes)
  where
    F : List Open
    F = filter (λ (o : Open). is_among kinds o.kind) nodes

    by : (b : Bool) → filter (λ (o : Open). is_among kinds o.kind) (map (moved_by f) nodes) ≡ map (moved_by f) F →
        cond b (moved_by f o ∷ filter (λ (o : Open). is_among kinds o.kind) (map (moved_by f) nodes)) (filter (λ (o : Open). is_among kinds o.kind) (map (moved_by f) nodes)) ≡ map (moved_by f) (cond b (o ∷ F) F)
    by true rest = ap (λ v. moved_by f o ∷ v) rest
    by false rest = rest

pub children_of-moved : (kinds : List Kind) (items new : List PlainItem) (a b : ℕ) (f : ℕ → ℕ) → children new b ≡ map (moved_by f) (children items a) → children_of kinds new b ≡ map (moved_by f) (children_of kinds items a)
children_of-moved kinds items new a b f e = ap (filter (λ (o : Open). is_among kinds o.kind)) e ∙ filter_moved kinds f (children items a)

filter-append : (test : Open → Bool) (xs ys : List Open) → filter test (xs ++ ys) ≡ filter test xs ++ filter test ys
filter-append test [] ys = refl
filter-append test (x ∷ xs) ys = by (test x) (filter-append test xs ys)
  where
    by : (b : Bool) → filter test (xs ++ ys) ≡ filter test xs ++ filter test ys → cond b (x ∷ filter test (xs ++ ys)) (filter test (xs ++ ys)) ≡ cond b (x ∷ filter test xs) (filter test xs) ++ filter test ys
    by true e = ap (λ v. x ∷ v) e
    by false e = e

filter_swap : (p q : Open → Bool) (nodes : List Open) → filter p (filter q nodes) ≡ filter q (filter p nodes)
filter_swap p q [] = refl
filter_swap p q (o ∷ nodes) = by (p o) (q o) refl refl (filter_swap p q nodes)
  where
    P : List Open
    P = filter p nodes

    Q : List Open
    Q = filter q nodes

    by : (a b : Bool) → p o ≡ a → q o ≡ b → filter p Q ≡ filter q P → filter p (cond (q o) (o ∷ Q) Q) ≡ filter q (cond (p o) (o ∷ P) P)
    by true true e f rest =
        ap (λ x. filter p (cond x (o ∷ Q) Q)) f ∙ ap (λ x. cond x (o ∷ filter p Q) (filter p Q)) e ∙ ap (λ v. o ∷ v) rest
        ∙ sym (ap (λ x. filter q (cond x (o ∷ P) P)) e ∙ ap (λ x. cond x (o ∷ filter q P) (filter q P)) f)
    by true false e f rest =
        ap (λ x. filter p (cond x (o ∷ Q) Q)) f ∙ rest ∙ sym (ap (λ x. filter q (cond x (o ∷ P) P)) e ∙ ap (λ x. cond x (o ∷ filter q P) (filter q P)) f)
    by false true e f rest =
        ap (λ x. filter p (cond x (o ∷ Q) Q)) f ∙ ap (λ x. cond x (o ∷ filter p Q) (filter p Q)) e ∙ rest ∙ sym (ap (λ x. filter q (cond x (o ∷ P) P)) e)
    by false false e f rest = ap (λ x. filter p (cond x (o ∷ Q) Q)) f ∙ rest ∙ sym (ap (λ x. filter q (cond x (o ∷ P) P)) e)

pub cells_with_new : (p : ℕ) (nodes : List Open) → filter (λ (o : Open). is_among cell_kinds o.kind) (with_new p nodes) ≡ with_new p (filter (λ (o : Open). is_among cell_kinds o.kind) nodes)
cells_with_new p nodes =
    let test : Open → Bool = λ o. is_among cell_kinds o.kind in
    filter-append test (map (moved_by (past p)) (nodes_before p nodes)) (record { kind = Td; from = p } ∷ map (moved_by (past p)) (nodes_after p nodes))
    ∙ (λ i. filter_moved cell_kinds (past p) (nodes_before p nodes) i ++ record { kind = Td; from = p } ∷ filter_moved cell_kinds (past p) (nodes_after p nodes) i)
    ∙ (λ i. map (moved_by (past p)) (filter_swap test (λ (o : Open). nat_lt o.from p) nodes i) ++ record { kind = Td; from = p } ∷ map (moved_by (past p)) (filter_swap test (λ (o : Open). not (nat_lt o.from p)) nodes i))

filter_nodes : (test test' : Open → Bool) (f : ℕ → ℕ) (nodes : List Open) → ((o : Open) → test (moved_by f o) ≡ test' o) → filter test (map (moved_by f) nodes) ≡ map (moved_by f) (filter test' nodes)
filter_nodes test test' f [] h = refl
filter_nodes test test' f (o ∷ nodes) h =
    ap (λ b. cond b (moved_by f o ∷ filter test (map (moved_by f) nodes)) (filter test (map (moved_by f) nodes))) (h o) ∙ by (test' o) (filter_nodes test test' f nodes h)
  where
    by : (b : Bool) → filter test (map (moved_by f) nodes) ≡ map (moved_by f) (filter test' nodes) →
        cond b (moved_by f o ∷ filter test (map (moved_by f) nodes)) (filter test (map (moved_by f) nodes)) ≡ map (moved_by f) (cond b (o ∷ filter test' nodes) (filter test' nodes))
    by true rest = ap (λ v. moved_by f o ∷ v) rest
    by false rest = rest

-- a new cell among nodes that were moved by what comes after it
pub new_among_moved : (p : ℕ) (f g h : ℕ → ℕ) (nodes : List Open) → ((a : ℕ) → nat_lt (f a) p ≡ nat_lt a p) → ((a : ℕ) → g (past p (f a)) ≡ h a) →
    map (moved_by g) (with_new p (map (moved_by f) nodes)) ≡ map (moved_by h) (nodes_before p nodes) ++ record { kind = Td; from = g p } ∷ map (moved_by h) (nodes_after p nodes)
new_among_moved p f g h nodes same whole =
    map-append (moved_by g) (map (moved_by (past p)) (nodes_before p (map (moved_by f) nodes))) (record { kind = Td; from = p } ∷ map (moved_by (past p)) (nodes_after p (map (moved_by f) nodes)))
    ∙ (λ i. part (λ (o : Open). nat_lt o.from p) (λ o. same o.from) i ++ record { kind = Td; from = g p } ∷ part (λ (o : Open). not (nat_lt o.from p)) (λ o. ap not (same o.from)) i)
  where
    as_whole : (xs : List Open) → map (moved_by g) (map (moved_by (past p)) (map (moved_by f) xs)) ≡ map (moved_by h) xs
    as_whole [] = refl
    as_whole (o ∷ xs) = (λ i. record { kind = o.kind; from = whole o.from i } ∷ as_whole xs i)

    part : (test : Open → Bool) → ((o : Open) → test (moved_by f o) ≡ test o) → map (moved_by g) (map (moved_by (past p)) (filter test (map (moved_by f) nodes))) ≡ map (moved_by h) (filter test nodes)
    part test e = ap (λ v. map (moved_by g) (map (moved_by (past p)) v)) (filter_nodes test test f nodes e) ∙ as_whole (filter test nodes)

-- rising columns lie left of the column and then right of it
pub rising_split : (column low : ℕ) (all : List Rectangle) → Rising low all → lefts column all ++ rights column all ≡ all
rising_split column low [] r = refl
rising_split column low (x ∷ all) r = by (nat_lt x.column column) refl (rising_split column x.column all r.1)
  where
    right : (l : ℕ) (xs : List Rectangle) → column ≤ l → Rising l xs → (lefts column xs ≡ []) × (rights column xs ≡ xs)
    right l [] a r = (refl, refl)
    right l (y ∷ xs) a r =
        let r0 = r.0 in
        let p = right y.column xs (omega arith) r.1 in (
          ap (λ b. cond b (y ∷ lefts column xs) (lefts column xs)) (no_less y.column column (omega arith)) ∙ p.0,
          ap (λ b. cond b (y ∷ rights column xs) (rights column xs)) (le-leb column y.column (omega arith)) ∙ ap (λ v. y ∷ v) p.1,
        )

    by : (b : Bool) → nat_lt x.column column ≡ b → lefts column all ++ rights column all ≡ all → lefts column (x ∷ all) ++ rights column (x ∷ all) ≡ x ∷ all
    by true e rest =
        let l = ltb-true x.column column e in
        (λ i. cond (e i) (x ∷ lefts column all) (lefts column all) ++ cond (no_least column x.column l i) (x ∷ rights column all) (rights column all)) ∙ ap (λ v. x ∷ v) rest
    by false e rest =
        let l = ltb-false x.column column e in
        let p = right x.column (x ∷ all) l (omega arith, r.1) in
        (λ i. p.0 i ++ p.1 i)

pub grows_grown : (column k : ℕ) (cells : List GridCell) → grown column (map rectangle_of cells) k ≡ list_any (λ (c : GridCell). spans_column column c && covers_row c k) cells
grows_grown column k [] = refl
grows_grown column k (c ∷ cells) = ap (λ b. (spans_column column c && covers_row c k) || b) (grows_grown column k cells)

-- the spans of some of a row's cells
pub some_spans : (items new : List PlainItem) (column : ℕ) (h : ℕ → ℕ) (t : Open → Bool) (u : Rectangle → Bool) (cells : List GridCell) (nodes : List Open) → Pairs items cells nodes →
    ((c : GridCell) (n : Open) → Among c cells → c.at ≡ n.from → t n ≡ u (rectangle_of c)) →
    ((c : GridCell) (n : Open) → Among c cells → c.at ≡ n.from → c.rows ≡ (cell_span_at items n).rows → c.columns ≡ (cell_span_at items n).columns → cell_span_at new (moved_by h n) ≡ size_of (moved_right column (rectangle_of c))) →
    map (cell_span_at new) (map (moved_by h) (filter t nodes)) ≡ map size_of (moved column (filter u (map rectangle_of cells)))
some_spans items new column h t u [] [] p e f = refl
some_spans items new column h t u [] (n ∷ nodes) p e f = absurd p
some_spans items new column h t u (c ∷ cells) [] p e f = absurd p
some_spans items new column h t u (c ∷ cells) (n ∷ nodes) p e f =
    ap (λ b. map (cell_span_at new) (map (moved_by h) (cond b (n ∷ filter t nodes) (filter t nodes)))) (e c n (inl refl) p.0)
    ∙ by (u (rectangle_of c)) (some_spans items new column h t u cells nodes p.3 (λ d m a. e d m (inr a)) (λ d m a. f d m (inr a)))
  where
    by : (b : Bool) → map (cell_span_at new) (map (moved_by h) (filter t nodes)) ≡ map size_of (moved column (filter u (map rectangle_of cells))) →
        map (cell_span_at new) (map (moved_by h) (cond b (n ∷ filter t nodes) (filter t nodes))) ≡ map size_of (moved column (cond b (rectangle_of c ∷ filter u (map rectangle_of cells)) (filter u (map rectangle_of cells))))
    by true rest = (λ i. f c n (inl refl) p.0 p.1 p.2 i ∷ rest i)
    by false rest = rest

pub filter_all : {A : Type 0} (xs : List A) → filter (λ x. true) xs ≡ xs
filter_all [] = refl
filter_all (x ∷ xs) = ap (λ v. x ∷ v) (filter_all xs)
