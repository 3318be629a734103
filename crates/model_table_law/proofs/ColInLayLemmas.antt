-- The rectangles of a table with a column put in: what its rows with the column lay out.
use Rattle.std.specs.Prelude.{flat_map, nat_le}
use Rattle.std.specs.List.{range_with_len}
use Rattle.std.proofs.Common.{◌≡◌, ◌⊎◌, inl, inr, ℕ, zero, suc, ◌+◌, ◌-◌, ◌<◌, ◌≤◌, Bool, true, false, cond, ◌&&◌, ◌||◌, nat_lt, List, [], ◌∷◌, ◌++◌, length, map, Option, Some, None, refl, sym, ap, ◌∙◌, subst, arith, append-nil}
use Rattle.std.proofs.lemmas.Bool.{and_from, or_from, leb-true, leb-false, ltb-true, ltb-false, le-leb, lt-ltb, true≢false}
use Rattle.std.proofs.lemmas.List.{append_assoc}
use Rattle.model_edit.specs.Layout.{Rectangle, has_row, has_column, grows_right, moved_right, one_by_one}
use Rattle.model_edit_law.specs.Spans.{CellSpan, Line, covers_cell, free_from, width, laid, bent, lay_row, lay, size_of, of_row, AllSome, EachSome}
use Rattle.model_edit_law.proofs.LeastLemmas.{Least, placed_least, least_one}
use Rattle.model_edit_law.proofs.LayLemmas.{not_bent}
use Rattle.model_edit_law.proofs.TableSetLemmas.{map-append}
use Rattle.model_table_law.proofs.RowsAddLemmas.{Sized, Sized-append, Sized-later, free_apart, put_one, Under, From, row_adds, rows_add, of_row-under, of_row-here, Under-append}
use Rattle.model_table_law.proofs.ColInCoverLemmas.{or_nil, no_less, no_least, same_rest, grown, lefts, rights, moved, new_here, row_widened, row_with, lines_with, Num, moved_of, Twin, Twin-later, Twin-more, Twin-new, grown-append, covered-append, Sized-more, still_straight, not_grown}

-- each row has some left in its section
abbrev pub EachDeep : List Line → Type 0
EachDeep [] = Unit {0}
EachDeep (line ∷ lines) = (1 ≤ line.left) × EachDeep lines

module _ (c : ℕ) where
  -- the next free position at or right of the column
  beyond_new : (row from end end' a : ℕ) (B B' : List Rectangle) → Twin c from B B' → Least (covers_cell B row) end a → c ≤ a → end' ≤ suc a → ((k : ℕ) → end' ≤ k → k ≤ c → covers_cell B' row k ≡ true) →
      ((j : ℕ) → end' ≤ suc j → c ≤ j → end ≤ j) → free_from B' row end' (width B') ≡ suc a
  beyond_new row from end end' a B B' t l at low filled from_end =
      least_one (covers_cell B' row) (covers_cell B' row) end' _ _ (λ k. refl) (placed_least B' row end') (record {
        low = low;
        passed = λ k low' high. by k low' high (nat_le k c) refl;
        free = t.right row a at ∙ l.free;
      })
    where
      by : (k : ℕ) → end' ≤ k → k < suc a → (b : Bool) → nat_le k c ≡ b → covers_cell B' row k ≡ true
      by k low' high true e = filled k low' (leb-true k c e)
      by zero low' high false e = absurd (let g = leb-false zero c e in omega arith)
      by (suc j) low' high false e = let g = leb-false (suc j) c e in t.right row j (omega arith) ∙ l.passed j (from_end j low' (omega arith)) (omega arith)

  abbrev pub AllRight : List Rectangle → Type 0
  AllRight [] = Unit {0}
  AllRight (r ∷ all) = (c ≤ r.column) × AllRight all

  none_left : (more : List Rectangle) → AllRight more → lefts c more ≡ []
  none_left [] a = refl
  none_left (r ∷ more) a = ap (λ b. cond b (r ∷ lefts c more) (lefts c more)) (no_less r.column c a.0) ∙ none_left more a.1

  all_right : (more : List Rectangle) → AllRight more → rights c more ≡ more
  all_right [] a = refl
  all_right (r ∷ more) a = ap (λ b. cond b (r ∷ rights c more) (rights c more)) (le-leb c r.column a.0) ∙ ap (λ v. r ∷ v) (all_right more a.1)

  none_grows : (more : List Rectangle) (row : ℕ) → AllRight more → grown c more row ≡ false
  none_grows [] row a = refl
  none_grows (r ∷ more) row a = ap (λ b. ((b && has_column r c) && has_row r row) || grown c more row) (no_less r.column c a.0) ∙ none_grows more row a.1

  -- The rectangles that a row adds right of the column, and those that it adds then.
  record RightRow (row left end' : ℕ) (B B' C : List Rectangle) : Type 0 where
    pub more : List Rectangle
    pub whole : C ≡ B ++ more
    pub beyond : AllRight more
    pub wide : lay_row row left end' (map size_of (moved c more)) B' ≡ Some (B' ++ moved c more)
    pub twin : Twin c (suc row) C (B' ++ moved c more)
    pub sized : Sized row (B' ++ moved c more)

  right_row : (spans : List CellSpan) (row left end end' : ℕ) (B B' C : List Rectangle) → AllSome spans → c ≤ free_from B row end (width B) →
      free_from B' row end' (width B') ≡ suc (free_from B row end (width B)) → Twin c (suc row) B B' → Sized row B' → lay_row row left end spans B ≡ Some C → RightRow row left end' B B' C
  right_row [] row left end end' B B' C some ahead seam t s h =
      let e : B ≡ C = cc in
      record {
        more = [];
        whole = sym e ∙ sym (append-nil B);
        beyond = tt;
        wide = ap Some (sym (append-nil B'));
        twin = subst (λ v. Twin c (suc row) v (B' ++ [])) e (subst (Twin c (suc row) B) (sym (append-nil B')) t);
        sized = subst (Sized row) (sym (append-nil B')) s;
      }
  right_row (s ∷ spans) row left end end' B B' C some ahead seam t sized h =
      let one = laid B row end s in
      let m = moved_right c one in
      let n = not_bent row left spans B one C h in
      let v = right_moved (moved_of c one).its_columns in
      let tall : 1 ≤ one.rows = some.0 in
      let straight = still_straight c row left B B' one (suc row) refl some.0 some.1 (λ l. absurd (omega arith)) t sized n.0 in
      let B1 = B ++ one ∷ [] in
      let B1' = B' ++ m ∷ [] in
      let t1 = Twin-more c (suc row) B B' one t in
      let next = placed_least B1 row (one.column + one.columns) in
      let next_low = next.low in
      let v0 = v.0 in
      let v1 = v.1 in
      let w = some.1 in
      let seam1 = beyond_new row (suc row) (one.column + one.columns) (m.column + m.columns) (free_from B1 row (one.column + one.columns) (width B1)) B1 B1' t1 next (omega arith) (omega arith)
      (λ k low high. absurd (omega arith)) (λ j low high. omega arith) in
      let r = right_row spans row left (one.column + one.columns) (m.column + m.columns) B1 B1' C some.2 (omega arith) seam1 t1 (Sized-more c row B' one refl some.1 sized) n.1 in
      let joined : (B' ++ m ∷ []) ++ moved c r.more ≡ B' ++ m ∷ moved c r.more = append_assoc B' (m ∷ []) (moved c r.more) in
      record {
        more = one ∷ r.more;
        whole = r.whole ∙ append_assoc B (one ∷ []) r.more;
        beyond = (ahead, r.beyond);
        wide = put_one row left end' (map size_of (moved c r.more)) B' (B' ++ m ∷ moved c r.more) m (moved_of c one).its_row (seam ∙ sym v.0) straight (r.wide ∙ ap Some joined);
        twin = subst (Twin c (suc row) C) joined r.twin;
        sized = subst (Sized row) joined r.sized;
      }
    where
      right_moved : Num c (free_from B row end (width B)) s.columns (moved_right c (laid B row end s)).column (moved_right c (laid B row end s)).columns →
          ((moved_right c (laid B row end s)).column ≡ suc (free_from B row end (width B))) × ((moved_right c (laid B row end s)).columns ≡ s.columns)
      right_moved (inl x) = (x.1, x.2)
      right_moved (inr (inl x)) = absurd (let x0 = x.0 in omega arith)
      right_moved (inr (inr x)) = absurd (let x0 = x.0 in omega arith)

  -- The rectangles that a row adds, and those that it adds with the column.
  record RowWith (row left end' : ℕ) (B B' C : List Rectangle) : Type 0 where
    pub more : List Rectangle
    pub whole : C ≡ B ++ more
    pub wide : lay_row row left end' (map size_of (row_widened c more (grown c C row) row)) B' ≡ Some (B' ++ row_widened c more (grown c C row) row)
    pub twin : Twin c (suc row) C (B' ++ row_widened c more (grown c C row) row)
    pub sized : Sized row (B' ++ row_widened c more (grown c C row) row)

  -- the end of the cell before, left of the column or of one that grows into it
  abbrev Near : (row end end' : ℕ) → List Rectangle → Type 0
  Near row end end' B = ((end ≤ c) × (end' ≡ end)) ⊎ ((c < end) × (end' ≡ suc end) × (grown c B row ≡ true))

  -- a new cell or none, and then what is right of the column
  row_joined : (row left end' end1 : ℕ) (B B' C new : List Rectangle) → new_here c (grown c B row) row ≡ new → RightRow row left end1 B (B' ++ new) C →
      ((D : List Rectangle) (rest : List CellSpan) → lay_row row left end1 rest (B' ++ new) ≡ Some D → lay_row row left end' (map size_of new ++ rest) B' ≡ Some D) → RowWith row left end' B B' C
  row_joined row left end' end1 B B' C new e r put =
      let here : grown c C row ≡ grown c B row = ap (λ v. grown c v row) r.whole ∙ grown-append c B r.more row ∙ ap (λ b. grown c B row || b) (none_grows r.more row r.beyond) ∙ or_nil (grown c B row) in
      let parts : row_widened c r.more (grown c C row) row ≡ new ++ moved c r.more =
      (λ i. moved c (none_left r.more r.beyond i) ++ (new_here c (here i) row ++ moved c (all_right r.more r.beyond i))) ∙ ap (λ v. v ++ moved c r.more) e in
      let joined : (B' ++ new) ++ moved c r.more ≡ B' ++ row_widened c r.more (grown c C row) row = append_assoc B' new (moved c r.more) ∙ ap (λ v. B' ++ v) (sym parts) in
      record {
        more = r.more;
        whole = r.whole;
        wide = ap (λ v. lay_row row left end' (map size_of v) B') parts ∙ ap (λ v. lay_row row left end' v B') (map-append size_of new (moved c r.more))
            ∙ put ((B' ++ new) ++ moved c r.more) (map size_of (moved c r.more)) r.wide ∙ ap Some joined;
        twin = subst (Twin c (suc row) C) joined r.twin;
        sized = subst (Sized row) joined r.sized;
      }

  -- the next cell stands right of the column, or there is none
  row_switched : (spans : List CellSpan) (row left end end' : ℕ) (B B' C : List Rectangle) → AllSome spans → 1 ≤ left → Near row end end' B → Twin c row B B' → Sized row B' →
      c ≤ free_from B row end (width B) → lay_row row left end spans B ≡ Some C → RowWith row left end' B B' C
  row_switched spans row left end end' B B' C some deep near t sized ahead h = by (grown c B row) refl near
    where
      a : ℕ
      a = free_from B row end (width B)

      least : Least (covers_cell B row) end a
      least = placed_least B row end

      new : Rectangle
      new = one_by_one row c

      filled : grown c B row ≡ true → Near row end end' B → (k : ℕ) → end' ≤ k → k ≤ c → covers_cell B' row k ≡ true
      filled e (inr x) k low high = absurd (let x0 = x.0 in let x1 = x.1 in omega arith)
      filled e (inl x) k low high = at (nat_lt k c) refl
        where
          at : (b : Bool) → nat_lt k c ≡ b → covers_cell B' row k ≡ true
          at true f = let l = ltb-true k c f in let x1 = x.1 in t.left row k l ∙ least.passed k (omega arith) (omega arith)
          at false f = let l = ltb-false k c f in let z : k ≡ c = omega arith in ap (covers_cell B' row) z ∙ t.middle row (omega arith) ∙ e

      from_end : Near row end end' B → (j : ℕ) → end' ≤ suc j → c ≤ j → end ≤ j
      from_end (inl x) j low high = let x0 = x.0 in omega arith
      from_end (inr x) j low high = let x1 = x.1 in omega arith

      low_end : Near row end end' B → end' ≤ suc a
      low_end (inl x) = let l = least.low in let x1 = x.1 in omega arith
      low_end (inr x) = let l = least.low in let x1 = x.1 in omega arith

      by : (b : Bool) → grown c B row ≡ b → Near row end end' B → RowWith row left end' B B' C
      by true e n =
          let seam = beyond_new row row end end' a B B' t least ahead (low_end n) (filled e n) (from_end n) in
          let r = right_row spans row left end end' B B' C some ahead seam (Twin-later c row B B' t) sized h in
          row_joined row left end' end' B B' C [] (ap (λ b. new_here c b row) e) (subst (λ v. RightRow row left end' B v C) (sym (append-nil B')) r)
          (λ D rest g. subst (λ v. lay_row row left end' rest v ≡ Some D) (append-nil B') g)
      by false e (inr x) = absurd (true≢false (sym x.2 ∙ e))
      by false e (inl x) =
          let x0 = x.0 in
          let x1 = x.1 in
          let free : covers_cell B' row c ≡ false = t.middle row (omega arith) ∙ e in
          let column : free_from B' row end' (width B') ≡ c = least_one (covers_cell B' row) (covers_cell B' row) end' _ _ (λ k. refl) (placed_least B' row end') (record {
            low = omega arith;
            passed = λ k low high. t.left row k high ∙ least.passed k (omega arith) (omega arith);
            free = free;
          }) in
          let straight : bent left B' new ≡ false = or_from (nat_lt left 1) _ (no_less left 1 deep)
          (free_apart new B' (omega arith) sized (λ k low high. let z : k ≡ c = omega arith in ap (covers_cell B' row) z ∙ free)) in
          let t1 = Twin-new c row B B' t in
          let seam = beyond_new row (suc row) end (c + 1) a B (B' ++ new ∷ []) t1 least ahead (omega arith) (λ k low high. absurd (omega arith)) (λ j low high. omega arith) in
          let r = right_row spans row left end (c + 1) B (B' ++ new ∷ []) C some ahead seam t1 (Sized-append row B' (new ∷ []) sized (omega arith, omega arith, tt)) h in
          row_joined row left end' (c + 1) B B' C (new ∷ []) (ap (λ b. new_here c b row) e) r (λ D rest g. put_one row left end' rest B' D new refl column straight g)

  left_kept : (more : List Rectangle) (one : Rectangle) (grows : Bool) (row : ℕ) → one.column < c → row_widened c (one ∷ more) grows row ≡ moved_right c one ∷ row_widened c more grows row
  left_kept more one grows row l =
      (λ i. moved c (cond (lt-ltb one.column c l i) (one ∷ lefts c more) (lefts c more)) ++ (new_here c grows row ++ moved c (cond (no_least c one.column l i) (one ∷ rights c more) (rights c more))))

  row_in_left : (spans : List CellSpan) (row left end end' : ℕ) (B B' C : List Rectangle) → AllSome spans → 1 ≤ left → Near row end end' B → Twin c row B B' → Sized row B' →
      ((k : ℕ) → k < c → covers_cell C row k ≡ true) → lay_row row left end spans B ≡ Some C → RowWith row left end' B B' C
  row_in_left [] row left end end' B B' C some deep near t sized full h =
      let e : B ≡ C = cc in
      let a = free_from B row end (width B) in
      let least = placed_least B row end in
      let ahead : (b : Bool) → nat_lt a c ≡ b → c ≤ a = λ b. elim b as (λ b. nat_lt a c ≡ b → c ≤ a) [
        | true ↦ λ f. absurd (true≢false (sym (ap (λ v. covers_cell v row a) e ∙ full a (ltb-true a c f)) ∙ least.free))
        | false ↦ λ f. ltb-false a c f
      ] in
      row_switched [] row left end end' B B' C some deep near t sized (ahead (nat_lt a c) refl) h
  row_in_left (s ∷ spans) row left end end' B B' C some deep near t sized full h =
      by (nat_lt (free_from B row end (width B)) c) refl near
      (λ n' t' sized' g. row_in_left spans row left ((laid B row end s).column + s.columns) ((moved_right c (laid B row end s)).column + (moved_right c (laid B row end s)).columns)
      (B ++ laid B row end s ∷ []) (B' ++ moved_right c (laid B row end s) ∷ []) C some.2 deep n' t' sized' full g)
    where
      one : Rectangle
      one = laid B row end s

      m : Rectangle
      m = moved_right c one

      least : Least (covers_cell B row) end one.column
      least = placed_least B row end

      one_grown : one.column < c → c < one.column + one.columns → grown c (B ++ one ∷ []) row ≡ true
      one_grown l far =
          let w = some.0 in
          let g : grows_right c one ≡ true = and_from _ _ (lt-ltb one.column c l) (and_from _ _ (le-leb one.column c (omega arith)) (lt-ltb c (one.column + one.columns) far)) in
          let r : has_row one row ≡ true = and_from _ _ (le-leb row row (omega arith)) (lt-ltb row (row + s.rows) (omega arith)) in
          grown-append c B (one ∷ []) row ∙ (λ i. grown c B row || ((g i && r i) || false)) ∙ any_true (grown c B row)
        where
          any_true : (b : Bool) → (b || true) ≡ true
          any_true true = refl
          any_true false = refl

      next_near : one.column < c → Num c one.column one.columns m.column m.columns → Near row (one.column + one.columns) (m.column + m.columns) (B ++ one ∷ [])
      next_near l (inl x) = absurd (let x0 = x.0 in omega arith)
      next_near l (inr (inl x)) = inr (x.2, (let x1 = x.1 in let x3 = x.3 in omega arith), one_grown l x.2)
      next_near l (inr (inr x)) = inl (x.2, (let x1 = x.1 in let x3 = x.3 in omega arith))

      stays : one.column < c → Num c one.column one.columns m.column m.columns → m.column ≡ one.column
      stays l (inl x) = absurd (let x0 = x.0 in omega arith)
      stays l (inr (inl x)) = x.1
      stays l (inr (inr x)) = x.1

      by : (b : Bool) → nat_lt one.column c ≡ b → Near row end end' B →
          (Near row (one.column + one.columns) (m.column + m.columns) (B ++ one ∷ []) → Twin c row (B ++ one ∷ []) (B' ++ m ∷ []) → Sized row (B' ++ m ∷ []) →
          lay_row row left (one.column + one.columns) spans (B ++ one ∷ []) ≡ Some C → RowWith row left (m.column + m.columns) (B ++ one ∷ []) (B' ++ m ∷ []) C) → RowWith row left end' B B' C
      by false e n next = row_switched (s ∷ spans) row left end end' B B' C some deep n t sized (ltb-false one.column c e) h
      by true e (inr x) next = absurd (let x0 = x.0 in let l = least.low in let f = ltb-true one.column c e in omega arith)
      by true e (inl x) next =
          let x1 = x.1 in
          let l = ltb-true one.column c e in
          let low = least.low in
          let straight_before = not_bent row left spans B one C h in
          let v = moved_of c one in
          let t1 = Twin-more c row B B' one t in
          let sized1 = Sized-more c row B' one refl some.1 sized in
          let r = next (next_near l v.its_columns) t1 sized1 straight_before.1 in
          let column : free_from B' row end' (width B') ≡ one.column = least_one (covers_cell B' row) (covers_cell B' row) end' _ _ (λ k. refl) (placed_least B' row end') (record {
            low = omega arith;
            passed = λ k low' high. t.left row k (omega arith) ∙ least.passed k (omega arith) high;
            free = t.left row one.column l ∙ least.free;
          }) in
          let straight = still_straight c row left B B' one row refl some.0 some.1 (λ l'. omega arith) t sized straight_before.0 in
          let W = row_widened c r.more (grown c C row) row in
          let kept : row_widened c (one ∷ r.more) (grown c C row) row ≡ m ∷ W = left_kept r.more one (grown c C row) row l in
          let joined : (B' ++ m ∷ []) ++ W ≡ B' ++ row_widened c (one ∷ r.more) (grown c C row) row = append_assoc B' (m ∷ []) W ∙ ap (λ v. B' ++ v) (sym kept) in
          record {
            more = one ∷ r.more;
            whole = r.whole ∙ append_assoc B (one ∷ []) r.more;
            wide = ap (λ v. lay_row row left end' (map size_of v) B') kept
                ∙ put_one row left end' (map size_of W) B' ((B' ++ m ∷ []) ++ W) m v.its_row (column ∙ sym (stays l v.its_columns)) straight r.wide ∙ ap Some joined;
            twin = subst (Twin c (suc row) C) joined r.twin;
            sized = subst (Sized row) joined r.sized;
          }

  -- rows below don't reach this one
  none_below : (row : ℕ) (all : List Rectangle) (k : ℕ) → From (suc row) all → covers_cell all row k ≡ false
  none_below row [] k f = refl
  none_below row (r ∷ all) k f = let l = f.0 in (ap (λ b. ((b && nat_lt row (r.row + r.rows)) && has_column r k) || covers_cell all row k) (no_least r.row row (omega arith)) ∙ none_below row all k f.1)

  none_from_below : (row : ℕ) (all : List Rectangle) → From (suc row) all → grown c all row ≡ false
  none_from_below row all f = not_grown c all row (none_below row all c f)

  lines_in : (lines : List Line) (row : ℕ) (B B' R : List Rectangle) → EachSome lines → EachDeep lines → Under row B → Twin c row B B' → Sized row B' →
      ((i k : ℕ) → row ≤ i → i < row + length lines → k < c → covers_cell R i k ≡ true) → lay row lines (Some B) ≡ Some R →
      lay row (lines_with c R row lines) (Some B') ≡ Some (B' ++ flat_map (row_with c R) (range_with_len row (length lines)))
  lines_in [] row B B' R some deep u t sized full h = ap Some (sym (append-nil B'))
  lines_in (line ∷ lines) row B B' R some deep u t sized full h =
      by (λ C B1 u' t' sized' h'. lines_in lines (suc row) C B1 R some.1 deep.1 u' t' sized' (λ i k low high l. full i k (omega arith) (omega arith) l) h') (lay_row row line.left 0 line.spans B) refl h
    where
      rest : List Rectangle
      rest = flat_map (row_with c R) (range_with_len (row + 1) (length lines))

      by : ((C B1 : List Rectangle) → Under (suc row) C → Twin c (suc row) C B1 → Sized (suc row) B1 → lay (suc row) lines (Some C) ≡ Some R →
          lay (suc row) (lines_with c R (suc row) lines) (Some B1) ≡ Some (B1 ++ flat_map (row_with c R) (range_with_len (suc row) (length lines)))) →
          (o : Option (List Rectangle)) → lay_row row line.left 0 line.spans B ≡ o → lay (suc row) lines o ≡ Some R →
          lay (suc row) (lines_with c R (suc row) lines) (lay_row row line.left 0 (map size_of (row_with c R row)) B') ≡ Some (B' ++ (row_with c R row ++ rest))
      by next None e h = cc
      by next (Some C) e h =
          let a = row_adds line.spans row line.left 0 B C e in
          let u1 = subst (Under (suc row)) (sym a.whole) (Under-append row B a.more u a.here) in
          let i = rows_add lines (suc row) C R u1 h in
          let same : (k : ℕ) → covers_cell C row k ≡ covers_cell R row k = λ k.
          sym (ap (λ v. covers_cell v row k) i.whole ∙ covered-append c C i.later row k ∙ ap (λ b. covers_cell C row k || b) (none_below row i.later k i.from) ∙ or_nil (covers_cell C row k)) in
          let grows : grown c C row ≡ grown c R row =
          sym (ap (λ v. grown c v row) i.whole ∙ grown-append c C i.later row ∙ ap (λ b. grown c C row || b) (none_from_below row i.later i.from) ∙ or_nil (grown c C row)) in
          let r = row_in_left line.spans row line.left 0 0 B B' C some.0 deep.0 (inl (omega arith, refl)) t sized (λ k l. same k ∙ full row k (omega arith) (omega arith) l) e in
          let all : R ≡ B ++ (a.more ++ i.later) = i.whole ∙ ap (λ v. v ++ i.later) a.whole ∙ append_assoc B a.more i.later in
          let mores : r.more ≡ of_row R row =
          same_rest B r.more a.more (sym r.whole ∙ a.whole) ∙ sym (ap (λ v. of_row v row) all ∙ of_row-under row B (a.more ++ i.later) u ∙ of_row-here row a.more i.later a.here i.from) in
          let its : row_widened c r.more (grown c C row) row ≡ row_with c R row = (λ j. row_widened c (mores j) (grows j) row) in
          let z : suc row ≡ row + 1 = omega arith in
          ap (λ v. lay (suc row) (lines_with c R (suc row) lines) (lay_row row line.left 0 (map size_of v) B')) (sym its)
          ∙ ap (lay (suc row) (lines_with c R (suc row) lines)) r.wide
          ∙ next C (B' ++ row_widened c r.more (grown c C row) row) u1 r.twin (Sized-later row _ r.sized) h
          ∙ (λ j. Some ((B' ++ its j) ++ flat_map (row_with c R) (range_with_len (z j) (length lines))))
          ∙ ap Some (append_assoc B' (row_with c R row) rest)

  -- Where each row covers the columns before, the rows with the column lay out the rectangles with
  -- it.
  pub col_in_lays : (lines : List Line) (all : List Rectangle) → EachSome lines → EachDeep lines → ((row k : ℕ) → row < length lines → k < c → covers_cell all row k ≡ true) →
      lay 0 lines (Some []) ≡ Some all → lay 0 (lines_with c all 0 lines) (Some []) ≡ Some (flat_map (row_with c all) (range_with_len 0 (length lines)))
  col_in_lays lines all some deep full h =
      lines_in lines 0 [] [] all some deep tt (record { left = λ row k l. refl; right = λ row k l. refl; middle = λ row l. refl }) tt
      (λ i k low high l. full i k (omega arith) l) h
