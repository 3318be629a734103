-- A table's lines in a list with a row put in.
use Rattle.std.specs.Prelude.{flat_map}
use Rattle.std.proofs.Common.{◌≡◌, ℕ, suc, ◌+◌, ◌<◌, ◌≤◌, List, [], ◌∷◌, ◌++◌, length, map, refl, sym, ap, ◌∙◌, subst, arith, length-append}
use Rattle.std.proofs.lemmas.List.{append_assoc}
use Rattle.ve_kinds.specs.declared.kind.Kind.{Kind}
use Rattle.ve_kinds.specs.declared.kind.Kind.TheVariants.{Tr}
use Rattle.model_items.specs.declared.plain_item.PlainItem.{PlainItem}
use Rattle.model_items.specs.Tree.{Open}
use Rattle.model_items.specs.Offsets.{partner, end_of_node}
use Rattle.model_edit.specs.Grid.{TableRow, children_of, section_rows, row_cells}
use Rattle.model_edit_law.specs.Spans.{CellSpan, Line, cell_span_at, line_at}
use Rattle.model_edit_law.proofs.TableSetLemmas.{map-append, length_map}
use Rattle.model_edit_law.proofs.TablePlaceLemmas.{Opens, Chain, from_of}
use Rattle.model_table_law.proofs.RowInLayLemmas.{span_with, AllWider, LinesIn}
use Rattle.model_table_law.proofs.RowInNodesLemmas.{place_with, node_with}
use Rattle.model_table_law.proofs.RowInSectionLemmas.{chain_at, rows_then, section_rows-append, rows_then-length, section_rows-length, rows_in}

AllWider-append : (row i next : ℕ) (A A' B B' : List Line) → next ≡ i + length A → AllWider row i A A' → AllWider row next B B' →
    AllWider row i (A ++ B) (A' ++ B')
AllWider-append row i next [] [] B B' e a b = (let z : next ≡ i = omega arith in subst (λ k. AllWider row k B B') z b)
AllWider-append row i next [] (x' ∷ A') B B' e a b = absurd a
AllWider-append row i next (x ∷ A) [] B B' e a b = absurd a
AllWider-append row i next (x ∷ A) (x' ∷ A') B B' e a b = (a.0, AllWider-append row (suc i) next A A' B B' (omega arith) a.1 b)

flat_map-append : {A B : Type 0} (f : A → List B) (xs ys : List A) → flat_map f (xs ++ ys) ≡ flat_map f xs ++ flat_map f ys
flat_map-append f [] ys = refl
flat_map-append f (x ∷ xs) ys = ap (λ v. f x ++ v) (flat_map-append f xs ys) ∙ sym (append_assoc (f x) (flat_map f xs) (flat_map f ys))

-- `new` is a list with a row of `n` items put in at the position p, which is row number `row`.
module _ (items new : List PlainItem) (p n row : ℕ) where
  abbrev nw : Open → Open
  nw o = node_with p n o

  abbrev old_lines : List TableRow → List Line
  old_lines rows = map (line_at items) rows

  abbrev new_lines : List TableRow → List Line
  new_lines rows = map (line_at new) rows

  -- a row of number i has its cells still, and above the new one their spans are more where they
  -- reach it
  pub record Kept (i : ℕ) (r : TableRow) : Type 0 where
    pub above : i < row → map (cell_span_at new) (row_cells new (place_with p n r.at)) ≡ map (span_with row i) (map (cell_span_at items) (row_cells items r.at))
    pub below : row ≤ i → map (cell_span_at new) (row_cells new (place_with p n r.at)) ≡ map (cell_span_at items) (row_cells items r.at)

  abbrev pub AllKept : ℕ → List TableRow → Type 0
  AllKept i [] = Unit {0}
  AllKept i (r ∷ rows) = Kept i r × AllKept (suc i) rows

  kept_parts : (i next : ℕ) (xs ys : List TableRow) → next ≡ i + length xs → AllKept i (xs ++ ys) → AllKept i xs × AllKept next ys
  kept_parts i next [] ys e h = (tt, (let z : i ≡ next = omega arith in subst (λ k. AllKept k ys) z h))
  kept_parts i next (x ∷ xs) ys e h = let r = kept_parts (suc i) next xs ys (omega arith) h.1 in ((h.0, r.0), r.1)

  rows_below : (nodes : List Open) (i : ℕ) → row ≤ i → AllKept i (section_rows nodes) → new_lines (section_rows (map nw nodes)) ≡ old_lines (section_rows nodes)
  rows_below [] i l h = refl
  rows_below (o ∷ nodes) i l h =
      (λ j. record { left = suc (length_map nw nodes j); spans = (h.0).below l j } ∷ rows_below nodes (suc i) (omega arith) h.1 j)

  rows_above : (nodes : List Open) (i : ℕ) → i + length nodes ≤ row → AllKept i (section_rows nodes) →
      AllWider row i (old_lines (section_rows nodes)) (new_lines (section_rows (map nw nodes)))
  rows_above [] i l h = tt
  rows_above (o ∷ nodes) i l h =
      let same = length_map nw nodes in (
        record { spans = (h.0).above (omega arith); less = omega arith; more = λ far. absurd (omega arith) },
        rows_above nodes (suc i) (omega arith) h.1,
      )

  -- in the section that it is put into
  rows_before : (more : ℕ) (nodes : List Open) (i : ℕ) → i + length nodes ≤ row → AllKept i (rows_then more nodes) →
      AllWider row i (old_lines (rows_then more nodes)) (new_lines (rows_then (suc more) (map nw nodes)))
  rows_before more [] i l h = tt
  rows_before more (o ∷ nodes) i l h =
      let same = length_map nw nodes in (
        record { spans = (h.0).above (omega arith); less = omega arith; more = λ far. omega arith },
        rows_before more nodes (suc i) (omega arith) h.1,
      )

  -- now of all sections
  module _ (kinds : List Kind)
      (kids_before : (kind : Kind) (at : ℕ) → Opens items kind at → end_of_node items at ≤ p → children_of (Tr ∷ []) new (place_with p n at) ≡ map nw (children_of (Tr ∷ []) items at))
      (kids_after : (at : ℕ) → p ≤ at → children_of (Tr ∷ []) new (place_with p n at) ≡ map nw (children_of (Tr ∷ []) items at)) where
    abbrev old_rows : List Open → List TableRow
    old_rows sections = flat_map (rows_in items) sections

    abbrev new_rows : List Open → List TableRow
    new_rows sections = flat_map (rows_in new) (map nw sections)

    sections_below : (sections : List Open) (i low high : ℕ) → row ≤ i → p ≤ low → Chain from_of items kinds low high sections → AllKept i (old_rows sections) →
        new_lines (new_rows sections) ≡ old_lines (old_rows sections)
    sections_below [] i low high l far c h = refl
    sections_below (section ∷ sections) i low high l far c h =
        let a = c.0 in
        let ahead = (c.1.2).ahead in
        let nodes = children_of (Tr ∷ []) items section.from in
        let k = kept_parts i (i + length (section_rows nodes)) (section_rows nodes) (old_rows sections) refl h in
        ap (λ v. new_lines (section_rows v ++ new_rows sections)) (kids_after section.from (omega arith))
        ∙ map-append (line_at new) (section_rows (map nw nodes)) (new_rows sections)
        ∙ (λ j. rows_below nodes i l k.0 j ++ sections_below sections (i + length (section_rows nodes)) (end_of_node items section.from) high (omega arith) (omega arith) c.2 k.1 j)
        ∙ sym (map-append (line_at items) (section_rows nodes) (old_rows sections))

    sections_above : (sections : List Open) (i low high : ℕ) → i + length (old_rows sections) ≤ row → high ≤ p → Chain from_of items kinds low high sections →
        AllKept i (old_rows sections) →
        AllWider row i (old_lines (old_rows sections)) (new_lines (new_rows sections))
    sections_above [] i low high l near c h = tt
    sections_above (section ∷ sections) i low high l near c h =
        let nodes = children_of (Tr ∷ []) items section.from in
        let both = length-append (section_rows nodes) (old_rows sections) in
        let long = section_rows-length nodes in
        let lines = length_map (line_at items) (section_rows nodes) in
        let ends = Rattle.model_edit_law.proofs.TablePlaceLemmas.Chain-ends from_of items kinds (end_of_node items section.from) high sections c.2 in
        let next = i + length (section_rows nodes) in
        let k = kept_parts i next (section_rows nodes) (old_rows sections) refl h in
        let old : old_lines (section_rows nodes ++ old_rows sections) ≡ old_lines (section_rows nodes) ++ old_lines (old_rows sections) = map-append (line_at items) (section_rows nodes) (old_rows sections) in
        let new' : new_lines (new_rows (section ∷ sections)) ≡ new_lines (section_rows (map nw nodes)) ++ new_lines (new_rows sections) =
        ap (λ v. new_lines (section_rows v ++ new_rows sections)) (kids_before c.1.0 section.from c.1.2 (omega arith)) ∙ map-append (line_at new) (section_rows (map nw nodes)) (new_rows sections) in
        subst (λ v. AllWider row i v (new_lines (new_rows (section ∷ sections)))) (sym old)
        (subst (λ v. AllWider row i (old_lines (section_rows nodes) ++ old_lines (old_rows sections)) v) (sym new')
        (AllWider-append row i next (old_lines (section_rows nodes)) (new_lines (section_rows (map nw nodes))) (old_lines (old_rows sections)) (new_lines (new_rows sections)) (omega arith)
        (rows_above nodes i (omega arith) k.0)
        (sections_above sections next (end_of_node items section.from) high (omega arith) near c.2 k.1)))

    apart : (a b c d : List Line) → a ++ ((b ++ c) ++ d) ≡ (a ++ b) ++ (c ++ d)
    apart a b c d = ap (λ v. a ++ v) (append_assoc b c d) ∙ sym (append_assoc a b (c ++ d))

    -- the lines of a table, where a section has the new row right after these of its rows
    pub lines_in : (spans : List CellSpan) (earlier : List Open) (it : Open) (later xs ys : List Open) (low high : ℕ) →
        children_of (Tr ∷ []) items it.from ≡ xs ++ ys →
        children_of (Tr ∷ []) new (place_with p n it.from) ≡ map nw xs ++ record { kind = Tr; from = p } ∷ map nw ys → map (cell_span_at new) (row_cells new p) ≡ spans →
        length (old_rows earlier) + length xs ≡ row → it.from < p → p ≤ partner items it.from → Chain from_of items kinds low high (earlier ++ it ∷ later) → AllKept 0 (old_rows (earlier ++ it ∷ later)) →
        LinesIn row spans (old_lines (old_rows (earlier ++ it ∷ later))) (new_lines (new_rows (earlier ++ it ∷ later)))
    lines_in spans earlier it later xs ys low high nodes new_nodes cells count near within chain kept =
        let m = length ys in
        let E = old_rows earlier in
        let X = rows_then m xs in
        let Y = section_rows ys in
        let L = old_rows later in
        let z : Open = record { kind = Tr; from = p } in
        let X' = rows_then (suc m) (map nw xs) in
        let Y' = section_rows (map nw ys) in
        let E' = new_rows earlier in
        let L' = new_rows later in
        let ch = chain_at from_of items kinds low high earlier it later chain in
        let split : old_rows (earlier ++ it ∷ later) ≡ E ++ ((X ++ Y) ++ L) =
        flat_map-append (rows_in items) earlier (it ∷ later) ∙ ap (λ v. E ++ (v ++ L)) (ap section_rows nodes ∙ section_rows-append xs ys) in
        let k = subst (AllKept 0) split kept in
        let k0 = kept_parts 0 (length E) E ((X ++ Y) ++ L) (omega arith) k in
        let k1 = kept_parts (length E) (length E + length (X ++ Y)) (X ++ Y) L refl k0.1 in
        let k2 = kept_parts (length E) (length E + length X) X Y refl k1.0 in
        let lx = rows_then-length m xs in
        let lxy = length-append X Y in
        let le = length_map (line_at items) E in
        let lX = length_map (line_at items) X in
        let long = length-append (old_lines E) (old_lines X) in
        let same : length (map nw ys) ≡ m = length_map nw ys in
        let row_new : new_rows (earlier ++ it ∷ later) ≡ E' ++ ((X' ++ record { at = p; left = suc m } ∷ Y') ++ L') =
        news earlier (it ∷ later)
        ∙ ap (λ v. E' ++ (section_rows v ++ L')) new_nodes
        ∙ ap (λ v. E' ++ (v ++ L')) (section_rows-append (map nw xs) (z ∷ map nw ys))
        ∙ ap (λ k. E' ++ ((rows_then (suc k) (map nw xs) ++ record { at = p; left = suc k } ∷ Y') ++ L')) same in
        let below : new_lines (Y' ++ L') ≡ old_lines Y ++ old_lines L =
        map-append (line_at new) Y' L'
        ∙ (λ i. rows_below ys (length E + length X) (omega arith) k2.1 i ++ sections_below later (length E + length (X ++ Y)) (end_of_node items it.from) high (omega arith) (omega arith) ch.2 k1.1 i) in
        record {
          above = old_lines E ++ old_lines X;
          above' = new_lines E' ++ new_lines X';
          below = old_lines Y ++ old_lines L;
          left = suc m;
          old =
              ap old_lines split
              ∙ map-append (line_at items) E ((X ++ Y) ++ L)
              ∙ ap (λ v. old_lines E ++ v) (map-append (line_at items) (X ++ Y) L ∙ ap (λ v. v ++ old_lines L) (map-append (line_at items) X Y))
              ∙ apart (old_lines E) (old_lines X) (old_lines Y) (old_lines L);
          new =
              ap new_lines row_new
              ∙ map-append (line_at new) E' ((X' ++ record { at = p; left = suc m } ∷ Y') ++ L')
              ∙ ap (λ v. new_lines E' ++ new_lines v) (append_assoc X' (record { at = p; left = suc m } ∷ Y') L')
              ∙ ap (λ v. new_lines E' ++ v) (map-append (line_at new) X' (record { at = p; left = suc m } ∷ (Y' ++ L')))
              ∙ (λ i. new_lines E' ++ (new_lines X' ++ record { left = suc m; spans = cells i } ∷ below i))
              ∙ sym (append_assoc (new_lines E') (new_lines X') (record { left = suc m; spans = spans } ∷ (old_lines Y ++ old_lines L)));
          count = omega arith;
          wider = AllWider-append row 0 (length E) (old_lines E) (new_lines E') (old_lines X) (new_lines X') (omega arith)
              (sections_above earlier 0 low it.from (omega arith) (omega arith) ch.0 k0.0)
              (rows_before m xs (length E) (omega arith) k2.0);
          some = omega arith;
        }
      where
        news : (xs ys : List Open) → new_rows (xs ++ ys) ≡ new_rows xs ++ new_rows ys
        news xs ys = ap (flat_map (rows_in new)) (map-append nw xs ys) ∙ flat_map-append (rows_in new) (map nw xs) (map nw ys)
