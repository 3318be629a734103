-- A table without a row, line by line.
use Rattle.std.specs.Prelude.{filter_map, flat_map, slice_get}
use Rattle.std.specs.List.{cons_option}
use Rattle.std.proofs.Common.{◌≡◌, ◌⊎◌, inl, inr, ℕ, zero, suc, ◌+◌, ◌-◌, ◌<◌, ◌≤◌, true, false, if◌then◌else◌, nat_lt, List, [], ◌∷◌, ◌++◌, length, map, Some, refl, sym, ap, ◌∙◌, subst, arith, length-append}
use Rattle.std.proofs.lemmas.Bool.{cases_Bool, ltb-true, ltb-false, lt-ltb}
use Rattle.ve_kinds.specs.declared.kind.Kind.{Kind}
use Rattle.ve_kinds.specs.declared.kind.Kind.TheVariants.{Tr}
use Rattle.model_items.specs.declared.plain_item.PlainItem.{PlainItem}
use Rattle.model_items.specs.Law.{Lawful}
use Rattle.model_items.specs.Tree.{Open}
use Rattle.model_items.specs.Offsets.{partner, end_of_node}
use Rattle.model_edit.specs.Grid.{TableRow, children_of, section_rows, row_cells}
use Rattle.model_edit_law.specs.Spans.{Line, span_after, lines_after, cell_span_at, line_at}
use Rattle.model_edit_law.proofs.SiblingLemmas.{place_without, node_without, Outside, no_less, node_outside, node_gone}
use Rattle.model_edit_law.proofs.TableSetLemmas.{map-append}
use Rattle.model_edit_law.proofs.TablePlaceLemmas.{Chain, from_of, children_of_stand, section_stands, sections_stand}
use Rattle.model_edit_law.proofs.TableFineLemmas.{row_within}

section_length : (nodes : List Open) → length (section_rows nodes) ≡ length nodes
section_length [] = refl
section_length (o ∷ nodes) = ap suc (section_length nodes)

-- `new` is a list without the row of number `gone`, which are `n` items from the position p on.
module _ (items new : List PlainItem) (p n gone : ℕ) where
  abbrev fm : List Open → List Open
  fm nodes = filter_map (node_without p n) nodes

  -- a row that stays, of number i, has its cells still, and above the one that goes their spans are
  -- less where they reached it
  pub record Kept (i : ℕ) (r : TableRow) : Type 0 where
    pub outside : Outside p n r.at
    pub above : i < gone → map (cell_span_at new) (row_cells new (place_without p n r.at)) ≡ map (span_after gone i) (map (cell_span_at items) (row_cells items r.at))
    pub below : gone < i → map (cell_span_at new) (row_cells new (place_without p n r.at)) ≡ map (cell_span_at items) (row_cells items r.at)

  abbrev pub AllKept : ℕ → List TableRow → Type 0
  AllKept i [] = Unit {0}
  AllKept i (r ∷ rows) = ((i ≡ gone → ⊥) → Kept i r) × (i ≡ gone → r.at ≡ p) × AllKept (suc i) rows

  kept_parts : (i next : ℕ) (xs ys : List TableRow) → next ≡ i + length xs → AllKept i (xs ++ ys) → AllKept i xs × AllKept next ys
  kept_parts i next [] ys e h = (tt, (let z : i ≡ next = omega arith in subst (λ k. AllKept k ys) z h))
  kept_parts i next (x ∷ xs) ys e h = let r = kept_parts (suc i) next xs ys (omega arith) h.2 in ((h.0, h.1, r.0), r.1)

  gone_row : (i above : ℕ) (rows : List TableRow) → i + above ≡ gone → above < length rows → AllKept i rows → (r : TableRow) × (slice_get rows above ≡ Some r) × (r.at ≡ p)
  gone_row i above [] e l h = absurd (omega arith)
  gone_row i zero (r ∷ rows) e l h = (r, refl, h.1 (omega arith))
  gone_row i (suc above) (r ∷ rows) e l h = gone_row (suc i) above rows (omega arith) (omega arith) h.2

  module _ (some : 0 < n) where
    stays_one : (o : Open) (i left : ℕ) → ((i ≡ gone → ⊥) → Kept i (record { at = o.from; left = left })) → (i ≡ gone → ⊥) →
        node_without p n o ≡ Some (record { kind = o.kind; from = place_without p n o.from })
    stays_one o i left k other = node_outside p n o (k other).outside

    same_length : (nodes : List Open) (i : ℕ) → (gone < i) ⊎ (i + length nodes ≤ gone) → AllKept i (section_rows nodes) → length (fm nodes) ≡ length nodes
    same_length [] i far h = refl
    same_length (o ∷ nodes) i far h =
        ap (λ r. length (cons_option r (fm nodes))) (stays_one o i (suc (length nodes)) h.0 (not_gone far))
        ∙ ap suc (same_length nodes (suc i) (next far) h.2)
      where
        not_gone : (gone < i) ⊎ (i + suc (length nodes) ≤ gone) → i ≡ gone → ⊥
        not_gone (inl l) e = omega arith
        not_gone (inr l) e = omega arith

        next : (gone < i) ⊎ (i + suc (length nodes) ≤ gone) → (gone < suc i) ⊎ (suc i + length nodes ≤ gone)
        next (inl l) = inl (omega arith)
        next (inr l) = inr (omega arith)

    one_less : (nodes : List Open) (i above : ℕ) → i + above ≡ gone → above < length nodes → AllKept i (section_rows nodes) → length nodes ≡ suc (length (fm nodes))
    one_less [] i above e l h = absurd (omega arith)
    one_less (o ∷ nodes) i zero e l h =
        let z : i ≡ gone = omega arith in
        ap suc (sym (ap (λ r. length (cons_option r (fm nodes))) (node_gone p n o some (h.1 z)) ∙ same_length nodes (suc i) (inl (omega arith)) h.2))
    one_less (o ∷ nodes) i (suc above) e l h =
        ap suc (one_less nodes (suc i) above (omega arith) (omega arith) h.2
        ∙ sym (ap (λ r. length (cons_option r (fm nodes))) (stays_one o i (suc (length nodes)) h.0 (λ z. omega arith))))

    abbrev old_lines : List Open → List Line
    old_lines nodes = map (line_at items) (section_rows nodes)

    abbrev new_lines : List Open → List Line
    new_lines nodes = map (line_at new) (section_rows nodes)

    rows_below : (nodes : List Open) (i : ℕ) → gone < i → AllKept i (section_rows nodes) → new_lines (fm nodes) ≡ old_lines nodes
    rows_below [] i l h = refl
    rows_below (o ∷ nodes) i l h =
        let k = h.0 (λ z. omega arith) in
        ap (λ r. new_lines (cons_option r (fm nodes))) (stays_one o i (suc (length nodes)) h.0 (λ z. omega arith))
        ∙ (λ j. record { left = suc (same_length nodes (suc i) (inl (omega arith)) h.2 j); spans = k.below l j } ∷ rows_below nodes (suc i) (omega arith) h.2 j)

    rows_above : (nodes : List Open) (i above rest next : ℕ) (O N : List Line) → i + above ≡ gone → above ≡ length nodes + rest → next ≡ i + length nodes → AllKept i (section_rows nodes) →
        lines_after gone rest next O ≡ N → lines_after gone above i (old_lines nodes ++ O) ≡ new_lines (fm nodes) ++ N
    rows_above [] i above rest next O N a b c h e = (let y : above ≡ rest = omega arith in let z : i ≡ next = omega arith in (λ j. lines_after gone (y j) (z j) O) ∙ e)
    rows_above (o ∷ nodes) i zero rest next O N a b c h e = absurd (omega arith)
    rows_above (o ∷ nodes) i (suc above) rest next O N a b c h e =
        let k = h.0 (λ z. omega arith) in
        let far : nat_lt gone (i + suc (length nodes)) ≡ false = no_less gone (i + suc (length nodes)) (omega arith) in
        let left : (if nat_lt gone (i + suc (length nodes)) then suc (length nodes) - 1 else suc (length nodes)) ≡ suc (length (fm nodes)) =
        ap (λ t. if t then suc (length nodes) - 1 else suc (length nodes)) far ∙ ap suc (sym (same_length nodes (suc i) (inr (omega arith)) h.2)) in
        (λ j. record { left = left j; spans = sym (k.above (omega arith)) j } ∷ rows_above nodes (suc i) above rest next O N (omega arith) (omega arith) (omega arith) h.2 e j)
        ∙ ap (λ r. new_lines (cons_option r (fm nodes)) ++ N) (sym (stays_one o i (suc (length nodes)) h.0 (λ z. omega arith)))

    rows_round : (nodes : List Open) (i above : ℕ) (O N : List Line) → i + above ≡ gone → above < length nodes → AllKept i (section_rows nodes) → O ≡ N →
        lines_after gone above i (old_lines nodes ++ O) ≡ new_lines (fm nodes) ++ N
    rows_round [] i above O N a l h e = absurd (omega arith)
    rows_round (o ∷ nodes) i zero O N a l h e =
        let z : i ≡ gone = omega arith in
        (λ j. sym (rows_below nodes (suc i) (omega arith) h.2) j ++ e j)
        ∙ ap (λ r. new_lines (cons_option r (fm nodes)) ++ N) (sym (node_gone p n o some (h.1 z)))
    rows_round (o ∷ nodes) i (suc above) O N a l h e =
        let k = h.0 (λ z. omega arith) in
        let near : nat_lt gone (i + suc (length nodes)) ≡ true = lt-ltb gone (i + suc (length nodes)) (omega arith) in
        let y : suc (length nodes) - 1 ≡ length nodes = omega arith in
        let left : (if nat_lt gone (i + suc (length nodes)) then suc (length nodes) - 1 else suc (length nodes)) ≡ suc (length (fm nodes)) =
        ap (λ t. if t then suc (length nodes) - 1 else suc (length nodes)) near ∙ y ∙ one_less nodes (suc i) above (omega arith) (omega arith) h.2 in
        (λ j. record { left = left j; spans = sym (k.above (omega arith)) j } ∷ rows_round nodes (suc i) above O N (omega arith) (omega arith) h.2 e j)
        ∙ ap (λ r. new_lines (cons_option r (fm nodes)) ++ N) (sym (stays_one o i (suc (length nodes)) h.0 (λ z. omega arith)))

    -- now of all sections
    module _ (lawful : Lawful items) (kinds : List Kind) (ends : p + n ≡ end_of_node items p)
        (kids : (at : ℕ) → Outside p n at → children_of (Tr ∷ []) new (place_without p n at) ≡ fm (children_of (Tr ∷ []) items at)) where
      abbrev pub rows_in : List PlainItem → Open → List TableRow
      rows_in list section = section_rows (children_of (Tr ∷ []) list section.from)

      abbrev Sections : (low high : ℕ) → List Open → Type 0
      Sections low high sections = Chain from_of items kinds low high sections

      -- one section and those after it
      section_lines : (section : Open) (sections : List Open) → Outside p n section.from →
          map (line_at new) (flat_map (rows_in new) (fm (section ∷ sections))) ≡ new_lines (fm (children_of (Tr ∷ []) items section.from)) ++ map (line_at new) (flat_map (rows_in new) (fm sections))
      section_lines section sections out =
          ap (λ r. map (line_at new) (flat_map (rows_in new) (cons_option r (fm sections)))) (node_outside p n section out)
          ∙ map-append (line_at new) (rows_in new (record { kind = section.kind; from = place_without p n section.from })) (flat_map (rows_in new) (fm sections))
          ∙ ap (λ v. new_lines v ++ map (line_at new) (flat_map (rows_in new) (fm sections))) (kids section.from out)

      sections_below : (sections : List Open) (i low high : ℕ) → gone < i → p + n ≤ low → Sections low high sections → AllKept i (flat_map (rows_in items) sections) →
          map (line_at new) (flat_map (rows_in new) (fm sections)) ≡ map (line_at items) (flat_map (rows_in items) sections)
      sections_below [] i low high l far c h = refl
      sections_below (section ∷ sections) i low high l far c h =
          let a = c.0 in
          let b = (c.1.2).ahead in
          let rows = rows_in items section in
          let k = kept_parts i (i + length rows) rows (flat_map (rows_in items) sections) refl h in
          section_lines section sections (inr (omega arith))
          ∙ (λ j. rows_below (children_of (Tr ∷ []) items section.from) i l k.0 j
          ++ sections_below sections (i + length rows) (end_of_node items section.from) high (omega arith) (omega arith) c.2 k.1 j)
          ∙ sym (map-append (line_at items) rows (flat_map (rows_in items) sections))

      pub sections_round : (sections : List Open) (i above low high : ℕ) → i + above ≡ gone → above < length (flat_map (rows_in items) sections) → Sections low high sections →
          AllKept i (flat_map (rows_in items) sections) →
          lines_after gone above i (map (line_at items) (flat_map (rows_in items) sections)) ≡ map (line_at new) (flat_map (rows_in new) (fm sections))
      sections_round [] i above low high a l c h = absurd (omega arith)
      sections_round (section ∷ sections) i above low high a l c h =
          by (cases_Bool (nat_lt above (length nodes))) (λ rest s f k. sections_round sections (i + length nodes) rest (end_of_node items section.from) high s f c.2 k)
        where
          nodes : List Open
          nodes = children_of (Tr ∷ []) items section.from

          rows : List TableRow
          rows = rows_in items section

          later : List TableRow
          later = flat_map (rows_in items) sections

          long : length rows ≡ length nodes
          long = section_length nodes

          parts : AllKept i rows × AllKept (i + length nodes) later
          parts = kept_parts i (i + length nodes) rows later (ap (λ m. i + m) (sym long)) h

          by : (nat_lt above (length nodes) ≡ true) ⊎ (nat_lt above (length nodes) ≡ false) →
              ((rest : ℕ) → (i + length nodes) + rest ≡ gone → rest < length later → AllKept (i + length nodes) later →
              lines_after gone rest (i + length nodes) (map (line_at items) later) ≡ map (line_at new) (flat_map (rows_in new) (fm sections))) →
              lines_after gone above i (map (line_at items) (rows ++ later)) ≡ map (line_at new) (flat_map (rows_in new) (fm (section ∷ sections)))
          by (inl t) next =
              let l = ltb-true above (length nodes) t in
              let le : length rows ≡ length nodes = long in
              let g = gone_row i above rows a (omega arith) parts.0 in
              let o = c.1.2 in
              let stand = section_stands items (suc section.from) (partner items section.from) nodes (children_of_stand items (Tr ∷ []) (c.1.0) section.from lawful o) in
              let w = row_within items (Tr ∷ []) (suc section.from) (partner items section.from) rows above g.0 stand g.1 in
              let w0 : suc section.from ≤ p = subst (λ m. suc section.from ≤ m) g.2 w.0 in
              let w1 : end_of_node items p ≤ partner items section.from = subst (λ m. suc (partner items m) ≤ partner items section.from) g.2 w.1 in
              ap (lines_after gone above i) (map-append (line_at items) rows later)
              ∙ rows_round nodes i above (map (line_at items) later) (map (line_at new) (flat_map (rows_in new) (fm sections))) a l parts.0
              (sym (sections_below sections (i + length nodes) (end_of_node items section.from) high (omega arith) (omega arith) c.2 parts.1))
              ∙ sym (section_lines section sections (inl (omega arith)))
          by (inr f) next =
              let l' = ltb-false above (length nodes) f in
              let le : length rows ≡ length nodes = long in
              let both = length-append rows later in
              let rest = above - length nodes in
              let less : rest < length later = omega arith in
              let g = gone_row (i + length nodes) rest later (omega arith) less parts.1 in
              let stand = sections_stand items kinds (end_of_node items section.from) high sections lawful c.2 in
              let w = row_within items (Tr ∷ []) (end_of_node items section.from) high later rest g.0 stand g.1 in
              let w0 : end_of_node items section.from ≤ p = subst (λ m. end_of_node items section.from ≤ m) g.2 w.0 in
              let o = (c.1.2).ahead in
              ap (lines_after gone above i) (map-append (line_at items) rows later)
              ∙ rows_above nodes i above rest (i + length nodes) (map (line_at items) later) (map (line_at new) (flat_map (rows_in new) (fm sections))) a (omega arith) refl parts.0
              (next rest (omega arith) less parts.1)
              ∙ sym (section_lines section sections (inl (omega arith)))
