-- Where the rows and cells of a table stand.
use Rattle.std.specs.Prelude.{slice_get, filter, flat_map, codes, nat_le, ◌*◌, ◌==◌}
use Rattle.model_change.specs.Attributes.{value_of}
use Rattle.std.proofs.Common.{◌≡◌, inl, inr, ℕ, zero, suc, ◌+◌, ◌-◌, ◌≤◌, Bool, true, false, cond, ◌&&◌, if◌then◌else◌, List, [], ◌∷◌, ◌++◌, length, take, Option, Some, None, Result, Ok, Err, refl, sym, ap, ◌∙◌, subst, arith, length-append}
use Rattle.std.proofs.lemmas.Bool.{cases_Bool, and_parts, eqb-false, leb-true}
use Rattle.std.proofs.lemmas.List.{append_assoc}
use Rattle.ve_kinds.specs.declared.kind.Kind.{Kind}
use Rattle.ve_kinds.specs.declared.kind.Kind.TheVariants.{Table, Thead, Tbody, Tfoot, Tr, Td, Th}
use Rattle.ve_base.specs.declared.head.Head.{Head}
use Rattle.ve_base.specs.declared.marks.Mark.{Mark}
use Rattle.model_items.specs.declared.plain_item.PlainItem.{PlainItem}
use Rattle.model_items.specs.declared.plain_item.PlainItem.TheVariants.{Char, Opening, Closing}
use Rattle.ve_kinds.specs.Table.{is_among}
use Rattle.model_items.specs.Law.{Lawful}
use Rattle.model_items.specs.Tree.{Open, length_to_close}
use Rattle.model_edit.specs.Brackets.{is_opening_of}
use Rattle.model_items.specs.Offsets.{partner, end_of_node, siblings, children, passes}
use Rattle.model_edit_law.proofs.BracketLemmas.{node_parts, partner-opening, slice_get-at, slice_get-split}
use Rattle.model_edit.specs.declared.grid_cell.GridCell.{GridCell}
use Rattle.model_edit.specs.Causes.{TableCause, NotTable}
use Rattle.ve_base.specs.Limits.{max_row_span}
use Rattle.model_edit.specs.Grid.{children_of, TableRow, section_rows, table_rows, row_cells, placed_cell, is_crooked, number_after, decimal_number, span_by, span_in, cell_span, with_row, with_rows, Grid, grid_with, grid}

-- a node of the kind begins at the position
pub record Opens (items : List PlainItem) (kind : Kind) (at : ℕ) : Type 0 where
  pub head : Head
  pub marks : List Mark
  pub pre : List ℕ
  pub origin : Option ℕ
  pub generated : Bool
  pub here : slice_get items at ≡ Some (Opening kind head marks pre origin generated)
  pub ahead : suc at ≤ partner items at
  pub within : suc (partner items at) ≤ length items

opens_there : (items : List PlainItem) (kind : Kind) (head : Head) (marks : List Mark) (pre : List ℕ) (origin : Option ℕ) (generated : Bool) (at : ℕ) → Lawful items →
    slice_get items at ≡ Some (Opening kind head marks pre origin generated) → Opens items kind at
opens_there items kind head marks pre origin generated at lawful h =
    let p = node_parts items at kind head marks pre origin generated lawful h in
    let far = p.its_partner in
    record { head = head; marks = marks; pre = pre; origin = origin; generated = generated; here = h; ahead = omega arith; within = p.within }

-- nodes side by side, from one position to another
abbrev pub Kids : List PlainItem → (low high : ℕ) → List Open → Type 0
Kids items low high [] = low ≤ high
Kids items low high (n ∷ nodes) = (low ≤ n.from) × Opens items n.kind n.from × Kids items (end_of_node items n.from) high nodes

-- things that stand at nodes of these kinds, side by side
abbrev pub Chain : {A : Type 0} → (A → ℕ) → List PlainItem → List Kind → (low high : ℕ) → List A → Type 0
Chain f items kinds low high [] = low ≤ high
Chain f items kinds low high (x ∷ xs) =
    (low ≤ f x) × ((kind : Kind) × (is_among kinds kind ≡ true) × Opens items kind (f x)) × Chain f items kinds (end_of_node items (f x)) high xs

snoc-append : (done : List PlainItem) (x : PlainItem) (items : List PlainItem) → (done ++ x ∷ []) ++ items ≡ done ++ x ∷ items
snoc-append done x items = append_assoc done (x ∷ []) items

module _ (whole : List PlainItem) (k : Kind) (pre : List ℕ) (rest : List PlainItem) (high : ℕ) (lawful : Lawful whole) where
  abbrev tail : List PlainItem → List PlainItem
  tail inside = inside ++ Closing k pre ∷ rest

  abbrev low_end : ℕ → ℕ → List PlainItem → ℕ
  low_end zero at inside = at
  low_end (suc d) at inside = at + length_to_close d (tail inside)

  -- as many items are left in the node as the walk at this depth goes on
  abbrev LeftIn : ℕ → List PlainItem → Type 0
  LeftIn depth inside = (other : List PlainItem) → length_to_close depth (inside ++ Closing k pre ∷ other) ≡ suc (length inside)

  Kids-lower : (low low' : ℕ) (nodes : List Open) → low' ≤ low → Kids whole low high nodes → Kids whole low' high nodes
  Kids-lower low low' [] h g = omega arith
  Kids-lower low low' (n ∷ nodes) h g = let a = g.0 in (omega arith, g.1, g.2)

  less : (m n : ℕ) → suc m ≡ suc n → m ≡ n
  less m n e = omega arith

  kids : (inside done : List PlainItem) (depth at : ℕ) → whole ≡ done ++ tail inside → at ≡ length done → high ≡ at + length inside → LeftIn depth inside →
      Kids whole (low_end depth at inside) high (siblings depth at (tail inside))
  kids [] done zero at parts here ends left = omega arith
  kids [] done (suc d) at parts here ends left =
      absurd (let e : suc (suc (length_to_close d [])) ≡ 1 = left (Char 0 [] ∷ []) in omega arith)
  kids (Char c marks ∷ inside) done zero at parts here ends left =
      Kids-lower (suc at) at _ (omega arith)
      (kids inside (done ++ Char c marks ∷ []) zero (suc at) (parts ∙ sym (snoc-append done (Char c marks) (tail inside))) (omega (arith, length-append done (Char c marks ∷ []))) (omega arith) (λ other. less _ _ (left other)))
  kids (Char c marks ∷ inside) done (suc d) at parts here ends left =
      Kids-lower (suc at + length_to_close d (tail inside)) _ _ (omega arith)
      (kids inside (done ++ Char c marks ∷ []) (suc d) (suc at) (parts ∙ sym (snoc-append done (Char c marks) (tail inside))) (omega (arith, length-append done (Char c marks ∷ []))) (omega arith) (λ other. less _ _ (left other)))
  kids (Opening kind head marks pre' origin generated ∷ inside) done (suc d) at parts here ends left =
      let x = Opening kind head marks pre' origin generated in
      Kids-lower (suc at + length_to_close (suc d) (tail inside)) _ _ (omega arith)
      (kids inside (done ++ x ∷ []) (suc (suc d)) (suc at) (parts ∙ sym (snoc-append done x (tail inside))) (omega (arith, length-append done (x ∷ []))) (omega arith) (λ other. less _ _ (left other)))
  kids (Opening kind head marks pre' origin generated ∷ inside) done zero at parts here ends left =
      let x = Opening kind head marks pre' origin generated in
      let far : partner whole at ≡ length done + length_to_close 0 (tail inside) =
      (λ i. partner (parts i) (here i)) ∙ partner-opening done kind head marks pre' origin generated (tail inside) in
      let found : slice_get whole at ≡ Some x = (λ i. slice_get (parts i) (here i)) ∙ slice_get-at done x (tail inside) in (
        omega arith,
        opens_there whole kind head marks pre' origin generated at lawful found,
        Kids-lower (suc at + length_to_close 0 (tail inside)) (end_of_node whole at) _ (omega arith)
            (kids inside (done ++ x ∷ []) 1 (suc at) (parts ∙ sym (snoc-append done x (tail inside))) (omega (arith, length-append done (x ∷ []))) (omega arith) (λ other. less _ _ (left other))),
      )
  kids (Closing kind pre' ∷ inside) done zero at parts here ends left =
      absurd (let e : 1 ≡ suc (suc (length inside)) = left [] in omega arith)
  kids (Closing kind pre' ∷ inside) done (suc zero) at parts here ends left =
      let x = Closing kind pre' in
      Kids-lower (suc at) _ _ (omega arith)
      (kids inside (done ++ x ∷ []) zero (suc at) (parts ∙ sym (snoc-append done x (tail inside))) (omega (arith, length-append done (x ∷ []))) (omega arith) (λ other. less _ _ (left other)))
  kids (Closing kind pre' ∷ inside) done (suc (suc d)) at parts here ends left =
      let x = Closing kind pre' in
      Kids-lower (suc at + length_to_close d (tail inside)) _ _ (omega arith)
      (kids inside (done ++ x ∷ []) (suc d) (suc at) (parts ∙ sym (snoc-append done x (tail inside))) (omega (arith, length-append done (x ∷ []))) (omega arith) (λ other. less _ _ (left other)))

-- the children of a node stand in it, side by side
pub children_stand : (items : List PlainItem) (kind : Kind) (at : ℕ) → Lawful items → Opens items kind at → Kids items (suc at) (partner items at) (children items at)
children_stand items kind at lawful o =
    let x = Opening kind o.head o.marks o.pre o.origin o.generated in
    let p = node_parts items at kind o.head o.marks o.pre o.origin o.generated lawful o.here in
    let c = p.closed in
    let s = slice_get-split items at x o.here in
    let parts : items ≡ (take at items ++ x ∷ []) ++ (c.inside ++ Closing kind c.pre ∷ c.rest) =
    s.0 ∙ ap (λ v. take at items ++ x ∷ v) c.whole ∙ sym (snoc-append (take at items) x (c.inside ++ Closing kind c.pre ∷ c.rest)) in
    let l = s.1 in
    let far = p.its_partner in
    subst (λ v. Kids items (suc at) (partner items at) (siblings 0 (suc at) v)) (sym c.whole)
    (kids items kind c.pre c.rest (partner items at) lawful c.inside (take at items ++ x ∷ []) 0 (suc at) parts (omega (arith, length-append (take at items) (x ∷ []))) (omega arith) c.ends)

module _ {A : Type 0} (f : A → ℕ) (items : List PlainItem) (kinds : List Kind) where
  pub Chain-within : (low low' high high' : ℕ) (xs : List A) → low' ≤ low → high ≤ high' → Chain f items kinds low high xs → Chain f items kinds low' high' xs
  Chain-within low low' high high' [] h g c = omega arith
  Chain-within low low' high high' (x ∷ xs) h g c =
      let a = c.0 in (omega arith, c.1, Chain-within (end_of_node items (f x)) (end_of_node items (f x)) high high' xs (omega arith) g c.2)

  pub Chain-ends : (low high : ℕ) (xs : List A) → Chain f items kinds low high xs → low ≤ high
  Chain-ends low high [] c = c
  Chain-ends low high (x ∷ xs) c =
      let a = c.0 in let b = (c.1.2).ahead in let r = Chain-ends (end_of_node items (f x)) high xs c.2 in omega arith

  pub Chain-append : (low middle high : ℕ) (xs ys : List A) → Chain f items kinds low middle xs → Chain f items kinds middle high ys → Chain f items kinds low high (xs ++ ys)
  Chain-append low middle high [] ys c d = Chain-within middle low high high ys c (omega arith) d
  Chain-append low middle high (x ∷ xs) ys c d = (c.0, c.1, Chain-append (end_of_node items (f x)) middle high xs ys c.2 d)

  pub Chain-filter : (test : A → Bool) (low high : ℕ) (xs : List A) → Chain f items kinds low high xs → Chain f items kinds low high (filter test xs)
  Chain-filter test low high [] c = c
  Chain-filter test low high (x ∷ xs) c =
      let r = Chain-filter test (end_of_node items (f x)) high xs c.2 in
      let a = c.0 in
      let b = (c.1.2).ahead in
      let P : Bool → Type 0 = λ b. Chain f items kinds low high (cond b (x ∷ filter test xs) (filter test xs)) in
      elim (test x) as (λ b. P b) [ true ↦ (c.0, c.1, r) | false ↦ Chain-within (end_of_node items (f x)) low high high (filter test xs) (omega arith) (omega arith) r ]

abbrev pub from_of : Open → ℕ
from_of n = n.from

Chain-kids : (items : List PlainItem) (kinds : List Kind) (low high : ℕ) (nodes : List Open) → Kids items low high nodes →
    Chain from_of items kinds low high (filter (λ (n : Open). is_among kinds n.kind) nodes)
Chain-kids items kinds low high [] h = h
Chain-kids items kinds low high (n ∷ nodes) h =
    let F = filter (λ (n : Open). is_among kinds n.kind) nodes in
    let r = Chain-kids items kinds (end_of_node items n.from) high nodes h.2 in
    let a = h.0 in
    let b = (h.1).ahead in
    let P : Bool → Type 0 = λ b. Chain from_of items kinds low high (cond b (n ∷ F) F) in
    elim (cases_Bool (is_among kinds n.kind)) [
      | inl yes_ ↦ subst P (sym yes_) (h.0, (n.kind, yes_, h.1), r)
      | inr no_ ↦ subst P (sym no_) (Chain-within from_of items kinds (end_of_node items n.from) low high high F (omega arith) (omega arith) r)
    ]

-- the children of some kinds
pub children_of_stand : (items : List PlainItem) (kinds : List Kind) (kind : Kind) (at : ℕ) → Lawful items → Opens items kind at →
    Chain from_of items kinds (suc at) (partner items at) (children_of kinds items at)
children_of_stand items kinds kind at lawful o = Chain-kids items kinds (suc at) (partner items at) (children items at) (children_stand items kind at lawful o)

abbrev pub row_at : TableRow → ℕ
row_at r = r.at

pub section_stands : (items : List PlainItem) (low high : ℕ) (nodes : List Open) → Chain from_of items (Tr ∷ []) low high nodes → Chain row_at items (Tr ∷ []) low high (section_rows nodes)
section_stands items low high [] c = c
section_stands items low high (n ∷ nodes) c = (c.0, c.1, section_stands items (end_of_node items n.from) high nodes c.2)

pub sections_stand : (items : List PlainItem) (kinds : List Kind) (low high : ℕ) (nodes : List Open) → Lawful items → Chain from_of items kinds low high nodes →
    Chain row_at items (Tr ∷ []) low high (flat_map (λ (section : Open). section_rows (children_of (Tr ∷ []) items section.from)) nodes)
sections_stand items kinds low high [] lawful c = c
sections_stand items kinds low high (n ∷ nodes) lawful c =
    let a = c.0 in
    let rows = section_stands items (suc n.from) (partner items n.from) (children_of (Tr ∷ []) items n.from) (children_of_stand items (Tr ∷ []) (c.1.0) n.from lawful (c.1.2)) in
    Chain-append row_at items (Tr ∷ []) low (end_of_node items n.from) high (section_rows (children_of (Tr ∷ []) items n.from)) _
    (Chain-within row_at items (Tr ∷ []) (suc n.from) low (partner items n.from) (end_of_node items n.from) _ (omega arith) (omega arith) rows)
    (sections_stand items kinds (end_of_node items n.from) high nodes lawful c.2)

-- the rows of a table stand in it, one after the other
pub rows_stand : (items : List PlainItem) (at : ℕ) → Lawful items → Opens items Table at → Chain row_at items (Tr ∷ []) (suc at) (partner items at) (table_rows items at)
rows_stand items at lawful o =
    sections_stand items (Thead ∷ Tbody ∷ Tfoot ∷ []) (suc at) (partner items at) (children_of (Thead ∷ Tbody ∷ Tfoot ∷ []) items at) lawful
    (children_of_stand items (Thead ∷ Tbody ∷ Tfoot ∷ []) Table at lawful o)

abbrev pub cell_kinds : List Kind
cell_kinds = Td ∷ Th ∷ []

abbrev pub cell_at : GridCell → ℕ
cell_at c = c.at

-- a cell stands in the row of its number
pub record Home (items : List PlainItem) (rows : List TableRow) (c : GridCell) : Type 0 where
  pub row : TableRow
  pub named : slice_get rows c.row ≡ Some row
  pub low : suc row.at ≤ c.at
  pub high : end_of_node items c.at ≤ partner items row.at
  pub inside : suc c.at ≤ partner items row.at
  pub tall : 1 ≤ c.rows

abbrev pub Homes : List PlainItem → List TableRow → List GridCell → Type 0
Homes items rows [] = Unit {0}
Homes items rows (c ∷ cells) = Home items rows c × Homes items rows cells

Homes-append : (items : List PlainItem) (rows : List TableRow) (xs ys : List GridCell) → Homes items rows xs → Homes items rows ys → Homes items rows (xs ++ ys)
Homes-append items rows [] ys h g = g
Homes-append items rows (x ∷ xs) ys h g = (h.0, Homes-append items rows xs ys h.1 g)

-- cells so far
pub record Cells (items : List PlainItem) (rows : List TableRow) (low high : ℕ) (cells : List GridCell) : Type 0 where
  pub chain : Chain cell_at items cell_kinds low high cells
  pub homes : Homes items rows cells

number_least : (n m : ℕ) (digits : List ℕ) → number_after n digits ≡ Some m → n ≤ m
number_least n m [] h = let e : n ≡ m = cc in omega arith
number_least n m (digit ∷ digits) h =
    elim (cases_Bool (nat_le 48 digit && nat_le digit 57)) [
      | inl yes_ ↦ (let r = number_least (n * 10 + (digit - 48)) m digits (subst (λ b. (if b then number_after (n * 10 + (digit - 48)) digits else None) ≡ Some m) yes_ h) in omega arith)
      | inr no_ ↦ absurd (let e : None ≡ Some m = subst (λ b. (if b then number_after (n * 10 + (digit - 48)) digits else None) ≡ Some m) no_ h in cc)
    ]

-- a number without a leading zero is no zero
number_some : (n : ℕ) (text : List ℕ) → decimal_number text ≡ Some n → 1 ≤ n
number_some n [] h = cc
number_some n (digit ∷ digits) h =
    elim (cases_Bool (digit == 48)) [
      | inl yes_ ↦ absurd (let e : None ≡ Some n = subst (λ b. (if b then None else number_after 0 (digit ∷ digits)) ≡ Some n) yes_ h in cc)
      | inr no_ ↦ by (subst (λ b. (if b then None else number_after 0 (digit ∷ digits)) ≡ Some n) no_ h) (eqb-false digit 48 no_)
    ]
  where
    by : number_after 0 (digit ∷ digits) ≡ Some n → (digit ≡ 48 → ⊥) → 1 ≤ n
    by e apart =
        elim (cases_Bool (nat_le 48 digit && nat_le digit 57)) [
          | inl yes_ ↦
              (let p = and_parts (nat_le 48 digit) _ yes_ in
              let l = leb-true 48 digit p.0 in
              let r = number_least (0 * 10 + (digit - 48)) n digits (subst (λ b. (if b then number_after (0 * 10 + (digit - 48)) digits else None) ≡ Some n) yes_ e) in
              elim (Rattle.std.proofs.lemmas.Bool.cases_eq digit 48) [ inl same ↦ absurd (apart same) | inr other ↦ above l r other ])
          | inr no_ ↦ absurd (let f : None ≡ Some n = subst (λ b. (if b then number_after (0 * 10 + (digit - 48)) digits else None) ≡ Some n) no_ e in cc)
        ]
      where
        above : 48 ≤ digit → 0 * 10 + (digit - 48) ≤ n → (digit ≡ 48 → ⊥) → 1 ≤ n
        above l r other = omega arith

span_least_by : (most : ℕ) (o : Option ℕ) → ((n : ℕ) → o ≡ Some n → 1 ≤ n) → 1 ≤ span_by most o
span_least_by most None h = omega arith
span_least_by most (Some n) h = let p = h n refl in elim (nat_le n most) as (λ b. 1 ≤ (if b then n else 1)) [ true ↦ p | false ↦ omega arith ]

span_least_in : (most : ℕ) (o : Option (List ℕ)) → 1 ≤ span_in most o
span_least_in most None = omega arith
span_least_in most (Some text) = span_least_by most (decimal_number text) (λ n e. number_some n text e)

pub span_least : (name : List ℕ) (most : ℕ) (o : Option PlainItem) → 1 ≤ cell_span name most o
span_least name most None = omega arith
span_least name most (Some (Char c marks)) = omega arith
span_least name most (Some (Closing kind pre)) = omega arith
span_least name most (Some (Opening kind head marks pre origin generated)) = span_least_in most (value_of name head.attrs)

pub if_ok_else : {A E : Type 0} (b : Bool) (e : E) (r : Result A E) (t : A) → (if b then Err e else r) ≡ Ok t → (b ≡ false) × (r ≡ Ok t)
if_ok_else true e r t h = cc
if_ok_else false e r t h = (refl, h)

row_cells_stand : (items : List PlainItem) (rows : List TableRow) (index left end low middle high : ℕ) (row : TableRow) (nodes : List Open) (before cells : List GridCell) →
    slice_get rows index ≡ Some row → suc row.at ≤ middle → high ≤ partner items row.at → Chain from_of items cell_kinds middle high nodes →
    Cells items rows low middle before → with_row items index left end nodes before ≡ Ok cells → Cells items rows low high cells
row_cells_stand items rows index left end low middle high row [] before cells named inside inside' c b h =
    let e : before ≡ cells = cc in
    subst (Cells items rows low high) e (record { chain = Chain-within cell_at items cell_kinds low low middle high before (omega arith) c b.chain; homes = b.homes })
row_cells_stand items rows index left end low middle high row (n ∷ nodes) before cells named inside inside' c b h =
    let one = placed_cell items before index end n in
    let p = if_ok_else (is_crooked left before one) _ _ cells h in
    let next = end_of_node items n.from in
    let a = c.0 in
    let ahead = (c.1.2).ahead in
    let far = Chain-ends from_of items cell_kinds next high nodes c.2 in
    let more : Cells items rows low next (before ++ one ∷ []) = record {
      chain = Chain-append cell_at items cell_kinds low middle next before (one ∷ []) b.chain (c.0, c.1, omega arith);
      homes = Homes-append items rows before (one ∷ []) b.homes (record { row = row; named = named; low = omega arith; high = omega arith; inside = omega arith; tall = span_least (codes "rowspan") max_row_span (slice_get items n.from) }, tt);
    } in
    row_cells_stand items rows index left (one.column + one.columns) low next high row nodes (before ++ one ∷ []) cells named (omega arith) inside' c.2 more p.1

all_cells_stand : (items : List PlainItem) (all rows : List TableRow) (index low middle high : ℕ) (before cells : List GridCell) → Lawful items →
    ((n : ℕ) (row : TableRow) → slice_get rows n ≡ Some row → slice_get all (index + n) ≡ Some row) → Chain row_at items (Tr ∷ []) middle high rows →
    Cells items all low middle before → with_rows items index rows (Ok before) ≡ Ok cells → Cells items all low high cells
all_cells_stand items all [] index low middle high before cells lawful named c b h =
    let e : before ≡ cells = cc in
    subst (Cells items all low high) e (record { chain = Chain-within cell_at items cell_kinds low low middle high before (omega arith) c b.chain; homes = b.homes })
all_cells_stand items all (row ∷ rows) index low middle high before cells lawful named c b h =
    by (λ some more' h.
    all_cells_stand items all rows (suc index) low (end_of_node items row.at) high some cells lawful
    (λ n r e. let y : index + suc n ≡ suc index + n = omega arith in subst (λ m. slice_get all m ≡ Some r) y (named (suc n) r e)) c.2 more' h)
    (with_row items index row.left 0 (row_cells items row.at) before) refl h
  where
    by : ((some : List GridCell) → Cells items all low (end_of_node items row.at) some → with_rows items (suc index) rows (Ok some) ≡ Ok cells → Cells items all low high cells) → (r : Result (List GridCell) TableCause) → with_row items index row.left 0 (row_cells items row.at) before ≡ r → with_rows items (suc index) rows r ≡ Ok cells → Cells items all low high cells
    by next (Err e) g h = cc
    by next (Ok some) g h =
        let o = c.1.2 in
        let a = c.0 in
        let ahead = o.ahead in
        let kids = children_of_stand items cell_kinds (c.1.0) row.at lawful o in
        let z : index + 0 ≡ index = omega arith in
        let here : slice_get all index ≡ Some row = subst (λ n. slice_get all n ≡ Some row) z (named 0 row refl) in
        let before' : Cells items all low (suc row.at) before = record { chain = Chain-within cell_at items cell_kinds low low middle (suc row.at) before (omega arith) (omega arith) b.chain; homes = b.homes } in
        let more = row_cells_stand items all index row.left 0 low (suc row.at) (partner items row.at) row (row_cells items row.at) before some here (omega arith) (omega arith) kids before' g in
        let more' : Cells items all low (end_of_node items row.at) some =
        record { chain = Chain-within cell_at items cell_kinds low low (partner items row.at) (end_of_node items row.at) some (omega arith) (omega arith) more.chain; homes = more.homes } in
        next some more' h

-- a grid's table, rows and cells
pub record Standing (items : List PlainItem) (at : ℕ) (g : Grid) : Type 0 where
  pub table : Opens items Table at
  pub rows : Chain row_at items (Tr ∷ []) (suc at) (partner items at) (table_rows items at)
  pub count : g.rows ≡ length (table_rows items at)
  pub cells : Cells items (table_rows items at) (suc at) (partner items at) g.cells

opens_table : (items : List PlainItem) (at : ℕ) (o : Option PlainItem) → Lawful items → slice_get items at ≡ o → passes (is_opening_of Table) o ≡ true → Opens items Table at
opens_table items at None lawful e h = cc
opens_table items at (Some (Char c marks)) lawful e h = cc
opens_table items at (Some (Closing k pre)) lawful e h = cc
opens_table items at (Some (Opening k head marks pre origin generated)) lawful e h =
    subst (λ v. Opens items v at) (Rattle.model_items.proofs.SameLemmas.Means-kind_same.equal k Table h) (opens_there items k head marks pre origin generated at lawful e)

pub grid_stands : (items : List PlainItem) (at : ℕ) (g : Grid) → Lawful items → grid items at ≡ Ok g → Standing items at g
grid_stands items at g lawful h = choose (passes (is_opening_of Table) (slice_get items at)) refl h
  where
    rows : List TableRow
    rows = table_rows items at

    by : Opens items Table at → (r : Result (List GridCell) TableCause) → with_rows items 0 rows (Ok []) ≡ r → grid_with (length rows) r ≡ Ok g → Standing items at g
    by o (Err e) w h = cc
    by o (Ok cells) w h =
        let e : record { rows = length rows; columns = Rattle.model_edit.specs.Grid.right_end cells; cells = cells } ≡ g = cc in
        let s = rows_stand items at lawful o in
        let c = all_cells_stand items rows rows 0 (suc at) (suc at) (partner items at) [] cells lawful (λ n r e. let z : n ≡ 0 + n = omega arith in subst (λ m. slice_get rows m ≡ Some r) z e) s (record { chain = omega arith; homes = tt }) w in
        subst (Standing items at) e (record { table = o; rows = s; count = refl; cells = c })

    choose : (b : Bool) → passes (is_opening_of Table) (slice_get items at) ≡ b → (if b then grid_with (length rows) (with_rows items 0 rows (Ok [])) else Err (NotTable at)) ≡ Ok g → Standing items at g
    choose false e h = cc
    choose true e h = by (opens_table items at (slice_get items at) lawful refl e) (with_rows items 0 rows (Ok [])) refl h
