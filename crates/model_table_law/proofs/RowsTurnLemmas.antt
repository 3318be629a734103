-- Rows of which each cell stays, goes or has an attribute set.
use Rattle.std.specs.Prelude.{filter, flat_map}
use Rattle.std.proofs.Common.{◌≡◌, ℕ, suc, ◌+◌, ◌-◌, Bool, true, false, cond, if◌then◌else◌, List, [], ◌∷◌, ◌++◌, length, map, Option, refl, sym, ap, ◌∙◌, subst, arith, length-append}
use Rattle.std.proofs.lemmas.Grind.{flat_map-append}
use Rattle.ve_kinds.specs.declared.kind.Kind.{Kind}
use Rattle.ve_kinds.specs.declared.kind.Kind.TheVariants.{Tr}
use Rattle.ve_kinds.specs.Table.{is_among}
use Rattle.model_items.specs.declared.plain_item.PlainItem.{PlainItem}
use Rattle.model_items.specs.declared.plain_item.PlainItem.TheVariants.{Opening, Closing}
use Rattle.model_items.specs.Law.{Lawful}
use Rattle.model_items.specs.Tree.{Open}
use Rattle.model_items.specs.Offsets.{partner, end_of_node}
use Rattle.model_edit.specs.Edits.{Edit, Set}
use Rattle.model_edit.specs.declared.grid_cell.GridCell.{GridCell}
use Rattle.model_edit.specs.Grid.{TableRow, row_cells}
use Rattle.model_edit.specs.Tables.{whole_node}
use Rattle.model_edit_law.proofs.TablePlaceLemmas.{Opens, Chain, from_of, row_at, cell_kinds, children_of_stand}
use Rattle.model_edit_law.proofs.CellRowLemmas.{Pairs}
use Rattle.model_table_law.specs.Cells.{inside}
use Rattle.model_table_law.proofs.ReadLemmas.{Level, InSection, InRow}
use Rattle.model_table_law.proofs.PieceLemmas.{Turned, Turned-kept, Turned-out, Turned-set, Walk-cell, closed_by}
use Rattle.model_table_law.proofs.NodeTurnLemmas.{piece, lawful_node, node_partner, node_piece, node_inside_is, AllTurned, turned_row}
use Rattle.model_table_law.proofs.FilledLemmas.{ByRows, cell_insides}

-- those that a test picks, as edits of each cell
pub picked : {A B : Type 0} (test : A → Bool) (f : A → B) (xs : List A) → map f (filter test xs) ≡ flat_map (λ x. if test x then f x ∷ [] else []) xs
picked test f [] = refl
picked test f (x ∷ xs) = by (test x) (picked test f xs)
  where
    by : (b : Bool) → map f (filter test xs) ≡ flat_map (λ y. if test y then f y ∷ [] else []) xs →
        map f (cond b (x ∷ filter test xs) (filter test xs)) ≡ (if b then f x ∷ [] else []) ++ flat_map (λ y. if test y then f y ∷ [] else []) xs
    by true e = ap (λ v. f x ∷ v) e
    by false e = e

pub insides_each : (items : List PlainItem) (cells : List GridCell) → cell_insides items cells ≡ flat_map (λ (c : GridCell). inside items c.at ∷ []) cells
insides_each items [] = refl
insides_each items (c ∷ cells) = ap (λ v. inside items c.at ∷ v) (insides_each items cells)

module _ (items : List PlainItem) (lawful : Lawful items) where
  pub cell_kept : (kind : Kind) (at : ℕ) → is_among cell_kinds kind ≡ true → Opens items kind at →
      Turned InRow InRow at (piece items at) [] (inside items at ∷ [])
  cell_kept kind at t o =
      let n = lawful_node items kind at lawful o in
      let x = Opening kind n.head n.marks n.pre n.origin n.generated in
      subst (λ v. Turned InRow InRow at v [] (inside items at ∷ [])) (sym (node_piece n))
      (subst (λ v. Turned InRow InRow at (x ∷ closed_by n.closing n.white n.within) [] (v ∷ [])) (sym (node_inside_is n))
      (Turned-kept at (x ∷ closed_by n.closing n.white n.within) (n.within ∷ [])
      (Walk-cell kind n.head n.marks n.pre n.origin n.generated n.closing n.white n.within t n.ends)))

  pub cell_set : (kind : Kind) (at : ℕ) (name : List ℕ) (to : Option (List ℕ)) → is_among cell_kinds kind ≡ true → Opens items kind at →
      Turned InRow InRow at (piece items at) (Set at name to ∷ []) (inside items at ∷ [])
  cell_set kind at name to t o =
      let n = lawful_node items kind at lawful o in
      let x = Opening kind n.head n.marks n.pre n.origin n.generated in
      subst (λ v. Turned InRow InRow at v (Set at name to ∷ []) (inside items at ∷ [])) (sym (node_piece n))
      (subst (λ v. Turned InRow InRow at (x ∷ closed_by n.closing n.white n.within) (Set at name to ∷ []) (v ∷ [])) (sym (node_inside_is n))
      (Turned-set at kind n.head n.marks n.pre n.origin n.generated (closed_by n.closing n.white n.within) name to (n.within ∷ [])
      (λ head. Walk-cell kind head n.marks n.pre n.origin n.generated n.closing n.white n.within t n.ends)))

  pub node_long : (kind : Kind) (at : ℕ) → Opens items kind at → at + length (piece items at) ≡ end_of_node items at
  node_long kind at o =
      let n = lawful_node items kind at lawful o in
      let far = node_partner n in
      omega (arith, ap length (node_piece n), length-append n.within (Closing n.closing n.white ∷ []))

  pub node_gone : (level : Level) (kind : Kind) (at : ℕ) → Opens items kind at → Turned level level at (piece items at) (whole_node items at ∷ []) []
  node_gone level kind at o =
      let long = node_long kind at o in
      Turned-out at (end_of_node items at - at) (piece items at) (omega arith)

  -- The edits of each cell, and what is read of it, where they depend on the cell alone.
  module _ (own : GridCell → List Edit) (out : GridCell → List (List PlainItem))
      (each : (c : GridCell) (kind : Kind) → is_among cell_kinds kind ≡ true → Opens items kind c.at → Turned InRow InRow c.at (piece items c.at) (own c) (out c)) where
    pub cells_turned : (cells : List GridCell) (nodes : List Open) (low high : ℕ) → Pairs items cells nodes →
        Chain from_of items cell_kinds low high nodes → AllTurned from_of items InRow nodes (flat_map own cells) (flat_map out cells)
    cells_turned [] [] low high p c = (refl, refl)
    cells_turned [] (n ∷ nodes) low high p c = absurd p
    cells_turned (x ∷ cells) [] low high p c = absurd p
    cells_turned (x ∷ cells) (n ∷ nodes) low high p c = (
      own x,
      flat_map own cells,
      out x,
      flat_map out cells,
      refl,
      refl,
      subst (λ k. Turned InRow InRow k (piece items k) (own x) (out x)) p.0 (each x c.1.0 c.1.1 (subst (Opens items c.1.0) (sym p.0) c.1.2)),
      cells_turned cells nodes (end_of_node items n.from) high p.3 c.2,
    )

    pub row_turned : (cells : List GridCell) (kind : Kind) (at : ℕ) → Opens items kind at → is_among (Tr ∷ []) kind ≡ true →
        Pairs items cells (row_cells items at) →
        Turned InSection InSection at (piece items at) (flat_map own cells) (flat_map out cells)
    row_turned cells kind at o t p =
        turned_row items kind at (lawful_node items kind at lawful o) (flat_map own cells) (flat_map out cells) t
        (cells_turned cells (row_cells items at) (suc at) (partner items at) p (children_of_stand items cell_kinds kind at lawful o))

    pub rows_turned : (rows : List TableRow) (index low high : ℕ) (cells : List GridCell) → Chain row_at items (Tr ∷ []) low high rows →
        ByRows items index rows cells →
        AllTurned row_at items InSection rows (flat_map own cells) (flat_map out cells)
    rows_turned [] index low high cells c b = (ap (flat_map own) b, ap (flat_map out) b)
    rows_turned (r ∷ rows) index low high cells c b = (
      flat_map own b.0,
      flat_map own b.1,
      flat_map out b.0,
      flat_map out b.1,
      ap (flat_map own) b.2 ∙ flat_map-append own b.0 b.1,
      ap (flat_map out) b.2 ∙ flat_map-append out b.0 b.1,
      row_turned b.0 c.1.0 r.at c.1.2 c.1.1 b.4,
      rows_turned rows (suc index) (end_of_node items r.at) high b.1 c.2 b.5,
    )

  -- an attribute set at some of the cells
  module _ (name : List ℕ) (to : GridCell → Option (List ℕ)) (test : GridCell → Bool) where
    abbrev pub set_picked : List GridCell → List Edit
    set_picked cells = map (λ (c : GridCell). Set c.at name (to c)) (filter test cells)

    each_set : (c : GridCell) (kind : Kind) → is_among cell_kinds kind ≡ true → Opens items kind c.at →
        Turned InRow InRow c.at (piece items c.at) (if test c then Set c.at name (to c) ∷ [] else []) (inside items c.at ∷ [])
    each_set c kind t o = by (test c)
      where
        by : (b : Bool) → Turned InRow InRow c.at (piece items c.at) (if b then Set c.at name (to c) ∷ [] else []) (inside items c.at ∷ [])
        by true = cell_set kind c.at name (to c) t o
        by false = cell_kept kind c.at t o

    pub row_set : (cells : List GridCell) (kind : Kind) (at : ℕ) → Opens items kind at → is_among (Tr ∷ []) kind ≡ true →
        Pairs items cells (row_cells items at) →
        Turned InSection InSection at (piece items at) (set_picked cells) (cell_insides items cells)
    row_set cells kind at o t p =
        subst (λ v. Turned InSection InSection at (piece items at) v (cell_insides items cells)) (sym (picked test (λ (c : GridCell). Set c.at name (to c)) cells))
        (subst (λ v. Turned InSection InSection at (piece items at)
        (flat_map (λ (c : GridCell). if test c then Set c.at name (to c) ∷ [] else []) cells) v) (sym (insides_each items cells))
        (row_turned (λ (c : GridCell). if test c then Set c.at name (to c) ∷ [] else []) (λ (c : GridCell). inside items c.at ∷ []) each_set cells kind at o t p))

  nothing : (cells : List GridCell) → flat_map {A = Edit} (λ (d : GridCell). []) cells ≡ []
  nothing [] = refl
  nothing (d ∷ cells) = nothing cells

  -- cells and rows without edits
  pub cells_kept : (cells : List GridCell) (nodes : List Open) (low high : ℕ) → Pairs items cells nodes → Chain from_of items cell_kinds low high nodes →
      AllTurned from_of items InRow nodes [] (cell_insides items cells)
  cells_kept cells nodes low high p c =
      subst (λ v. AllTurned from_of items InRow nodes v (cell_insides items cells)) (nothing cells)
      (subst (λ v. AllTurned from_of items InRow nodes (flat_map (λ (d : GridCell). []) cells) v) (sym (insides_each items cells))
      (cells_turned (λ (d : GridCell). []) (λ (d : GridCell). inside items d.at ∷ []) (λ d kind t o. cell_kept kind d.at t o) cells nodes low high p c))

  pub row_kept : (cells : List GridCell) (kind : Kind) (at : ℕ) → Opens items kind at → is_among (Tr ∷ []) kind ≡ true →
      Pairs items cells (row_cells items at) →
      Turned InSection InSection at (piece items at) [] (cell_insides items cells)
  row_kept cells kind at o t p =
      subst (λ v. Turned InSection InSection at (piece items at) v (cell_insides items cells)) (nothing cells)
      (subst (λ v. Turned InSection InSection at (piece items at) (flat_map (λ (c : GridCell). []) cells) v) (sym (insides_each items cells))
      (row_turned (λ (c : GridCell). []) (λ (c : GridCell). inside items c.at ∷ []) (λ d kind t o. cell_kept kind d.at t o) cells kind at o t p))

  pub rows_kept : (rows : List TableRow) (index low high : ℕ) (cells : List GridCell) → Chain row_at items (Tr ∷ []) low high rows →
      ByRows items index rows cells →
      AllTurned row_at items InSection rows [] (cell_insides items cells)
  rows_kept rows index low high cells c b =
      subst (λ v. AllTurned row_at items InSection rows v (cell_insides items cells)) (nothing cells)
      (subst (λ v. AllTurned row_at items InSection rows (flat_map (λ (c : GridCell). []) cells) v) (sym (insides_each items cells))
      (rows_turned (λ (c : GridCell). []) (λ (c : GridCell). inside items c.at ∷ []) (λ d kind t o. cell_kept kind d.at t o) rows index low high cells c b))
