-- The insides of a table's cells, read in one walk over the list.
use Rattle.std.specs.Prelude.{slice_get, filter, flat_map}
use Rattle.std.proofs.Common.{◌≡◌, ℕ, zero, suc, ◌+◌, ◌-◌, Bool, true, false, cond, if◌then◌else◌, List, [], ◌∷◌, ◌++◌, take, drop, Option, Some, refl, sym, ap, ◌∙◌, arith}
use Rattle.std.proofs.lemmas.Grind.{flat_map-append}
use Rattle.std.proofs.lemmas.List.{append_assoc}
use Rattle.ve_kinds.specs.declared.kind.Kind.{Kind}
use Rattle.ve_kinds.specs.declared.kind.Kind.TheVariants.{Thead, Tbody, Tfoot, Tr, Td, Th}
use Rattle.ve_kinds.specs.Table.{is_among}
use Rattle.ve_base.specs.declared.head.Head.{Head}
use Rattle.ve_base.specs.declared.marks.Mark.{Mark}
use Rattle.model_items.specs.declared.plain_item.PlainItem.{PlainItem}
use Rattle.model_items.specs.declared.plain_item.PlainItem.TheVariants.{Char, Opening, Closing}
use Rattle.model_items.specs.Tree.{Open, length_to_close}
use Rattle.model_items.specs.Offsets.{partner, partner_of, siblings}
use Rattle.model_edit.specs.Grid.{TableRow, children_of, section_rows, table_rows, row_cells}
use Rattle.model_table_law.specs.Cells.{inside}

-- what a walk is in: the table, one of its sections, or one of their rows
pub data Level : Type 0 where
  InTable : Level
  InSection : Level
  InRow : Level

-- the kinds that it enters or, in a row, reads
abbrev pub entered : Level → List Kind
entered InTable = Thead ∷ Tbody ∷ Tfoot ∷ []
entered InSection = Tr ∷ []
entered InRow = Td ∷ Th ∷ []

-- what stands in a node, of the items after its opening
abbrev pub node_inside : List PlainItem → List PlainItem
node_inside items = take (length_to_close 0 items - 1) items

-- the insides of the cells that the items open, where `depth` nodes of other kinds are open
abbrev pub read : ℕ → Level → List PlainItem → List (List PlainItem)
read depth level [] = []
read depth level (Char c marks ∷ items) = read depth level items
read (suc depth) level (Opening kind head marks pre origin generated ∷ items) = read (suc (suc depth)) level items
read (suc depth) level (Closing kind pre ∷ items) = read depth level items
read zero InTable (Opening kind head marks pre origin generated ∷ items) =
    if is_among (entered InTable) kind then read 0 InSection items else read 1 InTable items
read zero InSection (Opening kind head marks pre origin generated ∷ items) =
    if is_among (entered InSection) kind then read 0 InRow items else read 1 InSection items
read zero InRow (Opening kind head marks pre origin generated ∷ items) =
    if is_among (entered InRow) kind then node_inside items ∷ read 1 InRow items else read 1 InRow items
read zero InTable (Closing kind pre ∷ items) = []
read zero InSection (Closing kind pre ∷ items) = read 0 InTable items
read zero InRow (Closing kind pre ∷ items) = read 0 InSection items

-- a node that begins: its kind, and all items after its opening
pub record Begun : Type 0 where
  pub kind : Kind
  pub later : List PlainItem

-- as `siblings`
abbrev pub begun : ℕ → List PlainItem → List Begun
begun depth [] = []
begun depth (Char c marks ∷ items) = begun depth items
begun zero (Opening kind head marks pre origin generated ∷ items) = record { kind = kind; later = items } ∷ begun 1 items
begun (suc depth) (Opening kind head marks pre origin generated ∷ items) = begun (suc (suc depth)) items
begun zero (Closing kind pre ∷ items) = []
begun (suc depth) (Closing kind pre ∷ items) = begun depth items

abbrev pub of_level : Level → List Begun → List Begun
of_level level nodes = filter (λ (b : Begun). is_among (entered level) b.kind) nodes

abbrev pub cells_of : List Begun → List (List PlainItem)
cells_of nodes = flat_map (λ (b : Begun). node_inside b.later ∷ []) (of_level InRow nodes)

abbrev pub rows_of : List Begun → List (List PlainItem)
rows_of nodes = flat_map (λ (b : Begun). cells_of (begun 0 b.later)) (of_level InSection nodes)

abbrev pub sections_of : List Begun → List (List PlainItem)
sections_of nodes = flat_map (λ (b : Begun). rows_of (begun 0 b.later)) (of_level InTable nodes)

-- what a walk reads is what the nodes have that it is in, from the inside out
abbrev spelled : ℕ → Level → List PlainItem → List (List PlainItem)
spelled depth InTable items = sections_of (begun depth items)
spelled depth InSection items = rows_of (begun depth items) ++ sections_of (begun (suc depth) items)
spelled depth InRow items = cells_of (begun depth items) ++ (rows_of (begun (suc depth) items) ++ sections_of (begun (suc (suc depth)) items))

of_first : (level : Level) (b : Begun) (nodes : List Begun) (f : Begun → List (List PlainItem)) →
    flat_map f (of_level level (b ∷ nodes)) ≡ (if is_among (entered level) b.kind then f b ++ flat_map f (of_level level nodes) else flat_map f (of_level level nodes))
of_first level b nodes f = by (is_among (entered level) b.kind)
  where
    by : (t : Bool) → flat_map f (cond t (b ∷ of_level level nodes) (of_level level nodes))
        ≡ (if t then f b ++ flat_map f (of_level level nodes) else flat_map f (of_level level nodes))
    by true = refl
    by false = refl

pub read-spelled : (depth : ℕ) (level : Level) (items : List PlainItem) → read depth level items ≡ spelled depth level items
read-spelled depth InTable [] = refl
read-spelled depth InSection [] = refl
read-spelled depth InRow [] = refl
read-spelled depth InTable (Char c marks ∷ items) = read-spelled depth InTable items
read-spelled depth InSection (Char c marks ∷ items) = read-spelled depth InSection items
read-spelled depth InRow (Char c marks ∷ items) = read-spelled depth InRow items
read-spelled (suc depth) InTable (Opening kind head marks pre origin generated ∷ items) = read-spelled (suc (suc depth)) InTable items
read-spelled (suc depth) InSection (Opening kind head marks pre origin generated ∷ items) = read-spelled (suc (suc depth)) InSection items
read-spelled (suc depth) InRow (Opening kind head marks pre origin generated ∷ items) = read-spelled (suc (suc depth)) InRow items
read-spelled (suc depth) InTable (Closing kind pre ∷ items) = read-spelled depth InTable items
read-spelled (suc depth) InSection (Closing kind pre ∷ items) = read-spelled depth InSection items
read-spelled (suc depth) InRow (Closing kind pre ∷ items) = read-spelled depth InRow items
read-spelled zero InTable (Closing kind pre ∷ items) = refl
read-spelled zero InSection (Closing kind pre ∷ items) = read-spelled 0 InTable items
read-spelled zero InRow (Closing kind pre ∷ items) = read-spelled 0 InSection items
read-spelled zero InTable (Opening kind head marks pre origin generated ∷ items) =
    (λ i. if is_among (entered InTable) kind then read-spelled 0 InSection items i else read-spelled 1 InTable items i)
    ∙ sym (of_first InTable (record { kind = kind; later = items }) (begun 1 items) (λ (b : Begun). rows_of (begun 0 b.later)))
read-spelled zero InSection (Opening kind head marks pre origin generated ∷ items) =
    (λ i. if is_among (entered InSection) kind then read-spelled 0 InRow items i else read-spelled 1 InSection items i)
    ∙ by (is_among (entered InSection) kind)
    ∙ ap (λ v. v ++ sections_of (begun 2 items)) (sym (of_first InSection (record { kind = kind; later = items }) (begun 1 items)
    (λ (b : Begun). cells_of (begun 0 b.later))))
  where
    by : (t : Bool) → (if t then spelled 0 InRow items else spelled 1 InSection items)
        ≡ (if t then cells_of (begun 0 items) ++ rows_of (begun 1 items) else rows_of (begun 1 items)) ++ sections_of (begun 2 items)
    by true = sym (append_assoc (cells_of (begun 0 items)) (rows_of (begun 1 items)) (sections_of (begun 2 items)))
    by false = refl
read-spelled zero InRow (Opening kind head marks pre origin generated ∷ items) =
    (λ i. if is_among (entered InRow) kind then node_inside items ∷ read-spelled 1 InRow items i else read-spelled 1 InRow items i)
    ∙ by (is_among (entered InRow) kind)
    ∙ ap (λ v. v ++ (rows_of (begun 2 items) ++ sections_of (begun 3 items)))
    (sym (of_first InRow (record { kind = kind; later = items }) (begun 1 items) (λ (b : Begun). node_inside b.later ∷ [])))
  where
    by : (t : Bool) → (if t then node_inside items ∷ spelled 1 InRow items else spelled 1 InRow items)
        ≡ (if t then (node_inside items ∷ []) ++ cells_of (begun 1 items) else cells_of (begun 1 items)) ++ (rows_of (begun 2 items) ++ sections_of (begun 3 items))
    by true = refl
    by false = refl

-- a list from a position on, one item further
pub drop_next : (at : ℕ) (items : List PlainItem) (x : PlainItem) (rest : List PlainItem) → drop at items ≡ x ∷ rest → drop (suc at) items ≡ rest
drop_next zero items x rest e = ap (drop 1) e
drop_next (suc at) [] x rest e = cc
drop_next (suc at) (y ∷ items) x rest e = drop_next at items x rest e

pub get_first : (at : ℕ) (items : List PlainItem) (x : PlainItem) (rest : List PlainItem) → drop at items ≡ x ∷ rest → slice_get items at ≡ Some x
get_first zero [] x rest e = cc
get_first zero (y ∷ items) x rest e = let z : y ≡ x = cc in ap Some z
get_first (suc at) [] x rest e = cc
get_first (suc at) (y ∷ items) x rest e = get_first at items x rest e

-- what is read of the nodes by their positions is what is read of them as they begin
nodes_alike : (whole : List PlainItem) (level : Level) (f : Open → List (List PlainItem)) (h : Begun → List (List PlainItem)) →
    ((at : ℕ) (kind : Kind) (head : Head) (marks : List Mark) (pre : List ℕ) (origin : Option ℕ) (generated : Bool) (later : List PlainItem) →
    drop at whole ≡ Opening kind head marks pre origin generated ∷ later → f (record { kind = kind; from = at }) ≡ h (record { kind = kind; later = later })) →
    (depth at : ℕ) (items : List PlainItem) → drop at whole ≡ items →
    flat_map f (filter (λ (o : Open). is_among (entered level) o.kind) (siblings depth at items)) ≡ flat_map h (of_level level (begun depth items))
nodes_alike whole level f h same depth at [] e = refl
nodes_alike whole level f h same depth at (Char c marks ∷ items) e =
    nodes_alike whole level f h same depth (suc at) items (drop_next at whole (Char c marks) items e)
nodes_alike whole level f h same (suc depth) at (Opening kind head marks pre origin generated ∷ items) e =
    nodes_alike whole level f h same (suc (suc depth)) (suc at) items (drop_next at whole (Opening kind head marks pre origin generated) items e)
nodes_alike whole level f h same (suc depth) at (Closing kind pre ∷ items) e =
    nodes_alike whole level f h same depth (suc at) items (drop_next at whole (Closing kind pre) items e)
nodes_alike whole level f h same zero at (Closing kind pre ∷ items) e = refl
nodes_alike whole level f h same zero at (Opening kind head marks pre origin generated ∷ items) e =
    by (is_among (entered level) kind) (same at kind head marks pre origin generated items e)
    (nodes_alike whole level f h same 1 (suc at) items (drop_next at whole (Opening kind head marks pre origin generated) items e))
  where
    F : List Open
    F = filter (λ (o : Open). is_among (entered level) o.kind) (siblings 1 (suc at) items)

    by : (t : Bool) → f (record { kind = kind; from = at }) ≡ h (record { kind = kind; later = items }) →
        flat_map f F ≡ flat_map h (of_level level (begun 1 items)) →
        flat_map f (cond t (record { kind = kind; from = at } ∷ F) F) ≡ flat_map h
        (cond t (record { kind = kind; later = items } ∷ of_level level (begun 1 items)) (of_level level (begun 1 items)))
    by true one rest = (λ i. one i ++ rest i)
    by false one rest = rest

-- the insides of the cells, by rows
abbrev pub row_insides : List PlainItem → ℕ → List (List PlainItem)
row_insides items at = flat_map (λ (n : Open). inside items n.from ∷ []) (row_cells items at)

abbrev pub insides : List PlainItem → ℕ → List (List PlainItem)
insides items at = flat_map (λ (r : TableRow). row_insides items r.at) (table_rows items at)

rows_by_nodes : (items : List PlainItem) (nodes : List Open) →
    flat_map (λ (r : TableRow). row_insides items r.at) (section_rows nodes) ≡ flat_map (λ (n : Open). row_insides items n.from) nodes
rows_by_nodes items [] = refl
rows_by_nodes items (n ∷ nodes) = ap (λ v. row_insides items n.from ++ v) (rows_by_nodes items nodes)

rows_by_sections : (items : List PlainItem) (sections : List Open) →
    flat_map (λ (r : TableRow). row_insides items r.at) (flat_map (λ (section : Open). section_rows (children_of (Tr ∷ []) items section.from)) sections)
    ≡ flat_map (λ (section : Open). flat_map (λ (n : Open). row_insides items n.from) (children_of (Tr ∷ []) items section.from)) sections
rows_by_sections items [] = refl
rows_by_sections items (section ∷ sections) =
    flat_map-append (λ (r : TableRow). row_insides items r.at) (section_rows (children_of (Tr ∷ []) items section.from)) _
    ∙ (λ i. rows_by_nodes items (children_of (Tr ∷ []) items section.from) i ++ rows_by_sections items sections i)

module _ (items : List PlainItem) where
  inside_read : (at : ℕ) (kind : Kind) (head : Head) (marks : List Mark) (pre : List ℕ) (origin : Option ℕ) (generated : Bool) (later : List PlainItem) →
      drop at items ≡ Opening kind head marks pre origin generated ∷ later → inside items at ∷ [] ≡ node_inside later ∷ []
  inside_read at kind head marks pre origin generated later e =
      let x = Opening kind head marks pre origin generated in
      let rest = drop_next at items x later e in
      let far : partner items at ≡ at + length_to_close 0 later = ap (λ o. partner_of o items at) (get_first at items x later e)
      ∙ ap (λ v. at + length_to_close 0 v) rest in
      let z : (at + length_to_close 0 later) - suc at ≡ length_to_close 0 later - 1 = omega arith in
      ap (λ v. v ∷ []) ((λ i. take (far i - suc at) (rest i)) ∙ ap (λ n. take n later) z)

  row_read : (at : ℕ) (kind : Kind) (head : Head) (marks : List Mark) (pre : List ℕ) (origin : Option ℕ) (generated : Bool) (later : List PlainItem) →
      drop at items ≡ Opening kind head marks pre origin generated ∷ later → row_insides items at ≡ cells_of (begun 0 later)
  row_read at kind head marks pre origin generated later e =
      let rest = drop_next at items (Opening kind head marks pre origin generated) later e in
      nodes_alike items InRow (λ (n : Open). inside items n.from ∷ []) (λ (b : Begun). node_inside b.later ∷ []) inside_read 0 (suc at) (drop (suc at) items) refl
      ∙ ap (λ v. cells_of (begun 0 v)) rest

  section_read : (at : ℕ) (kind : Kind) (head : Head) (marks : List Mark) (pre : List ℕ) (origin : Option ℕ) (generated : Bool) (later : List PlainItem) →
      drop at items ≡ Opening kind head marks pre origin generated ∷ later → flat_map (λ (n : Open). row_insides items n.from)
      (children_of (Tr ∷ []) items at) ≡ rows_of (begun 0 later)
  section_read at kind head marks pre origin generated later e =
      let rest = drop_next at items (Opening kind head marks pre origin generated) later e in
      nodes_alike items InSection (λ (n : Open). row_insides items n.from) (λ (b : Begun). cells_of (begun 0 b.later)) row_read 0 (suc at) (drop (suc at) items) refl
      ∙ ap (λ v. rows_of (begun 0 v)) rest

  -- The insides are what the walk reads that begins in the table.
  pub insides-read : (at : ℕ) → insides items at ≡ read 0 InTable (drop (suc at) items)
  insides-read at =
      rows_by_sections items (children_of (Thead ∷ Tbody ∷ Tfoot ∷ []) items at)
      ∙ nodes_alike items InTable (λ (s : Open). flat_map (λ (n : Open). row_insides items n.from) (children_of (Tr ∷ []) items s.from))
      (λ (b : Begun). rows_of (begun 0 b.later)) section_read 0 (suc at) (drop (suc at) items) refl
      ∙ sym (read-spelled 0 InTable (drop (suc at) items))
