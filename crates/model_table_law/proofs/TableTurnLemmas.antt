-- A table's insides under an edit, from what becomes of each of its rows.
use Rattle.std.specs.Prelude.{flat_map}
use Rattle.std.proofs.Common.{◌≡◌, ℕ, suc, ◌+◌, ◌≤◌, List, [], ◌∷◌, ◌++◌, length, take, drop, refl, sym, ap, ◌∙◌, subst, arith, append-nil}
use Rattle.std.proofs.lemmas.List.{append_assoc, take-append-drop, length-take-le}
use Rattle.std.proofs.Math.Seq.{drop-append-add}
use Rattle.ve_kinds.specs.declared.kind.Kind.TheVariants.{Table, Tr}
use Rattle.model_items.specs.declared.plain_item.PlainItem.{PlainItem}
use Rattle.model_items.specs.declared.plain_item.PlainItem.TheVariants.{Opening, Closing}
use Rattle.model_items.specs.Law.{Lawful}
use Rattle.model_items.specs.Tree.{Open}
use Rattle.model_items.specs.Offsets.{partner, end_of_node}
use Rattle.model_change.specs.Transaction.{edited}
use Rattle.model_edit.specs.Edits.{Edit, transaction_of, substituted_from, InOrder}
use Rattle.model_edit.specs.Grid.{children_of, section_rows, table_rows}
use Rattle.model_edit_law.proofs.EditLemmas.{edited-transaction_from}
use Rattle.model_edit_law.proofs.TableFineLemmas.{InOrder-within}
use Rattle.model_edit_law.proofs.TablePlaceLemmas.{Opens, Chain, from_of, row_at, children_of_stand}
use Rattle.model_table_law.proofs.ReadLemmas.{Level, InTable, InSection, entered, read, insides, insides-read, drop_next}
use Rattle.model_table_law.proofs.PieceLemmas.{Turned, skip}
use Rattle.model_table_law.proofs.NodeTurnLemmas.{Node, lawful_node, node_partner, AllTurned, turned_inside, turned_section}

by_nodes : (items : List PlainItem) (level : Level) (nodes : List Open) (edits : List Edit) (out : List (List PlainItem)) →
    AllTurned row_at items level (section_rows nodes) edits out → AllTurned from_of items level nodes edits out
by_nodes items level [] edits out all = all
by_nodes items level (n ∷ nodes) edits out all = (all.0, all.1, all.2, all.3, all.4, all.5, all.6, by_nodes items level nodes all.1 all.3 all.7)

-- those of the first things, and of the others
all_parts : {A : Type 0} (f : A → ℕ) (items : List PlainItem) (level : Level) (xs ys : List A) (edits : List Edit) (out : List (List PlainItem)) →
    AllTurned f items level (xs ++ ys) edits out →
    (own : List Edit) × (more : List Edit) × (first : List (List PlainItem)) × (later : List (List PlainItem))
    × (edits ≡ own ++ more) × (out ≡ first ++ later) × AllTurned f items level xs own first × AllTurned f items level ys more later
all_parts f items level [] ys edits out all = ([], edits, [], out, refl, refl, (refl, refl), all)
all_parts f items level (x ∷ xs) ys edits out all =
    let r = all_parts f items level xs ys all.1 all.3 all.7 in (
      all.0 ++ r.0,
      r.1,
      all.2 ++ r.2,
      r.3,
      all.4 ∙ ap (λ v. all.0 ++ v) r.4 ∙ sym (append_assoc all.0 r.0 r.1),
      all.5 ∙ ap (λ v. all.2 ++ v) r.5 ∙ sym (append_assoc all.2 r.2 r.3),
      (all.0, r.0, all.2, r.2, refl, refl, all.6, r.6),
      r.7,
    )

sections_turned : (items : List PlainItem) (lawful : Lawful items) (low high : ℕ) (sections : List Open) (edits : List Edit) (out : List (List PlainItem)) →
    Chain from_of items (entered InTable) low high sections →
    AllTurned row_at items InSection (flat_map (λ (section : Open). section_rows
    (children_of (Tr ∷ []) items section.from)) sections) edits out → AllTurned from_of items InTable sections edits out
sections_turned items lawful low high [] edits out c all = all
sections_turned items lawful low high (section ∷ sections) edits out c all =
    let rows = section_rows (children_of (Tr ∷ []) items section.from) in
    let p = all_parts row_at items InSection rows (flat_map (λ (s : Open). section_rows (children_of (Tr ∷ []) items s.from)) sections) edits out all in
    let own = by_nodes items InSection (children_of (Tr ∷ []) items section.from) p.0 p.2 p.6 in (
      p.0,
      p.1,
      p.2,
      p.3,
      p.4,
      p.5,
      turned_section items c.1.0 section.from (lawful_node items c.1.0 section.from lawful c.1.2) p.0 p.2 c.1.1 own,
      sections_turned items lawful (end_of_node items section.from) high sections p.1 p.3 c.2 p.7,
    )

-- The rows' edits are a table's, and the insides afterwards are those that the rows have then.
module _ (items : List PlainItem) (at : ℕ) (lawful : Lawful items) (o : Opens items Table at) (edits : List Edit) (out : List (List PlainItem))
    (all : AllTurned row_at items InSection (table_rows items at) edits out) where
  n : Node items Table at
  n = lawful_node items Table at lawful o

  turned : Turned InTable InTable (suc at) n.within edits out
  turned =
      turned_inside items Table at n edits out InTable (sections_turned items lawful (suc at) (partner items at)
      (children_of (entered InTable) items at) edits out (children_of_stand items (entered InTable) Table at lawful o) all)

  room : suc at + length n.within ≤ length items
  room = let a = node_partner n in let b = o.within in omega arith

  order : InOrder (suc at) (0 + length items) edits
  order =
      let z : suc at + length n.within ≤ 0 + length items = (let r = room in omega arith) in subst (InOrder (suc at) (0 + length items))
      (append-nil edits) (turned.order (0 + length items) [] z)

  pub in_order : InOrder 0 (0 + length items) edits
  in_order = InOrder-within (suc at) 0 (0 + length items) (0 + length items) edits (omega arith) (omega arith) order

  pub insides_after : insides (edited (transaction_of items edits) items) at ≡ out
  insides_after =
      ap (λ v. insides v at) (edited-transaction_from 0 items edits in_order ∙ made)
      ∙ insides-read new at
      ∙ ap (read 0 InTable) (ap (λ m. drop m new) here ∙ drop-append-add (take (suc at) items) (turned.new ++ tail) 0)
      ∙ (turned.walk).walks tail
      ∙ append-nil out
    where
      tail : List PlainItem
      tail = Closing n.closing n.white ∷ n.rest

      new : List PlainItem
      new = take (suc at) items ++ (turned.new ++ tail)

      cut : length (take (suc at) items) ≡ suc at
      cut = let r = room in length-take-le (suc at) items (omega arith)

      here : suc at ≡ length (take (suc at) items) + 0
      here = let c = cut in omega arith

      parts : items ≡ take (suc at) items ++ (n.within ++ tail)
      parts = sym (take-append-drop (suc at) items)
          ∙ ap (λ v. take (suc at) items ++ v) (drop_next at items (Opening Table n.head n.marks n.pre n.origin n.generated) (n.within ++ tail) n.whole)

      made : substituted_from 0 items edits ≡ new
      made =
          let far : 0 + length (take (suc at) items) ≡ suc at = (let c = cut in omega arith) in
          let end : suc at + length n.within ≤ 0 + length items = (let r = room in omega arith) in
          ap (λ v. substituted_from 0 v edits) parts
          ∙ skip (take (suc at) items) 0 (0 + length items) (n.within ++ tail) edits (subst (λ k. InOrder k (0 + length items) edits) (sym far) order)
          ∙ (λ i. take (suc at) items ++ substituted_from (far i) (n.within ++ tail) (sym (append-nil edits) i))
          ∙ ap (λ v. take (suc at) items ++ v) (turned.made (0 + length items) tail [] end)
