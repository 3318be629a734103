-- The tree of a lawful list, written out, is the list.
use Rattle.std.proofs.Common.{◌≡◌, suc, List, [], ◌∷◌, ◌++◌, length, map, drop, Ok, refl, sym, ap, ◌∙◌, subst, append_assoc, append-nil, arith}
use Rattle.ve_kinds.specs.declared.kind.Kind.{Kind}
use Rattle.model_items.specs.declared.plain_item.PlainItem.{PlainItem}
use Rattle.model_items.specs.declared.plain_item.PlainItem.TheVariants.{Char, Opening, Closing}
use Rattle.ve_kinds.specs.Table.{is_content_branch}
use Rattle.model_items.specs.declared.law_fault.LawFault.{LawFault}
use Rattle.model_items.specs.Law.{State, start, finish, top, step, after}
use Rattle.model_items.proofs.LawLemmas.{if_ok, Ok-same, opened_before, closed_before, joined-ok, after_from_Lawful}
use Rattle.model_items.specs.Tree.{Forest, Empty, Run, Branch, with_char, first_forest, reading, tree_of, Shape, Letter, Begin, End, shape_of, shapes, TreeSpells}

-- the closings of the open kinds, and what follows each
closings : List Kind → List Forest → List Shape
closings [] forests = []
closings (kind ∷ kinds) [] = []
closings (kind ∷ kinds) (forest ∷ forests) = End kind ∷ (shapes forest ++ closings kinds forests)

-- what is read of a list's end, from a state there
record IsRead (kinds : List Kind) (items : List PlainItem) : Type 0 where
  spelled : shapes (reading items).here ++ closings kinds (reading items).outer ≡ map shape_of items
  deep : length (reading items).outer ≡ length kinds

shapes-with_char : (f : Forest) → shapes (with_char f) ≡ Letter ∷ shapes f
shapes-with_char Empty = refl
shapes-with_char (Run count later) = refl
shapes-with_char (Branch kind inside later) = refl

read_from : (items : List PlainItem) (s : State) → after s items ≡ Ok finish → IsRead s.stack items
unfolding closings
read_from [] s h =
    subst (λ (t : State). IsRead t.stack []) (sym (Ok-same {E = LawFault} s finish h)) (record { spelled = refl; deep = refl })
read_from (Char c marks ∷ items) s h =
    let p = joined-ok 1 (step s (Char c marks)) (λ next. after next items) finish h in
    let same = Ok-same {E = LawFault} s p.0 (if_ok (is_content_branch (top s.stack)) _ _ p.0 p.1).1 in
    let rest = read_from items s (subst (λ t. after t items ≡ Ok finish) (sym same) p.2) in
    record {
      spelled = ap (λ l. l ++ closings s.stack (reading items).outer) (shapes-with_char (reading items).here) ∙ ap (λ l. Letter ∷ l) rest.spelled;
      deep = rest.deep;
    }
read_from (Closing kind pre ∷ items) s h =
    let p = joined-ok 1 (step s (Closing kind pre)) (λ next. after next items) finish h in
    let before = closed_before s.stack s.seen kind p.0 p.1 in
    let rest = read_from items p.0 p.2 in
    subst (λ kinds. IsRead kinds (Closing kind pre ∷ items)) (sym before.0)
    (record { spelled = ap (λ l. End kind ∷ l) rest.spelled; deep = ap suc rest.deep })
read_from (Opening kind head marks pre origin generated ∷ items) s h =
    let p = joined-ok 1 (step s (Opening kind head marks pre origin generated)) (λ next. after next items) finish h in
    let before = opened_before s p.0 kind p.1 in
    let rest = subst (λ kinds. IsRead kinds items) (sym before.0) (read_from items p.0 p.2) in
    let both = around (reading items).here (reading items).outer rest.spelled rest.deep in
    record { spelled = both.0; deep = both.1 }
  where
    around : (here : Forest) (outer : List Forest) → shapes here ++ closings (kind ∷ s.stack) outer ≡ map shape_of items → length outer ≡ suc (length s.stack) →
        (shapes (Branch kind here (first_forest outer)) ++ closings s.stack (drop 1 outer) ≡ Begin kind ∷ map shape_of items) × (length (drop 1 outer) ≡ length s.stack)
    around here [] e f = absurd (omega arith)
    around here (forest ∷ outer) e f =
        (ap (λ l. Begin kind ∷ l) (append_assoc (shapes here) (End kind ∷ shapes forest) (closings s.stack outer) ∙ e), omega arith)

pub tree_spells : TreeSpells
unfolding closings
tree_spells items lawful =
    let read = read_from items start (after_from_Lawful items lawful) in
    sym (append-nil (shapes (tree_of items))) ∙ read.spelled

-- as many forests are read after open nodes as nodes are open
pub read_deep : (items : List PlainItem) (s : State) → after s items ≡ Ok finish → length (reading items).outer ≡ length s.stack
read_deep items s h = (read_from items s h).deep
