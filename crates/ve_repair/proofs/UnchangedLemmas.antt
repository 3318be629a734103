-- Without a replace no item comes or goes: the tree is the new list's, and its nodes match
-- themselves.
use Rattle.std.proofs.Common.{◌≡◌, ℕ, suc, ◌+◌, ◌<◌, ◌≤◌, ◌-◌, true, ◌&&◌, Option, Some, None, List, [], ◌∷◌, ◌++◌, map, take, drop, refl, sym, ap, ◌∙◌, subst, inl, inr, arith, Contains, take-append-drop}
use Rattle.std.proofs.lemmas.Bool.{true≢false}
use Rattle.std.proofs.lemmas.Option.{same_Some, none-some}
use Rattle.std.proofs.lemmas.List.Elements.{Contains-append_cases}
use Rattle.ve_base.specs.declared.value.Value.{Value}
use Rattle.ve_kinds.specs.declared.kind.Kind.{Kind}
use Rattle.model_items.specs.declared.plain_item.PlainItem.{PlainItem}
use Rattle.model_items.specs.declared.item.Item.{Item}
use Rattle.model_items.specs.Plain.{plain_list}
use Rattle.model_items.specs.Tree.{item_count, shape_of, HasWholeRuns, shapes}
use Rattle.model_change.specs.Inverse.{inverse}
use Rattle.model_change.specs.Touch.{new_place, first_retained, lies_in}
use Rattle.ve_arena.specs.declared.node.NodeId.{NodeId}
use Rattle.ve_arena.specs.declared.node.NodeWhat.{NodeWhat}
use Rattle.ve_arena.specs.declared.node.NodeWhat.TheVariants as what
use Rattle.ve_tree.specs.Named.{Named, NoNode, NamedRun, NamedBranch, unnumbered}
use Rattle.ve_tree.specs.IsTree.{IsTree, unvalued}
use Rattle.ve_tree.specs.Places.{NodePlace, node_places}
use Rattle.ve_tree.proofs.ClimbLemmas.{contains_cases}
use Rattle.ve_tree.proofs.ReadsLemmas.{one_numbering}
use Rattle.ve_tree.proofs.RunLemmas.{forest-length}
use Rattle.ve_tree.proofs.WalkLemmas.{Slots}
use Rattle.ve_tx.specs.Operation.{Operation, Retain, Replace, Attribute, by_value, bare}
use Rattle.ve_tx.specs.declared.op.Op.{Op}
use Rattle.ve_tx.specs.declared.op.Op.TheVariants as op
use Rattle.ve_repair.specs.Change.{new_list, pieces}
use Rattle.ve_repair.specs.Kept.{Match, KeepsNumbers}
use Rattle.ve_repair.specs.Range.{KeepItems}
use Rattle.ve_repair.specs.Repaired.{IsTreeAfter}
use Rattle.ve_repair.proofs.BeginningLemmas.{place_begins, begun_within, part}
use Rattle.ve_repair.proofs.ChangeLemmas.{edited-shapes, shapes-plain}
use Rattle.ve_repair.proofs.PlaceLemmas.{if_lt, beyond_block, place_back, place_forth, IsFirst, texts_match, in_range, new_place_apart}
use Rattle.ve_repair.proofs.ShapeLemmas.{tree_reads_shapes}
use Rattle.ve_repair.proofs.OutsideLemmas.{whole, begins_in_list}

-- the list
same_pieces : (ops : List Op) (items : List Item) → KeepItems ops → pieces ops items ≡ items
same_pieces [] items k = refl
same_pieces (op.Retain count ∷ ops) items k = ap (λ l. take count items ++ l) (same_pieces ops (drop count items) k) ∙ take-append-drop count items
same_pieces (op.Replace removed inserted ∷ ops) items k = absurd k
same_pieces (op.Attribute name from to ∷ ops) items k = same_pieces ops items k

same_shapes : (values : List Value) (tx : List Operation) (items : List Item) → KeepItems (map bare tx) →
    map shape_of (new_list values tx items) ≡ map shape_of (unvalued items)
same_shapes values tx items k =
    edited-shapes values tx (plain_list values items) items (shapes-plain values [] items)
    ∙ ap (λ l. map shape_of (plain_list [] l)) (same_pieces (map bare tx) items k)

pub tree_stays : (slots : Slots) (root : NodeId) (tx : List Operation) (items : List Item) → KeepItems (map bare tx) → IsTree slots root (unvalued items) →
    IsTreeAfter slots root tx items
tree_stays slots root tx items k tree values = tree_reads_shapes slots root (unvalued items) (new_list values tx items) tree (sym (same_shapes values tx items k))

-- a position is retained to itself, with all before it
stays : (values : List Value) (tx : List Operation) (p q r : ℕ) → KeepItems (map bare tx) → new_place (by_value values tx) p ≡ Some q → r ≤ p →
    new_place (by_value values tx) r ≡ Some r
stays values [] p q r k e h = absurd (none-some q e)
stays values (Retain n ∷ tx) p q r k e h = elim (part n r) [
  | inl short ↦ if_lt r n (Some r) _ short
  | inr far ↦
      let s = far.0 in
      let sum = far.1 in
      let b = new_place_apart n n p q (by_value values tx) (omega (arith, sum, h)) e in
      subst (λ r. new_place (by_value values (Retain n ∷ tx)) r ≡ Some r) (sym sum)
      (beyond_block n n s s _ (by_value values tx) (stays values tx (p - n) b.0 s k b.1 (omega (arith, sum, h))))
]
stays values (Replace removed inserted ∷ tx) p q r k e h = absurd k
stays values (Attribute change ∷ tx) p q r k e h = stays values tx p q r k e h

same_to : (values : List Value) (tx : List Operation) (p q : ℕ) → KeepItems (map bare tx) → new_place (by_value values tx) p ≡ Some q → p ≡ q
same_to values tx p q k e = same_Some p q (sym (stays values tx p q p k e (omega arith)) ∙ e)

-- so the first of a range that is retained is its start
first_is_start : (values : List Value) (tx : List Operation) (at count p q : ℕ) → KeepItems (map bare tx) → IsFirst (by_value values tx) at count p q → p ≤ at
first_is_start values tx at count p q k f = elim (part p at) [
  | inl less ↦ absurd (none-some at (sym (f.none_before at (omega arith) less) ∙ stays values tx p q at k f.place (omega (arith, less))))
  | inr more ↦ (let e = more.1 in omega (arith, e))
]

first_is_start_back : (values : List Value) (tx : List Operation) (at count p q : ℕ) → KeepItems (map bare tx) →
    IsFirst (inverse (by_value values tx)) at count p q → p ≤ at
first_is_start_back values tx at count p q k f =
    let there = place_forth (by_value values tx) [] p q f.place in
    let same = same_to values tx q p k there in
    elim (part p at) [
      | inl less ↦ absurd (none-some at (sym (f.none_before at (omega arith) less)
          ∙ place_back (by_value values tx) [] at at (stays values tx q p at k there (omega (arith, less, same)))))
      | inr more ↦ (let e = more.1 in omega (arith, e))
    ]

-- nodes that match begin at one position
match_start : (values : List Value) (tx : List Operation) (y z : NodePlace) (a b : ℕ) → KeepItems (map bare tx) → y.parent ≡ Some a → z.parent ≡ Some b →
    Match (by_value values tx) y z → y.from ≡ z.from
match_start values tx y z a b k parent_y parent_z m = by_sort y.parent z.parent y.sort z.sort parent_y parent_z m
  where
    texts : (count count' : ℕ) →
        (lies_in (first_retained (by_value values tx) y.from count) z.from count' && lies_in (first_retained (inverse (by_value values tx)) z.from count') y.from count) ≡ true →
        y.from ≡ z.from
    texts count count' h =
        let s = texts_match (by_value values tx) y.from count z.from count' h in
        let one = first_is_start values tx y.from count s.old_place s.new_at k s.old_first in
        let other = first_is_start_back values tx z.from count' s.new_at s.old_place k s.new_first in
        let same = same_to values tx s.old_place s.new_at k s.old_first.place in
        omega (arith, one, other, same, s.old_first.after_start, s.new_first.after_start)

    opened : lies_in (new_place (by_value values tx) y.from) z.from 1 ≡ true → y.from ≡ z.from
    opened h =
        let r = in_range (new_place (by_value values tx) y.from) z.from 1 h in
        let same = same_to values tx y.from r.0 k r.1 in
        let low = r.2 in
        let high = r.3 in
        omega (arith, same, low, high)

    by_sort : (p p' : Option ℕ) (sort sort' : NodeWhat) → p ≡ Some a → p' ≡ Some b →
        Match (by_value values tx) (record { number = y.number; parent = p; sort = sort; from = y.from; to = y.to })
        (record { number = z.number; parent = p'; sort = sort'; from = z.from; to = z.to }) → y.from ≡ z.from
    by_sort None p' sort sort' e e' m = absurd (none-some a e)
    by_sort (Some p) None sort sort' e e' m = absurd (none-some b e')
    by_sort (Some p) (Some p') what.Run what.Run e e' m = texts (y.to - y.from) (z.to - z.from) m
    by_sort (Some p) (Some p') (what.Node kind) (what.Node kind') e e' m = opened m
    by_sort (Some p) (Some p') what.Run (what.Node kind') e e' m = absurd (true≢false (sym m))
    by_sort (Some p) (Some p') (what.Node kind) what.Run e e' m = absurd (true≢false (sym m))

-- the root matches no other node
root_alone : (values : List Value) (tx : List Operation) (y z : NodePlace) (a : ℕ) → y.parent ≡ None → z.parent ≡ Some a → Match (by_value values tx) y z → ⊥
root_alone values tx y z a e e' m = by_sort y.parent z.parent z.sort e e' m
  where
    by_sort : (p p' : Option ℕ) (sort' : NodeWhat) → p ≡ None → p' ≡ Some a →
        Match (by_value values tx) (record { number = y.number; parent = p; sort = y.sort; from = y.from; to = y.to })
        (record { number = z.number; parent = p'; sort = sort'; from = z.from; to = z.to }) → ⊥
    by_sort (Some p) p' sort' e e' m = none-some p (sym e)
    by_sort None None sort' e e' m = none-some a e'
    by_sort None (Some p') what.Run e e' m = true≢false (sym m)
    by_sort None (Some p') (what.Node kind) e e' m = true≢false (sym m)

alone_root : (values : List Value) (tx : List Operation) (y z : NodePlace) (a : ℕ) → y.parent ≡ Some a → z.parent ≡ None → Match (by_value values tx) y z → ⊥
alone_root values tx y z a e e' m = by_sort y.parent z.parent y.sort e e' m
  where
    by_sort : (p p' : Option ℕ) (sort : NodeWhat) → p ≡ Some a → p' ≡ None →
        Match (by_value values tx) (record { number = y.number; parent = p; sort = sort; from = y.from; to = y.to })
        (record { number = z.number; parent = p'; sort = z.sort; from = z.from; to = z.to }) → ⊥
    by_sort None p' sort e e' m = none-some a e
    by_sort (Some p) (Some p') sort e e' m = none-some p' (sym e')
    by_sort (Some p) None what.Run e e' m = true≢false (sym m)
    by_sort (Some p) None (what.Node kind) e e' m = true≢false (sym m)

-- where a node of a forest begins
lies : (f : Named) (p at : ℕ) (y : NodePlace) → HasWholeRuns (unnumbered f) → Contains (node_places p at f) y →
    (at ≤ y.from) × (y.from < at + item_count (unnumbered f))
lies f p at y runs c =
    let r = place_begins f p at None y runs (λ e. refl) c in
    let within = begun_within (shapes (unnumbered f)) None r.i y.sort r.begins in
    let long = forest-length (unnumbered f) in
    (omega (arith, r.from_is), omega (arith, r.from_is, within, long))

-- a position of a branch: its own, one inside it, or one after it
data Which (p at h : ℕ) (kind : Kind) (inside later : Named) (x : NodePlace) : Type 0 where
  Itself : at ≡ x.from → h ≡ x.number → Which p at h kind inside later x
  Inner : Contains (node_places h (suc at) inside) x → Which p at h kind inside later x
  Later : Contains (node_places p (at + (item_count (unnumbered inside) + 2)) later) x → Which p at h kind inside later x

which : (p at h : ℕ) (kind : Kind) (inside later : Named) (x : NodePlace) → Contains (node_places p at (NamedBranch h kind inside later)) x →
    Which p at h kind inside later x
which p at h kind inside later x k = elim (contains_cases _ x (node_places h (suc at) inside ++ node_places p (at + (item_count (unnumbered inside) + 2)) later) k) [
  | inl same ↦ Itself (ap (λ (x : NodePlace). x.from) same) (ap (λ (x : NodePlace). x.number) same)
  | inr there ↦ elim (Contains-append_cases (node_places h (suc at) inside) (node_places p (at + (item_count (unnumbered inside) + 2)) later) x there) [
    | inl in_ ↦ Inner in_
    | inr after_ ↦ Later after_
  ]
]

one_of_branch : (p at h : ℕ) (kind : Kind) (inside later : Named) (y z : NodePlace) → HasWholeRuns (unnumbered (NamedBranch h kind inside later)) →
    y.from ≡ z.from →
    (Contains (node_places h (suc at) inside) y → Contains (node_places h (suc at) inside) z → y.number ≡ z.number) →
    (Contains (node_places p (at + (item_count (unnumbered inside) + 2)) later) y → Contains (node_places p (at + (item_count (unnumbered inside) + 2)) later) z → y.number ≡ z.number) →
    Which p at h kind inside later y → Which p at h kind inside later z → y.number ≡ z.number
one_of_branch p at h kind inside later y z runs e ins lat (Itself a n) (Itself b m) = sym n ∙ m
one_of_branch p at h kind inside later y z runs e ins lat (Itself a n) (Inner b) = let l = (lies inside h (suc at) z runs.0 b).0 in absurd (omega (arith, a, l, e))
one_of_branch p at h kind inside later y z runs e ins lat (Itself a n) (Later b) =
    let l = (lies later p (at + (item_count (unnumbered inside) + 2)) z runs.1 b).0 in absurd (omega (arith, a, l, e))
one_of_branch p at h kind inside later y z runs e ins lat (Inner a) (Itself b m) = let l = (lies inside h (suc at) y runs.0 a).0 in absurd (omega (arith, b, l, e))
one_of_branch p at h kind inside later y z runs e ins lat (Inner a) (Inner b) = ins a b
one_of_branch p at h kind inside later y z runs e ins lat (Inner a) (Later b) =
    let l = (lies inside h (suc at) y runs.0 a).1 in
    let r = (lies later p (at + (item_count (unnumbered inside) + 2)) z runs.1 b).0 in
    absurd (omega (arith, l, r, e))
one_of_branch p at h kind inside later y z runs e ins lat (Later a) (Itself b m) =
    let l = (lies later p (at + (item_count (unnumbered inside) + 2)) y runs.1 a).0 in absurd (omega (arith, b, l, e))
one_of_branch p at h kind inside later y z runs e ins lat (Later a) (Inner b) =
    let l = (lies inside h (suc at) z runs.0 b).1 in
    let r = (lies later p (at + (item_count (unnumbered inside) + 2)) y runs.1 a).0 in
    absurd (omega (arith, l, r, e))
one_of_branch p at h kind inside later y z runs e ins lat (Later a) (Later b) = lat a b

-- no two nodes begin at one position
one_start : (f : Named) (p at : ℕ) (y z : NodePlace) → HasWholeRuns (unnumbered f) → Contains (node_places p at f) y → Contains (node_places p at f) z →
    y.from ≡ z.from →
    y.number ≡ z.number
one_start NoNode p at y z runs c d e = absurd (omega (arith, c.1))
one_start (NamedRun h count later) p at y z runs c d e = elim (contains_cases _ y (node_places p (at + count) later) c) [
  | inl own ↦ elim (contains_cases _ z (node_places p (at + count) later) d) [
    | inl other ↦ ap (λ (x : NodePlace). x.number) (sym own ∙ other)
    | inr there ↦
        let far = (lies later p (at + count) z runs.2 there).0 in
        let here : at ≡ y.from = ap (λ (x : NodePlace). x.from) own in
        let some = runs.0 in
        absurd (omega (arith, far, here, some, e))
  ]
  | inr here ↦ elim (contains_cases _ z (node_places p (at + count) later) d) [
    | inl other ↦
        let far = (lies later p (at + count) y runs.2 here).0 in
        let there : at ≡ z.from = ap (λ (x : NodePlace). x.from) other in
        let some = runs.0 in
        absurd (omega (arith, far, there, some, e))
    | inr there ↦ one_start later p (at + count) y z runs.2 here there e
  ]
]
one_start (NamedBranch h kind inside later) p at y z runs c d e =
    one_of_branch p at h kind inside later y z runs e
    (λ a b. one_start inside h (suc at) y z runs.0 a b e)
    (λ a b. one_start later p (at + (item_count (unnumbered inside) + 2)) y z runs.1 a b e)
    (which p at h kind inside later y c) (which p at h kind inside later z d)

place_number : {slots : Slots} {root : NodeId} {items : List PlainItem} (tree : IsTree slots root items) (y z : NodePlace) →
    Contains (node_places root.0 0 tree.named) y →
    Contains (node_places root.0 0 tree.named) z → y.from ≡ z.from → y.number ≡ z.number
place_number {root = root} tree y z c d e = one_start tree.named root.0 0 y z (whole tree) c d e

pub keeps_numbers : (slots : Slots) (root : NodeId) (tx : List Operation) (items : List Item) → KeepItems (map bare tx) → KeepsNumbers slots slots root tx items
keeps_numbers slots root tx items k values was is y z c d m = elim (contains_cases _ y (node_places root.0 0 was.named) c) [
  | inl own ↦ elim (contains_cases _ z (node_places root.0 0 is.named) d) [
    | inl other ↦ sym (ap (λ (x : NodePlace). x.number) other) ∙ ap (λ (x : NodePlace). x.number) own
    | inr there ↦
        let r = begins_in_list is z there in
        absurd (root_alone values tx y z r.parent (sym (ap (λ (x : NodePlace). x.parent) own)) r.parent_is m)
  ]
  | inr here ↦
      let r = begins_in_list was y here in
      elim (contains_cases _ z (node_places root.0 0 is.named) d) [
        | inl other ↦ absurd (alone_root values tx y z r.parent r.parent_is (sym (ap (λ (x : NodePlace). x.parent) other)) m)
        | inr there ↦
            let s = begins_in_list is z there in
            let same = (one_numbering slots root (new_list values tx items) (plain_list values items) is was).0 in
            sym (place_number was y z here (subst (λ f. Contains (node_places root.0 0 f) z) same there)
            (match_start values tx y z r.parent s.parent k r.parent_is s.parent_is m))
      ]
]
