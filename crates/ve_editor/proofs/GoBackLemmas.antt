-- A trial's page, and what it can go back to.
use Rattle.std.specs.Option.{option_map_or}
use Rattle.std.specs.Prelude.{IsSome}
use Rattle.std.proofs.Common.{◌≡◌, ◌≤◌, ◌+◌, true, false, ℕ, List, [], ◌++◌, length, take, All, Option, Some, None, refl, sym, ap, ◌∙◌, subst, length-append, arith}
use Rattle.std.proofs.lemmas.List.{take_all, take-append-le}
use Rattle.std.proofs.Math.Seq.{take-append_seam}
use Rattle.ve_base.specs.declared.value.Value.{Value}
use Rattle.model_items.specs.declared.item.Item.{Item}
use Rattle.model_items.specs.declared.plain_item.PlainItem.{PlainItem}
use Rattle.model_items.specs.Plain.{CitesWell}
use Rattle.model_edit.specs.declared.selection.Selection.{Selection}
use Rattle.ve_arena.specs.declared.node.ArenaNode.{ArenaNode}
use Rattle.ve_arena.specs.Arena.{first_slots}
use Rattle.ve_items.specs.ItemList.{ItemList}
use Rattle.ve_tree.specs.IsTree.{IsTree, unvalued}
use Rattle.ve_tree.specs.TreeOf.{IsTreeOf}
use Rattle.ve_tree.specs.Trials.{begun}
use Rattle.ve_tree.specs.declared.tree.Tree.{Tree}
use Rattle.ve_tx.specs.Making.{Extends}
use Rattle.ve_tx.specs.Spliced.{LieBetween, come_count, spliced_by}
use Rattle.ve_tx.specs.declared.splice.Splice.{Splice}
use Rattle.ve_editor.specs.declared.first_values.FirstValues.{FirstValues}
use Rattle.ve_editor.specs.declared.first_values.FirstValues.TheVariants.{Prefix, Copied}
use Rattle.ve_editor.specs.Back.{CanGoBack, HasFirst, LieInTurn, backward, first_values}
use Rattle.ve_editor.specs.Page.{IsPage, Nodes, first_nodes, linked_page, nodes_of_tree, page_of}
use Rattle.ve_editor.specs.Trials.{first_page}
use Rattle.ve_editor.proofs.ReturnLemmas.{back-again, spliced-append, turn-again, turn-append}

-- ---- the first nodes

slots_stay : (was is : Option (List (Option ArenaNode))) (old new : List (Option ArenaNode)) → IsSome was → is ≡ was → option_map_or (λ slots. slots) is new ≡ option_map_or (λ slots. slots) was old
slots_stay None is old new trial same = let wrong : false ≡ true = trial in cc
slots_stay (Some slots) is old new trial same = ap (λ first. option_map_or (λ slots. slots) first new) same

-- while a trial runs, a tree that is written has the first nodes that it had
pub first_nodes_stay : (was is : Tree) → IsSome was.arena.first → is.arena.first ≡ was.arena.first → is.root ≡ was.root → first_nodes is ≡ first_nodes was
first_nodes_stay was is trial same root =
    let slots = slots_stay was.arena.first is.arena.first was.arena.slots is.arena.slots trial same in
    λ i. record { slots = slots i; root = root i }

-- a trial that begins, or ends with the nodes as they are, leaves the page as it is
pub page_stays : (store : List Value) (items : List Item) (was is : Tree) (first : Option (List (Option ArenaNode))) → IsPage store items was →
    is ≡ record was { arena = record { slots = was.arena.slots; first = first } } → IsPage store items is
page_stays store items was is first page same =
    subst (IsPage store items) (sym same) (record { cites = page.cites; tree = record { links = page.tree.links; landmarks = page.tree.landmarks } })

-- ---- at the beginning

all_values : (store : List Value) (values : ℕ) → values ≡ length store → take values store ≡ store
all_values store values count = ap (λ n. take n store) count ∙ take_all (length store) store (omega arith)

pub begins : (store : List Value) (list : ItemList) (was is : Tree) (back : List Splice) (values : ℕ) → IsPage store list.items was → is ≡ record was { arena = begun was.arena.slots } →
    back ≡ [] → values ≡ length store → CanGoBack store list back (Prefix values) is
begins store list was is back values page same none count = subst (CanGoBack store list back (Prefix values)) (sym same) (record {
  turn = subst (LieInTurn list.items) (sym none) tt;
  room = let come : come_count back ≡ 0 = ap come_count none in omega arith;
  stored = omega arith;
  cites = subst (λ s. All (CitesWell s) (spliced_by list.items back)) (sym (all_values store values count))
      (subst (λ b. All (CitesWell store) (spliced_by list.items b)) (sym none) page.cites);
  trial = refl;
  tree = subst (λ b. IsTree was.arena.slots was.root (unvalued (spliced_by list.items b))) (sym none) page.tree.links;
})

pub first_begun : (store : List Value) (items : List Item) (selected : Selection) (was is : Tree) (back : List Splice) (values : ℕ) → back ≡ [] → values ≡ length store →
    is ≡ record was { arena = begun was.arena.slots } → first_page store items back (Prefix values) selected (first_nodes is) ≡ linked_page (page_of store items selected) (nodes_of_tree was)
first_begun store items selected was is back values none count same =
    λ i. linked_page (page_of (all_values store values count i) (spliced_by items (none i)) selected) (first_nodes (same i))

-- ---- the first values

-- while a store only grows, it has its first values
pub first_stay : (store new : List Value) (values : FirstValues) → Extends store new → HasFirst store values → first_values new values ≡ first_values store values
first_stay store new (Prefix count) extends has = ap (take count) extends.1 ∙ take-append-le count store extends.0 has
first_stay store new (Copied first) extends has = refl

pub has_still : (store new : List Value) (values : FirstValues) → Extends store new → HasFirst store values → HasFirst new values
has_still store new (Prefix count) extends has = let grown : length new ≡ length (store ++ extends.0) = ap length extends.1 in let more = length-append store extends.0 in omega (arith, has)
has_still store new (Copied first) extends has = tt

-- ---- after a change

module _ (store new : List Value) (list made committed : ItemList) (splices back noted : List Splice) (values : FirstValues) (was is : Tree) (can : CanGoBack store list back values was) (extends : Extends store new)
    (same : made.items ≡ list.items) (within : LieBetween 0 (length made.items) splices) (makes : committed.items ≡ spliced_by made.items splices)
    (notes : noted ≡ back ++ backward list.items splices) (runs : is.arena.first ≡ was.arena.first) (root : is.root ≡ was.root) where
  lies : LieBetween 0 (length list.items) splices
  lies = subst (λ l. LieBetween 0 (length l) splices) same within

  made_list : committed.items ≡ spliced_by list.items splices
  made_list = makes ∙ ap (λ l. spliced_by l splices) same

  -- the list goes back to what it went back to before
  list_back : spliced_by committed.items noted ≡ spliced_by list.items back
  list_back =
      (λ i. spliced_by (made_list i) (notes i))
      ∙ spliced-append (spliced_by list.items splices) back (backward list.items splices)
      ∙ ap (λ l. spliced_by l back) (back-again 0 (length list.items) list.items splices lies (omega arith))

  values_back : first_values new values ≡ first_values store values
  values_back = first_stay store new values extends can.stored

  nodes_back : first_nodes is ≡ first_nodes was
  nodes_back = first_nodes_stay was is can.trial runs root

  pub first_stays : (selected : Selection) → first_page new committed.items noted values selected (first_nodes is) ≡ first_page store list.items back values selected (first_nodes was)
  first_stays selected = λ i. linked_page (page_of (values_back i) (list_back i) selected) (nodes_back i)

  pub goes_back : come_count noted + come_count splices ≤ made.spare → made.spare ≤ committed.spare + come_count splices → CanGoBack new committed noted values is
  goes_back owed spent = record {
    turn = subst (LieInTurn committed.items) (sym notes) (turn-append committed.items back (backward list.items splices)
        (subst (λ l. LieInTurn l (backward list.items splices)) (sym made_list) (turn-again 0 (length list.items) list.items splices lies (omega arith)))
        (subst (λ l. LieInTurn l back) (sym (ap (λ l. spliced_by l (backward list.items splices)) made_list ∙ back-again 0 (length list.items) list.items splices lies (omega arith))) can.turn));
    room = omega arith;
    stored = has_still store new values extends can.stored;
    cites = subst (λ s. All (CitesWell s) (spliced_by committed.items noted)) (sym values_back) (subst (All (CitesWell (first_values store values))) (sym list_back) can.cites);
    trial = subst IsSome (sym runs) can.trial;
    tree = subst (λ (n : Nodes). IsTree n.slots n.root (unvalued (spliced_by committed.items noted))) (sym nodes_back)
        (subst (λ l. IsTree (first_slots was.arena) was.root (unvalued l)) (sym list_back) can.tree);
  }

-- ---- after a refusal

-- values and notes that were taken are cut off again
pub values_cut : (store new cut : List Value) (n : ℕ) → Extends store new → n ≡ length store → cut ≡ take n new → cut ≡ store
values_cut store new cut n extends count cuts = cuts ∙ ap (λ k. take k new) count ∙ ap (take (length store)) extends.1 ∙ take-append_seam store extends.0

pub notes_cut : (back noted cut : List Splice) (n : ℕ) → take (length back) noted ≡ back → n ≡ length back → cut ≡ take n noted → cut ≡ back
notes_cut back noted cut n front count cuts = cuts ∙ ap (λ k. take k noted) count ∙ front

pub page_cut : (store cut : List Value) (items kept : List Item) (linked : Tree) → All (CitesWell store) items → cut ≡ store → kept ≡ items → IsTreeOf linked (unvalued items) → IsPage cut kept linked
page_cut store cut items kept linked cites same list tree = record {
  cites = subst (λ s. All (CitesWell s) kept) (sym same) (subst (All (CitesWell store)) (sym list) cites);
  tree = subst (λ l. IsTreeOf linked (unvalued l)) (sym list) tree;
}

pub still_goes_back : (store cut : List Value) (list kept : ItemList) (back notes : List Splice) (values : FirstValues) (was is : Tree) → CanGoBack store list back values was →
    cut ≡ store → kept.items ≡ list.items → list.spare ≤ kept.spare → notes ≡ back → is.arena.first ≡ was.arena.first → is.root ≡ was.root → CanGoBack cut kept notes values is
still_goes_back store cut list kept back notes values was is can same items spare noted runs root = record {
  turn = subst (LieInTurn kept.items) (sym noted) (subst (λ l. LieInTurn l back) (sym items) can.turn);
  room = let come : come_count notes ≡ come_count back = ap come_count noted in omega (arith, can.room);
  stored = subst (λ s. HasFirst s values) (sym same) can.stored;
  cites = subst (λ s. All (CitesWell (first_values s values)) (spliced_by kept.items notes)) (sym same) (subst (All (CitesWell (first_values store values))) (sym list_back) can.cites);
  trial = subst IsSome (sym runs) can.trial;
  tree = subst (λ (n : Nodes). IsTree n.slots n.root (unvalued (spliced_by kept.items notes))) (sym (first_nodes_stay was is can.trial runs root))
      (subst (λ l. IsTree (first_slots was.arena) was.root (unvalued l)) (sym list_back) can.tree);
}
  where
    list_back : spliced_by kept.items notes ≡ spliced_by list.items back
    list_back = λ i. spliced_by (items i) (noted i)

pub first_still : (store cut : List Value) (list kept : ItemList) (back notes : List Splice) (values : FirstValues) (selected : Selection) (was is : Tree) → CanGoBack store list back values was →
    cut ≡ store → kept.items ≡ list.items → notes ≡ back → is.arena.first ≡ was.arena.first → is.root ≡ was.root →
    first_page cut kept.items notes values selected (first_nodes is) ≡ first_page store list.items back values selected (first_nodes was)
first_still store cut list kept back notes values selected was is can same items noted runs root =
    λ i. first_page (same i) (items i) (noted i) values selected (first_nodes_stay was is can.trial runs root i)

-- ---- where values are cut off

-- The store is cut to values that the items cite still; its first values stay, or there is a copy of
-- them.
pub cut_goes_back : (store cut : List Value) (list : ItemList) (back : List Splice) (values kept : FirstValues) (was : Tree) → CanGoBack store list back values was →
    HasFirst cut kept → first_values cut kept ≡ first_values store values → CanGoBack cut list back kept was
cut_goes_back store cut list back values kept was can has same = record {
  turn = can.turn;
  room = can.room;
  stored = has;
  cites = subst (λ s. All (CitesWell s) (spliced_by list.items back)) (sym same) can.cites;
  trial = can.trial;
  tree = can.tree;
}

-- ---- at the end

-- the page, with the nodes as they were
pub page_back : (store cut : List Value) (list : ItemList) (items : List Item) (back : List Splice) (values : FirstValues) (was is : Tree) → CanGoBack store list back values was →
    cut ≡ first_values store values → items ≡ spliced_by list.items back → ((l : List PlainItem) → IsTree (first_slots was.arena) was.root l → IsTreeOf is l) → IsPage cut items is
page_back store cut list items back values was is can cuts made tree = record {
  cites = subst (λ s. All (CitesWell s) items) (sym cuts) (subst (All (CitesWell (first_values store values))) (sym made) can.cites);
  tree = subst (λ l. IsTreeOf is (unvalued l)) (sym made) (tree (unvalued (spliced_by list.items back)) can.tree);
}
