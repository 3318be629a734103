-- List items of worked lists moved in and out.
use Rattle.std.proofs.Common.{◌≡◌, ℕ, List, ◌++◌, Some, refl}
use Rattle.std.specs.Prelude.{codes, Err}
use Rattle.ve_kinds.specs.declared.kind.Kind.TheVariants.{P, Ul, Ol, Li}
use Rattle.model_items.specs.declared.plain_item.PlainItem.{PlainItem}
use Rattle.model_edit.specs.Causes.{NotListItem, NoSibling, NotNested}
use Rattle.model_edit.specs.Lists.{indent, outdent}
use Rattle.model_items.proofs.ExampleItems.{text, node, internal}
use Rattle.model_edit.proofs.ExampleItems.{list_after}

abbrev p : List ℕ → List PlainItem
p cs = node P (text cs)

-- `<ul><li><p>a</p></li><li><p>b</p></li></ul>`
abbrev two_items : List PlainItem
two_items = node Ul (node Li (p (codes "a")) ++ node Li (p (codes "b"))) ++ internal

abbrev deeper : List PlainItem
deeper = node Ul (node Li (p (codes "a") ++ node Ul (node Li (p (codes "b"))))) ++ internal

refused : (indent two_items 0 ≡ Err (NotListItem 0)) × (indent two_items 1 ≡ Err (NoSibling 1)) × (outdent two_items 1 ≡ Err (NotNested 1))
refused = (refl, refl, refl)

moved_in : list_after two_items (indent two_items 6) ≡ Some deeper
moved_in = refl

moved_out : list_after deeper (outdent deeper 6) ≡ Some two_items
moved_out = refl

-- what follows an item that is moved out becomes a list inside it
abbrev followed : List PlainItem
followed = node Ul (node Li (p (codes "a") ++ node Ul (node Li (p (codes "b")) ++ node Li (p (codes "c"))))) ++ internal

follower_kept : list_after followed (outdent followed 6) ≡ Some (node Ul (node Li (p (codes "a")) ++ node Li (p (codes "b") ++ node Ul (node Li (p (codes "c"))))) ++ internal)
follower_kept = refl

-- the sibling before ends with a list of the item's own kind: the item joins it. The item comes to
-- stand two positions earlier
abbrev two_lists : List PlainItem
two_lists = node Ul (node Li (p (codes "a") ++ node Ul (node Li (p (codes "b")))) ++ node Li (p (codes "c"))) ++ internal

joined : list_after two_lists (indent two_lists 13) ≡ Some (node Ul (node Li (p (codes "a") ++ node Ul (node Li (p (codes "b")) ++ node Li (p (codes "c"))))) ++ internal)
joined = refl

back : list_after (node Ul (node Li (p (codes "a") ++ node Ul (node Li (p (codes "b")) ++ node Li (p (codes "c"))))) ++ internal) (outdent (node Ul (node Li (p (codes "a") ++ node Ul (node Li (p (codes "b")) ++ node Li (p (codes "c"))))) ++ internal) 11) ≡ Some two_lists
back = refl

-- of another kind: a new list follows it
abbrev other_kind : List PlainItem
other_kind = node Ul (node Li (p (codes "a") ++ node Ol (node Li (p (codes "b")))) ++ node Li (p (codes "c"))) ++ internal

not_joined : list_after other_kind (indent other_kind 13) ≡ Some (node Ul (node Li (p (codes "a") ++ (node Ol (node Li (p (codes "b"))) ++ node Ul (node Li (p (codes "c")))))) ++ internal)
not_joined = refl
