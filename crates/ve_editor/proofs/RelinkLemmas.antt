-- The conditions and the result of a repair of the tree, for every list of values: the new list has
-- the same shapes over each.
use Rattle.std.proofs.Common.{◌≡◌, ◌≤◌, ◌+◌, ◌*◌, ℕ, List, [], ◌∷◌, ◌++◌, length, map, take, drop, refl, sym, ap, ◌∙◌, subst}
use Rattle.std.proofs.lemmas.List.{length-map, map-append, take-map, drop-map}
use Rattle.ve_base.specs.declared.value.Value.{Value}
use Rattle.model_items.specs.declared.item.Item.{Item}
use Rattle.model_items.specs.declared.item.Item.TheVariants as item
use Rattle.model_items.specs.declared.plain_item.PlainItem.{PlainItem}
use Rattle.model_items.specs.declared.plain_item.PlainItem.TheVariants.{Char, Opening, Closing}
use Rattle.model_items.specs.Law.{Lawful}
use Rattle.model_items.specs.Plain.{plain, plain_list}
use Rattle.model_items.specs.Tree.{shape_of}
use Rattle.model_change.specs.Attributes.{AttrChange, item_changed}
use Rattle.model_change.specs.Touch.{touch}
use Rattle.model_change.specs.Transaction.{Transaction, edited, on_first}
use Rattle.ve_repair.specs.Change.{LawfulAfter, new_list}
use Rattle.ve_repair.specs.Repaired.{IsTreeOfAfter, IsWithinTouch}
use Rattle.ve_tree.specs.IsTree.{unvalued}
use Rattle.ve_tree.specs.TreeOf.{IsTreeOf}
use Rattle.ve_tree.specs.declared.tree.Tree.{Tree}
use Rattle.ve_tree.proofs.ShapeLemmas.{lawful-shapes, shapes_read}
use Rattle.ve_tx.specs.Operation.{Operation, Retain, Replace, Attribute, by_value}
use Rattle.model_change.specs.Cost.{cost_of_transaction}

shape_alike : (values others : List Value) (x : Item) → shape_of (plain values x) ≡ shape_of (plain others x)
shape_alike values others (item.Char ch marks) = refl
shape_alike values others (item.Opening kind generated head marks pre origin) = refl
shape_alike values others (item.Closing kind pre) = refl

pub list_alike : (values others : List Value) (items : List Item) → map shape_of (plain_list values items) ≡ map shape_of (plain_list others items)
list_alike values others [] = refl
list_alike values others (x ∷ items) = λ i. shape_alike values others x i ∷ list_alike values others items i

shape_stays : (c : AttrChange) (x : PlainItem) → shape_of (item_changed c x) ≡ shape_of x
shape_stays c (Char ch marks) = refl
shape_stays c (Opening kind head marks pre origin generated) = refl
shape_stays c (Closing kind pre) = refl

first_stays : (c : AttrChange) (xs : List PlainItem) → map shape_of (on_first (item_changed c) xs) ≡ map shape_of xs
first_stays c [] = refl
first_stays c (x ∷ xs) = ap (λ s. s ∷ map shape_of xs) (shape_stays c x)

joined_alike : (xs ys us vs : List PlainItem) → map shape_of xs ≡ map shape_of us → map shape_of ys ≡ map shape_of vs → map shape_of (xs ++ ys) ≡ map shape_of (us ++ vs)
joined_alike xs ys us vs one other = map-append shape_of xs ys ∙ (λ i. one i ++ other i) ∙ sym (map-append shape_of us vs)

rest_alike : (n : ℕ) (xs ys : List PlainItem) → map shape_of xs ≡ map shape_of ys → map shape_of (drop n xs) ≡ map shape_of (drop n ys)
rest_alike n xs ys e = sym (drop-map shape_of n xs) ∙ ap (drop n) e ∙ drop-map shape_of n ys

edited_alike : (values others : List Value) (tx : List Operation) (xs ys : List PlainItem) → map shape_of xs ≡ map shape_of ys →
    map shape_of (edited (by_value values tx) xs) ≡ map shape_of (edited (by_value others tx) ys)
edited_alike values others [] xs ys e = e
edited_alike values others (Retain count ∷ tx) xs ys e =
    joined_alike (take count xs) (edited (by_value values tx) (drop count xs)) (take count ys) (edited (by_value others tx) (drop count ys))
    (sym (take-map shape_of count xs) ∙ ap (take count) e ∙ take-map shape_of count ys)
    (edited_alike values others tx (drop count xs) (drop count ys) (rest_alike count xs ys e))
edited_alike values others (Replace removed inserted ∷ tx) xs ys e =
    let rest = λ (of : List Value) (n : ℕ) (l : List PlainItem). map shape_of (plain_list of inserted ++ edited (by_value of tx) (drop n l)) in
    ap (λ n. rest values n xs) (length-map removed (plain values))
    ∙ joined_alike (plain_list values inserted) (edited (by_value values tx) (drop (length removed) xs)) (plain_list others inserted) (edited (by_value others tx) (drop (length removed) ys))
    (list_alike values others inserted)
    (edited_alike values others tx (drop (length removed) xs) (drop (length removed) ys) (rest_alike (length removed) xs ys e))
    ∙ ap (λ n. rest others n ys) (sym (length-map removed (plain others)))
edited_alike values others (Attribute change ∷ tx) xs ys e =
    edited_alike values others tx (on_first (item_changed change) xs) (on_first (item_changed change) ys) (first_stays change xs ∙ e ∙ sym (first_stays change ys))

-- what is lawful over some values is lawful over all
pub lawful_after : (values : List Value) (tx : List Operation) (items : List Item) → Lawful (new_list values tx items) → LawfulAfter tx items
lawful_after values tx items lawful others =
    lawful-shapes (new_list values tx items) (new_list others tx items)
    (edited_alike values others tx (plain_list values items) (plain_list others items) (list_alike values others items)) lawful

-- the tree of the new list is that of the list that a change makes
pub made_tree : (linked : Tree) (values new : List Value) (tx : List Operation) (items made : List Item) → plain_list new made ≡ new_list values tx items → IsTreeOfAfter linked tx items →
    IsTreeOf linked (unvalued made)
made_tree linked values new tx items made e tree =
    shapes_read linked (plain_list new made) (unvalued made) (subst (IsTreeOf linked) (sym e) (tree values)) (list_alike new [] made)

-- the bound, of a transaction and a list that are the same over those values
pub within_touch : (values : List Value) (tx : List Operation) (items : List Item) (t : Transaction) (l : List PlainItem) (old new : ℕ) →
    touch (by_value values tx) (plain_list values items) ≡ touch t l → IsWithinTouch old new tx items → new ≤ old + cost_of_transaction t l
within_touch values tx items t l old new e within = subst (λ n. new ≤ old + 8 * (n + 2)) e (within values)
