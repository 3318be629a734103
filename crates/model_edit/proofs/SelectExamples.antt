-- Carets and selections in worked lists.
use Rattle.std.proofs.Common.{◌≡◌, List, [], ◌∷◌, ◌++◌, Some, None, refl}
use Rattle.std.specs.Prelude.{codes}
use Rattle.ve_kinds.specs.declared.kind.Kind.TheVariants.{P, Br}
use Rattle.model_items.specs.declared.plain_item.PlainItem.{PlainItem}
use Rattle.model_change.specs.Transaction.{Retain, Replace, Transaction}
use Rattle.unicode_segmentation.proofs.Computing.{unicode_segmentation}
use Rattle.model_edit.specs.declared.selection.Bias.TheVariants.{Left, Right}
use Rattle.model_edit.specs.declared.selection.By.TheVariants.{Cluster, Word}
use Rattle.model_edit.specs.declared.selection.Dir.TheVariants.{Back, Ahead}
use Rattle.model_edit.specs.Translate.{translate, translate_range, moved_selection, between}
use Rattle.model_edit.specs.Next.{next}
use Rattle.model_items.proofs.ExampleItems.{o, text, node, internal}

-- an accent makes one cluster with its letter
abbrev accented : List PlainItem
accented = node P (text (codes "e" ++ 0x301 ∷ codes "x" ++ 0xA0 ∷ codes "y")) ++ internal

cluster_back : next accented 3 Back Cluster ≡ Some 1
unfolding unicode_segmentation
cluster_back = refl

-- `<p>ab cd</p>`
abbrev two_words : List PlainItem
two_words = node P (text (codes "ab cd")) ++ internal

word_ahead : next two_words 1 Ahead Word ≡ Some 3
unfolding unicode_segmentation
word_ahead = refl

edges : (next two_words 1 Back Cluster ≡ None) × (next two_words 6 Ahead Word ≡ None)
edges = (refl, refl)

-- a leaf is passed whole, and ends a run
abbrev with_leaf : List PlainItem
with_leaf = node P (text (codes "ab") ++ (node Br [] ++ text (codes "cd"))) ++ internal

leaf : (next with_leaf 3 Ahead Word ≡ Some 5) × (next with_leaf 5 Back Word ≡ Some 3) × (next with_leaf 5 Ahead Word ≡ Some 7) × (next with_leaf 3 Back Word ≡ Some 1)
unfolding unicode_segmentation
leaf = (refl, refl, refl, refl)

-- typing moves a caret that stands where it happens not at all by Left, and past the text by Right
abbrev typed : Transaction
typed = Retain 2 ∷ Replace [] (text (codes "XY")) ∷ Retain 4 ∷ []

carets : (translate typed 2 Left ≡ 2) × (translate typed 2 Right ≡ 4) × (translate typed 3 Left ≡ 5) × (translate typed 1 Right ≡ 1)
carets = (refl, refl, refl, refl)

-- a selection whose items are all replaced collapses to its end
abbrev replaced : Transaction
replaced = Retain 1 ∷ Replace (text (codes "ab")) (text (codes "xyz")) ∷ Retain 3 ∷ []

collapses : translate_range replaced (between 1 3) ≡ between 4 4
collapses = refl

-- an end inside a leaf is moved past it
abbrev leaf_replaced : Transaction
leaf_replaced = Retain 1 ∷ Replace (o Br ∷ []) (o Br ∷ []) ∷ Retain 5 ∷ []

abbrev leaf_first : List PlainItem
leaf_first = node P (node Br [] ++ text (codes "a")) ++ internal

past : moved_selection leaf_replaced leaf_first (between 1 4) ≡ between 3 4
past = refl
