-- Removals from worked lists.
use Rattle.std.proofs.Common.{◌≡◌, List, [], ◌∷◌, ◌++◌, Some, refl}
use Rattle.std.specs.Prelude.{codes, Ok, Err}
use Rattle.ve_kinds.specs.declared.kind.Kind.TheVariants.{P, H2, Ul, Li, Ref, InternalList, InternalItem}
use Rattle.model_items.specs.declared.plain_item.PlainItem.{PlainItem}
use Rattle.model_change.specs.Transaction.{Retain, Replace}
use Rattle.model_edit.specs.Causes.{BadRange}
use Rattle.model_edit.specs.Remove.{removal}
use Rattle.model_items.proofs.ExampleItems.{o, c, text, node, internal}
use Rattle.model_edit.proofs.ExampleItems.{list_after}

-- a whole node, `<ul><li><p>a</p><p>x</p><p>b</p></li></ul>`
abbrev three : List PlainItem
three = node Ul (node Li (node P (text (codes "a")) ++ (node P (text (codes "x")) ++ node P (text (codes "b"))))) ++ internal

whole_node : removal three 5 8 ≡ Ok (Retain 5 ∷ Replace (node P (text (codes "x"))) [] ∷ Retain 7 ∷ [])
whole_node = refl

-- `<p>ab</p><h2>cd</h2>`: the second branch takes the first one's kind
abbrev two_kinds : List PlainItem
two_kinds = node P (text (codes "ab")) ++ (node H2 (text (codes "cd")) ++ internal)

joins : removal two_kinds 2 6 ≡ Ok (Retain 2 ∷ Replace (text (codes "b") ++ c P ∷ o H2 ∷ text (codes "c")) [] ∷ Retain 1 ∷ Replace (c H2 ∷ []) (c P ∷ []) ∷ Retain 2 ∷ [])
joins = refl

joined : list_after two_kinds (removal two_kinds 2 6) ≡ Some (node P (text (codes "ad")) ++ internal)
joined = refl

-- to the second branch's end the two replaces are neighbours, and one
to_the_end : removal two_kinds 2 7 ≡ Ok (Retain 2 ∷ Replace (text (codes "b") ++ c P ∷ o H2 ∷ text (codes "cd") ++ c H2 ∷ []) (c P ∷ []) ∷ Retain 2 ∷ [])
to_the_end = refl

-- `<p>ab</p><ul><li><p>cd</p></li></ul>`: unmatched brackets stay
abbrev crossed : List PlainItem
crossed = node P (text (codes "ab")) ++ (node Ul (node Li (node P (text (codes "cd")))) ++ internal)

brackets_stay : removal crossed 2 8 ≡ Ok (Retain 2 ∷ Replace (text (codes "b")) [] ∷ Retain 4 ∷ Replace (text (codes "c")) [] ∷ Retain 6 ∷ [])
brackets_stay = refl

-- only brackets that stay: nothing is removed
brackets_alone : removal crossed 3 6 ≡ Ok (Retain 14 ∷ [])
brackets_alone = refl

-- a list with one internal item, whose body is a paragraph
abbrev referenced : List PlainItem
referenced =
    node P (text (codes "a") ++ node Ref [])
    ++ (node P (text (codes "b") ++ node Ref [])
    ++ node InternalList (node InternalItem (node P (text (codes "x")))))

paragraph_gone : list_after referenced (removal referenced 0 5) ≡ Some (node P (text (codes "b") ++ node Ref []) ++ node InternalList (node InternalItem (node P (text (codes "x")))))
paragraph_gone = refl

in_body : removal referenced 8 12 ≡ Err (BadRange 8 12)
in_body = refl

in_leaf : removal referenced 1 3 ≡ Err (BadRange 1 3)
in_leaf = refl

-- past the end
past_end : removal (node P (text (codes "xa")) ++ internal) 9 12 ≡ Err (BadRange 9 12)
past_end = refl
