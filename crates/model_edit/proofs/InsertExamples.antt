-- Insertions and splits of worked lists.
use Rattle.std.proofs.Common.{◌≡◌, List, [], ◌∷◌, ◌++◌, Some, None, refl, replicate}
use Rattle.std.specs.Prelude.{codes, Ok, Err}
use Rattle.ve_kinds.specs.declared.kind.Kind.TheVariants.{P, H2, Ul, Li, Div, InternalList, InternalItem, Ref}
use Rattle.model_items.specs.declared.plain_item.PlainItem.{PlainItem}
use Rattle.model_change.specs.Transaction.{Retain, Replace}
use Rattle.model_items.specs.Law.{verdict}
use Rattle.model_items.specs.declared.law_fault.LawFault.TheVariants.{TooDeep}
use Rattle.model_edit.specs.Causes.{BadOffset, NoPlace, NotContent, BadDepth}
use Rattle.model_edit.specs.Insert.{insertion, text_insertion, plain_text_insertion, split}
use Rattle.model_items.proofs.ExampleItems.{o, c, text, marked, plain_mark, node, internal}
use Rattle.model_edit.proofs.ExampleItems.{list_after}

-- text in an empty page stands in a new paragraph
into_empty_page : text_insertion internal 0 (codes "a") ≡ Ok (Replace [] (node P (text (codes "a"))) ∷ Retain 2 ∷ [])
into_empty_page = refl

-- `<p>ab</p>`
abbrev letters : List PlainItem
letters = node P (text (codes "ab")) ++ internal

into_text : text_insertion letters 2 (codes "X") ≡ Ok (Retain 2 ∷ Replace [] (text (codes "X")) ∷ Retain 4 ∷ [])
into_text = refl

-- the marks of the character to the left
abbrev bold : List PlainItem
bold = node P (marked (plain_mark (codes "b") ∷ []) (codes "ab")) ++ internal

with_marks : list_after bold (text_insertion bold 3 (codes "c")) ≡ Some (node P (marked (plain_mark (codes "b") ∷ []) (codes "abc")) ++ internal)
with_marks = refl

without_marks : list_after bold (plain_text_insertion bold 3 (codes "c")) ≡ Some (node P (marked (plain_mark (codes "b") ∷ []) (codes "ab") ++ text (codes "c")) ++ internal)
without_marks = refl

-- `<ul><li><p>ab</p></li></ul>`: the paragraph is split, and its item
abbrev listed : List PlainItem
listed = node Ul (node Li (node P (text (codes "ab")))) ++ internal

split_item : list_after listed (split listed 4 2) ≡ Some (node Ul (node Li (node P (text (codes "a"))) ++ node Li (node P (text (codes "b")))) ++ internal)
split_item = refl

split_outside : split listed 1 1 ≡ Err (NotContent 1)
split_outside = refl

split_too_far : split listed 4 4 ≡ Err (BadDepth 4)
split_too_far = refl

-- a list with one internal item, whose body is a paragraph
abbrev referenced : List PlainItem
referenced =
    node P (text (codes "a") ++ node Ref [])
    ++ (node P (text (codes "b") ++ node Ref [])
    ++ node InternalList (node InternalItem (node P (text (codes "x")))))

beside_body : text_insertion referenced 11 (codes "z") ≡ Err (NoPlace 11)
beside_body = refl

into_body : list_after referenced (text_insertion referenced 14 (codes "y"))
    ≡ Some (node P (text (codes "a") ++ node Ref []) ++ (node P (text (codes "b") ++ node Ref []) ++ node InternalList (node InternalItem (node P (text (codes "xy"))))))
into_body = refl

-- a heading parts a paragraph, and an item one more of its list
heading_put : list_after letters (insertion letters 2 (node H2 (text (codes "x"))))
    ≡ Some (node P (text (codes "a")) ++ (node H2 (text (codes "x")) ++ (node P (text (codes "b")) ++ internal)))
heading_put = refl

at_end : insertion letters 11 (text (codes "y")) ≡ Err (BadOffset 11)
at_end = refl

abbrev item : List PlainItem
item = node Ul (node Li (node P (text (codes "a")))) ++ internal

item_put : list_after item (insertion item 1 (node Li (node P (text (codes "b")))))
    ≡ Some (node Ul (node Li (node P (text (codes "b"))) ++ node Li (node P (text (codes "a")))) ++ internal)
item_put = refl

-- typing under 100 open nodes: the paragraph is one too many
abbrev nested : List PlainItem
nested = replicate 100 (o Div) ++ (replicate 100 (c Div) ++ internal)

abbrev typed_deep : List PlainItem
typed_deep = replicate 100 (o Div) ++ (node P (text (codes "a")) ++ (replicate 100 (c Div) ++ internal))

deep : (list_after nested (text_insertion nested 100 (codes "a")) ≡ Some typed_deep) × (verdict nested ≡ None) × (verdict typed_deep ≡ Some (TooDeep 100))
deep = (refl, refl, refl)
