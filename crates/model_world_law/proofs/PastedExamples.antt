-- A comment that is pasted where a leaf is open: it is read in the leaf, and is a block all the
-- same.
use Rattle.std.proofs.Common.{◌≡◌, true, false, [], ◌∷◌, codes, refl}
use Rattle.model_spelling.specs.Forest.{Forest, Nothing, Remark}
use Rattle.ve_kinds.specs.declared.kind.Kind.TheVariants.{Root, P, Br}
use Rattle.model_page.specs.Parts.{parts_of}
use Rattle.model_page.specs.Fragment.{context_of, fragment_items}
use Rattle.model_edit_law.specs.InsertLaws.{are_children}

abbrev comment : Forest
comment = Remark (codes "x") Nothing

read_in_the_leaf : context_of (parts_of comment) (Br ∷ P ∷ []) ≡ Br
read_in_the_leaf = refl

no_child_of_the_leaf : are_children Br [] (fragment_items (Br ∷ P ∷ []) comment) ≡ false
no_child_of_the_leaf = refl

child_of_the_root : are_children Root [] (fragment_items (Br ∷ P ∷ []) comment) ≡ true
child_of_the_root = refl
