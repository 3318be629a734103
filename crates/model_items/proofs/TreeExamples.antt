-- Trees and positions in small lists, and the number of nodes of a long one.
use Rattle.std.proofs.Common.{◌≡◌, ℕ, zero, suc, ◌+◌, ◌%◌, false, List, [], ◌∷◌, ◌++◌, length, None, refl}
use Rattle.ve_kinds.specs.declared.kind.Kind.{Kind}
use Rattle.ve_kinds.specs.declared.kind.Kind.TheVariants.{Root, P, Ul, Li, Br, InternalList}
use Rattle.ve_base.specs.Empty.{empty_head}
use Rattle.model_items.specs.declared.plain_item.PlainItem.{PlainItem}
use Rattle.model_items.specs.declared.plain_item.PlainItem.TheVariants.{Char, Opening, Closing}
use Rattle.model_items.specs.Law.{verdict}
use Rattle.model_items.specs.declared.offset_class.OffsetClass.TheVariants.{Content, Structural, Inside}
use Rattle.model_items.specs.Tree.{Empty, Run, Branch, tree_of, node_at, class_at, number_of_nodes, item_count}

abbrev open_ : Kind → PlainItem
open_ kind = Opening kind empty_head [] [] None false

abbrev close_ : Kind → PlainItem
close_ kind = Closing kind []

abbrev char_ : ℕ → PlainItem
char_ c = Char c []

abbrev end_ : List PlainItem
end_ = open_ InternalList ∷ close_ InternalList ∷ []

-- the list of `<ul><li>a<p>x</p>b</li></ul>`, where the bare runs are paragraphs
abbrev bare_runs : List PlainItem
bare_runs =
    open_ Ul ∷ open_ Li ∷ open_ P ∷ char_ 97 ∷ close_ P ∷ open_ P ∷ char_ 120 ∷ close_ P ∷ open_ P ∷ char_ 98 ∷ close_ P
    ∷ close_ Li ∷ close_ Ul ∷ end_

lawful : verdict bare_runs ≡ None
lawful = refl

tree : tree_of bare_runs ≡ Branch Ul (Branch Li (Branch P (Run 1 Empty) (Branch P (Run 1 Empty) (Branch P (Run 1 Empty) Empty))) Empty) (Branch InternalList Empty Empty)
tree = refl

in_a_paragraph : node_at bare_runs 6 ≡ record { kind = P; from = 5; to = 8 }
in_a_paragraph = refl

its_class : class_at bare_runs 6 ≡ Content
its_class = refl

-- just before an opening
between_paragraphs : node_at bare_runs 5 ≡ record { kind = Li; from = 1; to = 12 }
between_paragraphs = refl

class_between : class_at bare_runs 5 ≡ Structural
class_between = refl

in_the_root : node_at bare_runs 0 ≡ record { kind = Root; from = 0; to = 15 }
in_the_root = refl

at_the_end : node_at bare_runs 15 ≡ record { kind = Root; from = 0; to = 15 }
at_the_end = refl

counted : number_of_nodes bare_runs ≡ 10
counted = refl

all_items : item_count (tree_of bare_runs) ≡ 15
all_items = refl

-- a leaf in `<p>a<br></p>`
abbrev with_leaf : List PlainItem
with_leaf = open_ P ∷ char_ 97 ∷ open_ Br ∷ close_ Br ∷ close_ P ∷ end_

in_the_leaf : node_at with_leaf 3 ≡ record { kind = Br; from = 2; to = 4 }
in_the_leaf = refl

class_in_the_leaf : class_at with_leaf 3 ≡ Inside
class_in_the_leaf = refl

after_the_leaf : class_at with_leaf 4 ≡ Content
after_the_leaf = refl

-- a letter after a leaf begins a new run
two_runs : tree_of (open_ P ∷ char_ 97 ∷ char_ 98 ∷ open_ Br ∷ close_ Br ∷ char_ 99 ∷ close_ P ∷ end_)
    ≡ Branch P (Run 2 (Branch Br Empty (Run 1 Empty))) (Branch InternalList Empty Empty)
two_runs = refl

-- so many letters from a number on, going round the alphabet
abbrev letters : ℕ → ℕ → List PlainItem
letters from zero = []
letters from (suc n) = char_ (97 + from % 26) ∷ letters (suc from) n

-- paragraphs of 18 letters, the first from the letter of a number
abbrev paragraphs : ℕ → ℕ → List PlainItem
paragraphs from zero = end_
paragraphs from (suc n) = open_ P ∷ (letters from 18 ++ (close_ P ∷ paragraphs (suc from) n))

long_page : length (paragraphs 0 200) ≡ 4002
long_page = refl

its_nodes : number_of_nodes (paragraphs 0 200) ≡ 402
its_nodes = refl
