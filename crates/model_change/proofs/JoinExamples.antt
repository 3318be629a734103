-- Conflicts and joins.
use Rattle.std.proofs.Common.{◌≡◌, ℕ, true, false, List, [], ◌∷◌, ◌++◌, Option, Some, None, Ok, Err, codes, refl}
use Rattle.ve_kinds.specs.declared.kind.Kind.TheVariants.{P}
use Rattle.model_items.specs.declared.plain_item.PlainItem.{PlainItem}
use Rattle.model_change.specs.Transaction.{Retain, Replace, Attribute, Transaction}
use Rattle.model_change.specs.Fault.{apply}
use Rattle.model_change.specs.Inverse.{inverse}
use Rattle.model_change.specs.Join.{active_range, conflict, join, join_row, join_list, first, core, last, with_ends}
use Rattle.model_change.proofs.ExampleItems.{with_attrs, close_, chars_, end_, paragraph, attr_, inserts}

-- two insertions at one position: the first one stays left
tie : join (inserts 1 (codes "A") 3) (inserts 1 (codes "B") 3) ≡ (inserts 1 (codes "A") 4, inserts 2 (codes "B") 3)
tie = refl

its_list : apply (inserts 2 (codes "B") 3) (paragraph (codes "A") ++ end_) ≡ Ok (paragraph (codes "AB") ++ end_)
its_list = refl

-- a removal of the first two letters, and an insertion between them
abbrev removes_ab : Transaction
removes_ab = Retain 1 ∷ Replace (chars_ (codes "ab")) [] ∷ Retain 5 ∷ []

inside : conflict removes_ab (inserts 2 (codes "X") 6) ≡ true
inside = refl

range_of_removal : active_range removes_ab ≡ Some (1, 3)
range_of_removal = refl

range_of_insertion : active_range (inserts 2 (codes "X") 6) ≡ Some (2, 2)
range_of_insertion = refl

no_range : active_range (Retain 8 ∷ []) ≡ None
no_range = refl

-- at its boundary
at_the_boundary : conflict removes_ab (inserts 1 (codes "X") 7) ≡ false
at_the_boundary = refl

joined_there : apply (join removes_ab (inserts 1 (codes "X") 7)).1 (paragraph (codes "cd") ++ end_) ≡ Ok (paragraph (codes "Xcd") ++ end_)
joined_there = refl

-- the first pair in conflict, with its ranges
list_in_conflict : join_list (removes_ab ∷ []) (inserts 5 (codes "X") 3 ∷ inserts 2 (codes "Y") 7 ∷ inserts 7 (codes "Z") 3 ∷ [])
    ≡ Err (record { committed = (1, 3); mine = (2, 2) })
list_in_conflict = refl

first_row : join_row (removes_ab ∷ []) (inserts 5 (codes "X") 3) ≡ Ok ((Retain 1 ∷ Replace (chars_ (codes "ab")) [] ∷ Retain 6 ∷ []) ∷ [], inserts 3 (codes "X") 3)
first_row = refl

its_row_list : apply (inserts 3 (codes "X") 3) (paragraph (codes "cd") ++ end_) ≡ Ok (paragraph (codes "cdX") ++ end_)
its_row_list = refl

-- one that only retains
idle : join (Retain 8 ∷ []) removes_ab ≡ (Retain 6 ∷ [], removes_ab)
idle = refl

-- an attribute operation on the first of five items
abbrev sets : List ℕ → Option (List ℕ) → Option (List ℕ) → Transaction
sets name from to = Attribute (record { name = name; from = from; to = to; kept = None }) ∷ Retain 5 ∷ []

abbrev sets_id : Transaction
sets_id = sets (codes "id") (Some (codes "x")) (Some (codes "y"))

abbrev sets_class : Transaction
sets_class = sets (codes "class") (Some (codes "c")) (Some (codes "d"))

abbrev adds : List ℕ → Transaction
adds name = sets name None (Some (codes "z"))

abbrev page_ : List ℕ → List ℕ → List PlainItem
page_ id class = with_attrs P (attr_ (codes "id") id ∷ attr_ (codes "class") class ∷ []) ∷ (chars_ (codes "a") ++ (close_ P ∷ end_))

-- attributes that do not meet
do_not_meet : conflict sets_id sets_class ≡ false
do_not_meet = refl

both_set : apply (join sets_id sets_class).1 (page_ (codes "y") (codes "c")) ≡ Ok (page_ (codes "y") (codes "d"))
both_set = refl

-- the second is undone under the first
undone_under : apply (join sets_id (inverse sets_class)).1 (page_ (codes "y") (codes "d")) ≡ Ok (page_ (codes "y") (codes "c"))
undone_under = refl

-- attributes that meet
one_name : conflict sets_id sets_id ≡ true
one_name = refl

range_of_attribute : active_range sets_id ≡ Some (0, 1)
range_of_attribute = refl

both_add : conflict (adds (codes "title")) (adds (codes "lang")) ≡ true
both_add = refl

one_adds : conflict (adds (codes "title")) sets_id ≡ false
one_adds = refl

-- an attribute and a replace: by their ranges
attribute_and_removal : conflict sets_id (Replace (with_attrs P [] ∷ []) [] ∷ Retain 4 ∷ []) ≡ true
attribute_and_removal = refl

attribute_and_insertion_after : conflict sets_id (inserts 1 (codes "A") 4) ≡ false
attribute_and_insertion_after = refl

parts : with_ends (first sets_id) (core sets_id) (last sets_id) ≡ sets_id
parts = refl
