-- Marking, wrapping and converting worked lists.
use Rattle.std.proofs.Common.{◌≡◌, ℕ, false, List, [], ◌∷◌, ◌++◌, Some, None, refl, replicate}
use Rattle.std.specs.Prelude.{codes, Ok, Err}
use Rattle.ve_kinds.specs.declared.kind.Kind.{Kind}
use Rattle.ve_kinds.specs.declared.kind.Kind.TheVariants.{P, H2, Ul, Ol, Li, Div, Br}
use Rattle.ve_base.specs.declared.marks.Mark.{Mark}
use Rattle.model_items.specs.declared.plain_item.PlainItem.{PlainItem}
use Rattle.model_items.specs.declared.plain_item.PlainItem.TheVariants.{Opening}
use Rattle.model_items.specs.Law.{verdict}
use Rattle.model_items.specs.declared.law_fault.LawFault.TheVariants.{TooDeep}
use Rattle.model_change.specs.Transaction.{Retain, Replace, Attribute}
use Rattle.model_edit.specs.Causes.{BadRange, BadMark, TooManyMarks, NotWrapped, NotBranch, NotOpening, BadAttr}
use Rattle.model_edit.specs.declared.wrap_plan.Shape.{Shape}
use Rattle.model_edit.specs.declared.wrap_plan.WrapPlan.{WrapPlan}
use Rattle.model_edit.specs.Marking.{marking, unmarking}
use Rattle.model_edit.specs.Wrap.{wrap}
use Rattle.model_edit.specs.Convert.{convert, attribute}
use Rattle.model_items.proofs.ExampleItems.{o, c, with_attrs, attr, text, marked, plain_mark, node, internal}
use Rattle.model_edit.proofs.ExampleItems.{list_after}

abbrev b : Mark
b = plain_mark (codes "b")

abbrev i_ : Mark
i_ = plain_mark (codes "i")

-- `<p>abc</p>`
abbrev abc : List PlainItem
abc = node P (text (codes "abc")) ++ internal

marked_once : marking abc 2 3 b ≡ Ok (Retain 2 ∷ Replace (text (codes "b")) (marked (b ∷ []) (codes "b")) ∷ Retain 4 ∷ [])
marked_once = refl

abbrev abc_1 : List PlainItem
abc_1 = node P (text (codes "a") ++ (marked (b ∷ []) (codes "b") ++ text (codes "c"))) ++ internal

marked_over : list_after abc_1 (marking abc_1 1 4 i_) ≡ Some (node P (marked (i_ ∷ []) (codes "a") ++ (marked (b ∷ i_ ∷ []) (codes "b") ++ marked (i_ ∷ []) (codes "c"))) ++ internal)
marked_over = refl

abbrev abc_2 : List PlainItem
abc_2 = node P (marked (i_ ∷ []) (codes "a") ++ (marked (b ∷ i_ ∷ []) (codes "b") ++ marked (i_ ∷ []) (codes "c"))) ++ internal

unmarked : list_after abc_2 (unmarking abc_2 1 4 b) ≡ Some (node P (marked (i_ ∷ []) (codes "abc")) ++ internal)
unmarked = refl

no_such_mark : marking abc 1 2 (plain_mark (codes "div")) ≡ Err BadMark
no_such_mark = refl

empty_range : marking abc 2 2 b ≡ Err (BadRange 2 2)
empty_range = refl

-- a marking that changes no item retains the whole list
unchanged : marking abc_1 2 3 b ≡ Ok (Retain 7 ∷ [])
unchanged = refl

-- a run of changed items is one replace, and a leaf's closing parts two
abbrev with_leaf : List PlainItem
with_leaf = node P (text (codes "ab") ++ (node Br [] ++ text (codes "c"))) ++ internal

leaf : marking with_leaf 1 6 b
    ≡ Ok (Retain 1
    ∷ Replace (text (codes "ab") ++ o Br ∷ []) (marked (b ∷ []) (codes "ab") ++ Opening Br (record { tag = []; attrs = []; raw = []; reference = None; owner = false }) (b ∷ []) [] None false ∷ [])
    ∷ Retain 1
    ∷ Replace (text (codes "c")) (marked (b ∷ []) (codes "c"))
    ∷ Retain 3 ∷ [])
leaf = refl

sixty_four : marking (node P (marked (replicate 64 i_) (codes "x")) ++ internal) 1 2 b ≡ Err (TooManyMarks 1)
sixty_four = refl

sixty_three : marking (node P (marked (replicate 63 i_) (codes "x")) ++ internal) 1 2 b ≡ Ok (Retain 1 ∷ Replace (marked (replicate 63 i_) (codes "x")) (marked (replicate 63 i_ ++ b ∷ []) (codes "x")) ∷ Retain 3 ∷ [])
sixty_three = refl

abbrev bare : Kind → Shape
bare k = record { kind = k; attrs = [] }

-- `<p>a</p><p>b</p>` made a list, and back
abbrev ab : List PlainItem
ab = node P (text (codes "a")) ++ (node P (text (codes "b")) ++ internal)

abbrev to_list : WrapPlan
to_list = record { unwrap_outer = []; wrap_outer = bare Ul ∷ []; unwrap_each = []; wrap_each = bare Li ∷ [] }

wraps : wrap ab 0 6 to_list
    ≡ Ok (Replace [] (o Ul ∷ o Li ∷ []) ∷ Retain 3 ∷ Replace [] (c Li ∷ o Li ∷ []) ∷ Retain 3 ∷ Replace [] (c Li ∷ c Ul ∷ []) ∷ Retain 2 ∷ [])
wraps = refl

abbrev listed : List PlainItem
listed = node Ul (node Li (node P (text (codes "a"))) ++ node Li (node P (text (codes "b")))) ++ internal

wrapped_list : list_after ab (wrap ab 0 6 to_list) ≡ Some listed
wrapped_list = refl

abbrev unwrapping : List Kind → List Kind → WrapPlan
unwrapping outer each = record { unwrap_outer = outer; wrap_outer = []; unwrap_each = each; wrap_each = [] }

not_wrapped : wrap listed 1 11 (unwrapping (Ol ∷ []) []) ≡ Err (NotWrapped 0)
not_wrapped = refl

unwrapped : list_after listed (wrap listed 1 11 (unwrapping (Ul ∷ []) (Li ∷ []))) ≡ Some ab
unwrapped = refl

-- the closings must be those of the openings: `<li><p>a</p><p>b</p></li>` has no p round all of it
abbrev two_in_one : List PlainItem
two_in_one = node Ul (node Li (node P (text (codes "a")) ++ node P (text (codes "b")))) ++ internal

not_round_all : wrap two_in_one 1 9 (unwrapping [] (Li ∷ P ∷ [])) ≡ Err (NotWrapped 7)
not_round_all = refl

too_few : wrap listed 1 11 (unwrapping (Ol ∷ Ul ∷ []) []) ≡ Err (NotWrapped 0)
too_few = refl

not_whole : wrap listed 2 6 to_list ≡ Err (BadRange 2 6)
not_whole = refl

-- a wrap under 99 nodes with a paragraph in them: one too many
abbrev nested : ℕ → List PlainItem → List PlainItem
nested n inside = replicate n (o Div) ++ (inside ++ replicate n (c Div))

abbrev deep : List PlainItem
deep = nested 99 (node P (text (codes "a"))) ++ internal

wrapped_deep : list_after deep (wrap deep 99 102 (record { unwrap_outer = []; wrap_outer = bare Div ∷ []; unwrap_each = []; wrap_each = [] }))
    ≡ Some (nested 100 (node P (text (codes "a"))) ++ internal)
wrapped_deep = refl

verdict_deep : verdict (nested 100 (node P (text (codes "a"))) ++ internal) ≡ Some (TooDeep 100)
verdict_deep = refl

-- `<p id="x">a</p>`
abbrev with_id : List PlainItem
with_id = Opening P (record { tag = []; attrs = attr (codes "id") (codes "x") ∷ []; raw = []; reference = None; owner = false }) [] [] (Some 0) false ∷ text (codes "a") ++ (c P ∷ internal)

abbrev h2_id : PlainItem
h2_id = with_attrs H2 (attr (codes "id") (codes "x") ∷ [])

converted : list_after with_id (convert with_id 0 H2) ≡ Some (h2_id ∷ text (codes "a") ++ (c H2 ∷ internal))
converted = refl

attribute_gone : attribute (h2_id ∷ text (codes "a") ++ (c H2 ∷ internal)) 0 (codes "id") None
    ≡ Ok (Attribute (record { name = codes "id"; from = Some (codes "x"); to = None; kept = Some 0 }) ∷ Retain 5 ∷ [])
attribute_gone = refl

reserved : attribute with_id 0 (codes "about") (Some (codes "y")) ≡ Err (BadAttr 0)
reserved = refl

not_opening : attribute with_id 1 (codes "id") (Some (codes "y")) ≡ Err (NotOpening 1)
not_opening = refl

not_branch : convert with_id 1 P ≡ Err (NotBranch 1)
not_branch = refl

-- an empty branch's brackets are neighbours: one replace; both are replaced even where the kind
-- stays
same_kind : convert (node P [] ++ internal) 0 P ≡ Ok (Replace (o P ∷ c P ∷ []) (o P ∷ c P ∷ []) ∷ Retain 2 ∷ [])
same_kind = refl
