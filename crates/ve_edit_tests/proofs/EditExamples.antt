-- Worked edits: each tells a builder from one that is wrong in the way that is said above it.
use Rattle.std.proofs.Common.{◌≡◌, ℕ, false, List, [], ◌∷◌, ◌++◌, Some, None, refl}
use Rattle.std.specs.Prelude.{codes, Ok, Err}
use Rattle.ve_base.specs.declared.attrs.Attr.{Attr}
use Rattle.ve_base.specs.Empty.{empty_head}
use Rattle.ve_kinds.specs.declared.kind.Kind.{Kind}
use Rattle.ve_kinds.specs.declared.kind.Kind.TheVariants.{P, Ul, Ol, Li, Ref, InternalList, InternalItem}
use Rattle.model_items.specs.declared.plain_item.PlainItem.{PlainItem}
use Rattle.model_items.specs.declared.plain_item.PlainItem.TheVariants.{Opening}
use Rattle.model_change.specs.Transaction.{Retain, Replace}
use Rattle.model_edit.specs.Causes.{BadDepth, BadRange, NotWrapped}
use Rattle.model_edit.specs.declared.wrap_plan.Shape.{Shape}
use Rattle.model_edit.specs.declared.wrap_plan.WrapPlan.{WrapPlan}
use Rattle.model_edit.specs.Insert.{text_insertion, split}
use Rattle.model_edit.specs.Remove.{removal}
use Rattle.model_edit.specs.Wrap.{wrap}
use Rattle.model_edit.specs.Lists.{indent, outdent}
use Rattle.model_edit.specs.Grid.{number_after, span_by}
use Rattle.model_items.proofs.ExampleItems.{o, c, with_attrs, attr, text, plain_mark, node, internal}
use Rattle.model_edit.proofs.ExampleItems.{list_after}

abbrev p : List ℕ → List PlainItem
p cs = node P (text cs)

-- ---- copies of openings

abbrev class_y : List Attr
class_y = attr (codes "class") (codes "y") ∷ []

abbrev id_x : List Attr
id_x = attr (codes "id") (codes "x") ∷ class_y

abbrev identified : List PlainItem
identified = with_attrs P id_x ∷ text (codes "ab") ++ (c P ∷ internal)

-- a copy that keeps its id, or is the opening itself
a_copy_loses_its_id : list_after identified (split identified 2 1)
    ≡ Some (with_attrs P id_x ∷ text (codes "a") ++ (c P ∷ with_attrs P class_y ∷ text (codes "b") ++ (c P ∷ internal)))
a_copy_loses_its_id = refl

-- ---- brackets in a range

abbrev ab : List PlainItem
ab = p (codes "ab") ++ internal

-- a closing that stands right after the range, taken for one in it
an_opening_stays_whose_closing_is_past_the_range : removal ab 0 3 ≡ Ok (Retain 1 ∷ Replace (text (codes "ab")) [] ∷ Retain 3 ∷ [])
an_opening_stays_whose_closing_is_past_the_range = refl

-- ---- insertion and split

abbrev referenced : List PlainItem
referenced = node P (text (codes "a") ++ node Ref []) ++ node InternalList (node InternalItem (p (codes "xy")))

-- a split that takes an internal item in two
internal_items_are_not_split : split referenced 9 2 ≡ Err (BadDepth 2)
internal_items_are_not_split = refl

-- text that takes the marks of the opening before it
an_opening_has_no_marks_for_text :
    text_insertion (Opening P empty_head (plain_mark (codes "b") ∷ []) [] None false ∷ c P ∷ internal) 1 (codes "x")
    ≡ Ok (Retain 1 ∷ Replace [] (text (codes "x")) ∷ Retain 3 ∷ [])
an_opening_has_no_marks_for_text = refl

-- ---- wraps

abbrev two : List PlainItem
two = p (codes "a") ++ (p (codes "b") ++ internal)

abbrev bare : Kind → Shape
bare k = record { kind = k; attrs = [] }

abbrev outer : List Shape → WrapPlan
outer shapes = record { unwrap_outer = []; wrap_outer = shapes; unwrap_each = []; wrap_each = [] }

-- a shape that loses its attributes
shapes_keep_attributes : wrap two 0 6 (outer (record { kind = Ul; attrs = class_y } ∷ []))
    ≡ Ok (Replace [] (with_attrs Ul class_y ∷ []) ∷ Retain 6 ∷ Replace [] (c Ul ∷ []) ∷ Retain 2 ∷ [])
shapes_keep_attributes = refl

-- shapes that are closed in the order in which they were opened
the_innermost_is_closed_first : wrap two 0 6 (outer (bare Ul ∷ bare Li ∷ []))
    ≡ Ok (Replace [] (o Ul ∷ o Li ∷ []) ∷ Retain 6 ∷ Replace [] (c Li ∷ c Ul ∷ []) ∷ Retain 2 ∷ [])
the_innermost_is_closed_first = refl

-- characters, or the internal list, that are wrapped
content_is_not_wrapped : wrap ab 1 2 (outer (bare Ul ∷ [])) ≡ Err (BadRange 1 2)
content_is_not_wrapped = refl

internal_lists_are_not_wrapped : wrap ab 4 6 (outer (bare Ul ∷ [])) ≡ Err (BadRange 4 6)
internal_lists_are_not_wrapped = refl

abbrev listed : List PlainItem
listed = node Ul (node Li (p (codes "a")) ++ node Li (p (codes "b"))) ++ internal

-- the last wrong node named in the place of the first
the_first_wrong_node_is_named :
    wrap listed 1 11 (record { unwrap_outer = []; wrap_outer = []; unwrap_each = Ol ∷ []; wrap_each = [] }) ≡ Err (NotWrapped 1)
the_first_wrong_node_is_named = refl

-- ---- lists

-- an item of an ordered list that joins an unordered one
abbrev mixed : List PlainItem
mixed = node Ol (node Li (p (codes "a") ++ node Ul (node Li (p (codes "b")))) ++ node Li (p (codes "c"))) ++ internal

lists_of_another_kind_are_not_joined : list_after mixed (indent mixed 13)
    ≡ Some (node Ol (node Li (p (codes "a") ++ (node Ul (node Li (p (codes "b"))) ++ node Ol (node Li (p (codes "c")))))) ++ internal)
lists_of_another_kind_are_not_joined = refl

-- what follows an item that moves out stands in a copy of its list, without the id
abbrev followed : List PlainItem
followed =
    node Ul (o Li ∷ p (codes "a") ++ (with_attrs Ul id_x ∷ node Li (p (codes "b")) ++ (node Li (p (codes "c")) ++ (c Ul ∷ c Li ∷ []))))
    ++ internal

copied_lists_lose_their_id : list_after followed (outdent followed 6)
    ≡ Some (node Ul (node Li (p (codes "a"))
    ++ (o Li ∷ p (codes "b") ++ (with_attrs Ul class_y ∷ node Li (p (codes "c")) ++ (c Ul ∷ c Li ∷ [])))) ++ internal)
copied_lists_lose_their_id = refl

-- ---- spans

-- digits read as octal, and a greatest span that counts as none
spans_are_decimal : span_by 1000 (number_after 0 (codes "12")) ≡ 12
spans_are_decimal = refl

the_greatest_span_counts : span_by 12 (number_after 0 (codes "12")) ≡ 12
the_greatest_span_counts = refl
