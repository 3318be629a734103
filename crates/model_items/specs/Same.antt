-- Tests of equality for items and what they are made of. Each means equality: it is true exactly of
-- equals.
use Rattle.std.specs.Prelude.{◌≡◌, ℕ, Bool, true, false, ◌&&◌, ◌==◌, List, [], ◌∷◌, Option, Some, None}
use Rattle.ve_kinds.specs.Table.{kind_same}
use Rattle.ve_base.specs.declared.attrs.Attr.{Attr}
use Rattle.ve_base.specs.declared.marks.Mark.{Mark}
use Rattle.ve_base.specs.declared.head.Key.{Key}
use Rattle.ve_base.specs.declared.head.Key.TheVariants.{Named, Auto}
use Rattle.ve_base.specs.declared.head.RefKey.{RefKey}
use Rattle.ve_base.specs.declared.head.Head.{Head}
use Rattle.ve_base.specs.declared.value.Value.{Value}
use Rattle.ve_base.specs.declared.value.Value.TheVariants as value
use Rattle.model_items.specs.declared.plain_item.PlainItem.{PlainItem}
use Rattle.model_items.specs.declared.plain_item.PlainItem.TheVariants.{Char, Opening, Closing}

abbrev pub bool_same : Bool → Bool → Bool
bool_same true b = b
bool_same false true = false
bool_same false false = true

-- of one length, and alike position by position
abbrev pub list_same : {A : Type 0} → (A → A → Bool) → List A → List A → Bool
list_same same [] [] = true
list_same same (x ∷ xs) (y ∷ ys) = same x y && list_same same xs ys
list_same same [] (y ∷ ys) = false
list_same same (x ∷ xs) [] = false

abbrev pub option_same : {A : Type 0} → (A → A → Bool) → Option A → Option A → Bool
option_same same None None = true
option_same same (Some x) (Some y) = same x y
option_same same None (Some y) = false
option_same same (Some x) None = false

abbrev pub text_same : List ℕ → List ℕ → Bool
text_same s t = list_same (λ x y. x == y) s t

abbrev pub attr_same : Attr → Attr → Bool
attr_same a b = text_same a.name b.name && text_same a.value b.value

abbrev pub attrs_same : List Attr → List Attr → Bool
attrs_same = list_same attr_same

abbrev pub mark_same : Mark → Mark → Bool
mark_same m n = text_same m.tag n.tag && attrs_same m.attrs n.attrs

abbrev pub marks_same : List Mark → List Mark → Bool
marks_same = list_same mark_same

abbrev pub key_same : Key → Key → Bool
key_same (Named name) (Named name') = text_same name name'
key_same (Auto n) (Auto n') = n == n'
key_same _ _ = false

abbrev pub ref_key_same : RefKey → RefKey → Bool
ref_key_same a b = text_same a.group b.group && key_same a.key b.key

abbrev pub head_same : Head → Head → Bool
head_same h k =
    text_same h.tag k.tag
    && (attrs_same h.attrs k.attrs
    && (text_same h.raw k.raw
    && (option_same ref_key_same h.reference k.reference && bool_same h.owner k.owner)))

abbrev pub value_same : Value → Value → Bool
value_same (value.White text) (value.White text') = text_same text text'
value_same (value.Marks marks) (value.Marks marks') = marks_same marks marks'
value_same (value.Head head) (value.Head head') = head_same head head'
value_same _ _ = false

abbrev pub item_same : PlainItem → PlainItem → Bool
item_same (Char c marks) (Char c' marks') = (c == c') && marks_same marks marks'
item_same (Opening kind head marks pre origin generated) (Opening kind' head' marks' pre' origin' generated') =
    kind_same kind kind'
    && (head_same head head'
    && (marks_same marks marks'
    && (text_same pre pre'
    && (option_same (λ x y. x == y) origin origin' && bool_same generated generated'))))
item_same (Closing kind pre) (Closing kind' pre') = kind_same kind kind' && text_same pre pre'
item_same _ _ = false

-- The test means equality: where it is true the two are equal, and it is true of each with itself.
pub record Means {A : Type 0} (same : A → A → Bool) : Type 0 where
  pub equal : (x y : A) → same x y ≡ true → x ≡ y
  pub itself : (x : A) → same x x ≡ true
