-- Each test of `specs/Same.antt` is true exactly where the two are equal.
use Rattle.std.proofs.Common.{◌≡◌, ℕ, Bool, true, false, ◌&&◌, ◌==◌, List, [], ◌∷◌, Option, Some, None, refl, sym, ap, eqb-true, eq-eqb}
use Rattle.std.proofs.lemmas.Bool.{and_parts, and_from}
use denote.Enum.Bare.{same_true, true_same}
use Rattle.ve_kinds.specs.contracts.kind.Kind.{the_type}
use Rattle.ve_base.specs.declared.attrs.Attr.{Attr}
use Rattle.ve_base.specs.declared.marks.Mark.{Mark}
use Rattle.ve_base.specs.declared.head.Key.{Key}
use Rattle.ve_base.specs.declared.head.Key.TheVariants.{Named, Auto}
use Rattle.ve_base.specs.declared.head.RefKey.{RefKey}
use Rattle.ve_base.specs.declared.head.Head.{Head}
use Rattle.ve_base.specs.declared.value.Value.{Value}
use Rattle.ve_base.specs.declared.value.Value.TheVariants as value
use Rattle.model_items.specs.declared.plain_item.PlainItem.{PlainItem}
use Rattle.model_items.specs.declared.plain_item.PlainItem.TheVariants.{Char, Opening, Closing}
use Rattle.ve_kinds.specs.Table.{kind_same}
use Rattle.model_items.specs.Same.{Means, bool_same, list_same, option_same, text_same, attr_same, attrs_same, mark_same, marks_same, key_same, ref_key_same, head_same, value_same, item_same}

pub Means-nat : Means (λ (x y : ℕ). x == y)
Means-nat = record { equal = λ x y h. eqb-true x y h; itself = λ x. eq-eqb x x refl }

pub Means-kind_same : Means kind_same
Means-kind_same = record { equal = λ a b h. same_true the_type tt a b h; itself = λ a. true_same the_type a a refl }

bool_equal : (a b : Bool) → bool_same a b ≡ true → a ≡ b
bool_equal true true h = refl
bool_equal false false h = refl
bool_equal true false h = sym h
bool_equal false true h = h

bool_itself : (a : Bool) → bool_same a a ≡ true
bool_itself true = refl
bool_itself false = refl

pub Means-bool_same : Means bool_same
Means-bool_same = record { equal = bool_equal; itself = bool_itself }

module _ {A : Type 0} (same : A → A → Bool) (m : Means same) where
  list_equal : (xs ys : List A) → list_same same xs ys ≡ true → xs ≡ ys
  list_equal [] [] h = refl
  list_equal (x ∷ xs) (y ∷ ys) h =
      let p = and_parts (same x y) (list_same same xs ys) h in
      let e = m.equal x y p.0 in
      let f = list_equal xs ys p.1 in
      cc
  list_equal [] (y ∷ ys) h = cc
  list_equal (x ∷ xs) [] h = cc

  list_itself : (xs : List A) → list_same same xs xs ≡ true
  list_itself [] = refl
  list_itself (x ∷ xs) = and_from (same x x) (list_same same xs xs) (m.itself x) (list_itself xs)

  pub Means-list_same : Means (list_same same)
  Means-list_same = record { equal = list_equal; itself = list_itself }

  option_equal : (o p : Option A) → option_same same o p ≡ true → o ≡ p
  option_equal None None h = refl
  option_equal (Some x) (Some y) h = ap Some (m.equal x y h)
  option_equal None (Some y) h = cc
  option_equal (Some x) None h = cc

  option_itself : (o : Option A) → option_same same o o ≡ true
  option_itself None = refl
  option_itself (Some x) = m.itself x

  pub Means-option_same : Means (option_same same)
  Means-option_same = record { equal = option_equal; itself = option_itself }

pub Means-text_same : Means text_same
Means-text_same = Means-list_same (λ x y. x == y) Means-nat

attr_equal : (a b : Attr) → attr_same a b ≡ true → a ≡ b
attr_equal a b h =
    let p = and_parts (text_same a.name b.name) (text_same a.value b.value) h in
    let name = Means-text_same.equal a.name b.name p.0 in
    let value = Means-text_same.equal a.value b.value p.1 in
    λ i. record { name = name i; value = value i }

pub Means-attr_same : Means attr_same
Means-attr_same = record {
  equal = attr_equal;
  itself = λ a. and_from (text_same a.name a.name) (text_same a.value a.value) (Means-text_same.itself a.name) (Means-text_same.itself a.value);
}

pub Means-attrs_same : Means attrs_same
Means-attrs_same = Means-list_same attr_same Means-attr_same

mark_equal : (a b : Mark) → mark_same a b ≡ true → a ≡ b
mark_equal a b h =
    let p = and_parts (text_same a.tag b.tag) (attrs_same a.attrs b.attrs) h in
    let tag = Means-text_same.equal a.tag b.tag p.0 in
    let attrs = Means-attrs_same.equal a.attrs b.attrs p.1 in
    λ i. record { tag = tag i; attrs = attrs i }

pub Means-mark_same : Means mark_same
Means-mark_same = record {
  equal = mark_equal;
  itself = λ a. and_from (text_same a.tag a.tag) (attrs_same a.attrs a.attrs) (Means-text_same.itself a.tag) (Means-attrs_same.itself a.attrs);
}

pub Means-marks_same : Means marks_same
Means-marks_same = Means-list_same mark_same Means-mark_same

-- two tests that both pass, of four conjuncts or fewer
module _ (a b c : Bool) where
  three : (a && (b && c)) ≡ true → (a ≡ true) × (b ≡ true) × (c ≡ true)
  three h = let p = and_parts a (b && c) h in let q = and_parts b c p.1 in (p.0, q.0, q.1)

key_equal : (a b : Key) → key_same a b ≡ true → a ≡ b
key_equal (Named name) (Named name') h = ap Named (Means-text_same.equal name name' h)
key_equal (Auto n) (Auto n') h = ap Auto (eqb-true n n' h)
key_equal (Named _) (Auto _) h = cc
key_equal (Auto _) (Named _) h = cc

key_itself : (a : Key) → key_same a a ≡ true
key_itself (Named name) = Means-text_same.itself name
key_itself (Auto n) = Means-nat.itself n

ref_key_equal : (a b : RefKey) → ref_key_same a b ≡ true → a ≡ b
ref_key_equal a b h =
    let p = and_parts (text_same a.group b.group) (key_same a.key b.key) h in
    let group = Means-text_same.equal a.group b.group p.0 in
    let key = key_equal a.key b.key p.1 in
    λ i. record { group = group i; key = key i }

pub Means-ref_key_same : Means ref_key_same
Means-ref_key_same = record {
  equal = ref_key_equal;
  itself = λ a. and_from (text_same a.group a.group) (key_same a.key a.key) (Means-text_same.itself a.group) (key_itself a.key);
}

head_equal : (a b : Head) → head_same a b ≡ true → a ≡ b
head_equal a b h =
    let references = option_same ref_key_same a.reference b.reference in
    let p = three (text_same a.tag b.tag) (attrs_same a.attrs b.attrs) _ h in
    let q = three (text_same a.raw b.raw) references (bool_same a.owner b.owner) p.2 in
    let tag = Means-text_same.equal a.tag b.tag p.0 in
    let attrs = Means-attrs_same.equal a.attrs b.attrs p.1 in
    let raw = Means-text_same.equal a.raw b.raw q.0 in
    let reference = (Means-option_same ref_key_same Means-ref_key_same).equal a.reference b.reference q.1 in
    let owner = Means-bool_same.equal a.owner b.owner q.2 in
    λ i. record { tag = tag i; attrs = attrs i; raw = raw i; reference = reference i; owner = owner i }

head_itself : (a : Head) → head_same a a ≡ true
head_itself a = rw (Means-text_same.itself a.tag, Means-attrs_same.itself a.attrs, Means-text_same.itself a.raw, (Means-option_same ref_key_same Means-ref_key_same).itself a.reference, Means-bool_same.itself a.owner)

pub Means-head_same : Means head_same
Means-head_same = record { equal = head_equal; itself = head_itself }

value_equal : (v w : Value) → value_same v w ≡ true → v ≡ w
value_equal (value.White text) (value.White text') h = ap value.White (Means-text_same.equal text text' h)
value_equal (value.Marks marks) (value.Marks marks') h = ap value.Marks (Means-marks_same.equal marks marks' h)
value_equal (value.Head head) (value.Head head') h = ap value.Head (Means-head_same.equal head head' h)
value_equal (value.White _) (value.Marks _) h = cc
value_equal (value.White _) (value.Head _) h = cc
value_equal (value.Marks _) (value.White _) h = cc
value_equal (value.Marks _) (value.Head _) h = cc
value_equal (value.Head _) (value.White _) h = cc
value_equal (value.Head _) (value.Marks _) h = cc

value_itself : (v : Value) → value_same v v ≡ true
value_itself (value.White text) = Means-text_same.itself text
value_itself (value.Marks marks) = Means-marks_same.itself marks
value_itself (value.Head head) = Means-head_same.itself head

pub Means-value_same : Means value_same
Means-value_same = record { equal = value_equal; itself = value_itself }

item_equal : (x y : PlainItem) → item_same x y ≡ true → x ≡ y
item_equal (Char c marks) (Char c' marks') h =
    let p = and_parts (c == c') (marks_same marks marks') h in
    let e = eqb-true c c' p.0 in
    let f = Means-marks_same.equal marks marks' p.1 in
    cc
item_equal (Opening kind head marks pre origin generated) (Opening kind' head' marks' pre' origin' generated') h =
    let origins = option_same (λ x y. x == y) origin origin' in
    let p = and_parts (kind_same kind kind') _ h in
    let q = three (head_same head head') (marks_same marks marks') _ p.1 in
    let r = three (text_same pre pre') origins (bool_same generated generated') q.2 in
    let kinds = Means-kind_same.equal kind kind' p.0 in
    let heads = Means-head_same.equal head head' q.0 in
    let marked = Means-marks_same.equal marks marks' q.1 in
    let white = Means-text_same.equal pre pre' r.0 in
    let one = (Means-option_same (λ x y. x == y) Means-nat).equal origin origin' r.1 in
    let made = Means-bool_same.equal generated generated' r.2 in
    λ i. Opening (kinds i) (heads i) (marked i) (white i) (one i) (made i)
item_equal (Closing kind pre) (Closing kind' pre') h =
    let p = and_parts (kind_same kind kind') (text_same pre pre') h in
    let e = Means-kind_same.equal kind kind' p.0 in
    let f = Means-text_same.equal pre pre' p.1 in
    λ i. Closing (e i) (f i)
item_equal (Char _ _) (Opening _ _ _ _ _ _) h = cc
item_equal (Char _ _) (Closing _ _) h = cc
item_equal (Opening _ _ _ _ _ _) (Char _ _) h = cc
item_equal (Opening _ _ _ _ _ _) (Closing _ _) h = cc
item_equal (Closing _ _) (Char _ _) h = cc
item_equal (Closing _ _) (Opening _ _ _ _ _ _) h = cc

item_itself : (x : PlainItem) → item_same x x ≡ true
item_itself (Char c marks) = rw (Means-nat.itself c, Means-marks_same.itself marks)
item_itself (Opening kind head marks pre origin generated) =
    rw (
      Means-kind_same.itself kind,
      Means-head_same.itself head,
      Means-marks_same.itself marks,
      Means-text_same.itself pre,
      (Means-option_same (λ x y. x == y) Means-nat).itself origin,
      Means-bool_same.itself generated,
    )
item_itself (Closing kind pre) = rw (Means-kind_same.itself kind, Means-text_same.itself pre)

pub Means-item_same : Means item_same
Means-item_same = record { equal = item_equal; itself = item_itself }

pub values_are_tested : Means value_same
values_are_tested = Means-value_same

pub items_are_tested : Means item_same
items_are_tested = Means-item_same
