-- That parcels are equal, as they are compared, means that they have one effect.
use Rattle.std.proofs.Common.{◌≡◌, ◌==◌, ℕ, Bool, true, false, not, ◌&&◌, if◌then◌else◌, List, [], ◌∷◌, map, All, Option, Some, None, is_some, refl, sym, ap, ◌∙◌, subst}
use Rattle.std.proofs.lemmas.Bool.{and_from, and_parts}
use Rattle.std.proofs.lemmas.List.Elements.{All-cons, All-head, All-nil, All-tail}
use Rattle.std.proofs.lemmas.Option.{slice_get_within}
use Rattle.ve_base.specs.declared.value.Value.{Value}
use Rattle.ve_base.specs.declared.value.Value.TheVariants as value
use Rattle.ve_base.specs.declared.value.ValueId.{ValueId}
use Rattle.model_items.specs.declared.item.Item.{Item}
use Rattle.model_items.specs.declared.item.Item.TheVariants as item
use Rattle.model_items.specs.declared.plain_item.PlainItem.{PlainItem}
use Rattle.model_items.specs.declared.plain_item.PlainItem.TheVariants as plain_item
use Rattle.model_items.specs.Plain.{CitesHead, CitesMarks, CitesWell, CitesWhite, head_in, marks_in, plain, value_at, white_in}
use Rattle.model_items.specs.Same.{item_same, list_same, option_same, text_same}
use Rattle.model_items.proofs.SameLemmas.{Means-item_same, Means-nat, Means-option_same, Means-text_same}
use Rattle.model_change.specs.Attributes.{AttrChange}
use Rattle.model_site.specs.Live.{all_alike, change_alike, op_alike}
use Rattle.ve_tx.specs.Cites.{OperationCites, TxCites}
use Rattle.ve_tx.specs.Copied.{Stands}
use Rattle.ve_tx.specs.Operation.{Operation, Retain, Replace, Attribute, by_value, operation_by_value}
use Rattle.ve_peer_undo.specs.Alike.{AreCited, OpIsCited, Seen, SeenOp, seen, seen_op, seen_tx, settled}
use Rattle.ve_peer_undo.specs.Alike as alike

-- ---- what is compared tells what is asked

-- the test passes exactly where these are equal
abbrev Tells : Bool → {S : Type 0} → S → S → Type 0
Tells test s t = (test ≡ true → s ≡ t) × (s ≡ t → test ≡ true)

module _ {A B C S : Type 0} (same : C → C → Bool) (f : A → C) (g : B → C) (s : A → S) (t : B → S) (P : A → Type 0) (Q : B → Type 0)
    (each : (x : A) (y : B) → P x → Q y → Tells (same (f x) (g y)) (s x) (t y)) where
  lists_told : (xs : List A) (ys : List B) → All P xs → All Q ys → Tells (list_same same (map f xs) (map g ys)) (map s xs) (map t ys)
  lists_told [] [] p q = (λ h. refl, λ h. refl)
  lists_told [] (y ∷ ys) p q = (λ h. absurd (cc), λ h. absurd (cc))
  lists_told (x ∷ xs) [] p q = (λ h. absurd (cc), λ h. absurd (cc))
  lists_told (x ∷ xs) (y ∷ ys) p q =
      let one = each x y (All-head P x xs p) (All-head Q y ys q) in
      let rest = lists_told xs ys (All-tail P x xs p) (All-tail Q y ys q) in (
        λ h.
            let two = and_parts (same (f x) (g y)) (list_same same (map f xs) (map g ys)) h in
            ap (λ z. z ∷ map s xs) (one.0 two.0) ∙ ap (λ zs. t y ∷ zs) (rest.0 two.1),
        λ h.
            let first : s x ≡ t y = cc in
            let others : map s xs ≡ map t ys = cc in
            and_from (same (f x) (g y)) (list_same same (map f xs) (map g ys)) (one.1 first) (rest.1 others),
      )

-- ---- items

marks_told : (V W : List Value) (a b : Option ValueId) → CitesMarks V a → CitesMarks W b → marks_in (value_at V a) ≡ marks_in (value_at W b) →
    value_at V a ≡ value_at W b
marks_told V W None None c d h = refl
marks_told V W None (Some id) c d h = absurd (d.2 (sym (ap marks_in d.1) ∙ sym h))
marks_told V W (Some id) None c d h = absurd (c.2 (sym (ap marks_in c.1) ∙ h))
marks_told V W (Some id) (Some other) c d h =
    c.1 ∙ (ap (λ m. Some (value.Marks m)) (sym (ap marks_in c.1) ∙ (h ∙ ap marks_in d.1)) ∙ sym d.1)

head_told : (V W : List Value) (a b : Option ValueId) → CitesHead V a → CitesHead W b → head_in (value_at V a) ≡ head_in (value_at W b) →
    value_at V a ≡ value_at W b
head_told V W None None c d h = refl
head_told V W None (Some id) c d h = absurd (d.2 (sym (ap head_in d.1) ∙ sym h))
head_told V W (Some id) None c d h = absurd (c.2 (sym (ap head_in c.1) ∙ h))
head_told V W (Some id) (Some other) c d h =
    c.1 ∙ (ap (λ m. Some (value.Head m)) (sym (ap head_in c.1) ∙ (h ∙ ap head_in d.1)) ∙ sym d.1)

white_told : (V W : List Value) (a b : Option ValueId) → CitesWhite V a → CitesWhite W b → white_in (value_at V a) ≡ white_in (value_at W b) →
    value_at V a ≡ value_at W b
white_told V W None None c d h = refl
white_told V W None (Some id) c d h = absurd (d.2 (sym (ap white_in d.1) ∙ sym h))
white_told V W (Some id) None c d h = absurd (c.2 (sym (ap white_in c.1) ∙ h))
white_told V W (Some id) (Some other) c d h =
    c.1 ∙ (ap (λ m. Some (value.White m)) (sym (ap white_in c.1) ∙ (h ∙ ap white_in d.1)) ∙ sym d.1)

abbrev read : Seen → PlainItem
read (alike.Char ch marks) = plain_item.Char ch (marks_in marks)
read (alike.Opening kind generated head marks pre origin) = plain_item.Opening kind (head_in head) (marks_in marks) (white_in pre) origin generated
read (alike.Closing kind pre) = plain_item.Closing kind (white_in pre)

read_seen : (V : List Value) (x : Item) → read (seen V x) ≡ plain V x
read_seen V (item.Char ch marks) = refl
read_seen V (item.Opening kind generated head marks pre origin) = refl
read_seen V (item.Closing kind pre) = refl

seen_told : (V W : List Value) (x y : Item) → CitesWell V x → CitesWell W y → plain V x ≡ plain W y → seen V x ≡ seen W y
seen_told V W (item.Char ch m) (item.Char ch' m') c d h =
    let a : ch ≡ ch' = cc in
    let e : marks_in (value_at V m) ≡ marks_in (value_at W m') = cc in
    ap (λ z. alike.Char z (value_at V m)) a ∙ ap (λ z. alike.Char ch' z) (marks_told V W m m' c d e)
seen_told V W (item.Opening kind generated head m pre origin) (item.Opening kind' generated' head' m' pre' origin') c d h =
    let a : kind ≡ kind' = cc in
    let b : generated ≡ generated' = cc in
    let o : origin ≡ origin' = cc in
    let heads : head_in (value_at V head) ≡ head_in (value_at W head') = cc in
    let marks : marks_in (value_at V m) ≡ marks_in (value_at W m') = cc in
    let whites : white_in (value_at V pre) ≡ white_in (value_at W pre') = cc in
    let p = head_told V W head head' c.0 d.0 heads in
    let q = marks_told V W m m' c.1 d.1 marks in
    let r = white_told V W pre pre' c.2 d.2 whites in
    λ i. alike.Opening (a i) (b i) (p i) (q i) (r i) (o i)
seen_told V W (item.Closing kind pre) (item.Closing kind' pre') c d h =
    let a : kind ≡ kind' = cc in
    let e : white_in (value_at V pre) ≡ white_in (value_at W pre') = cc in
    ap (λ z. alike.Closing z (value_at V pre)) a ∙ ap (λ z. alike.Closing kind' z) (white_told V W pre pre' c d e)
seen_told V W (item.Char ch m) (item.Opening kind generated head marks pre origin) c d h = absurd (cc)
seen_told V W (item.Char ch m) (item.Closing kind pre) c d h = absurd (cc)
seen_told V W (item.Opening kind generated head marks pre origin) (item.Char ch m) c d h = absurd (cc)
seen_told V W (item.Opening kind generated head marks pre origin) (item.Closing kind' pre') c d h = absurd (cc)
seen_told V W (item.Closing kind pre) (item.Char ch m) c d h = absurd (cc)
seen_told V W (item.Closing kind pre) (item.Opening kind' generated head marks pre' origin) c d h = absurd (cc)

items_told : (V W : List Value) (x y : Item) → CitesWell V x → CitesWell W y → Tells (item_same (plain V x) (plain W y)) (seen V x) (seen W y)
items_told V W x y c d = (
  λ h. seen_told V W x y c d (Means-item_same.equal (plain V x) (plain W y) h),
  λ h.
      let same : plain V x ≡ plain W y = sym (read_seen V x) ∙ (ap read h ∙ read_seen W y) in
      subst (λ z. item_same (plain V x) z ≡ true) same (Means-item_same.itself (plain V x)),
)

-- ---- operations

kept_told : (b : Bool) (k l : Option ℕ) → Tells (if b then true else option_same (λ x y. x == y) k l) (if b then None else k) (if b then None else l)
kept_told true k l = (λ h. refl, λ h. refl)
kept_told false k l = (
  λ h. (Means-option_same (λ x y. x == y) Means-nat).equal k l h,
  λ h. subst (λ z. option_same (λ x y. x == y) k z ≡ true) h ((Means-option_same (λ x y. x == y) Means-nat).itself k),
)

abbrev removes : AttrChange → Bool
removes c = is_some c.from && not (is_some c.to)

changes_told : (c d : AttrChange) → Tells (change_alike c d) (alike.Changed (settled c)) (alike.Changed (settled d))
changes_told c d =
    let texts = Means-option_same text_same Means-text_same in (
      λ h.
          let p = and_parts (text_same c.name d.name) _ h in
          let q = and_parts (option_same text_same c.from d.from) _ p.1 in
          let r = and_parts (option_same text_same c.to d.to) _ q.1 in
          let name = Means-text_same.equal c.name d.name p.0 in
          let from = texts.equal c.from d.from q.0 in
          let to = texts.equal c.to d.to r.0 in
          let removed : removes c ≡ removes d = λ i. is_some (from i) && not (is_some (to i)) in
          let kept = (kept_told (removes c) c.kept d.kept).0 r.1 ∙ ap (λ b. if b then None else d.kept) removed in
          λ i. alike.Changed (record { name = name i; from = from i; to = to i; kept = kept i }),
      λ h.
          let e : settled c ≡ settled d = ap (λ o. change_of o) h in
          let name : c.name ≡ d.name = ap (λ (x : AttrChange). x.name) e in
          let from : c.from ≡ d.from = ap (λ (x : AttrChange). x.from) e in
          let to : c.to ≡ d.to = ap (λ (x : AttrChange). x.to) e in
          let removed : removes c ≡ removes d = λ i. is_some (from i) && not (is_some (to i)) in
          let kept = ap (λ (x : AttrChange). x.kept) e ∙ ap (λ b. if b then None else d.kept) (sym removed) in
          and_from (text_same c.name d.name) _ (subst (λ z. text_same c.name z ≡ true) name (Means-text_same.itself c.name))
          (and_from (option_same text_same c.from d.from) _ (subst (λ z. option_same text_same c.from z ≡ true) from (texts.itself c.from))
          (and_from (option_same text_same c.to d.to) _ (subst (λ z. option_same text_same c.to z ≡ true) to (texts.itself c.to)) ((kept_told (removes c) c.kept d.kept).1 kept))),
    )
  where
    change_of : SeenOp → AttrChange
    change_of (alike.Changed change) = change
    change_of (alike.Retained count) = settled c
    change_of (alike.Replaced removed inserted) = settled c

ops_told : (V W : List Value) (x y : Operation) → OperationCites V x → OperationCites W y →
    Tells (op_alike (operation_by_value V x) (operation_by_value W y)) (seen_op V x) (seen_op W y)
ops_told V W (Retain m) (Retain n) c d = (λ h. ap (λ z. alike.Retained z) (Means-nat.equal m n h), λ h. let e : m ≡ n = cc in subst (λ z. (m == z) ≡ true) e (Means-nat.itself m))
ops_told V W (Replace removed inserted) (Replace removed' inserted') c d =
    let all = lists_told item_same (plain V) (plain W) (seen V) (seen W) (CitesWell V) (CitesWell W) (items_told V W) in
    let out = all removed removed' c.0 d.0 in
    let in_ = all inserted inserted' c.1 d.1 in (
      λ h.
          let two = and_parts (list_same item_same (map (plain V) removed) (map (plain W) removed')) _ h in
          ap (λ z. alike.Replaced z (map (seen V) inserted)) (out.0 two.0) ∙ ap (λ z. alike.Replaced (map (seen W) removed') z) (in_.0 two.1),
      λ h.
          let e : map (seen V) removed ≡ map (seen W) removed' = cc in
          let f : map (seen V) inserted ≡ map (seen W) inserted' = cc in
          and_from (list_same item_same (map (plain V) removed) (map (plain W) removed')) _ (out.1 e) (in_.1 f),
    )
ops_told V W (Attribute c) (Attribute d) a b = changes_told c d
ops_told V W (Retain m) (Replace removed inserted) c d = (λ h. absurd (cc), λ h. absurd (cc))
ops_told V W (Retain m) (Attribute change) c d = (λ h. absurd (cc), λ h. absurd (cc))
ops_told V W (Replace removed inserted) (Retain n) c d = (λ h. absurd (cc), λ h. absurd (cc))
ops_told V W (Replace removed inserted) (Attribute change) c d = (λ h. absurd (cc), λ h. absurd (cc))
ops_told V W (Attribute change) (Retain n) c d = (λ h. absurd (cc), λ h. absurd (cc))
ops_told V W (Attribute change) (Replace removed inserted) c d = (λ h. absurd (cc), λ h. absurd (cc))

-- ---- transactions

one_test : (r t : Bool) {S : Type 0} (a b : S) → Tells r a b → Tells t a b → r ≡ t
one_test true true a b h k = refl
one_test false false a b h k = refl
one_test true false a b h k = sym (k.1 (h.0 refl))
one_test false true a b h k = h.1 (k.0 refl)

effect_told : (V W : List Value) (ts us : List (List Operation)) (r : Bool) → All (TxCites V) ts → All (TxCites W) us →
    Tells r (map (seen_tx V) ts) (map (seen_tx W) us) → r ≡ all_alike (map (by_value V) ts) (map (by_value W) us)
effect_told V W ts us r c d told =
    let one = lists_told op_alike (operation_by_value V) (operation_by_value W) (seen_op V) (seen_op W) (OperationCites V) (OperationCites W) (ops_told V W) in
    one_test r (all_alike (map (by_value V) ts) (map (by_value W) us)) _ _ told
    (lists_told (list_same op_alike) (by_value V) (by_value W) (seen_tx V) (seen_tx W) (TxCites V) (TxCites W) one ts us c d)

-- the same of what is lent
pub lent_told : (V V' W W' : List Value) (ts ts' us us' : List (List Operation)) (r : Bool) → V' ≡ V → ts' ≡ ts → W' ≡ W → us' ≡ us →
    All (TxCites V) ts → All (TxCites W) us → Tells r (map (seen_tx V') ts') (map (seen_tx W') us') → r ≡ all_alike (map (by_value V) ts) (map (by_value W) us)
lent_told V V' W W' ts ts' us us' r v t w u c d told =
    let one : map (seen_tx V') ts' ≡ map (seen_tx V) ts = λ i. map (seen_tx (v i)) (t i) in
    let other : map (seen_tx W') us' ≡ map (seen_tx W) us = λ i. map (seen_tx (w i)) (u i) in
    effect_told V W ts us r c d (subst (λ z. Tells r (map (seen_tx V) ts) z) other (subst (λ z. Tells r z (map (seen_tx W') us')) one told))

-- ---- what is cited stands in the list

marks_stand : (V : List Value) (a : Option ValueId) → CitesMarks V a → Stands V a
marks_stand V None c = tt
marks_stand V (Some id) c = slice_get_within V id.0 (value.Marks c.0) c.1

head_stands : (V : List Value) (a : Option ValueId) → CitesHead V a → Stands V a
head_stands V None c = tt
head_stands V (Some id) c = slice_get_within V id.0 (value.Head c.0) c.1

white_stands : (V : List Value) (a : Option ValueId) → CitesWhite V a → Stands V a
white_stands V None c = tt
white_stands V (Some id) c = slice_get_within V id.0 (value.White c.0) c.1

item_stands : (V : List Value) (x : Item) → CitesWell V x → AreCited V x
item_stands V (item.Char ch marks) c = marks_stand V marks c
item_stands V (item.Opening kind generated head marks pre origin) c = (head_stands V head c.0, marks_stand V marks c.1, white_stands V pre c.2)
item_stands V (item.Closing kind pre) c = white_stands V pre c

all_stand : {A : Type 0} (P Q : A → Type 0) → ((x : A) → P x → Q x) → (xs : List A) → All P xs → All Q xs
all_stand P Q each [] p = All-nil Q
all_stand P Q each (x ∷ xs) p = All-cons Q x xs (each x (All-head P x xs p)) (all_stand P Q each xs (All-tail P x xs p))

op_stands : (V : List Value) (o : Operation) → OperationCites V o → OpIsCited V o
op_stands V (Retain count) c = tt
op_stands V (Replace removed inserted) c =
    (all_stand (CitesWell V) (AreCited V) (item_stands V) removed c.0, all_stand (CitesWell V) (AreCited V) (item_stands V) inserted c.1)
op_stands V (Attribute change) c = tt

txs_stand : (V : List Value) (ts : List (List Operation)) → All (TxCites V) ts → All (All (OpIsCited V)) ts
txs_stand V ts c = all_stand (TxCites V) (All (OpIsCited V)) (all_stand (OperationCites V) (OpIsCited V) (op_stands V)) ts c

pub lent_stand : (V V' : List Value) (ts ts' : List (List Operation)) → V' ≡ V → ts' ≡ ts → All (TxCites V) ts → All (All (OpIsCited V')) ts'
lent_stand V V' ts ts' v t c =
    subst (λ us. All (All (OpIsCited V')) us) (sym t) (subst (λ W. All (All (OpIsCited W)) ts) (sym v) (txs_stand V ts c))
