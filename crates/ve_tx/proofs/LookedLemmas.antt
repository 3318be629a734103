-- Attributes that are found by name.
use Rattle.std.proofs.Common.{◌≡◌, ◌≤◌, ◌<◌, ℕ, zero, suc, ◌+◌, ◌-◌, ◌^◌, Bool, true, false, cond, if◌then◌else◌, List, [], ◌∷◌, length, drop, get_or, slice_get, Option, Some, None, refl, sym, ap, ◌∙◌, subst, arith, Bor}
use Rattle.std.specs.BTreeMap.{BTreeMap, get, IsEmpty, Updates}
use Rattle.std.specs.Map.{lookup}
use Rattle.std.specs.Ordering.{is_eq}
use Rattle.std.specs.declared.cmp.Ordering.{Ordering}
use Rattle.std.specs.declared.cmp.Ordering.TheVariants.{Less, Equal, Greater}
use Rattle.std.specs.Str.{chars, encode_utf8_all}
use Rattle.std.proofs.lemmas.Bool.Decides.{same_from_decides}
use Rattle.std.proofs.lemmas.List.{drop_more}
use Rattle.ve_base.specs.declared.attrs.Attr.{Attr}
use Rattle.ve_base.specs.declared.value.Value.{Value}
use Rattle.model_items.specs.declared.item.Item.{Item}
use Rattle.model_items.specs.Plain.{plain, plain_list}
use Rattle.model_items.specs.Same.{text_same}
use Rattle.model_items.proofs.SameLemmas.{Means-text_same}
use Rattle.model_change.specs.Attributes.{value_of}
use Rattle.model_change.specs.Fault.{first_allows}
use Rattle.ve_tx.specs.declared.op.Op.{Op}
use Rattle.ve_tx.specs.declared.op.Op.TheVariants as op
use Rattle.ve_tx.specs.declared.lookup.Search.{Search}
use Rattle.ve_tx.specs.Checked.{bad_in, change_of}
use Rattle.ve_tx.specs.Normal.{total_size}
use Rattle.ve_tx.specs.Noted.{IsEncoded}
use Rattle.ve_tx.specs.Looked.{place_from, HasPlaces}
use Rattle.ve_tx.specs.Searched.{SearchesIn, attrs_in, first_attrs}
use Rattle.ve_tx.proofs.NotedLemmas.{order, equal_texts, equal_names}

-- ---- a map that has the names of a list's end

is_equal : (o : Ordering) → is_eq o ≡ true → o ≡ Equal
is_equal Less h = cc
is_equal Equal h = refl
is_equal Greater h = cc

-- the order tells whether two names are the same
is_name : (key name : Bor (List ℕ)) → IsEncoded key → IsEncoded name → is_eq (order key name) ≡ text_same (chars key.now) (chars name.now)
is_name key name encoded encoded' =
    let s = chars key.now in
    let t = chars name.now in
    let P : List ℕ → Type 0 = λ u. text_same s u ≡ true in
    same_from_decides (is_eq (order key name)) (text_same s t)
    (λ yes. equal_texts key name (is_equal (order key name) yes), λ same. ap is_eq (equal_names key name encoded encoded' same))
    (Means-text_same.equal s t, λ same. subst P same (Means-text_same.itself s))

drop_all : {A : Type 0} (xs : List A) → drop (length xs) xs ≡ []
drop_all [] = refl
drop_all (x ∷ xs) = drop_all xs

-- an empty map has those of no attributes
pub places-none : (attrs : List Attr) (m : BTreeMap (Bor (List ℕ)) ℕ) → IsEmpty m → HasPlaces (length attrs) (drop (length attrs) attrs) m
places-none attrs m empty name encoded =
    ap (λ es. lookup (λ k. is_eq (order name k)) es) empty ∙ sym (ap (place_from (length attrs) (chars name.now)) (drop_all attrs))

-- one more, before the others
places-more : (m n : BTreeMap (Bor (List ℕ)) ℕ) (key : Bor (List ℕ)) (at : ℕ) (a : Attr) (attrs : List Attr) → IsEncoded key → chars key.now ≡ a.name →
    Updates order m n key (Some at) → HasPlaces (suc at) attrs m → HasPlaces at (a ∷ attrs) n
places-more m n key at a attrs encoded is updates has name encoded' =
    let same : is_eq (order key name) ≡ text_same a.name (chars name.now) = is_name key name encoded encoded' ∙ ap (λ s. text_same s (chars name.now)) is in
    updates.0 name ∙ ap (λ b. cond b (Some at) (get order m name)) same ∙ ap (λ found. cond (text_same a.name (chars name.now)) (Some at) found) (has name encoded')

pub places-before : (m n : BTreeMap (Bor (List ℕ)) ℕ) (key : Bor (List ℕ)) (attrs : List Attr) (i : ℕ) (a : Attr) → 0 < i → i ≤ length attrs → a ≡ get_or attrs (i - 1) a →
    key.now ≡ encode_utf8_all a.name → chars key.now ≡ a.name → Updates order m n key (Some (i - 1)) → HasPlaces i (drop i attrs) m → HasPlaces (i - 1) (drop (i - 1) attrs) n
places-before m n key attrs i a some within here bytes is updates has =
    let next : i ≡ suc (i - 1) = omega (arith, some) in
    let back : i - 1 + 1 ≡ i = omega (arith, some) in
    let rest : drop (i - 1) attrs ≡ a ∷ drop i attrs =
    drop_more attrs (i - 1) a (omega (arith, some, within)) ∙ ap (λ x. x ∷ drop (i - 1 + 1) attrs) (sym here) ∙ ap (λ k. a ∷ drop k attrs) back in
    subst (λ l. HasPlaces (i - 1) l n) (sym rest)
    (places-more m n key (i - 1) a (drop i attrs) (bytes ∙ ap encode_utf8_all (sym is)) is updates (subst (λ k. HasPlaces k (drop i attrs) m) next has))

pub places-whole : (m : BTreeMap (Bor (List ℕ)) ℕ) (attrs : List Attr) (i : ℕ) → i ≡ 0 → HasPlaces i (drop i attrs) m → HasPlaces 0 attrs m
places-whole m attrs i none has = subst (λ k. HasPlaces k (drop k attrs) m) none has

-- ---- what is found

pub found-place : (m : BTreeMap (Bor (List ℕ)) ℕ) (attrs : List Attr) (name : List ℕ) (key : Bor (List ℕ)) → HasPlaces 0 attrs m → key.now ≡ encode_utf8_all name → chars key.now ≡ name →
    get order m key ≡ place_from 0 name attrs
found-place m attrs name key has bytes is = has key (bytes ∙ ap encode_utf8_all (sym is)) ∙ ap (λ n. place_from 0 n attrs) is

record IsPlaced (at : ℕ) (name : List ℕ) (attrs : List Attr) (k : ℕ) : Type 0 where
  pub above : at ≤ k
  pub within : k < at + length attrs
  pub value : (a : Attr) → a ≡ get_or attrs (k - at) a → Some a.value ≡ value_of name attrs

placed-by : (at : ℕ) (name : List ℕ) (x : Attr) (attrs : List Attr) (k : ℕ) (b : Bool) → text_same x.name name ≡ b → (place_from (suc at) name attrs ≡ Some k → IsPlaced (suc at) name attrs k) →
    (if b then Some at else place_from (suc at) name attrs) ≡ Some k → IsPlaced at name (x ∷ attrs) k
placed-by at name x attrs k true e later h =
    let here : at ≡ k = cc in
    let none : k - at ≡ 0 = omega (arith, here) in
    record {
      above = omega (arith, here);
      within = omega (arith, here);
      value = λ a is.
          let first : a ≡ x = is ∙ ap (λ j. get_or (x ∷ attrs) j a) none in
          ap (λ (y : Attr). Some y.value) first ∙ sym (ap (λ b. if b then Some x.value else value_of name attrs) e);
    }
placed-by at name x attrs k false e later h =
    let rest = later h in
    let more : k - at ≡ suc (k - suc at) = omega (arith, rest.above) in
    record {
      above = omega (arith, rest.above);
      within = omega (arith, rest.within);
      value = λ a is.
          rest.value a (is ∙ ap (λ j. get_or (x ∷ attrs) j a) more) ∙ sym (ap (λ b. if b then Some x.value else value_of name attrs) e);
    }

placed : (at : ℕ) (name : List ℕ) (attrs : List Attr) (k : ℕ) → place_from at name attrs ≡ Some k → IsPlaced at name attrs k
placed at name [] k h = cc
placed at name (x ∷ attrs) k h = placed-by at name x attrs k (text_same x.name name) refl (placed (suc at) name attrs k) h

pub placed-within : (name : List ℕ) (attrs : List Attr) (k : ℕ) → place_from 0 name attrs ≡ Some k → k < length attrs
placed-within name attrs k h = let there = placed 0 name attrs k h in omega (arith, there.within)

pub placed-value : (name : List ℕ) (attrs : List Attr) (k : ℕ) (a : Attr) → place_from 0 name attrs ≡ Some k → a ≡ get_or attrs k a → Some a.value ≡ value_of name attrs
placed-value name attrs k a h is =
    let same : k ≡ k - 0 = omega arith in
    (placed 0 name attrs k h).value a (is ∙ ap (λ j. get_or attrs j a) same)

unplaced-by : (at : ℕ) (x : Attr) (name : List ℕ) (attrs : List Attr) (b : Bool) → (place_from (suc at) name attrs ≡ None → None ≡ value_of name attrs) →
    (if b then Some at else place_from (suc at) name attrs) ≡ None → None ≡ (if b then Some x.value else value_of name attrs)
unplaced-by at x name attrs true later h = cc
unplaced-by at x name attrs false later h = later h

pub unplaced : (at : ℕ) (name : List ℕ) (attrs : List Attr) → place_from at name attrs ≡ None → None ≡ value_of name attrs
unplaced at name [] h = refl
unplaced at name (x ∷ attrs) h = unplaced-by at x name attrs (text_same x.name name) (unplaced (suc at) name attrs) h

-- ---- the first item's attributes

pub first_attrs-at : (values : List Value) (items : List Item) (at : ℕ) (item : Item) → slice_get items at ≡ Some item →
    first_attrs (plain_list values (drop at items)) ≡ attrs_in (plain values item)
first_attrs-at values [] at item h = cc
first_attrs-at values (x ∷ items) zero item h = let same : x ≡ item = cc in ap (λ y. attrs_in (plain values y)) same
first_attrs-at values (x ∷ items) (suc at) item h = first_attrs-at values items at item h

-- ---- operations whose attributes are searched

-- how far the pass over attribute operations has come: the cursor at its position, what is still to
-- be asked, and how the attributes there are searched
pub record IsSearched (values : List Value) (items : List Item) (ops : List Op) (at i : ℕ) (search : Search) : Type 0 where
  pub within : at + total_size (drop i ops) ≤ 2 ^ 60
  pub same : bad_in values items at (drop i ops) ≡ bad_in values items 0 ops
  pub fits : SearchesIn (first_attrs (plain_list values (drop at items))) search

module _ (values : List Value) (items : List Item) (ops : List Op) (at i : ℕ) (search : Search) (o : Op) (below : i < length ops) (is : o ≡ get_or ops i o)
    (searched : IsSearched values items ops at i search) (next : ℕ) (fresh : Search) where
  rest_is : (p : Op) → o ≡ p → drop i ops ≡ p ∷ drop (i + 1) ops
  rest_is p e = drop_more ops i o below ∙ ap (λ x. x ∷ drop (i + 1) ops) (sym is) ∙ ap (λ x. x ∷ drop (i + 1) ops) e

  pub searched-retain : (count : ℕ) → o ≡ op.Retain count → next ≡ at + count → ((attrs : List Attr) → SearchesIn attrs fresh) → IsSearched values items ops next (i + 1) fresh
  searched-retain count e moved any =
      let whole = rest_is (op.Retain count) e in
      let size = ap total_size whole in
      record {
        within = omega (arith, searched.within);
        same = ap (λ n. bad_in values items n (drop (i + 1) ops)) moved ∙ ap (bad_in values items at) (sym whole) ∙ searched.same;
        fits = any (first_attrs (plain_list values (drop next items)));
      }

  pub searched-replace : (removed inserted lent : List Item) → o ≡ op.Replace removed inserted → lent ≡ removed → next ≡ at + length lent → ((attrs : List Attr) → SearchesIn attrs fresh) →
      IsSearched values items ops next (i + 1) fresh
  searched-replace removed inserted lent e same moved any =
      let whole = rest_is (op.Replace removed inserted) e in
      let size = ap total_size whole in
      let moved_on : next ≡ at + length removed = moved ∙ ap (λ l. at + length l) same in
      record {
        within = omega (arith, searched.within);
        same = ap (λ n. bad_in values items n (drop (i + 1) ops)) moved_on ∙ ap (bad_in values items at) (sym whole) ∙ searched.same;
        fits = any (first_attrs (plain_list values (drop next items)));
      }

  -- the item at the cursor allows the operation
  pub searched-attribute : (name : List ℕ) (from to : Option (List ℕ)) (may : Bool) → o ≡ op.Attribute name from to → next ≡ at →
      may ≡ first_allows (change_of name from None None) (plain_list values (drop at items)) → may ≡ true → SearchesIn (first_attrs (plain_list values (drop at items))) fresh →
      IsSearched values items ops next (i + 1) fresh
  searched-attribute name from to may e moved asked allowed fits =
      let whole = rest_is (op.Attribute name from to) e in
      let size = ap total_size whole in
      record {
        within = omega (arith, searched.within);
        same =
            ap (λ n. bad_in values items n (drop (i + 1) ops)) moved
            ∙ sym (ap (λ b. if b then bad_in values items at (drop (i + 1) ops) else Some at) (sym asked ∙ allowed))
            ∙ ap (bad_in values items at) (sym whole) ∙ searched.same;
        fits = subst (λ n. SearchesIn (first_attrs (plain_list values (drop n items))) fresh) (sym moved) fits;
      }
