-- Items stay as they are where values that they don't cite are cut off.
use Rattle.std.proofs.Common.{◌≡◌, ◌≢◌, ℕ, zero, suc, if◌then◌else◌, List, [], ◌∷◌, ◌++◌, take, slice_get, All, Contains, Option, Some, None, refl, sym, ap, ◌∙◌, subst, arith, inl, inr}
use Rattle.std.proofs.lemmas.Bool.{cases_Bool}
use Rattle.std.proofs.lemmas.List.Elements.{All-nil, All-cons, All-head, All-tail, Contains-append_left, Contains-append_right}
use Rattle.std.proofs.lemmas.Option.{slice_get-get_or}
use Rattle.ve_base.specs.Empty.{empty_head}
use Rattle.ve_base.specs.declared.head.Head.{Head}
use Rattle.ve_base.specs.declared.marks.Mark.{Mark}
use Rattle.ve_base.specs.declared.value.Value.{Value}
use Rattle.ve_base.specs.declared.value.Value.TheVariants as value
use Rattle.ve_base.specs.declared.value.ValueId.{ValueId}
use Rattle.model_items.specs.declared.item.Item.{Item}
use Rattle.model_items.specs.declared.item.Item.TheVariants as item
use Rattle.model_items.specs.declared.plain_item.PlainItem.TheVariants.{Char, Opening, Closing}
use Rattle.model_items.specs.Plain.{plain, plain_list, value_at, head_in, marks_in, white_in, CitesHead, CitesMarks, CitesWhite, CitesWell, AreDistinct}
use Rattle.model_items.specs.Same.{head_same}
use Rattle.model_items.proofs.SameLemmas.{Means-head_same}
use Rattle.model_change.specs.Store.{cited, cited_by, head_cited, marks_cited, white_cited}

first_of : (v : Value) (vs : List Value) → Contains (v ∷ vs) v
first_of v vs = (0, omega arith, refl)

-- a value that is kept stood at its position
taken_is : (values : List Value) (n i : ℕ) (v : Value) → slice_get (take n values) i ≡ Some v → slice_get values i ≡ Some v
taken_is [] zero i v h = cc
taken_is [] (suc n) i v h = cc
taken_is (x ∷ values) zero i v h = cc
taken_is (x ∷ values) (suc n) zero v h = h
taken_is (x ∷ values) (suc n) (suc i) v h = taken_is values n i v h

pub head_once : (head : Head) → head ≢ empty_head → head_cited head ≡ value.Head head ∷ []
head_once head some =
    elim (cases_Bool (head_same head empty_head)) [
      | inl same ↦ absurd (some (Means-head_same.equal head empty_head same))
      | inr other ↦ ap (λ b. if b then [] else value.Head head ∷ []) other
    ]

pub marks_once : (marks : List Mark) → marks ≢ [] → marks_cited marks ≡ value.Marks marks ∷ []
marks_once [] some = absurd (some refl)
marks_once (m ∷ ms) some = refl

pub white_once : (text : List ℕ) → text ≢ [] → white_cited text ≡ value.White text ∷ []
white_once [] some = absurd (some refl)
white_once (c ∷ cs) some = refl

module _ (values : List Value) (n : ℕ) (distinct : AreDistinct values) where
  -- a value that is kept is kept at its position
  still_at : (i : ℕ) (v : Value) → Contains (take n values) v → slice_get values i ≡ Some v → slice_get (take n values) i ≡ Some v
  still_at i v kept there =
      let at : slice_get (take n values) kept.0 ≡ Some v = slice_get-get_or (take n values) kept.0 v kept.1 ∙ ap Some kept.2 in
      let same : kept.0 ≡ i = distinct kept.0 i v (taken_is values n kept.0 v at) there in
      subst (λ j. slice_get (take n values) j ≡ Some v) same at

  abbrev AllKept : List Value → Type 0
  AllKept vs = (v : Value) → Contains vs v → Contains (take n values) v

  cut_head : (id : Option ValueId) → CitesHead values id → AllKept (head_cited (head_in (value_at values id))) → CitesHead (take n values) id × (value_at (take n values) id ≡ value_at values id)
  cut_head None p h = (tt, refl)
  cut_head (Some id) p h =
      let one : head_cited (head_in (value_at values (Some id))) ≡ value.Head p.0 ∷ [] = ap (λ v. head_cited (head_in v)) p.1 ∙ head_once p.0 p.2 in
      let at = still_at id.0 (value.Head p.0) (h (value.Head p.0) (subst (λ l. Contains l (value.Head p.0)) (sym one) (first_of (value.Head p.0) []))) p.1 in
      ((p.0, at, p.2), at ∙ sym p.1)

  cut_marks : (id : Option ValueId) → CitesMarks values id → AllKept (marks_cited (marks_in (value_at values id))) → CitesMarks (take n values) id × (value_at (take n values) id ≡ value_at values id)
  cut_marks None p h = (tt, refl)
  cut_marks (Some id) p h =
      let one : marks_cited (marks_in (value_at values (Some id))) ≡ value.Marks p.0 ∷ [] = ap (λ v. marks_cited (marks_in v)) p.1 ∙ marks_once p.0 p.2 in
      let at = still_at id.0 (value.Marks p.0) (h (value.Marks p.0) (subst (λ l. Contains l (value.Marks p.0)) (sym one) (first_of (value.Marks p.0) []))) p.1 in
      ((p.0, at, p.2), at ∙ sym p.1)

  cut_white : (id : Option ValueId) → CitesWhite values id → AllKept (white_cited (white_in (value_at values id))) → CitesWhite (take n values) id × (value_at (take n values) id ≡ value_at values id)
  cut_white None p h = (tt, refl)
  cut_white (Some id) p h =
      let one : white_cited (white_in (value_at values (Some id))) ≡ value.White p.0 ∷ [] = ap (λ v. white_cited (white_in v)) p.1 ∙ white_once p.0 p.2 in
      let at = still_at id.0 (value.White p.0) (h (value.White p.0) (subst (λ l. Contains l (value.White p.0)) (sym one) (first_of (value.White p.0) []))) p.1 in
      ((p.0, at, p.2), at ∙ sym p.1)

  cut_item : (x : Item) → CitesWell values x → AllKept (cited_by (plain values x)) → CitesWell (take n values) x × (plain (take n values) x ≡ plain values x)
  cut_item (item.Char ch marks) p h = let m = cut_marks marks p h in (m.0, ap (λ v. Char ch (marks_in v)) m.1)
  cut_item (item.Opening kind generated head marks pre origin) p h =
      let a = head_cited (head_in (value_at values head)) in
      let b = marks_cited (marks_in (value_at values marks)) in
      let c = white_cited (white_in (value_at values pre)) in
      let hd = cut_head head p.0 (λ v within. h v (Contains-append_left a (b ++ c) v within)) in
      let mk = cut_marks marks p.1 (λ v within. h v (Contains-append_right a (b ++ c) v (Contains-append_left b c v within))) in
      let wh = cut_white pre p.2 (λ v within. h v (Contains-append_right a (b ++ c) v (Contains-append_right b c v within))) in
      let e = hd.1 in let f = mk.1 in let g = wh.1 in
      ((hd.0, mk.0, wh.0), λ i. Opening kind (head_in (e i)) (marks_in (f i)) (white_in (g i)) origin generated)
  cut_item (item.Closing kind pre) p h = let w = cut_white pre p h in (w.0, ap (λ v. Closing kind (white_in v)) w.1)

  -- all items
  pub cut_list : (xs : List Item) → All (CitesWell values) xs → AllKept (cited (plain_list values xs)) → All (CitesWell (take n values)) xs × (plain_list (take n values) xs ≡ plain_list values xs)
  cut_list [] a h = (All-nil (CitesWell (take n values)), refl)
  cut_list (x ∷ xs) a h =
      let here = cited_by (plain values x) in
      let later = cited (plain_list values xs) in
      let one = cut_item x (All-head (CitesWell values) x xs a) (λ v within. h v (Contains-append_left here later v within)) in
      let rest = cut_list xs (All-tail (CitesWell values) x xs a) (λ v within. h v (Contains-append_right here later v within)) in
      let e = one.1 in let f = rest.1 in
      (All-cons (CitesWell (take n values)) x xs one.0 rest.0, λ i. e i ∷ f i)
