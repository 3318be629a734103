-- Attributes without one name, and values that are there already.
use Rattle.std.proofs.Common.{◌≡◌, ◌≢◌, ◌<◌, ℕ, ◌+◌, Bool, true, false, not, cond, if◌then◌else◌, List, [], ◌∷◌, ◌++◌, length, take, get_or, slice_get, filter, Contains, Option, Some, None, codes, refl, sym, ap, ◌∙◌, subst, inl, inr, append-nil, arith}
use Rattle.std.specs.Bool.{Decides}
use Rattle.std.specs.Str.{chars}
use Rattle.std.proofs.lemmas.Bool.Decides.{same_from_decides}
use Rattle.std.proofs.lemmas.List.Elements.{filter_more, Contains-append_left, Contains-append_right, Contains-append_cases}
use Rattle.std.proofs.lemmas.Option.{get_or_from_slice_get, slice_get_within}
use Rattle.ve_base.specs.declared.attrs.Attr.{Attr}
use Rattle.ve_base.specs.declared.head.Head.{Head}
use Rattle.ve_base.specs.declared.marks.Mark.{Mark}
use Rattle.ve_base.specs.declared.value.Value.{Value}
use Rattle.ve_base.specs.declared.value.Value.TheVariants as value
use Rattle.ve_base.specs.declared.value.ValueId.{ValueId}
use Rattle.ve_base.specs.Names.{names, NamesApart}
use Rattle.model_items.specs.Same.{text_same}
use Rattle.model_items.proofs.SameLemmas.{Means-text_same}
use Rattle.model_items.specs.Plain.{value_at, marks_in, white_in, CitesMarks, CitesWhite}
use Rattle.model_change.specs.Attributes.{attr_removed}
use Rattle.model_change.specs.Store.{fill, marks_cited, white_cited}
use Rattle.ve_store.proofs.StoreLemmas.{admitted_there}
use Rattle.ve_tx.proofs.AttrsLemmas.{apart-next}

-- the attribute isn't of this name
abbrev pub has_other_name : List ℕ → Attr → Bool
has_other_name name attr = not (text_same attr.name name)

none_goes : (name : List ℕ) (attrs : List Attr) → ¬ Contains (names attrs) name → filter (has_other_name name) attrs ≡ attrs
none_goes name [] absent = refl
none_goes name (a ∷ attrs) absent =
    by (none_goes name attrs (λ later. absent (Contains-append_right (a.name ∷ []) (names attrs) name later))) (text_same a.name name) refl
  where
    by : filter (has_other_name name) attrs ≡ attrs → (b : Bool) → text_same a.name name ≡ b →
        cond (not b) (a ∷ filter (has_other_name name) attrs) (filter (has_other_name name) attrs) ≡ a ∷ attrs
    by rest true e = absurd (absent (subst (Contains (names (a ∷ attrs))) (Means-text_same.equal a.name name e) (0, omega arith, refl)))
    by rest false e = ap (λ l. a ∷ l) rest

-- where names are apart, the first attribute of a name is the only one
pub removed_is : (name : List ℕ) (attrs : List Attr) → NamesApart attrs → filter (has_other_name name) attrs ≡ attr_removed name attrs
removed_is name [] apart = refl
removed_is name (a ∷ attrs) apart = by (removed_is name attrs apart.1) (text_same a.name name) refl
  where
    by : filter (has_other_name name) attrs ≡ attr_removed name attrs → (b : Bool) → text_same a.name name ≡ b →
        cond (not b) (a ∷ filter (has_other_name name) attrs) (filter (has_other_name name) attrs) ≡ (if b then attrs else a ∷ attr_removed name attrs)
    by rest true e = none_goes name attrs (subst (λ n. ¬ Contains (names attrs) n) (Means-text_same.equal a.name name e) apart.0)
    by rest false e = ap (λ l. a ∷ l) rest

filter_names : (p : Attr → Bool) (attrs : List Attr) (name : List ℕ) → Contains (names (filter p attrs)) name → Contains (names attrs) name
filter_names p [] name h = h
filter_names p (a ∷ attrs) name h = by (filter_names p attrs name) (p a) h
  where
    by : (Contains (names (filter p attrs)) name → Contains (names attrs) name) → (b : Bool) → Contains (names (cond b (a ∷ filter p attrs) (filter p attrs))) name →
        Contains (names (a ∷ attrs)) name
    by rest true h = elim (Contains-append_cases (a.name ∷ []) (names (filter p attrs)) name h) [
      | inl first ↦ Contains-append_left (a.name ∷ []) (names attrs) name first
      | inr later ↦ Contains-append_right (a.name ∷ []) (names attrs) name (rest later)
    ]
    by rest false h = Contains-append_right (a.name ∷ []) (names attrs) name (rest h)

-- the next attribute has a new name among those that were kept
pub name_is_new : (p : Attr → Bool) (attrs : List Attr) (i : ℕ) (a : Attr) → i < length attrs → a ≡ get_or attrs i a → NamesApart attrs →
    ¬ Contains (names (filter p (take i attrs))) a.name
name_is_new p attrs i a within is apart h = apart-next [] attrs i a within is apart (filter_names p (take i attrs) a.name h)

id_is : chars (codes "id") ≡ codes "id"
unfolding chars
id_is = refl

id_test : (b : Bool) (name : List ℕ) → Decides b (name ≡ chars (codes "id")) → b ≡ text_same name (codes "id")
id_test b name d =
    same_from_decides b (text_same name (codes "id")) (subst (λ word. Decides b (name ≡ word)) id_is d)
    (Means-text_same.equal name (codes "id"), λ same. let P : List ℕ → Type 0 = λ n. text_same name n ≡ true in subst P same (Means-text_same.itself name))

-- one attribute more is kept, or not
pub kept_more : (attrs : List Attr) (i : ℕ) (a : Attr) (b : Bool) → i < length attrs → a ≡ get_or attrs i a → Decides b (a.name ≡ chars (codes "id")) → b ≡ false →
    filter (has_other_name (codes "id")) (take (i + 1) attrs) ≡ filter (has_other_name (codes "id")) (take i attrs) ++ a ∷ []
kept_more attrs i a b within is d e =
    let p = has_other_name (codes "id") in
    let other : p a ≡ true = ap not (sym (id_test b a.name d) ∙ e) in
    filter_more p attrs i a within ∙ ap (λ x. filter p (take i attrs) ++ cond (p x) (x ∷ []) []) (sym is) ∙ ap (λ v. filter p (take i attrs) ++ cond v (a ∷ []) []) other

pub kept_same : (attrs : List Attr) (i : ℕ) (a : Attr) (b : Bool) → i < length attrs → a ≡ get_or attrs i a → Decides b (a.name ≡ chars (codes "id")) → b ≡ true →
    filter (has_other_name (codes "id")) (take (i + 1) attrs) ≡ filter (has_other_name (codes "id")) (take i attrs)
kept_same attrs i a b within is d e =
    let p = has_other_name (codes "id") in
    let other : p a ≡ false = ap not (sym (id_test b a.name d) ∙ e) in
    filter_more p attrs i a within ∙ ap (λ x. filter p (take i attrs) ++ cond (p x) (x ∷ []) []) (sym is) ∙ ap (λ v. filter p (take i attrs) ++ cond v (a ∷ []) []) other
    ∙ append-nil (filter p (take i attrs))

-- a value that is there adds nothing
there_filled : (values : List Value) (at : ℕ) (v : Value) → slice_get values at ≡ Some v → values ≡ fill values (v ∷ [])
there_filled values at v h = admitted_there values v (at, slice_get_within values at v h, get_or_from_slice_get values at v v h)

marks_there : (values : List Value) (marks : Option ValueId) → CitesMarks values marks → values ≡ fill values (marks_cited (marks_in (value_at values marks)))
marks_there values None p = refl
marks_there values (Some id) p = by p.0 p.1 p.2 ∙ ap (λ v. fill values (marks_cited (marks_in v))) (sym p.1)
  where
    by : (all : List Mark) → slice_get values id.0 ≡ Some (value.Marks all) → all ≢ [] → values ≡ fill values (marks_cited all)
    by [] there some = absurd (some refl)
    by (m ∷ ms) there some = there_filled values id.0 (value.Marks (m ∷ ms)) there

white_there : (values : List Value) (pre : Option ValueId) → CitesWhite values pre → values ≡ fill values (white_cited (white_in (value_at values pre)))
white_there values None p = refl
white_there values (Some id) p = by p.0 p.1 p.2 ∙ ap (λ v. fill values (white_cited (white_in v))) (sym p.1)
  where
    by : (text : List ℕ) → slice_get values id.0 ≡ Some (value.White text) → text ≢ [] → values ≡ fill values (white_cited text)
    by [] there some = absurd (some refl)
    by (c ∷ cs) there some = there_filled values id.0 (value.White (c ∷ cs)) there

-- so the marks and the whitespace of an item of the list add nothing, also where nothing else is
-- cited
pub marks_filled : (values : List Value) (marks : Option ValueId) → CitesMarks values marks → values ≡ fill values (marks_cited (marks_in (value_at values marks)) ++ [])
marks_filled values marks p = marks_there values marks p ∙ ap (fill values) (sym (append-nil (marks_cited (marks_in (value_at values marks)))))

pub white_filled : (values : List Value) (pre : Option ValueId) → CitesWhite values pre → values ≡ fill values (white_cited (white_in (value_at values pre)) ++ [])
white_filled values pre p = white_there values pre p ∙ ap (fill values) (sym (append-nil (white_cited (white_in (value_at values pre)))))
