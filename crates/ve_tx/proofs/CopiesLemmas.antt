-- Items over the copies read as the items over the store.
use Rattle.std.proofs.Common.{◌≡◌, ◌≢◌, ◌<◌, ℕ, zero, suc, Bool, true, false, not, ◌||◌, nat_eq, if◌then◌else◌, List, [], ◌∷◌, ◌++◌, length, map, slice_get, Contains, Option, Some, None, is_some, option_map, refl, sym, ap, subst, ◌∙◌, true≢false, eq-eqb, append_assoc, arith}
use Rattle.std.specs.Prelude.{option_to_list}
use Rattle.std.specs.List.{list_any}
use Rattle.std.proofs.lemmas.Bool.{false_from_ne_true, eqb-true}
use Rattle.std.proofs.lemmas.List.{map-append}
use Rattle.std.proofs.lemmas.Option.{slice_get-map, slice_get_within, get_or_from_slice_get, slice_get-get_or}
use Rattle.indexmap.specs.IndexSet.{insert_key}
use Rattle.ve_base.specs.Empty.{empty_head}
use Rattle.ve_base.specs.declared.marks.Mark.{Mark}
use Rattle.ve_base.specs.declared.value.Value.{Value}
use Rattle.ve_base.specs.declared.value.Value.TheVariants as value
use Rattle.ve_base.specs.declared.value.ValueId.{ValueId}
use Rattle.model_items.specs.Plain.{value_at, head_in, marks_in, white_in, plain, CitesHead, CitesMarks, CitesWhite, CitesWell, AreDistinct}
use Rattle.model_items.specs.Same.{head_same}
use Rattle.model_items.proofs.SameLemmas.{Means-head_same}
use Rattle.ve_kinds.specs.declared.kind.Kind.{Kind}
use Rattle.model_items.specs.declared.plain_item.PlainItem.TheVariants.{Char, Opening, Closing}
use Rattle.model_items.specs.declared.item.Item.{Item}
use Rattle.model_items.specs.declared.item.Item.TheVariants as item
use Rattle.model_change.specs.Store.{holds, admitted, fill, cited_by, head_cited, marks_cited, white_cited}
use Rattle.model_change.proofs.StoreLemmas.{fill_appends}
use Rattle.ve_store.proofs.StoreLemmas.{Contains-holds, admitted_there, get_before}
use Rattle.ve_tx.specs.Copied.{AreCopied, one_cited, CitesAlike, ReadsAlike}

pub fill-append : (values xs ys : List Value) → fill values (xs ++ ys) ≡ fill (fill values xs) ys
fill-append values [] ys = refl
fill-append values (x ∷ xs) ys = fill-append (admitted values x) xs ys

-- what is read over values with others after them is read after a filling
pub grown : (values vs more : List Value) → fill values vs ++ more ≡ values ++ ((fill_appends values vs).appended ++ more)
grown values vs more =
    ap (λ prefix. prefix ++ more) (fill_appends values vs).parts ∙ append_assoc values (fill_appends values vs).appended more

-- what cites alike does so after a filling
pub CitesAlike-fill : (store values vs new : List Value) (old id : Option ValueId) → new ≡ fill values vs → CitesAlike store values old id → CitesAlike store new old id
CitesAlike-fill store values vs new old id is h =
    (h.0, λ more. ap (λ all. value_at (all ++ more) id) is ∙ ap (λ all. value_at all id) (grown values vs more) ∙ h.1 ((fill_appends values vs).appended ++ more))

pub ReadsAlike-fill : {X Y : Type 0} (read : List Value → X → Y) (Cites : List Value → X → Type 0) (store values vs new : List Value) (x y : X) → new ≡ fill values vs →
    ReadsAlike read Cites store values x y → ReadsAlike read Cites store new x y
ReadsAlike-fill read Cites store values vs new x y is h more =
    let all : new ++ more ≡ values ++ ((fill_appends values vs).appended ++ more) = ap (λ prefix. prefix ++ more) is ∙ grown values vs more in
    let then_ = h ((fill_appends values vs).appended ++ more) in
    (ap (λ vals. read vals y) all ∙ then_.0, subst (λ vals. Cites vals y) (sym all) then_.1)

unmapped : (value there : Option Value) → option_map Some value ≡ Some there → value ≡ there
unmapped None there h = cc
unmapped (Some v) there h = cc

-- a copy stands where its position does
pub copied_at : (store : List Value) (places : List ℕ) (values : List Value) (at p : ℕ) → AreCopied store places values → slice_get places at ≡ Some p →
    slice_get values at ≡ slice_get store p
copied_at store places values at p copied here =
    unmapped (slice_get values at) (slice_get store p)
    (sym (slice_get-map Some values at) ∙ ap (λ all. slice_get all at) copied ∙ slice_get-map (slice_get store) places at ∙ ap (option_map (slice_get store)) here)

-- the position of a copy in the store
place_of_copy : (store : List Value) (places : List ℕ) (values : List Value) (at : ℕ) (v : Value) → AreCopied store places values → slice_get values at ≡ Some v →
    (p : ℕ) × (slice_get places at ≡ Some p) × (slice_get store p ≡ Some v)
place_of_copy store places values at v copied here = go (slice_get places at) refl
  where
    mapped : option_map (slice_get store) (slice_get places at) ≡ Some (Some v)
    mapped = sym (slice_get-map (slice_get store) places at) ∙ sym (ap (λ all. slice_get all at) copied) ∙ slice_get-map Some values at ∙ ap (option_map Some) here

    go : (place : Option ℕ) → slice_get places at ≡ place → (p : ℕ) × (slice_get places at ≡ Some p) × (slice_get store p ≡ Some v)
    go None e = let none : option_map (slice_get store) None ≡ Some (Some v) = sym (ap (option_map (slice_get store)) e) ∙ mapped in cc
    go (Some p) e = let some : option_map (slice_get store) (Some p) ≡ Some (Some v) = sym (ap (option_map (slice_get store)) e) ∙ mapped in (p, e, let same : slice_get store p ≡ Some v = cc in same)

or_later : (first later : Bool) → later ≡ true → (first || later) ≡ true
or_later true later h = refl
or_later false later h = h

found : (places : List ℕ) (at p : ℕ) → slice_get places at ≡ Some p → list_any (nat_eq p) places ≡ true
found [] at p h = cc
found (q ∷ places) zero p h = let same : p ≡ q = cc in ap (λ b. b || list_any (nat_eq p) places) (eq-eqb p q same)
found (q ∷ places) (suc at) p h = or_later (nat_eq p q) (list_any (nat_eq p) places) (found places at p h)

at_contains : (values : List Value) (at : ℕ) (v : Value) → slice_get values at ≡ Some v → Contains values v
at_contains values at v h = (at, slice_get_within values at v h, get_or_from_slice_get values at v v h)

-- what `insert_full` tells of a position that was seen, and of one that was not
pub seen_keys : (places new : List ℕ) (p : ℕ) (is_new : Bool) → new ≡ insert_key nat_eq places p → is_new ≡ not (list_any (nat_eq p) places) → is_new ≡ false → new ≡ places
seen_keys places new p is_new keys added old =
    let there : list_any (nat_eq p) places ≡ true = by (list_any (nat_eq p) places) (sym added ∙ old) in
    keys ∙ ap (λ b. if b then places else places ++ p ∷ []) there
  where
    by : (b : Bool) → not b ≡ false → b ≡ true
    by true e = refl
    by false e = cc

unseen_keys : (places : List ℕ) (p : ℕ) (is_new : Bool) → is_new ≡ not (list_any (nat_eq p) places) → is_new ≡ true → list_any (nat_eq p) places ≡ false
unseen_keys places p is_new added new = by (list_any (nat_eq p) places) (sym added ∙ new)
  where
    by : (b : Bool) → not b ≡ true → b ≡ false
    by true e = cc
    by false e = refl

abbrev pub IsStored : List ℕ → ℕ → ℕ → Type 0
IsStored places at p = (k : ℕ) × (slice_get places at ≡ Some k) × (nat_eq p k ≡ true)

-- the value at the position that `insert_full` gives
pub cited_at : (store : List Value) (places : List ℕ) (values : List Value) (at p : ℕ) → AreCopied store places values → IsStored places at p →
    slice_get values at ≡ slice_get store p
cited_at store places values at p copied stored =
    copied_at store places values at stored.0 copied stored.1 ∙ ap (slice_get store) (sym (eqb-true p stored.0 stored.2))

slice_get_none : (store : List Value) (p : ℕ) → slice_get store p ≡ None → p < length store → ⊥
slice_get_none [] p e h = omega arith
slice_get_none (x ∷ store) zero e h = cc
slice_get_none (x ∷ store) (suc p) e h = slice_get_none store p e (omega arith)

-- where a value stands, it does so with others after it
pub cites_alike : (store values : List Value) (p at : ℕ) (id : Option ValueId) → id ≡ Some (record { 0 = p }) → p < length store → slice_get values at ≡ slice_get store p →
    CitesAlike store values id (Some (record { 0 = at }))
cites_alike store values p at id is within here =
    (ap is_some (sym is), λ more. by (slice_get store p) refl more ∙ ap (value_at store) (sym is))
  where
    by : (o : Option Value) → slice_get store p ≡ o → (more : List Value) → slice_get (values ++ more) at ≡ slice_get store p
    by None e more = let none : ⊥ = slice_get_none store p e within in absurd none
    by (Some v) e more = get_before values more at v (here ∙ e) ∙ sym e

pub seen_cites : (store : List Value) (places new : List ℕ) (values : List Value) (p at : ℕ) (is_new : Bool) (id : Option ValueId) → id ≡ Some (record { 0 = p }) → p < length store →
    AreCopied store places values → new ≡ insert_key nat_eq places p → is_new ≡ not (list_any (nat_eq p) places) → is_new ≡ false → IsStored new at p →
    CitesAlike store values id (Some (record { 0 = at }))
seen_cites store places new values p at is_new id is within copied keys added old stored =
    let same : new ≡ places = seen_keys places new p is_new keys added old in
    cites_alike store values p at id is within (cited_at store places values at p copied (subst (λ all. IsStored all at p) same stored))

-- a value that was copied adds nothing
pub seen_filled : (store : List Value) (places new : List ℕ) (values : List Value) (p at : ℕ) (is_new : Bool) (id : Option ValueId) → id ≡ Some (record { 0 = p }) →
    AreCopied store places values → new ≡ insert_key nat_eq places p → is_new ≡ not (list_any (nat_eq p) places) → is_new ≡ false → IsStored new at p →
    values ≡ fill values (one_cited store id)
seen_filled store places new values p at is_new id is copied keys added old stored =
    let same : new ≡ places = seen_keys places new p is_new keys added old in
    let here : slice_get values at ≡ slice_get store p = cited_at store places values at p copied (subst (λ all. IsStored all at p) same stored) in
    by (slice_get values at) refl ∙ ap (λ one. fill values (option_to_list one)) here ∙ ap (λ i. fill values (one_cited store i)) (sym is)
  where
    by : (o : Option Value) → slice_get values at ≡ o → values ≡ fill values (option_to_list (slice_get values at))
    by None e = ap (λ one. fill values (option_to_list one)) (sym e)
    by (Some v) e = admitted_there values v (at_contains values at v e) ∙ ap (λ one. fill values (option_to_list one)) (sym e)

-- one that was not is appended
pub unseen_filled : (store : List Value) (places : List ℕ) (values new : List Value) (p : ℕ) (is_new : Bool) (v : Value) (id : Option ValueId) → AreDistinct store →
    id ≡ Some (record { 0 = p }) → AreCopied store places values → is_new ≡ not (list_any (nat_eq p) places) → is_new ≡ true → slice_get store p ≡ Some v →
    new ≡ values ++ v ∷ [] → new ≡ fill values (one_cited store id)
unseen_filled store places values new p is_new v id distinct is copied added unseen here pushed =
    let absent : holds values v ≡ false = false_from_ne_true (holds values v) (λ there. again (Contains-holds values v there)) in
    pushed ∙ sym (ap (λ b. if b then values else values ++ v ∷ []) absent) ∙ ap (λ one. fill values (option_to_list one)) (sym here)
    ∙ ap (λ i. fill values (one_cited store i)) (sym is)
  where
    again : Contains values v → ⊥
    again there =
        let place = place_of_copy store places values there.0 v copied (slice_get-get_or values there.0 v there.1 ∙ ap Some there.2) in
        let same : place.0 ≡ p = distinct place.0 p v place.2 here in
        true≢false (sym (found places there.0 p (place.1 ∙ ap Some same)) ∙ unseen_keys places p is_new added unseen)

pub unseen_copied : (store : List Value) (places places' : List ℕ) (values new : List Value) (p : ℕ) (is_new : Bool) (v : Value) → AreCopied store places values →
    places' ≡ insert_key nat_eq places p → is_new ≡ not (list_any (nat_eq p) places) → is_new ≡ true → slice_get store p ≡ Some v → new ≡ values ++ v ∷ [] →
    AreCopied store places' new
unseen_copied store places places' values new p is_new v copied keys added unseen here pushed =
    let suffix : places' ≡ places ++ p ∷ [] = keys ∙ ap (λ b. if b then places else places ++ p ∷ []) (unseen_keys places p is_new added unseen) in
    ap (map Some) pushed ∙ map-append Some values (v ∷ []) ∙ ap (λ prefix. prefix ++ Some v ∷ []) copied ∙ ap (λ one. map (slice_get store) places ++ one ∷ []) (sym here)
    ∙ sym (map-append (slice_get store) places (p ∷ [])) ∙ sym (ap (map (slice_get store)) suffix)

-- what is cited is one value, or none
head-one : (store : List Value) (id : Option ValueId) → CitesHead store id → head_cited (head_in (value_at store id)) ≡ one_cited store id
head-one store None h = refl
head-one store (Some id) h =
    let other : head_same h.0 empty_head ≡ false = false_from_ne_true (head_same h.0 empty_head) (λ same. h.2 (Means-head_same.equal h.0 empty_head same)) in
    ap (λ v. head_cited (head_in v)) h.1 ∙ ap (λ b. if b then [] else value.Head h.0 ∷ []) other ∙ sym (ap option_to_list h.1)

some_marks : (marks : List Mark) → marks ≢ [] → marks_cited marks ≡ value.Marks marks ∷ []
some_marks [] h = absurd (h refl)
some_marks (m ∷ ms) h = refl

marks-one : (store : List Value) (id : Option ValueId) → CitesMarks store id → marks_cited (marks_in (value_at store id)) ≡ one_cited store id
marks-one store None h = refl
marks-one store (Some id) h = ap (λ v. marks_cited (marks_in v)) h.1 ∙ some_marks h.0 h.2 ∙ sym (ap option_to_list h.1)

some_white : (text : List ℕ) → text ≢ [] → white_cited text ≡ value.White text ∷ []
some_white [] h = absurd (h refl)
some_white (c ∷ cs) h = refl

white-one : (store : List Value) (id : Option ValueId) → CitesWhite store id → white_cited (white_in (value_at store id)) ≡ one_cited store id
white-one store None h = refl
white-one store (Some id) h = ap (λ v. white_cited (white_in v)) h.1 ∙ some_white h.0 h.2 ∙ sym (ap option_to_list h.1)

-- three citations, one after the other
pub opening_filled : (store values v1 v2 new : List Value) (i : Item) (kind : Kind) (generated : Bool) (head marks pre : Option ValueId) (origin : Option ℕ) →
    i ≡ item.Opening kind generated head marks pre origin → CitesWell store i → v1 ≡ fill values (one_cited store head) → v2 ≡ fill v1 (one_cited store marks) →
    new ≡ fill v2 (one_cited store pre) → new ≡ fill values (cited_by (plain store i))
opening_filled store values v1 v2 new i kind generated head marks pre origin is cites a b c =
    let well = subst (CitesWell store) is cites in
    c ∙ ap (λ vs. fill vs (one_cited store pre)) b ∙ ap (λ vs. fill (fill vs (one_cited store marks)) (one_cited store pre)) a
    ∙ sym (fill-append (fill values (one_cited store head)) (one_cited store marks) (one_cited store pre)) ∙ sym (fill-append values (one_cited store head) (one_cited store marks ++ one_cited store pre))
    ∙ ap (λ vs. fill values (vs ++ (one_cited store marks ++ one_cited store pre))) (sym (head-one store head well.0))
    ∙ ap (λ vs. fill values (head_cited (head_in (value_at store head)) ++ (vs ++ one_cited store pre))) (sym (marks-one store marks well.1))
    ∙ ap (λ vs. fill values (head_cited (head_in (value_at store head)) ++ (marks_cited (marks_in (value_at store marks)) ++ vs))) (sym (white-one store pre well.2))
    ∙ ap (λ j. fill values (cited_by (plain store j))) (sym is)

head-alike : (store vs : List Value) (old new : Option ValueId) → CitesHead store old → is_some new ≡ is_some old → value_at vs new ≡ value_at store old → CitesHead vs new
head-alike store vs old None h some e = tt
head-alike store vs None (Some j) h some e = absurd (true≢false some)
head-alike store vs (Some i) (Some j) h some e = (h.0, e ∙ h.1, h.2)

marks-alike : (store vs : List Value) (old new : Option ValueId) → CitesMarks store old → is_some new ≡ is_some old → value_at vs new ≡ value_at store old → CitesMarks vs new
marks-alike store vs old None h some e = tt
marks-alike store vs None (Some j) h some e = absurd (true≢false some)
marks-alike store vs (Some i) (Some j) h some e = (h.0, e ∙ h.1, h.2)

white-alike : (store vs : List Value) (old new : Option ValueId) → CitesWhite store old → is_some new ≡ is_some old → value_at vs new ≡ value_at store old → CitesWhite vs new
white-alike store vs old None h some e = tt
white-alike store vs None (Some j) h some e = absurd (true≢false some)
white-alike store vs (Some i) (Some j) h some e = (h.0, e ∙ h.1, h.2)

-- an item that cites copies reads as the one that cites the store
pub char_alike : (store values : List Value) (i : Item) (ch : ℕ) (marks marks' : Option ValueId) → i ≡ item.Char ch marks → CitesWell store i → CitesAlike store values marks marks' →
    ReadsAlike plain CitesWell store values i (item.Char ch marks')
char_alike store values i ch marks marks' is cites m more =
    (ap (λ v. Char ch (marks_in v)) (m.1 more) ∙ ap (plain store) (sym is), marks-alike store (values ++ more) marks marks' (subst (CitesWell store) is cites) m.0 (m.1 more))

pub closing_alike : (store values : List Value) (i : Item) (kind : Kind) (pre pre' : Option ValueId) → i ≡ item.Closing kind pre → CitesWell store i → CitesAlike store values pre pre' →
    ReadsAlike plain CitesWell store values i (item.Closing kind pre')
closing_alike store values i kind pre pre' is cites p more =
    (ap (λ v. Closing kind (white_in v)) (p.1 more) ∙ ap (plain store) (sym is), white-alike store (values ++ more) pre pre' (subst (CitesWell store) is cites) p.0 (p.1 more))

pub opening_alike : (store values : List Value) (i : Item) (kind : Kind) (generated : Bool) (head marks pre head' marks' pre' : Option ValueId) (origin : Option ℕ) →
    i ≡ item.Opening kind generated head marks pre origin → CitesWell store i → CitesAlike store values head head' → CitesAlike store values marks marks' →
    CitesAlike store values pre pre' → ReadsAlike plain CitesWell store values i (item.Opening kind generated head' marks' pre' origin)
opening_alike store values i kind generated head marks pre head' marks' pre' origin is cites h m p more =
    let well = subst (CitesWell store) is cites in
    let vs = values ++ more in
    let read : Opening kind (head_in (value_at vs head')) (marks_in (value_at vs marks')) (white_in (value_at vs pre')) origin generated ≡ plain store (item.Opening kind generated head marks pre origin) =
    (λ k. Opening kind (head_in (h.1 more k)) (marks_in (m.1 more k)) (white_in (p.1 more k)) origin generated) in (
      read ∙ ap (plain store) (sym is),
      (head-alike store vs head head' well.0 h.0 (h.1 more), marks-alike store vs marks marks' well.1 m.0 (m.1 more), white-alike store vs pre pre' well.2 p.0 (p.1 more)),
    )
