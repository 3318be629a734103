-- The notes of a list with one more item, and the rows that they give.
use Rattle.std.proofs.Common.{◌≡◌, ℕ, zero, suc, ◌+◌, ◌<◌, Bool, true, false, ◌&&◌, cond, List, [], ◌∷◌, ◌++◌, length, map, refl, sym, ap, subst, ◌∙◌, true≢false, is_some, arith, ◌-◌, ◌≤◌, take, drop, length-take-le, append_assoc, append-nil, length-append}
use Rattle.std.specs.Prelude.{Option, Some, None, slice_get, filter, if◌then◌else◌, ◌==◌, unwrap_or, IsSome}
use Rattle.std.specs.List.{list_any, slice_range}
use Rattle.std.proofs.Math.Seq.{take-add}
use Rattle.std.proofs.lemmas.List.{take_more, map-append, length-map}
use Rattle.std.proofs.lemmas.Option.{slice_get_within, get_or_from_slice_get}
use Rattle.std.specs.Option.{option_or, option_copied}
use Rattle.std.specs.Borrow.{Bor}
use Rattle.indexmap.specs.IndexMap.{IndexMap, get}
use Rattle.ve_kinds.specs.declared.kind.Kind.{Kind}
use Rattle.ve_kinds.specs.declared.kind.Kind.TheVariants.{InternalItem, Ref}
use Rattle.ve_kinds.specs.Table.{kind_same}
use Rattle.ve_base.specs.declared.marks.Mark.{Mark}
use Rattle.ve_base.specs.declared.head.Head.{Head}
use Rattle.ve_base.specs.declared.value.Value.{Value}
use Rattle.ve_base.specs.declared.value.Value.TheVariants as value
use Rattle.ve_base.specs.declared.value.ValueId.{ValueId}
use Rattle.ve_base.specs.declared.head.RefKey.{RefKey}
use Rattle.model_items.specs.declared.plain_item.PlainItem.{PlainItem}
use Rattle.model_items.specs.declared.plain_item.PlainItem.TheVariants.{Char, Opening, Closing}
use Rattle.model_items.specs.declared.item.Item.{Item}
use Rattle.model_items.specs.Plain.{CitesHead, head_in, plain, plain_list, value_at}
use Rattle.model_items.specs.Same.{ref_key_same, text_same, option_same}
use Rattle.model_items.proofs.SameLemmas.{Means-ref_key_same, Means-text_same, Means-kind_same}
use Rattle.model_page.specs.declared.ref_table.RefRow.{RefRow}
use Rattle.model_page.specs.References.{RefAt, ref_at, refs_of, has_key, first_of_refs, keys_after, number_in_group, is_carrier, body_of, place_of_body, ref_row, table}
use Rattle.ve_internal.specs.declared.notes.Seen.{Seen}
use Rattle.ve_internal.specs.declared.notes.Cited.{Cited}
use Rattle.ve_internal.specs.declared.notes.Notes.{Notes}
use Rattle.ve_internal.specs.Noted.{place_if, seen_next, group_count, first_place, is_owner_of, seen_from, seen_in, counted, counts_if, bare_ref, cited_ref, HasRefs, HasNoted, NotesBody, NotesItems, NotesOpening, NotesReference, row_by, row_in}
use Rattle.ve_internal.proofs.KeyLemmas.{same_itself, key_of_some, count_more, seen_other, seen_own}
use Rattle.ve_internal.proofs.ItemLemmas.{own_refs, inside_after, opens_body, refs_more, body_more}

-- ---- one more reference

some_from : (key : RefKey) (refs : List RefAt) (first : Option ℕ) → is_some (seen_from key refs first) ≡ is_some first
some_from key refs None = refl
some_from key refs (Some first) = refl

key_of_seen : (key : RefKey) (refs : List RefAt) (seen : Option Seen) → seen ≡ seen_in key refs → list_any (ref_key_same key) (keys_after [] refs) ≡ is_some seen
key_of_seen key refs seen e = key_of_some key refs (first_place (has_key key) refs) refl ∙ sym (some_from key refs (first_place (has_key key) refs)) ∙ ap is_some (sym e)

map_more : {A B : Type 0} (f : A → B) (xs : List A) (x : A) → map f (xs ++ x ∷ []) ≡ map f xs ++ f x ∷ []
map_more f [] x = refl
map_more f (y ∷ xs) x = ap (λ ys. f y ∷ ys) (map_more f xs x)

-- one of two numbers, as a test of texts says
turned : (t g : List ℕ) (f : List ℕ → ℕ) → (if text_same t g then suc (f t) else f g) ≡ (if text_same t g then suc (f g) else f g)
turned t g f = cases (text_same t g) refl
  where
    cases : (b : Bool) → text_same t g ≡ b → (if b then suc (f t) else f g) ≡ (if b then suc (f g) else f g)
    cases false e = refl
    cases true e = ap (λ x. suc (f x)) (Means-text_same.equal t g e)

-- groups are counted as one more reference has it
groups_more : (old new : List ℕ → ℕ) (refs : List RefAt) (r : RefAt) (there : Bool) →
    list_any (ref_key_same r.key) (keys_after [] refs) ≡ there →
    ((g : List ℕ) → old g ≡ group_count g (keys_after [] refs)) →
    ((g : List ℕ) → new g ≡ (if there then old g else (if text_same r.key.group g then suc (old r.key.group) else old g))) →
    (g : List ℕ) → new g ≡ group_count g (keys_after [] (refs ++ r ∷ []))
groups_more old new refs r true e was is g = is g ∙ was g ∙ sym (count_more g refs r ∙ rw e refl)
groups_more old new refs r false e was is g =
    is g ∙ turned r.key.group g old ∙ ap (λ n. if text_same r.key.group g then suc n else n) (was g) ∙ sym (count_more g refs r ∙ rw e refl)

pub noted_reference : (old new : Notes) (cited : Cited) (owner inside : Bool) (refs : List RefAt) (seen : Seen) →
    seen ≡ seen_next (get ref_key_same old.keys cited.key.now) (counted old.groups cited.key.now.group) cited.at owner →
    counts_if (get ref_key_same old.keys cited.key.now) old.groups new.groups cited.key.now.group →
    ((q : RefKey) → get ref_key_same new.keys q ≡ cond (ref_key_same cited.key.now q) (Some seen) (get ref_key_same old.keys q)) →
    new.refs.items ≡ old.refs.items ++ cited ∷ [] →
    HasRefs old refs → HasRefs new (refs ++ record { at = cited.at; key = cited.key.now; owner = owner; inside = inside } ∷ [])
noted_reference old new cited owner inside refs seen next counts keys list has = record {
  cited = ap (map cited_ref) list ∙ map_more cited_ref old.refs.items cited ∙ ap (λ rs. rs ++ cited_ref cited ∷ []) has.cited ∙ sym (map_more bare_ref refs r);
  seen = λ key. keys key ∙ by key (ref_key_same cited.key.now key) refl;
  groups = groups_more (counted old.groups) (counted new.groups) refs r (is_some before) (key_of_seen cited.key.now refs before (has.seen cited.key.now)) has.groups (counted_by before counts);
}
  where
    r : RefAt
    r = record { at = cited.at; key = cited.key.now; owner = owner; inside = inside }

    before : Option Seen
    before = get ref_key_same old.keys cited.key.now

    by : (key : RefKey) (b : Bool) → ref_key_same cited.key.now key ≡ b → cond b (Some seen) (get ref_key_same old.keys key) ≡ seen_in key (refs ++ r ∷ [])
    by key false e = has.seen key ∙ sym (seen_other key refs r e)
    by key true e =
        ap Some (next ∙ ap (λ s. seen_next s (counted old.groups cited.key.now.group) cited.at owner) (has.seen cited.key.now)
        ∙ ap (λ n. seen_next (seen_in cited.key.now refs) n cited.at owner) (has.groups cited.key.now.group))
        ∙ sym (seen_own refs r)
        ∙ ap (λ k. seen_in k (refs ++ r ∷ [])) (Means-ref_key_same.equal cited.key.now key e)

    counted_by : (s : Option Seen) → counts_if s old.groups new.groups cited.key.now.group → (g : List ℕ) →
        counted new.groups g ≡ (if is_some s then counted old.groups g else (if text_same cited.key.now.group g then suc (counted old.groups cited.key.now.group) else counted old.groups g))
    counted_by None h g = h g
    counted_by (Some s) h g = h g

-- the tables of references alone decide what they are
pub refs_along : (old new : Notes) (refs : List RefAt) → new.refs ≡ old.refs → new.keys ≡ old.keys → new.groups ≡ old.groups → HasRefs old refs → HasRefs new refs
refs_along old new refs e f g h = record {
  cited = ap (λ v. map cited_ref v.items) e ∙ h.cited;
  seen = λ key. ap (λ m. get ref_key_same m key) f ∙ h.seen key;
  groups = λ group. ap (λ m. counted m group) g ∙ h.groups group;
}

-- ---- one more item

or_none : (o : Option ℕ) → option_or o None ≡ o
or_none None = refl
or_none (Some n) = refl

append_nil : (refs : List RefAt) → refs ++ [] ≡ refs
append_nil [] = refl
append_nil (r ∷ refs) = ap (λ rs. r ∷ rs) (append_nil refs)

-- An item that is no reference and opens no body
pub record IsOther (x : PlainItem) : Type 0 where
  pub refs : (at : ℕ) (inside : Bool) → own_refs at inside x ≡ []
  pub bodies : (key : RefKey) → opens_body key x ≡ false

pub noted_other : (notes : Notes) (items : List PlainItem) (x : PlainItem) → IsOther x → HasNoted notes items → HasNoted notes (items ++ x ∷ [])
noted_other notes items x other has = record {
  refs = subst (HasRefs notes) (sym (refs_more items x ∙ ap (λ rs. refs_of items ++ rs) (other.refs (length items) (inside_after false items)) ∙ append_nil (refs_of items))) has.refs;
  bodies = λ key. has.bodies key ∙ sym (body_more key items x ∙ ap (λ b. option_or (place_of_body (body_of key items)) (place_if b (length items))) (other.bodies key) ∙ or_none _);
}

pub other_char : (c : ℕ) (marks : List Mark) → IsOther (Char c marks)
other_char c marks = record { refs = λ at inside. refl; bodies = λ key. refl }

pub other_closing : (kind : Kind) (pre : List ℕ) → IsOther (Closing kind pre)
other_closing kind pre = record { refs = λ at inside. refl; bodies = λ key. refl }

and_false : (b : Bool) → (b && false) ≡ false
and_false true = refl
and_false false = refl

pub other_keyless : (kind : Kind) (head : Head) (marks : List Mark) (pre : List ℕ) (origin : Option ℕ) (generated : Bool) → head.reference ≡ None →
    IsOther (Opening kind head marks pre origin generated)
other_keyless kind head marks pre origin generated e = record {
  refs = λ at inside. ap (λ k. if kind_same kind Ref then ref_at at inside head.owner k else []) e ∙ nothing (kind_same kind Ref);
  bodies = λ key. ap (λ k. kind_same kind InternalItem && option_same ref_key_same k (Some key)) e ∙ and_false (kind_same kind InternalItem);
}
  where
    nothing : (b : Bool) → ◌≡◌ {A = List RefAt} (if b then [] else []) []
    nothing true = refl
    nothing false = refl

unlike : (kind other : Kind) → (kind ≡ other → ⊥) → kind_same kind other ≡ false
unlike kind other differ = cases (kind_same kind other) refl
  where
    cases : (b : Bool) → kind_same kind other ≡ b → b ≡ false
    cases false e = refl
    cases true e = absurd (differ (Means-kind_same.equal kind other e))

pub other_kind : (kind : Kind) (head : Head) (marks : List Mark) (pre : List ℕ) (origin : Option ℕ) (generated : Bool) → (kind ≡ Ref → ⊥) → (kind ≡ InternalItem → ⊥) →
    IsOther (Opening kind head marks pre origin generated)
other_kind kind head marks pre origin generated no_ref no_item = record {
  refs = λ at inside. ap (λ b. if b then ref_at at inside head.owner head.reference else []) (unlike kind Ref no_ref);
  bodies = λ key. ap (λ b. b && option_same ref_key_same head.reference (Some key)) (unlike kind InternalItem no_item);
}

pub noted_ref : (old new : Notes) (items : List PlainItem) (head : Head) (marks : List Mark) (pre : List ℕ) (origin : Option ℕ) (generated : Bool) (key : RefKey) →
    head.reference ≡ Some key → new.bodies ≡ old.bodies →
    ((refs : List RefAt) (inside : Bool) → HasRefs old refs → HasRefs new (refs ++ record { at = length items; key = key; owner = head.owner; inside = inside } ∷ [])) →
    HasNoted old items → HasNoted new (items ++ Opening Ref head marks pre origin generated ∷ [])
noted_ref old new items head marks pre origin generated key e bodies refs has = record {
  refs = subst (HasRefs new) (sym (refs_more items x ∙ ap (λ k. refs_of items ++ ref_at (length items) (inside_after false items) head.owner k) e)) (refs (refs_of items) (inside_after false items) has.refs);
  bodies = λ k. ap (λ m. get ref_key_same m k) bodies ∙ has.bodies k ∙ sym (body_more k items x ∙ or_none _);
}
  where
    x : PlainItem
    x = Opening Ref head marks pre origin generated

pub noted_body : (old new : Notes) (items : List PlainItem) (head : Head) (marks : List Mark) (pre : List ℕ) (origin : Option ℕ) (generated : Bool) (key : RefKey) →
    head.reference ≡ Some key → new.refs ≡ old.refs → new.keys ≡ old.keys → new.groups ≡ old.groups → NotesBody old.bodies new.bodies key (length items) →
    HasNoted old items → HasNoted new (items ++ Opening InternalItem head marks pre origin generated ∷ [])
noted_body old new items head marks pre origin generated key e refs keys groups bodies has = record {
  refs = subst (HasRefs new) (sym (refs_more items x ∙ append_nil (refs_of items))) (refs_along old new (refs_of items) refs keys groups has.refs);
  bodies = λ k.
      bodies k ∙ ap (λ o. option_or o (place_if (ref_key_same key k) (length items))) (has.bodies k)
      ∙ sym (body_more k items x ∙ ap (λ o. option_or (place_of_body (body_of k items)) (place_if (option_same ref_key_same o (Some k)) (length items))) e);
}
  where
    x : PlainItem
    x = Opening InternalItem head marks pre origin generated

-- the first position of a body is kept
pub body_kept : {S : Type 0} (bodies : IndexMap RefKey ℕ S) (key : RefKey) (at : ℕ) → is_some (get ref_key_same bodies key) ≡ true → NotesBody bodies bodies key at
body_kept bodies key at there k = cases (get ref_key_same bodies k) (ref_key_same key k) refl refl
  where
    cases : (o : Option ℕ) (b : Bool) → get ref_key_same bodies k ≡ o → ref_key_same key k ≡ b → o ≡ option_or o (place_if b at)
    cases (Some n) b e f = refl
    cases None false e f = refl
    cases None true e f = absurd (true≢false (sym there ∙ ap (λ x. is_some (get ref_key_same bodies x)) (Means-ref_key_same.equal key k f) ∙ ap is_some e))

pub body_put : {S : Type 0} (old new : IndexMap RefKey ℕ S) (key : RefKey) (at : ℕ) → is_some (get ref_key_same old key) ≡ false →
    ((q : RefKey) → get ref_key_same new q ≡ cond (ref_key_same key q) (Some at) (get ref_key_same old q)) → NotesBody old new key at
body_put old new key at absent put k = put k ∙ cases (ref_key_same key k) (get ref_key_same old k) refl refl
  where
    cases : (b : Bool) (o : Option ℕ) → ref_key_same key k ≡ b → get ref_key_same old k ≡ o → cond b (Some at) o ≡ option_or o (place_if b at)
    cases false o f e = sym (or_none o)
    cases true None f e = refl
    cases true (Some n) f e =
        absurd (true≢false (sym (ap (λ x. is_some (get ref_key_same old x)) (Means-ref_key_same.equal key k f) ∙ ap is_some e) ∙ absent))

pub copied_some : (r : Option (Bor ℕ)) → is_some (option_copied r) ≡ is_some r
copied_some None = refl
copied_some (Some x) = refl

-- ---- items one after the other

pub items_on : (a b c : Notes) (at : ℕ) (xs : List PlainItem) (x : PlainItem) → NotesItems a b at xs → NotesItems b c (at + length xs) (x ∷ []) → NotesItems a c at (xs ++ x ∷ [])
items_on a b c at xs x p q items e has =
    subst (HasNoted c) (append_assoc items xs (x ∷ [])) (q (items ++ xs) (length-append items xs ∙ ap (λ n. n + length xs) e) (p items e has))

pub none_on : (a : Notes) (at : ℕ) → NotesItems a a at []
none_on a at items e has = subst (HasNoted a) (sym (append-nil items)) has

-- ---- openings

pub opening_keyless : (notes : Notes) (at : ℕ) (kind : Kind) (head : Head) → head.reference ≡ None → NotesOpening notes notes at kind head
opening_keyless notes at kind head e marks pre origin generated items f has = noted_other notes items _ (other_keyless kind head marks pre origin generated e) has

pub opening_kind : (notes : Notes) (at : ℕ) (kind : Kind) (head : Head) → (kind ≡ Ref → ⊥) → (kind ≡ InternalItem → ⊥) → NotesOpening notes notes at kind head
opening_kind notes at kind head no_ref no_item marks pre origin generated items f has = noted_other notes items _ (other_kind kind head marks pre origin generated no_ref no_item) has

pub opening_ref : (old new : Notes) (at : ℕ) (head : Head) (key : RefKey) → head.reference ≡ Some key → NotesReference old new at key head.owner → NotesOpening old new at Ref head
opening_ref old new at head key e notes marks pre origin generated items f has =
    noted_ref old new items head marks pre origin generated key e notes.0
    (λ refs inside h. subst (λ n. HasRefs new (refs ++ record { at = n; key = key; owner = head.owner; inside = inside } ∷ [])) (sym f) (notes.1 refs inside h)) has

pub opening_body : (old new : Notes) (at : ℕ) (head : Head) (key : RefKey) → head.reference ≡ Some key → new.refs ≡ old.refs → new.keys ≡ old.keys → new.groups ≡ old.groups →
    NotesBody old.bodies new.bodies key at → NotesOpening old new at InternalItem head
opening_body old new at head key e refs keys groups bodies marks pre origin generated items f has =
    noted_body old new items head marks pre origin generated key e refs keys groups (subst (NotesBody old.bodies new.bodies key) (sym f) bodies) has

pub head_is : (values : List Value) (id : ValueId) (v : Value) (head : Head) → slice_get values id.0 ≡ Some v → v ≡ value.Head head → head_in (value_at values (Some id)) ≡ head
head_is values id v head e f = ap head_in (e ∙ ap Some f)

pub cited_within : (values : List Value) (head : Option ValueId) (id : ValueId) → CitesHead values head → head ≡ Some id → id.0 < length values
cited_within values head id cites e = let h = subst (CitesHead values) e cites in slice_get_within values id.0 (value.Head h.0) h.1

pub no_head : (values : List Value) (head : Option ValueId) → head ≡ None → (head_in (value_at values head)).reference ≡ None
no_head values head e = ap (λ id. (head_in (value_at values id)).reference) e

pub cited_is : (values : List Value) (head : Option ValueId) (id : ValueId) (v : Value) (h : Head) → head ≡ Some id → slice_get values id.0 ≡ Some v → v ≡ value.Head h → h ≡ head_in (value_at values head)
cited_is values head id v h e found is = sym (ap (λ i. head_in (value_at values i)) e ∙ head_is values id v h found is)

-- ---- pieces of a list

pub pieces_on : (values : List Value) (items piece : List Item) (at n : ℕ) → piece ≡ slice_range items at (at + n) →
    plain_list values (take at items) ++ plain_list values piece ≡ plain_list values (take (at + n) items)
pieces_on values items piece at n e =
    sym (map-append (plain values) (take at items) piece)
    ∙ ap (plain_list values) (ap (λ p. take at items ++ p) e ∙ ap (λ m. take at items ++ take m (drop at items)) (let f : at + n - at ≡ n = omega arith in f) ∙ sym (take-add at n items))

pub count_before : (values : List Value) (items : List Item) (at : ℕ) → at ≤ length items → length (plain_list values (take at items)) ≡ at
count_before values items at le = length-map (take at items) (plain values) ∙ length-take-le at items le

pub item_on : (values : List Value) (piece : List Item) (i : ℕ) (x : Item) → slice_get piece i ≡ Some x → plain_list values (take i piece) ++ plain values x ∷ [] ≡ plain_list values (take (i + 1) piece)
item_on values piece i x e =
    sym (map_more (plain values) (take i piece) x)
    ∙ ap (plain_list values) (ap (λ y. take i piece ++ y ∷ []) (sym (get_or_from_slice_get piece i x x e)) ∙ sym (take_more piece i x (slice_get_within piece i x e)))

-- ---- rows

first_there : (key : RefKey) (refs : List RefAt) (i : ℕ) (r : RefAt) → slice_get refs i ≡ Some r → r.key ≡ key → is_some (first_place (has_key key) refs) ≡ true
first_there key [] i r e f = absurd cc
first_there key (x ∷ refs) zero r e f =
    let same : x ≡ r = cc in
    let key_is : x.key ≡ key = ap (λ (s : RefAt). s.key) same ∙ f in
    let P : RefKey → Type 0 = λ k. ref_key_same x.key k ≡ true in
    own (ref_key_same x.key key) (subst P key_is (same_itself x.key))
  where
    own : (b : Bool) → b ≡ true → is_some (first_of_refs (cond b (x ∷ filter (has_key key) refs) (filter (has_key key) refs))) ≡ true
    own true h = refl
    own false h = absurd (true≢false (sym h))
first_there key (x ∷ refs) (suc i) r e f = later (ref_key_same x.key key) (first_there key refs i r e f)
  where
    later : (b : Bool) → is_some (first_place (has_key key) refs) ≡ true → is_some (first_of_refs (cond b (x ∷ filter (has_key key) refs) (filter (has_key key) refs))) ≡ true
    later true h = refl
    later false h = h

-- a reference that was noted is among those of the list
cited_there : (cs : List Cited) (rs : List RefAt) (i : ℕ) (c : Cited) → map cited_ref cs ≡ map bare_ref rs → slice_get cs i ≡ Some c → (r : RefAt) × (slice_get rs i ≡ Some r) × (r.key ≡ c.key.now)
cited_there [] rs i c e f = absurd cc
cited_there (x ∷ cs) [] i c e f = absurd cc
cited_there (x ∷ cs) (r ∷ rs) zero c e f =
    let here : cited_ref x ≡ bare_ref r = cc in
    let same : x ≡ c = cc in
    (r, refl, sym (ap (λ (s : RefAt). s.key) here) ∙ ap (λ (s : Cited). s.key.now) same)
cited_there (x ∷ cs) (r ∷ rs) (suc i) c e f = let rest : map cited_ref cs ≡ map bare_ref rs = cc in cited_there cs rs i c rest f

pub known : (notes : Notes) (items : List PlainItem) (i : ℕ) (c : Cited) → HasNoted notes items → slice_get notes.refs.items i ≡ Some c → IsSome (get ref_key_same notes.keys c.key.now)
known notes items i c has e =
    let there = cited_there notes.refs.items (refs_of items) i c has.refs.cited e in
    let P : Option Seen → Type 0 = IsSome in
    subst P (sym (has.refs.seen c.key.now)) (some_from c.key.now (refs_of items) _ ∙ first_there c.key.now (refs_of items) i there.0 there.1 there.2)

carries : (owner : Option ℕ) (first at : ℕ) → (unwrap_or owner first == at) ≡ option_same (λ m n. m == n) (option_or owner (Some first)) (Some at)
carries None first at = refl
carries (Some place) first at = refl

row_is : (notes : Notes) (items : List PlainItem) (c : Cited) (r : RefAt) → HasNoted notes items → cited_ref c ≡ bare_ref r → is_some (first_place (has_key c.key.now) (refs_of items)) ≡ true →
    row_in notes c ≡ Some (ref_row items r)
row_is notes items c r has same there =
    ap (λ s. row_by s (get ref_key_same notes.bodies c.key.now) c) (has.refs.seen c.key.now)
    ∙ ap (λ b. row_by (seen_in c.key.now (refs_of items)) b c) (has.bodies c.key.now)
    ∙ cases (first_place (has_key c.key.now) (refs_of items)) refl there
    ∙ ap (λ (s : RefAt). Some (ref_row items s)) same
  where
    cases : (first : Option ℕ) → first_place (has_key c.key.now) (refs_of items) ≡ first → is_some first ≡ true →
        row_by (seen_from c.key.now (refs_of items) first) (place_of_body (body_of c.key.now items)) c ≡ Some (ref_row items (cited_ref c))
    cases None e h = absurd (true≢false (sym h))
    cases (Some first) e h =
        let carrier : (unwrap_or (first_place (is_owner_of c.key.now) (refs_of items)) first == c.at) ≡ is_carrier (refs_of items) (cited_ref c) =
        carries (first_place (is_owner_of c.key.now) (refs_of items)) first c.at
        ∙ ap (λ o. option_same (λ m n. m == n) (option_or (first_place (is_owner_of c.key.now) (refs_of items)) o) (Some c.at)) (sym e) in
        λ i. Some (record {
          at = c.at;
          key = c.key.now;
          number = number_in_group c.key.now (keys_after [] (refs_of items));
          carrier = carrier i;
          body_at = place_of_body (body_of c.key.now items);
        })

rows_from : (notes : Notes) (items : List PlainItem) (cs : List Cited) (rs : List RefAt) → HasNoted notes items → map cited_ref cs ≡ map bare_ref rs →
    ((i : ℕ) (c : Cited) → slice_get cs i ≡ Some c → is_some (first_place (has_key c.key.now) (refs_of items)) ≡ true) →
    map (row_in notes) cs ≡ map Some (map (ref_row items) rs)
rows_from notes items [] [] has e there = refl
rows_from notes items [] (r ∷ rs) has e there = absurd cc
rows_from notes items (c ∷ cs) [] has e there = absurd cc
rows_from notes items (c ∷ cs) (r ∷ rs) has e there =
    let here : cited_ref c ≡ bare_ref r = cc in
    let rest : map cited_ref cs ≡ map bare_ref rs = cc in
    let first = row_is notes items c r has here (there 0 c refl) in
    let later = rows_from notes items cs rs has rest (λ i s f. there (suc i) s f) in
    λ i. first i ∷ later i

map_some : (xs ys : List RefRow) → map Some xs ≡ map Some ys → xs ≡ ys
map_some [] [] e = refl
map_some [] (y ∷ ys) e = absurd cc
map_some (x ∷ xs) [] e = absurd cc
map_some (x ∷ xs) (y ∷ ys) e =
    let here : x ≡ y = cc in
    let rest : map Some xs ≡ map Some ys = cc in
    let later = map_some xs ys rest in
    λ i. here i ∷ later i

pub rows_are : (notes : Notes) (items : List PlainItem) (rows : List RefRow) → HasNoted notes items → map Some rows ≡ map (row_in notes) notes.refs.items → rows ≡ table items
rows_are notes items rows has e =
    map_some rows (table items)
    (e ∙ rows_from notes items notes.refs.items (refs_of items) has has.refs.cited
    (λ i c f. let there = cited_there notes.refs.items (refs_of items) i c has.refs.cited f in first_there c.key.now (refs_of items) i there.0 there.1 there.2))
