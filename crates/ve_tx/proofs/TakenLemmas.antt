-- Items over a store that takes values of a list read as the items over the list.
use Rattle.std.proofs.Common.{◌≡◌, ◌<◌, ℕ, Bool, true, false, not, nat_eq, List, [], ◌∷◌, ◌++◌, length, map, get_or, slice_get, Contains, Option, Some, None, option_map, refl, sym, ap, subst, ◌∙◌, append_assoc, arith}
use Rattle.std.specs.Prelude.{option_to_list, OnErr, Result, Ok, Err}
use Rattle.std.specs.List.{list_any}
use Rattle.std.proofs.lemmas.List.{map-append}
use Rattle.std.proofs.lemmas.List.Elements.{Contains-append_left, Contains-append_right}
use Rattle.std.proofs.lemmas.Option.{slice_get-map, slice_get_within, get_or_from_slice_get, slice_get-get_or}
use Rattle.indexmap.specs.IndexSet.{insert_key}
use Rattle.ve_base.specs.declared.value.Value.{Value}
use Rattle.ve_base.specs.declared.value.ValueId.{ValueId}
use Rattle.ve_base.specs.declared.value.Value.TheVariants as value
use Rattle.ve_kinds.specs.declared.kind.Kind.{Kind}
use Rattle.model_items.specs.declared.item.Item.{Item}
use Rattle.model_items.specs.declared.item.Item.TheVariants as item
use Rattle.model_items.specs.declared.plain_item.PlainItem.{PlainItem}
use Rattle.model_items.specs.Plain.{CitesWhite, CitesWell}
use Rattle.model_change.specs.Store.{admitted, fill, cited, cited_by}
use Rattle.model_change.specs.Transaction.{Transaction, Retain, Replace, Attribute, all_inserted, all_removed}
use Rattle.model_change.proofs.StoreLemmas.{fill_appends}
use Rattle.ve_store.proofs.StoreLemmas.{admitted_there, get_before}
use Rattle.ve_tx.specs.Copied.{AreCopied, Stands, one_cited}
use Rattle.ve_tx.specs.Making.{Extends}
use Rattle.ve_tx.specs.Parcel.{transaction_cited}
use Rattle.ve_tx.specs.Taken.{AreTaken, place_of}
use Rattle.ve_tx.proofs.CopiesLemmas.{fill-append, copied_at, cited_at, seen_keys, unseen_copied, IsStored}
use Rattle.ve_tx.proofs.ValuesLemmas.{extends_on, extends_by_fill}

pub still_extends : (old mid new vs : List Value) → new ≡ fill mid vs → Extends old mid → Extends old new
still_extends old mid new vs is h = extends_on old mid new h (extends_by_fill mid new vs is)

pub extends_twice : (s0 s1 s2 s3 vs ws : List Value) → s1 ≡ fill s0 vs → s2 ≡ fill s1 ws → Extends s2 s3 → Extends s0 s3
extends_twice s0 s1 s2 s3 vs ws a b h = extends_on s0 s2 s3 (extends_on s0 s1 s2 (extends_by_fill s0 s1 vs a) (extends_by_fill s1 s2 ws b)) h

white_within : (values : List Value) (pre : Option ValueId) → CitesWhite values pre → Stands values pre
white_within values None h = tt
white_within values (Some id) h = slice_get_within values id.0 (value.White h.0) h.1

-- what a closing cites stands there
pub white_stands : (values : List Value) (i : Item) (kind : Kind) (pre : Option ValueId) → i ≡ item.Closing kind pre → CitesWell values i → Stands values pre
white_stands values i kind pre is cites = white_within values pre (subst (CitesWell values) is cites)

-- what holds, holds after an error
pub on_err : {A E : Type 0} {P : Type 0} (r : Result A E) → P → OnErr r P
on_err (Ok x) p = tt
on_err (Err e) p = p

-- what stands in a store does so with others after it
copied_on : (store more : List Value) (places : List ℕ) (vs : List Value) → AreCopied store places vs → AreCopied (store ++ more) places vs
copied_on store more [] [] h = refl
copied_on store more [] (v ∷ vs) h = cc
copied_on store more (p ∷ places) [] h = cc
copied_on store more (p ∷ places) (v ∷ vs) h =
    let here : slice_get store p ≡ Some v = cc in
    let rest : AreCopied store places vs = cc in
    λ i. sym (get_before store more p v here) i ∷ copied_on store more places vs rest i

-- and after a filling
copied_filled : (store new vs : List Value) (places : List ℕ) (taken : List Value) → new ≡ fill store vs → AreCopied store places taken → AreCopied new places taken
copied_filled store new vs places taken is h =
    subst (λ all. AreCopied all places taken) (sym (is ∙ (fill_appends store vs).parts)) (copied_on store (fill_appends store vs).appended places taken h)

lengths : {X Y Z : Type 0} (f : X → Z) (g : Y → Z) (xs : List X) (ys : List Y) → map f xs ≡ map g ys → length xs ≡ length ys
lengths f g [] [] e = refl
lengths f g [] (y ∷ ys) e = cc
lengths f g (x ∷ xs) [] e = cc
lengths f g (x ∷ xs) (y ∷ ys) e = let rest : map f xs ≡ map g ys = cc in let n = lengths f g xs ys rest in cc

lengths-map : {X Y : Type 0} (f : X → Y) (xs : List X) → length (map f xs) ≡ length xs
lengths-map f [] = refl
lengths-map f (x ∷ xs) = let n = lengths-map f xs in cc

-- a position that was seen has a citation beside it
pub cited_within : (values store : List Value) (places new : List ℕ) (ids : List ValueId) (at p : ℕ) (is_new : Bool) → AreTaken values store places ids →
    new ≡ insert_key nat_eq places p → is_new ≡ not (list_any (nat_eq p) places) → is_new ≡ false → IsStored new at p → at < length ids
cited_within values store places new ids at p is_new h keys added old stored =
    let same : new ≡ places = seen_keys places new p is_new keys added old in
    let here = slice_get_within new at stored.0 stored.1 in
    let many : length new ≡ length ids =
    ap length same ∙ sym (lengths Some (slice_get values) h.0 places h.1) ∙ lengths Some (slice_get store) h.0 (map place_of ids) h.2 ∙ lengths-map place_of ids in
    subst (λ n. at < n) many here

-- which cites the value of that position
pub stands_there : (values store : List Value) (places new : List ℕ) (ids : List ValueId) (at p : ℕ) (is_new : Bool) (id : ValueId) → AreTaken values store places ids →
    new ≡ insert_key nat_eq places p → is_new ≡ not (list_any (nat_eq p) places) → is_new ≡ false → IsStored new at p → at < length ids → id ≡ get_or ids at id →
    slice_get store id.0 ≡ slice_get values p
stands_there values store places new ids at p is_new id h keys added old stored within here =
    let same : new ≡ places = seen_keys places new p is_new keys added old in
    let there : slice_get h.0 at ≡ slice_get values p = cited_at values places h.0 at p h.1 (subst (λ all. IsStored all at p) same stored) in
    let cites : slice_get (map place_of ids) at ≡ Some id.0 =
    slice_get-map place_of ids at ∙ ap (option_map place_of) (slice_get-get_or ids at id within ∙ ap Some (sym here)) in
    sym (copied_at store (map place_of ids) h.0 at id.0 h.2 cites) ∙ there

-- so it adds nothing
pub there_filled : (values store : List Value) (p at : ℕ) (id : Option ValueId) → id ≡ Some (record { 0 = p }) → slice_get store at ≡ slice_get values p →
    store ≡ fill store (one_cited values id)
there_filled values store p at id is here =
    by (slice_get store at) refl ∙ ap (λ one. fill store (option_to_list one)) here ∙ ap (λ i. fill store (one_cited values i)) (sym is)
  where
    by : (o : Option Value) → slice_get store at ≡ o → store ≡ fill store (option_to_list (slice_get store at))
    by None e = ap (λ one. fill store (option_to_list one)) (sym e)
    by (Some v) e =
        admitted_there store v (at, slice_get_within store at v e, get_or_from_slice_get store at v v e) ∙ ap (λ one. fill store (option_to_list one)) (sym e)

-- one that was not is admitted
pub new_filled : (values store new : List Value) (p : ℕ) (v : Value) (id : Option ValueId) → id ≡ Some (record { 0 = p }) → slice_get values p ≡ Some v → new ≡ admitted store v →
    new ≡ fill store (one_cited values id)
new_filled values store new p v id is here ok =
    ok ∙ ap (λ one. fill store (option_to_list one)) (sym here) ∙ ap (λ i. fill store (one_cited values i)) (sym is)

pub new_taken : (values store new : List Value) (places places' : List ℕ) (ids ids' : List ValueId) (p : ℕ) (is_new : Bool) (v : Value) (id : ValueId) →
    AreTaken values store places ids → places' ≡ insert_key nat_eq places p → is_new ≡ not (list_any (nat_eq p) places) → is_new ≡ true → slice_get values p ≡ Some v →
    new ≡ admitted store v → slice_get new id.0 ≡ Some v → ids' ≡ ids ++ id ∷ [] → AreTaken values new places' ids'
new_taken values store new places places' ids ids' p is_new v id h keys added unseen here ok stored pushed =
    let on : AreCopied new (map place_of ids) h.0 = copied_filled store new (v ∷ []) (map place_of ids) h.0 ok h.2 in (
      h.0 ++ v ∷ [],
      unseen_copied values places places' h.0 (h.0 ++ v ∷ []) p is_new v h.1 keys added unseen here refl,
      subst (λ all. AreCopied new (map place_of all) (h.0 ++ v ∷ [])) (sym pushed)
          (map-append Some h.0 (v ∷ []) ∙ ap (λ prefix. prefix ++ Some v ∷ []) on ∙ ap (λ one. map (slice_get new) (map place_of ids) ++ one ∷ []) (sym stored)
          ∙ sym (map-append (slice_get new) (map place_of ids) (id.0 ∷ [])) ∙ ap (map (slice_get new)) (sym (map-append place_of ids (id ∷ [])))),
    )

-- what removed items cite adds nothing, where it is there

there_filled_all : (store vs : List Value) → ((v : Value) → Contains vs v → Contains store v) → fill store vs ≡ store
there_filled_all store [] h = refl
there_filled_all store (v ∷ vs) h =
    ap (λ all. fill all vs) (sym (admitted_there store v (h v (Contains-append_left (v ∷ []) vs v (0, omega arith, refl)))))
    ∙ there_filled_all store vs (λ w within. h w (Contains-append_right (v ∷ []) vs w within))

cited-append : (xs ys : List PlainItem) → cited (xs ++ ys) ≡ cited xs ++ cited ys
cited-append [] ys = refl
cited-append (x ∷ xs) ys = ap (λ vs. cited_by x ++ vs) (cited-append xs ys) ∙ sym (append_assoc (cited_by x) (cited xs) (cited ys))

pub removed_adds_nothing : (store : List Value) (t : Transaction) → ((v : Value) → Contains (cited (all_removed t)) v → Contains store v) →
    fill store (transaction_cited t) ≡ fill store (cited (all_inserted t))
removed_adds_nothing store [] h = refl
removed_adds_nothing store (Retain count ∷ ops) h = removed_adds_nothing store ops h
removed_adds_nothing store (Attribute change ∷ ops) h = removed_adds_nothing store ops h
removed_adds_nothing store (Replace removed inserted ∷ ops) h =
    let parts = cited-append removed (all_removed ops) in
    let gone : (v : Value) → Contains (cited removed) v → Contains store v =
    λ v within. h v (subst (λ vs. Contains vs v) (sym parts) (Contains-append_left (cited removed) (cited (all_removed ops)) v within)) in
    let grown = fill_appends store (cited inserted) in
    let later : (v : Value) → Contains (cited (all_removed ops)) v → Contains (fill store (cited inserted)) v =
    λ v within. subst (λ vs. Contains vs v) (sym grown.parts)
    (Contains-append_left store grown.appended v (h v (subst (λ vs. Contains vs v) (sym parts) (Contains-append_right (cited removed) (cited (all_removed ops)) v within)))) in
    fill-append store (cited removed ++ cited inserted) (transaction_cited ops)
    ∙ ap (λ vs. fill vs (transaction_cited ops)) (fill-append store (cited removed) (cited inserted) ∙ ap (λ vs. fill vs (cited inserted)) (there_filled_all store (cited removed) gone))
    ∙ removed_adds_nothing (fill store (cited inserted)) ops later
    ∙ sym (fill-append store (cited inserted) (cited (all_inserted ops))) ∙ ap (fill store) (sym (cited-append inserted (all_inserted ops)))
