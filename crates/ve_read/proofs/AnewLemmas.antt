-- Items that cite values anew read as they did.
use Rattle.std.proofs.Common.{◌≡◌, ◌≤◌, ◌<◌, ℕ, zero, suc, ◌+◌, Bool, true, false, if◌then◌else◌, List, [], ◌∷◌, ◌++◌, length, map, take, drop, slice_get, Option, Some, None, refl, sym, ap, ◌∙◌, subst, append_assoc, take-append-drop, arith}
use Rattle.std.specs.Prelude.{All}
use Rattle.std.proofs.lemmas.List.{map-append, take_more, take_all, take_at}
use Rattle.std.proofs.lemmas.List.Elements.{All-nil, All-cons, All-head, All-tail}
use Rattle.std.proofs.lemmas.Option.{get_or_from_slice_get}
use Rattle.ve_base.specs.declared.value.Value.{Value}
use Rattle.ve_base.specs.declared.value.Value.TheVariants as value
use Rattle.ve_base.specs.declared.value.ValueId.{ValueId}
use Rattle.model_items.specs.declared.item.Item.{Item}
use Rattle.model_items.specs.declared.item.Item.TheVariants as item
use Rattle.model_items.specs.Plain.{plain, plain_list, value_at, head_in, marks_in, white_in, CitesHead, CitesMarks, CitesWhite, CitesWell}
use Rattle.model_change.specs.Store.{admitted, fill, holds}
use Rattle.model_change.proofs.StoreLemmas.{fill_appends}
use Rattle.ve_store.proofs.StoreLemmas.{admitted_there, Contains-holds, get_before}
use Rattle.ve_store.specs.Following.{Following, Grows, together}
use Rattle.ve_tx.proofs.CopiesLemmas.{fill-append}
use Rattle.ve_tx.proofs.ValuesLemmas.{filled_on}
use Rattle.ve_read.specs.Anew.{StandThere, id_anew, item_anew}

-- ---- filling with what was filled already

admitted_last : (values vs : List Value) (v : Value) (b : Bool) → holds vs v ≡ b → fill values (if b then vs else vs ++ v ∷ []) ≡ admitted (fill values vs) v
admitted_last values vs v true h = admitted_there (fill values vs) v ((fill_appends values vs).all v (Contains-holds vs v h))
admitted_last values vs v false h = fill-append values vs (v ∷ [])

fill_on : (values first vs : List Value) → fill values (fill first vs) ≡ fill (fill values first) vs
fill_on values first [] = refl
fill_on values first (v ∷ vs) = fill_on values (admitted first v) vs ∙ ap (λ l. fill l vs) (admitted_last values first v (holds first v) refl)

-- each value once, in the order in which they come, is as good as all of them
pub filled_once : (values vs : List Value) → fill values (fill [] vs) ≡ fill values vs
filled_once values vs = fill_on values [] vs

-- ---- values that stand in another list

-- where a value stands there
record IsThere (others : List Value) (ids : List ValueId) (i : ℕ) (v : Value) : Type 0 where
  id : ValueId
  cites : slice_get ids i ≡ Some id
  there : slice_get others id.0 ≡ Some v

is_there : (values others : List Value) (ids : List ValueId) → StandThere values others ids → (i : ℕ) (v : Value) → slice_get values i ≡ Some v → IsThere others ids i v
is_there [] others ids s i v h = absurd cc
is_there (x ∷ values) others [] s i v h = absurd cc
is_there (x ∷ values) others (id ∷ ids) s zero v h = record { id = id; cites = refl; there = cc }
is_there (x ∷ values) others (id ∷ ids) s (suc i) v h = let rest : StandThere values others ids = cc in let t = is_there values others ids rest i v h in record { id = t.id; cites = t.cites; there = t.there }

module _ (values others : List Value) (ids : List ValueId) (stand : StandThere values others ids) where
  head_anew : (id : Option ValueId) → CitesHead values id → CitesHead others (id_anew ids id) × (head_in (value_at others (id_anew ids id)) ≡ head_in (value_at values id))
  head_anew None c = (tt, refl)
  head_anew (Some id) c =
      let t = is_there values others ids stand id.0 (value.Head c.0) c.1 in (
        subst (CitesHead others) (sym t.cites) (c.0, t.there, c.2),
        ap (λ k. head_in (value_at others k)) t.cites ∙ ap head_in t.there ∙ sym (ap head_in c.1),
      )

  marks_anew : (id : Option ValueId) → CitesMarks values id → CitesMarks others (id_anew ids id) × (marks_in (value_at others (id_anew ids id)) ≡ marks_in (value_at values id))
  marks_anew None c = (tt, refl)
  marks_anew (Some id) c =
      let t = is_there values others ids stand id.0 (value.Marks c.0) c.1 in (
        subst (CitesMarks others) (sym t.cites) (c.0, t.there, c.2),
        ap (λ k. marks_in (value_at others k)) t.cites ∙ ap marks_in t.there ∙ sym (ap marks_in c.1),
      )

  white_anew : (id : Option ValueId) → CitesWhite values id → CitesWhite others (id_anew ids id) × (white_in (value_at others (id_anew ids id)) ≡ white_in (value_at values id))
  white_anew None c = (tt, refl)
  white_anew (Some id) c =
      let t = is_there values others ids stand id.0 (value.White c.0) c.1 in (
        subst (CitesWhite others) (sym t.cites) (c.0, t.there, c.2),
        ap (λ k. white_in (value_at others k)) t.cites ∙ ap white_in t.there ∙ sym (ap white_in c.1),
      )

  one_cites : (x : Item) → CitesWell values x → CitesWell others (item_anew ids x)
  one_cites (item.Char ch marks) c = (marks_anew marks c).0
  one_cites (item.Opening kind generated head marks pre origin) c = ((head_anew head c.0).0, (marks_anew marks c.1).0, (white_anew pre c.2).0)
  one_cites (item.Closing kind pre) c = (white_anew pre c).0

  one_reads : (x : Item) → CitesWell values x → plain others (item_anew ids x) ≡ plain values x
  one_reads (item.Char ch marks) c = let m = (marks_anew marks c).1 in cc
  one_reads (item.Opening kind generated head marks pre origin) c =
      let h = (head_anew head c.0).1 in let m = (marks_anew marks c.1).1 in let w = (white_anew pre c.2).1 in cc
  one_reads (item.Closing kind pre) c = let w = (white_anew pre c).1 in cc

  pub all_cite : (xs : List Item) → All (CitesWell values) xs → All (CitesWell others) (map (item_anew ids) xs)
  all_cite [] a = All-nil (CitesWell others)
  all_cite (x ∷ xs) a =
      All-cons (CitesWell others) (item_anew ids x) (map (item_anew ids) xs) (one_cites x (All-head (CitesWell values) x xs a)) (all_cite xs (All-tail (CitesWell values) x xs a))

  pub all_read : (xs : List Item) → All (CitesWell values) xs → plain_list others (map (item_anew ids) xs) ≡ plain_list values xs
  all_read [] a = refl
  all_read (x ∷ xs) a =
      let here = one_reads x (All-head (CitesWell values) x xs a) in
      let rest = all_read xs (All-tail (CitesWell values) x xs a) in
      λ i. here i ∷ rest i

-- ---- one value more

-- they stand there with more after them
stand_on : (values others more : List Value) (ids : List ValueId) → StandThere values others ids → StandThere values (others ++ more) ids
stand_on [] others more [] s = refl
stand_on [] others more (id ∷ ids) s = absurd cc
stand_on (x ∷ values) others more [] s = absurd cc
stand_on (x ∷ values) others more (id ∷ ids) s =
    let here : slice_get others id.0 ≡ Some x = cc in
    let rest : StandThere values others ids = cc in
    λ i. sym (get_before others more id.0 x here) i ∷ stand_on values others more ids rest i

pub stand_more : (values others new : List Value) (ids all : List ValueId) (v : Value) (id : ValueId) → StandThere values others ids → new ≡ admitted others v → slice_get new id.0 ≡ Some v
    → all ≡ ids ++ id ∷ [] → StandThere (values ++ v ∷ []) new all
stand_more values others new ids all v id s grown there is =
    let f = fill_appends others (v ∷ []) in
    let on : StandThere values new ids = subst (λ l. StandThere values l ids) (sym (grown ∙ f.parts)) (stand_on values others f.appended ids s) in
    let P : List ValueId → Type 0 = StandThere (values ++ v ∷ []) new in
    subst P (sym is)
    (map-append Some values (v ∷ []) ∙ ap (λ l. l ++ Some v ∷ []) on ∙ ap (λ one. map (λ k. slice_get new k.0) ids ++ one ∷ []) (sym there)
    ∙ sym (map-append (λ (k : ValueId). slice_get new k.0) ids (id ∷ [])))

-- the first values, with the next one
pub next_value : (values : List Value) (n : ℕ) (v : Value) → n < length values → slice_get values n ≡ Some v → take (n + 1) values ≡ take n values ++ v ∷ []
next_value values n v within here = take_more values n v within ∙ ap (λ x. take n values ++ x ∷ []) (get_or_from_slice_get values n v v here)

pub filled_next : (start old new vs : List Value) (v : Value) → old ≡ fill start vs → new ≡ admitted old v → new ≡ fill start (vs ++ v ∷ [])
filled_next start old new vs v e h = h ∙ filled_on start old vs (v ∷ []) e

-- ---- values as they go in

pub grows_itself : (new : Following) → Grows new new
grows_itself new = (refl, take_all (length new.values) new.values (omega arith))

pub grows_on : (old mid new : Following) → Grows old mid → Grows mid new → Grows old new
grows_on old mid new g h =
    let M = drop (length old.values) mid.values in
    let N = drop (length mid.values) new.values in
    let first : mid.values ≡ old.values ++ M = sym (take-append-drop (length old.values) mid.values) ∙ ap (λ l. l ++ M) g.1 in
    let then_ : new.values ≡ mid.values ++ N = sym (take-append-drop (length mid.values) new.values) ∙ ap (λ l. l ++ N) h.1 in
    let whole : new.values ≡ old.values ++ (M ++ N) = then_ ∙ ap (λ l. l ++ N) first ∙ append_assoc old.values M N in
    (h.0 ∙ g.0, ap (take (length old.values)) whole ∙ take_at old.values (M ++ N) (length old.values) refl)

-- The first so many values of a list are cited in a store and what follows it, which took those
-- that were new.
pub record AreAnew (values store : List Value) (count : ℕ) (old new : Following) (ids : List ValueId) : Type 0 where
  pub stand : StandThere (take count values) (together store new) ids
  pub filled : together store new ≡ fill (together store old) (take count values)
  pub grows : Grows old new

pub none_anew : (values store : List Value) (new : Following) (ids : List ValueId) → ids ≡ [] → AreAnew values store 0 new new ids
none_anew values store new ids none = let P : List ValueId → Type 0 = AreAnew values store 0 new new in subst P (sym none) (record { stand = refl; filled = refl; grows = grows_itself new })

pub one_anew : (values store : List Value) (n : ℕ) (old mid new : Following) (ids all : List ValueId) (v : Value) (id : ValueId) → AreAnew values store n old mid ids → n < length values
    → slice_get values n ≡ Some v → together store new ≡ admitted (together store mid) v → slice_get (together store new) id.0 ≡ Some v → Grows mid new → all ≡ ids ++ id ∷ []
    → AreAnew values store (n + 1) old new all
one_anew values store n old mid new ids all v id a within here grown there grows is =
    let next : take (n + 1) values ≡ take n values ++ v ∷ [] = next_value values n v within here in
    record {
      stand = subst (λ vs. StandThere vs (together store new) all) (sym next) (stand_more (take n values) (together store mid) (together store new) ids all v id a.stand grown there is);
      filled = filled_next (together store old) (together store mid) (together store new) (take n values) v a.filled grown ∙ ap (fill (together store old)) (sym next);
      grows = grows_on old mid new a.grows grows;
    }

-- ---- items as they go in

pub item_next : (ids : List ValueId) (items : List Item) (n : ℕ) (x : Item) (made all : List Item) → n < length items → slice_get items n ≡ Some x → made ≡ map (item_anew ids) (take n items)
    → all ≡ made ++ item_anew ids x ∷ [] → all ≡ map (item_anew ids) (take (n + 1) items)
item_next ids items n x made all within here so_far is =
    let next : take (n + 1) items ≡ take n items ++ x ∷ [] = take_more items n x within ∙ ap (λ y. take n items ++ y ∷ []) (get_or_from_slice_get items n x x here) in
    is ∙ ap (λ l. l ++ item_anew ids x ∷ []) so_far ∙ sym (map-append (item_anew ids) (take n items) (x ∷ [])) ∙ ap (map (item_anew ids)) (sym next)

-- the whole list, where the end is reached
pub take_whole : {X : Type 0} (xs : List X) (n : ℕ) → length xs ≤ n → take n xs ≡ xs
take_whole xs n h = take_all n xs h
