-- Closings and copies of open nodes, and the values that they bring.
use Rattle.std.proofs.Common.{◌≡◌, ◌<◌, ℕ, zero, suc, ◌+◌, ◌-◌, Bool, true, false, if◌then◌else◌, List, [], ◌∷◌, ◌++◌, length, map, reverse, take, drop, get_or, slice_get, Option, Some, None, refl, sym, ap, ◌∙◌, subst, arith, append-nil, append_assoc}
use Rattle.std.specs.Prelude.{All}
use Rattle.std.proofs.lemmas.Grind.{reverse_onto}
use Rattle.std.proofs.lemmas.List.{map-append, length-map, drop_all}
use Rattle.std.proofs.lemmas.List.Concat.{flat_map-append}
use Rattle.std.proofs.lemmas.List.Elements.{All-nil, All-cons, All-append, All-head, All-tail}
use Rattle.std.proofs.lemmas.Option.{get_or_from_slice_get, slice_get-get_or, slice_get_within}
use Rattle.ve_base.specs.declared.value.Value.{Value}
use Rattle.ve_base.specs.declared.value.Value.TheVariants as value
use Rattle.ve_base.specs.declared.value.ValueId.{ValueId}
use Rattle.ve_base.specs.Empty.{empty_head}
use Rattle.model_items.specs.declared.item.Item.{Item}
use Rattle.model_items.specs.declared.item.Item.TheVariants as item
use Rattle.model_items.specs.declared.plain_item.PlainItem.{PlainItem}
use Rattle.model_items.specs.Plain.{plain, plain_list, value_at, head_in, marks_in, white_in, CitesHead, CitesWell}
use Rattle.model_items.specs.Same.{head_same}
use Rattle.model_change.specs.Store.{fill, cited, cited_by, head_cited, marks_cited, white_cited}
use Rattle.model_change.specs.Transaction.{all_inserted}
use Rattle.model_edit.specs.Brackets.{closing_for, copy_of}
use Rattle.model_edit.specs.Edits.{Change, transaction_of}
use Rattle.model_edit.specs.Insert.{reopened}
use Rattle.ve_store.proofs.StoreLemmas.{admitted_there}
use Rattle.ve_store.specs.Following.{Following, Grows, together}
use Rattle.ve_tx.proofs.ValuesLemmas.{filled_on, plain-extended, all-extended, list-extended}
use Rattle.model_items.specs.Offsets.{openings_at}
use Rattle.ve_tx.specs.Operation.{Operation, by_value}
use Rattle.ve_edits.specs.Filled.{BringsInserted, IsFilledFor}
use Rattle.ve_edits.specs.Round.{AreOpeningsRound}
use Rattle.ve_edits.proofs.BracketLemmas.{cites_there}
use Rattle.ve_edits.proofs.CopyLemmas.{marks_filled, white_filled}
use Rattle.ve_edits.proofs.FollowingLemmas.{grows_itself, grows_on, grows_extends, store_extends}
use Rattle.ve_edits.proofs.PieceLemmas.{inserts_pieces}
use Rattle.ve_build_insert.specs.Reopened.{AreClosings, AreCopies, IsReopened}

-- ---- what is there already

head_filled : (values : List Value) (head : Option ValueId) → CitesHead values head → values ≡ fill values (head_cited (head_in (value_at values head)))
head_filled values None cites = refl
head_filled values (Some id) cites = by (head_same cites.0 empty_head) ∙ ap (λ v. fill values (head_cited (head_in v))) (sym cites.1)
  where
    by : (b : Bool) → values ≡ fill values (if b then [] else value.Head cites.0 ∷ [])
    by true = refl
    by false = admitted_there values (value.Head cites.0) (id.0, slice_get_within values id.0 (value.Head cites.0) cites.1, get_or_from_slice_get values id.0 (value.Head cites.0) (value.Head cites.0) cites.1)

item_filled : (values : List Value) (x : Item) → CitesWell values x → values ≡ fill values (cited_by (plain values x))
item_filled values (item.Char ch marks) cites =
    marks_filled values marks cites ∙ ap (fill values) (append-nil (marks_cited (marks_in (value_at values marks))))
item_filled values (item.Closing kind pre) cites =
    white_filled values pre cites ∙ ap (fill values) (append-nil (white_cited (white_in (value_at values pre))))
item_filled values (item.Opening kind generated head marks pre origin) cites =
    let M = marks_cited (marks_in (value_at values marks)) in
    let W = white_cited (white_in (value_at values pre)) in
    let white : values ≡ fill values W = white_filled values pre cites.2 ∙ ap (fill values) (append-nil W) in
    let marked : values ≡ fill values M = marks_filled values marks cites.1 ∙ ap (fill values) (append-nil M) in
    let both : values ≡ fill values (M ++ W) = white ∙ filled_on values values M W marked in
    both ∙ filled_on values values (head_cited (head_in (value_at values head))) (M ++ W) (head_filled values head cites.0)

-- items whose values are all there bring none
pub items_filled : (values : List Value) (items : List Item) → All (CitesWell values) items → values ≡ fill values (cited (plain_list values items))
items_filled values [] cites = refl
items_filled values (x ∷ items) cites =
    items_filled values items (All-tail (CitesWell values) x items cites)
    ∙ filled_on values values (cited_by (plain values x)) (cited (plain_list values items)) (item_filled values x (All-head (CitesWell values) x items cites))

cited-append : (xs ys : List PlainItem) → cited (xs ++ ys) ≡ cited xs ++ cited ys
cited-append xs ys = flat_map-append cited_by xs ys

-- ---- copies

pub copies_none : (store : List Value) (openings : List Item) (start : Following) (left : ℕ) (copies : List Item) → left ≡ length openings → copies ≡ [] → AreCopies store openings left start start copies
copies_none store openings start left copies whole none =
    let V = together store start in
    let A : List Item → Type 0 = AreCopies store openings left start start in
    let n = length-map openings (plain V) in
    let rest : drop left (plain_list V openings) ≡ [] = drop_all left (plain_list V openings) (omega arith) in
    subst A (sym none) (record {
      within = omega arith;
      grown = grows_itself start;
      means = ap (λ l. reverse (map copy_of l)) (sym rest);
      cites = All-nil (CitesWell V);
      filled = refl;
    })

openings_from : (items : List PlainItem) (i : ℕ) (x : PlainItem) → slice_get items i ≡ Some x → drop i items ≡ x ∷ drop (suc i) items
openings_from [] i x h = absurd (cc)
openings_from (y ∷ items) zero x h = let same : y ≡ x = cc in ap (λ y. y ∷ items) same
openings_from (y ∷ items) (suc i) x h = openings_from items i x h

there_plain : (values : List Value) (items : List Item) (i : ℕ) (x : Item) → slice_get items i ≡ Some x → slice_get (plain_list values items) i ≡ Some (plain values x)
there_plain values [] i x h = absurd (cc)
there_plain values (y ∷ items) zero x h = let same : y ≡ x = cc in ap (λ y. Some (plain values y)) same
there_plain values (y ∷ items) (suc i) x h = there_plain values items i x h

-- one copy more
pub copies_more : (store : List Value) (openings : List Item) (left : ℕ) (start old new : Following) (copies : List Item) (x copy : Item) →
    All (CitesWell (together store start)) openings → slice_get openings left ≡ Some x → AreCopies store openings (suc left) start old copies → Grows old new →
    plain (together store new) copy ≡ copy_of (plain (together store old) x) → CitesWell (together store new) copy → IsFilledFor store old new (plain (together store new) copy ∷ []) →
    (all : List Item) → all ≡ copies ++ copy ∷ [] → AreCopies store openings left start new all
copies_more store openings left start old new copies x copy listed there so_far grows is cites filled all whole =
    let S = together store start in
    let O = together store old in
    let N = together store new in
    let q = plain N copy in
    let P = plain_list S openings in
    let A : List Item → Type 0 = AreCopies store openings left start new in
    let before : plain_list N copies ≡ plain_list O copies = list-extended O N (grows_extends store old new grows) copies so_far.cites in
    let here : plain O x ≡ plain S x = plain-extended S O (grows_extends store start old so_far.grown) x (cites_there S openings left x listed there) in
    let copied : q ≡ copy_of (plain S x) = is ∙ ap copy_of here in
    let parts : plain_list N (copies ++ copy ∷ []) ≡ plain_list O copies ++ q ∷ [] = map-append (plain N) copies (copy ∷ []) ∙ ap (λ l. l ++ q ∷ []) before in
    let turned : reverse (map copy_of (drop left P)) ≡ reverse (map copy_of (drop (suc left) P)) ++ copy_of (plain S x) ∷ [] =
    ap (λ l. reverse (map copy_of l)) (openings_from P left (plain S x) (there_plain S openings left x there))
    ∙ reverse_onto (map copy_of (drop (suc left) P)) (copy_of (plain S x)) [] in
    let inside = so_far.within in
    subst A (sym whole) (record {
      within = omega arith;
      grown = grows_on start old new so_far.grown grows;
      means = parts ∙ ap (λ l. l ++ q ∷ []) so_far.means ∙ ap (λ y. reverse (map copy_of (drop (suc left) P)) ++ y ∷ []) copied ∙ sym turned;
      cites = All-append (CitesWell N) copies (copy ∷ []) (all-extended O N (grows_extends store old new grows) copies so_far.cites) (All-cons (CitesWell N) copy [] cites (All-nil (CitesWell N)));
      filled =
          filled ∙ filled_on S O (cited (plain_list O copies)) (cited (q ∷ [])) so_far.filled
          ∙ ap (fill S) (sym (cited-append (plain_list O copies) (q ∷ []))) ∙ ap (λ l. fill S (cited l)) (sym parts);
    })

-- the same at a position before the ones copied, by the slice's own reading
pub copies_step : (store : List Value) (openings : List Item) (left : ℕ) (start old new : Following) (copies : List Item) (d copy : Item) → 0 < left →
    All (CitesWell (together store start)) openings → AreCopies store openings left start old copies → Grows old new →
    plain (together store new) copy ≡ copy_of (plain (together store old) (get_or openings (left - 1) d)) → CitesWell (together store new) copy →
    IsFilledFor store old new (plain (together store new) copy ∷ []) → (all : List Item) → all ≡ copies ++ copy ∷ [] → AreCopies store openings (left - 1) start new all
copies_step store openings left start old new copies d copy some listed so_far grows is cites filled all whole =
    let before : left ≡ suc (left - 1) = omega arith in
    let inside = so_far.within in
    let A : ℕ → Type 0 = λ n. AreCopies store openings n start old copies in
    copies_more store openings (left - 1) start old new copies (get_or openings (left - 1) d) copy listed (slice_get-get_or openings (left - 1) d (omega arith)) (subst A before so_far) grows is cites filled all whole

-- ---- all that is put in

pub reopened_by : (store : List Value) (openings pieces closings copies made : List Item) (start new : Following) →
    All (CitesWell (together store start)) openings → All (CitesWell (together store start)) pieces → AreClosings openings closings → All (CitesWell (together store start)) closings →
    AreCopies store openings 0 start new copies → made ≡ (closings ++ pieces) ++ copies → IsReopened store openings pieces start new made
reopened_by store openings pieces closings copies made start new listed given closed closed_cite copied whole =
    let S = together store start in
    let N = together store new in
    let W = CitesWell S in
    let C = closings ++ pieces in
    let cites : All W C = All-append W closings pieces closed_cite given in
    let more = grows_extends store start new copied.grown in
    let before : plain_list N C ≡ plain_list S C = list-extended S N more C cites in
    let first : plain_list S C ≡ map closing_for (plain_list S openings) ++ plain_list S pieces =
    map-append (plain S) closings pieces ∙ ap (λ l. l ++ plain_list S pieces) (closed S) in
    let parts : plain_list N (C ++ copies) ≡ plain_list S C ++ plain_list N copies = map-append (plain N) C copies ∙ ap (λ l. l ++ plain_list N copies) before in
    let R : List Item → Type 0 = IsReopened store openings pieces start new in
    subst R (sym whole) (record {
      means =
          parts ∙ ap (λ l. l ++ plain_list N copies) first ∙ append_assoc (map closing_for (plain_list S openings)) (plain_list S pieces) (plain_list N copies)
          ∙ ap (λ l. map closing_for (plain_list S openings) ++ (plain_list S pieces ++ l)) copied.means;
      cites = All-append (CitesWell N) C copies (all-extended S N more C cites) copied.cites;
      filled =
          copied.filled ∙ filled_on S S (cited (plain_list S C)) (cited (plain_list N copies)) (items_filled S C cites)
          ∙ ap (fill S) (sym (cited-append (plain_list S C) (plain_list N copies))) ∙ ap (λ l. fill S (cited l)) (sym parts);
    })

-- ---- what the transaction inserts

-- one edit that removes nothing inserts its items
pub inserted_by_one : (items : List PlainItem) (at : ℕ) (inserted : List PlainItem) → all_inserted (transaction_of items (Change at 0 inserted ∷ [])) ≡ inserted
inserted_by_one items at inserted = inserts_pieces items (Change at 0 inserted ∷ []) ∙ append-nil inserted

-- ---- closings

-- one closing more
pub closings_more : (values : List Value) (openings closings : List Item) (i : ℕ) (x closing : Item) (all : List Item) → take (i + 1) openings ≡ take i openings ++ x ∷ [] →
    plain_list values closings ≡ map closing_for (plain_list values (take i openings)) → plain values closing ≡ closing_for (plain values x) → all ≡ closings ++ closing ∷ [] →
    plain_list values all ≡ map closing_for (plain_list values (take (i + 1) openings))
closings_more values openings closings i x closing all parts so_far is whole =
    let T = take i openings in
    ap (plain_list values) whole ∙ map-append (plain values) closings (closing ∷ []) ∙ ap (λ l. l ++ plain values closing ∷ []) so_far
    ∙ ap (λ p. map closing_for (plain_list values T) ++ p ∷ []) is
    ∙ sym (ap (λ l. map closing_for (plain_list values l)) parts ∙ ap (map closing_for) (map-append (plain values) T (x ∷ [])) ∙ map-append closing_for (plain_list values T) (plain values x ∷ []))

pub closings_cite_more : (values : List Value) (openings closings : List Item) (i : ℕ) (d closing : Item) (all : List Item) → All (CitesWell values) openings → i < length openings →
    All (CitesWell values) closings → (CitesWell values (get_or openings i d) → CitesWell values closing) → all ≡ closings ++ closing ∷ [] → All (CitesWell values) all
closings_cite_more values openings closings i d closing all listed within so_far cites whole =
    let W = CitesWell values in
    subst (All W) (sym whole) (All-append W closings (closing ∷ []) so_far (All-cons W closing [] (cites (listed i d within)) (All-nil W)))

-- ---- the transaction

module _ (store : List Value) (items : List Item) (at levels : ℕ) (openings pieces made lent : List Item) (start new : Following) (tx : List Operation)
    (listed : All (CitesWell store) items) (round : AreOpeningsRound items at levels openings) (r : IsReopened store openings pieces start new made) (same : lent ≡ made)
    (is : by_value (together store new) tx ≡ transaction_of (plain_list (together store new) items) (Change at 0 (plain_list (together store new) lent) ∷ [])) where
  pub puts_by : by_value (together store new) tx
      ≡ transaction_of (plain_list store items) (Change at 0 (reopened (take levels (openings_at (plain_list store items) at)) (plain_list (together store start) pieces)) ∷ [])
  puts_by =
      let S = together store start in
      let N = together store new in
      let P = plain_list store items in
      let page : plain_list N items ≡ P = list-extended store N (store_extends store new) items listed in
      let before : plain_list S items ≡ P = list-extended store S (store_extends store start) items listed in
      let opened : plain_list S openings ≡ take levels (openings_at P at) = round S ∙ ap (λ l. take levels (openings_at l at)) before in
      is ∙ ap (λ l. transaction_of l (Change at 0 (plain_list N lent) ∷ [])) page
      ∙ ap (λ l. transaction_of P (Change at 0 (plain_list N l) ∷ [])) same
      ∙ ap (λ l. transaction_of P (Change at 0 l ∷ [])) r.means
      ∙ ap (λ l. transaction_of P (Change at 0 (reopened l (plain_list S pieces)) ∷ [])) opened

  pub brings_by : BringsInserted store start new tx
  brings_by =
      let N = together store new in
      r.filled ∙ ap (λ l. fill (together store start) (cited (plain_list N l))) (sym same)
      ∙ ap (λ l. fill (together store start) (cited l)) (sym (ap all_inserted is ∙ inserted_by_one (plain_list N items) at (plain_list N lent)))
