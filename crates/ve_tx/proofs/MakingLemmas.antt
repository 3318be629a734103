-- How an opening gets its changed head; ranges that are copied, and items of which each cites well.
use Rattle.std.proofs.Common.{◌≡◌, ◌≤◌, ◌<◌, ℕ, zero, suc, ◌+◌, ◌-◌, min, true, List, [], ◌∷◌, ◌++◌, length, take, drop, slice_get, All, Some, refl, sym, ap, ◌∙◌, subst, append_assoc, arith}
use Rattle.std.proofs.lemmas.List.{length-take, length-drop, get_or-take, get_or-drop}
use Rattle.std.proofs.lemmas.Option.{get_or_from_slice_get, slice_get_within}
use Rattle.ve_items.proofs.PositionLemmas.{range_more}
use Rattle.ve_base.specs.declared.head.Head.{Head}
use Rattle.ve_base.specs.declared.value.Value.{Value}
use Rattle.model_items.specs.declared.item.Item.{Item}
use Rattle.model_items.specs.declared.plain_item.PlainItem.{PlainItem}
use Rattle.model_items.specs.declared.plain_item.PlainItem.TheVariants.{Char, Opening, Closing}
use Rattle.model_items.specs.Plain.{plain, plain_list, CitesWell}
use Rattle.model_change.specs.Store.{fill, head_cited, head_if}
use Rattle.ve_tx.specs.Making.{item_with_head, first_headed, IsOpening}

-- one more piece of a range
pub copied-more : (items start now new piece : List Item) (from at n : ℕ) → from ≤ at → now ≡ start ++ take (at - from) (drop from items) → new ≡ now ++ piece →
    piece ≡ take n (drop at items) → new ≡ start ++ take (at + n - from) (drop from items)
copied-more items start now new piece from at n begun now_is new_is piece_is =
    let grown : take (at + n - from) (drop from items) ≡ take (at - from) (drop from items) ++ piece =
    sym
    (range_more items (take (at - from) (drop from items)) (take (at - from) (drop from items) ++ piece) piece from at n begun refl refl piece_is) in
    new_is ∙ ap (λ l. l ++ piece) now_is ∙ append_assoc start (take (at - from) (drop from items)) piece ∙ ap (λ l. start ++ l) (sym grown)

pub still_opening : (p q : PlainItem) → q ≡ p → IsOpening p → IsOpening q
still_opening p q e h = subst IsOpening (sym e) h

pub All-at : (values : List Value) (items : List Item) (at : ℕ) (x : Item) → All (CitesWell values) items → slice_get items at ≡ Some x → CitesWell values x
All-at values items at x a here =
    subst (CitesWell values) (get_or_from_slice_get items at x x here) (a at x (slice_get_within items at x here))

pub All-drop : (values : List Value) (n : ℕ) (xs : List Item) → All (CitesWell values) xs → All (CitesWell values) (drop n xs)
All-drop values n xs a k d below =
    let cut : length (drop n xs) ≡ length xs - n = length-drop n xs in
    let P : Item → Type 0 = CitesWell values in
    subst P (sym (get_or-drop n xs k d)) (a (n + k) d (omega arith))

pub All-take : (values : List Value) (n : ℕ) (xs : List Item) → All (CitesWell values) xs → All (CitesWell values) (take n xs)
All-take values n xs a k d below =
    let cut : length (take n xs) ≡ min n (length xs) = length-take n xs in
    let P : Item → Type 0 = CitesWell values in
    let here : k < n = omega arith in
    subst P (sym (get_or-take n xs k d here)) (a k d (omega arith))

pub drop-at : (values : List Value) (list : List Item) (from : ℕ) (x : Item) → slice_get list from ≡ Some x →
    drop from (plain_list values list) ≡ plain values x ∷ drop (from + 1) (plain_list values list)
drop-at values [] from x h = cc
drop-at values (y ∷ list) zero x h = let same : y ≡ x = cc in ap (λ z. plain values z ∷ plain_list values list) same
drop-at values (y ∷ list) (suc from) x h =
    let next : suc from + 1 ≡ suc (from + 1) = omega arith in
    rw next (drop-at values list from x h)

head_if-opening : (head : Head) (p : PlainItem) (items : List PlainItem) → IsOpening p → head_if true (item_with_head (Some head) p ∷ items) ≡ head_cited head
head_if-opening head (Opening kind other marks pre origin generated) items h = refl
head_if-opening head (Char ch marks) items h = absurd h
head_if-opening head (Closing kind pre) items h = absurd h

-- the store and the splices with an opening's changed head
module _ (old new : List Value) (list : List Item) (at : ℕ) (x : Item) (head : Head) (here : slice_get list at ≡ Some x) (opening : IsOpening (plain old x)) where
  pub settled-store : new ≡ fill old (head_cited head) → new ≡ fill old (head_if true (first_headed (Some head) (drop at (plain_list old list))))
  settled-store stored =
      stored
      ∙ ap (fill old) (sym (head_if-opening head (plain old x) (drop (at + 1) (plain_list old list)) opening))
      ∙ ap (λ l. fill old (head_if true (first_headed (Some head) l))) (sym (drop-at old list at x here))

  pub settled-item : (y : Item) → plain new y ≡ item_with_head (Some head) (plain old x) → plain_list new (y ∷ []) ≡ take 1 (first_headed (Some head) (drop at (plain_list old list)))
  settled-item y e = ap (λ p. p ∷ []) e ∙ ap (λ l. take 1 (first_headed (Some head) l)) (sym (drop-at old list at x here))
