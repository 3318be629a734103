-- The edits of a range's marks, as they are collected item by item.
use Rattle.std.proofs.Common.{◌≡◌, ◌≤◌, ℕ, ◌+◌, Bool, true, false, if◌then◌else◌, List, [], ◌∷◌, ◌++◌, All, slice_get, Option, Some, None, refl, sym, ap, ◌∙◌, subst, arith, append-nil}
use Rattle.std.specs.List.{flat_map}
use Rattle.std.proofs.lemmas.List.Concat.{flat_map-append}
use Rattle.std.proofs.lemmas.List.Elements.{All-nil, All-cons}
use Rattle.ve_base.specs.declared.marks.Mark.{Mark}
use Rattle.ve_base.specs.declared.value.Value.{Value}
use Rattle.model_items.specs.declared.item.Item.{Item}
use Rattle.model_items.specs.declared.plain_item.PlainItem.{PlainItem}
use Rattle.model_items.specs.Offsets.{places_in}
use Rattle.model_items.specs.Plain.{plain, plain_list, CitesWell}
use Rattle.model_change.specs.Store.{fill, cited_by, cited}
use Rattle.model_change.specs.Transaction.{all_inserted}
use Rattle.model_edit.specs.Edits.{Edit, Change, transaction_of}
use Rattle.model_edit.specs.Marking.{remarked, remark_edit}
use Rattle.ve_edits.specs.Collected.{Collected, Makes, MakesOneMore}
use Rattle.ve_edits.proofs.GrownLemmas.{values_may_grow}
use Rattle.ve_edits.proofs.SpanLemmas.{places_more, places_none}
use Rattle.ve_store.specs.Following.{Following, Grows, together}
use Rattle.ve_tx.proofs.ValuesLemmas.{all-extended, filled_on}
use Rattle.ve_build_shape.specs.Remarked.{keeps_marks, remark_edits, remarked_item, remarked_items, IsRemarked, Remarks, Replaces}
use Rattle.ve_edits.proofs.PieceLemmas.{pieces, pieces-append, inserts_pieces}
use Rattle.ve_edits.proofs.FollowingLemmas.{grows_on, grows_extends, store_extends}

edit_at : (List Mark → List Mark) → List PlainItem → ℕ → List Edit
edit_at f items at = remark_edit f at (slice_get items at)

edits_more : (f : List Mark → List Mark) (items : List PlainItem) (from at : ℕ) → from ≤ at → remark_edits f items from (at + 1) ≡ remark_edits f items from at ++ remark_edit f at (slice_get items at)
edits_more f items from at order =
    let g : ℕ → List Edit = λ at. remark_edit f at (slice_get items at) in
    ap (flat_map g) (places_more from at order) ∙ flat_map-append g (places_in from at) (at ∷ []) ∙ ap (λ l. flat_map g (places_in from at) ++ l) (append-nil (g at))

edit_is : (f : List Mark → List Mark) (items : List PlainItem) (at : ℕ) (p : PlainItem) (b : Bool) → slice_get items at ≡ Some p → keeps_marks f p ≡ b →
    remark_edit f at (slice_get items at) ≡ (if b then [] else Change at 1 (remarked f p ∷ []) ∷ [])
edit_is f items at p b there keeps = ap (remark_edit f at) there ∙ ap (λ b. if b then [] else Change at 1 (remarked f p ∷ []) ∷ []) keeps

pub edits_kept : (f : List Mark → List Mark) (items : List PlainItem) (from at : ℕ) (p : PlainItem) → from ≤ at → slice_get items at ≡ Some p → keeps_marks f p ≡ true →
    remark_edits f items from (at + 1) ≡ remark_edits f items from at
edits_kept f items from at p order there keeps =
    edits_more f items from at order ∙ ap (λ l. remark_edits f items from at ++ l) (edit_is f items at p true there keeps) ∙ append-nil (remark_edits f items from at)

pub edits_changed : (f : List Mark → List Mark) (items : List PlainItem) (from at : ℕ) (p : PlainItem) → from ≤ at → slice_get items at ≡ Some p → keeps_marks f p ≡ false →
    remark_edits f items from (at + 1) ≡ remark_edits f items from at ++ Change at 1 (remarked f p ∷ []) ∷ []
edits_changed f items from at p order there keeps =
    edits_more f items from at order ∙ ap (λ l. remark_edits f items from at ++ l) (edit_is f items at p false there keeps)

pub no_edits : (f : List Mark → List Mark) (items : List PlainItem) (from : ℕ) → remark_edits f items from from ≡ []
no_edits f items from = let g : ℕ → List Edit = λ at. remark_edit f at (slice_get items at) in ap (flat_map g) (places_none from)

-- and what they insert
items_more : (f : List Mark → List Mark) (items : List PlainItem) (from at : ℕ) → from ≤ at → remarked_items f items from (at + 1) ≡ remarked_items f items from at ++ remarked_item f (slice_get items at)
items_more f items from at order =
    let g : ℕ → List PlainItem = λ at. remarked_item f (slice_get items at) in
    ap (flat_map g) (places_more from at order) ∙ flat_map-append g (places_in from at) (at ∷ []) ∙ ap (λ l. flat_map g (places_in from at) ++ l) (append-nil (g at))

item_is : (f : List Mark → List Mark) (items : List PlainItem) (at : ℕ) (p : PlainItem) (b : Bool) → slice_get items at ≡ Some p → keeps_marks f p ≡ b →
    remarked_item f (slice_get items at) ≡ (if b then [] else remarked f p ∷ [])
item_is f items at p b there keeps = ap (remarked_item f) there ∙ ap (λ b. if b then [] else remarked f p ∷ []) keeps

items_kept : (f : List Mark → List Mark) (items : List PlainItem) (from at : ℕ) (p : PlainItem) → from ≤ at → slice_get items at ≡ Some p → keeps_marks f p ≡ true →
    remarked_items f items from (at + 1) ≡ remarked_items f items from at
items_kept f items from at p order there keeps =
    items_more f items from at order ∙ ap (λ l. remarked_items f items from at ++ l) (item_is f items at p true there keeps) ∙ append-nil (remarked_items f items from at)

items_changed : (f : List Mark → List Mark) (items : List PlainItem) (from at : ℕ) (p : PlainItem) → from ≤ at → slice_get items at ≡ Some p → keeps_marks f p ≡ false →
    remarked_items f items from (at + 1) ≡ remarked_items f items from at ++ remarked f p ∷ []
items_changed f items from at p order there keeps =
    items_more f items from at order ∙ ap (λ l. remarked_items f items from at ++ l) (item_is f items at p false there keeps)

pub no_items : (f : List Mark → List Mark) (items : List PlainItem) (from : ℕ) → remarked_items f items from from ≡ []
no_items f items from = let g : ℕ → List PlainItem = λ at. remarked_item f (slice_get items at) in ap (flat_map g) (places_none from)

pieces_of_edit : (f : List Mark → List Mark) (at : ℕ) (o : Option PlainItem) → pieces (remark_edit f at o) ≡ remarked_item f o
pieces_of_edit f at None = refl
pieces_of_edit f at (Some p) = by (keeps_marks f p)
  where
    by : (b : Bool) → pieces (if b then [] else Change at 1 (remarked f p ∷ []) ∷ []) ≡ (if b then [] else remarked f p ∷ [])
    by true = refl
    by false = refl

pieces_are : (f : List Mark → List Mark) (items : List PlainItem) (places : List ℕ) →
    pieces (flat_map (λ at. remark_edit f at (slice_get items at)) places) ≡ flat_map (λ at. remarked_item f (slice_get items at)) places
pieces_are f items [] = refl
pieces_are f items (at ∷ places) =
    pieces-append (remark_edit f at (slice_get items at)) (flat_map (λ at. remark_edit f at (slice_get items at)) places)
    ∙ ap (λ l. l ++ pieces (flat_map (λ at. remark_edit f at (slice_get items at)) places)) (pieces_of_edit f at (slice_get items at))
    ∙ ap (λ l. remarked_item f (slice_get items at) ++ l) (pieces_are f items places)

-- the transaction inserts just these items
pub inserts_remarked : (f : List Mark → List Mark) (items : List PlainItem) (from to : ℕ) → all_inserted (transaction_of items (remark_edits f items from to)) ≡ remarked_items f items from to
inserts_remarked f items from to = inserts_pieces items (remark_edits f items from to) ∙ pieces_are f items (places_in from to)

cited_more : (items : List PlainItem) (p : PlainItem) → cited (items ++ p ∷ []) ≡ cited items ++ cited_by p
cited_more items p = flat_map-append cited_by items (p ∷ []) ∙ ap (λ l. cited items ++ l) (append-nil (cited_by p))

module _ (store : List Value) (items : List Item) (f : List Mark → List Mark) (from at : ℕ) (start old new : Following) (before : Collected) (x : Item)
    (order : from ≤ at) (there : slice_get (plain_list store items) at ≡ Some (plain store x)) (grows : Grows old new) (m : IsRemarked store items f from at start old before) where
  pub one_kept : Remarks store f old new x None → IsRemarked store items f from (at + 1) start new before
  one_kept (keeps, same_values) =
      let same = sym (edits_kept f (plain_list store items) from at (plain store x) order there keeps) in
      let M : List Edit → Type 0 = λ es. Makes (together store new) items es before in
      let makes = subst (λ V. Makes V items (remark_edits f (plain_list store items) from at) before) (sym same_values) m.makes in
      let brought = sym (items_kept f (plain_list store items) from at (plain store x) order there keeps) in
      let F : List PlainItem → Type 0 = λ l. together store new ≡ fill (together store start) (cited l) in
      record {
        order = let o = m.order in omega (arith, o);
        grown = grows_on start old new m.grown grows;
        makes = subst M same makes;
        filled = subst F brought (same_values ∙ m.filled);
      }

  pub one_changed : (after : Collected) (other : Item) → All (CitesWell store) items → after.at ≡ at + 1 → MakesOneMore items at 1 (other ∷ []) before after → Replaces store f old new x other →
      IsRemarked store items f from (at + 1) start new after
  one_changed after other listed place makes_more r =
      let P = plain_list store items in
      let q = remarked f (plain store x) in
      let E = remark_edits f P from at in
      let V = together store new in
      let same = sym (edits_changed f P from at (plain store x) order there r.changes) in
      let M : List Edit → Type 0 = λ es. Makes V items es after in
      let R = remarked_items f P from at in
      let brought = sym (items_changed f P from at (plain store x) order there r.changes) in
      let F : List PlainItem → Type 0 = λ l. V ≡ fill (together store start) (cited l) in
      let grown = values_may_grow (together store old) V items E before (grows_extends store old new grows) (all-extended store (together store old) (store_extends store old) items listed) m.makes in
      let listed_now = all-extended store V (store_extends store new) items listed in
      let made = makes_more V E listed_now (All-cons (CitesWell V) other [] r.cites (All-nil (CitesWell V))) grown in
      record {
        order = omega (arith, place);
        grown = grows_on start old new m.grown grows;
        makes = subst M same (subst (λ p. Makes V items (E ++ Change at 1 (p ∷ []) ∷ []) after) r.means made);
        filled = subst F brought (r.filled ∙ filled_on (together store start) (together store old) (cited R) (cited_by q) m.filled ∙ ap (fill (together store start)) (sym (cited_more R q)));
      }
