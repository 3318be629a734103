-- Pieces that stand in no other piece, one item after the other.
use Rattle.std.proofs.Common.{◌≡◌, ◌≤◌, ℕ, zero, suc, ◌+◌, ◌-◌, Bool, true, false, not, ◌&&◌, ◌||◌, List, [], ◌∷◌, ◌++◌, drop, None, All, refl, sym, ap, ◌∙◌, subst, arith}
use Rattle.std.specs.List.{list_all, list_any}
use Rattle.ve_base.specs.declared.value.Value.{Value}
use Rattle.model_items.specs.declared.item.Item.{Item}
use Rattle.model_items.specs.declared.plain_item.PlainItem.{PlainItem}
use Rattle.model_items.specs.declared.plain_item.PlainItem.TheVariants.{Char, Opening, Closing}
use Rattle.model_items.specs.declared.item.Item.TheVariants as item
use Rattle.model_items.specs.Plain.{plain, plain_list, CitesWell}
use Rattle.std.proofs.lemmas.List.{map-append}
use Rattle.std.proofs.lemmas.List.Elements.{All-nil, All-cons, All-append}
use Rattle.ve_kinds.specs.declared.kind.Kind.{Kind}
use Rattle.ve_kinds.specs.declared.kind.Kind.TheVariants.{P}
use Rattle.ve_kinds.specs.Table.{may_hold}
use Rattle.model_edit.specs.Brackets.{opening_of, closing_of}
use Rattle.model_edit.specs.Insert.{outer_items, is_content_item, is_content_pieces, is_mixed, may_hold_item, may_hold_pieces}
use Rattle.ve_build_insert.specs.declared.pieces.Question.{Question}
use Rattle.ve_build_insert.specs.declared.pieces.Question.TheVariants.{IsContent, IsBlock}
use Rattle.ve_build_insert.specs.Placed.{item_answer, depth_after, framed, passes_outer}

outer_first : (q : Question) (depth : ℕ) (x : PlainItem) (rest : List PlainItem) →
    list_all (item_answer q) (outer_items depth (x ∷ rest)) ≡ (passes_outer q depth x && list_all (item_answer q) (outer_items (depth_after depth x) rest))
outer_first q zero (Char c marks) rest = refl
outer_first q (suc depth) (Char c marks) rest = refl
outer_first q zero (Opening kind head marks pre origin generated) rest = refl
outer_first q (suc depth) (Opening kind head marks pre origin generated) rest = refl
outer_first q zero (Closing kind pre) rest = refl
outer_first q (suc depth) (Closing kind pre) rest = refl

-- the items from a position on, with the one there
pub rest_first : (values : List Value) (items : List Item) (i : ℕ) (x : Item) → drop i items ≡ x ∷ drop (i + 1) items →
    plain_list values (drop i items) ≡ plain values x ∷ plain_list values (drop (i + 1) items)
rest_first values items i x parts = ap (plain_list values) parts

module _ (q : Question) (depth : ℕ) (items : List Item) (i : ℕ) (x : Item) (parts : drop i items ≡ x ∷ drop (i + 1) items) (values : List Value) where
  outer_more : list_all (item_answer q) (outer_items depth (plain_list values (drop i items)))
      ≡ (passes_outer q depth (plain values x) && list_all (item_answer q) (outer_items (depth_after depth (plain values x)) (plain_list values (drop (i + 1) items))))
  outer_more =
      ap (λ l. list_all (item_answer q) (outer_items depth l)) (rest_first values items i x parts)
      ∙ outer_first q depth (plain values x) (plain_list values (drop (i + 1) items))

  pub outer_fails : (b : Bool) → b ≡ passes_outer q depth (plain values x) → b ≡ false → list_all (item_answer q) (outer_items depth (plain_list values (drop i items))) ≡ false
  outer_fails b is fails =
      outer_more ∙ ap (λ b. b && list_all (item_answer q) (outer_items (depth_after depth (plain values x)) (plain_list values (drop (i + 1) items)))) (sym is ∙ fails)

  pub outer_passes : (b : Bool) (next : ℕ) → b ≡ passes_outer q depth (plain values x) → b ≡ true → next ≡ depth_after depth (plain values x) →
      list_all (item_answer q) (outer_items next (plain_list values (drop (i + 1) items))) ≡ list_all (item_answer q) (outer_items depth (plain_list values (drop i items)))
  outer_passes b next is holds n =
      ap (λ n. list_all (item_answer q) (outer_items n (plain_list values (drop (i + 1) items)))) n
      ∙ sym (outer_more ∙ ap (λ b. b && list_all (item_answer q) (outer_items (depth_after depth (plain values x)) (plain_list values (drop (i + 1) items)))) (sym is ∙ holds))

-- some item passes where not all fail
pub any_unless_none : (f : PlainItem → Bool) (items : List PlainItem) → list_any f items ≡ not (list_all (λ item. not (f item)) items)
any_unless_none f [] = refl
any_unless_none f (x ∷ items) = by (f x) (any_unless_none f items)
  where
    by : (b : Bool) → list_any f items ≡ not (list_all (λ item. not (f item)) items) → (b || list_any f items) ≡ not (not b && list_all (λ item. not (f item)) items)
    by true rest = refl
    by false rest = rest

-- content and blocks are mixed where neither all are blocks nor all are content
pub mixed_is : (items : List PlainItem) (content blocks : Bool) → content ≡ list_all (item_answer IsContent) (outer_items 0 items) → blocks ≡ list_all (item_answer IsBlock) (outer_items 0 items) →
    is_mixed items ≡ (not blocks && not content)
mixed_is items content blocks c b =
    ap (λ x. x && not (is_content_pieces items)) (any_unless_none is_content_item (outer_items 0 items) ∙ ap not (sym b))
    ∙ ap (λ x. not blocks && not x) (sym c)

-- a closing after the pieces is no outer item
outer_closed : (depth : ℕ) (kind : Kind) (items : List PlainItem) → outer_items depth (items ++ closing_of kind ∷ []) ≡ outer_items depth items
outer_closed zero kind [] = refl
outer_closed (suc depth) kind [] = refl
outer_closed zero kind (Char c marks ∷ items) = ap (λ l. Char c marks ∷ l) (outer_closed zero kind items)
outer_closed (suc depth) kind (Char c marks ∷ items) = outer_closed (suc depth) kind items
outer_closed zero kind (Opening k head marks pre origin generated ∷ items) = ap (λ l. Opening k head marks pre origin generated ∷ l) (outer_closed 1 kind items)
outer_closed (suc depth) kind (Opening k head marks pre origin generated ∷ items) = outer_closed (suc (suc depth)) kind items
outer_closed zero kind (Closing k pre ∷ items) = outer_closed (zero - 1) kind items
outer_closed (suc depth) kind (Closing k pre ∷ items) = outer_closed (suc depth - 1) kind items

-- a paragraph of pieces is held where a paragraph is, and so is what a closing among them, which
-- closes the paragraph, leaves outside it
pub held_framed : (parent : Kind) (items : List PlainItem) → may_hold_pieces parent (framed true items) ≡ (may_hold parent P && list_all (may_hold_item parent) (outer_items 1 items))
held_framed parent items = ap (λ l. may_hold parent P && list_all (may_hold_item parent) l) (outer_closed 1 P items)

-- one item opens one piece at most
pub depth_rises : (depth : ℕ) (x : PlainItem) (next : ℕ) → next ≡ depth_after depth x → next ≤ depth + 1
depth_rises depth (Char c marks) next is = omega arith
depth_rises depth (Opening kind head marks pre origin generated) next is = omega arith
depth_rises depth (Closing kind pre) next is = omega arith

pub and_true : (b : Bool) → (b && true) ≡ b
and_true true = refl
and_true false = refl

pub and_false : (b : Bool) → (b && false) ≡ false
and_false true = refl
and_false false = refl

-- the paragraph's brackets, as the list grows
abbrev pub opening_item : Item
opening_item = item.Opening P false None None None None

abbrev pub closing_item : Item
closing_item = item.Closing P None

pub paragraph_of : (pieces start first mid all : List Item) → start ≡ [] → first ≡ start ++ opening_item ∷ [] → mid ≡ first ++ pieces → all ≡ mid ++ closing_item ∷ [] →
    all ≡ opening_item ∷ pieces ++ closing_item ∷ []
paragraph_of pieces start first mid all none one two three =
    three ∙ ap (λ (l : List Item). l ++ closing_item ∷ []) (two ∙ ap (λ (l : List Item). l ++ pieces) (one ∙ ap (λ (l : List Item). l ++ opening_item ∷ []) none))

pub paragraph_plain : (values : List Value) (pieces all : List Item) → all ≡ opening_item ∷ pieces ++ closing_item ∷ [] →
    plain_list values all ≡ opening_of P [] ∷ plain_list values pieces ++ closing_of P ∷ []
paragraph_plain values pieces all whole =
    ap (plain_list values) whole ∙ ap (λ l. opening_of P [] ∷ l) (map-append (plain values) pieces (closing_item ∷ []))

pub paragraph_cites : (values : List Value) (pieces all : List Item) → all ≡ opening_item ∷ pieces ++ closing_item ∷ [] → All (CitesWell values) pieces → All (CitesWell values) all
paragraph_cites values pieces all whole cites =
    let W = CitesWell values in
    subst (All W) (sym whole) (All-cons W opening_item (pieces ++ closing_item ∷ []) (tt, tt, tt) (All-append W pieces (closing_item ∷ []) cites (All-cons W closing_item [] tt (All-nil W))))
