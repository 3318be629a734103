-- The brackets of shapes, as they are made.
use Rattle.std.proofs.Common.{◌≡◌, ◌≤◌, ◌<◌, ℕ, ◌+◌, ◌-◌, List, [], ◌∷◌, ◌++◌, length, map, reverse, drop, get_or, None, refl, sym, ap, ◌∙◌, subst, arith}
use Rattle.std.proofs.lemmas.Grind.{reverse_onto}
use Rattle.std.proofs.lemmas.List.{map-append, drop_more}
use Rattle.std.proofs.lemmas.List.Concat.{flat_map-append}
use Rattle.std.proofs.lemmas.List.Elements.{All-nil, All-cons, All-append}
use Rattle.ve_base.specs.declared.value.Value.{Value}
use Rattle.model_items.specs.declared.item.Item.{Item}
use Rattle.model_items.specs.declared.item.Item.TheVariants as item
use Rattle.model_items.specs.declared.plain_item.PlainItem.{PlainItem}
use Rattle.model_items.specs.Plain.{plain, plain_list, CitesWell}
use Rattle.model_change.specs.Store.{fill, cited, cited_by}
use Rattle.model_edit.specs.Brackets.{opening_of, closing_of}
use Rattle.model_edit.specs.Wrap.{openings_of, closings_of}
use Rattle.model_edit.specs.declared.wrap_plan.Shape.{Shape}
use Rattle.ve_store.specs.Following.{Following, Grows, together}
use Rattle.ve_tx.specs.Making.{Extends}
use Rattle.ve_tx.proofs.ValuesLemmas.{all-extended, list-extended, filled_on}
use Rattle.ve_edits.specs.Filled.{IsFilledFor}
use Rattle.ve_edits.proofs.FollowingLemmas.{grows_itself, grows_on, grows_extends}
use Rattle.ve_build_shape.specs.Round.{AreOpenings, AreBrackets}
use Rattle.ve_build_shape.specs.declared.shapes.Brackets.{Brackets}

pub cited-append : (xs ys : List PlainItem) → cited (xs ++ ys) ≡ cited xs ++ cited ys
cited-append xs ys = flat_map-append cited_by xs ys

abbrev opening : Shape → PlainItem
opening s = opening_of s.kind s.attrs

-- ---- openings

pub openings_none : (store : List Value) (start : Following) (items : List Item) → items ≡ [] → AreOpenings store start start [] items
openings_none store start items none =
    let V = together store start in
    subst (AreOpenings store start start []) (sym none) (record { grown = grows_itself start; means = refl; cites = All-nil (CitesWell V); filled = refl })

-- one opening more
pub openings_more : (store : List Value) (start old new : Following) (shapes shapes' : List Shape) (shape : Shape) (items : List Item) (x : Item) →
    shapes' ≡ shapes ++ shape ∷ [] → AreOpenings store start old shapes items → Grows old new → plain (together store new) x ≡ opening shape → CitesWell (together store new) x →
    IsFilledFor store old new (opening shape ∷ []) → (all : List Item) → all ≡ items ++ x ∷ [] → AreOpenings store start new shapes' all
openings_more store start old new shapes shapes' shape items x parts so_far grows is cites filled all whole =
    let O = together store old in
    let N = together store new in
    let extends = grows_extends store old new grows in
    let made : openings_of (shapes ++ shape ∷ []) ≡ openings_of shapes ++ opening shape ∷ [] = map-append opening shapes (shape ∷ []) in
    let A : List Item → Type 0 = AreOpenings store start new shapes' in
    let B : List Shape → Type 0 = λ l. AreOpenings store start new l (items ++ x ∷ []) in
    let here : AreOpenings store start new (shapes ++ shape ∷ []) (items ++ x ∷ []) = record {
      grown = grows_on start old new so_far.grown grows;
      means =
          map-append (plain N) items (x ∷ []) ∙ ap (λ l. l ++ plain N x ∷ []) (list-extended O N extends items so_far.cites ∙ so_far.means)
          ∙ ap (λ p. openings_of shapes ++ p ∷ []) is ∙ sym made;
      cites = All-append (CitesWell N) items (x ∷ []) (all-extended O N extends items so_far.cites) (All-cons (CitesWell N) x [] cites (All-nil (CitesWell N)));
      filled =
          filled ∙ filled_on (together store start) O (cited (openings_of shapes)) (cited (opening shape ∷ [])) so_far.filled
          ∙ ap (fill (together store start)) (sym (cited-append (openings_of shapes) (opening shape ∷ [])))
          ∙ ap (λ l. fill (together store start) (cited l)) (sym made);
    } in
    subst A (sym whole) (subst B (sym parts) here)

-- ---- closings

abbrev closing : Shape → PlainItem
closing s = closing_of s.kind

-- one closing more, from the last shape back
closings_more : (values : List Value) (shapes : List Shape) (left : ℕ) (shape : Shape) (items : List Item) → drop left shapes ≡ shape ∷ drop (left + 1) shapes →
    plain_list values items ≡ closings_of (drop (left + 1) shapes) → plain_list values (items ++ item.Closing shape.kind None ∷ []) ≡ closings_of (drop left shapes)
closings_more values shapes left shape items parts so_far =
    map-append (plain values) items (item.Closing shape.kind None ∷ []) ∙ ap (λ l. l ++ closing shape ∷ []) so_far
    ∙ sym (reverse_onto (map closing (drop (left + 1) shapes)) (closing shape) [])
    ∙ ap (λ (l : List Shape). reverse (map closing l)) (sym parts)

-- closings cite nothing
pub closings_cite : (shapes : List Shape) → cited (closings_of shapes) ≡ []
closings_cite [] = refl
closings_cite (shape ∷ shapes) =
    ap cited (reverse_onto (map closing shapes) (closing shape) []) ∙ cited-append (reverse (map closing shapes)) (closing shape ∷ []) ∙ ap (λ l. l ++ []) (closings_cite shapes)

-- ---- both

-- brackets are the same over a list of values that has more after it
pub brackets_extended : (old new : List Value) (shapes : List Shape) (brackets : Brackets) → Extends old new → AreBrackets old shapes brackets → AreBrackets new shapes brackets
brackets_extended old new shapes brackets extends are = record {
  openings = list-extended old new extends brackets.openings are.openings_cite ∙ are.openings;
  closings = list-extended old new extends brackets.closings are.closings_cite ∙ are.closings;
  openings_cite = all-extended old new extends brackets.openings are.openings_cite;
  closings_cite = all-extended old new extends brackets.closings are.closings_cite;
}

pub closings_step : (values : List Value) (shapes : List Shape) (left : ℕ) (d : Shape) (items : List Item) → 0 < left → left ≤ length shapes → plain_list values items ≡ closings_of (drop left shapes) →
    plain_list values (items ++ item.Closing (get_or shapes (left - 1) d).kind None ∷ []) ≡ closings_of (drop (left - 1) shapes)
closings_step values shapes left d items some within so_far =
    let e : left ≡ left - 1 + 1 = omega arith in
    closings_more values shapes (left - 1) (get_or shapes (left - 1) d) items (drop_more shapes (left - 1) d (omega arith)) (so_far ∙ ap (λ n. closings_of (drop n shapes)) e)
