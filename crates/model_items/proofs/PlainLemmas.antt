-- Items that cite one list of distinct values are equal where their values are.
use Rattle.std.proofs.Common.{◌≡◌, List, slice_get, Option, Some, None, refl, sym, ap, ◌∙◌}
use Rattle.ve_base.specs.declared.value.Value.{Value}
use Rattle.ve_base.specs.declared.value.Value.TheVariants as value
use Rattle.ve_base.specs.declared.value.ValueId.{ValueId}
use Rattle.model_items.specs.declared.item.Item.TheVariants as item
use Rattle.model_items.specs.Plain.{head_in, marks_in, white_in, value_at, CitesHead, CitesMarks, CitesWhite, AreDistinct, PlainTellsApart}

module _ (values : List Value) (distinct : AreDistinct values) where
  same_id : (i j : ValueId) (v w : Value) → slice_get values i.0 ≡ Some v → slice_get values j.0 ≡ Some w → v ≡ w → i ≡ j
  same_id i j v w p q e =
      let same = distinct i.0 j.0 v p (q ∙ ap Some (sym e)) in
      λ k. record { 0 = same k }

  same_head : (i j : Option ValueId) → CitesHead values i → CitesHead values j → head_in (value_at values i) ≡ head_in (value_at values j) → i ≡ j
  same_head None None p q e = refl
  same_head None (Some j) p q e = absurd (q.2 (sym (ap head_in q.1) ∙ sym e))
  same_head (Some i) None p q e = absurd (p.2 (sym (ap head_in p.1) ∙ e))
  same_head (Some i) (Some j) p q e = ap Some (same_id i j (value.Head p.0) (value.Head q.0) p.1 q.1 (ap value.Head (sym (ap head_in p.1) ∙ e ∙ ap head_in q.1)))

  same_marks : (i j : Option ValueId) → CitesMarks values i → CitesMarks values j → marks_in (value_at values i) ≡ marks_in (value_at values j) → i ≡ j
  same_marks None None p q e = refl
  same_marks None (Some j) p q e = absurd (q.2 (sym (ap marks_in q.1) ∙ sym e))
  same_marks (Some i) None p q e = absurd (p.2 (sym (ap marks_in p.1) ∙ e))
  same_marks (Some i) (Some j) p q e = ap Some (same_id i j (value.Marks p.0) (value.Marks q.0) p.1 q.1 (ap value.Marks (sym (ap marks_in p.1) ∙ e ∙ ap marks_in q.1)))

  same_white : (i j : Option ValueId) → CitesWhite values i → CitesWhite values j → white_in (value_at values i) ≡ white_in (value_at values j) → i ≡ j
  same_white None None p q e = refl
  same_white None (Some j) p q e = absurd (q.2 (sym (ap white_in q.1) ∙ sym e))
  same_white (Some i) None p q e = absurd (p.2 (sym (ap white_in p.1) ∙ e))
  same_white (Some i) (Some j) p q e = ap Some (same_id i j (value.White p.0) (value.White q.0) p.1 q.1 (ap value.White (sym (ap white_in p.1) ∙ e ∙ ap white_in q.1)))

pub plain_tells_apart : PlainTellsApart
plain_tells_apart values (item.Char c marks) (item.Char d marks') distinct p q e =
    let chars : c ≡ d = cc in
    let marked : marks_in (value_at values marks) ≡ marks_in (value_at values marks') = cc in
    let same = same_marks values distinct marks marks' p q marked in
    λ i. item.Char (chars i) (same i)
plain_tells_apart values (item.Opening kind generated head marks pre origin) (item.Opening kind' generated' head' marks' pre' origin') distinct p q e =
    let kinds : kind ≡ kind' = cc in
    let heads : head_in (value_at values head) ≡ head_in (value_at values head') = cc in
    let marked : marks_in (value_at values marks) ≡ marks_in (value_at values marks') = cc in
    let white : white_in (value_at values pre) ≡ white_in (value_at values pre') = cc in
    let origins : origin ≡ origin' = cc in
    let made : generated ≡ generated' = cc in
    let h = same_head values distinct head head' p.0 q.0 heads in
    let m = same_marks values distinct marks marks' p.1 q.1 marked in
    let w = same_white values distinct pre pre' p.2 q.2 white in
    λ i. item.Opening (kinds i) (made i) (h i) (m i) (w i) (origins i)
plain_tells_apart values (item.Closing kind pre) (item.Closing kind' pre') distinct p q e =
    let kinds : kind ≡ kind' = cc in
    let white : white_in (value_at values pre) ≡ white_in (value_at values pre') = cc in
    let w = same_white values distinct pre pre' p q white in
    λ i. item.Closing (kinds i) (w i)
plain_tells_apart values (item.Char _ _) (item.Opening _ _ _ _ _ _) distinct p q e = cc
plain_tells_apart values (item.Char _ _) (item.Closing _ _) distinct p q e = cc
plain_tells_apart values (item.Opening _ _ _ _ _ _) (item.Char _ _) distinct p q e = cc
plain_tells_apart values (item.Opening _ _ _ _ _ _) (item.Closing _ _) distinct p q e = cc
plain_tells_apart values (item.Closing _ _) (item.Char _ _) distinct p q e = cc
plain_tells_apart values (item.Closing _ _) (item.Opening _ _ _ _ _ _) distinct p q e = cc
