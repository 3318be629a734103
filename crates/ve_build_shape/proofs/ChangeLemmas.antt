-- What becomes of cited marks, and of the items that cite them.
use Rattle.std.proofs.Common.{◌≡◌, Bool, true, false, List, Option, Some, None, refl, sym, ap, ◌∙◌, true≢false}
use Rattle.std.proofs.lemmas.Bool.{false_from_ne_true}
use Rattle.ve_base.specs.declared.marks.Mark.{Mark}
use Rattle.ve_base.specs.declared.value.Value.{Value}
use Rattle.ve_base.specs.declared.value.ValueId.{ValueId}
use Rattle.model_items.specs.declared.item.Item.{Item}
use Rattle.model_items.specs.declared.item.Item.TheVariants as item
use Rattle.model_items.specs.declared.plain_item.PlainItem.{PlainItem}
use Rattle.model_items.specs.Plain.{plain, CitesMarks, CitesWell}
use Rattle.model_items.specs.Same.{marks_same}
use Rattle.model_items.proofs.SameLemmas.{Means-marks_same}
use Rattle.model_change.specs.Store.{fill, marks_cited, cited_by}
use Rattle.model_edit.specs.Insert.{is_content_item}
use Rattle.model_edit.specs.Marking.{remarked, item_marks}
use Rattle.ve_store.specs.Following.{Following, Grows, together, marks_at}
use Rattle.ve_tx.proofs.ValuesLemmas.{cites-extended, plain-extended}
use Rattle.ve_edits.proofs.FollowingLemmas.{store_extends, grows_extends}
use Rattle.ve_build_shape.specs.Remarked.{keeps_marks, CitesItsMarks, HasMarks, IsMarksChange, IsMarksFilled, IsChangeOf, Remarks}
use Rattle.ve_build_shape.specs.declared.changes.MarksChange.{MarksChange}
use Rattle.ve_build_shape.proofs.MarkLemmas.{never_marked, may_keep, same_remarked, marks_there, item_fills}

-- ---- of marks that are cited

module _ (store : List Value) (marks : Option ValueId) (there : CitesMarks store marks) where
  -- they are the same in what follows the store, too
  marks_still : (new : Following) → marks_at (together store new) marks ≡ marks_at store marks
  marks_still new = ap item_marks (plain-extended store (together store new) (store_extends store new) (item.Char 0 marks) there)

  pub cites_still : (new : Following) → CitesMarks (together store new) marks
  cites_still new = cites-extended store (together store new) (store_extends store new) (item.Char 0 marks) there

  stay_still : (f : List Mark → List Mark) (new : Following) (b : Bool) → marks_same (f (marks_at store marks)) (marks_at store marks) ≡ b →
      marks_same (f (marks_at (together store new) marks)) (marks_at (together store new) marks) ≡ b
  stay_still f new b h = ap (λ l. marks_same (f l) l) (marks_still new) ∙ h

  pub change_kept : (f : List Mark → List Mark) (new : Following) → marks_same (f (marks_at store marks)) (marks_at store marks) ≡ true → IsChangeOf store f new new marks (record { before = marks; after = marks })
  change_kept f new keeps =
      let V = together store new in
      let equal = Means-marks_same.equal (f (marks_at V marks)) (marks_at V marks) (stay_still f new true keeps) in
      record {
        before = refl;
        holds = record { cites = cites_still new; made = sym equal; stays = λ _. refl };
        filled = sym (ap (λ l. fill V (marks_cited l)) equal ∙ marks_there V marks (cites_still new));
      }

  pub change_made : (f : List Mark → List Mark) (old new : Following) (after : Option ValueId) → marks_same (f (marks_at store marks)) (marks_at store marks) ≡ false → CitesMarks (together store new) after →
      marks_at (together store new) after ≡ f (marks_at (together store old) marks) → IsMarksFilled store old new (f (marks_at (together store old) marks)) →
      IsChangeOf store f old new marks (record { before = marks; after = after })
  change_made f old new after changes cites is filled =
      record {
        before = refl;
        holds = record {
          cites = cites;
          made = is ∙ ap f (marks_still old ∙ sym (marks_still new));
          stays = λ keeps. absurd (true≢false (sym keeps ∙ stay_still f new false changes));
        };
        filled = filled;
      }

-- worked out before, it needs no value more
pub change_again : (store : List Value) (f : List Mark → List Mark) (marks : Option ValueId) (new : Following) (change : MarksChange) → IsMarksChange (together store new) f change →
    change.before ≡ marks → IsChangeOf store f new new marks change
change_again store f marks new change holds same =
    let V = together store new in
    let equal : f (marks_at V marks) ≡ marks_at V change.after = ap (λ m. f (marks_at V m)) (sym same) ∙ sym holds.made in
    record {
      before = same;
      holds = holds;
      filled = sym (ap (λ l. fill V (marks_cited l)) equal ∙ marks_there V change.after holds.cites);
    }

-- ---- of an item

pub never_remarked : (store : List Value) (f : List Mark → List Mark) (new : Following) (x : Item) → is_content_item (plain store x) ≡ false → Remarks store f new new x None
never_remarked store f new x may = (never_marked f (plain store x) may, refl)

module _ (store : List Value) (f : List Mark → List Mark) (old new : Following) (x : Item) (marks : Option ValueId) (change : MarksChange) (cites : CitesWell store x)
    (may : is_content_item (plain store x) ≡ true) (its : CitesItsMarks x marks) (c : IsChangeOf store f old new marks change) where
  before_is : plain (together store old) x ≡ plain store x
  before_is = plain-extended store (together store old) (store_extends store old) x cites

  after_is : plain (together store new) x ≡ plain store x
  after_is = plain-extended store (together store new) (store_extends store new) x cites

  -- the marks that the change speaks of are the item's
  old_marks : marks_at (together store old) marks ≡ item_marks (plain store x)
  old_marks = (its (together store old)).0 ∙ ap item_marks before_is

  new_marks : marks_at (together store new) change.before ≡ item_marks (plain store x)
  new_marks = ap (marks_at (together store new)) c.before ∙ (its (together store new)).0 ∙ ap item_marks after_is

  made : marks_at (together store new) change.after ≡ f (item_marks (plain store x))
  made = c.holds.made ∙ ap f new_marks

  pub item_kept : change.before ≡ change.after → Remarks store f old new x None
  item_kept same =
      let V = together store old in
      let M = item_marks (plain store x) in
      let equal : f M ≡ M = sym made ∙ ap (marks_at (together store new)) (sym same) ∙ new_marks in
      let at_old : f (marks_at V marks) ≡ marks_at V marks = ap f old_marks ∙ equal ∙ sym old_marks in
      let there = (its V).1 (cites-extended store V (store_extends store old) x cites) in (
        may_keep f (plain store x) may ∙ ap (λ l. marks_same l M) equal ∙ Means-marks_same.itself M,
        c.filled ∙ ap (λ l. fill V (marks_cited l)) at_old ∙ marks_there V marks there,
      )

  pub item_changed : (other : Item) → (change.before ≡ change.after → ⊥) → Grows old new → HasMarks x change.after other → Remarks store f old new x (Some other)
  item_changed other apart grows has =
      let V = together store new in
      let O = together store old in
      let p = plain store x in
      let may_now : is_content_item (plain V x) ≡ true = ap is_content_item after_is ∙ may in
      let brought = c.filled ∙ ap (λ (l : List Mark). fill O (marks_cited (f l))) (its O).0 in
      record {
        changes = false_from_ne_true (keeps_marks f p) (λ keeps.
            apart (c.holds.stays (ap (λ l. marks_same (f l) l) new_marks ∙ sym (may_keep f p may) ∙ keeps)));
        means = (has V may_now).0 ∙ ap (λ q. remarked (λ old. marks_at V change.after) q) after_is ∙ same_remarked f (marks_at V change.after) p made;
        cites = (has V may_now).1 (cites-extended store V (store_extends store new) x cites) c.holds.cites;
        filled = item_fills O V f (grows_extends store old new grows) x (cites-extended store O (store_extends store old) x cites) (ap is_content_item before_is ∙ may) brought
            ∙ ap (λ (q : PlainItem). fill O (cited_by (remarked f q))) before_is;
      }
