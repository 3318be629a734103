-- Joined lists are lawful.
use Rattle.std.proofs.Common.{◌≡◌, ℕ, zero, suc, false, List, [], ◌∷◌, refl, sym, ap, ◌∙◌, subst, arith}
use Rattle.model_items.specs.declared.plain_item.PlainItem.{PlainItem}
use Rattle.model_items.specs.declared.plain_item.PlainItem.TheVariants.{Char, Opening, Closing}
use Rattle.model_items.specs.Law.{State, start, step, outcome_then, after, Lawful}
use Rattle.model_items.proofs.LawLemmas.{after_from_Lawful, Lawful_from_after, both_changes}
use Rattle.model_change.specs.Attributes.{AttrChange, item_changed}
use Rattle.model_change.specs.Transaction.{Transaction, new_length, edited}
use Rattle.model_change.specs.Fault.{Applies, placed_changes}
use Rattle.model_change.specs.Join.{has_replace, moved_on, with_new_end, join, Agree, JoinsLawful}
use Rattle.model_change.proofs.Fits.{parts_of_Applies}
use Rattle.model_change.proofs.PlacedLemmas.{changed_at, all_placed, edited_placed}
use Rattle.model_change.proofs.JoinLemmas.{HasParts, parts_of, Beside, left_beside, edited-suffix}
use Rattle.model_change.proofs.JoinLaw.{JoinedAs, Unmet, FirstIdle, SecondIdle, FirstLeft, SecondLeft, joined_as, inactive_keeps, joins_agree}

-- an attribute is of no matter to the law
step-item_changed : (c : AttrChange) (item : PlainItem) (s : State) → step s (item_changed c item) ≡ step s item
step-item_changed c (Char ch marks) s = refl
step-item_changed c (Opening kind head marks pre origin generated) s = refl
step-item_changed c (Closing kind pre) s = refl

after-changed_at : (c : AttrChange) (at : ℕ) (items : List PlainItem) (s : State) → after s (changed_at (item_changed c) at items) ≡ after s items
after-changed_at c at [] s = refl
after-changed_at c zero (item ∷ items) s = ap (λ r. outcome_then 1 r (λ next. after next items)) (step-item_changed c item s)
after-changed_at c (suc at) (item ∷ items) s = ap (outcome_then 1 (step s item)) (λ i next. after-changed_at c at items next i)

after-all_placed : (cs : List (ℕ × AttrChange)) (items : List PlainItem) (s : State) → after s (all_placed cs items) ≡ after s items
after-all_placed [] items s = refl
after-all_placed (c ∷ cs) items s = after-all_placed cs (changed_at (item_changed c.1) c.0 items) s ∙ after-changed_at c.1 c.0 items s

attributes_keep_law : (t : Transaction) (items : List PlainItem) → has_replace t ≡ false → Applies t items → Lawful items → Lawful (edited t items)
attributes_keep_law t items none applies lawful =
    let p = parts_of_Applies t items applies in
    let is = edited_placed t 0 [] items refl none (omega arith) in
    Lawful_from_after (edited t items) (ap (after start) (sym is) ∙ after-all_placed (placed_changes 0 t) items start ∙ after_from_Lawful items lawful)

beside_lawful : (a b a2 b2 : Transaction) (items : List PlainItem) → Beside a b a2 b2 items → Lawful items → Lawful (edited a items) → Lawful (edited b items) →
    Lawful (edited b2 (edited a items)) × Lawful (edited a2 (edited b items))
beside_lawful a b a2 b2 items s lawful left right =
    let whole = both_changes s.X s.A s.B s.A' s.B' (subst Lawful (sym s.old) lawful) (subst Lawful s.left_only left) (subst Lawful s.right_only right) in
    (subst Lawful (sym s.left_then) whole, subst Lawful (sym s.right_then) whole)

module _ (a b : Transaction) (items : List PlainItem) (pa : HasParts a items) (pb : HasParts b items)
    (lawful : Lawful items) (left : Lawful (edited a items)) (right : Lawful (edited b items)) where
  lawful_by : (r : Transaction × Transaction) → JoinedAs a b r → Agree a b r.0 r.1 items → Lawful (edited r.1 (edited a items))
  lawful_by r (Unmet none none_too apart) agree = attributes_keep_law b (edited a items) none_too agree.first_then left
  lawful_by r (FirstIdle idle) agree = subst Lawful (ap (edited b) (sym (inactive_keeps a items pa idle))) right
  lawful_by r (SecondIdle idle) agree = subst Lawful (sym (edited-suffix [] (new_length a) (edited a items))) left
  lawful_by r (FirstLeft active active_too near) agree =
      (beside_lawful a b (with_new_end a b) (moved_on b a) items (left_beside a b items pa pb near) lawful left right).0
  lawful_by r (SecondLeft active active_too near) agree =
      (beside_lawful b a (with_new_end b a) (moved_on a b) items (left_beside b a items pb pa near) lawful right left).1

pub joins_lawful : JoinsLawful
joins_lawful a b items may lawful left right =
    lawful_by a b items (parts_of a items may.reduced may.applies) (parts_of b items may.reduced_too may.applies_too) lawful left right
    (join a b) (joined_as a b may.apart) (joins_agree a b items may)
