-- The inverse by one pass is the inverse by value.
use Rattle.std.proofs.Common.{◌≡◌, ◌≤◌, ◌<◌, ℕ, zero, suc, ◌+◌, Bool, true, false, ◌&&◌, subst, List, [], ◌∷◌, ◌++◌, length, drop, get_or, reverse, Option, None, refl, sym, ap, ◌∙◌, arith}
use Rattle.std.proofs.lemmas.List.{map-append}
use Rattle.ve_base.specs.declared.value.Value.{Value}
use Rattle.model_change.specs.Attributes.{AttrChange, AllNamesApart, change_back}
use Rattle.model_change.specs.Transaction.{is_reduced, is_normal}
use Rattle.model_change.specs.Transaction as model
use Rattle.model_change.specs.Fault.{Applies}
use Rattle.model_change.specs.Inverse.{attribute_ops, inverse_after, inverse, IsRestorable, IsUndoneBy}
use Rattle.model_change.proofs.InverseLemmas.{inverse_undoes}
use Rattle.model_change.proofs.InverseNormal.{inverse_is_normal}
use Rattle.model_items.specs.declared.plain_item.PlainItem.{PlainItem}
use Rattle.ve_tx.specs.declared.op.Op.{Op}
use Rattle.ve_tx.specs.Operation.{Operation, Retain, Replace, Attribute, with_position, with_positions, operation_by_value, by_value, IsNormal}
use Rattle.ve_tx.specs.Turned.{turned_after, turned, finished}

abbrev operations : List AttrChange → List Operation
operations [] = []
operations (change ∷ changes) = Attribute change ∷ operations changes

changes-by_value : (values : List Value) (changes : List AttrChange) → by_value values (operations changes) ≡ attribute_ops changes
changes-by_value values [] = refl
changes-by_value values (change ∷ changes) = ap (λ more. model.Attribute change ∷ more) (changes-by_value values changes)

joined : (values : List Value) (changes : List AttrChange) (o : Operation) (tx : List Operation) →
    by_value values (operations changes ++ o ∷ tx) ≡ attribute_ops changes ++ operation_by_value values o ∷ by_value values tx
joined values changes o tx =
    map-append (operation_by_value values) (operations changes) (o ∷ tx) ∙ ap (λ prefix. prefix ++ operation_by_value values o ∷ by_value values tx) (changes-by_value values changes)

turned_after-by_value : (values : List Value) (changes : List AttrChange) (tx : List Operation) →
    by_value values (turned_after (operations changes) tx) ≡ inverse_after changes (by_value values tx)
turned_after-by_value values changes [] = changes-by_value values changes
turned_after-by_value values changes (Retain count ∷ tx) =
    joined values changes (Retain count) (turned_after [] tx)
    ∙ ap (λ more. attribute_ops changes ++ model.Retain count ∷ more) (turned_after-by_value values [] tx)
turned_after-by_value values changes (Replace removed inserted ∷ tx) =
    joined values changes (Replace inserted removed) (turned_after [] tx)
    ∙ ap (λ more. attribute_ops changes ++ operation_by_value values (Replace inserted removed) ∷ more) (turned_after-by_value values [] tx)
turned_after-by_value values changes (Attribute change ∷ tx) = turned_after-by_value values (change_back change ∷ changes) tx

pub turned-by_value : (values : List Value) (tx : List Operation) → by_value values (turned tx) ≡ inverse (by_value values tx)
turned-by_value values tx = turned_after-by_value values [] tx

pub turned-normal : (tx : List Operation) → IsNormal tx → IsNormal (turned tx)
turned-normal tx h values = ap is_normal (turned-by_value values tx) ∙ inverse_is_normal (by_value values tx) (h values)

drop-all : (xs : List Operation) (n : ℕ) → length xs ≤ n → drop n xs ≡ []
drop-all [] zero h = refl
drop-all [] (suc n) h = refl
drop-all (x ∷ xs) zero h = absurd (omega arith)
drop-all (x ∷ xs) (suc n) h = drop-all xs n (omega arith)

-- the operation at a position, and the rest
pub with_positions-at : (i : ℕ) (ops : List Op) (kept : List (Option ℕ)) (d : Op) → i < length ops →
    drop i (with_positions ops kept) ≡ with_position (get_or ops i d) (get_or kept i None) ∷ drop (suc i) (with_positions ops kept)
with_positions-at i [] kept d h = absurd (omega arith)
with_positions-at zero (o ∷ ops) [] d h = refl
with_positions-at zero (o ∷ ops) (k ∷ kept) d h = refl
with_positions-at (suc i) (o ∷ ops) [] d h = with_positions-at i ops [] d (omega arith)
with_positions-at (suc i) (o ∷ ops) (k ∷ kept) d h = with_positions-at i ops kept d (omega arith)

pub length-with_positions : (ops : List Op) (kept : List (Option ℕ)) → length (with_positions ops kept) ≡ length ops
length-with_positions [] kept = refl
length-with_positions (o ∷ ops) [] = ap suc (length-with_positions ops [])
length-with_positions (o ∷ ops) (k ∷ kept) = ap suc (length-with_positions ops kept)

pub with_positions-append : (ops : List Op) (kept : List (Option ℕ)) (o : Op) (k : Option ℕ) → length ops ≡ length kept →
    with_positions (ops ++ o ∷ []) (kept ++ k ∷ []) ≡ with_positions ops kept ++ with_position o k ∷ []
with_positions-append [] [] o k e = refl
with_positions-append [] (y ∷ kept) o k e = absurd (omega arith)
with_positions-append (x ∷ ops) [] o k e = absurd (omega arith)
with_positions-append (x ∷ ops) (y ∷ kept) o k e = ap (λ more. with_position x y ∷ more) (with_positions-append ops kept o k (omega arith))

-- one step of the pass
pub put-next : (back run new next : List Operation) (i : ℕ) (ops : List Op) (kept : List (Option ℕ)) (o : Op) (k : Option ℕ) → i < length ops → o ≡ get_or ops i o →
    k ≡ get_or kept i None → ((rest : List Operation) → finished new next rest ≡ finished back run (with_position o k ∷ rest)) →
    finished back run (drop i (with_positions ops kept)) ≡ turned (with_positions ops kept) →
    finished new next (drop (i + 1) (with_positions ops kept)) ≡ turned (with_positions ops kept)
put-next back run new next i ops kept o k within here there step so_far =
    let after : i + 1 ≡ suc i = omega arith in
    let part : drop i (with_positions ops kept) ≡ with_position o k ∷ drop (suc i) (with_positions ops kept) =
    with_positions-at i ops kept o within
    ∙ (
    ap (λ x. with_position x (get_or kept i None) ∷ drop (suc i) (with_positions ops kept)) (sym here)
    ∙ ap (λ y. with_position o y ∷ drop (suc i) (with_positions ops kept)) (sym there)
    ) in
    rw after (step (drop (suc i) (with_positions ops kept)) ∙ (ap (finished back run) (sym part) ∙ so_far))

pub put-all : (back run : List Operation) (i : ℕ) (ops : List Op) (kept : List (Option ℕ)) → length ops ≤ i →
    finished back run (drop i (with_positions ops kept)) ≡ turned (with_positions ops kept) → back ++ reverse run ≡ turned (with_positions ops kept)
put-all back run i ops kept done so_far =
    let none : drop i (with_positions ops kept) ≡ [] = drop-all (with_positions ops kept) i (omega (arith, length-with_positions ops kept)) in
    ap (finished back run) (sym none) ∙ so_far

pub turned-inverse : (values : List Value) (tx back : List Operation) → back ≡ turned tx → by_value values back ≡ inverse (by_value values tx)
turned-inverse values tx back is = ap (by_value values) is ∙ turned-by_value values tx

both_left : (a b : Bool) → (a && b) ≡ true → a ≡ true
both_left true b h = refl
both_left false b h = h

reduced_of : (t : model.Transaction) → is_normal t ≡ true → is_reduced t ≡ true
reduced_of t h = both_left (is_reduced t) _ h

pub turned-undone : (values : List Value) (tx back : List Operation) (items : List PlainItem) → back ≡ turned tx → IsNormal tx → AllNamesApart items →
    Applies (by_value values tx) items → IsRestorable (by_value values tx) items → IsUndoneBy (by_value values tx) (by_value values back) items
turned-undone values tx back items is normal apart applies restorable =
    let P : model.Transaction → Type 0 = λ t. IsUndoneBy (by_value values tx) t items in
    subst P (sym (turned-inverse values tx back is)) (inverse_undoes (by_value values tx) items (reduced_of (by_value values tx) (normal values)) apart applies restorable)
