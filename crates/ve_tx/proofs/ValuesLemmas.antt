-- Cited values stay as they are in a list of values that has more after it.
use Rattle.std.proofs.Common.{◌≡◌, ℕ, zero, suc, List, [], ◌∷◌, ◌++◌, length, take, get_or, slice_get, All, Option, Some, None, refl, sym, ap, ◌∙◌, subst, append_assoc, append-nil}
use Rattle.std.proofs.lemmas.List.{take_at}
use Rattle.std.proofs.lemmas.List.Elements.{All-nil, All-cons, All-head, All-tail}
use Rattle.ve_base.specs.declared.value.Value.{Value}
use Rattle.ve_base.specs.declared.value.Value.TheVariants as value
use Rattle.ve_base.specs.declared.value.ValueId.{ValueId}
use Rattle.model_items.specs.declared.item.Item.{Item}
use Rattle.model_items.specs.declared.item.Item.TheVariants as item
use Rattle.model_items.specs.Plain.{plain, plain_list, value_at, head_in, marks_in, white_in, CitesHead, CitesMarks, CitesWhite, CitesWell}
use Rattle.model_change.specs.Store.{fill, admitted}
use Rattle.model_change.proofs.StoreLemmas.{fill_appends}
use Rattle.ve_tx.specs.Cites.{OperationCites, TxCites}
use Rattle.ve_tx.specs.Making.{Extends}
use Rattle.ve_tx.specs.Operation.{with_position, with_positions, unkept}
use Rattle.ve_tx.specs.declared.op.Op.{Op}
use Rattle.ve_tx.specs.declared.op.Op.TheVariants as op

pub extends_itself : (values : List Value) → Extends values values
extends_itself values = ([], sym (append-nil values))

pub extends_on : (old mid new : List Value) → Extends old mid → Extends mid new → Extends old new
extends_on old mid new p q =
    (p.0 ++ q.0, q.1 ∙ ap (λ l. l ++ q.0) p.1 ∙ append_assoc old p.0 q.0)

pub fill_extends : (values vs : List Value) → Extends values (fill values vs)
fill_extends values vs = let f = fill_appends values vs in (f.appended, f.parts)

pub extends_by_fill : (old new vs : List Value) → new ≡ fill old vs → Extends old new
extends_by_fill old new vs e = subst (Extends old) (sym e) (fill_extends old vs)

-- cut to its first length, it is the first list
pub cut-back : (old new : List Value) (n : ℕ) → Extends old new → n ≡ length old → take n new ≡ old
cut-back old new n p e = ap (take n) p.1 ∙ take_at old p.0 n (sym e)

fill-append : (values vs ws : List Value) → fill values (vs ++ ws) ≡ fill (fill values vs) ws
fill-append values [] ws = refl
fill-append values (v ∷ vs) ws = fill-append (admitted values v) vs ws

-- filled with the first ones already
pub filled_on : (old new vs ws : List Value) → new ≡ fill old vs → fill new ws ≡ fill old (vs ++ ws)
filled_on old new vs ws e = ap (λ l. fill l ws) e ∙ sym (fill-append old vs ws)

still_there : (old more : List Value) (i : ℕ) (v : Value) → slice_get old i ≡ Some v → slice_get (old ++ more) i ≡ Some v
still_there [] more i v h = cc
still_there (x ∷ old) more zero v h = h
still_there (x ∷ old) more (suc i) v h = still_there old more i v h

module _ (old more : List Value) where
  cites_head : (id : Option ValueId) → CitesHead old id → CitesHead (old ++ more) id
  cites_head None p = tt
  cites_head (Some id) p = (p.0, still_there old more id.0 (value.Head p.0) p.1, p.2)

  cites_marks : (id : Option ValueId) → CitesMarks old id → CitesMarks (old ++ more) id
  cites_marks None p = tt
  cites_marks (Some id) p = (p.0, still_there old more id.0 (value.Marks p.0) p.1, p.2)

  cites_white : (id : Option ValueId) → CitesWhite old id → CitesWhite (old ++ more) id
  cites_white None p = tt
  cites_white (Some id) p = (p.0, still_there old more id.0 (value.White p.0) p.1, p.2)

  cites_still : (x : Item) → CitesWell old x → CitesWell (old ++ more) x
  cites_still (item.Char ch marks) p = cites_marks marks p
  cites_still (item.Opening kind generated head marks pre origin) p = (cites_head head p.0, cites_marks marks p.1, cites_white pre p.2)
  cites_still (item.Closing kind pre) p = cites_white pre p

  same_head : (id : Option ValueId) → CitesHead old id → head_in (value_at (old ++ more) id) ≡ head_in (value_at old id)
  same_head None p = refl
  same_head (Some id) p = ap head_in (still_there old more id.0 (value.Head p.0) p.1 ∙ sym p.1)

  same_marks : (id : Option ValueId) → CitesMarks old id → marks_in (value_at (old ++ more) id) ≡ marks_in (value_at old id)
  same_marks None p = refl
  same_marks (Some id) p = ap marks_in (still_there old more id.0 (value.Marks p.0) p.1 ∙ sym p.1)

  same_white : (id : Option ValueId) → CitesWhite old id → white_in (value_at (old ++ more) id) ≡ white_in (value_at old id)
  same_white None p = refl
  same_white (Some id) p = ap white_in (still_there old more id.0 (value.White p.0) p.1 ∙ sym p.1)

  plain_still : (x : Item) → CitesWell old x → plain (old ++ more) x ≡ plain old x
  plain_still (item.Char ch marks) p = let m = same_marks marks p in cc
  plain_still (item.Opening kind generated head marks pre origin) p =
      let h = same_head head p.0 in let m = same_marks marks p.1 in let w = same_white pre p.2 in cc
  plain_still (item.Closing kind pre) p = let w = same_white pre p in cc

module _ (old new : List Value) (extends : Extends old new) where
  pub cites-extended : (x : Item) → CitesWell old x → CitesWell new x
  cites-extended x p = subst (λ l. CitesWell l x) (sym extends.1) (cites_still old extends.0 x p)

  pub plain-extended : (x : Item) → CitesWell old x → plain new x ≡ plain old x
  plain-extended x p = ap (λ l. plain l x) extends.1 ∙ plain_still old extends.0 x p

  pub all-extended : (xs : List Item) → All (CitesWell old) xs → All (CitesWell new) xs
  all-extended xs a k d below = cites-extended (get_or xs k d) (a k d below)

  pub list-extended : (xs : List Item) → All (CitesWell old) xs → plain_list new xs ≡ plain_list old xs
  list-extended [] a = refl
  list-extended (x ∷ xs) a =
      let here = plain-extended x (All-head (CitesWell old) x xs a) in
      let rest = list-extended xs (All-tail (CitesWell old) x xs a) in
      λ i. here i ∷ rest i

-- the operations without their positions cite the same
pub unkept_cites : (values : List Value) (ops : List Op) (kept : List (Option ℕ)) → TxCites values (with_positions ops kept) → TxCites values (unkept ops)
unkept_cites values [] kept a = All-nil (OperationCites values)
unkept_cites values (o ∷ ops) [] a =
    All-cons (OperationCites values) (with_position o None) (unkept ops) (All-head (OperationCites values) (with_position o None) (with_positions ops []) a)
    (unkept_cites values ops [] (All-tail (OperationCites values) (with_position o None) (with_positions ops []) a))
unkept_cites values (o ∷ ops) (k ∷ kept) a =
    All-cons (OperationCites values) (with_position o None) (unkept ops) (one o (All-head (OperationCites values) (with_position o k) (with_positions ops kept) a))
    (unkept_cites values ops kept (All-tail (OperationCites values) (with_position o k) (with_positions ops kept) a))
  where
    one : (p : Op) → OperationCites values (with_position p k) → OperationCites values (with_position p None)
    one (op.Retain count) h = tt
    one (op.Replace removed inserted) h = h
    one (op.Attribute name from to) h = tt
