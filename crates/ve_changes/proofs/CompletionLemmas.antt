-- Changes with what they take from the page as it was first read.
use Rattle.std.proofs.Common.{◌≡◌, ℕ, Bool, true, false, ◌||◌, nat_lt, length, get_or, List, [], ◌∷◌, ◌++◌, map, Option, Some, None, Result, Ok, Err, ◌⊎◌, inl, inr, refl, sym, ap, ◌∙◌, append_assoc}
use Rattle.std.proofs.lemmas.Bool.{ltb-true}
use Rattle.std.proofs.lemmas.List.{append-nil}
use Rattle.std.proofs.lemmas.Option.{slice_get_read}
use Rattle.std.specs.List.{list_any}
use Rattle.ve_base.specs.declared.head.Head.{Head}
use Rattle.ve_base.specs.declared.marks.Mark.{Mark}
use Rattle.ve_kinds.specs.declared.kind.Kind.{Kind}
use Rattle.model_items.specs.declared.plain_item.PlainItem.{PlainItem}
use Rattle.model_items.specs.declared.plain_item.PlainItem.TheVariants.{Char, Opening, Closing}
use Rattle.model_world.specs.Completed.{read_for, head_for, item_completed, op_completed, completed, all_completed}
use Rattle.model_world.specs.declared.edit_command.OpWords.{OpWords}
use Rattle.model_world.specs.declared.edit_command.OpWords.TheVariants as op
use Rattle.model_world.specs.declared.edit_command.EditCommand.{EditCommand}
use Rattle.model_world.specs.declared.edit_command.EditCommand.TheVariants as change
use Rattle.std.specs.Prelude.{slice_get}
use Rattle.ve_base.specs.declared.value.Value.{Value}
use Rattle.ve_base.specs.declared.value.ValueId.{ValueId}
use Rattle.model_items.specs.declared.item.Item.{Item}
use Rattle.model_items.specs.declared.item.Item.TheVariants as item
use Rattle.model_items.specs.Plain.{plain, plain_list}
use Rattle.ve_origin.specs.declared.origin.OriginRow.{OriginRow}
use Rattle.ve_changes.specs.declared.completion.Uncompleted.{Uncompleted}
use Rattle.ve_changes.specs.declared.completion.Uncompleted.TheVariants as not_done
use Rattle.ve_changes.specs.Completions.{has_origin, inserts_first, takes_first, head_completed, opening_of, FindsFirst, IsUncompleted}

-- ---- what was completed, and what the rest is completed to

abbrev pub joined : {A : Type 0} → List A → Result (List A) ℕ → Result (List A) ℕ
joined so_far (Ok rest) = Ok (so_far ++ rest)
joined so_far (Err origin) = Err origin

abbrev then_all : {A : Type 0} → Result A ℕ → Result (List A) ℕ → Result (List A) ℕ
then_all (Err origin) rest = Err origin
then_all (Ok done) (Err origin) = Err origin
then_all (Ok done) (Ok rest) = Ok (done ∷ rest)

first_and_rest : {A : Type 0} (one : A → Result A ℕ) (x : A) (xs : List A) → all_completed one (x ∷ xs) ≡ then_all (one x) (all_completed one xs)
first_and_rest {A = A} one x xs = by (one x) (all_completed one xs) where
  by : (r : Result A ℕ) (rest : Result (List A) ℕ) → (elim r [
    | Err origin ↦ Err origin
    | Ok done ↦ elim rest [
      | Err origin ↦ Err origin
      | Ok more ↦ Ok (done ∷ more)
    ]
  ]) ≡ then_all r rest
  by (Err origin) rest = refl
  by (Ok done) (Err origin) = refl
  by (Ok done) (Ok more) = refl

pub joined_none : {A : Type 0} (r : Result (List A) ℕ) → joined [] r ≡ r
joined_none (Ok rest) = refl
joined_none (Err origin) = refl

pub one_done : {A : Type 0} (one : A → Result A ℕ) (so_far : List A) (x y : A) (xs : List A) → one x ≡ Ok y → joined (so_far ++ y ∷ []) (all_completed one xs) ≡ joined so_far (all_completed one (x ∷ xs))
one_done {A = A} one so_far x y xs is =
    sym (ap (joined so_far) (first_and_rest one x xs ∙ ap (λ r. then_all r (all_completed one xs)) is) ∙ by (all_completed one xs)) where
      by : (r : Result (List A) ℕ) → joined so_far (then_all (Ok y) r) ≡ joined (so_far ++ y ∷ []) r
      by (Ok rest) = ap (λ l. Ok l) (sym (append_assoc so_far (y ∷ []) rest))
      by (Err origin) = refl

pub one_bad : {A : Type 0} (one : A → Result A ℕ) (so_far : List A) (x : A) (xs : List A) (origin : ℕ) → one x ≡ Err origin → joined so_far (all_completed one (x ∷ xs)) ≡ Err origin
one_bad one so_far x xs origin is = ap (joined so_far) (first_and_rest one x xs ∙ ap (λ r. then_all r (all_completed one xs)) is)

-- nothing is left
pub all_done : {A : Type 0} (one : A → Result A ℕ) (so_far rest : List A) (meant : Result (List A) ℕ) → rest ≡ [] → joined so_far (all_completed one rest) ≡ meant → meant ≡ Ok so_far
all_done one so_far rest meant none is = sym is ∙ ap (λ l. joined so_far (all_completed one l)) none ∙ ap (λ l. Ok l) (append-nil so_far)

-- ---- what is taken from there

-- the same opening with another head
abbrev with_head : PlainItem → Head → Result PlainItem ℕ
with_head (Opening kind head marks pre origin generated) found = Ok (Opening kind found marks pre origin generated)
with_head (Char ch marks) found = Ok (Char ch marks)
with_head (Closing kind pre) found = Ok (Closing kind pre)

abbrev or_bad : ℕ → Option Head → Result Head ℕ
or_bad origin None = Err origin
or_bad origin (Some found) = Ok found

abbrev item_or_bad : PlainItem → Result Head ℕ → Result PlainItem ℕ
item_or_bad item (Err origin) = Err origin
item_or_bad item (Ok found) = with_head item found

by_head : (opened : List PlainItem) (kind : Kind) (head : Head) (marks : List Mark) (pre : List ℕ) (origin : Option ℕ) (generated : Bool) →
    item_completed opened (Opening kind head marks pre origin generated) ≡ item_or_bad (Opening kind head marks pre origin generated) (head_completed opened kind head origin)
by_head opened kind head marks pre None generated = refl
by_head opened kind head marks pre (Some origin) generated = by (head_for kind head (read_for origin opened)) where
  by : (o : Option Head) → ◌≡◌ {A = Result PlainItem ℕ} (elim o [
    | None ↦ Err origin
    | Some h ↦ Ok (Opening kind h marks pre (Some origin) generated)
  ]) (item_or_bad (Opening kind head marks pre (Some origin) generated) (elim o [
    | None ↦ Err origin
    | Some h ↦ Ok h
  ]))
  by None = refl
  by (Some h) = refl

pub opening_done : (opened : List PlainItem) (kind : Kind) (head found : Head) (marks : List Mark) (pre : List ℕ) (origin : Option ℕ) (generated : Bool) → head_completed opened kind head origin ≡ Ok found →
    item_completed opened (Opening kind head marks pre origin generated) ≡ Ok (Opening kind found marks pre origin generated)
opening_done opened kind head found marks pre origin generated e = by_head opened kind head marks pre origin generated ∙ ap (item_or_bad (Opening kind head marks pre origin generated)) e

pub opening_bad : (opened : List PlainItem) (kind : Kind) (head : Head) (marks : List Mark) (pre : List ℕ) (origin : Option ℕ) (generated : Bool) (why : Uncompleted) → IsUncompleted why (head_completed opened kind head origin) →
    IsUncompleted why (item_completed opened (Opening kind head marks pre origin generated))
opening_bad opened kind head marks pre origin generated (not_done.NoOrigin bad) e = by_head opened kind head marks pre origin generated ∙ ap (item_or_bad (Opening kind head marks pre origin generated)) e
opening_bad opened kind head marks pre origin generated not_done.Memory e = tt

-- one that isn't completed ends them all
pub one_stops : {A : Type 0} (one : A → Result A ℕ) (so_far : List A) (x : A) (xs : List A) (why : Uncompleted) → IsUncompleted why (one x) → IsUncompleted why (joined so_far (all_completed one (x ∷ xs)))
one_stops one so_far x xs (not_done.NoOrigin origin) e = one_bad one so_far x xs origin e
one_stops one so_far x xs not_done.Memory e = tt

-- ---- operations and changes

abbrev op_or_bad : (count : ℕ) → Result (List PlainItem) ℕ → Result OpWords ℕ
op_or_bad count (Err origin) = Err origin
op_or_bad count (Ok items) = Ok (op.Remove count items)

by_items : (opened : List PlainItem) (count : ℕ) (insert : List PlainItem) → op_completed opened (op.Remove count insert) ≡ op_or_bad count (all_completed (item_completed opened) insert)
by_items opened count insert = by (all_completed (item_completed opened) insert) where
  by : (r : Result (List PlainItem) ℕ) → ◌≡◌ {A = Result OpWords ℕ} (elim r [
    | Err origin ↦ Err origin
    | Ok items ↦ Ok (op.Remove count items)
  ]) (op_or_bad count r)
  by (Ok items) = refl
  by (Err origin) = refl

pub removal_done : (opened : List PlainItem) (count : ℕ) (insert items : List PlainItem) → all_completed (item_completed opened) insert ≡ Ok items → op_completed opened (op.Remove count insert) ≡ Ok (op.Remove count items)
removal_done opened count insert items e = by_items opened count insert ∙ ap (op_or_bad count) e

pub removal_bad : (opened : List PlainItem) (count : ℕ) (insert : List PlainItem) (why : Uncompleted) → IsUncompleted why (all_completed (item_completed opened) insert) → IsUncompleted why (op_completed opened (op.Remove count insert))
removal_bad opened count insert (not_done.NoOrigin bad) e = by_items opened count insert ∙ ap (op_or_bad count) e
removal_bad opened count insert not_done.Memory e = tt

abbrev change_or_bad : Result (List OpWords) ℕ → EditCommand
change_or_bad (Err origin) = change.NoOrigin origin
change_or_bad (Ok done) = change.Apply done

pub by_ops : (opened : List PlainItem) (ops : List OpWords) → completed opened (change.Apply ops) ≡ change_or_bad (all_completed (op_completed opened) ops)
by_ops opened ops = by (all_completed (op_completed opened) ops) where
  by : (r : Result (List OpWords) ℕ) → ◌≡◌ {A = EditCommand} (elim r [
    | Err origin ↦ change.NoOrigin origin
    | Ok done ↦ change.Apply done
  ]) (change_or_bad r)
  by (Ok done) = refl
  by (Err origin) = refl

pub apply_done : (opened : List PlainItem) (ops done : List OpWords) → all_completed (op_completed opened) ops ≡ Ok done → change.Apply done ≡ completed opened (change.Apply ops)
apply_done opened ops done e = sym (by_ops opened ops ∙ ap change_or_bad e)

pub apply_bad : (opened : List PlainItem) (ops : List OpWords) (origin : ℕ) → all_completed (op_completed opened) ops ≡ Err origin → change.NoOrigin origin ≡ completed opened (change.Apply ops)
apply_bad opened ops origin e = sym (by_ops opened ops ∙ ap change_or_bad e)

-- ---- what takes nothing from there

either_false : (a b : Bool) → (a || b) ≡ false → (a ≡ false) × (b ≡ false)
either_false true b e = cc e
either_false false b e = (refl, e)

all_same : {A : Type 0} (takes : A → Bool) (one : A → Result A ℕ) → ((x : A) → takes x ≡ false → one x ≡ Ok x) → (xs : List A) → list_any takes xs ≡ false → all_completed one xs ≡ Ok xs
all_same takes one same [] none = refl
all_same takes one same (x ∷ xs) none =
    let parts = either_false (takes x) (list_any takes xs) none in
    first_and_rest one x xs ∙ (ap (λ r. then_all r (all_completed one xs)) (same x parts.0) ∙ ap (then_all (Ok x)) (all_same takes one same xs parts.1))

item_same : (opened : List PlainItem) (item : PlainItem) → has_origin item ≡ false → item_completed opened item ≡ Ok item
item_same opened (Opening kind head marks pre None generated) none = refl
item_same opened (Opening kind head marks pre (Some origin) generated) none = cc none
item_same opened (Char ch marks) none = refl
item_same opened (Closing kind pre) none = refl

op_same : (opened : List PlainItem) (o : OpWords) → inserts_first o ≡ false → op_completed opened o ≡ Ok o
op_same opened (op.Retain count) none = refl
op_same opened (op.Remove count insert) none = removal_done opened count insert insert (all_same has_origin (item_completed opened) (item_same opened) insert none)
op_same opened (op.Attr name to) none = refl

pub change_same : (opened : List PlainItem) (c : EditCommand) → takes_first c ≡ false → completed opened c ≡ c
change_same opened (change.Apply ops) none = sym (apply_done opened ops ops (all_same inserts_first (op_completed opened) (op_same opened) ops none))
change_same opened (change.Text at text marks) none = refl
change_same opened (change.Insert at html) none = refl
change_same opened (change.Remove from to) none = refl
change_same opened (change.Split at depth) none = refl
change_same opened (change.Mark from to mark) none = refl
change_same opened (change.Unmark from to mark) none = refl
change_same opened (change.Wrap from to plan) none = refl
change_same opened (change.Convert at kind) none = refl
change_same opened (change.Attr at name to) none = refl
change_same opened (change.NoOrigin origin) none = refl

pub changes_same : (opened : List PlainItem) (cs : List EditCommand) → list_any takes_first cs ≡ false → map (completed opened) cs ≡ cs
changes_same opened [] none = refl
changes_same opened (c ∷ cs) none =
    let parts = either_false (takes_first c) (list_any takes_first cs) none in
    rw (change_same opened c parts.0, changes_same opened cs parts.1) refl

-- ---- the page as it was first read

-- a row that was looked up
pub row_there : (lent rows : List OriginRow) (k : ℕ) (row : OriginRow) → lent ≡ rows → true ≡ nat_lt k (length lent) → row ≡ get_or lent k row → slice_get rows k ≡ Some row
row_there lent rows k row is within here = ap (λ l. slice_get l k) (sym is) ∙ slice_get_read lent (length lent) k row refl (ltb-true k (length lent) (sym within)) here

-- the opening at a row
pub read_at : (store : List Value) (items : List Item) (rows : List OriginRow) (k : ℕ) (row : OriginRow) (item : Item) → FindsFirst store items rows → slice_get rows k ≡ Some row → slice_get items row.from ≡ Some item →
    opening_of (plain store item) ≡ read_for k (plain_list store items)
read_at store items rows k row item finds there here = sym (finds.found k row item there here)

pub apply_same : (opened : List PlainItem) (ops : List OpWords) → list_any inserts_first ops ≡ false → change.Apply ops ≡ completed opened (change.Apply ops)
apply_same opened ops none = sym (change_same opened (change.Apply ops) none)

-- what is no opening
pub no_opening : (store : List Value) (i : Item) → ((ch : ℕ) × (marks : Option ValueId) × (i ≡ item.Char ch marks)) ⊎ ((kind : Kind) × (pre : Option ValueId) × (i ≡ item.Closing kind pre)) → None ≡ opening_of (plain store i)
no_opening store i (inl (ch, marks, is)) = ap (λ x. opening_of (plain store x)) (sym is)
no_opening store i (inr (kind, pre, is)) = ap (λ x. opening_of (plain store x)) (sym is)
