-- The inserted items of a move, and when it is refused.
use Rattle.std.proofs.Common.{◌≡◌, ℕ, suc, ◌+◌, ◌==◌, arith, eq-eqb, eqb-true, slice_get, Bool, true, false, if◌then◌else◌, Ok, Err, Result, Option, Some, None, List, [], ◌∷◌, ◌++◌, refl, sym, ap, ◌∙◌, append-nil}
use Rattle.std.proofs.lemmas.Bool.{false_from_ne_true}
use Rattle.ve_kinds.specs.declared.kind.Kind.TheVariants.{Li}
use Rattle.ve_kinds.specs.Table.{kind_same}
use Rattle.model_items.specs.declared.plain_item.PlainItem.{PlainItem}
use Rattle.model_items.specs.Offsets.{partner}
use Rattle.model_items.specs.Tree.{Open}
use Rattle.model_change.specs.Store.{cited}
use Rattle.model_change.specs.Transaction.{Transaction, all_inserted}
use Rattle.model_edit.specs.Brackets.{closing_of, copy_of}
use Rattle.model_edit.specs.Causes.{ListCause, NotNested}
use Rattle.model_edit.specs.Edits.{Change, transaction_of}
use Rattle.model_edit.specs.Lists.{outdent_from, list_ends, end_before, begin_after, copy_at}
use Rattle.ve_edits.proofs.PieceLemmas.{inserts_pieces}
use Rattle.ve_lists.specs.declared.brackets.ListStart.{ListStart}
use Rattle.ve_lists.specs.Moved.{nested_in, outdent_edits}

-- the outdent out of the list that was found
abbrev pub outdent_of : List PlainItem → ℕ → Option Open → Result Transaction ListCause
outdent_of items at None = Err (NotNested at)
outdent_of items at (Some list) = Ok (transaction_of items (outdent_edits items at list))

pub outdent_nested : (items : List PlainItem) (at : ℕ) (opens : List Open) → outdent_from items at opens ≡ outdent_of items at (nested_in opens)
outdent_nested items at [] = refl
outdent_nested items at (list ∷ []) = refl
outdent_nested items at (list ∷ outer ∷ others) = by (kind_same outer.kind Li)
  where
    by : (b : Bool) → (if b then Ok (transaction_of items (outdent_edits items at list)) else Err (NotNested at)) ≡ outdent_of items at (if b then Some list else None)
    by true = refl
    by false = refl

-- two edits insert what they do one after the other
inserted_by_two : (items : List PlainItem) (p c : ℕ) (first : List PlainItem) (q d : ℕ) (second : List PlainItem) →
    all_inserted (transaction_of items (Change p c first ∷ Change q d second ∷ [])) ≡ first ++ second
inserted_by_two items p c first q d second = inserts_pieces items (Change p c first ∷ Change q d second ∷ []) ∙ ap (λ l. first ++ l) (append-nil second)

-- the closings before the item cite nothing
pub cited_after : (items : List PlainItem) (at : ℕ) (list : Open) (q d : ℕ) (second : List PlainItem) →
    cited (all_inserted (transaction_of items (end_before at list ∷ Change q d second ∷ []))) ≡ cited second
cited_after items at list q d second = by (suc list.from == at)
  where
    by : (b : Bool) →
        cited (all_inserted (transaction_of items ((if b then Change list.from 1 (closing_of Li ∷ []) else Change at 0 (list_ends list.kind)) ∷ Change q d second ∷ []))) ≡ cited second
    by true = ap cited (inserted_by_two items list.from 1 (closing_of Li ∷ []) q d second)
    by false = ap cited (inserted_by_two items at 0 (list_ends list.kind) q d second)

-- the edit at the item's closing, where the list ends there, and where it goes on
pub edit_last : (items : List PlainItem) (closing : ℕ) (list : Open) (other end : ℕ) → other ≡ closing → end ≡ partner items list.from → end ≡ other + 1 →
    Change other 2 [] ≡ begin_after items closing list
edit_last items closing list other end o e h =
    let here : partner items list.from ≡ suc closing = omega arith in
    ap (λ n. Change n 2 []) o
    ∙ ap (λ b. if b then Change closing 2 [] else Change closing 1 (copy_at items list.from)) (sym (eq-eqb (partner items list.from) (suc closing) here))

pub edit_within : (items : List PlainItem) (closing : ℕ) (list : Open) (opening : PlainItem) (other end : ℕ) → other ≡ closing → end ≡ partner items list.from →
    (end ≡ other + 1 → ⊥) → slice_get items list.from ≡ Some opening → Change other 1 (copy_of opening ∷ []) ≡ begin_after items closing list
edit_within items closing list opening other end o e h there =
    let past : (partner items list.from == suc closing) ≡ false =
    false_from_ne_true (partner items list.from == suc closing) (λ t. let same = eqb-true (partner items list.from) (suc closing) t in h (omega arith)) in
    let copied : copy_of opening ∷ [] ≡ copy_at items list.from = by (slice_get items list.from) refl there in
    ap (λ n. Change n 1 (copy_of opening ∷ [])) o ∙ ap (Change closing 1) copied
    ∙ ap (λ b. if b then Change closing 2 [] else Change closing 1 (copy_at items list.from)) (sym past)
  where
    by : (o : Option PlainItem) → slice_get items list.from ≡ o → o ≡ Some opening → copy_of opening ∷ [] ≡ copy_at items list.from
    by o is some = rw (is, some) refl

pub none_of : (o : Option ListStart) → ((list : ListStart) → o ≡ Some list → ⊥) → o ≡ None
none_of None h = refl
none_of (Some list) h = absurd (h list refl)
