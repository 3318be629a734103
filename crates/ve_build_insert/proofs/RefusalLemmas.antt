-- How the calls answer, by what they test in turn.
use Rattle.std.proofs.Common.{◌≡◌, ◌≤◌, ◌<◌, ℕ, zero, suc, ◌+◌, ◌==◌, Bool, true, false, not, ◌||◌, if◌then◌else◌, Option, Some, None, option_map, Result, Ok, Err, is_ok, IsOk, IfErr, List, [], ◌∷◌, length, take, drop, slice_get, refl, sym, ap, ◌∙◌, arith, eqb-true}
use Rattle.std.specs.Prelude.{nat_lt}
use Rattle.std.specs.List.{list_any}
use Rattle.std.proofs.lemmas.Bool.{false_from_ne_true}
use Rattle.std.proofs.lemmas.Bool.Decides.{nat_tests}
use Rattle.ve_kinds.specs.declared.kind.Kind.{Kind}
use Rattle.ve_kinds.specs.Table.{is_content_branch}
use Rattle.model_items.specs.declared.plain_item.PlainItem.{PlainItem}
use Rattle.model_items.specs.Law.{top}
use Rattle.model_items.specs.Offsets.{openings_at, stack_at, kind_at, is_content}
use Rattle.model_change.specs.Transaction.{Transaction}
use Rattle.model_edit.specs.Brackets.{is_internal}
use Rattle.model_edit.specs.Causes.{BuildCause, BadOffset, NoPlace, NotContent, BadDepth}
use Rattle.model_edit.specs.Edits.{Change, transaction_of}
use Rattle.model_edit.specs.Insert.{is_bad_offset, is_mixed, in_paragraph, levels_up, put_into, reopened, insertion, is_bad_depth, split}
use Rattle.ve_build_insert.specs.Placed.{placement}

-- ---- insertion

abbrev pub put_placed : List PlainItem → ℕ → Option (List PlainItem × ℕ) → Result Transaction BuildCause
put_placed items at None = Err (NoPlace at)
put_placed items at (Some found) = Ok (transaction_of items (Change at 0 (reopened (take found.1 (openings_at items at)) found.0) ∷ []))

pub insertion_bad : (items : List PlainItem) (at : ℕ) (pieces : List PlainItem) → is_bad_offset items at ≡ true → insertion items at pieces ≡ Err (BadOffset at)
insertion_bad items at pieces h =
    ap (λ b. if b then Err (BadOffset at)
    else (if is_mixed pieces then Err (NoPlace at)
    else (let placed = in_paragraph (kind_at items at) pieces in
    put_into items at placed (levels_up placed (stack_at items at))))) h

insertion_good : (items : List PlainItem) (at : ℕ) (pieces : List PlainItem) → is_bad_offset items at ≡ false → insertion items at pieces ≡ put_placed items at (placement (stack_at items at) pieces)
insertion_good items at pieces h =
    ap (λ b. if b then Err (BadOffset at)
    else (if is_mixed pieces then Err (NoPlace at)
    else (let placed = in_paragraph (kind_at items at) pieces in
    put_into items at placed (levels_up placed (stack_at items at))))) h
    ∙ by (is_mixed pieces)
  where
    placed : List PlainItem
    placed = in_paragraph (top (stack_at items at)) pieces

    put : (o : Option ℕ) → put_into items at placed o ≡ put_placed items at (option_map (λ levels. (placed, levels)) o)
    put None = refl
    put (Some j) = refl

    by : (b : Bool) →
        (if b then Err (NoPlace at) else put_into items at placed (levels_up placed (stack_at items at)))
        ≡ put_placed items at (if b then None else option_map (λ levels. (placed, levels)) (levels_up placed (stack_at items at)))
    by true = refl
    by false = put (levels_up placed (stack_at items at))

pub insertion_by : (items : List PlainItem) (at : ℕ) (pieces : List PlainItem) (stack : List Kind) (found : Option (List PlainItem × ℕ)) →
    is_bad_offset items at ≡ false → stack_at items at ≡ stack → found ≡ placement stack pieces → insertion items at pieces ≡ put_placed items at found
insertion_by items at pieces stack found h s is =
    insertion_good items at pieces h ∙ ap (λ l. put_placed items at (placement l pieces)) s ∙ ap (put_placed items at) (sym is)

-- ---- split

abbrev pub split_of : List PlainItem → ℕ → ℕ → Result Transaction BuildCause
split_of items at depth = Ok (transaction_of items (Change at 0 (reopened (take depth (openings_at items at)) []) ∷ []))

module _ (items : List PlainItem) (at depth : ℕ) where
  after_offset : Result Transaction BuildCause
  after_offset = if not (is_content items at) then Err (NotContent at) else (if is_bad_depth (stack_at items at) depth then Err (BadDepth depth) else split_of items at depth)

  pub split_bad : is_bad_offset items at ≡ true → split items at depth ≡ Err (BadOffset at)
  split_bad h =
      ap (λ b. if b then Err (BadOffset at)
      else (if not (is_content items at) then Err (NotContent at) else (if is_bad_depth (stack_at items at) depth then Err (BadDepth depth) else split_of items at depth))) h

  split_good : is_bad_offset items at ≡ false →
      split items at depth ≡ (if not (is_content items at) then Err (NotContent at) else (if is_bad_depth (stack_at items at) depth then Err (BadDepth depth) else split_of items at depth))
  split_good h =
      ap (λ b. if b then Err (BadOffset at)
      else (if not (is_content items at) then Err (NotContent at) else (if is_bad_depth (stack_at items at) depth then Err (BadDepth depth) else split_of items at depth))) h

  module _ (stack : List Kind) (s : stack_at items at ≡ stack) (h : is_bad_offset items at ≡ false) where
    content_is : (k : Kind) → k ≡ top stack → is_content items at ≡ is_content_branch k
    content_is k is = ap (λ l. is_content_branch (top l)) s ∙ ap is_content_branch (sym is)

    pub split_not_content : (k : Kind) → k ≡ top stack → is_content_branch k ≡ false → split items at depth ≡ Err (NotContent at)
    split_not_content k is other =
        split_good h
        ∙ ap (λ b. if not b then Err (NotContent at) else (if is_bad_depth (stack_at items at) depth then Err (BadDepth depth) else split_of items at depth)) (content_is k is ∙ other)

    split_content : (k : Kind) → k ≡ top stack → is_content_branch k ≡ true → split items at depth ≡ (if is_bad_depth (stack_at items at) depth then Err (BadDepth depth) else split_of items at depth)
    split_content k is same =
        split_good h
        ∙ ap (λ b. if not b then Err (NotContent at) else (if is_bad_depth (stack_at items at) depth then Err (BadDepth depth) else split_of items at depth)) (content_is k is ∙ same)

    pub split_bad_depth : (k : Kind) → k ≡ top stack → is_content_branch k ≡ true → is_bad_depth stack depth ≡ true → split items at depth ≡ Err (BadDepth depth)
    split_bad_depth k is same bad =
        split_content k is same ∙ ap (λ b. if b then Err (BadDepth depth) else split_of items at depth) (ap (λ l. is_bad_depth l depth) s ∙ bad)

    pub split_given : (k : Kind) → k ≡ top stack → is_content_branch k ≡ true → is_bad_depth stack depth ≡ false → split items at depth ≡ split_of items at depth
    split_given k is same fine =
        split_content k is same ∙ ap (λ b. if b then Err (BadDepth depth) else split_of items at depth) (ap (λ l. is_bad_depth l depth) s ∙ fine)

-- ---- depths

pub depth_zero : (stack : List Kind) (depth : ℕ) → depth ≡ 0 → is_bad_depth stack depth ≡ true
depth_zero stack depth h = let t : (depth == 0) ≡ true = ap (λ d. d == 0) h in ap (λ b. b || (nat_lt (length stack) depth || list_any is_internal (take depth stack))) t

or_true : (b : Bool) → (b || true) ≡ true
or_true true = refl
or_true false = refl

pub depth_more : (stack : List Kind) (depth : ℕ) → length stack < depth → is_bad_depth stack depth ≡ true
depth_more stack depth h =
    let t : nat_lt (length stack) depth ≡ true = grind (arith, nat_tests) in
    ap (λ b. (depth == 0) || (b || list_any is_internal (take depth stack))) t ∙ or_true (depth == 0)

less_from : (m n : ℕ) → nat_lt m n ≡ true → m < n
less_from m n h = grind (arith, nat_tests)

depth_is : (stack : List Kind) (depth : ℕ) → (depth ≡ 0 → ⊥) → (length stack < depth → ⊥) → is_bad_depth stack depth ≡ list_any is_internal (take depth stack)
depth_is stack depth some room =
    let first : (depth == 0) ≡ false = false_from_ne_true (depth == 0) (λ t. some (eqb-true depth 0 t)) in
    let second : nat_lt (length stack) depth ≡ false = false_from_ne_true (nat_lt (length stack) depth) (λ t. room (less_from (length stack) depth t)) in
    ap (λ b. b || (nat_lt (length stack) depth || list_any is_internal (take depth stack))) first
    ∙ ap (λ b. b || list_any is_internal (take depth stack)) second

-- the kinds that are split, from a level on
abbrev pub any_internal_from : List Kind → ℕ → ℕ → Bool
any_internal_from stack level depth = list_any is_internal (drop level (take depth stack))

any_first : (stack : List Kind) (level depth : ℕ) (k : Kind) → level < depth → slice_get stack level ≡ Some k → any_internal_from stack level depth ≡ (is_internal k || any_internal_from stack (suc level) depth)
any_first [] level depth k less h = absurd (cc)
any_first (x ∷ stack) zero zero k less h = absurd (omega arith)
any_first (x ∷ stack) zero (suc depth) k less h = let same : x ≡ k = cc in ap (λ y. is_internal y || list_any is_internal (take depth stack)) same
any_first (x ∷ stack) (suc level) zero k less h = absurd (omega arith)
any_first (x ∷ stack) (suc level) (suc depth) k less h = any_first stack level depth k (omega arith) h

pub any_here : (stack : List Kind) (level depth : ℕ) (k : Kind) → level < depth → slice_get stack level ≡ Some k → is_internal k ≡ true → any_internal_from stack level depth ≡ true
any_here stack level depth k less h internal = any_first stack level depth k less h ∙ ap (λ b. b || any_internal_from stack (suc level) depth) internal

pub any_on : (stack : List Kind) (level depth : ℕ) (k : Kind) → level < depth → slice_get stack level ≡ Some k → is_internal k ≡ false → any_internal_from stack level depth ≡ any_internal_from stack (level + 1) depth
any_on stack level depth k less h internal =
    let next : suc level ≡ level + 1 = omega arith in
    any_first stack level depth k less h ∙ ap (λ b. b || any_internal_from stack (suc level) depth) internal ∙ ap (λ n. any_internal_from stack n depth) next

pub any_none : (stack : List Kind) (level depth : ℕ) → depth ≤ level → any_internal_from stack level depth ≡ false
any_none [] zero zero h = refl
any_none [] zero (suc depth) h = absurd (omega arith)
any_none [] (suc level) zero h = refl
any_none [] (suc level) (suc depth) h = refl
any_none (x ∷ stack) zero zero h = refl
any_none (x ∷ stack) zero (suc depth) h = absurd (omega arith)
any_none (x ∷ stack) (suc level) zero h = refl
any_none (x ∷ stack) (suc level) (suc depth) h = any_none stack level depth (omega arith)

pub depth_by : (stack : List Kind) (depth level : ℕ) (b : Bool) → (depth ≡ 0 → ⊥) → (length stack < depth → ⊥) → any_internal_from stack 0 depth ≡ any_internal_from stack level depth →
    any_internal_from stack level depth ≡ b → b ≡ is_bad_depth stack depth
depth_by stack depth level b some room so_far is = sym (depth_is stack depth some room ∙ so_far ∙ is)

-- ---- what is given

pub insertion_none : (items : List PlainItem) (at : ℕ) (pieces : List PlainItem) (stack : List Kind) → is_bad_offset items at ≡ false → stack_at items at ≡ stack → None ≡ placement stack pieces →
    insertion items at pieces ≡ Err (NoPlace at)
insertion_none items at pieces stack h s is = insertion_by items at pieces stack None h s is

pub insertion_given : (items : List PlainItem) (at : ℕ) (pieces : List PlainItem) (stack : List Kind) (found : List PlainItem × ℕ) → is_bad_offset items at ≡ false → stack_at items at ≡ stack →
    Some found ≡ placement stack pieces → IsOk (insertion items at pieces)
insertion_given items at pieces stack found h s is = ap is_ok (insertion_by items at pieces stack (Some found) h s is)

-- what holds anyway holds of an error
pub if_err : {T E : Type 0} {Q : E → Type 0} (r : Result T E) → ((e : E) → Q e) → IfErr r Q
if_err (Ok x) h = tt
if_err (Err e) h = h e

pub insertion_is : (items : List PlainItem) (at : ℕ) (pieces : List PlainItem) (stack : List Kind) (placed lent : List PlainItem) (levels : ℕ) (t : Transaction) →
    is_bad_offset items at ≡ false → stack_at items at ≡ stack → Some (placed, levels) ≡ placement stack pieces → lent ≡ placed →
    t ≡ transaction_of items (Change at 0 (reopened (take levels (openings_at items at)) lent) ∷ []) → insertion items at pieces ≡ Ok t
insertion_is items at pieces stack placed lent levels t h s is same given =
    insertion_by items at pieces stack (Some (placed, levels)) h s is
    ∙ ap Ok (sym (given ∙ ap (λ l. transaction_of items (Change at 0 (reopened (take levels (openings_at items at)) l) ∷ [])) same))
