-- Where a selection may end, and that a caret comes where it may.
use Rattle.std.proofs.Common.{◌≡◌, ◌≤◌, ◌<◌, ◌||◌, ℕ, Bool, true, false, nat_lt, List, length, Some, refl, sym, ◌∙◌, arith}
use Rattle.std.proofs.lemmas.Bool.Decides.{nat_tests}
use Rattle.std.proofs.lemmas.List.{length-map}
use Rattle.ve_base.specs.declared.value.Value.{Value}
use Rattle.ve_kinds.specs.declared.kind.Kind.{Kind}
use Rattle.ve_kinds.specs.declared.kind.Kind.TheVariants.{Br}
use Rattle.ve_kinds.specs.Table.{is_content_branch, is_leaf}
use Rattle.ve_kinds.proofs.LawLemmas.{leaves_are_empty, inline_in_content}
use Rattle.model_items.specs.declared.item.Item.{Item}
use Rattle.model_items.specs.declared.plain_item.PlainItem.{PlainItem}
use Rattle.model_items.specs.Law.{Lawful}
use Rattle.model_items.specs.Offsets.{is_content, is_inside_leaf, kind_at}
use Rattle.model_items.specs.Plain.{plain, plain_list}
use Rattle.model_edit.specs.declared.selection.Dir.{Dir}
use Rattle.model_edit.specs.declared.selection.By.{By}
use Rattle.model_edit.specs.Next.{next}
use Rattle.model_edit_law.proofs.NextLemmas.{caret_stays_in_branch}
use Rattle.model_site_law.specs.SelectionLaws.{EndStands}
use Rattle.model_world.specs.Answers.{is_no_end}

-- ---- the ends of a selection

past : (n at : ℕ) (b : Bool) → n < at → true ≡ (nat_lt n at || b)
past n at b h = grind (arith, nat_tests)

before : (n at : ℕ) (b : Bool) → at ≤ n → b ≡ (nat_lt n at || b)
before n at b h = grind (arith, nat_tests)

pub end_past : (values : List Value) (items : List Item) (at : ℕ) → length items < at → true ≡ is_no_end (plain_list values items) at
end_past values items at h =
    let n = length-map items (plain values) in
    past (length (plain_list values items)) at (is_inside_leaf (plain_list values items) at) (omega (arith, h, n))

pub end_within : (values : List Value) (items : List Item) (at : ℕ) (b : Bool) → at ≤ length items →
    b ≡ is_inside_leaf (plain_list values items) at → b ≡ is_no_end (plain_list values items) at
end_within values items at b h is =
    let n = length-map items (plain values) in
    is ∙ before (length (plain_list values items)) at (is_inside_leaf (plain_list values items) at) (omega (arith, h, n))

-- ---- the next position

content_no_leaf : (k : Kind) → is_content_branch k ≡ true → is_leaf k ≡ false
content_no_leaf k content = by_leaf (is_leaf k) refl
  where
    by_leaf : (b : Bool) → is_leaf k ≡ b → b ≡ false
    by_leaf true e = let none : is_content_branch k ≡ false = sym (inline_in_content k Br refl) ∙ leaves_are_empty k Br e in cc
    by_leaf false e = refl

pub place_stands : (items : List PlainItem) (at : ℕ) (dir : Dir) (by : By) (place : ℕ) → Lawful items → is_content items at ≡ true → next items at dir by ≡ Some place → EndStands items place
place_stands items at dir by place lawful e some =
    let goes = caret_stays_in_branch items at place dir by lawful e some in
    (goes.within, content_no_leaf (kind_at items place) goes.content)
