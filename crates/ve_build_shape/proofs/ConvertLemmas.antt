-- A branch of content, by its item.
use Rattle.std.proofs.Common.{◌≡◌, ◌<◌, ℕ, true, Some, List, length, slice_get, refl, sym, ap, ◌∙◌}
use Rattle.ve_base.specs.declared.value.Value.{Value}
use Rattle.ve_kinds.specs.Table.{is_content_branch}
use Rattle.model_items.specs.declared.item.Item.{Item}
use Rattle.model_items.specs.declared.item.Item.TheVariants as item
use Rattle.model_items.specs.Plain.{plain, plain_list}
use Rattle.model_items.specs.Law.{Lawful}
use Rattle.model_items.specs.Offsets.{passes}
use Rattle.model_edit.specs.Convert.{opens_kind}
use Rattle.model_items.specs.Offsets.{partner}
use Rattle.ve_tree.specs.IsTree.{unvalued}
use Rattle.ve_edits.proofs.BracketLemmas.{partner_after, partner_past, slice_get-plain}

pub bounds : (values : List Value) (items : List Item) (at : ℕ) (x : Item) → Lawful (unvalued items) → slice_get items at ≡ Some x → opens_kind is_content_branch (plain values x) ≡ true →
    (at < partner (plain_list values items) at) × (partner (plain_list values items) at < length items)
bounds values items at (item.Char ch marks) lawful h opens = absurd (cc)
bounds values items at (item.Closing kind pre) lawful h opens = absurd (cc)
bounds values items at (item.Opening kind generated head marks pre origin) lawful h opens =
    let x = item.Opening kind generated head marks pre origin in
    (partner_past values items at x kind generated head marks pre origin lawful h refl, (partner_after values items at x kind generated head marks pre origin h refl).1)

pub opens_there : (values : List Value) (items : List Item) (at : ℕ) (x : Item) → slice_get items at ≡ Some x → passes (opens_kind is_content_branch) (slice_get (plain_list values items) at) ≡ true →
    opens_kind is_content_branch (plain values x) ≡ true
opens_there values items at x h opens = ap (passes (opens_kind is_content_branch)) (sym (slice_get-plain values items at x h)) ∙ opens
