-- Where text may stand reads no values, and what is found is the reply.
use Rattle.std.proofs.Common.{◌≡◌, ℕ, suc, ◌≤◌, nat_lt, Bool, true, false, if◌then◌else◌, List, [], length, filter, take, map, Option, sym, ap, ◌∙◌, refl, arith}
use Rattle.std.specs.Prelude.{find, nat_le, reverse}
use Rattle.std.proofs.lemmas.List.{length-map, take-map}
use Rattle.ve_kinds.specs.Table.{is_content_branch}
use Rattle.ve_base.specs.declared.value.Value.{Value}
use Rattle.model_items.specs.declared.item.Item.{Item}
use Rattle.model_items.specs.Law.{top}
use Rattle.model_items.specs.Offsets.{content_offsets, is_content, places_in}
use Rattle.model_items.specs.Plain.{plain, plain_list}
use Rattle.model_items.specs.Tree.{Open, opens_after}
use Rattle.model_edit.specs.declared.selection.Dir.{Dir}
use Rattle.model_edit.specs.declared.selection.Dir.TheVariants.{Back, Ahead}
use Rattle.model_world.specs.declared.refusal.Refusal.TheVariants.{BadOffset}
use Rattle.model_world.specs.declared.reply.Reply.{Reply}
use Rattle.model_world.specs.declared.reply.Reply.TheVariants as reply
use Rattle.model_world.specs.Answers.{content_near, edge_or}
use Rattle.ve_tree.specs.IsTree.{unvalued}
use Rattle.ve_answers.specs.Replies.{near_reply, offset_reply}
use Rattle.ve_answers.proofs.NodeLemmas.{opens_same}

module _ (values others : List Value) (items : List Item) where
  content_same : (o : ℕ) → is_content (plain_list values items) o ≡ is_content (plain_list others items) o
  content_same o =
      ap (λ (opens : List Open). is_content_branch (top (map (λ (node : Open). node.kind) opens))) (
      (λ i. opens_after [] 0 (take-map (plain values) o items i)) ∙ opens_same values others [] 0 (take o items)
      ∙ sym (λ i. opens_after [] 0 (take-map (plain others) o items i))
      )

  offsets_same : content_offsets (plain_list values items) ≡ content_offsets (plain_list others items)
  offsets_same =
      (λ i. filter (λ o. content_same o i) (places_in 0 (suc (length (plain_list values items)))))
      ∙ ap (λ n. filter (is_content (plain_list others items)) (places_in 0 (suc n))) (length-map items (plain values) ∙ sym (length-map items (plain others)))

  near_same : (at : ℕ) (dir : Dir) → content_near (plain_list values items) at dir ≡ content_near (plain_list others items) at dir
  near_same at Back = ap (λ offsets. find (λ o. nat_le o at) (reverse offsets)) offsets_same
  near_same at Ahead = ap (λ offsets. find (λ o. nat_le at o) offsets) offsets_same

-- the reply, by what is found among the items without values
pub near_told : (values : List Value) (items : List Item) (at : ℕ) (dir : Dir) (found : Option ℕ) → at ≤ length items → found ≡ content_near (unvalued items) at dir →
    offset_reply (edge_or at found) ≡ near_reply (plain_list values items) at dir
near_told values items at dir found within is =
    ap (λ o. offset_reply (edge_or at o)) (is ∙ near_same [] values items at dir)
    ∙ by (nat_lt (length (plain_list values items)) at) (inside (length (plain_list values items)) at (omega (arith, within, length-map items (plain values))))
  where
    there : Reply
    there = offset_reply (edge_or at (content_near (plain_list values items) at dir))

    inside : (n at : ℕ) → at ≤ n → nat_lt n at ≡ false
    inside n at within = grind arith

    by : (c : Bool) → c ≡ false → there ≡ (if c then reply.No (BadOffset at) else there)
    by false e = refl
    by true e = absurd (cc)
