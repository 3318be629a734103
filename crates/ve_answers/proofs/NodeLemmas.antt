-- The innermost node round an offset reads no values, and what is found of it is the reply.
use Rattle.std.proofs.Common.{◌≡◌, ℕ, zero, suc, ◌+◌, ◌≤◌, nat_lt, Bool, true, false, if◌then◌else◌, List, [], ◌∷◌, length, take, drop, refl, sym, ap, ◌∙◌, arith}
use Rattle.std.proofs.lemmas.List.{drop-map, length-map, take-map}
use Rattle.ve_kinds.specs.declared.kind.Kind.{Kind}
use Rattle.ve_kinds.specs.declared.kind.Kind.TheVariants.{Root}
use Rattle.ve_base.specs.declared.value.Value.{Value}
use Rattle.model_items.specs.declared.item.Item.{Item}
use Rattle.model_items.specs.declared.item.Item.TheVariants.{Char, Opening, Closing}
use Rattle.model_items.specs.declared.offset_class.OffsetClass.{OffsetClass}
use Rattle.model_items.specs.Plain.{plain, plain_list}
use Rattle.model_items.specs.Tree.{Open, NodeExtent, class_at, class_in, length_to_close, node_at, opens_after, place_with}
use Rattle.model_world.specs.declared.refusal.Refusal.TheVariants.{BadOffset}
use Rattle.model_world.specs.declared.reply.Reply.{Reply}
use Rattle.model_world.specs.declared.reply.Reply.TheVariants as reply
use Rattle.ve_arena.specs.declared.node.NodeWhat.{NodeWhat}
use Rattle.ve_arena.specs.declared.node.NodeWhat.TheVariants as what
use Rattle.ve_json.specs.declared.answer.Answer.{Answer}
use Rattle.ve_json.specs.declared.answer.Answer.TheVariants as answer
use Rattle.ve_json.specs.Answers.{reply_of}
use Rattle.ve_tree.specs.IsTree.{unvalued}
use Rattle.ve_answers.specs.Replies.{node_reply}

pub opens_same : (values others : List Value) (opens : List Open) (at : ℕ) (items : List Item) → opens_after opens at (plain_list values items) ≡ opens_after opens at (plain_list others items)
opens_same values others opens at [] = refl
opens_same values others opens at (Char ch marks ∷ items) = opens_same values others opens (suc at) items
opens_same values others opens at (Opening kind generated head marks pre origin ∷ items) = opens_same values others (record { kind = kind; from = at } ∷ opens) (suc at) items
opens_same values others opens at (Closing kind pre ∷ items) = opens_same values others (drop 1 opens) (suc at) items

close_same : (values others : List Value) (depth : ℕ) (items : List Item) → length_to_close depth (plain_list values items) ≡ length_to_close depth (plain_list others items)
close_same values others depth [] = refl
close_same values others depth (Char ch marks ∷ items) = ap suc (close_same values others depth items)
close_same values others depth (Opening kind generated head marks pre origin ∷ items) = ap suc (close_same values others (suc depth) items)
close_same values others zero (Closing kind pre ∷ items) = refl
close_same values others (suc depth) (Closing kind pre ∷ items) = ap suc (close_same values others depth items)

place_same : (values others : List Value) (opens : List Open) (at : ℕ) (rest : List Item) → place_with opens at (plain_list values rest) ≡ place_with opens at (plain_list others rest)
place_same values others [] at rest = ap (λ n. record { kind = Root; from = 0; to = at + n }) (length-map rest (plain values) ∙ sym (length-map rest (plain others)))
place_same values others (inner ∷ outer) at rest = ap (λ n. record { kind = inner.kind; from = inner.from; to = at + n }) (close_same values others 0 rest)

pub node_same : (values others : List Value) (items : List Item) (o : ℕ) → node_at (plain_list values items) o ≡ node_at (plain_list others items) o
node_same values others items o =
    (λ i. place_with (opens_after [] 0 (take-map (plain values) o items i)) o (drop-map (plain values) o items i))
    ∙ ap (λ opens. place_with opens o (plain_list values (drop o items))) (opens_same values others [] 0 (take o items))
    ∙ place_same values others (opens_after [] 0 (plain_list others (take o items))) o (drop o items)
    ∙ sym (λ i. place_with (opens_after [] 0 (take-map (plain others) o items i)) o (drop-map (plain others) o items i))

-- what is found of the node is answered
pub answer_at : (found kind : Kind) (from to : ℕ) (range : ℕ × ℕ) (class class_there : OffsetClass) → ◌≡◌ {A = NodeWhat} (what.Node kind) (what.Node found) →
    range ≡ (from, to) → class ≡ class_there → answer.At found range.0 range.1 class ≡ answer.At kind from to class_there
answer_at found kind from to range class class_there kinds ranges classes =
    let same : kind ≡ found = cc in
    ap (λ k. answer.At k range.0 range.1 class) (sym same)
    ∙ ap (λ (r : ℕ × ℕ). answer.At kind r.0 r.1 class) ranges
    ∙ ap (answer.At kind from to) classes

-- the reply, by the items without values
pub reply_at : (values : List Value) (items : List Item) (at : ℕ) (found : Answer) → at ≤ length items →
    (let place = node_at (unvalued items) at in found ≡ answer.At place.kind place.from place.to (class_at (unvalued items) at)) → reply_of found ≡ node_reply (plain_list values items) at
reply_at values items at found within is =
    ap reply_of is
    ∙ ap (λ (place : NodeExtent). reply.At place.kind place.from place.to (class_in place.kind)) (node_same [] values items at)
    ∙ by (nat_lt (length (plain_list values items)) at) (inside (length (plain_list values items)) at (omega (arith, within, length-map items (plain values))))
  where
    there : Reply
    there = let place = node_at (plain_list values items) at in reply.At place.kind place.from place.to (class_in place.kind)

    inside : (n at : ℕ) → at ≤ n → nat_lt n at ≡ false
    inside n at within = grind arith

    by : (c : Bool) → c ≡ false → there ≡ (if c then reply.No (BadOffset at) else there)
    by false e = refl
    by true e = absurd (cc)
