-- The replies are the model's answers.
use Rattle.std.proofs.Common.{◌≡◌, ◌||◌, ℕ, Bool, true, false, if◌then◌else◌, length, refl}
use Rattle.std.specs.Prelude.{nat_lt, slice_range, unwrap_or, Result, Ok, Err}
use Rattle.model_items.specs.Tree.{NodeExtent, node_at, class_at}
use Rattle.model_world.specs.declared.refusal.Refusal.{Refusal}
use Rattle.model_world.specs.declared.refusal.Refusal.TheVariants.{BadOffset, BadRange}
use Rattle.model_world.specs.declared.reply.Reply.{Reply}
use Rattle.model_world.specs.declared.reply.Reply.TheVariants as reply
use Rattle.model_world.specs.Answers.{content_near, edge_or, offset_told, refusal_outcome, site_items, unchanged_outcome}
use Rattle.ve_answers.specs.Replies.{offset_reply}
use Rattle.ve_answers.specs.Asked.{outcome_of, CaretIsAsked, HtmlIsAsked, ItemsAreAsked, NearIsAsked, NodeIsAsked, RefsAreAsked, TreeIsAsked}

pub html_is_asked : HtmlIsAsked
html_is_asked a = refl

pub tree_is_asked : TreeIsAsked
tree_is_asked a = refl

pub refs_are_asked : RefsAreAsked
refs_are_asked a = refl

pub caret_is_asked : CaretIsAsked
caret_is_asked a = refl

pub items_are_asked : ItemsAreAsked
items_are_asked a from to = along (nat_lt end from || nat_lt (length (site_items a)) end)
  where
    end : ℕ
    end = unwrap_or to (length (site_items a))

    shown : Reply
    shown = reply.Items (slice_range (site_items a) from end)

    along : (c : Bool) → (if c then refusal_outcome (BadRange from end) else unchanged_outcome a shown) ≡ outcome_of a.session (if c then reply.No (BadRange from end) else shown)
    along true = refl
    along false = refl

pub node_is_asked : NodeIsAsked
node_is_asked a at = along (nat_lt (length (site_items a)) at)
  where
    node : NodeExtent
    node = node_at (site_items a) at

    shown : Reply
    shown = reply.At node.kind node.from node.to (class_at (site_items a) at)

    along : (c : Bool) → (if c then refusal_outcome (BadOffset at) else unchanged_outcome a shown) ≡ outcome_of a.session (if c then reply.No (BadOffset at) else shown)
    along true = refl
    along false = refl

pub near_is_asked : NearIsAsked
near_is_asked a at dir = along (nat_lt (length (site_items a)) at) (edge_or at (content_near (site_items a) at dir))
  where
    along : (c : Bool) (found : Result ℕ Refusal) → (if c then refusal_outcome (BadOffset at) else offset_told a found) ≡ outcome_of a.session (if c then reply.No (BadOffset at) else offset_reply found)
    along true found = refl
    along false (Ok o) = refl
    along false (Err refusal) = refl
