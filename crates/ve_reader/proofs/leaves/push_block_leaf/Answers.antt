use Rattle.std.proofs.Common.{[], None, false, List, ℕ, ap, ◌∙◌}
use Rattle.std.specs.Str.{chars}
use Rattle.std.proofs.lemmas.Str.{chars-nil}
use Rattle.model_items.specs.declared.plain_item.PlainItem.TheVariants.{Opening, Closing}
use Rattle.ve_reader.specs.Drafted.{with_item}
use Rattle.ve_reader.proofs.DraftLemmas.{on_ok_map, two_items}
use Rattle.ve_reader.proofs.leaves.push_block_leaf.Goals as goal

pub returns : goal.returns
returns c = on_ok_map c.close.result
    (λ h. two_items c.args.draft.now c.open.new.self c.close.new.self (Opening c.args.kind c.args.head [] (chars c.args.white.now) c.args.origin false) (Closing c.args.kind [])
    c.in_ok-open.ensures.ok (h ∙ ap (λ (l : List ℕ). with_item (Closing c.args.kind l) c.open.new.self) chars-nil))
    c.close.ensures.ok
