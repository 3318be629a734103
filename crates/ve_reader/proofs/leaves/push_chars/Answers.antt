use Rattle.std.proofs.Common.{List, ℕ, map, sym, ap, ◌∙◌, map-id}
use Rattle.std.proofs.lemmas.Iterator.{YieldsList-from_chars}
use Rattle.std.proofs.lemmas.Iterator.Consumers.{YieldsList-end}
use Rattle.model_items.specs.declared.plain_item.PlainItem.TheVariants as plain
use Rattle.ve_reader.specs.Leaves.{with_items}
use Rattle.ve_reader.proofs.leaves.push_chars.Goals as goal

pub returns : goal.returns
returns c =
    let end = YieldsList-end (YieldsList-from_chars c.args.text.now c.utf8.text cc) c.loop-ch.yielded _ c.loop-ch.yielded_by _ _ c.in-None.is c.next.ensures.steps in
    c.loop-ch.invariant
    ∙ ap (λ (l : List ℕ). with_items (map (λ x. plain.Char x c.args.draft.now.marks) l) c.args.draft.now) (sym (map-id c.loop-ch.yielded) ∙ end.0)
