use Rattle.std.proofs.Common.{◌++◌, map-id, sym, ap, ◌∙◌}
use Rattle.std.proofs.lemmas.Iterator.{YieldsList-from_chars}
use Rattle.std.proofs.lemmas.Iterator.Consumers.{YieldsList-end}
use Rattle.model_edit.specs.Insert.{text_pieces}
use Rattle.ve_json.proofs.item_members.push_text.Goals as goal

pub returns : goal.returns
returns c =
    let end = YieldsList-end (YieldsList-from_chars c.args.text.now c.utf8.text cc) c.loop-ch.yielded _ c.loop-ch.yielded_by _ _ c.in-None.is c.next.ensures.steps in
    c.loop-ch.invariant ∙ ap (λ l. c.args.items.now ++ text_pieces c.args.marks.now l) (sym (map-id c.loop-ch.yielded) ∙ end.0)
