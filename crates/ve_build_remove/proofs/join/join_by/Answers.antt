use Rattle.std.proofs.Common.{Some, slice_get, sym, ap, ◌∙◌}
use Rattle.model_items.specs.Plain.{plain, plain_list, white_in, value_at}
use Rattle.model_items.specs.Offsets.{partner}
use Rattle.model_edit.specs.Remove as model
use Rattle.ve_edits.proofs.BracketLemmas.{slice_get-plain}
use Rattle.ve_build_remove.proofs.join.join_by.Goals as goal

pub returns-in-Closing-clause-join : goal.returns-in-Closing-clause-join
returns-in-Closing-clause-join c = λ values.
    let items = c.args.doc.list.now.items in
    let all = plain_list values items in
    let here = slice_get-plain values items c.args.p c.get.result c.get.ensures ∙ ap (λ y. Some (plain values y)) c.in-Closing.is in
    c.join_to.ensures.join (white_in (value_at values c.in-Closing.pre)) values ∙ ap (λ o. model.join_by o (slice_get all c.args.q) (partner all c.args.q)) (sym here)
