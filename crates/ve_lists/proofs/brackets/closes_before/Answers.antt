use Rattle.std.proofs.Common.{◌-◌, sym, ap, ◌∙◌, arith}
use Rattle.model_items.specs.Offsets.{passes}
use Rattle.model_items.specs.Plain.{plain_list}
use Rattle.model_edit.specs.Brackets.{is_closing_of}
use Rattle.ve_edits.proofs.BracketLemmas.{slice_get-plain}
use Rattle.ve_lists.proofs.PlaceLemmas.{passes_before_at}
use Rattle.ve_lists.proofs.brackets.closes_before.Goals as goal

pub returns-clause-means : goal.returns-clause-means
returns-clause-means c = λ values.
    let items = c.args.doc.list.now.items in
    let test = is_closing_of c.args.kind in
    c.closes.ensures values
    ∙ ap (passes test) (sym (slice_get-plain values items (c.args.at - 1) c.get.result c.get.ensures))
    ∙ sym (passes_before_at test (plain_list values items) c.args.at (omega arith))
