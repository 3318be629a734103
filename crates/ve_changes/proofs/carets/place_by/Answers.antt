use Rattle.std.proofs.Common.{sym, ap, ◌∙◌}
use Rattle.std.proofs.lemmas.Result.{IfOk-weaker}
use Rattle.model_edit.specs.Next.{next}
use Rattle.ve_offsets.specs.Docs.{page_items}
use Rattle.ve_changes.proofs.carets.place_by.Goals as goal

pub returns-in-Cluster : goal.returns-in-Cluster
returns-in-Cluster c =
    IfOk-weaker c.next_cluster.result _ _ (λ place h. h c.args.doc.store.now ∙ ap (next (page_items c.args.doc) c.args.at c.args.dir) (sym c.in-Cluster.is))
    c.next_cluster.ensures

pub returns-in-Word : goal.returns-in-Word
returns-in-Word c =
    IfOk-weaker c.next_word.result _ _ (λ place h. h c.args.doc.store.now ∙ ap (next (page_items c.args.doc) c.args.at c.args.dir) (sym c.in-Word.is))
    c.next_word.ensures
