use Rattle.std.proofs.Common.{map, ap, ◌∙◌}
use Rattle.model_site.specs.Replica.{all_filled}
use Rattle.ve_tx.specs.Operation.{by_value}
use Rattle.ve_editor.specs.Page.{LinkedPage}
use Rattle.ve_editor.specs.Trials.{Tried}
use Rattle.ve_editor.proofs.several.all_others.Goals as goal

pub returns-in-Ok-perform_others-clause-txs : goal.returns-in-Ok-perform_others-clause-txs
returns-in-Ok-perform_others-clause-txs g c =
    ap (λ (p : LinkedPage). map (by_value p.store) c.in-Ok-perform_others.kept) c.keep.ensures ∙ c.in-Ok-perform_others.ensures.txs
    ∙ ap (λ (t : Tried). all_filled (map (by_value c.args.values.now) c.args.txs.now) t.page.items) c.in-Ok.ensures.ok
