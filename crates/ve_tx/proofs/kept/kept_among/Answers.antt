use Rattle.std.proofs.Common.{sym, ◌∙◌}
use Rattle.ve_tx.proofs.KeptLemmas.{kept_setting}
use Rattle.ve_tx.proofs.kept.kept_among.Goals as goal

pub returns : goal.returns
returns c =
    kept_setting c.args.k c.args.ops.now c.args.kept.now c.index-ops-k.result c.requires c.if-k-kept.false c.index-ops-k.is
    (sym c.is_setting.ensures ∙ c.if-not-is_setting.false)
