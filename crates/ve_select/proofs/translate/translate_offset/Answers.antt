use Rattle.std.proofs.Common.{ap, ◌∙◌}
use Rattle.ve_select.specs.Passed.{passed_before}
use Rattle.ve_select.proofs.PassedLemmas.{passed-translated, total-bound}
use Rattle.ve_select.proofs.translate.translate_offset.Goals as goal

pub items_before-requires : goal.items_before-requires
items_before-requires c = rw c.ops.ensures.ops (total-bound c.args.tx.now c.ops.ensures.normal)

pub returns : goal.returns
returns c values =
    c.items_before.ensures ∙ (ap (passed_before c.args.bias c.args.offset 0) c.ops.ensures.ops ∙ passed-translated values c.args.bias c.args.offset 0 c.args.tx.now)
