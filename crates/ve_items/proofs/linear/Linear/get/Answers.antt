use Rattle.std.proofs.Common.{ap, ◌∙◌, sym}
use Rattle.std.specs.List.{slice_get}
use Rattle.ve_items.proofs.PositionLemmas.{item_at}
use Rattle.ve_items.proofs.linear.Linear.get.Goals as goal

pub returns : goal.returns
returns c =
    ap (λ row. slice_get row.items c.args.at) (sym c.self.view_is)
    ∙ item_at c.self.inside.table.blocks c.block.result.now c.args.at c.find-k.result.0 c.find-k.result.1 _ c.find-k.ensures c.block.ensures
