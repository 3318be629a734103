use Rattle.std.proofs.Common.{◌≡◌, ◌≤◌, ◌∙◌, ap}
use Rattle.model_items.specs.Tree.{item_count}
use Rattle.ve_tree.specs.Named.{Named, unnumbered, heads}
use Rattle.ve_repair.specs.Plan.{script_stacks}
use Rattle.ve_repair.specs.Closing.{row_steps, outer_stacks, IsRowFrom}
use Rattle.ve_repair.proofs.ChangeLemmas.{on_ok}
use Rattle.ve_repair.proofs.RowLemmas.{row_outer}
use Rattle.ve_repair.proofs.close.keep_level.Goals as goal

pub returns-clause-outer : goal.returns-clause-outer
returns-clause-outer c =
    on_ok c.keep_rest.result
    ((f : Named) → IsRowFrom c.args.arena.now.slots c.args.first f → item_count (unnumbered f) ≤ c.args.most → c.keep_rest.new.plan.stacks ≡ script_stacks (row_steps f) c.args.plan.now.stacks)
    (outer_stacks c.keep_rest.new.plan.stacks ≡ outer_stacks c.args.plan.now.stacks)
    (λ h. ap outer_stacks (h c.requires.row.forest c.requires.row.row c.requires.row.room) ∙ row_outer (heads c.requires.row.forest) c.args.plan.now.stacks)
    c.keep_rest.ensures.stacks
