use Rattle.ve_store.specs.Following.{together}
use Rattle.ve_build_shape.proofs.shapes.brackets_of.Goals as goal

pub returns-clause-means : goal.returns-clause-means
returns-clause-means c =
    let V = together c.args.store.now c.openings_of.new.new in
    let made = c.in_ok-openings.ensures.made in
    record { openings = made.means; closings = c.in_ok-closings.ensures.means V; openings_cite = made.cites; closings_cite = c.in_ok-closings.ensures.cites V }
