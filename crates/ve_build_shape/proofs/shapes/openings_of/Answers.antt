use Rattle.std.proofs.Common.{◌+◌, ◌++◌, [], ◌∷◌, take, sym, ap, ◌∙◌}
use Rattle.std.proofs.lemmas.List.{take_more}
use Rattle.model_edit.specs.declared.wrap_plan.Shape.{Shape}
use Rattle.ve_build_shape.proofs.ShapeLemmas.{openings_more}
use Rattle.ve_build_shape.proofs.shapes.openings_of.Goals as goal

pub loop-shape-preserved : goal.loop-shape-preserved
loop-shape-preserved c =
    let l = c.loop-shape in
    let shapes = c.args.shapes.now in
    let shape = c.shape-item.result in
    let made = c.in_ok-opening in
    openings_more c.args.store.now c.args.new.now l.new c.opening_of.new.new (take l.shape-index shapes) (take (l.shape-index + 1) shapes) shape l.openings made.opening
    (take_more shapes l.shape-index shape c.loop-shape-test.true ∙ ap (λ (s : Shape). take l.shape-index shapes ++ s ∷ []) (sym c.shape-item.is)) l.invariant c.opening_of.ensures.grows made.ensures.means made.ensures.cites made.ensures.values
    c.push.new.self c.in_ok-push.ensures.ok
