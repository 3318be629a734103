use Rattle.std.proofs.Common.{subst, arith}
use Rattle.ve_tree.specs.Landmarks.{IsCut, Stay}
use Rattle.ve_tree.proofs.CloseLemmas.{landmarks_cut}
use Rattle.ve_tree.proofs.landmarks.Landmarks.cut.Goals as goal

pub returns : goal.returns
returns c =
    let low = c.staying-low.result in
    let high = c.max-high.result in
    let stay : Stay c.self.inside.nodes.items c.self.inside.gaps.lens c.args.root c.args.from low =
    subst (λ nodes. Stay nodes c.self.inside.gaps.lens c.args.root c.args.from low) c.deref.ensures.value c.staying-low.ensures in
    subst (λ row. IsCut row (record { nodes = c.cut_out.new.nodes.items; gaps = c.close_up.new.lens.lens }) c.args.root c.args.from c.args.to c.args.len) c.self.view_is
    (landmarks_cut c.self.inside.nodes.items c.cut_out.new.nodes.items c.self.inside.gaps.lens c.close_up.new.lens.lens c.args.root c.args.from c.args.to c.args.len low high c.ends_before.result c.max.result
    c.self.invariant c.requires.order stay c.ends_before.ensures (omega (arith, c.max.ensures)) (omega (arith, c.max.ensures)) (omega (arith, c.max-high.ensures)) (omega (arith, c.max-high.ensures))
    (omega (arith, c.max-high.ensures, stay.among, c.ends_before.ensures.among)) c.cut_out.ensures c.close_up.ensures)
