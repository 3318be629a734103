use Rattle.std.proofs.Common.{◌≡◌, ◌-◌, ◌∙◌, length, rules, sym, subst, arith}
use Rattle.std.specs.Prelude.{slice_index_or, vec_len}
use Rattle.ve_tree.specs.Landmarks.{IsLandmarkBefore}
use Rattle.ve_tree.proofs.LandmarkLemmas.{before_gap, last_one}
use Rattle.ve_tree.proofs.landmarks.Landmarks.before.Goals as goal

pub returns-then-o-total : goal.returns-then-o-total
returns-then-o-total c =
    subst (λ row. IsLandmarkBefore row c.args.o c.index.result.now (c.args.o - c.find-next.result.1)) c.self.view_is
    (before_gap _ c.find-next.result.0 c.find-next.result.1 c.args.o c.index.result.now (omega (arith, c.if-next-eq0.false)) (omega (arith, c.self.invariant, c.find-next.ensures.among))
    (sym c.index.ensures) c.find-next.ensures.place)

pub returns : goal.returns
returns c =
    let long : vec_len c.self.inside.nodes ≡ length c.self.inside.nodes.items = search rules in
    let last : slice_index_or c.self.inside.nodes.items (length c.self.inside.nodes.items - 1) c.index-2.result.now ≡ c.index-2.result.now =
    subst (λ k. slice_index_or c.self.inside.nodes.items (k - 1) c.index-2.result.now ≡ c.index-2.result.now) (c.len-len.ensures ∙ long) (sym c.index-2.ensures) in
    subst (λ row. IsLandmarkBefore row c.args.o c.index-2.result.now c.total-2.result) c.self.view_is
    (subst (IsLandmarkBefore _ c.args.o c.index-2.result.now) (sym c.total-2.ensures)
    (last_one _ c.args.o c.index-2.result.now (omega (arith, long, c.len-len.ensures, c.if-len-eq0.false)) c.self.invariant last (omega (arith, c.total.ensures, c.if-o-total.false))))
