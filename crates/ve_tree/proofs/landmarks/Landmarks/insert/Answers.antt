use Rattle.std.proofs.Common.{◌≡◌, ◌≤◌, length, sym, subst}
use Rattle.std.specs.Prelude.{insert}
use Rattle.ve_tree.specs.Landmarks.{LandmarkRow, IsShortened, HasOneMore}
use Rattle.ve_tree.proofs.LandmarkLemmas.{one_more}
use Rattle.ve_tree.proofs.landmarks.Landmarks.insert.Goals as goal

pub returns-clause-ok : goal.returns-clause-ok
returns-clause-ok c =
    let nodes : c.insert.new.self.items ≡ insert c.self.inside.nodes.items c.args.k c.args.n = c.in_ok-insert.ensures.items in
    let short : IsShortened c.self.inside.gaps.lens c.shorten.new.lens.lens c.args.k c.args.gap =
    subst (λ gaps. IsShortened gaps c.shorten.new.lens.lens c.args.k c.args.gap) c.reserve.ensures.lens c.shorten.ensures.lens in
    let gaps : c.put_in.new.self.lens ≡ insert c.shorten.new.lens.lens c.args.k c.args.gap = c.put_in.ensures.lens in
    let new : ◌≡◌ {A = LandmarkRow} (record { nodes = insert c.self.inside.nodes.items c.args.k c.args.n; gaps = insert c.shorten.new.lens.lens c.args.k c.args.gap })
    (record { nodes = c.insert.new.self.items; gaps = c.put_in.new.self.lens }) = λ i. record { nodes = (sym nodes) i; gaps = (sym gaps) i } in
    let among = subst (λ (row : LandmarkRow). c.args.k ≤ length row.nodes) (sym c.self.view_is) c.requires.among in
    subst (λ row. HasOneMore row (record { nodes = c.insert.new.self.items; gaps = c.put_in.new.self.lens }) c.args.k c.args.n c.args.gap) c.self.view_is
    (subst (λ row. HasOneMore (record { nodes = c.self.inside.nodes.items; gaps = c.self.inside.gaps.lens }) row c.args.k c.args.n c.args.gap) new
    (one_more c.self.inside.nodes.items c.self.inside.gaps.lens c.shorten.new.lens.lens c.args.k c.args.n c.args.gap c.self.invariant among short))
