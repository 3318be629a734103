use Rattle.std.proofs.Common.{◌≡◌, ◌+◌, ◌∙◌, ap, arith}
use Rattle.std.specs.List.{slice_get}
use Rattle.ve_origin.proofs.AlikeLemmas.{ranges_join}
use Rattle.ve_origin.proofs.compare.alike_after.Goals as goal

pub returns-clause-same : goal.returns-clause-same
returns-clause-same c =
    let min = c.min-n.ensures in
    ranges_join c.args.now.now.items c.args.first.now.items c.args.from c.args.place c.min-n.result c.alike.result
    (c.reach.ensures c.args.now.now.items c.args.first.now.items c.min-n.result c.requires.known (omega (arith, min)))
    c.alike.ensures.same

pub returns-clause-differ : goal.returns-clause-differ
returns-clause-differ c = λ less e.
    let min = c.min-n.ensures in
    let here : c.args.from + c.min-n.result + c.alike.result ≡ c.args.from + (c.min-n.result + c.alike.result) = omega arith in
    let there : c.args.place + (c.min-n.result + c.alike.result) ≡ c.args.place + c.min-n.result + c.alike.result = omega arith in
    c.alike.ensures.differ (omega (arith, less, min)) (ap (slice_get c.args.now.now.items) here ∙ e ∙ ap (slice_get c.args.first.now.items) there)
