use Rattle.std.proofs.Common.{◌≡◌, ◌-◌, ℕ, List, take, drop, sym, ap, ◌∙◌}
use Rattle.ve_classify.proofs.PartLemmas.{source_cuts, part_begins, source_by}
use Rattle.ve_classify.proofs.parts.part_source.Goals as goal

pub range-requires-clause-start_le_end : goal.range-requires-clause-start_le_end
range-requires-clause-start_le_end c = (source_cuts c.args.text.now c.args.forest.now c.args.n c.args.part.end c.args.part.byte c.node.result.now c.requires.part c.node.ensures).rises

pub range-requires-clause-start_boundary : goal.range-requires-clause-start_boundary
range-requires-clause-start_boundary c = λ _. (source_cuts c.args.text.now c.args.forest.now c.args.n c.args.part.end c.args.part.byte c.node.result.now c.requires.part c.node.ensures).first

pub range-requires-clause-end_boundary : goal.range-requires-clause-end_boundary
range-requires-clause-end_boundary c = (source_cuts c.args.text.now c.args.forest.now c.args.n c.args.part.end c.args.part.byte c.node.result.now c.requires.part c.node.ensures).last

pub returns : goal.returns
returns c = λ f at more s some p.
    let from = part_begins c.args.text.now c.args.forest.now c.args.n at f more c.node.result.now s some c.node.ensures in
    c.range.ensures.value
    ∙ ap (λ (i : ℕ). take (c.args.part.byte - i) (drop i c.args.text.now)) from
    ∙ source_by c.args.text.now c.args.forest.now c.args.n at f more c.args.part.end c.args.part.byte s p some
