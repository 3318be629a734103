use Rattle.std.proofs.Common.{◌∙◌}
use Rattle.ve_classify.proofs.FirstFits.{held_first}
use Rattle.ve_classify.proofs.PartLemmas.{group_count, single_count, other_held}
use Rattle.ve_classify.proofs.parts.part_end.Goals as goal

pub returns-then-is_held-clause-end : goal.returns-then-is_held-clause-end
returns-then-is_held-clause-end c = λ f at more s some.
    let held = held_first c.args.forest.now c.args.n at f more c.node.result.now c.in-StartTag.name c.in-StartTag.attrs c.in-StartTag.span c.is_held.result s some c.node.ensures c.in-StartTag.is c.is_held.ensures ∙ c.if-is_held.true in
    group_count f held c.group_end.result c.args.n (λ nodes later e. c.group_end.ensures.end f nodes later at more s e)

pub returns-else-is_held-clause-end : goal.returns-else-is_held-clause-end
returns-else-is_held-clause-end c = λ f at more s some.
    let held = held_first c.args.forest.now c.args.n at f more c.node.result.now c.in-StartTag.name c.in-StartTag.attrs c.in-StartTag.span c.is_held.result s some c.node.ensures c.in-StartTag.is c.is_held.ensures ∙ c.if-is_held.false in
    single_count c.args.forest.now c.args.n at f more c.node-else-is_held.result.now s some c.node-else-is_held.ensures held

pub returns-in_default : goal.returns-in_default
returns-in_default c = record {
  more = (c.requires.leads c.args.n c.node-in_default.result.now c.node-in_default.ensures).0;
  bound = (c.requires.leads c.args.n c.node-in_default.result.now c.node-in_default.ensures).1;
  end = λ f at more s some.
      single_count c.args.forest.now c.args.n at f more c.node-in_default.result.now s some c.node-in_default.ensures
      (other_held c.args.forest.now c.args.n at f more c.node.result.now s some c.node.ensures c.in_default.not-StartTag);
}
