use Rattle.std.proofs.Common.{◌++◌, rules, ap, ◌∙◌}
use Rattle.ve_items.proofs.Blocks.{rule_grown, rule_pushed}
use Rattle.ve_items.proofs.moves.put.Goals as goal

pub returns-then-together-le-MAX_BLOCK-clause-rule : goal.returns-then-together-le-MAX_BLOCK-clause-rule
returns-then-together-le-MAX_BLOCK-clause-rule c =
    rule_grown _ _ _ _ _ c.args.block c.in-Some.ensures.blocks c.push-then-together-le-MAX_BLOCK.ensures.blocks (c.append.ensures ∙ ap (λ l. c.in-Some.last ++ l) (search rules)) c.requires.rule (search rules)

pub returns-else-together-le-MAX_BLOCK-clause-rule : goal.returns-else-together-le-MAX_BLOCK-clause-rule
returns-else-together-le-MAX_BLOCK-clause-rule c =
    rule_pushed _ _ _ _ _ _ c.in-Some.ensures.blocks c.push-else-together-le-MAX_BLOCK.ensures.blocks c.push-else-together-le-MAX_BLOCK-2.ensures.blocks c.requires.rule c.requires.size (search rules)
