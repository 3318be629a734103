use Rattle.std.proofs.Common.{◌++◌, [], take, rules, arith, ap, ◌∙◌, sym}
use Rattle.std.proofs.lemmas.Option.{get_or_from_slice_get}
use Rattle.ve_items.specs.Blocks.{joined}
use Rattle.ve_items.proofs.Blocks.{joined_next}
use Rattle.ve_items.proofs.linear.Linear.copy.Goals as goal

pub loop-k-preserved : goal.loop-k-preserved
loop-k-preserved c =
    let blocks = c.self.inside.table.blocks in
    let block = c.block.result.now in
    record {
      items = c.in_ok-extend.ensures.ok
          ∙ ap (λ l. l ++ block) c.loop-k.invariant.items
          ∙ ap (λ l. joined (take c.loop-k.k blocks) ++ l) (sym (get_or_from_slice_get blocks c.loop-k.k block [] c.block.ensures))
          ∙ sym (joined_next blocks c.loop-k.k (search rules));
      spare = omega (arith, c.in_ok-extend.ensures.spare, c.loop-k.invariant.spare);
    }
