use Rattle.std.proofs.Common.{◌≤◌, ◌^◌, [], sym, subst}
use Rattle.ve_tx.specs.Normal.{total_size}
use Rattle.ve_rebase.proofs.ReadLemmas.{total-within}
use Rattle.ve_rebase.proofs.PairLemmas.{normal_by}
use Rattle.ve_rebase.proofs.join.reshaped.Goals as goal

pub inserted_count-requires : goal.inserted_count-requires
inserted_count-requires c = subst (λ ops. total_size ops ≤ 2 ^ 60) (sym c.ops.ensures.ops) (total-within c.args.tx.now (c.ops.ensures.normal []))

pub with_ends-requires : goal.with_ends-requires
with_ends-requires c = record {
  normal = λ values. normal_by values c.args.tx.now c.args.span c.ops.result.now c.old_size.result c.inserted_count.result (c.requires.stands values) c.old_size.ensures
      c.inserted_count.ensures.count c.ops.ensures.ops c.if-total-gt-MAX_TOTAL_LENGTH.false;
}
