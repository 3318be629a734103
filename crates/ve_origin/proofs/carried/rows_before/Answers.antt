use Rattle.std.proofs.Common.{ltb, rules}
use Rattle.std.proofs.lemmas.List.Sorted.{IsPartitionPoint-from_clause, IsPartitionedBy-ltb}
use Rattle.ve_origin.proofs.RowLemmas.{rise_by, rows_low, rows_high}
use Rattle.model_page.specs.declared.ref_table.RefRow.{RefRow}
use Rattle.ve_origin.proofs.carried.rows_before.Goals as goal

pub returns-clause-before : goal.returns-clause-before
returns-clause-before c = λ rise k r e less.
    let point = IsPartitionPoint-from_clause (λ (s : RefRow). ltb s.at c.args.at) c.args.rows.now _ c.partition_point.ensures.partitioned (IsPartitionedBy-ltb (λ (s : RefRow). s.at) _ c.args.at (rise_by _ rise)) (λ a r q k. search rules) in
    rows_low c.args.rows.now c.args.at _ point k r e less

pub returns-clause-after : goal.returns-clause-after
returns-clause-after c = λ rise k r e le.
    let point = IsPartitionPoint-from_clause (λ (s : RefRow). ltb s.at c.args.at) c.args.rows.now _ c.partition_point.ensures.partitioned (IsPartitionedBy-ltb (λ (s : RefRow). s.at) _ c.args.at (rise_by _ rise)) (λ a r q k. search rules) in
    rows_high c.args.rows.now c.args.at _ point k r e le
