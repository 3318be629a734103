use Rattle.std.proofs.Common.{◌<◌, ◌≤◌, length, sym, ap, ◌∙◌, arith}
use Rattle.ve_reader.specs.ReadSoFar.{rows_ended}
use Rattle.ve_reader.proofs.ReadLemmas.{row_set, row_past}
use Rattle.ve_reader.proofs.rows.end_row.Goals as goal

pub returns-then-place-len : goal.returns-then-place-len
returns-then-place-len c =
    let within : c.in-Some.number < length c.args.rows.now.items = omega (arith, c.if-place-len.true, c.len.ensures) in
    row_set c.args.rows.now.items c.in-Some.number c.args.to c.index_mut.result.now within c.index_mut.ensures.value
    ∙ ap (λ n. rows_ended n c.args.to c.args.rows.now.items) (sym c.in-Some.is)

pub returns-else-place-len : goal.returns-else-place-len
returns-else-place-len c =
    let past : length c.args.rows.now.items ≤ c.in-Some.number = omega (arith, c.if-place-len.false, c.len.ensures) in
    row_past c.args.rows.now.items c.in-Some.number c.args.to past ∙ ap (λ n. rows_ended n c.args.to c.args.rows.now.items) (sym c.in-Some.is)
