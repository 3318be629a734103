use Rattle.std.proofs.Common.{◌≡◌, ℕ, suc, ◌+◌, ◌<◌, ◌≤◌, length, get_or, slice_set, ap, ◌∙◌, arith}
use Rattle.ve_origin.specs.declared.origin.OriginRow.{OriginRow}
use Rattle.ve_read.proofs.RowLemmas.{moved_first, moved_count, moved_next, moved_all}
use Rattle.ve_read.proofs.moved_rows.rows_in_page.Goals as goal

pub loop-k-preserved : goal.loop-k-preserved
loop-k-preserved c =
    let from : ℕ = c.args.from in
    let k : ℕ = c.loop-k.k in
    let row : OriginRow = c.index.result.now in
    let count = moved_count from k c.args.table in
    let within : k < length c.args.table = omega (arith, count, ap length c.loop-k.invariant, c.loop-k-test.true, c.len.ensures) in
    let found : row ≡ get_or (moved_first from k c.args.table) k row = c.index.ensures ∙ ap (λ rows. get_or rows k row) c.loop-k.invariant in
    let next : suc k ≡ k + 1 = omega arith in
    (λ j. slice_set (c.loop-k.invariant j) k (c.in_ok-rows.ensures j))
    ∙ moved_next from k c.args.table row within found
    ∙ ap (λ n. moved_first from n c.args.table) next

pub returns : goal.returns
returns c =
    let count = moved_count c.args.from c.loop-k.k c.args.table in
    let past : length c.args.table ≤ c.loop-k.k = omega (arith, count, ap length c.loop-k.invariant, c.loop-k-test.false, c.len.ensures) in
    c.from_vec.ensures ∙ c.loop-k.invariant ∙ moved_all c.args.from c.loop-k.k c.args.table past
