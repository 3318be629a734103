use Rattle.std.proofs.Common.{sym, ap, arith, ◌∙◌, ◌<◌, length, refl}
use Rattle.std.proofs.lemmas.Option.{slice_get_within, slice_get_read}
use Rattle.ve_origin.specs.Rows.{carried_place}
use Rattle.ve_origin.proofs.RowLemmas.{found_row, none_found, same_row}
use Rattle.ve_origin.proofs.carried.carried_at.Goals as goal

pub returns-then-k-rows : goal.returns-then-k-rows
returns-then-k-rows c = λ rise.
    ap carried_place (sym (none_found c.args.rows.now c.args.at c.rows_before-k.result rise (c.rows_before-k.ensures.before rise) (c.rows_before-k.ensures.after rise)
    (λ s g. let within = slice_get_within c.args.rows.now c.rows_before-k.result s g in absurd (omega (arith, c.if-k-rows.true, within)))))

pub returns-then-row-at : goal.returns-then-row-at
returns-then-row-at c = λ rise.
    let less : c.rows_before-k.result < length c.args.rows.now = omega (arith, c.rows_before-k.ensures.bound, c.if-k-rows.false) in
    let found = slice_get_read c.args.rows.now (length c.args.rows.now) c.rows_before-k.result c.index-rows-k.result refl less c.index-rows-k.is in
    ap carried_place (sym (none_found c.args.rows.now c.args.at c.rows_before-k.result rise (c.rows_before-k.ensures.before rise) (c.rows_before-k.ensures.after rise)
    (λ s g e. c.if-row-at.true (same_row c.args.rows.now c.rows_before-k.result c.index-rows-k.result s found g ∙ e))))

pub returns : goal.returns
returns c = λ rise.
    let less : c.rows_before-k.result < length c.args.rows.now = omega (arith, c.rows_before-k.ensures.bound, c.if-k-rows.false) in
    let found = slice_get_read c.args.rows.now (length c.args.rows.now) c.rows_before-k.result c.index-rows-k.result refl less c.index-rows-k.is in
    c.carried_place.ensures ∙ ap carried_place (sym (found_row c.args.rows.now c.args.at c.rows_before-k.result c.index-rows-k.result found c.if-row-at.false (c.rows_before-k.ensures.before rise)))
