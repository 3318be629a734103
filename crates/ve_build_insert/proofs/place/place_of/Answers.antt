use Rattle.std.proofs.Common.{option_map, sym, ap, ◌∙◌}
use Rattle.model_items.specs.Plain.{plain_list}
use Rattle.ve_build_insert.specs.Placed.{framed}
use Rattle.ve_build_insert.proofs.PlaceLemmas.{none_mixed, placed_by, none_of}
use Rattle.ve_build_insert.proofs.place.place_of.Goals as goal

pub returns-then-is_mixed-clause-means : goal.returns-then-is_mixed-clause-means
returns-then-is_mixed-clause-means c = λ values.
    sym (none_mixed c.args.state.now.stack (plain_list values c.args.pieces.now) (sym (c.is_mixed.ensures values) ∙ c.if-is_mixed.true))

pub returns-in_default-clause-means : goal.returns-in_default-clause-means
returns-in_default-clause-means c = λ values.
    let pieces = plain_list values c.args.pieces.now in
    let items = framed c.wants_paragraph-paragraph.result pieces in
    ap (option_map (λ levels. (items, levels))) (sym (none_of c.levels_up.result c.in_default.not-Some))
    ∙ placed_by c.args.state.now.stack pieces items c.innermost.result c.levels_up.result
    (sym (c.is_mixed.ensures values) ∙ c.if-is_mixed.false) c.innermost.ensures (ap (λ b. framed b pieces) (c.wants_paragraph-paragraph.ensures values)) (c.levels_up.ensures.means values)

pub returns-clause-means : goal.returns-clause-means
returns-clause-means c = λ values.
    let pieces = plain_list values c.args.pieces.now in
    let items = framed c.wants_paragraph-paragraph.result pieces in
    ap (option_map (λ levels. (items, levels))) (sym c.in-Some.is)
    ∙ placed_by c.args.state.now.stack pieces items c.innermost.result c.levels_up.result
    (sym (c.is_mixed.ensures values) ∙ c.if-is_mixed.false) c.innermost.ensures (ap (λ b. framed b pieces) (c.wants_paragraph-paragraph.ensures values)) (c.levels_up.ensures.means values)
