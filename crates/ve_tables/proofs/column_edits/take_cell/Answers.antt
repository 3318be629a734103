use Rattle.std.proofs.Common.{◌≡◌, ◌-◌, ℕ, codes, [], ◌∷◌, ap, ◌∙◌, subst, arith}
use Rattle.std.specs.Str.{chars}
use Rattle.std.proofs.lemmas.List.Elements.{All-nil}
use Rattle.model_items.specs.Plain.{plain_list, CitesWell}
use Rattle.model_edit.specs.Edits.{Edit, Change}
use Rattle.ve_tables.specs.PartWay.{Collects}
use Rattle.ve_tables.proofs.RowLemmas.{colspan_is}
use Rattle.ve_tables.proofs.PlaceLemmas.{removed_whole, removed_part}
use Rattle.ve_tables.proofs.PartWayLemmas.{change_gives, set_as}
use Rattle.ve_tables.proofs.column_edits.take_cell.Goals as goal

pub overflow_sub-to : goal.overflow_sub-to
overflow_sub-to c = omega (arith, c.requires.ahead, c.node_end-to.ensures.means)

pub returns-then-cell-eq1 : goal.returns-then-cell-eq1
returns-then-cell-eq1 c =
    let S = c.args.doc.store.now in
    let items = c.args.doc.list.now.items in
    let P = plain_list S items in
    let at = c.args.cell.at in
    subst (λ (e : Edit). Collects S items (e ∷ []) c.args.edits.now c.change.new.self)
    (ap (λ (n : ℕ). Change at (n - at) []) c.node_end-to.ensures.means ∙ removed_whole P c.args.cell c.if-cell-eq1.true)
    (change_gives S items at (c.node_end-to.result - at) [] c.args.edits.now c.change.new.self c.in_ok-change.ensures.at c.requires.cites (All-nil (CitesWell S)) c.in_ok-change.ensures.makes)

pub returns : goal.returns
returns c =
    let S = c.args.doc.store.now in
    let items = c.args.doc.list.now.items in
    let P = plain_list S items in
    let cell = c.args.cell in
    let same : cell.columns - 1 ≡ cell.columns - 1 = omega arith in
    subst (λ (e : Edit). Collects S items (e ∷ []) c.args.edits.now c.set_span.new.edits) (removed_part P cell c.if-cell-eq1.false)
    (set_as S items cell.at (chars (codes "colspan")) (codes "colspan") (cell.columns - 1) (cell.columns - 1) c.args.edits.now c.set_span.new.edits colspan_is same c.in_ok-set_span.ensures)
