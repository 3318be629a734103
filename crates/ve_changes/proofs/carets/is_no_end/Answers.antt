use Rattle.std.proofs.Common.{◌≤◌, ◌<◌, length, arith}
use Rattle.ve_editor.proofs.SelectedLemmas.{inside_is}
use Rattle.ve_changes.proofs.CaretLemmas.{end_past, end_within}
use Rattle.ve_changes.proofs.carets.is_no_end.Goals as goal

pub returns-then-len-at : goal.returns-then-len-at
returns-then-len-at c =
    let past : length c.args.doc.list.now.items < c.args.at = omega (arith, c.if-len-at.true, c.len.ensures) in
    end_past c.args.doc.store.now c.args.doc.list.now.items c.args.at past

pub returns : goal.returns
returns c =
    let values = c.args.doc.store.now in
    let items = c.args.doc.list.now.items in
    let within : c.args.at ≤ length items = omega (arith, c.if-len-at.false, c.len.ensures) in
    end_within values items c.args.at c.is_inside_leaf.result within
    (inside_is values items c.args.at c.is_inside_leaf.result c.requires.doc.links.lawful c.is_inside_leaf.ensures)
