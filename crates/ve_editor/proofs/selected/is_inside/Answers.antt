use Rattle.std.proofs.Common.{◌≡◌, ◌≤◌, length, arith}
use Rattle.ve_editor.proofs.SelectedLemmas.{inside_is, outside_past}
use Rattle.ve_editor.proofs.selected.is_inside.Goals as goal

pub returns-then-at-len-clause-means : goal.returns-then-at-len-clause-means
returns-then-at-len-clause-means c = λ values.
    let len : c.len.result ≡ length c.args.doc.list.now.items = c.len.ensures in
    let past : c.len.result ≤ c.args.at = c.if-at-len.true in
    outside_past values c.args.doc.list.now.items c.args.at c.requires.links.lawful (omega (arith, len, past))

pub returns-clause-means : goal.returns-clause-means
returns-clause-means c = λ values. inside_is values c.args.doc.list.now.items c.args.at c.is_inside_leaf.result c.requires.links.lawful c.is_inside_leaf.ensures
