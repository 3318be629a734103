use Rattle.std.proofs.Common.{◌≡◌, ◌<◌, ◌-◌, suc, sym, ap, ◌∙◌, arith, rules}
use Rattle.model_items.specs.Tree.{class_at}
use Rattle.ve_tree.specs.IsTree.{unvalued}
use Rattle.ve_offsets.proofs.ClassLemmas.{item_decides_class}
use Rattle.ve_offsets.proofs.class.class_at.Goals as goal

pub returns : goal.returns
returns c =
    let items = c.args.doc.list.now.items in
    let some : 0 < c.args.o = search rules in
    let n : suc (c.args.o - 1) ≡ c.args.o = omega (arith, some) in
    c.class_after.ensures ∙ sym (item_decides_class items (c.args.o - 1) c.get.result c.requires.doc.links.lawful c.get.ensures) ∙ ap (class_at (unvalued items)) n
