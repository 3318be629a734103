use Rattle.std.proofs.Common.{◌≡◌, ◌<◌, ◌-◌, suc, sym, ap, ◌∙◌, arith, rules}
use Rattle.model_items.specs.Tree.{class_at}
use Rattle.ve_tree.specs.IsTree.{unvalued}
use Rattle.ve_offsets.proofs.ClassLemmas.{item_decides_class}
use Rattle.ve_offsets.proofs.nearest.class_in_list.Goals as goal

pub returns-clause-class : goal.returns-clause-class
returns-clause-class c =
    let some : 0 < c.args.o = search rules in
    let n : suc (c.args.o - 1) ≡ c.args.o = omega (arith, some) in
    c.class_after.ensures ∙ sym (item_decides_class c.args.items.now (c.args.o - 1) c.get.result c.requires.lawful c.get.ensures.item) ∙ ap (class_at (unvalued c.args.items.now)) n
