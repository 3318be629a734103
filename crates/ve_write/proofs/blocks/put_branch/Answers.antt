use Rattle.std.proofs.Common.{refl}
use Rattle.ve_write.proofs.SiblingLemmas.{opening_outer}
use Rattle.ve_write.specs.Told.{known_of}
use Rattle.ve_write.proofs.BeforeLemmas.{before_inside}
use Rattle.ve_write.proofs.BlockLemmas.{branch_put, no_list}
use Rattle.ve_write.proofs.blocks.put_branch.Goals as goal

pub put_opening-requires-clause-head : goal.put_opening-requires-clause-head
put_opening-requires-clause-head c = (c.requires.cites c.args.at _ c.requires.item.3).0

pub put_opening-requires-clause-white : goal.put_opening-requires-clause-white
put_opening-requires-clause-white c = (c.requires.cites c.args.at _ c.requires.item.3).2

pub put_content-requires-clause-before : goal.put_content-requires-clause-before
put_content-requires-clause-before c =
    let e = c.requires.item in
    before_inside c.args.page.store.now c.args.page.list.now.items c.args.page.first c.args.at c.args.element.kind _ _ _ _ _ c.requires.before e.3 (no_list c.args.element.kind _ refl c.requires.branch)

pub put_closing-requires : goal.put_closing-requires
put_closing-requires c = c.after_siblings-after.ensures.cites c.args.page.store.now c.requires.cites

pub returns-clause-outer : goal.returns-clause-outer
returns-clause-outer c =
    opening_outer c.args.page.list.now.items c.args.at _ _ _ _ _ _ _ c.in_ok-end.end c.after_siblings-after.result c.requires.item.3 refl c.in_ok-end.ensures.ends c.after_siblings-after.ensures.follows

pub returns-clause-text : goal.returns-clause-text
returns-clause-text c =
    let e = c.requires.item in
    branch_put (known_of c.args.page) c.args.at c.args.element.kind e.0 c.args.element.head e.1 c.args.element.pre e.2 c.args.before c.in_ok-bare.bare
    c.in_ok-end.end c.after_siblings-after.result c.args.out.now _ _ _ e.3 c.requires.branch c.requires.afresh c.in_ok-end.ensures.ends c.after_siblings-after.ensures.follows c.in_ok-bare.ensures
    c.in_ok-put_opening.ensures.text c.in_ok-end.ensures.text c.in_ok-put_closing.ensures.text
