use Rattle.ve_write.proofs.SiblingLemmas.{char_outer, opening_outer, no_closing}
use Rattle.ve_write.specs.Told.{known_of}
use Rattle.ve_write.proofs.BeforeLemmas.{origin_at}
use Rattle.ve_write.proofs.ContentLemmas.{char_put, leaf_put, refers_at}
use Rattle.ve_write.proofs.content.put_inline.Goals as goal

pub change_cited-requires-clause-marks : goal.change_cited-requires-clause-marks
change_cited-requires-clause-marks c = c.requires.cites c.args.at _ c.in-Char.ensures

pub change_cited-requires-in-Opening-clause-marks : goal.change_cited-requires-in-Opening-clause-marks
change_cited-requires-in-Opening-clause-marks c = (c.requires.cites c.args.at _ c.in-Opening.ensures).1

pub put_inline_leaf-requires-clause-origin : goal.put_inline_leaf-requires-clause-origin
put_inline_leaf-requires-clause-origin c = origin_at c.args.page.store.now c.args.page.list.now.items c.args.at _ _ _ _ _ _ c.in-Opening.ensures

pub put_inline_leaf-requires-clause-head : goal.put_inline_leaf-requires-clause-head
put_inline_leaf-requires-clause-head c = (c.requires.cites c.args.at _ c.in-Opening.ensures).0

pub put_inline_leaf-requires-clause-refers : goal.put_inline_leaf-requires-clause-refers
put_inline_leaf-requires-clause-refers c = refers_at c.args.page.store.now c.args.page.list.now.items c.args.at _ _ _ _ _ _ c.requires.refers c.in-Opening.ensures

pub unreachable-requires : goal.unreachable-requires
unreachable-requires c = no_closing c.args.page.list.now.items c.args.at c.get.result _ _ c.get.ensures c.in-Closing.is c.requires.open

pub returns-in_ok-put_letter-in-Char-clause-opened :
    goal.returns-in_ok-put_letter-in-Char-clause-opened
returns-in_ok-put_letter-in-Char-clause-opened c = c.requires.cites c.args.at _ c.in-Char.ensures

pub returns-in_ok-put_letter-in-Char-clause-outer :
    goal.returns-in_ok-put_letter-in-Char-clause-outer
returns-in_ok-put_letter-in-Char-clause-outer c = char_outer c.args.page.list.now.items c.args.at c.get.result _ _ c.get.ensures c.in-Char.is

pub returns-in_ok-put_letter-in-Char-clause-text :
    goal.returns-in_ok-put_letter-in-Char-clause-text
returns-in_ok-put_letter-in-Char-clause-text c =
    char_put (known_of c.args.page) c.args.at c.in-Char.ch c.args.opened c.in-Char.marks c.args.out.now _ _ c.in-Char.ensures c.in_ok-change_cited-in-Char.ensures.text c.in_ok-put_letter-in-Char.ensures.text

pub returns-in_ok-put_inline_leaf-in-Opening-clause-opened :
    goal.returns-in_ok-put_inline_leaf-in-Opening-clause-opened
returns-in_ok-put_inline_leaf-in-Opening-clause-opened c = (c.requires.cites c.args.at _ c.in-Opening.ensures).1

pub returns-in_ok-put_inline_leaf-in-Opening-clause-outer :
    goal.returns-in_ok-put_inline_leaf-in-Opening-clause-outer
returns-in_ok-put_inline_leaf-in-Opening-clause-outer c =
    opening_outer c.args.page.list.now.items c.args.at c.get.result _ _ _ _ _ _ c.siblings_end-end.result c.after_siblings.result c.get.ensures c.in-Opening.is c.siblings_end-end.ensures.end c.after_siblings.ensures.follows

pub returns-in_ok-put_inline_leaf-in-Opening-clause-text :
    goal.returns-in_ok-put_inline_leaf-in-Opening-clause-text
returns-in_ok-put_inline_leaf-in-Opening-clause-text c =
    leaf_put (known_of c.args.page) c.args.at c.in-Opening.kind _ c.in-Opening.head c.in-Opening.marks _ _ c.args.opened c.siblings_end-end.result c.after_siblings.result c.args.out.now _ _
    c.in-Opening.ensures c.siblings_end-end.ensures.end c.after_siblings.ensures.follows c.in_ok-change_cited-in-Opening.ensures.text c.in_ok-put_inline_leaf-in-Opening.ensures.text
