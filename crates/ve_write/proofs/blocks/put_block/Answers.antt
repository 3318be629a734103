use Rattle.std.proofs.Common.{sym, ◌∙◌}
use Rattle.ve_write.proofs.SiblingLemmas.{char_outer, opening_outer, no_closing}
use Rattle.ve_write.specs.Told.{known_of}
use Rattle.ve_write.proofs.BlockLemmas.{nests_found, char_block, single_put}
use Rattle.ve_write.proofs.ContentLemmas.{refers_at}
use Rattle.ve_write.proofs.blocks.put_block.Goals as goal

pub put_white-requires : goal.put_white-requires
put_white-requires c = (c.requires.cites c.args.at _ c.in-Opening.ensures).2

pub put_single-requires-clause-cites : goal.put_single-requires-clause-cites
put_single-requires-clause-cites c = (c.requires.cites c.args.at _ c.in-Opening.ensures).0

pub put_single-requires-clause-refers : goal.put_single-requires-clause-refers
put_single-requires-clause-refers c = refers_at c.args.page.store.now c.args.page.list.now.items c.args.at _ _ _ _ _ _ c.requires.refers c.in-Opening.ensures

pub unreachable-requires : goal.unreachable-requires
unreachable-requires c = no_closing c.args.page.list.now.items c.args.at c.get.result _ _ c.get.ensures c.in-Closing.is c.requires.open

pub returns-in_ok-put_letter-in-Char-clause-outer :
    goal.returns-in_ok-put_letter-in-Char-clause-outer
returns-in_ok-put_letter-in-Char-clause-outer c = char_outer c.args.page.list.now.items c.args.at c.get.result _ _ c.get.ensures c.in-Char.is

pub returns-in_ok-put_letter-in-Char-clause-text :
    goal.returns-in_ok-put_letter-in-Char-clause-text
returns-in_ok-put_letter-in-Char-clause-text c = char_block (known_of c.args.page) c.args.at c.in-Char.ch _ c.args.before c.args.out.now _ c.in-Char.ensures c.in_ok-put_letter-in-Char.ensures.text

pub returns-in_ok-put_single-in-Opening-clause-outer :
    goal.returns-in_ok-put_single-in-Opening-clause-outer
returns-in_ok-put_single-in-Opening-clause-outer c =
    opening_outer c.args.page.list.now.items c.args.at c.get.result _ _ _ _ _ _ c.siblings_end-end.result c.after_siblings.result c.get.ensures c.in-Opening.is c.siblings_end-end.ensures.end c.after_siblings.ensures.follows

pub returns-in_ok-put_single-in-Opening-clause-text :
    goal.returns-in_ok-put_single-in-Opening-clause-text
returns-in_ok-put_single-in-Opening-clause-text c =
    single_put (known_of c.args.page) c.args.at c.in-Opening.kind _ c.in-Opening.head _ c.in-Opening.pre _ c.args.before c.siblings_end-end.result c.after_siblings.result c.args.out.now _ _
    c.in-Opening.ensures (sym c.is_content_branch.ensures ∙ c.if-is_content_branch.false) (sym (nests_found c.args.page.list.now.items c.args.at _ c.in-Opening.ensures) ∙ c.requires.nests) c.requires.afresh
    c.siblings_end-end.ensures.end c.after_siblings.ensures.follows c.in_ok-put_white-in-Opening.ensures.text c.in_ok-put_single-in-Opening.ensures.text
