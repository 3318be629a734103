use Rattle.ve_offsets.specs.Docs.{page_items}
use Rattle.ve_changes.proofs.AppliedLemmas.{searches_lent, searches_page, searches_on}
use Rattle.ve_changes.proofs.applied.search_at.Goals as goal

pub next-requires : goal.next-requires
next-requires c =
    searches_lent c.args.doc.store.now c.args.doc.list.now.items c.args.at c.attrs_at.result.now c.args.search c.attrs_at.ensures c.requires.search

pub returns-in-Retain-clause-here : goal.returns-in-Retain-clause-here
returns-in-Retain-clause-here c = c.new.ensures _

pub returns-in-Retain-clause-after : goal.returns-in-Retain-clause-after
returns-in-Retain-clause-after c = c.new.ensures _

pub returns-clause-here : goal.returns-clause-here
returns-clause-here c =
    searches_page c.args.doc.store.now c.args.doc.list.now.items c.args.at c.attrs_at.result.now c.next.result c.attrs_at.ensures c.next.ensures

pub returns-clause-after : goal.returns-clause-after
returns-clause-after c =
    searches_on (page_items c.args.doc) c.args.at c.args.op.now c.in-Attr.name c.in-Attr.to c.next.result c.in-Attr.is
    (searches_page c.args.doc.store.now c.args.doc.list.now.items c.args.at c.attrs_at.result.now c.next.result c.attrs_at.ensures c.next.ensures)
