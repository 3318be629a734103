use Rattle.std.proofs.Common.{[], ap, ◌∙◌, IsUtf8, sym, subst}
use Rattle.std.proofs.lemmas.Str.{IsUtf8-nil}
use Rattle.model_items.proofs.VerdictLemmas.{verdict_reads_no_values}
use Rattle.model_page_write.specs.PageText.{write}
use Rattle.model_world.specs.declared.reply.Reply.TheVariants as reply
use Rattle.ve_write.specs.Originals.{opened_over}
use Rattle.ve_offsets.specs.Docs.{page_items}
use Rattle.ve_answers.proofs.CiteLemmas.{cites_each}
use Rattle.ve_answers.proofs.PageLemmas.{page_told}
use Rattle.ve_answers.proofs.page.html.Goals as goal

pub write_knowing-requires-clause-cites : goal.write_knowing-requires-clause-cites
write_knowing-requires-clause-cites c = cites_each c.args.doc.store.now c.args.doc.list.now.items c.requires.cites

pub write_knowing-requires-clause-lawful : goal.write_knowing-requires-clause-lawful
write_knowing-requires-clause-lawful c = verdict_reads_no_values c.args.doc.store.now [] c.args.doc.list.now.items ∙ c.requires.doc.links.lawful

pub unreachable-requires : goal.unreachable-requires
unreachable-requires c =
    c.in_default.ensures.cases.0 (subst IsUtf8 (sym c.as_slice.ensures) (c.in_ok-write_knowing.ensures.utf8 (subst IsUtf8 (sym c.new-written.ensures) IsUtf8-nil)))

pub returns-clause-reply : goal.returns-clause-reply
returns-clause-reply c =
    ap reply.Page
    (page_told (write (opened_over c.args.doc.store.now c.args.origins.now) (page_items c.args.doc)) c.new-written.result c.write_knowing.new.out c.as_slice.result.now c.in-Ok.page.now c.in_ok-from_str.field-0
    c.new-written.ensures c.in_ok-write_knowing.ensures.ok c.as_slice.ensures c.in-Ok.ensures.cases.0 c.in_ok-from_str.ensures)
