use Rattle.std.proofs.Common.{is_ok, inr, refl, sym, ap, ◌∙◌}
use Rattle.model_items.specs.Plain.{plain_list}
use Rattle.model_edit.specs.Causes.{BadRange, BadMark}
use Rattle.ve_edits.proofs.FollowingLemmas.{grows_itself}
use Rattle.ve_build_shape.proofs.RefusalLemmas.{unmarking-BadRange, unmarking-BadMark, unmarking-given}
use Rattle.ve_build_shape.proofs.mark.unmarking.Goals as goal

pub returns-then-is_bad_span-clause-refused : goal.returns-then-is_bad_span-clause-refused
returns-then-is_bad_span-clause-refused c =
    let S = c.args.doc.store.now in
    let P = plain_list S c.args.doc.list.now.items in
    inr (BadRange c.args.from c.args.to, unmarking-BadRange P c.args.from c.args.to c.args.mark.now (sym (c.is_bad_span.ensures.bad S) ∙ c.if-is_bad_span.true), refl)

pub returns-then-is_bad_span-clause-grows : goal.returns-then-is_bad_span-clause-grows
returns-then-is_bad_span-clause-grows c = grows_itself c.args.new.now

pub returns-then-is_bad_mark-clause-refused : goal.returns-then-is_bad_mark-clause-refused
returns-then-is_bad_mark-clause-refused c =
    let S = c.args.doc.store.now in
    let P = plain_list S c.args.doc.list.now.items in
    inr (
      BadMark,
      unmarking-BadMark P c.args.from c.args.to c.args.mark.now (sym (c.is_bad_span.ensures.bad S) ∙ c.if-is_bad_span.false) (sym c.is_bad_mark.ensures ∙ c.if-is_bad_mark.true),
      refl,
    )

pub returns-then-is_bad_mark-clause-grows : goal.returns-then-is_bad_mark-clause-grows
returns-then-is_bad_mark-clause-grows c = grows_itself c.args.new.now

pub returns-in-Ok-clause-means : goal.returns-in-Ok-clause-means
returns-in-Ok-clause-means c =
    let S = c.args.doc.store.now in
    let P = plain_list S c.args.doc.list.now.items in
    unmarking-given P c.args.from c.args.to c.args.mark.now (sym (c.is_bad_span.ensures.bad S) ∙ c.if-is_bad_span.false) (sym c.is_bad_mark.ensures ∙ c.if-is_bad_mark.false)
    ∙ c.in-Ok.ensures.means

pub returns-in-Err-clause-memory : goal.returns-in-Err-clause-memory
returns-in-Err-clause-memory c = λ _.
    let S = c.args.doc.store.now in
    let P = plain_list S c.args.doc.list.now.items in
    ap is_ok (unmarking-given P c.args.from c.args.to c.args.mark.now (sym (c.is_bad_span.ensures.bad S) ∙ c.if-is_bad_span.false) (sym c.is_bad_mark.ensures ∙ c.if-is_bad_mark.false))
