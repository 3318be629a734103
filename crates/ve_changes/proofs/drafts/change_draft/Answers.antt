use Rattle.std.proofs.Common.{◌≡◌, subst}
use Rattle.std.specs.Prelude.{IfErr}
use Rattle.model_edit.specs.Convert.{convert}
use Rattle.model_edit.specs.Insert.{split}
use Rattle.model_edit.specs.Marking.{marking, unmarking}
use Rattle.model_edit.specs.Remove.{removal}
use Rattle.model_world.specs.declared.edit_command.EditCommand.TheVariants as change
use Rattle.ve_offsets.specs.Docs.{page_items}
use Rattle.ve_changes.specs.declared.faults.ChangeStop.TheVariants as stop
use Rattle.ve_changes.specs.Drafts.{MayWantDraft}
use Rattle.ve_changes.proofs.WantLemmas.{attribute_ok, built_ok, no_want, wants}
use Rattle.ve_changes.proofs.drafts.change_draft.Goals as goal

pub returns-in-Text-clause-memory : goal.returns-in-Text-clause-memory
returns-in-Text-clause-memory c = rw c.in-Text.is c.typed.ensures.memory

pub returns-in-Remove-clause-memory : goal.returns-in-Remove-clause-memory
returns-in-Remove-clause-memory c =
    rw c.in-Remove.is (wants c.removal_draft.result _ _ (built_ok (removal (page_items c.args.doc) c.in-Remove.from c.in-Remove.to)) c.removal_draft.ensures.memory)

pub returns-in-Split-clause-memory : goal.returns-in-Split-clause-memory
returns-in-Split-clause-memory c =
    rw c.in-Split.is (wants c.split_draft.result _ _ (built_ok (split (page_items c.args.doc) c.in-Split.at c.in-Split.depth)) c.split_draft.ensures.memory)

pub returns-in-Mark-clause-memory : goal.returns-in-Mark-clause-memory
returns-in-Mark-clause-memory c =
    rw c.in-Mark.is (wants c.marking_draft.result _ _ (built_ok (marking (page_items c.args.doc) c.in-Mark.from c.in-Mark.to c.in-Mark.mark)) c.marking_draft.ensures.memory)

pub returns-in-Unmark-clause-memory : goal.returns-in-Unmark-clause-memory
returns-in-Unmark-clause-memory c =
    rw c.in-Unmark.is (wants c.unmarking_draft.result _ _ (built_ok (unmarking (page_items c.args.doc) c.in-Unmark.from c.in-Unmark.to c.in-Unmark.mark)) c.unmarking_draft.ensures.memory)

pub returns-in-Wrap-clause-memory : goal.returns-in-Wrap-clause-memory
returns-in-Wrap-clause-memory c = rw c.in-Wrap.is c.wrap_draft.ensures.memory

pub returns-in-Convert-clause-memory : goal.returns-in-Convert-clause-memory
returns-in-Convert-clause-memory c =
    rw c.in-Convert.is (wants c.conversion_draft.result _ _ (built_ok (convert (page_items c.args.doc) c.in-Convert.at c.in-Convert.kind)) c.conversion_draft.ensures.memory)

pub returns-in-Attr-clause-memory : goal.returns-in-Attr-clause-memory
returns-in-Attr-clause-memory c =
    rw c.in-Attr.is
    (wants c.attribute_draft.result _ _
    (attribute_ok (page_items c.args.doc) c.in-Attr.at c.in-Attr.name c.in-Attr.to c.as_str.result.now c.spelled.result c.as_str.ensures.chars c.spelled.ensures)
    c.attribute_draft.ensures.memory)

pub returns-in-Insert-clause-memory : goal.returns-in-Insert-clause-memory
returns-in-Insert-clause-memory c = rw c.in-Insert.is c.pasted_draft.ensures.memory

pub returns-in-Apply-clause-memory : goal.returns-in-Apply-clause-memory
returns-in-Apply-clause-memory c =
    rw c.in-Apply.is
    (subst (λ ops. IfErr c.applied_draft.result (λ why. why ≡ stop.Memory → MayWantDraft (page_items c.args.doc) (change.Apply ops))) c.as_slice.ensures c.applied_draft.ensures.memory)

pub returns-in-NoOrigin-clause-memory : goal.returns-in-NoOrigin-clause-memory
returns-in-NoOrigin-clause-memory c = no_want _ _
