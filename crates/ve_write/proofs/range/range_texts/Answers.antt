use Rattle.std.proofs.Common.{sym, ◌∙◌, arith}
use Rattle.model_items.specs.Plain.{plain_list}
use Rattle.ve_write.specs.BodyTexts.{carried_outside}
use Rattle.ve_write.specs.Range.{stands_in}
use Rattle.ve_write.proofs.BodyLemmas.{no_texts}
use Rattle.ve_write.proofs.TextLemmas.{row_within}
use Rattle.ve_write.proofs.RangeLemmas.{none_are, nothing_yet, row_added, row_skipped, rows_are, some_inside}
use Rattle.ve_write.proofs.range.range_texts.Goals as goal
use Rattle.ve_write.proofs.range.range_texts.Goals.{in-Some+in_ok-body_text+in_ok-insert+in-Some-1, in-Some+in_ok-body_text+in_ok-insert+in-None-1, in_default}

pub returns-then-not-some_stand_in : goal.returns-then-not-some_stand_in
returns-then-not-some_stand_in c =
    none_are (plain_list c.args.store.now c.args.list.now.items) c.args.from c.args.to c.as_slice.result.now c.new.result (c.as_slice.ensures ∙ c.requires.refs) (sym c.some_stand_in.ensures ∙ c.if-not-some_stand_in.true)
    (no_texts c.new.result c.new.ensures.empty)

pub loop-row-init : goal.loop-row-init
loop-row-init c = record {
  notes = c.notes_at-notes.ensures c.args.store.now;
  rows = c.as_slice-row-items.ensures ∙ c.requires.refs;
  texts = nothing_yet (plain_list c.args.store.now c.args.list.now.items) c.args.from c.args.to c.as_slice-row-items.result.now c.new-texts.result (no_texts c.new-texts.result c.new-texts.ensures.empty);
}

pub body_text-requires-clause-within : goal.body_text-requires-clause-within
body_text-requires-clause-within c =
    let row = c.row-item.result in
    let notes = c.notes_at-notes.result in
    row_within c.args.store.now c.args.list.now.items c.as_slice-row-items.result.now c.loop-row.row-index notes row c.in-Some.at c.loop-row.invariant.rows c.loop-row-test.true c.row-item.is
    (sym (some_inside (stands_in c.args.from c.args.to row.at) (carried_outside notes row) c.in-Some.at c.in-Some.ensures.carried).1)

pub loop-row-preserved : goal.loop-row-preserved
loop-row-preserved c =
    let items = plain_list c.args.store.now c.args.list.now.items in
    let rows = c.as_slice-row-items.result.now in
    let known = c.loop-row.invariant in
    elim c.match-carried_in.branch [
      | in-Some+in_ok-body_text+in_ok-insert+in-Some-1 w ↦ record {
        notes = known.notes;
        rows = known.rows;
        texts = row_added items c.args.from c.args.to rows c.loop-row.row-index c.notes_at-notes.result c.row-item.result w.in-Some.at w.in_ok-body_text.field-0 c.loop-row.texts w.insert.new.self c.match-carried_in.texts known.notes known.rows
            c.loop-row-test.true c.row-item.is w.in-Some.ensures.carried w.in_ok-body_text.ensures w.in_ok-insert.ensures.updates w.texts-is known.texts;
      }
      | in-Some+in_ok-body_text+in_ok-insert+in-None-1 w ↦ record {
        notes = known.notes;
        rows = known.rows;
        texts = row_added items c.args.from c.args.to rows c.loop-row.row-index c.notes_at-notes.result c.row-item.result w.in-Some.at w.in_ok-body_text.field-0 c.loop-row.texts w.insert.new.self c.match-carried_in.texts known.notes known.rows
            c.loop-row-test.true c.row-item.is w.in-Some.ensures.carried w.in_ok-body_text.ensures w.in_ok-insert.ensures.updates w.texts-is known.texts;
      }
      | in_default w ↦ record {
        notes = known.notes;
        rows = known.rows;
        texts = row_skipped items c.args.from c.args.to rows c.loop-row.row-index c.notes_at-notes.result c.row-item.result c.loop-row.texts c.match-carried_in.texts known.notes c.loop-row-test.true c.row-item.is
            w.in_default.ensures.carried w.texts-is known.texts;
      }
    ]

pub returns : goal.returns
returns c =
    rows_are (plain_list c.args.store.now c.args.list.now.items) c.args.from c.args.to c.as_slice-row-items.result.now c.loop-row.row-index c.loop-row.texts c.loop-row.invariant.rows (omega (arith, c.loop-row-test.false)) c.loop-row.invariant.texts
