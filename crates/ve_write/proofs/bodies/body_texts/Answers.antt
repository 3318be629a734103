use Rattle.std.proofs.Common.{length, sym, ◌∙◌, arith, eqb-true}
use Rattle.model_items.specs.Plain.{plain_list}
use Rattle.ve_write.proofs.BodyLemmas.{no_texts}
use Rattle.ve_write.proofs.TextLemmas.{row_within, row_passed, row_put, texts_are}
use Rattle.ve_write.proofs.bodies.body_texts.Goals as goal
use Rattle.ve_write.proofs.bodies.body_texts.Goals.{in-Some+in_ok-body_text+in_ok-insert+in-Some-1, in-Some+in_ok-body_text+in_ok-insert+in-None-1, in_default}

pub returns-then-is_empty : goal.returns-then-is_empty
returns-then-is_empty c =
    let none = eqb-true (length c.as_slice.result.now) 0 (sym c.is_empty.ensures ∙ c.if-is_empty.true) in
    texts_are (plain_list c.args.store.now c.args.list.now.items) c.as_slice.result.now 0 c.new.result (c.as_slice.ensures ∙ c.requires.refs) (omega (arith, none)) (λ p. sym (no_texts c.new.result c.new.ensures.empty p))

pub loop-row-init : goal.loop-row-init
loop-row-init c = record {
  notes = c.notes_at-notes.ensures c.args.store.now;
  rows = c.as_slice-row-items.ensures ∙ c.requires.refs;
  texts = λ p. sym (no_texts c.new-texts.result c.new-texts.ensures.empty p);
}

pub body_text-requires-clause-within : goal.body_text-requires-clause-within
body_text-requires-clause-within c =
    row_within c.args.store.now c.args.list.now.items c.as_slice-row-items.result.now c.loop-row.row-index c.notes_at-notes.result c.row-item.result c.in-Some.at c.loop-row.invariant.rows c.loop-row-test.true c.row-item.is c.in-Some.ensures

pub loop-row-preserved : goal.loop-row-preserved
loop-row-preserved c =
    let items = plain_list c.args.store.now c.args.list.now.items in
    let rows = c.as_slice-row-items.result.now in
    let known = c.loop-row.invariant in
    elim c.match-carried_at.branch [
      | in-Some+in_ok-body_text+in_ok-insert+in-Some-1 w ↦ record {
        notes = known.notes;
        rows = known.rows;
        texts = row_put items rows c.loop-row.row-index c.notes_at-notes.result c.row-item.result w.in-Some.at w.in_ok-body_text.field-0 c.loop-row.texts w.insert.new.self c.match-carried_at.texts known.notes known.rows
            c.loop-row-test.true c.row-item.is w.in-Some.ensures w.in_ok-body_text.ensures w.in_ok-insert.ensures.updates w.texts-is known.texts;
      }
      | in-Some+in_ok-body_text+in_ok-insert+in-None-1 w ↦ record {
        notes = known.notes;
        rows = known.rows;
        texts = row_put items rows c.loop-row.row-index c.notes_at-notes.result c.row-item.result w.in-Some.at w.in_ok-body_text.field-0 c.loop-row.texts w.insert.new.self c.match-carried_at.texts known.notes known.rows
            c.loop-row-test.true c.row-item.is w.in-Some.ensures w.in_ok-body_text.ensures w.in_ok-insert.ensures.updates w.texts-is known.texts;
      }
      | in_default w ↦ record {
        notes = known.notes;
        rows = known.rows;
        texts = row_passed items rows c.loop-row.row-index c.notes_at-notes.result c.row-item.result c.loop-row.texts c.match-carried_at.texts known.notes c.loop-row-test.true c.row-item.is w.in_default.ensures w.texts-is known.texts;
      }
    ]

pub returns : goal.returns
returns c =
    texts_are (plain_list c.args.store.now c.args.list.now.items) c.as_slice-row-items.result.now c.loop-row.row-index c.loop-row.texts c.loop-row.invariant.rows c.loop-row-test.false c.loop-row.invariant.texts
