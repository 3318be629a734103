use Rattle.std.proofs.Common.{sym, ◌∙◌, true≢false}
use Rattle.ve_build_shape.proofs.ChangeLemmas.{never_remarked, item_kept, item_changed}
use Rattle.ve_build_shape.specs.Remarked.{marks_after}
use Rattle.ve_build_shape.proofs.remark.remarked.Goals as goal

pub returns-then-not-is_content_item-clause-means : goal.returns-then-not-is_content_item-clause-means
returns-then-not-is_content_item-clause-means c =
    let S = c.args.store.now in
    never_remarked S (marks_after c.args.remark c.args.mark.now) c.args.new.now c.args.item (sym (c.is_content_item.ensures S) ∙ c.if-not-is_content_item.true)

pub next_change-requires-clause-cites : goal.next_change-requires-clause-cites
next_change-requires-clause-cites c = (c.marks_id-marks.ensures c.args.store.now).1 c.requires.cites

pub returns-then-same_id-clause-means : goal.returns-then-same_id-clause-means
returns-then-same_id-clause-means c =
    let S = c.args.store.now in
    let may = sym (c.is_content_item.ensures S) ∙ c.if-not-is_content_item.false in
    item_kept S (marks_after c.args.remark c.args.mark.now) c.args.new.now c.next_change.new.new c.args.item c.marks_id-marks.result c.in_ok-change.change c.requires.cites may c.marks_id-marks.ensures
    c.in_ok-change.ensures.changes (c.same_id.ensures.0 c.if-same_id.true)

pub returns-clause-means : goal.returns-clause-means
returns-clause-means c =
    let S = c.args.store.now in
    let may = sym (c.is_content_item.ensures S) ∙ c.if-not-is_content_item.false in
    item_changed S (marks_after c.args.remark c.args.mark.now) c.args.new.now c.next_change.new.new c.args.item c.marks_id-marks.result c.in_ok-change.change c.requires.cites may c.marks_id-marks.ensures
    c.in_ok-change.ensures.changes c.with_marks.result (λ same. true≢false (sym (c.same_id.ensures.1 same) ∙ c.if-same_id.false)) c.in_ok-change.ensures.grows c.with_marks.ensures
