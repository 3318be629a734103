use borrow.Author.Tests.{eqb-true, eqb-false}
use Rattle.ve_html_scan.proofs.NameOrder.{was_among, was_not_among, one_longer}
use Rattle.std.proofs.Common.{length, ℕ, ◌+◌, subst, ◌-◌, ◌∙◌, sym, ap, arith, Err}
use Rattle.model_spelling.specs.declared.scan_fault.ScanFault.{ScanFault}
use Rattle.std.proofs.lemmas.Result.{err_from_is_err_and}
use Rattle.ve_html_scan.proofs.AttrWalk.{SoFar, so_far_begins, so_far_ends, so_far_ends_at_end, so_far_text, so_far_text_at_end, so_far_spelled, so_far_spelled_at_end, turn_bad_head, turn_many, turn_twice, turn_bad_value, turn_more, first_stays}
use Rattle.ve_html_scan.proofs.attrs.attrs_end.Goals as goal

pub loop-at-init : goal.loop-at-init
loop-at-init c = (rw c.clear.ensures (so_far_begins c.args.bytes.now c.args.tag c.args.from), c.requires, omega arith, λ lt. absurd (omega arith))

pub returns-in_err-name_to-clause-read : goal.returns-in_err-name_to-clause-read
returns-in_err-name_to-clause-read c =
    let p = err_from_is_err_and c.from_residual.result c.from_residual.ensures.1 in
    rw (p.1, p.2) (turn_bad_head c.args.bytes.now c.args.tag c.args.from c.loop-at.at (length c.loop-at.names) c.in_err-name_to.field-0.0 c.if-bytes-at-eq32.true c.in_err-name_to.ensures.read c.loop-at.invariant.0)

pub returns-then-is_full-clause-read : goal.returns-then-is_full-clause-read
returns-then-is_full-clause-read c =
    turn_many c.args.bytes.now c.args.tag c.args.from c.loop-at.at c.in_ok-name_to.name_to (length c.loop-at.names) _ c.if-bytes-at-eq32.true c.in_ok-name_to.ensures.read (eqb-true _ _ (sym c.is_full.ensures.value ∙ c.if-is_full.true)) c.loop-at.invariant.0
    ∙ sym (ap (λ (f : ScanFault). Err f) c.fault_at.ensures)

pub returns-then-not-insert-clause-read : goal.returns-then-not-insert-clause-read
returns-then-not-insert-clause-read c =
    turn_twice c.args.bytes.now c.args.tag c.args.from c.loop-at.at c.in_ok-name_to.name_to (length c.loop-at.names) _ c.if-bytes-at-eq32.true c.in_ok-name_to.ensures.read c.is_full.ensures.bound (eqb-false _ _ (sym c.is_full.ensures.value ∙ c.if-is_full.false))
    (was_among c.insert.result _ c.insert.ensures.added c.if-not-insert.true) c.loop-at.invariant.0
    ∙ sym (ap (λ (f : ScanFault). Err f) c.fault_at-then-not-insert.ensures)

pub returns-in_err-at-clause-read : goal.returns-in_err-at-clause-read
returns-in_err-at-clause-read c =
    let p = err_from_is_err_and c.from_residual-in_err-at.result c.from_residual-in_err-at.ensures.1 in
    rw (p.1, p.2) (turn_bad_value c.args.bytes.now c.args.tag c.args.from c.loop-at.at c.in_ok-name_to.name_to (length c.loop-at.names) c.in_err-at.field-0.0 c.if-bytes-at-eq32.true c.in_ok-name_to.ensures.read c.in_ok-name_to.ensures.bound.0 c.is_full.ensures.bound (eqb-false _ _ (sym c.is_full.ensures.value ∙ c.if-is_full.false))
    (was_not_among c.insert.result _ c.insert.ensures.added c.if-not-insert.false) (sym c.in_err-at.ensures.read) c.loop-at.invariant.0)

pub loop-at-preserved : goal.loop-at-preserved
loop-at-preserved c =
    let long = one_longer c.insert.result _ (length c.loop-at.names) c.insert.ensures.len c.if-not-insert.false in (
      subst (λ (n : ℕ). SoFar c.insert.new.self c.args.bytes.now c.args.tag c.args.from (c.in_ok-at.field-0 + 1) (256 - n)) (sym long) (turn_more c.args.bytes.now c.args.tag c.args.from c.loop-at.at c.in_ok-name_to.name_to (length c.loop-at.names) c.in_ok-at.field-0 c.if-bytes-at-eq32.true c.in_ok-name_to.ensures.read c.in_ok-name_to.ensures.bound.0 c.in_ok-name_to.ensures.end c.in_ok-name_to.ensures.equals c.is_full.ensures.bound (eqb-false _ _ (sym c.is_full.ensures.value ∙ c.if-is_full.false))
          (was_not_among c.insert.result _ c.insert.ensures.added c.if-not-insert.false) (sym c.in_ok-at.ensures.read) c.in_ok-at.ensures.close c.in_ok-at.ensures.bound.1 c.in_ok-name_to.ensures.mark c.insert.ensures.known c.loop-at.invariant.0),
      omega (arith, c.in_ok-at.ensures.bound),
      omega (arith, c.in_ok-at.ensures.bound, c.in_ok-name_to.ensures.bound),
      first_stays c.args.bytes.now c.args.from c.loop-at.at c.loop-at.invariant.2 c.if-bytes-at-eq32.true c.loop-at.invariant.3 _,
    )

pub returns-else-bytes-at-eq32-clause-read : goal.returns-else-bytes-at-eq32-clause-read
returns-else-bytes-at-eq32-clause-read c = so_far_ends c.args.bytes.now c.args.tag c.args.from c.loop-at.at (256 - (length c.loop-at.names)) c.if-bytes-at-eq32.false c.loop-at.invariant.0

pub returns-after-loop-at-clause-read : goal.returns-after-loop-at-clause-read
returns-after-loop-at-clause-read c = so_far_ends_at_end c.args.bytes.now c.args.tag c.args.from c.loop-at.at (256 - (length c.loop-at.names)) (omega arith) c.loop-at.invariant.0

pub returns-else-bytes-at-eq32-clause-text : goal.returns-else-bytes-at-eq32-clause-text
returns-else-bytes-at-eq32-clause-text c = so_far_text c.args.bytes.now c.args.tag c.args.from c.loop-at.at (256 - (length c.loop-at.names)) c.if-bytes-at-eq32.false c.loop-at.invariant.0

pub returns-after-loop-at-clause-text : goal.returns-after-loop-at-clause-text
returns-after-loop-at-clause-text c = so_far_text_at_end c.args.bytes.now c.args.tag c.args.from c.loop-at.at (256 - (length c.loop-at.names)) (omega arith) c.loop-at.invariant.0

pub returns-else-bytes-at-eq32-clause-spelled : goal.returns-else-bytes-at-eq32-clause-spelled
returns-else-bytes-at-eq32-clause-spelled c = so_far_spelled c.args.bytes.now c.args.tag c.args.from c.loop-at.at (256 - (length c.loop-at.names)) c.if-bytes-at-eq32.false c.loop-at.invariant.0

pub returns-after-loop-at-clause-spelled : goal.returns-after-loop-at-clause-spelled
returns-after-loop-at-clause-spelled c = so_far_spelled_at_end c.args.bytes.now c.args.tag c.args.from c.loop-at.at (256 - (length c.loop-at.names)) (omega arith) c.loop-at.invariant.0
