use Rattle.std.proofs.Common.{◌≡◌, ℕ, Bool, true, false, slice_get, sym, ap, ◌∙◌, arith}
use Rattle.model_items.specs.Offsets.{passes}
use Rattle.model_items.specs.Plain.{plain_list}
use Rattle.model_edit.specs.Marking.{is_full_for}
use Rattle.ve_edits.proofs.BracketLemmas.{slice_get-plain, cites_there}
use Rattle.ve_build_shape.proofs.RefusalLemmas.{find_here, find_on, find_none}
use Rattle.ve_build_shape.proofs.mark.first_full.Goals as goal

pub is_full-requires : goal.is_full-requires
is_full-requires c = cites_there c.args.doc.store.now c.args.doc.list.now.items c.loop-at.at c.get.result c.requires.cites c.get.ensures

pub returns-then-is_full : goal.returns-then-is_full
returns-then-is_full c =
    let S = c.args.doc.store.now in
    let items = c.args.doc.list.now.items in
    let at = c.loop-at.at in
    let full : ℕ → Bool = λ at. passes (is_full_for c.args.mark.now) (slice_get (plain_list S items) at) in
    let here : full at ≡ true = ap (passes (is_full_for c.args.mark.now)) (slice_get-plain S items at c.get.result c.get.ensures) ∙ sym c.is_full.ensures ∙ c.if-is_full.true in
    sym (c.loop-at.invariant ∙ find_here full at c.args.to c.loop-at-test.true here)

pub loop-at-preserved : goal.loop-at-preserved
loop-at-preserved c =
    let S = c.args.doc.store.now in
    let items = c.args.doc.list.now.items in
    let at = c.loop-at.at in
    let full : ℕ → Bool = λ at. passes (is_full_for c.args.mark.now) (slice_get (plain_list S items) at) in
    let here : full at ≡ false = ap (passes (is_full_for c.args.mark.now)) (slice_get-plain S items at c.get.result c.get.ensures) ∙ sym c.is_full.ensures ∙ c.if-is_full.false in
    c.loop-at.invariant ∙ find_on full at c.args.to c.loop-at-test.true here

pub returns : goal.returns
returns c =
    let full : ℕ → Bool = λ at. passes (is_full_for c.args.mark.now) (slice_get (plain_list c.args.doc.store.now c.args.doc.list.now.items) at) in
    sym (c.loop-at.invariant ∙ find_none full c.loop-at.at c.args.to (omega (arith, c.loop-at-test.false)))
