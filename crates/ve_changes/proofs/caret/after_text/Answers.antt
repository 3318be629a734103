use Rattle.std.proofs.Common.{◌≡◌, ◌-◌, ◌∙◌, None, Some, length, slice_get, subst, sym}
use Rattle.std.proofs.lemmas.Result.{IfOk-weaker}
use Rattle.ve_changes.proofs.TypedCaretLemmas.{text_of_last, text_of_none}
use Rattle.ve_changes.proofs.caret.after_text.Goals as goal

pub returns-in-Some : goal.returns-in-Some
returns-in-Some c =
    let last = subst (λ l. slice_get l (length l - 1) ≡ Some c.in-Some.tx.now) c.as_slice.ensures (sym c.in-Some.ensures.value) in
    IfOk-weaker c.after_inserted.result _ _ (λ at h values. h values ∙ text_of_last values c.args.entry.now.txs c.in-Some.tx.now last) c.after_inserted.ensures

pub returns-in-None : goal.returns-in-None
returns-in-None c =
    let none = subst (λ l. slice_get l (length l - 1) ≡ None) c.as_slice.ensures (sym c.in-None.ensures.value) in
    λ values. text_of_none values c.args.entry.now.txs none
