use Rattle.std.specs.Prelude.{slice_get}
use Rattle.std.proofs.Common.{◌≡◌, ℕ, Option, Some, subst, ap, ◌∙◌}
use Rattle.ve_select.proofs.NextLemmas.{back_by}
use Rattle.ve_select.proofs.next.next_back.Goals as goal

pub returns-in_ok-place-in-Char : goal.returns-in_ok-place-in-Char
returns-in_ok-place-in-Char c values =
    let items = c.args.doc.list.now.items in
    c.in_ok-place-in-Char.ensures values
    ∙ back_by values items c.args.by c.args.offset c.get.result _
    (subst (λ n. slice_get items n ≡ Some c.get.result) c.saturating_sub-before.ensures c.get.ensures) c.in-Char.is

pub returns-in-Opening : goal.returns-in-Opening
returns-in-Opening c values =
    let items = c.args.doc.list.now.items in
    back_by values items c.args.by c.args.offset c.get.result _
    (subst (λ n. slice_get items n ≡ Some c.get.result) c.saturating_sub-before.ensures c.get.ensures) c.in-Opening.is

pub returns-in-Closing : goal.returns-in-Closing
returns-in-Closing c values =
    let items = c.args.doc.list.now.items in
    let some : ℕ → Option ℕ = λ n. Some n in
    ap some c.saturating_sub.ensures
    ∙ back_by values items c.args.by c.args.offset c.get.result _
    (subst (λ n. slice_get items n ≡ Some c.get.result) c.saturating_sub-before.ensures c.get.ensures) c.in-Closing.is
