use Rattle.std.proofs.Common.{◌≡◌, sym, subst}
use Rattle.model_items.specs.Plain.{plain_list}
use Rattle.model_edit.specs.Next.{next}
use Rattle.ve_select.proofs.next.next_place.Goals as goal

pub returns-in_ok-place-in-Back : goal.returns-in_ok-place-in-Back
returns-in_ok-place-in-Back c values =
    subst (λ d. c.in_ok-place-in-Back.place ≡ next (plain_list values c.args.doc.list.now.items) c.args.offset d c.args.by) (sym c.in-Back.is)
    (c.in_ok-place-in-Back.ensures values)

pub returns-in_ok-place-in-Ahead : goal.returns-in_ok-place-in-Ahead
returns-in_ok-place-in-Ahead c values =
    subst (λ d. c.in_ok-place-in-Ahead.place ≡ next (plain_list values c.args.doc.list.now.items) c.args.offset d c.args.by) (sym c.in-Ahead.is)
    (c.in_ok-place-in-Ahead.ensures values)
