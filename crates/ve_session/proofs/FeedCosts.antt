-- What taking a feed counts is no more than a line may take.
use Rattle.std.proofs.Common.{◌≤◌, Bool, ◌||◌, List, [], ◌∷◌, length, ap, sym, subst, arith, append-nil}
use Rattle.std.specs.Prelude.{nat_le}
use Rattle.model_change.specs.Cost.{cost_of_transactions}
use Rattle.model_change.specs.Transaction.{Transaction}
use Rattle.model_site.specs.Entries.{Parcel}
use Rattle.model_site.specs.Made.{taking_all, taking_one}
use Rattle.model_site.specs.Session.{Ack, Foreign, Member, Session, SiteFeed}
use Rattle.model_site.specs.Site.{Site}
use Rattle.model_world.specs.declared.command.Request.TheVariants as request
use Rattle.model_world.specs.Cost.{takes_several, taking}
use Rattle.ve_editor.specs.Counted.{steps_over}
use Rattle.ve_site.specs.Taking.{steps_of_take}
use Rattle.ve_sites.specs.Turns.{steps_of_next, steps_of_turn}
use Rattle.ve_session.specs.Asked.{cost_completed}
use Rattle.ve_session.proofs.CostLemmas.{cost_of_made, over_within}

-- whether a turn at these feeds, which makes these transactions, is made on a trial
abbrev on_trial : List SiteFeed → List Transaction → Bool
on_trial feeds ts = takes_several feeds || nat_le 2 (length ts)

entries_within : (entries : List Parcel) (later : List SiteFeed) (s : Site) → steps_of_take (Foreign entries) s
    ≤ cost_of_made (on_trial (Foreign entries ∷ later) (taking_all entries s)) (taking_all entries s) s.replica.items
entries_within [] later s = omega arith
entries_within (one ∷ []) later s =
    subst (λ ts. steps_over (taking_one one s) s.replica.items ≤ cost_of_made (nat_le 2 (length ts)) ts s.replica.items)
    (sym (append-nil (taking_one one s)))
    (over_within (taking_one one s) s.replica.items)
entries_within (one ∷ other ∷ entries) later s = omega arith

pub take_within : (w : Session) (m : Member) → steps_of_turn m ≤ cost_completed w m request.Take
take_within w m = by m.feeds
  where
    by : (feeds : List SiteFeed) → steps_of_next feeds m.site
        ≤ cost_of_made (on_trial feeds (taking feeds m.site)) (taking feeds m.site) m.site.replica.items
    by [] = omega arith
    by (Ack accepted ∷ later) = omega arith
    by (Foreign entries ∷ later) = entries_within entries later m.site
