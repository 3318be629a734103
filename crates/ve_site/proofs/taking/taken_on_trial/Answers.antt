use Rattle.std.proofs.Common.{◌≤◌, ◌+◌, length, map, ap, ◌∙◌, subst, sym}
use Rattle.model_change.specs.Cost.{cost_of_transactions}
use Rattle.model_change.specs.Replay.{AllRun, flattened}
use Rattle.model_site.specs.Made.{taking_all}
use Rattle.model_site.specs.Site.{pending}
use Rattle.model_site.specs.Take.{take_foreign}
use Rattle.ve_tx.specs.ByValue.{parcel_by_value}
use Rattle.ve_editor.specs.Page.{LinkedPage, replica_of}
use Rattle.ve_editor.specs.Trials.{Tried}
use Rattle.ve_site.specs.Ground.{ground_of}
use Rattle.ve_site.specs.Underway.{IsRest, rest_site}
use Rattle.ve_site.proofs.taking.taken_on_trial.Goals as goal

pub take_all-taken-requires-clause-is : goal.take_all-taken-requires-clause-is
take_all-taken-requires-clause-is g c = subst (λ (t : Tried). IsRest (replica_of t.page) c.args.rest) (sym c.in-Ok.ensures.ok) c.requires.is

pub take_all-taken-requires-clause-run : goal.take_all-taken-requires-clause-run
take_all-taken-requires-clause-run g c =
    subst (λ (t : Tried). AllRun (flattened (map parcel_by_value c.args.parcels.now)) (ground_of (rest_site (replica_of t.page) c.args.rest))) (sym c.in-Ok.ensures.ok) c.requires.run

pub returns-in-Ok-taken-clause-site : goal.returns-in-Ok-taken-clause-site
returns-in-Ok-taken-clause-site g c =
    ap (λ (p : LinkedPage). rest_site (replica_of p) c.take_all-taken.new.self.rest) c.keep.ensures ∙ c.in-Ok-taken.ensures.site
    ∙ ap (λ (t : Tried). take_foreign (map parcel_by_value c.args.parcels.now) (rest_site (replica_of t.page) c.args.rest)) c.in-Ok.ensures.ok

pub returns-in-Ok-taken-clause-is : goal.returns-in-Ok-taken-clause-is
returns-in-Ok-taken-clause-is g c = subst (λ (p : LinkedPage). IsRest (replica_of p) c.take_all-taken.new.self.rest) (sym c.keep.ensures) c.in-Ok-taken.ensures.is

pub returns-in-Ok-taken-clause-left : goal.returns-in-Ok-taken-clause-left
returns-in-Ok-taken-clause-left g c = c.in-Ok-taken.ensures.left ∙ ap (λ (p : LinkedPage). length (pending (rest_site (replica_of p) c.take_all-taken.new.self.rest))) (sym c.keep.ensures)

pub returns-in-Err-taken-clause-kept : goal.returns-in-Err-taken-clause-kept
returns-in-Err-taken-clause-kept g c = c.take_back.ensures ∙ c.take_all-taken.ensures.first ∙ ap (λ (t : Tried). t.first) c.in-Ok.ensures.ok

pub returns-in-Ok-taken-clause-steps : goal.returns-in-Ok-taken-clause-steps
returns-in-Ok-taken-clause-steps g c =
    subst (λ (t : Tried). c.take_all-taken.new.steps ≤ c.args.steps.now + cost_of_transactions (taking_all (map parcel_by_value c.args.parcels.now) (rest_site (replica_of t.page) c.args.rest)) t.page.items) c.in-Ok.ensures.ok
    c.take_all-taken.ensures.steps

pub returns-in-Err-taken-clause-steps : goal.returns-in-Err-taken-clause-steps
returns-in-Err-taken-clause-steps g c =
    subst (λ (t : Tried). c.take_all-taken.new.steps ≤ c.args.steps.now + cost_of_transactions (taking_all (map parcel_by_value c.args.parcels.now) (rest_site (replica_of t.page) c.args.rest)) t.page.items) c.in-Ok.ensures.ok
    c.take_all-taken.ensures.steps
