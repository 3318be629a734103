use Rattle.std.proofs.Common.{◌++◌, length, drop, sym, ap, ◌∙◌, subst, arith}
use Rattle.std.proofs.lemmas.List.{length-append}
use Rattle.model_site.specs.Entries.{Entry as ModelEntry}
use Rattle.model_site.specs.Replica.{Replica}
use Rattle.ve_tx.specs.ByValue.{parcel_by_value}
use Rattle.ve_editor.specs.Edited.{AllStand}
use Rattle.ve_editor.specs.Page.{replica_of}
use Rattle.ve_site.specs.Dropped.{back_over}
use Rattle.ve_site.proofs.DropLemmas.{admit_counts, back_counts}
use Rattle.ve_site.proofs.pending.admit_under.Goals as goal

pub take_back-requires-clause-count : goal.take_back-requires-clause-count
take_back-requires-clause-count g c =
    let size = length-append c.args.sent.now c.args.unsent.now in omega (arith, size, c.in-Some.ensures.1)

pub take_back-requires-clause-left : goal.take_back-requires-clause-left
take_back-requires-clause-left g c =
    let size = length-append c.args.sent.now c.args.unsent.now in omega (arith, size, c.in-Some.ensures.1, c.requires.left)

pub admit-requires-clause-stands : goal.admit-requires-clause-stands
admit-requires-clause-stands g c =
    subst (λ (r : Replica). AllStand (parcel_by_value c.args.committed.now) r.items) (sym c.in_ok-take_back.ensures.dropped.page) c.requires.stands

pub returns-clause-admitted : goal.returns-clause-admitted
returns-clause-admitted g c = record { middle = replica_of c.take_back.new.trial.page; dropped = c.in_ok-take_back.ensures.dropped; page = c.in_ok-last.ensures.page }

pub returns-clause-stored : goal.returns-clause-stored
returns-clause-stored g c = ap (λ (e : ModelEntry). e.store_after) c.in_ok-last.ensures.entry ∙ ap (λ (r : Replica). length r.store) (sym c.in_ok-last.ensures.page)

pub returns-in_err-take_back-clause-steps : goal.returns-in_err-take_back-clause-steps
returns-in_err-take_back-clause-steps g c =
    back_counts (back_over c.args.trial.now.page.store (drop c.args.left (c.args.sent.now ++ c.args.unsent.now))) (parcel_by_value c.args.committed.now) c.args.trial.now.page.items c.args.steps.now
    c.take_back.new.steps c.take_back.ensures.steps

pub returns-in_err-last-clause-steps : goal.returns-in_err-last-clause-steps
returns-in_err-last-clause-steps g c =
    admit_counts (replica_of c.args.trial.now.page) (replica_of c.take_back.new.trial.page) _ _ (parcel_by_value c.args.committed.now) c.in_ok-take_back.ensures.dropped c.args.steps.now c.take_back.new.steps
    c.admit.new.steps c.take_back.ensures.steps c.admit.ensures.steps

pub returns-clause-steps : goal.returns-clause-steps
returns-clause-steps g c =
    admit_counts (replica_of c.args.trial.now.page) (replica_of c.take_back.new.trial.page) _ _ (parcel_by_value c.args.committed.now) c.in_ok-take_back.ensures.dropped c.args.steps.now c.take_back.new.steps
    c.admit.new.steps c.take_back.ensures.steps c.admit.ensures.steps

pub returns-in_err-last-clause-first : goal.returns-in_err-last-clause-first
returns-in_err-last-clause-first g c = c.admit.ensures.first ∙ c.take_back.ensures.first

pub returns-clause-first : goal.returns-clause-first
returns-clause-first g c = c.admit.ensures.first ∙ c.take_back.ensures.first
