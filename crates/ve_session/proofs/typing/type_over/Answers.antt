use Rattle.std.proofs.Common.{◌≡◌, Ok, ap, sym, ◌∙◌, subst}
use Rattle.model_edit.specs.Translate.{between}
use Rattle.model_site.specs.Site.{with_selection}
use Rattle.model_world.specs.declared.command.Request.TheVariants as request
use Rattle.model_world.specs.Answers.{typing}
use Rattle.model_world.specs.Edits.{batch_on}
use Rattle.ve_sites.specs.Shared.{site_at, with_site_at}
use Rattle.ve_session.specs.Asked.{IsStopped}
use Rattle.ve_session.specs.Stopped.{typing_stop}
use Rattle.ve_session.proofs.BatchLemmas.{attempted, still_there}
use Rattle.ve_session.proofs.CaretLemmas.{is_typed}
use Rattle.ve_session.proofs.TypedLemmas.{over_cost, over_stops}
use Rattle.ve_session.proofs.typing.type_over.Goals as goal

pub len_at-requires : goal.len_at-requires
len_at-requires g c =
    let k = c.args.k in
    let middle = c.attempt.new.self in
    record {
      site = still_there k (with_selection (between c.in-Ok.caret c.in-Ok.caret) (site_at middle k)) middle c.select.new.self c.select.ensures
          (still_there k (site_at middle k) c.args.session.now middle c.in-Ok.ensures.same c.requires.site);
    }

pub returns-clause-answer : goal.returns-clause-answer
returns-clause-answer g c =
    let old = c.args.session.now in
    let k = c.args.k in
    let middle = c.attempt.new.self in
    let r = (site_at old k).replica in
    let by = c.in-Ok.ensures.made in
    let means = subst (λ text. batch_on r (typing r.selection text) ≡ Ok by.ts) c.new.ensures by.asked.0 in
    let new = c.select.ensures ∙ ap (λ n. with_site_at k (with_selection (between n n) (site_at middle k)) middle) by.asked.1 in
    is_typed k old c.select.new.self by.ts c.requires.site c.args.text.now middle c.len_at.result means (attempted k old middle by c.in-Ok.ensures.same) new c.len_at.ensures

pub returns-clause-steps : goal.returns-clause-steps
returns-clause-steps g c = λ _.
    over_cost c.args.k c.args.session.now _ c.args.text.now c.new.ensures c.args.steps.now c.attempt.new.steps c.requires.range (c.in-Ok.ensures.steps tt)

pub returns-in-Err-clause-refused : goal.returns-in-Err-clause-refused
returns-in-Err-clause-refused g c =
    subst (IsStopped (request.TypeText c.args.text.now) c.args.k c.args.session.now) (sym c.of_typing.ensures)
    (over_stops c.args.k c.args.session.now _ c.args.text.now c.new.ensures c.in-Err.stop c.in-Err.ensures.stopped)

pub returns-in-Err-clause-steps : goal.returns-in-Err-clause-steps
returns-in-Err-clause-steps g c = λ h.
    over_cost c.args.k c.args.session.now _ c.args.text.now c.new.ensures c.args.steps.now c.attempt.new.steps c.requires.range
    (c.in-Err.ensures.steps (λ e. h (c.of_typing.ensures ∙ ap typing_stop e)))
