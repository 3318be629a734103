use Rattle.std.proofs.Common.{◌≡◌, ◌≤◌, ◌+◌, [], All, arith, refl, sym, ap, ◌∙◌, subst}
use Rattle.model_edit.specs.Translate.{between}
use Rattle.model_items.specs.Plain.{plain_list, CitesWell}
use Rattle.model_site.specs.Site.{starting}
use Rattle.model_site_law.specs.Sound.{Sound}
use Rattle.ve_items.specs.ItemList.{ItemList}
use Rattle.ve_editor.specs.Page.{page_of}
use Rattle.model_items.specs.Cost.{cost_of_tree}
use Rattle.ve_sites.specs.Senders.{first_senders}
use Rattle.ve_sites.proofs.BeginLemmas.{begun_more, steps_of_next, steps_so_far, steps_with_next}
use Rattle.ve_sites.proofs.sites.all_begun.Goals as goal

pub loop-number-init : goal.loop-number-init
loop-number-init g c = record { within = omega arith; kept = refl; members = c.new-members.ensures.items; counted = omega arith; spent = omega arith }

pub begin-requires-clause-sound : goal.begin-requires-clause-sound
begin-requires-clause-sound g c = subst (λ (l : ItemList). Sound (plain_list c.args.values.now l.items)) (sym c.loop-number.invariant.kept) c.requires.sound

pub begin-requires-clause-cites : goal.begin-requires-clause-cites
begin-requires-clause-cites g c = subst (λ (l : ItemList). All (CitesWell c.args.values.now) l.items) (sym c.loop-number.invariant.kept) c.requires.cites

pub returns-in_err-member-clause-counted : goal.returns-in_err-member-clause-counted
returns-in_err-member-clause-counted g c = let a = c.loop-number.invariant.counted in let b = c.begin.ensures.counted in omega (arith, a, b)

pub returns-in_err-member-clause-steps : goal.returns-in_err-member-clause-steps
returns-in_err-member-clause-steps g c =
    steps_with_next c.loop-number.number c.args.sites (cost_of_tree (plain_list c.args.values.now c.args.list.now.items)) c.args.steps.now c.loop-number.steps c.begin.new.steps
    c.loop-number-test.true c.loop-number.invariant.spent
    (subst (λ (l : ItemList). c.begin.new.steps ≤ c.loop-number.steps + cost_of_tree (plain_list c.args.values.now l.items)) c.loop-number.invariant.kept c.begin.ensures.steps)

pub returns-in_err-push-clause-counted : goal.returns-in_err-push-clause-counted
returns-in_err-push-clause-counted g c = let a = c.loop-number.invariant.counted in let b = c.begin.ensures.counted in omega (arith, a, b)

pub returns-in_err-push-clause-steps : goal.returns-in_err-push-clause-steps
returns-in_err-push-clause-steps g c =
    steps_with_next c.loop-number.number c.args.sites (cost_of_tree (plain_list c.args.values.now c.args.list.now.items)) c.args.steps.now c.loop-number.steps c.begin.new.steps
    c.loop-number-test.true c.loop-number.invariant.spent
    (subst (λ (l : ItemList). c.begin.new.steps ≤ c.loop-number.steps + cost_of_tree (plain_list c.args.values.now l.items)) c.loop-number.invariant.kept c.begin.ensures.steps)

pub loop-number-preserved : goal.loop-number-preserved
loop-number-preserved g c =
    let site = starting (page_of c.args.values.now c.args.list.now.items (between 0 0)) in
    let more = c.in_ok-push.ensures.items in
    let a = c.loop-number.invariant.counted in
    let b = c.begin.ensures.counted in
    let below = c.loop-number-test.true in
    let kept = c.loop-number.invariant.kept in
    let begun = c.in_ok-member.ensures.ok
    ∙ ap (λ (l : ItemList). record { number = c.loop-number.number; site = starting (page_of c.args.values.now l.items (between 0 0)); submissions = [] }) kept in
    record {
      within = omega (arith, below);
      kept = c.in_ok-member.ensures.kept ∙ kept;
      members = begun_more c.loop-number.number site c.loop-number.members.items c.push.new.self.items c.in_ok-member.member c.loop-number.invariant.members more begun;
      counted = omega (arith, a, b);
      spent = steps_of_next c.loop-number.number (cost_of_tree (plain_list c.args.values.now c.args.list.now.items)) c.args.steps.now c.loop-number.steps c.begin.new.steps
          c.loop-number.invariant.spent
          (subst (λ (l : ItemList). c.begin.new.steps ≤ c.loop-number.steps + cost_of_tree (plain_list c.args.values.now l.items)) kept c.begin.ensures.steps);
    }

pub returns-clause-ok : goal.returns-clause-ok
returns-clause-ok g c =
    let h = c.loop-number.invariant.within in
    let e = c.loop-number-test.false in
    let all : c.loop-number.number ≡ c.args.sites = omega (arith, h, e) in
    c.loop-number.invariant.members ∙ ap (λ n. first_senders 0 n (starting (page_of c.args.values.now c.args.list.now.items (between 0 0)))) all

pub returns-clause-counted : goal.returns-clause-counted
returns-clause-counted g c = c.loop-number.invariant.counted

pub returns-clause-steps : goal.returns-clause-steps
returns-clause-steps g c =
    steps_so_far c.loop-number.number c.args.sites (cost_of_tree (plain_list c.args.values.now c.args.list.now.items)) c.args.steps.now c.loop-number.steps c.loop-number.invariant.within
    c.loop-number.invariant.spent
