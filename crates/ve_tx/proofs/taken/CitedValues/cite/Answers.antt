use Rattle.std.proofs.Common.{◌≡◌, ◌<◌, length, slice_get, Some, sym, ap, subst, ◌∙◌}
use Rattle.std.proofs.lemmas.Option.{slice_get-get_or}
use Rattle.ve_tx.specs.Copied.{Stands}
use Rattle.ve_tx.specs.Making.{Extends}
use Rattle.ve_tx.proofs.CopiesLemmas.{cites_alike}
use Rattle.ve_tx.proofs.ValuesLemmas.{extends_itself}
use Rattle.ve_tx.proofs.TakenLemmas.{cited_within, stands_there, there_filled, new_filled, new_taken, on_err}
use Rattle.ve_tx.proofs.taken.CitedValues.cite.Goals as goal

pub returns-then-not-is_new-clause-filled : goal.returns-then-not-is_new-clause-filled
returns-then-not-is_new-clause-filled c =
    let values = c.args.values.now in
    let store = c.args.store.now in
    let places = c.args.self.now.places.keys in
    let ids = c.args.self.now.ids.items in
    let within : c.in_ok-at.at < length ids =
    cited_within values store places c.insert_full.new.self.keys ids c.in_ok-at.at c.in-Some.id.0 c.in_ok-at.is_new c.requires.taken c.in_ok-at.ensures.keys c.in_ok-at.ensures.added
    c.if-not-is_new.true c.in_ok-at.ensures.stored in
    there_filled values store c.in-Some.id.0 c.index.result.now.0 c.args.id c.in-Some.is
    (stands_there values store places c.insert_full.new.self.keys ids c.in_ok-at.at c.in-Some.id.0 c.in_ok-at.is_new c.index.result.now c.requires.taken c.in_ok-at.ensures.keys
    c.in_ok-at.ensures.added c.if-not-is_new.true c.in_ok-at.ensures.stored within c.index.ensures)

pub returns-then-not-is_new-clause-cites : goal.returns-then-not-is_new-clause-cites
returns-then-not-is_new-clause-cites c =
    let values = c.args.values.now in
    let store = c.args.store.now in
    let places = c.args.self.now.places.keys in
    let ids = c.args.self.now.ids.items in
    let here : c.in-Some.id.0 < length values = subst (Stands values) c.in-Some.is c.requires.stands in
    let within : c.in_ok-at.at < length ids =
    cited_within values store places c.insert_full.new.self.keys ids c.in_ok-at.at c.in-Some.id.0 c.in_ok-at.is_new c.requires.taken c.in_ok-at.ensures.keys c.in_ok-at.ensures.added
    c.if-not-is_new.true c.in_ok-at.ensures.stored in
    cites_alike values store c.in-Some.id.0 c.index.result.now.0 c.args.id c.in-Some.is here
    (stands_there values store places c.insert_full.new.self.keys ids c.in_ok-at.at c.in-Some.id.0 c.in_ok-at.is_new c.index.result.now c.requires.taken c.in_ok-at.ensures.keys
    c.in_ok-at.ensures.added c.if-not-is_new.true c.in_ok-at.ensures.stored within c.index.ensures)

pub returns-in_err-value-clause-grown : goal.returns-in_err-value-clause-grown
returns-in_err-value-clause-grown c = on_err c.from_residual-in_err-value.result (extends_itself c.args.store.now)

pub returns-in_err-taken-clause-grown : goal.returns-in_err-taken-clause-grown
returns-in_err-taken-clause-grown c =
    on_err c.from_residual-in_err-taken.result (subst (Extends c.args.store.now) (sym c.in_err-taken.ensures.err) (extends_itself c.args.store.now))

pub returns-clause-taken : goal.returns-clause-taken
returns-clause-taken c =
    let values = c.args.values.now in
    let store = c.args.store.now in
    let here : c.in-Some.id.0 < length values = subst (Stands values) c.in-Some.is c.requires.stands in
    let there : slice_get values c.in-Some.id.0 ≡ Some c.in_ok-value.value =
    slice_get-get_or values c.in-Some.id.0 c.index-values-id.result here ∙ ap Some (sym c.index-values-id.is ∙ sym c.in_ok-value.ensures) in
    new_taken values store c.admit.new.self c.args.self.now.places.keys c.insert_full.new.self.keys c.args.self.now.ids.items c.push.new.self.items c.in-Some.id.0 c.in_ok-at.is_new
    c.in_ok-value.value c.in_ok-taken.taken c.requires.taken c.in_ok-at.ensures.keys c.in_ok-at.ensures.added c.if-not-is_new.false there c.in_ok-taken.ensures.ok
    c.in_ok-taken.ensures.stored c.in_ok-push.ensures.items

pub returns-clause-filled : goal.returns-clause-filled
returns-clause-filled c =
    let values = c.args.values.now in
    let here : c.in-Some.id.0 < length values = subst (Stands values) c.in-Some.is c.requires.stands in
    let there : slice_get values c.in-Some.id.0 ≡ Some c.in_ok-value.value =
    slice_get-get_or values c.in-Some.id.0 c.index-values-id.result here ∙ ap Some (sym c.index-values-id.is ∙ sym c.in_ok-value.ensures) in
    new_filled values c.args.store.now c.admit.new.self c.in-Some.id.0 c.in_ok-value.value c.args.id c.in-Some.is there c.in_ok-taken.ensures.ok

pub returns-clause-cites : goal.returns-clause-cites
returns-clause-cites c =
    let values = c.args.values.now in
    let here : c.in-Some.id.0 < length values = subst (Stands values) c.in-Some.is c.requires.stands in
    let there : slice_get values c.in-Some.id.0 ≡ Some c.in_ok-value.value =
    slice_get-get_or values c.in-Some.id.0 c.index-values-id.result here ∙ ap Some (sym c.index-values-id.is ∙ sym c.in_ok-value.ensures) in
    cites_alike values c.admit.new.self c.in-Some.id.0 c.in_ok-taken.taken.0 c.args.id c.in-Some.is here (c.in_ok-taken.ensures.stored ∙ sym there)
