use Rattle.std.proofs.Common.{◌≡◌, ◌≤◌, ℕ, ◌+◌, ◌++◌, List, length, refl, sym, ap, subst, ◌∙◌, true≢false, arith}
use Rattle.ve_base.specs.declared.value.Value.{Value}
use Rattle.model_change.specs.Store.{admitted}
use Rattle.model_items.specs.Same.{value_same}
use Rattle.std.specs.List.{position_or_len}
use Rattle.ve_store.specs.Following.{Following}
use Rattle.ve_store.proofs.StoreLemmas.{absent, admitted_before, admitted_after, first_after, first_before, get_after, holds-Contains, place_within}
use Rattle.ve_store.proofs.new_values.NewValues.id_of.Goals as goal

pub returns-in-Some-clause-ok : goal.returns-in-Some-clause-ok
returns-in-Some-clause-ok c = admitted_before c.args.store.now c.args.self.now.values c.args.value (c.in-Some.ensures.some.0 refl)

pub overflow_add-result : goal.overflow_add-result
overflow_add-result c =
    let count : c.len.result ≡ length c.self.inside.values = c.len.ensures.count in
    let place : c.in_ok-id.id.0 ≤ length c.self.inside.values =
    (let P : ℕ → Type 0 = λ n. n ≤ length c.self.inside.values in subst P (sym c.in_ok-id.ensures.place) (place_within c.self.inside.values c.args.value)) in
    omega arith

pub returns-clause-stored : goal.returns-clause-stored
returns-clause-stored c =
    let long : c.self.inside.after ≡ length c.args.store.now = ap (λ (n : Following). n.after) c.self.view_is ∙ c.requires in
    get_after c.args.store.now c.admit.new.self c.in_ok-id.id.0 c.self.inside.after c.args.value long c.in_ok-id.ensures.stored

pub returns-clause-ok : goal.returns-clause-ok
returns-clause-ok c =
    ap (λ (vs : List Value). c.args.store.now ++ vs) (c.in_ok-id.ensures.ok ∙ ap (λ (n : Following). admitted n.values c.args.value) c.self.view_is)
    ∙ admitted_after c.args.store.now c.args.self.now.values c.args.value (λ there. true≢false (sym (c.in_default.ensures.some.1 there)))

pub returns-in-Some-clause-place : goal.returns-in-Some-clause-place
returns-in-Some-clause-place c =
    c.in-Some.ensures.place ∙ first_before c.args.store.now c.args.self.now.values c.args.value (holds-Contains c.args.store.now c.args.value (c.in-Some.ensures.some.0 refl))

pub returns-clause-place : goal.returns-clause-place
returns-clause-place c =
    let long : c.self.inside.after ≡ length c.args.store.now = ap (λ (n : Following). n.after) c.self.view_is ∙ c.requires in
    let new = absent c.args.store.now c.args.value (λ there. true≢false (sym (c.in_default.ensures.some.1 there))) in
    ap (λ n. c.self.inside.after + n) (c.in_ok-id.ensures.place ∙ ap (λ (n : Following). position_or_len (value_same c.args.value) n.values) c.self.view_is)
    ∙ ap (λ n. n + position_or_len (value_same c.args.value) c.args.self.now.values) long
    ∙ first_after c.args.store.now c.args.self.now.values c.args.value new
