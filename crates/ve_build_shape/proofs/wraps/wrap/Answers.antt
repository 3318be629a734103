use Rattle.std.proofs.Common.{◌≡◌, ◌≢◌, ◌<◌, ℕ, None, Ok, List, [], length, inr, refl, sym, ap, ◌∙◌, subst, arith}
use Rattle.std.specs.Prelude.{All}
use Rattle.std.proofs.lemmas.List.{length-map}
use Rattle.model_items.proofs.VerdictLemmas.{verdict_reads_no_values}
use Rattle.model_items.specs.Plain.{plain, plain_list}
use Rattle.model_edit.specs.Causes.{BadRange, NotWrapped}
use Rattle.ve_build_shape.specs.Nodes.{wrong_among}
use Rattle.ve_build_shape.proofs.NodeLemmas.{nodes_within, some_node, good_parts}
use Rattle.ve_build_shape.proofs.RoundLemmas.{wrap-BadRange, wrap-NotWrapped, wrap-given, wrap_fits}
use Rattle.ve_build_shape.proofs.wraps.wrap.Goals as goal

pub returns-then-is_bad_wrap-clause-refused : goal.returns-then-is_bad_wrap-clause-refused
returns-then-is_bad_wrap-clause-refused c =
    let S = c.args.doc.store.now in
    let P = plain_list S c.args.doc.list.now.items in
    inr (BadRange c.args.from c.args.to, wrap-BadRange P c.args.from c.args.to c.args.plan.now (sym (c.is_bad_wrap.ensures.means S) ∙ c.if-is_bad_wrap.true), refl)

pub wrong_place-requires-clause-nodes : goal.wrong_place-requires-clause-nodes
wrong_place-requires-clause-nodes c =
    let S = c.args.doc.store.now in
    let items = c.args.doc.list.now.items in
    let less = c.is_bad_wrap.ensures.order c.if-is_bad_wrap.false in
    let within = c.is_bad_wrap.ensures.within c.if-is_bad_wrap.false in
    subst (All (λ (at : ℕ). at < length items)) (sym c.as_slice-places.ensures.value)
    (nodes_within S items c.args.from c.args.to c.in-Ok.nodes.items (omega (arith, less)) within (c.in-Ok.ensures S))

pub returns-in-Some-clause-refused : goal.returns-in-Some-clause-refused
returns-in-Some-clause-refused c =
    let S = c.args.doc.store.now in
    let P = plain_list S c.args.doc.list.now.items in
    let places = c.as_slice-places.result.now in
    let is = c.in-Some.ensures S ∙ (λ i. wrong_among P c.args.from c.args.to (c.as_slice-outer.ensures i) (c.as_slice-each.ensures i) places) in
    inr (
      NotWrapped c.in-Some.at,
      wrap-NotWrapped P c.args.from c.args.to c.args.plan.now c.in-Some.at places (sym (c.is_bad_wrap.ensures.means S) ∙ c.if-is_bad_wrap.false)
          (c.as_slice-places.ensures.value ∙ c.in-Ok.ensures S) (sym is),
      refl,
    )

pub wrapped-requires-clause-within : goal.wrapped-requires-clause-within
wrapped-requires-clause-within c =
    let S = c.args.doc.store.now in
    let items = c.args.doc.list.now.items in
    let less = c.is_bad_wrap.ensures.order c.if-is_bad_wrap.false in
    let within = c.is_bad_wrap.ensures.within c.if-is_bad_wrap.false in
    subst (All (λ (at : ℕ). at < length items)) (sym c.as_slice-places.ensures.value)
    (nodes_within S items c.args.from c.args.to c.in-Ok.nodes.items (omega (arith, less)) within (c.in-Ok.ensures S))

pub wrapped-requires-clause-some : goal.wrapped-requires-clause-some
wrapped-requires-clause-some c =
    let S = c.args.doc.store.now in
    let items = c.args.doc.list.now.items in
    let P = plain_list S items in
    let less = c.is_bad_wrap.ensures.order c.if-is_bad_wrap.false in
    let within = c.is_bad_wrap.ensures.within c.if-is_bad_wrap.false in
    let n = length-map items (plain S) in
    let parts = good_parts P c.args.from c.args.to (sym (c.is_bad_wrap.ensures.means S) ∙ c.if-is_bad_wrap.false) in
    let lawful = verdict_reads_no_values S [] items ∙ c.requires.doc.links.lawful in
    subst (λ (l : List ℕ). l ≢ []) (sym (c.as_slice-places.ensures.value ∙ c.in-Ok.ensures S))
    (some_node P c.args.from c.args.to lawful less (omega (arith, n, within)) parts.0 parts.1)

pub wrapped-requires-clause-fits : goal.wrapped-requires-clause-fits
wrapped-requires-clause-fits c =
    let S = c.args.doc.store.now in
    let items = c.args.doc.list.now.items in
    let P = plain_list S items in
    let places = c.as_slice-places.result.now in
    let none : c.wrong_place.result ≡ None = (cc) in
    let is = sym (λ i. wrong_among P c.args.from c.args.to (c.as_slice-outer.ensures i) (c.as_slice-each.ensures i) places) ∙ sym (c.wrong_place.ensures S) ∙ none in
    let lawful = verdict_reads_no_values S [] items ∙ c.requires.doc.links.lawful in
    wrap_fits P c.args.from c.args.to c.args.plan.now places lawful (sym (c.is_bad_wrap.ensures.means S) ∙ c.if-is_bad_wrap.false)
    (c.as_slice-places.ensures.value ∙ c.in-Ok.ensures S) is

pub returns-in-Ok-wrapped-clause-means : goal.returns-in-Ok-wrapped-clause-means
returns-in-Ok-wrapped-clause-means c =
    let S = c.args.doc.store.now in
    let P = plain_list S c.args.doc.list.now.items in
    let places = c.as_slice-places.result.now in
    let none : c.wrong_place.result ≡ None = (cc) in
    let is = sym (λ i. wrong_among P c.args.from c.args.to (c.as_slice-outer.ensures i) (c.as_slice-each.ensures i) places) ∙ sym (c.wrong_place.ensures S) ∙ none in
    wrap-given P c.args.from c.args.to c.args.plan.now places (sym (c.is_bad_wrap.ensures.means S) ∙ c.if-is_bad_wrap.false)
    (c.as_slice-places.ensures.value ∙ c.in-Ok.ensures S) is
    ∙ ap Ok (sym c.in-Ok-wrapped.ensures.means)

pub returns-in_default-clause-memory : goal.returns-in_default-clause-memory
returns-in_default-clause-memory c = λ _. sym (c.is_bad_wrap.ensures.means c.args.doc.store.now) ∙ c.if-is_bad_wrap.false

pub returns-clause-memory : goal.returns-clause-memory
returns-clause-memory c = λ _. sym (c.is_bad_wrap.ensures.means c.args.doc.store.now) ∙ c.if-is_bad_wrap.false
