use Rattle.std.proofs.Common.{◌<◌, [], length, sym, ◌∙◌, arith}
use Rattle.std.proofs.lemmas.Option.{slice_get_within}
use Rattle.model_items.specs.Offsets.{opens_at}
use Rattle.model_items.specs.Plain.{plain_list}
use Rattle.ve_edits.proofs.StackLemmas.{stack_is}
use Rattle.ve_lists.proofs.PlaceLemmas.{none_open, nested_few, nested_other, nested_found}
use Rattle.ve_lists.proofs.brackets.nested_list.Goals as goal

pub returns-then-depth-lt2-clause-means : goal.returns-then-depth-lt2-clause-means
returns-then-depth-lt2-clause-means c = λ values.
    let items = c.args.doc.list.now.items in
    let state = c.state_at-state.result in
    let few : length state.stack < 2 = omega (arith, c.depth.ensures.depth, c.if-depth-lt2.true) in
    sym (nested_few (opens_at (plain_list values items) c.args.o) state.stack (stack_is values items c.args.o state c.state_at-state.ensures) few)

pub opening_round-from-requires-clause-open : goal.opening_round-from-requires-clause-open
opening_round-from-requires-clause-open c = λ none.
    let items = c.args.doc.list.now.items in
    let state = c.state_at-state.result in
    let some : 0 < length state.stack = omega (arith, c.depth.ensures.depth, c.if-depth-lt2.false) in
    none_open (opens_at (plain_list [] items) c.args.o) state.stack (stack_is [] items c.args.o state c.state_at-state.ensures) some none

pub returns-then-not-same_kind-clause-means : goal.returns-then-not-same_kind-clause-means
returns-then-not-same_kind-clause-means c = λ values.
    let items = c.args.doc.list.now.items in
    let state = c.state_at-state.result in
    sym (nested_other (opens_at (plain_list values items) c.args.o) state.stack c.kind.result (stack_is values items c.args.o state c.state_at-state.ensures) c.kind.ensures
    (sym c.same_kind.ensures ∙ c.if-not-same_kind.true))

pub returns-clause-within : goal.returns-clause-within
returns-clause-within c =
    let round = c.opening_round-from.ensures [] in
    slice_get_within c.args.doc.list.now.items c.opening_round-from.result round.item round.there

pub returns-clause-means : goal.returns-clause-means
returns-clause-means c = λ values.
    let items = c.args.doc.list.now.items in
    let all = plain_list values items in
    let state = c.state_at-state.result in
    let from = c.opening_round-from.result in
    let round = c.opening_round-from.ensures values in
    nested_found (opens_at all c.args.o) (opens_at all from) state.stack c.kind-2.result c.kind.result round.kind from (stack_is values items c.args.o state c.state_at-state.ensures)
    c.kind-2.ensures c.kind.ensures (sym c.same_kind.ensures ∙ c.if-not-same_kind.false) round.opens
