use Rattle.std.proofs.Common.{◌≡◌, map, sym, ap, ◌∙◌}
use Rattle.model_items.specs.Plain.{plain_list}
use Rattle.model_change.specs.Inverse as inverse
use Rattle.ve_tx.specs.Operation.{by_value, bare, with_positions}
use Rattle.ve_tx.proofs.NormalLemmas.{bare-with_positions, total-within}
use Rattle.ve_tx.proofs.FilledLemmas.{tx_cites_bare, normal_filled, restorable_filled}
use Rattle.ve_tx.proofs.transaction.Transaction.filled.Goals as goal

pub filled-requires-clause-within : goal.filled-requires-clause-within
filled-requires-clause-within c = rw c.as_slice.ensures.value (total-within c.self.inside.ops.items c.self.inside.kept.items c.self.invariant)

pub returns-clause-ops : goal.returns-clause-ops
returns-clause-ops c =
    bare-with_positions c.in_ok-made.made.ops.items c.in_ok-made.made.kept.items ∙ c.in_ok-made.ensures.ops ∙ c.as_slice.ensures.value
    ∙ sym (bare-with_positions c.self.inside.ops.items c.self.inside.kept.items) ∙ ap (map bare) c.self.view_is

pub invariant_of-result : goal.invariant_of-result
invariant_of-result c values =
    let made = with_positions c.in_ok-made.made.ops.items c.in_ok-made.made.kept.items in
    let own = with_positions c.self.inside.ops.items c.self.inside.kept.items in
    let same : map bare made ≡ map bare own =
    bare-with_positions c.in_ok-made.made.ops.items c.in_ok-made.made.kept.items ∙ c.in_ok-made.ensures.ops ∙ c.as_slice.ensures.value
    ∙ sym (bare-with_positions c.self.inside.ops.items c.self.inside.kept.items) in
    normal_filled values own made same c.self.invariant

pub returns-clause-restorable : goal.returns-clause-restorable
returns-clause-restorable c =
    let made = with_positions c.in_ok-made.made.ops.items c.in_ok-made.made.kept.items in
    let L = plain_list c.args.store.now c.args.list.now.items in
    let own : with_positions c.as_slice.result.now c.as_slice-2.result.now ≡ c.args.self.now =
    (λ j. with_positions (c.as_slice.ensures.value j) (c.as_slice-2.ensures.value j)) ∙ c.self.view_is in
    let fills : by_value c.args.store.now made ≡ inverse.filled (by_value c.args.store.now c.args.self.now) L =
    c.in_ok-made.ensures.filled ∙ ap (λ tx. inverse.filled (by_value c.args.store.now tx) L) own in
    restorable_filled c.args.store.now c.args.self.now made L fills c.requires.applies

pub returns-clause-cites : goal.returns-clause-cites
returns-clause-cites c values cites =
    let made = with_positions c.in_ok-made.made.ops.items c.in_ok-made.made.kept.items in
    let same : map bare made ≡ map bare c.args.self.now =
    bare-with_positions c.in_ok-made.made.ops.items c.in_ok-made.made.kept.items ∙ c.in_ok-made.ensures.ops ∙ c.as_slice.ensures.value
    ∙ sym (bare-with_positions c.self.inside.ops.items c.self.inside.kept.items) ∙ ap (map bare) c.self.view_is in
    tx_cites_bare values c.args.self.now made (sym same) cites
