use Rattle.std.proofs.Common.{sym, subst}
use Rattle.std.specs.Prelude.{All}
use Rattle.model_items.specs.Plain.{plain_list, CitesWell}
use Rattle.model_change.specs.Store.{cited}
use Rattle.ve_tx.proofs.RecitedLemmas.{replace_cites, replace_filled, replace_alike}
use Rattle.ve_tx.proofs.TakenLemmas.{on_err}
use Rattle.ve_tx.proofs.ValuesLemmas.{extends_on, extends_by_fill}
use Rattle.ve_tx.proofs.taken.CitedValues.op.Goals as goal

pub items-requires-clause-cites : goal.items-requires-clause-cites
items-requires-clause-cites c =
    subst (All (CitesWell c.args.values.now)) (sym c.as_slice.ensures)
    (replace_cites c.args.values.now c.args.op.now c.in-Replace.removed c.in-Replace.inserted c.in-Replace.is c.requires.cites).0

pub items-requires-in-Replace-clause-cites : goal.items-requires-in-Replace-clause-cites
items-requires-in-Replace-clause-cites c =
    subst (All (CitesWell c.args.values.now)) (sym c.as_slice-in-Replace.ensures)
    (replace_cites c.args.values.now c.args.op.now c.in-Replace.removed c.in-Replace.inserted c.in-Replace.is c.requires.cites).1

pub returns-in_ok-inserted-in-Replace-clause-filled : goal.returns-in_ok-inserted-in-Replace-clause-filled
returns-in_ok-inserted-in-Replace-clause-filled c k =
    replace_filled c.args.values.now c.args.store.now c.items.new.store c.items-in-Replace.new.store c.args.op.now c.in-Replace.removed c.in-Replace.inserted
    c.as_slice.result.now c.as_slice-in-Replace.result.now k c.in-Replace.is c.as_slice.ensures c.as_slice-in-Replace.ensures c.in_ok-removed-in-Replace.ensures.filled
    c.in_ok-inserted-in-Replace.ensures.filled

pub returns-in_ok-inserted-in-Replace-clause-alike : goal.returns-in_ok-inserted-in-Replace-clause-alike
returns-in_ok-inserted-in-Replace-clause-alike c =
    replace_alike c.args.values.now c.items.new.store c.items-in-Replace.new.store c.args.op.now c.in-Replace.removed c.in-Replace.inserted c.as_slice.result.now
    c.as_slice-in-Replace.result.now c.in_ok-removed-in-Replace.removed c.in_ok-inserted-in-Replace.inserted c.in-Replace.is c.as_slice.ensures c.as_slice-in-Replace.ensures
    c.in_ok-inserted-in-Replace.ensures.filled c.in_ok-removed-in-Replace.ensures.alike c.in_ok-inserted-in-Replace.ensures.alike

pub returns-in_err-inserted-in-Replace-clause-grown : goal.returns-in_err-inserted-in-Replace-clause-grown
returns-in_err-inserted-in-Replace-clause-grown c =
    on_err c.from_residual-in_err-inserted-in-Replace.result
    (extends_on c.args.store.now c.items.new.store c.items-in-Replace.new.store
    (extends_by_fill c.args.store.now c.items.new.store (cited (plain_list c.args.values.now c.as_slice.result.now)) c.in_ok-removed-in-Replace.ensures.filled)
    c.in_err-inserted-in-Replace.ensures.grown)
