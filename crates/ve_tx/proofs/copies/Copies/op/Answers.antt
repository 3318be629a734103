use Rattle.std.proofs.Common.{sym, subst}
use Rattle.std.specs.Prelude.{All}
use Rattle.model_items.specs.Plain.{CitesWell}
use Rattle.ve_tx.proofs.RecitedLemmas.{replace_cites, replace_filled, replace_alike}
use Rattle.ve_tx.proofs.copies.Copies.op.Goals as goal

pub items-requires-clause-cites : goal.items-requires-clause-cites
items-requires-clause-cites c =
    subst (All (CitesWell c.args.store.now)) (sym c.as_slice.ensures)
    (replace_cites c.args.store.now c.args.op.now c.in-Replace.removed c.in-Replace.inserted c.in-Replace.is c.requires.cites).0

pub items-requires-in-Replace-clause-cites : goal.items-requires-in-Replace-clause-cites
items-requires-in-Replace-clause-cites c =
    subst (All (CitesWell c.args.store.now)) (sym c.as_slice-in-Replace.ensures)
    (replace_cites c.args.store.now c.args.op.now c.in-Replace.removed c.in-Replace.inserted c.in-Replace.is c.requires.cites).1

pub returns-in_ok-inserted-in-Replace-clause-filled : goal.returns-in_ok-inserted-in-Replace-clause-filled
returns-in_ok-inserted-in-Replace-clause-filled c k =
    replace_filled c.args.store.now c.args.self.now.values c.items.new.self.values c.items-in-Replace.new.self.values c.args.op.now c.in-Replace.removed c.in-Replace.inserted
    c.as_slice.result.now c.as_slice-in-Replace.result.now k c.in-Replace.is c.as_slice.ensures c.as_slice-in-Replace.ensures c.in_ok-removed-in-Replace.ensures.filled
    c.in_ok-inserted-in-Replace.ensures.filled

pub returns-in_ok-inserted-in-Replace-clause-alike : goal.returns-in_ok-inserted-in-Replace-clause-alike
returns-in_ok-inserted-in-Replace-clause-alike c =
    replace_alike c.args.store.now c.items.new.self.values c.items-in-Replace.new.self.values c.args.op.now c.in-Replace.removed c.in-Replace.inserted c.as_slice.result.now
    c.as_slice-in-Replace.result.now c.in_ok-removed-in-Replace.removed c.in_ok-inserted-in-Replace.inserted c.in-Replace.is c.as_slice.ensures c.as_slice-in-Replace.ensures
    c.in_ok-inserted-in-Replace.ensures.filled c.in_ok-removed-in-Replace.ensures.alike c.in_ok-inserted-in-Replace.ensures.alike
