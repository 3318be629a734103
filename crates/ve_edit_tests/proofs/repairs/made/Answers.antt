use Rattle.std.proofs.Common.{◌≡◌, List, Ok, All, sym, subst}
use Rattle.model_items.specs.declared.item.Item.{Item}
use Rattle.model_items.specs.Plain.{CitesWell, plain_list}
use Rattle.ve_tx.specs.Applied.{applied_to}
use Rattle.ve_edit_tests.proofs.repairs.made.Goals as goal

pub apply-requires-clause-list : goal.apply-requires-clause-list
apply-requires-clause-list c = subst (All (CitesWell c.args.store.now)) (sym c.in_ok-new.ensures.items) c.requires.list

pub returns : goal.returns
returns c = record {
  values = c.args.store.now;
  others = c.apply.new.store;
  made = subst (λ (items : List Item). applied_to c.args.store.now c.args.tx.now items ≡ Ok (plain_list c.apply.new.store c.apply.new.list.items)) c.in_ok-new.ensures.items c.in_ok-apply.ensures.applied;
}
