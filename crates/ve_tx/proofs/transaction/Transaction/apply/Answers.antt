use Rattle.std.proofs.Common.{List, All, sym, subst, ap, ◌∙◌}
use Rattle.model_items.specs.declared.item.Item.{Item}
use Rattle.model_items.specs.Plain.{plain_list, CitesWell}
use Rattle.model_change.specs.Store.{changed_heads}
use Rattle.ve_tx.specs.Making.{Extends}
use Rattle.ve_tx.specs.Operation.{by_value}
use Rattle.ve_tx.specs.Spliced.{spliced_by}
use Rattle.ve_tx.proofs.ValuesLemmas.{all-extended, extends_by_fill}
use Rattle.ve_tx.proofs.SplicedLemmas.{spliced-cites}
use Rattle.ve_tx.proofs.transaction.Transaction.apply.Goals as goal

pub returns-clause-cites : goal.returns-clause-cites
returns-clause-cites c =
    let S = c.args.store.now in
    let list = c.args.list.now.items in
    let splices = c.in_ok-change.change.splices.items in
    let extends : Extends S c.change.new.store = extends_by_fill S c.change.new.store (changed_heads (by_value S c.args.self.now) (plain_list S list)) c.in_ok-change.ensures.store in
    let P : List Item → Type 0 = All (CitesWell c.change.new.store) in
    subst P (sym (c.splice_into.ensures.items ∙ ap (λ l. spliced_by l splices) c.in_ok-change.ensures.items))
    (spliced-cites c.change.new.store list splices (all-extended S c.change.new.store extends list c.requires.list) c.in_ok-change.ensures.cites)
