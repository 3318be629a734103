use Rattle.std.proofs.Common.{◌∙◌, sym}
use Rattle.ve_tx.proofs.LookedLemmas.{first_attrs-at}
use Rattle.ve_tx.proofs.lookup.attrs_at.Goals as goal

pub returns : goal.returns
returns c = c.attrs_in.ensures ∙ sym (first_attrs-at c.args.store.now c.args.list.now.items c.args.at c.get.result c.get.ensures)
