use Rattle.std.proofs.Common.{◌∙◌, sym, subst, None}
use Rattle.ve_tx.specs.Checked.{change_of}
use Rattle.ve_tx.specs.Searched.{SearchesIn}
use Rattle.ve_tx.proofs.CheckLemmas.{first_allows-at}
use Rattle.ve_tx.proofs.LookedLemmas.{first_attrs-at}
use Rattle.ve_tx.proofs.attributes.may_change.Goals as goal

pub allows-requires-clause-search : goal.allows-requires-clause-search
allows-requires-clause-search c =
    subst (λ attrs. SearchesIn attrs c.args.search.now) (first_attrs-at c.args.store.now c.args.list.now.items c.args.at c.get.result c.get.ensures) c.requires.search

pub returns-then-at-len : goal.returns-then-at-len
returns-then-at-len c = c.allows.ensures ∙ sym (first_allows-at c.args.store.now c.args.list.now.items c.args.at c.get.result (change_of c.args.name.now c.args.from.now None None) c.get.ensures)
