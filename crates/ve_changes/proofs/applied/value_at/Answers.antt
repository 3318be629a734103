use Rattle.std.proofs.Common.{Some, ap, ◌∙◌}
use Rattle.ve_changes.proofs.AppliedLemmas.{searches_lent, value_there}
use Rattle.ve_changes.proofs.applied.value_at.Goals as goal

pub value-requires : goal.value-requires
value-requires c =
    searches_lent c.args.doc.store.now c.args.doc.list.now.items c.args.at c.attrs_at-attrs.result.now c.args.search.now c.attrs_at-attrs.ensures c.requires.search

pub returns-in_ok-value-in-Some : goal.returns-in_ok-value-in-Some
returns-in_ok-value-in-Some c =
    ap Some c.in_ok-value-in-Some.ensures ∙ c.in-Some.ensures
    ∙ value_there c.args.doc.store.now c.args.doc.list.now.items c.args.at c.attrs_at-attrs.result.now c.args.name.now c.attrs_at-attrs.ensures

pub returns-in-None : goal.returns-in-None
returns-in-None c =
    c.in-None.ensures ∙ value_there c.args.doc.store.now c.args.doc.list.now.items c.args.at c.attrs_at-attrs.result.now c.args.name.now c.attrs_at-attrs.ensures
