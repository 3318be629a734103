use Rattle.std.proofs.Common.{map, sym, ap, ◌∙◌, subst}
use Rattle.std.specs.Prelude.{All}
use Rattle.std.proofs.lemmas.Result.{IfOk-weaker}
use Rattle.model_items.specs.Plain.{plain_list, CitesWell}
use Rattle.ve_store.specs.Following.{together}
use Rattle.ve_read.specs.Anew.{item_anew}
use Rattle.ve_read.proofs.AnewLemmas.{all_cite, all_read}
use Rattle.ve_read.proofs.anew.cited_anew.Goals as goal

pub returns-clause-items : goal.returns-clause-items
returns-clause-items c =
    let others = together c.args.store.now c.values_anew.new.new in
    let ids = c.in_ok-ids.ids.items in
    IfOk-weaker c.items_anew.result _ _
    (λ items is.
    ap (plain_list others) (is ∙ ap (λ l. map (item_anew l) c.args.list.now.items) c.deref.ensures.value)
    ∙ all_read c.args.values.now others ids c.in_ok-ids.ensures.stand c.args.list.now.items c.requires.cites)
    c.items_anew.ensures

pub returns-clause-cites : goal.returns-clause-cites
returns-clause-cites c =
    let others = together c.args.store.now c.values_anew.new.new in
    let ids = c.in_ok-ids.ids.items in
    IfOk-weaker c.items_anew.result _ _
    (λ items is.
    subst (All (CitesWell others)) (sym (is ∙ ap (λ l. map (item_anew l) c.args.list.now.items) c.deref.ensures.value))
    (all_cite c.args.values.now others ids c.in_ok-ids.ensures.stand c.args.list.now.items c.requires.cites))
    c.items_anew.ensures
