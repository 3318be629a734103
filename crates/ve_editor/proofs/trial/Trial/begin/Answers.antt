use Rattle.std.proofs.Common.{Some, ap, ◌∙◌}
use Rattle.ve_tree.specs.declared.tree.Tree.{Tree}
use Rattle.ve_editor.specs.Page.{linked_page, nodes_of_tree, page_of}
use Rattle.ve_editor.proofs.GoBackLemmas.{begins, first_begun, page_stays}
use Rattle.ve_editor.proofs.trial.Trial.begin.Goals as goal

pub invariant_of-result : goal.invariant_of-result
invariant_of-result c =
    let e = c.editor.inside in
    let is = c.begin_trial.new.self in (
      page_stays e.store e.list.items e.tree is (Some e.tree.arena.slots) c.editor.invariant.0 c.in-Ok.ensures.ok,
      begins e.store e.list e.tree is c.new.result c.len-values.result c.editor.invariant.0 c.in-Ok.ensures.ok c.new.ensures c.len-values.ensures.count,
    )

pub returns-in-Ok-clause-ok : goal.returns-in-Ok-clause-ok
returns-in-Ok-clause-ok c =
    let e = c.editor.inside in
    let page = ap (λ (t : Tree). linked_page (page_of e.store e.list.items e.selection) (nodes_of_tree t)) c.in-Ok.ensures.ok ∙ c.editor.view_is in
    let first = first_begun e.store e.list.items e.selection e.tree c.begin_trial.new.self c.new.result c.len-values.result c.new.ensures c.len-values.ensures.count c.in-Ok.ensures.ok ∙ c.editor.view_is in
    λ i. record { page = page i; first = first i }
