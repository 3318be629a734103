use Rattle.std.proofs.Common.{None, ap, ◌∙◌}
use Rattle.ve_tree.specs.declared.tree.Tree.{Tree}
use Rattle.ve_editor.specs.Page.{linked_page, nodes_of_tree, page_of}
use Rattle.ve_editor.specs.Trials.{Tried}
use Rattle.ve_editor.proofs.GoBackLemmas.{page_stays}
use Rattle.ve_editor.proofs.trial.Trial.keep.Goals as goal

pub invariant_of-result : goal.invariant_of-result
invariant_of-result c =
    let t = c.self.inside in
    (page_stays t.store t.list.items t.tree c.keep.new.self None c.self.invariant.0 c.keep.ensures, ap (λ (t : Tree). t.arena.first) c.keep.ensures)

pub returns : goal.returns
returns c =
    let t = c.self.inside in
    ap (λ (l : Tree). linked_page (page_of t.store t.list.items t.selection) (nodes_of_tree l)) c.keep.ensures ∙ ap (λ (t : Tried). t.page) c.self.view_is
