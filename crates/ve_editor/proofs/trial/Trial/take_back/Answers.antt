use Rattle.std.proofs.Common.{◌≡◌, ap, ◌∙◌}
use Rattle.ve_arena.specs.Arena.{ArenaView}
use Rattle.ve_tree.specs.IsTree.{unvalued}
use Rattle.ve_tx.specs.Spliced.{spliced_by}
use Rattle.ve_editor.specs.Page.{first_nodes, linked_page, nodes_of_tree, page_of}
use Rattle.ve_editor.specs.Trials.{Tried}
use Rattle.ve_editor.proofs.GoBackLemmas.{page_back}
use Rattle.ve_editor.proofs.trial.Trial.take_back.Goals as goal

pub take_back-requires : goal.take_back-requires
take_back-requires c = let t = c.self.inside in record { tree = record { items = unvalued (spliced_by t.list.items t.back); tree = c.self.invariant.1.tree } }

pub invariant_of-result : goal.invariant_of-result
invariant_of-result c =
    let t = c.self.inside in (
      page_back t.store c.restored-store.result t.list c.put_back.new.list.items t.back t.values t.tree c.take_back.new.self c.self.invariant.1 c.restored-store.ensures c.put_back.ensures c.take_back.ensures.tree,
      ap (λ (a : ArenaView). a.first) c.take_back.ensures.arena,
    )

pub returns : goal.returns
returns c =
    let t = c.self.inside in
    let nodes : nodes_of_tree c.take_back.new.self ≡ first_nodes t.tree =
    λ i. record { slots = (c.take_back.ensures.arena i).slots; root = c.take_back.ensures.root i } in
    (λ i. linked_page (page_of (c.restored-store.ensures i) (c.put_back.ensures i) t.first_selection) (nodes i)) ∙ ap (λ (t : Tried). t.first) c.self.view_is
