use Rattle.std.proofs.Common.{◌≤◌, ◌+◌, [], ◌∷◌, ap, ◌∙◌, subst}
use Rattle.model_items.specs.Plain.{plain_list}
use Rattle.model_change.specs.Inverse.{filled}
use Rattle.model_site.specs.Replica.{performed}
use Rattle.ve_tx.specs.Operation.{by_value}
use Rattle.ve_editor.specs.Page.{LinkedPage, nodes_of_tree, replica_of}
use Rattle.ve_editor.specs.Stays.{NumbersStay}
use Rattle.ve_editor.proofs.StayLemmas.{committed_tree, unchanged_cut}
use Rattle.ve_editor.proofs.PerformLemmas.{other_is}
use Rattle.model_change.specs.Cost.{cost_of_transaction}
use Rattle.ve_editor.proofs.in_place.EditorInPlace.perform_other.Goals as goal

pub returns-in-Ok-clause-page : goal.returns-in-Ok-clause-page
returns-in-Ok-clause-page g c =
    other_is (by_value c.args.values.now c.args.tx.now) c.self.inside.store c.ready_other.new.store c.self.inside.list.items c.commit.new.list.items c.self.inside.selection
    c.moved-self-inside.result c.ready_other.new.list c.ready_other.new.tree c.in-Ok.admitting c.in-Ok.ensures.ok c.in-Ok.ensures.items c.commit.ensures.items
    (c.moved-self-inside.ensures c.ready_other.new.store c.args.values.now)
    ∙ ap (λ (r : LinkedPage). performed (by_value c.args.values.now c.args.tx.now) (replica_of r)) c.self.view_is

pub returns-in-Ok-clause-txs : goal.returns-in-Ok-clause-txs
returns-in-Ok-clause-txs g c =
    let t = by_value c.args.values.now c.args.tx.now in
    c.in-Ok.ensures.ok.txs ∙ ap (λ l. filled t (plain_list c.self.inside.store l) ∷ []) c.in-Ok.ensures.items ∙ ap (λ (r : LinkedPage). filled t r.items ∷ []) c.self.view_is

pub returns-in-Err-clause-steps : goal.returns-in-Err-clause-steps
returns-in-Err-clause-steps g c =
    subst (λ (r : LinkedPage). c.ready_other.new.steps ≤ c.args.steps.now + cost_of_transaction (by_value c.args.values.now c.args.tx.now) r.items) c.self.view_is c.ready_other.ensures.steps

pub returns-in-Ok-clause-steps : goal.returns-in-Ok-clause-steps
returns-in-Ok-clause-steps g c =
    subst (λ (r : LinkedPage). c.ready_other.new.steps ≤ c.args.steps.now + cost_of_transaction (by_value c.args.values.now c.args.tx.now) r.items) c.self.view_is c.ready_other.ensures.steps

pub returns-in-Ok-clause-numbers : goal.returns-in-Ok-clause-numbers
returns-in-Ok-clause-numbers g c =
    subst (λ (p : LinkedPage). NumbersStay (by_value c.args.values.now c.args.tx.now) p.items p.nodes (nodes_of_tree c.ready_other.new.tree)) c.self.view_is c.in-Ok.ensures.numbers

pub returns-in-Ok-clause-tree : goal.returns-in-Ok-clause-tree
returns-in-Ok-clause-tree g c =
    committed_tree (by_value c.args.values.now c.args.tx.now) c.self.inside.store c.ready_other.new.store c.ready_other.new.list c.ready_other.new.tree c.in-Ok.admitting.change
    c.commit.new.list.items c.in-Ok.ensures.ok.change c.commit.ensures.items

pub returns-in-Err-clause-kept : goal.returns-in-Err-clause-kept
returns-in-Err-clause-kept g c =
    unchanged_cut c.args.self.now c.self.inside.store c.ready_other.new.store c.truncate.new.self c.len-stored.result c.self.inside.list.items c.ready_other.new.list.items c.self.inside.selection
    c.self.inside.tree c.ready_other.new.tree c.self.view_is c.ready_other.ensures.extends c.len-stored.ensures.count c.truncate.ensures c.ready_other.ensures.items c.in-Err.ensures.same
    c.ready_other.ensures.root
