use Rattle.std.proofs.Common.{◌≤◌, ◌+◌, sym, ap, ◌∙◌, subst}
use Rattle.model_site.specs.Replica.{put_back}
use Rattle.ve_tx.specs.Cites.{TxCites}
use Rattle.ve_tx.specs.Operation.{by_value}
use Rattle.ve_editor.specs.Page.{LinkedPage, nodes_of_tree, replica_of}
use Rattle.ve_editor.specs.Stays.{NumbersStay}
use Rattle.ve_editor.proofs.StayLemmas.{committed_tree, numbers_stay, unchanged_cut}
use Rattle.ve_editor.proofs.PerformLemmas.{put_back_is}
use Rattle.model_change.specs.Cost.{cost_of_transaction}
use Rattle.ve_editor.proofs.in_place.EditorInPlace.put_back.Goals as goal

pub returns-in-Ok-clause-page : goal.returns-in-Ok-clause-page
returns-in-Ok-clause-page g c =
    put_back_is (by_value c.self.inside.store c.args.tx.now) c.self.inside.store c.ready_back.new.store c.self.inside.list.items c.commit.new.list.items c.self.inside.selection
    c.moved-self-inside.result c.ready_back.new.list c.ready_back.new.tree c.in-Ok.change c.in-Ok.ensures.ok c.in-Ok.ensures.items c.commit.ensures.items (c.moved-self-inside.ensures c.ready_back.new.store c.self.inside.store)
    ∙ ap (λ (r : LinkedPage). put_back (by_value r.store c.args.tx.now) (replica_of r)) c.self.view_is

pub ready_back-requires-clause-cites : goal.ready_back-requires-clause-cites
ready_back-requires-clause-cites g c = subst (λ (r : LinkedPage). TxCites r.store c.args.tx.now) (sym c.self.view_is) c.requires.cites

pub returns-in-Err-clause-steps : goal.returns-in-Err-clause-steps
returns-in-Err-clause-steps g c =
    subst (λ (r : LinkedPage). c.ready_back.new.steps ≤ c.args.steps.now + cost_of_transaction (by_value r.store c.args.tx.now) r.items) c.self.view_is c.ready_back.ensures.steps

pub returns-in-Ok-clause-steps : goal.returns-in-Ok-clause-steps
returns-in-Ok-clause-steps g c =
    subst (λ (r : LinkedPage). c.ready_back.new.steps ≤ c.args.steps.now + cost_of_transaction (by_value r.store c.args.tx.now) r.items) c.self.view_is c.ready_back.ensures.steps

pub returns-in-Ok-clause-numbers : goal.returns-in-Ok-clause-numbers
returns-in-Ok-clause-numbers g c =
    subst (λ (p : LinkedPage). NumbersStay (by_value p.store c.args.tx.now) p.items p.nodes (nodes_of_tree c.ready_back.new.tree)) c.self.view_is
    (numbers_stay c.self.inside.store c.args.tx.now c.self.inside.list.items c.self.inside.tree c.ready_back.new.tree c.ready_back.ensures.root c.in-Ok.ensures.numbers)

pub returns-in-Ok-clause-tree : goal.returns-in-Ok-clause-tree
returns-in-Ok-clause-tree g c =
    committed_tree (by_value c.self.inside.store c.args.tx.now) c.self.inside.store c.ready_back.new.store c.ready_back.new.list c.ready_back.new.tree c.in-Ok.change c.commit.new.list.items
    c.in-Ok.ensures.ok.change c.commit.ensures.items

pub returns-in-Err-clause-kept : goal.returns-in-Err-clause-kept
returns-in-Err-clause-kept g c =
    unchanged_cut c.args.self.now c.self.inside.store c.ready_back.new.store c.truncate.new.self c.len-before.result c.self.inside.list.items c.ready_back.new.list.items c.self.inside.selection
    c.self.inside.tree c.ready_back.new.tree c.self.view_is c.ready_back.ensures.extends c.len-before.ensures.count c.truncate.ensures c.ready_back.ensures.items c.in-Err.ensures.same
    c.ready_back.ensures.root
