use Rattle.std.proofs.Common.{◌≤◌, ◌+◌, [], ◌∷◌, ap, ◌∙◌, subst, All, List, Some, sym}
use Rattle.model_items.specs.Plain.{plain_list, CitesWell}
use Rattle.model_change.specs.Inverse.{filled}
use Rattle.model_site.specs.Replica.{performed}
use Rattle.ve_tx.specs.Operation.{by_value}
use Rattle.model_items.specs.declared.item.Item.{Item}
use Rattle.ve_tree.specs.IsTree.{unvalued}
use Rattle.ve_tree.specs.TreeOf.{IsTreeOf}
use Rattle.ve_editor.specs.Page.{nodes_of_tree, replica_of}
use Rattle.ve_editor.specs.Stays.{NumbersStay}
use Rattle.ve_editor.specs.Trials.{Tried}
use Rattle.ve_editor.proofs.GoBackLemmas.{first_stays, first_still, goes_back, notes_cut, page_cut, still_goes_back, values_cut}
use Rattle.ve_editor.proofs.StayLemmas.{committed_tree, unchanged_cut}
use Rattle.ve_editor.proofs.PerformLemmas.{other_is}
use Rattle.model_change.specs.Cost.{cost_of_transaction}
use Rattle.ve_editor.proofs.trial.TrialInPlace.perform_other.Goals as goal

pub returns-in-Ok-clause-page : goal.returns-in-Ok-clause-page
returns-in-Ok-clause-page g c =
    other_is (by_value c.args.values.now c.args.tx.now) c.self.inside.store c.ready_other.new.store c.self.inside.list.items c.commit.new.list.items c.self.inside.selection
    c.moved-self-inside.result c.ready_other.new.list c.ready_other.new.tree c.in-Ok.admitting c.in-Ok.ensures.ok c.in-Ok.ensures.items c.commit.ensures.items
    (c.moved-self-inside.ensures c.ready_other.new.store c.args.values.now)
    ∙ ap (λ (s : Tried). performed (by_value c.args.values.now c.args.tx.now) (replica_of s.page)) c.self.view_is

pub returns-in-Ok-clause-txs : goal.returns-in-Ok-clause-txs
returns-in-Ok-clause-txs g c =
    let t = by_value c.args.values.now c.args.tx.now in
    c.in-Ok.ensures.ok.txs ∙ ap (λ l. filled t (plain_list c.self.inside.store l) ∷ []) c.in-Ok.ensures.items ∙ ap (λ (s : Tried). filled t s.page.items ∷ []) c.self.view_is

pub returns-in-Err-clause-steps : goal.returns-in-Err-clause-steps
returns-in-Err-clause-steps g c =
    subst (λ (s : Tried). c.ready_other.new.steps ≤ c.args.steps.now + cost_of_transaction (by_value c.args.values.now c.args.tx.now) s.page.items) c.self.view_is c.ready_other.ensures.steps

pub returns-in-Ok-clause-steps : goal.returns-in-Ok-clause-steps
returns-in-Ok-clause-steps g c =
    subst (λ (s : Tried). c.ready_other.new.steps ≤ c.args.steps.now + cost_of_transaction (by_value c.args.values.now c.args.tx.now) s.page.items) c.self.view_is c.ready_other.ensures.steps

pub returns-in-Ok-clause-numbers : goal.returns-in-Ok-clause-numbers
returns-in-Ok-clause-numbers g c =
    subst (λ (s : Tried). NumbersStay (by_value c.args.values.now c.args.tx.now) s.page.items s.page.nodes (nodes_of_tree c.ready_other.new.tree)) c.self.view_is c.in-Ok.ensures.numbers

pub returns-in-Ok-clause-tree : goal.returns-in-Ok-clause-tree
returns-in-Ok-clause-tree g c =
    committed_tree (by_value c.args.values.now c.args.tx.now) c.self.inside.store c.ready_other.new.store c.ready_other.new.list c.ready_other.new.tree c.in-Ok.admitting.change
    c.commit.new.list.items c.in-Ok.ensures.ok.change c.commit.ensures.items

pub returns-in-Err-clause-kept : goal.returns-in-Err-clause-kept
returns-in-Err-clause-kept g c =
    unchanged_cut c.args.self.now.page c.self.inside.store c.ready_other.new.store c.truncate.new.self c.len-stored.result c.self.inside.list.items c.ready_other.new.list.items c.self.inside.selection
    c.self.inside.tree c.ready_other.new.tree (ap (λ (s : Tried). s.page) c.self.view_is) c.ready_other.ensures.extends c.len-stored.ensures.count c.truncate.ensures c.ready_other.ensures.items c.in-Err.ensures.same
    c.ready_other.ensures.root

pub invariant_of-self : goal.invariant_of-self
invariant_of-self g c =
    let t = c.self.inside in
    let new = c.ready_other.new.store in
    let will = c.in-Ok.ensures.ok.change in (
      record {
        cites = subst (λ (l : List Item). All (CitesWell new) l) (sym c.commit.ensures.items) will.cites;
        tree = subst (λ (l : List Item). IsTreeOf c.ready_other.new.tree (unvalued l)) (sym c.commit.ensures.items) will.tree;
      },
      goes_back t.store new t.list c.ready_other.new.list c.commit.new.list c.in-Ok.admitting.change.splices.items t.back c.ready_other.new.notes t.values t.tree c.ready_other.new.tree c.self.invariant.1
          c.ready_other.ensures.extends c.ready_other.ensures.items will.fits.within c.commit.ensures.items c.in-Ok.ensures.notes.0 c.ready_other.ensures.first c.ready_other.ensures.root c.in-Ok.ensures.notes.1 c.commit.ensures.spare,
    )

pub invariant_of-self-in-Err : goal.invariant_of-self-in-Err
invariant_of-self-in-Err g c =
    let t = c.self.inside in
    let values = values_cut t.store c.ready_other.new.store c.truncate.new.self c.len-stored.result c.ready_other.ensures.extends c.len-stored.ensures.count c.truncate.ensures in
    let notes = notes_cut t.back c.ready_other.new.notes c.truncate-in-Err.new.self c.len-noted.result c.ready_other.ensures.front c.len-noted.ensures c.truncate-in-Err.ensures in (
      page_cut t.store c.truncate.new.self t.list.items c.ready_other.new.list.items c.ready_other.new.tree c.self.invariant.0.cites values c.ready_other.ensures.items c.in-Err.ensures.kept,
      still_goes_back t.store c.truncate.new.self t.list c.ready_other.new.list t.back c.truncate-in-Err.new.self t.values t.tree c.ready_other.new.tree c.self.invariant.1
          values c.ready_other.ensures.items c.ready_other.ensures.spare notes c.ready_other.ensures.first c.ready_other.ensures.root,
    )

pub returns-in-Ok-clause-start : goal.returns-in-Ok-clause-start
returns-in-Ok-clause-start g c =
    let t = c.self.inside in
    ap Some (first_stays t.store c.ready_other.new.store t.list c.ready_other.new.list c.commit.new.list c.in-Ok.admitting.change.splices.items t.back c.ready_other.new.notes t.values t.tree c.ready_other.new.tree c.self.invariant.1
    c.ready_other.ensures.extends c.ready_other.ensures.items c.in-Ok.ensures.ok.change.fits.within c.commit.ensures.items c.in-Ok.ensures.notes.0 c.ready_other.ensures.first c.ready_other.ensures.root t.first_selection
    ∙ ap (λ (t : Tried). t.first) c.self.view_is)

pub returns-in-Err-clause-start : goal.returns-in-Err-clause-start
returns-in-Err-clause-start g c =
    let t = c.self.inside in
    let values = values_cut t.store c.ready_other.new.store c.truncate.new.self c.len-stored.result c.ready_other.ensures.extends c.len-stored.ensures.count c.truncate.ensures in
    let notes = notes_cut t.back c.ready_other.new.notes c.truncate-in-Err.new.self c.len-noted.result c.ready_other.ensures.front c.len-noted.ensures c.truncate-in-Err.ensures in
    ap Some (first_still t.store c.truncate.new.self t.list c.ready_other.new.list t.back c.truncate-in-Err.new.self t.values t.first_selection t.tree c.ready_other.new.tree c.self.invariant.1
    values c.ready_other.ensures.items notes c.ready_other.ensures.first c.ready_other.ensures.root
    ∙ ap (λ (t : Tried). t.first) c.self.view_is)
