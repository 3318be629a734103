use Rattle.std.proofs.Common.{◌≡◌, ◌≢◌, None, ◌≤◌, ◌+◌, All, List, [], ◌∷◌, sym, ap, ◌∙◌, subst}
use Rattle.model_change.specs.Cost.{cost_of_transaction}
use Rattle.model_items.specs.declared.item.Item.{Item}
use Rattle.model_items.specs.Plain.{CitesWell}
use Rattle.model_site.specs.Entries.{entry_of}
use Rattle.model_site.specs.Refused.{edit_cause}
use Rattle.model_site.specs.Replica.{performed}
use Rattle.ve_tree.specs.IsTree.{unvalued}
use Rattle.ve_tree.specs.TreeOf.{IsTreeOf}
use Rattle.ve_editor.specs.Edited.{drafted, drafted_values}
use Rattle.ve_editor.specs.Page.{nodes_of_tree, replica_of}
use Rattle.ve_editor.specs.Refusal.{IsEditRefusal}
use Rattle.ve_editor.specs.Stays.{NumbersStay}
use Rattle.ve_editor.specs.Trials.{Tried}
use Rattle.ve_editor.proofs.GoBackLemmas.{first_stays, first_still, goes_back, notes_cut, page_cut, still_goes_back, values_cut}
use Rattle.ve_editor.proofs.PerformLemmas.{performed_is, allowed_is, entry_is}
use Rattle.ve_editor.proofs.StayLemmas.{committed_tree, numbers_drafted, unchanged_cut}
use Rattle.ve_editor.proofs.trial.Trial.perform.Goals as goal

pub invariant_of-self : goal.invariant_of-self
invariant_of-self g c =
    let t = c.self.inside in
    let new = c.ready.new.store in
    let will = c.in-Ok.ensures.ok.change in (
      record {
        cites = subst (λ (l : List Item). All (CitesWell new) l) (sym c.commit.ensures.items) will.cites;
        tree = subst (λ (l : List Item). IsTreeOf c.ready.new.tree (unvalued l)) (sym c.commit.ensures.items) will.tree;
      },
      goes_back t.store new t.list c.ready.new.list c.commit.new.list c.in-Ok.performing.change.splices.items t.back c.ready.new.notes t.values t.tree c.ready.new.tree c.self.invariant.1
          c.ready.ensures.extends c.ready.ensures.items will.fits.within c.commit.ensures.items c.in-Ok.ensures.notes.0 c.ready.ensures.first c.ready.ensures.root c.in-Ok.ensures.notes.1 c.commit.ensures.spare,
    )

pub invariant_of-self-in-Err : goal.invariant_of-self-in-Err
invariant_of-self-in-Err g c =
    let t = c.self.inside in
    let values = values_cut t.store c.ready.new.store c.truncate.new.self c.len-before.result c.ready.ensures.extends c.len-before.ensures.count c.truncate.ensures in
    let notes = notes_cut t.back c.ready.new.notes c.truncate-in-Err.new.self c.len-noted.result c.ready.ensures.front c.len-noted.ensures c.truncate-in-Err.ensures in (
      page_cut t.store c.truncate.new.self t.list.items c.ready.new.list.items c.ready.new.tree c.self.invariant.0.cites values c.ready.ensures.items c.in-Err.ensures.kept,
      still_goes_back t.store c.truncate.new.self t.list c.ready.new.list t.back c.truncate-in-Err.new.self t.values t.tree c.ready.new.tree c.self.invariant.1
          values c.ready.ensures.items c.ready.ensures.spare notes c.ready.ensures.first c.ready.ensures.root,
    )

pub returns-in-Ok-clause-allowed : goal.returns-in-Ok-clause-allowed
returns-in-Ok-clause-allowed g c =
    ap (λ (t : Tried). edit_cause (drafted t.page.store c.args.draft.now) (replica_of t.page)) (sym c.self.view_is)
    ∙ allowed_is c.args.draft.now c.self.inside.store c.ready.new.store c.self.inside.list.items c.self.inside.selection c.ready.new.list c.ready.new.tree c.in-Ok.performing c.in-Ok.ensures.ok
    c.ready.ensures.items

pub returns-in-Ok-clause-page : goal.returns-in-Ok-clause-page
returns-in-Ok-clause-page g c =
    performed_is c.args.draft.now c.self.inside.store c.ready.new.store c.self.inside.list.items c.self.inside.selection c.ready.new.list c.ready.new.tree c.in-Ok.performing c.in-Ok.ensures.ok
    c.ready.ensures.items c.commit.new.list.items c.moved-self-inside.result c.commit.ensures.items
    (c.moved-self-inside.ensures c.ready.new.store (drafted_values c.self.inside.store c.args.draft.now))
    ∙ ap (λ (t : Tried). performed (drafted t.page.store c.args.draft.now) (replica_of t.page)) c.self.view_is

pub returns-in-Ok-clause-first : goal.returns-in-Ok-clause-first
returns-in-Ok-clause-first g c =
    let t = c.self.inside in
    first_stays t.store c.ready.new.store t.list c.ready.new.list c.commit.new.list c.in-Ok.performing.change.splices.items t.back c.ready.new.notes t.values t.tree c.ready.new.tree c.self.invariant.1
    c.ready.ensures.extends c.ready.ensures.items c.in-Ok.ensures.ok.change.fits.within c.commit.ensures.items c.in-Ok.ensures.notes.0 c.ready.ensures.first c.ready.ensures.root t.first_selection
    ∙ ap (λ (t : Tried). t.first) c.self.view_is

pub returns-in-Err-clause-first : goal.returns-in-Err-clause-first
returns-in-Err-clause-first g c =
    let t = c.self.inside in
    let values = values_cut t.store c.ready.new.store c.truncate.new.self c.len-before.result c.ready.ensures.extends c.len-before.ensures.count c.truncate.ensures in
    let notes = notes_cut t.back c.ready.new.notes c.truncate-in-Err.new.self c.len-noted.result c.ready.ensures.front c.len-noted.ensures c.truncate-in-Err.ensures in
    first_still t.store c.truncate.new.self t.list c.ready.new.list t.back c.truncate-in-Err.new.self t.values t.first_selection t.tree c.ready.new.tree c.self.invariant.1
    values c.ready.ensures.items notes c.ready.ensures.first c.ready.ensures.root
    ∙ ap (λ (t : Tried). t.first) c.self.view_is

pub returns-in-Ok-clause-steps : goal.returns-in-Ok-clause-steps
returns-in-Ok-clause-steps g c =
    subst (λ (t : Tried). c.ready.new.steps ≤ c.args.steps.now + cost_of_transaction (drafted t.page.store c.args.draft.now) t.page.items) c.self.view_is c.ready.ensures.steps

pub returns-in-Err-clause-refused : goal.returns-in-Err-clause-refused
returns-in-Err-clause-refused g c =
    subst (λ (t : Tried). IsEditRefusal (edit_cause (drafted t.page.store c.args.draft.now) (replica_of t.page)) c.in-Err.fault) c.self.view_is c.in-Err.ensures.refused

pub returns-in-Err-clause-kept : goal.returns-in-Err-clause-kept
returns-in-Err-clause-kept g c =
    let t = c.self.inside in
    unchanged_cut c.args.self.now.page t.store c.ready.new.store c.truncate.new.self c.len-before.result t.list.items c.ready.new.list.items t.selection t.tree c.ready.new.tree
    (ap (λ (t : Tried). t.page) c.self.view_is) c.ready.ensures.extends c.len-before.ensures.count c.truncate.ensures c.ready.ensures.items c.in-Err.ensures.same c.ready.ensures.root

pub returns-in-Err-clause-steps : goal.returns-in-Err-clause-steps
returns-in-Err-clause-steps g c =
    subst (λ (t : Tried). c.ready.new.steps ≤ c.args.steps.now + cost_of_transaction (drafted t.page.store c.args.draft.now) t.page.items) c.self.view_is c.ready.ensures.steps

pub returns-in-Ok-clause-steps_if_allowed : goal.returns-in-Ok-clause-steps_if_allowed
returns-in-Ok-clause-steps_if_allowed g c =
    subst (λ (t : Tried). edit_cause (drafted t.page.store c.args.draft.now) (replica_of t.page) ≢ None → c.ready.new.steps ≡ c.args.steps.now) c.self.view_is c.ready.ensures.steps_if_allowed

pub returns-in-Err-clause-steps_if_allowed : goal.returns-in-Err-clause-steps_if_allowed
returns-in-Err-clause-steps_if_allowed g c =
    subst (λ (t : Tried). edit_cause (drafted t.page.store c.args.draft.now) (replica_of t.page) ≢ None → c.ready.new.steps ≡ c.args.steps.now) c.self.view_is c.ready.ensures.steps_if_allowed

pub returns-in-Ok-clause-numbers : goal.returns-in-Ok-clause-numbers
returns-in-Ok-clause-numbers g c =
    let t = c.self.inside in
    subst (λ (s : Tried). NumbersStay (drafted s.page.store c.args.draft.now) s.page.items s.page.nodes (nodes_of_tree c.ready.new.tree)) c.self.view_is
    (numbers_drafted t.store c.args.draft.now t.list.items c.self.invariant.0.cites t.tree c.ready.new.tree c.ready.ensures.root c.in-Ok.ensures.numbers)

pub returns-in-Ok-clause-tree : goal.returns-in-Ok-clause-tree
returns-in-Ok-clause-tree g c =
    let t = c.self.inside in
    committed_tree (drafted t.store c.args.draft.now) t.store c.ready.new.store c.ready.new.list c.ready.new.tree c.in-Ok.performing.change
    c.commit.new.list.items c.in-Ok.ensures.ok.change c.commit.ensures.items

pub returns-in-Ok-clause-entry : goal.returns-in-Ok-clause-entry
returns-in-Ok-clause-entry g c =
    entry_is c.args.draft.now c.self.inside.store c.ready.new.store c.self.inside.list.items c.self.inside.selection c.ready.new.list c.ready.new.tree c.in-Ok.performing c.in-Ok.ensures.ok
    c.ready.ensures.items
    ∙ ap (λ (t : Tried). entry_of (drafted t.page.store c.args.draft.now ∷ []) (replica_of t.page)) c.self.view_is
