use Rattle.std.proofs.Common.{◌≡◌, ◌≢◌, None, ◌≤◌, ◌+◌, [], ◌∷◌, sym, ap, ◌∙◌, subst}
use Rattle.model_site.specs.Entries.{entry_of}
use Rattle.model_site.specs.Refused.{edit_cause}
use Rattle.model_site.specs.Replica.{performed}
use Rattle.model_change.specs.Cost.{cost_of_transaction}
use Rattle.ve_editor.specs.Edited.{drafted, drafted_values}
use Rattle.ve_editor.specs.Refusal.{IsEditRefusal}
use Rattle.ve_editor.specs.Page.{LinkedPage, nodes_of_tree, replica_of}
use Rattle.ve_editor.specs.Stays.{NumbersStay}
use Rattle.ve_editor.proofs.StayLemmas.{numbers_drafted, unchanged_cut}
use Rattle.ve_editor.proofs.PerformLemmas.{performed_is, allowed_is, entry_is}
use Rattle.ve_editor.proofs.editor.Editor.perform.Goals as goal

pub returns-in-Ok-clause-allowed : goal.returns-in-Ok-clause-allowed
returns-in-Ok-clause-allowed g c =
    ap (λ (r : LinkedPage). edit_cause (drafted r.store c.args.draft.now) (replica_of r)) (sym c.self.view_is)
    ∙ allowed_is c.args.draft.now c.self.inside.store c.ready.new.store c.self.inside.list.items c.self.inside.selection c.ready.new.list c.ready.new.tree c.in-Ok.performing c.in-Ok.ensures.ok c.in-Ok.ensures.items

pub returns-in-Ok-clause-page : goal.returns-in-Ok-clause-page
returns-in-Ok-clause-page g c =
    performed_is c.args.draft.now c.self.inside.store c.ready.new.store c.self.inside.list.items c.self.inside.selection c.ready.new.list c.ready.new.tree c.in-Ok.performing c.in-Ok.ensures.ok c.in-Ok.ensures.items
    c.commit.new.list.items c.moved-self-inside.result c.commit.ensures.items
    (c.moved-self-inside.ensures c.ready.new.store (drafted_values c.self.inside.store c.args.draft.now))
    ∙ ap (λ (r : LinkedPage). performed (drafted r.store c.args.draft.now) (replica_of r)) c.self.view_is

pub returns-in-Ok-clause-entry : goal.returns-in-Ok-clause-entry
returns-in-Ok-clause-entry g c =
    entry_is c.args.draft.now c.self.inside.store c.ready.new.store c.self.inside.list.items c.self.inside.selection c.ready.new.list c.ready.new.tree c.in-Ok.performing c.in-Ok.ensures.ok c.in-Ok.ensures.items
    ∙ ap (λ (r : LinkedPage). entry_of (drafted r.store c.args.draft.now ∷ []) (replica_of r)) c.self.view_is

pub returns-in-Err-clause-refused : goal.returns-in-Err-clause-refused
returns-in-Err-clause-refused g c =
    subst (λ (r : LinkedPage). IsEditRefusal (edit_cause (drafted r.store c.args.draft.now) (replica_of r)) c.in-Err.fault) c.self.view_is c.in-Err.ensures.refused

pub returns-in-Ok-clause-steps : goal.returns-in-Ok-clause-steps
returns-in-Ok-clause-steps g c =
    subst (λ (r : LinkedPage). c.ready.new.steps ≤ c.args.steps.now + cost_of_transaction (drafted r.store c.args.draft.now) r.items) c.self.view_is c.ready.ensures.steps

pub returns-in-Err-clause-steps : goal.returns-in-Err-clause-steps
returns-in-Err-clause-steps g c =
    subst (λ (r : LinkedPage). c.ready.new.steps ≤ c.args.steps.now + cost_of_transaction (drafted r.store c.args.draft.now) r.items) c.self.view_is c.ready.ensures.steps

pub returns-in-Ok-clause-numbers : goal.returns-in-Ok-clause-numbers
returns-in-Ok-clause-numbers g c =
    subst (λ (p : LinkedPage). NumbersStay (drafted p.store c.args.draft.now) p.items p.nodes (nodes_of_tree c.ready.new.tree)) c.self.view_is
    (numbers_drafted c.self.inside.store c.args.draft.now c.self.inside.list.items c.self.invariant.0.cites c.self.inside.tree c.ready.new.tree c.ready.ensures.root c.in-Ok.ensures.numbers)

pub returns-in-Err-clause-kept : goal.returns-in-Err-clause-kept
returns-in-Err-clause-kept g c =
    unchanged_cut c.args.self.now c.self.inside.store c.ready.new.store c.truncate.new.self c.len-before.result c.self.inside.list.items c.ready.new.list.items c.self.inside.selection
    c.self.inside.tree c.ready.new.tree c.self.view_is c.ready.ensures.extends c.len-before.ensures.count c.truncate.ensures c.ready.ensures.items c.in-Err.ensures.same c.ready.ensures.root

pub returns-in-Ok-clause-steps_if_allowed : goal.returns-in-Ok-clause-steps_if_allowed
returns-in-Ok-clause-steps_if_allowed g c =
    subst (λ (r : LinkedPage). edit_cause (drafted r.store c.args.draft.now) (replica_of r) ≢ None → c.ready.new.steps ≡ c.args.steps.now) c.self.view_is c.ready.ensures.steps_if_allowed

pub returns-in-Err-clause-steps_if_allowed : goal.returns-in-Err-clause-steps_if_allowed
returns-in-Err-clause-steps_if_allowed g c =
    subst (λ (r : LinkedPage). edit_cause (drafted r.store c.args.draft.now) (replica_of r) ≢ None → c.ready.new.steps ≡ c.args.steps.now) c.self.view_is c.ready.ensures.steps_if_allowed
