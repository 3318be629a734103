use Rattle.std.proofs.Common.{◌≤◌, ◌+◌, [], sym, ap, ◌∙◌, subst}
use Rattle.model_edit.specs.Translate.{between}
use Rattle.model_items.specs.Plain.{plain_list}
use Rattle.model_site.specs.Replica.{Replica}
use Rattle.model_site.specs.Site.{starting}
use Rattle.model_site_law.specs.SelectionLaws.{StandsIn}
use Rattle.model_site_law.specs.Sound.{Sound}
use Rattle.model_site_law.proofs.KeptLemmas.{first_selection_stands}
use Rattle.model_items.proofs.VerdictLemmas.{verdict_reads_no_values}
use Rattle.model_items.specs.Law.{Lawful}
use Rattle.ve_editor.specs.Page.{page_of}
use Rattle.model_items.specs.Cost.{cost_of_tree}
use Rattle.ve_site.specs.Numbered.{Numbered}
use Rattle.ve_sites.proofs.sites.begin.Goals as goal

pub new-requires-clause-lawful : goal.new-requires-clause-lawful
new-requires-clause-lawful g c =
    let v = c.args.values.now in
    verdict_reads_no_values [] v c.in_ok-list.list.items ∙ subst Lawful (sym (ap (plain_list v) c.in_ok-list.ensures.items)) c.requires.sound.lawful

pub new-requires-2-clause-sound : goal.new-requires-2-clause-sound
new-requires-2-clause-sound g c =
    let v = c.args.values.now in
    let copied = ap (λ vs. page_of vs c.in_ok-list.list.items (between 0 0)) c.in_ok-values.ensures ∙ ap (λ is. page_of v is (between 0 0)) c.in_ok-list.ensures.items in
    subst Sound (sym (ap (λ (r : Replica). r.items) (c.in_ok-editor.ensures.ok ∙ copied))) c.requires.sound

pub new-requires-2-clause-selection : goal.new-requires-2-clause-selection
new-requires-2-clause-selection g c =
    let v = c.args.values.now in
    let copied = ap (λ vs. page_of vs c.in_ok-list.list.items (between 0 0)) c.in_ok-values.ensures ∙ ap (λ is. page_of v is (between 0 0)) c.in_ok-list.ensures.items in
    subst (λ (r : Replica). StandsIn r.items r.selection) (sym (c.in_ok-editor.ensures.ok ∙ copied)) (first_selection_stands (plain_list v c.args.list.now.items))

pub returns-clause-ok : goal.returns-clause-ok
returns-clause-ok g c =
    let v = c.args.values.now in
    let copied = ap (λ vs. page_of vs c.in_ok-list.list.items (between 0 0)) c.in_ok-values.ensures ∙ ap (λ is. page_of v is (between 0 0)) c.in_ok-list.ensures.items in
    c.new-3.ensures ∙ (ap (λ (n : Numbered). record { number = n.number; site = n.site; submissions = [] }) c.in_ok-new.ensures
    ∙ ap (λ (r : Replica). record { number = c.args.number; site = starting r; submissions = [] }) (c.in_ok-editor.ensures.ok ∙ copied))

pub returns-in_err-editor-clause-steps : goal.returns-in_err-editor-clause-steps
returns-in_err-editor-clause-steps g c =
    let v = c.args.values.now in
    subst (λ l. c.new.new.steps ≤ c.args.steps.now + cost_of_tree l) (ap (λ vs. plain_list vs c.in_ok-list.list.items) c.in_ok-values.ensures ∙ ap (plain_list v) c.in_ok-list.ensures.items) c.new.ensures.steps

pub returns-clause-steps : goal.returns-clause-steps
returns-clause-steps g c =
    let v = c.args.values.now in
    subst (λ l. c.new.new.steps ≤ c.args.steps.now + cost_of_tree l) (ap (λ vs. plain_list vs c.in_ok-list.list.items) c.in_ok-values.ensures ∙ ap (plain_list v) c.in_ok-list.ensures.items) c.new.ensures.steps
