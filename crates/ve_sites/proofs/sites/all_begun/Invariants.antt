use Rattle.std.proofs.Common.{◌≡◌, ◌≤◌, ◌+◌, ◌*◌}
use Rattle.model_edit.specs.Translate.{between}
use Rattle.model_items.specs.Plain.{plain_list}
use Rattle.model_site.specs.Site.{starting}
use Rattle.ve_editor.specs.Page.{page_of}
use Rattle.model_items.specs.Cost.{cost_of_tree}
use Rattle.ve_sites.specs.Senders.{first_senders}
use Rattle.ve_sites.proofs.sites.all_begun.Given as goal

abbrev pub invariant-loop-number : goal.invariant-loop-number
invariant-loop-number g l = record {
  within : l.number ≤ l.sites;
  kept : l.list ≡ l.fn.list;
  members : l.members.items ≡ first_senders 0 l.number (starting (page_of l.values l.fn.list.items (between 0 0)));
  counted : l.fn.steps ≤ l.steps;
  spent : l.steps ≤ l.fn.steps + l.number * cost_of_tree (plain_list l.values l.fn.list.items);
}
