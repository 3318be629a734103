-- Several changes of a page that are made all together or not at all.
use Rattle.std.specs.Prelude.{◌≡◌, List}
use Rattle.ve_base.specs.declared.value.Value.{Value}
use Rattle.model_items.specs.declared.item.Item.{Item}
use Rattle.model_change.specs.Transaction.{Transaction}
use Rattle.model_edit.specs.declared.selection.Selection.{Selection}
use Rattle.model_site.specs.Entries.{entry_of}
use Rattle.model_site.specs.Replica.{all_performed}
use Rattle.model_site_law.specs.Sound.{AllMayRun}
use Rattle.ve_tx.specs.Spliced.{spliced_by}
use Rattle.ve_tx.specs.declared.entry.Entry.{Entry}
use Rattle.ve_tx.specs.declared.splice.Splice.{Splice}
use Rattle.ve_editor.specs.declared.first_values.FirstValues.{FirstValues}
use Rattle.ve_editor.specs.Back.{first_values}
use Rattle.ve_editor.specs.Edited.{entry_by_value, EntryCites}
use Rattle.ve_editor.specs.Page.{LinkedPage, Nodes, linked_page, page_of, replica_of}
use Rattle.ve_editor.specs.Stays.{NumbersStayOver}

-- The view of a trial: its page, and what the page was when it began.
pub record Tried : Type 0 where
  pub page : LinkedPage
  pub first : LinkedPage

-- what a page was: these splices take its list back, and it had these values and nodes
abbrev pub first_page : List Value → List Item → List Splice → FirstValues → Selection → Nodes → LinkedPage
first_page store items back values selected nodes = linked_page (page_of (first_values store values) (spliced_by items back) selected) nodes

-- Transactions that are asked for, performed one after the other on a page, give this page and this
-- entry, and nodes that stay over each of them keep their numbers.
pub record IsMade (Asked : List Transaction → Type 0) (old new : LinkedPage) (e : Entry) : Type 0 where
  pub ts : List Transaction
  pub asked : Asked ts
  pub may : AllMayRun ts old.items
  pub page : replica_of new ≡ all_performed ts (replica_of old)
  pub entry : entry_by_value new.store e ≡ entry_of ts (replica_of old)
  pub cites : EntryCites new.store e
  pub numbers : NumbersStayOver ts old.items old.nodes new.nodes
