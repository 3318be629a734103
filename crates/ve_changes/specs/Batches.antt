-- Changes that were performed one after the other, as one entry.
use Rattle.std.specs.Prelude.{◌≡◌, ℕ, List, [], ◌∷◌, None, Result, Ok, Err}
use Rattle.model_change.specs.Transaction.{Transaction}
use Rattle.model_site.specs.Entries.{entry_of}
use Rattle.model_site.specs.Replica.{performed}
use Rattle.model_site_law.specs.Sound.{MayRun}
use Rattle.model_world.specs.declared.refusal.Refusal.{Refusal}
use Rattle.model_world.specs.Edits.{BatchRefusal}
use Rattle.ve_tree.specs.IsTree.{IsTree}
use Rattle.ve_tx.specs.declared.entry.Entry.{Entry}
use Rattle.ve_editor.specs.Edited.{EntryCites, entry_by_value}
use Rattle.ve_editor.specs.Page.{LinkedPage, replica_of}
use Rattle.ve_editor.specs.Stays.{NumbersStay}
use Rattle.ve_editor.specs.Trials.{IsMade}
use Rattle.ve_changes.specs.declared.faults.ChangeStop.{ChangeStop}
use Rattle.ve_changes.specs.declared.faults.ChangeStop.TheVariants as one
use Rattle.ve_changes.specs.declared.batch_stop.BatchStop.{BatchStop}
use Rattle.ve_changes.specs.declared.batch_stop.BatchStop.TheVariants as stop

-- The model's changes, performed on this page: the new one is as they leave it, and the entry is
-- theirs.
abbrev pub IsBatch : LinkedPage → Result (List Transaction) BatchRefusal → LinkedPage → Entry → Type 0
IsBatch old meant new e = IsMade (λ ts. meant ≡ Ok ts) old new e

-- A refusal is the model's, with its position; memory may be wanting at any time.
abbrev pub IsBatchRefused : Result (List Transaction) BatchRefusal → BatchStop → Type 0
IsBatchRefused meant (stop.Refused at refusal) = meant ≡ Err (record { at = at; refusal = refusal })
IsBatchRefused meant stop.Memory = Unit {0}

-- ---- one change

-- The model's change, performed. Nodes that stay keep their numbers, and the nodes are still the
-- list's tree.
pub record IsPerformed (old : LinkedPage) (meant : Result Transaction Refusal) (new : LinkedPage) (e : Entry) : Type 0 where
  pub t : Transaction
  pub same : meant ≡ Ok t
  pub may : MayRun t old.items
  pub page : replica_of new ≡ performed t (replica_of old)
  pub entry : entry_by_value new.store e ≡ entry_of (t ∷ []) (replica_of old)
  pub cites : EntryCites new.store e
  pub numbers : NumbersStay t old.items old.nodes new.nodes
  pub tree : IsTree new.nodes.slots new.nodes.root new.items

-- the stop of the change at a position, as the stop of all of them
abbrev pub stop_at : ℕ → ChangeStop → BatchStop
stop_at at (one.Refused refusal) = stop.Refused at refusal
stop_at at one.Memory = stop.Memory

-- the entry of no changes, over a store of so many values
abbrev pub no_entry : ℕ → Entry
no_entry count = record { txs = []; store_before = count; store_after = count; takes_back = None }
