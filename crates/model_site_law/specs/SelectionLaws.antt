-- Where the ends of selections stand.
use Rattle.std.specs.Prelude.{◌≡◌, ◌≤◌, ℕ, false, List, [], ◌∷◌, length, slice_get, Some}
use Rattle.model_items.specs.declared.plain_item.PlainItem.{PlainItem}
use Rattle.model_items.specs.Law.{Lawful}
use Rattle.model_change.specs.Transaction.{Transaction, edited}
use Rattle.model_change.specs.Fault.{Applies}
use Rattle.model_edit.specs.declared.selection.Selection.{Selection}
use Rattle.model_items.specs.Offsets.{is_inside_leaf}
use Rattle.model_edit.specs.Translate.{moved_selection}
use Rattle.model_site.specs.Replica.{Replica, opened_with}
use Rattle.model_site.specs.Session.{Member, Session, started}
use Rattle.model_site.specs.Events.{Event, Select, happens, run}
use Rattle.model_site_law.specs.Sound.{Opens}
use Rattle.model_site_law.specs.MayHappen.{AllMayHappen}

-- the offset is one of the list, and not inside a leaf
abbrev pub EndStands : List PlainItem → ℕ → Type 0
EndStands items at = (at ≤ length items) × (is_inside_leaf items at ≡ false)

-- both ends do
pub record StandsIn (items : List PlainItem) (s : Selection) : Type 0 where
  pub anchor : EndStands items s.anchor
  pub focus : EndStands items s.focus

-- the selection stands in the site's list
abbrev pub SelectsWithin : Session → Event → Type 0
SelectsWithin w (Select k s) = (m : Member) → slice_get w.members k ≡ Some m → StandsIn m.site.replica.items s
SelectsWithin w _ = Unit {0}

-- each after the events before it
abbrev pub AllSelectWithin : Session → List Event → Type 0
AllSelectWithin w [] = Unit {0}
AllSelectWithin w (e ∷ es) = SelectsWithin w e × AllSelectWithin (happens w e) es

abbrev pub FirstSelectionStands : Type 0
FirstSelectionStands = (items : List PlainItem) → StandsIn items (opened_with items).selection

-- Any selection stands in the new list once it has moved through a transaction that applies and
-- leaves a lawful list.
abbrev pub MovedStands : Type 0
MovedStands = (t : Transaction) (items : List PlainItem) (s : Selection) → Applies t items → Lawful (edited t items) →
    StandsIn (edited t items) (moved_selection t (edited t items) s)

-- So the selection of every site stands in its list, whatever happened, if what is selected does.
abbrev pub SelectionStands : Type 0
SelectionStands = (base : Replica) (sites : ℕ) (events : List Event) (k : ℕ) (m : Member) → Opens base →
    StandsIn base.items base.selection → AllMayHappen (started base sites) events → AllSelectWithin (started base sites) events →
    slice_get (run (started base sites) events).members k ≡ Some m →
    StandsIn m.site.replica.items m.site.replica.selection
