-- A site's own copy of the page under edit, and what performing a transaction and taking one back
-- makes of it.
use Rattle.std.specs.Prelude.{List, [], ◌∷◌}
use Rattle.ve_base.specs.declared.value.Value.{Value}
use Rattle.model_items.specs.declared.plain_item.PlainItem.{PlainItem}
use Rattle.model_change.specs.Transaction.{Transaction, edited}
use Rattle.model_change.specs.Inverse.{filled}
use Rattle.model_change.specs.Store.{cited, fill, changed_heads, brought}
use Rattle.model_edit.specs.declared.selection.Selection.{Selection}
use Rattle.model_edit.specs.Translate.{between, moved_selection}

pub record Replica : Type 0 where
  -- the list, by value
  pub items : List PlainItem
  -- the values that it cites, and others that it cited
  pub store : List Value
  pub selection : Selection

-- a list as it is opened: its store is filled from it, and nothing is selected
abbrev pub opened_with : List PlainItem → Replica
opened_with items = record { items = items; store = fill [] (cited items); selection = between 0 0 }

-- after a transaction; the store is filled with these values, and the selection moves
abbrev pub changed_by : Transaction → List Value → Replica → Replica
changed_by t values r = let items = edited t r.items in
    record { items = items; store = fill r.store values; selection = moved_selection t items r.selection }

-- a transaction performed: the store is filled with what its inserted items cite, and then with the
-- heads that it changes
abbrev pub performed : Transaction → Replica → Replica
performed t r = changed_by t (brought t r.items) r

-- a transaction of a reversal performed: what it inserts stood in the list before, so only heads
-- that it changes can be new values
abbrev pub put_back : Transaction → Replica → Replica
put_back t r = changed_by t (changed_heads t r.items) r

-- one after the other
abbrev pub all_performed : List Transaction → Replica → Replica
all_performed [] r = r
all_performed (t ∷ ts) r = all_performed ts (performed t r)

abbrev pub all_put_back : List Transaction → Replica → Replica
all_put_back [] r = r
all_put_back (t ∷ ts) r = all_put_back ts (put_back t r)

-- each with the positions of the attributes that it removes
abbrev pub all_filled : List Transaction → List PlainItem → List Transaction
all_filled [] items = []
all_filled (t ∷ ts) items = filled t items ∷ all_filled ts (edited t items)
