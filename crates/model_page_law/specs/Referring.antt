-- References of an opened page can be written and can carry a body, and edits keep that.
use Rattle.std.specs.Prelude.{◌≡◌, ℕ, ◌<◌, Bool, true, List, length, Some, Ok, IsUtf8}
use Rattle.std.specs.List.{list_all}
use Rattle.model_spelling.specs.Forest.{Forest, spelling, is_forest}
use Rattle.ve_kinds.specs.declared.kind.Kind.{Kind}
use Rattle.model_items.specs.declared.plain_item.PlainItem.{PlainItem}
use Rattle.model_change.specs.Transaction.{Transaction, all_inserted, edited}
use Rattle.model_change.specs.Fault.{Applies}
use Rattle.model_change.specs.Inverse.{inverse}
use Rattle.model_change.specs.Join.{join, join_list}
use Rattle.model_change.specs.Replay.{replay, reversal, flattened, revoke, AllRun}
use Rattle.model_page.specs.PageItems.{Opened, opened_page, page_made, items_of_page}
use Rattle.model_page.specs.Fragment.{fragment_items}
use Rattle.model_page.specs.Editable.{all_refer}
use Rattle.ve_base.specs.Limits.{max_open_elements}

-- ---- what is read

-- Each reference of an opened page has its key and an editable `data-mw`, and each internal item
-- has its key.
abbrev pub OpenedRefers : Type 0
OpenedRefers = (page : List ℕ) (o : Opened) → IsUtf8 page → opened_page page ≡ Some o → all_refer o.items ≡ true

-- The same of the items of every forest that may be spelled.
abbrev pub SpelledRefers : Type 0
SpelledRefers =
    (at : ℕ) (f : Forest) → is_forest max_open_elements f ≡ true → IsUtf8 (spelling f) → all_refer (items_of_page (page_made at f)) ≡ true

-- A fragment has neither references nor internal items, so the same holds of it, wherever it goes.
abbrev pub FragmentsRefer : Type 0
FragmentsRefer = (stack : List Kind) (f : Forest) → all_refer (fragment_items stack f) ≡ true

-- ---- one transaction

-- all that is inserted refers
abbrev pub inserts_referring : Transaction → Bool
inserts_referring t = all_refer (all_inserted t)

-- It keeps this of the list, whatever attributes it sets: it may set those of element kinds alone,
-- and a reference is none of them.
abbrev pub EditsRefer : Type 0
EditsRefer =
    (t : Transaction) (items : List PlainItem) → Applies t items → inserts_referring t ≡ true → all_refer items ≡ true →
    all_refer (edited t items) ≡ true

-- Undoing inserts what was removed, which refers where the list does.
abbrev pub InversesRefer : Type 0
InversesRefer = (t : Transaction) (items : List PlainItem) → Applies t items → all_refer items ≡ true → inserts_referring (inverse t) ≡ true

-- Joined, two of them insert nothing else.
abbrev pub JoinsRefer : Type 0
JoinsRefer = (a b : Transaction) → inserts_referring a ≡ true → inserts_referring b ≡ true →
    (inserts_referring (join a b).0 ≡ true) × (inserts_referring (join a b).1 ≡ true)

-- ---- whole histories

abbrev pub all_insert_referring : List Transaction → Bool
all_insert_referring ts = list_all inserts_referring ts

abbrev pub ReplaysRefer : Type 0
ReplaysRefer =
    (ts : List Transaction) (items : List PlainItem) → AllRun ts items → all_insert_referring ts ≡ true → all_refer items ≡ true →
    all_refer (replay ts items) ≡ true

abbrev pub ReversalsRefer : Type 0
ReversalsRefer =
    (ts : List Transaction) (items : List PlainItem) → AllRun ts items → all_insert_referring ts ≡ true → all_refer items ≡ true →
    all_insert_referring (reversal ts) ≡ true

abbrev pub JoinListsRefer : Type 0
JoinListsRefer = (committed mine : List Transaction) (joined : List Transaction × List Transaction) → join_list committed mine ≡ Ok joined →
    all_insert_referring committed ≡ true → all_insert_referring mine ≡ true →
    (all_insert_referring joined.0 ≡ true) × (all_insert_referring joined.1 ≡ true)

-- Taking an entry of a history back inserts what the entry removed, and nothing else.
abbrev pub RevokesRefer : Type 0
RevokesRefer = (entries : List (List Transaction)) (i : ℕ) (back : List Transaction) (base : List PlainItem) → i < length entries →
    AllRun (flattened entries) base → all_insert_referring (flattened entries) ≡ true → all_refer base ≡ true → revoke entries i ≡ Ok back →
    all_insert_referring back ≡ true
