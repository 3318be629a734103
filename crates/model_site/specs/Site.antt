-- One site: what it edits, takes back and sends.
use Rattle.std.specs.Prelude.{ℕ, ◌+◌, ◌==◌, Bool, if◌then◌else◌, List, [], ◌∷◌, ◌++◌, length, take, drop, Option, Some, None, Result, Ok, Err}
use Rattle.model_change.specs.Transaction.{Transaction}
use Rattle.model_change.specs.Replay.{reversal}
use Rattle.model_edit.specs.declared.selection.Selection.{Selection}
use Rattle.model_site.specs.Causes.{EditCause, UndoCause, NothingToUndo, AlreadyShared, RedoCause, NothingToRedo, SendCause, InFlight, NothingToSend}
use Rattle.model_site.specs.Replica.{Replica, all_performed}
use Rattle.model_site.specs.Untold as untold
use Rattle.model_site.specs.Untold.{Untold, all_untold, none_untold, passed}
use Rattle.model_site.specs.declared.patch.Patch.{Patch}
use Rattle.model_site.specs.Refused.{edit_cause}
use Rattle.model_site.specs.Entries.{Parcel, Entry, Hints, parcels, hints, entry_against, reverted}
use Rattle.model_site.specs.Live.{RevokeCause, Hinted, hinted, revocation}

pub record Site : Type 0 where
  pub replica : Replica
  -- what it has not told yet of how its list changed
  pub untold : Untold
  -- how many committed entries its list has
  pub seen : ℕ
  -- its own entries that it sent and has no answer for, and those that it has not sent, oldest
  -- first
  pub sent : List Entry
  pub unsent : List Entry
  -- the undone entries, the last first, and what they take back
  pub undone : List Parcel
  pub undone_hints : Hints
  -- how many entries it sent since the page was opened
  pub shared : ℕ
  -- how many entries its submission has, while one is on its way and not acknowledged
  pub in_flight : Option ℕ

-- a site as it begins
abbrev pub starting : Replica → Site
starting r = record {
  replica = r;
  untold = all_untold (length r.items);
  seen = 0;
  sent = [];
  unsent = [];
  undone = [];
  undone_hints = [];
  shared = 0;
  in_flight = None;
}

-- its pending entries: the sent ones and then the unsent
abbrev pub pending : Site → List Entry
pending site = site.sent ++ site.unsent

abbrev pub with_selection : Selection → Site → Site
with_selection selection site = record site { replica = record site.replica { selection = selection } }

-- what it tells whoever keeps a copy of its list
abbrev pub told : Site → List Patch
told site = untold.told (length site.replica.items) site.untold

-- a site that has told it
abbrev pub with_told : Site → Site
with_told site = record site { untold = none_untold (length site.replica.items) }

-- transactions performed as one new entry, which takes that one back
abbrev pub with_entry_against : Option ℕ → List Transaction → Site → Site
with_entry_against taken ts site = record site {
  replica = all_performed ts site.replica;
  untold = passed ts site.untold;
  unsent = site.unsent ++ entry_against taken ts site.replica ∷ [];
  undone = [];
  undone_hints = [];
}

-- the same of a change, a batch or typing, which take no entry back
abbrev pub with_entry : List Transaction → Site → Site
with_entry ts site = with_entry_against None ts site

abbrev pub edit_unless : Option EditCause → Transaction → Site → Result Site EditCause
edit_unless (Some fault) t site = Err fault
edit_unless None t site = Ok (with_entry (t ∷ []) site)

abbrev pub edit : Transaction → Site → Result Site EditCause
edit t site = edit_unless (edit_cause t site.replica) t site

-- entries but for the last, and the last
abbrev pub init_and_last : Entry → List Entry → List Entry × Entry
init_and_last e [] = ([], e)
init_and_last e (f ∷ es) = let r = init_and_last f es in (e ∷ r.0, r.1)

-- the last unsent entry taken back, so that these are left
abbrev pub with_undone : (last : Entry) (left : List Entry) → Site → Site
with_undone last left site = record site {
  replica = reverted last site.replica;
  untold = passed (reversal last.txs) site.untold;
  unsent = left;
  undone = last.txs ∷ site.undone;
  undone_hints = last.takes_back ∷ site.undone_hints;
}

abbrev pub undo_last : List Entry → Site → Result Site UndoCause
undo_last [] site = Err (if site.shared == 0 then NothingToUndo else AlreadyShared site.shared)
undo_last (e ∷ es) site = let p = init_and_last e es in Ok (with_undone p.1 p.0 site)

-- the last unsent entry is taken back
abbrev pub undo : Site → Result Site UndoCause
undo site = undo_last site.unsent site

abbrev pub first_hint : Hints → Option ℕ
first_hint [] = None
first_hint (taken ∷ later) = taken

abbrev pub redo_first : List Parcel → Site → Result Site RedoCause
redo_first [] site = Err NothingToRedo
redo_first (ts ∷ undone) site = Ok (record (with_entry_against (first_hint site.undone_hints) ts site) {
  undone = undone;
  undone_hints = drop 1 site.undone_hints;
})

-- the last undone entry is performed again, as a new entry that takes back what it took back
abbrev pub redo : Site → Result Site RedoCause
redo site = redo_first site.undone site

-- a submission of a site: its entries, made on the list with so many committed ones, and what they
-- take back
pub record Submission : Type 0 where
  pub base : ℕ
  pub entries : List Parcel
  pub hints : Hints

abbrev pub send_unless : Option ℕ → List Entry → Site → Result (Site × Submission) SendCause
send_unless (Some entries) unsent site = Err (InFlight entries)
send_unless None [] site = Err NothingToSend
send_unless None (e ∷ es) site = Ok (
  record site { sent = site.sent ++ e ∷ es; unsent = []; shared = site.shared + length (e ∷ es); in_flight = Some (length (e ∷ es)) },
  record { base = site.seen; entries = parcels (e ∷ es); hints = hints (e ∷ es) },
)

-- all unsent entries are sent as one submission, where none is on its way
abbrev pub send : Site → Result (Site × Submission) SendCause
send site = send_unless site.in_flight site.unsent site

-- the entries whose replay is the site's list: the committed ones that it has seen, and then its
-- pending ones
abbrev pub entries_of : (committed : List Parcel) → Site → List Parcel
entries_of committed site = take site.seen committed ++ parcels (pending site)

-- what each of these takes back
abbrev pub hints_of : (committed : Hints) → Site → Hints
hints_of committed site = take site.seen committed ++ hints (pending site)

abbrev pub hinted_entries : (committed : List Parcel) → Hints → Site → List Hinted
hinted_entries committed taken site = hinted (entries_of committed site) (hints_of taken site)

-- Entry i of these taken back under all later ones, or under those that still count, as a new entry
-- that takes i back; or why not. Only a committed one may be named, so i is below `seen`.
abbrev pub revoke_by : (i : ℕ) → Result (List Transaction) RevokeCause → Site → Result Site RevokeCause
revoke_by i (Err cause) site = Err cause
revoke_by i (Ok back) site = Ok (with_entry_against (Some i) back site)

abbrev pub revoke_entry : (committed : List Parcel) → Hints → (live : Bool) → ℕ → Site → Result Site RevokeCause
revoke_entry committed taken live i site = revoke_by i (revocation live (hinted_entries committed taken site) i) site
