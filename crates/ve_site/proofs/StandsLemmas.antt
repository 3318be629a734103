-- The invariant of a site is kept by each thing that it does.
use Rattle.std.proofs.Common.{◌≡◌, ℕ, List, [], ◌∷◌, ◌++◌, Option, Ok, arith, refl, sym, ap, ◌∙◌, subst}
use Rattle.std.proofs.lemmas.List.{append-nil}
use Rattle.model_items.specs.declared.plain_item.PlainItem.{PlainItem}
use Rattle.model_change.specs.Replay.{AllRun, flattened, replay, reversal}
use Rattle.model_change.specs.Transaction.{Transaction}
use Rattle.model_change.proofs.ReversalLaw.{reversal_undoes}
use Rattle.model_edit.specs.declared.selection.Selection.{Selection}
use Rattle.model_site.specs.Entries.{Entry, Parcel, parcels}
use Rattle.model_site.specs.Replica.{Replica}
use Rattle.model_site.specs.Site.{Site, init_and_last, pending, redo, redo_first, starting, undo, undo_last, with_entry_against, with_selection, with_undone}
use Rattle.model_site.specs.Untold.{Untold}
use Rattle.model_site_law.specs.Chain.{Chain}
use Rattle.model_site_law.specs.Holds.{Holds}
use Rattle.model_site_law.specs.SelectionLaws.{StandsIn}
use Rattle.model_site_law.specs.Sound.{AllMayRun, Opens, Sound}
use Rattle.model_site_law.proofs.ReplicaLemmas.{IsKept, performed_keep, undo_keep, redo_keep}
use Rattle.model_site_law.proofs.SelectionLemmas.{moved_stands}
use Rattle.model_site_law.proofs.SiteLemmas.{edit_holds, undo_holds, redo_holds, with_redone}
use Rattle.ve_editor.specs.Edited.{AllStand}
use Rattle.ve_site.specs.Ground.{ground_of, as_opened, Stands}

abbrev pub Selects : Replica → Type 0
Selects r = StandsIn r.items r.selection

pub selects_kept : IsKept Selects
selects_kept = record {
  changes = λ t vs r applies lawful p. moved_stands t r.items r.selection applies lawful;
  cuts = λ n r p. p;
}

-- whatever is pending, with it taken back the confirmed list is as it was
pub ground_is : (floor : List PlainItem) (s : Site) → Sound floor → Holds floor [] (as_opened s) → ground_of s ≡ floor
ground_is floor s sound h =
    ap (replay (reversal (flattened (parcels (pending s))))) h.list ∙ (reversal_undoes (flattened (parcels (pending s))) floor sound.lawful sound.apart h.runs).back

pub stands_on : (floor : List PlainItem) (s : Site) → Sound floor → Holds floor [] (as_opened s) → Selects s.replica → Stands s
stands_on floor s sound h p =
    let e = sym (ground_is floor s sound h) in
    record { sound = subst Sound e sound; holds = subst (λ g. Holds g [] (as_opened s)) e h; selection = p }

pub starts : (r : Replica) → Opens r → Selects r → Stands (starting r)
starts r opens p = stands_on r.items (starting r) opens.sound (record { seen = refl; list = refl; runs = tt; undone = tt; chain = omega arith; held = opens.stored }) p

pub edited_stands : (taken : Option ℕ) (ts : List Transaction) (s : Site) → Stands s → AllMayRun ts s.replica.items → Stands (with_entry_against taken ts s)
edited_stands taken ts s h may =
    stands_on (ground_of s) (with_entry_against taken ts s) h.sound (edit_holds (ground_of s) [] taken ts (as_opened s) h.holds may) (performed_keep Selects selects_kept ts s.replica may h.selection)

-- what is undone and redone names no committed entries
undone_opened : (s next : Site) (es : List Entry) → undo_last es s ≡ Ok next → undo_last es (as_opened s) ≡ Ok (as_opened next)
undone_opened s next [] e = cc
undone_opened s next (x ∷ es) e =
    let p = init_and_last x es in
    let same : with_undone p.1 p.0 s ≡ next = cc in
    ap (λ n. Ok (as_opened n)) same

pub undone_stands : (s next : Site) → Stands s → undo s ≡ Ok next → Stands next
undone_stands s next h done =
    let opened = undone_opened s next s.unsent done in
    stands_on (ground_of s) next h.sound (undo_holds (ground_of s) [] (as_opened s) (as_opened next) h.sound h.holds opened)
    (undo_keep Selects selects_kept (ground_of s) [] (as_opened s) (as_opened next) h.sound h.holds opened h.selection)

redone_opened : (s next : Site) (ps : List Parcel) → redo_first ps s ≡ Ok next → redo_first ps (as_opened s) ≡ Ok (as_opened next)
redone_opened s next [] e = cc
redone_opened s next (ts ∷ ps) e =
    let same : with_redone ts ps s ≡ next = cc in
    ap (λ n. Ok (as_opened n)) same

pub redone_stands : (s next : Site) → Stands s → redo s ≡ Ok next → Stands next
redone_stands s next h done =
    let opened = redone_opened s next s.undone done in
    stands_on (ground_of s) next h.sound (redo_holds (ground_of s) [] (as_opened s) (as_opened next) h.holds opened)
    (redo_keep Selects selects_kept (ground_of s) [] (as_opened s) (as_opened next) h.holds opened h.selection)

pub sent_stands : (s : Site) (shared : ℕ) (in_flight : Option ℕ) → Stands s →
    Stands (record s { sent = s.sent ++ s.unsent; unsent = []; shared = shared; in_flight = in_flight })
sent_stands s shared in_flight h =
    let next : Site = record s { sent = s.sent ++ s.unsent; unsent = []; shared = shared; in_flight = in_flight } in
    let same : pending next ≡ pending s = append-nil (s.sent ++ s.unsent) in
    let floor = ground_of s in
    stands_on floor next h.sound
    (record {
      seen = h.holds.seen;
      list = h.holds.list ∙ ap (λ es. replay (flattened (parcels es)) floor) (sym same);
      runs = subst (λ es. AllRun (flattened (parcels es)) floor) (sym same) h.holds.runs;
      undone = h.holds.undone;
      chain = subst (Chain s.replica.store 0 floor) (sym same) h.holds.chain;
      held = h.holds.held;
    })
    h.selection

pub selected_stands : (s : Site) (selection : Selection) → Stands s → StandsIn s.replica.items selection → Stands (with_selection selection s)
selected_stands s selection h p =
    stands_on (ground_of s) (with_selection selection s) h.sound
    (record { seen = h.holds.seen; list = h.holds.list; runs = h.holds.runs; undone = h.holds.undone; chain = h.holds.chain; held = h.holds.held })
    p

-- what it has not told is of no matter
pub untold_stands : (s : Site) → Stands s → (untold : Untold) → Stands (record s { untold = untold })
untold_stands s h untold =
    stands_on (ground_of s) (record s { untold = untold }) h.sound
    (record { seen = h.holds.seen; list = h.holds.list; runs = h.holds.runs; undone = h.holds.undone; chain = h.holds.chain; held = h.holds.held })
    h.selection

-- what runs may be performed
pub all_stand : (ts : List Transaction) (items : List PlainItem) → AllRun ts items → AllStand ts items
all_stand [] items h = tt
all_stand (t ∷ ts) items h = (h.0.applies, h.0.lawful, all_stand ts _ h.1)
