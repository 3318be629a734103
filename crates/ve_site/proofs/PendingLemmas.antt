-- The pending entries of a site, whatever values they cite: how long their lists are, that they may
-- be joined, and how they are written once entries of other sites were taken.
use Rattle.std.proofs.Common.{◌≡◌, ◌≤◌, ◌+◌, ℕ, List, [], ◌∷◌, ◌++◌, length, map, flat_map, take, drop, All, Option, refl, sym, ap, ◌∙◌, subst, arith}
use Rattle.std.proofs.lemmas.List.{map-append, length-append, length-map, take-append-drop, take-map, drop-map, take_all}
use Rattle.std.proofs.lemmas.List.Elements.{All-nil, All-cons, All-head, All-tail}
use Rattle.ve_base.specs.declared.value.Value.{Value}
use Rattle.model_items.specs.declared.plain_item.PlainItem.{PlainItem}
use Rattle.model_items.specs.Plain.{plain}
use Rattle.model_change.specs.Replay.{AllRun, flattened}
use Rattle.model_change.specs.Transaction.{Transaction, edited, new_length, old_length}
use Rattle.model_change.proofs.Fits.{gives_new_length, parts_of_Applies}
use Rattle.model_site.specs.Entries.{Hints, Parcel as ModelParcel, hints, parcels}
use Rattle.model_site.specs.Replica.{Replica}
use Rattle.model_site.specs.Site.{Site, pending}
use Rattle.model_site.specs.Take.{parcel_entries}
use Rattle.model_site.specs.Untold.{Untold}
use Rattle.ve_tx.specs.declared.entry.Entry.{Entry}
use Rattle.ve_tx.specs.declared.parcel.Parcel.{Parcel}
use Rattle.ve_tx.specs.ByValue.{parcel_by_value, ParcelCites}
use Rattle.ve_tx.specs.Cites.{TxCites}
use Rattle.ve_tx.specs.Making.{Extends}
use Rattle.ve_tx.specs.Operation.{Attribute, Operation, Replace, Retain, by_value}
use Rattle.ve_editor.specs.Edited.{entry_by_value, EntryCites}
use Rattle.ve_editor.proofs.OtherLemmas.{all_cites-extended}
use Rattle.ve_history.specs.Stacks.{Stacks}
use Rattle.ve_rebase.specs.Entries.{outline, parcels_by_value}
use Rattle.ve_rebase.specs.Lists.{RunFromOneLength, RunOnLength}
use Rattle.ve_rebase.specs.Under.{all_over, over_values}
use Rattle.ve_site.specs.Dropped.{numbered_alike}
use Rattle.ve_site.specs.Ground.{AreOver, Stands, ground_of}
use Rattle.ve_site.specs.Numbered.{hint_of, site_of, IsSite}
use Rattle.ve_site.proofs.FrontLemmas.{with_pending}
use Rattle.ve_site.proofs.OverLemmas.{entries_extended}
use Rattle.ve_site.proofs.StandsLemmas.{untold_stands}

-- ---- lengths, whatever values are cited

old_alike : (v w : List Value) (tx : List Operation) → old_length (by_value v tx) ≡ old_length (by_value w tx)
old_alike v w [] = refl
old_alike v w (Retain count ∷ tx) = ap (λ n. count + n) (old_alike v w tx)
old_alike v w (Replace removed inserted ∷ tx) =
    ap (λ n. n + old_length (by_value v tx)) (length-map removed (plain v) ∙ sym (length-map removed (plain w))) ∙ ap (λ n. length (map (plain w) removed) + n) (old_alike v w tx)
old_alike v w (Attribute change ∷ tx) = old_alike v w tx

new_alike : (v w : List Value) (tx : List Operation) → new_length (by_value v tx) ≡ new_length (by_value w tx)
new_alike v w [] = refl
new_alike v w (Retain count ∷ tx) = ap (λ n. count + n) (new_alike v w tx)
new_alike v w (Replace removed inserted ∷ tx) =
    ap (λ n. n + new_length (by_value v tx)) (length-map inserted (plain v) ∙ sym (length-map inserted (plain w))) ∙ ap (λ n. length (map (plain w) inserted) + n) (new_alike v w tx)
new_alike v w (Attribute change ∷ tx) = new_alike v w tx

run_alike : (v w : List Value) (n : ℕ) (txs : List (List Operation)) → RunOnLength n (map (by_value v) txs) → RunOnLength n (map (by_value w) txs)
run_alike v w n [] run = tt
run_alike v w n (tx ∷ txs) run =
    (old_alike w v tx ∙ run.0, subst (λ m. RunOnLength m (map (by_value w) txs)) (new_alike v w tx) (run_alike v w (new_length (by_value v tx)) txs run.1))

runs_on : (ts : List Transaction) (items : List PlainItem) → AllRun ts items → RunOnLength (length items) ts
runs_on [] items run = tt
runs_on (t ∷ ts) items run =
    ((parts_of_Applies t items run.0.applies).0, subst (λ n. RunOnLength n ts) (gives_new_length t items run.0.applies) (runs_on ts (edited t items) run.1))

-- the transactions of entries, in order, over any values
abbrev all_txs : List Entry → List (List Operation)
all_txs es = flat_map (λ (e : Entry). e.txs) es

over_txs : (v : List Value) (es : List Entry) → parcels_by_value (all_over v es) ≡ map (by_value v) (all_txs es)
over_txs v [] = refl
over_txs v (e ∷ es) = ap (λ l. map (by_value v) e.txs ++ l) (over_txs v es) ∙ sym (map-append (by_value v) e.txs (all_txs es))

flat_over : (v : List Value) (es : List Entry) → flattened (parcels (map (entry_by_value v) es)) ≡ map (by_value v) (all_txs es)
flat_over v [] = refl
flat_over v (e ∷ es) = ap (λ l. map (by_value v) e.txs ++ l) (flat_over v es) ∙ sym (map-append (by_value v) e.txs (all_txs es))

-- ---- entries over values

pub over_same : (v : List Value) (es : List Entry) → map parcel_by_value (all_over v es) ≡ parcels (map (entry_by_value v) es)
over_same v [] = refl
over_same v (e ∷ es) = ap (λ l. map (by_value v) e.txs ∷ l) (over_same v es)

pub cites_to : (v : List Value) (es : List Entry) → All (EntryCites v) es → All ParcelCites (all_over v es)
cites_to v [] h = All-nil ParcelCites
cites_to v (e ∷ es) h = All-cons ParcelCites (over_values v e) (all_over v es) (All-head (EntryCites v) e es h) (cites_to v es (All-tail (EntryCites v) e es h))

pub cites_from : (v : List Value) (es : List Entry) → All ParcelCites (all_over v es) → All (EntryCites v) es
cites_from v [] h = All-nil (EntryCites v)
cites_from v (e ∷ es) h = All-cons (EntryCites v) e es (All-head ParcelCites (over_values v e) (all_over v es) h) (cites_from v es (All-tail ParcelCites (over_values v e) (all_over v es) h))

pub cites_grown : (v w : List Value) (es : List Entry) → Extends v w → All (EntryCites v) es → All (EntryCites w) es
cites_grown v w [] grown h = All-nil (EntryCites w)
cites_grown v w (e ∷ es) grown h =
    All-cons (EntryCites w) e es (all_cites-extended v w grown e.txs (All-head (EntryCites v) e es h)) (cites_grown v w es grown (All-tail (EntryCites v) e es h))

-- with one number
alike_noted : (v : List Value) (n : ℕ) (es : List Entry) → map (entry_by_value v) (map (numbered_alike n) es) ≡ parcel_entries n (hints (map (entry_by_value v) es)) (parcels (map (entry_by_value v) es))
alike_noted v n [] = refl
alike_noted v n (e ∷ es) = ap (λ l. record { txs = map (by_value v) e.txs; store_before = n; store_after = n; takes_back = e.takes_back } ∷ l) (alike_noted v n es)

-- what they take back is no matter of their values
pub hints_over : (v : List Value) (es : List Entry) → map hint_of (all_over v es) ≡ hints (map (entry_by_value v) es)
hints_over v [] = refl
hints_over v (e ∷ es) = ap (λ l. e.takes_back ∷ l) (hints_over v es)

hints_in_outlines : (ps : List Parcel) → map (λ (o : ℕ × Parcel). hint_of o.1) (map outline ps) ≡ map hint_of ps
hints_in_outlines [] = refl
hints_in_outlines (p ∷ ps) = ap (λ l. hint_of p ∷ l) (hints_in_outlines ps)

-- and what is joined keeps it
pub outlined_hints : (v : List Value) (es : List Entry) (ps : List Parcel) → map outline (all_over v es) ≡ map outline ps → hints (map (entry_by_value v) es) ≡ map hint_of ps
outlined_hints v es ps same =
    sym (hints_over v es) ∙ (sym (hints_in_outlines (all_over v es)) ∙ (ap (map (λ (o : ℕ × Parcel). hint_of o.1)) same ∙ hints_in_outlines ps))

-- only so many count as there are parcels
pub hints_cut : (n : ℕ) (taken : Hints) (ps : List ModelParcel) → parcel_entries n (take (length ps) taken) ps ≡ parcel_entries n taken ps
hints_cut n taken [] = refl
hints_cut n [] (p ∷ ps) = refl
hints_cut n (t ∷ taken) (p ∷ ps) = ap (λ l. record { txs = p; store_before = n; store_after = n; takes_back = t } ∷ l) (hints_cut n taken ps)

alike_over : (store : List Value) (least : ℕ) (es : List Entry) → least ≤ length store → All (EntryCites store) es → AreOver store least (map (numbered_alike (length store)) es)
alike_over store least [] le h = le
alike_over store least (e ∷ es) le h = (
  le,
  omega arith,
  subst (λ s. All (TxCites s) e.txs) (sym (take_all (length store) store (omega arith))) (All-head (EntryCites store) e es h),
  alike_over store (length store) es (omega arith) (All-tail (EntryCites store) e es h),
)

-- those after some
pub over_rest : (store : List Value) (least : ℕ) (xs ys : List Entry) → AreOver store least (xs ++ ys) → AreOver store 0 ys
over_rest store least [] [] h = omega arith
over_rest store least [] (y ∷ ys) h = (omega arith, h.1, h.2, h.3)
over_rest store least (x ∷ xs) ys h = over_rest store x.store_after xs ys h.3

-- ---- how many are pending

pub pending_count : (editor : Replica) (untold : Untold) (seen : ℕ) (sent : List Entry) (old : Stacks) (shared : ℕ) (flight : Option ℕ) →
    length (pending (site_of editor untold seen sent old shared flight)) ≡ length sent + length old.done
pending_count editor untold seen sent old shared flight =
    let both = length-append (map (entry_by_value editor.store) sent) (map (entry_by_value editor.store) old.done) in
    let first = length-map sent (entry_by_value editor.store) in
    let second = length-map old.done (entry_by_value editor.store) in
    omega (arith, both, first, second)

-- ---- they may be joined over what runs from the confirmed list

module _ (editor : Replica) (untold : Untold) (seen : ℕ) (sent : List Entry) (old : Stacks) (shared : ℕ) (flight : Option ℕ) (is : IsSite editor seen sent old shared flight) where
  abbrev site : Site
  site = site_of editor untold seen sent old shared flight

  pub pending_are : map (entry_by_value editor.store) (sent ++ old.done) ≡ pending site
  pending_are = map-append (entry_by_value editor.store) sent old.done

  pub may_join : (ts : List Transaction) → AllRun ts (ground_of site) → (values : List Value) → RunFromOneLength ts (parcels_by_value (all_over values (sent ++ old.done)))
  may_join ts run values =
      let all = sent ++ old.done in
      let floor = ground_of site in
      let mine : RunOnLength (length floor) (map (by_value editor.store) (all_txs all)) =
      subst (RunOnLength (length floor)) (ap (λ es. flattened (parcels es)) (sym pending_are) ∙ flat_over editor.store all)
      (runs_on (flattened (parcels (pending site))) floor (is.stands untold).holds.runs) in
      record {
        length = length floor;
        committed_run = runs_on ts floor run;
        mine_run = subst (RunOnLength (length floor)) (sym (over_txs values all)) (run_alike editor.store values (length floor) (all_txs all) mine);
      }

-- ---- as they are written then: over both stores they are the same, and each has one number twice

module _ (base : List Value) (editor new : Replica) (kept : List Entry) (old_extends : Extends base editor.store) (new_extends : Extends base new.store) (cite : All (EntryCites base) kept)
    (stored count : ℕ) (first : List Entry) (now : Stacks) (is_stored : stored ≡ length new.store) (first_is : first ≡ map (numbered_alike stored) (take count kept))
    (done_is : now.done ≡ map (numbered_alike stored) (drop count kept)) where
  abbrev by_value_kept : List ModelParcel
  by_value_kept = parcels (map (entry_by_value editor.store) kept)

  abbrev kept_hints : Hints
  kept_hints = hints (map (entry_by_value editor.store) kept)

  by_new : map (entry_by_value new.store) kept ≡ map (entry_by_value editor.store) kept
  by_new = entries_extended base new.store kept new_extends cite ∙ sym (entries_extended base editor.store kept old_extends cite)

  kept_noted : map (entry_by_value new.store) (map (numbered_alike stored) kept) ≡ parcel_entries (length new.store) kept_hints by_value_kept
  kept_noted = alike_noted new.store stored kept ∙ (ap (λ es. parcel_entries stored (hints es) (parcels es)) by_new ∙ ap (λ n. parcel_entries n kept_hints by_value_kept) is_stored)

  first_same : map (entry_by_value new.store) first ≡ take count (parcel_entries (length new.store) kept_hints by_value_kept)
  first_same =
      ap (map (entry_by_value new.store)) (first_is ∙ sym (take-map (numbered_alike stored) count kept))
      ∙ (sym (take-map (entry_by_value new.store) count (map (numbered_alike stored) kept)) ∙ ap (take count) kept_noted)

  done_same : map (entry_by_value new.store) now.done ≡ drop count (parcel_entries (length new.store) kept_hints by_value_kept)
  done_same =
      ap (map (entry_by_value new.store)) (done_is ∙ sym (drop-map (numbered_alike stored) count kept))
      ∙ (sym (drop-map (entry_by_value new.store) count (map (numbered_alike stored) kept)) ∙ ap (drop count) kept_noted)

  pub written_count : length kept ≡ length first + length now.done
  written_count =
      let a = ap length first_is ∙ length-map (take count kept) (numbered_alike stored) in
      let b = ap length done_is ∙ length-map (drop count kept) (numbered_alike stored) in
      let parts = length-append (take count kept) (drop count kept) in
      let same = ap length (take-append-drop count kept) in
      omega (arith, a, b, parts, same)

  written_over : AreOver new.store 0 (first ++ now.done)
  written_over =
      let both : map (numbered_alike stored) kept ≡ first ++ now.done =
      sym (take-append-drop count (map (numbered_alike stored) kept))
      ∙ (ap (λ l. l ++ drop count (map (numbered_alike stored) kept)) (take-map (numbered_alike stored) count kept ∙ sym first_is)
      ∙ ap (λ l. first ++ l) (drop-map (numbered_alike stored) count kept ∙ sym done_is)) in
      let over = alike_over new.store 0 kept (omega arith) (cites_grown base new.store kept new_extends cite) in
      subst (AreOver new.store 0) both (subst (λ n. AreOver new.store 0 (map (numbered_alike n) kept)) (sym is_stored) over)

  -- a site which has them is the model's
  module _ (later : Untold) (next : ℕ) (s : Site) (count_is : count ≡ length s.sent) (none : now.undone ≡ []) where
    pub written_same : site_of new later next first now s.shared s.in_flight ≡ with_pending new later next (length s.sent) kept_hints by_value_kept s
    written_same =
        let left = site_of new later next first now s.shared s.in_flight in
        let noted = parcel_entries (length new.store) kept_hints by_value_kept in
        ap (λ es. record left { sent = es }) first_same
        ∙ (ap (λ es. record left { sent = take count noted; unsent = es }) done_same
        ∙ (ap (λ ps. record left { sent = take count noted; unsent = drop count noted; undone = map parcel_by_value ps; undone_hints = map hint_of ps }) none
        ∙ ap (λ n. with_pending new later next n kept_hints by_value_kept s) count_is))

    pub written_is : Stands (site_of new later next first now s.shared s.in_flight) → IsSite new next first now s.shared s.in_flight
    written_is stands = record {
      stands = untold_stands (site_of new later next first now s.shared s.in_flight) stands;
      over = written_over;
      undone_cite = subst (All ParcelCites) (sym none) (All-nil ParcelCites);
    }
