-- All unsent entries sent.
use Rattle.std.proofs.Common.{◌≡◌, ◌<◌, ◌+◌, ◌==◌, ℕ, suc, true, false, true≢false, List, [], ◌∷◌, ◌++◌, length, map, All, Option, Some, None, Result, Ok, IsOk, refl, sym, ap, ◌∙◌, subst, arith}
use Rattle.std.proofs.lemmas.Bool.{eqb-true, eqb-false}
use Rattle.std.proofs.lemmas.List.{map-append, append-nil, length-map}
use Rattle.model_site.specs.Causes.{SendCause}
use Rattle.model_site.specs.declared.site_fault.SendFault.TheVariants as fault
use Rattle.model_site.specs.Entries.{Hints, hints, parcels}
use Rattle.model_site.specs.Entries.{Entry as ModelEntry, Parcel as ModelParcel}
use Rattle.model_site.specs.Replica.{Replica}
use Rattle.model_site.specs.Site.{Site, Submission, pending, send, send_unless}
use Rattle.model_site.specs.Untold.{Untold}
use Rattle.model_site_law.proofs.ReplayLemmas.{parcels-append}
use Rattle.ve_tx.specs.declared.entry.Entry.{Entry}
use Rattle.ve_tx.specs.ByValue.{parcel_by_value, ParcelCites}
use Rattle.ve_editor.specs.Edited.{entry_by_value, EntryCites}
use Rattle.ve_history.specs.Stacks.{Stacks}
use Rattle.ve_site.specs.Ground.{AreOver, Stands}
use Rattle.ve_site.specs.Numbered.{hint_of, site_of, IsSite}
use Rattle.ve_site.specs.Refusal.{send_refusal}
use Rattle.ve_site.proofs.OverLemmas.{over_cites, cite_parts}
use Rattle.ve_site.proofs.StandsLemmas.{sent_stands, untold_stands}

sent_of : (s : Site) (es : List ModelEntry) → 0 < length es →
    send_unless None es s ≡ Ok (record s { sent = s.sent ++ es; unsent = []; shared = s.shared + length es; in_flight = Some (length es) }, record { base = s.seen; entries = parcels es; hints = hints es })
sent_of s [] some = absurd (omega arith)
sent_of s (e ∷ es) some = refl

sendable : (flight : Option ℕ) (es : List ModelEntry) (s : Site) → IsOk (send_unless flight es s) → (flight ≡ None) × (0 < length es)
sendable (Some n) es s ok = absurd (true≢false (sym ok))
sendable None [] s ok = absurd (true≢false (sym ok))
sendable None (e ∷ es) s ok = let some : 0 < suc (length es) = omega arith in (refl, some)

-- ---- why nothing is sent

pub flight_refused : (s : Site) (count : ℕ) → s.in_flight ≡ Some count → Some (fault.InFlight count) ≡ send_refusal (send s)
flight_refused s count e = sym (ap (λ flight. send_refusal (send_unless flight s.unsent s)) e)

-- `lent` are the entries that the code looks at
sent_by : (s : Site) (old lent : List Entry) → s.unsent ≡ map (entry_by_value s.replica.store) old → lent ≡ old → s.in_flight ≡ None →
    send s ≡ send_unless None (map (entry_by_value s.replica.store) lent) s
sent_by s old lent u same idle = ap (λ flight. send_unless flight s.unsent s) idle ∙ ap (λ es. send_unless None es s) (u ∙ ap (map (entry_by_value s.replica.store)) (sym same))

pub nothing_refused : (s : Site) (old lent : List Entry) → s.unsent ≡ map (entry_by_value s.replica.store) old → lent ≡ old → s.in_flight ≡ None → (length lent == 0) ≡ true →
    Some fault.NothingToSend ≡ send_refusal (send s)
nothing_refused s old [] u same idle none = sym (ap (λ (r : Result (Site × Submission) SendCause). send_refusal r) (sent_by s old [] u same idle))
nothing_refused s old (e ∷ es) u same idle none = let empty : suc (length es) ≡ 0 = eqb-true (suc (length es)) 0 none in absurd (omega (arith, empty))

pub none_refused : (s : Site) (old lent : List Entry) → s.unsent ≡ map (entry_by_value s.replica.store) old → lent ≡ old → s.in_flight ≡ None → (length lent == 0) ≡ false →
    None ≡ send_refusal (send s)
none_refused s old [] u same idle some = absurd (eqb-false 0 0 some refl)
none_refused s old (e ∷ es) u same idle some = sym (ap (λ (r : Result (Site × Submission) SendCause). send_refusal r) (sent_by s old (e ∷ es) u same idle))

-- ---- all sent

module _ (editor : Replica) (untold : Untold) (seen : ℕ) (sent : List Entry) (old : Stacks) (shared : ℕ) (flight : Option ℕ) (is : IsSite editor seen sent old shared flight) where
  abbrev site : Site
  site = site_of editor untold seen sent old shared flight

  pub unsent_cite : All (EntryCites editor.store) old.done
  unsent_cite = (cite_parts editor.store sent old.done (over_cites editor.store 0 (sent ++ old.done) is.over)).1

  pub sent_cite : All (EntryCites editor.store) sent
  sent_cite = (cite_parts editor.store sent old.done (over_cites editor.store 0 (sent ++ old.done) is.over)).0

  -- all pending entries as parcels, the sent ones first
  pub pending_parcels : (first second : List ModelParcel) → first ≡ parcels (map (entry_by_value editor.store) sent) →
      second ≡ parcels (map (entry_by_value editor.store) old.done) → first ++ second ≡ parcels (pending site)
  pending_parcels first second f g =
      ap (λ ps. ps ++ second) f ∙ ap (λ ps. parcels (map (entry_by_value editor.store) sent) ++ ps) g
      ∙ sym (parcels-append (map (entry_by_value editor.store) sent) (map (entry_by_value editor.store) old.done))

  -- and what they take back
  pub pending_hints : (first second : Hints) → first ≡ hints (map (entry_by_value editor.store) sent) → second ≡ hints (map (entry_by_value editor.store) old.done) →
      first ++ second ≡ hints (pending site)
  pending_hints first second f g =
      ap (λ hs. hs ++ second) f ∙ ap (λ hs. hints (map (entry_by_value editor.store) sent) ++ hs) g
      ∙ sym (map-append (λ (e : ModelEntry). e.takes_back) (map (entry_by_value editor.store) sent) (map (entry_by_value editor.store) old.done))

  module _ (now : Stacks) (all : List Entry) (count total : ℕ) (sent_all : all ≡ sent ++ old.done) (done : now.done ≡ []) (undone : now.undone ≡ old.undone)
      (counted : count ≡ length old.done) (added : total ≡ shared + count) where
    abbrev next : Site
    next = record site { sent = site.sent ++ site.unsent; unsent = []; shared = total; in_flight = Some count }

    sent_same : site_of editor untold seen all now total (Some count) ≡ next
    sent_same =
        ap (λ es. record next { sent = map (entry_by_value editor.store) all; unsent = map (entry_by_value editor.store) es; undone = map parcel_by_value now.undone; undone_hints = map hint_of now.undone }) done
        ∙ (ap (λ ps. record next { sent = map (entry_by_value editor.store) all; undone = map parcel_by_value ps; undone_hints = map hint_of ps }) undone
        ∙ ap (λ es. record next { sent = es }) (ap (map (entry_by_value editor.store)) sent_all ∙ map-append (entry_by_value editor.store) sent old.done))

    pub send_is : IsOk (send site) →
        send site ≡ Ok (site_of editor untold seen all now total (Some count), record { base = seen; entries = parcels (map (entry_by_value editor.store) old.done); hints = hints (map (entry_by_value editor.store) old.done) })
    send_is ok =
        let may = sendable flight site.unsent site ok in
        let many : count ≡ length site.unsent = counted ∙ sym (length-map old.done (entry_by_value editor.store)) in
        let finish : Site → Result (Site × Submission) SendCause = λ s. Ok (s, record { base = seen; entries = parcels site.unsent; hints = hints site.unsent }) in
        ap (λ f. send_unless f site.unsent site) may.0
        ∙ (sent_of site site.unsent may.1
        ∙ (ap (λ n. finish (record site { sent = site.sent ++ site.unsent; unsent = []; shared = shared + n; in_flight = Some n })) (sym many)
        ∙ (ap (λ n. finish (record site { sent = site.sent ++ site.unsent; unsent = []; shared = n; in_flight = Some count })) (sym added) ∙ ap finish (sym sent_same))))

    pub sent_is : IsSite editor seen all now total (Some count)
    sent_is = record {
      stands = untold_stands (site_of editor untold seen all now total (Some count)) (subst Stands (sym sent_same) (sent_stands site total (Some count) (is.stands untold)));
      over = subst (AreOver editor.store 0) (sym (ap (λ es. all ++ es) done ∙ (append-nil all ∙ sent_all))) is.over;
      undone_cite = subst (All ParcelCites) (sym undone) is.undone_cite;
    }
