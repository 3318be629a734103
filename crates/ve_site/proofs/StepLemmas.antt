-- The meaning of a site's fields after each step, and that they are a site's again.
use Rattle.std.proofs.Common.{◌≡◌, ℕ, true, false, List, [], ◌∷◌, ◌++◌, length, map, All, Option, None, Result, Ok, Err, IsOk, is_err, OnOk, OnErr, refl, sym, ap, ◌∙◌, subst, arith}
use Rattle.std.proofs.lemmas.List.{append_assoc, length-map, map-append}
use Rattle.std.proofs.lemmas.List.Elements.{All-nil}
use Rattle.ve_base.specs.declared.value.Value.{Value}
use Rattle.model_items.specs.declared.item.Item.{Item}
use Rattle.model_items.specs.declared.plain_item.PlainItem.{PlainItem}
use Rattle.model_items.specs.Plain.{plain, plain_list}
use Rattle.model_change.specs.Transaction.{Transaction, InsertedApart, is_reduced}
use Rattle.model_edit.specs.declared.selection.Selection.{Selection}
use Rattle.model_site.specs.Entries.{entry_against, entry_of}
use Rattle.model_site.specs.Entries.{Entry as ModelEntry}
use Rattle.model_site.specs.Refused.{edit_cause}
use Rattle.model_site.specs.Replica.{Replica, all_performed}
use Rattle.model_site.specs.Site.{Site, edit, edit_unless, starting, with_entry_against}
use Rattle.model_site.specs.Untold.{Untold, all_untold, passed}
use Rattle.model_site_law.specs.Sound.{AllMayRun, Opens}
use Rattle.model_site_law.specs.SelectionLaws.{StandsIn}
use Rattle.model_site_law.proofs.EditLemmas.{edit_may_run}
use Rattle.model_site_law.proofs.PerformLemmas.{all_performed_grows}
use Rattle.ve_tx.specs.declared.entry.Entry.{Entry}
use Rattle.ve_tx.specs.declared.parcel.Parcel.{Parcel}
use Rattle.ve_tx.specs.ByValue.{parcel_by_value, ParcelCites}
use Rattle.ve_tx.specs.Making.{Extends}
use Rattle.ve_tx.specs.Operation.{by_value}
use Rattle.ve_editor.specs.Edited.{entry_by_value, EntryCites}
use Rattle.ve_history.specs.Stacks.{Stacks}
use Rattle.ve_site.specs.Ground.{AreOver, Stands}
use Rattle.ve_site.specs.Numbered.{hint_of, site_of, IsSite}
use Rattle.ve_site.proofs.OverLemmas.{over_pushed, over_cites, cite_parts, entries_extended}
use Rattle.ve_site.proofs.PatchLemmas.{passed_filled}
use Rattle.ve_site.proofs.StandsLemmas.{edited_stands, selected_stands, starts, untold_stands}

module _ (editor : Replica) (untold : Untold) (seen : ℕ) (sent : List Entry) (old : Stacks) (shared : ℕ) (flight : Option ℕ) (is : IsSite editor seen sent old shared flight) where
  abbrev site : Site
  site = site_of editor untold seen sent old shared flight

  -- the history may take room
  pub roomy_same : (now : Stacks) → now.done ≡ old.done → now.undone ≡ old.undone → site_of editor untold seen sent now shared flight ≡ site
  roomy_same now d u =
      ap (λ es. record site { unsent = map (entry_by_value editor.store) es; undone = map parcel_by_value now.undone; undone_hints = map hint_of now.undone }) d
      ∙ ap (λ ps. record site { undone = map parcel_by_value ps; undone_hints = map hint_of ps }) u

  pub roomy_is : (now : Stacks) → now.done ≡ old.done → now.undone ≡ old.undone → IsSite editor seen sent now shared flight
  roomy_is now d u = record {
    stands = λ other. subst Stands (ap (λ (x : Site). record x { untold = other }) (sym (roomy_same now d u))) (is.stands other);
    over = subst (λ es. AreOver editor.store 0 (sent ++ es)) (sym d) is.over;
    undone_cite = subst (All ParcelCites) (sym u) is.undone_cite;
  }

  all_cite : All (EntryCites editor.store) (sent ++ old.done)
  all_cite = over_cites editor.store 0 (sent ++ old.done) is.over

  -- ---- an entry more

  module _ (taken : Option ℕ) (ts : List Transaction) (new : Replica) (e : Entry) (now : Stacks) (later : Untold) (page : new ≡ all_performed ts editor)
      (entry : entry_by_value new.store e ≡ entry_against taken ts editor) (cites : EntryCites new.store e) (done : now.done ≡ old.done ++ e ∷ [])
      (noted : later ≡ passed (map (by_value new.store) e.txs) untold) where
    grown : Extends editor.store new.store
    grown = let g = all_performed_grows ts editor in (g.more, ap (λ (r : Replica). r.store) page ∙ g.same)

    noted_same : later ≡ passed ts untold
    noted_same = noted ∙ (ap (λ (x : ModelEntry). passed x.txs untold) entry ∙ passed_filled ts editor.items untold)

    pub pushed_same : (undone : List Parcel) → now.undone ≡ undone → site_of new later seen sent now shared flight ≡ record (with_entry_against taken ts site) { undone = map parcel_by_value undone; undone_hints = map hint_of undone }
    pushed_same undone u =
        let parts = cite_parts editor.store sent old.done all_cite in
        let sent_same = entries_extended editor.store new.store sent grown parts.0 in
        let done_same : map (entry_by_value new.store) now.done ≡ site.unsent ++ entry_against taken ts editor ∷ [] =
        ap (map (entry_by_value new.store)) done
        ∙ (map-append (entry_by_value new.store) old.done (e ∷ [])
        ∙ (ap (λ es. es ++ entry_by_value new.store e ∷ []) (entries_extended editor.store new.store old.done grown parts.1) ∙ ap (λ x. site.unsent ++ x ∷ []) entry)) in
        let left = site_of new (passed ts untold) seen sent now shared flight in
        ap (λ x. site_of new x seen sent now shared flight) noted_same
        ∙ (ap (λ r. record left { replica = r }) page
        ∙ (ap (λ es. record left { replica = all_performed ts editor; sent = es }) sent_same
        ∙ (ap (λ es. record left { replica = all_performed ts editor; sent = site.sent; unsent = es }) done_same
        ∙ ap (λ ps. record (with_entry_against taken ts site) { undone = map parcel_by_value ps; undone_hints = map hint_of ps }) u)))

    pub pushed_is : Stands (site_of new later seen sent now shared flight) → All ParcelCites now.undone → IsSite new seen sent now shared flight
    pushed_is stands undone_cite =
        let numbers : (e.store_before ≡ length editor.store) × (e.store_after ≡ length new.store) =
        (ap (λ (x : ModelEntry). x.store_before) entry, ap (λ (x : ModelEntry). x.store_after) entry ∙ ap (λ (r : Replica). length r.store) (sym page)) in
        record {
          stands = untold_stands (site_of new later seen sent now shared flight) stands;
          over = subst (AreOver new.store 0) (append_assoc sent old.done (e ∷ []) ∙ ap (λ es. sent ++ es) (sym done))
              (over_pushed editor.store new.store 0 (sent ++ old.done) e grown is.over numbers.0 numbers.1 cites);
          undone_cite = undone_cite;
        }

    -- changes that may be made

    pub with_entry_same : now.undone ≡ [] → site_of new later seen sent now shared flight ≡ with_entry_against taken ts site
    with_entry_same u = pushed_same [] u

    pub with_entry_is : now.undone ≡ [] → AllMayRun ts editor.items → IsSite new seen sent now shared flight
    with_entry_is u may = pushed_is (subst Stands (sym (with_entry_same u)) (edited_stands taken ts site (is.stands untold) may)) (subst (All ParcelCites) (sym u) (All-nil ParcelCites))

  -- ---- an edit

  module _ (t : Transaction) (new : Replica) (e : Entry) (now : Stacks) (later : Untold) (allowed : edit_cause t editor ≡ None) (page : new ≡ all_performed (t ∷ []) editor)
      (entry : entry_by_value new.store e ≡ entry_of (t ∷ []) editor) (cites : EntryCites new.store e) (done : now.done ≡ old.done ++ e ∷ [])
      (noted : later ≡ passed (map (by_value new.store) e.txs) untold) (undone : now.undone ≡ []) where
    pub edit_is : edit t site ≡ Ok (site_of new later seen sent now shared flight)
    edit_is = ap (λ c. edit_unless c t site) allowed ∙ ap (λ s. Ok s) (sym (with_entry_same None (t ∷ []) new e now later page entry cites done noted undone))

    pub edited_is : is_reduced t ≡ true → InsertedApart t → IsSite new seen sent now shared flight
    edited_is reduced apart = with_entry_is None (t ∷ []) new e now later page entry cites done noted undone (edit_may_run t editor reduced apart allowed, tt)

-- ---- a site as it begins, and another selection

-- its list by value is as long
pub list_count : (store : List Value) (items : List Item) (page : List PlainItem) → plain_list store items ≡ page → length items ≡ length page
list_count store items page same = sym (length-map items (plain store)) ∙ ap length same

pub begun_same : (editor : Replica) (untold : Untold) (sent : List Entry) (h : Stacks) → untold ≡ all_untold (length editor.items) → sent ≡ [] → h.done ≡ [] → h.undone ≡ [] →
    site_of editor untold 0 sent h 0 None ≡ starting editor
begun_same editor untold sent h n e d u =
    let begun = site_of editor (all_untold (length editor.items)) 0 sent h 0 None in
    ap (λ x. site_of editor x 0 sent h 0 None) n
    ∙ (ap (λ es. record begun { sent = map (entry_by_value editor.store) es }) e
    ∙ (ap (λ es. record begun { sent = []; unsent = map (entry_by_value editor.store) es }) d
    ∙ ap (λ ps. record (starting editor) { undone = map parcel_by_value ps; undone_hints = map hint_of ps }) u))

pub begun_is : (editor : Replica) (sent : List Entry) (h : Stacks) → sent ≡ [] → h.done ≡ [] → h.undone ≡ [] → Opens editor → StandsIn editor.items editor.selection →
    IsSite editor 0 sent h 0 None
begun_is editor sent h e d u opens selection =
    let first = all_untold (length editor.items) in
    let same = begun_same editor first sent h refl e d u in
    record {
      stands = untold_stands (site_of editor first 0 sent h 0 None) (subst Stands (sym same) (starts editor opens selection));
      over = subst (AreOver editor.store 0) (sym (ap (λ es. es ++ h.done) e ∙ d)) (omega arith);
      undone_cite = subst (All ParcelCites) (sym u) (All-nil ParcelCites);
    }

pub selected_is : (editor new : Replica) (seen : ℕ) (sent : List Entry) (h : Stacks) (shared : ℕ) (flight : Option ℕ) (selection : Selection) →
    IsSite editor seen sent h shared flight → StandsIn editor.items selection → new ≡ record editor { selection = selection } → IsSite new seen sent h shared flight
selected_is editor new seen sent h shared flight selection is p e =
    subst (λ r. IsSite r seen sent h shared flight) (sym e)
    (record { stands = λ untold. selected_stands (site_of editor untold seen sent h shared flight) selection (is.stands untold) p; over = is.over; undone_cite = is.undone_cite })

-- ---- calls that succeed, and that fail

pub not_err : {A E : Type 0} (P : Type 0) (r : Result A E) → is_err r ≡ false → OnOk r P → P
not_err P (Ok x) e h = h
not_err P (Err x) e h = cc

-- where a call fails, what it can't fail under doesn't hold
pub fails_where : {A E : Type 0} (P : Type 0) (r : Result A E) → is_err r ≡ true → (P → IsOk r) → P → ⊥
fails_where P (Ok x) e h p = cc
fails_where P (Err x) e h p = let ok = h p in cc

pub is_err_then : {A E : Type 0} (P : Type 0) (r : Result A E) → is_err r ≡ true → OnErr r P → P
is_err_then P (Ok x) e h = cc
is_err_then P (Err x) e h = h

-- what a last call can't change holds where it succeeds
pub on_ok : {A E : Type 0} (P : Type 0) (r : Result A E) → P → OnOk r P
on_ok P (Ok x) h = h
on_ok P (Err x) h = tt
