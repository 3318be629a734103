-- A property of each item that is opened or inserted, and that setting attributes keeps, holds of
-- each item of every list. Transactions that are undone, joined and taken back put in nothing else.
use Rattle.std.specs.List.{AllByRecursion}
use Rattle.std.proofs.Common.{◌≡◌, ℕ, zero, suc, ◌<◌, ◌==◌, Bool, true, false, if◌then◌else◌, List, [], ◌∷◌, ◌++◌, length, map, take, drop, replicate, slice_get, Option, Some, None, Result, Ok, Err, refl, sym, ap, ◌∙◌, subst, arith, option_map}
use Rattle.std.proofs.lemmas.List.{append-nil, take-append-drop, drop-map, length-map}
use Rattle.model_items.specs.declared.plain_item.PlainItem.{PlainItem}
use Rattle.ve_base.specs.declared.attrs.Attr.{Attr}
use Rattle.model_change.specs.Attributes.{AttrChange, allows, change_back, item_changed}
use Rattle.model_change.specs.Fault.{first_allows}
use Rattle.model_change.specs.Inverse.{attribute_ops, inverse, inverse_after}
use Rattle.model_change.specs.Join.{RangeConflict, join_list}
use Rattle.model_change.specs.Replay.{AllRun, entry_at, flattened, made_after, made_before, mine_of, replay, reversal, revoke}
use Rattle.model_change.specs.Transaction.{Attribute, Replace, Retain, Transaction, all_inserted, edited, on_first}
use Rattle.model_change.proofs.Fits.{Fits, parts_of_Applies}
use Rattle.model_change_law.proofs.InsertedLemmas.{join_lists_insert_the_same}
use Rattle.model_site.specs.Causes.{RedoCause, SendCause, UndoCause}
use Rattle.model_site.specs.Entries.{Entry, Parcel, parcels, hints, entry_against}
use Rattle.model_site.specs.Events.{Event, Perform, Redo, Revoke, Select, Send, Serve, Take, Tell, Undo, after_turn, at_member, happens, run, with_sent, with_site, with_site_of}
use Rattle.model_site.specs.Joined.{join_entries, joined_first}
use Rattle.model_site.specs.Live.{Hinted, RevokeCause, Standing, all_alike, all_standing, is_back, left_by, left_without, live_from, or_last, revocation, stand, unhinted, with_txs, without, without_hint}
use Rattle.model_site.specs.Replica.{Replica, all_filled}
use Rattle.model_site.specs.Session.{Ack, Foreign, Member, Session, SiteFeed, accepted_of, all_fed, feed_for, foreign_feed, joining, put_member, serve_first, started, take_first}
use Rattle.model_site.specs.Site.{Site, Submission, entries_of, init_and_last, with_undone, pending, redo, redo_first, revoke_by, send, undo, undo_last, with_entry, with_selection, with_told, with_entry_against, first_hint, hinted_entries}
use Rattle.model_site.specs.Take.{parcel_entries, take_ack, take_entry, take_foreign}
use Rattle.model_site_law.specs.ItemLaws.{AllPass, AllPutIn, AttrsPass, Inserts, ItemsKeep, PutsIn, RevocationsKeep, SettingKeeps, all_set, any_attr, attr_of}
use Rattle.model_site_law.specs.LiveLaws.{RunFrom, list_before, own_of}
use Rattle.model_site_law.specs.MayHappen.{AllMayHappen, MayHappen}
use Rattle.model_site_law.specs.Protocol.{Every, MemberHolds, SessionHolds}
use Rattle.model_site_law.proofs.FreshLemmas.{inserted-filled}
use Rattle.model_site_law.proofs.LawLemmas.{all_entries_run, base_stays, list_is_replay}
use Rattle.model_site_law.proofs.LiveLemmas.{all_standing-more, all_standing-with, in_conflict-ok, joined_as_many, live_revoke_leaves_out, not_back, parted}
use Rattle.model_site_law.proofs.MemberLemmas.{sends}
use Rattle.model_site_law.proofs.ReplayLemmas.{parcels-append, parcels-drop, parcels-noted, parcels-take, flattened-at}
use Rattle.model_site_law.proofs.ServeLemmas.{event_holds, start_holds}
use Rattle.model_site_law.proofs.SessionLemmas.{every_get, every_put, seen_runs}
use Rattle.model_site_law.proofs.SetLemmas.{join_lists_set_the_same, set-filled}
use Rattle.model_site_law.proofs.SiteLemmas.{parted_is, with_redone, hinted_are, known_run}

-- ---- all of a list

all-append : {A : Type 0} (P : A → Type 0) (xs ys : List A) → AllByRecursion P xs → AllByRecursion P ys → AllByRecursion P (xs ++ ys)
all-append P [] ys p q = q
all-append P (x ∷ xs) ys p q = (p.0, all-append P xs ys p.1 q)

all-parts : {A : Type 0} (P : A → Type 0) (xs ys : List A) → AllByRecursion P (xs ++ ys) → AllByRecursion P xs × AllByRecursion P ys
all-parts P [] ys p = (tt, p)
all-parts P (x ∷ xs) ys p = let q = all-parts P xs ys p.1 in ((p.0, q.0), q.1)

all-cut : {A : Type 0} (P : A → Type 0) (n : ℕ) (xs : List A) → AllByRecursion P xs → AllByRecursion P (take n xs) × AllByRecursion P (drop n xs)
all-cut P n xs p = all-parts P (take n xs) (drop n xs) (subst (AllByRecursion P) (sym (take-append-drop n xs)) p)

runs-parts : (ts us : List Transaction) (items : List PlainItem) → AllRun (ts ++ us) items → AllRun ts items × AllRun us (replay ts items)
runs-parts [] us items r = (tt, r)
runs-parts (t ∷ ts) us items r = let p = runs-parts ts us (edited t items) r.1 in ((r.0, p.0), p.1)

module _ (test : PlainItem → Bool) (sets : Attr → Bool) (keeps : SettingKeeps test sets) where
  abbrev pub P : PlainItem → Type 0
  P item = test item ≡ true

  abbrev pub All : List PlainItem → Type 0
  All items = AllByRecursion P items

  abbrev pub Attrs : List Attr → Type 0
  Attrs attrs = AttrsPass sets attrs

  abbrev pub Ins : Transaction → Type 0
  Ins t = PutsIn test sets t

  abbrev pub Sets : AttrChange → Type 0
  Sets c = Attrs (attr_of c.name c.to)

  -- ---- one transaction

  on_first_all : (c : AttrChange) (items : List PlainItem) → first_allows c items ≡ true → Sets c → All items → All (on_first (item_changed c) items)
  on_first_all c [] h i p = cc
  on_first_all c (item ∷ items) h i p = (keeps.stays c item h i p.0, p.1)

  first_was : (c : AttrChange) (items : List PlainItem) → first_allows c items ≡ true → All items → Sets (change_back c)
  first_was c [] h p = cc
  first_was c (item ∷ items) h p = keeps.was c item h p.0

  set_parts : (c : AttrChange) (ops : Transaction) → Attrs (all_set (Attribute c ∷ ops)) → Sets c × Attrs (all_set ops)
  set_parts c ops i = all-parts (λ a. sets a ≡ true) (attr_of c.name c.to) (all_set ops) i

  pub edited_all : (t : Transaction) (items : List PlainItem) → Fits t items → Ins t → All items → All (edited t items)
  edited_all [] items f i p = p
  edited_all (Retain count ∷ ops) items f i p =
      let q = all-cut P count items p in
      all-append P (take count items) (edited ops (drop count items)) q.0 (edited_all ops (drop count items) f i q.1)
  edited_all (Replace gone new ∷ ops) items f i p =
      let q = all-parts P new (all_inserted ops) i.0 in
      all-append P new (edited ops (drop (length gone) items)) q.0 (edited_all ops (drop (length gone) items) f.1 (q.1, i.1) (all-cut P (length gone) items p).1)
  edited_all (Attribute c ∷ ops) items f i p =
      let q = set_parts c ops i.1 in
      edited_all ops (on_first (item_changed c) items) f.1 (i.0, q.1) (on_first_all c items f.0 q.0 p)

  ops_insert : (changes : List AttrChange) (ops : Transaction) → AllByRecursion Sets changes → Ins ops → Ins (attribute_ops changes ++ ops)
  ops_insert [] ops a i = i
  ops_insert (c ∷ changes) ops a i =
      let q = ops_insert changes ops a.1 i in
      (q.0, all-append (λ a. sets a ≡ true) (attr_of c.name c.to) (all_set (attribute_ops changes ++ ops)) a.0 q.1)

  inverse_inserts : (ops : Transaction) (changes : List AttrChange) (items : List PlainItem) → AllByRecursion Sets changes → Fits ops items → Attrs (all_set ops) → All items →
      Ins (inverse_after changes ops)
  inverse_inserts [] changes items a f i p = subst Ins (append-nil (attribute_ops changes)) (ops_insert changes [] a (tt, tt))
  inverse_inserts (Retain count ∷ ops) changes items a f i p =
      ops_insert changes (Retain count ∷ inverse_after [] ops) a (inverse_inserts ops [] (drop count items) tt f i (all-cut P count items p).1)
  inverse_inserts (Replace gone new ∷ ops) changes items a f i p =
      let q = all-parts P gone (drop (length gone) items) (subst All f.0 p) in
      let r = inverse_inserts ops [] (drop (length gone) items) tt f.1 i q.1 in
      ops_insert changes (Replace new gone ∷ inverse_after [] ops) a (all-append P gone (all_inserted (inverse_after [] ops)) q.0 r.0, r.1)
  inverse_inserts (Attribute c ∷ ops) changes items a f i p =
      let q = set_parts c ops i in
      inverse_inserts ops (change_back c ∷ changes) (on_first (item_changed c) items) (first_was c items f.0 p, a) f.1 q.1 (on_first_all c items f.0 q.0 p)

  -- ---- several

  replay_all : (ts : List Transaction) (items : List PlainItem) → AllRun ts items → AllPutIn test sets ts → All items → All (replay ts items)
  replay_all [] items runs i p = p
  replay_all (t ∷ ts) items runs i p =
      replay_all ts (edited t items) runs.1 i.1 (edited_all t items (parts_of_Applies t items runs.0.applies).1 i.0 p)

  reversal_inserts : (ts : List Transaction) (items : List PlainItem) → AllRun ts items → AllPutIn test sets ts → All items → AllPutIn test sets (reversal ts)
  reversal_inserts [] items runs i p = tt
  reversal_inserts (t ∷ ts) items runs i p =
      let fits = (parts_of_Applies t items runs.0.applies).1 in
      all-append Ins (reversal ts) (inverse t ∷ []) (reversal_inserts ts (edited t items) runs.1 i.1 (edited_all t items fits i.0 p)) (inverse_inserts t [] items tt fits i.0.1 p, tt)

  filled_insert : (ts : List Transaction) (items : List PlainItem) → AllPutIn test sets ts → AllPutIn test sets (all_filled ts items)
  filled_insert [] items i = tt
  filled_insert (t ∷ ts) items i =
      ((subst All (sym (inserted-filled t items)) i.0.0, subst Attrs (sym (set-filled t items)) i.0.1), filled_insert ts (edited t items) i.1)

  -- what is inserted and set, list by list
  from_lists : (ts : List Transaction) → AllByRecursion All (map all_inserted ts) → AllByRecursion Attrs (map all_set ts) → AllPutIn test sets ts
  from_lists [] i j = tt
  from_lists (t ∷ ts) i j = ((i.0, j.0), from_lists ts i.1 j.1)

  to_lists : (ts : List Transaction) → AllPutIn test sets ts → AllByRecursion All (map all_inserted ts) × AllByRecursion Attrs (map all_set ts)
  to_lists [] i = (tt, tt)
  to_lists (t ∷ ts) i = let q = to_lists ts i.1 in ((i.0.0, q.0), (i.0.1, q.1))

  as_they_did : (ts us : List Transaction) → map all_inserted us ≡ map all_inserted ts → map all_set us ≡ map all_set ts → AllPutIn test sets ts → AllPutIn test sets us
  as_they_did ts us d e i = let q = to_lists ts i in from_lists us (subst (AllByRecursion All) (sym d) q.0) (subst (AllByRecursion Attrs) (sym e) q.1)

  joined_insert : (committed mine : List Transaction) (joined : List Transaction × List Transaction) → join_list committed mine ≡ Ok joined →
      AllPutIn test sets committed → AllPutIn test sets mine → AllPutIn test sets joined.0 × AllPutIn test sets joined.1
  joined_insert committed mine joined e i j =
      let same = join_lists_insert_the_same committed mine joined e in
      let set = join_lists_set_the_same committed mine joined e in
      (as_they_did committed joined.0 same.0 set.0 i, as_they_did mine joined.1 same.1 set.1 j)

  -- ---- entries

  abbrev Entries : List Parcel → Type 0
  Entries ps = AllByRecursion (AllPutIn test sets) ps

  flat : (ps : List Parcel) → Entries ps → AllPutIn test sets (flattened ps)
  flat [] i = tt
  flat (p ∷ ps) i = all-append Ins p (flattened ps) i.0 (flat ps i.1)

  kept_insert : (committed : List Transaction) (es : List Parcel) → AllPutIn test sets committed → Entries es → Entries (join_entries committed es).kept
  kept_insert committed [] i j = tt
  kept_insert committed (e ∷ es) i j = by_first (λ over o. kept_insert over es o j.1) (join_list committed e) refl
    where
      by_first : ((over : List Transaction) → AllPutIn test sets over → Entries (join_entries over es).kept) → (r : Result (List Transaction × List Transaction) RangeConflict) → join_list committed e ≡ r →
          Entries (joined_first committed r (λ over. join_entries over es)).kept
      by_first rest (Err clash) d = tt
      by_first rest (Ok joined) d = let both = joined_insert committed e joined d i j.0 in (both.1, rest joined.0 both.0)

  revoke_inserts : (entries : List Parcel) (i : ℕ) (back : List Transaction) (base : List PlainItem) → i < length entries → AllRun (flattened entries) base → AllPutIn test sets (flattened entries) → All base →
      revoke entries i ≡ Ok back → AllPutIn test sets back
  revoke_inserts entries i back base l runs ins p e =
      let before : List Transaction = made_before entries i in
      let entry : List Transaction = entry_at entries i in
      let after : List Transaction = made_after entries i in
      let parts : flattened entries ≡ before ++ (entry ++ after) = flattened-at entries i l in
      let first = runs-parts before (entry ++ after) base (subst (λ ts. AllRun ts base) parts runs) in
      let second = runs-parts entry after (replay before base) first.1 in
      let a = all-parts Ins before (entry ++ after) (subst (AllPutIn test sets) parts ins) in
      let b = all-parts Ins entry after a.1 in
      mine after (reversal entry) (join_list after (reversal entry)) refl b.1 (reversal_inserts entry (replay before base) second.0 b.0 (replay_all before base first.0 a.0 p)) e
    where
      mine : (later its : List Transaction) (r : Result (List Transaction × List Transaction) RangeConflict) → join_list later its ≡ r → AllPutIn test sets later → AllPutIn test sets its →
          mine_of r ≡ Ok back → AllPutIn test sets back
      mine later its (Ok joined) d i j e = let same : joined.1 ≡ back = cc in subst (AllPutIn test sets) same (joined_insert later its joined d i j).1
      mine later its (Err clash) d i j e = cc

  -- ---- what counts of entries, and an entry taken back

  first_inserts : (committed mine : List Transaction) (joined : List Transaction × List Transaction) → join_list committed mine ≡ Ok joined → AllPutIn test sets committed → AllPutIn test sets joined.0
  first_inserts committed mine joined e i =
      as_they_did committed joined.0 (join_lists_insert_the_same committed mine joined e).0 (join_lists_set_the_same committed mine joined e).0 i

  abbrev Counts : List Standing → Type 0
  Counts standing = AllPutIn test sets (all_standing standing)

  last_counts : (s : Standing) (standing : List Standing) → Counts standing → AllPutIn test sets s.txs → Counts (standing ++ s ∷ [])
  last_counts s standing i j = subst (AllPutIn test sets) (sym (all_standing-more standing s)) (all-append Ins (all_standing standing) s.txs i j)

  left_counts : (back taken : List Transaction) (after left : List Standing) → Counts after → left_without back taken after ≡ Some left → Counts left
  left_counts back taken after left i e = by_join (join_list (all_standing after) (reversal taken)) refl e
    where
      by_join : (r : Result (List Transaction × List Transaction) RangeConflict) → join_list (all_standing after) (reversal taken) ≡ r → left_by back r after ≡ Some left → Counts left
      by_join (Err clash) d e = cc
      by_join (Ok joined) d e = by_test (all_alike joined.1 back) e
        where
          by_test : (b : Bool) → (if b then Some (with_txs joined.0 after) else None) ≡ Some left → Counts left
          by_test false e = cc
          by_test true e =
              let same : with_txs joined.0 after ≡ left = cc in
              let all = all_standing-with joined.0 after (joined_as_many (all_standing after) (reversal taken) joined d) in
              subst Counts same (subst (AllPutIn test sets) (sym all) (first_inserts (all_standing after) (reversal taken) joined d i))

  without_counts : (m : ℕ) (back : List Transaction) (standing left : List Standing) → Counts standing → without m back standing ≡ Some left → Counts left
  without_counts m back [] left i e = cc
  without_counts m back (s ∷ after) left i e = by_number (λ l d. without_counts m back after l parts.1 d) (s.number == m) e
    where
      Rest : Type 0
      Rest = (l : List Standing) → without m back after ≡ Some l → Counts l

      parts : AllPutIn test sets s.txs × Counts after
      parts = all-parts Ins s.txs (all_standing after) i

      by_rest : Rest → (o : Option (List Standing)) → without m back after ≡ o → option_map (λ l. s ∷ l) o ≡ Some left → Counts left
      by_rest all None d e = cc
      by_rest all (Some l) d e = let same : s ∷ l ≡ left = cc in subst Counts same (all-append Ins s.txs (all_standing l) parts.0 (all l d))

      by_number : Rest → (b : Bool) → (if b then left_without back s.txs after else option_map (λ l. s ∷ l) (without m back after)) ≡ Some left → Counts left
      by_number all true e = left_counts back s.txs after left parts.1 e
      by_number all false e = by_rest all (without m back after) refl e

  stand_counts : (n : ℕ) (entry : Hinted) (standing : List Standing) → Counts standing → AllPutIn test sets entry.txs → Counts (stand n entry standing)
  stand_counts n entry standing i j = by_left (without_hint entry.takes_back entry.txs standing) (by_hint entry.takes_back)
    where
      by_hint : (o : Option ℕ) (left : List Standing) → without_hint o entry.txs standing ≡ Some left → Counts left
      by_hint None left e = cc
      by_hint (Some m) left e = without_counts m entry.txs standing left i e

      by_left : (o : Option (List Standing)) → ((left : List Standing) → o ≡ Some left → Counts left) → Counts (or_last (record { number = n; txs = entry.txs }) standing o)
      by_left None all = last_counts (record { number = n; txs = entry.txs }) standing i j
      by_left (Some left) all = all left refl

  live_counts : (i : ℕ) (own : List Transaction) (n : ℕ) (entries : List Hinted) (standing result : List Standing) → Counts standing → Entries (unhinted entries) →
      live_from i own n entries standing ≡ Ok result → Counts result
  live_counts i own n [] standing result c ins e = let same : standing ≡ result = cc in subst Counts same c
  live_counts i own n (entry ∷ entries) standing result c ins e =
      live_counts i own (suc n) entries (stand n entry standing) result (stand_counts n entry standing c ins.0) ins.1
      (not_back (is_back i own entry standing) n (live_from i own (suc n) entries (stand n entry standing)) result e).1

  in_parts : (ps : List Parcel) → AllPutIn test sets (flattened ps) → Entries ps
  in_parts [] i = tt
  in_parts (p ∷ ps) i = let q = all-parts Ins p (flattened ps) i in (q.0, in_parts ps q.1)

  revocation_inserts : (way : Bool) (entries : List Hinted) (i : ℕ) (back : List Transaction) (base : List PlainItem) → RunFrom entries i base → Entries (unhinted entries) → All base →
      revocation way entries i ≡ Ok back → AllPutIn test sets back
  revocation_inserts false entries i back base r ins p e =
      let long = length-map entries (λ (e : Hinted). e.txs) in
      revoke_inserts (unhinted entries) i back base (let w = r.within in omega arith) r.runs (flat (unhinted entries) ins) p (in_conflict-ok (revoke (unhinted entries) i) back e)
  revocation_inserts true entries i back base r ins p e =
      let left = live_revoke_leaves_out entries i back base r e in
      let own = own_of entries i in
      let cut = all-cut (AllPutIn test sets) (suc i) (unhinted entries) ins in
      let later = subst Entries (drop-map (λ (e : Hinted). e.txs) (suc i) entries) cut.1 in
      let counts = live_counts i own (suc i) (drop (suc i) entries) [] left.standing tt later left.counts in
      let there = parted entries i base r in
      let before = flat (take i (unhinted entries)) (all-cut (AllPutIn test sets) i (unhinted entries) ins).0 in
      let first = replay_all (made_before (unhinted entries) i) base there.first before p in
      (joined_insert (all_standing left.standing) (reversal own) (left.without, back) left.joined counts
      (reversal_inserts own (list_before entries i base) there.own (at_number (unhinted entries) i ins) first)).1
    where
      at_number : (ps : List Parcel) (n : ℕ) → Entries ps → AllPutIn test sets (entry_at ps n)
      at_number [] n ins = tt
      at_number (q ∷ ps) zero ins = ins.0
      at_number (q ∷ ps) (suc n) ins = at_number ps n ins.1

  -- ---- sites and their queues

  abbrev Feeds : SiteFeed → Type 0
  Feeds (Foreign ps) = Entries ps
  Feeds (Ack n) = Unit {0}

  record Sites (s : Site) : Type 0 where
    pub sent : Entries (parcels s.sent)
    pub unsent : Entries (parcels s.unsent)
    pub undone : Entries s.undone

  record Inside (m : Member) : Type 0 where
    pub site : Sites m.site
    pub submissions : AllByRecursion (λ (s : Submission). Entries s.entries) m.submissions
    pub feeds : AllByRecursion Feeds m.feeds

  record InSession (w : Session) : Type 0 where
    pub committed : Entries w.committed
    pub members : Every Inside w.members

  pending_insert : (s : Site) → Sites s → Entries (parcels (pending s))
  pending_insert s h = subst Entries (sym (parcels-append s.sent s.unsent)) (all-append (AllPutIn test sets) (parcels s.sent) (parcels s.unsent) h.sent h.unsent)

  known_insert : (committed : List Parcel) (s : Site) → Entries committed → Sites s → Entries (entries_of committed s)
  known_insert committed s c h = all-append (AllPutIn test sets) (take s.seen committed) (parcels (pending s)) (all-cut (AllPutIn test sets) s.seen committed c).0 (pending_insert s h)

  with_entry_inserts : (taken : Option ℕ) (ts : List Transaction) (s : Site) → AllPutIn test sets ts → Sites s → Sites (with_entry_against taken ts s)
  with_entry_inserts taken ts s i h = record {
    sent = h.sent;
    unsent = subst Entries (sym (parcels-append s.unsent (entry_against taken ts s.replica ∷ []))) (all-append (AllPutIn test sets) (parcels s.unsent) (parcels (entry_against taken ts s.replica ∷ [])) h.unsent (filled_insert ts s.replica.items i, tt));
    undone = tt;
  }

  undo_inserts : (s next : Site) → undo s ≡ Ok next → Sites s → Sites next
  undo_inserts s next done h = by_last s.unsent refl done
    where
      by_last : (es : List Entry) → es ≡ s.unsent → undo_last es s ≡ Ok next → Sites next
      by_last [] e done = cc
      by_last (x ∷ es) e done =
          let p = init_and_last x es in
          let same : with_undone p.1 p.0 s ≡ next = cc in
          let whole : parcels s.unsent ≡ parcels p.0 ++ p.1.txs ∷ [] = ap parcels (sym (parted_is x es ∙ e)) ∙ parcels-append p.0 (p.1 ∷ []) in
          let parts = all-parts (AllPutIn test sets) (parcels p.0) (p.1.txs ∷ []) (subst Entries whole h.unsent) in
          subst Sites same (record { sent = h.sent; unsent = parts.0; undone = (parts.1.0, h.undone) })

  redo_inserts : (s next : Site) → redo s ≡ Ok next → Sites s → Sites next
  redo_inserts s next done h = by_first s.undone refl done
    where
      by_first : (us : List Parcel) → us ≡ s.undone → redo_first us s ≡ Ok next → Sites next
      by_first [] e done = cc
      by_first (ts ∷ us) e done =
          let same : with_redone ts us s ≡ next = cc in
          let parts : AllPutIn test sets ts × Entries us = subst Entries (sym e) h.undone in
          let new = with_entry_inserts (first_hint s.undone_hints) ts s parts.0 h in
          subst Sites same (record { sent = new.sent; unsent = new.unsent; undone = parts.1 })

  take_entry_inserts : (foreign : Parcel) (s : Site) → AllPutIn test sets foreign → Sites s → Sites (take_entry foreign s)
  take_entry_inserts foreign s i h =
      let new = take_entry foreign s in
      let kept = (join_entries foreign (parcels (pending s))).kept in
      let taken = hints (pending s) in
      let all = parcel_entries (length new.replica.store) taken kept in
      let inserts : Entries (parcels all) = subst Entries (sym (parcels-noted (length new.replica.store) taken kept)) (kept_insert foreign (parcels (pending s)) i (pending_insert s h)) in
      let cut = all-cut (AllPutIn test sets) (length s.sent) (parcels all) inserts in
      record {
        sent = subst Entries (sym (parcels-take (length s.sent) all)) cut.0;
        unsent = subst Entries (sym (parcels-drop (length s.sent) all)) cut.1;
        undone = tt;
      }

  take_foreign_inserts : (ps : List Parcel) (s : Site) → Entries ps → Sites s → Sites (take_foreign ps s)
  take_foreign_inserts [] s i h = record { sent = h.sent; unsent = h.unsent; undone = tt }
  take_foreign_inserts (p ∷ ps) s i h = take_foreign_inserts ps (take_entry p s) i.1 (take_entry_inserts p s i.0 h)

  -- ---- events

  foreign_feeds : (ps : List Parcel) → Entries ps → AllByRecursion Feeds (foreign_feed ps)
  foreign_feeds [] i = tt
  foreign_feeds (p ∷ ps) i = (i, tt)

  fed_inserts : (sender k : ℕ) (ps : List Parcel) (ms : List Member) → Entries ps → Every Inside ms → Every Inside (all_fed sender k ps ms)
  fed_inserts sender k ps [] i all = tt
  fed_inserts sender k ps (m ∷ ms) i all =
      (record { site = all.0.site; submissions = all.0.submissions; feeds = all-append Feeds m.feeds (feed_for sender k ps) all.0.feeds (fed (k == sender)) }, fed_inserts sender (suc k) ps ms i all.1)
    where
      fed : (b : Bool) → AllByRecursion Feeds (if b then Ack (length ps) ∷ [] else foreign_feed ps)
      fed true = (tt, tt)
      fed false = foreign_feeds ps i

  put_site : (w : Session) (k : ℕ) (m : Member) (s : Site) → InSession w → Inside m → Sites s → InSession (with_site k m s w)
  put_site w k m s h p q = record {
    committed = h.committed;
    members = every_put Inside w.members k (record m { site = s }) h.members (record { site = q; submissions = p.submissions; feeds = p.feeds });
  }

  module _ (w : Session) (holds : SessionHolds w) (base : AllByRecursion P w.base.items) (h : InSession w) where
    here : (k : ℕ) (m : Member) → slice_get w.members k ≡ Some m → Inside m
    here k m e = every_get Inside w.members k m h.members e

    undo_by : (k : ℕ) (m : Member) → slice_get w.members k ≡ Some m → (r : Result Site UndoCause) → undo m.site ≡ r → InSession (with_site_of k m r w)
    undo_by k m e (Err f) d = h
    undo_by k m e (Ok s) d = put_site w k m s h (here k m e) (undo_inserts m.site s d (here k m e).site)

    redo_by : (k : ℕ) (m : Member) → slice_get w.members k ≡ Some m → (r : Result Site RedoCause) → redo m.site ≡ r → InSession (with_site_of k m r w)
    redo_by k m e (Err f) d = h
    redo_by k m e (Ok s) d = put_site w k m s h (here k m e) (redo_inserts m.site s d (here k m e).site)

    revoke_of : (k i : ℕ) (live : Bool) (m : Member) → slice_get w.members k ≡ Some m → i < m.site.seen → (r : Result (List Transaction) RevokeCause) →
        revocation live (hinted_entries w.committed w.hints m.site) i ≡ r → InSession (with_site_of k m (revoke_by i r m.site) w)
    revoke_of k i live m e below (Err cause) d = h
    revoke_of k i live m e below (Ok back) d =
        let p = every_get (MemberHolds w.base.items w.committed) w.members k m holds.members e in
        let inside = here k m e in
        let known = hinted_entries w.committed w.hints m.site in
        let runs = known_run w.base.items p.before p.rest w.committed w.hints i m.site holds.sound (seen_runs w.base.items w.committed m holds.committed p) p.split p.site below in
        let inserted = subst Entries (sym (hinted_are w.committed w.hints m.site)) (known_insert w.committed m.site h.committed inside.site) in
        let inserts = revocation_inserts live known i back w.base.items runs inserted base d in
        put_site w k m (with_entry_against (Some i) back m.site) h inside (with_entry_inserts (Some i) back m.site inserts inside.site)

    send_by : (k : ℕ) (m : Member) → slice_get w.members k ≡ Some m → (r : Result (Site × Submission) SendCause) → send m.site ≡ r → InSession (with_sent k m r w)
    send_by k m e (Err f) d = h
    send_by k m e (Ok r) d =
        let inside = here k m e in
        let s = sends m.site r d in
        record {
          committed = h.committed;
          members = every_put Inside w.members k (record { site = r.0; submissions = m.submissions ++ r.1 ∷ []; feeds = m.feeds }) h.members (record {
            site = record {
              sent = subst (λ es. Entries (parcels es)) (sym s.sent) (pending_insert m.site inside.site);
              unsent = subst (λ es. Entries (parcels es)) (sym s.unsent) tt;
              undone = subst Entries (sym s.undone) inside.site.undone;
            };
            submissions = all-append (λ (x : Submission). Entries x.entries) m.submissions (r.1 ∷ []) inside.submissions (subst Entries (sym s.entries) inside.site.unsent, tt);
            feeds = inside.feeds;
          });
        }

    serve_by : (k : ℕ) (m : Member) → slice_get w.members k ≡ Some m → (ss : List Submission) → m.submissions ≡ ss → InSession (after_turn w (serve_first k m ss w))
    serve_by k m e [] d = h
    serve_by k m e (s ∷ later) d =
        let inside = here k m e in
        let queue : Entries s.entries × AllByRecursion (λ (x : Submission). Entries x.entries) later = subst (AllByRecursion (λ (x : Submission). Entries x.entries)) d inside.submissions in
        let since = drop s.base w.committed in
        let kept = kept_insert (flattened since) s.entries (flat since (all-cut (AllPutIn test sets) s.base w.committed h.committed).1) queue.0 in
        record {
          committed = all-append (AllPutIn test sets) w.committed (accepted_of w.committed s).kept h.committed kept;
          members = fed_inserts k 0 (accepted_of w.committed s).kept (put_member k (record m { submissions = later }) w.members) kept
              (every_put Inside w.members k (record m { submissions = later }) h.members (record { site = inside.site; submissions = queue.1; feeds = inside.feeds }));
        }

    take_by : (k : ℕ) (m : Member) → slice_get w.members k ≡ Some m → (fs : List SiteFeed) → m.feeds ≡ fs → InSession (after_turn w (take_first k m fs w))
    take_by k m e [] d = h
    take_by k m e (Foreign ps ∷ later) d =
        let inside = here k m e in
        let queue : Entries ps × AllByRecursion Feeds later = subst (AllByRecursion Feeds) d inside.feeds in
        record {
          committed = h.committed;
          members = every_put Inside w.members k (record m { site = take_foreign ps m.site; feeds = later }) h.members (record { site = take_foreign_inserts ps m.site queue.0 inside.site; submissions = inside.submissions; feeds = queue.1 });
        }
    take_by k m e (Ack n ∷ later) d =
        let inside = here k m e in
        let queue : Unit {0} × AllByRecursion Feeds later = subst (AllByRecursion Feeds) d inside.feeds in
        record {
          committed = h.committed;
          members = every_put Inside w.members k (record m { site = take_ack m.site; feeds = later }) h.members
              (record { site = record { sent = tt; unsent = inside.site.unsent; undone = tt }; submissions = inside.submissions; feeds = queue.1 });
        }

    -- where there is such a site
    at_by : (o : Option Member) (k : ℕ) (f : Member → Session) → slice_get w.members k ≡ o → ((m : Member) → slice_get w.members k ≡ Some m → InSession (f m)) → InSession (at_member w o f)
    at_by None k f e all = h
    at_by (Some m) k f e all = all m e

    event_inserts : (e : Event) → MayHappen w e → Inserts test sets e → InSession (happens w e)
    event_inserts (Perform k ts) may i = at_by (slice_get w.members k) k _ refl (λ m e. put_site w k m (with_entry ts m.site) h (here k m e) (with_entry_inserts None ts m.site i (here k m e).site))
    event_inserts (Select k s) may i =
        at_by (slice_get w.members k) k _ refl (λ m e. put_site w k m (with_selection s m.site) h (here k m e) (record { sent = (here k m e).site.sent; unsent = (here k m e).site.unsent; undone = (here k m e).site.undone }))
    event_inserts (Tell k) may i =
        at_by (slice_get w.members k) k _ refl (λ m e. put_site w k m (with_told m.site) h (here k m e) (record { sent = (here k m e).site.sent; unsent = (here k m e).site.unsent; undone = (here k m e).site.undone }))
    event_inserts (Undo k) may i = at_by (slice_get w.members k) k _ refl (λ m e. undo_by k m e (undo m.site) refl)
    event_inserts (Redo k) may i = at_by (slice_get w.members k) k _ refl (λ m e. redo_by k m e (redo m.site) refl)
    event_inserts (Revoke k n live) may i =
        at_by (slice_get w.members k) k _ refl (λ m e. revoke_of k n live m e (may m e) (revocation live (hinted_entries w.committed w.hints m.site) n) refl)
    event_inserts (Send k) may i = at_by (slice_get w.members k) k _ refl (λ m e. send_by k m e (send m.site) refl)
    event_inserts (Serve k) may i = at_by (slice_get w.members k) k _ refl (λ m e. serve_by k m e m.submissions refl)
    event_inserts (Take k) may i = at_by (slice_get w.members k) k _ refl (λ m e. take_by k m e m.feeds refl)

  run_inserts : (es : List Event) (w : Session) → SessionHolds w → AllByRecursion P w.base.items → InSession w → AllMayHappen w es → AllByRecursion (Inserts test sets) es → InSession (run w es)
  run_inserts [] w holds base h may i = h
  run_inserts (e ∷ es) w holds base h may i =
      run_inserts es (happens w e) (event_holds w e holds may.0) (subst (λ (b : Replica). AllByRecursion P b.items) (sym (base_stays w e)) base) (event_inserts w holds base h e may.0 i.0) may.1 i.1

  start_inserts : (base : Replica) (n : ℕ) → Every Inside (replicate n (joining base))
  start_inserts base zero = tt
  start_inserts base (suc n) = (record { site = record { sent = tt; unsent = tt; undone = tt }; submissions = tt; feeds = tt }, start_inserts base n)

pub items_keep : ItemsKeep
items_keep test sets base sites events k m keeps opens may first inserts e =
    let start = started base sites in
    let w = run start events in
    let begins : InSession test sets keeps start = record { committed = tt; members = start_inserts test sets keeps base sites } in
    let end = run_inserts test sets keeps events start (start_holds base sites opens.sound opens.stored) first begins may inserts in
    let inside = every_get (Inside test sets keeps) w.members k m end.members e in
    let known = flat test sets keeps (entries_of w.committed m.site) (known_insert test sets keeps w.committed m.site end.committed inside.site) in
    subst (AllPass test) (sym (list_is_replay base sites events k m opens may e))
    (replay_all test sets keeps (flattened (entries_of w.committed m.site)) base.items (all_entries_run base sites events k m opens may e) known first)

pub revocations_keep : RevocationsKeep
revocations_keep test sets way entries i back base keeps r inserts first e =
    revocation_inserts test sets keeps way entries i back base r (in_parts test sets keeps (unhinted entries) inserts) first e

-- ---- where any attribute may be set

any_passes : (attrs : List Attr) → AttrsPass any_attr attrs
any_passes [] = tt
any_passes (a ∷ attrs) = (refl, any_passes attrs)

pub any_keeps : (test : PlainItem → Bool) → ((c : AttrChange) (item : PlainItem) → allows c item ≡ true → test item ≡ true → test (item_changed c item) ≡ true) → SettingKeeps test any_attr
any_keeps test h = record { stays = λ c item e set p. h c item e p; was = λ c item e p. any_passes (attr_of c.name c.from) }

pub puts_any : (test : PlainItem → Bool) (t : Transaction) → AllPass test (all_inserted t) → PutsIn test any_attr t
puts_any test t i = (i, any_passes (all_set t))
