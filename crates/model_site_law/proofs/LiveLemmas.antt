-- What counts of entries gives the list that all of them give.
use Rattle.std.proofs.Common.{◌≡◌, ◌<◌, ℕ, suc, ◌+◌, Bool, true, false, not, ◌&&◌, ◌==◌, if◌then◌else◌, List, [], ◌∷◌, ◌++◌, length, take, drop, Option, Some, None, is_some, option_map, Result, Ok, Err, refl, sym, ap, ◌∙◌, subst, append_assoc, append-nil, arith}
use Rattle.std.proofs.lemmas.Bool.{and_parts}
use Rattle.std.proofs.lemmas.List.{drop-map, length-append, length-drop, length-map, take-append-drop}
use Rattle.model_items.specs.declared.plain_item.PlainItem.{PlainItem}
use Rattle.model_items.specs.declared.plain_item.PlainItem.TheVariants.{Char, Opening, Closing}
use Rattle.model_items.specs.Same.{item_same, list_same, option_same, text_same}
use Rattle.model_items.proofs.SameLemmas.{Means-item_same, Means-list_same, Means-nat, Means-option_same, Means-text_same}
use Rattle.ve_base.specs.declared.attrs.Attr.{Attr}
use Rattle.model_change.specs.Attributes.{AttrChange, attrs_changed, item_changed}
use Rattle.model_change.specs.Join.{RangeConflict, join_list}
use Rattle.model_change.specs.Replay.{AllRun, entry_at, flattened, made_before, mine_of, replay, reversal, revoke}
use Rattle.model_change.specs.Transaction.{Attribute, Replace, Retain, Transaction, all_inserted, edited, on_first}
use Rattle.model_change.proofs.JoinListLaw.{lists_agree}
use Rattle.model_change.proofs.ReversalLaw.{join_list-none, reversal_undoes, revoke_takes_back}
use Rattle.model_change_law.proofs.InsertedLemmas.{join_lists_insert_the_same}
use Rattle.model_site.specs.Entries.{Hints, Parcel}
use Rattle.model_site.specs.Live.{Hinted, Standing, all_alike, all_standing, change_alike, hinted, in_conflict, is_back, left_by, left_without, live, live_from, op_alike, or_last, revocation, stand, under_live, unhinted, with_txs, without, without_hint}
use Rattle.model_site_law.specs.LiveLaws.{LiveRevokeLeavesOut, NothingStandsAbove, RunFrom, WhatCountsIsAll, list_after, list_before, own_of}
use Rattle.model_site_law.specs.Sound.{Sound}
use Rattle.model_site_law.proofs.ReplayLemmas.{AllRun-append, AllRun-parts, flattened-at, replay-append, sound_after}

-- ---- alike transactions give one list

attrs_alike : (name : List ℕ) (kept other : Option ℕ) (from to : Option (List ℕ)) (attrs : List Attr) →
    (if is_some from && not (is_some to) then true else option_same (λ x y. x == y) kept other) ≡ true →
    attrs_changed name kept from to attrs ≡ attrs_changed name other from to attrs
attrs_alike name kept other None None attrs h = refl
attrs_alike name kept other None (Some value) attrs h =
    ap (λ k. attrs_changed name k None (Some value) attrs) ((Means-option_same (λ (x y : ℕ). x == y) Means-nat).equal kept other h)
attrs_alike name kept other (Some old) None attrs h = refl
attrs_alike name kept other (Some old) (Some value) attrs h = refl

abbrev attrs_after : AttrChange → List Attr → List Attr
attrs_after c attrs = attrs_changed c.name c.kept c.from c.to attrs

attrs_after_alike : (c d : AttrChange) (attrs : List Attr) → change_alike c d ≡ true → attrs_after c attrs ≡ attrs_after d attrs
attrs_after_alike c d attrs h =
    let a = and_parts (text_same c.name d.name) _ h in
    let b = and_parts (option_same text_same c.from d.from) _ a.1 in
    let e = and_parts (option_same text_same c.to d.to) _ b.1 in
    let from = (Means-option_same text_same Means-text_same).equal c.from d.from b.0 in
    let to = (Means-option_same text_same Means-text_same).equal c.to d.to e.0 in
    attrs_alike c.name c.kept d.kept c.from c.to attrs e.1
    ∙ ap (λ n. attrs_changed n d.kept c.from c.to attrs) (Means-text_same.equal c.name d.name a.0)
    ∙ ap (λ f. attrs_changed d.name d.kept f c.to attrs) from
    ∙ ap (λ t. attrs_changed d.name d.kept d.from t attrs) to

changed_alike : (c d : AttrChange) (item : PlainItem) → change_alike c d ≡ true → item_changed c item ≡ item_changed d item
changed_alike c d (Opening kind head marks pre origin generated) h =
    ap (λ attrs. Opening kind (record { tag = head.tag; attrs = attrs; raw = head.raw; reference = head.reference; owner = head.owner }) marks pre origin generated)
    (attrs_after_alike c d head.attrs h)
changed_alike c d (Char ch marks) h = refl
changed_alike c d (Closing kind pre) h = refl

first_alike : (c d : AttrChange) (items : List PlainItem) → change_alike c d ≡ true → on_first (item_changed c) items ≡ on_first (item_changed d) items
first_alike c d [] h = refl
first_alike c d (item ∷ items) h = ap (λ i. i ∷ items) (changed_alike c d item h)

edited_alike : (t u : Transaction) (items : List PlainItem) → list_same op_alike t u ≡ true → edited t items ≡ edited u items
edited_alike [] [] items h = refl
edited_alike [] (op ∷ u) items h = cc
edited_alike (op ∷ t) [] items h = cc
edited_alike (Retain count ∷ t) (Retain other ∷ u) items h =
    let p = and_parts (count == other) _ h in
    ap (λ n. take n items ++ edited t (drop n items)) (Means-nat.equal count other p.0)
    ∙ ap (λ l. take other items ++ l) (edited_alike t u (drop other items) p.1)
edited_alike (Replace removed inserted ∷ t) (Replace others instead ∷ u) items h =
    let p = and_parts (list_same item_same removed others && list_same item_same inserted instead) _ h in
    let q = and_parts (list_same item_same removed others) _ p.0 in
    let same = Means-list_same item_same Means-item_same in
    ap (λ r. inserted ++ edited t (drop (length r) items)) (same.equal removed others q.0)
    ∙ ap (λ i. i ++ edited t (drop (length others) items)) (same.equal inserted instead q.1)
    ∙ ap (λ l. instead ++ l) (edited_alike t u (drop (length others) items) p.1)
edited_alike (Attribute change ∷ t) (Attribute other ∷ u) items h =
    let p = and_parts (change_alike change other) _ h in
    ap (edited t) (first_alike change other items p.0) ∙ edited_alike t u (on_first (item_changed other) items) p.1
edited_alike (Retain count ∷ t) (Replace removed inserted ∷ u) items h = cc
edited_alike (Retain count ∷ t) (Attribute change ∷ u) items h = cc
edited_alike (Replace removed inserted ∷ t) (Retain count ∷ u) items h = cc
edited_alike (Replace removed inserted ∷ t) (Attribute change ∷ u) items h = cc
edited_alike (Attribute change ∷ t) (Retain count ∷ u) items h = cc
edited_alike (Attribute change ∷ t) (Replace removed inserted ∷ u) items h = cc

pub replay_alike : (ts us : List Transaction) (items : List PlainItem) → all_alike ts us ≡ true → replay ts items ≡ replay us items
replay_alike [] [] items h = refl
replay_alike [] (u ∷ us) items h = cc
replay_alike (t ∷ ts) [] items h = cc
replay_alike (t ∷ ts) (u ∷ us) items h =
    let p = and_parts (list_same op_alike t u) _ h in
    ap (replay ts) (edited_alike t u items p.0) ∙ replay_alike ts us (edited u items) p.1

-- ---- entries that count

pub all_standing-append : (ss more : List Standing) → all_standing (ss ++ more) ≡ all_standing ss ++ all_standing more
all_standing-append [] more = refl
all_standing-append (s ∷ ss) more = ap (λ r. s.txs ++ r) (all_standing-append ss more) ∙ sym (append_assoc s.txs (all_standing ss) (all_standing more))

pub all_standing-more : (ss : List Standing) (s : Standing) → all_standing (ss ++ s ∷ []) ≡ all_standing ss ++ s.txs
all_standing-more ss s = all_standing-append ss (s ∷ []) ∙ ap (λ r. all_standing ss ++ r) (append-nil s.txs)

-- with as many transactions, these are all of them
pub all_standing-with : (ts : List Transaction) (ss : List Standing) → length ts ≡ length (all_standing ss) → all_standing (with_txs ts ss) ≡ ts
all_standing-with [] [] h = refl
all_standing-with (t ∷ ts) [] h = absurd (omega (arith, h))
all_standing-with ts (s ∷ ss) h =
    let n = length s.txs in
    let long : length s.txs + length (all_standing ss) ≡ length (s.txs ++ all_standing ss) = sym (length-append s.txs (all_standing ss)) in
    let left : length (drop n ts) ≡ length (all_standing ss) = (let d = length-drop n ts in omega arith) in
    ap (λ r. take n ts ++ r) (all_standing-with (drop n ts) ss left) ∙ take-append-drop n ts

-- joined, there are as many
pub joined_as_many : (committed mine : List Transaction) (joined : List Transaction × List Transaction) → join_list committed mine ≡ Ok joined → length joined.0 ≡ length committed
joined_as_many committed mine joined e =
    sym (length-map joined.0 all_inserted) ∙ ap (λ (l : List (List PlainItem)). length l) (join_lists_insert_the_same committed mine joined e).0 ∙ length-map committed all_inserted

-- These run from a list, and give another one.
pub record Stands (standing : List Standing) (from now : List PlainItem) : Type 0 where
  pub runs : AllRun (all_standing standing) from
  pub list : replay (all_standing standing) from ≡ now

pub last_stands : (s : Standing) (standing : List Standing) (from now : List PlainItem) → Stands standing from now → AllRun s.txs now → Stands (standing ++ s ∷ []) from (replay s.txs now)
last_stands s standing from now h runs =
    let all = all_standing-more standing s in
    record {
      runs = subst (λ ts. AllRun ts from) (sym all) (AllRun-append (all_standing standing) s.txs from h.runs (subst (AllRun s.txs) (sym h.list) runs));
      list = ap (λ ts. replay ts from) all ∙ replay-append (all_standing standing) s.txs from ∙ ap (replay s.txs) h.list;
    }

-- those after one that is taken back
pub left_stands : (back taken : List Transaction) (after left : List Standing) (from now : List PlainItem) → Sound from → AllRun taken from → Stands after (replay taken from) now →
    left_without back taken after ≡ Some left → Stands left from (replay back now)
left_stands back taken after left from now sound runs h e = by_join (join_list (all_standing after) (reversal taken)) refl e
  where
    by_join : (r : Result (List Transaction × List Transaction) RangeConflict) → join_list (all_standing after) (reversal taken) ≡ r → left_by back r after ≡ Some left → Stands left from (replay back now)
    by_join (Err clash) d e = cc
    by_join (Ok joined) d e = by_test (all_alike joined.1 back) refl e
      where
        by_test : (b : Bool) → all_alike joined.1 back ≡ b → (if b then Some (with_txs joined.0 after) else None) ≡ Some left → Stands left from (replay back now)
        by_test false a e = cc
        by_test true a e =
            let middle = replay taken from in
            let undone = reversal_undoes taken from sound.lawful sound.apart runs in
            let agree = lists_agree (all_standing after) (reversal taken) joined middle (sound_after taken from sound runs).lawful h.runs undone.runs d in
            let all = all_standing-with joined.0 after (joined_as_many (all_standing after) (reversal taken) joined d) in
            let same : with_txs joined.0 after ≡ left = cc in
            subst (λ l. Stands l from (replay back now)) same (record {
              runs = subst (λ ts. AllRun ts from) (sym all) (subst (AllRun joined.0) undone.back agree.committed_after);
              list = ap (λ ts. replay ts from) all ∙ ap (replay joined.0) (sym undone.back) ∙ sym agree.one_list ∙ ap (replay joined.1) h.list
                  ∙ replay_alike joined.1 back now a;
            })

pub without_stands : (m : ℕ) (back : List Transaction) (standing left : List Standing) (from now : List PlainItem) → Sound from → Stands standing from now →
    without m back standing ≡ Some left → Stands left from (replay back now)
without_stands m back [] left from now sound h e = cc
without_stands m back (s ∷ after) left from now sound h e =
    by_number (λ l more d. without_stands m back after l (replay s.txs from) now more rest d) (s.number == m) e
  where
    Rest : Type 0
    Rest = (l : List Standing) → Sound (replay s.txs from) → without m back after ≡ Some l → Stands l (replay s.txs from) (replay back now)

    parts : AllRun s.txs from × AllRun (all_standing after) (replay s.txs from)
    parts = AllRun-parts s.txs (all_standing after) from h.runs

    rest : Stands after (replay s.txs from) now
    rest = record { runs = parts.1; list = sym (replay-append s.txs (all_standing after) from) ∙ h.list }

    by_rest : Rest → (o : Option (List Standing)) → without m back after ≡ o → option_map (λ l. s ∷ l) o ≡ Some left → Stands left from (replay back now)
    by_rest all None d e = cc
    by_rest all (Some l) d e =
        let more = all l (sound_after s.txs from sound parts.0) d in
        let same : s ∷ l ≡ left = cc in
        subst (λ k. Stands k from (replay back now)) same (record {
          runs = AllRun-append s.txs (all_standing l) from parts.0 more.runs;
          list = replay-append s.txs (all_standing l) from ∙ more.list;
        })

    by_number : Rest → (b : Bool) → (if b then left_without back s.txs after else option_map (λ l. s ∷ l) (without m back after)) ≡ Some left →
        Stands left from (replay back now)
    by_number all true e = left_stands back s.txs after left from now sound parts.0 rest e
    by_number all false e = by_rest all (without m back after) refl e

pub stand_stands : (n : ℕ) (entry : Hinted) (standing : List Standing) (from now : List PlainItem) → Sound from → Stands standing from now → AllRun entry.txs now →
    Stands (stand n entry standing) from (replay entry.txs now)
stand_stands n entry standing from now sound h runs = by_hint entry.takes_back
  where
    by_hint : (o : Option ℕ) → Stands (or_last (record { number = n; txs = entry.txs }) standing (without_hint o entry.txs standing)) from (replay entry.txs now)
    by_hint None = last_stands (record { number = n; txs = entry.txs }) standing from now h runs
    by_hint (Some m) = by_left (without m entry.txs standing) refl
      where
        by_left : (o : Option (List Standing)) → without m entry.txs standing ≡ o → Stands (or_last (record { number = n; txs = entry.txs }) standing o) from (replay entry.txs now)
        by_left None d = last_stands (record { number = n; txs = entry.txs }) standing from now h runs
        by_left (Some left) d = without_stands m entry.txs standing left from now sound h d

pub not_back : (b : Bool) (n : ℕ) (r : Result (List Standing) ℕ) (result : List Standing) → (if b then Err n else r) ≡ Ok result → (b ≡ false) × (r ≡ Ok result)
not_back true n r result e = cc
not_back false n r result e = (refl, e)

pub live_stands : (i : ℕ) (own : List Transaction) (n : ℕ) (entries : List Hinted) (standing result : List Standing) (from now : List PlainItem) → Sound from → Stands standing from now →
    AllRun (flattened (unhinted entries)) now → live_from i own n entries standing ≡ Ok result → Stands result from (replay (flattened (unhinted entries)) now)
live_stands i own n [] standing result from now sound h runs e = let same : standing ≡ result = cc in subst (λ s. Stands s from now) same h
live_stands i own n (entry ∷ entries) standing result from now sound h runs e =
    let later = flattened (unhinted entries) in
    let parts = AllRun-parts entry.txs later now runs in
    subst (Stands result from) (sym (replay-append entry.txs later now))
    (live_stands i own (suc n) entries (stand n entry standing) result from (replay entry.txs now) sound (stand_stands n entry standing from now sound h parts.0) parts.1
    (not_back (is_back i own entry standing) n (live_from i own (suc n) entries (stand n entry standing)) result e).1)

-- ---- entries from a page

-- the list before entry i and the one after it, and what runs from there
pub record Parted (entries : List Hinted) (i : ℕ) (base : List PlainItem) : Type 0 where
  pub first : AllRun (made_before (unhinted entries) i) base
  pub sound : Sound (list_before entries i base)
  pub own : AllRun (own_of entries i) (list_before entries i base)
  pub sound_own : Sound (replay (own_of entries i) (list_before entries i base))
  pub later : AllRun (flattened (unhinted (drop (suc i) entries))) (replay (own_of entries i) (list_before entries i base))
  pub all : replay (flattened (unhinted (drop (suc i) entries))) (replay (own_of entries i) (list_before entries i base)) ≡ list_after entries base

pub parted : (entries : List Hinted) (i : ℕ) (base : List PlainItem) → RunFrom entries i base → Parted entries i base
parted entries i base r =
    let ps : List Parcel = unhinted entries in
    let before = made_before ps i in
    let own = entry_at ps i in
    let after = flattened (unhinted (drop (suc i) entries)) in
    let long = length-map entries (λ (e : Hinted). e.txs) in
    let within : i < length ps = (let w = r.within in omega arith) in
    let split : flattened ps ≡ before ++ (own ++ after) =
    flattened-at ps i within ∙ ap (λ us. before ++ (own ++ flattened us)) (drop-map (λ (e : Hinted). e.txs) (suc i) entries) in
    let first = AllRun-parts before (own ++ after) base (subst (λ ts. AllRun ts base) split r.runs) in
    let second = AllRun-parts own after (replay before base) first.1 in
    let sound = sound_after before base r.sound first.0 in
    record {
      first = first.0;
      sound = sound;
      own = second.0;
      sound_own = sound_after own (replay before base) sound second.0;
      later = second.1;
      all = sym (ap (λ ts. replay ts base) split ∙ replay-append before (own ++ after) base ∙ replay-append own after (replay before base));
    }

-- what counts behind entry i gives the list after all
pub counts_stand : (entries : List Hinted) (i : ℕ) (standing : List Standing) (base : List PlainItem) → RunFrom entries i base → live entries i ≡ Ok standing →
    Stands standing (replay (own_of entries i) (list_before entries i base)) (list_after entries base)
counts_stand entries i standing base r e =
    let p = parted entries i base r in
    let start = replay (own_of entries i) (list_before entries i base) in
    subst (Stands standing start) p.all
    (live_stands i (own_of entries i) (suc i) (drop (suc i) entries) [] standing start start p.sound_own (record { runs = tt; list = refl }) p.later e)

pub what_counts_is_all : WhatCountsIsAll
what_counts_is_all entries i standing base r e =
    let p = parted entries i base r in
    let own = own_of entries i in
    let before = list_before entries i base in
    let s = counts_stand entries i standing base r e in
    record {
      runs = AllRun-append own (all_standing standing) before p.own s.runs;
      one_list = replay-append own (all_standing standing) before ∙ s.list;
    }

-- what an entry is taken back under
pub record Under (own : List Transaction) (r : Result (List Standing) ℕ) (back : List Transaction) : Type 0 where
  pub standing : List Standing
  pub without : List Transaction
  pub counts : r ≡ Ok standing
  pub joined : join_list (all_standing standing) (reversal own) ≡ Ok (without, back)

pub under_live-ok : (own : List Transaction) (r : Result (List Standing) ℕ) (back : List Transaction) → under_live own r ≡ Ok back → Under own r back
under_live-ok own (Err by) back e = cc
under_live-ok own (Ok standing) back e = by_join (join_list (all_standing standing) (reversal own)) refl e
  where
    by_join : (j : Result (List Transaction × List Transaction) RangeConflict) → join_list (all_standing standing) (reversal own) ≡ j → in_conflict (mine_of j) ≡ Ok back → Under own (Ok standing) back
    by_join (Err clash) d e = cc
    by_join (Ok joined) d e = let same : joined.1 ≡ back = cc in record { standing = standing; without = joined.0; counts = refl; joined = d ∙ (λ i. Ok (joined.0, same i)) }

pub live_revoke_leaves_out : LiveRevokeLeavesOut
live_revoke_leaves_out entries i back base r e =
    let own = own_of entries i in
    let before = list_before entries i base in
    let u = under_live-ok own (live entries i) back e in
    let standing = u.standing in
    let without = u.without in
    let p = parted entries i base r in
    let s = counts_stand entries i standing base r u.counts in
    let undone = reversal_undoes own before p.sound.lawful p.sound.apart p.own in
    let agree = lists_agree (all_standing standing) (reversal own) (without, back) (replay own before) p.sound_own.lawful s.runs undone.runs u.joined in
    record {
      standing = standing;
      without = without;
      counts = u.counts;
      joined = u.joined;
      runs = subst (AllRun back) s.list agree.mine_after;
      without_runs = subst (AllRun without) undone.back agree.committed_after;
      one_list = ap (replay back) (sym s.list) ∙ agree.one_list ∙ ap (replay without) undone.back;
    }

pub nothing_stands_above : NothingStandsAbove
nothing_stands_above entries i base r e =
    let own = own_of entries i in
    let p = parted entries i base r in
    let s = counts_stand entries i [] base r e in
    record {
      back = ap (under_live own) e ∙ ap (λ j. in_conflict (mine_of j)) (join_list-none (reversal own));
      list = ap (replay (reversal own)) (sym s.list) ∙ (reversal_undoes own (list_before entries i base) p.sound.lawful p.sound.apart p.own).back;
    }

-- ---- under what counts, or under all

pub unhinted-hinted : (ps : List Parcel) (taken : Hints) → unhinted (hinted ps taken) ≡ ps
unhinted-hinted [] taken = refl
unhinted-hinted (p ∷ ps) [] = ap (λ r. p ∷ r) (unhinted-hinted ps [])
unhinted-hinted (p ∷ ps) (t ∷ taken) = ap (λ r. p ∷ r) (unhinted-hinted ps taken)

pub in_conflict-ok : (r : Result (List Transaction) RangeConflict) (back : List Transaction) → in_conflict r ≡ Ok back → r ≡ Ok back
in_conflict-ok (Err clash) back e = cc
in_conflict-ok (Ok ts) back e = let same : ts ≡ back = cc in ap (λ u. Ok u) same

-- what takes an entry back runs on the list after all
pub revocation_runs : (way : Bool) (entries : List Hinted) (i : ℕ) (back : List Transaction) (base : List PlainItem) → RunFrom entries i base → revocation way entries i ≡ Ok back →
    AllRun back (list_after entries base)
revocation_runs true entries i back base r e = (live_revoke_leaves_out entries i back base r e).runs
revocation_runs false entries i back base r e =
    let long = length-map entries (λ (e : Hinted). e.txs) in
    (revoke_takes_back (unhinted entries) i back base (let w = r.within in omega arith) r.sound.lawful r.sound.apart r.runs
    (in_conflict-ok (revoke (unhinted entries) i) back e)).runs
