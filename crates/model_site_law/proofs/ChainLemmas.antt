-- Chains of entries over a store that grows, and over one that is cut.
use Rattle.std.proofs.Common.{◌≡◌, ℕ, zero, suc, ◌≤◌, ◌<◌, ◌==◌, nat_lt, ◌&&◌, Bool, true, false, List, [], ◌∷◌, ◌++◌, length, take, drop, if◌then◌else◌, ltb-true, refl, sym, ap, ◌∙◌, subst, arith}
use Rattle.std.proofs.lemmas.List.{append_assoc, append-nil, length-append, length-take, take-append-drop, take-append-le}
use Rattle.std.proofs.Math.Seq.{take-length}
use Rattle.std.proofs.lemmas.Bool.{and_parts}
use Rattle.ve_base.specs.declared.value.Value.{Value}
use Rattle.model_items.specs.declared.plain_item.PlainItem.{PlainItem}
use Rattle.model_change.specs.Inverse.{filled}
use Rattle.model_change.specs.Replay.{AllRun, flattened, replay, reversal}
use Rattle.model_change.specs.Store.{cited}
use Rattle.model_change.specs.Transaction.{Transaction, all_removed}
use Rattle.model_site.specs.Entries.{Entry, Parcel, all_reverted, parcels, reverted, Hints}
use Rattle.model_site.specs.Replica.{Replica, all_filled, all_performed, all_put_back, performed}
use Rattle.model_site.specs.Take.{parcel_entries}
use Rattle.model_site_law.specs.Chain.{Chain, needed_values}
use Rattle.model_site_law.specs.Sound.{AllIn, AllMayRun, Sound}
use Rattle.model_site_law.proofs.NeedLemmas.{AllNeeded, removed-filled}
use Rattle.model_site_law.proofs.PerformLemmas.{all_performed_grows, performed_grows, performed_held, put_back_grows, removed_held, reversed_held}
use Rattle.model_site_law.proofs.ReplayLemmas.{AllRun-parts, flattened-append, parcels-append, replay-append, sound_after}
use Rattle.model_site_law.proofs.RevertLemmas.{items_all_reverted}
use Rattle.model_site_law.proofs.StoreLemmas.{Grown, in_append, in_grown, none_in}

-- ---- prefixes of stores

take_take : (m k : ℕ) (xs : List Value) → m ≤ k → take m (take k xs) ≡ take m xs
take_take zero k xs h = refl
take_take (suc m) zero xs h = absurd (omega arith)
take_take (suc m) (suc k) [] h = refl
take_take (suc m) (suc k) (x ∷ xs) h = ap (λ r. x ∷ r) (take_take m k xs (omega arith))

-- stores with one prefix up to k have one up to m
same_prefix : (m k : ℕ) (S T : List Value) → m ≤ k → take k T ≡ take k S → take m T ≡ take m S
same_prefix m k S T h e = sym (take_take m k T h) ∙ ap (take m) e ∙ take_take m k S h

prefix_grown : (k : ℕ) (S T : List Value) → Grown S T → k ≤ length S → take k T ≡ take k S
prefix_grown k S T g h = ap (take k) g.same ∙ take-append-le k S g.more h

pub length_grown : (S T : List Value) → Grown S T → length S ≤ length T
length_grown S T g = let e = ap length g.same ∙ length-append S g.more in omega arith

take_grows : (k : ℕ) (S : List Value) → Grown (take k S) S
take_grows k S = record { more = drop k S; same = sym (take-append-drop k S) }

held_of_prefix : (k : ℕ) (S : List Value) (vs : List Value) → AllIn (take k S) vs → AllIn S vs
held_of_prefix k S vs p = in_grown (take k S) S vs (take_grows k S) p

-- ---- the last entry of a chain

pub record IsLast (S : List Value) (least : ℕ) (items : List PlainItem) (e : Entry) : Type 0 where
  pub from : least ≤ e.store_before
  pub rises : e.store_before ≤ e.store_after
  pub within : e.store_after ≤ length S
  pub list : e.store_before < e.store_after → AllIn (take e.store_before S) (cited items)
  pub needs : AllIn (take e.store_after S) (needed_values e.txs)

chain_last : (S : List Value) (least : ℕ) (items : List PlainItem) (es : List Entry) (e : Entry) → Chain S least items (es ++ e ∷ []) →
    IsLast S least (replay (flattened (parcels es)) items) e
chain_last S least items [] e c = record { from = c.0; rises = c.1; within = c.4; list = c.2; needs = c.3 }
chain_last S least items (x ∷ es) e c =
    let l = chain_last S x.store_after (replay x.txs items) es e c.4 in
    let same = sym (replay-append x.txs (flattened (parcels es)) items) in
    record {
      from = (let a = c.0 in let b = c.1 in let d = l.from in omega arith);
      rises = l.rises;
      within = l.within;
      needs = l.needs;
      list = λ h. subst (λ i. AllIn (take e.store_before S) (cited i)) same (l.list h);
    }

-- without the last entry, over a store that has the same prefix
chain_prefix : (S T : List Value) (least : ℕ) (items : List PlainItem) (es : List Entry) (e : Entry) → Chain S least items (es ++ e ∷ []) →
    take e.store_before T ≡ take e.store_before S → e.store_before ≤ length T → Chain T least items es
chain_prefix S T least items [] e c same long = let a = c.0 in omega arith
chain_prefix S T least items (x ∷ es) e c same long =
    let l = chain_last S x.store_after (replay x.txs items) es e c.4 in
    let high : x.store_after ≤ e.store_before = l.from in
    let low : x.store_before ≤ e.store_before = (let a = c.1 in omega arith) in (
      c.0,
      c.1,
      (λ h. subst (λ r. AllIn r (cited items)) (sym (same_prefix x.store_before e.store_before S T low same)) (c.2 h)),
      subst (λ r. AllIn r (needed_values x.txs)) (sym (same_prefix x.store_after e.store_before S T high same)) c.3,
      chain_prefix S T x.store_after (replay x.txs items) es e c.4 same long,
    )

-- the first entries are gone
pub chain_rest : (S : List Value) (least : ℕ) (items : List PlainItem) (es fs : List Entry) → Chain S least items (es ++ fs) → Chain S 0 (replay (flattened (parcels es)) items) fs
chain_rest S least items [] fs c = from_zero fs c
  where
    from_zero : (fs : List Entry) → Chain S least items fs → Chain S 0 items fs
    from_zero [] c = omega arith
    from_zero (f ∷ fs) c = (omega arith, c.1, c.2, c.3, c.4)
chain_rest S least items (e ∷ es) fs c =
    subst (λ i. Chain S 0 i fs) (sym (replay-append e.txs (flattened (parcels es)) items)) (chain_rest S e.store_after (replay e.txs items) es fs c.4)

chain_within : (S : List Value) (least : ℕ) (items : List PlainItem) (es : List Entry) → Chain S least items es → least ≤ length S
chain_within S least items [] c = c
chain_within S least items (e ∷ es) c = let r = chain_within S e.store_after (replay e.txs items) es c.4 in let a = c.0 in let b = c.1 in omega arith

-- one more entry, performed on the list of those before it
pub chain_more : (S T : List Value) (least : ℕ) (items : List PlainItem) (es : List Entry) (e : Entry) → Grown S T → Chain S least items es →
    e.store_before ≡ length S → e.store_after ≡ length T → AllIn S (cited (replay (flattened (parcels es)) items)) → AllIn T (needed_values e.txs) → Chain T least items (es ++ e ∷ [])
chain_more S T least items [] e g c b a held needs =
    let long = length_grown S T g in (
      omega arith,
      omega arith,
      (λ h. subst (λ r. AllIn r (cited items)) (sym (ap (λ n. take n T) b ∙ prefix_grown (length S) S T g (omega arith) ∙ take-length S)) held),
      subst (λ r. AllIn r (needed_values e.txs)) (sym (ap (λ n. take n T) a ∙ take-length T)) needs,
      omega arith,
    )
chain_more S T least items (x ∷ es) e g c b a held needs =
    let high : x.store_after ≤ length S = chain_within S x.store_after (replay x.txs items) es c.4 in
    let low : x.store_before ≤ length S = (let r = c.1 in omega arith) in (
      c.0,
      c.1,
      (λ h. subst (λ r. AllIn r (cited items)) (sym (prefix_grown x.store_before S T g low)) (c.2 h)),
      subst (λ r. AllIn r (needed_values x.txs)) (sym (prefix_grown x.store_after S T g high)) c.3,
      chain_more S T x.store_after (replay x.txs items) es e g c.4 b a (subst (λ i. AllIn S (cited i)) (replay-append x.txs (flattened (parcels es)) items) held) needs,
    )

-- ---- taking back the last entry

pub record IsCut (e : Entry) (S T : List Value) (items : List PlainItem) : Type 0 where
  pub prefix : take e.store_before T ≡ take e.store_before S
  pub long : e.store_before ≤ length T
  pub held : AllIn T (cited items)

cut_is : (e : Entry) (s : Replica) (least : ℕ) (items : List PlainItem) → IsLast s.store least items e → AllIn s.store (cited s.items) →
    (reverted e s).items ≡ items → IsCut e s.store (reverted e s).store items
cut_is e s least items l held same = by_test ((length s.store == e.store_after) && nat_lt e.store_before e.store_after) refl
  where
    by_test : (b : Bool) → ((length s.store == e.store_after) && nat_lt e.store_before e.store_after) ≡ b → IsCut e s.store (if b then take e.store_before (all_put_back (reversal e.txs) s).store else (all_put_back (reversal e.txs) s).store) items
    by_test true h =
        let grown = put_back_grows (reversal e.txs) s in
        let low : e.store_before ≤ length s.store = (let a = l.rises in let b = l.within in omega arith) in
        let begins = prefix_grown e.store_before s.store (all_put_back (reversal e.txs) s).store grown low in
        let rise : e.store_before < e.store_after = ltb-true e.store_before e.store_after (and_parts (length s.store == e.store_after) (nat_lt e.store_before e.store_after) h).1 in
        record {
          prefix = take_take e.store_before e.store_before (all_put_back (reversal e.txs) s).store (omega arith) ∙ begins;
          long = (let a = length_grown s.store (all_put_back (reversal e.txs) s).store grown in let b = length-take e.store_before (all_put_back (reversal e.txs) s).store in omega arith);
          held = subst (λ r. AllIn r (cited items)) (sym begins) (l.list rise);
        }
    by_test false h =
        let grown = put_back_grows (reversal e.txs) s in
        let low : e.store_before ≤ length s.store = (let a = l.rises in let b = l.within in omega arith) in
        record {
          prefix = prefix_grown e.store_before s.store (all_put_back (reversal e.txs) s).store grown low;
          long = (let a = length_grown s.store (all_put_back (reversal e.txs) s).store grown in omega arith);
          held = subst (λ i. AllIn (all_put_back (reversal e.txs) s).store (cited i)) same
              (reversed_held e.txs s (held_of_prefix e.store_after s.store (needed_values e.txs) l.needs) held);
        }

pub record Kept (T : List Value) (items now : List PlainItem) (es : List Entry) : Type 0 where
  pub chain : Chain T 0 items es
  pub held : AllIn T (cited now)

pub last_reverted : (s : Replica) (items : List PlainItem) (es : List Entry) (e : Entry) → Chain s.store 0 items (es ++ e ∷ []) → AllIn s.store (cited s.items) →
    (reverted e s).items ≡ replay (flattened (parcels es)) items → Kept (reverted e s).store items (reverted e s).items es
last_reverted s items es e c held same =
    let cut = cut_is e s 0 (replay (flattened (parcels es)) items) (chain_last s.store 0 items es e c) held same in
    record {
      chain = chain_prefix s.store (reverted e s).store 0 items es e c cut.prefix cut.long;
      held = subst (λ i. AllIn (reverted e s).store (cited i)) (sym same) cut.held;
    }

-- entries, the last first
pub all_reverted_kept : (es fs : List Entry) (s : Replica) (items : List PlainItem) → Sound items → AllRun (flattened (parcels (es ++ fs))) items →
    s.items ≡ replay (flattened (parcels (es ++ fs))) items → Chain s.store 0 items (es ++ fs) → AllIn s.store (cited s.items) →
    Kept (all_reverted fs s).store items (all_reverted fs s).items es
all_reverted_kept es [] s items sound runs list c held = record { chain = subst (Chain s.store 0 items) (append-nil es) c; held = held }
all_reverted_kept es (f ∷ fs) s items sound runs list c held =
    let again = append_assoc es (f ∷ []) fs in
    let flat : flattened (parcels (es ++ f ∷ fs)) ≡ flattened (parcels (es ++ f ∷ [])) ++ flattened (parcels fs) =
    ap (λ r. flattened (parcels r)) (sym again) ∙ ap flattened (parcels-append (es ++ f ∷ []) fs) ∙ flattened-append (parcels (es ++ f ∷ [])) (parcels fs) in
    let rest = all_reverted_kept (es ++ f ∷ []) fs s items sound
    (subst (λ r. AllRun (flattened (parcels r)) items) (sym again) runs) (list ∙ ap (λ r. replay (flattened (parcels r)) items) (sym again))
    (subst (Chain s.store 0 items) (sym again) c) held in
    let prefix = flattened (parcels es) in
    let whole : flattened (parcels (es ++ f ∷ fs)) ≡ prefix ++ (f.txs ++ flattened (parcels fs)) = ap flattened (parcels-append es (f ∷ fs)) ∙ flattened-append (parcels es) (f.txs ∷ parcels fs) in
    let parts = AllRun-parts prefix (f.txs ++ flattened (parcels fs)) items (subst (λ us. AllRun us items) whole runs) in
    let floor = replay prefix items in
    let back = items_all_reverted (f ∷ fs) s floor (sound_after prefix items sound parts.0) parts.1
    (list ∙ ap (λ us. replay us items) whole ∙ replay-append prefix (f.txs ++ flattened (parcels fs)) items) in
    last_reverted (all_reverted fs s) items es f rest.chain rest.held back

-- ---- entries with one number

pub chain_noted : (S : List Value) (least : ℕ) (items : List PlainItem) (taken : Hints) (ps : List Parcel) → least ≤ length S → AllNeeded S ps →
    Chain S least items (parcel_entries (length S) taken ps)
chain_noted S least items taken [] h n = h
chain_noted S least items taken (p ∷ ps) h n =
    (h, omega arith, (λ r. absurd (omega arith)), subst (λ r. AllIn r (needed_values p)) (sym (take-length S)) n.0, chain_noted S (length S) (replay p items) (drop 1 taken) ps (omega arith) n.1)

-- what entries need is there
pub chain_needed : (S : List Value) (least : ℕ) (items : List PlainItem) (es : List Entry) → Chain S least items es → AllNeeded S (parcels es)
chain_needed S least items [] c = tt
chain_needed S least items (e ∷ es) c = (held_of_prefix e.store_after S (needed_values e.txs) c.3, chain_needed S e.store_after (replay e.txs items) es c.4)

-- ---- performing

pub performed_needed : (ts : List Transaction) (s : Replica) → AllMayRun ts s.items → AllIn s.store (cited s.items) → AllIn (all_performed ts s).store (needed_values (all_filled ts s.items))
performed_needed [] s may held = none_in (all_performed [] s).store
performed_needed (t ∷ ts) s may held =
    let next = performed t s in
    let end = (all_performed ts next).store in
    let mine = subst (λ r. AllIn s.store (cited r)) (sym (removed-filled t s.items)) (removed_held s.store t s.items may.0.reduced may.0.applies held) in
    in_append end (cited (all_removed (filled t s.items))) (needed_values (all_filled ts next.items))
    (in_grown next.store end _ (all_performed_grows ts next) (in_grown s.store next.store _ (performed_grows t s) mine))
    (performed_needed ts next may.1 (performed_held t s held))
