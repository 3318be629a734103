-- Undoing everything of a site that has taken nothing gives its first store back.
use Rattle.std.proofs.Common.{◌≡◌, ℕ, zero, suc, ◌≤◌, ◌==◌, nat_lt, ◌&&◌, Bool, true, false, List, [], ◌∷◌, ◌++◌, length, take, drop, if◌then◌else◌, eq-eqb, ltb-false, refl, sym, ap, ◌∙◌, subst, arith}
use Rattle.std.proofs.lemmas.List.{append-nil, length-append}
use Rattle.std.proofs.Math.Seq.{take-append_seam}
use Rattle.ve_base.specs.declared.value.Value.{Value}
use Rattle.model_items.specs.declared.plain_item.PlainItem.{PlainItem}
use Rattle.model_items.specs.declared.plain_item.PlainItem.TheVariants.{Char, Closing, Opening}
use Rattle.model_change.specs.Attributes.{AttrChange, item_changed}
use Rattle.model_change.specs.Inverse.{filled, first_filled, inverse}
use Rattle.model_change.specs.Replay.{AllRun, replay, reversal}
use Rattle.model_change.specs.Store.{brought, changed_heads, cited, fill, head_cited, head_if, heads_from, marks_cited, white_cited}
use Rattle.model_change.specs.Transaction.{Attribute, Replace, Retain, Transaction, all_inserted, edited, is_reduced, is_something, may_precede, on_first}
use Rattle.model_change.proofs.AttributeLemmas.{item_changed-change_filled}
use Rattle.model_change.proofs.FilledLemmas.{filling_is_neutral, names_stay_apart}
use Rattle.model_change.proofs.InverseLemmas.{inverse_undoes, reduced_parts}
use Rattle.model_change.proofs.InverseNormal.{inverse_is_reduced}
use Rattle.model_change.proofs.ReversalLaw.{reversal_undoes}
use Rattle.model_site.specs.Entries.{Entry, reverted}
use Rattle.model_site.specs.Replica.{Replica, all_filled, all_performed, all_put_back, performed}
use Rattle.model_site_law.specs.Chain.{store_after_all}
use Rattle.model_site_law.specs.Sound.{AllIn, AllMayRun, Sound}
use Rattle.model_site_law.proofs.ChainLemmas.{length_grown}
use Rattle.model_site_law.proofs.PerformLemmas.{performed_held, put_back_grows, taken_back}
use Rattle.model_site_law.proofs.RevertLemmas.{items_put_back}
use Rattle.model_site_law.proofs.StoreLemmas.{Grown, fill_full, fill_grows, grown_itself, grown_twice, in_append, in_cited_parts, in_parts, none_in}

-- ---- the store that transactions make

pub store_performed : (ts : List Transaction) (s : Replica) → (all_performed ts s).store ≡ store_after_all ts s.items s.store
store_performed [] s = refl
store_performed (t ∷ ts) s = store_performed ts (performed t s)

pub stored-append : (ts us : List Transaction) (items : List PlainItem) (S : List Value) → store_after_all (ts ++ us) items S ≡ store_after_all us (replay ts items) (store_after_all ts items S)
stored-append [] us items S = refl
stored-append (t ∷ ts) us items S = stored-append ts us _ _

stored_grows : (ts : List Transaction) (items : List PlainItem) (S : List Value) → Grown S (store_after_all ts items S)
stored_grows [] items S = grown_itself S
stored_grows (t ∷ ts) items S =
    let next = fill S (brought t items) in
    grown_twice S next (store_after_all ts (edited t items) next) (fill_grows S (brought t items)) (stored_grows ts (edited t items) next)

-- filling positions changes nothing of it
pub inserted-filled : (t : Transaction) (items : List PlainItem) → all_inserted (filled t items) ≡ all_inserted t
inserted-filled [] items = refl
inserted-filled (Retain count ∷ ops) items = inserted-filled ops _
inserted-filled (Replace gone new ∷ ops) items = ap (λ r. new ++ r) (inserted-filled ops _)
inserted-filled (Attribute change ∷ ops) items = inserted-filled ops _

first_same : (c : AttrChange) (items : List PlainItem) → on_first (item_changed (first_filled c items)) items ≡ on_first (item_changed c) items
first_same c [] = refl
first_same c (item ∷ items) = ap (λ i. i ∷ items) (item_changed-change_filled c item)

heads-filled : (changed : Bool) (t : Transaction) (items : List PlainItem) → heads_from changed (filled t items) items ≡ heads_from changed t items
heads-filled changed [] items = refl
heads-filled changed (Retain count ∷ ops) items = ap (λ r. head_if changed items ++ r) (heads-filled false ops _)
heads-filled changed (Replace gone new ∷ ops) items = ap (λ r. head_if changed items ++ r) (heads-filled false ops _)
heads-filled changed (Attribute change ∷ ops) items =
    ap (heads_from true (filled ops (on_first (item_changed change) items))) (first_same change items) ∙ heads-filled true ops (on_first (item_changed change) items)

pub stored-filled : (ts : List Transaction) (items : List PlainItem) (S : List Value) → AllMayRun ts items → store_after_all (all_filled ts items) items S ≡ store_after_all ts items S
stored-filled [] items S may = refl
stored-filled (t ∷ ts) items S may =
    let values : cited (all_inserted (filled t items)) ++ changed_heads (filled t items) items ≡ cited (all_inserted t) ++ changed_heads t items =
    ap (λ r. cited r ++ changed_heads (filled t items) items) (inserted-filled t items) ∙ ap (λ r. cited (all_inserted t) ++ r) (heads-filled false t items) in
    ap (λ vs. store_after_all (all_filled ts (edited t items)) (edited (filled t items) items) (fill S vs)) values
    ∙ ap (λ l. store_after_all (all_filled ts (edited t items)) l (fill S (brought t items))) (filling_is_neutral t items may.0.applies).same
    ∙ stored-filled ts (edited t items) _ may.1

-- ---- changed heads are cited by the new list

head_of_cited : (S : List Value) (changed : Bool) (items : List PlainItem) → AllIn S (cited items) → AllIn S (head_if changed items)
head_of_cited S false items p = none_in S
head_of_cited S true [] p = none_in S
head_of_cited S true (Char c marks ∷ items) p = none_in S
head_of_cited S true (Opening kind head marks pre origin generated ∷ items) p =
    (in_parts S (head_cited head) (marks_cited marks ++ white_cited pre) (in_parts S (head_cited head ++ (marks_cited marks ++ white_cited pre)) (cited items) p).0).0
head_of_cited S true (Closing kind pre ∷ items) p = none_in S

Followed : Bool → Transaction → Type 0
Followed false t = Unit {0}
Followed true t = (c : AttrChange) × (may_precede (Attribute c) t ≡ true)

first_of_take : (S : List Value) (changed : Bool) (count : ℕ) (items : List PlainItem) → is_something (Retain count) ≡ true → AllIn S (head_if changed (take count items)) → AllIn S (head_if changed items)
first_of_take S changed zero items n p = cc
first_of_take S changed (suc count) [] n p = p
first_of_take S false (suc count) (item ∷ items) n p = none_in S
first_of_take S true (suc count) (Char c marks ∷ items) n p = none_in S
first_of_take S true (suc count) (Opening kind head marks pre origin generated ∷ items) n p = p
first_of_take S true (suc count) (Closing kind pre ∷ items) n p = none_in S

heads_held_from : (S : List Value) (changed : Bool) (t : Transaction) (items : List PlainItem) → is_reduced t ≡ true → Followed changed t →
    AllIn S (cited (edited t items)) → AllIn S (heads_from changed t items)
unfolding Followed
heads_held_from S changed [] items n f p = head_of_cited S changed items p
heads_held_from S changed (Retain count ∷ ops) items n f p =
    let parts = reduced_parts (Retain count) ops n in
    let two = in_cited_parts S (take count items) (edited ops (drop count items)) p in
    in_append S (head_if changed items) (heads_from false ops (drop count items))
    (first_of_take S changed count items parts.0 (head_of_cited S changed (take count items) two.0))
    (heads_held_from S false ops (drop count items) parts.2 tt two.1)
heads_held_from S false (Replace gone new ∷ ops) items n f p =
    let parts = reduced_parts (Replace gone new) ops n in
    heads_held_from S false ops (drop (length gone) items) parts.2 tt (in_cited_parts S new (edited ops (drop (length gone) items)) p).1
heads_held_from S true (Replace gone new ∷ ops) items n f p = let e = f.1 in cc
heads_held_from S changed (Attribute change ∷ ops) items n f p =
    let parts = reduced_parts (Attribute change) ops n in
    heads_held_from S true ops (on_first (item_changed change) items) parts.2 (change, parts.1) p

heads_held : (S : List Value) (t : Transaction) (items : List PlainItem) → is_reduced t ≡ true → AllIn S (cited (edited t items)) → AllIn S (changed_heads t items)
unfolding Followed
heads_held S t items n p = heads_held_from S false t items n tt p

-- ---- where nothing was added, undo adds nothing

same_from_length : (S T : List Value) → Grown S T → length T ≤ length S → T ≡ S
same_from_length S T g h = g.same ∙ ap (λ r. S ++ r) (none g.more (let e = ap length g.same ∙ length-append S g.more in omega arith)) ∙ append-nil S
  where
    none : (R : List Value) → length R ≤ 0 → R ≡ []
    none [] h = refl
    none (x ∷ R) h = absurd (omega arith)

unchanged : (ts : List Transaction) (items : List PlainItem) (s : Replica) → Sound items → AllRun ts items → s.items ≡ replay ts items →
    AllIn s.store (cited items) → store_after_all ts items s.store ≡ s.store → (all_put_back (reversal ts) s).store ≡ s.store
unchanged [] items s sound runs list held same = refl
unchanged (t ∷ ts) items s sound runs list held same =
    let S = s.store in
    let run = runs.0 in
    let new = edited t items in
    let next = fill S (brought t items) in
    let up = stored_grows ts new next in
    let first : next ≡ S = same_from_length S next (fill_grows S (brought t items))
    (let a = length_grown next (store_after_all ts new next) up in let b = ap length same in omega arith) in
    let new_sound : Sound new = record { lawful = run.lawful; apart = names_stay_apart t items run.applies run.apart sound.apart } in
    let new_held : AllIn S (cited new) =
    subst (λ T. AllIn T (cited new)) first (performed_held t (record { items = items; store = S; selection = s.selection }) held) in
    let rest = unchanged ts new s new_sound runs.1 list new_held (ap (store_after_all ts new) (sym first) ∙ same) in
    let back : (all_put_back (reversal ts) s).items ≡ new = items_put_back (reversal ts) s ∙ ap (replay (reversal ts)) list ∙ (reversal_undoes ts new new_sound.lawful new_sound.apart runs.1).back in
    let undone = inverse_undoes t items run.reduced sound.apart run.applies run.restorable in
    let heads = heads_held S (inverse t) new (inverse_is_reduced t run.reduced) (subst (λ l. AllIn S (cited l)) (sym undone.undone) held) in
    ap (λ (r : Replica). r.store) (taken_back t ts s) ∙ ap (λ T. fill T (changed_heads (inverse t) (all_put_back (reversal ts) s).items)) rest ∙ ap (λ l. fill S (changed_heads (inverse t) l)) back ∙ fill_full S (changed_heads (inverse t) new) heads

-- an entry whose numbers are those of the store goes, with all that it added
pub undone_store : (e : Entry) (items : List PlainItem) (S : List Value) (s : Replica) → Sound items → AllRun e.txs items → AllIn S (cited items) →
    s.items ≡ replay e.txs items → s.store ≡ store_after_all e.txs items S → e.store_before ≡ length S → e.store_after ≡ length (store_after_all e.txs items S) →
    (reverted e s).store ≡ S
undone_store e items S s sound runs held list store before after = by_test ((length s.store == e.store_after) && nat_lt e.store_before e.store_after) refl
  where
    by_test : (b : Bool) → ((length s.store == e.store_after) && nat_lt e.store_before e.store_after) ≡ b →
        (if b then take e.store_before (all_put_back (reversal e.txs) s).store else (all_put_back (reversal e.txs) s).store) ≡ S
    by_test true h =
        let g : Grown S s.store = subst (Grown S) (sym store) (stored_grows e.txs items S) in
        let whole = grown_twice S s.store (all_put_back (reversal e.txs) s).store g (put_back_grows (reversal e.txs) s) in
        ap (λ n. take n (all_put_back (reversal e.txs) s).store) before ∙ ap (take (length S)) whole.same ∙ take-append_seam S whole.more
    by_test false h =
        let g : Grown S s.store = subst (Grown S) (sym store) (stored_grows e.txs items S) in
        let full : length s.store ≡ e.store_after = ap length store ∙ sym after in
        let low = not_lower (eq-eqb (length s.store) e.store_after full) h in
        let same : s.store ≡ S = same_from_length S s.store g (omega arith) in
        unchanged e.txs items s sound runs list (subst (λ T. AllIn T (cited items)) (sym same) held) (ap (store_after_all e.txs items) same ∙ sym store) ∙ same
      where
        not_lower : (length s.store == e.store_after) ≡ true → ((length s.store == e.store_after) && nat_lt e.store_before e.store_after) ≡ false → e.store_after ≤ e.store_before
        not_lower a b = by_lower (nat_lt e.store_before e.store_after) refl (ap (λ r. r && nat_lt e.store_before e.store_after) (sym a) ∙ b)
          where
            by_lower : (c : Bool) → nat_lt e.store_before e.store_after ≡ c → (true && nat_lt e.store_before e.store_after) ≡ false → e.store_after ≤ e.store_before
            by_lower true d f = cc
            by_lower false d f = ltb-false e.store_before e.store_after d
