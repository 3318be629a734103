-- Pending entries taken back, the last one first.
use Rattle.std.proofs.Common.{◌≡◌, ◌≤◌, ◌<◌, ◌+◌, ◌-◌, ℕ, zero, suc, List, [], ◌∷◌, ◌++◌, length, map, take, drop, slice_get, get_or, Option, Some, None, refl, sym, ap, ◌∙◌, subst, arith}
use Rattle.std.proofs.lemmas.List.{map-append, length-append, drop_all, take_all, take_more, at_drop_more}
use Rattle.std.proofs.lemmas.List.Elements.{All-nil, All-head}
use Rattle.std.proofs.Math.Seq.{take-append_seam}
use Rattle.model_items.specs.declared.plain_item.PlainItem.{PlainItem}
use Rattle.model_change.specs.Replay.{flattened, replay, reversal}
use Rattle.model_change.specs.Transaction.{Transaction}
use Rattle.model_site.specs.Entries.{Parcel as ModelParcel, parcels, reverted}
use Rattle.model_site.specs.Entries.{Entry as ModelEntry}
use Rattle.model_site.specs.Replica.{Replica}
use Rattle.model_site.specs.Untold.{Untold, none_untold, passed}
use Rattle.ve_base.specs.declared.value.Value.{Value}
use Rattle.ve_tx.specs.declared.entry.Entry.{Entry}
use Rattle.ve_tx.specs.declared.parcel.Parcel.{Parcel}
use Rattle.ve_tx.specs.ByValue.{ParcelCites}
use Rattle.ve_tx.specs.Making.{Extends}
use Rattle.ve_tx.proofs.ValuesLemmas.{extends_itself, extends_on}
use Rattle.ve_tx.specs.Operation.{by_value}
use Rattle.model_change.specs.Cost.{cost_of_transactions}
use Rattle.ve_editor.specs.Edited.{CanBeReverted, CutsUncited, entry_by_value, EntryCites, reversal_over}
use Rattle.ve_editor.proofs.OtherLemmas.{all_by_value-extended}
use Rattle.ve_history.specs.Stacks.{Stacks, without_last}
use Rattle.ve_site.specs.Dropped.{AreDropped, IsStack, back_over, only_done}
use Rattle.ve_site.specs.Numbered.{site_of, IsSite}
use Rattle.ve_site.proofs.MakingLemmas.{items_back, steps_of_both, steps_of_first}
use Rattle.ve_site.proofs.NotedLemmas.{reversal-append}
use Rattle.ve_site.proofs.OverLemmas.{cite_parts, over_cites, over_last, prefix_extends, prefix_stays}
use Rattle.ve_site.proofs.TakenLemmas.{restacked_stands}
use Rattle.ve_site.proofs.UndoLemmas.{cuts_uncited, last_cites, left_extends, may_go, undone_is}

-- ---- lists

end_is : {A : Type 0} (xs : List A) (x : A) → slice_get (xs ++ x ∷ []) (length xs) ≡ Some x
end_is [] x = refl
end_is (y ∷ xs) x = end_is xs x

one_less : {A : Type 0} (xs : List A) (x : A) → length (xs ++ x ∷ []) - 1 ≡ length xs
one_less xs x = let n = length-append xs (x ∷ []) in omega arith

ends : {A : Type 0} (xs : List A) (x : A) → slice_get (xs ++ x ∷ []) (length (xs ++ x ∷ []) - 1) ≡ Some x
ends xs x = ap (slice_get (xs ++ x ∷ [])) (one_less xs x) ∙ end_is xs x

but_last : (es : List Entry) (e : Entry) → es ≡ without_last (es ++ e ∷ [])
but_last es e = sym (ap (λ n. take n (es ++ e ∷ [])) (one_less es e) ∙ take-append_seam es (e ∷ []))

pub one_taken : (k : ℕ) (es : List Entry) (e : Entry) → k < length es → e ≡ get_or es k e → take (k + 1) es ≡ take k es ++ e ∷ []
one_taken k es e below is = take_more es k e below ∙ ap (λ x. take k es ++ x ∷ []) (sym is)

pub one_dropped : (k : ℕ) (es : List Entry) (e : Entry) → k < length es → e ≡ get_or es k e → drop k es ≡ e ∷ drop (k + 1) es
one_dropped k es e below is = at_drop_more (λ l. l) es k e below ∙ ap (λ x. x ∷ drop (k + 1) es) (sym is)

-- parted at a position: the second part has none until the first one has so many
pub seam : (first second : List Entry) (at : ℕ) → length first ≤ at → (length first < at → second ≡ []) → (first ≡ take at (first ++ second)) × (second ≡ drop at (first ++ second))
seam [] second zero le full = (refl, refl)
seam [] second (suc at) le full = let none = full (omega arith) in (sym (ap (take (suc at)) none), none ∙ sym (ap (drop (suc at)) none))
seam (x ∷ first) second zero le full = absurd (omega (arith, le))
seam (x ∷ first) second (suc at) le full = let rest = seam first second at (omega (arith, le)) (λ h. full (omega (arith, h))) in (ap (λ l. x ∷ l) rest.0, rest.1)

-- ---- all pending entries as a stack

pub stack_is : (editor : Replica) (seen : ℕ) (sent : List Entry) (old : Stacks) (shared : ℕ) (flight : Option ℕ) → IsSite editor seen sent old shared flight →
    IsStack editor (sent ++ old.done)
stack_is editor seen sent old shared flight is =
    let stack = only_done (sent ++ old.done) in
    record {
      stands = λ untold. restacked_stands (site_of editor untold seen sent old shared flight) (site_of editor untold 0 [] stack 0 None) (is.stands untold) refl (map-append (entry_by_value editor.store) sent old.done) refl;
      over = is.over;
      undone_cite = All-nil ParcelCites;
    }

pub none_dropped : (r : Replica) (es : List Entry) → IsStack r es → AreDropped r es [] r
none_dropped r es is = record { page = refl; stack = is; base = r.store; old_extends = extends_itself r.store; now_extends = extends_itself r.store; over = is.over }

-- ---- one more

-- what a stack has not told is of no matter
abbrev nothing : Untold
nothing = none_untold 0

-- over either of two stores that go on from one that it cites, an entry is the same
pub same_over : (base one other : List Value) (e : Entry) → Extends base one → Extends base other → EntryCites base e → entry_by_value one e ≡ entry_by_value other e
same_over base one other e more others cites =
    ap (λ txs. record { txs = txs; store_before = e.store_before; store_after = e.store_after; takes_back = e.takes_back })
    (all_by_value-extended base one more e.txs cites ∙ sym (all_by_value-extended base other others e.txs cites))

module _ (old now : Replica) (left gone : List Entry) (e : Entry) (d : AreDropped old (left ++ e ∷ []) gone now) where
  abbrev stack : Stacks
  stack = only_done (left ++ e ∷ [])

  pub next_cites : EntryCites now.store e
  next_cites = last_cites now nothing 0 [] stack 0 None d.stack e (ends left e)

  pub next_may_go : CanBeReverted (entry_by_value now.store e) now
  next_may_go = may_go now nothing 0 [] stack 0 None d.stack e (ends left e)

  pub next_uncited : CutsUncited (entry_by_value now.store e) now
  next_uncited = cuts_uncited now nothing 0 [] stack 0 None d.stack e (ends left e)

  base_cites : EntryCites d.base e
  base_cites = All-head (EntryCites d.base) e [] (cite_parts d.base left (e ∷ []) (over_cites d.base 0 (left ++ e ∷ []) d.over)).1

  same : entry_by_value now.store e ≡ entry_by_value old.store e
  same = same_over d.base now.store old.store e d.now_extends d.old_extends base_cites

  pub one_gone : (new : Replica) → new ≡ reverted (entry_by_value now.store e) now → AreDropped old left (e ∷ gone) new
  one_gone new page =
      let last = over_last d.base 0 left e d.over in
      let parcel : Parcel = record { entry = e; values = now.store } in
      let next : Stacks = record { done = left; undone = parcel ∷ []; spare = 0 } in
      record {
        page = page ∙ (ap (λ x. reverted x now) same ∙ ap (reverted (entry_by_value old.store e)) d.page);
        stack = stack_is new 0 [] next 0 None (undone_is now nothing 0 [] stack 0 None d.stack e (ends left e) new page parcel next (passed (reversal (entry_by_value now.store e).txs) nothing) refl refl (but_last left e) refl refl next_cites);
        base = take e.store_before d.base;
        old_extends = extends_on (take e.store_before d.base) d.base old.store (prefix_extends e.store_before d.base) d.old_extends;
        now_extends = subst (λ b. Extends b new.store) (prefix_stays d.base now.store e.store_before d.now_extends last.within)
            (left_extends now nothing 0 [] stack 0 None d.stack e (ends left e) new page);
        over = last.before;
      }

  pub one_counts : (start before after : ℕ) → before ≤ start + cost_of_transactions (back_over old.store gone) old.items →
      after ≤ before + cost_of_transactions (reversal_over now.store e.txs) now.items → after ≤ start + cost_of_transactions (back_over old.store (e ∷ gone)) old.items
  one_counts start before after h step =
      let later = flattened (parcels (map (entry_by_value old.store) gone)) in
      let one : after ≤ before + cost_of_transactions (reversal_over old.store e.txs) now.items =
      subst (λ (x : ModelEntry). after ≤ before + cost_of_transactions (reversal x.txs) now.items) same step in
      let list : now.items ≡ replay (reversal later) old.items = ap (λ (r : Replica). r.items) d.page ∙ items_back (map (entry_by_value old.store) gone) old in
      let there = subst (λ items. after ≤ before + cost_of_transactions (reversal_over old.store e.txs) items) list one in
      let both = ap (λ ts. cost_of_transactions ts old.items) (reversal-append (map (by_value old.store) e.txs) later) ∙ steps_of_both (reversal later) (reversal_over old.store e.txs) old.items in
      omega (arith, h, there, both)

-- what is found at a position
found : (es : List Entry) (i : ℕ) (e : Entry) → slice_get es i ≡ Some e → e ≡ get_or es i e
found [] i e is = refl
found (x ∷ es) zero e is = let same : x ≡ e = cc in sym same
found (x ∷ es) (suc i) e is = found es i e is

-- those from a position on are taken back, and the one before it is found
module _ (old now : Replica) (all : List Entry) (at k : ℕ) (e : Entry) (dropped : AreDropped old (take at all) (drop at all) now) (next : at ≡ k + 1) (below : k < length all)
    (is : slice_get all k ≡ Some e) where
  split : AreDropped old (take k all ++ e ∷ []) (drop (k + 1) all) now
  split =
      subst (λ l. AreDropped old l (drop (k + 1) all) now) (one_taken k all e below (found all k e is)) (subst (λ n. AreDropped old (take n all) (drop n all) now) next dropped)

  more : drop k all ≡ e ∷ drop (k + 1) all
  more = one_dropped k all e below (found all k e is)

  pub at_cites : EntryCites now.store e
  at_cites = next_cites old now (take k all) (drop (k + 1) all) e split

  pub at_may_go : CanBeReverted (entry_by_value now.store e) now
  at_may_go = next_may_go old now (take k all) (drop (k + 1) all) e split

  pub at_uncited : CutsUncited (entry_by_value now.store e) now
  at_uncited = next_uncited old now (take k all) (drop (k + 1) all) e split

  pub at_gone : (new : Replica) → new ≡ reverted (entry_by_value now.store e) now → AreDropped old (take k all) (drop k all) new
  at_gone new page = subst (λ l. AreDropped old (take k all) l new) (sym more) (one_gone old now (take k all) (drop (k + 1) all) e split new page)

  pub at_counts : (start before after : ℕ) → before ≤ start + cost_of_transactions (back_over old.store (drop at all)) old.items →
      after ≤ before + cost_of_transactions (reversal_over now.store e.txs) now.items → after ≤ start + cost_of_transactions (back_over old.store (drop k all)) old.items
  at_counts start before after h step =
      subst (λ l. after ≤ start + cost_of_transactions (back_over old.store l) old.items) (sym more)
      (one_counts old now (take k all) (drop (k + 1) all) e split start before after (subst (λ n. before ≤ start + cost_of_transactions (back_over old.store (drop n all)) old.items) next h) step)

-- ---- counted

one_fewer : (store : List Value) (e : Entry) (es : List Entry) (items : List PlainItem) → cost_of_transactions (back_over store es) items ≤ cost_of_transactions (back_over store (e ∷ es)) items
one_fewer store e es items =
    let all = ap (λ ts. cost_of_transactions ts items) (reversal-append (map (by_value store) e.txs) (flattened (parcels (map (entry_by_value store) es)))) in
    let some = steps_of_first (back_over store es) (reversal (map (by_value store) e.txs)) items in
    omega (arith, all, some)

after_some : (store : List Value) (es : List Entry) (n : ℕ) (items : List PlainItem) → cost_of_transactions (back_over store (drop n es)) items ≤ cost_of_transactions (back_over store es) items
after_some store es zero items = omega arith
after_some store [] (suc n) items = omega arith
after_some store (e ∷ es) (suc n) items = let h = after_some store es n items in let one = one_fewer store e es items in omega (arith, h, one)

pub gone_within : (store : List Value) (es : List Entry) (m n : ℕ) (items : List PlainItem) → m ≤ n →
    cost_of_transactions (back_over store (drop n es)) items ≤ cost_of_transactions (back_over store (drop m es)) items
gone_within store es zero n items le = after_some store es n items
gone_within store es (suc m) zero items le = absurd (omega (arith, le))
gone_within store [] (suc m) (suc n) items le = omega arith
gone_within store (e ∷ es) (suc m) (suc n) items le = gone_within store es m n items (omega (arith, le))

pub none_taken_back : (old : Replica) (all : List Entry) (count : ℕ) → IsStack old all → count ≡ length all → AreDropped old (take count all) (drop count all) old
none_taken_back old all count is n =
    subst (λ l. AreDropped old l (drop count all) old) (sym (take_all count all (omega (arith, n))))
    (subst (λ l. AreDropped old all l old) (sym (drop_all count all (omega (arith, n)))) (none_dropped old all is))

-- transactions performed once entries are taken back
module _ (old middle : Replica) (left gone : List Entry) (committed : ModelParcel) (dropped : AreDropped old left gone middle) where
  list_then : middle.items ≡ replay (back_over old.store gone) old.items
  list_then = ap (λ (r : Replica). r.items) dropped.page ∙ items_back (map (entry_by_value old.store) gone) old

  pub admit_counts : (start two three : ℕ) → two ≤ start + cost_of_transactions (back_over old.store gone) old.items → three ≤ two + cost_of_transactions committed middle.items →
      three ≤ start + cost_of_transactions (back_over old.store gone ++ committed) old.items
  admit_counts start two three h k =
      let both = steps_of_both (back_over old.store gone) committed old.items in
      let there = subst (λ items. three ≤ two + cost_of_transactions committed items) list_then k in
      omega (arith, h, both, there)

pub back_counts : (back committed : List Transaction) (items : List PlainItem) (start two : ℕ) → two ≤ start + cost_of_transactions back items → two ≤ start + cost_of_transactions (back ++ committed) items
back_counts back committed items start two h = let some = steps_of_first back committed items in omega (arith, h, some)
