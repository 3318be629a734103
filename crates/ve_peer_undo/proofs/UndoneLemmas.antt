-- A parcel taken back, transaction by transaction, and joined over later ones.
use Rattle.std.proofs.Common.{◌≡◌, ◌≤◌, ◌<◌, ℕ, zero, suc, ◌+◌, ◌-◌, List, [], ◌∷◌, ◌++◌, length, map, take, drop, get_or, slice_get, All, Option, Some, None, Result, Ok, Err, refl, sym, ap, ◌∙◌, subst, arith}
use Rattle.std.proofs.lemmas.List.{append-nil, drop_all, drop-map, get_or-map, length-append, length-drop, length-map, map-append, take_all}
use Rattle.std.proofs.lemmas.List.Elements.{All-append, All-cons, All-get_or, All-head, All-nil}
use Rattle.std.specs.Result.{IfOk}
use Rattle.ve_base.specs.declared.value.Value.{Value}
use Rattle.model_change.specs.Inverse.{inverse}
use Rattle.model_change.specs.Join.{RangeConflict, join_list}
use Rattle.model_change.specs.Replay.{entry_at, flattened, made_after, mine_of, reversal, revoke}
use Rattle.model_change.specs.Transaction.{Transaction}
use Rattle.model_site.specs.Joined.{Joined, join_entries, joined_first}
use Rattle.model_site.specs.Session.{clash_of}
use Rattle.model_site.specs.declared.served.Clash.{Clash}
use Rattle.ve_tx.specs.Cites.{TxCites}
use Rattle.ve_tx.specs.Operation.{Operation, by_value}
use Rattle.ve_tx.specs.ByValue.{parcel_by_value, ParcelCites}
use Rattle.ve_tx.specs.declared.parcel.Parcel.{Parcel}
use Rattle.ve_rebase.specs.Entries.{outline, parcels_by_value}
use Rattle.ve_rebase.specs.Lists.{RunFromOneLength}
use Rattle.ve_rebase.specs.Until.{AreJoined}
use Rattle.ve_rebase.specs.declared.until.JoinedEntries.{JoinedEntries}
use Rattle.ve_peer_undo.specs.declared.fault.RevokeFault.{RevokeFault}

-- ---- one parcel

-- so many of its transactions are taken back, the last ones
pub record BackSoFar (v : List Value) (txs back : List (List Operation)) (n : ℕ) : Type 0 where
  pub made : map (by_value v) back ≡ reversal (map (by_value v) (drop (length txs - n) txs))
  pub cite : All (TxCites v) back

dropped_one : {A : Type 0} (k : ℕ) (xs : List A) (x : A) → k < length xs → x ≡ get_or xs k x → drop k xs ≡ x ∷ drop (suc k) xs
dropped_one k [] x below is = absurd (omega (arith, below))
dropped_one zero (y ∷ xs) x below is = ap (λ z. z ∷ xs) (sym is)
dropped_one (suc k) (y ∷ xs) x below is = dropped_one k xs x (omega (arith, below)) is

pub back_begun : (v : List Value) (txs back : List (List Operation)) → back ≡ [] → BackSoFar v txs back 0
back_begun v txs back none = subst (λ b. BackSoFar v txs b 0) (sym none) (record {
  made = ap (λ l. reversal (map (by_value v) l)) (sym (drop_all (length txs - 0) txs (omega arith)));
  cite = All-nil (TxCites v);
})

pub back_next : (v : List Value) (txs back more : List (List Operation)) (n : ℕ) (tx one : List Operation) → n < length txs → tx ≡ get_or txs (length txs - 1 - n) tx →
    All (TxCites v) txs → by_value v one ≡ inverse (by_value v tx) → (TxCites v tx → TxCites v one) → more ≡ back ++ one ∷ [] → BackSoFar v txs back n →
    BackSoFar v txs more (n + 1)
back_next v txs back more n tx one below is cites inverted cites_too e so_far =
    let k = length txs - 1 - n in
    let within : k < length txs = omega (arith, below) in
    let old : length txs - n ≡ suc k = omega (arith, below) in
    let new : length txs - (n + 1) ≡ k = omega (arith, below) in
    subst (λ b. BackSoFar v txs b (n + 1)) (sym e) (record {
      made = map-append (by_value v) back (one ∷ [])
          ∙ ap (λ l. l ++ by_value v one ∷ []) (so_far.made ∙ ap (λ j. reversal (map (by_value v) (drop j txs))) old)
          ∙ ap (λ t. reversal (map (by_value v) (drop (suc k) txs)) ++ t ∷ []) inverted
          ∙ ap (λ l. reversal (map (by_value v) l)) (sym (dropped_one k txs tx within is))
          ∙ ap (λ j. reversal (map (by_value v) (drop j txs))) (sym new);
      cite = All-append (TxCites v) back (one ∷ []) so_far.cite
          (All-cons (TxCites v) one [] (cites_too (subst (TxCites v) (sym is) (All-get_or (TxCites v) txs k tx within cites))) (All-nil (TxCites v)));
    })

pub back_made : (v : List Value) (txs back : List (List Operation)) (n : ℕ) → length txs ≤ n → BackSoFar v txs back n →
    map (by_value v) back ≡ reversal (map (by_value v) txs)
back_made v txs back n end so_far =
    let first : length txs - n ≡ 0 = omega (arith, end) in
    so_far.made ∙ ap (λ j. reversal (map (by_value v) (drop j txs))) first

length-reversal : (ts : List Transaction) → length (reversal ts) ≡ length ts
length-reversal [] = refl
length-reversal (t ∷ ts) =
    let both = length-append (reversal ts) (inverse t ∷ []) in
    let rest = length-reversal ts in
    omega (arith, both, rest)

-- as many transactions, and all else as it was
pub back_outline : (parcel : Parcel) (back : List (List Operation)) (n : ℕ) (values : List Value) → length parcel.entry.txs ≤ n →
    BackSoFar parcel.values parcel.entry.txs back n → values ≡ parcel.values →
    outline (record { entry = record { txs = back; store_before = parcel.entry.store_before; store_after = parcel.entry.store_after; takes_back = parcel.entry.takes_back }; values = values }) ≡ outline parcel
back_outline parcel back n values end so_far e =
    let v = parcel.values in
    let txs = parcel.entry.txs in
    let count : length back ≡ length txs =
    sym (length-map back (by_value v)) ∙ ap length (back_made v txs back n end so_far) ∙ length-reversal (map (by_value v) txs) ∙ length-map txs (by_value v) in
    let rest : ℕ → List Value → ℕ × Parcel =
    λ m vs. (m, record { entry = record { txs = []; store_before = parcel.entry.store_before; store_after = parcel.entry.store_after; takes_back = parcel.entry.takes_back }; values = vs }) in
    ap (λ m. rest m values) count ∙ ap (λ vs. rest (length txs) vs) e

-- ---- joined over later ones

abbrev alone : List Transaction → Result (List Transaction × List Transaction) RangeConflict → Joined
alone later r = joined_first later r (λ over. join_entries over [])

-- the one entry is kept where nothing conflicts
kept_one : (later : List Transaction) (r : Result (List Transaction × List Transaction) RangeConflict) (kept : List (List Transaction)) →
    kept ≡ (alone later r).kept → clash_of (alone later r).clash ≡ None → (one : List Transaction) × (kept ≡ one ∷ []) × (mine_of r ≡ Ok one)
kept_one later (Ok joined) kept k none = (joined.1, k, refl)
kept_one later (Err clash) kept k none = absurd (cc)

-- and the conflict is named where there is one
clash_named : (later : List Transaction) (r : Result (List Transaction × List Transaction) RangeConflict) (c : Clash) →
    clash_of (alone later r).clash ≡ Some c → mine_of r ≡ Err (record { committed = c.committed; mine = c.submitted })
clash_named later (Ok joined) c e = absurd (cc)
clash_named later (Err clash) c e =
    let named : Option Clash → Result (List Transaction) RangeConflict = λ o. named_by o in
    ap named e
  where
    named_by : Option Clash → Result (List Transaction) RangeConflict
    named_by None = Err clash
    named_by (Some c) = Err (record { committed = c.committed; mine = c.submitted })

pub alone_runs : (later : List Parcel) (back : Parcel) (mine : List Parcel) → mine ≡ back ∷ [] → RunFromOneLength (parcels_by_value later) (parcel_by_value back) →
    RunFromOneLength (parcels_by_value later) (parcels_by_value mine)
alone_runs later back mine one run =
    subst (RunFromOneLength (parcels_by_value later)) (sym (ap parcels_by_value one ∙ append-nil (parcel_by_value back))) run

module _ (later : List Parcel) (back : Parcel) (mine : List Parcel) (made : JoinedEntries) (one : mine ≡ back ∷ []) (joined : AreJoined later mine made) where
  abbrev result : Result (List Transaction × List Transaction) RangeConflict
  result = join_list (parcels_by_value later) (parcel_by_value back)

  kept : map parcel_by_value made.kept ≡ (alone (parcels_by_value later) result).kept
  kept = joined.kept ∙ ap (λ ps. (join_entries (parcels_by_value later) (map parcel_by_value ps)).kept) one

  clash : made.clash ≡ clash_of (alone (parcels_by_value later) result).clash
  clash = joined.clash ∙ ap (λ ps. clash_of (join_entries (parcels_by_value later) (map parcel_by_value ps)).clash) one

  pub is_refused : (c : Clash) → made.clash ≡ Some c → mine_of result ≡ Err (record { committed = c.committed; mine = c.submitted })
  is_refused c e = clash_named (parcels_by_value later) result c (sym clash ∙ e)

  pub one_is_kept : made.clash ≡ None → length made.kept ≡ 1
  one_is_kept none =
      let r = kept_one (parcels_by_value later) result (map parcel_by_value made.kept) kept (sym clash ∙ none) in
      sym (length-map made.kept parcel_by_value) ∙ ap length r.1

  module _ (last : Parcel) (is : made.kept ≡ last ∷ []) (none : made.clash ≡ None) where
    pub is_given : mine_of result ≡ Ok (parcel_by_value last)
    is_given =
        let r = kept_one (parcels_by_value later) result (map parcel_by_value made.kept) kept (sym clash ∙ none) in
        let same : parcel_by_value last ∷ [] ≡ r.0 ∷ [] = sym (ap (map parcel_by_value) is) ∙ r.1 in
        let e : r.0 ≡ parcel_by_value last = cc in
        r.2 ∙ ap (λ ts. Ok ts) e

    pub given_outline : outline last ≡ outline back
    given_outline =
        let all : outline last ∷ [] ≡ outline back ∷ [] =
        ap (map outline) (sym is) ∙ joined.outlines ∙ ap (λ ps. map outline (take (length ps) mine)) is ∙ ap (λ ps. map outline (take 1 ps)) one in
        cc

    pub given_cites : ParcelCites back → ParcelCites last
    given_cites h =
        All-head ParcelCites last [] (subst (All ParcelCites) is (joined.cite (subst (All ParcelCites) (sym one) (All-cons ParcelCites back [] h (All-nil ParcelCites)))))

-- the last of a list of one
pub last_one : {A : Type 0} (xs ys : List A) (last : A) → length xs ≡ 1 → xs ≡ ys ++ last ∷ [] → xs ≡ last ∷ []
last_one xs [] last one e = e
last_one xs (y ∷ ys) last one e =
    let size : length xs ≡ suc (length (ys ++ last ∷ [])) = ap (λ l. length l) e in
    let both = length-append ys (last ∷ []) in
    absurd (omega (arith, one, size, both))

-- ---- one of many

flattened_by_value : (ps : List Parcel) → parcels_by_value ps ≡ flattened (map parcel_by_value ps)
flattened_by_value [] = refl
flattened_by_value (p ∷ ps) = ap (λ ts. parcel_by_value p ++ ts) (flattened_by_value ps)

pub later_by_value : (ps : List Parcel) (i : ℕ) → parcels_by_value (take (length ps - (i + 1)) (drop (i + 1) ps)) ≡ made_after (map parcel_by_value ps) i
later_by_value ps i =
    let next : i + 1 ≡ suc i = omega arith in
    ap parcels_by_value (take_all (length ps - (i + 1)) (drop (i + 1) ps) (omega (arith, length-drop (i + 1) ps)))
    ∙ flattened_by_value (drop (i + 1) ps)
    ∙ ap flattened (sym (drop-map parcel_by_value (i + 1) ps))
    ∙ ap (λ j. flattened (drop j (map parcel_by_value ps))) next

pub entry_by_value : (ps : List Parcel) (i : ℕ) (p : Parcel) → i < length ps → p ≡ get_or ps i p → entry_at (map parcel_by_value ps) i ≡ parcel_by_value p
entry_by_value ps i p inside is = get_or-map parcel_by_value ps i p [] inside ∙ ap parcel_by_value (sym is)

-- what is joined is what takes the entry back
pub revoke_is : (ps : List Parcel) (i : ℕ) (p back : Parcel) → i < length ps → p ≡ get_or ps i p → parcel_by_value back ≡ reversal (parcel_by_value p) →
    mine_of (join_list (parcels_by_value (take (length ps - (i + 1)) (drop (i + 1) ps))) (parcel_by_value back)) ≡ revoke (map parcel_by_value ps) i
revoke_is ps i p back inside is inverted =
    ap (λ ts. mine_of (join_list ts (parcel_by_value back))) (later_by_value ps i)
    ∙ ap (λ ts. mine_of (join_list (made_after (map parcel_by_value ps) i) ts)) (inverted ∙ ap reversal (sym (entry_by_value ps i p inside is)))

outline_at : (ps : List Parcel) (i : ℕ) (p : Parcel) → i < length ps → p ≡ get_or ps i p → slice_get (map outline ps) i ≡ Some (outline p)
outline_at [] i p inside is = absurd (omega (arith, inside))
outline_at (q ∷ ps) zero p inside is = ap (λ (x : Parcel). Some (outline x)) (sym is)
outline_at (q ∷ ps) (suc i) p inside is = outline_at ps i p (omega (arith, inside)) is

pub ok_outline : (ps : List Parcel) (i : ℕ) (p : Parcel) (o : ℕ × Parcel) (r : Result Parcel RevokeFault) → i < length ps → p ≡ get_or ps i p → o ≡ outline p →
    IfOk r (λ made. outline made ≡ o) → IfOk r (λ made. slice_get (map outline ps) i ≡ Some (outline made))
ok_outline ps i p o (Ok made) inside is e h = outline_at ps i p inside is ∙ ap (λ x. Some x) (sym e ∙ sym h)
ok_outline ps i p o (Err why) inside is e h = tt
