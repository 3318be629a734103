-- Entries with their own values, joined.
use Rattle.std.proofs.Common.{◌≡◌, ◌≤◌, ◌<◌, ℕ, zero, suc, ◌+◌, List, [], ◌∷◌, ◌++◌, length, map, take, drop, get_or, replicate, All, Result, Ok, refl, sym, ap, subst, ◌∙◌, arith}
use Rattle.std.specs.Prelude.{flat_map}
use Rattle.std.proofs.lemmas.List.{append_assoc, append-nil, map-append, take_more, take_all, drop_all, length-map, length-append, take-append-drop}
use Rattle.std.proofs.lemmas.List.Elements.{All-nil, All-cons, All-append, All-get_or, All-take, All-drop}
use Rattle.ve_base.specs.declared.value.Value.{Value}
use Rattle.model_change.specs.Transaction.{Transaction}
use Rattle.model_change.specs.Join.{join_list, RangeConflict}
use Rattle.ve_tx.specs.declared.parcel.Parcel.{Parcel}
use Rattle.ve_tx.specs.Operation.{Operation, by_value}
use Rattle.ve_rebase.specs.declared.fault.RebaseFault.{RebaseFault}
use Rattle.ve_rebase.specs.declared.shifted.Shifted.{Shifted}
use Rattle.ve_rebase.specs.Entries.{parcels_by_value, operations_of, outline}
use Rattle.ve_tx.specs.ByValue.{parcel_by_value, ParcelCites}
use Rattle.ve_rebase.specs.Lists.{RunOnLength, RunFromOneLength, IsRefusedAs, each_by_value}
use Rattle.ve_rebase.specs.Shifted.{IsShifted, shifted_by_value, all_by_value, operations, StartTogether, AreRows, AreWritten}
use Rattle.ve_rebase.proofs.WrittenLemmas.{written_by_value, written_mine, each_follows, follows}

-- the values that each transaction of parcels cites, from what joining leaves as it was
abbrev pub values_by : List (ℕ × Parcel) → List (List Value)
values_by outlines = flat_map (λ o. replicate o.0 o.1.values) outlines

abbrev pub values_of : List Parcel → List (List Value)
values_of parcels = values_by (map outline parcels)

zipped-alike : (v : List Value) (values : List (List Value)) (xs ys : List (List Operation)) →
    each_by_value (replicate (length xs) v ++ values) (xs ++ ys) ≡ map (by_value v) xs ++ each_by_value values ys
zipped-alike v values [] ys = refl
zipped-alike v values (x ∷ xs) ys = ap (λ l. by_value v x ∷ l) (zipped-alike v values xs ys)

pub parcels_each : (parcels : List Parcel) → parcels_by_value parcels ≡ each_by_value (values_of parcels) (operations_of parcels)
parcels_each [] = refl
parcels_each (p ∷ parcels) =
    ap (λ l. parcel_by_value p ++ l) (parcels_each parcels) ∙ sym (zipped-alike p.values (values_of parcels) p.entry.txs (operations_of parcels))

pub written_parcels : (parcels made : List Parcel) (all : List Shifted) → AreWritten (operations_of made) all → map outline made ≡ map outline parcels →
    parcels_by_value made ≡ all_by_value (values_of parcels) all
written_parcels parcels made all h e =
    parcels_each made ∙ (ap (λ o. each_by_value (values_by o) (operations_of made)) e ∙ written_by_value (values_of parcels) (operations_of made) all h)

pub entries_start : (committed : List Parcel) (mine : Parcel) (all more : List Shifted) → AreWritten (operations_of committed) all → AreWritten mine.entry.txs more →
    All IsShifted all → All IsShifted more → RunFromOneLength (parcels_by_value committed) (parcel_by_value mine) → StartTogether all more
entries_start committed mine all more h k g i run =
    record {
      length = run.length;
      committed_follow = each_follows (values_of committed) run.length (operations_of committed) all h g (subst (λ l. RunOnLength run.length l) (parcels_each committed) run.committed_run);
      mine_follow = follows mine.values run.length mine.entry.txs more k i run.mine_run;
    }

abbrev both_lists : List Transaction → List Transaction → Result (List Transaction × List Transaction) RangeConflict
both_lists xs ys = Ok (xs, ys)

pub entries_joined : (committed made : List Parcel) (mine made_mine : Parcel) (all more over more_over : List Shifted) → AreWritten (operations_of committed) all → AreWritten mine.entry.txs more →
    AreRows all more over more_over → AreWritten (operations_of made) over → AreWritten made_mine.entry.txs more_over → map outline made ≡ map outline committed → outline made_mine ≡ outline mine →
    join_list (parcels_by_value committed) (parcel_by_value mine) ≡ Ok (parcels_by_value made, parcel_by_value made_mine)
entries_joined committed made mine made_mine all more over more_over h k rows p q e f =
    let values = values_of committed in
    let same : made_mine.values ≡ mine.values = ap (λ o. o.1.values) f in
    ap (λ l. join_list l (parcel_by_value mine)) (written_parcels committed committed all h refl)
    ∙ (ap (λ l. join_list (all_by_value values all) l) (written_mine mine.values mine.entry.txs more k)
    ∙ (rows.joined values mine.values
    ∙ (ap (λ l. both_lists l (map (shifted_by_value mine.values) more_over)) (sym (written_parcels committed made over p e))
    ∙ ap (λ l. both_lists (parcels_by_value made) l) (sym (ap (λ v. map (by_value v) made_mine.entry.txs) same ∙ written_mine mine.values made_mine.entry.txs more_over q)))))

pub entries_refused : (committed : List Parcel) (mine : Parcel) (all more : List Shifted) (why : RebaseFault) → AreWritten (operations_of committed) all → AreWritten mine.entry.txs more →
    ((values : List (List Value)) (others : List Value) → IsRefusedAs (join_list (all_by_value values all) (map (shifted_by_value others) more)) why) →
    IsRefusedAs (join_list (parcels_by_value committed) (parcel_by_value mine)) why
entries_refused committed mine all more why h k refused =
    subst (λ l. IsRefusedAs (join_list l (parcel_by_value mine)) why) (sym (written_parcels committed committed all h refl))
    (subst (λ l. IsRefusedAs (join_list (all_by_value (values_of committed) all) l) why) (sym (written_mine mine.values mine.entry.txs more k)) (refused (values_of committed) mine.values))

-- parcel by parcel

take-append_seam : {A : Type 0} (xs ys : List A) → take (length xs) (xs ++ ys) ≡ xs
take-append_seam [] ys = refl
take-append_seam (x ∷ xs) ys = ap (λ l. x ∷ l) (take-append_seam xs ys)

drop-append_seam : {A : Type 0} (xs ys : List A) → drop (length xs) (xs ++ ys) ≡ ys
drop-append_seam [] ys = refl
drop-append_seam (x ∷ xs) ys = drop-append_seam xs ys

map-take : {A B : Type 0} (f : A → B) (n : ℕ) (xs : List A) → map f (take n xs) ≡ take n (map f xs)
map-take f zero xs = refl
map-take f (suc n) [] = refl
map-take f (suc n) (x ∷ xs) = ap (λ l. f x ∷ l) (map-take f n xs)

map-drop : {A B : Type 0} (f : A → B) (n : ℕ) (xs : List A) → map f (drop n xs) ≡ drop n (map f xs)
map-drop f zero xs = refl
map-drop f (suc n) [] = refl
map-drop f (suc n) (x ∷ xs) = map-drop f n xs

operations-more : (parcels : List Parcel) (one : Parcel) → operations_of (parcels ++ one ∷ []) ≡ operations_of parcels ++ one.entry.txs
operations-more [] one = append-nil one.entry.txs
operations-more (p ∷ parcels) one = ap (λ l. p.entry.txs ++ l) (operations-more parcels one) ∙ sym (append_assoc p.entry.txs (operations_of parcels) one.entry.txs)

written-append : (txs more : List (List Operation)) (all others : List Shifted) → AreWritten txs all → AreWritten more others → AreWritten (txs ++ more) (all ++ others)
written-append [] more [] others h k = k
written-append (t ∷ txs) more (a ∷ all) others h k = (h.0, written-append txs more all others h.1 k)
written-append [] more (a ∷ all) others h k = absurd h
written-append (t ∷ txs) more [] others h k = absurd h

written-length : (txs : List (List Operation)) (all : List Shifted) → AreWritten txs all → length txs ≡ length all
written-length [] [] h = refl
written-length (t ∷ txs) (a ∷ all) h = ap suc (written-length txs all h.1)
written-length [] (a ∷ all) h = absurd h
written-length (t ∷ txs) [] h = absurd h

pub record GatheredSoFar (txs : List (List Operation)) (all : List Shifted) : Type 0 where
  pub shifted : All IsShifted all
  pub written : AreWritten txs all
  pub kept : map operations all ≡ txs

pub gathered_more : (txs more : List (List Operation)) (all some : List Shifted) → GatheredSoFar txs all → GatheredSoFar more some → GatheredSoFar (txs ++ more) (all ++ some)
gathered_more txs more all some h g = record {
  shifted = All-append IsShifted all some h.shifted g.shifted;
  written = written-append txs more all some h.written g.written;
  kept = map-append operations all some ∙ (ap (λ l. l ++ map operations some) h.kept ∙ ap (λ l. txs ++ l) g.kept);
}

pub gathered_next : (parcels : List Parcel) (i : ℕ) (p : Parcel) (all some more : List Shifted) (txs : List (List Operation)) → i < length parcels → p ≡ get_or parcels i p → more ≡ all ++ some →
    txs ≡ p.entry.txs → GatheredSoFar txs some → GatheredSoFar (operations_of (take i parcels)) all → GatheredSoFar (operations_of (take (i + 1) parcels)) more
gathered_next parcels i p all some more txs lt is e same g h =
    let next : operations_of (take (i + 1) parcels) ≡ operations_of (take i parcels) ++ txs =
    ap operations_of (take_more parcels i p lt ∙ ap (λ q. take i parcels ++ q ∷ []) (sym is)) ∙ (operations-more (take i parcels) p ∙ ap (λ l. operations_of (take i parcels) ++ l) (sym same)) in
    subst (λ l. GatheredSoFar l more) (sym next) (subst (GatheredSoFar (operations_of (take i parcels) ++ txs)) (sym e) (gathered_more (operations_of (take i parcels)) txs all some h g))

pub gathered_all : (parcels : List Parcel) (i : ℕ) (all : List Shifted) → length parcels ≤ i → GatheredSoFar (operations_of (take i parcels)) all → GatheredSoFar (operations_of parcels) all
gathered_all parcels i all end h = subst (λ l. GatheredSoFar (operations_of l) all) (take_all i parcels end) h

-- a parcel with other transactions, as many
pub same_outline : (p : Parcel) (txs : List (List Operation)) (values : List Value) (all : List Shifted) → AreWritten txs all → map operations all ≡ p.entry.txs → values ≡ p.values →
    outline (record { entry = record { txs = txs; store_before = p.entry.store_before; store_after = p.entry.store_after; takes_back = p.entry.takes_back }; values = values }) ≡ outline p
same_outline p txs values all h kept e =
    let n : length txs ≡ length p.entry.txs = written-length txs all h ∙ (sym (length-map all operations) ∙ ap length kept) in
    let made : ℕ → List Value → ℕ × Parcel = λ m v. (m, record { entry = record { txs = []; store_before = p.entry.store_before; store_after = p.entry.store_after; takes_back = p.entry.takes_back }; values = v }) in
    ap (λ m. made m values) n ∙ ap (λ v. made (length p.entry.txs) v) e

-- how far the parcels are made, and which are left
pub record PartedSoFar (parcels : List Parcel) (i : ℕ) (all left : List Shifted) (made : List Parcel) : Type 0 where
  pub shifted : All IsShifted left
  pub kept : map operations left ≡ operations_of (drop i parcels)
  pub written : (more : List (List Operation)) → AreWritten more left → AreWritten (operations_of made ++ more) all
  pub outlines : map outline made ≡ map outline (take i parcels)
  pub cite : All ParcelCites parcels → All ParcelCites made

pub here : (parcels : List Parcel) (i : ℕ) (p : Parcel) → i < length parcels → p ≡ get_or parcels i p → drop i parcels ≡ p ∷ drop (suc i) parcels
here [] i p lt is = absurd (omega arith)
here (q ∷ parcels) zero p lt is = ap (λ r. r ∷ parcels) (sym is)
here (q ∷ parcels) (suc i) p lt is = here parcels i p (omega arith) is

pub parted_begun : (parcels : List Parcel) (all : List Shifted) → All IsShifted all → map operations all ≡ operations_of parcels → PartedSoFar parcels 0 all all []
parted_begun parcels all h e = record { shifted = h; kept = e; written = λ more w. w; outlines = refl; cite = λ h. All-nil ParcelCites }

module _ (parcels : List Parcel) (i : ℕ) (all left : List Shifted) (made : List Parcel) (p : Parcel) (n : ℕ) (so_far : PartedSoFar parcels i all left made) (lt : i < length parcels) (is : p ≡ get_or parcels i p) (count : n ≡ length p.entry.txs) where
  split : map operations left ≡ p.entry.txs ++ operations_of (drop (suc i) parcels)
  split = so_far.kept ∙ ap operations_of (here parcels i p lt is)

  pub part_within : n ≤ length left
  part_within =
      let a : length left ≡ length p.entry.txs + length (operations_of (drop (suc i) parcels)) =
      sym (length-map left operations) ∙ (ap length split ∙ length-append p.entry.txs (operations_of (drop (suc i) parcels))) in
      omega arith

  pub part_kept : map operations (take n left) ≡ p.entry.txs
  part_kept = map-take operations n left ∙ (ap (take n) split ∙ (ap (λ m. take m (p.entry.txs ++ operations_of (drop (suc i) parcels))) count ∙ take-append_seam p.entry.txs (operations_of (drop (suc i) parcels))))

  pub part_shifted : All IsShifted (take n left)
  part_shifted = All-take IsShifted n left so_far.shifted

  pub parted_next : (one : Parcel) (made_more : List Parcel) → AreWritten one.entry.txs (take n left) → outline one ≡ outline p → (ParcelCites p → ParcelCites one) → made_more ≡ made ++ one ∷ [] →
      PartedSoFar parcels (suc i) all (drop n left) made_more
  parted_next one made_more w same cites e = subst (PartedSoFar parcels (suc i) all (drop n left)) (sym e) (record {
    shifted = All-drop IsShifted n left so_far.shifted;
    kept = map-drop operations n left ∙ (ap (drop n) split ∙ (ap (λ m. drop m (p.entry.txs ++ operations_of (drop (suc i) parcels))) count ∙ drop-append_seam p.entry.txs (operations_of (drop (suc i) parcels))));
    written = λ more k.
        subst (λ l. AreWritten (l ++ more) all) (sym (operations-more made one))
        (subst (λ l. AreWritten l all) (sym (append_assoc (operations_of made) one.entry.txs more))
        (so_far.written (one.entry.txs ++ more)
        (subst (AreWritten (one.entry.txs ++ more)) (take-append-drop n left) (written-append one.entry.txs more (take n left) (drop n left) w k))));
    outlines = map-append outline made (one ∷ []) ∙ (ap (λ l. l ++ outline one ∷ []) so_far.outlines ∙ (ap (λ o. map outline (take i parcels) ++ o ∷ []) same
        ∙ (sym (map-append outline (take i parcels) (p ∷ [])) ∙ ap (map outline) (sym taken))));
    cite = λ h. All-append ParcelCites made (one ∷ []) (so_far.cite h) (All-cons ParcelCites one [] (cites (subst ParcelCites (sym is) (All-get_or ParcelCites parcels i p lt h))) (All-nil ParcelCites));
  })
    where
      taken : take (suc i) parcels ≡ take i parcels ++ p ∷ []
      taken = let e : suc i ≡ i + 1 = omega arith in ap (λ m. take m parcels) e ∙ (take_more parcels i p lt ∙ ap (λ q. take i parcels ++ q ∷ []) (sym is))

pub parted_done : (parcels : List Parcel) (i : ℕ) (all left : List Shifted) (made : List Parcel) → length parcels ≤ i → PartedSoFar parcels i all left made →
    AreWritten (operations_of made) all × (map outline made ≡ map outline parcels)
parted_done parcels i all left made end h =
    let none : left ≡ [] = empty left (h.kept ∙ ap operations_of (drop_all i parcels end)) in
    (subst (λ l. AreWritten l all) (append-nil (operations_of made)) (h.written [] (subst (AreWritten []) (sym none) tt)), h.outlines ∙ ap (map outline) (take_all i parcels end))
  where
    empty : (left : List Shifted) → map operations left ≡ [] → left ≡ []
    empty [] e = refl
    empty (a ∷ left) e = absurd (cc)
