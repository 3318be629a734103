-- All transactions of entries joined at once, and the same entry by entry.
use Rattle.std.proofs.Common.{◌≡◌, suc, List, [], ◌∷◌, ◌++◌, length, map, None, Some, Result, Ok, Err, refl, sym, ap, subst, ◌∙◌}
use Rattle.std.specs.Prelude.{flat_map, ◌≢◌}
use Rattle.model_change.specs.Transaction.{Transaction}
use Rattle.model_change.specs.Join.{join_row, join_list, list_with, after_row, RangeConflict}
use Rattle.model_site.specs.Entries.{Parcel}
use Rattle.model_site.specs.Joined.{Joined, join_entries, joined_first}
use Rattle.ve_rebase.specs.Moved.{AreMovedOver}
use Rattle.ve_rebase.specs.Under.{AreAllJoined}
use Rattle.ve_rebase.proofs.RowLemmas.{list_after, list_after-none}

abbrev pub JoinedLists : Type 0
JoinedLists = Result (List Transaction × List Transaction) RangeConflict

-- ---- the first transactions of mine, and then the rest

-- the rest joined after the first ones
abbrev then_joined : JoinedLists → (List Transaction → JoinedLists) → JoinedLists
then_joined (Ok joined) rest = list_after joined.1 (rest joined.0)
then_joined (Err clash) rest = Err clash

after_one : (one : Transaction) (done : List Transaction) (r : JoinedLists) → list_with one (list_after done r) ≡ list_after (one ∷ done) r
after_one one done (Ok joined) = refl
after_one one done (Err clash) = refl

then_with : (one : Transaction) (r : JoinedLists) (rest : List Transaction → JoinedLists) → list_with one (then_joined r rest) ≡ then_joined (list_with one r) rest
then_with one (Ok joined) rest = after_one one joined.1 (rest joined.0)
then_with one (Err clash) rest = refl

by_row : (r : Result (List Transaction × Transaction) RangeConflict) (xs ys : List Transaction) →
    ((over : List Transaction) → join_list over (xs ++ ys) ≡ then_joined (join_list over xs) (λ o. join_list o ys)) →
    after_row r (λ o. join_list o (xs ++ ys)) ≡ then_joined (after_row r (λ o. join_list o xs)) (λ o. join_list o ys)
by_row (Ok row) xs ys parted = ap (list_with row.1) (parted row.0) ∙ then_with row.1 (join_list row.0 xs) (λ o. join_list o ys)
by_row (Err clash) xs ys parted = refl

list_parted : (committed xs ys : List Transaction) → join_list committed (xs ++ ys) ≡ then_joined (join_list committed xs) (λ o. join_list o ys)
list_parted committed [] ys = list_after-none (join_list committed ys)
list_parted committed (x ∷ xs) ys = by_row (join_row committed x) xs ys (λ over. list_parted over xs ys)

-- as many of mine are joined
abbrev AreAsMany : List Transaction → JoinedLists → Type 0
AreAsMany mine (Ok joined) = length joined.1 ≡ length mine
AreAsMany mine (Err clash) = Unit {0}

one_more : (x one : Transaction) (xs : List Transaction) (r : JoinedLists) → AreAsMany xs r → AreAsMany (x ∷ xs) (list_with one r)
one_more x one xs (Ok joined) h = ap suc h
one_more x one xs (Err clash) h = tt

more_by_row : (x : Transaction) (xs : List Transaction) (r : Result (List Transaction × Transaction) RangeConflict) → ((over : List Transaction) → AreAsMany xs (join_list over xs)) →
    AreAsMany (x ∷ xs) (after_row r (λ o. join_list o xs))
more_by_row x xs (Ok row) h = one_more x row.1 xs (join_list row.0 xs) (h row.0)
more_by_row x xs (Err clash) h = tt

as_many : (committed mine : List Transaction) → AreAsMany mine (join_list committed mine)
as_many committed [] = refl
as_many committed (x ∷ xs) = more_by_row x xs (join_row committed x) (λ over. as_many over xs)

-- ---- entry by entry

-- the transactions of all entries, in order
abbrev pub all_of : List Parcel → List Transaction
all_of entries = flat_map (λ entry. entry) entries

-- what joining entry by entry makes of them, where joining them at once gives this
abbrev pub AsWhole : List Parcel → JoinedLists → Joined → Type 0
AsWhole entries (Ok joined) j = (j.clash ≡ None) × (j.committed ≡ joined.0) × (all_of j.kept ≡ joined.1) × (map length j.kept ≡ map length entries)
AsWhole entries (Err clash) j = j.clash ≡ Some clash

rest_as_whole : (joined : List Transaction × List Transaction) (e : Parcel) (es : List Parcel) (r : JoinedLists) (j : Joined) → length joined.1 ≡ length e → AsWhole es r j →
    AsWhole (e ∷ es) (list_after joined.1 r) (record { kept = joined.1 ∷ j.kept; committed = j.committed; clash = j.clash })
rest_as_whole joined e es (Ok two) j many h = (h.0, h.1, ap (λ l. joined.1 ++ l) h.2, ap (λ n. n ∷ map length j.kept) many ∙ ap (λ l. length e ∷ l) h.3)
rest_as_whole joined e es (Err clash) j many h = h

first_as_whole : (committed : List Transaction) (e : Parcel) (es : List Parcel) (r : JoinedLists) → AreAsMany e r →
    ((over : List Transaction) → AsWhole es (join_list over (all_of es)) (join_entries over es)) →
    AsWhole (e ∷ es) (then_joined r (λ o. join_list o (all_of es))) (joined_first committed r (λ o. join_entries o es))
first_as_whole committed e es (Ok joined) many h = rest_as_whole joined e es (join_list joined.0 (all_of es)) (join_entries joined.0 es) many (h joined.0)
first_as_whole committed e es (Err clash) many h = refl

pub as_whole : (committed : List Transaction) (entries : List Parcel) → AsWhole entries (join_list committed (all_of entries)) (join_entries committed entries)
as_whole committed [] = (refl, refl, refl, refl)
as_whole committed (e ∷ es) =
    subst (λ r. AsWhole (e ∷ es) r (join_entries committed (e ∷ es))) (sym (list_parted committed e (all_of es)))
    (first_as_whole committed e es (join_list committed e) (as_many committed e) (λ over. as_whole over es))

pub refused_as_whole : (committed : List Transaction) (entries : List Parcel) (clash : RangeConflict) → join_list committed (all_of entries) ≡ Err clash → (join_entries committed entries).clash ≢ None
refused_as_whole committed entries clash e =
    let all : (join_entries committed entries).clash ≡ Some clash = subst (λ r. AsWhole entries r (join_entries committed entries)) e (as_whole committed entries) in
    λ none. absurd (cc)

-- ---- entries of as many transactions each

pub parted_alike : (xs ys more others : List Transaction) → length xs ≡ length ys → xs ++ more ≡ ys ++ others → (xs ≡ ys) × (more ≡ others)
parted_alike [] [] more others n e = (refl, e)
parted_alike [] (y ∷ ys) more others n e = absurd (cc)
parted_alike (x ∷ xs) [] more others n e = absurd (cc)
parted_alike (x ∷ xs) (y ∷ ys) more others n e =
    let count : length xs ≡ length ys = cc in
    let tails : xs ++ more ≡ ys ++ others = cc in
    let heads : x ≡ y = cc in
    let r = parted_alike xs ys more others count tails in
    (ap (λ z. z ∷ xs) heads ∙ ap (λ l. y ∷ l) r.0, r.1)

same_entries : (es fs : List Parcel) → map length es ≡ map length fs → all_of es ≡ all_of fs → es ≡ fs
same_entries [] [] n e = refl
same_entries [] (f ∷ fs) n e = absurd (cc)
same_entries (x ∷ es) [] n e = absurd (cc)
same_entries (x ∷ es) (f ∷ fs) n e =
    let count : length x ≡ length f = cc in
    let counts : map length es ≡ map length fs = cc in
    let r = parted_alike x f (all_of es) (all_of fs) count e in
    ap (λ y. y ∷ es) r.0 ∙ ap (λ l. f ∷ l) (same_entries es fs counts r.1)

-- ---- over several entries of others

-- with one more
pub moved_more : (foreign : List Parcel) (mine : List Transaction) (committed : List Parcel) (moved : List Transaction) (f c : Parcel) (next : List Transaction) →
    AreMovedOver foreign mine committed moved → join_list f moved ≡ Ok (c, next) → AreMovedOver (foreign ++ f ∷ []) mine (committed ++ c ∷ []) next
moved_more [] mine [] moved f c next h e = (next, ap (join_list f) (sym h) ∙ e, refl)
moved_more (g ∷ foreign) mine (d ∷ committed) moved f c next h e = (h.0, h.1, moved_more foreign h.0 committed moved f c next h.2 e)
moved_more [] mine (d ∷ committed) moved f c next h e = absurd h
moved_more (g ∷ foreign) mine [] moved f c next h e = absurd h

-- and mine entry by entry
pub all_joined : (foreign mine committed kept : List Parcel) (before after : List Transaction) → AreMovedOver foreign before committed after → all_of mine ≡ before → all_of kept ≡ after →
    map length kept ≡ map length mine → AreAllJoined foreign mine committed kept
all_joined [] mine [] kept before after h b a sizes = same_entries kept mine sizes (a ∙ (h ∙ sym b))
all_joined (f ∷ foreign) mine (c ∷ committed) kept before after h b a sizes =
    let w = subst (λ r. AsWhole mine r (join_entries f mine)) (ap (join_list f) b ∙ h.1) (as_whole f mine) in
    (w.0, w.1, all_joined foreign (join_entries f mine).kept committed kept h.0 after h.2 w.2 a (sizes ∙ sym w.3))
all_joined [] mine (c ∷ committed) kept before after h b a sizes = absurd h
all_joined (f ∷ foreign) mine [] kept before after h b a sizes = absurd h
