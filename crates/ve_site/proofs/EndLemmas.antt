-- Ends that transactions leave: after more of them, and after whole lists.
use Rattle.std.proofs.Common.{◌≡◌, ◌≤◌, ◌<◌, ◌+◌, ◌-◌, ℕ, true, List, [], ◌∷◌, ◌++◌, length, map, take, get_or, min, All, sym, ap, subst, arith}
use Rattle.std.proofs.lemmas.List.{take_all}
use Rattle.std.proofs.lemmas.List.Elements.{All-nil, All-head, All-tail, All-append, All-map, All-more, All-weaker}
use Rattle.ve_base.specs.declared.value.Value.{Value}
use Rattle.model_change.specs.Join.{first, last, core, reach}
use Rattle.model_change.specs.Replay.{flattened}
use Rattle.model_change.specs.Transaction.{Transaction, old_length, is_normal}
use Rattle.model_site.specs.Entries.{parcels}
use Rattle.model_site.specs.Entries.{Entry as ModelEntry}
use Rattle.model_site_law.proofs.ReplayLemmas.{flattened-append, parcels-append}
use Rattle.ve_rebase.specs.Span.{span_of}
use Rattle.ve_rebase.specs.declared.span.ActiveSpan.{ActiveSpan}
use Rattle.ve_rebase.proofs.PairLemmas.{is_within}
use Rattle.ve_rebase.proofs.ReadLemmas.{end_within}
use Rattle.ve_rebase.proofs.SpanLemmas.{old-spans}
use Rattle.ve_tx.specs.declared.entry.Entry.{Entry}
use Rattle.ve_tx.specs.declared.parcel.Parcel.{Parcel}
use Rattle.ve_tx.specs.ByValue.{parcel_by_value}
use Rattle.ve_tx.specs.Operation.{Operation, by_value}
use Rattle.ve_editor.specs.Edited.{entry_by_value}
use Rattle.ve_site.specs.Ends.{LeaveEnds, LeavesEnds}
use Rattle.ve_site.specs.declared.ends.Ends.{Ends}

-- ---- fewer items

-- at most as many on either side
abbrev pub AtMost : Ends → Ends → Type 0
AtMost e f = (e.prefix ≤ f.prefix) × (e.suffix ≤ f.suffix)

pub at_most_itself : (e : Ends) → AtMost e e
at_most_itself e = (omega arith, omega arith)

pub at_most_both : (e f g : Ends) → AtMost e f → AtMost f g → AtMost e g
at_most_both e f g h k = (omega (arith, h.0, k.0), omega (arith, h.1, k.1))

fewer : (e f : Ends) (t : Transaction) → AtMost e f → LeavesEnds f t → LeavesEnds e t
fewer e f t w h = (omega (arith, w.0, h.0), omega (arith, w.1, h.1))

all_fewer : (e f : Ends) (ts : List Transaction) → AtMost e f → LeaveEnds f ts → LeaveEnds e ts
all_fewer e f ts w h = All-weaker (LeavesEnds f) (LeavesEnds e) (λ t l. fewer e f t w l) ts h

-- at most as many as its span tells
pub span_leaves : (t : Transaction) (s : ActiveSpan) (e f : Ends) → is_normal t ≡ true → s ≡ span_of t → e.prefix ≡ min f.prefix s.first →
    e.suffix ≡ min f.suffix (s.removed + s.last - s.reach) → LeavesEnds e t
span_leaves t s e f normal same prefix suffix =
    let begins : s.first ≡ first t = ap (λ (x : ActiveSpan). x.first) same in
    let covers : s.reach ≡ reach (core t) = ap (λ (x : ActiveSpan). x.reach) same in
    let goes : s.removed ≡ old_length (core t) = ap (λ (x : ActiveSpan). x.removed) same in
    let stays : s.last ≡ last t = ap (λ (x : ActiveSpan). x.last) same in
    let inside : first t + reach (core t) ≤ old_length t = end_within t (is_within t normal).reduced in
    let whole : old_length t ≡ first t + (old_length (core t) + last t) = old-spans t in
    let before : e.prefix ≤ first t = omega (arith, begins, prefix) in
    let behind : first t + reach (core t) + e.suffix ≤ old_length t = omega (arith, covers, goes, stays, inside, whole, suffix) in
    (before, behind)

-- ---- one more of a list

further : {X : Type 0} (P : Ends → X → Type 0) (less : (e f : Ends) (x : X) → AtMost e f → P f x → P e x) (xs : List X) (i : ℕ) (x : X) (e f : Ends) → i < length xs →
    x ≡ get_or xs i x → AtMost e f → All (P f) (take i xs) → P e x → All (P e) (take (i + 1) xs)
further P less xs i x e f below is w before this =
    All-more (P e) xs i x below (All-weaker (P f) (P e) (λ y h. less e f y w h) (take i xs) before) (subst (P e) is this)

-- a transaction, an entry, a parcel
abbrev pub TxLeaves : List Value → Ends → List Operation → Type 0
TxLeaves values e tx = LeavesEnds e (by_value values tx)

abbrev pub EntryLeaves : List Value → Ends → Entry → Type 0
EntryLeaves values e entry = LeaveEnds e (map (by_value values) entry.txs)

abbrev pub ParcelLeaves : Ends → Parcel → Type 0
ParcelLeaves e p = LeaveEnds e (parcel_by_value p)

pub tx_further : (values : List Value) (txs : List (List Operation)) (i : ℕ) (tx : List Operation) (e f : Ends) → i < length txs → tx ≡ get_or txs i tx → AtMost e f →
    All (TxLeaves values f) (take i txs) → LeavesEnds e (by_value values tx) → All (TxLeaves values e) (take (i + 1) txs)
tx_further values txs i tx e f below is w before this =
    further (TxLeaves values) (λ a b y u h. fewer a b (by_value values y) u h) txs i tx e f below is w before this

-- `lent` are the transactions that the code looks at
pub entry_further : (values : List Value) (es : List Entry) (i : ℕ) (entry : Entry) (lent : List (List Operation)) (e f : Ends) → i < length es → entry ≡ get_or es i entry →
    lent ≡ entry.txs → AtMost e f → All (EntryLeaves values f) (take i es) → LeaveEnds e (map (by_value values) lent) → All (EntryLeaves values e) (take (i + 1) es)
entry_further values es i entry lent e f below is same w before this =
    further (EntryLeaves values) (λ a b y u h. all_fewer a b (map (by_value values) y.txs) u h) es i entry e f below is w before
    (subst (λ txs. LeaveEnds e (map (by_value values) txs)) same this)

pub parcel_further : (ps : List Parcel) (i : ℕ) (p : Parcel) (lent : List (List Operation)) (e f : Ends) → i < length ps → p ≡ get_or ps i p → lent ≡ p.entry.txs → AtMost e f →
    All (ParcelLeaves f) (take i ps) → LeaveEnds e (map (by_value p.values) lent) → All (ParcelLeaves e) (take (i + 1) ps)
parcel_further ps i p lent e f below is same w before this =
    further ParcelLeaves (λ a b y u h. all_fewer a b (parcel_by_value y) u h) ps i p e f below is w before (subst (λ txs. LeaveEnds e (map (by_value p.values) txs)) same this)

-- ---- whole lists

pub all_txs_leave : (values : List Value) (txs : List (List Operation)) (i : ℕ) (e : Ends) → length txs ≤ i → All (TxLeaves values e) (take i txs) →
    LeaveEnds e (map (by_value values) txs)
all_txs_leave values txs i e end h = All-map (LeavesEnds e) (by_value values) txs (subst (All (TxLeaves values e)) (take_all i txs end) h)

flat_leave : (e : Ends) (ps : List (List Transaction)) → All (LeaveEnds e) ps → LeaveEnds e (flattened ps)
flat_leave e [] h = All-nil (LeavesEnds e)
flat_leave e (ts ∷ ps) h =
    All-append (LeavesEnds e) ts (flattened ps) (All-head (LeaveEnds e) ts ps h) (flat_leave e ps (All-tail (LeaveEnds e) ts ps h))

pub all_entries_leave : (values : List Value) (es : List Entry) (i : ℕ) (e : Ends) → length es ≤ i → All (EntryLeaves values e) (take i es) →
    LeaveEnds e (flattened (parcels (map (entry_by_value values) es)))
all_entries_leave values es i e end h =
    flat_leave e (parcels (map (entry_by_value values) es))
    (All-map (LeaveEnds e) (λ (x : ModelEntry). x.txs) (map (entry_by_value values) es)
    (All-map (λ (x : ModelEntry). LeaveEnds e x.txs) (entry_by_value values) es (subst (All (EntryLeaves values e)) (take_all i es end) h)))

pub all_parcels_leave : (ps : List Parcel) (i : ℕ) (e : Ends) → length ps ≤ i → All (ParcelLeaves e) (take i ps) → LeaveEnds e (flattened (map parcel_by_value ps))
all_parcels_leave ps i e end h =
    flat_leave e (map parcel_by_value ps) (All-map (LeaveEnds e) parcel_by_value ps (subst (All (ParcelLeaves e)) (take_all i ps end) h))

-- two lists, one after the other
pub both_leave : (ps qs : List (List Transaction)) (e f : Ends) → AtMost e f → LeaveEnds f (flattened ps) → LeaveEnds e (flattened qs) → LeaveEnds e (flattened (ps ++ qs))
both_leave ps qs e f w h k =
    subst (LeaveEnds e) (sym (flattened-append ps qs)) (All-append (LeavesEnds e) (flattened ps) (flattened qs) (all_fewer e f (flattened ps) w h) k)

-- the sent entries and then the unsent; `first` and `second` are those that the code looks at
pub pending_leave : (values : List Value) (sent done first second : List Entry) (e f : Ends) → first ≡ sent → second ≡ done → AtMost e f →
    LeaveEnds f (flattened (parcels (map (entry_by_value values) first))) → LeaveEnds e (flattened (parcels (map (entry_by_value values) second))) →
    LeaveEnds e (flattened (parcels (map (entry_by_value values) sent ++ map (entry_by_value values) done)))
pending_leave values sent done first second e f one two w h k =
    subst (LeaveEnds e) (ap flattened (sym (parcels-append (map (entry_by_value values) sent) (map (entry_by_value values) done))))
    (both_leave (parcels (map (entry_by_value values) sent)) (parcels (map (entry_by_value values) done)) e f w
    (subst (λ es. LeaveEnds f (flattened (parcels (map (entry_by_value values) es)))) one h)
    (subst (λ es. LeaveEnds e (flattened (parcels (map (entry_by_value values) es)))) two k))
