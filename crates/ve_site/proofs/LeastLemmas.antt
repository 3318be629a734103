-- The least of what transactions leave at the ends of a list: after one more of them, and over whole
-- lists.
use Rattle.std.proofs.Common.{◌≡◌, ◌≤◌, ◌<◌, ◌+◌, ◌-◌, ℕ, List, [], ◌∷◌, ◌++◌, length, map, take, get_or, min, refl, sym, ap, ◌∙◌, arith}
use Rattle.std.specs.Prelude.{fold}
use Rattle.std.proofs.lemmas.List.{take_all}
use Rattle.std.proofs.lemmas.List.Sums.{fold-append, fold_more}
use Rattle.std.proofs.lemmas.List.Folds.{fold-map}
use Rattle.ve_base.specs.declared.value.Value.{Value}
use Rattle.model_change.specs.Join.{first, last, core, reach}
use Rattle.model_change.specs.Replay.{flattened}
use Rattle.model_change.specs.Transaction.{Transaction, old_length}
use Rattle.model_site.specs.Entries.{parcels}
use Rattle.model_site.specs.Entries.{Entry as ModelEntry}
use Rattle.model_site_law.proofs.ReplayLemmas.{flattened-append, parcels-append}
use Rattle.ve_rebase.specs.Span.{span_of}
use Rattle.ve_rebase.specs.declared.span.ActiveSpan.{ActiveSpan}
use Rattle.ve_rebase.proofs.SpanLemmas.{old-spans}
use Rattle.ve_tx.specs.declared.entry.Entry.{Entry}
use Rattle.ve_tx.specs.declared.parcel.Parcel.{Parcel}
use Rattle.ve_tx.specs.ByValue.{parcel_by_value}
use Rattle.ve_tx.specs.Operation.{Operation, by_value}
use Rattle.ve_editor.specs.Edited.{entry_by_value}
use Rattle.ve_site.specs.Ends.{ends_left_by, least_ends, lesser_ends}
use Rattle.ve_site.specs.declared.ends.Ends.{Ends}

ap2 : {A B C : Type 0} {x y : A} {u v : B} (f : A → B → C) → x ≡ y → u ≡ v → f x u ≡ f y v
ap2 {A} {B} {C} {x} {y} {u} {v} f p q = ap (λ k. f k u) p ∙ ap (λ k. f y k) q

abbrev pub both_ends : ℕ → ℕ → Ends
both_ends p q = record { prefix = p; suffix = q }

-- what one leaves, by its span
pub span_ends : (t : Transaction) (s : ActiveSpan) (p q : ℕ) (f : Ends) → s ≡ span_of t → p ≡ min f.prefix s.first → q ≡ min f.suffix (s.removed + s.last - s.reach) →
    both_ends p q ≡ lesser_ends f (ends_left_by t)
span_ends t s p q f same prefix suffix =
    let begins : s.first ≡ first t = ap (λ (x : ActiveSpan). x.first) same in
    let covers : s.reach ≡ reach (core t) = ap (λ (x : ActiveSpan). x.reach) same in
    let goes : s.removed ≡ old_length (core t) = ap (λ (x : ActiveSpan). x.removed) same in
    let stays : s.last ≡ last t = ap (λ (x : ActiveSpan). x.last) same in
    let whole : old_length t ≡ first t + (old_length (core t) + last t) = old-spans t in
    let behind : s.removed + s.last - s.reach ≡ old_length t - (first t + reach (core t)) = omega (arith, covers, goes, stays, whole) in
    ap2 both_ends (prefix ∙ ap (min f.prefix) begins) (suffix ∙ ap (min f.suffix) behind)

-- ---- one more of a list

abbrev pub tx_step : List Value → Ends → List Operation → Ends
tx_step values e tx = lesser_ends e (ends_left_by (by_value values tx))

abbrev pub entry_step : List Value → Ends → Entry → Ends
entry_step values e entry = least_ends e (map (by_value values) entry.txs)

abbrev pub parcel_step : Ends → Parcel → Ends
parcel_step e p = least_ends e (parcel_by_value p)

pub folds_on : {X : Type 0} (step : Ends → X → Ends) (a : Ends) (xs : List X) (i : ℕ) (x : X) (e f : Ends) → i < length xs → x ≡ get_or xs i x → f ≡ fold step a (take i xs) →
    e ≡ step f x → e ≡ fold step a (take (i + 1) xs)
folds_on step a xs i x e f below is before this = this ∙ (ap2 step before is ∙ sym (fold_more step a xs i x below))

pub folds_all : {X : Type 0} (step : Ends → X → Ends) (a : Ends) (xs : List X) (i : ℕ) (e : Ends) → length xs ≤ i → e ≡ fold step a (take i xs) → e ≡ fold step a xs
folds_all step a xs i e end h = h ∙ ap (fold step a) (take_all i xs end)

-- ---- whole lists

pub txs_least : (values : List Value) (a : Ends) (txs : List (List Operation)) → fold (tx_step values) a txs ≡ least_ends a (map (by_value values) txs)
txs_least values a txs = sym (fold-map (λ e t. lesser_ends e (ends_left_by t)) (by_value values) a txs)

flat_least : (a : Ends) (ps : List (List Transaction)) → fold least_ends a ps ≡ least_ends a (flattened ps)
flat_least a [] = refl
flat_least a (ts ∷ ps) = flat_least (least_ends a ts) ps ∙ sym (fold-append (λ e t. lesser_ends e (ends_left_by t)) a ts (flattened ps))

pub entries_least : (values : List Value) (a : Ends) (es : List Entry) → fold (entry_step values) a es ≡ least_ends a (flattened (parcels (map (entry_by_value values) es)))
entries_least values a es =
    sym (fold-map (λ e (x : ModelEntry). least_ends e x.txs) (entry_by_value values) a es)
    ∙ (sym (fold-map least_ends (λ (x : ModelEntry). x.txs) a (map (entry_by_value values) es)) ∙ flat_least a (parcels (map (entry_by_value values) es)))

pub parcels_least : (a : Ends) (ps : List Parcel) → fold parcel_step a ps ≡ least_ends a (flattened (map parcel_by_value ps))
parcels_least a ps = sym (fold-map least_ends parcel_by_value a ps) ∙ flat_least a (map parcel_by_value ps)

-- two lists, one after the other
pub both_least : (a : Ends) (ps qs : List (List Transaction)) → least_ends (least_ends a (flattened ps)) (flattened qs) ≡ least_ends a (flattened (ps ++ qs))
both_least a ps qs =
    sym (ap (least_ends a) (flattened-append ps qs) ∙ fold-append (λ e t. lesser_ends e (ends_left_by t)) a (flattened ps) (flattened qs))

-- the sent entries and then the unsent; `first` and `second` are those that the code looks at
pub pending_least : (values : List Value) (sent done first second : List Entry) (a e f : Ends) → first ≡ sent → second ≡ done →
    f ≡ least_ends a (flattened (parcels (map (entry_by_value values) first))) → e ≡ least_ends f (flattened (parcels (map (entry_by_value values) second))) →
    e ≡ least_ends a (flattened (parcels (map (entry_by_value values) sent ++ map (entry_by_value values) done)))
pending_least values sent done first second a e f one two h k =
    k ∙ (ap2 (λ (x : Ends) (es : List Entry). least_ends x (flattened (parcels (map (entry_by_value values) es))))
    (h ∙ ap (λ (es : List Entry). least_ends a (flattened (parcels (map (entry_by_value values) es)))) one) two
    ∙ (both_least a (parcels (map (entry_by_value values) sent)) (parcels (map (entry_by_value values) done))
    ∙ ap (λ ps. least_ends a (flattened ps)) (sym (parcels-append (map (entry_by_value values) sent) (map (entry_by_value values) done)))))
