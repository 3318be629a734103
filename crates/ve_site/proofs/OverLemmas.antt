-- Entries over a store that grows, and over one that is cut back.
use Rattle.std.proofs.Common.{◌≡◌, ◌≤◌, ℕ, List, [], ◌∷◌, ◌++◌, length, map, take, drop, All, refl, sym, ap, ◌∙◌, subst, arith}
use Rattle.std.proofs.lemmas.List.{length-append, length-take, take-append-drop, take-append-le, take-take, take_all}
use Rattle.std.proofs.lemmas.List.Elements.{All-nil, All-cons, All-head, All-tail}
use Rattle.ve_base.specs.declared.value.Value.{Value}
use Rattle.ve_tx.specs.declared.entry.Entry.{Entry}
use Rattle.ve_tx.specs.Cites.{TxCites}
use Rattle.ve_tx.specs.Making.{Extends}
use Rattle.ve_editor.specs.Edited.{entry_by_value, EntryCites}
use Rattle.ve_editor.proofs.OtherLemmas.{all_by_value-extended, all_cites-extended}
use Rattle.ve_site.specs.Ground.{AreOver}

pub prefix_extends : (n : ℕ) (store : List Value) → Extends (take n store) store
prefix_extends n store = (drop n store, sym (take-append-drop n store))

over_within : (store : List Value) (least : ℕ) (es : List Entry) → AreOver store least es → least ≤ length store
over_within store least [] h = h
over_within store least (e ∷ es) h = let rest = over_within store e.store_after es h.3 in omega arith

-- what is below a position stays where the store goes on after it
pub prefix_stays : (old new : List Value) (n : ℕ) → Extends old new → n ≤ length old → take n new ≡ take n old
prefix_stays old new n e le = ap (take n) e.1 ∙ take-append-le n old e.0 le

length_extended : (old new : List Value) → Extends old new → length old ≤ length new
length_extended old new e = omega (arith, ap length e.1 ∙ length-append old e.0)

pub over_pushed : (old new : List Value) (least : ℕ) (es : List Entry) (e : Entry) → Extends old new → AreOver old least es → e.store_before ≡ length old →
    e.store_after ≡ length new → All (TxCites new) e.txs → AreOver new least (es ++ e ∷ [])
over_pushed old new least [] e grown h b a cites =
    let long = length_extended old new grown in
    let le : e.store_after ≤ length new = omega arith in
    (omega arith, omega arith, subst (λ s. All (TxCites s) e.txs) (sym (take_all e.store_after new (omega arith))) cites, le)
over_pushed old new least (x ∷ es) e grown h b a cites =
    let within = over_within old x.store_after es h.3 in
    (h.0, h.1, subst (λ s. All (TxCites s) x.txs) (sym (prefix_stays old new x.store_after grown within)) h.2, over_pushed old new x.store_after es e grown h.3 b a cites)

pub over_grown : (old new : List Value) (least : ℕ) (es : List Entry) → Extends old new → AreOver old least es → AreOver new least es
over_grown old new least [] grown h = let long = length_extended old new grown in omega arith
over_grown old new least (x ∷ es) grown h =
    let within = over_within old x.store_after es h.3 in
    (h.0, h.1, subst (λ s. All (TxCites s) x.txs) (sym (prefix_stays old new x.store_after grown within)) h.2, over_grown old new x.store_after es grown h.3)

-- entries before the last one, over the store cut back to its first number
pub record IsLast (store : List Value) (least : ℕ) (es : List Entry) (e : Entry) : Type 0 where
  pub from : least ≤ e.store_before
  pub within : e.store_before ≤ length store
  pub before : AreOver (take e.store_before store) least es

pub over_last : (store : List Value) (least : ℕ) (es : List Entry) (e : Entry) → AreOver store least (es ++ e ∷ []) → IsLast store least es e
over_last store least [] e h =
    let within : e.store_before ≤ length store = omega arith in
    record { from = h.0; within = within; before = let n = length-take e.store_before store in omega arith }
over_last store least (x ∷ es) e h =
    let rest = over_last store x.store_after es e h.3 in
    record {
      from = omega (arith, rest.from);
      within = rest.within;
      before = (h.0, h.1, subst (λ s. All (TxCites s) x.txs) (sym (take-take x.store_after e.store_before store rest.from)) h.2, rest.before);
    }

pub over_cites : (store : List Value) (least : ℕ) (es : List Entry) → AreOver store least es → All (EntryCites store) es
over_cites store least [] h = All-nil (EntryCites store)
over_cites store least (x ∷ es) h =
    All-cons (EntryCites store) x es (all_cites-extended (take x.store_after store) store (prefix_extends x.store_after store) x.txs h.2) (over_cites store x.store_after es h.3)

pub cite_parts : (store : List Value) (xs ys : List Entry) → All (EntryCites store) (xs ++ ys) → All (EntryCites store) xs × All (EntryCites store) ys
cite_parts store [] ys h = (All-nil (EntryCites store), h)
cite_parts store (x ∷ xs) ys h =
    let rest = cite_parts store xs ys (All-tail (EntryCites store) x (xs ++ ys) h) in
    (All-cons (EntryCites store) x xs (All-head (EntryCites store) x (xs ++ ys) h) rest.0, rest.1)

pub entries_extended : (old new : List Value) (es : List Entry) → Extends old new → All (EntryCites old) es → map (entry_by_value new) es ≡ map (entry_by_value old) es
entries_extended old new [] grown h = refl
entries_extended old new (x ∷ es) grown h =
    let one = all_by_value-extended old new grown x.txs (All-head (EntryCites old) x es h) in
    let rest = entries_extended old new es grown (All-tail (EntryCites old) x es h) in
    ap (λ txs. record { txs = txs; store_before = x.store_before; store_after = x.store_after; takes_back = x.takes_back } ∷ map (entry_by_value new) es) one
    ∙ ap (λ more. entry_by_value old x ∷ more) rest
