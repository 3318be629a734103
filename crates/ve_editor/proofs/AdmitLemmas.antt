-- Transactions of another, performed one after the other.
use Rattle.std.proofs.Common.{◌≡◌, ◌<◌, ◌≤◌, ℕ, ◌+◌, List, [], ◌∷◌, ◌++◌, length, map, drop, get_or, All, refl, sym, ap, ◌∙◌, subst, append_assoc, append-nil}
use Rattle.std.proofs.lemmas.List.{map-append, drop_all, drop_more}
use Rattle.std.proofs.lemmas.List.Elements.{All-nil, All-append}
use Rattle.ve_base.specs.declared.value.Value.{Value}
use Rattle.model_items.specs.Law.{Lawful}
use Rattle.model_change.specs.Fault.{Applies}
use Rattle.model_change.specs.Inverse.{filled}
use Rattle.model_change.specs.Store.{brought}
use Rattle.model_change.specs.Transaction.{edited}
use Rattle.model_site.specs.Replica.{Replica, all_filled, all_performed, performed}
use Rattle.ve_tx.specs.Cites.{TxCites}
use Rattle.ve_tx.specs.Making.{Extends}
use Rattle.ve_tx.specs.Operation.{Operation, by_value}
use Rattle.ve_tx.proofs.ValuesLemmas.{extends_by_fill}
use Rattle.ve_editor.specs.Edited.{AllStand}
use Rattle.ve_editor.proofs.OtherLemmas.{all_by_value-extended, all_cites-extended}

-- After k of them: the rest makes of the page now what all make of the first. The kept transactions
-- are those that the model fills, over the store now.
pub record AdmittedSoFar (values : List Value) (old : Replica) (txs : List (List Operation)) (k : ℕ) (now : Replica) (kept : List (List Operation)) : Type 0 where
  pub page : all_performed (map (by_value values) (drop k txs)) now ≡ all_performed (map (by_value values) txs) old
  pub filled : map (by_value now.store) kept ++ all_filled (map (by_value values) (drop k txs)) now.items ≡ all_filled (map (by_value values) txs) old.items
  pub cites : All (TxCites now.store) kept
  pub left : AllStand (map (by_value values) (drop k txs)) now.items

pub admitted_first : (values : List Value) (old : Replica) (txs : List (List Operation)) → AllStand (map (by_value values) txs) old.items → AdmittedSoFar values old txs 0 old []
admitted_first values old txs stands = record { page = refl; filled = refl; cites = All-nil (TxCites old.store); left = stands }

module _ (values : List Value) (old : Replica) (txs : List (List Operation)) (k : ℕ) (now : Replica) (kept : List (List Operation)) (tx : List Operation)
    (so_far : AdmittedSoFar values old txs k now kept) (below : k < length txs) (is : tx ≡ get_or txs k tx) where
  pub one_left : drop k txs ≡ tx ∷ drop (k + 1) txs
  one_left = drop_more txs k tx below ∙ ap (λ t. t ∷ drop (k + 1) txs) (sym is)

  stands : AllStand (by_value values tx ∷ map (by_value values) (drop (k + 1) txs)) now.items
  stands = subst (λ l. AllStand (map (by_value values) l) now.items) one_left so_far.left

  pub next_applies : Applies (by_value values tx) now.items
  next_applies = stands.0

  pub next_lawful : Lawful (edited (by_value values tx) now.items)
  next_lawful = stands.1

  pub admitted_next : (new : Replica) (own more : List (List Operation)) → new ≡ performed (by_value values tx) now →
      map (by_value new.store) own ≡ filled (by_value values tx) now.items ∷ [] → All (TxCites new.store) own → more ≡ kept ++ own →
      AdmittedSoFar values old txs (k + 1) new more
  admitted_next new own more made is_own cites grown =
      let t = by_value values tx in
      let rest = map (by_value values) (drop (k + 1) txs) in
      let items : new.items ≡ edited t now.items = ap (λ (r : Replica). r.items) made in
      let extends : Extends now.store new.store = extends_by_fill now.store new.store (brought t now.items) (ap (λ (r : Replica). r.store) made) in
      let all = map (by_value new.store) in
      record {
        page = ap (all_performed rest) made ∙ ap (λ l. all_performed (map (by_value values) l) now) (sym one_left) ∙ so_far.page;
        filled =
            ap (λ l. all l ++ all_filled rest new.items) grown ∙ ap (λ l. l ++ all_filled rest new.items) (map-append (by_value new.store) kept own)
            ∙ append_assoc (all kept) (all own) (all_filled rest new.items)
            ∙ ap (λ l. l ++ (all own ++ all_filled rest new.items)) (all_by_value-extended now.store new.store extends kept so_far.cites)
            ∙ ap (λ l. map (by_value now.store) kept ++ (l ++ all_filled rest new.items)) is_own
            ∙ ap (λ l. map (by_value now.store) kept ++ (filled t now.items ∷ all_filled rest l)) items
            ∙ ap (λ l. map (by_value now.store) kept ++ all_filled (map (by_value values) l) now.items) (sym one_left) ∙ so_far.filled;
        cites = subst (All (TxCites new.store)) (sym grown) (All-append (TxCites new.store) kept own (all_cites-extended now.store new.store extends kept so_far.cites) cites);
        left = subst (AllStand rest) (sym items) stands.2;
      }

pub admitted_all : (values : List Value) (old : Replica) (txs : List (List Operation)) (k : ℕ) (now : Replica) (kept : List (List Operation)) → AdmittedSoFar values old txs k now kept →
    length txs ≤ k → (now ≡ all_performed (map (by_value values) txs) old) × (map (by_value now.store) kept ≡ all_filled (map (by_value values) txs) old.items)
admitted_all values old txs k now kept so_far done =
    let none : drop k txs ≡ [] = drop_all k txs done in (
      ap (λ l. all_performed (map (by_value values) l) now) (sym none) ∙ so_far.page,
      sym (append-nil (map (by_value now.store) kept)) ∙ ap (λ l. map (by_value now.store) kept ++ all_filled (map (by_value values) l) now.items) (sym none) ∙ so_far.filled,
    )
