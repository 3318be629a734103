-- A site's entries joined over an entry of another site that takes two letters out of five, and then
-- over one more.
use Rattle.std.proofs.Common.{◌≡◌, ℕ, List, [], ◌∷◌, length, map, codes, None, Some, refl, ap}
use Rattle.ve_base.specs.declared.value.Value.{Value}
use Rattle.model_items.specs.declared.item.Item.{Item}
use Rattle.model_items.specs.declared.item.Item.TheVariants as item
use Rattle.model_items.specs.declared.plain_item.PlainItem.{PlainItem}
use Rattle.model_items.specs.declared.plain_item.PlainItem.TheVariants as plain
use Rattle.model_change.specs.Transaction as model
use Rattle.ve_tx.specs.declared.entry.Entry.{Entry}
use Rattle.ve_tx.specs.declared.parcel.Parcel.{Parcel}
use Rattle.ve_tx.specs.Operation.{Operation, Replace, Retain}
use Rattle.ve_tx.specs.ByValue.{parcel_by_value}
use Rattle.model_site.specs.Joined.{join_entries}
use Rattle.ve_rebase.specs.Entries.{outline}
use Rattle.ve_rebase.specs.Under.{all_over, AreAllJoined, AreAllUnder, AreUnder, joined_under, over_values}

abbrev letters : List ℕ → List Item
letters = map (λ c. item.Char c None)

abbrev plainly : List ℕ → List PlainItem
plainly = map (λ c. plain.Char c [])

abbrev entry : List Operation → Entry
entry tx = record { txs = tx ∷ []; store_before = 2; store_after = 3; takes_back = Some 1 }

-- b and c go from abcde
abbrev theirs : Parcel
theirs = record { entry = entry (Retain 1 ∷ Replace (letters (codes "bc")) [] ∷ Retain 2 ∷ []); values = [] }

-- x stands before e, y after it, and z between b and c
abbrev puts_x : Entry
puts_x = entry (Retain 4 ∷ Replace [] (letters (codes "x")) ∷ Retain 1 ∷ [])

abbrev puts_y : Entry
puts_y = entry (Retain 6 ∷ Replace [] (letters (codes "y")) ∷ [])

abbrev puts_z : Entry
puts_z = entry (Retain 2 ∷ Replace [] (letters (codes "z")) ∷ Retain 4 ∷ [])

-- by value they are the model's, whatever values the entries could cite
one_is_kept : (values : List Value) → joined_under values theirs (puts_x ∷ []) ≡ record {
  kept = ((model.Retain 2 ∷ model.Replace [] (plainly (codes "x")) ∷ model.Retain 1 ∷ []) ∷ []) ∷ [];
  committed = (model.Retain 1 ∷ model.Replace (plainly (codes "bc")) [] ∷ model.Retain 3 ∷ []) ∷ [];
  clash = None;
}
one_is_kept values = refl

-- at the first conflict that entry and all later ones are left
first_is_kept : joined_under [] theirs (puts_x ∷ puts_z ∷ puts_y ∷ []) ≡ record {
  kept = ((model.Retain 2 ∷ model.Replace [] (plainly (codes "x")) ∷ model.Retain 1 ∷ []) ∷ []) ∷ [];
  committed = (model.Retain 1 ∷ model.Replace (plainly (codes "bc")) [] ∷ model.Retain 3 ∷ []) ∷ [];
  clash = Some (record { committed = (1, 3); mine = (2, 2) });
}
first_is_kept = refl

-- so one that goes on with them is none
none_after_a_conflict : (more : Parcel) (moved : Entry) → AreUnder theirs (puts_z ∷ puts_y ∷ []) (record { committed = more; kept = moved ∷ [] }) → ⊥
none_after_a_conflict more moved h = let n = ap length (h.kept []) in cc

-- all but the transactions stays, and of these the number
number_stays : outline theirs ≡ (1, record { entry = record { txs = []; store_before = 2; store_after = 3; takes_back = Some 1 }; values = [] })
number_stays = refl

values_are_put_beside : (values : List Value) → all_over values (puts_x ∷ puts_y ∷ []) ≡ record { entry = puts_x; values = values } ∷ over_values values puts_y ∷ []
values_are_put_beside values = refl

-- ---- over several entries

-- w stands before a, on the list ade that b and c went from
abbrev puts_w : Parcel
puts_w = record { entry = entry (Replace [] (letters (codes "w")) ∷ Retain 3 ∷ []); values = [] }

-- d and e go from ade
abbrev takes_both : Parcel
takes_both = record { entry = entry (Retain 1 ∷ Replace (letters (codes "de")) [] ∷ []); values = [] }

-- each of theirs is over mine as they are by then, and mine are over both
both_are_joined : (values : List Value) → AreAllJoined (map parcel_by_value (theirs ∷ puts_w ∷ [])) (map parcel_by_value (all_over values (puts_x ∷ puts_y ∷ [])))
    (((model.Retain 1 ∷ model.Replace (plainly (codes "bc")) [] ∷ model.Retain 4 ∷ []) ∷ []) ∷ ((model.Replace [] (plainly (codes "w")) ∷ model.Retain 5 ∷ []) ∷ []) ∷ [])
    (((model.Retain 3 ∷ model.Replace [] (plainly (codes "x")) ∷ model.Retain 1 ∷ []) ∷ []) ∷ ((model.Retain 5 ∷ model.Replace [] (plainly (codes "y")) ∷ []) ∷ []) ∷ [])
both_are_joined values = (refl, refl, (refl, refl, refl))

-- x stands between d and e, so the front ends before an entry that takes both
stops_before_a_conflict : (one two : Parcel) (kept : List Entry) →
    AreAllUnder (theirs ∷ takes_both ∷ []) (puts_x ∷ puts_y ∷ []) (record { committed = one ∷ two ∷ []; kept = kept }) → ⊥
stops_before_a_conflict one two kept h = let joined = h.joined [] in let none = joined.2.0 in cc

-- and not before the first one, with which none is in conflict
leaves_none_before : (kept : List Entry) → AreAllUnder (theirs ∷ takes_both ∷ []) (puts_x ∷ puts_y ∷ []) (record { committed = []; kept = kept }) → ⊥
leaves_none_before kept h = h.stops theirs refl [] (ap (λ ps. (join_entries (parcel_by_value theirs) ps).clash) (h.joined []))
