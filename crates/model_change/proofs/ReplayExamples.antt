-- An entry taken back under later ones.
use Rattle.std.proofs.Common.{◌≡◌, List, [], ◌∷◌, ◌++◌, Ok, Err, codes, refl}
use Rattle.model_items.specs.declared.plain_item.PlainItem.{PlainItem}
use Rattle.model_change.specs.Transaction.{Retain, Replace, Transaction}
use Rattle.model_change.specs.Replay.{replay, reversal, revoke}
use Rattle.model_change.proofs.ExampleItems.{chars_, end_, paragraph, inserts}

abbrev base : List PlainItem
base = paragraph (codes "ab") ++ end_

-- X is inserted at 1, and then Y at 3
abbrev entries : List (List Transaction)
entries = (inserts 1 (codes "X") 5 ∷ []) ∷ (inserts 3 (codes "Y") 4 ∷ []) ∷ []

replayed : replay (inserts 1 (codes "X") 5 ∷ inserts 3 (codes "Y") 4 ∷ []) base ≡ paragraph (codes "XaYb") ++ end_
replayed = refl

reversed : reversal (inserts 1 (codes "X") 5 ∷ inserts 3 (codes "Y") 4 ∷ [])
    ≡ (Retain 3 ∷ Replace (chars_ (codes "Y")) [] ∷ Retain 4 ∷ []) ∷ (Retain 1 ∷ Replace (chars_ (codes "X")) [] ∷ Retain 5 ∷ []) ∷ []
reversed = refl

revoked : revoke entries 0 ≡ Ok ((Retain 1 ∷ Replace (chars_ (codes "X")) [] ∷ Retain 6 ∷ []) ∷ [])
revoked = refl

its_list : replay ((Retain 1 ∷ Replace (chars_ (codes "X")) [] ∷ Retain 6 ∷ []) ∷ []) (paragraph (codes "XaYb") ++ end_) ≡ paragraph (codes "aYb") ++ end_
its_list = refl

last_entry : revoke entries 1 ≡ Ok ((Retain 3 ∷ Replace (chars_ (codes "Y")) [] ∷ Retain 4 ∷ []) ∷ [])
last_entry = refl

-- the later entry removes what was inserted, and a letter
in_conflict : revoke ((inserts 1 (codes "X") 5 ∷ []) ∷ ((Retain 1 ∷ Replace (chars_ (codes "Xa")) [] ∷ Retain 4 ∷ []) ∷ []) ∷ []) 0
    ≡ Err (record { committed = (1, 3); mine = (1, 2) })
in_conflict = refl
