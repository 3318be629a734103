-- Entries joined over committed transactions up to the first conflict.
use Rattle.std.proofs.Common.{◌≡◌, List, [], ◌∷◌, Some, None, codes, refl}
use Rattle.model_change.specs.Transaction.{Transaction}
use Rattle.model_site.specs.Joined.{join_entries}
use Rattle.model_site.proofs.ExampleItems.{chars_, inserts, removes}

-- of <p>abcd</p> the letters b and c go
abbrev removal : List Transaction
removal = removes 1 (chars_ (codes "bc")) 8 ∷ []

all_kept : join_entries removal ((inserts 1 (chars_ (codes "X")) 8 ∷ []) ∷ [])
    ≡ record { kept = (inserts 1 (chars_ (codes "X")) 6 ∷ []) ∷ []; committed = removes 2 (chars_ (codes "bc")) 9 ∷ []; clash = None }
all_kept = refl

-- X stands outside the letters that go, Y between them, and Z, outside again, is not asked
first_kept : join_entries removal ((inserts 5 (chars_ (codes "X")) 8 ∷ []) ∷ (inserts 2 (chars_ (codes "Y")) 9 ∷ []) ∷ (inserts 7 (chars_ (codes "Z")) 10 ∷ []) ∷ [])
    ≡ record {
      kept = (inserts 3 (chars_ (codes "X")) 6 ∷ []) ∷ [];
      committed = removes 1 (chars_ (codes "bc")) 9 ∷ [];
      clash = Some (record { committed = (1, 3); mine = (2, 2) });
    }
first_kept = refl
