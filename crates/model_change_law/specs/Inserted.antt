-- The items that transactions insert once they are joined.
use Rattle.std.specs.Prelude.{◌≡◌, false, List, map, Ok}
use Rattle.model_change.specs.Transaction.{Transaction, all_inserted}
use Rattle.model_change.specs.Join.{conflict, join, join_list}

-- Each of two transactions that don't conflict inserts, joined, the very items that it inserted
-- before, in their order.
abbrev pub JoinsInsertTheSame : Type 0
JoinsInsertTheSame = (a b : Transaction) → conflict a b ≡ false →
    (all_inserted (join a b).0 ≡ all_inserted a) × (all_inserted (join a b).1 ≡ all_inserted b)

-- So does each transaction of two lists that join.
abbrev pub JoinListsInsertTheSame : Type 0
JoinListsInsertTheSame = (committed mine : List Transaction) (joined : List Transaction × List Transaction) →
    join_list committed mine ≡ Ok joined →
    (map all_inserted joined.0 ≡ map all_inserted committed) × (map all_inserted joined.1 ≡ map all_inserted mine)
