-- The items that two insertions insert once they are joined.
use Rattle.std.proofs.Common.{◌≡◌, codes, refl}
use Rattle.model_change.specs.Transaction.{all_inserted}
use Rattle.model_change.specs.Join.{join}
use Rattle.model_change_law.proofs.ExampleItems.{letters, inserts}

first_one : all_inserted (join (inserts 1 (codes "ab") 3) (inserts 2 (codes "c") 2)).0 ≡ letters (codes "ab")
first_one = refl

second_one : all_inserted (join (inserts 1 (codes "ab") 3) (inserts 2 (codes "c") 2)).1 ≡ letters (codes "c")
second_one = refl
