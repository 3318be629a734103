-- The items before a position.
use Rattle.std.proofs.Common.{◌≡◌, ℕ, zero, suc, ◌+◌, ◌-◌, ◌<◌, ◌≤◌, List, [], ◌∷◌, length, take, drop, nat_lt, false, slice_get, slice_range, Some, option_map, refl, ap, ◌∙◌, arith}
use Rattle.std.proofs.lemmas.List.{drop-take, length-map, length-take-le}
use Rattle.std.proofs.lemmas.Option.{slice_get-map}
use Rattle.ve_base.specs.declared.value.Value.{Value}
use Rattle.model_items.specs.declared.item.Item.{Item}
use Rattle.model_items.specs.Plain.{plain, plain_list}
use Rattle.ve_json.specs.Runs.{plain_before}

get_before : {A : Type 0} (xs : List A) (to at : ℕ) → at < to → slice_get (take to xs) at ≡ slice_get xs at
get_before [] zero at before = refl
get_before [] (suc to) at before = refl
get_before (x ∷ xs) zero at before = absurd (omega (arith, before))
get_before (x ∷ xs) (suc to) zero before = refl
get_before (x ∷ xs) (suc to) (suc at) before = get_before xs to at (omega (arith, before))

pub item_before : (values : List Value) (items : List Item) (to at : ℕ) (item : Item) → at < to → slice_get items at ≡ Some item →
    slice_get (plain_before to values items) at ≡ Some (plain values item)
item_before values items to at item before got =
    get_before (plain_list values items) to at before ∙ slice_get-map (plain values) items at ∙ ap (option_map (plain values)) got

pub length_before : (values : List Value) (items : List Item) (to : ℕ) → to ≤ length items → length (plain_before to values items) ≡ to
length_before values items to within = length-take-le to (plain_list values items) (omega (arith, within, length-map items (plain values)))

-- from a position on they are a range
pub drop_before : {A : Type 0} (xs : List A) (from to : ℕ) → from ≤ to → drop from (take to xs) ≡ slice_range xs from to
drop_before xs from to order =
    let all : to ≡ from + (to - from) = omega (arith, order) in
    ap (λ n. drop from (take n xs)) all ∙ drop-take from (to - from) xs

pub not_before_itself : (n : ℕ) → nat_lt n n ≡ false
not_before_itself n = grind arith
