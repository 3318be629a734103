-- The sizes of blocks, and the items before them.
use Rattle.std.proofs.Common.{◌≡◌, ◌+◌, ◌-◌, ◌<◌, ◌≤◌, ℕ, zero, suc, List, [], ◌∷◌, length, take, get_or, map, sum, refl, sym, ap, ◌∙◌, arith, length-append}
use Rattle.std.specs.Prelude.{slice_set}
use Rattle.std.proofs.lemmas.List.{get_or-map, take-map, length-map, map-set, take_all, get_or-set_same}
use Rattle.std.proofs.lemmas.List.Sums.{sum_by-cons}
use Rattle.ve_lengths.specs.Starts.{Finds}
use Rattle.ve_items.specs.Blocks.{joined}
use Rattle.ve_items.specs.InBlock.{StandsAt, TouchesAt}
use Rattle.ve_items.specs.Substitution.{spliced}
use Rattle.ve_items.proofs.Blocks.{joined_next}
use Rattle.ve_items.proofs.Pieces.{length_spliced}

sizes_sum : {A : Type 0} (blocks : List (List A)) → sum (map length blocks) ≡ length (joined blocks)
sizes_sum [] = refl
sizes_sum (block ∷ blocks) =
    sum_by-cons (λ x. x) (length block) (map length blocks) ∙ ap (λ n. length block + n) (sizes_sum blocks) ∙ sym (length-append block (joined blocks))

pub sum_is : {A : Type 0} (blocks : List (List A)) (sizes : List ℕ) → sizes ≡ map length blocks → sum sizes ≡ length (joined blocks)
sum_is blocks sizes e = ap sum e ∙ sizes_sum blocks

pub start_is : {A : Type 0} (blocks : List (List A)) (sizes : List ℕ) (k : ℕ) → sizes ≡ map length blocks → sum (take k sizes) ≡ length (joined (take k blocks))
start_is blocks sizes k e = ap (λ l. sum (take k l)) e ∙ ap sum (take-map length k blocks) ∙ sizes_sum (take k blocks)

pub size_is : {A : Type 0} (blocks : List (List A)) (sizes : List ℕ) (k : ℕ) → sizes ≡ map length blocks → k < length blocks → get_or sizes k 0 ≡ length (get_or blocks k [])
size_is blocks sizes k e lt = ap (λ l. get_or l k 0) e ∙ get_or-map length blocks k [] 0 lt

pub count_is : {A : Type 0} (blocks : List (List A)) (sizes : List ℕ) → sizes ≡ map length blocks → length sizes ≡ length blocks
count_is blocks sizes e = ap length e ∙ length-map blocks length

-- the block that a search over the sizes comes to
pub stands_at : {A : Type 0} (blocks : List (List A)) (sizes : List ℕ) (at k offset : ℕ) → sizes ≡ map length blocks → Finds sizes at k offset → StandsAt blocks at k offset
stands_at blocks sizes at k offset e f =
    let among : k < length blocks = omega (arith, f.among, count_is blocks sizes e) in
    record {
      among = among;
      inside = omega (arith, f.inside, size_is blocks sizes k e among);
      place = ap (λ n. n + offset) (sym (start_is blocks sizes k e)) ∙ f.place;
    }

-- the end of a list is the end of its last block
pub touches_end : {A : Type 0} (blocks : List (List A)) (at k size : ℕ) → k + 1 ≡ length blocks → at ≡ length (joined blocks) → size ≡ length (get_or blocks k []) → TouchesAt blocks at k size
touches_end blocks at k size last e s =
    let all = ap joined (sym (take_all (k + 1) blocks (omega (arith, last)))) in
    let parts = ap length (joined_next blocks k (omega (arith, last))) ∙ length-append (joined (take k blocks)) (get_or blocks k []) in
    let whole : length (joined blocks) ≡ length (joined (take (k + 1) blocks)) = ap length all in
    record { among = omega (arith, last); inside = omega (arith, s); place = omega (arith, e, s, parts, whole) }

-- one size changes as its block does
pub sizes_set : {A : Type 0} (blocks : List (List A)) (sizes : List ℕ) (k n : ℕ) (block : List A) → sizes ≡ map length blocks → n ≡ length block → slice_set sizes k n ≡ map length (slice_set blocks k block)
sizes_set blocks sizes k n block e size =
    ap (λ l. slice_set l k n) e ∙ ap (λ x. slice_set (map length blocks) k x) size ∙ sym (map-set length blocks k block)

pub set_again : (xs : List ℕ) (k x y : ℕ) → slice_set (slice_set xs k x) k y ≡ slice_set xs k y
set_again [] k x y = refl
set_again (a ∷ xs) zero x y = refl
set_again (a ∷ xs) (suc k) x y = ap (λ l. a ∷ l) (set_again xs k x y)

-- a block's size after a splice in it
pub sizes_spliced : {A : Type 0} (blocks : List (List A)) (sizes grown shrunk : List ℕ) (k at removed : ℕ) (items : List A) →
    sizes ≡ map length blocks → k < length blocks → at + removed ≤ length (get_or blocks k []) →
    grown ≡ slice_set sizes k (get_or sizes k 0 + length items) → shrunk ≡ slice_set grown k (get_or grown k 0 - removed) →
    shrunk ≡ map length (slice_set blocks k (spliced (get_or blocks k []) at removed items))
sizes_spliced blocks sizes grown shrunk k at removed items e lt within g s =
    let long = size_is blocks sizes k e lt in
    let here : get_or grown k 0 ≡ get_or sizes k 0 + length items =
    ap (λ l. get_or l k 0) g ∙ get_or-set_same sizes k (get_or sizes k 0 + length items) 0 (omega (arith, count_is blocks sizes e, lt)) in
    let size = length_spliced (get_or blocks k []) items at removed within in
    s ∙ ap (λ l. slice_set l k (get_or grown k 0 - removed)) g ∙ set_again sizes k (get_or sizes k 0 + length items) (get_or grown k 0 - removed)
    ∙ sizes_set blocks sizes k (get_or grown k 0 - removed) (spliced (get_or blocks k []) at removed items) e (omega (arith, here, long, size, within))
