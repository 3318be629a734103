-- A block that stands as two.
use Rattle.std.proofs.Common.{◌≡◌, ◌+◌, ◌-◌, ◌≤◌, ◌<◌, ℕ, zero, suc, List, [], ◌∷◌, ◌++◌, length, take, drop, get_or, map, refl, sym, ap, ◌∙◌, append_assoc, take-append-drop, arith, subst, length-take, length-drop, ◌/◌}
use Rattle.std.specs.Prelude.{slice_set, insert}
use Rattle.std.proofs.lemmas.List.{set-get_or}
use Rattle.model_items.specs.declared.item.Item.{Item}
use Rattle.ve_items.specs.Blocks.{joined, AreBlocks}
use Rattle.ve_items.specs.InBlock.{MayHaveTwo, MayPart}
use Rattle.ve_items.specs.Substitution.{spliced, spliced_block, parted}
use Rattle.ve_items.proofs.Sizes.{size_is}
use Rattle.ve_items.proofs.Pieces.{spliced_before, spliced_after, block_is_spliced, length_spliced}

-- the blocks with items put in at a position, in one block more
pub record IsPartedAt (blocks new : List (List Item)) (at : ℕ) (items : List Item) : Type 0 where
  pub rule : AreBlocks new
  pub joined_is : joined new ≡ spliced (joined blocks) at 0 items
  pub count : length new ≡ length blocks + 1

-- the two in the place of one
abbrev pub two : {A : Type 0} → List A → ℕ → A → A → List A
two xs k x y = insert (slice_set xs k x) (suc k) y

pub two_first : {A : Type 0} (xs : List A) (k : ℕ) (x y z : A) → k < length xs → slice_set (two xs k x y) k z ≡ two xs k z y
two_first [] k x y z lt = absurd (omega (arith, lt))
two_first (a ∷ xs) zero x y z lt = refl
two_first (a ∷ xs) (suc k) x y z lt = ap (λ l. a ∷ l) (two_first xs k x y z (omega (arith, lt)))

pub two_second : {A : Type 0} (xs : List A) (k : ℕ) (x y z : A) → k < length xs → slice_set (two xs k x y) (suc k) z ≡ two xs k x z
two_second [] k x y z lt = absurd (omega (arith, lt))
two_second (a ∷ xs) zero x y z lt = refl
two_second (a ∷ xs) (suc k) x y z lt = ap (λ l. a ∷ l) (two_second xs k x y z (omega (arith, lt)))

pub get_first : {A : Type 0} (xs : List A) (k : ℕ) (x y d : A) → k < length xs → get_or (two xs k x y) k d ≡ x
get_first [] k x y d lt = absurd (omega (arith, lt))
get_first (a ∷ xs) zero x y d lt = refl
get_first (a ∷ xs) (suc k) x y d lt = get_first xs k x y d (omega (arith, lt))

pub get_second : {A : Type 0} (xs : List A) (k : ℕ) (x y d : A) → k < length xs → get_or (two xs k x y) (suc k) d ≡ y
get_second [] k x y d lt = absurd (omega (arith, lt))
get_second (a ∷ xs) zero x y d lt = refl
get_second (a ∷ xs) (suc k) x y d lt = get_second xs k x y d (omega (arith, lt))

pub count_two : {A : Type 0} (xs : List A) (k : ℕ) (x y : A) → k < length xs → length (two xs k x y) ≡ length xs + 1
count_two [] k x y lt = absurd (omega (arith, lt))
count_two (a ∷ xs) zero x y lt = omega arith
count_two (a ∷ xs) (suc k) x y lt = let rest = count_two xs k x y (omega (arith, lt)) in omega (arith, rest)

-- the sizes of the blocks
pub sizes_two : {A : Type 0} (blocks : List (List A)) (k : ℕ) (x y : List A) → k < length blocks →
    map length (two blocks k x y) ≡ two (map length blocks) k (length x) (length y)
sizes_two [] k x y lt = absurd (omega (arith, lt))
sizes_two (a ∷ blocks) zero x y lt = refl
sizes_two (a ∷ blocks) (suc k) x y lt = ap (λ l. length a ∷ l) (sizes_two blocks k x y (omega (arith, lt)))

pub sizes_parted : {A : Type 0} (blocks : List (List A)) (sizes shrunk new : List ℕ) (k next at size : ℕ) → sizes ≡ map length blocks → k < length blocks →
    at ≤ length (get_or blocks k []) → size ≡ length (get_or blocks k []) → next ≡ suc k → shrunk ≡ slice_set sizes k (get_or sizes k 0 - (size - at)) →
    new ≡ insert shrunk next (size - at) → new ≡ map length (parted blocks k at)
sizes_parted blocks sizes shrunk new k next at size e lt within is after s n =
    let b = get_or blocks k [] in
    let first : get_or sizes k 0 - (size - at) ≡ length (take at b) = omega (arith, size_is blocks sizes k e lt, is, within, length-take at b) in
    let second : size - at ≡ length (drop at b) = omega (arith, is, length-drop at b) in
    n ∙ ap (λ i. insert shrunk i (size - at)) after
    ∙ ap (λ l. insert l (suc k) (size - at)) s
    ∙ ap (λ x. insert (slice_set sizes k x) (suc k) (size - at)) first
    ∙ ap (λ y. insert (slice_set sizes k (length (take at b))) (suc k) y) second
    ∙ ap (λ l. insert (slice_set l k (length (take at b))) (suc k) (length (drop at b))) e
    ∙ sym (sizes_two blocks k (take at b) (drop at b) lt)

-- their items
pub joined_two : {A : Type 0} (blocks : List (List A)) (k : ℕ) (x y : List A) → k < length blocks → joined (two blocks k x y) ≡ joined (slice_set blocks k (x ++ y))
joined_two [] k x y lt = absurd (omega (arith, lt))
joined_two (a ∷ blocks) zero x y lt = sym (append_assoc x y (joined blocks))
joined_two (a ∷ blocks) (suc k) x y lt = ap (λ l. a ++ l) (joined_two blocks k x y (omega (arith, lt)))

-- what two blocks may have, without the first one
may_below : {A : Type 0} (a : List A) (blocks : List (List A)) (k first second : ℕ) → MayHaveTwo (a ∷ blocks) (suc k) first second → MayHaveTwo blocks k first second
may_below a blocks k first second may = record {
  some_first = may.some_first;
  small_first = may.small_first;
  some_second = may.some_second;
  small_second = may.small_second;
  apart = may.apart;
  apart_before = λ more.
      let goes : suc k - 1 ≡ suc (k - 1) = omega (arith, more) in
      subst (λ n. 512 < length (get_or (a ∷ blocks) n []) + first) goes (may.apart_before (omega arith));
  apart_after = λ more.
      let goes : suc k + 1 ≡ suc (k + 1) = omega arith in
      subst (λ n. 512 < second + length (get_or (a ∷ blocks) n [])) goes (may.apart_after (omega (arith, more)));
}

-- the rule of the blocks
pub rule_two : {A : Type 0} (blocks : List (List A)) (k : ℕ) (x y : List A) → k < length blocks → MayHaveTwo blocks k (length x) (length y) → AreBlocks blocks → AreBlocks (two blocks k x y)
rule_two [] k x y lt may rule = absurd (omega (arith, lt))
rule_two (a ∷ []) zero x y lt may rule = ((may.some_first, may.small_first), may.apart, ((may.some_second, may.small_second), tt, tt))
rule_two (a ∷ b ∷ blocks) zero x y lt may rule = ((may.some_first, may.small_first), may.apart, ((may.some_second, may.small_second), may.apart_after (omega arith), rule.2))
rule_two (a ∷ []) (suc k) x y lt may rule = absurd (omega (arith, lt))
rule_two (a ∷ b ∷ blocks) (suc zero) x y lt may rule =
    let before = may.apart_before (omega arith) in
    (rule.0, before, rule_two (b ∷ blocks) zero x y (omega (arith, lt)) (may_below a (b ∷ blocks) zero (length x) (length y) may) rule.2)
rule_two (a ∷ b ∷ blocks) (suc (suc k)) x y lt may rule =
    (rule.0, rule.1, rule_two (b ∷ blocks) (suc k) x y (omega (arith, lt)) (may_below a (b ∷ blocks) (suc k) (length x) (length y) may) rule.2)

-- items put in at a position in the first of the two, and in the second
pub first_is : {A : Type 0} (blocks : List (List A)) (k : ℕ) (x y : List A) (offset : ℕ) (items : List A) → k < length blocks →
    spliced_block (two blocks k x y) k offset 0 items ≡ two blocks k (spliced x offset 0 items) y
first_is blocks k x y offset items lt =
    ap (λ b. slice_set (two blocks k x y) k (spliced b offset 0 items)) (get_first blocks k x y [] lt) ∙ two_first blocks k x y (spliced x offset 0 items) lt

pub second_is : {A : Type 0} (blocks : List (List A)) (k : ℕ) (x y : List A) (offset : ℕ) (items : List A) → k < length blocks →
    spliced_block (two blocks k x y) (suc k) offset 0 items ≡ two blocks k x (spliced y offset 0 items)
second_is blocks k x y offset items lt =
    ap (λ b. slice_set (two blocks k x y) (suc k) (spliced b offset 0 items)) (get_second blocks k x y [] lt) ∙ two_second blocks k x y (spliced y offset 0 items) lt

-- parting changes no item
pub joined_parted : {A : Type 0} (blocks : List (List A)) (k at : ℕ) → k < length blocks → joined (parted blocks k at) ≡ joined blocks
joined_parted blocks k at lt =
    joined_two blocks k (take at (get_or blocks k [])) (drop at (get_or blocks k [])) lt
    ∙ ap (λ b. joined (slice_set blocks k b)) (take-append-drop at (get_or blocks k []))
    ∙ ap joined (set-get_or blocks k [])

-- items put in at a position of a block, in its first half and in its second, and in the second
pub half_spliced : {A : Type 0} (block items : List A) (half offset : ℕ) → offset ≤ half → half ≤ length block → spliced (take half block) offset 0 items ++ drop half block ≡ spliced block offset 0 items
half_spliced block items half offset le within =
    sym (spliced_before (take half block) (drop half block) items offset 0 (omega (arith, le, within, length-take half block)))
    ∙ ap (λ l. spliced l offset 0 items) (take-append-drop half block)

pub rest_spliced : {A : Type 0} (block items : List A) (half offset : ℕ) → half ≤ offset → half ≤ length block →
    take half block ++ spliced (drop half block) (offset - half) 0 items ≡ spliced block offset 0 items
rest_spliced block items half offset le within =
    let place : length (take half block) + (offset - half) ≡ offset = omega (arith, le, within, length-take half block) in
    sym (spliced_after (take half block) (drop half block) items (offset - half) 0)
    ∙ ap (λ n. spliced (take half block ++ drop half block) n 0 items) place
    ∙ ap (λ l. spliced l offset 0 items) (take-append-drop half block)

-- the whole of it, for a position in the first half
pub in_first : (blocks : List (List Item)) (at k offset half : ℕ) (items : List Item) → MayPart blocks at (length items) k offset → half ≡ length (get_or blocks k []) / 2 → offset ≤ half →
    AreBlocks blocks → IsPartedAt blocks (two blocks k (spliced (take half (get_or blocks k [])) offset 0 items) (drop half (get_or blocks k []))) at items
in_first blocks at k offset half items may is le rule = record {
  rule = rule_two blocks k (spliced (take half b) offset 0 items) (drop half b) may.among (subst (λ n. MayHaveTwo blocks k n (length (drop half b))) (sym first) (subst (λ n. MayHaveTwo blocks k (half + length items) n) (sym second) fits)) rule;
  joined_is = joined_two blocks k (spliced (take half b) offset 0 items) (drop half b) may.among
      ∙ ap (λ l. joined (slice_set blocks k l)) (half_spliced b items half offset le within)
      ∙ block_is_spliced blocks k offset 0 items may.among (omega (arith, may.inside))
      ∙ ap (λ n. spliced (joined blocks) n 0 items) may.place;
  count = count_two blocks k (spliced (take half b) offset 0 items) (drop half b) may.among;
}
  where
    b : List Item
    b = get_or blocks k []

    within : half ≤ length b
    within = omega (arith, is)

    second : length (drop half b) ≡ length b - half
    second = length-drop half b

    first : length (spliced (take half b) offset 0 items) ≡ half + length items
    first = let taken = length-take half b in omega (arith, length_spliced (take half b) items offset 0 (omega (arith, taken, le, within)), taken, within)

    fits : MayHaveTwo blocks k (half + length items) (length b - half)
    fits = subst (λ h. MayHaveTwo blocks k (h + length items) (length b - h)) (sym is) (may.in_first (omega (arith, is, le)))

-- and in the second
pub in_second : (blocks : List (List Item)) (at k offset half : ℕ) (items : List Item) → MayPart blocks at (length items) k offset → half ≡ length (get_or blocks k []) / 2 → half < offset →
    AreBlocks blocks → IsPartedAt blocks (two blocks k (take half (get_or blocks k [])) (spliced (drop half (get_or blocks k [])) (offset - half) 0 items)) at items
in_second blocks at k offset half items may is lt rule = record {
  rule = rule_two blocks k (take half b) (spliced (drop half b) (offset - half) 0 items) may.among (subst (λ n. MayHaveTwo blocks k n (length (spliced (drop half b) (offset - half) 0 items))) (sym first) (subst (λ n. MayHaveTwo blocks k half n) (sym second) fits)) rule;
  joined_is = joined_two blocks k (take half b) (spliced (drop half b) (offset - half) 0 items) may.among
      ∙ ap (λ l. joined (slice_set blocks k l)) (rest_spliced b items half offset (omega (arith, lt)) within)
      ∙ block_is_spliced blocks k offset 0 items may.among (omega (arith, may.inside))
      ∙ ap (λ n. spliced (joined blocks) n 0 items) may.place;
  count = count_two blocks k (take half b) (spliced (drop half b) (offset - half) 0 items) may.among;
}
  where
    b : List Item
    b = get_or blocks k []

    within : half ≤ length b
    within = omega (arith, is)

    first : length (take half b) ≡ half
    first = let taken = length-take half b in omega (arith, taken, within)

    second : length (spliced (drop half b) (offset - half) 0 items) ≡ length b - half + length items
    second = let dropped = length-drop half b in omega (arith, length_spliced (drop half b) items (offset - half) 0 (omega (arith, dropped, lt, may.inside)), dropped)

    fits : MayHaveTwo blocks k half (length b - half + length items)
    fits = subst (λ h. MayHaveTwo blocks k h (length b - h + length items)) (sym is) (may.in_second (omega (arith, is, lt)))
