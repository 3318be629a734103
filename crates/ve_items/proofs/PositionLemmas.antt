-- A position in a list, and the same position in one of its blocks.
use Rattle.std.proofs.Common.{◌≡◌, ◌+◌, ◌-◌, ◌<◌, ◌≤◌, ℕ, List, [], ◌++◌, Some, length, take, drop, get_or, sym, ap, ◌∙◌, take-append-drop, arith, length-append, length-drop}
use Rattle.std.specs.List.{slice_get}
use Rattle.std.proofs.lemmas.List.{drop_more, drop-drop, take-append-le, drop-append-le, get_or_append_left, get_or-append-add, length-take-le}
use Rattle.std.proofs.lemmas.Option.{get_or_from_slice_get, slice_get-get_or}
use Rattle.std.proofs.Math.Seq.{take-add, drop-append-add}
use Rattle.ve_items.specs.Blocks.{joined}
use Rattle.ve_items.specs.InBlock.{StandsAt}
use Rattle.ve_items.proofs.Blocks.{joined_append}

-- the blocks before one, that one, and the blocks after it
joined_around : {A : Type 0} (blocks : List (List A)) (block : List A) (k : ℕ) → k < length blocks → slice_get blocks k ≡ Some block → joined blocks ≡ joined (take k blocks) ++ (block ++ joined (drop (k + 1) blocks))
joined_around blocks block k lt is =
    ap joined (sym (take-append-drop k blocks))
    ∙ joined_append (take k blocks) (drop k blocks)
    ∙ ap (λ l. joined (take k blocks) ++ joined l) (drop_more blocks k [] lt)
    ∙ ap (λ l. joined (take k blocks) ++ (l ++ joined (drop (k + 1) blocks))) (get_or_from_slice_get blocks k block [] is)

pub inside_block : {A : Type 0} (blocks : List (List A)) (block : List A) (at k offset : ℕ) → StandsAt blocks at k offset → slice_get blocks k ≡ Some block → offset < length block
inside_block blocks block at k offset h is =
    let same : length (get_or blocks k []) ≡ length block = ap length (get_or_from_slice_get blocks k block [] is) in
    let within = h.inside in
    omega arith

pub item_at : {A : Type 0} (blocks : List (List A)) (block : List A) (at k offset : ℕ) (d : A) → StandsAt blocks at k offset → slice_get blocks k ≡ Some block → slice_get (joined blocks) at ≡ Some (get_or block offset d)
item_at blocks block at k offset d h is =
    let before = joined (take k blocks) in
    let suffix = joined (drop (k + 1) blocks) in
    let around = joined_around blocks block k h.among is in
    let within = inside_block blocks block at k offset h is in
    let place = h.place in
    let sizes = length-append before (block ++ suffix) in
    let size = length-append block suffix in
    let all : length (joined blocks) ≡ length (before ++ (block ++ suffix)) = ap length around in
    slice_get-get_or (joined blocks) at d (omega arith)
    ∙ ap Some (ap (λ l. get_or l at d) around
    ∙ ap (λ n. get_or (before ++ (block ++ suffix)) n d) (sym place)
    ∙ get_or-append-add before (block ++ suffix) offset d
    ∙ get_or_append_left block suffix d offset within)

-- a range that ends within the block in which it begins
pub range_at : {A : Type 0} (blocks : List (List A)) (block : List A) (at k offset many : ℕ) → StandsAt blocks at k offset → slice_get blocks k ≡ Some block → offset + many ≤ length block → take many (drop offset block) ≡ take many (drop at (joined blocks))
range_at blocks block at k offset many h is le =
    let before = joined (take k blocks) in
    let suffix = joined (drop (k + 1) blocks) in
    let around = joined_around blocks block k h.among is in
    let rest = length-drop offset block in
    let dropped : drop at (joined blocks) ≡ drop offset block ++ suffix =
    ap (λ l. drop at l) around
    ∙ ap (λ n. drop n (before ++ (block ++ suffix))) (sym h.place)
    ∙ drop-append-add before (block ++ suffix) offset
    ∙ drop-append-le offset block suffix (omega arith) in
    sym (ap (λ l. take many l) dropped ∙ take-append-le many (drop offset block) suffix (omega arith))

-- a copy of a range that grows by a piece
pub range_more : {A : Type 0} (items copy grown piece : List A) (from at many : ℕ) → from ≤ at → copy ≡ take (at - from) (drop from items) → grown ≡ copy ++ piece → piece ≡ take many (drop at items) → grown ≡ take (at + many - from) (drop from items)
range_more items copy grown piece from at many le c g p =
    let goes : from + (at - from) ≡ at = omega arith in
    let more : at - from + many ≡ at + many - from = omega arith in
    g ∙ ap (λ l. copy ++ l) p ∙ ap (λ l. l ++ take many (drop at items)) c
    ∙ ap (λ n. take (at - from) (drop from items) ++ take many (drop n items)) (sym goes)
    ∙ ap (λ l. take (at - from) (drop from items) ++ take many l) (sym (drop-drop (at - from) from items))
    ∙ sym (take-add (at - from) many (drop from items))
    ∙ ap (λ n. take n (drop from items)) more

-- a range by the length of its copy
pub range_length : {A : Type 0} (items block : List A) (from offset many : ℕ) → offset + many ≤ length block → take many (drop from items) ≡ take (from + length (take many (drop offset block)) - from) (drop from items)
range_length items block from offset many le =
    let size = length-take-le many (drop offset block) (omega (arith, length-drop offset block)) in
    let same : many ≡ from + length (take many (drop offset block)) - from = omega arith in
    ap (λ n. take n (drop from items)) same

-- a range that ends after a position, and doesn't begin before the position's block
pub range_to : {A : Type 0} (blocks : List (List A)) (block : List A) (at k offset many : ℕ) → StandsAt blocks at k offset → slice_get blocks k ≡ Some block → 0 < many → many ≤ offset + 1 →
    take many (drop (offset + 1 - many) block) ≡ take many (drop (at + 1 - many) (joined blocks))
range_to blocks block at k offset many h is some le =
    let place = h.place in
    let inside = h.inside in
    let within = inside_block blocks block at k offset h is in
    let begins : StandsAt blocks (at + 1 - many) k (offset + 1 - many) = record { among = h.among; inside = omega arith; place = omega arith } in
    range_at blocks block (at + 1 - many) k (offset + 1 - many) many begins is (omega arith)
