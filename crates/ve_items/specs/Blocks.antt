-- A list kept in blocks.
use Rattle.std.specs.Prelude.{◌+◌, ◌<◌, ◌≤◌, List, [], ◌∷◌, length}
use Rattle.std.specs.List.{flat_map}
use Rattle.ve_base.specs.Limits.{max_block}

-- the blocks one after the other
abbrev pub joined : {A : Type 0} → List (List A) → List A
joined blocks = flat_map (λ block. block) blocks

-- a block holds 1 to `max_block` items
abbrev pub IsBlock : {A : Type 0} → List A → Type 0
IsBlock block = (0 < length block) × (length block ≤ max_block)

-- a block and the one that follows it, where one follows, would not fit into one
abbrev pub IsApart : {A : Type 0} → List A → List (List A) → Type 0
IsApart block [] = Unit {0}
IsApart block (next ∷ _) = max_block < length block + length next

-- each block keeps its size, and no two neighbours would fit into one
abbrev pub AreBlocks : {A : Type 0} → List (List A) → Type 0
AreBlocks [] = Unit {0}
AreBlocks (block ∷ blocks) = IsBlock block × IsApart block blocks × AreBlocks blocks
