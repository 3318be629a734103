-- The capacity that a list reserves beside its blocks, so that splices need no memory.
use Rattle.std.specs.Prelude.{ℕ, ◌≡◌, ◌+◌, ◌-◌, ◌*◌, ◌/◌, ◌^◌, ◌<◌, ◌≤◌, [], length, min}
use Rattle.ve_base.specs.Limits.{max_block, filled_block}
use Rattle.ve_items.specs.Blocks.{joined, AreBlocks}
use Rattle.ve_items.specs.Stacked.{Pile}

-- how many blocks so many items make
abbrev pub filled_blocks : ℕ → ℕ
filled_blocks many = (many + (filled_block - 1)) / filled_block

-- how many blocks a splice of so many items may add: the items', the rest of them, and the half of
-- a block that it cuts
abbrev pub more_blocks : ℕ → ℕ
more_blocks many = many / filled_block + 2

-- how many blocks so many items may lie in while a splice is done: two neighbours hold more than
-- `max_block`
abbrev pub most_blocks : ℕ → ℕ
most_blocks items = items / (max_block / 2) + 5

-- how many empty blocks serve all splices of so many items together, however they are parted: a
-- splice of one item may cut a full block
abbrev pub needed_blocks : (items blocks spare : ℕ) → ℕ
needed_blocks items blocks spare = min (2 * spare) (most_blocks (items + spare) - blocks)

-- Each splice may set aside all blocks, and no block is lost: a list's blocks and its empty ones
-- together stay so many.
pub record IsReady (table aside : Pile) (pool capacity spare : ℕ) : Type 0 where
  pub rule : AreBlocks table.blocks
  pub closed : aside.blocks ≡ []
  pub counted : length (joined table.blocks) + spare < 2 ^ 64
  pub holds : length table.blocks ≤ table.room
  pub turns : length table.blocks ≤ aside.room
  pub grows : 0 < spare → most_blocks (length (joined table.blocks) + spare) ≤ table.room
  pub goes : 0 < spare → most_blocks (length (joined table.blocks) + spare) ≤ aside.room
  pub stocked : needed_blocks (length (joined table.blocks)) (length table.blocks) spare ≤ pool
  pub kept : length table.blocks + pool ≤ capacity

-- the capacity that one splice of so many items needs
pub record CanTake (table aside : Pile) (pool capacity many : ℕ) : Type 0 where
  pub counted : length (joined table.blocks) + many < 2 ^ 64
  pub holds : length table.blocks ≤ table.room
  pub turns : length table.blocks ≤ aside.room
  pub grows : 0 < many → length table.blocks + more_blocks many ≤ table.room
  pub goes : 0 < many → length table.blocks + more_blocks many ≤ aside.room
  pub stocked : 0 < many → more_blocks many ≤ pool
  pub kept : length table.blocks + pool ≤ capacity
