-- Positions in one block of a list.
use Rattle.std.specs.Prelude.{ℕ, ◌≡◌, ◌+◌, ◌-◌, ◌/◌, ◌<◌, ◌≤◌, List, [], length, take, slice_index_or}
use Rattle.ve_base.specs.Limits.{max_block}
use Rattle.ve_items.specs.Blocks.{joined}

-- the item at a position, as a block and a position in that block
pub record StandsAt {A : Type 0} (blocks : List (List A)) (at block offset : ℕ) : Type 0 where
  pub among : block < length blocks
  pub inside : offset < length (slice_index_or blocks block [])
  pub place : length (joined (take block blocks)) + offset ≡ at

-- a position in a block, or at its end
pub record TouchesAt {A : Type 0} (blocks : List (List A)) (at block offset : ℕ) : Type 0 where
  pub among : block < length blocks
  pub inside : offset ≤ length (slice_index_or blocks block [])
  pub place : length (joined (take block blocks)) + offset ≡ at

-- a block may hold so many items, and stays apart from its neighbours then
pub record MayHave {A : Type 0} (blocks : List (List A)) (block size : ℕ) : Type 0 where
  pub some : 0 < size
  pub small : size ≤ max_block
  pub apart_before : 0 < block → max_block < length (slice_index_or blocks (block - 1) []) + size
  pub apart_after : block + 1 < length blocks → max_block < size + length (slice_index_or blocks (block + 1) [])

-- a range that lies in one block, which may have so many items in its place
pub record MayChange {A : Type 0} (blocks : List (List A)) (at removed more block offset : ℕ) : Type 0 where
  pub among : block < length blocks
  pub place : length (joined (take block blocks)) + offset ≡ at
  pub inside : offset + removed ≤ length (slice_index_or blocks block [])
  pub size : MayHave blocks block (length (slice_index_or blocks block []) - removed + more)

-- two blocks of so many items may take the place of one: they stay apart from one another and from
-- its neighbours
pub record MayHaveTwo {A : Type 0} (blocks : List (List A)) (block first second : ℕ) : Type 0 where
  pub some_first : 0 < first
  pub small_first : first ≤ max_block
  pub some_second : 0 < second
  pub small_second : second ≤ max_block
  pub apart : max_block < first + second
  pub apart_before : 0 < block → max_block < length (slice_index_or blocks (block - 1) []) + first
  pub apart_after : block + 1 < length blocks → max_block < second + length (slice_index_or blocks (block + 1) [])

-- a position in a block whose halves may take its place, when the one with the position in it has
-- so many items more
pub record MayPart {A : Type 0} (blocks : List (List A)) (at more block offset : ℕ) : Type 0 where
  pub among : block < length blocks
  pub place : length (joined (take block blocks)) + offset ≡ at
  pub inside : offset ≤ length (slice_index_or blocks block [])
  pub small : length (slice_index_or blocks block []) ≤ max_block
  pub in_first : offset ≤ length (slice_index_or blocks block []) / 2 →
      MayHaveTwo blocks block (length (slice_index_or blocks block []) / 2 + more) (length (slice_index_or blocks block []) - length (slice_index_or blocks block []) / 2)
  pub in_second : length (slice_index_or blocks block []) / 2 < offset →
      MayHaveTwo blocks block (length (slice_index_or blocks block []) / 2) (length (slice_index_or blocks block []) - length (slice_index_or blocks block []) / 2 + more)
