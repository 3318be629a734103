-- A source that gives bytes of memory in pieces.
use Rattle.std.specs.Prelude.{ℕ, ◌+◌, ◌-◌, ◌^◌, List, [], ◌∷◌, length, drop, min}

pub record Feed : Type 0 where
  -- the bytes that are still to be given
  pub left : List ℕ
  -- the greatest sizes of the next pieces
  pub cuts : List ℕ
  -- the numbers of the calls that fail
  pub fails : List ℕ
  -- how many calls were made, and how many of these failed
  pub calls : ℕ
  pub faults : ℕ

-- one more, in a count that stays at its last value
abbrev pub next_count : ℕ → ℕ
next_count count = min (count + 1) (2 ^ 64 - 1)

-- the greatest size of the next piece: after the last cut, as large as the room
abbrev pub next_cut : List ℕ → ℕ → ℕ
next_cut [] room = room
next_cut (cut ∷ cuts) room = min cut room

abbrev pub piece_size : Feed → ℕ → ℕ
piece_size feed room = min (length feed.left) (next_cut feed.cuts room)

-- after a call that gave a piece into so much room
abbrev pub after_piece : Feed → ℕ → Feed
after_piece feed room = record {
  left = drop (piece_size feed room) feed.left;
  cuts = drop 1 feed.cuts;
  fails = feed.fails;
  calls = next_count feed.calls;
  faults = feed.faults;
}

-- after a call that failed
abbrev pub after_fault : Feed → Feed
after_fault feed = record {
  left = feed.left;
  cuts = feed.cuts;
  fails = feed.fails;
  calls = next_count feed.calls;
  faults = next_count feed.faults;
}
