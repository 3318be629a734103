-- A sink that takes bytes into a room of fixed size.
use Rattle.std.specs.Prelude.{◌≡◌, ◌<◌, ◌⊎◌, ℕ, ◌-◌, List, ◌++◌, Contains, length, take}
use Rattle.ve_base.specs.Feed.{next_count}

pub record Fill : Type 0 where
  -- the bytes that were taken
  pub held : List ℕ
  -- how many more fit
  pub free : ℕ
  -- the numbers of the calls that fail
  pub fails : List ℕ
  -- how many calls were made, and how many of these failed
  pub calls : ℕ
  pub faults : ℕ

-- a piece that isn't empty meets a full room
abbrev pub IsFullFor : ℕ → List ℕ → Type 0
IsFullFor free piece = (free ≡ 0) × (0 < length piece)

-- the call fails: it is listed, or the room is full
abbrev pub FailsAt : Fill → List ℕ → Type 0
FailsAt fill piece = Contains fill.fails fill.calls ⊎ IsFullFor fill.free piece

-- as much of a piece as fits was taken
abbrev pub after_write : Fill → List ℕ → Fill
after_write fill piece = record {
  held = fill.held ++ take fill.free piece;
  free = fill.free - length piece;
  fails = fill.fails;
  calls = next_count fill.calls;
  faults = fill.faults;
}

abbrev pub after_failed_write : Fill → Fill
after_failed_write fill = record {
  held = fill.held;
  free = fill.free;
  fails = fill.fails;
  calls = next_count fill.calls;
  faults = next_count fill.faults;
}

-- the same without listed calls, and so without their count
pub record Room : Type 0 where
  pub held : List ℕ
  pub free : ℕ
  pub faults : ℕ

abbrev pub after_taking : Room → List ℕ → Room
after_taking room piece = record { held = room.held ++ take room.free piece; free = room.free - length piece; faults = room.faults }

abbrev pub after_full : Room → Room
after_full room = record { held = room.held; free = room.free; faults = next_count room.faults }
