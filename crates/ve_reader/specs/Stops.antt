-- Where reading stops: at the first opening that is too deep, at the first annotation inside of too
-- many marks, or for want of memory.
use Rattle.std.specs.Prelude.{◌≡◌, ℕ, if◌then◌else◌, nat_lt, length, Option, Some, None, option_map, Result, Ok, Err}
use Rattle.ve_base.specs.Limits.{max_marks, max_open_kinds}
use Rattle.model_page.specs.Pieces.{Piece}
use Rattle.model_page.specs.Limits.{Limit, TooDeep, TooManyMarks, deep_at}
use Rattle.ve_reader.specs.declared.purpose.Purpose.TheVariants as purpose
use Rattle.ve_reader.specs.declared.purpose.Purpose.{Purpose}
use Rattle.ve_reader.specs.declared.purpose.ReadStop.{ReadStop}
use Rattle.ve_reader.specs.declared.purpose.ReadStop.TheVariants as stop
use Rattle.ve_reader.specs.ReadSoFar.{ReadSoFar}

-- in a fragment nothing is too deep: that is said by the law, once it is inserted
abbrev pub depth_limit : Purpose → ℕ → Piece → Option Limit
depth_limit purpose.Page depth piece = option_map (λ n. TooDeep n) (deep_at depth piece.items piece.spans)
depth_limit purpose.Body depth piece = option_map (λ n. TooDeep n) (deep_at depth piece.items piece.spans)
depth_limit purpose.Fragment depth piece = None

-- the first opening of a piece that is too deep
abbrev pub deep_in : ReadSoFar → Piece → Option Limit
deep_in r piece = depth_limit r.purpose r.depth piece

-- an opening at a byte, where so many kinds are open, is too deep
abbrev pub opening_limit : Purpose → ℕ → ℕ → Option Limit
opening_limit purpose.Page depth at = if nat_lt depth max_open_kinds then None else Some (TooDeep at)
opening_limit purpose.Body depth at = if nat_lt depth max_open_kinds then None else Some (TooDeep at)
opening_limit purpose.Fragment depth at = None

-- one mark more at a byte is one too many
abbrev pub mark_limit : ReadSoFar → ℕ → Option Limit
mark_limit r at = if nat_lt (length r.marks) max_marks then None else Some (TooManyMarks at)

abbrev pub stop_limit : ReadStop → Option Limit → Type 0
stop_limit (stop.TooDeep at) limit = limit ≡ Some (TooDeep at)
stop_limit (stop.TooManyMarks at) limit = limit ≡ Some (TooManyMarks at)
stop_limit stop.Memory limit = Unit {0}

-- an `Ok` is within the limits, and an `Err` names the limit that is passed, unless memory ran out
abbrev pub Stops : {A : Type 0} → Result A ReadStop → Option Limit → Type 0
Stops (Ok x) limit = limit ≡ None
Stops (Err e) limit = stop_limit e limit
