-- What transactions leave at the beginning of a list and at its end.
use Rattle.std.specs.Prelude.{◌≤◌, ℕ, ◌+◌, ◌-◌, min, List, All, fold}
use Rattle.model_change.specs.Join.{start_of, end_of}
use Rattle.model_change.specs.Transaction.{Transaction, old_length}
use Rattle.ve_site.specs.declared.ends.Ends.{Ends}

-- the transaction's active range begins after so many items, and ends before so many
abbrev pub LeavesEnds : Ends → Transaction → Type 0
LeavesEnds e t = (e.prefix ≤ start_of t) × (end_of t + e.suffix ≤ old_length t)

-- each of these transactions leaves so many items at a list's beginning, and so many at its end
abbrev pub LeaveEnds : Ends → List Transaction → Type 0
LeaveEnds e ts = All (LeavesEnds e) ts

-- How many items a transaction leaves before its active range, and how many behind it. One that
-- changes nothing leaves all of a list at the beginning, and none at the end.
abbrev pub ends_left_by : Transaction → Ends
ends_left_by t = record { prefix = start_of t; suffix = old_length t - end_of t }

-- all of so many items, at the beginning and at the end
abbrev pub whole_list : ℕ → Ends
whole_list count = record { prefix = count; suffix = count }

-- the lesser one of two at either end
abbrev pub lesser_ends : Ends → Ends → Ends
lesser_ends e f = record { prefix = min e.prefix f.prefix; suffix = min e.suffix f.suffix }

-- the least, at either end, of these and of what each of the transactions leaves
abbrev pub least_ends : Ends → List Transaction → Ends
least_ends most ts = fold (λ e t. lesser_ends e (ends_left_by t)) most ts
