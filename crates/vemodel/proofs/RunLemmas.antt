-- A run whose count of steps began at 0.
use Rattle.std.proofs.Common.{◌≡◌, ℕ, List, Option, subst}
use Rattle.ve_run.specs.declared.status.Status.{Status}
use Rattle.ve_session.specs.Program.{Seen, seen_of, EndedNew, WrotePrefixNew}

pub ended_from_none : (words : List (List ℕ)) (steps : ℕ) (left held : Option (List ℕ)) (reads writes : ℕ) (after : Seen) (status : Status)
    → steps ≡ 0 → EndedNew words (seen_of steps left held reads writes) after status
    → EndedNew words (seen_of 0 left held reads writes) after status
ended_from_none words steps left held reads writes after status none ended =
    subst (λ n. EndedNew words (seen_of n left held reads writes) after status) none ended

pub prefix_from_none : (steps : ℕ) (left held : Option (List ℕ)) (reads writes : ℕ) (after : Seen)
    → steps ≡ 0 → WrotePrefixNew (seen_of steps left held reads writes) after
    → WrotePrefixNew (seen_of 0 left held reads writes) after
prefix_from_none steps left held reads writes after none wrote =
    subst (λ n. WrotePrefixNew (seen_of n left held reads writes) after) none wrote
