-- What transactions leave at the ends of a list.
use Rattle.std.proofs.Common.{◌≡◌, ◌≤◌, ℕ, List, [], ◌∷◌, None, Some, codes, map, refl, arith}
use Rattle.std.proofs.lemmas.List.Elements.{All-nil, All-cons, All-head, All-tail}
use Rattle.model_items.specs.declared.plain_item.PlainItem.{PlainItem}
use Rattle.model_items.specs.declared.plain_item.PlainItem.TheVariants.{Char}
use Rattle.model_change.specs.Transaction.{Retain, Replace, Attribute, Transaction}
use Rattle.ve_site.specs.Ends.{LeaveEnds, LeavesEnds, least_ends, whole_list}
use Rattle.ve_site.specs.declared.ends.Ends.{Ends}

abbrev letters : List ℕ → List PlainItem
letters = map (λ c. Char c [])

abbrev ends : (prefix suffix : ℕ) → Ends
ends prefix suffix = record { prefix = prefix; suffix = suffix }

-- c comes into abdef, and then e goes
abbrev comes : Transaction
comes = Retain 2 ∷ Replace [] (letters (codes "c")) ∷ Retain 3 ∷ []

abbrev goes : Transaction
goes = Retain 4 ∷ Replace (letters (codes "e")) [] ∷ Retain 1 ∷ []

-- so a and b stay before them, and f behind
two_and_one_stay : LeaveEnds (ends 2 1) (comes ∷ goes ∷ [])
two_and_one_stay =
    let first : 2 ≤ 2 = omega arith in
    let behind_first : 3 ≤ 5 = omega arith in
    let second : 2 ≤ 4 = omega arith in
    let behind_second : 6 ≤ 6 = omega arith in
    All-cons (LeavesEnds (ends 2 1)) comes (goes ∷ []) (first, behind_first)
    (All-cons (LeavesEnds (ends 2 1)) goes [] (second, behind_second) (All-nil (LeavesEnds (ends 2 1))))

-- and these are the least of what each leaves: 2 and 3, 4 and 1
the_least_of_two_and_four_and_of_three_and_one : least_ends (whole_list 5) (comes ∷ goes ∷ []) ≡ ends 2 1
the_least_of_two_and_four_and_of_three_and_one = refl

-- the first alone leaves def
too_many_at_the_end : LeaveEnds (ends 2 2) (comes ∷ goes ∷ []) → ⊥
too_many_at_the_end h =
    let low : 7 ≤ 6 = (All-head (LeavesEnds (ends 2 2)) goes [] (All-tail (LeavesEnds (ends 2 2)) comes (goes ∷ []) h)).1 in
    absurd (omega arith)

-- the second alone leaves abcd
too_many_at_the_beginning : LeaveEnds (ends 3 1) (comes ∷ goes ∷ []) → ⊥
too_many_at_the_beginning h =
    let low : 3 ≤ 2 = (All-head (LeavesEnds (ends 3 1)) comes (goes ∷ []) h).0 in
    absurd (omega arith)

-- an attribute of the second of five items: of the four retained behind the operation, the first is
-- the one that changes
abbrev sets : Transaction
sets = Retain 1 ∷ Attribute (record { name = codes "id"; from = None; to = Some (codes "a"); kept = None }) ∷ Retain 4 ∷ []

three_stay_behind_it : LeaveEnds (ends 1 3) (sets ∷ [])
three_stay_behind_it =
    let before : 1 ≤ 1 = omega arith in
    let behind : 5 ≤ 5 = omega arith in
    All-cons (LeavesEnds (ends 1 3)) sets [] (before, behind) (All-nil (LeavesEnds (ends 1 3)))

three_are_the_least : least_ends (whole_list 5) (sets ∷ []) ≡ ends 1 3
three_are_the_least = refl

four_do_not : LeaveEnds (ends 1 4) (sets ∷ []) → ⊥
four_do_not h =
    let low : 6 ≤ 5 = (All-head (LeavesEnds (ends 1 4)) sets [] h).1 in
    absurd (omega arith)

-- one that changes nothing leaves all of a list at the beginning, and nothing at the end
idle_leaves_the_beginning : least_ends (whole_list 5) ((Retain 5 ∷ []) ∷ []) ≡ ends 5 0
idle_leaves_the_beginning = refl

no_change_leaves_all : least_ends (whole_list 5) [] ≡ whole_list 5
no_change_leaves_all = refl

idle_at_the_end : LeaveEnds (ends 5 1) ((Retain 5 ∷ []) ∷ []) → ⊥
idle_at_the_end h =
    let low : 6 ≤ 5 = (All-head (LeavesEnds (ends 5 1)) (Retain 5 ∷ []) [] h).1 in
    absurd (omega arith)
