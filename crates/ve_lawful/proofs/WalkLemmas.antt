-- Going on by a borrowed piece of a list.
use Rattle.std.proofs.Common.{◌≡◌, ℕ, ◌+◌, ◌-◌, ◌≤◌, List, [], ◌++◌, length, take, drop, slice_range, Ok, Err, Some, Result, sym, ap, ◌∙◌, arith, append_assoc, take-append-drop, length-take-le}
use Rattle.std.proofs.Math.Seq.{take-add}
use Rattle.std.proofs.lemmas.List.{map-append, length-map}
use Rattle.model_items.specs.declared.item.Item.{Item}
use Rattle.model_items.specs.declared.law_fault.LawFault.{LawFault}
use Rattle.model_items.specs.Law as law
use Rattle.model_items.specs.Plain.{plain, plain_list}
use Rattle.model_items.proofs.LawLemmas.{after-append, after_whole}
use Rattle.ve_lawful.specs.Uncited.{after, verdict}

-- the items up to the end of a piece
up_to : (items piece : List Item) (at n : ℕ) → piece ≡ slice_range items at (at + n) → take (at + n) items ≡ take at items ++ piece
up_to items piece at n lent = take-add at n items ∙ ap (λ l. take at items ++ l) (ap (λ k. take k (drop at items)) (let e : n ≡ at + n - at = omega arith in e) ∙ sym lent)

pub walked_on : (s t u : law.State) (items piece : List Item) (at n : ℕ) → piece ≡ slice_range items at (at + n)
    → after s (take at items) ≡ Ok t → after t piece ≡ Ok u → after s (take (at + n) items) ≡ Ok u
walked_on s t u items piece at n lent before now =
    ap (λ l. law.after s (plain_list [] l)) (up_to items piece at n lent)
    ∙ ap (λ l. law.after s l) (map-append (plain []) (take at items) piece)
    ∙ after_whole (plain_list [] (take at items)) (plain_list [] piece) s t u before now

fails_on : (at m : ℕ) (r : Result law.State LawFault) (rest : law.State → Result law.State LawFault) (fault : LawFault)
    → law.outcome_moved at r ≡ Err fault → law.outcome_moved at (law.outcome_then m r rest) ≡ Err fault
fails_on at m (Ok s) rest fault h = cc
fails_on at m (Err f) rest fault h = h

-- where a piece fails, the list fails there
pub walk_fails : (s t : law.State) (items piece : List Item) (at n : ℕ) (fault : LawFault) → at ≤ length items → piece ≡ slice_range items at (at + n)
    → after s (take at items) ≡ Ok t → law.outcome_moved at (after t piece) ≡ Err fault → after s items ≡ Err fault
walk_fails s t items piece at n fault within lent before now =
    let rest = drop (at + n) items in
    let A = plain_list [] (take at items) in
    let P = plain_list [] piece in
    let R = plain_list [] rest in
    let parts : items ≡ take at items ++ (piece ++ rest) =
    sym (take-append-drop (at + n) items) ∙ ap (λ l. l ++ rest) (up_to items piece at n lent) ∙ append_assoc (take at items) piece rest in
    let long : length A ≡ at = length-map (take at items) (plain []) ∙ length-take-le at items within in
    ap (λ l. law.after s (plain_list [] l)) parts
    ∙ ap (λ l. law.after s l) (map-append (plain []) (take at items) (piece ++ rest) ∙ ap (λ l. A ++ l) (map-append (plain []) piece rest))
    ∙ after-append s A (P ++ R)
    ∙ ap (λ r. law.outcome_then (length A) r (λ v. law.after v (P ++ R))) before
    ∙ ap (λ k. law.outcome_moved k (law.after t (P ++ R))) long
    ∙ ap (law.outcome_moved at) (after-append t P R)
    ∙ fails_on at (length P) (law.after t P) (λ v. law.after v R) fault now

pub verdict_fails : (items : List Item) (fault : LawFault) → after law.start items ≡ Err fault → verdict items ≡ Some fault
verdict_fails items fault h = ap (law.verdict_at (length (plain_list [] items))) h
