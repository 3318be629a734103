-- Going on by one item, and the first offence.
use Rattle.std.proofs.Common.{◌≡◌, ℕ, suc, ◌+◌, ◌<◌, Bool, true, false, ◌||◌, if◌then◌else◌, nat_lt, List, [], ◌∷◌, ◌++◌, length, get_or, take, drop, Ok, Err, Result, refl, sym, ap, subst, ◌∙◌, arith, take-append-drop, drop-cons, length-take-le}
use Rattle.std.proofs.lemmas.List.{take_more, map-append, length-map}
use Rattle.ve_kinds.specs.declared.kind.Kind.{Kind}
use Rattle.ve_kinds.specs.declared.kind.Kind.TheVariants.{InternalList}
use Rattle.ve_kinds.specs.Table.{kind_same, is_content_branch}
use Rattle.model_items.specs.declared.item.Item.{Item}
use Rattle.model_items.specs.declared.plain_item.PlainItem.{PlainItem}
use Rattle.model_items.specs.declared.plain_item.PlainItem.TheVariants.{Char, Opening, Closing}
use Rattle.model_items.specs.declared.law_fault.LawFault.{LawFault}
use Rattle.model_items.specs.declared.law_fault.LawFault.TheVariants.{Unlawful, TooDeep}
use Rattle.model_items.specs.Law as law
use Rattle.model_items.specs.Plain.{plain, plain_list}
use Rattle.model_items.proofs.LawLemmas.{after-append}
use Rattle.ve_lawful.specs.Uncited.{step, after}

abbrev IsAtStart : Result law.State LawFault → Type 0
IsAtStart (Ok s) = Unit {0}
IsAtStart (Err fault) = law.fault_place fault ≡ 0

closed_at_start : (stack : List Kind) (seen : Bool) (k : Kind) → IsAtStart (law.state_closed stack seen k)
closed_at_start [] seen k = refl
closed_at_start (inner ∷ outer) seen k =
    elim (kind_same inner k) as (λ b. IsAtStart (if b then Ok (record { stack = outer; seen = seen }) else Err (Unlawful 0))) [ true ↦ tt | false ↦ refl ]

opened_at_start : (s : law.State) (k : Kind) → IsAtStart (law.state_opened s k)
opened_at_start s k = go (law.may_open s k) (nat_lt (length s.stack) 100) (record { stack = k ∷ s.stack; seen = s.seen || kind_same k InternalList }) where
  go : (allowed few : Bool) (next : law.State) → IsAtStart (if allowed then (if few then Ok next else Err (TooDeep 0)) else Err (Unlawful 0))
  go true true next = tt
  go true false next = refl
  go false few next = refl

step_at_start : (s : law.State) (item : PlainItem) → IsAtStart (law.step s item)
step_at_start s (Char ch marks) = elim (is_content_branch (law.top s.stack)) as (λ b. IsAtStart (if b then Ok s else Err (Unlawful 0))) [ true ↦ tt | false ↦ refl ]
step_at_start s (Opening kind head marks pre origin generated) = opened_at_start s kind
step_at_start s (Closing kind pre) = closed_at_start s.stack s.seen kind

-- the fault of one item has position 0
pub place_of-step : (s : law.State) (item : Item) (fault : LawFault) → step s item ≡ Err fault → law.fault_place fault ≡ 0
place_of-step s item fault h = subst IsAtStart h (step_at_start s (plain [] item))

moved_twice : (m n : ℕ) (fault : LawFault) → law.fault_moved m (law.fault_moved n fault) ≡ law.fault_moved (m + n) fault
moved_twice m n (Unlawful at) = ap Unlawful (omega arith)
moved_twice m n (TooDeep at) = ap TooDeep (omega arith)

pub moved_by_none : (r : Result law.State LawFault) → law.outcome_moved 0 r ≡ r
moved_by_none (Ok s) = refl
moved_by_none (Err (Unlawful at)) = ap (λ n. Err (Unlawful n)) (omega arith)
moved_by_none (Err (TooDeep at)) = ap (λ n. Err (TooDeep n)) (omega arith)

pub one_more : (s t u : law.State) (items : List Item) (n : ℕ) (d : Item) → n < length items → after s (take n items) ≡ Ok t → step t (get_or items n d) ≡ Ok u
    → after s (take (n + 1) items) ≡ Ok u
one_more s t u items n d within before now =
    let x = get_or items n d in
    let A = plain_list [] (take n items) in
    let B = plain [] x ∷ [] in
    ap (λ l. law.after s (plain_list [] l)) (take_more items n d within)
    ∙ ap (λ l. law.after s l) (map-append (plain []) (take n items) (x ∷ []))
    ∙ after-append s A B
    ∙ ap (λ r. law.outcome_then (length A) r (λ v. law.after v B)) before
    ∙ ap (λ r. law.outcome_moved (length A) (law.outcome_then 1 r (λ next. law.after next []))) now

-- where an item isn't allowed, the list fails there
pub stopped : (s t : law.State) (items : List Item) (n : ℕ) (d : Item) (fault : LawFault) → n < length items → after s (take n items) ≡ Ok t → step t (get_or items n d) ≡ Err fault
    → after s items ≡ Err (law.fault_moved n fault)
stopped s t items n d fault within before now =
    let x = get_or items n d in
    let A = plain_list [] (take n items) in
    let B = plain [] x ∷ plain_list [] (drop (suc n) items) in
    let long : length A ≡ n = length-map (take n items) (plain []) ∙ length-take-le n items (omega arith) in
    let parts : items ≡ take n items ++ (x ∷ drop (suc n) items) = sym (take-append-drop n items) ∙ ap (λ l. take n items ++ l) (drop-cons items n d within) in
    ap (λ l. law.after s (plain_list [] l)) parts
    ∙ ap (λ l. law.after s l) (map-append (plain []) (take n items) (x ∷ drop (suc n) items))
    ∙ after-append s A B
    ∙ ap (λ r. law.outcome_then (length A) r (λ v. law.after v B)) before
    ∙ ap (λ r. law.outcome_moved (length A) (law.outcome_then 1 r (λ next. law.after next (plain_list [] (drop (suc n) items))))) now
    ∙ ap (λ k. Err (law.fault_moved k fault)) long

-- with positions that are counted from before the list
pub stopped_at : (s t : law.State) (items : List Item) (at n : ℕ) (d : Item) (fault moved : LawFault) → n < length items → after s (take n items) ≡ Ok t
    → step t (get_or items n d) ≡ Err fault → (law.fault_place fault ≡ 0 → moved ≡ law.fault_moved (at + n) fault)
    → law.outcome_moved at (after s items) ≡ Err moved
stopped_at s t items at n d fault moved within before now there =
    ap (law.outcome_moved at) (stopped s t items n d fault within before now)
    ∙ ap Err (moved_twice at n fault ∙ sym (there (place_of-step t (get_or items n d) fault now)))
