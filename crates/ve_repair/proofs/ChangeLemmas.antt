-- The result of a transaction on a list, as a walk over its operations reads it.
use Rattle.std.proofs.Common.{◌≡◌, ℕ, suc, ◌+◌, ◌-◌, ◌<◌, ◌≤◌, ◌^◌, Bool, true, false, ◌&&◌, if◌then◌else◌, nat_lt, not, inl, inr, List, [], ◌∷◌, ◌++◌, length, get_or, take, drop, map, slice_range, slice_get, Some, Result, Ok, Err, refl, sym, ap, ◌∙◌, subst, arith, take-append-drop, drop-cons, length-take-le}
use Rattle.std.specs.Prelude.{OnOk, IfErr}
use Rattle.std.proofs.Math.Seq.{take-add, drop-append_seam}
use Rattle.std.proofs.lemmas.Bool.{leb-true}
use Rattle.std.proofs.lemmas.Option.{same_Some}
use Rattle.std.proofs.lemmas.List.{map-append, length-map, take-map, drop-map, drop-drop, drop-take, length-drop, length-append, drop_all, take-take, take_all}
use Rattle.ve_kinds.specs.declared.kind.Kind.{Kind}
use Rattle.ve_kinds.specs.Table.{kind_same, is_content_branch}
use Rattle.ve_base.specs.declared.value.Value.{Value}
use Rattle.model_items.specs.declared.item.Item.{Item}
use Rattle.model_items.specs.declared.item.Item.TheVariants as item
use Rattle.model_items.specs.declared.plain_item.PlainItem.{PlainItem}
use Rattle.model_items.specs.declared.plain_item.PlainItem.TheVariants.{Char, Opening, Closing}
use Rattle.model_items.specs.declared.law_fault.LawFault.{LawFault}
use Rattle.model_items.specs.declared.law_fault.LawFault.TheVariants.{Unlawful, TooDeep}
use Rattle.model_items.specs.Plain.{plain, plain_list}
use Rattle.model_items.specs.Tree.{shape_of}
use Rattle.model_items.specs.Law.{State, start, finish, top, may_open, state_opened, state_closed, step, fault_place, fault_moved, outcome_moved, outcome_then, verdict_at, verdict, Lawful}
use Rattle.model_items.specs.Law as law
use Rattle.model_items.proofs.LawLemmas.{after_whole, after_parts, Ok-same, piece_fails}
use Rattle.model_change.specs.Attributes.{AttrChange, item_changed}
use Rattle.model_change.specs.Transaction.{old_length, on_first, edited}
use Rattle.model_change.proofs.Fits.{parts_of_Applies}
use Rattle.ve_lawful.specs.Uncited.{after}
use Rattle.ve_lawful.specs.Uncited as uncited
use Rattle.ve_tree.proofs.FitsLemmas.{same_or_not}
use Rattle.ve_lawful.proofs.WalkLemmas.{walked_on, walk_fails}
use Rattle.ve_offsets.proofs.ShapeLemmas.{after_by, after-shapes}
use Rattle.ve_tx.specs.Operation.{Operation, Retain, Replace, Attribute, bare, by_value, IsNormal}
use Rattle.ve_tx.specs.declared.op.Op.{Op}
use Rattle.ve_tx.specs.declared.op.Op.TheVariants as op
use Rattle.ve_tx.specs.Normal.{are_reduced, are_normal, total_size}
use Rattle.ve_tx.specs.Checked.{old_size}
use Rattle.ve_tx.proofs.NormalLemmas.{normal-bare}
use Rattle.ve_repair.specs.Change.{CanApply, new_list, piece_of, items_taken, items_made, pieces}

-- shapes
shape-plain : (values others : List Value) (x : Item) → shape_of (plain values x) ≡ shape_of (plain others x)
shape-plain values others (item.Char ch marks) = refl
shape-plain values others (item.Opening kind generated head marks pre origin) = refl
shape-plain values others (item.Closing kind pre) = refl

pub shapes-plain : (values others : List Value) (items : List Item) → map shape_of (plain_list values items) ≡ map shape_of (plain_list others items)
shapes-plain values others [] = refl
shapes-plain values others (x ∷ items) = λ i. shape-plain values others x i ∷ shapes-plain values others items i

shape-changed : (c : AttrChange) (x : PlainItem) → shape_of (item_changed c x) ≡ shape_of x
shape-changed c (Char ch marks) = refl
shape-changed c (Opening kind head marks pre origin generated) = refl
shape-changed c (Closing kind pre) = refl

first-shapes : (c : AttrChange) (xs : List PlainItem) → map shape_of (on_first (item_changed c) xs) ≡ map shape_of xs
first-shapes c [] = refl
first-shapes c (x ∷ xs) = ap (λ s. s ∷ map shape_of xs) (shape-changed c x)

take-shapes : (n : ℕ) (xs ys : List PlainItem) → map shape_of xs ≡ map shape_of ys → map shape_of (take n xs) ≡ map shape_of (take n ys)
take-shapes n xs ys h = sym (take-map shape_of n xs) ∙ ap (take n) h ∙ take-map shape_of n ys

drop-shapes : (n : ℕ) (xs ys : List PlainItem) → map shape_of xs ≡ map shape_of ys → map shape_of (drop n xs) ≡ map shape_of (drop n ys)
drop-shapes n xs ys h = sym (drop-map shape_of n xs) ∙ ap (drop n) h ∙ drop-map shape_of n ys

append-shapes : (xs ys us vs : List PlainItem) → map shape_of xs ≡ map shape_of us → map shape_of ys ≡ map shape_of vs → map shape_of (xs ++ ys) ≡ map shape_of (us ++ vs)
append-shapes xs ys us vs h g = map-append shape_of xs ys ∙ (λ i. h i ++ g i) ∙ sym (map-append shape_of us vs)

plain-append : (xs ys : List Item) → plain_list [] (xs ++ ys) ≡ plain_list [] xs ++ plain_list [] ys
plain-append xs ys = map-append (plain []) xs ys

-- the new list and the pieces have the same shapes
pub edited-shapes : (values : List Value) (tx : List Operation) (xs : List PlainItem) (items : List Item) → map shape_of xs ≡ map shape_of (plain_list [] items) →
    map shape_of (edited (by_value values tx) xs) ≡ map shape_of (plain_list [] (pieces (map bare tx) items))
edited-shapes values [] xs items h = h
edited-shapes values (Retain n ∷ tx) xs items h =
    append-shapes (take n xs) (edited (by_value values tx) (drop n xs)) (plain_list [] (take n items)) (plain_list [] (pieces (map bare tx) (drop n items)))
    (take-shapes n xs (plain_list [] items) h ∙ ap (map shape_of) (take-map (plain []) n items))
    (edited-shapes values tx (drop n xs) (drop n items) (drop-shapes n xs (plain_list [] items) h ∙ ap (map shape_of) (drop-map (plain []) n items)))
    ∙ ap (map shape_of) (sym (plain-append (take n items) (pieces (map bare tx) (drop n items))))
edited-shapes values (Replace removed inserted ∷ tx) xs items h =
    ap (λ n. map shape_of (plain_list values inserted ++ edited (by_value values tx) (drop n xs))) (length-map removed (plain values))
    ∙ append-shapes (plain_list values inserted) (edited (by_value values tx) (drop (length removed) xs)) (plain_list [] inserted) (plain_list [] (pieces (map bare tx) (drop (length removed) items)))
    (shapes-plain values [] inserted)
    (edited-shapes values tx (drop (length removed) xs) (drop (length removed) items)
    (drop-shapes (length removed) xs (plain_list [] items) h ∙ ap (map shape_of) (drop-map (plain []) (length removed) items)))
    ∙ ap (map shape_of) (sym (plain-append inserted (pieces (map bare tx) (drop (length removed) items))))
edited-shapes values (Attribute change ∷ tx) xs items h =
    edited-shapes values tx (on_first (item_changed change) xs) items (first-shapes change xs ∙ h)

-- the law reads shapes
pub verdict-shapes : (xs ys : List PlainItem) → map shape_of xs ≡ map shape_of ys → verdict xs ≡ verdict ys
verdict-shapes xs ys h =
    λ i. verdict_at (long i) (walked i)
  where
    long : length xs ≡ length ys
    long = sym (length-map xs shape_of) ∙ ap length h ∙ length-map ys shape_of

    walked : law.after start xs ≡ law.after start ys
    walked = after-shapes xs start ∙ ap (after_by start) h ∙ sym (after-shapes ys start)

pub verdict-new : (values : List Value) (tx : List Operation) (ops : List Op) (items : List Item) → ops ≡ map bare tx → verdict (new_list values tx items) ≡ uncited.verdict (pieces ops items)
verdict-new values tx ops items e =
    verdict-shapes (new_list values tx items) (plain_list [] (pieces (map bare tx) items)) (edited-shapes values tx (plain_list values items) items (shapes-plain values [] items))
    ∙ ap (λ o. uncited.verdict (pieces o items)) (sym e)

-- an offence lies inside what is gone through
abbrev AtOnce : Result State LawFault → Type 0
AtOnce r = (f : LawFault) → r ≡ Err f → fault_place f ≡ 0

err_at_once : (e : LawFault) → fault_place e ≡ 0 → AtOnce (Err e)
err_at_once e p f h = let same : e ≡ f = cc in ap fault_place (sym same) ∙ p

ok_at_once : (s : State) → AtOnce (Ok s)
ok_at_once s f h = cc

if_at_once : (b : Bool) (r q : Result State LawFault) → AtOnce r → AtOnce q → AtOnce (if b then r else q)
if_at_once true r q p p' = p
if_at_once false r q p p' = p'

closed_at_once : (stack : List Kind) (seen : Bool) (k : Kind) → AtOnce (state_closed stack seen k)
closed_at_once [] seen k = err_at_once (Unlawful 0) refl
closed_at_once (inner ∷ outer) seen k = if_at_once (kind_same inner k) _ _ (ok_at_once _) (err_at_once (Unlawful 0) refl)

step_at_once : (s : State) (x : PlainItem) → AtOnce (step s x)
step_at_once s (Char c marks) = if_at_once (is_content_branch (top s.stack)) _ _ (ok_at_once s) (err_at_once (Unlawful 0) refl)
step_at_once s (Opening kind head marks pre origin generated) =
    if_at_once (may_open s kind) _ _ (if_at_once (nat_lt (length s.stack) 100) _ _ (ok_at_once _) (err_at_once (TooDeep 0) refl)) (err_at_once (Unlawful 0) refl)
step_at_once s (Closing kind pre) = closed_at_once s.stack s.seen kind

place-moved : (n : ℕ) (f : LawFault) → fault_place (fault_moved n f) ≡ n + fault_place f
place-moved n (Unlawful at) = refl
place-moved n (TooDeep at) = refl

fails_within : (xs : List PlainItem) (s : State) (f : LawFault) → law.after s xs ≡ Err f → fault_place f < length xs
fails_within [] s f h = cc
fails_within (x ∷ xs) s f h = go (step s x) refl h (fails_within xs)
  where
    inner : (r : Result State LawFault) → outcome_moved 1 r ≡ Err f → (g : LawFault) × (r ≡ Err g) × (fault_moved 1 g ≡ f)
    inner (Ok t) e = cc
    inner (Err g) e = let same : fault_moved 1 g ≡ f = cc in (g, refl, same)

    go : (r : Result State LawFault) → step s x ≡ r → outcome_then 1 r (λ next. law.after next xs) ≡ Err f → ((t : State) (g : LawFault) → law.after t xs ≡ Err g → fault_place g < length xs) →
        fault_place f < length (x ∷ xs)
    go (Err g) e h rec = let same : g ≡ f = cc in let at = step_at_once s x g e in let here = ap fault_place same in omega (arith, at, here)
    go (Ok t) e h rec =
        let p = inner (law.after t xs) h in
        let rest = rec t p.0 p.1 in
        let moved = place-moved 1 p.0 in
        let here = ap fault_place p.2 in
        omega (arith, rest, moved, here)

pub fails_inside : (items : List Item) (s : State) (f : LawFault) → after s items ≡ Err f → fault_place f < length items
fails_inside items s f h =
    let within = fails_within (plain_list [] items) s f h in
    let long = length-map items (plain []) in
    omega (arith, within, long)

-- a range, as it is borrowed
pub lent_piece : (items piece : List Item) (at count done n : ℕ) → done + n ≤ count → piece ≡ slice_range items (at + done) (at + done + n) →
    piece ≡ slice_range (take count (drop at items)) done (done + n)
lent_piece items piece at count done n h lent =
    lent
    ∙ ap (λ k. take k (drop (at + done) items)) (let e : at + done + n - (at + done) ≡ n = omega arith in e)
    ∙ sym (ap (λ k. take k (drop done (take count (drop at items)))) (let e : done + n - done ≡ n = omega arith in e)
    ∙ ap (take n) (ap (λ k. drop done (take k (drop at items))) whole ∙ drop-take done (count - done) (drop at items))
    ∙ take-take n (count - done) (drop done (drop at items)) (omega (arith, h))
    ∙ ap (take n) (drop-drop done at items))
  where
    whole : count ≡ done + (count - done)
    whole = omega (arith, h)

-- the walk
pub record Walk (items : List Item) (ops : List Op) (k at new_at : ℕ) (state : State) : Type 0 where
  pub behind : drop new_at (pieces ops items) ≡ pieces (drop k ops) (drop at items)
  pub within : new_at ≤ length (pieces ops items)
  pub before : after start (take new_at (pieces ops items)) ≡ Ok state
  pub old : at + old_size (drop k ops) ≡ length items
  pub room : new_at + total_size (drop k ops) ≤ 2 ^ 60
  pub small : length items ≤ 2 ^ 60

old-cons : (o : Op) (ops : List Op) → old_size (o ∷ ops) ≡ items_taken o + old_size ops
old-cons (op.Retain count) ops = refl
old-cons (op.Replace removed inserted) ops = refl
old-cons (op.Attribute name from to) ops = omega arith

new-cons : (o : Op) (ops : List Op) → items_made o + total_size ops ≤ total_size (o ∷ ops)
new-cons (op.Retain count) ops = omega arith
new-cons (op.Replace removed inserted) ops = omega arith
new-cons (op.Attribute name from to) ops = omega arith

old-bare : (values : List Value) (tx : List Operation) → old_length (by_value values tx) ≡ old_size (map bare tx)
old-bare values [] = refl
old-bare values (Retain n ∷ tx) = ap (λ m. n + m) (old-bare values tx)
old-bare values (Replace removed inserted ∷ tx) = λ i. length-map removed (plain values) i + old-bare values tx i
old-bare values (Attribute change ∷ tx) = old-bare values tx

both_right : (a b : Bool) → (a && b) ≡ true → b ≡ true
both_right true b h = h
both_right false b h = cc

pub sizes_within : (tx : List Operation) (ops : List Op) → ops ≡ map bare tx → IsNormal tx → total_size ops ≤ 2 ^ 60
sizes_within tx ops e h =
    leb-true (total_size ops) (2 ^ 60) (both_right (are_reduced ops) _ (ap are_normal e ∙ sym (normal-bare [] tx) ∙ h []))

pub old_is : (tx : List Operation) (items : List Item) (ops : List Op) → ops ≡ map bare tx → CanApply tx items → old_size ops ≡ length items
old_is tx items ops e can =
    ap old_size e ∙ sym (old-bare can.values tx) ∙ (parts_of_Applies (by_value can.values tx) (plain_list can.values items) can.applies).0 ∙ length-map items (plain can.values)

pub old_in_total : (ops : List Op) → old_size ops ≤ total_size ops
old_in_total [] = omega arith
old_in_total (op.Retain count ∷ ops) = let r = old_in_total ops in omega (arith, r)
old_in_total (op.Replace removed inserted ∷ ops) = let r = old_in_total ops in omega (arith, r)
old_in_total (op.Attribute name from to ∷ ops) = let r = old_in_total ops in omega (arith, r)

pub walk_start : (items : List Item) (ops : List Op) → old_size ops ≡ length items → total_size ops ≤ 2 ^ 60 → Walk items ops 0 0 0 start
walk_start items ops old room =
    let small : length items ≤ 2 ^ 60 = let t = old_in_total ops in omega (arith, t, old, room) in
    record { behind = refl; within = omega arith; before = refl; old = omega (arith, old); room = omega (arith, room); small = small }

-- what an operation puts is as long as it says
piece-length : (o : Op) (items : List Item) → items_taken o ≤ length items → length (piece_of o items) ≡ items_made o
piece-length (op.Retain count) items h = length-take-le count items h
piece-length (op.Replace removed inserted) items h = refl
piece-length (op.Attribute name from to) items h = refl

-- an operation, and the parts of the new list round what it puts
pub record Parts (items : List Item) (ops : List Op) (k at new_at : ℕ) (o : Op) : Type 0 where
  pub ops_are : drop k ops ≡ o ∷ drop (suc k) ops
  pub fits : at + items_taken o ≤ length items
  pub long : length (piece_of o (drop at items)) ≡ items_made o
  pub list : pieces ops items ≡ take new_at (pieces ops items) ++ (piece_of o (drop at items) ++ pieces (drop (suc k) ops) (drop (at + items_taken o) items))

pub parts : (items : List Item) (ops : List Op) (k at new_at : ℕ) (state : State) (o : Op) → k < length ops → o ≡ get_or ops k o → Walk items ops k at new_at state → Parts items ops k at new_at o
parts items ops k at new_at state o within is w = record {
  ops_are = ops_are;
  fits = fits;
  long = piece-length o (drop at items) (let d = length-drop at items in omega (arith, d, fits));
  list = sym (take-append-drop new_at (pieces ops items))
      ∙ ap (λ l. take new_at (pieces ops items) ++ l)
      (w.behind ∙ ap (λ l. pieces l (drop at items)) ops_are
      ∙ ap (λ l. piece_of o (drop at items) ++ pieces (drop (suc k) ops) l) (drop-drop (items_taken o) at items));
}
  where
    ops_are : drop k ops ≡ o ∷ drop (suc k) ops
    ops_are = drop-cons ops k o within ∙ ap (λ x. x ∷ drop (suc k) ops) (sym is)

    fits : at + items_taken o ≤ length items
    fits = let old = w.old in let cons = ap old_size ops_are ∙ old-cons o (drop (suc k) ops) in omega (arith, old, cons)

pub walk_on : (items : List Item) (ops : List Op) (k at new_at : ℕ) (state next : State) (o : Op) → k < length ops → o ≡ get_or ops k o → Walk items ops k at new_at state →
    after state (piece_of o (drop at items)) ≡ Ok next → Walk items ops (k + 1) (at + items_taken o) (new_at + items_made o) next
walk_on items ops k at new_at state next o within is w went =
    subst (λ m. Walk items ops m (at + items_taken o) (new_at + items_made o) next) (let e : suc k ≡ k + 1 = omega arith in e) (record {
      behind = sym (drop-drop (items_made o) new_at E) ∙ ap (drop (items_made o)) behind ∙ ap (λ n. drop n (P ++ R)) (sym p.long) ∙ drop-append_seam P R;
      within = let all = ap length behind ∙ length-append P R in let d = length-drop new_at E in let l = p.long in omega (arith, all, d, l, w.within);
      before =
          ap (λ l. law.after start (plain_list [] l))
          (take-add new_at (items_made o) E ∙ ap (λ l. take new_at E ++ l) (ap (take (items_made o)) behind ∙ ap (λ n. take n (P ++ R)) (sym p.long) ∙ take_seam P R))
          ∙ ap (law.after start) (plain-append (take new_at E) P)
          ∙ after_whole (plain_list [] (take new_at E)) (plain_list [] P) start state next w.before went;
      old = let old = w.old in let cons = ap old_size p.ops_are ∙ old-cons o (drop (suc k) ops) in omega (arith, old, cons);
      room = let room = w.room in let cons = ap total_size p.ops_are in let n = new-cons o (drop (suc k) ops) in omega (arith, room, cons, n);
      small = w.small;
    })
  where
    p : Parts items ops k at new_at o
    p = parts items ops k at new_at state o within is w

    E : List Item
    E = pieces ops items

    P : List Item
    P = piece_of o (drop at items)

    R : List Item
    R = pieces (drop (suc k) ops) (drop (at + items_taken o) items)

    behind : drop new_at E ≡ P ++ R
    behind = w.behind ∙ ap (λ l. pieces l (drop at items)) p.ops_are
        ∙ ap (λ l. P ++ pieces (drop (suc k) ops) l) (drop-drop (items_taken o) at items)

    take_seam : (xs ys : List Item) → take (length xs) (xs ++ ys) ≡ xs
    take_seam [] ys = refl
    take_seam (x ∷ xs) ys = ap (λ l. x ∷ l) (take_seam xs ys)

pub walk_stops : (items : List Item) (ops : List Op) (k at new_at : ℕ) (state : State) (o : Op) (fault : LawFault) → k < length ops → o ≡ get_or ops k o → Walk items ops k at new_at state →
    after state (piece_of o (drop at items)) ≡ Err fault → uncited.verdict (pieces ops items) ≡ Some (fault_moved new_at fault)
walk_stops items ops k at new_at state o fault within is w fails =
    ap uncited.verdict p.list
    ∙ ap verdict (plain-append A (P ++ R) ∙ ap (λ l. plain_list [] A ++ l) (plain-append P R))
    ∙ piece_fails (plain_list [] A) (plain_list [] P) (plain_list [] R) state fault w.before fails
    ∙ ap (λ n. Some (fault_moved n fault)) (length-map A (plain []) ∙ length-take-le new_at (pieces ops items) w.within)
  where
    p : Parts items ops k at new_at o
    p = parts items ops k at new_at state o within is w

    A : List Item
    A = take new_at (pieces ops items)

    P : List Item
    P = piece_of o (drop at items)

    R : List Item
    R = pieces (drop (suc k) ops) (drop (at + items_taken o) items)

pub walk_end : (items : List Item) (ops : List Op) (k at new_at : ℕ) (state : State) → length ops ≤ k → Walk items ops k at new_at state →
    uncited.verdict (pieces ops items) ≡ verdict_at new_at (Ok state)
walk_end items ops k at new_at state done w =
    λ i. verdict_at (long i) (walked i)
  where
    E : List Item
    E = pieces ops items

    none : drop k ops ≡ []
    none = drop_all k ops done

    at_end : length items ≤ at
    at_end = let old = w.old in let zero_left = ap old_size none in omega (arith, old, zero_left)

    empty : drop new_at E ≡ []
    empty = w.behind ∙ ap (λ l. pieces l (drop at items)) none ∙ drop_all at items at_end

    whole : length E ≡ new_at
    whole = let d = length-drop new_at E in let z = ap length empty in omega (arith, d, z, w.within)

    long : length (plain_list [] E) ≡ new_at
    long = length-map E (plain []) ∙ whole

    walked : law.after start (plain_list [] E) ≡ Ok state
    walked = ap (λ l. law.after start (plain_list [] l)) (sym (take_all new_at E (let h = whole in omega (arith, h)))) ∙ w.before

-- what stays, from the old list's state on
pub retained_same : (items : List Item) (at count : ℕ) (s t : State) → after start (take at items) ≡ Ok s → after start (take (at + count) items) ≡ Ok t →
    after s (take count (drop at items)) ≡ Ok t
retained_same items at count s t p q =
    let split : take (at + count) items ≡ take at items ++ take count (drop at items) = take-add at count items in
    let whole : law.after start (plain_list [] (take at items) ++ plain_list [] (take count (drop at items))) ≡ Ok t =
    ap (law.after start) (sym (plain-append (take at items) (take count (drop at items))) ∙ ap (plain_list []) (sym split)) ∙ q in
    let cut = after_parts (plain_list [] (take at items)) (plain_list [] (take count (drop at items))) start t whole in
    let same : s ≡ cut.0 = Ok-same {E = LawFault} s cut.0 (sym p ∙ cut.1) in
    ap (λ u. law.after u (plain_list [] (take count (drop at items)))) same ∙ cut.2

-- two stacks alike position by position
pub same_stacks : (xs ys : List Kind) → length xs ≡ length ys → ((n : ℕ) → n < length xs → slice_get xs n ≡ slice_get ys n) → xs ≡ ys
same_stacks [] [] l h = refl
same_stacks [] (y ∷ ys) l h = absurd (omega (arith, l))
same_stacks (x ∷ xs) [] l h = absurd (omega (arith, l))
same_stacks (x ∷ xs) (y ∷ ys) l h =
    let one : Some x ≡ Some y = h 0 (omega arith) in
    λ i. same_Some x y one i ∷ same_stacks xs ys (omega (arith, l)) (λ n m. h (suc n) (omega (arith, m))) i

pub same_states : (s t : State) → s.stack ≡ t.stack → s.seen ≡ t.seen → s ≡ t
same_states s t e f = λ i. record { stack = e i; seen = f i }

-- alike in all that is asked of them
pub alike : (s t : State) (d e n : ℕ) → d ≡ length s.stack → e ≡ length t.stack → d ≡ e → d ≤ n → ((m : ℕ) → m < n → slice_get s.stack m ≡ slice_get t.stack m) → s.seen ≡ t.seen → s ≡ t
alike s t d e n ds et de dn h seen =
    same_states s t (same_stacks s.stack t.stack (sym ds ∙ de ∙ et) (λ m l. h m (omega (arith, l, ds, dn)))) seen

pub one_more_alike : (xs ys : List Kind) (n : ℕ) (k l : Kind) → slice_get xs n ≡ Some k → slice_get ys n ≡ Some l → k ≡ l → ((m : ℕ) → m < n → slice_get xs m ≡ slice_get ys m) →
    (m : ℕ) → m < n + 1 → slice_get xs m ≡ slice_get ys m
one_more_alike xs ys n k l hx hy e h m less =
    elim (same_or_not m n) [
      | inl same ↦ ap (slice_get xs) same ∙ hx ∙ ap (λ (x : Kind). Some x) e ∙ sym hy ∙ ap (slice_get ys) (sym same)
      | inr ne ↦ h m (omega (arith, less, ne))
    ]

pub not_seen : (b : Bool) → not b ≡ true → b ≡ false
not_seen true h = cc
not_seen false h = refl

-- a piece of a range
pub range_on : (items piece : List Item) (at count done : ℕ) (s t u : State) → at + done + length piece ≤ at + count → piece ≡ slice_range items (at + done) (at + done + length piece) →
    after s (take done (take count (drop at items))) ≡ Ok t → after t piece ≡ Ok u → after s (take (done + length piece) (take count (drop at items))) ≡ Ok u
range_on items piece at count done s t u within lent before now =
    walked_on s t u (take count (drop at items)) piece done (length piece) (lent_piece items piece at count done (length piece) (omega (arith, within)) lent) before now

pub range_fails : (items piece : List Item) (at count done : ℕ) (s t : State) (fault moved : LawFault) → at + count ≤ length items → at + done + length piece ≤ at + count →
    piece ≡ slice_range items (at + done) (at + done + length piece) → after s (take done (take count (drop at items))) ≡ Ok t → after t piece ≡ Err fault → moved ≡ fault_moved done fault →
    after s (take count (drop at items)) ≡ Err moved
range_fails items piece at count done s t fault moved whole within lent before now e =
    walk_fails s t (take count (drop at items)) piece done (length piece) moved
    (let d = length-drop at items in let l = length-take-le count (drop at items) (omega (arith, d, whole)) in omega (arith, l, within))
    (lent_piece items piece at count done (length piece) (omega (arith, within)) lent) before
    (ap (outcome_moved done) now ∙ ap (λ (f : LawFault). Err f) (sym e))

pub stop_fits : (items : List Item) (ops : List Op) (k at new_at : ℕ) (state : State) (o : Op) (fault : LawFault) → k < length ops → o ≡ get_or ops k o → Walk items ops k at new_at state →
    after state (piece_of o (drop at items)) ≡ Err fault → new_at + fault_place fault < 2 ^ 64
stop_fits items ops k at new_at state o fault within is w fails =
    let p = parts items ops k at new_at state o within is w in
    let inside = fails_inside (piece_of o (drop at items)) state fault fails in
    let long = p.long in
    let room = w.room in
    let cons = ap total_size p.ops_are in
    let n = new-cons o (drop (suc k) ops) in
    omega (arith, inside, long, room, cons, n)

-- what an answer says, one thing for another
pub on_ok : {A E : Type 0} (r : Result A E) (P Q : Type 0) → (P → Q) → OnOk r P → OnOk r Q
on_ok (Ok x) P Q f h = f h
on_ok (Err e) P Q f h = h

pub if_err : {A E : Type 0} (r : Result A E) (P Q : E → Type 0) → ((e : E) → P e → Q e) → IfErr r P → IfErr r Q
if_err (Ok x) P Q f h = h
if_err (Err e) P Q f h = f e h
