-- What stands in a block's places after a change. `d` is what stood there, `s` is from where on the items stand, and
-- `ys` is what a part of the places holds after the change.
use Rattle.std.proofs.Common.{◌≡◌, ◌+◌, ◌-◌, ◌≤◌, ℕ, List, [], ◌++◌, length, take, drop, sym, ap, ◌∙◌, append_assoc, arith, length-append, length-drop, length-take, take_at}
use Rattle.std.proofs.lemmas.List.{append-nil, take-append-le, drop-append-le, length-take-le, drop-drop, drop-take, take-take, drop_at, drop_all, take_rest, with_items_is}
use Rattle.std.proofs.Math.Seq.{take-append-add, drop-append-add}
use Rattle.std.specs.Prelude.{Vec}
use Rattle.std.specs.Vec.{with_items}
use borrow.Rule.Slice.PartMut.{put_mid}

-- a change of a part keeps how many places there are
pub length_changed : {A : Type 0} (d ys : List A) (from k : ℕ) → from + k ≤ length d → length ys ≡ k → length (put_mid from k d ys) ≡ length d
length_changed d ys from k within same =
    let rest = drop k (drop from d) in
    omega (arith, within, same, length-append (take from d) (ys ++ rest), length-append ys rest, length-take from d, length-drop k (drop from d), length-drop from d)

-- the items of a Vec whose places were changed
pub items_changed : {A Z : Type 0} (v : Vec A Z) (d ys r : List A) (from k s : ℕ) → d ≡ v.items → from + k ≤ length d → length ys ≡ k → drop s (put_mid from k d ys) ≡ r →
    drop s (with_items v (put_mid from k d ys)).items ≡ r
items_changed v d ys r from k s is within same e =
    let all : length (put_mid from k d ys) ≡ v.len = omega (arith, length_changed d ys from k within same, ap length is, v.ok.0) in
    ap (λ l. drop s l) (with_items_is v (put_mid from k d ys) all) ∙ e

-- the items before those that go moved right over them
pub cut_by_front : {A : Type 0} (d ys x : List A) (s k at many : ℕ) → drop s d ≡ x → s ≤ length d → k ≡ at + many → at + many ≤ length x →
    ys ≡ drop (length (take k (drop s d)) - many) (take k (drop s d)) ++ take (length (take k (drop s d)) - many) (take k (drop s d)) →
    drop (s + many) (put_mid s k d ys) ≡ take at x ++ drop (at + many) x
cut_by_front d ys x s k at many e among ek within y =
    let m = take (at + many) x in
    let gone = take many (drop at x) in
    let part : take k (drop s d) ≡ m = ap (λ n. take n (drop s d)) ek ∙ ap (λ l. take (at + many) l) e in
    let size : length m - many ≡ at = omega (arith, length-take (at + many) x, within) in
    let turned : ys ≡ gone ++ take at x =
    y ∙ ap (λ l. drop (length l - many) l ++ take (length l - many) l) part ∙ ap (λ n. drop n m ++ take n m) size
    ∙ ap (λ l. l ++ take at m) (drop-take at many x)
    ∙ ap (λ l. gone ++ l) (take-take at (at + many) x (omega arith)) in
    let rest : drop k (drop s d) ≡ drop (at + many) x = ap (λ n. drop n (drop s d)) ek ∙ ap (λ l. drop (at + many) l) e in
    let place : s + many ≡ length (take s d) + many = omega (arith, length-take-le s d among) in
    let many_gone : length gone ≡ many = omega (arith, length-take many (drop at x), length-drop at x, within) in
    ap (λ n. drop n (put_mid s k d ys)) place
    ∙ drop-append-add (take s d) (ys ++ drop k (drop s d)) many
    ∙ ap (λ l. drop many (l ++ drop k (drop s d))) turned
    ∙ ap (λ l. drop many ((gone ++ take at x) ++ l)) rest
    ∙ ap (λ l. drop many l) (append_assoc gone (take at x) (drop (at + many) x))
    ∙ drop_at gone (take at x ++ drop (at + many) x) many many_gone

-- the items after those that go moved left over them
pub cut_by_end : {A : Type 0} (d ys x : List A) (s from k at many : ℕ) → drop s d ≡ x → s ≤ length d → from ≡ s + at → k ≡ length d - from → at + many ≤ length x →
    ys ≡ drop many (take k (drop from d)) ++ take many (take k (drop from d)) →
    drop s (take (length d - many) (put_mid from k d ys)) ≡ take at x ++ drop (at + many) x
cut_by_end d ys x s from k at many e among ef ek within y =
    let z = drop at x in
    let long = length-drop s d in
    let same = ap length e in
    let tail : drop from d ≡ z = ap (λ n. drop n d) ef ∙ sym (drop-drop at s d) ∙ ap (λ l. drop at l) e in
    let part : take k (drop from d) ≡ z = ap (λ n. take n (drop from d)) ek ∙ take_rest d from ∙ tail in
    let turned : ys ≡ drop many z ++ take many z = y ∙ ap (λ l. drop many l ++ take many l) part in
    let rest = drop k (drop from d) in
    let left : length (drop many z) ≡ length x - (at + many) = omega (arith, length-drop many z, length-drop at x) in
    let inside : from ≤ length d = omega (arith, long, same, within, among, ef) in
    let place : length d - many ≡ length (take from d) + (length x - (at + many)) = omega (arith, length-take-le from d inside, long, same, within, among, ef) in
    let below : s ≤ length (take from d) = omega (arith, length-take-le from d inside, ef) in
    ap (λ n. drop s (take n (put_mid from k d ys))) place
    ∙ ap (λ l. drop s l) (take-append-add (take from d) (ys ++ rest) (length x - (at + many)))
    ∙ ap (λ l. drop s (take from d ++ take (length x - (at + many)) (l ++ rest))) turned
    ∙ ap (λ l. drop s (take from d ++ take (length x - (at + many)) l)) (append_assoc (drop many z) (take many z) rest)
    ∙ ap (λ l. drop s (take from d ++ l)) (take_at (drop many z) (take many z ++ rest) (length x - (at + many)) left)
    ∙ drop-append-le s (take from d) (drop many z) below
    ∙ ap (λ n. drop s (take n d) ++ drop many z) ef
    ∙ ap (λ l. l ++ drop many z) (drop-take s at d)
    ∙ ap (λ l. take at l ++ drop many z) e
    ∙ ap (λ l. take at x ++ l) (drop-drop many at x)

-- the items before the place moved left, and new ones after them
pub put_by_front : {A : Type 0} (d ys x items : List A) (s from k at : ℕ) → drop s d ≡ x → s ≤ length d → from + length items ≡ s → k ≡ length items + at → at ≤ length x →
    ys ≡ drop (length items) (take k (drop from d)) ++ items →
    drop from (put_mid from k d ys) ≡ take at x ++ items ++ drop at x
put_by_front d ys x items s from k at e among ef ek within y =
    let n = length items in
    let behind : drop n (drop from d) ≡ x = drop-drop n from d ∙ ap (λ n. drop n d) ef ∙ e in
    let moved : ys ≡ take at x ++ items =
    y ∙ ap (λ m. drop n (take m (drop from d)) ++ items) ek ∙ ap (λ l. l ++ items) (drop-take n at (drop from d)) ∙ ap (λ l. take at l ++ items) behind in
    let rest : drop k (drop from d) ≡ drop at x = ap (λ m. drop m (drop from d)) ek ∙ sym (drop-drop at n (drop from d)) ∙ ap (λ l. drop at l) behind in
    drop_at (take from d) (ys ++ drop k (drop from d)) from (length-take-le from d (omega (arith, ef, among)))
    ∙ ap (λ l. l ++ drop k (drop from d)) moved
    ∙ ap (λ l. (take at x ++ items) ++ l) rest

-- new items turned from the end to their place
pub put_from_end : {A : Type 0} (d ys x items : List A) (s from k at : ℕ) → drop s d ≡ x ++ items → s ≤ length d → from ≡ s + at → k ≡ length d - from → at ≤ length x →
    ys ≡ drop (length (take k (drop from d)) - length items) (take k (drop from d)) ++ take (length (take k (drop from d)) - length items) (take k (drop from d)) →
    drop s (put_mid from k d ys) ≡ take at x ++ items ++ drop at x
put_from_end d ys x items s from k at e among ef ek within y =
    let n = length items in
    let z = drop at x in
    let long = length-drop s d in
    let same = ap length e in
    let both = length-append x items in
    let tail : drop from d ≡ z ++ items = ap (λ n. drop n d) ef ∙ sym (drop-drop at s d) ∙ ap (λ l. drop at l) e ∙ drop-append-le at x items within in
    let part : take k (drop from d) ≡ z ++ items = ap (λ n. take n (drop from d)) ek ∙ take_rest d from ∙ tail in
    let size : length z ≡ length (z ++ items) - n = omega (arith, length-append z items) in
    let turned : ys ≡ items ++ z =
    y ∙ ap (λ l. drop (length l - n) l ++ take (length l - n) l) part
    ∙ ap (λ l. l ++ take (length (z ++ items) - n) (z ++ items)) (drop_at z items (length (z ++ items) - n) size)
    ∙ ap (λ l. items ++ l) (take_at z items (length (z ++ items) - n) size) in
    let none : drop k (drop from d) ≡ [] = drop_all k (drop from d) (omega (arith, length-drop from d, ek)) in
    let inside : from ≤ length d = omega (arith, long, same, both, within, among, ef) in
    let below : s ≤ length (take from d) = omega (arith, length-take-le from d inside, ef) in
    drop-append-le s (take from d) (ys ++ drop k (drop from d)) below
    ∙ ap (λ n. drop s (take n d) ++ (ys ++ drop k (drop from d))) ef
    ∙ ap (λ l. l ++ (ys ++ drop k (drop from d))) (drop-take s at d ∙ ap (λ l. take at l) e ∙ take-append-le at x items within)
    ∙ ap (λ l. take at x ++ (ys ++ l)) none
    ∙ ap (λ l. take at x ++ l) (append-nil ys ∙ turned)
    ∙ sym (append_assoc (take at x) items z)
