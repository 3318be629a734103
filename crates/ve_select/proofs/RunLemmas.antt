-- Runs of characters, item by item and piece by piece.
use Rattle.std.specs.Prelude.{slice_get, slice_range}
use Rattle.std.proofs.Common.{◌≡◌, ℕ, zero, suc, ◌+◌, ◌-◌, ◌<◌, ◌≤◌, List, [], ◌∷◌, ◌++◌, length, take, drop, reverse, Some, refl, sym, ap, ◌∙◌, arith, take-add, take-append-drop}
use Rattle.std.proofs.lemmas.List.{reverse-append, reverse-reverse, length-reverse, length-take-le, drop-drop, append_assoc}
use Rattle.std.proofs.lemmas.Grind.{reverse_onto}
use Rattle.model_items.specs.declared.item.Item.{Item}
use Rattle.model_items.specs.declared.item.Item.TheVariants.{Char, Opening, Closing}
use Rattle.ve_select.specs.Runs.{first_chars, chars_back, chars_from}

pub at_place : {A : Type 0} (items : List A) (m : ℕ) (x : A) → slice_get items m ≡ Some x → drop m items ≡ x ∷ drop (suc m) items
at_place [] m x h = cc
at_place (y ∷ items) zero x h = let e : y ≡ x = cc in ap (λ z. z ∷ items) e
at_place (y ∷ items) (suc m) x h = at_place items m x h

-- the item before an offset comes first from there back
back_one : (items : List Item) (m : ℕ) (x : Item) → slice_get items m ≡ Some x → reverse (take (suc m) items) ≡ x ∷ reverse (take m items)
back_one items m x e =
    let one_past : suc m ≡ m + 1 = omega arith in
    ap (λ k. reverse (take k items)) one_past ∙ ap reverse (take-add m 1 items ∙ ap (λ v. take m items ++ take 1 v) (at_place items m x e))
    ∙ reverse-append (take m items) (x ∷ [])

pub chars_before : (items : List Item) (at : ℕ) (x y : Item) → 0 < at → slice_get items (at - 1) ≡ Some x → x ≡ y →
    chars_back items at ≡ first_chars (y ∷ reverse (take (at - 1) items))
chars_before items at x y some found is =
    let e : at ≡ suc (at - 1) = omega (arith, some) in
    ap (chars_back items) e ∙ ap first_chars (back_one items (at - 1) x found) ∙ ap (λ z. first_chars (z ∷ reverse (take (at - 1) items))) is

pub chars_at : (items : List Item) (at : ℕ) (x y : Item) → slice_get items at ≡ Some x → x ≡ y → chars_from items at ≡ first_chars (y ∷ drop (suc at) items)
chars_at items at x y found is = ap first_chars (at_place items at x found) ∙ ap (λ z. first_chars (z ∷ drop (suc at) items)) is

-- where all items of a piece are characters the run goes on after it, and else it ends in it
pub run_on : (xs ys : List Item) → length xs ≤ length (first_chars xs) → first_chars (xs ++ ys) ≡ first_chars xs ++ first_chars ys
run_on [] ys h = refl
run_on (Char ch marks ∷ xs) ys h = ap (λ cs. ch ∷ cs) (run_on xs ys (omega arith))
run_on (Opening kind generated head marks pre origin ∷ xs) ys h = absurd (omega arith)
run_on (Closing kind pre ∷ xs) ys h = absurd (omega arith)

pub run_ends : (xs ys : List Item) → length (first_chars xs) < length xs → first_chars (xs ++ ys) ≡ first_chars xs
run_ends [] ys h = absurd (omega arith)
run_ends (Char ch marks ∷ xs) ys h = ap (λ cs. ch ∷ cs) (run_ends xs ys (omega arith))
run_ends (Opening kind generated head marks pre origin ∷ xs) ys h = refl
run_ends (Closing kind pre ∷ xs) ys h = refl

pub first_chars-within : (xs : List Item) → length (first_chars xs) ≤ length xs
first_chars-within [] = omega arith
first_chars-within (Char ch marks ∷ xs) = let rest = first_chars-within xs in omega arith
first_chars-within (Opening kind generated head marks pre origin ∷ xs) = omega arith
first_chars-within (Closing kind pre ∷ xs) = omega arith

-- a borrowed piece, and what follows
pub piece_first : (items piece : List Item) (at : ℕ) → piece ≡ slice_range items at (at + length piece) → drop at items ≡ piece ++ drop (at + length piece) items
piece_first items piece at e =
    let many : at + length piece - at ≡ length piece = omega arith in
    let here : piece ≡ take (length piece) (drop at items) = e ∙ ap (λ n. take n (drop at items)) many in
    sym (take-append-drop (length piece) (drop at items))
    ∙ ap (λ v. v ++ drop (length piece) (drop at items)) (sym here) ∙ ap (λ v. piece ++ v) (drop-drop (length piece) at items)

-- the run round an offset begins where the run before it does
drop_past : (xs ys : List Item) (n : ℕ) → length xs ≡ n → drop n (xs ++ ys) ≡ ys
drop_past [] ys n e = ap (λ k. drop k ys) (sym e)
drop_past (x ∷ xs) ys zero e = absurd (omega arith)
drop_past (x ∷ xs) ys (suc n) e = drop_past xs ys n (omega arith)

past_reversed : (x : Item) (zs ys : List Item) → first_chars (drop (suc (length zs) - 0) (reverse (x ∷ zs) ++ ys)) ≡ first_chars ys
past_reversed x zs ys =
    let long : length (reverse (x ∷ zs)) ≡ suc (length zs) = length-reverse (x ∷ zs) in
    ap first_chars (drop_past (reverse (x ∷ zs)) ys (suc (length zs) - 0) (omega arith))

round_reversed : (zs ys : List Item) → first_chars (drop (length zs - length (first_chars zs)) (reverse zs ++ ys)) ≡ reverse (first_chars zs) ++ first_chars ys
round_reversed [] ys = refl
round_reversed (Char ch marks ∷ zs) ys =
    let count = suc (length zs) - suc (length (first_chars zs)) in
    let less : count ≡ length zs - length (first_chars zs) = omega arith in
    ap (λ v. first_chars (drop count (v ++ ys))) (reverse_onto zs (Char ch marks) [])
    ∙ ap (λ v. first_chars (drop count v)) (append_assoc (reverse zs) (Char ch marks ∷ []) ys)
    ∙ ap (λ n. first_chars (drop n (reverse zs ++ Char ch marks ∷ ys))) less
    ∙ round_reversed zs (Char ch marks ∷ ys)
    ∙ sym (ap (λ v. v ++ first_chars ys) (reverse_onto (first_chars zs) ch []) ∙ append_assoc (reverse (first_chars zs)) (ch ∷ []) (first_chars ys))
round_reversed (Opening kind generated head marks pre origin ∷ zs) ys = past_reversed (Opening kind generated head marks pre origin) zs ys
round_reversed (Closing kind pre ∷ zs) ys = past_reversed (Closing kind pre) zs ys

pub run_round : (items : List Item) (at : ℕ) → at ≤ length items →
    chars_from items (at - length (chars_back items at)) ≡ reverse (chars_back items at) ++ chars_from items at
run_round items at h =
    let zs = reverse (take at items) in
    let ys = drop at items in
    let count = length (chars_back items at) in
    let whole : reverse zs ++ ys ≡ items = ap (λ v. v ++ ys) (reverse-reverse (take at items)) ∙ take-append-drop at items in
    let long : length zs ≡ at = length-reverse (take at items) ∙ length-take-le at items h in
    ap (λ v. first_chars (drop (at - count) v)) (sym whole)
    ∙ ap (λ n. first_chars (drop (n - count) (reverse zs ++ ys))) (sym long)
    ∙ round_reversed zs ys

pub chars_back-within : (items : List Item) (at : ℕ) → at ≤ length items → length (chars_back items at) ≤ at
chars_back-within items at h =
    let within = first_chars-within (reverse (take at items)) in
    let long = length-reverse (take at items) in
    let taken = length-take-le at items h in
    omega arith
