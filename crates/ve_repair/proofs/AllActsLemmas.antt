-- The acts on all items of a list, in three parts.
use Rattle.std.proofs.Common.{◌≡◌, ℕ, zero, suc, ◌+◌, List, [], ◌∷◌, ◌++◌, length, replicate, refl, ap, ◌∙◌, arith}
use Rattle.model_items.specs.Tree.{Shape, Letter, Begin, End}
use Rattle.ve_repair.specs.Spelled.{Sign, BeginOf, LettersOf, EndOf, sign_shapes}
use Rattle.ve_repair.specs.Sizes.{place_after}
use Rattle.ve_repair.specs.Acts.{Act, Stay, Go, ComeLetter, ComeBegin, ComeEnd, Use, new_piece}
use Rattle.ve_repair.specs.Courses.{old_count}
use Rattle.ve_repair.specs.Moved.{all_acts}

-- acts of a part, and then others
part_joins : (acts more : List Act) (xs ys : List Shape) → old_count acts ≡ length xs → new_piece (acts ++ more) (xs ++ ys) ≡ new_piece acts xs ++ new_piece more ys
part_joins [] more [] ys e = refl
part_joins [] more (x ∷ xs) ys e = absurd (omega (arith, e))
part_joins (Stay ∷ acts) more [] ys e = absurd (omega (arith, e))
part_joins (Stay ∷ acts) more (x ∷ xs) ys e = ap (λ l. x ∷ l) (part_joins acts more xs ys (omega (arith, e)))
part_joins (Go ∷ acts) more [] ys e = absurd (omega (arith, e))
part_joins (Go ∷ acts) more (x ∷ xs) ys e = part_joins acts more xs ys (omega (arith, e))
part_joins (ComeLetter ∷ acts) more xs ys e = ap (λ l. Letter ∷ l) (part_joins acts more xs ys e)
part_joins (ComeBegin n kind ∷ acts) more xs ys e = ap (λ l. Begin kind ∷ l) (part_joins acts more xs ys e)
part_joins (ComeEnd kind ∷ acts) more xs ys e = ap (λ l. End kind ∷ l) (part_joins acts more xs ys e)

-- all items of a part stay
part_stays : (n : ℕ) (xs : List Shape) → n ≡ length xs → new_piece (replicate n Stay) xs ≡ xs
part_stays zero [] e = refl
part_stays zero (x ∷ xs) e = absurd (omega (arith, e))
part_stays (suc n) [] e = absurd (omega (arith, e))
part_stays (suc n) (x ∷ xs) e = ap (λ l. x ∷ l) (part_stays n xs (omega (arith, e)))

stays_counted : (n : ℕ) → old_count (replicate n Stay) ≡ n
stays_counted zero = refl
stays_counted (suc n) = ap suc (stays_counted n)

-- signs have as many shapes as items
letters_counted : (count : ℕ) (ss : List Sign) → length (replicate count Letter ++ sign_shapes ss) ≡ count + length (sign_shapes ss)
letters_counted zero ss = omega arith
letters_counted (suc count) ss = let e = letters_counted count ss in omega (arith, e)

shapes_counted : (ss : List Sign) (at : ℕ) → place_after ss at ≡ at + length (sign_shapes ss)
shapes_counted [] at = omega arith
shapes_counted (BeginOf n kind ∷ ss) at = let e = shapes_counted ss (suc at) in omega (arith, e)
shapes_counted (LettersOf n count ∷ ss) at = let e = shapes_counted ss (at + count) in let k = letters_counted count ss in omega (arith, e, k)
shapes_counted (EndOf kind ∷ ss) at = let e = shapes_counted ss (suc at) in omega (arith, e)

uses_counted : (acts : List Act) (ss : List Sign) → Use acts ss → old_count acts ≡ length (sign_shapes ss)
uses_counted [] [] u = refl
uses_counted [] (s ∷ ss) u = absurd u
uses_counted (ComeLetter ∷ acts) ss u = uses_counted acts ss u
uses_counted (ComeBegin n kind ∷ acts) ss u = uses_counted acts ss u
uses_counted (ComeEnd kind ∷ acts) ss u = uses_counted acts ss u
uses_counted (Stay ∷ acts) [] u = absurd u
uses_counted (Stay ∷ acts) (BeginOf n kind ∷ ss) u = ap suc (uses_counted acts ss u)
uses_counted (Stay ∷ acts) (EndOf kind ∷ ss) u = ap suc (uses_counted acts ss u)
uses_counted (Stay ∷ acts) (LettersOf n zero ∷ ss) u = absurd u
uses_counted (Stay ∷ acts) (LettersOf n (suc zero) ∷ ss) u = ap suc (uses_counted acts ss u)
uses_counted (Stay ∷ acts) (LettersOf n (suc (suc count)) ∷ ss) u = ap suc (uses_counted acts (LettersOf n (suc count) ∷ ss) u)
uses_counted (Go ∷ acts) [] u = absurd u
uses_counted (Go ∷ acts) (BeginOf n kind ∷ ss) u = ap suc (uses_counted acts ss u)
uses_counted (Go ∷ acts) (EndOf kind ∷ ss) u = ap suc (uses_counted acts ss u)
uses_counted (Go ∷ acts) (LettersOf n zero ∷ ss) u = absurd u
uses_counted (Go ∷ acts) (LettersOf n (suc zero) ∷ ss) u = ap suc (uses_counted acts ss u)
uses_counted (Go ∷ acts) (LettersOf n (suc (suc count)) ∷ ss) u = ap suc (uses_counted acts (LettersOf n (suc count) ∷ ss) u)

-- So the new list has the two parts that stay, with the new piece between them.
pub all_piece : (lefts : List Sign) (acts : List Act) (ss rights : List Sign) → Use acts ss →
    new_piece (all_acts lefts acts rights) (sign_shapes lefts ++ (sign_shapes ss ++ sign_shapes rights)) ≡ sign_shapes lefts ++ (new_piece acts (sign_shapes ss) ++ sign_shapes rights)
all_piece lefts acts ss rights u =
    let left = shapes_counted lefts 0 in
    let right = shapes_counted rights 0 in
    let before : place_after lefts 0 ≡ length (sign_shapes lefts) = omega (arith, left) in
    let after : place_after rights 0 ≡ length (sign_shapes rights) = omega (arith, right) in
    part_joins (replicate (place_after lefts 0) Stay) (acts ++ replicate (place_after rights 0) Stay) (sign_shapes lefts) (sign_shapes ss ++ sign_shapes rights)
    (stays_counted (place_after lefts 0) ∙ before)
    ∙ (λ i. part_stays (place_after lefts 0) (sign_shapes lefts) before i
    ++ part_joins acts (replicate (place_after rights 0) Stay) (sign_shapes ss) (sign_shapes rights) (uses_counted acts ss u) i)
    ∙ ap (λ l. sign_shapes lefts ++ (new_piece acts (sign_shapes ss) ++ l)) (part_stays (place_after rights 0) (sign_shapes rights) after)
