-- Splices undone: the list is what it was.
use Rattle.std.proofs.Common.{◌≡◌, ◌≤◌, ◌<◌, ℕ, zero, suc, ◌+◌, ◌-◌, List, [], ◌∷◌, ◌++◌, length, take, drop, get_or, refl, sym, ap, ◌∙◌, subst, append_assoc, length-append, arith}
use Rattle.std.specs.List.{slice_range}
use Rattle.std.proofs.lemmas.List.{length-take-le, take-take, take-append-le, take-append-drop, drop-take}
use Rattle.std.proofs.lemmas.List.Folds.{drop_split}
use Rattle.std.proofs.Math.Seq.{take-append_seam, drop-append_seam}
use Rattle.model_items.specs.declared.item.Item.{Item}
use Rattle.ve_items.specs.Substitution.{spliced}
use Rattle.ve_tx.specs.Spliced.{spliced_by, LieBetween, come_count}
use Rattle.ve_tx.specs.declared.splice.Splice.{Splice}
use Rattle.ve_tx.proofs.SplicedLemmas.{spliced-long}
use Rattle.ve_editor.specs.Back.{LieInTurn, backward, undoing}

-- ---- a list of any type

-- a range is read in the items up to its end
range-front : {A : Type 0} (at count : ℕ) (xs : List A) → slice_range xs at (at + count) ≡ drop at (take (at + count) xs)
range-front at count xs =
    let same : at + count - at ≡ count = omega arith in
    ap (λ n. take n (drop at xs)) same ∙ sym (drop-take at count xs)

-- a splice is undone by what went, in the place of what came
pub undone : {A : Type 0} (xs : List A) (at removed : ℕ) (come : List A) → at + removed ≤ length xs →
    spliced (spliced xs at removed come) at (length come) (slice_range xs at (at + removed)) ≡ xs
undone xs at removed come within =
    let end = at + removed in
    let before = take at xs in
    let after = drop end xs in
    let gone = slice_range xs at end in
    let long : length before ≡ at = length-take-le at xs (omega arith) in
    let joined : length (before ++ come) ≡ at + length come = length-append before come ∙ ap (λ n. n + length come) long in
    let front : take at ((before ++ come) ++ after) ≡ before =
    ap (take at) (append_assoc before come after) ∙ ap (λ n. take n (before ++ (come ++ after))) (sym long) ∙ take-append_seam before (come ++ after) in
    let back : drop (at + length come) ((before ++ come) ++ after) ≡ after =
    ap (λ n. drop n ((before ++ come) ++ after)) (sym joined) ∙ drop-append_seam (before ++ come) after in
    (λ i. (front i ++ gone) ++ back i)
    ∙ append_assoc before gone after
    ∙ ap (λ l. before ++ l) (sym (drop_split xs at end (omega arith)))
    ∙ take-append-drop at xs

-- ---- splices one after the other

-- some of them are made before the others
pub spliced-append : (items : List Item) (a b : List Splice) → spliced_by items (a ++ b) ≡ spliced_by (spliced_by items b) a
spliced-append items [] b = refl
spliced-append items (one ∷ more) b = ap (λ l. spliced l one.at one.removed one.items) (spliced-append items more b)

pub come-append : (a b : List Splice) → come_count (a ++ b) ≡ come_count a + come_count b
come-append [] b = omega arith
come-append (one ∷ more) b = let rest = come-append more b in omega arith

pub turn-append : (items : List Item) (a b : List Splice) → LieInTurn items b → LieInTurn (spliced_by items b) a → LieInTurn items (a ++ b)
turn-append items [] b behind h = behind
turn-append items (one ∷ more) b behind h =
    (turn-append items more b behind h.0, subst (λ l. one.at + one.removed ≤ length l) (sym (spliced-append items more b)) h.1)

-- each of them can be made of what those behind it give
pub turn-fits : (items : List Item) (splices : List Splice) (i : ℕ) (splice : Splice) → i < length splices → splice ≡ get_or splices i splice → LieInTurn items splices →
    splice.at + splice.removed ≤ length (spliced_by items (drop (suc i) splices))
turn-fits items [] i splice below is h = absurd (omega arith)
turn-fits items (one ∷ more) zero splice below is h = subst (λ (s : Splice). s.at + s.removed ≤ length (spliced_by items more)) (sym is) h.1
turn-fits items (one ∷ more) (suc i) splice below is h = turn-fits items more i splice (omega arith) is h.0

-- ---- splices at rising positions, undone

-- what stands before the first of them stays
spliced-front : (from to n : ℕ) (items : List Item) (splices : List Splice) → LieBetween from to splices → to ≤ length items → n ≤ from →
    take n (spliced_by items splices) ≡ take n items
spliced-front from to n items [] h k m = refl
spliced-front from to n items (splice ∷ more) h k m =
    let rest = spliced_by items more in
    let end = splice.at + splice.removed in
    let long : end ≤ length rest = spliced-long end to items more h.1 k in
    let cut : length (take splice.at rest) ≡ splice.at = length-take-le splice.at rest (omega arith) in
    ap (take n) (append_assoc (take splice.at rest) splice.items (drop end rest))
    ∙ take-append-le n (take splice.at rest) (splice.items ++ drop end rest) (omega (arith, h.0))
    ∙ take-take n splice.at rest (omega (arith, h.0))
    ∙ spliced-front end to n items more h.1 k (omega (arith, h.0))

-- the one that is made last, undone
first-undone : (from to : ℕ) (items : List Item) (splice : Splice) (more : List Splice) → LieBetween from to (splice ∷ more) → to ≤ length items →
    spliced (spliced_by items (splice ∷ more)) splice.at (length splice.items) (slice_range items splice.at (splice.at + splice.removed)) ≡ spliced_by items more
first-undone from to items splice more h k =
    let rest = spliced_by items more in
    let end = splice.at + splice.removed in
    let long : end ≤ length rest = spliced-long end to items more h.1 k in
    let gone : slice_range items splice.at end ≡ slice_range rest splice.at end =
    range-front splice.at splice.removed items ∙ ap (drop splice.at) (sym (spliced-front end to end items more h.1 k (omega arith))) ∙ sym (range-front splice.at splice.removed rest) in
    ap (λ l. spliced (spliced_by items (splice ∷ more)) splice.at (length splice.items) l) gone ∙ undone rest splice.at splice.removed splice.items long

pub back-again : (from to : ℕ) (items : List Item) (splices : List Splice) → LieBetween from to splices → to ≤ length items →
    spliced_by (spliced_by items splices) (backward items splices) ≡ items
back-again from to items [] h k = refl
back-again from to items (splice ∷ more) h k =
    spliced-append (spliced_by items (splice ∷ more)) (backward items more) (undoing items splice ∷ [])
    ∙ ap (λ l. spliced_by l (backward items more)) (first-undone from to items splice more h k)
    ∙ back-again (splice.at + splice.removed) to items more h.1 k

pub turn-again : (from to : ℕ) (items : List Item) (splices : List Splice) → LieBetween from to splices → to ≤ length items →
    LieInTurn (spliced_by items splices) (backward items splices)
turn-again from to items [] h k = tt
turn-again from to items (splice ∷ more) h k =
    let new = spliced_by items (splice ∷ more) in
    let rest = spliced_by items more in
    let end = splice.at + splice.removed in
    let long : end ≤ length rest = spliced-long end to items more h.1 k in
    let cut : length (take splice.at rest) ≡ splice.at = length-take-le splice.at rest (omega arith) in
    let all = length-append (take splice.at rest ++ splice.items) (drop end rest) in
    let first = length-append (take splice.at rest) splice.items in
    let fits : splice.at + length splice.items ≤ length new = omega arith in
    turn-append new (backward items more) (undoing items splice ∷ []) (tt, fits)
    (subst (λ l. LieInTurn l (backward items more)) (sym (first-undone from to items splice more h k)) (turn-again end to items more h.1 k))
