-- A piece of what is left, and what is left after it.
use Rattle.std.proofs.Common.{◌≡◌, ◌+◌, ◌<◌, ℕ, List, [], ◌++◌, length, take, drop, min, sym, ap, ◌∙◌, arith, take-append-drop, length-drop}
use Rattle.std.proofs.lemmas.List.{drop-drop, drop_all, drop_min}
use Rattle.ve_base.specs.Feed.{Feed, after_piece, next_count, next_cut}

-- what a read consumed, by the bytes and the number that were given before
pub consumed : (bytes room : List ℕ) (given n most : ℕ) → n ≡ min (length (drop given bytes)) most → take n room ≡ take n (drop given bytes) → drop given bytes ≡ take n room ++ drop (given + n) bytes
consumed bytes room given n most size prefix =
    sym (take-append-drop n (drop given bytes)) ∙ ap (λ l. l ++ drop n (drop given bytes)) (sym prefix) ∙ ap (λ l. take n room ++ l) (drop-drop n given bytes)

-- nothing is given only at the end
pub given_none : (bytes : List ℕ) (given n most : ℕ) → n ≡ min (length (drop given bytes)) most → 0 < most → n ≡ 0 → drop (given + n) bytes ≡ []
given_none bytes given n most size some none = drop_all (given + n) bytes (omega (arith, size, length-drop given bytes))

pub cuts_after : (cuts : List ℕ) (used now many : ℕ) → many ≡ length cuts → now ≡ min (used + 1) many → drop now cuts ≡ drop 1 (drop used cuts)
cuts_after cuts used now many size next = ap (λ n. drop n cuts) (next ∙ ap (λ n. min (used + 1) n) size) ∙ drop_min (used + 1) cuts ∙ sym (drop-drop 1 used cuts)

-- the source after a piece, by its bytes and cuts and the numbers of these that were used
pub after_piece_by_counts : (bytes cuts fails : List ℕ) (given used calls faults n most room used' many calls' : ℕ)
    → n ≡ min (length (drop given bytes)) most → most ≡ next_cut (drop used cuts) room → many ≡ length cuts → used' ≡ min (used + 1) many → calls' ≡ next_count calls
    → let new : Feed = record { left = drop (given + n) bytes; cuts = drop used' cuts; fails = fails; calls = calls'; faults = faults } in
    let old : Feed = record { left = drop given bytes; cuts = drop used cuts; fails = fails; calls = calls; faults = faults } in new ≡ after_piece old room
after_piece_by_counts bytes cuts fails given used calls faults n most room used' many calls' size greatest all next call =
    let a : drop (given + n) bytes ≡ drop (min (length (drop given bytes)) (next_cut (drop used cuts) room)) (drop given bytes) =
    sym (drop-drop n given bytes) ∙ ap (λ k. drop k (drop given bytes)) (size ∙ ap (λ m. min (length (drop given bytes)) m) greatest) in
    let b : drop used' cuts ≡ drop 1 (drop used cuts) = cuts_after cuts used used' many all next in
    cc
