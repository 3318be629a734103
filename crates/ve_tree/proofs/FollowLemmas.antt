-- Landmarks that follow a change of the nodes.
use Rattle.std.proofs.Common.{◌≡◌, ◌<◌, ◌+◌, ◌^◌, inl, inr, ℕ, suc, List, [], ◌∷◌, length, take, sum, sym, ap, subst, arith}
use Rattle.std.proofs.lemmas.List.{take_all}
use Rattle.ve_arena.specs.declared.node.NodeId.{NodeId}
use Rattle.ve_tree.specs.Landmarks.{LandmarkRow, AreLandmarks, IsAt, IsCut, MayFollow}
use Rattle.ve_tree.proofs.ShiftLemmas.{numbered}
use Rattle.ve_tree.proofs.WalkLemmas.{Slots}

pub landmarks_follow : (slots : Slots) (root : NodeId) (old now : LandmarkRow) (from to len : ℕ) → MayFollow slots root old from to len → IsCut old now root from to len →
    AreLandmarks slots root now
landmarks_follow slots root old now from to len may cut n start mark =
    let was = cut n start mark in
    let follows = may n was.was was.landmark in
    elim was.kept [
      | inl stays ↦ subst (IsAt slots root n) (sym stays.1) (follows.stays stays.0)
      | inr moves ↦ follows.moves start moves.0 moves.1 moves.2
    ]

-- the last one still fits
pub followed_fit : (slots : Slots) (root : NodeId) (nodes : List NodeId) (gaps : List ℕ) (from to len : ℕ) → MayFollow slots root (record { nodes = nodes; gaps = gaps }) from to len → len < 2 ^ 64 →
    length nodes ≡ length gaps → sum gaps + len < 2 ^ 64
followed_fit slots root nodes [] from to len may fits long = omega (arith, fits)
followed_fit slots root nodes (g ∷ gs) from to len may fits long =
    let last = numbered nodes (g ∷ gs) (length gs) (omega (arith, long)) in
    let begins = sum (take (suc (length gs)) (g ∷ gs)) in
    let all : begins ≡ sum (g ∷ gs) = ap sum (take_all (suc (length gs)) (g ∷ gs) (omega arith)) in
    subst (λ start. start + len < 2 ^ 64) all (may last.node begins last.landmark).fits
