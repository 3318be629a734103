use Rattle.std.proofs.Common.{◌≡◌, ◌≤◌, ◌-◌, ◌++◌, length, drop, IsCharBoundary}
use Rattle.model_spelling.specs.Written as written
use Rattle.ve_html_scan.proofs.decode.Decoding.next.Given as goal

abbrev pub invariant-piece : goal.invariant-piece
invariant-piece l =
    (drop l.self-inside.used l.self-inside.piece.now ++ written.decoded (drop l.self-inside.at l.self-inside.spelled.now)
    ≡ drop l.initial.self-inside.used l.initial.self-inside.piece.now ++ written.decoded (drop l.initial.self-inside.at l.initial.self-inside.spelled.now))
    × (l.self-inside.used ≤ length l.self-inside.piece.now)
    × (l.self-inside.at ≤ length l.self-inside.spelled.now)
    × IsCharBoundary l.self-inside.spelled.now l.self-inside.at

abbrev pub decreases-piece : goal.decreases-piece
decreases-piece l = length l.self-inside.spelled.now - l.self-inside.at
