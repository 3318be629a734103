use Rattle.std.proofs.Common.{◌≡◌, length, arith}
use Rattle.std.proofs.lemmas.List.{drop_all}
use Rattle.ve_write.proofs.NoteLemmas.{found_in, not_found_in, none_left}
use Rattle.ve_write.proofs.bodies.notes_at.Goals as goal

pub returns-then-passed-piece : goal.returns-then-passed-piece
returns-then-passed-piece c = λ values.
    let rest = c.loop-at.invariant.rest values in
    let here = found_in values c.args.list.now.items c.piece-piece.result.now c.loop-at.at c.notes_in-passed.result c.piece-piece.ensures.items (c.notes_in-passed.ensures.place values) c.if-passed-piece.true in
    omega (arith, rest, here)

pub loop-at-preserved : goal.loop-at-preserved
loop-at-preserved c =
    let all : c.notes_in-passed.result ≡ length c.piece-piece.result.now = omega (arith, c.if-passed-piece.false, c.notes_in-passed.ensures.within) in
    record {
      within = omega (arith, all, c.piece-piece.ensures.within, c.len-len.ensures);
      rest = λ values.
          let rest = c.loop-at.invariant.rest values in
          let later = not_found_in values c.args.list.now.items c.piece-piece.result.now c.loop-at.at c.notes_in-passed.result c.piece-piece.ensures.items (c.notes_in-passed.ensures.place values) all in
          omega (arith, rest, later);
    }

pub returns : goal.returns
returns c = λ values.
    let rest = c.loop-at.invariant.rest values in
    let none = none_left values c.args.list.now.items c.loop-at.at (drop_all c.loop-at.at c.args.list.now.items (omega (arith, c.loop-at-test.false, c.len-len.ensures))) in
    omega (arith, rest, none)
