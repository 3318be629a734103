use Rattle.std.proofs.Common.{◌+◌, arith}
use Rattle.std.proofs.lemmas.List.{drop_all}
use Rattle.ve_write.proofs.DepthLemmas.{piece_stands, at_closing, at_end}
use Rattle.ve_write.proofs.ends.siblings_end.Goals as goal

pub returns-then-passed-piece-clause-end : goal.returns-then-passed-piece-clause-end
returns-then-passed-piece-clause-end c =
    let items = c.args.list.now.items in
    let at = c.loop-at.at in
    let stands = piece_stands items c.piece-piece.result.now at c.piece-piece.ensures.items (omega (arith, c.piece-piece.ensures.within, c.len-len.ensures)) in
    let closed = c.pass-passed.ensures.closed c.if-passed-piece.true in
    at_closing items c.args.from (at + c.pass-passed.result.count) c.pass-passed.result.depth (closed.ends items at stands) closed.none
    (c.pass-passed.ensures.inside items c.args.from at stands c.loop-at.invariant.rest)

pub returns-then-passed-piece-clause-closed : goal.returns-then-passed-piece-clause-closed
returns-then-passed-piece-clause-closed c =
    let items = c.args.list.now.items in
    let at = c.loop-at.at in
    let stands = piece_stands items c.piece-piece.result.now at c.piece-piece.ensures.items (omega (arith, c.piece-piece.ensures.within, c.len-len.ensures)) in
    let closed = c.pass-passed.ensures.closed c.if-passed-piece.true in
    closed.ends items at stands

pub loop-at-preserved : goal.loop-at-preserved
loop-at-preserved c =
    let items = c.args.list.now.items in
    let at = c.loop-at.at in
    let stands = piece_stands items c.piece-piece.result.now at c.piece-piece.ensures.items (omega (arith, c.piece-piece.ensures.within, c.len-len.ensures)) in
    record {
      more = omega (arith, c.loop-at.invariant.more);
      within = omega (arith, c.pass-passed.ensures.within, c.piece-piece.ensures.within);
      shallow = omega (arith, c.loop-at.invariant.shallow, c.pass-passed.ensures.shallow);
      rest = c.pass-passed.ensures.inside items c.args.from at stands c.loop-at.invariant.rest;
    }

pub returns-clause-end : goal.returns-clause-end
returns-clause-end c =
    at_end c.args.list.now.items c.args.from c.loop-at.at c.loop-at.depth
    (drop_all c.loop-at.at c.args.list.now.items (omega (arith, c.loop-at-test.false, c.len-len.ensures))) c.loop-at.invariant.rest
