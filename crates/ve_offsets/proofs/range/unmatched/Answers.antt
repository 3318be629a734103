use Rattle.std.proofs.Common.{◌≡◌, ◌+◌, ◌-◌, length, take, drop, sym, ap, ◌∙◌, arith}
use Rattle.ve_offsets.specs.Unmatched.{unmatched_after}
use Rattle.ve_offsets.proofs.RangeLemmas.{piece_counted}
use Rattle.ve_offsets.proofs.OpenLemmas.{counts_are_unmatched}
use Rattle.ve_offsets.proofs.range.unmatched.Goals as goal

pub loop-at-preserved : goal.loop-at-preserved
loop-at-preserved c =
    let items = c.args.doc.list.now.items in
    let piece = c.piece-piece.result.now in
    let at = c.loop-at.at in
    record {
      order = c.piece-piece.ensures.within;
      counts = ap (λ counts. unmatched_after counts (take (c.args.to - (at + length piece)) (drop (at + length piece) items))) c.with_items-counts.ensures.counts
          ∙ piece_counted items piece c.loop-at.counts at (length piece) c.args.to c.piece-piece.ensures.items c.piece-piece.ensures.within
          ∙ c.loop-at.invariant.counts;
      closings = omega (arith, c.with_items-counts.ensures.closings, c.loop-at.invariant.closings);
      openings = omega (arith, c.with_items-counts.ensures.openings, c.loop-at.invariant.openings);
    }

pub returns : goal.returns
returns c =
    let items = c.args.doc.list.now.items in
    let at = c.loop-at.at in
    let done : c.args.to - at ≡ 0 = omega (arith, c.loop-at-test.false) in
    sym (ap (λ n. unmatched_after c.loop-at.counts (take n (drop at items))) done)
    ∙ c.loop-at.invariant.counts
    ∙ counts_are_unmatched items c.args.from c.args.to c.requires.doc.links.lawful c.requires.order c.requires.within
