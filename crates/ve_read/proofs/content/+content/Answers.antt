use Rattle.std.proofs.Common.{arith}
use Rattle.std.proofs.lemmas.Result.{err_from_is_err_and}
use Rattle.ve_read.proofs.ElementLemmas.{mark_children}
use Rattle.ve_read.proofs.AnnotationLemmas.{marks_tag, annotated, annotation_within, inside_stops, mark_stops}
use Rattle.ve_read.proofs.ContentLoops.{all_left, all_read, all_within, goes_on, stops_here, some_left}
use Rattle.ve_read.proofs.content.+content.Goals as goal

-- The requirements stand in order behind the parameters: the measure, and then each clause.

pub annotation-unreachable-requires : goal.annotation-unreachable-requires
annotation-unreachable-requires t c =
    marks_tag c.args.text.now c.args.forest.now c.args.n c.args.part.end c.args.part.byte c.node-node.result.now c.requires.1.1.1.1.1.0 c.requires.1.1.1.1.1.1 c.node-node.ensures c.in_default.not-StartTag

pub annotation-mark_of-requires : goal.annotation-mark_of-requires
annotation-mark_of-requires t c = c.requires.1.1.1.1.0 c.args.n c.node-node.result.now c.in-StartTag.name c.in-StartTag.attrs c.in-StartTag.span c.node-node.ensures c.in-StartTag.is

pub annotation-returns-in_err-enter-clause-limit : goal.annotation-returns-in_err-enter-clause-limit
annotation-returns-in_err-enter-clause-limit t c =
    let p = err_from_is_err_and c.from_residual-in_err-enter.result c.from_residual-in_err-enter.ensures.1 in
    rw (p.1, p.2)
    (mark_stops c.args.text.now c.args.forest.now c.args.n c.args.part.end c.args.part.byte c.node-node.result.now c.in_err-enter.field-0.0 c.args.reader.now
    c.requires.1.1.1.1.1.1 c.node-node.ensures c.in_err-enter.ensures.limit)

pub annotation-read_content-requires : goal.annotation-read_content-requires
annotation-read_content-requires t c = (
  omega (arith, c.requires.1.1.0, c.requires.1.0),
  (
    (c.requires.1.1.1.0 c.args.n c.node-node.result.now c.node-node.ensures).1,
    (
      c.requires.1.1.1.0,
      (
        c.requires.1.1.1.1.0,
        mark_children c.args.text.now c.args.forest.now c.args.n c.args.part.end c.args.part.byte c.node-node.result.now c.requires.1.1.1.1.1.0 c.requires.1.1.1.1.1.1 c.node-node.ensures,
      ),
    ),
  ),
)

pub annotation-returns-in_err-read_content-clause-limit : goal.annotation-returns-in_err-read_content-clause-limit
annotation-returns-in_err-read_content-clause-limit t c =
    let p = err_from_is_err_and c.from_residual-in_err-read_content.result c.from_residual-in_err-read_content.ensures.1 in
    rw (p.1, p.2)
    (inside_stops c.args.text.now c.args.forest.now c.args.n c.args.part.end c.args.part.byte c.node-node.result.now c.requires.1.1.1.1.1.1 c.node-node.ensures
    c.in-StartTag.name c.in-StartTag.attrs c.in-StartTag.span c.in-StartTag.is c.in_ok-mark.mark c.in_ok-mark.ensures c.args.reader.now c.enter.new.self c.in_ok-enter.ensures.ok
    c.in_err-read_content.field-0.0 c.in_ok-enter.ensures.limit c.in_err-read_content.ensures.limit)

pub annotation-returns-clause-ok : goal.annotation-returns-clause-ok
annotation-returns-clause-ok t c =
    annotated c.args.text.now c.args.forest.now c.args.n c.args.part.end c.args.part.byte c.node-node.result.now c.requires.1.1.1.1.1.1 c.node-node.ensures
    c.in-StartTag.name c.in-StartTag.attrs c.in-StartTag.span c.in-StartTag.is c.in_ok-mark.mark c.in_ok-mark.ensures c.args.reader.now c.enter.new.self c.in_ok-enter.ensures.ok
    c.read_content.new.reader c.leave.new.self c.in_ok-read_content.ensures.ok c.leave.ensures

pub annotation-returns-clause-limit : goal.annotation-returns-clause-limit
annotation-returns-clause-limit t c =
    annotation_within c.args.text.now c.args.forest.now c.args.n c.args.part.end c.args.part.byte c.node-node.result.now c.requires.1.1.1.1.1.1 c.node-node.ensures
    c.in-StartTag.name c.in-StartTag.attrs c.in-StartTag.span c.in-StartTag.is c.in_ok-mark.mark c.in_ok-mark.ensures c.args.reader.now c.enter.new.self c.in_ok-enter.ensures.ok
    c.in_ok-enter.ensures.limit c.in_ok-read_content.ensures.limit

pub read_content-parts-init : goal.read_content-parts-init
read_content-parts-init t c = (omega arith, all_left c.args.text.now c.args.forest.now c.args.from c.args.to.end c.args.to.byte c.args.reader.now)

pub read_content-read_part-requires : goal.read_content-read_part-requires
read_content-read_part-requires t c = (
  omega (arith, c.parts.invariant.0, c.parts-test.true, c.requires.1.1.0, c.requires.1.0),
  (
    omega (arith, c.parts-test.true, c.requires.1.1.0),
    (
      c.requires.1.1.1.0,
      (
        c.requires.1.1.1.1.0,
        some_left c.args.text.now c.args.forest.now c.args.from c.parts.n c.args.to.end c.args.to.byte c.part_at-part.result.end c.part_at-part.result.byte c.args.reader.now c.parts.reader
            (omega (arith, c.parts-test.true)) c.part_at-part.ensures.part c.requires.1.1.1.1.1 c.parts.invariant.1,
      ),
    ),
  ),
)

pub read_content-returns-in_err-read_part-clause-limit : goal.read_content-returns-in_err-read_part-clause-limit
read_content-returns-in_err-read_part-clause-limit t c =
    let p = err_from_is_err_and c.from_residual.result c.from_residual.ensures.1 in
    rw (p.1, p.2)
    (stops_here c.args.text.now c.args.forest.now c.args.from c.parts.n c.args.to.end c.args.to.byte c.part_at-part.result.end c.part_at-part.result.byte c.args.reader.now c.parts.reader
    c.in_err-read_part.field-0.0 (omega (arith, c.parts-test.true)) c.part_at-part.ensures.part c.in_err-read_part.ensures.limit c.parts.invariant.1)

pub read_content-parts-preserved : goal.read_content-parts-preserved
read_content-parts-preserved t c = (
  omega (arith, c.parts.invariant.0, c.part_at-part.ensures.more),
  goes_on c.args.text.now c.args.forest.now c.args.from c.parts.n c.args.to.end c.args.to.byte c.part_at-part.result.end c.part_at-part.result.byte c.args.reader.now c.parts.reader c.read_part.new.reader
      (omega (arith, c.parts-test.true)) c.part_at-part.ensures.part c.in_ok-read_part.ensures.ok c.in_ok-read_part.ensures.limit c.parts.invariant.1,
)

pub read_content-returns-clause-ok : goal.read_content-returns-clause-ok
read_content-returns-clause-ok t c =
    all_read c.args.text.now c.args.forest.now c.args.from c.parts.n c.args.to.end c.args.to.byte c.args.reader.now c.parts.reader (omega (arith, c.parts-test.false)) c.parts.invariant.1

pub read_content-returns-clause-limit : goal.read_content-returns-clause-limit
read_content-returns-clause-limit t c =
    all_within c.args.text.now c.args.forest.now c.args.from c.parts.n c.args.to.end c.args.to.byte c.args.reader.now c.parts.reader (omega (arith, c.parts-test.false)) c.parts.invariant.1
