use Rattle.std.proofs.Common.{arith, rules, None, refl, sym, ap, subst, ◌∙◌, ◌≡◌}
use Rattle.std.specs.Prelude.{chars, OnOk, IfOk}
use Rattle.std.proofs.lemmas.Result.{err_from_is_err_and}
use Rattle.ve_classify.specs.Fits.{IsFit, parent_of}
use Rattle.ve_reader.specs.Stops.{Stops, stop_limit}
use Rattle.ve_read.specs.Blocks.{siblings_limit, white_at_end, with_siblings}
use Rattle.ve_read.specs.Places.{OfSiblings}
use Rattle.ve_read.proofs.UnitLemmas.{holds}
use Rattle.ve_read.proofs.BlockLemmas.{branch_token, branch_children, branch_read, branch_within, opening_stops, inside_stops}
use Rattle.ve_read.proofs.BlockLoops.{unit_text, unit_parts, unit_block, white_read, run_read, block_read, run_over, block_over, run_marks, block_marks, all_left, left_after, left_stops, some_unit, all_read, all_white, all_within, content_parts, content_read, content_white, content_limits}
use Rattle.ve_read.proofs.blocks.+blocks.Goals as goal

-- The requirements stand in order behind the parameters: the measure, and then each clause.

-- ---- a branch

pub push_branch-unreachable-requires : goal.push_branch-unreachable-requires
push_branch-unreachable-requires t c =
    branch_token c.args.text.now c.args.forest.now c.args.around c.args.n c.args.part.end c.args.part.byte c.node-node.result.now c.args.kind c.requires.1.1.1.1.1.0 c.requires.1.1.1.1.1.1.1.0
    c.requires.1.1.1.1.1.1.0 c.node-node.ensures c.in_default.not-StartTag

pub push_branch-element_head-requires : goal.push_branch-element_head-requires
push_branch-element_head-requires t c = c.requires.1.1.1.1.0 c.args.n c.node-node.result.now c.in-StartTag.name c.in-StartTag.attrs c.in-StartTag.span c.node-node.ensures c.in-StartTag.is

pub push_branch-returns-in_err-opened-clause-limit : goal.push_branch-returns-in_err-opened-clause-limit
push_branch-returns-in_err-opened-clause-limit t c =
    let p = err_from_is_err_and c.from_residual-in_err-opened.result c.from_residual-in_err-opened.ensures.1 in
    rw (p.1, p.2)
    (opening_stops c.args.text.now c.args.forest.now c.args.around c.args.n c.args.part.end c.args.part.byte c.node-node.result.now c.args.kind (chars c.args.white.now) c.requires.1.1.1.1.1.0 c.requires.1.1.1.1.1.1.1.0 c.node-node.ensures
    c.in-StartTag.name c.in-StartTag.attrs c.in-StartTag.span c.in-StartTag.is c.in_ok-head.head c.in_ok-head.ensures c.args.reader.now
    c.in_err-opened.field-0.0 c.in_err-opened.ensures.limit)

pub push_branch-read_siblings-requires : goal.push_branch-read_siblings-requires
push_branch-read_siblings-requires t c = (
  omega (arith, c.requires.1.1.0, c.requires.1.0),
  (
    (c.requires.1.1.1.0 c.args.n c.node-node.result.now c.node-node.ensures).1,
    (
      c.requires.1.1.1.0,
      (
        c.requires.1.1.1.1.0,
        (
          branch_children c.args.text.now c.args.forest.now c.args.around c.args.n c.args.part.end c.args.part.byte c.node-node.result.now c.args.kind c.requires.1.1.1.1.1.0 c.requires.1.1.1.1.1.1.1.0
              c.requires.1.1.1.1.1.1.0 c.node-node.ensures,
          ap (λ r. r.marks) c.in_ok-opened.ensures.ok ∙ c.requires.1.1.1.1.1.1.1.1,
        ),
      ),
    ),
  ),
)

pub push_branch-returns-in_err-pre-clause-limit : goal.push_branch-returns-in_err-pre-clause-limit
push_branch-returns-in_err-pre-clause-limit t c =
    let p = err_from_is_err_and c.from_residual-in_err-pre.result c.from_residual-in_err-pre.ensures.1 in
    rw (p.1, p.2)
    (inside_stops c.args.text.now c.args.forest.now c.args.around c.args.n c.args.part.end c.args.part.byte c.node-node.result.now c.args.kind (chars c.args.white.now) c.requires.1.1.1.1.1.0 c.requires.1.1.1.1.1.1.1.0 c.node-node.ensures
    c.in-StartTag.name c.in-StartTag.attrs c.in-StartTag.span c.in-StartTag.is c.in_ok-head.head c.in_ok-head.ensures c.args.reader.now
    c.in_err-pre.field-0.0 c.open.new.self c.in_ok-opened.ensures.ok c.in_ok-opened.ensures.limit c.in_err-pre.ensures.limit)

pub push_branch-returns-clause-ok : goal.push_branch-returns-clause-ok
push_branch-returns-clause-ok t c =
    branch_read c.args.text.now c.args.forest.now c.args.around c.args.n c.args.part.end c.args.part.byte c.node-node.result.now c.args.kind (chars c.args.white.now) c.requires.1.1.1.1.1.0 c.requires.1.1.1.1.1.1.1.0 c.node-node.ensures
    c.in-StartTag.name c.in-StartTag.attrs c.in-StartTag.span c.in-StartTag.is c.in_ok-head.head c.in_ok-head.ensures c.args.reader.now
    c.open.new.self c.read_siblings.new.reader c.close.new.self c.in_ok-opened.opened (chars c.in_ok-pre.pre.now) c.in_ok-opened.ensures.ok c.in_ok-opened.ensures.node c.in_ok-pre.ensures.ok c.in_ok-pre.ensures.white c.in_ok-close.ensures

pub push_branch-returns-clause-limit : goal.push_branch-returns-clause-limit
push_branch-returns-clause-limit t c =
    branch_within c.args.text.now c.args.forest.now c.args.around c.args.n c.args.part.end c.args.part.byte c.node-node.result.now c.args.kind (chars c.args.white.now) c.requires.1.1.1.1.1.0 c.requires.1.1.1.1.1.1.1.0 c.node-node.ensures
    c.in-StartTag.name c.in-StartTag.attrs c.in-StartTag.span c.in-StartTag.is c.in_ok-head.head c.in_ok-head.ensures c.args.reader.now
    c.open.new.self c.in_ok-opened.ensures.ok c.in_ok-opened.ensures.limit c.in_ok-pre.ensures.limit

-- ---- a block

pub push_block-push_branch-requires : goal.push_block-push_branch-requires
push_block-push_branch-requires t c = (
  omega (arith, c.requires.1.0),
  (
    c.requires.1.1.0,
    (
      c.requires.1.1.1.0,
      (
        c.requires.1.1.1.1.0,
        (c.requires.1.1.1.1.1.0, (c.requires.1.1.1.1.1.1.0, (subst (IsFit c.args.forest.now c.args.n c.args.around) c.in-Branch.is c.fit.ensures, c.requires.1.1.1.1.1.1.1))),
      ),
    ),
  ),
)

-- ---- what stands first

pub push_unit-text_at-requires-clause-some : goal.push_unit-text_at-requires-clause-some
push_unit-text_at-requires-clause-some t c = unit_text c.args.text.now c.args.forest.now (parent_of c.args.around) c.args.n c.args.white.now c.args.white.now c.args.unit c.requires.1.1.1.1.1.1.1.0 c.in-White.is

pub push_unit-read_paragraph-requires-clause-stands : goal.push_unit-read_paragraph-requires-clause-stands
push_unit-read_paragraph-requires-clause-stands t c = unit_parts c.args.text.now c.args.forest.now (parent_of c.args.around) c.args.n c.args.white.now c.args.white.now c.args.unit c.requires.1.1.1.1.1.1.1.0 c.in-Run.is

pub push_unit-push_block-requires : goal.push_unit-push_block-requires
push_unit-push_block-requires t c = (
  omega (arith, c.requires.1.0),
  (
    omega (arith, c.requires.1.1.0, c.requires.1.1.1.0),
    (
      c.requires.1.1.1.1.0,
      (
        c.requires.1.1.1.1.1.0,
        (
          c.requires.1.1.1.1.1.1.0,
          (
            unit_block c.args.text.now c.args.forest.now (parent_of c.args.around) c.args.n c.args.white.now c.args.white.now c.args.unit c.requires.1.1.0 c.requires.1.1.1.1.1.1.1.0 c.in-Block.is,
            c.requires.1.1.1.1.1.1.1.1,
          ),
        ),
      ),
    ),
  ),
)

pub push_unit-returns-in-White-clause-ok : goal.push_unit-returns-in-White-clause-ok
push_unit-returns-in-White-clause-ok t c =
    white_read c.args.text.now c.args.forest.now (parent_of c.args.around) c.args.n c.args.white.now c.text_at.result.now c.args.unit c.args.reader.now c.in-White.is c.text_at.ensures

pub push_unit-returns-in_err-read_paragraph-in-Run-clause-limit : goal.push_unit-returns-in_err-read_paragraph-in-Run-clause-limit
push_unit-returns-in_err-read_paragraph-in-Run-clause-limit t c =
    let p = err_from_is_err_and c.from_residual.result c.from_residual.ensures.1 in
    rw (p.1, p.2)
    (run_over c.args.text.now c.args.forest.now (parent_of c.args.around) c.args.n c.args.white.now c.args.white.now c.args.unit c.args.reader.now c.in_err-read_paragraph-in-Run.field-0.0 c.in-Run.is c.in_err-read_paragraph-in-Run.ensures.limit)

pub push_unit-returns-in_ok-read_paragraph-in-Run-clause-ok : goal.push_unit-returns-in_ok-read_paragraph-in-Run-clause-ok
push_unit-returns-in_ok-read_paragraph-in-Run-clause-ok t c =
    run_read c.args.text.now c.args.forest.now (parent_of c.args.around) c.args.n c.args.white.now _ c.args.unit c.args.reader.now c.read_paragraph.new.reader c.in-Run.is refl c.in_ok-read_paragraph-in-Run.ensures.ok
    c.in_ok-read_paragraph-in-Run.ensures.limit

pub push_unit-returns-in_ok-read_paragraph-in-Run-clause-unmarked : goal.push_unit-returns-in_ok-read_paragraph-in-Run-clause-unmarked
push_unit-returns-in_ok-read_paragraph-in-Run-clause-unmarked t c =
    run_marks c.args.text.now c.args.forest.now c.args.n c.args.unit.part.end c.args.unit.part.byte c.args.reader.now c.read_paragraph.new.reader
    (unit_parts c.args.text.now c.args.forest.now (parent_of c.args.around) c.args.n c.args.white.now c.args.white.now c.args.unit c.requires.1.1.1.1.1.1.1.0 c.in-Run.is) c.in_ok-read_paragraph-in-Run.ensures.ok
    c.requires.1.1.1.1.1.1.1.1

pub push_unit-returns-in_err-push_block-in-Block-clause-limit : goal.push_unit-returns-in_err-push_block-in-Block-clause-limit
push_unit-returns-in_err-push_block-in-Block-clause-limit t c =
    let p = err_from_is_err_and c.from_residual-in_err-push_block-in-Block.result c.from_residual-in_err-push_block-in-Block.ensures.1 in
    rw (p.1, p.2)
    (block_over c.args.text.now c.args.forest.now (parent_of c.args.around) c.args.n c.args.white.now c.args.white.now c.args.unit c.args.reader.now c.in_err-push_block-in-Block.field-0.0 c.in-Block.is c.requires.1.1.0
    c.in_err-push_block-in-Block.ensures.limit)

pub push_unit-returns-in_ok-push_block-in-Block-clause-ok : goal.push_unit-returns-in_ok-push_block-in-Block-clause-ok
push_unit-returns-in_ok-push_block-in-Block-clause-ok t c =
    block_read c.args.text.now c.args.forest.now (parent_of c.args.around) c.args.n c.args.white.now _ c.args.unit c.args.reader.now c.push_block.new.reader c.in-Block.is c.requires.1.1.0 refl c.in_ok-push_block-in-Block.ensures.ok
    c.in_ok-push_block-in-Block.ensures.limit

pub push_unit-returns-in_ok-push_block-in-Block-clause-unmarked : goal.push_unit-returns-in_ok-push_block-in-Block-clause-unmarked
push_unit-returns-in_ok-push_block-in-Block-clause-unmarked t c =
    block_marks c.args.text.now c.args.forest.now (parent_of c.args.around) c.args.n c.args.unit.part.end c.args.unit.part.byte (chars c.args.white.now) c.args.reader.now c.push_block.new.reader
    (unit_block c.args.text.now c.args.forest.now (parent_of c.args.around) c.args.n c.args.white.now c.args.white.now c.args.unit c.requires.1.1.0 c.requires.1.1.1.1.1.1.1.0 c.in-Block.is) c.in_ok-push_block-in-Block.ensures.ok
    c.requires.1.1.1.1.1.1.1.1

-- ---- all siblings

pub read_blocks-siblings-init : goal.read_blocks-siblings-init
read_blocks-siblings-init t c =
    (omega arith, c.requires.1.1.1.1.1.1.1, all_left c.args.text.now c.args.forest.now (parent_of c.args.around) c.args.from c.args.to.end c.args.to.byte _ c.args.reader.now refl, search rules)

pub read_blocks-push_unit-requires : goal.read_blocks-push_unit-requires
read_blocks-push_unit-requires t c = (
  omega (arith, c.siblings.invariant.0, c.siblings-test.true, c.requires.1.1.0, c.requires.1.0),
  (
    c.unit_at-unit.ensures.more,
    (
      c.unit_at-unit.ensures.bound,
      (
        c.requires.1.1.1.0,
        (
          c.requires.1.1.1.1.0,
          (
            c.requires.1.1.1.1.1.0,
            (
              some_unit c.args.text.now c.args.forest.now (parent_of c.args.around) c.args.from c.siblings.n c.args.to.end c.args.to.byte c.siblings.white.now c.unit_at-unit.result c.args.reader.now c.siblings.reader
                  c.unit_at-unit.ensures.unit c.requires.1.1.1.1.1.1.0 c.siblings.invariant.2,
              c.siblings.invariant.1,
            ),
          ),
        ),
      ),
    ),
  ),
)

pub read_blocks-returns-in_err-white-clause-limit : goal.read_blocks-returns-in_err-white-clause-limit
read_blocks-returns-in_err-white-clause-limit t c =
    let p = err_from_is_err_and c.from_residual.result c.from_residual.ensures.1 in
    rw (p.1, p.2)
    (left_stops c.args.text.now c.args.forest.now (parent_of c.args.around) c.args.from c.siblings.n c.args.to.end c.args.to.byte c.siblings.white.now c.unit_at-unit.result c.args.reader.now c.siblings.reader
    c.in_err-white.field-0.0 c.unit_at-unit.ensures.unit c.in_err-white.ensures.limit c.siblings.invariant.2)

pub read_blocks-siblings-preserved : goal.read_blocks-siblings-preserved
read_blocks-siblings-preserved t c = (
  omega (arith, c.siblings.invariant.0, c.unit_at-unit.ensures.more),
  c.in_ok-white.ensures.unmarked,
  left_after c.args.text.now c.args.forest.now (parent_of c.args.around) c.args.from c.siblings.n c.args.to.end c.args.to.byte c.siblings.white.now c.in_ok-white.white.now c.unit_at-unit.result c.args.reader.now
      c.siblings.reader c.push_unit.new.reader c.unit_at-unit.ensures.unit c.in_ok-white.ensures.ok c.siblings.invariant.2,
  search rules,
)

pub read_blocks-returns-clause-ok : goal.read_blocks-returns-clause-ok
read_blocks-returns-clause-ok t c =
    all_read c.args.text.now c.args.forest.now (parent_of c.args.around) c.args.from c.siblings.n c.args.to.end c.args.to.byte c.siblings.white.now c.args.reader.now c.siblings.reader (omega (arith, c.siblings-test.false))
    c.siblings.invariant.2

pub read_blocks-returns-clause-white : goal.read_blocks-returns-clause-white
read_blocks-returns-clause-white t c =
    all_white c.args.text.now c.args.forest.now (parent_of c.args.around) c.args.from c.siblings.n c.args.to.end c.args.to.byte c.siblings.white.now c.args.reader.now c.siblings.reader (omega (arith, c.siblings-test.false))
    c.siblings.invariant.2

pub read_blocks-returns-clause-limit : goal.read_blocks-returns-clause-limit
read_blocks-returns-clause-limit t c =
    all_within c.args.text.now c.args.forest.now (parent_of c.args.around) c.args.from c.siblings.n c.args.to.end c.args.to.byte c.siblings.white.now c.args.reader.now c.siblings.reader (omega (arith, c.siblings-test.false))
    c.siblings.invariant.2

-- ---- the children of a kind

pub read_siblings-read_content-requires-clause-stands : goal.read_siblings-read_content-requires-clause-stands
read_siblings-read_content-requires-clause-stands t c = content_parts c.args.text.now c.args.forest.now c.args.from c.args.to.end c.args.to.byte c.requires.1.1.1.1.1.0

pub read_siblings-returns-in_err-read_content-in-Content-clause-limit : goal.read_siblings-returns-in_err-read_content-in-Content-clause-limit
read_siblings-returns-in_err-read_content-in-Content-clause-limit t c =
    let p = err_from_is_err_and c.from_residual.result c.from_residual.ensures.1 in
    rw (p.1, p.2)
    (content_limits c.args.text.now c.args.forest.now c.args.kind c.args.from c.args.to.end c.args.to.byte c.args.reader.now (sym c.around_in.ensures ∙ ap parent_of c.in-Content.is) c.requires.1.1.1.1.1.1
    (stop_limit c.in_err-read_content-in-Content.field-0.0) c.in_err-read_content-in-Content.ensures.limit)

pub read_siblings-returns-in_ok-read_content-in-Content-clause-ok : goal.read_siblings-returns-in_ok-read_content-in-Content-clause-ok
read_siblings-returns-in_ok-read_content-in-Content-clause-ok t c =
    content_read c.args.text.now c.args.forest.now c.args.kind c.args.from c.args.to.end c.args.to.byte c.args.reader.now (sym c.around_in.ensures ∙ ap parent_of c.in-Content.is) c.requires.1.1.1.1.1.1
    c.read_content.new.reader c.in_ok-read_content-in-Content.ensures.ok

pub read_siblings-returns-in_ok-read_content-in-Content-clause-white : goal.read_siblings-returns-in_ok-read_content-in-Content-clause-white
read_siblings-returns-in_ok-read_content-in-Content-clause-white t c =
    content_white c.args.text.now c.args.forest.now c.args.kind c.args.from c.args.to.end c.args.to.byte c.args.reader.now (sym c.around_in.ensures ∙ ap parent_of c.in-Content.is) c.requires.1.1.1.1.1.1 _ refl

pub read_siblings-returns-in_ok-read_content-in-Content-clause-limit : goal.read_siblings-returns-in_ok-read_content-in-Content-clause-limit
read_siblings-returns-in_ok-read_content-in-Content-clause-limit t c =
    content_limits c.args.text.now c.args.forest.now c.args.kind c.args.from c.args.to.end c.args.to.byte c.args.reader.now (sym c.around_in.ensures ∙ ap parent_of c.in-Content.is) c.requires.1.1.1.1.1.1
    (λ l. l ≡ None) c.in_ok-read_content-in-Content.ensures.limit

pub read_siblings-read_blocks-requires : goal.read_siblings-read_blocks-requires
read_siblings-read_blocks-requires t c = (
  omega (arith, c.requires.1.0),
  (
    c.requires.1.1.0,
    (c.requires.1.1.1.0, (c.requires.1.1.1.1.0, (holds c.args.kind c.around_in.result c.around_in.ensures c.in_default.not-Content, (c.requires.1.1.1.1.1.0, c.requires.1.1.1.1.1.1)))),
  ),
)

pub read_siblings-returns-in_default-clause-ok : goal.read_siblings-returns-in_default-clause-ok
read_siblings-returns-in_default-clause-ok t c =
    subst (λ a. OnOk c.read_blocks.result (OfSiblings c.args.text.now c.args.forest.now c.args.from c.args.to.end c.args.to.byte (λ parts at. c.read_blocks.new.reader ≡ with_siblings a parts at c.args.reader.now))) c.around_in.ensures
    c.read_blocks.ensures.ok

pub read_siblings-returns-in_default-clause-white : goal.read_siblings-returns-in_default-clause-white
read_siblings-returns-in_default-clause-white t c =
    subst (λ a. IfOk c.read_blocks.result (λ white. OfSiblings c.args.text.now c.args.forest.now c.args.from c.args.to.end c.args.to.byte (λ parts at. chars white.now ≡ white_at_end a parts at c.args.reader.now))) c.around_in.ensures
    c.read_blocks.ensures.white

pub read_siblings-returns-in_default-clause-limit : goal.read_siblings-returns-in_default-clause-limit
read_siblings-returns-in_default-clause-limit t c =
    subst (λ a. OfSiblings c.args.text.now c.args.forest.now c.args.from c.args.to.end c.args.to.byte (λ parts at. Stops c.read_blocks.result (siblings_limit a parts at c.args.reader.now))) c.around_in.ensures c.read_blocks.ensures.limit
