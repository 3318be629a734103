use Rattle.std.proofs.Common.{[], ap, ◌∙◌, subst}
use Rattle.model_change.specs.Store.{cited, fill}
use Rattle.model_page.specs.Fit.{around_in}
use Rattle.ve_read.specs.Blocks.{siblings_limit}
use Rattle.ve_reader.specs.ReadSoFar.{ReadSoFar}
use Rattle.ve_reader.specs.Stops.{stop_limit}
use Rattle.ve_read.specs.Forests.{parts_in}
use Rattle.ve_read.proofs.FragmentLemmas.{pieces_read, mark_over, never_deep, marks_within}
use Rattle.ve_read.proofs.fragments.read_in.Goals as goal

pub read_whole-requires-clause-unmarked : goal.read_whole-requires-clause-unmarked
read_whole-requires-clause-unmarked c = ap (λ (r : ReadSoFar). r.marks) c.new-reader.ensures

pub returns-in-Err-TooManyMarks-clause-limit : goal.returns-in-Err-TooManyMarks-clause-limit
returns-in-Err-TooManyMarks-clause-limit c =
    let stopped = subst (λ s. stop_limit s (siblings_limit (around_in c.args.kind) (parts_in c.args.text.now) 0 c.new-reader.result)) c.in-Err-TooManyMarks.field-0-is c.in-Err-TooManyMarks.ensures.limit in
    mark_over c.args.text.now c.args.kind c.new-reader.result c.new-reader.ensures _ stopped

pub unreachable-requires : goal.unreachable-requires
unreachable-requires c =
    let stopped = subst (λ s. stop_limit s (siblings_limit (around_in c.args.kind) (parts_in c.args.text.now) 0 c.new-reader.result)) c.in-Err-TooDeep.field-0-is c.in-Err-TooDeep.ensures.limit in
    never_deep c.args.text.now c.args.kind c.new-reader.result c.new-reader.ensures _ stopped

pub returns-clause-items : goal.returns-clause-items
returns-clause-items c = c.in_ok-parts.ensures.items ∙ pieces_read c.args.text.now c.args.kind c.new-reader.result c.read_whole.new.reader c.new-reader.ensures c.in-Ok.ensures.ok

pub returns-clause-values : goal.returns-clause-values
returns-clause-values c =
    c.in_ok-parts.ensures.values ∙ ap (λ items. fill [] (cited items)) (pieces_read c.args.text.now c.args.kind c.new-reader.result c.read_whole.new.reader c.new-reader.ensures c.in-Ok.ensures.ok)

pub returns-clause-limit : goal.returns-clause-limit
returns-clause-limit c = marks_within c.args.text.now c.args.kind c.new-reader.result c.new-reader.ensures c.in-Ok.ensures.limit
