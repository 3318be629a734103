use Rattle.std.proofs.Common.{sym, ◌∙◌}
use Rattle.ve_store.specs.Following.{together}
use Rattle.ve_changes.proofs.CitedLemmas.{opening_cites, opening_means}
use Rattle.ve_changes.proofs.cited.cited_item.Goals as goal

pub returns-in_ok-pre-in-Opening-clause-cites : goal.returns-in_ok-pre-in-Opening-clause-cites
returns-in_ok-pre-in-Opening-clause-cites c =
    let S = c.args.store.now in
    let o = c.in-Opening in
    let head = c.in_ok-head-in-Opening in
    let marks = c.in_ok-marks-in-Opening in
    let white = c.in_ok-pre-in-Opening in
    opening_cites (together S c.args.new.now) (together S c.head_id.new.new) (together S c.marks_id-in-Opening.new.new) (together S c.white_id.new.new) o.kind o.generated o.origin
    head.head marks.marks white.pre o.head o.marks o.pre head.ensures.values marks.ensures.values white.ensures.values head.ensures.cites marks.ensures.cites white.ensures.cites

pub returns-in_ok-pre-in-Opening-clause-means : goal.returns-in_ok-pre-in-Opening-clause-means
returns-in_ok-pre-in-Opening-clause-means c =
    let S = c.args.store.now in
    let o = c.in-Opening in
    let head = c.in_ok-head-in-Opening in
    let marks = c.in_ok-marks-in-Opening in
    let white = c.in_ok-pre-in-Opening in
    opening_means (together S c.args.new.now) (together S c.head_id.new.new) (together S c.marks_id-in-Opening.new.new) (together S c.white_id.new.new) o.kind o.generated o.origin
    head.head marks.marks white.pre o.head o.marks o.pre head.ensures.values marks.ensures.values white.ensures.values head.ensures.cites marks.ensures.cites
    head.ensures.means marks.ensures.means white.ensures.means
    ∙ sym o.is
