use Rattle.model_change.specs.Store.{head_cited, marks_cited}
use Rattle.ve_tx.proofs.ValuesLemmas.{extends_on, extends_by_fill}
use Rattle.ve_reader.proofs.ExtendLemmas.{extends_same, knows_on, more_leaf}
use Rattle.ve_reader.proofs.put.put_leaf.Goals as goal

pub returns-in_err-head-clause-extends : goal.returns-in_err-head-clause-extends
returns-in_err-head-clause-extends c = extends_same c.args.values.now c.cite_head.new.store c.in_err-head.ensures.err

pub marks_around-requires : goal.marks_around-requires
marks_around-requires c = knows_on c.args.values.now c.cite_head.new.store c.args.marks.now c.args.known (extends_by_fill c.args.values.now c.cite_head.new.store (head_cited c.args.opening.head) c.in_ok-head.ensures.store) c.requires

pub returns-in_err-marks-clause-extends : goal.returns-in_err-marks-clause-extends
returns-in_err-marks-clause-extends c = extends_on c.args.values.now c.cite_head.new.store c.marks_around.new.store (extends_by_fill c.args.values.now c.cite_head.new.store (head_cited c.args.opening.head) c.in_ok-head.ensures.store) (extends_same c.cite_head.new.store c.marks_around.new.store c.in_err-marks.ensures.err)

pub returns-in_err-push-clause-extends : goal.returns-in_err-push-clause-extends
returns-in_err-push-clause-extends c = extends_on c.args.values.now c.cite_head.new.store c.marks_around.new.store (extends_by_fill c.args.values.now c.cite_head.new.store (head_cited c.args.opening.head) c.in_ok-head.ensures.store) (extends_by_fill c.cite_head.new.store c.marks_around.new.store (marks_cited c.args.marks.now) c.in_ok-marks.ensures.store)

pub returns-clause-ok : goal.returns-clause-ok
returns-clause-ok c = more_leaf c.args.values.now c.cite_head.new.store c.marks_around.new.store c.args.items.now c.push.new.self c.args.opening.kind c.args.opening.head c.in_ok-head.head c.args.opening.origin c.args.opening.generated c.in_ok-head.ensures.cites c.in_ok-head.ensures.head c.in_ok-head.ensures.store c.in_ok-marks.marks c.args.marks.now c.in_ok-push.ensures.ok c.in_ok-marks.ensures.cites c.in_ok-marks.ensures.marks c.in_ok-marks.ensures.store

pub returns-clause-extends : goal.returns-clause-extends
returns-clause-extends c = extends_on c.args.values.now c.cite_head.new.store c.marks_around.new.store (extends_by_fill c.args.values.now c.cite_head.new.store (head_cited c.args.opening.head) c.in_ok-head.ensures.store) (extends_by_fill c.cite_head.new.store c.marks_around.new.store (marks_cited c.args.marks.now) c.in_ok-marks.ensures.store)
