use Rattle.std.specs.Str.{chars}
use Rattle.model_change.specs.Store.{head_cited, white_cited}
use Rattle.ve_tx.proofs.ValuesLemmas.{extends_on, extends_by_fill}
use Rattle.ve_reader.proofs.ExtendLemmas.{extends_same, more_block}
use Rattle.ve_reader.proofs.put.put_block.Goals as goal

pub returns-in_err-head-clause-extends : goal.returns-in_err-head-clause-extends
returns-in_err-head-clause-extends c = extends_same c.args.values.now c.cite_head.new.store c.in_err-head.ensures.err

pub returns-in_err-pre-clause-extends : goal.returns-in_err-pre-clause-extends
returns-in_err-pre-clause-extends c = extends_on c.args.values.now c.cite_head.new.store c.cite_white.new.store (extends_by_fill c.args.values.now c.cite_head.new.store (head_cited c.args.opening.head) c.in_ok-head.ensures.store) (extends_same c.cite_head.new.store c.cite_white.new.store c.in_err-pre.ensures.err)

pub returns-in_err-push-clause-extends : goal.returns-in_err-push-clause-extends
returns-in_err-push-clause-extends c = extends_on c.args.values.now c.cite_head.new.store c.cite_white.new.store (extends_by_fill c.args.values.now c.cite_head.new.store (head_cited c.args.opening.head) c.in_ok-head.ensures.store) (extends_by_fill c.cite_head.new.store c.cite_white.new.store (white_cited (chars c.args.white.now)) c.in_ok-pre.ensures.store)

pub returns-clause-ok : goal.returns-clause-ok
returns-clause-ok c = more_block c.args.values.now c.cite_head.new.store c.cite_white.new.store c.args.items.now c.push.new.self c.args.opening.kind c.args.opening.head c.in_ok-head.head c.args.opening.origin c.args.opening.generated c.in_ok-head.ensures.cites c.in_ok-head.ensures.head c.in_ok-head.ensures.store c.in_ok-pre.pre (chars c.args.white.now) c.in_ok-push.ensures.ok c.in_ok-pre.ensures.cites c.in_ok-pre.ensures.white c.in_ok-pre.ensures.store

pub returns-clause-extends : goal.returns-clause-extends
returns-clause-extends c = extends_on c.args.values.now c.cite_head.new.store c.cite_white.new.store (extends_by_fill c.args.values.now c.cite_head.new.store (head_cited c.args.opening.head) c.in_ok-head.ensures.store) (extends_by_fill c.cite_head.new.store c.cite_white.new.store (white_cited (chars c.args.white.now)) c.in_ok-pre.ensures.store)
