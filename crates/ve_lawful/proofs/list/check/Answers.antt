use Rattle.std.proofs.Common.{◌≡◌, ◌<◌, ◌≤◌, length, Err, sym, ap, ◌∙◌, arith}
use Rattle.std.proofs.lemmas.Result.{err_from_is_err_and}
use Rattle.model_items.specs.Law as law
use Rattle.ve_lawful.proofs.WalkLemmas.{walked_on, walk_fails, verdict_fails}
use Rattle.ve_lawful.proofs.list.check.Goals as goal

pub returns-in_err-go_on-clause-err : goal.returns-in_err-go_on-clause-err
returns-in_err-go_on-clause-err c =
    let p = err_from_is_err_and c.from_residual.result c.from_residual.ensures.1 in
    let all : c.len-len.result ≡ length c.args.list.now.items = c.len-len.ensures in
    let below : c.loop-at.at < c.len-len.result = c.loop-at-test.true in
    let within : c.loop-at.at ≤ length c.args.list.now.items = omega arith in
    rw p.1
    (verdict_fails c.args.list.now.items _
    (walk_fails law.start c.loop-at.state c.args.list.now.items c.piece-piece.result.now c.loop-at.at (length c.piece-piece.result.now) _ within c.piece-piece.ensures.items
    c.loop-at.invariant.before (c.in_err-go_on.ensures.err ∙ ap Err (sym p.2))))

pub loop-at-preserved : goal.loop-at-preserved
loop-at-preserved c = record {
  within = c.piece-piece.ensures.within;
  before = walked_on law.start c.loop-at.state c.go_on.new.state c.args.list.now.items c.piece-piece.result.now c.loop-at.at (length c.piece-piece.result.now)
      c.piece-piece.ensures.items c.loop-at.invariant.before c.in_ok-go_on.ensures.ok;
}
