use Rattle.std.proofs.Common.{◌≡◌, suc, ◌+◌, subst, arith}
use Rattle.std.proofs.lemmas.Result.{err_from_is_err_and}
use Rattle.ve_reader.specs.Claimed.{lent_owner}
use Rattle.ve_read.proofs.BodyLemmas.{Left, left_first, left_next, left_over}
use Rattle.ve_read.proofs.SpelledLemmas.{spelled_at}
use Rattle.ve_read.proofs.bodies.read_owners.Goals as goal

pub loop-k-init : goal.loop-k-init
loop-k-init c = left_first c.args.from c.args.owners.now c.args.reader.now c.requires.ready

pub returns-in_err-read_owner-clause-limit : goal.returns-in_err-read_owner-clause-limit
returns-in_err-read_owner-clause-limit c =
    let p = err_from_is_err_and c.from_residual.result c.from_residual.ensures.1 in
    rw (p.1, p.2)
    (left_over c.args.from c.args.owners.now c.args.reader.now c.loop-k.k c.loop-k.reader (lent_owner c.get.result) c.in_err-read_owner.field-0.0 c.loop-k.invariant c.get.ensures
    c.in_err-read_owner.ensures.limit)

pub loop-k-preserved : goal.loop-k-preserved
loop-k-preserved c =
    let next : suc c.loop-k.k ≡ c.loop-k.k + 1 = omega arith in
    subst (λ n. Left c.args.from c.args.owners.now c.args.reader.now n c.read_owner.new.reader) next
    (left_next c.args.from c.args.owners.now c.args.reader.now c.loop-k.k c.loop-k.reader c.read_owner.new.reader (lent_owner c.get.result) c.loop-k.invariant c.get.ensures
    c.in_ok-read_owner.ensures.ok c.in_ok-read_owner.ensures.limit)

pub read_owner-requires : goal.read_owner-requires
read_owner-requires c = record {
  ready = c.loop-k.invariant.ready;
  spelled = spelled_at c.args.owners.now c.loop-k.k (lent_owner c.get.result) c.requires.spelled c.get.ensures;
}
