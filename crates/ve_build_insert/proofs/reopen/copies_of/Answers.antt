use Rattle.std.proofs.Common.{◌-◌, arith}
use Rattle.ve_store.specs.Following.{together}
use Rattle.ve_tx.proofs.ValuesLemmas.{all-extended}
use Rattle.ve_edits.proofs.FollowingLemmas.{grows_extends}
use Rattle.ve_build_insert.proofs.ReopenLemmas.{copies_step}
use Rattle.ve_build_insert.proofs.reopen.copies_of.Goals as goal

pub copy_of-requires-clause-cites : goal.copy_of-requires-clause-cites
copy_of-requires-clause-cites c =
    let S = c.args.store.now in
    let l = c.loop-left in
    let openings = c.args.openings.now in
    all-extended (together S c.args.new.now) (together S l.new) (grows_extends S c.args.new.now l.new l.invariant.grown) openings c.requires.cites (l.left - 1) _
    (let inside = l.invariant.within in omega (arith, inside, c.loop-left-test.true))

pub loop-left-preserved : goal.loop-left-preserved
loop-left-preserved c =
    let l = c.loop-left in
    copies_step c.args.store.now c.args.openings.now l.left c.args.new.now l.new c.copy_of.new.new l.copies _ c.in_ok-copy.copy c.loop-left-test.true c.requires.cites l.invariant c.copy_of.ensures.grows
    c.in_ok-copy.ensures.means c.in_ok-copy.ensures.cites c.in_ok-copy.ensures.values c.push.new.self c.in_ok-push.ensures.ok
