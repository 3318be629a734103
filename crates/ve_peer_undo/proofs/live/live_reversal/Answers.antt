use Rattle.std.proofs.lemmas.Result.{err_from_is_err_and}
use Rattle.ve_peer_undo.proofs.WalkLemmas.{is_refused, is_revoked, may_join}
use Rattle.ve_peer_undo.proofs.live.live_reversal.Goals as goal

pub over_later-requires-clause-run : goal.over_later-requires-clause-run
over_later-requires-clause-run c =
    may_join c.args.number c.args.entries.now c.requires.some c.in_ok-_numbers._numbers.items c.in_ok-_numbers.parcels c.in_ok-_numbers.ensures.ok
    c.index-entries-0.result c.in_ok-back.back c.index-entries-0.is c.in_ok-back.ensures.back c.as_slice.result.now c.as_slice.ensures

pub returns-in_err-made-clause-refused : goal.returns-in_err-made-clause-refused
returns-in_err-made-clause-refused c =
    let told =
    is_refused c.args.number c.args.entries.now c.requires.some c.in_ok-_numbers._numbers.items c.in_ok-_numbers.parcels c.in_ok-_numbers.ensures.ok
    c.index-entries-0.result c.in_ok-back.back c.index-entries-0.is c.in_ok-back.ensures.back c.as_slice.result.now c.as_slice.ensures c.in_err-made.field-0.0 c.in_err-made.ensures.refused in
    let p = err_from_is_err_and c.from_residual-in_err-made.result c.from_residual-in_err-made.ensures.1 in
    rw (p.1, p.2) told

pub returns-clause-back : goal.returns-clause-back
returns-clause-back c =
    is_revoked c.args.number c.args.entries.now c.requires.some c.in_ok-_numbers._numbers.items c.in_ok-_numbers.parcels c.in_ok-_numbers.ensures.ok
    c.index-entries-0.result c.in_ok-back.back c.index-entries-0.is c.in_ok-back.ensures.back c.as_slice.result.now c.as_slice.ensures _ c.in_ok-made.ensures.joined
