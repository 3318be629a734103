use Rattle.std.proofs.Common.{◌≡◌, Ok, map, sym, ap, subst, ◌∙◌}
use Rattle.std.specs.Result.{IfErr, IfOk}
use Rattle.model_change.specs.Replay.{made_after, reversal}
use Rattle.ve_tx.specs.ByValue.{parcel_by_value}
use Rattle.ve_tx.specs.declared.parcel.Parcel.{Parcel}
use Rattle.ve_rebase.specs.Entries.{outline}
use Rattle.ve_rebase.specs.Lists.{RunFromOneLength}
use Rattle.ve_peer_undo.specs.Refusal.{IsRevokeRefusal}
use Rattle.ve_peer_undo.proofs.UndoneLemmas.{entry_by_value, later_by_value, ok_outline, revoke_is}
use Rattle.ve_peer_undo.proofs.undo.reversal.Goals as goal

pub over_later-requires-clause-run : goal.over_later-requires-clause-run
over_later-requires-clause-run c =
    let ps = c.args.entries.now in
    let i = c.args.i in
    let back = c.in_ok-back.ensures.back ∙ ap reversal (sym (entry_by_value ps i c.index-entries-i.result c.requires.within c.index-entries-i.is)) in
    subst (λ ts. RunFromOneLength ts (parcel_by_value c.in_ok-back.back)) (sym (later_by_value ps i))
    (subst (RunFromOneLength (made_after (map parcel_by_value ps) i)) (sym back) c.requires.run)

pub returns-clause-back : goal.returns-clause-back
returns-clause-back c =
    let is = revoke_is c.args.entries.now c.args.i c.index-entries-i.result c.in_ok-back.back c.requires.within c.index-entries-i.is c.in_ok-back.ensures.back in
    subst (λ r. IfOk c.over_later.result (λ (made : Parcel). r ≡ Ok (parcel_by_value made))) is c.over_later.ensures.joined

pub returns-clause-outline : goal.returns-clause-outline
returns-clause-outline c =
    ok_outline c.args.entries.now c.args.i c.index-entries-i.result (outline c.in_ok-back.back) c.over_later.result c.requires.within c.index-entries-i.is c.in_ok-back.ensures.outline
    c.over_later.ensures.outline

pub returns-clause-refused : goal.returns-clause-refused
returns-clause-refused c =
    let is = revoke_is c.args.entries.now c.args.i c.index-entries-i.result c.in_ok-back.back c.requires.within c.index-entries-i.is c.in_ok-back.ensures.back in
    subst (λ r. IfErr c.over_later.result (IsRevokeRefusal r)) is c.over_later.ensures.refused
