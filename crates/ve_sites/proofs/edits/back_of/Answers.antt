use Rattle.std.proofs.Common.{◌≡◌, Ok, map, sym, ap, ◌∙◌, subst}
use Rattle.std.proofs.lemmas.Result.{err_from_is_err_and}
use Rattle.model_change.specs.Replay.{revoke}
use Rattle.model_site.specs.Live.{in_conflict}
use Rattle.ve_peer_undo.specs.Counting.{hinted_parcel}
use Rattle.ve_peer_undo.specs.Refusal.{IsLiveRefusal, live_fault}
use Rattle.ve_tx.specs.ByValue.{parcel_by_value}
use Rattle.ve_sites.specs.FirstBack.{first_back}
use Rattle.ve_sites.proofs.RevokeLemmas.{first_is, first_refused}
use Rattle.ve_sites.proofs.edits.back_of.Goals as goal

pub returns-in_err-back-clause-refused : goal.returns-in_err-back-clause-refused
returns-in_err-back-clause-refused c =
    let cs = c.args.known.now in
    let why = c.in_err-back.field-0.0 in
    let q = err_from_is_err_and c.from_residual.result c.from_residual.ensures.1 in
    rw (q.1, q.2)
    (subst (λ way. IsLiveRefusal (first_back way c.args.number (map hinted_parcel cs)) (live_fault why)) (sym c.if-live.false)
    (subst (λ r. IsLiveRefusal r (live_fault why)) (first_is cs) (first_refused (revoke (map parcel_by_value cs) 0) why c.in_err-back.ensures.refused)))

pub returns-clause-back : goal.returns-clause-back
returns-clause-back c =
    let cs = c.args.known.now in
    subst (λ way. first_back way c.args.number (map hinted_parcel cs) ≡ Ok (parcel_by_value c.in_ok-back.back)) (sym c.if-live.false)
    (sym (first_is cs) ∙ ap in_conflict c.in_ok-back.ensures.back)
