use Rattle.std.proofs.Common.{◌≡◌, sym, ap, ◌∙◌, arith}
use Rattle.ve_answers.specs.Replies.{offset_reply}
use Rattle.model_world.specs.Answers.{edge_or}
use Rattle.ve_answers.proofs.NearLemmas.{near_told}
use Rattle.ve_answers.proofs.place.near.Goals as goal

pub returns-in-Some-clause-reply : goal.returns-in-Some-clause-reply
returns-in-Some-clause-reply c =
    ap (λ o. offset_reply (edge_or c.args.at o)) (sym c.in-Some.is)
    ∙ near_told c.args.doc.store.now c.args.doc.list.now.items c.args.at c.args.dir c.content_near.result (omega (arith, c.if-len-at.false, c.len.ensures)) c.content_near.ensures

pub returns-in-None-clause-reply : goal.returns-in-None-clause-reply
returns-in-None-clause-reply c =
    ap (λ o. offset_reply (edge_or c.args.at o)) (sym c.in-None.is)
    ∙ near_told c.args.doc.store.now c.args.doc.list.now.items c.args.at c.args.dir c.content_near.result (omega (arith, c.if-len-at.false, c.len.ensures)) c.content_near.ensures
