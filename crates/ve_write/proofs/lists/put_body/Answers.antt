use Rattle.std.proofs.Common.{refl, None}
use Rattle.ve_write.specs.Told.{text_of, Known}
use Rattle.ve_write.proofs.BodyLemmas.{body_done, no_texts}
use Rattle.ve_write.proofs.lists.put_body.Goals as goal

pub returns-clause-text : goal.returns-clause-text
returns-clause-text c =
    let k : Known = record { values = c.args.store.now; items = c.args.list.now.items; originals = λ n. None; texts = text_of c.new-texts.result } in
    body_done k c.args.at c.in_ok-end.end c.after_siblings.result c.args.out.now _ _ (λ n. refl) (no_texts c.new-texts.result c.new-texts.ensures.empty)
    c.in_ok-end.ensures.ends c.after_siblings.ensures.follows c.in_ok-end.ensures.text c.in_ok-put_white.ensures.text
