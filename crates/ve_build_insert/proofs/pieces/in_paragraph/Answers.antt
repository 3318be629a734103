use Rattle.std.proofs.Common.{◌++◌, List, sym, ap, ◌∙◌}
use Rattle.model_items.specs.declared.item.Item.{Item}
use Rattle.model_items.specs.Plain.{plain_list}
use Rattle.ve_build_insert.specs.Placed.{framed}
use Rattle.ve_build_insert.proofs.PieceLemmas.{paragraph_of, paragraph_plain, paragraph_cites}
use Rattle.ve_build_insert.proofs.pieces.in_paragraph.Goals as goal

pub returns-then-not-paragraph-clause-means : goal.returns-then-not-paragraph-clause-means
returns-then-not-paragraph-clause-means c = λ values.
    let items = c.args.pieces.now in
    ap (plain_list values) (c.in_ok-extend.ensures.ok ∙ ap (λ (l : List Item). l ++ items) c.new-placed.ensures)
    ∙ sym (ap (λ b. framed b (plain_list values items)) c.if-not-paragraph.true)

pub returns-clause-means : goal.returns-clause-means
returns-clause-means c = λ values.
    let items = c.args.pieces.now in
    let whole = paragraph_of items c.new-placed.result c.push.new.self c.extend-2.new.self c.push-2.new.self c.new-placed.ensures c.in_ok-push.ensures.ok c.in_ok-extend-2.ensures.ok c.in_ok-push-2.ensures.ok in
    paragraph_plain values items c.push-2.new.self whole
    ∙ sym (ap (λ b. framed b (plain_list values items)) c.if-not-paragraph.false)

pub returns-clause-cites : goal.returns-clause-cites
returns-clause-cites c = λ values cites.
    let items = c.args.pieces.now in
    let whole = paragraph_of items c.new-placed.result c.push.new.self c.extend-2.new.self c.push-2.new.self c.new-placed.ensures c.in_ok-push.ensures.ok c.in_ok-extend-2.ensures.ok c.in_ok-push-2.ensures.ok in
    paragraph_cites values items c.push-2.new.self whole cites
