use Rattle.std.proofs.Common.{◌++◌, List, ap, ◌∙◌}
use Rattle.model_items.specs.declared.item.Item.{Item}
use Rattle.ve_store.specs.Following.{together}
use Rattle.ve_build_insert.proofs.ReopenLemmas.{reopened_by}
use Rattle.ve_build_insert.proofs.reopen.reopened.Goals as goal

pub returns-clause-made : goal.returns-clause-made
returns-clause-made c =
    let start = together c.args.store.now c.args.new.now in
    let copies = c.in_ok-copies.copies in
    reopened_by c.args.store.now c.args.openings.now c.args.pieces.now c.in_ok-made.made copies c.extend-2.new.self c.args.new.now c.copies_of.new.new
    c.requires.openings c.requires.pieces c.in_ok-made.ensures.means (c.in_ok-made.ensures.cites start c.requires.openings) c.in_ok-copies.ensures.copies
    (c.in_ok-extend-2.ensures.ok ∙ ap (λ (l : List Item). c.extend.new.self ++ l) c.as_slice.ensures ∙ ap (λ (l : List Item). l ++ copies) c.in_ok-extend.ensures.ok)
