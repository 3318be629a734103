use Rattle.std.proofs.Common.{◌&&◌, sym, ap, ◌∙◌}
use Rattle.std.specs.List.{list_all}
use Rattle.model_items.specs.Plain.{plain_list}
use Rattle.model_edit.specs.Insert.{may_hold_item, may_hold_pieces, outer_items}
use Rattle.ve_build_insert.specs.Placed.{framed}
use Rattle.ve_build_insert.proofs.PieceLemmas.{held_framed}
use Rattle.ve_build_insert.proofs.pieces.may_hold_pieces.Goals as goal

pub returns-then-not-paragraph : goal.returns-then-not-paragraph
returns-then-not-paragraph c = λ values.
    c.all_outer.ensures values ∙ sym (ap (λ b. may_hold_pieces c.args.parent (framed b (plain_list values c.args.pieces.now))) c.if-not-paragraph.true)

pub returns-then-not-may_hold : goal.returns-then-not-may_hold
returns-then-not-may_hold c = λ values.
    let pieces = plain_list values c.args.pieces.now in
    sym (ap (λ b. may_hold_pieces c.args.parent (framed b pieces)) c.if-not-paragraph.false
    ∙ held_framed c.args.parent pieces
    ∙ ap (λ b. b && list_all (may_hold_item c.args.parent) (outer_items 1 pieces)) (sym c.may_hold.ensures ∙ c.if-not-may_hold.true))

pub returns : goal.returns
returns c = λ values.
    let pieces = plain_list values c.args.pieces.now in
    c.all_outer-2.ensures values
    ∙ sym (ap (λ b. may_hold_pieces c.args.parent (framed b pieces)) c.if-not-paragraph.false
    ∙ held_framed c.args.parent pieces
    ∙ ap (λ b. b && list_all (may_hold_item c.args.parent) (outer_items 1 pieces)) (sym c.may_hold.ensures ∙ c.if-not-may_hold.false))
