use Rattle.std.proofs.Common.{[], get_or, sym, ap, ◌∙◌, arith}
use Rattle.model_items.specs.Plain.{plain_list}
use Rattle.model_items.specs.Offsets.{is_unmatched}
use Rattle.model_edit.specs.Remove as model
use Rattle.ve_build_remove.proofs.RemoveLemmas.{two, pair_in, past}
use Rattle.ve_build_remove.proofs.join.join_at.Goals as goal

pub join_by-requires-clause-first : goal.join_by-requires-clause-first
join_by-requires-clause-first c =
    let h = pair_in (is_unmatched (plain_list [] c.args.doc.list.now.items) c.args.from c.args.to) c.args.from c.args.to c.args.unmatched.now c.requires.order (c.requires.unmatched []) (omega arith) in
    omega (arith, h.2)

pub join_by-requires-clause-second : goal.join_by-requires-clause-second
join_by-requires-clause-second c =
    let h = pair_in (is_unmatched (plain_list [] c.args.doc.list.now.items) c.args.from c.args.to) c.args.from c.args.to c.args.unmatched.now c.requires.order (c.requires.unmatched []) (omega arith) in
    omega (arith, h.3.2)

pub returns-clause-join : goal.returns-clause-join
returns-clause-join c = λ values.
    c.join_by.ensures.join values ∙ ap (model.join_at (plain_list values c.args.doc.list.now.items)) (sym (two c.args.unmatched.now (omega arith)))

pub returns-clause-past : goal.returns-clause-past
returns-clause-past c =
    let h = pair_in (is_unmatched (plain_list [] c.args.doc.list.now.items) c.args.from c.args.to) c.args.from c.args.to c.args.unmatched.now c.requires.order (c.requires.unmatched []) (omega arith) in
    past c.args.doc.list.now.items c.args.from c.args.to (get_or c.args.unmatched.now 1 0) c.join_by.result c.join_by.ensures.after c.join_by.ensures.closing h.3.0 h.3.1
