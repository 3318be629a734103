use Rattle.std.proofs.Common.{ap, sym, ◌∙◌, ◌∷◌, subst}
use Rattle.ve_tx.specs.declared.op.Op.{Op}
use Rattle.ve_tx.specs.Normal.{first_names, may_stand_before}
use Rattle.ve_tx.specs.Noted.{HaveSameNames}
use Rattle.ve_tx.proofs.NotedLemmas.{one_more_first}
use Rattle.ve_tx.proofs.FirstNamesLemmas.{new_apart, noted_apart}
use Rattle.ve_tx.proofs.normal.may_precede_by_names.Goals as goal

pub returns-then-is_new-clause-may : goal.returns-then-is_new-clause-may
returns-then-is_new-clause-may c =
    new_apart _ c.args.later.now c.args.names.now c.may_follow_attribute.result c.requires.reduced c.requires.names (c.in_ok-is_new-in-Attribute.ensures.new.0 c.if-is_new.true) c.may_follow_attribute.ensures
    ∙ ap (λ (op : Op). may_stand_before op c.args.later.now) (sym c.in-Attribute.is)

pub returns-then-is_new-clause-names : goal.returns-then-is_new-clause-names
returns-then-is_new-clause-names c = λ may.
    subst (λ (op : Op). HaveSameNames c.note.new.self (first_names (op ∷ c.args.later.now))) (sym c.in-Attribute.is)
    (one_more_first _ c.args.names.now c.note.new.self (first_names c.args.later.now) c.requires.names c.in_ok-is_new-in-Attribute.ensures.noted)

pub returns-else-is_new-clause-may : goal.returns-else-is_new-clause-may
returns-else-is_new-clause-may c =
    c.if-is_new.false ∙ sym (ap (λ (op : Op). may_stand_before op c.args.later.now) c.in-Attribute.is ∙ noted_apart _ c.args.later.now c.args.names.now _ c.requires.names c.in_ok-is_new-in-Attribute.ensures.new.1 c.if-is_new.false)
