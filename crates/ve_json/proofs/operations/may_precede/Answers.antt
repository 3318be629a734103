use Rattle.std.proofs.Common.{ap, sym, ◌∙◌, ◌∷◌, subst}
use Rattle.model_world.specs.Operations as operations
use Rattle.ve_tx.specs.Noted.{HaveSameNames}
use Rattle.ve_tx.proofs.NotedLemmas.{one_more_first}
use Rattle.ve_json.specs.Settings.{names_set}
use Rattle.model_world.specs.declared.edit_command.OpWords.{OpWords}
use Rattle.ve_json.proofs.SettingLemmas.{new_set, noted_set}
use Rattle.ve_json.proofs.operations.may_precede.Goals as goal

pub returns-then-is_new-clause-may : goal.returns-then-is_new-clause-may
returns-then-is_new-clause-may c =
    new_set _ c.in-Attr.to c.args.later.now c.args.names.now c.may_follow_setting.result c.requires.normal c.requires.names (c.in_ok-is_new-in-Attr.ensures.new.0 c.if-is_new.true) c.may_follow_setting.ensures
    ∙ ap (λ (op : OpWords). operations.word_may_precede op c.args.later.now) (sym c.in-Attr.is)

pub returns-then-is_new-clause-names : goal.returns-then-is_new-clause-names
returns-then-is_new-clause-names c = λ may.
    subst (λ (op : OpWords). HaveSameNames c.note.new.self (names_set (op ∷ c.args.later.now))) (sym c.in-Attr.is)
    (one_more_first _ c.args.names.now c.note.new.self (names_set c.args.later.now) c.requires.names c.in_ok-is_new-in-Attr.ensures.noted)

pub returns-else-is_new-clause-may : goal.returns-else-is_new-clause-may
returns-else-is_new-clause-may c =
    c.if-is_new.false ∙ sym (ap (λ (op : OpWords). operations.word_may_precede op c.args.later.now) c.in-Attr.is ∙ noted_set _ c.in-Attr.to c.args.later.now c.args.names.now _ c.requires.names c.in_ok-is_new-in-Attr.ensures.new.1 c.if-is_new.false)
