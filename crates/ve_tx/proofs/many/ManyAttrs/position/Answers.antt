use Rattle.std.proofs.Common.{sym, ap, ap₂, ◌∙◌, unwrap_or}
use Rattle.std.specs.Str.{chars}
use Rattle.std.specs.BTreeMap.{get_by_text}
use Rattle.model_change.specs.Attributes.{position_of}
use Rattle.ve_tx.proofs.ManyLemmas.{position-found, position-missing}
use Rattle.ve_tx.proofs.many.ManyAttrs.position.Goals as goal

pub returns-in-Some : goal.returns-in-Some
returns-in-Some c =
    let name = c.args.name.now in
    let spelled = ap chars (sym c.as_str.ensures.bytes) ∙ c.as_str.ensures.chars in
    let found = ap (get_by_text c.self.inside.numbers) (sym c.as_str.ensures.bytes) ∙ sym c.in-Some.ensures.value in
    c.unwrap_or.ensures ∙ ap₂ unwrap_or c.position.ensures c.self.invariant.1 ∙ position-found c.self.invariant.0 name c.in-Some.number.now spelled found ∙ ap (position_of name) c.self.view_is

pub returns-in-None : goal.returns-in-None
returns-in-None c =
    let name = c.args.name.now in
    let none = ap (get_by_text c.self.inside.numbers) (sym c.as_str.ensures.bytes) ∙ sym c.in-None.ensures.value in
    c.self.invariant.1 ∙ position-missing c.self.invariant.0 name none ∙ ap (position_of name) c.self.view_is
