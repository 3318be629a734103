use Rattle.std.proofs.Common.{Bor, ℕ, List, [], ◌∷◌, option_map, Ok, is_ok, inr, refl, sym, ap, ◌∙◌}
use Rattle.std.specs.Str.{chars}
use Rattle.model_items.specs.Plain.{plain_list}
use Rattle.model_change.specs.Attributes as attributes
use Rattle.model_edit.specs.Causes.{NotOpening, BadAttr}
use Rattle.model_edit.specs.Edits.{Set, transaction_of}
use Rattle.ve_build_shape.proofs.SettingLemmas.{may_from, not_opening, bad_attr, attribute_given}
use Rattle.ve_build_shape.proofs.attributes.attribute.Goals as goal

pub returns-then-not-begins_element-clause-refused : goal.returns-then-not-begins_element-clause-refused
returns-then-not-begins_element-clause-refused c =
    let S = c.args.doc.store.now in
    let P = plain_list S c.args.doc.list.now.items in
    inr (NotOpening c.args.at, not_opening P c.args.at (chars c.args.name.now) (option_map (λ (spelled : Bor (List ℕ)). chars spelled.now) c.args.to) (sym (c.begins_element.ensures.means S) ∙ c.if-not-begins_element.true), refl)

pub returns-then-is_reserved-clause-refused : goal.returns-then-is_reserved-clause-refused
returns-then-is_reserved-clause-refused c =
    let S = c.args.doc.store.now in
    let P = plain_list S c.args.doc.list.now.items in
    inr (
      BadAttr c.args.at,
      bad_attr P c.args.at (chars c.args.name.now) (option_map (λ (spelled : Bor (List ℕ)). chars spelled.now) c.args.to) (sym (c.begins_element.ensures.means S) ∙ c.if-not-begins_element.false)
          (sym c.is_reserved.ensures ∙ c.if-is_reserved.true),
      refl,
    )

pub returns-in_default-clause-memory : goal.returns-in_default-clause-memory
returns-in_default-clause-memory c = λ _.
    let S = c.args.doc.store.now in
    let P = plain_list S c.args.doc.list.now.items in
    let to = option_map (λ (spelled : Bor (List ℕ)). chars spelled.now) c.args.to in
    ap is_ok (attribute_given P c.args.at (chars c.args.name.now) to (sym (c.begins_element.ensures.means S) ∙ c.if-not-begins_element.false)
    (sym c.is_reserved.ensures ∙ c.if-is_reserved.false))

pub set-requires-clause-may : goal.set-requires-clause-may
set-requires-clause-may c = λ values.
    may_from (plain_list values c.args.doc.list.now.items) c.args.at c.in-Ok.name (sym (c.begins_element.ensures.means values) ∙ c.if-not-begins_element.false)
    (ap attributes.is_reserved c.in-Ok.ensures ∙ sym c.is_reserved.ensures ∙ c.if-is_reserved.false)

pub returns-in-Ok-set-clause-means : goal.returns-in-Ok-set-clause-means
returns-in-Ok-set-clause-means c =
    let S = c.args.doc.store.now in
    let P = plain_list S c.args.doc.list.now.items in
    let to = option_map (λ (spelled : Bor (List ℕ)). chars spelled.now) c.args.to in
    attribute_given P c.args.at (chars c.args.name.now) to (sym (c.begins_element.ensures.means S) ∙ c.if-not-begins_element.false)
    (sym c.is_reserved.ensures ∙ c.if-is_reserved.false)
    ∙ ap Ok (sym (c.in-Ok-set.ensures.means ∙ ap (λ (name : List ℕ). transaction_of P (Set c.args.at name to ∷ [])) c.in-Ok.ensures))

pub returns-in-Err-clause-memory : goal.returns-in-Err-clause-memory
returns-in-Err-clause-memory c = λ _.
    let S = c.args.doc.store.now in
    let P = plain_list S c.args.doc.list.now.items in
    let to = option_map (λ (spelled : Bor (List ℕ)). chars spelled.now) c.args.to in
    ap is_ok (attribute_given P c.args.at (chars c.args.name.now) to (sym (c.begins_element.ensures.means S) ∙ c.if-not-begins_element.false)
    (sym c.is_reserved.ensures ∙ c.if-is_reserved.false))
