use Rattle.std.proofs.Common.{◌≡◌, if◌then◌else◌, Ok, Err, is_ok, inr, refl, [], ◌∷◌, slice_get, sym, ap, ◌∙◌}
use Rattle.std.proofs.lemmas.Bool.{and_parts}
use Rattle.model_items.specs.Plain.{plain_list}
use Rattle.model_edit.specs.Causes.{NotBranch}
use Rattle.model_edit.specs.Brackets.{closing_of}
use Rattle.model_edit.specs.Convert as model
use Rattle.model_edit.specs.Edits.{Change, transaction_of}
use Rattle.model_items.specs.Offsets.{partner}
use Rattle.ve_build_shape.proofs.kinds.convert.Goals as goal

pub returns-then-not-may_convert-clause-refused : goal.returns-then-not-may_convert-clause-refused
returns-then-not-may_convert-clause-refused c =
    let all = plain_list c.args.doc.store.now c.args.doc.list.now.items in
    let at = c.args.at in
    let kind = c.args.kind in
    let given = transaction_of all (Change at 1 (model.converted kind (slice_get all at)) ∷ Change (partner all at) 1 (closing_of kind ∷ []) ∷ []) in
    inr (NotBranch at, ap (λ b. if b then Ok given else Err (NotBranch at)) (sym (c.may_convert.ensures.means c.args.doc.store.now) ∙ c.if-not-may_convert.true), refl)

pub converted-requires-clause-opens : goal.converted-requires-clause-opens
converted-requires-clause-opens c = λ values. (and_parts _ _ (sym (c.may_convert.ensures.means values) ∙ c.if-not-may_convert.false)).0

pub returns-in-Ok-clause-means : goal.returns-in-Ok-clause-means
returns-in-Ok-clause-means c =
    let all = plain_list c.args.doc.store.now c.args.doc.list.now.items in
    let at = c.args.at in
    let kind = c.args.kind in
    let given = transaction_of all (Change at 1 (model.converted kind (slice_get all at)) ∷ Change (partner all at) 1 (closing_of kind ∷ []) ∷ []) in
    ap (λ b. if b then Ok given else Err (NotBranch at)) (sym (c.may_convert.ensures.means c.args.doc.store.now) ∙ c.if-not-may_convert.false)
    ∙ ap Ok (sym (c.in-Ok.ensures.means c.args.doc.store.now c.requires.cites))

pub returns-in-Ok-clause-cites : goal.returns-in-Ok-clause-cites
returns-in-Ok-clause-cites c = c.in-Ok.ensures.cites c.args.doc.store.now c.requires.cites

pub returns-in-Err-clause-memory : goal.returns-in-Err-clause-memory
returns-in-Err-clause-memory c = λ _.
    let all = plain_list c.args.doc.store.now c.args.doc.list.now.items in
    let at = c.args.at in
    let kind = c.args.kind in
    let given = transaction_of all (Change at 1 (model.converted kind (slice_get all at)) ∷ Change (partner all at) 1 (closing_of kind ∷ []) ∷ []) in
    let made : model.convert all at kind ≡ Ok given =
    ap (λ b. if b then Ok given else Err (NotBranch at)) (sym (c.may_convert.ensures.means c.args.doc.store.now) ∙ c.if-not-may_convert.false) in
    ap is_ok made
