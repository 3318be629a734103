use Rattle.std.proofs.Common.{ℕ, None, List, [], ◌∷◌, slice_get, sym, ap, ◌∙◌, arith}
use Rattle.std.proofs.lemmas.List.Elements.{All-nil, All-cons}
use Rattle.model_items.specs.declared.item.Item.TheVariants as item
use Rattle.model_items.specs.declared.plain_item.PlainItem.{PlainItem}
use Rattle.model_items.specs.Plain.{plain, plain_list, CitesWell}
use Rattle.model_edit.specs.Brackets.{closing_of}
use Rattle.model_edit.specs.Convert as model
use Rattle.model_edit.specs.Edits.{Edit, Change, transaction_of}
use Rattle.ve_edits.proofs.BracketLemmas.{slice_get-plain, cites_there}
use Rattle.ve_build_shape.proofs.ConvertLemmas.{bounds, opens_there}
use Rattle.ve_build_shape.proofs.kinds.converted.Goals as goal

pub change-requires-2-clause-order : goal.change-requires-2-clause-order
change-requires-2-clause-order c =
    let items = c.args.doc.list.now.items in
    let x = c.get-item.result in
    let b = bounds [] items c.args.at x c.requires.doc.links.lawful c.get-item.ensures (opens_there [] items c.args.at x c.get-item.ensures (c.requires.opens [])) in
    let e = c.partner-other.ensures [] in
    omega (arith, b.0, e, c.in_ok-change.ensures.at)

pub change-requires-2-clause-within : goal.change-requires-2-clause-within
change-requires-2-clause-within c =
    let items = c.args.doc.list.now.items in
    let x = c.get-item.result in
    let b = bounds [] items c.args.at x c.requires.doc.links.lawful c.get-item.ensures (opens_there [] items c.args.at x c.get-item.ensures (c.requires.opens [])) in
    let e = c.partner-other.ensures [] in
    omega (arith, b.1, e)

pub transaction-requires : goal.transaction-requires
transaction-requires c =
    let items = c.args.doc.list.now.items in
    let x = c.get-item.result in
    let b = bounds [] items c.args.at x c.requires.doc.links.lawful c.get-item.ensures (opens_there [] items c.args.at x c.get-item.ensures (c.requires.opens [])) in
    let e = c.partner-other.ensures [] in
    omega (arith, b.1, e, c.in_ok-change-2.ensures.at)

pub returns-clause-means : goal.returns-clause-means
returns-clause-means c = λ values cited.
    let items = c.args.doc.list.now.items in
    let all = plain_list values items in
    let at = c.args.at in
    let x = c.get-item.result in
    let opening = c.with_kind-opening.result in
    let there = c.get-item.ensures in
    let W = CitesWell values in
    let here = c.with_kind-opening.ensures.cites values (cites_there values items at x cited there) in
    let one : Edit = Change at 1 (plain values opening ∷ []) in
    let other : ℕ → List Edit = λ n. Change n 1 (closing_of c.args.kind ∷ []) ∷ [] in
    let m = c.in_ok-change.ensures.makes values [] cited (All-cons W opening [] here (All-nil W)) (c.new-edits.ensures.makes values items) in
    let m2 = c.in_ok-change-2.ensures.makes values (one ∷ []) cited (All-cons W (item.Closing c.args.kind None) [] tt (All-nil W)) m in
    let same = c.with_kind-opening.ensures.means values (opens_there values items at x there (c.requires.opens values)) ∙ ap (model.converted c.args.kind) (sym (slice_get-plain values items at x there)) in
    c.in_ok-tx.ensures.means values (one ∷ other c.partner-other.result) m2
    ∙ ap (λ (l : List PlainItem). transaction_of all (Change at 1 l ∷ other c.partner-other.result)) same
    ∙ ap (λ n. transaction_of all (Change at 1 (model.converted c.args.kind (slice_get all at)) ∷ other n)) (c.partner-other.ensures values)

pub returns-clause-cites : goal.returns-clause-cites
returns-clause-cites c = λ values cited.
    let items = c.args.doc.list.now.items in
    let at = c.args.at in
    let x = c.get-item.result in
    let opening = c.with_kind-opening.result in
    let W = CitesWell values in
    let here = c.with_kind-opening.ensures.cites values (cites_there values items at x cited c.get-item.ensures) in
    let one : Edit = Change at 1 (plain values opening ∷ []) in
    let other : ℕ → List Edit = λ n. Change n 1 (closing_of c.args.kind ∷ []) ∷ [] in
    let m = c.in_ok-change.ensures.makes values [] cited (All-cons W opening [] here (All-nil W)) (c.new-edits.ensures.makes values items) in
    let m2 = c.in_ok-change-2.ensures.makes values (one ∷ []) cited (All-cons W (item.Closing c.args.kind None) [] tt (All-nil W)) m in
    c.in_ok-tx.ensures.cites values (one ∷ other c.partner-other.result) m2
