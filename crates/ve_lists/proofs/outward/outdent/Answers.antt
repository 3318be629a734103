use Rattle.std.proofs.Common.{◌≡◌, if◌then◌else◌, Ok, Err, is_ok, Some, None, option_map, inr, refl, sym, ap, ◌∙◌}
use Rattle.model_items.specs.Offsets.{opens_at}
use Rattle.model_items.specs.Plain.{plain_list}
use Rattle.model_edit.specs.Causes.{NotListItem, NotNested}
use Rattle.model_edit.specs.Lists.{outdent, outdent_from}
use Rattle.ve_lists.specs.Moved.{open_of}
use Rattle.ve_lists.proofs.MovedLemmas.{outdent_of, outdent_nested, none_of}
use Rattle.ve_lists.proofs.outward.outdent.Goals as goal

pub returns-then-not-is_list_item-clause-refused : goal.returns-then-not-is_list_item-clause-refused
returns-then-not-is_list_item-clause-refused c =
    let store = c.args.doc.store.now in
    let all = plain_list store c.args.doc.list.now.items in
    let at = c.args.at in
    inr (
      NotListItem at,
      ap (λ b. if b then outdent_from all at (opens_at all at) else Err (NotListItem at)) (sym (c.is_list_item.ensures.means store) ∙ c.if-not-is_list_item.true),
      refl,
    )

pub returns-in_default-clause-refused : goal.returns-in_default-clause-refused
returns-in_default-clause-refused c =
    let store = c.args.doc.store.now in
    let all = plain_list store c.args.doc.list.now.items in
    let at = c.args.at in
    let none : c.nested_list.result ≡ None = none_of c.nested_list.result c.in_default.not-Some in
    inr (
      NotNested at,
      ap (λ b. if b then outdent_from all at (opens_at all at) else Err (NotListItem at)) (sym (c.is_list_item.ensures.means store) ∙ c.if-not-is_list_item.false)
          ∙ outdent_nested all at (opens_at all at) ∙ ap (outdent_of all at) (sym (c.nested_list.ensures.means store) ∙ ap (option_map open_of) none),
      refl,
    )

pub outdented-requires-clause-opens : goal.outdented-requires-clause-opens
outdented-requires-clause-opens c = λ values. sym (c.is_list_item.ensures.means values) ∙ c.if-not-is_list_item.false

pub returns-in-Ok-clause-means : goal.returns-in-Ok-clause-means
returns-in-Ok-clause-means c =
    let store = c.args.doc.store.now in
    let all = plain_list store c.args.doc.list.now.items in
    let at = c.args.at in
    ap (λ b. if b then outdent_from all at (opens_at all at) else Err (NotListItem at)) (sym (c.is_list_item.ensures.means store) ∙ c.if-not-is_list_item.false)
    ∙ outdent_nested all at (opens_at all at)
    ∙ ap (outdent_of all at) (sym (c.nested_list.ensures.means store) ∙ ap (option_map open_of) c.in-Some.is)
    ∙ ap Ok (sym c.in-Ok.ensures.means)

pub returns-in-Err-clause-memory : goal.returns-in-Err-clause-memory
returns-in-Err-clause-memory c = λ _.
    let store = c.args.doc.store.now in
    let all = plain_list store c.args.doc.list.now.items in
    let at = c.args.at in
    let made : outdent all at ≡ outdent_of all at (Some (open_of c.in-Some.list)) =
    ap (λ b. if b then outdent_from all at (opens_at all at) else Err (NotListItem at)) (sym (c.is_list_item.ensures.means store) ∙ c.if-not-is_list_item.false)
    ∙ outdent_nested all at (opens_at all at)
    ∙ ap (outdent_of all at) (sym (c.nested_list.ensures.means store) ∙ ap (option_map open_of) c.in-Some.is) in
    ap is_ok made
