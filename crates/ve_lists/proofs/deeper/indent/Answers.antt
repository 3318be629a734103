use Rattle.std.proofs.Common.{◌≡◌, if◌then◌else◌, Ok, Err, is_ok, inr, refl, sym, ap, ◌∙◌}
use Rattle.ve_kinds.specs.declared.kind.Kind.TheVariants.{Li}
use Rattle.model_items.specs.Offsets.{kind_at}
use Rattle.model_items.specs.Plain.{plain_list}
use Rattle.model_edit.specs.Brackets.{is_closing_of}
use Rattle.model_edit.specs.Causes.{NotListItem, NoSibling}
use Rattle.model_edit.specs.Edits.{transaction_of}
use Rattle.model_edit.specs.Lists.{passes_before, indent, indent_edits}
use Rattle.ve_lists.proofs.deeper.indent.Goals as goal

pub returns-then-not-is_list_item-clause-refused : goal.returns-then-not-is_list_item-clause-refused
returns-then-not-is_list_item-clause-refused c =
    let store = c.args.doc.store.now in
    let all = plain_list store c.args.doc.list.now.items in
    let at = c.args.at in
    let given = transaction_of all (indent_edits all at (kind_at all at)) in
    inr (
      NotListItem at,
      ap (λ b. if b then (if passes_before (is_closing_of Li) all at then Ok given else Err (NoSibling at)) else Err (NotListItem at))
          (sym (c.is_list_item.ensures.means store) ∙ c.if-not-is_list_item.true),
      refl,
    )

pub returns-then-not-closes_before-clause-refused : goal.returns-then-not-closes_before-clause-refused
returns-then-not-closes_before-clause-refused c =
    let store = c.args.doc.store.now in
    let all = plain_list store c.args.doc.list.now.items in
    let at = c.args.at in
    let given = transaction_of all (indent_edits all at (kind_at all at)) in
    inr (
      NoSibling at,
      ap (λ b. if b then (if passes_before (is_closing_of Li) all at then Ok given else Err (NoSibling at)) else Err (NotListItem at))
          (sym (c.is_list_item.ensures.means store) ∙ c.if-not-is_list_item.false)
          ∙ ap (λ b. if b then Ok given else Err (NoSibling at)) (sym (c.closes_before.ensures.means store) ∙ c.if-not-closes_before.true),
      refl,
    )

pub indented-requires-clause-opens : goal.indented-requires-clause-opens
indented-requires-clause-opens c = λ values. sym (c.is_list_item.ensures.means values) ∙ c.if-not-is_list_item.false

pub returns-in-Ok-clause-means : goal.returns-in-Ok-clause-means
returns-in-Ok-clause-means c =
    let store = c.args.doc.store.now in
    let all = plain_list store c.args.doc.list.now.items in
    let at = c.args.at in
    let given = transaction_of all (indent_edits all at (kind_at all at)) in
    ap (λ b. if b then (if passes_before (is_closing_of Li) all at then Ok given else Err (NoSibling at)) else Err (NotListItem at))
    (sym (c.is_list_item.ensures.means store) ∙ c.if-not-is_list_item.false)
    ∙ ap (λ b. if b then Ok given else Err (NoSibling at)) (sym (c.closes_before.ensures.means store) ∙ c.if-not-closes_before.false)
    ∙ ap (λ k. Ok (transaction_of all (indent_edits all at k))) (sym (c.kind_at.ensures store))
    ∙ ap Ok (sym (c.in-Ok.ensures.means store c.requires.cites))

pub returns-in-Ok-clause-cites : goal.returns-in-Ok-clause-cites
returns-in-Ok-clause-cites c = c.in-Ok.ensures.cites c.args.doc.store.now c.requires.cites

pub returns-in-Err-clause-memory : goal.returns-in-Err-clause-memory
returns-in-Err-clause-memory c = λ _.
    let store = c.args.doc.store.now in
    let all = plain_list store c.args.doc.list.now.items in
    let at = c.args.at in
    let given = transaction_of all (indent_edits all at (kind_at all at)) in
    let made : indent all at ≡ Ok given =
    ap (λ b. if b then (if passes_before (is_closing_of Li) all at then Ok given else Err (NoSibling at)) else Err (NotListItem at))
    (sym (c.is_list_item.ensures.means store) ∙ c.if-not-is_list_item.false)
    ∙ ap (λ b. if b then Ok given else Err (NoSibling at)) (sym (c.closes_before.ensures.means store) ∙ c.if-not-closes_before.false) in
    ap is_ok made
