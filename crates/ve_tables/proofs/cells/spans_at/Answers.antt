use Rattle.std.proofs.Common.{List, ℕ, codes, slice_get, ap, ◌∙◌}
use Rattle.ve_base.specs.Limits.{max_row_span, max_column_span}
use Rattle.model_items.specs.Plain.{plain}
use Rattle.model_change.specs.Attributes.{value_of}
use Rattle.model_edit.specs.Grid.{span_in}
use Rattle.ve_offsets.specs.Docs.{page_items}
use Rattle.ve_edits.proofs.BracketLemmas.{slice_get-plain}
use Rattle.ve_tables.proofs.RowLemmas.{span_is, rowspan_is, colspan_is}
use Rattle.ve_tables.proofs.cells.spans_at.Goals as goal

pub returns-clause-rows : goal.returns-clause-rows
returns-clause-rows c =
    let store = c.args.doc.store.now in
    let item = c.get.result in
    let attrs = c.item_attrs-attrs.result.now in
    span_is (codes "rowspan") max_row_span c.span_of.result (slice_get (page_items c.args.doc) c.args.at) (plain store item) attrs
    (slice_get-plain store c.args.doc.list.now.items c.args.at item c.get.ensures) c.item_attrs-attrs.ensures
    (c.span_of.ensures.means ∙ ap (λ (w : List ℕ). span_in max_row_span (value_of w attrs)) rowspan_is)

pub returns-clause-columns : goal.returns-clause-columns
returns-clause-columns c =
    let store = c.args.doc.store.now in
    let item = c.get.result in
    let attrs = c.item_attrs-attrs.result.now in
    span_is (codes "colspan") max_column_span c.span_of-2.result (slice_get (page_items c.args.doc) c.args.at) (plain store item) attrs
    (slice_get-plain store c.args.doc.list.now.items c.args.at item c.get.ensures) c.item_attrs-attrs.ensures
    (c.span_of-2.ensures.means ∙ ap (λ (w : List ℕ). span_in max_column_span (value_of w attrs)) colspan_is)
