use Rattle.std.proofs.Common.{◌≡◌, None, sym, subst, ap, ◌∙◌}
use Rattle.std.specs.Prelude.{chars}
use Rattle.std.proofs.lemmas.Result.{err_from_is_err_and}
use Rattle.ve_kinds.specs.declared.kind.Kind.TheVariants.{Root}
use Rattle.model_page.specs.Fit.{around_in}
use Rattle.ve_read.specs.Blocks.{siblings_limit, white_at_end, with_siblings}
use Rattle.ve_reader.specs.Stops.{stop_limit}
use Rattle.ve_read.specs.Forests.{parts_in}
use Rattle.ve_read.proofs.PageLemmas.{outer_limit, outer_over, inner_over, all_within, all_items, page_spelled}
use Rattle.ve_read.proofs.pages.read_forest.Goals as goal

pub returns-in-Err-clause-limit : goal.returns-in-Err-clause-limit
returns-in-Err-clause-limit c =
    let text = c.args.text.now in
    outer_over c.args.from text c.stop_in_page.result
    (c.stop_in_page.ensures (outer_limit text) (subst (λ r. stop_limit c.in-Err.stop (siblings_limit (around_in Root) (parts_in text) 0 r)) c.new-reader.ensures c.in-Err.ensures.limit))

pub returns-in_err-read_bodies-clause-limit : goal.returns-in_err-read_bodies-clause-limit
returns-in_err-read_bodies-clause-limit c =
    let p = err_from_is_err_and c.from_residual.result c.from_residual.ensures.1 in
    let text = c.args.text.now in
    let none : outer_limit text ≡ None = ap (siblings_limit (around_in Root) (parts_in text) 0) (sym c.new-reader.ensures) ∙ c.in-Ok.ensures.limit in
    rw (p.1, p.2)
    (inner_over c.args.from text c.read_whole.new.reader c.in_err-read_bodies.field-0.0 none (c.in-Ok.ensures.ok ∙ ap (with_siblings (around_in Root) (parts_in text) 0) c.new-reader.ensures)
    c.in_err-read_bodies.ensures.limit)

pub returns-clause-items : goal.returns-clause-items
returns-clause-items c =
    let text = c.args.text.now in
    all_items c.args.from text (chars c.in-Ok.white.now) c.read_whole.new.reader c.read_bodies.new.reader (c.in-Ok.ensures.ok ∙ ap (with_siblings (around_in Root) (parts_in text) 0) c.new-reader.ensures)
    (c.in-Ok.ensures.white ∙ ap (white_at_end (around_in Root) (parts_in text) 0) c.new-reader.ensures) c.in_ok-read_bodies.ensures.items

pub returns-clause-limit : goal.returns-clause-limit
returns-clause-limit c =
    let text = c.args.text.now in
    let none : outer_limit text ≡ None = ap (siblings_limit (around_in Root) (parts_in text) 0) (sym c.new-reader.ensures) ∙ c.in-Ok.ensures.limit in
    all_within c.args.from text c.read_whole.new.reader none (c.in-Ok.ensures.ok ∙ ap (with_siblings (around_in Root) (parts_in text) 0) c.new-reader.ensures) c.in_ok-read_bodies.ensures.limit

pub read_bodies-requires-clause-spelled : goal.read_bodies-requires-clause-spelled
read_bodies-requires-clause-spelled c = page_spelled c.args.text.now c.read_whole.new.reader (c.in-Ok.ensures.ok ∙ ap (with_siblings (around_in Root) (parts_in c.args.text.now) 0) c.new-reader.ensures)
