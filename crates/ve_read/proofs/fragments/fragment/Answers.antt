use Rattle.std.proofs.Common.{sym, ◌∙◌}
use Rattle.std.proofs.lemmas.Result.{IfOk-weaker, err_from_is_err_and}
use Rattle.model_page.specs.Fit.{around_in}
use Rattle.model_page.specs.Limits.{marked_at}
use Rattle.ve_store.specs.Following.{together}
use Rattle.ve_read.specs.Forests.{parts_in}
use Rattle.ve_read.specs.Fragments.{fragment_in}
use Rattle.ve_read.proofs.AnewLemmas.{grows_itself}
use Rattle.ve_read.proofs.FragmentLemmas.{fragment_is, limit_is, misspelled_so, spelled_by, grown_by, within_by, refused_by, spelled_right}
use Rattle.ve_read.proofs.fragments.fragment.Goals as goal

pub returns-in_err-forest-clause-grows : goal.returns-in_err-forest-clause-grows
returns-in_err-forest-clause-grows c = grows_itself c.args.new.now

pub returns-in_err-forest-clause-refused : goal.returns-in_err-forest-clause-refused
returns-in_err-forest-clause-refused c =
    let p = err_from_is_err_and c.from_residual.result c.from_residual.ensures.1 in
    rw (p.1, p.2) (misspelled_so c.in_err-forest.field-0.0 c.args.state.now.stack c.args.text.now c.in_err-forest.ensures.fault)

pub context_kind-kind-requires : goal.context_kind-kind-requires
context_kind-kind-requires c = let found = c.in_ok-forest.ensures.found in c.read_stands.ensures.leads found.0 c.in_ok-forest.forest found.2

pub returns-clause-spelled : goal.returns-clause-spelled
returns-clause-spelled c = spelled_by c.args.text.now c.items_in.result (spelled_right c.args.text.now c.in_ok-forest.forest c.in_ok-forest.ensures.found)

pub returns-clause-within : goal.returns-clause-within
returns-clause-within c =
    let text = c.args.text.now in
    let kind = c.context_kind-kind.result in
    within_by c.items_in.result c.args.state.now.stack text (marked_at (around_in kind) (parts_in text) 0)
    (limit_is text c.in_ok-forest.forest c.args.state.now.stack kind c.in_ok-forest.ensures.found c.context_kind-kind.ensures) c.items_in.ensures.limit

pub returns-clause-items : goal.returns-clause-items
returns-clause-items c =
    let is = fragment_is c.args.text.now c.in_ok-forest.forest c.args.state.now.stack c.context_kind-kind.result c.in_ok-forest.ensures.found c.context_kind-kind.ensures in
    IfOk-weaker c.items_in.result _ _ (λ items h. h.items ∙ sym is) c.items_in.ensures.read

pub returns-clause-cites : goal.returns-clause-cites
returns-clause-cites c = IfOk-weaker c.items_in.result _ _ (λ items h. h.cites) c.items_in.ensures.read

pub returns-clause-values : goal.returns-clause-values
returns-clause-values c =
    let text = c.args.text.now in
    let kind = c.context_kind-kind.result in
    let is = fragment_is text c.in_ok-forest.forest c.args.state.now.stack kind c.in_ok-forest.ensures.found c.context_kind-kind.ensures in
    grown_by kind text (together c.args.store.now c.args.new.now) (together c.args.store.now c.items_in.new.new) (fragment_in c.args.state.now.stack text) c.items_in.result is c.items_in.ensures.read

pub returns-clause-refused : goal.returns-clause-refused
returns-clause-refused c =
    let text = c.args.text.now in
    let kind = c.context_kind-kind.result in
    let found = c.in_ok-forest.ensures.found in
    refused_by c.items_in.result c.args.state.now.stack text (marked_at (around_in kind) (parts_in text) 0) (spelled_right text c.in_ok-forest.forest found)
    (limit_is text c.in_ok-forest.forest c.args.state.now.stack kind found c.context_kind-kind.ensures) c.items_in.ensures.limit
