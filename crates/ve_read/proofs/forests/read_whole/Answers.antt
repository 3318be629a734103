use Rattle.std.proofs.Common.{◌≡◌, None}
use Rattle.std.specs.Prelude.{chars}
use Rattle.std.proofs.lemmas.Result.{err_from_is_err_and}
use Rattle.model_page.specs.Fit.{around_in}
use Rattle.ve_read.specs.Blocks.{with_siblings, white_at_end, siblings_limit}
use Rattle.ve_reader.specs.Stops.{stop_limit}
use Rattle.ve_read.proofs.WholeLemmas.{some_siblings, of_text}
use Rattle.ve_read.proofs.forests.read_whole.Goals as goal

pub read_siblings-requires-clause-leads : goal.read_siblings-requires-clause-leads
read_siblings-requires-clause-leads c = let found = c.requires.nodes in c.read_stands.ensures.leads found.0 c.args.forest.now found.2

pub read_siblings-requires-clause-tags : goal.read_siblings-requires-clause-tags
read_siblings-requires-clause-tags c = let found = c.requires.nodes in c.tags_are_read.ensures found.0 c.args.forest.now found.2 found.1.allowed

pub read_siblings-requires-clause-stands : goal.read_siblings-requires-clause-stands
read_siblings-requires-clause-stands c = some_siblings c.args.text.now c.args.forest.now c.len.result c.utf8.text c.requires.nodes c.len.ensures

pub returns-in_err-white-clause-limit : goal.returns-in_err-white-clause-limit
returns-in_err-white-clause-limit c =
    let p = err_from_is_err_and c.from_residual.result c.from_residual.ensures.1 in
    rw (p.1, p.2)
    (of_text c.args.text.now c.args.forest.now c.len.result (λ parts at. stop_limit c.in_err-white.field-0.0 (siblings_limit (around_in c.args.kind) parts at c.args.reader.now)) c.utf8.text c.requires.nodes
    c.len.ensures c.in_err-white.ensures.limit)

pub returns-clause-ok : goal.returns-clause-ok
returns-clause-ok c =
    of_text c.args.text.now c.args.forest.now c.len.result (λ parts at. c.read_siblings.new.reader ≡ with_siblings (around_in c.args.kind) parts at c.args.reader.now) c.utf8.text c.requires.nodes c.len.ensures
    c.in_ok-white.ensures.ok

pub returns-clause-white : goal.returns-clause-white
returns-clause-white c =
    of_text c.args.text.now c.args.forest.now c.len.result (λ parts at. chars c.in_ok-white.white.now ≡ white_at_end (around_in c.args.kind) parts at c.args.reader.now) c.utf8.text c.requires.nodes c.len.ensures
    c.in_ok-white.ensures.white

pub returns-clause-limit : goal.returns-clause-limit
returns-clause-limit c =
    of_text c.args.text.now c.args.forest.now c.len.result (λ parts at. siblings_limit (around_in c.args.kind) parts at c.args.reader.now ≡ None) c.utf8.text c.requires.nodes c.len.ensures
    c.in_ok-white.ensures.limit
