use Rattle.std.proofs.Common.{◌∙◌, ap}
use Rattle.model_site.specs.Session.{clash_of}
use Rattle.ve_server.proofs.ServerLemmas.{may_join, is_accepted, kept_hints}
use Rattle.ve_server.proofs.server.accepted.Goals as goal

pub entries_over_list-requires : goal.entries_over_list-requires
entries_over_list-requires c =
    may_join c.args.submit.now.base c.as_slice.result.now c.as_slice-2.result.now c.args.committed.now.entries c.args.submit.now.parcels.entries (ap (λ t. t.entries) c.as_slice.ensures.values) (ap (λ t. t.entries) c.as_slice-2.ensures.values) c.requires.run

pub returns-clause-kept : goal.returns-clause-kept
returns-clause-kept c =
    ap (λ t. t.entries) c.from_list.ensures ∙ (c.in_ok-kept.ensures.kept ∙ ap (λ j. j.kept) (is_accepted c.args.submit.now.base c.as_slice.result.now c.as_slice-2.result.now c.args.committed.now.entries c.args.submit.now.parcels.entries c.args.submit.now.parcels.hints (ap (λ t. t.entries) c.as_slice.ensures.values) (ap (λ t. t.entries) c.as_slice-2.ensures.values)))

pub returns-clause-clash : goal.returns-clause-clash
returns-clause-clash c =
    c.in_ok-kept.ensures.clash ∙ ap (λ j. clash_of j.clash) (is_accepted c.args.submit.now.base c.as_slice.result.now c.as_slice-2.result.now c.args.committed.now.entries c.args.submit.now.parcels.entries c.args.submit.now.parcels.hints (ap (λ t. t.entries) c.as_slice.ensures.values) (ap (λ t. t.entries) c.as_slice-2.ensures.values))

pub returns-clause-hints : goal.returns-clause-hints
returns-clause-hints c =
    kept_hints c.from_list.result c.args.submit.now.parcels _ c.as_slice-2.result.now c.from_list.ensures c.as_slice-2.ensures.values c.in_ok-kept.ensures.outlines
