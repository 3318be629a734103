use Rattle.std.proofs.Common.{sym, ap, ◌∙◌, subst}
use Rattle.ve_classify.specs.Citations.{IsCited}
use Rattle.ve_reader.specs.ReadSoFar.{is_page}
use Rattle.ve_read.proofs.ReferenceLemmas.{none_of, cites_none, says_none, claims}
use Rattle.ve_read.proofs.references.claim_at.Goals as goal

pub returns-in_default-clause-claim : goal.returns-in_default-clause-claim
returns-in_default-clause-claim c =
    cites_none c.args.reader.now c.args.forest.now c.args.n c.args.end c.cited_mw.result (ap is_page (sym c.purpose.ensures ∙ c.in-Page.is)) c.cited_mw.ensures (none_of c.cited_mw.result c.in_default.not-Some)

pub returns-in-Some-2-clause-claim : goal.returns-in-Some-2-clause-claim
returns-in-Some-2-clause-claim c =
    claims c.args.reader.now c.args.forest.now c.args.n c.args.end c.in-Some.spelled c.as_str.result.now c.in_ok-reading.field-0 c.in-Some-2.reading c.claim.result
    (ap is_page (sym c.purpose.ensures ∙ c.in-Page.is)) (subst (IsCited c.args.forest.now c.args.n c.args.end) c.in-Some.is c.cited_mw.ensures) (c.as_str.ensures.bytes ∙ c.in_ok-mw.ensures.bytes)
    c.in_ok-reading.ensures.reference c.in_ok-reading.ensures.body c.in-Some-2.is c.claim.ensures.claim

pub returns-clause-claim : goal.returns-clause-claim
returns-clause-claim c =
    says_none c.args.reader.now c.args.forest.now c.args.n c.args.end c.in-Some.spelled c.as_str.result.now c.in_ok-reading.field-0
    (ap is_page (sym c.purpose.ensures ∙ c.in-Page.is)) (subst (IsCited c.args.forest.now c.args.n c.args.end) c.in-Some.is c.cited_mw.ensures) (c.as_str.ensures.bytes ∙ c.in_ok-mw.ensures.bytes)
    c.in_ok-reading.ensures.reference c.in-None.is
