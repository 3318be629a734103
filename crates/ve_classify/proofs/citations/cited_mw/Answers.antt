use Rattle.ve_classify.proofs.CitationLemmas.{longer, no_element, no_citation, cited}
use Rattle.ve_classify.proofs.citations.cited_mw.Goals as goal

pub returns-then-node-end : goal.returns-then-node-end
returns-then-node-end c = longer c.args.forest.now c.args.n c.args.end c.node-node.result.now c.node-node.ensures c.if-node-end.true

pub returns-in_default : goal.returns-in_default
returns-in_default c = no_element c.args.forest.now c.args.n c.args.end c.node-node.result.now c.node-node.ensures c.in_default.not-StartTag

pub returns-then-not-is_citation : goal.returns-then-not-is_citation
returns-then-not-is_citation c =
    no_citation c.args.forest.now c.args.n c.args.end c.node-node.result.now c.in-StartTag.name c.in-StartTag.attrs c.in-StartTag.span c.is_citation.result c.node-node.ensures c.in-StartTag.is c.is_citation.ensures c.if-not-is_citation.true

pub returns : goal.returns
returns c =
    cited c.args.forest.now c.args.n c.args.end c.node-node.result.now c.in-StartTag.name c.in-StartTag.attrs c.in-StartTag.span c.is_citation.result c.spelled_value.result c.node-node.ensures c.if-node-end.false c.in-StartTag.is c.is_citation.ensures c.if-not-is_citation.false c.spelled_value.ensures
