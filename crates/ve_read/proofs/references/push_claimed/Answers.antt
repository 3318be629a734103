use Rattle.ve_read.proofs.LeafLemmas.{on_ok_map, claimed_token, claimed_read, claimed_stops}
use Rattle.ve_read.proofs.references.push_claimed.Goals as goal

pub unreachable-requires : goal.unreachable-requires
unreachable-requires c = claimed_token c.args.text.now c.args.forest.now c.args.n c.node-node.result.now c.requires.element c.node-node.ensures c.in_default.not-StartTag

pub returns-clause-ok : goal.returns-clause-ok
returns-clause-ok c =
    on_ok_map c.push_reference.result
    (claimed_read c.args.text.now c.args.forest.now c.args.n c.args.byte c.node-node.result.now c.node-node.ensures c.in-StartTag.name c.in-StartTag.attrs c.in-StartTag.span c.in-StartTag.is
    c.inner_source-inner.result.now c.inner_source-inner.ensures c.args.claim c.in_ok-owner.owner c.in_ok-owner.ensures c.is_some.result c.is_some.ensures c.in_ok-head.head c.in_ok-head.ensures c.args.reader.now c.push_reference.new.self)
    c.push_reference.ensures.ok

pub returns-clause-limit : goal.returns-clause-limit
returns-clause-limit c =
    claimed_stops c.args.text.now c.args.forest.now c.args.n c.args.byte c.node-node.result.now c.node-node.ensures c.in-StartTag.name c.in-StartTag.attrs c.in-StartTag.span c.in-StartTag.is
    c.inner_source-inner.result.now c.inner_source-inner.ensures c.args.claim c.in_ok-owner.owner c.in_ok-owner.ensures c.is_some.result c.is_some.ensures c.in_ok-head.head c.in_ok-head.ensures c.args.reader.now c.push_reference.result
    c.push_reference.ensures.limit
