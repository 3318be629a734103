use Rattle.std.proofs.Common.{subst}
use Rattle.ve_read.specs.References.{IsClaimed}
use Rattle.ve_read.proofs.LeafLemmas.{on_ok_map, some_element, reference_read, reference_stops, generated_read, generated_stops}
use Rattle.ve_read.proofs.references.push_generated.Goals as goal

pub push_claimed-requires-clause-element : goal.push_claimed-requires-clause-element
push_claimed-requires-clause-element c =
    some_element c.args.text.now c.args.forest.now c.args.n c.args.part.end c.args.part.byte c.args.reader.now c.requires.fit c.in-Some.claim
    (subst (IsClaimed c.args.reader.now c.args.forest.now c.args.n c.args.part.end) c.in-Some.is c.in_ok-claim.ensures.claim) c.requires.part

pub returns-in-Some-clause-ok : goal.returns-in-Some-clause-ok
returns-in-Some-clause-ok c =
    on_ok_map c.push_claimed.result
    (reference_read c.args.text.now c.args.forest.now c.args.n c.args.part.end c.args.part.byte c.args.reader.now c.requires.fit c.push_claimed.new.reader c.in-Some.claim
    (subst (IsClaimed c.args.reader.now c.args.forest.now c.args.n c.args.part.end) c.in-Some.is c.in_ok-claim.ensures.claim))
    c.push_claimed.ensures.ok

pub returns-in-Some-clause-limit : goal.returns-in-Some-clause-limit
returns-in-Some-clause-limit c =
    reference_stops c.args.text.now c.args.forest.now c.args.n c.args.part.end c.args.part.byte c.args.reader.now c.requires.fit c.push_claimed.result c.in-Some.claim
    (subst (IsClaimed c.args.reader.now c.args.forest.now c.args.n c.args.part.end) c.in-Some.is c.in_ok-claim.ensures.claim)
    c.push_claimed.ensures.limit

pub returns-in-None-clause-ok : goal.returns-in-None-clause-ok
returns-in-None-clause-ok c =
    on_ok_map c.push_whole_leaf.result
    (generated_read c.args.text.now c.args.forest.now c.args.n c.args.part.end c.args.part.byte c.args.reader.now c.requires.fit c.push_whole_leaf.new.reader
    (subst (IsClaimed c.args.reader.now c.args.forest.now c.args.n c.args.part.end) c.in-None.is c.in_ok-claim.ensures.claim))
    c.push_whole_leaf.ensures.ok

pub returns-in-None-clause-limit : goal.returns-in-None-clause-limit
returns-in-None-clause-limit c =
    generated_stops c.args.text.now c.args.forest.now c.args.n c.args.part.end c.args.part.byte c.args.reader.now c.requires.fit c.push_whole_leaf.result
    (subst (IsClaimed c.args.reader.now c.args.forest.now c.args.n c.args.part.end) c.in-None.is c.in_ok-claim.ensures.claim)
    c.push_whole_leaf.ensures.limit
