use Rattle.std.proofs.Common.{◌<◌, [], List, IsOk, Ok, length, refl, sym, ap, ◌∙◌, subst, arith}
use Rattle.std.proofs.lemmas.List.{length-map}
use Rattle.model_items.specs.Law as law
use Rattle.model_items.specs.Plain.{plain}
use Rattle.model_items.specs.Tree.{Open}
use Rattle.ve_tree.specs.IsTree.{unvalued}
use Rattle.ve_tree.proofs.ClimbLemmas.{listed_live, sort_under}
use Rattle.ve_tree.proofs.NearLemmas.{listed, parent_some}
use Rattle.ve_offsets.proofs.WayUpLemmas.{nothing_open, root_round, node_round, opened_at, entered, up, may_enter, kind_round}
use Rattle.ve_offsets.proofs.state.+enter_round.Goals as goal

pub returns-then-n-doc : goal.returns-then-n-doc
returns-then-n-doc t c = λ o within round.
    let long = length-map c.args.doc.list.now.items (plain []) in
    nothing_open (unvalued c.args.doc.list.now.items) o c.requires.doc.links.lawful (omega (arith, within, long))
    (root_round c.requires.doc.links c.args.n o c.if-n-doc.true (round c.requires.doc.links))
    ∙ ap Ok (sym c.requires.start)

pub node-node-requires : goal.node-node-requires
node-node-requires t c =
    let at = c.requires.round.round c.requires.doc.links in
    listed_live c.requires.doc.links _ c.args.n at.listed refl

pub unreachable-requires : goal.unreachable-requires
unreachable-requires t c =
    let r = node_round c.requires.doc.links c.args.n c.requires.round.at c.if-n-doc.false (c.requires.round.round c.requires.doc.links) in
    parent_some c.requires.doc.links r.place c.args.n c.node-node.result.now r.listed r.number_is c.node-node.ensures c.in_default.is

pub unreachable-requires-in_default-what : goal.unreachable-requires-in_default-what
unreachable-requires-in_default-what t c =
    let r = node_round c.requires.doc.links c.args.n c.requires.round.at c.if-n-doc.false (c.requires.round.round c.requires.doc.links) in
    c.in_default-what.not-Node r.x.kind
    (sym (sort_under c.requires.doc.links r.place c.args.n c.node-node.result.now (listed c.requires.doc.links r.place r.listed) r.number_is c.node-node.ensures) ∙ r.sort_is)

pub overflow_sub-levels : goal.overflow_sub-levels
overflow_sub-levels t c =
    let r = node_round c.requires.doc.links c.args.n c.requires.round.at c.if-n-doc.false (c.requires.round.round c.requires.doc.links) in
    let long = ap (λ (l : List Open). length l) r.opens_are in
    omega (arith, c.requires.round.few, long)

pub enter_round-requires : goal.enter_round-requires
enter_round-requires t c =
    let items = unvalued c.args.doc.list.now.items in
    let r = node_round c.requires.doc.links c.args.n c.requires.round.at c.if-n-doc.false (c.requires.round.round c.requires.doc.links) in
    let s = opened_at items c.requires.round.at r.x r.outer c.requires.doc.links.lawful r.opens_are in
    let long = ap (λ (l : List Open). length l) r.opens_are in
    let shorter = ap (λ (l : List Open). length l) s.tail in (
      omega (arith, c.decreases, c.requires.round.few, long),
      (
        c.requires.doc,
        (
          c.requires.start,
          record {
            at = r.x.from;
            within = s.within;
            round = up c.args.n c.requires.round.at c.node-node.result.now c.in-Some.parent r.x r.outer c.if-n-doc.false c.requires.round.round c.node-node.ensures c.in-Some.is r.opens_are;
            few = omega (arith, c.requires.round.few, long, shorter);
          },
        ),
      ),
    )

pub enter-requires : goal.enter-requires
enter-requires t c =
    let items = unvalued c.args.doc.list.now.items in
    let r = node_round c.requires.doc.links c.args.n c.requires.round.at c.if-n-doc.false (c.requires.round.round c.requires.doc.links) in
    let s = opened_at items c.requires.round.at r.x r.outer c.requires.doc.links.lawful r.opens_are in
    let kind = kind_round c.requires.doc.links c.args.n c.requires.round.at c.node-node.result.now c.in-Node.kind r c.node-node.ensures c.in-Node.is in
    let within : r.x.from < length c.args.doc.list.now.items = omega (arith, s.within, length-map c.args.doc.list.now.items (plain [])) in
    let before = c.enter_round.ensures r.x.from within
    (up c.args.n c.requires.round.at c.node-node.result.now c.in-Some.parent r.x r.outer c.if-n-doc.false c.requires.round.round c.node-node.ensures c.in-Some.is r.opens_are) in
    subst (λ kind. IsOk (law.state_opened c.enter_round.new.state kind)) (sym kind) (may_enter items c.requires.round.at r.x r.outer c.enter_round.new.state c.requires.doc.links.lawful r.opens_are before)

pub returns : goal.returns
returns t c = λ o within round.
    let items = unvalued c.args.doc.list.now.items in
    let r = node_round c.requires.doc.links c.args.n o c.if-n-doc.false (round c.requires.doc.links) in
    let s = opened_at items o r.x r.outer c.requires.doc.links.lawful r.opens_are in
    let kind = kind_round c.requires.doc.links c.args.n o c.node-node.result.now c.in-Node.kind r c.node-node.ensures c.in-Node.is in
    let long = length-map c.args.doc.list.now.items (plain []) in
    let inside : r.x.from < length c.args.doc.list.now.items = omega (arith, s.within, long) in
    let before = c.enter_round.ensures r.x.from inside
    (up c.args.n o c.node-node.result.now c.in-Some.parent r.x r.outer c.if-n-doc.false round c.node-node.ensures c.in-Some.is r.opens_are) in
    entered items o r.x r.outer c.enter_round.new.state c.enter.new.state c.requires.doc.links.lawful (omega (arith, within, long)) r.opens_are before
    (ap (law.state_opened c.enter_round.new.state) (sym kind) ∙ c.enter.ensures)
