use Rattle.ve_kinds.specs.Tags.{is_void}
use Rattle.std.proofs.Common.{ap, ◌∙◌, sym, arith, length}
use Rattle.std.proofs.Common.{[], ◌∷◌}
use Rattle.std.proofs.lemmas.List.{length-append}
use Rattle.ve_html_tree.specs.Nodes.{node_of}
use Rattle.ve_html_tree.proofs.Links.{no_more}
use Rattle.ve_html_tree.proofs.Opening.{void_goes, void_numbers, void_links, open_goes, open_numbers, open_links}
use Rattle.ve_html_tree.proofs.open.open_element.Goals as goal

pub returns-then-is_void_name-clause-faults : goal.returns-then-is_void_name-clause-faults
returns-then-is_void_name-clause-faults c = void_goes c.push_node.result c.args.nodes.now.items c.push_node.new.nodes.items _ c.args.opened.now c.args.name.now _ c.requires.linked c.if-opened-eq-MAX_OPEN_ELEMENTS.false (ap is_void (sym c.as_bytes.ensures.value) ∙ sym c.is_void_name.ensures ∙ c.if-is_void_name.true) c.push_node.ensures.nodes c.push_node.ensures.fault

pub returns-then-is_void_name-clause-numbers : goal.returns-then-is_void_name-clause-numbers
returns-then-is_void_name-clause-numbers c = void_numbers c.push_node.result c.args.nodes.now.items c.push_node.new.nodes.items _ c.args.opened.now (is_void c.args.name.now) c.requires.linked (ap is_void (sym c.as_bytes.ensures.value) ∙ sym c.is_void_name.ensures ∙ c.if-is_void_name.true) c.push_node.ensures.nodes

pub returns-then-is_void_name-clause-linked : goal.returns-then-is_void_name-clause-linked
returns-then-is_void_name-clause-linked c = void_links c.push_node.result c.args.nodes.now.items c.push_node.new.nodes.items _ c.args.opened.now c.requires.linked c.push_node.ensures.nodes

pub overflow_add-opened : goal.overflow_add-opened
overflow_add-opened c =
    let fewer = no_more c.args.nodes.now.items _ c.args.opened.now.count c.args.opened.now.innermost c.requires.linked in
    let long = ap length c.in_ok-push_node.ensures.nodes in
    omega (arith, fewer, long, length-append c.args.nodes.now.items (node_of c.args.token.now c.args.opened.now.innermost ∷ []), c.push_node-2.new.nodes.ok)

pub returns-clause-faults : goal.returns-clause-faults
returns-clause-faults c = open_goes c.args.nodes.now.items c.push_node-2.new.nodes.items c.args.token.now c.args.opened.now c.args.name.now c.len-number.result c.requires.linked (ap is_void (sym c.as_bytes.ensures.value) ∙ sym c.is_void_name.ensures ∙ c.if-is_void_name.false) c.in_ok-push_node.ensures.nodes (omega (arith, c.len-number.ensures, c.args.nodes.now.ok)) c.if-opened-eq-MAX_OPEN_ELEMENTS.false c.requires.name

pub returns-clause-numbers : goal.returns-clause-numbers
returns-clause-numbers c = open_numbers c.args.nodes.now.items c.push_node-2.new.nodes.items c.args.token.now c.args.opened.now c.args.name.now c.len-number.result c.requires.linked (ap is_void (sym c.as_bytes.ensures.value) ∙ sym c.is_void_name.ensures ∙ c.if-is_void_name.false) c.in_ok-push_node.ensures.nodes (omega (arith, c.len-number.ensures, c.args.nodes.now.ok))

pub returns-clause-linked : goal.returns-clause-linked
returns-clause-linked c = open_links c.args.nodes.now.items c.push_node-2.new.nodes.items c.args.token.now c.args.opened.now c.args.name.now c.len-number.result c.requires.linked (ap is_void (sym c.as_bytes.ensures.value) ∙ sym c.is_void_name.ensures ∙ c.if-is_void_name.false) c.in_ok-push_node.ensures.nodes (omega (arith, c.len-number.ensures, c.args.nodes.now.ok))
