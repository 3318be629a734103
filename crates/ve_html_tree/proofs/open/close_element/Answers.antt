use Rattle.ve_kinds.specs.Tags.{is_void}
use Rattle.std.proofs.Common.{ap, ◌∙◌, sym}
use Rattle.ve_html_tree.proofs.Opening.{close_goes, close_numbers, close_links}
use Rattle.ve_html_tree.proofs.open.close_element.Goals as goal

pub returns-clause-faults : goal.returns-clause-faults
returns-clause-faults c = close_goes c.args.nodes.now.items c.end_node.new.nodes.items c.args.opened.now c.index-innermost.result.now c.requires c.if-opened-eq0.false c.index-innermost.ensures _ _ _ c.end_node.ensures c.args.name.now c.name_of.result.now c.args.end.from c.is_same.result (ap is_void (sym c.as_bytes.ensures.value) ∙ sym c.is_void_name.ensures ∙ c.if-is_void_name.false) c.is_same.ensures c.name_of.ensures c.if-not-is_same.false

pub returns-clause-numbers : goal.returns-clause-numbers
returns-clause-numbers c = close_numbers c.args.nodes.now.items c.end_node.new.nodes.items c.args.opened.now c.index-innermost.result.now c.requires c.if-opened-eq0.false c.index-innermost.ensures _ _ _ c.end_node.ensures

pub returns-clause-linked : goal.returns-clause-linked
returns-clause-linked c = close_links c.args.nodes.now.items c.end_node.new.nodes.items c.args.opened.now c.index-innermost.result.now c.requires c.if-opened-eq0.false c.index-innermost.ensures _ _ _ c.end_node.ensures
