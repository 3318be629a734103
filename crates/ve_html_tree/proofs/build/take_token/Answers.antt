use Rattle.std.proofs.Common.{◌≡◌, arith, length, ◌+◌}
use Rattle.ve_html_tree.proofs.Shown.{start_rows, start_numbers, end_rows, end_numbers, leaf_is, leaf_goes, leaf_rows, leaf_built, leaf_linked}
use Rattle.ve_html_tree.proofs.build.take_token.Goals as goal

pub returns-in-StartTag-clause-nodes : goal.returns-in-StartTag-clause-nodes
returns-in-StartTag-clause-nodes c = λ k rs h w s.
    start_rows c.open_element.result c.open_element.new.nodes.items c.args.nodes.now.items c.args.token.now c.in-StartTag.name c.in-StartTag.attrs c.in-StartTag.span k rs c.args.opened.now c.in-StartTag.is h s c.requires.linked w c.open_element.ensures.nodes

pub returns-in-StartTag-clause-numbers : goal.returns-in-StartTag-clause-numbers
returns-in-StartTag-clause-numbers c = λ k rs h s.
    start_numbers c.open_element.result c.open_element.new.nodes.items c.args.nodes.now.items c.args.token.now c.in-StartTag.name c.in-StartTag.attrs c.in-StartTag.span k rs c.args.opened.now c.in-StartTag.is h s _ c.open_element.ensures.numbers

pub returns-in-EndTag-clause-nodes : goal.returns-in-EndTag-clause-nodes
returns-in-EndTag-clause-nodes c = λ k rs h w s.
    end_rows c.close_element.result c.args.token.now c.in-EndTag.name c.in-EndTag.span k rs _ _ _ c.in-EndTag.is h c.close_element.ensures.numbers _ c.args.nodes.now.items s c.close_element.ensures.nodes

pub returns-in-EndTag-clause-numbers : goal.returns-in-EndTag-clause-numbers
returns-in-EndTag-clause-numbers c = λ k rs h s.
    end_numbers c.close_element.result c.args.token.now c.in-EndTag.name c.in-EndTag.span k rs _ _ _ c.in-EndTag.is h c.close_element.ensures.numbers

pub returns-in_default : goal.returns-in_default
returns-in_default c =
    let leaf = leaf_is c.args.token.now c.in_default.not-StartTag c.in_default.not-EndTag in
    let long : c.len-next.result + 1 ≡ length c.args.nodes.now.items + 1 = omega (arith, c.len-next.ensures, c.args.nodes.now.ok) in record {
      faults = λ k h. leaf_goes c.push_node.result c.push_node.new.nodes.items c.args.nodes.now.items c.args.token.now c.args.opened.now _ leaf c.requires.linked c.push_node.ensures.nodes k h c.push_node.ensures.fault;
      nodes = λ k rs h w s. leaf_rows c.push_node.result c.push_node.new.nodes.items c.args.nodes.now.items c.args.token.now c.args.opened.now _ leaf c.requires.linked c.push_node.ensures.nodes k rs long h w s;
      numbers = λ k rs h s. leaf_built c.push_node.result c.push_node.new.nodes.items c.args.nodes.now.items c.args.token.now c.args.opened.now _ leaf c.requires.linked c.push_node.ensures.nodes k rs h;
      linked = leaf_linked c.push_node.result c.push_node.new.nodes.items c.args.nodes.now.items c.args.token.now c.args.opened.now _ leaf c.requires.linked c.push_node.ensures.nodes;
    }
