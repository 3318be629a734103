use Rattle.std.proofs.Common.{◌≡◌, ◌∙◌, ap, arith, length, ℕ}
use Rattle.ve_html_tree.specs.Nodes.{ended_at}
use Rattle.ve_html_tree.proofs.Links.{ended_set}
use Rattle.ve_html_tree.proofs.node.end_node.Goals as goal

pub returns : goal.returns
returns c =
    let next : c.len-next.result ≡ length c.args.nodes.now.items = omega (arith, c.len-next.ensures, c.args.nodes.now.ok) in
    ended_set c.args.nodes.now.items c.args.number c.args.end.from c.args.end.to c.len-next.result c.index_mut-node.result.now c.requires c.index_mut-node.ensures.value
    ∙ ap (λ (n : ℕ). ended_at c.args.number c.args.end.from c.args.end.to n c.args.nodes.now.items) next
