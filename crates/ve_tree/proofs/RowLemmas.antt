-- Where the children of one node stand in a forest, and rows among them.
use Rattle.std.proofs.Common.{◌≡◌, ◌+◌, refl, ap, arith}
use Rattle.model_items.specs.Tree.{item_count}
use Rattle.ve_tree.specs.Named.{Named, NoNode, NamedRun, NamedBranch, unnumbered}
use Rattle.ve_tree.specs.Rows.{beside}

pub beside-assoc : (f g h : Named) → beside (beside f g) h ≡ beside f (beside g h)
beside-assoc NoNode g h = refl
beside-assoc (NamedRun n count later) g h = ap (NamedRun n count) (beside-assoc later g h)
beside-assoc (NamedBranch n kind inside later) g h = ap (NamedBranch n kind inside) (beside-assoc later g h)

pub beside-nothing : (f : Named) → beside f NoNode ≡ f
beside-nothing NoNode = refl
beside-nothing (NamedRun n count later) = ap (NamedRun n count) (beside-nothing later)
beside-nothing (NamedBranch n kind inside later) = ap (NamedBranch n kind inside) (beside-nothing later)

pub count-beside : (f g : Named) → item_count (unnumbered (beside f g)) ≡ item_count (unnumbered f) + item_count (unnumbered g)
count-beside NoNode g = omega arith
count-beside (NamedRun n count later) g = omega (arith, count-beside later g)
count-beside (NamedBranch n kind inside later) g = omega (arith, count-beside later g)
