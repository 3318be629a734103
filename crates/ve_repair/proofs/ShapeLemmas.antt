-- A tree is read from the shapes of a list's items.
use Rattle.std.proofs.Common.{◌∙◌, subst}
use Rattle.ve_kinds.specs.declared.kind.Kind.TheVariants.{Root}
use Rattle.ve_arena.specs.declared.node.NodeWhat.TheVariants as what
use Rattle.ve_tree.specs.Named.{heads, IsShown}
use Rattle.ve_tree.proofs.ShapeLemmas.{length-shapes, lawful-shapes, tree-shapes}
use Rattle.ve_repair.specs.Repaired.{TreeReadsShapes}

pub tree_reads_shapes : TreeReadsShapes
tree_reads_shapes slots root items others tree e = record {
  lawful = lawful-shapes items others e tree.lawful;
  named = tree.named;
  is_tree = tree.is_tree ∙ tree-shapes items others tree.lawful e;
  apart = tree.apart;
  shown = tree.shown;
  root_shown = subst (λ n. IsShown slots root.0 (what.Node Root) n (heads tree.named)) (length-shapes items others e) tree.root_shown;
  root_alone = tree.root_alone;
  only = tree.only;
}
