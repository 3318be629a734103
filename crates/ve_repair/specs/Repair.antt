-- The task of a repair, and its result.
use Rattle.std.specs.Prelude.{◌≡◌, ℕ, Option, None, List, ◌∷◌, ◌++◌, length}
use Rattle.ve_kinds.specs.declared.kind.Kind.TheVariants.{Root}
use Rattle.model_items.specs.declared.plain_item.PlainItem.{PlainItem}
use Rattle.model_items.specs.Law.{Lawful}
use Rattle.model_items.specs.Tree.{tree_of}
use Rattle.ve_arena.specs.declared.node.NodeId.{NodeId}
use Rattle.ve_arena.specs.declared.node.NodeWhat.TheVariants as what
use Rattle.ve_arena.specs.declared.node.ArenaNode.{ArenaNode}
use Rattle.ve_arena.specs.Arena.{slot_at}
use Rattle.ve_tree.specs.Links.{links_of, Apart, AllApart}
use Rattle.ve_tree.specs.Named.{Named, unnumbered, node_numbers}
use Rattle.ve_tree.specs.IsTree.{IsTree}
use Rattle.ve_tree.specs.Fits.{IsLabelled, AreLabelled}
use Rattle.ve_repair.specs.Work.{Step, script_links}
use Rattle.ve_repair.specs.Tokens.{Token, tokens, old_side, new_side, puts, drops, freed_all, keeps, Free, work_at}
use Rattle.ve_repair.specs.Spelled.{AllFrom}

-- The script's old side stands in the tree of one list, and its new side in that of another. Next
-- come what it keeps, takes away and puts, with the numbers that are free for that, and then the
-- labels and the nodes that there are.
pub record IsRepair (root : NodeId) (left : List Token) (script : List Step) (right : List Token) (old new : List (Option ArenaNode)) (items others : List PlainItem) (tree : IsTree old root items) (named : Named) : Type 0 where
  pub old_tokens : tokens tree.named ≡ left ++ old_side script right
  pub new_tokens : tokens named ≡ left ++ new_side script right
  pub lawful : Lawful others
  pub spells : unnumbered named ≡ tree_of others
  pub apart : AllApart (root.0 ∷ node_numbers named)
  pub free : Free (puts script) (work_at root.0 left (old_side script right)).done (work_at root.0 left (old_side script right)).rest
  pub root_free : Apart root.0 (puts script)
  -- nodes that go are freed at the end
  pub gone : AllFrom (drops script) (root.0 ∷ node_numbers named)
  pub links : links_of new ≡ freed_all (drops script) (script_links (script ++ keeps right) (work_at root.0 left (old_side script right)) (links_of old))
  pub labelled : AreLabelled new named
  pub root_labelled : IsLabelled new root.0 (what.Node Root) (length others)
  pub only : (q : ℕ) → Apart q (root.0 ∷ node_numbers named) → slot_at new q ≡ None

-- Then the nodes are the tree of the other list.
abbrev pub RepairGivesTree : Type 0
RepairGivesTree = (root : NodeId) (left right : List Token) (script : List Step) (old new : List (Option ArenaNode)) (items others : List PlainItem) (tree : IsTree old root items) (named : Named) →
    IsRepair root left script right old new items others tree named → IsTree new root others
