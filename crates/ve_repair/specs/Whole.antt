-- Obligations of the code: the links that a script makes, the labels of the new forest, and that no
-- node stands besides.
use Rattle.std.specs.Prelude.{◌≡◌, ℕ, Option, None, List, [], ◌∷◌, ◌++◌, length, map}
use Rattle.ve_kinds.specs.declared.kind.Kind.TheVariants.{Root}
use Rattle.model_items.specs.declared.plain_item.PlainItem.{PlainItem}
use Rattle.ve_arena.specs.declared.node.NodeId.{NodeId}
use Rattle.ve_arena.specs.declared.node.NodeWhat.TheVariants as what
use Rattle.ve_arena.specs.declared.node.ArenaNode.{ArenaNode}
use Rattle.ve_arena.specs.Arena.{slot_at}
use Rattle.ve_tree.specs.Links.{links_of, Apart, AllApart}
use Rattle.ve_tree.specs.Named.{Named, node_numbers}
use Rattle.ve_tree.specs.IsTree.{IsTree}
use Rattle.ve_tree.specs.Fits.{IsLabelled}
use Rattle.ve_repair.specs.Work.{Step, script_links}
use Rattle.ve_repair.specs.Tokens.{old_side, puts, drops, freed_all, keeps, work_at}
use Rattle.ve_repair.specs.Spelled.{Sign, token_of, AllFrom}
use Rattle.ve_repair.specs.Script.{script_for, first_reader}
use Rattle.ve_repair.specs.Sizes.{sizes, signs_of, HaveSizes, HaveSorts}
use Rattle.ve_repair.specs.Acts.{Act, marks}
use Rattle.ve_repair.specs.Changed.{IsChangeOf, HasForest}

-- the script of acts over signs
abbrev pub script_of : (ℕ → ℕ) → List Act → List Sign → List Step
script_of supply acts ss = script_for supply (marks acts ss) (first_reader 0)

-- the arena once a script is carried out, for a forest of the new list
pub record IsCarriedOut (root : NodeId) (lefts rights : List Sign) (script : List Step) (old new : List (Option ArenaNode)) (named : Named) (others : List PlainItem) : Type 0 where
  pub links : links_of new
      ≡ freed_all (drops script) (script_links (script ++ keeps (map token_of rights)) (work_at root.0 (map token_of lefts) (old_side script (map token_of rights))) (links_of old))
  pub sorts : HaveSorts new named
  pub lengths : HaveSizes new (sizes (signs_of named) [] 0)
  pub root_labelled : IsLabelled new root.0 (what.Node Root) (length others)
  pub only : (q : ℕ) → Apart q (root.0 ∷ node_numbers named) → slot_at new q ≡ None

-- Then it has the tree of the new list, where the numbers of made nodes are distinct and none of
-- the old tree's.
abbrev pub ChangeRepairs : Type 0
ChangeRepairs = (supply : ℕ → ℕ) (root : NodeId) (old new : List (Option ArenaNode)) (items others : List PlainItem) (tree : IsTree old root items) (lefts ss rights : List Sign) (acts : List Act)
    (change : IsChangeOf tree.named lefts ss rights acts others) (forest : HasForest supply tree.named lefts ss rights acts others) →
    AllApart (puts (script_of supply acts ss)) → AllFrom (puts (script_of supply acts ss)) (root.0 ∷ node_numbers tree.named) →
    IsCarriedOut root lefts rights (script_of supply acts ss) old new forest.named others →
    IsTree new root others
