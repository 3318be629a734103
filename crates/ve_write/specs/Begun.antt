-- The node at a position among blocks: an element that holds blocks, or a node that is written by
-- itself.
use Rattle.std.specs.Prelude.{ℕ, Bool, false, not, ◌&&◌, if◌then◌else◌, Option, List, [], ◌∷◌}
use Rattle.ve_base.specs.declared.head.Head.{Head}
use Rattle.ve_kinds.specs.declared.kind.Kind.{Kind}
use Rattle.ve_kinds.specs.declared.kind.Kind.TheVariants.{InternalList}
use Rattle.ve_kinds.specs.Table.{kind_same, is_leaf, is_content_branch}
use Rattle.model_items.specs.declared.item.Item.{Item}
use Rattle.model_items.specs.declared.item.Item.TheVariants.{Char, Opening, Closing}
use Rattle.ve_node_text.specs.Leaves.{leaf_of}

-- nodes of the kind hold blocks that are written
abbrev pub holds_blocks : Kind → Bool
holds_blocks kind = not (kind_same kind InternalList) && (not (is_leaf kind) && not (is_content_branch kind))

-- such a node begins the list
abbrev pub nests : List Item → Bool
nests [] = false
nests (Char ch marks ∷ items) = false
nests (Closing kind pre ∷ items) = false
nests (Opening kind generated head marks pre origin ∷ items) = holds_blocks kind

-- a leaf's text, and nothing for the internal list
abbrev pub single : Head → Option (List ℕ) → Kind → List ℕ
single head body kind = if kind_same kind InternalList then [] else leaf_of head body kind
