-- Lawful lists in words of their trees, without a walk along the list.
use Rattle.std.specs.Prelude.{◌≡◌, ℕ, suc, ◌≤◌, max, Bool, true, false, if◌then◌else◌, List, map}
use Rattle.ve_base.specs.Limits.{max_open_kinds}
use Rattle.ve_kinds.specs.declared.kind.Kind.{Kind}
use Rattle.ve_kinds.specs.declared.kind.Kind.TheVariants.{Root, InternalList}
use Rattle.ve_kinds.specs.Table.{kind_same, may_hold, is_content_branch}
use Rattle.model_items.specs.declared.plain_item.PlainItem.{PlainItem}
use Rattle.model_items.specs.Law.{Lawful}
use Rattle.model_items.specs.Tree.{Forest, Empty, Run, Branch, tree_of, shape_of, shapes}

-- each node may stand in the one that holds it, and characters stand in content branches alone
abbrev pub AllHeld : Kind → Forest → Type 0
AllHeld parent Empty = Unit {0}
AllHeld parent (Run count later) = (is_content_branch parent ≡ true) × AllHeld parent later
AllHeld parent (Branch kind inside later) = (may_hold parent kind ≡ true) × AllHeld kind inside × AllHeld parent later

-- how many nodes stand one inside the other, at most
abbrev pub nesting : Forest → ℕ
nesting Empty = 0
nesting (Run count later) = nesting later
nesting (Branch kind inside later) = max (suc (nesting inside)) (nesting later)

abbrev pub is_none : Forest → Bool
is_none Empty = true
is_none _ = false

-- one of the siblings is an internal list, and it is the last of them
abbrev pub ends_with_internal_list : Forest → Bool
ends_with_internal_list Empty = false
ends_with_internal_list (Run count later) = ends_with_internal_list later
ends_with_internal_list (Branch kind inside later) = if kind_same kind InternalList then is_none later else ends_with_internal_list later

pub record IsLawfulTree (f : Forest) : Type 0 where
  pub held : AllHeld Root f
  pub nested : nesting f ≤ max_open_kinds
  pub ended : ends_with_internal_list f ≡ true

-- A lawful list is what its tree writes out, and its tree is lawful.
abbrev pub LawfulHasTree : Type 0
LawfulHasTree = (items : List PlainItem) → Lawful items → (shapes (tree_of items) ≡ map shape_of items) × IsLawfulTree (tree_of items)

-- A list that a lawful tree writes out is lawful.
abbrev pub TreeIsLawful : Type 0
TreeIsLawful = (items : List PlainItem) (f : Forest) → shapes f ≡ map shape_of items → IsLawfulTree f → Lawful items
