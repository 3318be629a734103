-- The brackets of a range whose partners are not in it.
use Rattle.std.specs.Prelude.{◌≡◌, ◌≤◌, ℕ, zero, suc, ◌-◌, List, [], ◌∷◌, ◌++◌, length, take, drop}
use Rattle.model_items.specs.declared.item.Item.{Item}
use Rattle.model_items.specs.declared.item.Item.TheVariants.{Char, Opening, Closing}
use Rattle.model_items.specs.Law.{Lawful}
use Rattle.model_items.specs.Tree.{Open}
use Rattle.model_items.specs.Offsets.{opens_at, unmatched_counts}
use Rattle.ve_tree.specs.IsTree.{unvalued}

-- How a range is counted: with one more item, how many closings and openings are unmatched. An
-- opening is, until its closing comes; a closing is the partner of the last opening that is, or is
-- unmatched itself.
abbrev pub unmatched_with : Item → ℕ × ℕ → ℕ × ℕ
unmatched_with (Char ch marks) (closings, openings) = (closings, openings)
unmatched_with (Opening kind head marks pre origin generated) (closings, openings) = (closings, suc openings)
unmatched_with (Closing kind pre) (closings, zero) = (suc closings, zero)
unmatched_with (Closing kind pre) (closings, suc openings) = (closings, openings)

abbrev pub unmatched_after : ℕ × ℕ → List Item → ℕ × ℕ
unmatched_after counts [] = counts
unmatched_after counts (item ∷ items) = unmatched_after (unmatched_with item counts) items

-- the walk over the items from one offset to another; a lemma takes it to the model's `unmatched`
abbrev pub unmatched_in : List Item → ℕ → ℕ → ℕ × ℕ
unmatched_in items from to = unmatched_after (0, 0) (take (to - from) (drop from items))

-- all of them begin at a position or after it
abbrev pub AllBegin : ℕ → List Open → Type 0
AllBegin from [] = Unit {0}
AllBegin from (o ∷ opens) = (from ≤ o.from) × AllBegin from opens

-- Of the nodes that are open at the range's start, the innermost are closed, as many as there are
-- unmatched closings. The others stay open, and inside them the nodes that begin in the range and
-- are still open at its end, as many as there are unmatched openings.
pub record IsOpenedAndClosed (items : List Item) (from to : ℕ) : Type 0 where
  pub begun : List Open
  pub in_range : AllBegin from begun
  pub openings : length begun ≡ (unmatched_counts (unvalued items) from to).1
  pub closings : (unmatched_counts (unvalued items) from to).0 ≤ length (opens_at (unvalued items) from)
  pub open_at_end : opens_at (unvalued items) to ≡ begun ++ drop (unmatched_counts (unvalued items) from to).0 (opens_at (unvalued items) from)

abbrev pub UnmatchedAreOpen : Type 0
UnmatchedAreOpen =
    (items : List Item) (from to : ℕ) → Lawful (unvalued items) → from ≤ to → to ≤ length items → IsOpenedAndClosed items from to
