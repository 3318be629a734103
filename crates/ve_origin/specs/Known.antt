-- What is known of two lists since they were compared before.
use Rattle.std.specs.Prelude.{◌≡◌, ◌≢◌, ◌⊎◌, ℕ, ◌≤◌, ◌<◌, ◌+◌, ◌-◌, List, length, slice_get, Some}
use Rattle.std.specs.List.{slice_range}
use Rattle.model_items.specs.declared.item.Item.{Item}
use Rattle.model_page.specs.declared.ref_table.RefRow.{RefRow}
use Rattle.ve_origin.specs.Origins.{FirstRead}
use Rattle.ve_origin.specs.declared.known.Known.{Known}
use Rattle.ve_origin.specs.declared.known.Run.{Run}
use Rattle.ve_origin.specs.declared.origin.OriginRow.{OriginRow}

-- these items of the two lists are the same
pub record AreAlike (now first : List Item) (run : Run) : Type 0 where
  pub here : run.now + run.count ≤ length now
  pub there : run.first + run.count ≤ length first
  pub same : slice_range now run.now (run.now + run.count) ≡ slice_range first run.first (run.first + run.count)

-- what is known holds of these two lists
pub record AreKnown (now first : List Item) (known : Known) : Type 0 where
  pub alike : AreAlike now first known.alike
  pub at_end : AreAlike now first known.at_end

-- so many items from these two positions on are the same
abbrev pub Match : (now first : List Item) (from place count : ℕ) → Type 0
Match now first from place count = slice_range now from (from + count) ≡ slice_range first place (place + count)

-- a list and the one that was first read, with the tables of their references
pub record IsKnown (now : List Item) (refs : List RefRow) (o : FirstRead) (known : Known) : Type 0 where
  pub items : AreKnown now o.items known

-- In each list of which this is known, the items from a position on are those of the node of the
-- origin k.
abbrev pub IsKnownNode : FirstRead → ℕ → ℕ → Known → Type 0
IsKnownNode o k from known =
    (now : List Item) (row : OriginRow) → AreKnown now o.items known → slice_get o.rows k ≡ Some row → Match now o.items from row.from (row.to - row.from)

-- The run begins at these positions, and goes on up to the first items that differ, or over so many
-- items where none of them do.
pub record IsLongest (now first : List Item) (from place most : ℕ) (run : Run) : Type 0 where
  pub begins : run.now ≡ from
  pub beside : run.first ≡ place
  pub alike : AreAlike now first run
  pub within : run.count ≤ most
  pub differ : run.count < most → slice_get now (from + run.count) ≢ slice_get first (place + run.count)

-- The run of two nodes of so many items: the longest from their openings on or, where the openings
-- differ, from the items after them.
abbrev pub IsRunOf : List Item → ℕ → List Item → ℕ → ℕ → Run → Type 0
IsRunOf now from first place count run =
    ((0 < run.count) × IsLongest now first from place count run)
    ⊎ ((slice_get now from ≢ slice_get first place) × IsLongest now first (from + 1) (place + 1) (count - 1) run)

-- What is known after the node at a position was compared with that of the origin k: their run, or
-- what was known before where too few items are left for such a node. What is known at the end stays.
pub record IsCompared (o : FirstRead) (k : ℕ) (now : List Item) (from : ℕ) (old new : Known) : Type 0 where
  pub row : OriginRow
  pub is : slice_get o.rows k ≡ Some row
  pub fits : from + (row.to - row.from) ≤ length now → IsRunOf now from o.items row.from (row.to - row.from) new.alike
  pub longer : length now < from + (row.to - row.from) → new ≡ old
  pub at_end : new.at_end ≡ old.at_end
