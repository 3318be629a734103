-- Worked spans of transactions that meet: each tells a test from one that is wrong in the way that
-- is said above it.
use Rattle.std.proofs.Common.{◌≡◌, ℕ, true, false, Some, None, codes, refl}
use Rattle.ve_tx.specs.declared.op.Op.TheVariants.{Attribute}
use Rattle.ve_rebase.specs.declared.span.ActiveSpan.{ActiveSpan}
use Rattle.ve_rebase.specs.Places.{passes}
use Rattle.ve_rebase.specs.Span.{meet}

-- one that replaces items from a position on, in a list of ten
abbrev replaces : (at reach : ℕ) → ActiveSpan
replaces at reach =
    record { active = true; attributes = false; first = at; reach = reach; last = 10; removed = reach; inserted = 1 }

-- ranges that touch, taken for a conflict
ranges_that_touch_do_not_meet : meet (replaces 2 2) (replaces 4 3) ≡ false
ranges_that_touch_do_not_meet = refl

ranges_that_overlap_meet : meet (replaces 2 2) (replaces 3 3) ≡ true
ranges_that_overlap_meet = refl

-- an attribute operation that goes past its item
attributes_pass_nothing : passes (Attribute (codes "id") None (Some (codes "x"))) ≡ 0
attributes_pass_nothing = refl
