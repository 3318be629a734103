use Rattle.std.proofs.Common.{◌≡◌, take, length}
use Rattle.ve_store.specs.Following.{together}
use Rattle.ve_changes.proofs.CitedLemmas.{Citing}
use Rattle.ve_changes.proofs.cited.cited_items.Given as goal

abbrev pub invariant-loop-item : goal.invariant-loop-item
invariant-loop-item l =
    (l.new.after ≡ length l.store) × Citing (together l.store l.fn.new) (together l.store l.new) (take l.item-index l.items) l.made
