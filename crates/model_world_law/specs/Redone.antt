-- Undo and redo of a site, line by line.
use Rattle.std.specs.Prelude.{◌≡◌, ◌⊎◌, ℕ, List, [], ◌++◌, slice_get, Some, Ok}
use Rattle.std.specs.List.{AllByRecursion}
use Rattle.model_page.specs.PageItems.{Opened}
use Rattle.model_site.specs.Session.{Member, Session}
use Rattle.model_world.specs.declared.command.Request.TheVariants.{Undo, Redo}
use Rattle.model_world.specs.declared.command.Command.TheVariants.{Ask}
use Rattle.model_world.specs.Commands.{command}
use Rattle.model_world.specs.World.{Closed, Open, world_after}

-- the line asks site k to undo or to redo
abbrev pub AsksTurn : ℕ → List ℕ → Type 0
AsksTurn k line = (command line ≡ Ok (Ask Undo k)) ⊎ (command line ≡ Ok (Ask Redo k))

-- A site that has taken nothing and has nothing undone undoes and redoes, line by line and in any
-- order, until nothing is undone again. Its list and its store are then as before.
abbrev pub LinesRedo : Type 0
LinesRedo = (lines turns : List (List ℕ)) (page same : Opened) (w next : Session) (k : ℕ) (m n : Member) → world_after Closed lines ≡ Open page w →
    AllByRecursion (AsksTurn k) turns → world_after Closed (lines ++ turns) ≡ Open same next →
    slice_get w.members k ≡ Some m → m.site.seen ≡ 0 → m.site.undone ≡ [] → slice_get next.members k ≡ Some n → n.site.undone ≡ [] →
    (n.site.replica.items ≡ m.site.replica.items) × (n.site.replica.store ≡ m.site.replica.store)
