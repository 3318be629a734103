-- What whoever keeps a copy of a site's list has of it, line by line.
use Rattle.std.specs.Prelude.{◌≡◌, ℕ, List, [], ◌∷◌, slice_get, Option, Some, None, Result, Ok, Err}
use Rattle.model_items.specs.declared.plain_item.PlainItem.{PlainItem}
use Rattle.model_page.specs.PageItems.{Opened}
use Rattle.model_site.specs.Session.{Member, Session}
use Rattle.model_site.specs.Site.{told}
use Rattle.model_site_law.specs.ViewLaws.{IsViewOf, patched, whole}
use Rattle.model_world.specs.declared.command.Command.{Command}
use Rattle.model_world.specs.declared.command.Command.TheVariants.{OpenPage, Ask}
use Rattle.model_world.specs.declared.command.Request.{Request}
use Rattle.model_world.specs.declared.command.Request.TheVariants as request
use Rattle.model_world.specs.declared.refusal.Refusal.{Refusal}
use Rattle.model_world.specs.Commands.{command}
use Rattle.model_world.specs.World.{Answer, World, Closed, Open, answer, reply, world_after}
use Rattle.model_world_law.specs.Reached.{told_if}

-- the site that tells at this request, where one does
abbrev pub teller : Request → ℕ → Option ℕ
teller request.Tell k = Some k
teller _ k = None

-- The list that site k told last: at this command, where it is carried out, or before. Of a page
-- that opens no list was told.
abbrev pub told_at_command : (k : ℕ) → World → Command → (before : List PlainItem) → List PlainItem
told_at_command k w (OpenPage page sites) before = []
told_at_command k Closed (Ask asked j) before = before
told_at_command k (Open page session) (Ask asked j) before = told_if (teller asked j) k session before

abbrev pub told_if_read : (k : ℕ) → World → Result Command Refusal → (before : List PlainItem) → List PlainItem
told_if_read k w (Err refusal) before = before
told_if_read k w (Ok command) before = told_at_command k w command before

-- a refused line tells nothing
abbrev pub told_if_accepted : Answer → (before now : List PlainItem) → List PlainItem
told_if_accepted (Err refused) before now = before
told_if_accepted (Ok both) before now = now

abbrev pub told_at_line : (k : ℕ) → World → List ℕ → (before : List PlainItem) → List PlainItem
told_at_line k w line before = told_if_accepted (answer w line) before (told_if_read k w (command line) before)

-- the same after all of these lines
abbrev pub told_last_line : (k : ℕ) → World → List (List ℕ) → (before : List PlainItem) → List PlainItem
told_last_line k w [] before = before
told_last_line k w (line ∷ lines) before = told_last_line k (reply w line).1 lines (told_at_line k w line before)

-- Whatever the lines, what a site would tell now leads from the list that it told last to its list.
-- The list told last is empty where the site has not told since the page was opened.
abbrev pub LinesShow : Type 0
LinesShow = (lines : List (List ℕ)) (page : Opened) (w : Session) (k : ℕ) (m : Member) → world_after Closed lines ≡ Open page w →
    slice_get w.members k ≡ Some m → IsViewOf m.site.replica.items (patched (told m.site) (whole (told_last_line k Closed lines [])))
