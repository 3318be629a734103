-- Replies of a world, in the subject's words.
use Rattle.std.specs.Prelude.{◌≡◌, ℕ, List, [], Some, chars, length, slice_get}
use Rattle.model_script.specs.Output.{output, state_after}
use Rattle.model_site.specs.Session.{Member}
use Rattle.model_site.specs.Site.{told}
use Rattle.model_site_law.specs.ViewLaws.{IsViewOf, patched, whole}
use Rattle.model_world.specs.declared.command.Request.TheVariants as request
use Rattle.model_world.specs.declared.command.Command.TheVariants.{Ask}
use Rattle.model_world.specs.declared.reply.Reply.TheVariants as reply
use Rattle.model_world.specs.Spelled.{reply_text}
use Rattle.model_world.specs.World.{Closed, output_of, world_after}
use Rattle.model_world_law.specs.ViewLines.{told_last_line}
use Rattle.ve_session.specs.Asked.{reply_and_world}
use Rattle.ve_session.specs.Opened.{world_on, IsLed, OnPage}
use Rattle.ve_session.specs.States.{meaning, State}

-- Where lines lead to a page, and a site's list is as it was opened, `html` gives that page to it,
-- byte for byte.
abbrev pub UneditedIsTold : Type 0
UneditedIsTold =
    (p : OnPage) (k : ℕ) (m : Member) → IsLed (world_on p) → slice_get p.session.members k ≡ Some m →
    m.site.replica.items ≡ p.page.items → reply_and_world (world_on p) (Ask request.Html k) ≡ (reply.Page (chars p.page.page), world_on p)

-- The answer of a site to `changes`. It leads from the list that the site told last to its list.
pub record IsToldNow (p : OnPage) (lines : List (List ℕ)) (k : ℕ) (m : Member) : Type 0 where
  pub reply : (reply_and_world (world_on p) (Ask request.Tell k)).0 ≡ reply.Told (length m.site.replica.items) (told m.site)
  pub shows : IsViewOf m.site.replica.items (patched (told m.site) (whole (told_last_line k Closed lines [])))

-- So whoever keeps a copy of the list, and fetches what came, has the list, whatever the lines.
abbrev pub ChangesLead : Type 0
ChangesLead = (p : OnPage) (lines : List (List ℕ)) (k : ℕ) (m : Member) → world_after Closed lines ≡ world_on p →
    slice_get p.session.members k ≡ Some m → IsToldNow p lines k m

-- As a machine a world writes for each script what the plain machine of the definitions writes.
abbrev pub WritesAsDefined : Type 0
WritesAsDefined = (s : State) (script : List ℕ) → output reply_text meaning s script ≡ output_of s.world script

-- The lines of a script lead it to where they lead the plain machine. No line spends it.
abbrev pub LeadsAsDefined : Type 0
LeadsAsDefined = (s : State) (lines : List (List ℕ)) → state_after meaning s lines ≡ record s { world = world_after s.world lines }
