-- Lines that name two sites, in either order.
use Rattle.std.specs.Prelude.{◌≡◌, ℕ, Bool, true, false, not, ◌&&◌, List, Ok}
use Rattle.model_world.specs.declared.command.Request.{Request}
use Rattle.model_world.specs.declared.command.Request.TheVariants.{Serve, Take}
use Rattle.model_world.specs.declared.command.Command.TheVariants.{Ask}
use Rattle.model_world.specs.Commands.{command}
use Rattle.model_world.specs.World.{World, Closed, reply, world_after}

-- the server takes the next submission of the site
abbrev pub is_serve : Request → Bool
is_serve Serve = true
is_serve _ = false

-- the server or the site takes what waits for it
abbrev pub is_turn : Request → Bool
is_turn Serve = true
is_turn Take = true
is_turn _ = false

-- Where one is the server's turn, the other is no turn: that would take what the server sends, or
-- meet what the server commits.
abbrev pub may_swap : Request → Request → Bool
may_swap asked other = not (is_serve asked && is_turn other) && not (is_turn asked && is_serve other)

-- In both orders each line has the same reply, and one world comes of them.
pub record EitherOrder (w : World) (line other : List ℕ) : Type 0 where
  pub first : (reply (reply w other).1 line).0 ≡ (reply w line).0
  pub second : (reply (reply w line).1 other).0 ≡ (reply w other).0
  pub world : (reply (reply w line).1 other).1 ≡ (reply (reply w other).1 line).1

-- So it is, whatever lines came before, of two lines that name two different sites. So a site may be
-- asked ahead of what the others are asked.
abbrev pub LinesOfTwoSitesSwap : Type 0
LinesOfTwoSitesSwap = (lines : List (List ℕ)) (line other : List ℕ) (one another : Request) (j k : ℕ) → command line ≡ Ok (Ask one j) →
    command other ≡ Ok (Ask another k) → (j ≡ k → ⊥) → may_swap one another ≡ true → EitherOrder (world_after Closed lines) line other
