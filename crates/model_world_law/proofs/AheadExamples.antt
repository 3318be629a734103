-- Lines that name two sites, in both orders.
use Rattle.std.specs.Prelude.{◌≡◌, true, false, [], ◌∷◌, codes, refl}
use Rattle.std.specs.Fmt.{digits}
use Rattle.std.specs.Str.{is_utf8}
use Rattle.model_page.proofs.OnLiterals.{page_on_literals}
use Rattle.model_world.specs.declared.command.Request.TheVariants.{Send, Serve, Take, Undo}
use Rattle.model_world.proofs.Scripts.{Answered}
use Rattle.model_world_law.specs.AheadLaws.{may_swap}

edits_swap : may_swap Undo Send ≡ true
edits_swap = refl

edit_and_server_swap : may_swap Serve Undo ≡ true
edit_and_server_swap = refl

two_sites_take : may_swap Take Take ≡ true
two_sites_take = refl

server_feeds_the_other : may_swap Serve Take ≡ false
server_feeds_the_other = refl

server_commits_before_the_other : may_swap Serve Serve ≡ false
server_commits_before_the_other = refl

-- What the server's turn commits, it sends to the other site, which takes it then,
takes_behind : Answered
    ((codes "{\"do\":\"open\",\"page\":\"<p></p>\",\"sites\":2}", codes "ok 4")
    ∷ (codes "{\"do\":\"text\",\"at\":1,\"text\":\"A\"}", codes "ok 5")
    ∷ (codes "{\"do\":\"send\"}", codes "ok 1")
    ∷ (codes "{\"do\":\"serve\",\"site\":0}", codes "ok 1 of 1")
    ∷ (codes "{\"do\":\"take\",\"site\":1}", codes "ok foreign 1 dropped 0")
    ∷ [])
unfolding page_on_literals is_utf8 digits
takes_behind = refl

-- and has nothing to take before.
takes_ahead : Answered
    ((codes "{\"do\":\"open\",\"page\":\"<p></p>\",\"sites\":2}", codes "ok 4")
    ∷ (codes "{\"do\":\"text\",\"at\":1,\"text\":\"A\"}", codes "ok 5")
    ∷ (codes "{\"do\":\"send\"}", codes "ok 1")
    ∷ (codes "{\"do\":\"take\",\"site\":1}", codes "no nothing_queued")
    ∷ (codes "{\"do\":\"serve\",\"site\":0}", codes "ok 1 of 1")
    ∷ [])
unfolding page_on_literals is_utf8 digits
takes_ahead = refl
