-- Worked scripts by computation: what changed in a list.
use Rattle.std.specs.Prelude.{[], ◌∷◌, codes, refl}
use Rattle.std.specs.Fmt.{digits}
use Rattle.std.specs.Str.{is_utf8}
use Rattle.model_page.proofs.OnLiterals.{page_on_literals}
use Rattle.model_world.proofs.Scripts.{Answered}

-- each edit and each reversal is told once, an attribute operation too, and a refused batch not at
-- all
edits_are_told : Answered
    ((codes "{\"do\":\"open\",\"page\":\"<p id=\\\"x\\\">ab</p>\"}", codes "ok 6")
    ∷ (codes "{\"do\":\"changes\"}", codes "ok 6 [[0,0,6]]")
    ∷ (codes "{\"do\":\"changes\"}", codes "ok 6 []")
    ∷ (codes "{\"do\":\"text\",\"at\":2,\"text\":\"X\"}", codes "ok 7")
    ∷ (codes "{\"do\":\"attr\",\"at\":0,\"name\":\"id\",\"to\":null}", codes "ok 7")
    ∷ (codes "{\"do\":\"undo\"}", codes "ok 7")
    ∷ (codes "{\"do\":\"batch\",\"cmds\":[{\"do\":\"text\",\"at\":1,\"text\":\"X\"},{\"do\":\"remove\",\"from\":9,\"to\":12}]}", codes "no batch 1 bad_range 9 12")
    ∷ (codes "{\"do\":\"changes\"}", codes "ok 7 [[2,0,1],[0,1,1],[0,1,1]]")
    ∷ (codes "{\"do\":\"changes\",\"site\":1}", codes "no bad_site 1")
    ∷ (codes "{\"do\":\"changes\"}", codes "ok 7 []")
    ∷ [])
unfolding page_on_literals is_utf8 digits
edits_are_told = refl

-- a site tells what it has not told since the page was opened; an entry that a take drops is told
-- as taken back, before the entry that it took
takes_are_told : Answered
    ((codes "{\"do\":\"open\",\"page\":\"<p>ab</p>\",\"sites\":2}", codes "ok 6")
    ∷ (codes "{\"do\":\"text\",\"at\":2,\"text\":\"X\"}", codes "ok 7")
    ∷ (codes "{\"do\":\"remove\",\"from\":1,\"to\":3,\"site\":1}", codes "ok 4")
    ∷ (codes "{\"do\":\"send\"}", codes "ok 1")
    ∷ (codes "{\"do\":\"serve\"}", codes "ok 1 of 1")
    ∷ (codes "{\"do\":\"take\",\"site\":1}", codes "ok foreign 1 dropped 1")
    ∷ (codes "{\"do\":\"changes\",\"site\":1}", codes "ok 7 [[0,0,6],[1,2,0],[1,0,2],[2,0,1]]")
    ∷ (codes "{\"do\":\"take\"}", codes "ok ack 1")
    ∷ (codes "{\"do\":\"changes\"}", codes "ok 7 [[0,0,6],[2,0,1]]")
    ∷ [])
unfolding page_on_literals is_utf8 digits
takes_are_told = refl
