-- Worked scripts by computation: several sites.
use Rattle.std.specs.Prelude.{[], ◌∷◌, codes, refl}
use Rattle.std.specs.Fmt.{digits}
use Rattle.std.specs.Str.{is_utf8}
use Rattle.model_page.proofs.OnLiterals.{page_on_literals}
use Rattle.model_world.proofs.Scripts.{Answered}

-- two texts at one position: the committed one stays left
tie : Answered
    ((codes "{\"do\":\"open\",\"page\":\"<p></p>\",\"sites\":2}", codes "ok 4")
    ∷ (codes "{\"do\":\"text\",\"at\":1,\"text\":\"A\",\"site\":0}", codes "ok 5")
    ∷ (codes "{\"do\":\"text\",\"at\":1,\"text\":\"B\",\"site\":1}", codes "ok 5")
    ∷ (codes "{\"do\":\"send\",\"site\":0}", codes "ok 1")
    ∷ (codes "{\"do\":\"undo\",\"site\":0}", codes "no already_shared 1")
    ∷ (codes "{\"do\":\"send\",\"site\":0}", codes "no in_flight 1")
    ∷ (codes "{\"do\":\"send\",\"site\":1}", codes "ok 1")
    ∷ (codes "{\"do\":\"serve\",\"site\":0}", codes "ok 1 of 1")
    ∷ (codes "{\"do\":\"serve\",\"site\":1}", codes "ok 1 of 1")
    ∷ (codes "{\"do\":\"serve\",\"site\":1}", codes "no nothing_queued")
    ∷ (codes "{\"do\":\"take\",\"site\":0}", codes "ok ack 1")
    ∷ (codes "{\"do\":\"take\",\"site\":0}", codes "ok foreign 1 dropped 0")
    ∷ (codes "{\"do\":\"take\",\"site\":1}", codes "ok foreign 1 dropped 0")
    ∷ (codes "{\"do\":\"take\",\"site\":1}", codes "ok ack 1")
    ∷ (codes "{\"do\":\"html\",\"site\":0}", codes "ok \"<p>AB</p>\"")
    ∷ (codes "{\"do\":\"html\",\"site\":1}", codes "ok \"<p>AB</p>\"")
    ∷ (codes "{\"do\":\"html\",\"site\":2}", codes "no bad_site 2")
    ∷ (codes "{\"do\":\"send\",\"site\":0}", codes "no nothing_to_send")
    ∷ (codes "{\"do\":\"take\",\"site\":0}", codes "no nothing_queued")
    ∷ [])
unfolding page_on_literals is_utf8 digits
tie = refl

-- a text inside of what another site removed
conflict : Answered
    ((codes "{\"do\":\"open\",\"page\":\"<p>abcd</p>\",\"sites\":2}", codes "ok 8")
    ∷ (codes "{\"do\":\"remove\",\"from\":1,\"to\":3,\"site\":0}", codes "ok 6")
    ∷ (codes "{\"do\":\"text\",\"at\":2,\"text\":\"X\",\"site\":1}", codes "ok 9")
    ∷ (codes "{\"do\":\"send\",\"site\":0}", codes "ok 1")
    ∷ (codes "{\"do\":\"send\",\"site\":1}", codes "ok 1")
    ∷ (codes "{\"do\":\"serve\",\"site\":0}", codes "ok 1 of 1")
    ∷ (codes "{\"do\":\"serve\",\"site\":1}", codes "ok 0 of 1 conflict 1 3 2 2")
    ∷ (codes "{\"do\":\"take\",\"site\":1}", codes "ok foreign 1 dropped 1")
    ∷ (codes "{\"do\":\"take\",\"site\":1}", codes "ok ack 0")
    ∷ (codes "{\"do\":\"html\",\"site\":1}", codes "ok \"<p>cd</p>\"")
    ∷ [])
unfolding page_on_literals is_utf8 digits
conflict = refl

-- a text at the edge of what another site removed
conflict_boundary : Answered
    ((codes "{\"do\":\"open\",\"page\":\"<p>abcd</p>\",\"sites\":2}", codes "ok 8")
    ∷ (codes "{\"do\":\"remove\",\"from\":1,\"to\":3,\"site\":0}", codes "ok 6")
    ∷ (codes "{\"do\":\"text\",\"at\":1,\"text\":\"X\",\"site\":1}", codes "ok 9")
    ∷ (codes "{\"do\":\"send\",\"site\":0}", codes "ok 1")
    ∷ (codes "{\"do\":\"send\",\"site\":1}", codes "ok 1")
    ∷ (codes "{\"do\":\"serve\",\"site\":0}", codes "ok 1 of 1")
    ∷ (codes "{\"do\":\"serve\",\"site\":1}", codes "ok 1 of 1")
    ∷ (codes "{\"do\":\"take\",\"site\":1}", codes "ok foreign 1 dropped 0")
    ∷ (codes "{\"do\":\"take\",\"site\":1}", codes "ok ack 1")
    ∷ (codes "{\"do\":\"take\",\"site\":0}", codes "ok ack 1")
    ∷ (codes "{\"do\":\"take\",\"site\":0}", codes "ok foreign 1 dropped 0")
    ∷ (codes "{\"do\":\"html\",\"site\":0}", codes "ok \"<p>Xcd</p>\"")
    ∷ (codes "{\"do\":\"html\",\"site\":1}", codes "ok \"<p>Xcd</p>\"")
    ∷ [])
unfolding page_on_literals is_utf8 digits
conflict_boundary = refl

-- after a conflict the rest of a submission is dropped, and what was made on it
rest_is_dropped : Answered
    ((codes "{\"do\":\"open\",\"page\":\"<p>abcd</p>\",\"sites\":2}", codes "ok 8")
    ∷ (codes "{\"do\":\"remove\",\"from\":1,\"to\":3,\"site\":0}", codes "ok 6")
    ∷ (codes "{\"do\":\"send\",\"site\":0}", codes "ok 1")
    ∷ (codes "{\"do\":\"serve\",\"site\":0}", codes "ok 1 of 1")
    ∷ (codes "{\"do\":\"text\",\"at\":5,\"text\":\"X\",\"site\":1}", codes "ok 9")
    ∷ (codes "{\"do\":\"text\",\"at\":2,\"text\":\"Y\",\"site\":1}", codes "ok 10")
    ∷ (codes "{\"do\":\"text\",\"at\":7,\"text\":\"Z\",\"site\":1}", codes "ok 11")
    ∷ (codes "{\"do\":\"send\",\"site\":1}", codes "ok 3")
    ∷ (codes "{\"do\":\"text\",\"at\":1,\"text\":\"W\",\"site\":1}", codes "ok 12")
    ∷ (codes "{\"do\":\"serve\",\"site\":1}", codes "ok 1 of 3 conflict 1 3 2 2")
    ∷ (codes "{\"do\":\"take\",\"site\":1}", codes "ok foreign 1 dropped 3")
    ∷ (codes "{\"do\":\"take\",\"site\":1}", codes "ok ack 1")
    ∷ (codes "{\"do\":\"take\",\"site\":0}", codes "ok ack 1")
    ∷ (codes "{\"do\":\"take\",\"site\":0}", codes "ok foreign 1 dropped 0")
    ∷ (codes "{\"do\":\"html\",\"site\":0}", codes "ok \"<p>cdX</p>\"")
    ∷ (codes "{\"do\":\"html\",\"site\":1}", codes "ok \"<p>cdX</p>\"")
    ∷ [])
unfolding page_on_literals is_utf8 digits
rest_is_dropped = refl

-- two attributes of one opening, set by two sites
attributes_apart : Answered
    ((codes "{\"do\":\"open\",\"page\":\"<p id=\\\"x\\\" class=\\\"c\\\">a</p>\",\"sites\":2}", codes "ok 5")
    ∷ (codes "{\"do\":\"attr\",\"at\":0,\"name\":\"id\",\"to\":\"y\",\"site\":0}", codes "ok 5")
    ∷ (codes "{\"do\":\"attr\",\"at\":0,\"name\":\"class\",\"to\":\"d\",\"site\":1}", codes "ok 5")
    ∷ (codes "{\"do\":\"send\",\"site\":0}", codes "ok 1")
    ∷ (codes "{\"do\":\"send\",\"site\":1}", codes "ok 1")
    ∷ (codes "{\"do\":\"serve\",\"site\":0}", codes "ok 1 of 1")
    ∷ (codes "{\"do\":\"serve\",\"site\":1}", codes "ok 1 of 1")
    ∷ (codes "{\"do\":\"take\",\"site\":0}", codes "ok ack 1")
    ∷ (codes "{\"do\":\"take\",\"site\":0}", codes "ok foreign 1 dropped 0")
    ∷ (codes "{\"do\":\"take\",\"site\":1}", codes "ok foreign 1 dropped 0")
    ∷ (codes "{\"do\":\"take\",\"site\":1}", codes "ok ack 1")
    ∷ (codes "{\"do\":\"html\",\"site\":0}", codes "ok \"<p id=\\\"y\\\" class=\\\"d\\\">a</p>\"")
    ∷ (codes "{\"do\":\"html\",\"site\":1}", codes "ok \"<p id=\\\"y\\\" class=\\\"d\\\">a</p>\"")
    ∷ [])
unfolding page_on_literals is_utf8 digits
attributes_apart = refl

-- one attribute, set by two sites
one_name : Answered
    ((codes "{\"do\":\"open\",\"page\":\"<p id=\\\"x\\\" class=\\\"c\\\">a</p>\",\"sites\":2}", codes "ok 5")
    ∷ (codes "{\"do\":\"attr\",\"at\":0,\"name\":\"id\",\"to\":\"y\",\"site\":0}", codes "ok 5")
    ∷ (codes "{\"do\":\"attr\",\"at\":0,\"name\":\"id\",\"to\":\"z\",\"site\":1}", codes "ok 5")
    ∷ (codes "{\"do\":\"send\",\"site\":0}", codes "ok 1")
    ∷ (codes "{\"do\":\"send\",\"site\":1}", codes "ok 1")
    ∷ (codes "{\"do\":\"serve\",\"site\":0}", codes "ok 1 of 1")
    ∷ (codes "{\"do\":\"serve\",\"site\":1}", codes "ok 0 of 1 conflict 0 1 0 1")
    ∷ [])
unfolding page_on_literals is_utf8 digits
one_name = refl

-- two attributes, added by two sites
two_added : Answered
    ((codes "{\"do\":\"open\",\"page\":\"<p id=\\\"x\\\" class=\\\"c\\\">a</p>\",\"sites\":2}", codes "ok 5")
    ∷ (codes "{\"do\":\"attr\",\"at\":0,\"name\":\"title\",\"to\":\"t\",\"site\":0}", codes "ok 5")
    ∷ (codes "{\"do\":\"attr\",\"at\":0,\"name\":\"lang\",\"to\":\"l\",\"site\":1}", codes "ok 5")
    ∷ (codes "{\"do\":\"send\",\"site\":0}", codes "ok 1")
    ∷ (codes "{\"do\":\"send\",\"site\":1}", codes "ok 1")
    ∷ (codes "{\"do\":\"serve\",\"site\":0}", codes "ok 1 of 1")
    ∷ (codes "{\"do\":\"serve\",\"site\":1}", codes "ok 0 of 1 conflict 0 1 0 1")
    ∷ [])
unfolding page_on_literals is_utf8 digits
two_added = refl

-- one attribute added and another set
added_and_set : Answered
    ((codes "{\"do\":\"open\",\"page\":\"<p id=\\\"x\\\" class=\\\"c\\\">a</p>\",\"sites\":2}", codes "ok 5")
    ∷ (codes "{\"do\":\"attr\",\"at\":0,\"name\":\"title\",\"to\":\"t\",\"site\":0}", codes "ok 5")
    ∷ (codes "{\"do\":\"attr\",\"at\":0,\"name\":\"id\",\"to\":\"z\",\"site\":1}", codes "ok 5")
    ∷ (codes "{\"do\":\"send\",\"site\":0}", codes "ok 1")
    ∷ (codes "{\"do\":\"send\",\"site\":1}", codes "ok 1")
    ∷ (codes "{\"do\":\"serve\",\"site\":0}", codes "ok 1 of 1")
    ∷ (codes "{\"do\":\"serve\",\"site\":1}", codes "ok 1 of 1")
    ∷ [])
unfolding page_on_literals is_utf8 digits
added_and_set = refl

-- an undo after a foreign change of the same opening
undo_under_foreign : Answered
    ((codes "{\"do\":\"open\",\"page\":\"<p id=\\\"x\\\" class=\\\"c\\\">a</p>\",\"sites\":2}", codes "ok 5")
    ∷ (codes "{\"do\":\"attr\",\"at\":0,\"name\":\"class\",\"to\":\"d\",\"site\":1}", codes "ok 5")
    ∷ (codes "{\"do\":\"attr\",\"at\":0,\"name\":\"id\",\"to\":\"y\",\"site\":0}", codes "ok 5")
    ∷ (codes "{\"do\":\"send\",\"site\":0}", codes "ok 1")
    ∷ (codes "{\"do\":\"serve\",\"site\":0}", codes "ok 1 of 1")
    ∷ (codes "{\"do\":\"take\",\"site\":1}", codes "ok foreign 1 dropped 0")
    ∷ (codes "{\"do\":\"undo\",\"site\":1}", codes "ok 5")
    ∷ (codes "{\"do\":\"html\",\"site\":1}", codes "ok \"<p id=\\\"y\\\" class=\\\"c\\\">a</p>\"")
    ∷ [])
unfolding page_on_literals is_utf8 digits
undo_under_foreign = refl
