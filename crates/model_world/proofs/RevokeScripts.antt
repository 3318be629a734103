-- Worked scripts by computation: entries taken back.
use Rattle.std.specs.Prelude.{[], ◌∷◌, codes, refl}
use Rattle.std.specs.Fmt.{digits}
use Rattle.std.specs.Str.{is_utf8}
use Rattle.model_page.proofs.OnLiterals.{page_on_literals}
use Rattle.model_world.proofs.Scripts.{Answered}

-- an entry taken back under a later one; the new entry is undone and redone like any other
revoking : Answered
    ((codes "{\"do\":\"open\",\"page\":\"<p>ab</p>\",\"sites\":2}", codes "ok 6")
    ∷ (codes "{\"do\":\"text\",\"at\":1,\"text\":\"X\",\"site\":0}", codes "ok 7")
    ∷ (codes "{\"do\":\"send\",\"site\":0}", codes "ok 1")
    ∷ (codes "{\"do\":\"serve\",\"site\":0}", codes "ok 1 of 1")
    ∷ (codes "{\"do\":\"take\",\"site\":1}", codes "ok foreign 1 dropped 0")
    ∷ (codes "{\"do\":\"text\",\"at\":3,\"text\":\"Y\",\"site\":1}", codes "ok 8")
    ∷ (codes "{\"do\":\"send\",\"site\":1}", codes "ok 1")
    ∷ (codes "{\"do\":\"serve\",\"site\":1}", codes "ok 1 of 1")
    ∷ (codes "{\"do\":\"take\",\"site\":0}", codes "ok ack 1")
    ∷ (codes "{\"do\":\"take\",\"site\":0}", codes "ok foreign 1 dropped 0")
    ∷ (codes "{\"do\":\"revoke\",\"entry\":2,\"site\":0}", codes "no bad_entry 2 2")
    ∷ (codes "{\"do\":\"revoke\",\"entry\":0,\"site\":0}", codes "ok 7")
    ∷ (codes "{\"do\":\"html\",\"site\":0}", codes "ok \"<p>aYb</p>\"")
    ∷ (codes "{\"do\":\"undo\",\"site\":0}", codes "ok 8")
    ∷ (codes "{\"do\":\"redo\",\"site\":0}", codes "ok 7")
    ∷ [])
unfolding page_on_literals is_utf8 digits
revoking = refl

-- a later entry that removes more stands in the way
revoke_in_conflict : Answered
    ((codes "{\"do\":\"open\",\"page\":\"<p>ab</p>\",\"sites\":2}", codes "ok 6")
    ∷ (codes "{\"do\":\"text\",\"at\":1,\"text\":\"X\",\"site\":0}", codes "ok 7")
    ∷ (codes "{\"do\":\"send\",\"site\":0}", codes "ok 1")
    ∷ (codes "{\"do\":\"serve\",\"site\":0}", codes "ok 1 of 1")
    ∷ (codes "{\"do\":\"take\",\"site\":1}", codes "ok foreign 1 dropped 0")
    ∷ (codes "{\"do\":\"remove\",\"from\":1,\"to\":3,\"site\":1}", codes "ok 5")
    ∷ (codes "{\"do\":\"send\",\"site\":1}", codes "ok 1")
    ∷ (codes "{\"do\":\"serve\",\"site\":1}", codes "ok 1 of 1")
    ∷ (codes "{\"do\":\"take\",\"site\":0}", codes "ok ack 1")
    ∷ (codes "{\"do\":\"take\",\"site\":0}", codes "ok foreign 1 dropped 0")
    ∷ (codes "{\"do\":\"revoke\",\"entry\":0,\"site\":0}", codes "no revoke_conflict 1 3 1 2")
    ∷ (codes "{\"do\":\"html\",\"site\":0}", codes "ok \"<p>b</p>\"")
    ∷ [])
unfolding page_on_literals is_utf8 digits
revoke_in_conflict = refl

-- a removal that is taken back twice brings its content back twice, so an origin may occur twice
revoked_twice : Answered
    ((codes "{\"do\":\"open\",\"page\":\"<p id=\\\"x\\\">a</p><p>b</p>\",\"sites\":2}", codes "ok 8")
    ∷ (codes "{\"do\":\"remove\",\"from\":0,\"to\":3,\"site\":0}", codes "ok 5")
    ∷ (codes "{\"do\":\"send\",\"site\":0}", codes "ok 1")
    ∷ (codes "{\"do\":\"serve\",\"site\":0}", codes "ok 1 of 1")
    ∷ (codes "{\"do\":\"take\",\"site\":0}", codes "ok ack 1")
    ∷ (codes "{\"do\":\"revoke\",\"entry\":0,\"site\":0}", codes "ok 8")
    ∷ (codes "{\"do\":\"revoke\",\"entry\":0,\"site\":0}", codes "ok 11")
    ∷ (codes "{\"do\":\"html\",\"site\":0}", codes "ok \"<p id=\\\"x\\\">a</p><p id=\\\"x\\\">a</p><p>b</p>\"")
    ∷ (codes "{\"do\":\"data\",\"from\":0,\"to\":6,\"site\":0}", codes "ok [{\"attrs\":[[\"id\",\"x\"]],\"open\":\"p\",\"origin\":0},\"a\",{\"close\":\"p\"},{\"attrs\":[[\"id\",\"x\"]],\"open\":\"p\",\"origin\":0},\"a\",{\"close\":\"p\"}]")
    ∷ [])
unfolding page_on_literals is_utf8 digits
revoked_twice = refl

-- what was undone before a send can be redone after it, and not after a take
redo_after_send : Answered
    ((codes "{\"do\":\"open\",\"page\":\"<p>ab</p>\"}", codes "ok 6")
    ∷ (codes "{\"do\":\"text\",\"at\":1,\"text\":\"X\"}", codes "ok 7")
    ∷ (codes "{\"do\":\"text\",\"at\":1,\"text\":\"Y\"}", codes "ok 8")
    ∷ (codes "{\"do\":\"undo\"}", codes "ok 7")
    ∷ (codes "{\"do\":\"send\"}", codes "ok 1")
    ∷ (codes "{\"do\":\"redo\"}", codes "ok 8")
    ∷ (codes "{\"do\":\"undo\"}", codes "ok 7")
    ∷ (codes "{\"do\":\"undo\"}", codes "no already_shared 1")
    ∷ (codes "{\"do\":\"serve\"}", codes "ok 1 of 1")
    ∷ (codes "{\"do\":\"take\"}", codes "ok ack 1")
    ∷ (codes "{\"do\":\"redo\"}", codes "no nothing_to_redo")
    ∷ [])
unfolding page_on_literals is_utf8 digits
redo_after_send = refl

-- One person takes back two changes of the same words that were shared, the last first, under another's
-- typing, and makes the first again.
in_company : Answered
    ((codes "{\"do\":\"open\",\"page\":\"<p>abcd</p>\",\"sites\":2}", codes "ok 8")
    ∷ (codes "{\"do\":\"mark\",\"from\":1,\"to\":3,\"tag\":\"b\"}", codes "ok 8")
    ∷ (codes "{\"do\":\"send\"}", codes "ok 1")
    ∷ (codes "{\"do\":\"serve\"}", codes "ok 1 of 1")
    ∷ (codes "{\"do\":\"take\"}", codes "ok ack 1")
    ∷ (codes "{\"do\":\"mark\",\"from\":1,\"to\":3,\"tag\":\"i\"}", codes "ok 8")
    ∷ (codes "{\"do\":\"send\"}", codes "ok 1")
    ∷ (codes "{\"do\":\"serve\"}", codes "ok 1 of 1")
    ∷ (codes "{\"do\":\"take\"}", codes "ok ack 1")
    ∷ (codes "{\"do\":\"take\",\"site\":1}", codes "ok foreign 1 dropped 0")
    ∷ (codes "{\"do\":\"take\",\"site\":1}", codes "ok foreign 1 dropped 0")
    ∷ (codes "{\"do\":\"text\",\"at\":4,\"text\":\"X\",\"site\":1}", codes "ok 9")
    ∷ (codes "{\"do\":\"send\",\"site\":1}", codes "ok 1")
    ∷ (codes "{\"do\":\"serve\",\"site\":1}", codes "ok 1 of 1")
    ∷ (codes "{\"do\":\"take\"}", codes "ok foreign 1 dropped 0")
    ∷ (codes "{\"do\":\"revoke\",\"entry\":1,\"live\":true}", codes "ok 9")
    ∷ (codes "{\"do\":\"send\"}", codes "ok 1")
    ∷ (codes "{\"do\":\"serve\"}", codes "ok 1 of 1")
    ∷ (codes "{\"do\":\"take\"}", codes "ok ack 1")
    ∷ (codes "{\"do\":\"revoke\",\"entry\":0}", codes "no revoke_conflict 1 3 1 3")
    ∷ (codes "{\"do\":\"revoke\",\"entry\":1,\"live\":true}", codes "no taken_back 1 3")
    ∷ (codes "{\"do\":\"revoke\",\"entry\":0,\"live\":true}", codes "ok 9")
    ∷ (codes "{\"do\":\"html\"}", codes "ok \"<p>abcXd</p>\"")
    ∷ (codes "{\"do\":\"send\"}", codes "ok 1")
    ∷ (codes "{\"do\":\"serve\"}", codes "ok 1 of 1")
    ∷ (codes "{\"do\":\"take\"}", codes "ok ack 1")
    ∷ (codes "{\"do\":\"revoke\",\"entry\":4,\"live\":true}", codes "ok 9")
    ∷ (codes "{\"do\":\"html\"}", codes "ok \"<p><b>ab</b>cXd</p>\"")
    ∷ (codes "{\"do\":\"undo\"}", codes "ok 9")
    ∷ (codes "{\"do\":\"revoke\",\"entry\":3,\"live\":true}", codes "no revoke_conflict 1 3 1 3")
    ∷ (codes "{\"do\":\"revoke\",\"entry\":9,\"live\":true}", codes "no bad_entry 9 5")
    ∷ (codes "{\"do\":\"revoke\",\"entry\":0,\"live\":1}", codes "no bad_command live")
    ∷ [])
unfolding page_on_literals is_utf8 digits
in_company = refl
