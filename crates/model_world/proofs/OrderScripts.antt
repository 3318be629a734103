-- Worked scripts by computation: which of several causes is told.
use Rattle.std.specs.Prelude.{[], ◌∷◌, codes, refl}
use Rattle.std.specs.Fmt.{digits}
use Rattle.std.specs.Str.{is_utf8}
use Rattle.model_page.proofs.OnLiterals.{page_on_literals}
use Rattle.model_world.proofs.Scripts.{Answered}

-- the line is judged before the world: its members, whether a page is open, and whether there is
-- such a site
line_before_world : Answered
    ((codes "{\"do\":\"html\",\"site\":9}", codes "no not_open")
    ∷ (codes "{\"do\":\"text\",\"at\":0,\"text\":\"\",\"site\":9}", codes "no bad_command text")
    ∷ (codes "{\"do\":\"open\",\"page\":\"<p>a</p>\",\"sites\":2}", codes "ok 5")
    ∷ (codes "{\"do\":\"text\",\"at\":0,\"text\":\"\",\"site\":9}", codes "no bad_command text")
    ∷ (codes "{\"do\":\"text\",\"at\":9,\"text\":\"x\",\"site\":2}", codes "no bad_site 2")
    ∷ [])
unfolding page_on_literals is_utf8 digits
line_before_world = refl

-- ranges and offsets of a list of five items, the end of the list among them
ranges_and_offsets : Answered
    ((codes "{\"do\":\"open\",\"page\":\"<p>a</p>\"}", codes "ok 5")
    ∷ (codes "{\"do\":\"data\",\"from\":3,\"to\":2}", codes "no bad_range 3 2")
    ∷ (codes "{\"do\":\"data\",\"from\":6}", codes "no bad_range 6 5")
    ∷ (codes "{\"do\":\"data\",\"from\":5}", codes "ok []")
    ∷ (codes "{\"do\":\"at\",\"at\":6}", codes "no bad_offset 6")
    ∷ (codes "{\"do\":\"at\",\"at\":5}", codes "ok root 0 5 structural")
    ∷ (codes "{\"do\":\"select\",\"anchor\":6,\"focus\":7}", codes "no bad_offset 6")
    ∷ (codes "{\"do\":\"select\",\"anchor\":5,\"focus\":7}", codes "no bad_offset 7")
    ∷ (codes "{\"do\":\"select\",\"anchor\":5,\"focus\":5}", codes "ok 5 5")
    ∷ (codes "{\"do\":\"erase\",\"dir\":\"ahead\"}", codes "no not_content 5")
    ∷ [])
unfolding page_on_literals is_utf8 digits
ranges_and_offsets = refl

-- of a fragment the offset is judged first, then its spelling, and then its position
offset_before_spelling : Answered
    ((codes "{\"do\":\"open\",\"page\":\"<p>a</p>\"}", codes "ok 5")
    ∷ (codes "{\"do\":\"insert\",\"at\":9,\"html\":\"<b>\"}", codes "no bad_offset 9")
    ∷ (codes "{\"do\":\"insert\",\"at\":4,\"html\":\"<b>\"}", codes "no html unclosed 0")
    ∷ (codes "{\"do\":\"insert\",\"at\":4,\"html\":\"x\"}", codes "no place 4")
    ∷ (codes "{\"do\":\"insert\",\"at\":1,\"html\":\"<p>x</p>y\"}", codes "ok 13")
    ∷ [])
unfolding page_on_literals is_utf8 digits
offset_before_spelling = refl

-- the causes of one call, the first of them told
causes_of_builders : Answered
    ((codes "{\"do\":\"open\",\"page\":\"<p>a</p>\"}", codes "ok 5")
    ∷ (codes "{\"do\":\"split\",\"at\":9,\"depth\":0}", codes "no bad_offset 9")
    ∷ (codes "{\"do\":\"split\",\"at\":0,\"depth\":0}", codes "no not_content 0")
    ∷ (codes "{\"do\":\"split\",\"at\":1,\"depth\":0}", codes "no bad_depth 0")
    ∷ (codes "{\"do\":\"mark\",\"from\":2,\"to\":2,\"tag\":\"div\"}", codes "no bad_range 2 2")
    ∷ (codes "{\"do\":\"attr\",\"at\":1,\"name\":\"about\",\"to\":\"y\"}", codes "no not_opening 1")
    ∷ (codes "{\"do\":\"convert\",\"at\":0,\"kind\":\"ul\"}", codes "no not_branch 0")
    ∷ (codes "{\"do\":\"remove\",\"from\":0,\"to\":5}", codes "no bad_range 0 5")
    ∷ [])
unfolding page_on_literals is_utf8 digits
causes_of_builders = refl

-- lengths before attributes, and attributes before the law
causes_of_operations : Answered
    ((codes "{\"do\":\"open\",\"page\":\"<p>a</p>\"}", codes "ok 5")
    ∷ (codes "{\"do\":\"apply\",\"ops\":[{\"attr\":\"about\",\"to\":\"y\"},{\"retain\":4}]}", codes "no bad_length 5 4")
    ∷ (codes "{\"do\":\"apply\",\"ops\":[{\"attr\":\"about\",\"to\":\"y\"},{\"retain\":5}]}", codes "no bad_attr 0")
    ∷ (codes "{\"do\":\"apply\",\"ops\":[{\"remove\":1,\"insert\":[]},{\"attr\":\"id\",\"to\":\"y\"},{\"retain\":4}]}", codes "no bad_attr 1")
    ∷ (codes "{\"do\":\"apply\",\"ops\":[{\"remove\":1,\"insert\":[]},{\"retain\":4}]}", codes "no unlawful 0")
    ∷ (codes "{\"do\":\"apply\",\"ops\":[{\"attr\":\"id\",\"to\":\"y\"},{\"retain\":1},{\"remove\":1,\"insert\":[\"b\",[\"c\",[[\"b\",[]]]]]},{\"retain\":3}]}", codes "ok 6")
    ∷ (codes "{\"do\":\"html\"}", codes "ok \"<p id=\\\"y\\\">b<b>c</b></p>\"")
    ∷ (codes "{\"do\":\"undo\"}", codes "ok 5")
    ∷ (codes "{\"do\":\"html\"}", codes "ok \"<p>a</p>\"")
    ∷ [])
unfolding page_on_literals is_utf8 digits
causes_of_operations = refl

-- a submission on its way is told before that nothing is left to send
queues_before_entries : Answered
    ((codes "{\"do\":\"open\",\"page\":\"<p>a</p>\"}", codes "ok 5")
    ∷ (codes "{\"do\":\"send\"}", codes "no nothing_to_send")
    ∷ (codes "{\"do\":\"text\",\"at\":1,\"text\":\"x\"}", codes "ok 6")
    ∷ (codes "{\"do\":\"send\"}", codes "ok 1")
    ∷ (codes "{\"do\":\"undo\"}", codes "no already_shared 1")
    ∷ (codes "{\"do\":\"redo\"}", codes "no nothing_to_redo")
    ∷ (codes "{\"do\":\"send\"}", codes "no in_flight 1")
    ∷ (codes "{\"do\":\"take\"}", codes "no nothing_queued")
    ∷ (codes "{\"do\":\"serve\"}", codes "ok 1 of 1")
    ∷ (codes "{\"do\":\"take\"}", codes "ok ack 1")
    ∷ (codes "{\"do\":\"send\"}", codes "no nothing_to_send")
    ∷ (codes "{\"do\":\"undo\"}", codes "no already_shared 1")
    ∷ [])
unfolding page_on_literals is_utf8 digits
queues_before_entries = refl
