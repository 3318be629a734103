-- Worked scripts by computation: edits of a page, undo and redo, and batches.
use Rattle.std.specs.Prelude.{[], ◌∷◌, codes, refl}
use Rattle.std.specs.Fmt.{digits}
use Rattle.std.specs.Str.{is_utf8}
use Rattle.model_page.proofs.OnLiterals.{page_on_literals}
use Rattle.model_world.proofs.Scripts.{Answered}

-- typed text takes the marks to its left; undo and redo
marks_and_undo : Answered
    ((codes "{\"do\":\"open\",\"page\":\"<p><b>a</b><b>b</b></p>\"}", codes "ok 6")
    ∷ (codes "{\"do\":\"html\"}", codes "ok \"<p><b>a</b><b>b</b></p>\"")
    ∷ (codes "{\"do\":\"text\",\"at\":3,\"text\":\"c\"}", codes "ok 7")
    ∷ (codes "{\"do\":\"html\"}", codes "ok \"<p><b>abc</b></p>\"")
    ∷ (codes "{\"do\":\"undo\"}", codes "ok 6")
    ∷ (codes "{\"do\":\"html\"}", codes "ok \"<p><b>a</b><b>b</b></p>\"")
    ∷ (codes "{\"do\":\"redo\"}", codes "ok 7")
    ∷ [])
unfolding page_on_literals is_utf8 digits
marks_and_undo = refl

-- a neighbour that is not touched keeps its spelling
untouched_neighbour : Answered
    ((codes "{\"do\":\"open\",\"page\":\"<p id='x'>a<br/></p><p>b</p>\"}", codes "ok 10")
    ∷ (codes "{\"do\":\"text\",\"at\":7,\"text\":\"c\"}", codes "ok 11")
    ∷ (codes "{\"do\":\"html\"}", codes "ok \"<p id='x'>a<br/></p><p>bc</p>\"")
    ∷ (codes "{\"do\":\"at\",\"at\":3}", codes "ok br 2 4 inside")
    ∷ [])
unfolding page_on_literals is_utf8 digits
untouched_neighbour = refl

-- two bare runs cannot stand side by side
bare_runs_meet : Answered
    ((codes "{\"do\":\"open\",\"page\":\"<ul><li>a<p>x</p>b</li></ul>\"}", codes "ok 15")
    ∷ (codes "{\"do\":\"tree\"}", codes "ok (root (ul (li (p 1) (p 1) (p 1))) (internal_list))")
    ∷ (codes "{\"do\":\"at\",\"at\":6}", codes "ok p 5 8 content")
    ∷ (codes "{\"do\":\"at\",\"at\":5}", codes "ok li 1 12 structural")
    ∷ (codes "{\"do\":\"remove\",\"from\":5,\"to\":8}", codes "ok 12")
    ∷ (codes "{\"do\":\"html\"}", codes "ok \"<ul><li>a<p>b</p></li></ul>\"")
    ∷ (codes "{\"do\":\"undo\"}", codes "ok 15")
    ∷ (codes "{\"do\":\"html\"}", codes "ok \"<ul><li>a<p>x</p>b</li></ul>\"")
    ∷ [])
unfolding page_on_literals is_utf8 digits
bare_runs_meet = refl

-- splits of one and of two nodes
splits : Answered
    ((codes "{\"do\":\"open\",\"page\":\"<ul><li><p>ab</p></li></ul>\"}", codes "ok 10")
    ∷ (codes "{\"do\":\"split\",\"at\":4,\"depth\":2}", codes "ok 14")
    ∷ (codes "{\"do\":\"html\"}", codes "ok \"<ul><li><p>a</p></li><li><p>b</p></li></ul>\"")
    ∷ (codes "{\"do\":\"split\",\"at\":1,\"depth\":1}", codes "no not_content 1")
    ∷ (codes "{\"do\":\"split\",\"at\":4,\"depth\":4}", codes "no bad_depth 4")
    ∷ [])
unfolding page_on_literals is_utf8 digits
splits = refl

-- a removal that joins two kinds
kinds_join : Answered
    ((codes "{\"do\":\"open\",\"page\":\"<p>ab</p><h2>cd</h2>\"}", codes "ok 10")
    ∷ (codes "{\"do\":\"remove\",\"from\":2,\"to\":6}", codes "ok 6")
    ∷ (codes "{\"do\":\"html\"}", codes "ok \"<p>ad</p>\"")
    ∷ [])
unfolding page_on_literals is_utf8 digits
kinds_join = refl

-- unmatched brackets stay
unmatched_stay : Answered
    ((codes "{\"do\":\"open\",\"page\":\"<p>ab</p><ul><li><p>cd</p></li></ul>\"}", codes "ok 14")
    ∷ (codes "{\"do\":\"remove\",\"from\":2,\"to\":8}", codes "ok 12")
    ∷ (codes "{\"do\":\"html\"}", codes "ok \"<p>a</p><ul><li><p>d</p></li></ul>\"")
    ∷ [])
unfolding page_on_literals is_utf8 digits
unmatched_stay = refl

-- marks put on and taken off
marking : Answered
    ((codes "{\"do\":\"open\",\"page\":\"<p>abc</p>\"}", codes "ok 7")
    ∷ (codes "{\"do\":\"mark\",\"from\":2,\"to\":3,\"tag\":\"b\"}", codes "ok 7")
    ∷ (codes "{\"do\":\"html\"}", codes "ok \"<p>a<b>b</b>c</p>\"")
    ∷ (codes "{\"do\":\"mark\",\"from\":1,\"to\":4,\"tag\":\"i\"}", codes "ok 7")
    ∷ (codes "{\"do\":\"html\"}", codes "ok \"<p><i>a</i><b><i>b</i></b><i>c</i></p>\"")
    ∷ (codes "{\"do\":\"unmark\",\"from\":1,\"to\":4,\"tag\":\"b\"}", codes "ok 7")
    ∷ (codes "{\"do\":\"html\"}", codes "ok \"<p><i>abc</i></p>\"")
    ∷ (codes "{\"do\":\"mark\",\"from\":1,\"to\":2,\"tag\":\"div\"}", codes "no bad_mark")
    ∷ (codes "{\"do\":\"mark\",\"from\":2,\"to\":2,\"tag\":\"b\"}", codes "no bad_range 2 2")
    ∷ [])
unfolding page_on_literals is_utf8 digits
marking = refl

-- a list put round paragraphs and taken off
wrapping : Answered
    ((codes "{\"do\":\"open\",\"page\":\"<p>a</p><p>b</p>\"}", codes "ok 8")
    ∷ (codes "{\"do\":\"wrap\",\"from\":0,\"to\":6,\"wrap_outer\":[{\"kind\":\"ul\"}],\"wrap_each\":[{\"kind\":\"li\"}]}", codes "ok 14")
    ∷ (codes "{\"do\":\"html\"}", codes "ok \"<ul><li><p>a</p></li><li><p>b</p></li></ul>\"")
    ∷ (codes "{\"do\":\"wrap\",\"from\":1,\"to\":11,\"unwrap_outer\":[\"ol\"]}", codes "no not_wrapped 0")
    ∷ (codes "{\"do\":\"wrap\",\"from\":1,\"to\":11,\"unwrap_outer\":[\"ul\"],\"unwrap_each\":[\"li\"]}", codes "ok 8")
    ∷ (codes "{\"do\":\"html\"}", codes "ok \"<p>a</p><p>b</p>\"")
    ∷ [])
unfolding page_on_literals is_utf8 digits
wrapping = refl

-- kinds and attributes
converting : Answered
    ((codes "{\"do\":\"open\",\"page\":\"<p id=\\\"x\\\">a</p>\"}", codes "ok 5")
    ∷ (codes "{\"do\":\"convert\",\"at\":0,\"kind\":\"h2\"}", codes "ok 5")
    ∷ (codes "{\"do\":\"attr\",\"at\":0,\"name\":\"id\",\"to\":null}", codes "ok 5")
    ∷ (codes "{\"do\":\"html\"}", codes "ok \"<h2>a</h2>\"")
    ∷ (codes "{\"do\":\"attr\",\"at\":0,\"name\":\"about\",\"to\":\"y\"}", codes "no bad_attr 0")
    ∷ (codes "{\"do\":\"attr\",\"at\":1,\"name\":\"id\",\"to\":\"y\"}", codes "no not_opening 1")
    ∷ (codes "{\"do\":\"convert\",\"at\":1,\"kind\":\"p\"}", codes "no not_branch 1")
    ∷ (codes "{\"do\":\"undo\"}", codes "ok 5")
    ∷ (codes "{\"do\":\"undo\"}", codes "ok 5")
    ∷ (codes "{\"do\":\"html\"}", codes "ok \"<p id=\\\"x\\\">a</p>\"")
    ∷ (codes "{\"do\":\"redo\"}", codes "ok 5")
    ∷ (codes "{\"do\":\"html\"}", codes "ok \"<h2 id=\\\"x\\\">a</h2>\"")
    ∷ [])
unfolding page_on_literals is_utf8 digits
converting = refl

-- fragments of blocks
inserting_blocks : Answered
    ((codes "{\"do\":\"open\",\"page\":\"<p>ab</p>\"}", codes "ok 6")
    ∷ (codes "{\"do\":\"insert\",\"at\":2,\"html\":\"<h2>x</h2>\"}", codes "ok 11")
    ∷ (codes "{\"do\":\"html\"}", codes "ok \"<p>a</p><h2>x</h2><p>b</p>\"")
    ∷ (codes "{\"do\":\"insert\",\"at\":2,\"html\":\"<b>\"}", codes "no html unclosed 0")
    ∷ (codes "{\"do\":\"insert\",\"at\":11,\"html\":\"y\"}", codes "no bad_offset 11")
    ∷ (codes "{\"do\":\"open\",\"page\":\"<ul><li>a</li></ul>\"}", codes "ok 9")
    ∷ (codes "{\"do\":\"insert\",\"at\":1,\"html\":\"<li>b</li>\"}", codes "ok 14")
    ∷ (codes "{\"do\":\"html\"}", codes "ok \"<ul><li><p>b</p></li><li>a</li></ul>\"")
    ∷ [])
unfolding page_on_literals is_utf8 digits
inserting_blocks = refl

-- a batch is all of its changes as one entry, or nothing
batches : Answered
    ((codes "{\"do\":\"open\",\"page\":\"<p>a</p>\"}", codes "ok 5")
    ∷ (codes "{\"do\":\"batch\",\"cmds\":[{\"do\":\"text\",\"at\":1,\"text\":\"x\"},{\"do\":\"remove\",\"from\":9,\"to\":12}]}", codes "no batch 1 bad_range 9 12")
    ∷ (codes "{\"do\":\"html\"}", codes "ok \"<p>a</p>\"")
    ∷ (codes "{\"do\":\"undo\"}", codes "no nothing_to_undo")
    ∷ (codes "{\"do\":\"batch\",\"cmds\":[{\"do\":\"text\",\"at\":1,\"text\":\"x\"},{\"do\":\"text\",\"at\":2,\"text\":\"y\"}]}", codes "ok 7")
    ∷ (codes "{\"do\":\"html\"}", codes "ok \"<p>xya</p>\"")
    ∷ (codes "{\"do\":\"undo\"}", codes "ok 5")
    ∷ [])
unfolding page_on_literals is_utf8 digits
batches = refl

-- each change of a batch is made on what those before it leave
batch_in_turn : Answered
    ((codes "{\"do\":\"open\",\"page\":\"<p>a</p>\"}", codes "ok 5")
    ∷ (codes "{\"do\":\"batch\",\"cmds\":[{\"do\":\"text\",\"at\":1,\"text\":\"xyz\"},{\"do\":\"remove\",\"from\":2,\"to\":5}]}", codes "ok 5")
    ∷ (codes "{\"do\":\"html\"}", codes "ok \"<p>x</p>\"")
    ∷ (codes "{\"do\":\"undo\"}", codes "ok 5")
    ∷ (codes "{\"do\":\"html\"}", codes "ok \"<p>a</p>\"")
    ∷ [])
unfolding page_on_literals is_utf8 digits
batch_in_turn = refl
