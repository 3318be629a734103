-- Worked scripts by computation: items that are put back as they were shown.
use Rattle.std.specs.Prelude.{[], ◌∷◌, codes, refl}
use Rattle.std.specs.Fmt.{digits}
use Rattle.std.specs.Str.{is_utf8}
use Rattle.model_page.proofs.OnLiterals.{page_on_literals}
use Rattle.model_world.proofs.Scripts.{Answered}

-- a generated paragraph comes back without tags
generated_put_back : Answered
    ((codes "{\"do\":\"open\",\"page\":\"<ul><li>two</li></ul>\"}", codes "ok 11")
    ∷ (codes "{\"do\":\"apply\",\"ops\":[{\"retain\":1},{\"remove\":7,\"insert\":[]},{\"retain\":3}]}", codes "ok 4")
    ∷ (codes "{\"do\":\"apply\",\"ops\":[{\"retain\":1},{\"remove\":0,\"insert\":[{\"open\":\"li\",\"origin\":1},{\"gen\":true,\"open\":\"p\",\"origin\":2},\"two\",{\"close\":\"p\"},{\"close\":\"li\"}]},{\"retain\":3}],\"exact\":true}", codes "ok 11")
    ∷ (codes "{\"do\":\"html\"}", codes "ok \"<ul><li>two</li></ul>\"")
    ∷ [])
unfolding page_on_literals is_utf8 digits
generated_put_back = refl

-- a block that stands elsewhere afterwards is written by its first bytes, with the leaf in it
block_moves : Answered
    ((codes "{\"do\":\"open\",\"page\":\"<p>a<span typeof=\\\"mw:Transclusion\\\" about=\\\"#mwt1\\\" data-mw='{\\\"parts\\\":[]}'>t</span>b</p><p id='q'>c</p>\"}", codes "ok 11")
    ∷ (codes "{\"do\":\"apply\",\"ops\":[{\"remove\":6,\"insert\":[]},{\"retain\":5}],\"exact\":true}", codes "ok 5")
    ∷ (codes "{\"do\":\"apply\",\"ops\":[{\"retain\":3},{\"remove\":0,\"insert\":[{\"open\":\"p\",\"origin\":0},\"a\",{\"open\":\"trans_inline\",\"origin\":1},{\"close\":\"trans_inline\"},\"b\",{\"close\":\"p\"}]},{\"retain\":2}],\"exact\":true}", codes "ok 11")
    ∷ (codes "{\"do\":\"html\"}", codes "ok \"<p id='q'>c</p><p>a<span typeof=\\\"mw:Transclusion\\\" about=\\\"#mwt1\\\" data-mw='{\\\"parts\\\":[]}'>t</span>b</p>\"")
    ∷ [])
unfolding page_on_literals is_utf8 digits
block_moves = refl

-- an origin that the page does not have, or of another kind; and items that no reply shows so
no_such_item : Answered
    ((codes "{\"do\":\"open\",\"page\":\"<p>a<span typeof=\\\"mw:Transclusion\\\" about=\\\"#mwt1\\\" data-mw='{\\\"parts\\\":[]}'>t</span>b</p><p id='q'>c</p>\"}", codes "ok 11")
    ∷ (codes "{\"do\":\"apply\",\"ops\":[{\"remove\":0,\"insert\":[{\"open\":\"h2\",\"origin\":0},{\"close\":\"h2\"}]},{\"retain\":11}],\"exact\":true}", codes "no bad_origin 0")
    ∷ (codes "{\"do\":\"apply\",\"ops\":[{\"remove\":0,\"insert\":[{\"open\":\"p\",\"origin\":3},{\"close\":\"p\"}]},{\"retain\":11}],\"exact\":true}", codes "no bad_origin 3")
    ∷ (codes "{\"do\":\"apply\",\"ops\":[{\"remove\":0,\"insert\":[{\"open\":\"alien_block\"},{\"close\":\"alien_block\"}]},{\"retain\":11}],\"exact\":true}", codes "no bad_command ops")
    ∷ (codes "{\"do\":\"apply\",\"ops\":[{\"remove\":0,\"insert\":[{\"open\":\"h2\",\"gen\":true},{\"close\":\"h2\"}]},{\"retain\":11}],\"exact\":true}", codes "no bad_command ops")
    ∷ (codes "{\"do\":\"apply\",\"ops\":[{\"remove\":0,\"insert\":[{\"attrs\":[[\"typeof\",\"x mw:y\"]],\"open\":\"p\"},{\"close\":\"p\"}]},{\"retain\":11}],\"exact\":true}", codes "no bad_command ops")
    ∷ (codes "{\"do\":\"apply\",\"ops\":[{\"remove\":0,\"insert\":[{\"attrs\":[[\"typeof\",\"x\"]],\"open\":\"p\"},{\"close\":\"p\"}]},{\"retain\":11}],\"exact\":true}", codes "ok 13")
    ∷ (codes "{\"do\":\"apply\",\"ops\":[{\"retain\":13}],\"exact\":\"yes\"}", codes "no bad_command exact")
    ∷ (codes "{\"do\":\"apply\",\"ops\":[{\"remove\":0,\"insert\":[{\"open\":\"p\",\"origin\":9},{\"close\":\"p\"}]}],\"exact\":true}", codes "no bad_origin 9")
    ∷ (codes "{\"do\":\"batch\",\"cmds\":[{\"do\":\"remove\",\"from\":9,\"to\":5},{\"do\":\"apply\",\"ops\":[{\"remove\":0,\"insert\":[{\"open\":\"p\",\"origin\":9},{\"close\":\"p\"}]}],\"exact\":true}]}", codes "no batch 0 bad_range 9 5")
    ∷ (codes "{\"do\":\"batch\",\"cmds\":[{\"do\":\"text\",\"at\":1,\"text\":\"x\"},{\"do\":\"apply\",\"ops\":[{\"remove\":0,\"insert\":[{\"open\":\"p\",\"origin\":9},{\"close\":\"p\"}]}],\"exact\":true}]}", codes "no batch 1 bad_origin 9")
    ∷ [])
unfolding page_on_literals is_utf8 digits
no_such_item = refl
