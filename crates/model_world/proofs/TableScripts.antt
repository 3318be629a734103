-- Worked scripts by computation: tables and lists.
use Rattle.std.specs.Prelude.{[], ◌∷◌, codes, refl}
use Rattle.std.specs.Fmt.{digits}
use Rattle.std.specs.Str.{is_utf8}
use Rattle.model_page.proofs.OnLiterals.{page_on_literals}
use Rattle.model_world.proofs.Scripts.{Answered}

-- a row after the last one
new_row : Answered
    ((codes "{\"do\":\"open\",\"page\":\"<table><tbody><tr><td>a</td><td>b</td></tr></tbody></table>\"}", codes "ok 18")
    ∷ (codes "{\"do\":\"grid\",\"at\":0}", codes "ok 1 2 [[3,0,0,1,1],[8,0,1,1,1]]")
    ∷ (codes "{\"do\":\"row_in\",\"at\":0,\"row\":1}", codes "ok 28")
    ∷ (codes "{\"do\":\"html\"}", codes "ok \"<table><tbody><tr><td>a</td><td>b</td></tr><tr><td><p></p></td><td><p></p></td></tr></tbody></table>\"")
    ∷ (codes "{\"do\":\"grid\",\"at\":1}", codes "no not_table 1")
    ∷ [])
unfolding page_on_literals is_utf8 digits
new_row = refl

-- cells that span rows
spans : Answered
    ((codes "{\"do\":\"open\",\"page\":\"<table><tbody><tr><td rowspan=\\\"2\\\">a</td><td>b</td></tr><tr><td>c</td></tr></tbody></table>\"}", codes "ok 25")
    ∷ (codes "{\"do\":\"grid\",\"at\":0}", codes "ok 2 2 [[3,0,0,2,1],[8,0,1,1,1],[15,1,1,1,1]]")
    ∷ (codes "{\"do\":\"row_in\",\"at\":0,\"row\":1}", codes "ok 31")
    ∷ (codes "{\"do\":\"html\"}", codes "ok \"<table><tbody><tr><td rowspan=\\\"3\\\">a</td><td>b</td></tr><tr><td><p></p></td></tr><tr><td>c</td></tr></tbody></table>\"")
    ∷ (codes "{\"do\":\"row_out\",\"at\":0,\"row\":0}", codes "no spanned 3")
    ∷ (codes "{\"do\":\"row_out\",\"at\":0,\"row\":1}", codes "ok 25")
    ∷ (codes "{\"do\":\"row_in\",\"at\":0,\"row\":5}", codes "no bad_row 5 2")
    ∷ (codes "{\"do\":\"col_out\",\"at\":0,\"column\":0}", codes "ok 20")
    ∷ (codes "{\"do\":\"col_in\",\"at\":0,\"column\":1}", codes "ok 28")
    ∷ (codes "{\"do\":\"open\",\"page\":\"<table><tbody><tr><td rowspan=\\\"2\\\">a</td></tr></tbody></table>\"}", codes "ok 13")
    ∷ (codes "{\"do\":\"grid\",\"at\":0}", codes "no crooked 3")
    ∷ [])
unfolding page_on_literals is_utf8 digits
spans = refl

-- a list item moved deeper and out again
deeper_and_out : Answered
    ((codes "{\"do\":\"open\",\"page\":\"<ul><li>a</li><li>b</li></ul>\"}", codes "ok 14")
    ∷ (codes "{\"do\":\"indent\",\"at\":0}", codes "no not_list_item 0")
    ∷ (codes "{\"do\":\"indent\",\"at\":1}", codes "no no_sibling 1")
    ∷ (codes "{\"do\":\"outdent\",\"at\":1}", codes "no not_nested 1")
    ∷ (codes "{\"do\":\"indent\",\"at\":6}", codes "ok 16")
    ∷ (codes "{\"do\":\"html\"}", codes "ok \"<ul><li>a<ul><li>b</li></ul></li></ul>\"")
    ∷ (codes "{\"do\":\"tree\"}", codes "ok (root (ul (li (p 1) (ul (li (p 1))))) (internal_list))")
    ∷ (codes "{\"do\":\"outdent\",\"at\":6}", codes "ok 14")
    ∷ (codes "{\"do\":\"html\"}", codes "ok \"<ul><li>a</li><li>b</li></ul>\"")
    ∷ [])
unfolding page_on_literals is_utf8 digits
deeper_and_out = refl

-- a list item moved out, and what follows it is then its own
out_of_the_middle : Answered
    ((codes "{\"do\":\"open\",\"page\":\"<ul><li>a<ul><li>b</li><li>c</li></ul></li></ul>\"}", codes "ok 21")
    ∷ (codes "{\"do\":\"outdent\",\"at\":6}", codes "ok 21")
    ∷ (codes "{\"do\":\"html\"}", codes "ok \"<ul><li>a</li><li>b<ul><li>c</li></ul></li></ul>\"")
    ∷ [])
unfolding page_on_literals is_utf8 digits
out_of_the_middle = refl
