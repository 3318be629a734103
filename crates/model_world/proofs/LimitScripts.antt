-- Worked scripts by computation: limits at the number and at the next one, and a page cut off after
-- each of its bytes.
use Rattle.std.specs.Prelude.{ℕ, List, [], ◌∷◌, ◌++◌, take, map, codes, refl}
use Rattle.std.specs.List.{range_with_len}
use Rattle.std.specs.Fmt.{digits}
use Rattle.std.specs.Str.{is_utf8}
use Rattle.model_page.proofs.OnLiterals.{page_on_literals}
use Rattle.model_world.proofs.Scripts.{Lines, Answered, opening, times}

-- a letter inside of so many elements of these tags
abbrev nested : ℕ → List ℕ → List ℕ → List ℕ → List ℕ
nested n start inside end = times n start ++ inside ++ times n end

-- 64 marks on a letter, and one more
marks : Answered
    ((opening (codes "<p>" ++ nested 64 (codes "<b>") (codes "a") (codes "</b>") ++ codes "</p>"), codes "ok 5")
    ∷ (opening (codes "<p>" ++ nested 65 (codes "<b>") (codes "a") (codes "</b>") ++ codes "</p>"), codes "no too_many_marks 195")
    ∷ (codes "{\"do\":\"html\",\"site\":1}", codes "no bad_site 1")
    ∷ [])
unfolding page_on_literals is_utf8 digits
marks = refl

-- 100 nodes inside one another, and one more; a wrap that would be one too many
nodes : Answered
    ((opening (nested 99 (codes "<div>") (codes "<p>a</p>") (codes "</div>")), codes "ok 203")
    ∷ (codes "{\"do\":\"wrap\",\"from\":99,\"to\":102,\"wrap_outer\":[{\"kind\":\"div\"}]}", codes "no too_deep 100")
    ∷ (opening (nested 100 (codes "<div>") (codes "<p>a</p>") (codes "</div>")), codes "no too_deep 500")
    ∷ [])
unfolding page_on_literals is_utf8 digits
nodes = refl

-- 200 elements inside one another, and one more
elements : Answered
    ((opening (nested 200 (codes "<figure>") [] (codes "</figure>")), codes "ok 4")
    ∷ (opening (nested 201 (codes "<figure>") [] (codes "</figure>")), codes "no html too_deep 1600")
    ∷ [])
unfolding page_on_literals is_utf8 digits
elements = refl

-- the first n bytes of a page
abbrev cut : ℕ → List ℕ
cut n = opening (take n (codes "<p id=\"x\">a&amp;b</p>"))

abbrev cuts : (from count : ℕ) → List ℕ → Lines
cuts from count reply = map (λ n. (cut n, reply)) (range_with_len from count)

prefixes : Answered
    (cuts 0 1 (codes "ok 2")
    ++ cuts 1 9 (codes "no html unclosed_tag 0")
    ++ cuts 10 2 (codes "no html unclosed 0")
    ++ cuts 12 4 (codes "no html bad_reference 11")
    ++ cuts 16 2 (codes "no html unclosed 0")
    ++ cuts 18 3 (codes "no html unclosed_tag 17")
    ++ cuts 21 1 (codes "ok 7"))
unfolding page_on_literals is_utf8 digits
prefixes = refl
