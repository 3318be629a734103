-- Worked scripts by computation: first pages, lines that ask nothing, and pages that do not open.
use Rattle.std.specs.Prelude.{[], ◌∷◌, codes, refl}
use Rattle.std.specs.Fmt.{digits}
use Rattle.std.specs.Str.{is_utf8}
use Rattle.model_page.proofs.OnLiterals.{page_on_literals}
use Rattle.model_world.proofs.Scripts.{Answered}

-- an empty page
empty_page : Answered
    ((codes "{\"do\":\"open\",\"page\":\"\"}", codes "ok 2")
    ∷ (codes "{\"do\":\"html\"}", codes "ok \"\"")
    ∷ (codes "{\"do\":\"tree\"}", codes "ok (root (internal_list))")
    ∷ (codes "{\"do\":\"undo\"}", codes "no nothing_to_undo")
    ∷ (codes "{\"do\":\"redo\"}", codes "no nothing_to_redo")
    ∷ (codes "{\"do\":\"text\",\"at\":0,\"text\":\"a\"}", codes "ok 5")
    ∷ (codes "{\"do\":\"html\"}", codes "ok \"<p>a</p>\"")
    ∷ [])
unfolding page_on_literals is_utf8 digits
empty_page = refl

-- a page, a text put into it, and the page again
first_run : Answered
    ((codes "{\"do\":\"open\",\"page\":\"<p>ab</p>\"}", codes "ok 6")
    ∷ (codes "{\"do\":\"text\",\"at\":2,\"text\":\"X\"}", codes "ok 7")
    ∷ (codes "{\"do\":\"html\"}", codes "ok \"<p>aXb</p>\"")
    ∷ [])
unfolding page_on_literals is_utf8 digits
first_run = refl

-- lines that ask nothing
bad_lines : Answered
    ((codes "{", codes "no bad_json")
    ∷ (codes "", codes "no bad_json")
    ∷ (codes "[]", codes "no bad_command do")
    ∷ (codes "{\"do\":\"text\",\"at\":-1,\"text\":\"a\"}", codes "no bad_command at")
    ∷ (codes "{\"do\":\"html\"}", codes "no not_open")
    ∷ [])
unfolding page_on_literals is_utf8 digits
bad_lines = refl

-- pages that are not spelled right, and none is open after them
refused_pages : Answered
    ((codes "{\"do\":\"open\",\"page\":\"<p>a\"}", codes "no html unclosed 0")
    ∷ (codes "{\"do\":\"open\",\"page\":\"<p id=\\\"x\\\" id=\\\"y\\\">a</p>\"}", codes "no html duplicate_attribute 10")
    ∷ (codes "{\"do\":\"open\",\"page\":\"<p>&#65;</p>\"}", codes "no html bad_reference 3")
    ∷ (codes "{\"do\":\"open\",\"page\":\"<p id=x>a</p>\"}", codes "no html bad_attribute 2")
    ∷ (codes "{\"do\":\"open\",\"page\":\"<p/>\"}", codes "no html bad_attribute 2")
    ∷ (codes "{\"do\":\"open\",\"page\":\"</br>\"}", codes "no html stray 0")
    ∷ (codes "{\"do\":\"open\",\"page\":\"<p></b>\"}", codes "no html mismatched 3")
    ∷ (codes "{\"do\":\"html\"}", codes "no not_open")
    ∷ [])
unfolding page_on_literals is_utf8 digits
refused_pages = refl

-- operations that are unlawful, too short, or not in normal form
operations : Answered
    ((codes "{\"do\":\"open\",\"page\":\"<p>a</p>\"}", codes "ok 5")
    ∷ (codes "{\"do\":\"apply\",\"ops\":[{\"remove\":0,\"insert\":[{\"open\":\"li\"},{\"close\":\"li\"}]},{\"retain\":5}]}", codes "no unlawful 0")
    ∷ (codes "{\"do\":\"data\"}", codes "ok [{\"open\":\"p\",\"origin\":0},\"a\",{\"close\":\"p\"},{\"open\":\"internal_list\"},{\"close\":\"internal_list\"}]")
    ∷ (codes "{\"do\":\"apply\",\"ops\":[{\"retain\":4}]}", codes "no bad_length 5 4")
    ∷ (codes "{\"do\":\"apply\",\"ops\":[{\"retain\":0}]}", codes "no bad_command ops")
    ∷ [])
unfolding page_on_literals is_utf8 digits
operations = refl

-- a whole document keeps its head and its tail
whole_document : Answered
    ((codes "{\"do\":\"open\",\"page\":\"<!DOCTYPE html>\\n<html><head><title>T</title></head><body lang=\\\"en\\\"><p>ab</p></body></html>\"}", codes "ok 6")
    ∷ (codes "{\"do\":\"text\",\"at\":2,\"text\":\"X\"}", codes "ok 7")
    ∷ (codes "{\"do\":\"html\"}", codes "ok \"<!DOCTYPE html>\\n<html><head><title>T</title></head><body lang=\\\"en\\\"><p>aXb</p></body></html>\"")
    ∷ (codes "{\"do\":\"undo\"}", codes "ok 6")
    ∷ (codes "{\"do\":\"html\"}", codes "ok \"<!DOCTYPE html>\\n<html><head><title>T</title></head><body lang=\\\"en\\\"><p>ab</p></body></html>\"")
    ∷ [])
unfolding page_on_literals is_utf8 digits
whole_document = refl

-- whole documents that do not open
bad_documents : Answered
    ((codes "{\"do\":\"open\",\"page\":\"<!DOCTYPE html>\"}", codes "no html no_body 0")
    ∷ (codes "{\"do\":\"open\",\"page\":\"<!doctype html><body><p>\"}", codes "no html no_body 21")
    ∷ (codes "{\"do\":\"open\",\"page\":\"<!doctype html><body id=x></body>\"}", codes "no html bad_attribute 20")
    ∷ (codes "{\"do\":\"open\",\"page\":\"<!doctype html><body><p>a</body>\"}", codes "no html unclosed 21")
    ∷ (codes "{\"do\":\"open\",\"page\":\"<!doctype html><body></body>\"}", codes "ok 2")
    ∷ (codes "{\"do\":\"open\",\"page\":\"<p>a</p><!doctype html>\"}", codes "no html doctype 8")
    ∷ [])
unfolding page_on_literals is_utf8 digits
bad_documents = refl
