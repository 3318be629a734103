-- A span that is the body of a whole page in words is the one that is found.
use Rattle.std.proofs.Common.{◌≡◌, ℕ, zero, suc, ◌+◌, ◌<◌, Bool, true, false, ◌&&◌, ◌||◌, not, List, [], ◌∷◌, ◌++◌, length, drop, Some, None, Ok, refl, sym, ap, ◌∙◌, arith}
use Rattle.std.specs.Prelude.{codes}
use Rattle.std.specs.List.{flat_map}
use Rattle.std.proofs.lemmas.List.{length-append, drop-drop}
use Rattle.std.proofs.Math.Seq.{drop-append_seam}
use Rattle.model_spelling.specs.Grammar.{Attr, Start, attr_text, begins_with, start_text, is_tag_name, are_attrs}
use Rattle.ve_kinds.specs.Tags.{is_void}
use Rattle.model_spelling.specs.Reading.{tag_at}
use Rattle.model_spelling.specs.Page.{is_whole, first_place, last_place, starts_body, ends_body, body_at, IsBody}
use Rattle.model_spelling.proofs.AttrReading.{and_left}
use Rattle.model_spelling.proofs.TokenRuns.{begins_from_parts}
use Rattle.model_spelling.proofs.Only.{close_text, start_regrouped, start_reads, tag_named}
use Rattle.model_spelling.proofs.BodyPlace.{body_between, regroup}

first_only : (test : List ℕ → Bool) (at : ℕ) (text : List ℕ) (k : ℕ) → k < length text → test (drop k text) ≡ true → ((m : ℕ) → m < k → test (drop m text) ≡ false) → first_place test at text ≡ Some (at + k)
unfolding first_place
first_only test at [] k lt here before = absurd (omega (arith, lt))
first_only test at (b ∷ bs) zero lt here before = let n : at ≡ at + 0 = omega arith in rw here (ap (λ (x : ℕ). Some x) n)
first_only test at (b ∷ bs) (suc k) lt here before =
    let n : at + 1 + k ≡ at + suc k = omega arith in
    rw (before 0 (omega arith)) (first_only test (at + 1) bs k (omega (arith, lt)) here (λ m l. before (suc m) (omega (arith, l))) ∙ ap (λ (x : ℕ). Some x) n)

last_nothing : (test : List ℕ → Bool) (at : ℕ) (text : List ℕ) → ((m : ℕ) → test (drop m text) ≡ false) → last_place test at text ≡ None
unfolding last_place
last_nothing test at [] none = refl
last_nothing test at (b ∷ bs) none = rw (last_nothing test (at + 1) bs (λ m. none (suc m)), none 0) refl

last_only : (test : List ℕ → Bool) (at : ℕ) (text : List ℕ) (k : ℕ) → k < length text → test (drop k text) ≡ true → ((m : ℕ) → k < m → test (drop m text) ≡ false) → last_place test at text ≡ Some (at + k)
unfolding last_place
last_only test at [] k lt here after = absurd (omega (arith, lt))
last_only test at (b ∷ bs) zero lt here after =
    let n : at ≡ at + 0 = omega arith in
    rw (last_nothing test (at + 1) bs (λ m. after (suc m) (omega arith)), here) (ap (λ (x : ℕ). Some x) n)
last_only test at (b ∷ bs) (suc k) lt here after =
    let n : at + 1 + k ≡ at + suc k = omega arith in
    rw (last_only test (at + 1) bs k (omega (arith, lt)) here (λ m l. after (suc m) (omega (arith, l)))) (ap (λ (x : ℕ). Some x) n)

start_starts : (attrs : List Attr) (rest : List ℕ) → starts_body (start_text (codes "body") attrs false ++ rest) ≡ true
unfolding begins_with
start_starts [] rest = refl
start_starts (a ∷ attrs) rest = refl

start_some : (attrs : List Attr) → 0 < length (start_text (codes "body") attrs false)
start_some attrs = omega arith

end_ends : (rest : List ℕ) → ends_body (codes "</body>" ++ rest) ≡ true
end_ends rest = begins_from_parts (codes "</body>") (codes "</body>" ++ rest) rest refl

pub body_only : (page : List ℕ) (from to : ℕ) → is_whole page ≡ true → IsBody page from to → body_at page ≡ Ok (from, to)
body_only page from to whole b =
    let start : List ℕ = start_text (codes "body") b.attrs false in
    let suffix : List ℕ = codes "</body>" ++ b.after in
    let inner : List ℕ = b.body ++ suffix in
    let tag : ℕ = length b.before in
    let page_is : page ≡ b.before ++ (start ++ inner) = b.page_is ∙ sym (regroup b.before start b.body (codes "</body>") b.after) in
    let stands : drop tag page ≡ start ++ inner = ap (drop tag) page_is ∙ drop-append_seam b.before (start ++ inner) in
    let size : length page ≡ tag + (length start + (length b.body + length suffix)) = omega (arith, ap length page_is, length-append b.before (start ++ inner), length-append start inner, length-append b.body suffix) in
    let some : 0 < length suffix = omega (arith, length-append (codes "</body>") b.after) in
    let none : 0 + tag ≡ tag = omega arith in
    let first : first_place starts_body 0 page ≡ Some tag = first_only starts_body 0 page tag (omega (arith, size, start_some b.attrs)) (ap starts_body stands ∙ start_starts b.attrs inner) b.first ∙ ap (λ (k : ℕ). Some k) none in
    let name_on : drop (tag + 1) page ≡ codes "body" ++ (flat_map attr_text b.attrs ++ (close_text false ++ inner)) = sym (drop-drop 1 tag page) ∙ ap (drop 1) (stands ∙ start_regrouped (codes "body") b.attrs false inner) in
    let named = and_left (is_tag_name (codes "body")) (are_attrs b.attrs) (and_left (is_tag_name (codes "body") && are_attrs b.attrs) (not false || is_void (codes "body")) b.allowed) in
    let read : tag_at tag (drop (tag + 1) page) ≡ Ok (Start (codes "body") b.attrs false, from) =
    ap (tag_at tag) name_on ∙ tag_named tag (codes "body") (flat_map attr_text b.attrs ++ (close_text false ++ inner)) named
    ∙ start_reads tag (codes "body") b.attrs false inner b.allowed ∙ ap (λ (k : ℕ). Ok (Start (codes "body") b.attrs false, k)) (sym b.from_is) in
    let left : drop from page ≡ inner = ap (λ (k : ℕ). drop k page) b.from_is ∙ sym (drop-drop (length start) tag page) ∙ ap (drop (length start)) stands ∙ drop-append_seam start inner in
    let mark : ends_body (drop (length b.body) (drop from page)) ≡ true = ap ends_body (ap (drop (length b.body)) left ∙ drop-append_seam b.body suffix) ∙ end_ends b.after in
    let last : last_place ends_body from (drop from page) ≡ Some to =
    last_only ends_body from (drop from page) (length b.body) (omega (arith, some, ap length left, length-append b.body suffix)) mark
    (λ m lt. ap ends_body (drop-drop m from page) ∙ b.last (from + m) (omega (arith, lt, b.to_is))) ∙ ap (λ (k : ℕ). Some k) (sym b.to_is) in
    body_between page tag from to (Start (codes "body") b.attrs false) whole first read last
