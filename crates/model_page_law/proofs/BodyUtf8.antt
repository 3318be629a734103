-- The body of a page that is UTF-8 is UTF-8: it begins after a tag, and ends before one.
use Rattle.std.proofs.Common.{◌≡◌, ℕ, ◌+◌, Bool, true, false, cond, ◌||◌, ◌&&◌, List, [], ◌∷◌, ◌++◌, length, drop, Option, Some, None, Result, Ok, Err, refl, sym, ap, ◌∙◌, subst, append_assoc, arith, inl, inr, eqb-true, add-zero, get_or, IsUtf8, IsCharBoundary}
use Rattle.std.specs.Prelude.{codes, nat_eq}
use Rattle.std.specs.List.{flat_map}
use Rattle.std.proofs.lemmas.List.{length-append, get_or-drop}
use Rattle.std.proofs.Math.Seq.{drop-append_seam}
use Rattle.std.proofs.lemmas.Bool.{cases_Bool}
use Rattle.std.proofs.lemmas.Str.{IsUtf8-between, IsCharBoundary-before_ascii, IsCharBoundary-after_ascii, IsCharBoundary-start, IsCharBoundary-end}
use Rattle.model_spelling.specs.declared.scan_fault.ScanFault.{ScanFault}
use Rattle.model_spelling.specs.Grammar.{Attr, Token, Start, End, Chars, Raw, Comment, attr_text, token_text, start_text, comment_open, is_text, is_run, begins_with}
use Rattle.model_spelling.specs.Reading.{Between, ◌>>=◌, tag_at, between_at, token_at, some_token}
use Rattle.model_spelling.specs.Tokens.{is_token}
use Rattle.model_spelling.specs.Page.{is_whole, first_place, last_place, starts_body, ends_body, or_no_body, body_at}
use Rattle.std.specs.Option.{option_or}
use Rattle.model_spelling.proofs.Found.{ok, ok_same, not_ok}
use Rattle.model_spelling.proofs.Proved.{law_token_found, law_body_inside}
use Rattle.model_page.specs.PageItems.{slice}

-- ---- where a test first or last holds

record FoundAt (test : List ℕ → Bool) (at : ℕ) (text : List ℕ) (p : ℕ) : Type 0 where
  prefix : List ℕ
  rest : List ℕ
  text_is : text ≡ prefix ++ rest
  place_is : p ≡ at + length prefix
  holds : test rest ≡ true

some_same : (a b : ℕ) → Some a ≡ Some b → a ≡ b
some_same a b e = cc

none_never : (a : ℕ) → None ≡ Some a → ⊥
none_never a e = cc

found_later : (test : List ℕ → Bool) (at b : ℕ) (bs : List ℕ) (p : ℕ) → FoundAt test (at + 1) bs p → FoundAt test at (b ∷ bs) p
found_later test at b bs p f = record { prefix = b ∷ f.prefix; rest = f.rest; text_is = ap (λ s. b ∷ s) f.text_is; place_is = omega (arith, f.place_is); holds = f.holds }

found_here : (test : List ℕ → Bool) (at : ℕ) (text : List ℕ) (p : ℕ) → at ≡ p → test text ≡ true → FoundAt test at text p
found_here test at text p e h = record { prefix = []; rest = text; text_is = refl; place_is = omega (arith, e); holds = h }

first_by : (test : List ℕ → Bool) (at b : ℕ) (bs : List ℕ) (p : ℕ) (c : Bool) → test (b ∷ bs) ≡ c → cond c (Some at) (first_place test (at + 1) bs) ≡ Some p → (first_place test (at + 1) bs ≡ Some p → FoundAt test (at + 1) bs p) → FoundAt test at (b ∷ bs) p
first_by test at b bs p true h e rec = found_here test at (b ∷ bs) p (some_same at p e) h
first_by test at b bs p false h e rec = found_later test at b bs p (rec e)

first_found : (test : List ℕ → Bool) (at : ℕ) (text : List ℕ) (p : ℕ) → first_place test at text ≡ Some p → FoundAt test at text p
unfolding first_place
first_found test at [] p e = absurd (none_never p e)
first_found test at (b ∷ bs) p e = first_by test at b bs p (test (b ∷ bs)) refl e (λ h. first_found test (at + 1) bs p h)

last_by : (test : List ℕ → Bool) (at b : ℕ) (bs : List ℕ) (p : ℕ) (c : Bool) (later : Option ℕ) → test (b ∷ bs) ≡ c → last_place test (at + 1) bs ≡ later → option_or later (cond c (Some at) None) ≡ Some p → (last_place test (at + 1) bs ≡ Some p → FoundAt test (at + 1) bs p) → FoundAt test at (b ∷ bs) p
last_by test at b bs p c (Some q) h l e rec = found_later test at b bs p (rec (l ∙ e))
last_by test at b bs p true None h l e rec = found_here test at (b ∷ bs) p (some_same at p e) h
last_by test at b bs p false None h l e rec = absurd (none_never p e)

last_found : (test : List ℕ → Bool) (at : ℕ) (text : List ℕ) (p : ℕ) → last_place test at text ≡ Some p → FoundAt test at text p
unfolding last_place
last_found test at [] p e = absurd (none_never p e)
last_found test at (b ∷ bs) p e = last_by test at b bs p (test (b ∷ bs)) (last_place test (at + 1) bs) refl refl e (λ h. last_found test (at + 1) bs p h)

-- ---- what begins with `<`

abbrev BeginsTag : List ℕ → Type 0
BeginsTag text = (more : List ℕ) × (text ≡ 60 ∷ more)

first_is : (b : ℕ) (bs : List ℕ) (rest : Bool) → (nat_eq 60 b && rest) ≡ true → BeginsTag (b ∷ bs)
first_is b bs rest h = elim (cases_Bool (nat_eq 60 b)) [
  | inl e ↦ (bs, ap (λ c. c ∷ bs) (sym (eqb-true 60 b e)))
  | inr n ↦ absurd (let f : false ≡ true = sym (ap (λ c. c && rest) n) ∙ h in cc)
]

-- an opening or a closing of the body
begins-tag : (more text : List ℕ) → begins_with (60 ∷ more) text ≡ true → BeginsTag text
unfolding begins_with
begins-tag more [] h = cc
begins-tag more (b ∷ bs) h = first_is b bs _ h

body-begins : (text : List ℕ) → starts_body text ≡ true → BeginsTag text
body-begins text h = elim (cases_Bool (begins_with (codes "<body ") text)) [
  | inl e ↦ begins-tag (codes "body ") text e
  | inr n ↦ begins-tag (codes "body>") text (sym (ap (λ c. c || begins_with (codes "<body>") text) n) ∙ h)
]

body-ends : (text : List ℕ) → ends_body text ≡ true → BeginsTag text
body-ends text h = begins-tag (codes "/body>") text h

-- ---- what ends with `>`

abbrev pub EndsTag : List ℕ → Type 0
EndsTag text = (prefix : List ℕ) × (text ≡ prefix ++ (62 ∷ []))

pub start-ends : (name : List ℕ) (attrs : List Attr) (slash : Bool) → EndsTag (start_text name attrs slash)
start-ends name attrs true = ((60 ∷ name ++ flat_map attr_text attrs) ++ (47 ∷ []), sym (append_assoc (60 ∷ name ++ flat_map attr_text attrs) (47 ∷ []) (62 ∷ [])))
start-ends name attrs false = (60 ∷ name ++ flat_map attr_text attrs, refl)

no_text : (text rest more : List ℕ) → is_text text ≡ true → 60 ∷ more ≡ text ++ rest → ⊥
no_text [] rest more h e = cc
no_text (b ∷ bs) rest more h e =
    let first : 60 ≡ b = ap (λ l. get_or l 0 0) e in
    let bad : is_run 60 (60 ∷ bs) ≡ true = ap (λ c. is_run 60 (c ∷ bs)) first ∙ h in
    cc

-- a token that begins with `<` ends with `>`
token-ends : (t : Token) (rest more : List ℕ) → is_token t ≡ true → 60 ∷ more ≡ token_text t ++ rest → EndsTag (token_text t)
token-ends (Start name attrs slash) rest more h e = start-ends name attrs slash
token-ends (End name) rest more h e = (60 ∷ 47 ∷ name, refl)
token-ends (Chars text) rest more h e = absurd (no_text text rest more h e)
token-ends (Raw text) rest more h e = cc
token-ends (Comment text) rest more h e = ((comment_open ++ text) ++ (45 ∷ 45 ∷ []), sym (append_assoc (comment_open ++ text) (45 ∷ 45 ∷ []) (62 ∷ [])))

read-tag : (tag : ℕ) (more : List ℕ) (t : Token) (to : ℕ) → tag_at tag more ≡ Ok (t, to) → token_at Between tag (60 ∷ more) ≡ Ok (Some (t, to))
unfolding token_at between_at
read-tag tag more t to e = ap some_token e

-- ---- the body

at_seam : (a b : List ℕ) → get_or (a ++ b) (length a) 0 ≡ get_or b 0 0
at_seam a b = ap (λ (k : ℕ). get_or (a ++ b) k 0) (sym (add-zero (length a))) ∙ sym (get_or-drop (length a) (a ++ b) 0 0) ∙ ap (λ (l : List ℕ). get_or l 0 0) (drop-append_seam a b)

-- a boundary before `<`
before_tag : (page prefix rest : List ℕ) → page ≡ prefix ++ rest → BeginsTag rest → IsCharBoundary page (length prefix)
before_tag page prefix rest e t =
    let whole : page ≡ prefix ++ (60 ∷ t.0) = e ∙ ap (λ s. prefix ++ s) t.1 in
    let byte : get_or page (length prefix) 0 ≡ 60 = ap (λ s. get_or s (length prefix) 0) whole ∙ at_seam prefix (60 ∷ t.0) in
    IsCharBoundary-before_ascii page (length prefix) (omega (arith, ap length whole, length-append prefix (60 ∷ t.0))) (omega (arith, byte))

-- a boundary after `>`
after_tag : (page prefix rest : List ℕ) → IsUtf8 page → page ≡ prefix ++ rest → EndsTag prefix → IsCharBoundary page (length prefix)
after_tag page prefix rest u e t =
    let whole : page ≡ t.0 ++ (62 ∷ rest) = e ∙ ap (λ s. s ++ rest) t.1 ∙ append_assoc t.0 (62 ∷ []) rest in
    let byte : get_or page (length t.0) 0 ≡ 62 = ap (λ s. get_or s (length t.0) 0) whole ∙ at_seam t.0 (62 ∷ rest) in
    let len : length t.0 + 1 ≡ length prefix = omega (arith, ap length t.1, length-append t.0 (62 ∷ [])) in
    subst (IsCharBoundary page) len (IsCharBoundary-after_ascii page (length t.0) u (omega (arith, ap length whole, length-append t.0 (62 ∷ rest))) (omega (arith, byte)))

ends-longer : (a b : List ℕ) → EndsTag b → EndsTag (a ++ b)
ends-longer a b t = (a ++ t.0, ap (λ s. a ++ s) t.1 ∙ sym (append_assoc a t.0 (62 ∷ [])))

abbrev body_to : ℕ → ℕ → Result (ℕ × ℕ) ScanFault
body_to from to = Ok (from, to)

abbrev body_after : List ℕ → Token × ℕ → Result (ℕ × ℕ) ScanFault
body_after page head = or_no_body head.1 (last_place ends_body head.1 (drop head.1 page)) >>= body_to head.1

abbrev body_from : List ℕ → ℕ → Result (ℕ × ℕ) ScanFault
body_from page tag = tag_at tag (drop (tag + 1) page) >>= body_after page

abbrev pub Cut : List ℕ → ℕ → ℕ → Type 0
Cut page from to = IsCharBoundary page from × IsCharBoundary page to

-- the page up to the end of the body's start tag, and the rest
abbrev Cut_at : List ℕ → ℕ → Type 0
Cut_at page at = (prefix : List ℕ) × (rest : List ℕ) × (page ≡ prefix ++ rest) × (at ≡ length prefix) × EndsTag prefix

end-cut : (page : List ℕ) (at from to : ℕ) (p : Option ℕ) → IsUtf8 page → Cut_at page at → last_place ends_body at (drop at page) ≡ p → (or_no_body at p >>= body_to at) ≡ ok {A = ℕ × ℕ} (from, to) → Cut page from to
end-cut page at from to None u c e h = absurd (not_ok (or_no_body {A = ℕ} at None >>= body_to at) _ (from, to) refl h)
end-cut page at from to (Some p) u (prefix, rest, page_is, at_is, ends) e h =
    let same = ok_same {A = ℕ × ℕ} (at, p) (from, to) h in
    let a : length prefix ≡ from = sym at_is ∙ ap (λ (x : ℕ × ℕ). x.0) same in
    let b : p ≡ to = ap (λ (x : ℕ × ℕ). x.1) same in
    let rest_is : drop at page ≡ rest = ap (λ k. drop k page) at_is ∙ ap (drop (length prefix)) page_is ∙ drop-append_seam prefix rest in
    let f = last_found ends_body at rest p (sym (ap (last_place ends_body at) rest_is) ∙ e) in
    let whole : page ≡ (prefix ++ f.prefix) ++ f.rest = page_is ∙ ap (λ s. prefix ++ s) f.text_is ∙ sym (append_assoc prefix f.prefix f.rest) in
    let long : length (prefix ++ f.prefix) ≡ to = omega (arith, length-append prefix f.prefix, f.place_is, at_is, b) in
    (subst (IsCharBoundary page) a (after_tag page prefix rest u page_is ends), subst (IsCharBoundary page) long (before_tag page (prefix ++ f.prefix) f.rest whole (body-ends f.rest f.holds)))

head-cut : (page : List ℕ) (tag from to : ℕ) (f : FoundAt starts_body 0 page tag) (more : List ℕ) → f.rest ≡ 60 ∷ more → (h : Result (Token × ℕ) ScanFault) → IsUtf8 page → tag_at tag more ≡ h → (h >>= body_after page) ≡ ok {A = ℕ × ℕ} (from, to) → Cut page from to
head-cut page tag from to f more m (Err x) u e h = absurd (not_ok (Err x >>= body_after page) x (from, to) refl h)
head-cut page tag from to f more m (Ok head) u e h =
    let r = law_token_found tag (60 ∷ more) head.0 head.1 (read-tag tag more head.0 head.1 e) in
    let start : List ℕ = token_text head.0 in
    let whole : page ≡ (f.prefix ++ start) ++ r.rest = f.text_is ∙ ap (λ s. f.prefix ++ s) (m ∙ r.text_is) ∙ sym (append_assoc f.prefix start r.rest) in
    let at : head.1 ≡ length (f.prefix ++ start) = omega (arith, r.to_is, f.place_is, length-append f.prefix start) in
    end-cut page head.1 from to (last_place ends_body head.1 (drop head.1 page)) u
    (f.prefix ++ start, r.rest, whole, at, ends-longer f.prefix start (token-ends head.0 r.rest more r.allowed r.text_is))
    refl h

tag-cut : (page : List ℕ) (from to : ℕ) (t : Option ℕ) → IsUtf8 page → first_place starts_body 0 page ≡ t → (or_no_body 0 t >>= body_from page) ≡ ok {A = ℕ × ℕ} (from, to) → Cut page from to
tag-cut page from to None u e h = absurd (not_ok (or_no_body {A = ℕ} 0 None >>= body_from page) _ (from, to) refl h)
tag-cut page from to (Some tag) u e h =
    let f = first_found starts_body 0 page tag e in
    let b = body-begins f.rest f.holds in
    let whole : page ≡ (f.prefix ++ (60 ∷ [])) ++ b.0 = f.text_is ∙ ap (λ s. f.prefix ++ s) b.1 ∙ sym (append_assoc f.prefix (60 ∷ []) b.0) in
    let place : tag + 1 ≡ length (f.prefix ++ (60 ∷ [])) = omega (arith, f.place_is, length-append f.prefix (60 ∷ [])) in
    let more : drop (tag + 1) page ≡ b.0 = ap (λ k. drop k page) place ∙ ap (drop (length (f.prefix ++ (60 ∷ [])))) whole ∙ drop-append_seam (f.prefix ++ (60 ∷ [])) b.0 in
    head-cut page tag from to f b.0 b.1 (tag_at tag (drop (tag + 1) page)) u (ap (tag_at tag) (sym more)) h

page-cut : (page : List ℕ) (from to : ℕ) (c : Bool) → IsUtf8 page → cond c (or_no_body 0 (first_place starts_body 0 page) >>= body_from page) (ok {A = ℕ × ℕ} (0, length page)) ≡ ok {A = ℕ × ℕ} (from, to) → Cut page from to
page-cut page from to true u e = tag-cut page from to (first_place starts_body 0 page) u refl e
page-cut page from to false u e =
    let same = ok_same {A = ℕ × ℕ} (0, length page) (from, to) e in
    (subst (IsCharBoundary page) (ap (λ (x : ℕ × ℕ). x.0) same) (IsCharBoundary-start page u), subst (IsCharBoundary page) (ap (λ (x : ℕ × ℕ). x.1) same) (IsCharBoundary-end page))

pub body_cut : (page : List ℕ) (from to : ℕ) → IsUtf8 page → body_at page ≡ Ok (from, to) → Cut page from to
unfolding body_at
body_cut page from to u e = page-cut page from to (is_whole page) u e

pub body_utf8 : (page : List ℕ) (from to : ℕ) → IsUtf8 page → body_at page ≡ Ok (from, to) → IsUtf8 (slice page from to)
body_utf8 page from to u e =
    let c = body_cut page from to u e in
    IsUtf8-between page from to u (law_body_inside page from to e).0 c.0 c.1
