-- Where the body of a page stands that has another text in its place, whatever that text is.
use Rattle.std.proofs.Common.{◌≡◌, ℕ, ◌+◌, ◌-◌, ◌<◌, ◌≤◌, Bool, true, false, ◌||◌, List, [], ◌∷◌, ◌++◌, length, take, drop, map, Result, Ok, refl, sym, ap, ◌∙◌, append_assoc, append-nil, length-append, length-drop, length-take-le, arith}
use Rattle.std.specs.Prelude.{codes, nat_eq, bytes_eq}
use Rattle.std.specs.List.{flat_map}
use lib.Pointwise.{pointwise}
use Rattle.std.specs.Char.{to_ascii_lowercase}
use Rattle.std.proofs.Math.Seq.{take-append_seam, drop-append_seam, drop-append-add}
use Rattle.std.proofs.lemmas.Bool.{and_parts}
use Rattle.std.proofs.lemmas.List.{take-append-le, drop-append-le, drop_all}
use Rattle.model_spelling.specs.declared.scan_fault.ScanFault.{ScanFault}
use Rattle.model_spelling.specs.Grammar.{Attr, attr_text, begins_with, start_text}
use Rattle.model_spelling.specs.Page.{is_whole, starts_body, ends_body, body_at, IsBody}
use Rattle.model_spelling.proofs.Found.{ok_same}
use Rattle.model_spelling.proofs.BodyPlace.{no_doctype}
use Rattle.model_spelling.proofs.BodyOnly.{body_only}
use Rattle.model_spelling.proofs.Proved.{law_body_is_found}
use Rattle.model_page.specs.PageItems.{slice}

-- ---- what a text begins with

-- it is told by its prefix
same-prefix : (w a x y : List ℕ) → length w ≤ length a → begins_with w (a ++ x) ≡ begins_with w (a ++ y)
unfolding begins_with
same-prefix w a x y l = ap (pointwise nat_eq w) (take-append-le (length w) a x l ∙ sym (take-append-le (length w) a y l))

start-long : (attrs : List Attr) → 6 ≤ length (start_text (codes "body") attrs false)
start-long attrs = let l = length-append (60 ∷ codes "body" ++ flat_map attr_text attrs) (62 ∷ []) in omega (arith, l)

-- whether the body starts before its start tag
starts-same : (before : List ℕ) (attrs : List Attr) (x y : List ℕ) (n : ℕ) → n < length before →
    starts_body (drop n ((before ++ start_text (codes "body") attrs false) ++ x)) ≡ starts_body (drop n ((before ++ start_text (codes "body") attrs false) ++ y))
starts-same before attrs x y n l =
    let start : List ℕ = start_text (codes "body") attrs false in
    let prefix : List ℕ = drop n (before ++ start) in
    let whole = length-append before start in
    let long = start-long attrs in
    let within : n ≤ length (before ++ start) = omega (arith, whole, l) in
    let left : 6 ≤ length prefix = let d = length-drop n (before ++ start) in omega (arith, d, whole, long, l) in
    ap starts_body (drop-append-le n (before ++ start) x within)
    ∙ (λ i. same-prefix (codes "<body ") prefix x y left i || same-prefix (codes "<body>") prefix x y left i)
    ∙ ap starts_body (sym (drop-append-le n (before ++ start) y within))

-- ---- whether the page is whole

-- a body that starts at once is in no whole page
late : (before : List ℕ) (attrs : List Attr) (x : List ℕ) → is_whole ((before ++ start_text (codes "body") attrs false) ++ x) ≡ true → 3 ≤ length before
late [] attrs x h = cc
late (a ∷ []) attrs x h = let p = and_parts (nat_eq (to_ascii_lowercase a) 60) _ h in let f : false ≡ true = p.1 in cc
late (a ∷ b ∷ []) attrs x h =
    let p = and_parts (nat_eq (to_ascii_lowercase a) 60) _ h in
    let q = and_parts (nat_eq (to_ascii_lowercase b) 33) _ p.1 in
    let f : false ≡ true = q.1 in
    cc
late (a ∷ b ∷ c ∷ before) attrs x h = omega arith

whole-same : (prefix x y : List ℕ) → 9 ≤ length prefix → is_whole (prefix ++ x) ≡ is_whole (prefix ++ y)
whole-same prefix x y l = ap (λ t. bytes_eq (map to_ascii_lowercase t) (codes "<!doctype")) (take-append-le 9 prefix x l ∙ sym (take-append-le 9 prefix y l))

-- ---- a whole page

-- what stands after so many bytes of three parts
suffix : (a b c : List ℕ) (n m : ℕ) → n ≡ length a + (length b + m) → drop n (a ++ (b ++ c)) ≡ drop m c
suffix a b c n m e = ap (λ k. drop k (a ++ (b ++ c))) e ∙ drop-append-add a (b ++ c) (length b + m) ∙ drop-append-add b c m

-- its body in words, with another text
replaced-whole : (page : List ℕ) (from to : ℕ) (text : List ℕ) → is_whole page ≡ true → IsBody page from to → body_at (take from page ++ text ++ drop to page) ≡ Ok (from, from + length text)
replaced-whole page from to text w b =
    let start : List ℕ = start_text (codes "body") b.attrs false in
    let head : List ℕ = b.before ++ start in
    let close : List ℕ = codes "</body>" in
    let tail : List ℕ = close ++ b.after in
    let page_is : page ≡ head ++ (b.body ++ tail) = b.page_is ∙ append_assoc (head ++ b.body) close b.after ∙ append_assoc head b.body tail in
    let at : from ≡ length head = omega (arith, b.from_is, length-append b.before start) in
    let head_is : take from page ≡ head = ap (λ n. take n page) at ∙ ap (take (length head)) page_is ∙ take-append_seam head (b.body ++ tail) in
    let rest : drop to page ≡ tail = ap (drop to) page_is ∙ suffix head b.body tail to 0 (omega (arith, at, b.to_is)) in
    let new : List ℕ = take from page ++ text ++ drop to page in
    let new_is : new ≡ head ++ (text ++ tail) = (λ i. head_is i ++ text ++ rest i) ∙ append_assoc head text tail in
    let still : is_whole (head ++ (b.body ++ tail)) ≡ true = ap is_whole (sym page_is) ∙ w in
    let three = late b.before b.attrs (b.body ++ tail) still in
    let long : 9 ≤ length head = omega (arith, three, start-long b.attrs, length-append b.before start) in
    let whole : is_whole new ≡ true = ap is_whole new_is ∙ whole-same head (text ++ tail) (b.body ++ tail) long ∙ still in
    body_only new from (from + length text) whole (record {
      before = b.before;
      attrs = b.attrs;
      body = text;
      after = b.after;
      page_is = new_is ∙ sym (append_assoc head text tail) ∙ sym (append_assoc (head ++ text) close b.after);
      allowed = b.allowed;
      from_is = b.from_is;
      to_is = refl;
      first = λ n l.
          ap (λ t. starts_body (drop n t)) new_is
          ∙ starts-same b.before b.attrs (text ++ tail) (b.body ++ tail) n l
          ∙ ap (λ t. starts_body (drop n t)) (sym page_is)
          ∙ b.first n l;
      last = λ n l.
          let m : ℕ = n - (from + length text) in
          ap (λ t. ends_body (drop n t)) new_is
          ∙ ap ends_body (suffix head text tail n m (omega (arith, at, l)) ∙ sym (suffix head b.body tail (to + m) m (omega (arith, at, b.to_is))))
          ∙ ap (λ t. ends_body (drop (to + m) t)) (sym page_is)
          ∙ b.last (to + m) (omega (arith, l));
    })

-- ---- every page

same-body : (a b c d : ℕ) → ◌≡◌ {A = Result (ℕ × ℕ) ScanFault} (Ok (a, b)) (Ok (c, d)) → (a ≡ c) × (b ≡ d)
same-body a b c d e = let p : (a, b) ≡ (c, d) = ok_same {A = ℕ × ℕ} (a, b) (c, d) e in (ap (λ x. x.0) p, ap (λ x. x.1) p)

-- the body of a page with another text in the place of its body
pub replaced-by : (page : List ℕ) (from to : ℕ) (text : List ℕ) (whole : Bool) → is_whole page ≡ whole → body_at page ≡ Ok (from, to) → is_whole text ≡ false →
    body_at (take from page ++ text ++ drop to page) ≡ Ok (from, from + length text)
replaced-by page from to text true w e t = replaced-whole page from to text w (law_body_is_found page from to w e)
replaced-by page from to text false w e t =
    let p = same-body 0 (length page) from to (sym (no_doctype page w) ∙ e) in
    let none : drop to page ≡ [] = drop_all to page (omega (arith, p.1)) in
    let same : take from page ++ text ++ drop to page ≡ text = (λ i. take (sym p.0 i) page ++ text ++ none i) ∙ append-nil text in
    ap body_at same ∙ no_doctype text t ∙ (λ i. Ok (p.0 i, omega-end from (length text) p.0 i))
  where
    omega-end : (n len : ℕ) → 0 ≡ n → len ≡ n + len
    omega-end n len e = omega (arith, e)

pub slice-new : (page text : List ℕ) (from to : ℕ) → from ≤ length page → slice (take from page ++ text ++ drop to page) from (from + length text) ≡ text
slice-new page text from to le =
    let at : from ≡ length (take from page) = sym (length-take-le from page le) in
    let n : from + length text - from ≡ length text = omega arith in
    ap (λ s. take (from + length text - from) (drop from s)) (append_assoc (take from page) text (drop to page))
    ∙ (λ i. take (n i) (drop (at i) (take from page ++ (text ++ drop to page))))
    ∙ ap (take (length text)) (drop-append_seam (take from page) (text ++ drop to page))
    ∙ take-append_seam text (drop to page)
