-- Where the body of a page stands.
use Rattle.std.proofs.Common.{◌≡◌, ℕ, zero, suc, ◌+◌, ◌-◌, ◌<◌, ◌≤◌, Bool, true, false, cond, not, ◌||◌, List, [], ◌∷◌, ◌++◌, length, take, drop, Option, Some, None, Result, Ok, Err, refl, sym, ap, ◌∙◌, arith, append_assoc, ◌⊎◌, inl, inr}
use Rattle.std.specs.Prelude.{codes}
use Rattle.std.specs.List.{flat_map}
use Rattle.std.proofs.lemmas.List.{length-drop, length-take, length-append, drop-drop, take-append-drop}
use Rattle.std.proofs.Math.Seq.{drop-append_seam}
use Rattle.model_spelling.specs.declared.scan_fault.ScanFault.{ScanFault}
use Rattle.model_spelling.specs.declared.scan_fault.ScanWhat.TheVariants.{NoBody}
use Rattle.model_spelling.specs.Grammar.{Attr, Token, attr_text, start_text, begins_with, is_letter, is_plaintext, name_same, is_start, are_attrs}
use Rattle.ve_kinds.specs.Tags.{is_void}
use Rattle.model_spelling.specs.Reading.{◌>>=◌, fault, start_at, start_after, tag_at}
use Rattle.model_spelling.specs.Page.{is_whole, first_place, last_place, starts_body, ends_body, or_no_body, body_at, page_parts_at, PageParts, page_parts, IsBody}
use Rattle.std.specs.Option.{option_or}
use Rattle.model_spelling.proofs.TokenRuns.{begins_parts}
use Rattle.model_spelling.proofs.Found.{ok, ok_same, not_ok}
use Rattle.model_spelling.proofs.FoundTokens.{AfterFound, after_by_name}
use Rattle.model_spelling.proofs.Only.{close_text}
use Rattle.model_spelling.specs.Reading.{name_ends}

some_same : (a b : ℕ) → Some a ≡ Some b → a ≡ b
some_same a b e = cc

none_never : (a : ℕ) → None ≡ Some a → ⊥
none_never a e = cc

-- ---- the first position

pub record FirstFound (test : List ℕ → Bool) (at : ℕ) (text : List ℕ) (n : ℕ) : Type 0 where
  pub k : ℕ
  pub is : n ≡ at + k
  pub inside : k < length text
  pub here : test (drop k text) ≡ true
  pub before : (m : ℕ) → m < k → test (drop m text) ≡ false

none_above : (test : List ℕ → Bool) (b : ℕ) (bs : List ℕ) (k : ℕ) → test (b ∷ bs) ≡ false → ((m : ℕ) → m < k → test (drop m bs) ≡ false) → (m : ℕ) → m < suc k → test (drop m (b ∷ bs)) ≡ false
none_above test b bs k other rest zero lt = other
none_above test b bs k other rest (suc m) lt = rest m (omega arith)

first_by : (test : List ℕ → Bool) (at n b : ℕ) (bs : List ℕ) (c : Bool) → test (b ∷ bs) ≡ c → (first_place test (at + 1) bs ≡ Some n → FirstFound test (at + 1) bs n) → cond c (Some at) (first_place test (at + 1) bs) ≡ Some n → FirstFound test at (b ∷ bs) n
first_by test at n b bs true here later e = let same = some_same at n e in record { k = 0; is = omega (arith, same); inside = omega arith; here = here; before = λ m lt. absurd (omega (arith, lt)) }
first_by test at n b bs false other later e =
    let r = later e in
    record { k = suc r.k; is = omega (arith, r.is); inside = omega (arith, r.inside); here = r.here; before = none_above test b bs r.k other r.before }

pub first_found : (test : List ℕ → Bool) (at : ℕ) (text : List ℕ) (n : ℕ) → first_place test at text ≡ Some n → FirstFound test at text n
unfolding first_place
first_found test at [] n e = absurd (none_never n e)
first_found test at (b ∷ bs) n e = first_by test at n b bs (test (b ∷ bs)) refl (λ h. first_found test (at + 1) bs n h) e

empty_dropped : (m : ℕ) → drop {A = ℕ} m [] ≡ []
empty_dropped zero = refl
empty_dropped (suc m) = refl

-- ---- the last position

pub record LastFound (test : List ℕ → Bool) (at : ℕ) (text : List ℕ) (n : ℕ) : Type 0 where
  pub k : ℕ
  pub is : n ≡ at + k
  pub inside : k < length text
  pub here : test (drop k text) ≡ true
  pub after : (m : ℕ) → k < m → test (drop m text) ≡ false

none_by : (test : List ℕ → Bool) (at b : ℕ) (bs : List ℕ) (later : Option ℕ) (c : Bool) → test (b ∷ bs) ≡ c → (later ≡ None → (m : ℕ) → test (drop m bs) ≡ false) → option_or later (cond c (Some at) None) ≡ None → (m : ℕ) → test (drop m (b ∷ bs)) ≡ false
none_by test at b bs (Some q) c h rest e m = absurd cc
none_by test at b bs None true h rest e m = absurd cc
none_by test at b bs None false h rest e zero = h
none_by test at b bs None false h rest e (suc m) = rest refl m

last_none : (test : List ℕ → Bool) (at : ℕ) (text : List ℕ) → test [] ≡ false → last_place test at text ≡ None → (m : ℕ) → test (drop m text) ≡ false
unfolding last_place
last_none test at [] z e m = ap test (empty_dropped m) ∙ z
last_none test at (b ∷ bs) z e m = none_by test at b bs (last_place test (at + 1) bs) (test (b ∷ bs)) refl (λ h k. last_none test (at + 1) bs z h k) e m

above_none : (test : List ℕ → Bool) (b : ℕ) (bs : List ℕ) → ((m : ℕ) → test (drop m bs) ≡ false) → (m : ℕ) → 0 < m → test (drop m (b ∷ bs)) ≡ false
above_none test b bs rest zero lt = absurd (omega (arith, lt))
above_none test b bs rest (suc m) lt = rest m

above_last : (test : List ℕ → Bool) (b : ℕ) (bs : List ℕ) (k : ℕ) → ((m : ℕ) → k < m → test (drop m bs) ≡ false) → (m : ℕ) → suc k < m → test (drop m (b ∷ bs)) ≡ false
above_last test b bs k rest zero lt = absurd (omega (arith, lt))
above_last test b bs k rest (suc m) lt = rest m (omega (arith, lt))

last_by : (test : List ℕ → Bool) (at n b : ℕ) (bs : List ℕ) (later : Option ℕ) (c : Bool) → test (b ∷ bs) ≡ c → ((q : ℕ) → later ≡ Some q → LastFound test (at + 1) bs q) → (later ≡ None → (m : ℕ) → test (drop m bs) ≡ false)
    → option_or later (cond c (Some at) None) ≡ Some n → LastFound test at (b ∷ bs) n
last_by test at n b bs (Some q) c h found none e =
    let r = found q refl in
    let same = some_same q n e in
    record { k = suc r.k; is = omega (arith, r.is, same); inside = omega (arith, r.inside); here = r.here; after = above_last test b bs r.k r.after }
last_by test at n b bs None true h found none e = let same = some_same at n e in record { k = 0; is = omega (arith, same); inside = omega arith; here = h; after = above_none test b bs (none refl) }
last_by test at n b bs None false h found none e = absurd (none_never n e)

pub last_found : (test : List ℕ → Bool) (at : ℕ) (text : List ℕ) (n : ℕ) → test [] ≡ false → last_place test at text ≡ Some n → LastFound test at text n
unfolding last_place
last_found test at [] n z e = absurd (none_never n e)
last_found test at (b ∷ bs) n z e =
    last_by test at n b bs (last_place test (at + 1) bs) (test (b ∷ bs)) refl (λ q h. last_found test (at + 1) bs q z h) (λ h m. last_none test (at + 1) bs z h m) e

pub nothing_ends : ends_body [] ≡ false
unfolding begins_with
nothing_ends = refl

-- ---- the body start tag

-- a body start tag stands at the prefix
pub record BodyPrefix (text : List ℕ) : Type 0 where
  pub c : ℕ
  pub more : List ℕ
  pub stops : (c ≡ 32) ⊎ (c ≡ 62)
  pub is : text ≡ 60 ∷ 98 ∷ 111 ∷ 100 ∷ 121 ∷ c ∷ more

prefix_by : (text : List ℕ) (b : Bool) → begins_with (codes "<body ") text ≡ b → (b || begins_with (codes "<body>") text) ≡ true → BodyPrefix text
prefix_by text true h e = record { c = 32; more = drop 6 text; stops = inl refl; is = begins_parts (codes "<body ") text h }
prefix_by text false h e = record { c = 62; more = drop 6 text; stops = inr refl; is = begins_parts (codes "<body>") text e }

pub body_prefix : (text : List ℕ) → starts_body text ≡ true → BodyPrefix text
body_prefix text e = prefix_by text (begins_with (codes "<body ") text) refl e

pub tag_is_start : (tag c : ℕ) (more : List ℕ) → tag_at tag (98 ∷ 111 ∷ 100 ∷ 121 ∷ c ∷ more) ≡ start_at tag (98 ∷ 111 ∷ 100 ∷ 121 ∷ c ∷ more)
unfolding tag_at is_letter
tag_is_start tag c more = refl

start_is_body : (tag c : ℕ) (more : List ℕ) → (c ≡ 32) ⊎ (c ≡ 62) → start_at tag (98 ∷ 111 ∷ 100 ∷ 121 ∷ c ∷ more) ≡ start_after tag (codes "body") (tag + 1 + 4) (c ∷ more)
unfolding start_at
start_is_body tag c more (inl e) = rw e refl
start_is_body tag c more (inr e) = rw e refl

-- what is read after the prefix
pub after_prefix_is : (page : List ℕ) (tag : ℕ) → (f : BodyPrefix (drop tag page)) → drop (tag + 1) page ≡ 98 ∷ 111 ∷ 100 ∷ 121 ∷ f.c ∷ f.more
after_prefix_is page tag f = sym (drop-drop 1 tag page) ∙ ap (drop 1) f.is

body_void : is_void (codes "body") ≡ false
unfolding is_void name_same
body_void = refl

no_slash : (slash void : Bool) → void ≡ false → (not slash || void) ≡ true → slash ≡ false
no_slash false void v e = refl
no_slash true void v e = absurd (let h : false ≡ true = sym v ∙ e in cc)

body_allowed : (attrs : List Attr) → are_attrs attrs ≡ true → is_start (codes "body") attrs false ≡ true
unfolding is_letter is_plaintext name_same
body_allowed attrs e = rw e refl

-- ---- the ways through

abbrev body_to : ℕ → ℕ → Result (ℕ × ℕ) ScanFault
body_to from to = Ok (from, to)

abbrev body_after : List ℕ → Token × ℕ → Result (ℕ × ℕ) ScanFault
body_after page head = or_no_body head.1 (last_place ends_body head.1 (drop head.1 page)) >>= body_to head.1

abbrev body_from : List ℕ → ℕ → Result (ℕ × ℕ) ScanFault
body_from page tag = tag_at tag (drop (tag + 1) page) >>= body_after page

pub no_doctype : (page : List ℕ) → is_whole page ≡ false → body_at page ≡ Ok (0, length page)
unfolding body_at
no_doctype page e = rw e refl

whole_is : (page : List ℕ) → is_whole page ≡ true → body_at page ≡ (or_no_body 0 (first_place starts_body 0 page) >>= body_from page)
unfolding body_at
whole_is page e = rw e refl

pub no_start : (page : List ℕ) → is_whole page ≡ true → first_place starts_body 0 page ≡ None → body_at page ≡ Err (fault 0 NoBody)
no_start page e none = whole_is page e ∙ rw none refl

pub bad_start : (page : List ℕ) (tag : ℕ) (f : ScanFault) → is_whole page ≡ true → first_place starts_body 0 page ≡ Some tag → tag_at tag (drop (tag + 1) page) ≡ Err f → body_at page ≡ Err f
bad_start page tag f e first read = whole_is page e ∙ rw (first, read) refl

pub no_end : (page : List ℕ) (tag from : ℕ) (t : Token) → is_whole page ≡ true → first_place starts_body 0 page ≡ Some tag → tag_at tag (drop (tag + 1) page) ≡ Ok (t, from) → last_place ends_body from (drop from page) ≡ None
    → body_at page ≡ Err (fault from NoBody)
no_end page tag from t e first read none = whole_is page e ∙ rw (first, read, none) refl

pub body_between : (page : List ℕ) (tag from to : ℕ) (t : Token) → is_whole page ≡ true → first_place starts_body 0 page ≡ Some tag → tag_at tag (drop (tag + 1) page) ≡ Ok (t, from) → last_place ends_body from (drop from page) ≡ Some to
    → body_at page ≡ ok {A = ℕ × ℕ} (from, to)
body_between page tag from to t e first read last = whole_is page e ∙ rw (first, read, last) refl

-- what was found on the way to a body
record BodyFound (page : List ℕ) (from to : ℕ) : Type 0 where
  pub tag : ℕ
  pub token : Token
  pub first : first_place starts_body 0 page ≡ Some tag
  pub read : tag_at tag (drop (tag + 1) page) ≡ ok (token, from)
  pub last : last_place ends_body from (drop from page) ≡ Some to

body_end : (page : List ℕ) (tag at from to : ℕ) (token : Token) (p : Option ℕ) → first_place starts_body 0 page ≡ Some tag → tag_at tag (drop (tag + 1) page) ≡ ok (token, at) → last_place ends_body at (drop at page) ≡ p
    → (or_no_body at p >>= body_to at) ≡ ok {A = ℕ × ℕ} (from, to) → BodyFound page from to
body_end page tag at from to token None first read e h = absurd (not_ok (or_no_body {A = ℕ} at None >>= body_to at) _ (from, to) refl h)
body_end page tag at from to token (Some p) first read e h =
    let same = ok_same {A = ℕ × ℕ} (at, p) (from, to) h in
    let a : at ≡ from = ap (λ (x : ℕ × ℕ). x.0) same in
    let b : p ≡ to = ap (λ (x : ℕ × ℕ). x.1) same in
    record {
      tag = tag;
      token = token;
      first = first;
      read = read ∙ ap (λ (k : ℕ). ok (token, k)) a;
      last = ap (λ (k : ℕ). last_place ends_body k (drop k page)) (sym a) ∙ e ∙ ap (λ (k : ℕ). Some k) b;
    }

body_head : (page : List ℕ) (tag from to : ℕ) (h : Result (Token × ℕ) ScanFault) → first_place starts_body 0 page ≡ Some tag → tag_at tag (drop (tag + 1) page) ≡ h → (h >>= body_after page) ≡ ok {A = ℕ × ℕ} (from, to) → BodyFound page from to
body_head page tag from to (Err f) first read e = absurd (not_ok (Err f >>= body_after page) f (from, to) refl e)
body_head page tag from to (Ok (token, at)) first read e = body_end page tag at from to token (last_place ends_body at (drop at page)) first read refl e

body_tag : (page : List ℕ) (from to : ℕ) (t : Option ℕ) → first_place starts_body 0 page ≡ t → (or_no_body 0 t >>= body_from page) ≡ ok {A = ℕ × ℕ} (from, to) → BodyFound page from to
body_tag page from to None first e = absurd (not_ok (or_no_body {A = ℕ} 0 None >>= body_from page) _ (from, to) refl e)
body_tag page from to (Some tag) first e = body_head page tag from to (tag_at tag (drop (tag + 1) page)) first refl e

way : (page : List ℕ) (from to : ℕ) → is_whole page ≡ true → body_at page ≡ Ok (from, to) → BodyFound page from to
way page from to whole e = body_tag page from to (first_place starts_body 0 page) refl (sym (whole_is page whole) ∙ e)

-- ---- the laws

-- the last position from a byte on
pub last_within : (page : List ℕ) (from to : ℕ) → last_place ends_body from (drop from page) ≡ Some to → (from ≤ to) × (to < length page)
last_within page from to e =
    let l = last_found ends_body from (drop from page) to nothing_ends e in
    (omega (arith, l.is), omega (arith, l.is, l.inside, length-drop from page))

inside_by : (page : List ℕ) (from to : ℕ) (c : Bool) → is_whole page ≡ c → body_at page ≡ ok {A = ℕ × ℕ} (from, to) → (from ≤ to) × (to ≤ length page)
inside_by page from to true whole e = let w = way page from to whole e in let l = last_within page from to w.last in (l.0, omega (arith, l.1))
inside_by page from to false none e =
    let same = ok_same {A = ℕ × ℕ} (0, length page) (from, to) (sym (no_doctype page none) ∙ e) in
    let a : 0 ≡ from = ap (λ (x : ℕ × ℕ). x.0) same in
    let b : length page ≡ to = ap (λ (x : ℕ × ℕ). x.1) same in
    (omega (arith, a), omega (arith, b))

pub body_inside : (page : List ℕ) (from to : ℕ) → body_at page ≡ Ok (from, to) → (from ≤ to) × (to ≤ length page)
body_inside page from to e = inside_by page from to (is_whole page) refl e

start_whole : (attrs : List Attr) (rest : List ℕ) → 60 ∷ 98 ∷ 111 ∷ 100 ∷ 121 ∷ (flat_map attr_text attrs ++ (62 ∷ rest)) ≡ start_text (codes "body") attrs false ++ rest
start_whole attrs rest = simp append_assoc

start_length : (attrs : List Attr) → length (start_text (codes "body") attrs false) ≡ 5 + length (flat_map attr_text attrs) + 1
start_length attrs = omega (arith, length-append (60 ∷ codes "body" ++ flat_map attr_text attrs) (62 ∷ []), length-append (60 ∷ codes "body") (flat_map attr_text attrs))

pub regroup : (a b c d e : List ℕ) → a ++ (b ++ (c ++ (d ++ e))) ≡ a ++ b ++ c ++ d ++ e
regroup a b c d e = simp append_assoc

parted : (page before start body mark after rest inner : List ℕ) → page ≡ before ++ rest → rest ≡ start ++ inner → inner ≡ body ++ (mark ++ after) → page ≡ before ++ start ++ body ++ mark ++ after
parted page before start body mark after rest inner a b c =
    a ∙ ap (λ (l : List ℕ). before ++ l) (b ∙ ap (λ (l : List ℕ). start ++ l) c) ∙ regroup before start body mark after

body_made : (page : List ℕ) (from to : ℕ) (w : BodyFound page from to) → (f : FirstFound starts_body 0 page w.tag) → (prefix : BodyPrefix (drop w.tag page)) → AfterFound (w.tag + 1 + 4) (codes "body") (prefix.c ∷ prefix.more) w.token from
    → (l : LastFound ends_body from (drop from page) to) → IsBody page from to
body_made page from to w f prefix a l =
    let tag_is : w.tag ≡ f.k = omega (arith, f.is) in
    let slash : a.slash ≡ false = no_slash a.slash (is_void (codes "body")) body_void a.may in
    let text : prefix.c ∷ prefix.more ≡ flat_map attr_text a.attrs ++ (62 ∷ a.rest) = a.text_is ∙ ap (λ (s : Bool). flat_map attr_text a.attrs ++ (close_text s ++ a.rest)) slash in
    let start : List ℕ = start_text (codes "body") a.attrs false in
    let stands : drop w.tag page ≡ start ++ a.rest = prefix.is ∙ ap (λ (x : List ℕ). 60 ∷ 98 ∷ 111 ∷ 100 ∷ 121 ∷ x) text ∙ start_whole a.attrs a.rest in
    let one : length (close_text a.slash) ≡ 1 = ap (λ (s : Bool). length (close_text s)) slash in
    let len : from ≡ w.tag + length start = omega (arith, a.to_is, one, start_length a.attrs) in
    let before : length (take w.tag page) ≡ w.tag = omega (arith, length-take w.tag page, f.inside, tag_is) in
    let inner : drop from page ≡ a.rest = ap (λ (k : ℕ). drop k page) len ∙ sym (drop-drop (length start) w.tag page) ∙ ap (drop (length start)) stands ∙ drop-append_seam start a.rest in
    let mark : drop l.k (drop from page) ≡ codes "</body>" ++ drop 7 (drop l.k (drop from page)) = begins_parts (codes "</body>") (drop l.k (drop from page)) l.here in
    let cut : drop from page ≡ take l.k (drop from page) ++ (codes "</body>" ++ drop 7 (drop l.k (drop from page))) = sym (take-append-drop l.k (drop from page)) ∙ ap (λ (x : List ℕ). take l.k (drop from page) ++ x) mark in
    record {
      before = take w.tag page;
      attrs = a.attrs;
      body = take l.k (drop from page);
      after = drop 7 (drop l.k (drop from page));
      page_is = parted page (take w.tag page) start (take l.k (drop from page)) (codes "</body>") (drop 7 (drop l.k (drop from page))) (drop w.tag page) (drop from page)
          (sym (take-append-drop w.tag page)) (stands ∙ ap (λ (x : List ℕ). start ++ x) (sym inner)) cut;
      allowed = body_allowed a.attrs a.fit;
      from_is = omega (arith, len, before);
      to_is = omega (arith, l.is, l.inside, length-take l.k (drop from page));
      first = λ n lt. f.before n (omega (arith, lt, before, tag_is));
      last = λ n lt.
          let m : from + (n - from) ≡ n = omega (arith, lt, l.is) in
          ap ends_body (ap (λ (k : ℕ). drop k page) (sym m) ∙ sym (drop-drop (n - from) from page)) ∙ l.after (n - from) (omega (arith, lt, l.is));
    }

pub body_is_found : (page : List ℕ) (from to : ℕ) → is_whole page ≡ true → body_at page ≡ Ok (from, to) → IsBody page from to
body_is_found page from to whole e =
    let w = way page from to whole e in
    let f = first_found starts_body 0 page w.tag w.first in
    let tag_is : w.tag ≡ f.k = omega (arith, f.is) in
    let prefix = body_prefix (drop w.tag page) (ap (λ (k : ℕ). starts_body (drop k page)) tag_is ∙ f.here) in
    let read : start_after w.tag (codes "body") (w.tag + 1 + 4) (prefix.c ∷ prefix.more) ≡ ok (w.token, from) =
    sym (start_is_body w.tag prefix.c prefix.more prefix.stops) ∙ sym (tag_is_start w.tag prefix.c prefix.more) ∙ sym (ap (tag_at w.tag) (after_prefix_is page w.tag prefix)) ∙ w.read in
    body_made page from to w f prefix (after_by_name w.tag (w.tag + 1 + 4) (codes "body") (prefix.c ∷ prefix.more) (name_ends w.tag (codes "body") (w.tag + 1 + 4) (prefix.c ∷ prefix.more)) w.token from refl read)
    (last_found ends_body from (drop from page) to nothing_ends w.last)

parts_by : (page : List ℕ) (b : Result (ℕ × ℕ) ScanFault) (p : PageParts) → body_at page ≡ b → (b >>= λ x. Ok (page_parts_at x.0 x.1 page)) ≡ ok p → p.prefix ++ p.body ++ p.suffix ≡ page
parts_by page (Err f) p e h = absurd (not_ok (Err f >>= λ (x : ℕ × ℕ). Ok (page_parts_at x.0 x.1 page)) f p refl h)
parts_by page (Ok (from, to)) p e h =
    let same : page_parts_at from to page ≡ p = ok_same (page_parts_at from to page) p h in
    let within = body_inside page from to e in
    let place : from + (to - from) ≡ to = omega (arith, within.0) in
    let tail : drop (to - from) (drop from page) ≡ drop to page = drop-drop (to - from) from page ∙ ap (λ (k : ℕ). drop k page) place in
    let body : take (to - from) (drop from page) ++ drop to page ≡ drop from page = ap (λ (l : List ℕ). take (to - from) (drop from page) ++ l) (sym tail) ∙ take-append-drop (to - from) (drop from page) in
    ap (λ (q : PageParts). q.prefix ++ q.body ++ q.suffix) (sym same) ∙ append_assoc (take from page) (take (to - from) (drop from page)) (drop to page) ∙ ap (λ (l : List ℕ). take from page ++ l) body ∙ take-append-drop from page

pub parts_are_the_page : (page : List ℕ) (p : PageParts) → page_parts page ≡ Ok p → p.prefix ++ p.body ++ p.suffix ≡ page
parts_are_the_page page p e = parts_by page (body_at page) p refl e
