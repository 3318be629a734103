-- A page that is UTF-8 is cut between characters around each part of its body; so the spans of its
-- origins are parts of it.
use Rattle.std.proofs.Common.{◌≡◌, ℕ, zero, suc, ◌+◌, ◌-◌, ◌<◌, ◌≤◌, Bool, true, false, if◌then◌else◌, ◌&&◌, List, [], ◌∷◌, ◌++◌, length, take, drop, Option, Some, None, Result, Ok, Err, refl, sym, ap, ◌∙◌, subst, append_assoc, arith, length-append, length-take-le, length-drop, IsUtf8, IsCharBoundary}
use Rattle.std.specs.Prelude.{unwrap_or, All}
use Rattle.std.proofs.lemmas.Str.{IsUtf8-append, IsUtf8-nil, IsUtf8-drop, IsUtf8-between, IsCharBoundary-at_seam, IsCharBoundary-from_take}
use Rattle.std.proofs.Math.Seq.{drop-append_seam, take-append_seam}
use Rattle.model_spelling.specs.declared.scan_fault.ScanFault.{ScanFault}
use Rattle.model_spelling.specs.Grammar.{Attr as Spelled, Comment, token_text, start_text, end_text}
use Rattle.model_spelling.specs.Forest.{Forest, Nothing, Text, Remark, Void, RawElement, Element, spelling, is_forest}
use Rattle.model_spelling.specs.Page.{body_at}
use Rattle.model_spelling.specs.Parsed.{forest_of}
use Rattle.model_spelling.proofs.Proved.{law_body_inside, law_reads_right, law_forest_utf8}
use Rattle.ve_kinds.specs.declared.kind.Kind.TheVariants.{Root}
use Rattle.model_page.specs.Elements.{is_white, about_of, is_held}
use Rattle.model_page.specs.Parts.{Parts, Ended, Words, Note, Group, Single, Parent, about_in, is_shared, with_held, parts_of, source_of}
use Rattle.model_page.specs.Pieces.{SourceSpan}
use Rattle.model_page.specs.Convert.{element_source}
use Rattle.model_page.specs.PageItems.{slice, Opened, page_opened, opened_forest, opened_body, page_made}
use Rattle.model_page_law.specs.Spans.{IsWholeChars, IsPart, BodyIsCut, SpansAreParts}
use Rattle.model_page_law.proofs.SourceLemmas.{Prefix, parts_of-source}
use Rattle.model_page_law.proofs.PartsUtf8.{PartsUtf8, PartsUtf8-parts_of}
use Rattle.model_page_law.proofs.PageRefers.{after_byte}
use Rattle.model_page_law.proofs.BodyUtf8.{body_cut, start-ends}
use Rattle.model_page_law.proofs.KeptLemmas.{cut}
use Rattle.model_page_law.proofs.SpanLemmas.{IsBetween, AreBetween, AreCut, Ranged-in_flow}

-- ---- sources aren't empty

-- groups, and elements without children
abbrev AreSome : Parts → Type 0
AreSome Ended = Unit {0}
AreSome (Words text later) = AreSome later
AreSome (Note text later) = AreSome later
AreSome (Group nodes later) = (0 < length (spelling nodes)) × AreSome later
AreSome (Single name attrs source later) = (0 < length source) × AreSome later
AreSome (Parent name attrs children later) = AreSome children × AreSome later

chosen : (c : Bool) (a b : Parts) → AreSome a → AreSome b → AreSome (if c then a else b)
chosen true a b f g = f
chosen false a b f g = g

-- an element of this source before nodes
led : (element : Forest → Forest) (source : List ℕ) → Prefix element source → 0 < length source → (nodes : Forest) → 0 < length (spelling (element nodes))
led element source h some nodes = omega (arith, some, ap length (h nodes), length-append source (spelling nodes))

AreSome-with_held : (about : Option (List ℕ)) (element : Forest → Forest) (source : List ℕ) → Prefix element source → 0 < length source → (parts : Parts) → AreSome parts → AreSome (with_held about element parts)
AreSome-with_held about element source h s Ended p = (led element source h s Nothing, p)
AreSome-with_held about element source h s (Words t Ended) p = (led element source h s Nothing, p)
AreSome-with_held about element source h s (Words t (Words u later)) p = (led element source h s Nothing, p)
AreSome-with_held about element source h s (Words t (Note u later)) p = (led element source h s Nothing, p)
AreSome-with_held about element source h s (Words t (Group nodes later)) p =
    chosen (is_white t && is_shared about (about_in nodes)) _ _ (led element source h s (Text t nodes), p.1) (led element source h s Nothing, p)
AreSome-with_held about element source h s (Words t (Single name attrs text later)) p = (led element source h s Nothing, p)
AreSome-with_held about element source h s (Words t (Parent name attrs children later)) p = (led element source h s Nothing, p)
AreSome-with_held about element source h s (Note t later) p = (led element source h s Nothing, p)
AreSome-with_held about element source h s (Group nodes later) p =
    chosen (is_shared about (about_in nodes)) _ _ (led element source h s nodes, p.1) (led element source h s Nothing, p)
AreSome-with_held about element source h s (Single name attrs text later) p = (led element source h s Nothing, p)
AreSome-with_held about element source h s (Parent name attrs children later) p = (led element source h s Nothing, p)

AreSome-parts_of : (f : Forest) → AreSome (parts_of f)
AreSome-parts_of Nothing = tt
AreSome-parts_of (Text text rest) = AreSome-parts_of rest
AreSome-parts_of (Remark text rest) = AreSome-parts_of rest
AreSome-parts_of (Void name attrs slash rest) =
    let some : 0 < length (start_text name attrs slash) = omega arith in
    chosen (is_held attrs) _ _
    (AreSome-with_held (about_of attrs) (Void name attrs slash) (start_text name attrs slash) (λ nodes. refl) some (parts_of rest) (AreSome-parts_of rest))
    (some, AreSome-parts_of rest)
AreSome-parts_of (RawElement name attrs text rest) =
    let some : 0 < length (start_text name attrs false ++ text ++ end_text name) = omega arith in
    chosen (is_held attrs) _ _
    (AreSome-with_held (about_of attrs) (RawElement name attrs text) (start_text name attrs false ++ text ++ end_text name) (λ nodes. refl) some (parts_of rest) (AreSome-parts_of rest))
    (some, AreSome-parts_of rest)
AreSome-parts_of (Element name attrs children rest) =
    chosen (is_held attrs) _ _
    (AreSome-with_held (about_of attrs) (Element name attrs children) (start_text name attrs false ++ spelling children ++ end_text name) (λ nodes. refl) (omega arith) (parts_of rest) (AreSome-parts_of rest))
    (AreSome-parts_of children, AreSome-parts_of rest)

-- ---- cuts

source-utf8 : (parts : Parts) → PartsUtf8 parts → IsUtf8 (source_of parts)
source-utf8 Ended p = IsUtf8-nil
source-utf8 (Words text later) p = IsUtf8-append text (source_of later) p.0 (source-utf8 later p.1)
source-utf8 (Note text later) p = IsUtf8-append (token_text (Comment text)) (source_of later) p.0 (source-utf8 later p.1)
source-utf8 (Group nodes later) p = IsUtf8-append (spelling nodes) (source_of later) p.0 (source-utf8 later p.1)
source-utf8 (Single name attrs source later) p = IsUtf8-append source (source_of later) p.0 (source-utf8 later p.1)
source-utf8 (Parent name attrs children later) p = IsUtf8-append (element_source name attrs children) (source_of later) p.0 (source-utf8 later p.2)

-- what follows a UTF-8 text in a UTF-8 text
suffix-utf8 : (a b : List ℕ) → IsUtf8 (a ++ b) → IsUtf8 a → IsUtf8 b
suffix-utf8 a b u v =
    subst IsUtf8 (drop-append_seam a b)
    (IsUtf8-drop (a ++ b) (length a) u (IsCharBoundary-from_take (a ++ b) (length a) u (omega (arith, length-append a b)) (subst IsUtf8 (sym (take-append_seam a b)) v)))

tag-regrouped : (a b c : List ℕ) → (a ++ (62 ∷ [])) ++ b ++ c ≡ a ++ (62 ∷ (b ++ c))
tag-regrouped a b c = simp append_assoc

-- the end tag of an element
end-utf8 : (name : List ℕ) (attrs : List Spelled) (children : Parts) → IsUtf8 (element_source name attrs children) → IsUtf8 (source_of children) → IsUtf8 (end_text name)
end-utf8 name attrs children u v =
    let t = start-ends name attrs false in
    let whole : element_source name attrs children ≡ t.0 ++ (62 ∷ (source_of children ++ end_text name)) = ap (λ s. s ++ source_of children ++ end_text name) t.1 ∙ tag-regrouped t.0 (source_of children) (end_text name) in
    suffix-utf8 (source_of children) (end_text name) (after_byte t.0 (source_of children ++ end_text name) 62 (omega arith) (subst IsUtf8 whole u)) v

ahead : (prefix part rest suffix : List ℕ) → prefix ++ ((part ++ rest) ++ suffix) ≡ (prefix ++ part) ++ (rest ++ suffix)
ahead prefix part rest suffix = simp append_assoc

inside : (prefix start children end rest suffix : List ℕ) → prefix ++ ((start ++ children ++ end ++ rest) ++ suffix) ≡ (prefix ++ start) ++ (children ++ (end ++ (rest ++ suffix)))
inside prefix start children end rest suffix = simp append_assoc

-- a cut before UTF-8
cut-before : (page prefix part more : List ℕ) → page ≡ (prefix ++ part) ++ more → IsUtf8 more → IsCharBoundary page (length prefix + length part)
cut-before page prefix part more e u = subst (IsCharBoundary page) (length-append prefix part) (IsCharBoundary-at_seam page (prefix ++ part) more e u)

-- what stands after a position of the page, where this follows it
abbrev CutFrom : List ℕ → List ℕ → Parts → Type 0
CutFrom page suffix parts = (prefix : List ℕ) → page ≡ prefix ++ (source_of parts ++ suffix) → AreCut (IsCharBoundary page) (length prefix) parts

-- after a part
rest-cut : (page prefix part suffix : List ℕ) (later : Parts) → page ≡ prefix ++ ((part ++ source_of later) ++ suffix) → IsUtf8 (source_of later) → IsUtf8 suffix → CutFrom page suffix later →
    IsCharBoundary page (length prefix + length part) × AreCut (IsCharBoundary page) (length prefix + length part) later
rest-cut page prefix part suffix later e p u rec =
    let whole : page ≡ (prefix ++ part) ++ (source_of later ++ suffix) = e ∙ ahead prefix part (source_of later) suffix in (
      cut-before page prefix part (source_of later ++ suffix) whole (IsUtf8-append (source_of later) suffix p u),
      subst (λ n. AreCut (IsCharBoundary page) n later) (length-append prefix part) (rec (prefix ++ part) whole),
    )

-- after a start tag
inner-cut : (page prefix : List ℕ) (name : List ℕ) (attrs : List Spelled) (children later : Parts) (suffix : List ℕ) → page ≡ prefix ++ (source_of (Parent name attrs children later) ++ suffix) →
    IsUtf8 (element_source name attrs children) → IsUtf8 (source_of children) → IsUtf8 (source_of later) → IsUtf8 suffix → CutFrom page (end_text name ++ (source_of later ++ suffix)) children →
    IsCharBoundary page (length prefix + length (start_text name attrs false)) × AreCut (IsCharBoundary page) (length prefix + length (start_text name attrs false)) children
inner-cut page prefix name attrs children later suffix e p q r u rec =
    let start : List ℕ = start_text name attrs false in
    let more : List ℕ = end_text name ++ (source_of later ++ suffix) in
    let whole : page ≡ (prefix ++ start) ++ (source_of children ++ more) = e ∙ inside prefix start (source_of children) (end_text name) (source_of later) suffix in
    let m : IsUtf8 more = IsUtf8-append (end_text name) (source_of later ++ suffix) (end-utf8 name attrs children p q) (IsUtf8-append (source_of later) suffix r u) in (
      cut-before page prefix start (source_of children ++ more) whole (IsUtf8-append (source_of children) more q m),
      subst (λ n. AreCut (IsCharBoundary page) n children) (length-append prefix start) (rec (prefix ++ start) whole),
    )

AreCut-from : (page suffix : List ℕ) (parts : Parts) → PartsUtf8 parts → AreSome parts → IsUtf8 suffix → CutFrom page suffix parts
AreCut-from page suffix Ended p s u prefix e = tt
AreCut-from page suffix (Words text later) p s u prefix e =
    rest-cut page prefix text suffix later e (source-utf8 later p.1) u (AreCut-from page suffix later p.1 s u)
AreCut-from page suffix (Note text later) p s u prefix e =
    rest-cut page prefix (token_text (Comment text)) suffix later e (source-utf8 later p.1) u (AreCut-from page suffix later p.1 s u)
AreCut-from page suffix (Group nodes later) p s u prefix e =
    let r = rest-cut page prefix (spelling nodes) suffix later e (source-utf8 later p.1) u (AreCut-from page suffix later p.1 s.1 u) in
    (s.0, r.0, r.1)
AreCut-from page suffix (Single name attrs source later) p s u prefix e =
    let r = rest-cut page prefix source suffix later e (source-utf8 later p.1) u (AreCut-from page suffix later p.1 s.1 u) in
    (s.0, r.0, r.1)
AreCut-from page suffix (Parent name attrs children later) p s u prefix e =
    let more : List ℕ = end_text name ++ (source_of later ++ suffix) in
    let q = source-utf8 children p.1 in
    let v = source-utf8 later p.2 in
    let m : IsUtf8 more = IsUtf8-append (end_text name) (source_of later ++ suffix) (end-utf8 name attrs children p.0 q) (IsUtf8-append (source_of later) suffix v u) in
    let i = inner-cut page prefix name attrs children later suffix e p.0 q v u (AreCut-from page more children p.1 s.0 m) in
    let r = rest-cut page prefix (element_source name attrs children) suffix later e v u (AreCut-from page suffix later p.2 s.1 u) in
    (i.0, i.1, r.0, r.1)

-- ---- an opened page

part_of : (page : List ℕ) (body s : SourceSpan) → IsBetween (IsCharBoundary page) body.from body.to s → IsPart page body s
part_of page body s b = record { cut = record { rises = omega (arith, b.some); first = b.first; last = b.last }; some = b.some; from = b.from; to = b.to }

parts_of_body : (page : List ℕ) (body : SourceSpan) (spans : List SourceSpan) → AreBetween (IsCharBoundary page) body.from body.to spans → All (IsPart page body) spans
parts_of_body page body [] h k d l = absurd (omega arith)
parts_of_body page body (s ∷ spans) h zero d l = part_of page body s h.0
parts_of_body page body (s ∷ spans) h (suc k) d l = parts_of_body page body spans h.1 k d (omega (arith, l))

made-between : (page : List ℕ) (from to : ℕ) (f : Forest) → IsUtf8 page → IsCharBoundary page from → IsCharBoundary page to → from ≤ to → to ≤ length page →
    spelling f ≡ slice page from to → is_forest 200 f ≡ true → AreBetween (IsCharBoundary page) from to (page_made from f).later.spans
made-between page from to f u first last le fits e h =
    let parts : Parts = parts_of f in
    let prefix : List ℕ = take from page in
    let source : source_of parts ≡ slice page from to = parts_of-source f ∙ e in
    let body : IsUtf8 (spelling f) = subst IsUtf8 (sym e) (IsUtf8-between page from to u le first last) in
    let at : length prefix ≡ from = length-take-le from page (omega (arith, le, fits)) in
    let long : length (source_of parts) ≡ to - from = ap length source ∙ length-take-le (to - from) (drop from page) (let d = length-drop from page in omega (arith, d, le, fits)) in
    let whole : page ≡ prefix ++ (source_of parts ++ drop to page) = sym (cut page from to le) ∙ ap (λ s. prefix ++ (s ++ drop to page)) (sym source) in
    let cuts = AreCut-from page (drop to page) parts (PartsUtf8-parts_of f (law_forest_utf8 200 f h body)) (AreSome-parts_of f) (IsUtf8-drop page to u last) prefix whole in
    Ranged-in_flow (IsCharBoundary page) to Root (refl, refl, refl, refl) parts (record { at = from; owners = []; editable = true }) (omega (arith, long, le)) first
    (subst (λ n. AreCut (IsCharBoundary page) n parts) at cuts)

-- what is said of an opened page
record Cutting (o : Opened) : Type 0 where
  body : IsWholeChars o.page o.body
  spans : All (IsPart o.page o.body) o.spans

forest-cutting : (page : List ℕ) (from to : ℕ) → IsUtf8 page → body_at page ≡ Ok (from, to) → (r : Option Forest) → forest_of (slice page from to) ≡ r → (o : Opened) →
    opened_forest page (record { from = from; to = to }) r ≡ Some o → Cutting o
forest-cutting page from to u b None e o h = cc
forest-cutting page from to u b (Some f) e o h =
    let inside = law_body_inside page from to b in
    let c = body_cut page from to u b in
    let s = law_reads_right (slice page from to) f e in
    let body : SourceSpan = record { from = from; to = to } in
    let first : Opened = page_opened page body (page_made from f) in
    let is : first ≡ o = let p : ◌≡◌ {A = Option Opened} (Some first) (Some o) = h in ap (λ x. unwrap_or x first) p in
    subst Cutting is (record {
      body = record { rises = inside.0; first = c.0; last = c.1 };
      spans = parts_of_body page body first.spans (made-between page from to f u c.0 c.1 inside.0 inside.1 s.0 s.1);
    })

body-cutting : (page : List ℕ) → IsUtf8 page → (body : Result (ℕ × ℕ) ScanFault) → body_at page ≡ body → (o : Opened) → opened_body page body ≡ Some o → Cutting o
body-cutting page u (Err f) b o h = cc
body-cutting page u (Ok body) b o h = forest-cutting page body.0 body.1 u b (forest_of (slice page body.0 body.1)) refl o h

pub body_is_cut : BodyIsCut
body_is_cut page o u h = (body-cutting page u (body_at page) refl o h).body

pub spans_are_parts : SpansAreParts
spans_are_parts page o u h = (body-cutting page u (body_at page) refl o h).spans
