-- Where a text may be cut: after a tag, and before one. What is read stands in its text, and so do
-- the children of an element.
use Rattle.std.proofs.Common.{◌≡◌, ℕ, zero, suc, ◌+◌, ◌<◌, ◌≤◌, Bool, true, false, not, ◌&&◌, List, [], ◌∷◌, ◌++◌, length, drop, get_or, refl, sym, ap, ◌∙◌, subst, arith, append_assoc, append-nil, IsUtf8, IsCharBoundary, if◌then◌else◌, codes}
use Rattle.std.proofs.lemmas.List.{length-append, length-drop}
use Rattle.std.proofs.Math.Seq.{drop-append_seam}
use Rattle.std.proofs.lemmas.Str.{IsUtf8-nil, IsUtf8-drop, IsCharBoundary-before_ascii, IsCharBoundary-after_ascii}
use Rattle.model_spelling.specs.Grammar.{Attr, Comment, token_text, start_text, end_text, attr_text, is_text, is_start, is_verbatim, comment_close, comment_open}
use Rattle.std.specs.List.{flat_map}
use Rattle.ve_kinds.specs.Tags.{is_void, is_raw}
use Rattle.model_spelling.specs.Forest.{Forest, Nothing, Text, Remark, Void, RawElement, Element, Spells, starts_with_text, spelling, is_forest, then_forest}
use Rattle.model_spelling.specs.ForestNodes.{ForestNode, forest_nodes, forest_size}
use Rattle.model_spelling.proofs.AttrReading.{and_left, and_right}
use Rattle.model_spelling.proofs.ForestLaws.{spelling_then, not_true}
use Rattle.model_spelling.proofs.Back.{element_parts, raw_parts}
use Rattle.ve_html_tree.specs.Nodes.{ShowNodes}
use Rattle.ve_html_tree.specs.declared.node.Node.{Node}
use Rattle.ve_classify.proofs.StandLemmas.{first_shown, stands_children}
use Rattle.ve_classify.proofs.LeadLemmas.{whole_stands}
use Rattle.ve_classify.specs.Places.{IsAtTag, StandsIn}
use Rattle.ve_classify.specs.PartLaws.{ForestStandsIn, ChildrenStandIn, ChildrenReach}
use Rattle.ve_classify.proofs.PartSource.{regroup, after_start}

-- ---- cuts

-- the byte after the first ones
at_seam : (p : List ℕ) (b : ℕ) (s : List ℕ) → get_or (p ++ b ∷ s) (length p) 0 ≡ b
at_seam [] b s = refl
at_seam (x ∷ p) b s = at_seam p b s

-- before a tag
pub utf8_before : (p s : List ℕ) → IsAtTag s → IsUtf8 (p ++ s) → IsUtf8 s
utf8_before p [] o u = IsUtf8-nil
utf8_before p (b ∷ s) o u =
    let low : get_or (p ++ b ∷ s) (length p) 0 < 128 = omega (arith, at_seam p b s, o) in
    let cut = IsCharBoundary-before_ascii (p ++ b ∷ s) (length p) (omega (arith, length-append p (b ∷ s))) low in
    subst IsUtf8 (drop-append_seam p (b ∷ s)) (IsUtf8-drop (p ++ b ∷ s) (length p) u cut)

-- after a `>`
pub utf8_after : (p s : List ℕ) → IsUtf8 ((p ++ 62 ∷ []) ++ s) → IsUtf8 s
utf8_after p s u =
    let whole : (p ++ 62 ∷ []) ++ s ≡ p ++ 62 ∷ s = append_assoc p (62 ∷ []) s in
    let v : IsUtf8 (p ++ 62 ∷ s) = subst IsUtf8 whole u in
    let low : get_or (p ++ 62 ∷ s) (length p) 0 < 128 = omega (arith, at_seam p 62 s) in
    let cut = IsCharBoundary-after_ascii (p ++ 62 ∷ s) (length p) v (omega (arith, length-append p (62 ∷ s))) low in
    let e : length (p ++ 62 ∷ []) ≡ length p + 1 = length-append p (62 ∷ []) in
    let d : drop (length p + 1) (p ++ 62 ∷ s) ≡ s = ap (λ (i : ℕ). drop i (p ++ 62 ∷ s)) (sym e) ∙ ap (drop (length (p ++ 62 ∷ []))) (sym whole) ∙ drop-append_seam (p ++ 62 ∷ []) s in
    subst IsUtf8 d (IsUtf8-drop (p ++ 62 ∷ s) (length p + 1) v cut)

-- a text that ends with `>`
record Closes (t : List ℕ) : Type 0 where
  inner : List ℕ
  is : t ≡ inner ++ 62 ∷ []

closed : (t s : List ℕ) → Closes t → IsUtf8 (t ++ s) → IsUtf8 s
closed t s c u = utf8_after c.inner s (subst (λ (x : List ℕ). IsUtf8 (x ++ s)) c.is u)

closes_after : (a t : List ℕ) → Closes t → Closes (a ++ t)
closes_after a t c = record { inner = a ++ c.inner; is = ap (λ (x : List ℕ). a ++ x) c.is ∙ sym (append_assoc a c.inner (62 ∷ [])) }

end_closes : (name : List ℕ) → Closes (end_text name)
end_closes name = record { inner = 60 ∷ 47 ∷ name; is = refl }

slash_closes : (slash : Bool) → Closes (if slash then codes "/>" else codes ">")
slash_closes true = record { inner = 47 ∷ []; is = refl }
slash_closes false = record { inner = []; is = refl }

start_closes : (name : List ℕ) (attrs : List Attr) (slash : Bool) → Closes (start_text name attrs slash)
start_closes name attrs slash = closes_after (60 ∷ name ++ flat_map attr_text attrs) (if slash then codes "/>" else codes ">") (slash_closes slash)

comment_closes : (text : List ℕ) → Closes (token_text (Comment text))
comment_closes text = closes_after (comment_open ++ text) comment_close (record { inner = 45 ∷ 45 ∷ []; is = refl })

-- siblings that begin with no text begin with a tag, or there are none
at_tag : (f : Forest) (following : List ℕ) → starts_with_text f ≡ false → IsAtTag following → IsAtTag (spelling f ++ following)
at_tag Nothing following e o = o
at_tag (Text text rest) following e o = absurd cc
at_tag (Remark text rest) following e o = refl
at_tag (Void name attrs slash rest) following e o = refl
at_tag (RawElement name attrs text rest) following e o = refl
at_tag (Element name attrs children rest) following e o = refl

-- after some of the siblings the text may be cut
pub utf8_later : (room : ℕ) (k f : Forest) (following : List ℕ) → is_forest room (then_forest k f) ≡ true → IsAtTag following → IsUtf8 (spelling (then_forest k f) ++ following) → IsUtf8 (spelling f ++ following)
utf8_later room Nothing f following e o u = u
utf8_later room (Text text k) f following e o u =
    let front = and_left (is_text text && not (starts_with_text (then_forest k f))) (is_forest room (then_forest k f)) e in
    let no_text = not_true (starts_with_text (then_forest k f)) (and_right (is_text text) (not (starts_with_text (then_forest k f))) front) in
    let later = utf8_before text (spelling (then_forest k f) ++ following) (at_tag (then_forest k f) following no_text o) (subst IsUtf8 (append_assoc text (spelling (then_forest k f)) following) u) in
    utf8_later room k f following (and_right (is_text text && not (starts_with_text (then_forest k f))) (is_forest room (then_forest k f)) e) o later
utf8_later room (Remark text k) f following e o u =
    utf8_later room k f following (and_right (is_verbatim comment_close text) (is_forest room (then_forest k f)) e) o
    (closed (token_text (Comment text)) (spelling (then_forest k f) ++ following) (comment_closes text) (subst IsUtf8 (append_assoc (token_text (Comment text)) (spelling (then_forest k f)) following) u))
utf8_later zero (Void name attrs slash k) f following e o u = absurd cc
utf8_later (suc room) (Void name attrs slash k) f following e o u =
    utf8_later (suc room) k f following (and_right (is_void name && is_start name attrs slash) (is_forest (suc room) (then_forest k f)) e) o
    (closed (start_text name attrs slash) (spelling (then_forest k f) ++ following) (start_closes name attrs slash) (subst IsUtf8 (append_assoc (start_text name attrs slash) (spelling (then_forest k f)) following) u))
utf8_later zero (RawElement name attrs text k) f following e o u = absurd cc
utf8_later (suc room) (RawElement name attrs text k) f following e o u =
    let source : List ℕ = start_text name attrs false ++ text ++ end_text name in
    utf8_later (suc room) k f following (raw_parts room name attrs text (then_forest k f) e).rest_is o
    (closed source (spelling (then_forest k f) ++ following) (closes_after (start_text name attrs false ++ text) (end_text name) (end_closes name)) (subst IsUtf8 (append_assoc source (spelling (then_forest k f)) following) u))
utf8_later zero (Element name attrs children k) f following e o u = absurd cc
utf8_later (suc room) (Element name attrs children k) f following e o u =
    let source : List ℕ = start_text name attrs false ++ spelling children ++ end_text name in
    utf8_later (suc room) k f following (element_parts room name attrs children (then_forest k f) e).rest_is o
    (closed source (spelling (then_forest k f) ++ following) (closes_after (start_text name attrs false ++ spelling children) (end_text name) (end_closes name)) (subst IsUtf8 (append_assoc source (spelling (then_forest k f)) following) u))

-- ---- what stands in a text

pub forest_stands : ForestStandsIn
forest_stands = λ text nodes f u s shown. record {
  stands = whole_stands f nodes shown s.allowed;
  following = [];
  text_is = s.text_is ∙ sym (append-nil (spelling f));
  ends = tt;
  within = omega arith;
  utf8 = u;
}

-- the text after a start tag
pub children_in : (text : List ℕ) (at : ℕ) (name : List ℕ) (attrs : List Attr) (children rest : Forest) (following : List ℕ) → drop at text ≡ spelling (Element name attrs children rest) ++ following →
    drop (at + length (start_text name attrs false)) text ≡ spelling children ++ (end_text name ++ spelling rest ++ following)
children_in text at name attrs children rest following e =
    let start : List ℕ = start_text name attrs false in
    after_start text start (spelling children ++ (end_text name ++ spelling rest ++ following)) at (e ∙ regroup start (spelling children) (end_text name) (spelling rest) following)

pub children_stand : ChildrenStandIn
children_stand = λ text nodes n at name attrs children rest more s.
    let start : List ℕ = start_text name attrs false in
    let tail : List ℕ = end_text name ++ spelling rest ++ s.following in
    let whole : drop at text ≡ start ++ (spelling children ++ tail) = s.text_is ∙ regroup start (spelling children) (end_text name) (spelling rest) s.following in
    let inside = children_in text at name attrs children rest s.following s.text_is in
    let long : length (drop at text) ≡ length start + length (spelling children ++ tail) = ap length whole ∙ length-append start (spelling children ++ tail) in (
      _,
      record {
        stands = stands_children nodes n at name attrs children rest more s.stands;
        following = tail;
        text_is = inside;
        ends = refl;
        within = within_drop text at (length start) s.within (omega (arith, long));
        utf8 = subst IsUtf8 (sym inside) (closed start (spelling children ++ tail) (start_closes name attrs false) (subst IsUtf8 whole s.utf8));
      },
    )
  where
    within_drop : (text : List ℕ) (at more : ℕ) → at ≤ length text → more ≤ length (drop at text) → at + more ≤ length text
    within_drop text at more le h = omega (arith, length-drop at text)

pub children_reach : ChildrenReach
children_reach = λ text nodes n at name attrs children rest more node s is.
    let row = first_shown nodes n _ _ s.stands.shown in
    let same : row.node ≡ node = cc (row.is, is) in
    (omega (arith, ap (λ (x : Node). x.next) same, row.shows.next), omega (arith, ap (λ (x : Node). x.inner.to) same, row.shows.inner_to))
