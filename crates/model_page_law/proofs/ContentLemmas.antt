-- Content that is written is read as that content: the forest that the writer's tags make, level by
-- level.
use Rattle.std.proofs.Common.{◌≡◌, ℕ, zero, suc, ◌+◌, ◌≤◌, Bool, true, false, if◌then◌else◌, List, [], ◌∷◌, ◌++◌, length, length-append, take, take_all, drop, map, None, refl, sym, ap, ◌∙◌, subst, append_assoc, arith}
use Rattle.std.proofs.lemmas.List.{append-nil}
use Rattle.std.specs.Prelude.{encode_utf8_all}
use Rattle.std.specs.Str.{chars}
use Rattle.std.specs.Char.{IsScalar}
use Rattle.model_spelling.specs.Forest.{Forest, Nothing, Text, Remark, Void, RawElement, Element}
use Rattle.model_spelling.specs.Grammar.{start_text}
use Rattle.model_spelling.specs.Written.{canon_attrs, decoded_from, attr_bytes}
use Rattle.ve_base.specs.declared.marks.Mark.{Mark}
use Rattle.model_items.specs.declared.plain_item.PlainItem.{PlainItem}
use Rattle.model_items.specs.declared.plain_item.PlainItem.TheVariants.{Char, Opening, Closing}
use Rattle.model_items.specs.Same.{mark_same}
use Rattle.model_page.specs.Elements.{is_held}
use Rattle.model_page.specs.Parts.{Parts, Ended, Single, Parent, parts_of}
use Rattle.model_page.specs.Tags.{tag_of}
use Rattle.model_page.specs.Fit.{Content, Annotation, Leaf, has_child, fit_of}
use Rattle.ve_kinds.specs.Table.{is_inline_leaf}
use Rattle.model_page.specs.Heads.{characters, attrs_of, head_with}
use Rattle.model_page.specs.Pieces.{Progress, past, leaf, source_span, in_run, Made}
use Rattle.model_page.specs.Convert.{inside_of, element_source, element_made, leaf_made, made_of}
use Rattle.model_page_write.specs.Nodes.{Start, Nodes, Empty, Letter, Node}
use Rattle.model_page_write.specs.Written.{letter, common_count}
use Rattle.model_page_law.proofs.FormedNodes.{MarksMean}

-- ---- the forest that content is written as

-- siblings inside of the innermost open mark, and those after each open mark, from the inside out
pub record Levels : Type 0 where
  pub here : Forest
  pub outer : List Forest

abbrev pub with_text : List ℕ → Forest → Forest
with_text text (Text t rest) = Text (text ++ t) rest
with_text text forest = Text text forest

abbrev pub mark_element : Mark → Forest → Forest → Forest
mark_element m inside rest = Element (encode_utf8_all m.tag) (canon_attrs (map attr_bytes m.attrs)) inside rest

abbrev pub wrapped : Mark → Forest → List Forest → Levels
wrapped m here [] = record { here = mark_element m here Nothing; outer = [] }
wrapped m here (o ∷ outer) = record { here = mark_element m here o; outer = outer }

-- these marks are opened before, the first outermost
abbrev pub opens : List Mark → Levels → Levels
opens [] e = e
opens (m ∷ ms) e = let inner = opens ms e in wrapped m inner.here inner.outer

-- these marks are closed before, the first outermost
abbrev pub closes : List Mark → Levels → Levels
closes [] e = e
closes (m ∷ ms) e = closes ms (record { here = Nothing; outer = e.here ∷ e.outer })

abbrev pub changes : List Mark → List Mark → Levels → Levels
changes opened marks e = let n = common_count opened marks in closes (drop n opened) (opens (drop n marks) e)

abbrev pub leaf_element : Start → Forest → Forest
leaf_element s rest = Void (tag_of s.kind) (canon_attrs (map attr_bytes s.head.attrs)) false rest

abbrev pub content_levels : List Mark → Nodes → Levels
content_levels opened Empty = closes opened (record { here = Nothing; outer = [] })
content_levels opened (Letter c marks later) =
    let e = content_levels marks later in changes opened marks (record { here = with_text (letter c) e.here; outer = e.outer })
content_levels opened (Node s inside pre later) =
    let e = content_levels s.marks later in changes opened s.marks (record { here = leaf_element s e.here; outer = e.outer })

-- ---- what content reads as

-- the forest reads as these items, in content inside of these marks
abbrev pub Reads : List Mark → Forest → List PlainItem → Type 0
Reads ms f xs = (w : Progress) → (made_of (Content ms) (parts_of f) w).run.items ≡ xs

-- what the proof needs of a mark: it is an annotation, it is not held, and its spelling reads as it
pub record GoodMark (m : Mark) : Type 0 where
  pub fits : (ms : List Mark) (children : Parts) → has_child children ≡ true → fit_of (Content ms) (encode_utf8_all m.tag) children ≡ Annotation
  pub free : is_held (canon_attrs (map attr_bytes m.attrs)) ≡ false
  pub same : record { tag = chars (encode_utf8_all m.tag); attrs = attrs_of (canon_attrs (map attr_bytes m.attrs)) } ≡ m

pub record GoodLeaf (s : Start) : Type 0 where
  pub fits : (ms : List Mark) → fit_of (Content ms) (tag_of s.kind) Ended ≡ Leaf s.kind
  pub free : is_held (canon_attrs (map attr_bytes s.head.attrs)) ≡ false
  pub inline : is_inline_leaf s.kind ≡ true
  pub same : head_with (canon_attrs (map attr_bytes s.head.attrs)) ≡ s.head

pub parts_if_false : (c : Bool) (a b : Parts) → c ≡ false → (if c then a else b) ≡ b
parts_if_false true a b e = cc
parts_if_false false a b e = refl

parts_of-mark : (m : Mark) (inside rest : Forest) → GoodMark m →
    parts_of (mark_element m inside rest) ≡ Parent (encode_utf8_all m.tag) (canon_attrs (map attr_bytes m.attrs)) (parts_of inside) (parts_of rest)
parts_of-mark m inside rest g = parts_if_false (is_held (canon_attrs (map attr_bytes m.attrs))) _ _ g.free

Reads-nothing : (ms : List Mark) → Reads ms Nothing []
Reads-nothing ms w = refl

Reads-mark : (m : Mark) (ms : List Mark) (inside rest : Forest) (xs ys : List PlainItem) → GoodMark m → has_child (parts_of inside) ≡ true →
    Reads (ms ++ m ∷ []) inside xs → Reads ms rest ys → Reads ms (mark_element m inside rest) (xs ++ ys)
Reads-mark m ms inside rest xs ys g child f h w =
    let name : List ℕ = encode_utf8_all m.tag in
    let attrs = canon_attrs (map attr_bytes m.attrs) in
    let source : List ℕ = element_source name attrs (parts_of inside) in
    let w1 : Progress = inside_of w name attrs in
    let inner = made_of (Content (ms ++ record { tag = chars name; attrs = attrs_of attrs } ∷ [])) (parts_of inside) w1 in
    let w2 : Progress = past w source inner.owners in
    ap (λ p. (made_of (Content ms) p w).run.items) (parts_of-mark m inside rest g)
    ∙ ap (λ t. (element_made (Content ms) name attrs source (λ a. made_of a (parts_of inside)) (made_of (Content ms) (parts_of rest)) w t).run.items) (g.fits ms (parts_of inside) child)
    ∙ ap (λ n. (made_of (Content (ms ++ n ∷ [])) (parts_of inside) w1).run.items ++ (made_of (Content ms) (parts_of rest) w2).run.items) g.same
    ∙ (λ i. f w1 i ++ h w2 i)

-- a character before text or of anything else
abbrev pub LettersBack : Type 0
LettersBack = (c : ℕ) (t : List ℕ) → IsScalar c → characters (letter c ++ t) ≡ c ∷ characters t

pub characters-nil : characters [] ≡ []
unfolding chars decoded_from
characters-nil = refl

letter-alone : LettersBack → (c : ℕ) → IsScalar c → characters (letter c) ≡ c ∷ []
letter-alone suffix c is = ap characters (sym (append-nil (letter c))) ∙ suffix c [] is ∙ ap (λ cs. c ∷ cs) characters-nil

same_place : (w : Progress) (a t : List ℕ) → past (past w a []) t [] ≡ past w (a ++ t) []
same_place w a t =
    let e : w.at + length a + length t ≡ w.at + length (a ++ t) = let l = length-append a t in omega (arith, l) in
    let f : w.owners ++ [] ++ [] ≡ w.owners ++ [] = append-nil (w.owners ++ []) in
    λ i. record { at = e i; owners = f i; editable = w.editable }

Reads-first : LettersBack → (c : ℕ) → IsScalar c → (ms : List Mark) (f : Forest) (xs : List PlainItem) → Reads ms f xs → Reads ms (Text (letter c) f) (Char c ms ∷ xs)
Reads-first suffix c is ms f xs h w =
    ap (λ cs. map (λ d. Char d ms) cs ++ (made_of (Content ms) (parts_of f) (past w (letter c) [])).run.items) (letter-alone suffix c is)
    ∙ ap (λ ys. Char c ms ∷ ys) (h (past w (letter c) []))

pub Reads-text : LettersBack → (c : ℕ) → IsScalar c → (ms : List Mark) (f : Forest) (xs : List PlainItem) → Reads ms f xs → Reads ms (with_text (letter c) f) (Char c ms ∷ xs)
Reads-text suffix c is ms (Text t rest) xs h w =
    ap (λ cs. map (λ d. Char d ms) cs ++ (made_of (Content ms) (parts_of rest) (past w (letter c ++ t) [])).run.items) (suffix c t is)
    ∙ ap (λ p. Char c ms ∷ map (λ d. Char d ms) (characters t) ++ (made_of (Content ms) (parts_of rest) p).run.items) (sym (same_place w (letter c) t))
    ∙ ap (λ ys. Char c ms ∷ ys) (h (past w (letter c) []))
Reads-text suffix c is ms Nothing xs h w = Reads-first suffix c is ms Nothing xs h w
Reads-text suffix c is ms (Remark text rest) xs h w = Reads-first suffix c is ms (Remark text rest) xs h w
Reads-text suffix c is ms (Void name attrs slash rest) xs h w = Reads-first suffix c is ms (Void name attrs slash rest) xs h w
Reads-text suffix c is ms (RawElement name attrs text rest) xs h w = Reads-first suffix c is ms (RawElement name attrs text rest) xs h w
Reads-text suffix c is ms (Element name attrs children rest) xs h w = Reads-first suffix c is ms (Element name attrs children rest) xs h w

made_if_true : (c : Bool) (a b : Made) → c ≡ true → (if c then a else b) ≡ a
made_if_true true a b e = refl
made_if_true false a b e = cc

-- an opening as it is read: without origin, not generated
abbrev pub leaf_items : Start → List PlainItem → List PlainItem
leaf_items s xs = Opening s.kind s.head s.marks [] None false ∷ Closing s.kind [] ∷ xs

pub Reads-leaf : (s : Start) (f : Forest) (xs : List PlainItem) → GoodLeaf s → Reads s.marks f xs → Reads s.marks (leaf_element s f) (leaf_items s xs)
Reads-leaf s f xs g h w =
    let name : List ℕ = tag_of s.kind in
    let attrs = canon_attrs (map attr_bytes s.head.attrs) in
    let source : List ℕ = start_text name attrs false in
    let later : Progress → Made = made_of (Content s.marks) (parts_of f) in
    let beyond : Progress = past w source [] in
    ap (λ p. (made_of (Content s.marks) p w).run.items) (parts_if_false (is_held attrs) _ (Single name attrs source (parts_of f)) g.free)
    ∙ ap (λ t. (leaf_made (Content s.marks) attrs source later w t).run.items) (g.fits s.marks)
    ∙ ap (λ m. m.run.items) (made_if_true (is_inline_leaf s.kind) (in_run (leaf s.kind (head_with attrs) s.marks (source_span w source)) source [] (later beyond)) _ g.inline)
    ∙ ap (λ k. Opening s.kind k s.marks [] None false ∷ Closing s.kind [] ∷ (later beyond).run.items) g.same
    ∙ ap (λ ys. leaf_items s ys) (h beyond)

-- ---- levels

-- Inside of the marks ms, as many as there are outer levels, the levels read as these items.
abbrev pub ReadsLevels : List Mark → Forest → List Forest → List PlainItem → Type 0
ReadsLevels ms here [] xs = Reads [] here xs
ReadsLevels ms here (o ∷ outer) xs = (a : List PlainItem) × (b : List PlainItem) × (xs ≡ a ++ b) × Reads (take (suc (length outer)) ms) here a × ReadsLevels ms o outer b

-- only so many marks count
same_marks : (ms ns : List Mark) (here : Forest) (outer : List Forest) (xs : List PlainItem) →
    ((k : ℕ) → k ≤ length outer → take k ms ≡ take k ns) → ReadsLevels ms here outer xs → ReadsLevels ns here outer xs
same_marks ms ns here [] xs e r = r
same_marks ms ns here (o ∷ outer) xs e r = (
  r.0,
  r.1,
  r.2,
  subst (λ l. Reads l here r.0) (e (suc (length outer)) (omega arith)) r.3,
  same_marks ms ns o outer r.1 (λ k le. e k (omega (arith, le))) r.4,
)

-- at the innermost level
at_level : (ms : List Mark) (here here2 : Forest) (outer : List Forest) (xs : List PlainItem) (prefix : List PlainItem) →
    ((zs : List PlainItem) → Reads (take (length outer) ms) here zs → Reads (take (length outer) ms) here2 (prefix ++ zs)) →
    ReadsLevels ms here outer xs → ReadsLevels ms here2 outer (prefix ++ xs)
at_level ms here here2 [] xs prefix f r = f xs r
at_level ms here here2 (o ∷ outer) xs prefix f r = (
  prefix ++ r.0,
  r.1,
  ap (λ ys. prefix ++ ys) r.2 ∙ sym (append_assoc prefix r.0 r.1),
  f r.0 r.3,
  r.4,
)

-- a level is closed before
closed_level : (ms : List Mark) (here : Forest) (outer : List Forest) (xs : List PlainItem) → ReadsLevels ms here outer xs → ReadsLevels ms Nothing (here ∷ outer) xs
closed_level ms here outer xs r = ([], xs, refl, Reads-nothing (take (suc (length outer)) ms), r)

closes-ReadsLevels : (cs ms : List Mark) (e : Levels) (xs : List PlainItem) → ReadsLevels ms e.here e.outer xs → ReadsLevels ms (closes cs e).here (closes cs e).outer xs
closes-ReadsLevels [] ms e xs r = r
closes-ReadsLevels (c ∷ cs) ms e xs r = closes-ReadsLevels cs ms (record { here = Nothing; outer = e.here ∷ e.outer }) xs (closed_level ms e.here e.outer xs r)

-- the innermost level is put into a mark
wrapped-ReadsLevels : (ms : List Mark) (m : Mark) (here o : Forest) (outer : List Forest) (xs : List PlainItem) → GoodMark m → has_child (parts_of here) ≡ true →
    take (suc (length outer)) ms ≡ take (length outer) ms ++ m ∷ [] → ReadsLevels ms here (o ∷ outer) xs → ReadsLevels ms (mark_element m here o) outer xs
wrapped-ReadsLevels ms m here o outer xs g child e r =
    subst (λ ys. ReadsLevels ms (mark_element m here o) outer ys) (sym r.2)
    (at_level ms o (mark_element m here o) outer r.1 r.0
    (λ zs h. Reads-mark m (take (length outer) ms) here o r.0 zs g child (subst (λ l. Reads l here r.0) e r.3) h) r.4)

-- ---- opening and closing marks

abbrev pub GoodMarks : List Mark → Type 0
GoodMarks [] = Unit {0}
GoodMarks (m ∷ ms) = GoodMark m × GoodMarks ms

GoodMarks-drop : (n : ℕ) (ms : List Mark) → GoodMarks ms → GoodMarks (drop n ms)
GoodMarks-drop zero ms g = g
GoodMarks-drop (suc n) [] g = tt
GoodMarks-drop (suc n) (m ∷ ms) g = GoodMarks-drop n ms g.1

pub drop-next : (k : ℕ) (M : List Mark) (m : Mark) (ms : List Mark) → drop k M ≡ m ∷ ms → (drop (suc k) M ≡ ms) × (take (suc k) M ≡ take k M ++ m ∷ [])
drop-next zero [] m ms e = cc
drop-next zero (x ∷ M) m ms e =
    let head : x ≡ m = ap (λ l. first_mark l x) e in let tail : M ≡ ms = ap (λ l. drop 1 l) e in
    (tail, ap (λ y. y ∷ []) head)
  where
    first_mark : List Mark → Mark → Mark
    first_mark [] d = d
    first_mark (y ∷ ys) d = y
drop-next (suc k) [] m ms e = cc
drop-next (suc k) (x ∷ M) m ms e = let r = drop-next k M m ms e in (r.0, ap (λ l. x ∷ l) r.1)

-- what opening marks gives: the levels read the same, so many are left, and something stands there
pub record Opened (M : List Mark) (k : ℕ) (e : Levels) (xs : List PlainItem) : Type 0 where
  pub reads : ReadsLevels M e.here e.outer xs
  pub level : length e.outer ≡ k
  pub child : has_child (parts_of e.here) ≡ true

opened-step : (M : List Mark) (m : Mark) (k : ℕ) (here : Forest) (outer : List Forest) (xs : List PlainItem) → GoodMark m →
    take (suc k) M ≡ take k M ++ m ∷ [] → has_child (parts_of here) ≡ true → length outer ≡ suc k → ReadsLevels M here outer xs → Opened M k (wrapped m here outer) xs
opened-step M m k here [] xs g e child l r = cc
opened-step M m k here (o ∷ outer) xs g e child l r =
    let at : length outer ≡ k = omega (arith, l) in
    record {
      reads = wrapped-ReadsLevels M m here o outer xs g child (subst (λ n. take (suc n) M ≡ take n M ++ m ∷ []) (sym at) e) r;
      level = at;
      child = ap has_child (parts_of-mark m here o g);
    }

opens-Opened : (ms M : List Mark) (k : ℕ) (e : Levels) (xs : List PlainItem) → GoodMarks ms → drop k M ≡ ms → k + length ms ≡ length e.outer →
    has_child (parts_of e.here) ≡ true → ReadsLevels M e.here e.outer xs → Opened M k (opens ms e) xs
opens-Opened [] M k e xs g d l child r = record { reads = r; level = omega (arith, l); child = child }
opens-Opened (m ∷ ms) M k e xs g d l child r =
    let n = drop-next k M m ms d in
    let inner = opens-Opened ms M (suc k) e xs g.1 n.0 (omega (arith, l)) child r in
    opened-step M m k (opens ms e).here (opens ms e).outer xs g.0 n.1 inner.child inner.level inner.reads

pub length-closes : (cs : List Mark) (e : Levels) → length (closes cs e).outer ≡ length cs + length e.outer
length-closes [] e = omega arith
length-closes (c ∷ cs) e = let l = length-closes cs (record { here = Nothing; outer = e.here ∷ e.outer }) in omega (arith, l)

-- both lists begin with the same marks, so many
pub record Common (opened marks : List Mark) (n : ℕ) : Type 0 where
  pub prefix : (k : ℕ) → k ≤ n → take k marks ≡ take k opened
  pub left : n + length (drop n opened) ≡ length opened
  pub right : n + length (drop n marks) ≡ length marks

common-chosen : (opened marks : List Mark) (c : Bool) (n : ℕ) → (c ≡ true → Common opened marks n) → Common opened marks 0 → Common opened marks (if c then n else 0)
common-chosen opened marks true n f g = f refl
common-chosen opened marks false n f g = g

take_none : (k : ℕ) (a b : List Mark) → k ≤ 0 → take k a ≡ take k b
take_none zero a b le = refl
take_none (suc k) a b le = absurd (omega (arith, le))

Common-zero : (opened marks : List Mark) → Common opened marks 0
Common-zero opened marks = record { prefix = λ k le. take_none k marks opened le; left = omega arith; right = omega arith }

take_both : (m n : Mark) (opened marks : List Mark) (c k : ℕ) → m ≡ n → ((j : ℕ) → j ≤ c → take j marks ≡ take j opened) → k ≤ suc c → take k (n ∷ marks) ≡ take k (m ∷ opened)
take_both m n opened marks c zero e f le = refl
take_both m n opened marks c (suc k) e f le = (λ i. sym e i ∷ f k (omega (arith, le)) i)

pub Common-count : MarksMean → (opened marks : List Mark) → Common opened marks (common_count opened marks)
Common-count mean [] marks = Common-zero [] marks
Common-count mean (m ∷ opened) [] = Common-zero (m ∷ opened) []
Common-count mean (m ∷ opened) (n ∷ marks) =
    let c = Common-count mean opened marks in
    common-chosen (m ∷ opened) (n ∷ marks) (mark_same m n) (suc (common_count opened marks))
    (λ h. record {
      prefix = λ k le. take_both m n opened marks (common_count opened marks) k (mean m n h) c.prefix le;
      left = let l = c.left in omega (arith, l);
      right = let r = c.right in omega (arith, r);
    })
    (Common-zero (m ∷ opened) (n ∷ marks))

-- levels with their marks
pub record AtMarks (marks : List Mark) (e : Levels) (xs : List PlainItem) : Type 0 where
  pub reads : ReadsLevels marks e.here e.outer xs
  pub level : length e.outer ≡ length marks

changes-AtMarks : MarksMean → (opened marks : List Mark) (e : Levels) (xs : List PlainItem) → GoodMarks marks → has_child (parts_of e.here) ≡ true → AtMarks marks e xs →
    AtMarks opened (changes opened marks e) xs
changes-AtMarks mean opened marks e xs g child r =
    let n : ℕ = common_count opened marks in
    let c = Common-count mean opened marks in
    let o = opens-Opened (drop n marks) marks n e xs (GoodMarks-drop n marks g) refl (c.right ∙ sym r.level) child r.reads in
    let inner : Levels = opens (drop n marks) e in
    record {
      reads = closes-ReadsLevels (drop n opened) opened inner xs (same_marks marks opened inner.here inner.outer xs (λ k le. let l = o.level in c.prefix k (omega (arith, le, l))) o.reads);
      level = let l = length-closes (drop n opened) inner in let m = o.level in let d = c.left in omega (arith, l, m, d);
    }

-- ---- content

-- what the proof needs of content
abbrev pub GoodContent : Nodes → Type 0
GoodContent Empty = Unit {0}
GoodContent (Letter c marks later) = GoodMarks marks × IsScalar c × GoodContent later
GoodContent (Node s inside pre later) = GoodMarks s.marks × GoodLeaf s × GoodContent later

-- the items of content, as they are read
abbrev pub content_items : Nodes → List PlainItem
content_items Empty = []
content_items (Letter c marks later) = Char c marks ∷ content_items later
content_items (Node s inside pre later) = leaf_items s (content_items later)

take_whole : (marks : List Mark) (n : ℕ) → n ≡ length marks → take n marks ≡ marks
take_whole marks n e = take_all n marks (omega (arith, e))

pub child-text : (text : List ℕ) (f : Forest) → has_child (parts_of (with_text text f)) ≡ true
child-text text Nothing = refl
child-text text (Text t rest) = refl
child-text text (Remark t rest) = refl
child-text text (Void name attrs slash rest) = refl
child-text text (RawElement name attrs t rest) = refl
child-text text (Element name attrs children rest) = refl

pub content-AtMarks : MarksMean → LettersBack → (opened : List Mark) (n : Nodes) → GoodContent n → AtMarks opened (content_levels opened n) (content_items n)
content-AtMarks mean suffix opened Empty g = record {
  reads = closes-ReadsLevels opened opened (record { here = Nothing; outer = [] }) [] (Reads-nothing []);
  level = let l = length-closes opened (record { here = Nothing; outer = [] }) in omega (arith, l);
}
content-AtMarks mean suffix opened (Letter c marks later) g =
    let e : Levels = content_levels marks later in
    let r = content-AtMarks mean suffix marks later g.2 in
    let whole : take (length e.outer) marks ≡ marks = take_whole marks (length e.outer) r.level in
    changes-AtMarks mean opened marks (record { here = with_text (letter c) e.here; outer = e.outer }) (Char c marks ∷ content_items later) g.0 (child-text (letter c) e.here)
    (record {
      reads =
          subst (λ l. ReadsLevels marks (with_text (letter c) e.here) e.outer (Char c l ∷ content_items later)) whole
          (at_level marks e.here (with_text (letter c) e.here) e.outer (content_items later) (Char c (take (length e.outer) marks) ∷ [])
          (λ zs h. Reads-text suffix c g.1 (take (length e.outer) marks) e.here zs h) r.reads);
      level = r.level;
    })
content-AtMarks mean suffix opened (Node s inside pre later) g =
    let e : Levels = content_levels s.marks later in
    let r = content-AtMarks mean suffix s.marks later g.2 in
    let whole : take (length e.outer) s.marks ≡ s.marks = take_whole s.marks (length e.outer) r.level in
    changes-AtMarks mean opened s.marks (record { here = leaf_element s e.here; outer = e.outer }) (leaf_items s (content_items later)) g.0
    (ap has_child (parts_if_false (is_held (canon_attrs (map attr_bytes s.head.attrs))) _ (Single (tag_of s.kind) (canon_attrs (map attr_bytes s.head.attrs)) (start_text (tag_of s.kind) (canon_attrs (map attr_bytes s.head.attrs)) false) (parts_of e.here)) g.1.free))
    (record {
      reads =
          at_level s.marks e.here (leaf_element s e.here) e.outer (content_items later) (leaf_items s [])
          (λ zs h. subst (λ l. Reads l (leaf_element s e.here) (leaf_items s zs)) (sym whole) (Reads-leaf s e.here zs g.1 (subst (λ l. Reads l e.here zs) whole h))) r.reads;
      level = r.level;
    })

-- content that is written is read as that content
pub content-Reads : MarksMean → LettersBack → (n : Nodes) → GoodContent n → Reads [] (content_levels [] n).here (content_items n)
content-Reads mean suffix n g = levels_alone (content_levels [] n).here (content_levels [] n).outer (content-AtMarks mean suffix [] n g).level (content-AtMarks mean suffix [] n g).reads
  where
    levels_alone : (here : Forest) (outer : List Forest) → length outer ≡ 0 → ReadsLevels [] here outer (content_items n) → Reads [] here (content_items n)
    levels_alone here [] l r = r
    levels_alone here (o ∷ outer) l r = cc
