-- Levels of content whose marks are changed: what they read as, and what holds of all their
-- forests.
use Rattle.std.proofs.Common.{◌≡◌, ℕ, zero, suc, ◌+◌, ◌≤◌, true, false, List, [], ◌∷◌, ◌++◌, length, take, take_all, drop, map, refl, sym, ap, ◌∙◌, subst, append_assoc, arith}
use Rattle.std.proofs.lemmas.Str.{chars-encodes}
use Rattle.std.specs.Prelude.{chars, encode_utf8_all}
use Rattle.model_spelling.specs.Forest.{Forest, Nothing}
use Rattle.model_spelling.specs.Written.{canon_attrs, attr_bytes}
use Rattle.ve_base.specs.declared.attrs.Attr.{Attr}
use Rattle.ve_base.specs.declared.marks.Mark.{Mark}
use Rattle.model_items.specs.declared.plain_item.PlainItem.{PlainItem}
use Rattle.model_page.specs.Elements.{is_held}
use Rattle.model_page.specs.Parts.{Words, Parent, parts_of}
use Rattle.model_page.specs.Fit.{Content, has_child}
use Rattle.model_page.specs.Heads.{attrs_of}
use Rattle.model_page.specs.Pieces.{Progress, past}
use Rattle.model_page.specs.Convert.{inside_of, element_source, element_made, made_of}
use Rattle.model_page_write.specs.Written.{common_count}
use Rattle.model_page_law.specs.Formed.{AreNamed, IsPlainMark, ArePlainMarks}
use Rattle.model_page_law.proofs.FormedNodes.{MarksMean}
use Rattle.model_page_law.proofs.EscapeLemmas.{ScalarAttrs, attrs_back}
use Rattle.model_page_law.proofs.TagLemmas.{mark_tag}
use Rattle.model_page_law.proofs.CleanLemmas.{CleanTag, clean_tag}
use Rattle.model_page_law.proofs.ContentLemmas.{Levels, mark_element, wrapped, opens, closes, changes, GoodMark, GoodMarks, Reads, ReadsLevels, Opened, Common-count, length-closes, drop-next, AtMarks, parts_if_false}
use Rattle.model_kept_law.proofs.FitFacts.{marks_content}
use Rattle.model_kept_law.proofs.JoinedParts.{Clear}

-- ---- plain marks

pub plain_tag : (m : Mark) → IsPlainMark m → CleanTag false (encode_utf8_all m.tag) (canon_attrs (map attr_bytes m.attrs))
plain_tag m p = let t = mark_tag (encode_utf8_all m.tag) p.tag in clean_tag false (encode_utf8_all m.tag) m.attrs t.name_is t.void_is t.raw_is p.attrs

named_scalars : (attrs : List Attr) → AreNamed attrs → ScalarAttrs attrs
named_scalars [] n = tt
named_scalars (a ∷ attrs) n = (n.0, n.1, named_scalars attrs n.3)

plain_good : (m : Mark) → IsPlainMark m → GoodMark m
plain_good m p = record {
  fits = λ ms children child. marks_content (encode_utf8_all m.tag) children p.tag child ms;
  free = (plain_tag m p).1;
  same = (λ i. record { tag = chars-encodes m.tag p.chars i; attrs = attrs_back m.attrs (named_scalars m.attrs p.attrs.named) i });
}

pub plain_marks : (ms : List Mark) → ArePlainMarks ms → GoodMarks ms
plain_marks [] p = tt
plain_marks (m ∷ ms) p = (plain_good m p.0, plain_marks ms p.1)

pub plain_drop : (n : ℕ) (ms : List Mark) → ArePlainMarks ms → ArePlainMarks (drop n ms)
plain_drop zero ms p = p
plain_drop (suc n) [] p = tt
plain_drop (suc n) (m ∷ ms) p = plain_drop n ms p.1

-- ---- what levels read as

parts_of-mark : (m : Mark) (inside rest : Forest) → GoodMark m →
    parts_of (mark_element m inside rest) ≡ Parent (encode_utf8_all m.tag) (canon_attrs (map attr_bytes m.attrs)) (parts_of inside) (parts_of rest)
parts_of-mark m inside rest g = parts_if_false (is_held (canon_attrs (map attr_bytes m.attrs))) _ _ g.free

pub Reads-nothing : (ms : List Mark) → Reads ms Nothing []
Reads-nothing ms w = refl

Reads-mark : (m : Mark) (ms : List Mark) (inside rest : Forest) (xs ys : List PlainItem) → GoodMark m → has_child (parts_of inside) ≡ true →
    Reads (ms ++ m ∷ []) inside xs → Reads ms rest ys → Reads ms (mark_element m inside rest) (xs ++ ys)
Reads-mark m ms inside rest xs ys g child f h w =
    let name : List ℕ = encode_utf8_all m.tag in
    let attrs = canon_attrs (map attr_bytes m.attrs) in
    let source : List ℕ = element_source name attrs (parts_of inside) in
    let w1 : Progress = inside_of w name attrs in
    let inner = made_of (Content (ms ++ record { tag = chars name; attrs = attrs_of attrs } ∷ [])) (parts_of inside) w1 in
    let w2 : Progress = past w source inner.owners in
    ap (λ p. (made_of (Content ms) p w).run.items) (parts_of-mark m inside rest g)
    ∙ ap (λ t. (element_made (Content ms) name attrs source (λ a. made_of a (parts_of inside)) (made_of (Content ms) (parts_of rest)) w t).run.items) (g.fits ms (parts_of inside) child)
    ∙ ap (λ n. (made_of (Content (ms ++ n ∷ [])) (parts_of inside) w1).run.items ++ (made_of (Content ms) (parts_of rest) w2).run.items) g.same
    ∙ (λ i. f w1 i ++ h w2 i)

-- only so many marks count
same_marks : (ms ns : List Mark) (here : Forest) (outer : List Forest) (xs : List PlainItem) →
    ((k : ℕ) → k ≤ length outer → take k ms ≡ take k ns) → ReadsLevels ms here outer xs → ReadsLevels ns here outer xs
same_marks ms ns here [] xs e r = r
same_marks ms ns here (o ∷ outer) xs e r = (
  r.0,
  r.1,
  r.2,
  subst (λ l. Reads l here r.0) (e (suc (length outer)) (omega arith)) r.3,
  same_marks ms ns o outer r.1 (λ k le. e k (omega (arith, le))) r.4,
)

-- at the innermost level
pub at_level : (ms : List Mark) (here here2 : Forest) (outer : List Forest) (xs : List PlainItem) (prefix : List PlainItem) →
    ((zs : List PlainItem) → Reads (take (length outer) ms) here zs → Reads (take (length outer) ms) here2 (prefix ++ zs)) →
    ReadsLevels ms here outer xs → ReadsLevels ms here2 outer (prefix ++ xs)
at_level ms here here2 [] xs prefix f r = f xs r
at_level ms here here2 (o ∷ outer) xs prefix f r = (
  prefix ++ r.0,
  r.1,
  ap (λ ys. prefix ++ ys) r.2 ∙ sym (append_assoc prefix r.0 r.1),
  f r.0 r.3,
  r.4,
)

-- a level is closed before
closed_level : (ms : List Mark) (here : Forest) (outer : List Forest) (xs : List PlainItem) → ReadsLevels ms here outer xs → ReadsLevels ms Nothing (here ∷ outer) xs
closed_level ms here outer xs r = ([], xs, refl, Reads-nothing (take (suc (length outer)) ms), r)

pub closes-ReadsLevels : (cs ms : List Mark) (e : Levels) (xs : List PlainItem) → ReadsLevels ms e.here e.outer xs → ReadsLevels ms (closes cs e).here (closes cs e).outer xs
closes-ReadsLevels [] ms e xs r = r
closes-ReadsLevels (c ∷ cs) ms e xs r = closes-ReadsLevels cs ms (record { here = Nothing; outer = e.here ∷ e.outer }) xs (closed_level ms e.here e.outer xs r)

-- the innermost level is put into a mark
wrapped-ReadsLevels : (ms : List Mark) (m : Mark) (here o : Forest) (outer : List Forest) (xs : List PlainItem) → GoodMark m → has_child (parts_of here) ≡ true →
    take (suc (length outer)) ms ≡ take (length outer) ms ++ m ∷ [] → ReadsLevels ms here (o ∷ outer) xs → ReadsLevels ms (mark_element m here o) outer xs
wrapped-ReadsLevels ms m here o outer xs g child e r =
    subst (λ ys. ReadsLevels ms (mark_element m here o) outer ys) (sym r.2)
    (at_level ms o (mark_element m here o) outer r.1 r.0
    (λ zs h. Reads-mark m (take (length outer) ms) here o r.0 zs g child (subst (λ l. Reads l here r.0) e r.3) h) r.4)

GoodMarks-drop : (n : ℕ) (ms : List Mark) → GoodMarks ms → GoodMarks (drop n ms)
GoodMarks-drop zero ms g = g
GoodMarks-drop (suc n) [] g = tt
GoodMarks-drop (suc n) (m ∷ ms) g = GoodMarks-drop n ms g.1

opened-step : (M : List Mark) (m : Mark) (k : ℕ) (here : Forest) (outer : List Forest) (xs : List PlainItem) → GoodMark m →
    take (suc k) M ≡ take k M ++ m ∷ [] → has_child (parts_of here) ≡ true → length outer ≡ suc k → ReadsLevels M here outer xs → Opened M k (wrapped m here outer) xs
opened-step M m k here [] xs g e child l r = cc
opened-step M m k here (o ∷ outer) xs g e child l r =
    let at : length outer ≡ k = omega (arith, l) in
    record {
      reads = wrapped-ReadsLevels M m here o outer xs g child (subst (λ n. take (suc n) M ≡ take n M ++ m ∷ []) (sym at) e) r;
      level = at;
      child = ap has_child (parts_of-mark m here o g);
    }

opens-Opened : (ms M : List Mark) (k : ℕ) (e : Levels) (xs : List PlainItem) → GoodMarks ms → drop k M ≡ ms → k + length ms ≡ length e.outer →
    has_child (parts_of e.here) ≡ true → ReadsLevels M e.here e.outer xs → Opened M k (opens ms e) xs
opens-Opened [] M k e xs g d l child r = record { reads = r; level = omega (arith, l); child = child }
opens-Opened (m ∷ ms) M k e xs g d l child r =
    let n = drop-next k M m ms d in
    let inner = opens-Opened ms M (suc k) e xs g.1 n.0 (omega (arith, l)) child r in
    opened-step M m k (opens ms e).here (opens ms e).outer xs g.0 n.1 inner.child inner.level inner.reads

pub changes-AtMarks : MarksMean → (opened marks : List Mark) (e : Levels) (xs : List PlainItem) → GoodMarks marks → has_child (parts_of e.here) ≡ true → AtMarks marks e xs →
    AtMarks opened (changes opened marks e) xs
changes-AtMarks mean opened marks e xs g child r =
    let n : ℕ = common_count opened marks in
    let c = Common-count mean opened marks in
    let o = opens-Opened (drop n marks) marks n e xs (GoodMarks-drop n marks g) refl (c.right ∙ sym r.level) child r.reads in
    let inner : Levels = opens (drop n marks) e in
    record {
      reads = closes-ReadsLevels (drop n opened) opened inner xs (same_marks marks opened inner.here inner.outer xs (λ k le. let l = o.level in c.prefix k (omega (arith, le, l))) o.reads);
      level = let l = length-closes (drop n opened) inner in let m = o.level in let d = c.left in omega (arith, l, m, d);
    }

pub take_whole : (marks : List Mark) (n : ℕ) → n ≡ length marks → take n marks ≡ marks
take_whole marks n e = take_all n marks (omega (arith, e))

-- ---- what holds of all forests of levels

-- it holds where nothing stands, and of a mark that holds something
pub record Lasts (P : Forest → Type 0) : Type 0 where
  pub nothing : P Nothing
  pub mark : (m : Mark) (inside rest : Forest) → IsPlainMark m → has_child (parts_of inside) ≡ true → P inside → P rest → P (mark_element m inside rest)

abbrev pub AllOf : (Forest → Type 0) → List Forest → Type 0
AllOf P [] = Unit {0}
AllOf P (f ∷ fs) = P f × AllOf P fs

abbrev pub LevelsOf : (Forest → Type 0) → Levels → Type 0
LevelsOf P e = P e.here × AllOf P e.outer

record OpenedOf (P : Forest → Type 0) (e : Levels) : Type 0 where
  all : LevelsOf P e
  child : has_child (parts_of e.here) ≡ true

wrapped_of : (P : Forest → Type 0) → Lasts P → (m : Mark) (here : Forest) (outer : List Forest) → IsPlainMark m → has_child (parts_of here) ≡ true → P here → AllOf P outer → OpenedOf P (wrapped m here outer)
wrapped_of P l m here [] p c h o = record {
  all = (l.mark m here Nothing p c h l.nothing, tt);
  child = ap has_child (parts_of-mark m here Nothing (plain_good m p));
}
wrapped_of P l m here (f ∷ outer) p c h o = record {
  all = (l.mark m here f p c h o.0, o.1);
  child = ap has_child (parts_of-mark m here f (plain_good m p));
}

opens_of : (P : Forest → Type 0) → Lasts P → (ms : List Mark) (e : Levels) → ArePlainMarks ms → OpenedOf P e → OpenedOf P (opens ms e)
opens_of P l [] e p o = o
opens_of P l (m ∷ ms) e p o = let i = opens_of P l ms e p.1 o in wrapped_of P l m (opens ms e).here (opens ms e).outer p.0 i.child i.all.0 i.all.1

pub closes_of : (P : Forest → Type 0) → Lasts P → (ms : List Mark) (e : Levels) → LevelsOf P e → LevelsOf P (closes ms e)
closes_of P l [] e a = a
closes_of P l (m ∷ ms) e a = closes_of P l ms (record { here = Nothing; outer = e.here ∷ e.outer }) (l.nothing, a)

pub changes_of : (P : Forest → Type 0) → Lasts P → (opened marks : List Mark) (e : Levels) → ArePlainMarks marks → has_child (parts_of e.here) ≡ true → LevelsOf P e → LevelsOf P (changes opened marks e)
changes_of P l opened marks e p c a =
    let n = common_count opened marks in
    closes_of P l (drop n opened) (opens (drop n marks) e) (opens_of P l (drop n marks) e (plain_drop n marks p) (record { all = a; child = c })).all

-- ---- what joins the innermost level

-- nothing joins it, with words before or without
abbrev pub Free : Forest → Forest → Type 0
Free g f = Clear g (parts_of f) × ((t : List ℕ) → Clear g (Words t (parts_of f)))

mark_free : (g : Forest) (m : Mark) (inside rest : Forest) → IsPlainMark m → Free g (mark_element m inside rest)
mark_free g m inside rest p =
    let e = parts_of-mark m inside rest (plain_good m p) in (subst (Clear g) (sym e) tt, (λ t. subst (λ x. Clear g (Words t x)) (sym e) tt))

wrapped_free : (g : Forest) (m : Mark) (here : Forest) (outer : List Forest) → IsPlainMark m → Free g (wrapped m here outer).here
wrapped_free g m here [] p = mark_free g m here Nothing p
wrapped_free g m here (o ∷ outer) p = mark_free g m here o p

opens_free : (g : Forest) (ms : List Mark) (e : Levels) → ArePlainMarks ms → Free g e.here → Free g (opens ms e).here
opens_free g [] e p f = f
opens_free g (m ∷ ms) e p f = wrapped_free g m (opens ms e).here (opens ms e).outer p.0

pub closes_free : (g : Forest) (ms : List Mark) (e : Levels) → Free g e.here → Free g (closes ms e).here
closes_free g [] e f = f
closes_free g (m ∷ ms) e f = closes_free g ms (record { here = Nothing; outer = e.here ∷ e.outer }) (tt, (λ t. tt))

pub changes_free : (g : Forest) (opened marks : List Mark) (e : Levels) → ArePlainMarks marks → Free g e.here → Free g (changes opened marks e).here
changes_free g opened marks e p f =
    let n = common_count opened marks in closes_free g (drop n opened) (opens (drop n marks) e) (opens_free g (drop n marks) e (plain_drop n marks p) f)
