-- Writing makes texts and elements alone. Each of them may be spelled, and none is kept whole.
use Rattle.std.proofs.Common.{◌≡◌, ℕ, zero, suc, Bool, true, false, not, ◌&&◌, ◌||◌, ◌==◌, if◌then◌else◌, List, [], ◌∷◌, ◌++◌, drop, map, Some, None, refl, sym, ap, ◌∙◌, inl, inr}
use Rattle.std.proofs.lemmas.List.{append-nil}
use Rattle.std.proofs.lemmas.Bool.{and_parts, and_from, cases_Bool}
use Rattle.std.specs.Prelude.{codes, bytes_eq, chars, encode_utf8_all, is_some}
use Rattle.std.specs.List.{list_any}
use Rattle.std.specs.Char.{IsScalar}
use Rattle.model_spelling.specs.Grammar.{Attr as Spelled, begins_with, is_tag_name}
use Rattle.ve_kinds.specs.Tags.{is_void, is_raw}
use Rattle.model_spelling.specs.Forest.{Forest, Nothing, Text, Remark, Void, RawElement, Element, starts_with_text}
use Rattle.model_spelling.specs.Written.{decoded, escaped_byte, escaped, canon_attrs, attr_bytes}
use Rattle.ve_kinds.specs.declared.kind.Kind.{Kind}
use Rattle.ve_base.specs.declared.attrs.Attr.{Attr}
use Rattle.ve_base.specs.declared.marks.Mark.{Mark}
use Rattle.model_page.specs.Elements.{is_held, value_named, words_in}
use Rattle.model_page.specs.Parts.{Parts, Single, parts_of}
use Rattle.model_page.specs.Heads.{characters, attrs_of, head_with}
use Rattle.model_page.specs.Fit.{Flow, Annotation, has_child, fit_of}
use Rattle.model_page.specs.Tags.{tag_of, is_inline_tag}
use Rattle.model_page_write.specs.Nodes.{Start, Nodes, Empty, Letter, Node}
use Rattle.model_page_write.specs.Written.{is_empty, letter, common_count, Writer}
use Rattle.model_spelling.specs.Grammar.{start_text}
use Rattle.model_page_law.specs.Formed.{value_of_first, AreNamed, ArePlain, IsPlainMark, ArePlainMarks, IsHead}
use Rattle.model_page_law.proofs.FormedNodes.{IsLeaf, IsContent}
use Rattle.model_page_law.proofs.NeatForests.{without, NeatAttrs, NeatTag, Neat}
use Rattle.model_page_law.proofs.EscapeLemmas.{decoded-escaped, decoded-nil, pick_true, pick_false, ScalarAttrs, attrs_back, letters_back, annotation-fits}
use Rattle.model_page_law.proofs.ContentLemmas.{Levels, with_text, mark_element, wrapped, opens, closes, changes, leaf_element, content_levels, GoodMark, GoodMarks, GoodLeaf, GoodContent, parts_if_false, child-text, characters-nil}
use Rattle.model_page_law.proofs.ContentText.{LeafTexts}
use Rattle.model_page_law.proofs.BlockReads.{Loose}
use Rattle.model_page_law.proofs.TagLemmas.{mark_tag, leaf_kind}
use Rattle.std.proofs.lemmas.Str.{chars-encodes}

-- ---- forests that may be spelled, and hold nothing

abbrev pub CleanTag : Bool → List ℕ → List Spelled → Type 0
CleanTag void name attrs = NeatTag void name attrs × (is_held attrs ≡ false)

abbrev pub Clean : Forest → Type 0
Clean Nothing = Unit {0}
Clean (Text text rest) = (is_empty text ≡ false) × (without 60 text ≡ true) × (starts_with_text rest ≡ false) × Clean rest
Clean (Remark text rest) = ⊥
Clean (RawElement name attrs text rest) = ⊥
Clean (Void name attrs slash rest) = CleanTag true name attrs × (slash ≡ false) × Clean rest
Clean (Element name attrs children rest) = CleanTag false name attrs × Clean children × Clean rest

pub Clean-Neat : (f : Forest) → Clean f → Neat f
Clean-Neat Nothing c = c
Clean-Neat (Text text rest) c = (c.0, c.1, c.2, Clean-Neat rest c.3)
Clean-Neat (Remark text rest) c = absurd c
Clean-Neat (RawElement name attrs text rest) c = absurd c
Clean-Neat (Void name attrs slash rest) c = (c.0.0, Clean-Neat rest c.2)
Clean-Neat (Element name attrs children rest) c = (c.0.0, Clean-Neat children c.1, Clean-Neat rest c.2)

-- ---- what is escaped has no delimiter

pub without-append : (stop : ℕ) (a b : List ℕ) → without stop a ≡ true → without stop b ≡ true → without stop (a ++ b) ≡ true
without-append stop [] b h k = k
without-append stop (x ∷ a) b h k = let p = and_parts (not (x == stop)) (without stop a) h in and_from _ _ p.0 (without-append stop a b p.1 k)

-- no reference has the delimiter, and what isn't escaped is none
abbrev Passes : Bool → ℕ → Type 0
Passes v stop =
    (without stop (codes "&amp;") ≡ true) × (without stop (codes "&lt;") ≡ true) × (without stop (codes "&gt;") ≡ true)
    × (without stop (codes "&quot;") ≡ true) × (without stop (codes "&nbsp;") ≡ true)
    × ((b : ℕ) → (b == 60) ≡ false → (v && b == 34) ≡ false → (b == stop) ≡ false)

text_passes : Passes false 60
text_passes = (refl, refl, refl, refl, refl, (λ b e f. e))

value_passes : Passes true 34
value_passes = (refl, refl, refl, refl, refl, (λ b e f. f))

byte-without : (v : Bool) (stop : ℕ) → Passes v stop → (b : ℕ) → without stop (escaped_byte v b) ≡ true
byte-without v stop p b =
    elim (cases_Bool (b == 38)) [
      | inl e ↦ ap (without stop) (pick_true (b == 38) _ _ e) ∙ p.0
      | inr n38 ↦ ap (without stop) (pick_false (b == 38) _ _ n38) ∙ elim (cases_Bool (b == 60)) [
        | inl e ↦ ap (without stop) (pick_true (b == 60) _ _ e) ∙ p.1
        | inr n60 ↦ ap (without stop) (pick_false (b == 60) _ _ n60) ∙ elim (cases_Bool (b == 62)) [
          | inl e ↦ ap (without stop) (pick_true (b == 62) _ _ e) ∙ p.2
          | inr n62 ↦ ap (without stop) (pick_false (b == 62) _ _ n62) ∙ elim (cases_Bool (v && b == 34)) [
            | inl e ↦ ap (without stop) (pick_true (v && b == 34) _ _ e) ∙ p.3
            | inr n34 ↦ ap (without stop) (pick_false (v && b == 34) _ _ n34) ∙ ap (λ c. not c && true) (p.5 b n60 n34)
          ]
        ]
      ]
    ]

escaped-without : (v : Bool) (stop : ℕ) → Passes v stop → (bs : List ℕ) → without stop (escaped v bs) ≡ true
unfolding escaped
escaped-without v stop p [] = refl
escaped-without v stop p (b ∷ []) = byte-without v stop p b
escaped-without v stop p (b ∷ c ∷ bs) =
    elim (cases_Bool (b == 194 && c == 160)) [
      | inl e ↦ ap (without stop) (pick_true (b == 194 && c == 160) _ _ e) ∙ without-append stop (codes "&nbsp;") (escaped v bs) p.4 (escaped-without v stop p bs)
      | inr n ↦ ap (without stop) (pick_false (b == 194 && c == 160) _ _ n) ∙ without-append stop (escaped_byte v b) (escaped v (c ∷ bs)) (byte-without v stop p b) (escaped-without v stop p (c ∷ bs))
    ]

-- ---- attributes

attrs-NeatAttrs : (attrs : List Attr) → AreNamed attrs → NeatAttrs (canon_attrs (map attr_bytes attrs))
attrs-NeatAttrs [] n = tt
attrs-NeatAttrs (a ∷ attrs) n = (n.2, escaped-without true 34 value_passes (encode_utf8_all a.value), attrs-NeatAttrs attrs n.3)

attrs-ScalarAttrs : (attrs : List Attr) → AreNamed attrs → ScalarAttrs attrs
attrs-ScalarAttrs [] n = tt
attrs-ScalarAttrs (a ∷ attrs) n = (n.0, n.1, attrs-ScalarAttrs attrs n.3)

decoded_value : (bs : List ℕ) → decoded (escaped true bs) ≡ bs
decoded_value bs = ap decoded (sym (append-nil (escaped true bs))) ∙ decoded-escaped true bs [] ∙ ap (λ s. bs ++ s) decoded-nil ∙ append-nil bs

value_of-said : (name : List ℕ) (attrs : List Attr) → value_named name (canon_attrs (map attr_bytes attrs)) ≡ value_of_first name attrs
value_of-said name [] = refl
value_of-said name (a ∷ attrs) = (λ i. if bytes_eq (encode_utf8_all a.name) name then Some (decoded_value (encode_utf8_all a.value) i) else value_of-said name attrs i)

attrs_free : (attrs : List Attr) → ArePlain attrs → is_held (canon_attrs (map attr_bytes attrs)) ≡ false
attrs_free attrs p =
    (λ i. is_some (value_of-said (codes "about") attrs i) || list_any (begins_with (codes "mw:")) (words_in (value_of-said (codes "typeof") attrs i))) ∙ p.free

pub head_back : (s : Start) → IsHead s.head → head_with (canon_attrs (map attr_bytes s.head.attrs)) ≡ s.head
head_back s h =
    ap (λ a. record { tag = []; attrs = a; raw = []; reference = None; owner = false }) (attrs_back s.head.attrs (attrs-ScalarAttrs s.head.attrs h.attrs.named)) ∙ sym h.alone

pub clean_tag : (void : Bool) (name : List ℕ) (attrs : List Attr) → is_tag_name name ≡ true → is_void name ≡ void → is_raw name ≡ false → ArePlain attrs →
    CleanTag void name (canon_attrs (map attr_bytes attrs))
clean_tag void name attrs n v r p = (record { name_is = n; void_is = v; raw_is = r; attrs_are = attrs-NeatAttrs attrs p.named }, attrs_free attrs p)

-- ---- marks and leaves

pub record FineMark (k : Kind) (m : Mark) : Type 0 where
  pub good : GoodMark m
  pub flow : (children : Parts) → has_child children ≡ true → fit_of (Flow k) (encode_utf8_all m.tag) children ≡ Annotation
  pub tag : CleanTag false (encode_utf8_all m.tag) (canon_attrs (map attr_bytes m.attrs))

abbrev FineMarks : Kind → List Mark → Type 0
FineMarks k [] = Unit {0}
FineMarks k (m ∷ ms) = FineMark k m × FineMarks k ms

mark_same_read : (m : Mark) → IsPlainMark m → record { tag = chars (encode_utf8_all m.tag); attrs = attrs_of (canon_attrs (map attr_bytes m.attrs)) } ≡ m
mark_same_read m h = (λ i. record { tag = chars-encodes m.tag h.chars i; attrs = attrs_back m.attrs (attrs-ScalarAttrs m.attrs h.attrs.named) i })

good_mark : (m : Mark) → IsPlainMark m → GoodMark m
good_mark m h = record { fits = λ ms children child. annotation-fits (encode_utf8_all m.tag) h.tag ms children child; free = attrs_free m.attrs h.attrs; same = mark_same_read m h }

fine_mark : (k : Kind) (m : Mark) → IsPlainMark m → FineMark k m
fine_mark k m h =
    let name : List ℕ = encode_utf8_all m.tag in
    let t = mark_tag name h.tag in
    record {
      good = good_mark m h;
      flow = λ children child. pick_true (is_inline_tag name) _ _ t.inline ∙ annotation-fits name h.tag [] children child;
      tag = clean_tag false name m.attrs t.name_is t.void_is t.raw_is h.attrs;
    }

fine_marks : (k : Kind) (ms : List Mark) → ArePlainMarks ms → FineMarks k ms
fine_marks k [] h = tt
fine_marks k (m ∷ ms) h = (fine_mark k m h.0, fine_marks k ms h.1)

good_marks : (ms : List Mark) → ArePlainMarks ms → GoodMarks ms
good_marks [] h = tt
good_marks (m ∷ ms) h = (good_mark m h.0, good_marks ms h.1)

good_leaf : (s : Start) (inside : Nodes) (pre : List ℕ) → IsLeaf s inside pre → GoodLeaf s
good_leaf s inside pre l =
    let t = leaf_kind s.kind l.kind in
    record { fits = t.content; free = attrs_free s.head.attrs l.head.attrs; inline = t.inline; same = head_back s l.head }

pub good_content : (n : Nodes) → IsContent n → GoodContent n
good_content Empty c = tt
good_content (Letter ch marks later) c = (good_marks marks c.1, c.0, good_content later c.2)
good_content (Node s inside pre later) c = (good_marks s.marks c.1, good_leaf s inside pre c.0, good_content later c.2)

pub leaf_texts : (w : Writer) (n : Nodes) → IsContent n → LeafTexts w n
leaf_texts w Empty c = tt
leaf_texts w (Letter ch marks later) c = leaf_texts w later c.2
leaf_texts w (Node s inside pre later) c = ((leaf_kind s.kind c.0.kind).text w s, leaf_texts w later c.2)

-- ---- levels

-- what the forest of content is
pub record Sound (k : Kind) (f : Forest) : Type 0 where
  pub loose : Loose k f
  pub clean : Clean f

abbrev SoundAll : Kind → List Forest → Type 0
SoundAll k [] = Unit {0}
SoundAll k (f ∷ fs) = Sound k f × SoundAll k fs

Sound-nothing : (k : Kind) → Sound k Nothing
Sound-nothing k = record { loose = tt; clean = tt }

Sound-mark : (k : Kind) (m : Mark) (inside rest : Forest) → FineMark k m → has_child (parts_of inside) ≡ true → Sound k inside → Sound k rest → Sound k (mark_element m inside rest)
Sound-mark k m inside rest g child i r = record {
  loose = (g.good.free, g.flow (parts_of inside) child, g.good.fits [] (parts_of inside) child, r.loose);
  clean = (g.tag, i.clean, r.clean);
}

Sound-leaf : (k : Kind) (s : Start) (inside : Nodes) (pre : List ℕ) (rest : Forest) → IsLeaf s inside pre → Sound k rest → Sound k (leaf_element s rest)
Sound-leaf k s inside pre rest l r =
    let t = leaf_kind s.kind l.kind in
    record {
      loose = (attrs_free s.head.attrs l.head.attrs, (s.kind, t.inline, t.flow k, t.content []), r.loose);
      clean = (clean_tag true (tag_of s.kind) s.head.attrs t.name_is t.void_is t.raw_is l.head.attrs, refl, r.clean);
    }

nonempty-append : (a b : List ℕ) → is_empty a ≡ false → is_empty (a ++ b) ≡ false
nonempty-append [] b h = cc
nonempty-append (x ∷ a) b h = refl

Sound-text : (k : Kind) (text : List ℕ) (f : Forest) → is_empty text ≡ false → without 60 text ≡ true → Sound k f → Sound k (with_text text f)
Sound-text k text (Text t rest) e h s = record { loose = s.loose; clean = (nonempty-append text t e, without-append 60 text t h s.clean.1, s.clean.2, s.clean.3) }
Sound-text k text Nothing e h s = record { loose = s.loose; clean = (e, h, refl, s.clean) }
Sound-text k text (Remark t rest) e h s = absurd s.loose
Sound-text k text (RawElement name attrs t rest) e h s = absurd s.loose
Sound-text k text (Void name attrs slash rest) e h s = record { loose = s.loose; clean = (e, h, refl, s.clean) }
Sound-text k text (Element name attrs children rest) e h s = record { loose = s.loose; clean = (e, h, refl, s.clean) }

record OpenedSound (k : Kind) (e : Levels) : Type 0 where
  pub here_is : Sound k e.here
  pub outer_are : SoundAll k e.outer
  pub child : has_child (parts_of e.here) ≡ true

opened-Sound : (k : Kind) (m : Mark) (here : Forest) (outer : List Forest) → FineMark k m → has_child (parts_of here) ≡ true → Sound k here → SoundAll k outer → OpenedSound k (wrapped m here outer)
opened-Sound k m here [] g child h o = record {
  here_is = Sound-mark k m here Nothing g child h (Sound-nothing k);
  outer_are = tt;
  child = ap has_child (parts_if_false (is_held (canon_attrs (map attr_bytes m.attrs))) _ _ g.good.free);
}
opened-Sound k m here (o ∷ outer) g child h os = record {
  here_is = Sound-mark k m here o g child h os.0;
  outer_are = os.1;
  child = ap has_child (parts_if_false (is_held (canon_attrs (map attr_bytes m.attrs))) _ _ g.good.free);
}

opens-Sound : (k : Kind) (ms : List Mark) (e : Levels) → FineMarks k ms → OpenedSound k e → OpenedSound k (opens ms e)
opens-Sound k [] e g s = s
opens-Sound k (m ∷ ms) e g s =
    let inner = opens-Sound k ms e g.1 s in opened-Sound k m (opens ms e).here (opens ms e).outer g.0 inner.child inner.here_is inner.outer_are

abbrev SoundLevels : Kind → Levels → Type 0
SoundLevels k e = Sound k e.here × SoundAll k e.outer

closes-Sound : (k : Kind) (cs : List Mark) (e : Levels) → SoundLevels k e → SoundLevels k (closes cs e)
closes-Sound k [] e s = s
closes-Sound k (c ∷ cs) e s = closes-Sound k cs (record { here = Nothing; outer = e.here ∷ e.outer }) (Sound-nothing k, s)

FineMarks-drop : (k : Kind) (n : ℕ) (ms : List Mark) → FineMarks k ms → FineMarks k (drop n ms)
FineMarks-drop k zero ms g = g
FineMarks-drop k (suc n) [] g = tt
FineMarks-drop k (suc n) (m ∷ ms) g = FineMarks-drop k n ms g.1

changes-Sound : (k : Kind) (opened marks : List Mark) (e : Levels) → FineMarks k marks → OpenedSound k e → SoundLevels k (changes opened marks e)
changes-Sound k opened marks e g s =
    let n : ℕ = common_count opened marks in
    let o = opens-Sound k (drop n marks) e (FineMarks-drop k n marks g) s in
    closes-Sound k (drop n opened) (opens (drop n marks) e) (o.here_is, o.outer_are)

letter-nonempty : (text : List ℕ) (c : ℕ) (cs : List ℕ) → characters text ≡ c ∷ cs → characters [] ≡ [] → is_empty text ≡ false
letter-nonempty [] c cs e n = cc
letter-nonempty (b ∷ bs) c cs e n = refl

letter_is : (c : ℕ) → IsScalar c → is_empty (letter c) ≡ false
letter_is c is = letter-nonempty (letter c) c (characters []) (ap characters (sym (append-nil (letter c))) ∙ letters_back c [] is) characters-nil

pub content-Sound : (k : Kind) (n : Nodes) (opened : List Mark) → IsContent n → SoundLevels k (content_levels opened n)
content-Sound k Empty opened c = closes-Sound k opened (record { here = Nothing; outer = [] }) (Sound-nothing k, tt)
content-Sound k (Letter ch marks later) opened c =
    let e : Levels = content_levels marks later in
    let r = content-Sound k later marks c.2 in
    changes-Sound k opened marks (record { here = with_text (letter ch) e.here; outer = e.outer }) (fine_marks k marks c.1)
    (record {
      here_is = Sound-text k (letter ch) e.here (letter_is ch c.0) (escaped-without false 60 text_passes (encode_utf8_all (ch ∷ []))) r.0;
      outer_are = r.1;
      child = child-text (letter ch) e.here;
    })
content-Sound k (Node s inside pre later) opened c =
    let e : Levels = content_levels s.marks later in
    let r = content-Sound k later s.marks c.2 in
    changes-Sound k opened s.marks (record { here = leaf_element s e.here; outer = e.outer }) (fine_marks k s.marks c.1)
    (record {
      here_is = Sound-leaf k s inside pre e.here c.0 r.0;
      outer_are = r.1;
      child = ap has_child (parts_if_false (is_held (canon_attrs (map attr_bytes s.head.attrs))) _ (Single (tag_of s.kind) (canon_attrs (map attr_bytes s.head.attrs)) (start_text (tag_of s.kind) (canon_attrs (map attr_bytes s.head.attrs)) false) (parts_of e.here)) (attrs_free s.head.attrs c.0.head.attrs));
    })
