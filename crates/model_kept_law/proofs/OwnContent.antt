-- Content in which leaves keep their tags as they stood is read as that content.
use Rattle.std.proofs.Common.{◌≡◌, ℕ, zero, suc, Bool, true, false, List, [], ◌∷◌, ◌++◌, drop, map, Option, Some, None, refl, sym, ap, ◌∙◌, subst}
use Rattle.std.specs.Prelude.{chars, encode_utf8_all, unwrap_or}
use Rattle.model_spelling.specs.Grammar.{Attr as Spelled, start_text}
use Rattle.model_spelling.specs.Forest.{Forest, Nothing, Text, Remark, Void, RawElement, Element, spelling, starts_with_text}
use Rattle.model_spelling.specs.Written.{canon_attrs, attr_bytes}
use Rattle.ve_kinds.specs.declared.kind.Kind.{Kind}
use Rattle.ve_kinds.specs.declared.kind.Kind.TheVariants.{P}
use Rattle.ve_kinds.specs.Table.{is_inline_leaf}
use Rattle.ve_base.specs.declared.marks.Mark.{Mark}
use Rattle.model_items.specs.declared.plain_item.PlainItem.TheVariants.{Char, Opening, Closing}
use Rattle.model_page.specs.Elements.{is_held}
use Rattle.model_page.specs.Tags.{tag_of, is_annotation_tag}
use Rattle.model_page.specs.Parts.{Ended, Single, Parent, parts_of}
use Rattle.model_page.specs.Fit.{Around, Flow, Content, Annotation, Leaf, has_child, fit_of}
use Rattle.model_page.specs.Heads.{characters, attrs_of, head_with}
use Rattle.model_page.specs.Pieces.{Progress, past}
use Rattle.model_page.specs.Convert.{marked_around, element_source, element_made, inside_of, made_of}
use Rattle.model_page_write.specs.Nodes.{Start, Nodes, Empty, Letter, Node, node_items}
use Rattle.model_page_write.specs.Written.{letter, common_count, Writer, leaf_text, content}
use Rattle.model_page_law.specs.Formed.{IsPlainMark, ArePlainMarks}
use Rattle.model_page_law.proofs.FormedNodes.{MarksMean, IsLeaf, IsContent}
use Rattle.model_page_law.proofs.NeatForests.{NeatAttrs, NeatTag, Neat}
use Rattle.model_page_law.proofs.EscapeLemmas.{letters_back}
use Rattle.model_page_law.proofs.TagLemmas.{leaf_kind, mark_tag}
use Rattle.model_page_law.proofs.ContentLemmas.{Levels, with_text, wrapped, opens, closes, changes, leaf_element, content_levels, content_items, Reads, content-Reads, parts_if_false, child-text}
use Rattle.model_page_law.proofs.ContentText.{LeafTexts}
use Rattle.model_page_law.proofs.BlockReads.{Loose, leaf_made-inline}
use Rattle.model_page_law.proofs.CleanLemmas.{Clean, head_back, clean_tag, good_content, leaf_texts, content-Sound}
use Rattle.model_kept_law.proofs.FitFacts.{marks_content, marks_flow}
use Rattle.model_kept_law.proofs.ApartParts.{Apart}
use Rattle.model_kept_law.proofs.OwnSource.{OwnLeaf}
use Rattle.model_kept_law.proofs.LevelTexts.{Tag, canonical, Tags, own_element, own_levels, OwnTexts, own-spelling}

-- ---- forests with their leaves as they stood

abbrev respelled : List Spelled → List Spelled
respelled attrs = canon_attrs (map attr_bytes (attrs_of attrs))

-- the forest with its leaves as the writer spells them
abbrev tidy : Forest → Forest
tidy Nothing = Nothing
tidy (Text text rest) = Text text (tidy rest)
tidy (Remark text rest) = Remark text (tidy rest)
tidy (Void name attrs slash rest) = Void name (respelled attrs) false (tidy rest)
tidy (RawElement name attrs text rest) = RawElement name attrs text (tidy rest)
tidy (Element name attrs children rest) = Element name attrs (tidy children) (tidy rest)

record LeafyTag (name : List ℕ) (attrs : List Spelled) : Type 0 where
  kind : Kind
  inline : is_inline_leaf kind ≡ true
  flow : (k : Kind) → fit_of (Flow k) name Ended ≡ Leaf kind
  content : (ms : List Mark) → fit_of (Content ms) name Ended ≡ Leaf kind
  tag : NeatTag true name attrs
  free : is_held attrs ≡ false
  other : is_held (respelled attrs) ≡ false
  same : head_with (respelled attrs) ≡ head_with attrs

record LeafyMark (name : List ℕ) (attrs : List Spelled) (children : Forest) : Type 0 where
  mark : is_annotation_tag name ≡ true
  free : is_held attrs ≡ false
  child : has_child (parts_of children) ≡ true

-- texts, marks and leaves
abbrev Leafy : Forest → Type 0
Leafy Nothing = Unit {0}
Leafy (Text text rest) = Leafy rest
Leafy (Remark text rest) = ⊥
Leafy (RawElement name attrs text rest) = ⊥
Leafy (Void name attrs slash rest) = LeafyTag name attrs × Leafy rest
Leafy (Element name attrs children rest) = LeafyMark name attrs children × Leafy children × Leafy rest

child_tidy : (f : Forest) → Leafy f → has_child (parts_of f) ≡ true → has_child (parts_of (tidy f)) ≡ true
child_tidy Nothing l h = h
child_tidy (Text text rest) l h = refl
child_tidy (Remark text rest) l h = absurd l
child_tidy (RawElement name attrs text rest) l h = absurd l
child_tidy (Void name attrs slash rest) l h = ap has_child (parts_if_false (is_held (respelled attrs)) _ (Single name (respelled attrs) (start_text name (respelled attrs) false) (parts_of (tidy rest))) l.0.other)
child_tidy (Element name attrs children rest) l h = ap has_child (parts_if_false (is_held attrs) _ (Parent name attrs (parts_of (tidy children)) (parts_of (tidy rest))) l.0.free)

single_is : (name : List ℕ) (attrs : List Spelled) (slash : Bool) (rest : Forest) → is_held attrs ≡ false → parts_of (Void name attrs slash rest) ≡ Single name attrs (start_text name attrs slash) (parts_of rest)
single_is name attrs slash rest e = parts_if_false (is_held attrs) _ _ e

parent_is : (name : List ℕ) (attrs : List Spelled) (children rest : Forest) → is_held attrs ≡ false → parts_of (Element name attrs children rest) ≡ Parent name attrs (parts_of children) (parts_of rest)
parent_is name attrs children rest e = parts_if_false (is_held attrs) _ _ e

-- a void element in content
void_items : (name : List ℕ) (attrs : List Spelled) (slash : Bool) (rest : Forest) (kind : Kind) (ms : List Mark) (w : Progress) → is_held attrs ≡ false → is_inline_leaf kind ≡ true → fit_of (Content ms) name Ended ≡ Leaf kind →
    (made_of (Content ms) (parts_of (Void name attrs slash rest)) w).run.items ≡ Opening kind (head_with attrs) ms [] None false ∷ Closing kind [] ∷ (made_of (Content ms) (parts_of rest) (past w (start_text name attrs slash) [])).run.items
void_items name attrs slash rest kind ms w free inline fit =
    ap (λ x. (made_of (Content ms) x w).run.items) (single_is name attrs slash rest free)
    ∙ ap (λ m. m.run.items) (leaf_made-inline (Content ms) attrs (start_text name attrs slash) (made_of (Content ms) (parts_of rest)) w kind (fit_of (Content ms) name Ended) inline fit)

mark_items : (name : List ℕ) (attrs : List Spelled) (children rest : Forest) (ms : List Mark) (w : Progress) → is_held attrs ≡ false → fit_of (Content ms) name (parts_of children) ≡ Annotation →
    let around : Around = marked_around (Content ms) name attrs in
    let at : Progress = inside_of w name attrs in
    (made_of (Content ms) (parts_of (Element name attrs children rest)) w).run.items
    ≡ (made_of around (parts_of children) at).run.items ++ (made_of (Content ms) (parts_of rest) (past w (element_source name attrs (parts_of children)) (made_of around (parts_of children) at).owners)).run.items
mark_items name attrs children rest ms w free fit =
    ap (λ x. (made_of (Content ms) x w).run.items) (parent_is name attrs children rest free)
    ∙ ap (λ t. (element_made (Content ms) name attrs (element_source name attrs (parts_of children)) (λ a. made_of a (parts_of children)) (made_of (Content ms) (parts_of rest)) w t).run.items) fit

-- it reads the same
own_reads : (f : Forest) → Leafy f → (ms : List Mark) (w v : Progress) → (made_of (Content ms) (parts_of f) w).run.items ≡ (made_of (Content ms) (parts_of (tidy f)) v).run.items
own_reads Nothing l ms w v = refl
own_reads (Text text rest) l ms w v = ap (λ xs. map (λ c. Char c ms) (characters text) ++ xs) (own_reads rest l ms (past w text []) (past v text []))
own_reads (Remark text rest) l ms w v = absurd l
own_reads (RawElement name attrs text rest) l ms w v = absurd l
own_reads (Void name attrs slash rest) l ms w v =
    let t = l.0 in
    void_items name attrs slash rest t.kind ms w t.free t.inline (t.content ms)
    ∙ (λ i. Opening t.kind (sym t.same i) ms [] None false ∷ Closing t.kind [] ∷ own_reads rest l.1 ms (past w (start_text name attrs slash) []) (past v (start_text name (respelled attrs) false) []) i)
    ∙ sym (void_items name (respelled attrs) false (tidy rest) t.kind ms v t.other t.inline (t.content ms))
own_reads (Element name attrs children rest) l ms w v =
    let t = l.0 in
    let around : Around = marked_around (Content ms) name attrs in
    let at : Progress = inside_of w name attrs in
    let by : Progress = inside_of v name attrs in
    mark_items name attrs children rest ms w t.free (marks_content name (parts_of children) t.mark t.child ms)
    ∙ (λ i. own_reads children l.1 (ms ++ record { tag = chars name; attrs = attrs_of attrs } ∷ []) at by i
    ++ own_reads rest l.2 ms (past w (element_source name attrs (parts_of children)) (made_of around (parts_of children) at).owners) (past v (element_source name attrs (parts_of (tidy children))) (made_of around (parts_of (tidy children)) by).owners) i)
    ∙ sym (mark_items name attrs (tidy children) (tidy rest) ms v t.free (marks_content name (parts_of (tidy children)) t.mark (child_tidy children l.1 t.child) ms))

own_loose : (f : Forest) → Leafy f → (k : Kind) → Loose k f
own_loose Nothing l k = tt
own_loose (Text text rest) l k = own_loose rest l k
own_loose (Remark text rest) l k = absurd l
own_loose (RawElement name attrs text rest) l k = absurd l
own_loose (Void name attrs slash rest) l k = (l.0.free, (l.0.kind, l.0.inline, l.0.flow k, l.0.content []), own_loose rest l.1 k)
own_loose (Element name attrs children rest) l k =
    (l.0.free, marks_flow name (parts_of children) l.0.mark l.0.child k, marks_content name (parts_of children) l.0.mark l.0.child [], own_loose rest l.2 k)

own_apart : (f : Forest) → Leafy f → Apart (parts_of f)
own_apart Nothing l = tt
own_apart (Text text rest) l = own_apart rest l
own_apart (Remark text rest) l = absurd l
own_apart (RawElement name attrs text rest) l = absurd l
own_apart (Void name attrs slash rest) l = subst Apart (sym (single_is name attrs slash rest l.0.free)) (own_apart rest l.1)
own_apart (Element name attrs children rest) l = subst Apart (sym (parent_is name attrs children rest l.0.free)) (own_apart children l.1, own_apart rest l.2)

starts_tidy : (f : Forest) → starts_with_text (tidy f) ≡ false → starts_with_text f ≡ false
starts_tidy Nothing h = refl
starts_tidy (Text text rest) h = h
starts_tidy (Remark text rest) h = refl
starts_tidy (Void name attrs slash rest) h = refl
starts_tidy (RawElement name attrs text rest) h = refl
starts_tidy (Element name attrs children rest) h = refl

own_neat : (f : Forest) → Leafy f → Clean (tidy f) → Neat f
own_neat Nothing l c = tt
own_neat (Text text rest) l c = (c.0, c.1, starts_tidy rest c.2, own_neat rest l c.3)
own_neat (Remark text rest) l c = absurd l
own_neat (RawElement name attrs text rest) l c = absurd l
own_neat (Void name attrs slash rest) l c = (l.0.tag, own_neat rest l.1 c.2)
own_neat (Element name attrs children rest) l c = (c.0.0, own_neat children l.1 c.1, own_neat rest l.2 c.2)

-- ---- levels

abbrev tidy_levels : Levels → Levels
tidy_levels e = record { here = tidy e.here; outer = map tidy e.outer }

abbrev AllLeafy : List Forest → Type 0
AllLeafy [] = Unit {0}
AllLeafy (f ∷ fs) = Leafy f × AllLeafy fs

abbrev LeafyLevels : Levels → Type 0
LeafyLevels e = Leafy e.here × AllLeafy e.outer

tidy-with_text : (text : List ℕ) (f : Forest) → tidy (with_text text f) ≡ with_text text (tidy f)
tidy-with_text text Nothing = refl
tidy-with_text text (Text t rest) = refl
tidy-with_text text (Remark t rest) = refl
tidy-with_text text (Void name attrs slash rest) = refl
tidy-with_text text (RawElement name attrs t rest) = refl
tidy-with_text text (Element name attrs children rest) = refl

Leafy-with_text : (text : List ℕ) (f : Forest) → Leafy f → Leafy (with_text text f)
Leafy-with_text text Nothing l = l
Leafy-with_text text (Text t rest) l = l
Leafy-with_text text (Remark t rest) l = l
Leafy-with_text text (Void name attrs slash rest) l = l
Leafy-with_text text (RawElement name attrs t rest) l = l
Leafy-with_text text (Element name attrs children rest) l = l

tidy-wrapped : (m : Mark) (here : Forest) (outer : List Forest) → tidy_levels (wrapped m here outer) ≡ wrapped m (tidy here) (map tidy outer)
tidy-wrapped m here [] = refl
tidy-wrapped m here (o ∷ outer) = refl

tidy-opens : (ms : List Mark) (e : Levels) → tidy_levels (opens ms e) ≡ opens ms (tidy_levels e)
tidy-opens [] e = refl
tidy-opens (m ∷ ms) e = tidy-wrapped m (opens ms e).here (opens ms e).outer ∙ ap (λ x. wrapped m x.here x.outer) (tidy-opens ms e)

tidy-closes : (ms : List Mark) (e : Levels) → tidy_levels (closes ms e) ≡ closes ms (tidy_levels e)
tidy-closes [] e = refl
tidy-closes (m ∷ ms) e = tidy-closes ms (record { here = Nothing; outer = e.here ∷ e.outer })

tidy-changes : (opened marks : List Mark) (e : Levels) → tidy_levels (changes opened marks e) ≡ changes opened marks (tidy_levels e)
tidy-changes opened marks e =
    let n = common_count opened marks in tidy-closes (drop n opened) (opens (drop n marks) e) ∙ ap (closes (drop n opened)) (tidy-opens (drop n marks) e)

-- what the innermost level holds, and that it holds something
record Opened (e : Levels) : Type 0 where
  leafy : LeafyLevels e
  child : has_child (parts_of e.here) ≡ true

mark_free : (m : Mark) → IsPlainMark m → is_held (canon_attrs (map attr_bytes m.attrs)) ≡ false
mark_free m p =
    let name : List ℕ = encode_utf8_all m.tag in
    let t = mark_tag name p.tag in
    (clean_tag false name m.attrs t.name_is t.void_is t.raw_is p.attrs).1

plain_mark : (m : Mark) (children : Forest) → IsPlainMark m → has_child (parts_of children) ≡ true → LeafyMark (encode_utf8_all m.tag) (canon_attrs (map attr_bytes m.attrs)) children
plain_mark m children p c = record { mark = p.tag; free = mark_free m p; child = c }

opened-wrapped : (m : Mark) (here : Forest) (outer : List Forest) → IsPlainMark m → has_child (parts_of here) ≡ true → Leafy here → AllLeafy outer → Opened (wrapped m here outer)
opened-wrapped m here [] p c h o = record {
  leafy = ((plain_mark m here p c, h, tt), tt);
  child = ap has_child (parent_is (encode_utf8_all m.tag) (canon_attrs (map attr_bytes m.attrs)) here Nothing (mark_free m p));
}
opened-wrapped m here (f ∷ outer) p c h o = record {
  leafy = ((plain_mark m here p c, h, o.0), o.1);
  child = ap has_child (parent_is (encode_utf8_all m.tag) (canon_attrs (map attr_bytes m.attrs)) here f (mark_free m p));
}

opened-opens : (ms : List Mark) (e : Levels) → ArePlainMarks ms → Opened e → Opened (opens ms e)
opened-opens [] e p o = o
opened-opens (m ∷ ms) e p o = let i = opened-opens ms e p.1 o in opened-wrapped m (opens ms e).here (opens ms e).outer p.0 i.child i.leafy.0 i.leafy.1

leafy-closes : (ms : List Mark) (e : Levels) → LeafyLevels e → LeafyLevels (closes ms e)
leafy-closes [] e l = l
leafy-closes (m ∷ ms) e l = leafy-closes ms (record { here = Nothing; outer = e.here ∷ e.outer }) (tt, l)

plain-drop : (n : ℕ) (ms : List Mark) → ArePlainMarks ms → ArePlainMarks (drop n ms)
plain-drop zero ms p = p
plain-drop (suc n) [] p = tt
plain-drop (suc n) (m ∷ ms) p = plain-drop n ms p.1

leafy-changes : (opened marks : List Mark) (e : Levels) → ArePlainMarks marks → Opened e → LeafyLevels (changes opened marks e)
leafy-changes opened marks e p o =
    let n = common_count opened marks in leafy-closes (drop n opened) (opens (drop n marks) e) (opened-opens (drop n marks) e (plain-drop n marks p) o).leafy

-- ---- content

-- the tag of a leaf says what the leaf does
pub record OwnTag (s : Start) (tag : Tag) : Type 0 where
  pub neat : NeatAttrs tag.attrs
  pub free : is_held tag.attrs ≡ false
  pub head_is : head_with tag.attrs ≡ s.head

abbrev OwnTags : (n : Nodes) → Tags n → Type 0
OwnTags Empty t = Unit {0}
OwnTags (Letter c marks later) t = OwnTags later t
OwnTags (Node s inside pre later) t = OwnTag s t.0 × OwnTags later t.1

attrs_same : (s : Start) (tag : Tag) → OwnTag s tag → respelled tag.attrs ≡ canon_attrs (map attr_bytes s.head.attrs)
attrs_same s tag o = ap (λ h. canon_attrs (map attr_bytes h.attrs)) o.head_is

leafy_tag : (s : Start) (inside : Nodes) (pre : List ℕ) (tag : Tag) → IsLeaf s inside pre → OwnTag s tag → LeafyTag (tag_of s.kind) tag.attrs
leafy_tag s inside pre tag l o =
    let t = leaf_kind s.kind l.kind in
    let same = attrs_same s tag o in
    record {
      kind = s.kind;
      inline = t.inline;
      flow = t.flow;
      content = t.content;
      tag = record { name_is = t.name_is; void_is = t.void_is; raw_is = t.raw_is; attrs_are = o.neat };
      free = o.free;
      other = ap is_held same ∙ (clean_tag true (tag_of s.kind) s.head.attrs t.name_is t.void_is t.raw_is l.head.attrs).1;
      same = ap head_with same ∙ head_back s l.head ∙ sym o.head_is;
    }

leafy-content : (n : Nodes) (t : Tags n) (opened : List Mark) → IsContent n → OwnTags n t → LeafyLevels (own_levels n t opened)
leafy-content Empty t opened c o = leafy-closes opened (record { here = Nothing; outer = [] }) (tt, tt)
leafy-content (Letter ch marks later) t opened c o =
    let e : Levels = own_levels later t marks in
    let r = leafy-content later t marks c.2 o in
    leafy-changes opened marks (record { here = with_text (letter ch) e.here; outer = e.outer }) c.1 (record { leafy = (Leafy-with_text (letter ch) e.here r.0, r.1); child = child-text (letter ch) e.here })
leafy-content (Node s inside pre later) t opened c o =
    let e : Levels = own_levels later t.1 s.marks in
    let r = leafy-content later t.1 s.marks c.2 o.1 in
    let tag : Tag = t.0 in
    leafy-changes opened s.marks (record { here = own_element s tag e.here; outer = e.outer }) c.1
    (record { leafy = ((leafy_tag s inside pre tag c.0 o.0, r.0), r.1); child = ap has_child (single_is (tag_of s.kind) tag.attrs tag.slash e.here o.0.free) })

tidy-content : (n : Nodes) (t : Tags n) (opened : List Mark) → OwnTags n t → tidy_levels (own_levels n t opened) ≡ content_levels opened n
tidy-content Empty t opened o = tidy-closes opened (record { here = Nothing; outer = [] })
tidy-content (Letter c marks later) t opened o =
    let e : Levels = own_levels later t marks in
    tidy-changes opened marks (record { here = with_text (letter c) e.here; outer = e.outer })
    ∙ ap (λ f. changes opened marks (record { here = f; outer = map tidy e.outer })) (tidy-with_text (letter c) e.here)
    ∙ ap (λ x. changes opened marks (record { here = with_text (letter c) x.here; outer = x.outer })) (tidy-content later t marks o)
tidy-content (Node s inside pre later) t opened o =
    let e : Levels = own_levels later t.1 s.marks in
    tidy-changes opened s.marks (record { here = own_element s t.0 e.here; outer = e.outer })
    ∙ ap (λ a. changes opened s.marks (record { here = Void (tag_of s.kind) a false (tidy e.here); outer = map tidy e.outer })) (attrs_same s t.0 o.0)
    ∙ ap (λ x. changes opened s.marks (record { here = leaf_element s x.here; outer = x.outer })) (tidy-content later t.1 s.marks o.1)

-- ---- content as a writer writes it

-- the forest of content
pub record ContentWritten (w : Writer) (n : Nodes) : Type 0 where
  pub forest : Forest
  pub spells : spelling forest ≡ content w [] n
  pub neat : Neat forest
  pub loose : (k : Kind) → Loose k forest
  pub apart : Apart (parts_of forest)
  pub reads : Reads [] forest (content_items n)

tagged_content : MarksMean → (w : Writer) (n : Nodes) (t : Tags n) → IsContent n → OwnTags n t → OwnTexts w n t → ContentWritten w n
tagged_content mean w n t c o texts =
    let e : Levels = own_levels n t [] in
    let l = leafy-content n t [] c o in
    let is : tidy e.here ≡ (content_levels [] n).here = ap (λ x. x.here) (tidy-content n t [] o) in
    record {
      forest = e.here;
      spells = sym (own-spelling mean w n t texts);
      neat = own_neat e.here l.0 (subst Clean (sym is) (content-Sound P n [] c).0.clean);
      loose = own_loose e.here l.0;
      apart = own_apart e.here l.0;
      reads = λ u. own_reads e.here l.0 [] u u ∙ ap (λ f. (made_of (Content []) (parts_of f) u).run.items) is ∙ content-Reads mean letters_back n (good_content n c) u;
    }

-- each leaf that is kept has a tag that says what it does
abbrev pub LeavesKnown : Writer → Type 0
LeavesKnown w = (s : Start) (inside : Nodes) (pre part : List ℕ) → IsLeaf s inside pre → w.original s (node_items s inside pre) ≡ Some part → OwnLeaf s.kind s.head part

-- the tag of one leaf
pub record Tagged (w : Writer) (s : Start) (inside : Nodes) (pre : List ℕ) : Type 0 where
  pub tag : Tag
  pub own : OwnTag s tag
  pub text : unwrap_or (w.original s (node_items s inside pre)) (leaf_text w s s.kind) ≡ start_text (tag_of s.kind) tag.attrs tag.slash

pub tagged : (w : Writer) → LeavesKnown w → (s : Start) (inside : Nodes) (pre : List ℕ) → IsLeaf s inside pre → leaf_text w s s.kind ≡ start_text (tag_of s.kind) (canon_attrs (map attr_bytes s.head.attrs)) false →
    (o : Option (List ℕ)) → w.original s (node_items s inside pre) ≡ o → Tagged w s inside pre
tagged w known s inside pre l text None e =
    let t = leaf_kind s.kind l.kind in
    let c = clean_tag true (tag_of s.kind) s.head.attrs t.name_is t.void_is t.raw_is l.head.attrs in
    record {
      tag = canonical s;
      own = record { neat = c.0.attrs_are; free = c.1; head_is = head_back s l.head };
      text = ap (λ o. unwrap_or o (leaf_text w s s.kind)) e ∙ text;
    }
tagged w known s inside pre l text (Some part) e =
    let o = known s inside pre part l e in
    record {
      tag = record { attrs = o.attrs; slash = o.slash };
      own = record { neat = o.attrs_are; free = o.free; head_is = o.head_is };
      text = ap (λ x. unwrap_or x (leaf_text w s s.kind)) e ∙ o.is;
    }

-- the tags of all leaves
record AllTagged (w : Writer) (n : Nodes) : Type 0 where
  tags : Tags n
  own : OwnTags n tags
  texts : OwnTexts w n tags

all_tagged : (w : Writer) → LeavesKnown w → (n : Nodes) → IsContent n → LeafTexts w n → AllTagged w n
all_tagged w known Empty c t = record { tags = tt; own = tt; texts = tt }
all_tagged w known (Letter ch marks later) c t = let a = all_tagged w known later c.2 t in record { tags = a.tags; own = a.own; texts = a.texts }
all_tagged w known (Node s inside pre later) c t =
    let a = all_tagged w known later c.2 t.1 in
    let o = tagged w known s inside pre c.0 t.0 (w.original s (node_items s inside pre)) refl in
    record { tags = (o.tag, a.tags); own = (o.own, a.own); texts = (o.text, a.texts) }

pub content_written : MarksMean → (w : Writer) → LeavesKnown w → (n : Nodes) → IsContent n → ContentWritten w n
content_written mean w known n c = let a = all_tagged w known n c (leaf_texts w n c) in tagged_content mean w n a.tags c a.own a.texts
