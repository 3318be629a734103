-- Content is written as the forest that its levels make spells.
use Rattle.std.proofs.Common.{◌≡◌, ℕ, zero, suc, ◌+◌, ◌≤◌, false, List, [], ◌∷◌, ◌++◌, length, take, drop, reverse, map, None, refl, sym, ap, ◌∙◌, append_assoc, arith}
use Rattle.std.proofs.lemmas.List.{append-nil, reverse-append}
use Rattle.std.proofs.lemmas.List.Concat.{flat_map-append}
use Rattle.std.specs.Prelude.{flat_map, unwrap_or}
use Rattle.model_spelling.specs.Grammar.{start_text}
use Rattle.model_spelling.specs.Forest.{Forest, Nothing, Text, Remark, Void, RawElement, Element, spelling}
use Rattle.model_spelling.specs.Written.{canon_attrs, attr_bytes}
use Rattle.ve_base.specs.declared.marks.Mark.{Mark}
use Rattle.model_page_write.specs.Nodes.{Start, Nodes, Empty, Letter, Node, Carried, node_items}
use Rattle.model_page_write.specs.Written.{letter, common_count, mark_start, mark_end, marks_changed, Writer, leaf_text, content}
use Rattle.model_page.specs.Tags.{tag_of}
use Rattle.model_page_law.proofs.ContentLemmas.{Levels, with_text, mark_element, wrapped, opens, closes, changes, leaf_element, content_levels, Common-count, length-closes, drop-next}
use Rattle.model_page_law.proofs.FormedNodes.{MarksMean}

-- the end of the mark at this position, outermost first
abbrev pub end_at : ℕ → List Mark → List ℕ
end_at k ms = flat_map mark_end (take 1 (drop k ms))

-- the text of levels inside of the marks ms
abbrev pub levels_text : List Mark → Forest → List Forest → List ℕ
levels_text ms here [] = spelling here
levels_text ms here (o ∷ outer) = spelling here ++ (end_at (length outer) ms ++ levels_text ms o outer)

-- a longer text before
prefix_text : (ms : List Mark) (a b : Forest) (outer : List Forest) (text : List ℕ) → spelling b ≡ text ++ spelling a → levels_text ms b outer ≡ text ++ levels_text ms a outer
prefix_text ms a b [] text e = e
prefix_text ms a b (o ∷ outer) text e =
    ap (λ s. s ++ (end_at (length outer) ms ++ levels_text ms o outer)) e ∙ append_assoc text (spelling a) (end_at (length outer) ms ++ levels_text ms o outer)

spelling-with_text : (text : List ℕ) (f : Forest) → spelling (with_text text f) ≡ text ++ spelling f
spelling-with_text text (Text t rest) = append_assoc text t (spelling rest)
spelling-with_text text Nothing = refl
spelling-with_text text (Remark t rest) = refl
spelling-with_text text (Void name attrs slash rest) = refl
spelling-with_text text (RawElement name attrs t rest) = refl
spelling-with_text text (Element name attrs children rest) = refl

end_at-next : (k : ℕ) (M : List Mark) (m : Mark) (ms : List Mark) → drop k M ≡ m ∷ ms → end_at k M ≡ mark_end m
end_at-next k M m ms e = ap (λ l. flat_map mark_end (take 1 l)) e ∙ append-nil (mark_end m)

-- a mark is opened before
wrapped-text : (M : List Mark) (m : Mark) (here o : Forest) (outer : List Forest) → end_at (length outer) M ≡ mark_end m →
    levels_text M (mark_element m here o) outer ≡ mark_start m ++ levels_text M here (o ∷ outer)
wrapped-text M m here o outer e =
    prefix_text M o (mark_element m here o) outer (mark_start m ++ spelling here ++ mark_end m) refl
    ∙ append_assoc (mark_start m ++ spelling here) (mark_end m) (levels_text M o outer)
    ∙ append_assoc (mark_start m) (spelling here) (mark_end m ++ levels_text M o outer)
    ∙ ap (λ s. mark_start m ++ (spelling here ++ (s ++ levels_text M o outer))) (sym e)

-- opened marks: their starts, and the level that is left
pub record OpenedText (M ms : List Mark) (k : ℕ) (e : Levels) (text : List ℕ) : Type 0 where
  pub is : levels_text M e.here e.outer ≡ flat_map mark_start ms ++ text
  pub level : length e.outer ≡ k

opened_text-step : (M : List Mark) (m : Mark) (ms : List Mark) (k : ℕ) (here : Forest) (outer : List Forest) (text : List ℕ) → end_at k M ≡ mark_end m → length outer ≡ suc k →
    levels_text M here outer ≡ flat_map mark_start ms ++ text → OpenedText M (m ∷ ms) k (wrapped m here outer) text
opened_text-step M m ms k here [] text e l t = cc
opened_text-step M m ms k here (o ∷ outer) text e l t =
    let at : length outer ≡ k = omega (arith, l) in
    record {
      is =
          wrapped-text M m here o outer (ap (λ n. end_at n M) at ∙ e)
          ∙ ap (λ s. mark_start m ++ s) t
          ∙ sym (append_assoc (mark_start m) (flat_map mark_start ms) text);
      level = at;
    }

opens-text : (ms M : List Mark) (k : ℕ) (e : Levels) → drop k M ≡ ms → k + length ms ≡ length e.outer → OpenedText M ms k (opens ms e) (levels_text M e.here e.outer)
opens-text [] M k e d l = record { is = refl; level = omega (arith, l) }
opens-text (m ∷ ms) M k e d l =
    let n = drop-next k M m ms d in
    let inner = opens-text ms M (suc k) e n.0 (omega (arith, l)) in
    opened_text-step M m ms k (opens ms e).here (opens ms e).outer (levels_text M e.here e.outer) (end_at-next k M m ms d) inner.level inner.is

ends-reverse : (c : Mark) (cs : List Mark) → flat_map mark_end (reverse (c ∷ cs)) ≡ flat_map mark_end (reverse cs) ++ mark_end c
ends-reverse c cs =
    ap (flat_map mark_end) (reverse-append (c ∷ []) cs) ∙ flat_map-append mark_end (reverse cs) (c ∷ []) ∙ ap (λ s. flat_map mark_end (reverse cs) ++ s) (append-nil (mark_end c))

closes-text : (cs M : List Mark) (k : ℕ) (e : Levels) → drop k M ≡ cs → length e.outer ≡ k → levels_text M (closes cs e).here (closes cs e).outer ≡ flat_map mark_end (reverse cs) ++ levels_text M e.here e.outer
closes-text [] M k e d l = refl
closes-text (c ∷ cs) M k e d l =
    let n = drop-next k M c cs d in
    let next : Levels = record { here = Nothing; outer = e.here ∷ e.outer } in
    closes-text cs M (suc k) next n.0 (omega (arith, l))
    ∙ ap (λ s. flat_map mark_end (reverse cs) ++ (s ++ levels_text M e.here e.outer)) (ap (λ j. end_at j M) l ∙ end_at-next k M c cs d)
    ∙ sym (append_assoc (flat_map mark_end (reverse cs)) (mark_end c) (levels_text M e.here e.outer))
    ∙ ap (λ s. s ++ levels_text M e.here e.outer) (sym (ends-reverse c cs))

-- below a level the marks that it shares are enough
same_text : (M N : List Mark) (here : Forest) (outer : List Forest) → ((k : ℕ) → k ≤ length outer → take k M ≡ take k N) → levels_text M here outer ≡ levels_text N here outer
same_text M N here [] e = refl
same_text M N here (o ∷ outer) e =
    (λ i. spelling here ++ (same_end M N (length outer) (e (suc (length outer)) (omega arith)) i ++ same_text M N o outer (λ k le. e k (omega (arith, le))) i))
  where
    same_end : (M N : List Mark) (k : ℕ) → take (suc k) M ≡ take (suc k) N → end_at k M ≡ end_at k N
    same_end M N k e = ap (λ l. flat_map mark_end l) (take_one k M ∙ ap (λ l. drop k l) e ∙ sym (take_one k N))
      where
        take_one : (k : ℕ) (M : List Mark) → take 1 (drop k M) ≡ drop k (take (suc k) M)
        take_one zero M = refl
        take_one (suc k) [] = refl
        take_one (suc k) (x ∷ M) = take_one k M

changes-text : MarksMean → (opened marks : List Mark) (e : Levels) → length e.outer ≡ length marks →
    levels_text opened (changes opened marks e).here (changes opened marks e).outer ≡ marks_changed opened marks ++ levels_text marks e.here e.outer
changes-text mean opened marks e l =
    let n : ℕ = common_count opened marks in
    let c = Common-count mean opened marks in
    let inner : Levels = opens (drop n marks) e in
    let o = opens-text (drop n marks) marks n e refl (c.right ∙ sym l) in
    closes-text (drop n opened) opened n inner refl o.level
    ∙ ap (λ s. flat_map mark_end (reverse (drop n opened)) ++ s)
    (sym (same_text marks opened inner.here inner.outer (λ k le. let m = o.level in c.prefix k (omega (arith, le, m)))) ∙ o.is)
    ∙ sym (append_assoc (flat_map mark_end (reverse (drop n opened))) (flat_map mark_start (drop n marks)) (levels_text marks e.here e.outer))

changes-level : MarksMean → (opened marks : List Mark) (e : Levels) → length e.outer ≡ length marks → length (changes opened marks e).outer ≡ length opened
changes-level mean opened marks e l =
    let n : ℕ = common_count opened marks in
    let c = Common-count mean opened marks in
    let inner : Levels = opens (drop n marks) e in
    let o = opens-text (drop n marks) marks n e refl (c.right ∙ sym l) in
    let k = length-closes (drop n opened) inner in
    let m = o.level in
    let d = c.left in
    omega (arith, k, m, d)

-- each leaf is written as its tag
abbrev pub LeafTexts : Writer → Nodes → Type 0
LeafTexts w Empty = Unit {0}
LeafTexts w (Letter c marks later) = LeafTexts w later
LeafTexts w (Node s inside pre later) = (leaf_text w s s.kind ≡ start_text (tag_of s.kind) (canon_attrs (map attr_bytes s.head.attrs)) false) × LeafTexts w later

-- no node keeps its original bytes
abbrev pub KeepsNone : Writer → Type 0
KeepsNone w = (s : Start) (items : List Carried) → w.original s items ≡ None

closing-text : (w : Writer) (opened : List Mark) → content w opened Empty ≡ levels_text opened (content_levels opened Empty).here (content_levels opened Empty).outer
closing-text w [] = refl
closing-text w (m ∷ ms) = sym (closes-text (m ∷ ms) (m ∷ ms) 0 (record { here = Nothing; outer = [] }) refl refl)

pub content-text : MarksMean → (w : Writer) → KeepsNone w → (opened : List Mark) (n : Nodes) → LeafTexts w n →
    (content w opened n ≡ levels_text opened (content_levels opened n).here (content_levels opened n).outer) × (length (content_levels opened n).outer ≡ length opened)
content-text mean w none opened Empty t =
    (closing-text w opened, (let l = length-closes opened (record { here = Nothing; outer = [] }) in omega (arith, l)))
content-text mean w none opened (Letter c marks later) t =
    let e : Levels = content_levels marks later in
    let r = content-text mean w none marks later t in
    let e2 : Levels = record { here = with_text (letter c) e.here; outer = e.outer } in (
      ap (λ s. marks_changed opened marks ++ letter c ++ s) r.0
          ∙ append_assoc (marks_changed opened marks) (letter c) (levels_text marks e.here e.outer)
          ∙ ap (λ s. marks_changed opened marks ++ s) (sym (prefix_text marks e.here e2.here e.outer (letter c) (spelling-with_text (letter c) e.here)))
          ∙ sym (changes-text mean opened marks e2 r.1),
      changes-level mean opened marks e2 r.1,
    )
content-text mean w none opened (Node s inside pre later) t =
    let e : Levels = content_levels s.marks later in
    let r = content-text mean w none s.marks later t.1 in
    let tag : List ℕ = start_text (tag_of s.kind) (canon_attrs (map attr_bytes s.head.attrs)) false in
    let e2 : Levels = record { here = leaf_element s e.here; outer = e.outer } in (
      ap (λ o. marks_changed opened s.marks ++ unwrap_or o (leaf_text w s s.kind) ++ content w s.marks later) (none s (node_items s inside pre))
          ∙ (λ i. marks_changed opened s.marks ++ t.0 i ++ r.0 i)
          ∙ append_assoc (marks_changed opened s.marks) tag (levels_text s.marks e.here e.outer)
          ∙ ap (λ x. marks_changed opened s.marks ++ x) (sym (prefix_text s.marks e.here e2.here e.outer tag refl))
          ∙ sym (changes-text mean opened s.marks e2 r.1),
      changes-level mean opened s.marks e2 r.1,
    )

-- content is written as its forest is spelled
pub content-spelling : MarksMean → (w : Writer) → KeepsNone w → (n : Nodes) → LeafTexts w n → content w [] n ≡ spelling (content_levels [] n).here
content-spelling mean w none n t =
    let r = content-text mean w none [] n t in r.0 ∙ levels_alone (content_levels [] n).here (content_levels [] n).outer r.1
  where
    levels_alone : (here : Forest) (outer : List Forest) → length outer ≡ 0 → levels_text [] here outer ≡ spelling here
    levels_alone here [] l = refl
    levels_alone here (o ∷ outer) l = cc
