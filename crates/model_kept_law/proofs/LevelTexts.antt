-- The text of levels whose marks are changed, as the writer's content is; and of levels that keep
-- their leaves as they stood.
use Rattle.std.proofs.Common.{◌≡◌, ℕ, zero, suc, ◌+◌, ◌≤◌, Bool, false, List, [], ◌∷◌, ◌++◌, length, take, drop, reverse, map, refl, sym, ap, ◌∙◌, append_assoc, arith}
use Rattle.std.proofs.lemmas.List.{append-nil, reverse-append}
use Rattle.std.proofs.lemmas.List.Concat.{flat_map-append}
use Rattle.std.specs.Prelude.{flat_map, unwrap_or}
use Rattle.model_spelling.specs.Grammar.{Attr as Spelled, start_text}
use Rattle.model_spelling.specs.Forest.{Forest, Nothing, Text, Remark, Void, RawElement, Element, spelling}
use Rattle.model_spelling.specs.Written.{canon_attrs, attr_bytes}
use Rattle.ve_base.specs.declared.marks.Mark.{Mark}
use Rattle.model_page_write.specs.Nodes.{Start, Nodes, Empty, Letter, Node, node_items}
use Rattle.model_page_write.specs.Written.{letter, common_count, mark_start, mark_end, marks_changed, Writer, leaf_text, content}
use Rattle.model_page.specs.Tags.{tag_of}
use Rattle.model_page_law.proofs.ContentLemmas.{Levels, with_text, mark_element, wrapped, opens, closes, changes, Common-count, length-closes, drop-next}
use Rattle.model_page_law.proofs.ContentText.{end_at, levels_text, OpenedText}
use Rattle.model_page_law.proofs.FormedNodes.{MarksMean}

-- a longer text before
pub prefix_text : (ms : List Mark) (a b : Forest) (outer : List Forest) (text : List ℕ) → spelling b ≡ text ++ spelling a → levels_text ms b outer ≡ text ++ levels_text ms a outer
prefix_text ms a b [] text e = e
prefix_text ms a b (o ∷ outer) text e =
    ap (λ s. s ++ (end_at (length outer) ms ++ levels_text ms o outer)) e ∙ append_assoc text (spelling a) (end_at (length outer) ms ++ levels_text ms o outer)

pub spelling-with_text : (text : List ℕ) (f : Forest) → spelling (with_text text f) ≡ text ++ spelling f
spelling-with_text text (Text t rest) = append_assoc text t (spelling rest)
spelling-with_text text Nothing = refl
spelling-with_text text (Remark t rest) = refl
spelling-with_text text (Void name attrs slash rest) = refl
spelling-with_text text (RawElement name attrs t rest) = refl
spelling-with_text text (Element name attrs children rest) = refl

end_at-next : (k : ℕ) (M : List Mark) (m : Mark) (ms : List Mark) → drop k M ≡ m ∷ ms → end_at k M ≡ mark_end m
end_at-next k M m ms e = ap (λ l. flat_map mark_end (take 1 l)) e ∙ append-nil (mark_end m)

-- a mark is opened before
wrapped-text : (M : List Mark) (m : Mark) (here o : Forest) (outer : List Forest) → end_at (length outer) M ≡ mark_end m →
    levels_text M (mark_element m here o) outer ≡ mark_start m ++ levels_text M here (o ∷ outer)
wrapped-text M m here o outer e =
    prefix_text M o (mark_element m here o) outer (mark_start m ++ spelling here ++ mark_end m) refl
    ∙ append_assoc (mark_start m ++ spelling here) (mark_end m) (levels_text M o outer)
    ∙ append_assoc (mark_start m) (spelling here) (mark_end m ++ levels_text M o outer)
    ∙ ap (λ s. mark_start m ++ (spelling here ++ (s ++ levels_text M o outer))) (sym e)

opened_text-step : (M : List Mark) (m : Mark) (ms : List Mark) (k : ℕ) (here : Forest) (outer : List Forest) (text : List ℕ) → end_at k M ≡ mark_end m → length outer ≡ suc k →
    levels_text M here outer ≡ flat_map mark_start ms ++ text → OpenedText M (m ∷ ms) k (wrapped m here outer) text
opened_text-step M m ms k here [] text e l t = cc
opened_text-step M m ms k here (o ∷ outer) text e l t =
    let at : length outer ≡ k = omega (arith, l) in
    record {
      is =
          wrapped-text M m here o outer (ap (λ n. end_at n M) at ∙ e)
          ∙ ap (λ s. mark_start m ++ s) t
          ∙ sym (append_assoc (mark_start m) (flat_map mark_start ms) text);
      level = at;
    }

opens-text : (ms M : List Mark) (k : ℕ) (e : Levels) → drop k M ≡ ms → k + length ms ≡ length e.outer → OpenedText M ms k (opens ms e) (levels_text M e.here e.outer)
opens-text [] M k e d l = record { is = refl; level = omega (arith, l) }
opens-text (m ∷ ms) M k e d l =
    let n = drop-next k M m ms d in
    let inner = opens-text ms M (suc k) e n.0 (omega (arith, l)) in
    opened_text-step M m ms k (opens ms e).here (opens ms e).outer (levels_text M e.here e.outer) (end_at-next k M m ms d) inner.level inner.is

ends-reverse : (c : Mark) (cs : List Mark) → flat_map mark_end (reverse (c ∷ cs)) ≡ flat_map mark_end (reverse cs) ++ mark_end c
ends-reverse c cs =
    ap (flat_map mark_end) (reverse-append (c ∷ []) cs) ∙ flat_map-append mark_end (reverse cs) (c ∷ []) ∙ ap (λ s. flat_map mark_end (reverse cs) ++ s) (append-nil (mark_end c))

pub closes-text : (cs M : List Mark) (k : ℕ) (e : Levels) → drop k M ≡ cs → length e.outer ≡ k → levels_text M (closes cs e).here (closes cs e).outer ≡ flat_map mark_end (reverse cs) ++ levels_text M e.here e.outer
closes-text [] M k e d l = refl
closes-text (c ∷ cs) M k e d l =
    let n = drop-next k M c cs d in
    let next : Levels = record { here = Nothing; outer = e.here ∷ e.outer } in
    closes-text cs M (suc k) next n.0 (omega (arith, l))
    ∙ ap (λ s. flat_map mark_end (reverse cs) ++ (s ++ levels_text M e.here e.outer)) (ap (λ j. end_at j M) l ∙ end_at-next k M c cs d)
    ∙ sym (append_assoc (flat_map mark_end (reverse cs)) (mark_end c) (levels_text M e.here e.outer))
    ∙ ap (λ s. s ++ levels_text M e.here e.outer) (sym (ends-reverse c cs))

-- below a level the marks that it shares are enough
same_text : (M N : List Mark) (here : Forest) (outer : List Forest) → ((k : ℕ) → k ≤ length outer → take k M ≡ take k N) → levels_text M here outer ≡ levels_text N here outer
same_text M N here [] e = refl
same_text M N here (o ∷ outer) e =
    (λ i. spelling here ++ (same_end M N (length outer) (e (suc (length outer)) (omega arith)) i ++ same_text M N o outer (λ k le. e k (omega (arith, le))) i))
  where
    same_end : (M N : List Mark) (k : ℕ) → take (suc k) M ≡ take (suc k) N → end_at k M ≡ end_at k N
    same_end M N k e = ap (λ l. flat_map mark_end l) (take_one k M ∙ ap (λ l. drop k l) e ∙ sym (take_one k N))
      where
        take_one : (k : ℕ) (M : List Mark) → take 1 (drop k M) ≡ drop k (take (suc k) M)
        take_one zero M = refl
        take_one (suc k) [] = refl
        take_one (suc k) (x ∷ M) = take_one k M

pub changes-text : MarksMean → (opened marks : List Mark) (e : Levels) → length e.outer ≡ length marks →
    levels_text opened (changes opened marks e).here (changes opened marks e).outer ≡ marks_changed opened marks ++ levels_text marks e.here e.outer
changes-text mean opened marks e l =
    let n : ℕ = common_count opened marks in
    let c = Common-count mean opened marks in
    let inner : Levels = opens (drop n marks) e in
    let o = opens-text (drop n marks) marks n e refl (c.right ∙ sym l) in
    closes-text (drop n opened) opened n inner refl o.level
    ∙ ap (λ s. flat_map mark_end (reverse (drop n opened)) ++ s)
    (sym (same_text marks opened inner.here inner.outer (λ k le. let m = o.level in c.prefix k (omega (arith, le, m)))) ∙ o.is)
    ∙ sym (append_assoc (flat_map mark_end (reverse (drop n opened))) (flat_map mark_start (drop n marks)) (levels_text marks e.here e.outer))

pub changes-level : MarksMean → (opened marks : List Mark) (e : Levels) → length e.outer ≡ length marks → length (changes opened marks e).outer ≡ length opened
changes-level mean opened marks e l =
    let n : ℕ = common_count opened marks in
    let c = Common-count mean opened marks in
    let inner : Levels = opens (drop n marks) e in
    let o = opens-text (drop n marks) marks n e refl (c.right ∙ sym l) in
    let k = length-closes (drop n opened) inner in
    let m = o.level in
    let d = c.left in
    omega (arith, k, m, d)

-- ---- levels with their own leaves

-- how a leaf's tag is spelled
pub record Tag : Type 0 where
  pub attrs : List Spelled
  pub slash : Bool

abbrev pub canonical : Start → Tag
canonical s = record { attrs = canon_attrs (map attr_bytes s.head.attrs); slash = false }

-- a tag for each leaf
abbrev pub Tags : Nodes → Type 0
Tags Empty = Unit {0}
Tags (Letter c marks later) = Tags later
Tags (Node s inside pre later) = Tag × Tags later

abbrev pub own_element : Start → Tag → Forest → Forest
own_element s tag rest = Void (tag_of s.kind) tag.attrs tag.slash rest

abbrev pub own_levels : (n : Nodes) → Tags n → List Mark → Levels
own_levels Empty t opened = closes opened (record { here = Nothing; outer = [] })
own_levels (Letter c marks later) t opened =
    let e = own_levels later t marks in changes opened marks (record { here = with_text (letter c) e.here; outer = e.outer })
own_levels (Node s inside pre later) t opened =
    let e = own_levels later t.1 s.marks in changes opened s.marks (record { here = own_element s t.0 e.here; outer = e.outer })

-- each leaf is written as its tag
abbrev pub OwnTexts : Writer → (n : Nodes) → Tags n → Type 0
OwnTexts w Empty t = Unit {0}
OwnTexts w (Letter c marks later) t = OwnTexts w later t
OwnTexts w (Node s inside pre later) t =
    (unwrap_or (w.original s (node_items s inside pre)) (leaf_text w s s.kind) ≡ start_text (tag_of s.kind) t.0.attrs t.0.slash) × OwnTexts w later t.1

closing-text : (w : Writer) (opened : List Mark) → content w opened Empty ≡ levels_text opened (own_levels Empty tt opened).here (own_levels Empty tt opened).outer
closing-text w [] = refl
closing-text w (m ∷ ms) = sym (closes-text (m ∷ ms) (m ∷ ms) 0 (record { here = Nothing; outer = [] }) refl refl)

own-text : MarksMean → (w : Writer) (n : Nodes) (t : Tags n) (opened : List Mark) → OwnTexts w n t →
    (content w opened n ≡ levels_text opened (own_levels n t opened).here (own_levels n t opened).outer) × (length (own_levels n t opened).outer ≡ length opened)
own-text mean w Empty t opened o = (closing-text w opened, (let l = length-closes opened (record { here = Nothing; outer = [] }) in omega (arith, l)))
own-text mean w (Letter c marks later) t opened o =
    let e : Levels = own_levels later t marks in
    let r = own-text mean w later t marks o in
    let e2 : Levels = record { here = with_text (letter c) e.here; outer = e.outer } in (
      ap (λ s. marks_changed opened marks ++ letter c ++ s) r.0
          ∙ append_assoc (marks_changed opened marks) (letter c) (levels_text marks e.here e.outer)
          ∙ ap (λ s. marks_changed opened marks ++ s) (sym (prefix_text marks e.here e2.here e.outer (letter c) (spelling-with_text (letter c) e.here)))
          ∙ sym (changes-text mean opened marks e2 r.1),
      changes-level mean opened marks e2 r.1,
    )
own-text mean w (Node s inside pre later) t opened o =
    let e : Levels = own_levels later t.1 s.marks in
    let r = own-text mean w later t.1 s.marks o.1 in
    let tag : List ℕ = start_text (tag_of s.kind) t.0.attrs t.0.slash in
    let e2 : Levels = record { here = own_element s t.0 e.here; outer = e.outer } in (
      (λ i. marks_changed opened s.marks ++ o.0 i ++ r.0 i)
          ∙ append_assoc (marks_changed opened s.marks) tag (levels_text s.marks e.here e.outer)
          ∙ ap (λ x. marks_changed opened s.marks ++ x) (sym (prefix_text s.marks e.here e2.here e.outer tag refl))
          ∙ sym (changes-text mean opened s.marks e2 r.1),
      changes-level mean opened s.marks e2 r.1,
    )

-- content is written as the forest of its levels is spelled
pub own-spelling : MarksMean → (w : Writer) (n : Nodes) (t : Tags n) → OwnTexts w n t → content w [] n ≡ spelling (own_levels n t []).here
own-spelling mean w n t o = let r = own-text mean w n t [] o in r.0 ∙ levels_alone (own_levels n t []).here (own_levels n t []).outer r.1
  where
    levels_alone : (here : Forest) (outer : List Forest) → length outer ≡ 0 → levels_text [] here outer ≡ spelling here
    levels_alone here [] l = refl
    levels_alone here (o ∷ outer) l = cc
