-- A content forest in a flow parent makes the run that it makes in content.
use Rattle.std.proofs.Common.{◌≡◌, ℕ, Bool, true, false, if◌then◌else◌, List, [], ◌∷◌, ◌++◌, map, None, refl, sym, ap, ◌∙◌, subst, append_assoc}
use Rattle.std.proofs.lemmas.List.{map-append, append-nil}
use Rattle.std.proofs.lemmas.Str.{encodes-IsAscii, chars-IsAscii}
use Rattle.std.specs.Prelude.{chars, encode_utf8_all}
use Rattle.model_spelling.specs.Written.{canon_attrs, attr_bytes}
use Rattle.model_spelling.specs.Grammar.{Attr as Spelled, start_text, end_text}
use Rattle.model_spelling.specs.Forest.{Forest, Nothing, Text, Remark, Void, RawElement, Element, spelling}
use Rattle.ve_kinds.specs.declared.kind.Kind.{Kind}
use Rattle.ve_kinds.specs.declared.kind.Kind.TheVariants.{P}
use Rattle.model_items.specs.declared.plain_item.PlainItem.{PlainItem}
use Rattle.model_items.specs.declared.plain_item.PlainItem.TheVariants.{Char, Opening, Closing}
use Rattle.model_page.specs.Elements.{is_white, is_held}
use Rattle.model_page.specs.Parts.{Parts, Ended, Single, Parent, parts_of}
use Rattle.model_page.specs.Fit.{Around, Flow, Structural, Content, Fit, Annotation, Leaf, Branch, around_in, fit_of}
use Rattle.ve_kinds.specs.Table.{is_inline_leaf}
use Rattle.model_page.specs.Tags.{tag_of}
use Rattle.model_page.specs.Fragment.{item_unmade}
use Rattle.model_page.specs.Heads.{characters, head_with}
use Rattle.model_page.specs.Pieces.{node, items_after, white_left, with_white, run_dropped, paragraph_before, run_ended, run_closed, Owner, Piece, Made, Progress, past, source_span, leaf, chars_piece, in_run, before_run}
use Rattle.model_page.specs.Convert.{inside_piece, leaf_made, marks_at, marked_around, element_source, element_made, inside_of, made_of}
use Rattle.ve_base.specs.Empty.{empty_head}
use Rattle.model_page_law.proofs.SourceLemmas.{parts_of-source}
use Rattle.model_page_write.specs.Nodes.{Start}
use Rattle.model_page_law.proofs.TileLemmas.{white-IsAscii, run_ended-source}
use Rattle.model_page_law.proofs.ContentLemmas.{Reads}
use Rattle.model_page_law.proofs.BlockText.{followed_by, white_before, block_element}

-- where so placed, the forest makes no run before, these items (but for what is generated), and
-- this whitespace after them
pub record AtBlock (around : Around) (f : Forest) (items : List PlainItem) (pre : List ℕ) : Type 0 where
  pub source : (w : Progress) → (made_of around (parts_of f) w).source ≡ []
  pub run : (w : Progress) → (made_of around (parts_of f) w).run.items ≡ []
  pub later : (w : Progress) → map item_unmade (made_of around (parts_of f) w).later.items ≡ items
  pub white : (w : Progress) → (made_of around (parts_of f) w).pre ≡ pre

-- texts, leaves br and img, and annotations, of which none is held
abbrev pub Loose : Kind → Forest → Type 0
Loose k Nothing = Unit {0}
Loose k (Text text rest) = Loose k rest
Loose k (Remark text rest) = ⊥
Loose k (RawElement name attrs text rest) = ⊥
Loose k (Void name attrs slash rest) =
    (is_held attrs ≡ false)
    × ((kind : Kind) × (is_inline_leaf kind ≡ true) × (fit_of (Flow k) name Ended ≡ Leaf kind) × (fit_of (Content []) name Ended ≡ Leaf kind))
    × Loose k rest
Loose k (Element name attrs children rest) =
    (is_held attrs ≡ false)
    × (fit_of (Flow k) name (parts_of children) ≡ Annotation)
    × (fit_of (Content []) name (parts_of children) ≡ Annotation)
    × Loose k rest

-- what stands before a block: a run with the items that content makes, and its source
pub record RunBefore (m content : Made) (source : List ℕ) (items : List PlainItem) (pre : List ℕ) : Type 0 where
  pub run : m.run.items ≡ content.run.items
  pub source_is : m.source ≡ source
  pub later : map item_unmade m.later.items ≡ items
  pub white : m.pre ≡ pre

-- one more part in the run of both
RunBefore-in_run : (piece : Piece) (part : List ℕ) (owners : List Owner) (m content : Made) (source : List ℕ) (items : List PlainItem) (pre : List ℕ) →
    RunBefore m content source items pre → RunBefore (in_run piece part owners m) (in_run piece part owners content) (part ++ source) items pre
RunBefore-in_run piece part owners m content source items pre r = record {
  run = ap (λ xs. piece.items ++ xs) r.run;
  source_is = ap (λ s. part ++ s) r.source_is;
  later = r.later;
  white = r.white;
}

parts_if_false : (c : Bool) (a b : Parts) → c ≡ false → (if c then a else b) ≡ b
parts_if_false true a b e = cc
parts_if_false false a b e = refl

made_if_true : (c : Bool) (a b : Made) → c ≡ true → (if c then a else b) ≡ a
made_if_true true a b e = refl
made_if_true false a b e = cc

pub leaf_made-inline : (around : Around) (attrs : List Spelled) (part : List ℕ) (later : Progress → Made) (w : Progress) (kind : Kind) (fit : Fit) → is_inline_leaf kind ≡ true → fit ≡ Leaf kind →
    leaf_made around attrs part later w fit ≡ in_run (leaf kind (head_with attrs) (marks_at around) (source_span w part)) part [] (later (past w part []))
leaf_made-inline around attrs part later w kind fit i e = ap (leaf_made around attrs part later w) e ∙ made_if_true (is_inline_leaf kind) _ _ i

pub run-followed_by : (k : Kind) (f rest : Forest) (items : List PlainItem) (pre : List ℕ) → Loose k f → AtBlock (Flow k) rest items pre → (w : Progress) →
    RunBefore (made_of (Flow k) (parts_of (followed_by f rest)) w) (made_of (Content []) (parts_of f) w) (spelling f) items pre
run-followed_by k Nothing rest items pre l b w = record { run = b.run w; source_is = b.source w; later = b.later w; white = b.white w }
run-followed_by k (Text text more) rest items pre l b w =
    let p : Progress = past w text [] in
    RunBefore-in_run (chars_piece [] (characters text)) text [] (made_of (Flow k) (parts_of (followed_by more rest)) p) (made_of (Content []) (parts_of more) p) (spelling more) items pre
    (run-followed_by k more rest items pre l b p)
run-followed_by k (Remark text more) rest items pre l b w = absurd l
run-followed_by k (RawElement name attrs text more) rest items pre l b w = absurd l
run-followed_by k (Void name attrs slash more) rest items pre l b w =
    let part : List ℕ = start_text name attrs slash in
    let p : Progress = past w part [] in
    let fit = l.1 in
    let flow : Progress → Made = made_of (Flow k) (parts_of (followed_by more rest)) in
    let content : Progress → Made = made_of (Content []) (parts_of more) in
    let piece : Piece = leaf fit.0 (head_with attrs) [] (source_span w part) in
    let e : made_of (Flow k) (parts_of (followed_by (Void name attrs slash more) rest)) w ≡ in_run piece part [] (flow p) =
    ap (λ x. made_of (Flow k) x w) (parts_if_false (is_held attrs) _ (Single name attrs part (parts_of (followed_by more rest))) l.0)
    ∙ leaf_made-inline (Flow k) attrs part flow w fit.0 (fit_of (Flow k) name Ended) fit.1 fit.2 in
    let g : made_of (Content []) (parts_of (Void name attrs slash more)) w ≡ in_run piece part [] (content p) =
    ap (λ x. made_of (Content []) x w) (parts_if_false (is_held attrs) _ (Single name attrs part (parts_of more)) l.0)
    ∙ leaf_made-inline (Content []) attrs part content w fit.0 (fit_of (Content []) name Ended) fit.1 fit.3 in
    subst (λ m. RunBefore m (made_of (Content []) (parts_of (Void name attrs slash more)) w) (part ++ spelling more) items pre) (sym e)
    (subst (λ m. RunBefore (in_run piece part [] (flow p)) m (part ++ spelling more) items pre) (sym g)
    (RunBefore-in_run piece part [] (flow p) (content p) (spelling more) items pre (run-followed_by k more rest items pre l.2 b p)))
run-followed_by k (Element name attrs children more) rest items pre l b w =
    let part : List ℕ = element_source name attrs (parts_of children) in
    let inside : Made = made_of (marked_around (Flow k) name attrs) (parts_of children) (inside_of w name attrs) in
    let p : Progress = past w part inside.owners in
    let flow : Progress → Made = made_of (Flow k) (parts_of (followed_by more rest)) in
    let content : Progress → Made = made_of (Content []) (parts_of more) in
    let e : made_of (Flow k) (parts_of (followed_by (Element name attrs children more) rest)) w ≡ in_run inside.run part inside.owners (flow p) =
    ap (λ x. made_of (Flow k) x w) (parts_if_false (is_held attrs) _ (Parent name attrs (parts_of children) (parts_of (followed_by more rest))) l.0)
    ∙ ap (element_made (Flow k) name attrs part (λ a. made_of a (parts_of children)) flow w) l.1 in
    let g : made_of (Content []) (parts_of (Element name attrs children more)) w ≡ in_run inside.run part inside.owners (content p) =
    ap (λ x. made_of (Content []) x w) (parts_if_false (is_held attrs) _ (Parent name attrs (parts_of children) (parts_of more)) l.0)
    ∙ ap (element_made (Content []) name attrs part (λ a. made_of a (parts_of children)) content w) l.2 in
    let same : part ++ spelling more ≡ spelling (Element name attrs children more) = ap (λ s. start_text name attrs false ++ s ++ end_text name ++ spelling more) (parts_of-source children) in
    subst (λ s. RunBefore (made_of (Flow k) (parts_of (followed_by (Element name attrs children more) rest)) w) (made_of (Content []) (parts_of (Element name attrs children more)) w) s items pre) same
    (subst (λ m. RunBefore m (made_of (Content []) (parts_of (Element name attrs children more)) w) (part ++ spelling more) items pre) (sym e)
    (subst (λ m. RunBefore (in_run inside.run part inside.owners (flow p)) m (part ++ spelling more) items pre) (sym g)
    (RunBefore-in_run inside.run part inside.owners (flow p) (content p) (spelling more) items pre (run-followed_by k more rest items pre l.3 b p))))

-- ---- blocks, and what stands before them

-- where so placed, the forest makes these items, its run closed, and leaves this whitespace
pub record Closes (around : Around) (f : Forest) (items : List PlainItem) (pre : List ℕ) : Type 0 where
  pub later : (w : Progress) → map item_unmade (run_closed w (made_of around (parts_of f) w)).later.items ≡ items
  pub white : (w : Progress) → (run_closed w (made_of around (parts_of f) w)).pre ≡ pre

pub Closes-AtBlock : (around : Around) (f : Forest) (items : List PlainItem) (pre : List ℕ) → AtBlock around f items pre → Closes around f items pre
Closes-AtBlock around f items pre b = record {
  later = λ w. let m = made_of around (parts_of f) w in ap (λ s. map item_unmade (run_ended s w m).later.items) (b.source w) ∙ b.later w;
  white = λ w. let m = made_of around (parts_of f) w in ap (λ s. (run_ended s w m).pre) (b.source w) ∙ b.white w;
}

pub AtBlock-nothing : (around : Around) → AtBlock around Nothing [] []
AtBlock-nothing around = record { source = λ w. refl; run = λ w. refl; later = λ w. refl; white = λ w. refl }

run_ended-run : (part : List ℕ) (w : Progress) (m : Made) → (run_ended part w m).run.items ≡ []
run_ended-run [] w m = refl
run_ended-run (b ∷ bs) w m = chosen_run (is_white (b ∷ bs)) (with_white (chars (b ∷ bs)) (run_dropped m)) (paragraph_before (source_span w (b ∷ bs)) m) refl refl
  where
    chosen_run : (c : Bool) (a b : Made) → a.run.items ≡ [] → b.run.items ≡ [] → (if c then a else b).run.items ≡ []
    chosen_run true a b e f = e
    chosen_run false a b e f = f

-- what stands inside of a branch reads as these items, and this whitespace before its closing
pub record Inside (kind : Kind) (f : Forest) (items : List PlainItem) (pre : List ℕ) : Type 0 where
  pub later : (w : Progress) → map item_unmade (inside_piece (around_in kind) w (made_of (around_in kind) (parts_of f) w)).later.items ≡ items
  pub white : (w : Progress) → (inside_piece (around_in kind) w (made_of (around_in kind) (parts_of f) w)).pre ≡ pre

pub AtBlock-element : (around : Around) (s : Start) (inner rest : Forest) (xs ys : List PlainItem) (pre closing : List ℕ) →
    fit_of around (tag_of s.kind) (parts_of inner) ≡ Branch s.kind → is_held (canon_attrs (map attr_bytes s.head.attrs)) ≡ false → head_with (canon_attrs (map attr_bytes s.head.attrs)) ≡ s.head →
    Inside s.kind inner xs pre → Closes around rest ys closing →
    AtBlock around (block_element s inner rest) (Opening s.kind s.head [] [] None false ∷ xs ++ Closing s.kind pre ∷ ys) closing
AtBlock-element around s inner rest xs ys pre closing fits free head i c =
    record {
      source = λ w. ap (λ m. m.source) (is w) ∙ run_ended-source (made_of around (parts_of rest) (suffix w)).source (suffix w) (made_of around (parts_of rest) (suffix w));
      run = λ w. ap (λ m. m.run.items) (is w) ∙ run_ended-run (made_of around (parts_of rest) (suffix w)).source (suffix w) (made_of around (parts_of rest) (suffix w));
      later = λ w.
          ap (λ m. map item_unmade m.later.items) (is w)
          ∙ map-append item_unmade (Opening s.kind (head_with attrs) [] [] None false ∷ (inside w).later.items ++ Closing s.kind (inside w).pre ∷ []) (run_closed (suffix w) (made_of around (parts_of rest) (suffix w))).later.items
          ∙ ap (λ zs. Opening s.kind (head_with attrs) [] [] None false ∷ zs ++ map item_unmade (run_closed (suffix w) (made_of around (parts_of rest) (suffix w))).later.items) (map-append item_unmade (inside w).later.items (Closing s.kind (inside w).pre ∷ []))
          ∙ (λ j. Opening s.kind (head j) [] [] None false ∷ (i.later (at w) j ++ Closing s.kind (i.white (at w) j) ∷ []) ++ c.later (suffix w) j)
          ∙ ap (λ zs. Opening s.kind s.head [] [] None false ∷ zs) (append_assoc xs (Closing s.kind pre ∷ []) ys);
      white = λ w. ap (λ m. m.pre) (is w) ∙ c.white (suffix w);
    }
  where
    attrs : List Spelled
    attrs = canon_attrs (map attr_bytes s.head.attrs)

    name : List ℕ
    name = tag_of s.kind

    part : List ℕ
    part = element_source name attrs (parts_of inner)

    at : Progress → Progress
    at w = inside_of w name attrs

    inside : Progress → Made
    inside w = inside_piece (around_in s.kind) (at w) (made_of (around_in s.kind) (parts_of inner) (at w))

    suffix : Progress → Progress
    suffix w = past w part (inside w).owners

    is : (w : Progress) → made_of around (parts_of (block_element s inner rest)) w ≡ before_run (suffix w) (node s.kind (head_with attrs) [] false (source_span w part) (inside w).later (inside w).pre) (inside w).owners (made_of around (parts_of rest) (suffix w))
    is w =
        ap (λ x. made_of around x w) (parts_if_false (is_held attrs) _ (Parent name attrs (parts_of inner) (parts_of rest)) free)
        ∙ ap (element_made around name attrs part (λ a. made_of a (parts_of inner)) (made_of around (parts_of rest)) w) fits

-- ---- whitespace before blocks

unmade-after : (white : List ℕ) (ys : List PlainItem) → map item_unmade (items_after white ys) ≡ items_after white (map item_unmade ys)
unmade-after white [] = refl
unmade-after white (Opening kind head marks pre origin generated ∷ ys) = refl
unmade-after white (Closing kind pre ∷ ys) = refl
unmade-after white (Char c marks ∷ ys) = refl

white_left-unmade : (white : List ℕ) (ys : List PlainItem) (pre : List ℕ) → white_left white ys pre ≡ white_left white (map item_unmade ys) pre
white_left-unmade white [] pre = refl
white_left-unmade white (y ∷ ys) pre = refl

items_after-nil : (ys : List PlainItem) → ys ≡ items_after [] ys
items_after-nil [] = refl
items_after-nil (Opening kind head marks pre origin generated ∷ ys) = refl
items_after-nil (Closing kind pre ∷ ys) = refl
items_after-nil (Char c marks ∷ ys) = refl

white_left-nil : (ys : List PlainItem) (pre : List ℕ) → pre ≡ white_left [] ys pre
white_left-nil [] pre = refl
white_left-nil (y ∷ ys) pre = refl

pub white_bytes : (white : List ℕ) → is_white white ≡ true → encode_utf8_all white ≡ white
white_bytes white h = encodes-IsAscii white (white-IsAscii white h)

pub white_chars : (white : List ℕ) → is_white white ≡ true → chars white ≡ white
white_chars white h = chars-IsAscii white (white-IsAscii white h)

-- what with_white makes of items that are these
later-white : (text white : List ℕ) (m : Made) (xs : List PlainItem) → text ≡ white → map item_unmade m.later.items ≡ xs → map item_unmade (with_white text m).later.items ≡ items_after white xs
later-white text white m xs e f = unmade-after text m.later.items ∙ (λ i. items_after (e i) (f i))

pre-white : (text white : List ℕ) (m : Made) (xs : List PlainItem) (pre : List ℕ) → text ≡ white → map item_unmade m.later.items ≡ xs → m.pre ≡ pre → (with_white text m).pre ≡ white_left white xs pre
pre-white text white m xs pre e f g = white_left-unmade text m.later.items m.pre ∙ (λ i. white_left (e i) (f i) (g i))

pub AtBlock-white : (k : Kind) (white : List ℕ) (f : Forest) (xs : List PlainItem) (pre : List ℕ) → is_white white ≡ true → AtBlock (Structural k) f xs pre →
    AtBlock (Structural k) (white_before white f) (items_after white xs) (white_left white xs pre)
AtBlock-white k [] f xs pre h b = record { source = b.source; run = b.run; later = λ w. b.later w ∙ items_after-nil xs; white = λ w. b.white w ∙ white_left-nil xs pre }
AtBlock-white k (c ∷ cs) f xs pre h b =
    let t : List ℕ = encode_utf8_all (c ∷ cs) in
    let e : chars t ≡ c ∷ cs = ap chars (white_bytes (c ∷ cs) h) ∙ white_chars (c ∷ cs) h in
    record {
      source = λ w. b.source (past w t []);
      run = λ w. b.run (past w t []);
      later = λ w. later-white (chars t) (c ∷ cs) (made_of (Structural k) (parts_of f) (past w t [])) xs e (b.later (past w t []));
      white = λ w. pre-white (chars t) (c ∷ cs) (made_of (Structural k) (parts_of f) (past w t [])) xs pre e (b.later (past w t [])) (b.white (past w t []));
    }

pub Closes-white : (k : Kind) (white : List ℕ) (f : Forest) (xs : List PlainItem) (pre : List ℕ) → is_white white ≡ true → AtBlock (Flow k) f xs pre →
    Closes (Flow k) (white_before white f) (items_after white xs) (white_left white xs pre)
Closes-white k [] f xs pre h b =
    let c = Closes-AtBlock (Flow k) f xs pre b in record { later = λ w. c.later w ∙ items_after-nil xs; white = λ w. c.white w ∙ white_left-nil xs pre }
Closes-white k (c ∷ cs) f xs pre h b = record {
  later = λ w. ap (λ m. map item_unmade m.later.items) (is w) ∙ later-white (chars (c ∷ cs)) (c ∷ cs) (run_dropped (made w)) xs (white_chars (c ∷ cs) h) (b.later (past w t []));
  white = λ w. ap (λ m. m.pre) (is w) ∙ pre-white (chars (c ∷ cs)) (c ∷ cs) (run_dropped (made w)) xs pre (white_chars (c ∷ cs) h) (b.later (past w t [])) (b.white (past w t []));
}
  where
    t : List ℕ
    t = encode_utf8_all (c ∷ cs)

    made : Progress → Made
    made w = in_run (chars_piece [] (characters t)) t [] (made_of (Flow k) (parts_of f) (past w t []))

    is : (w : Progress) → run_closed w (made w) ≡ with_white (chars (c ∷ cs)) (run_dropped (made w))
    is w =
        ap (λ s. run_ended s w (made w)) (ap (λ s. t ++ s) (b.source (past w t [])) ∙ append-nil t ∙ white_bytes (c ∷ cs) h)
        ∙ made_if_true (is_white (c ∷ cs)) _ _ h

-- ---- a bare paragraph

made_if_false : (c : Bool) (a b : Made) → c ≡ false → (if c then a else b) ≡ b
made_if_false true a b e = cc
made_if_false false a b e = refl

run_ended-paragraph : (part : List ℕ) (w : Progress) (m : Made) → is_white part ≡ false → run_ended part w m ≡ paragraph_before (source_span w part) m
run_ended-paragraph [] w m h = cc
run_ended-paragraph (b ∷ bs) w m h = made_if_false (is_white (b ∷ bs)) _ _ h

-- content before a block is read as a paragraph
pub Closes-bare : (k : Kind) (f rest : Forest) (xs ys : List PlainItem) (pre : List ℕ) → Loose k f → is_white (spelling f) ≡ false → Reads [] f xs → AtBlock (Flow k) rest ys pre →
    Closes (Flow k) (followed_by f rest) (Opening P empty_head [] [] None false ∷ map item_unmade xs ++ Closing P [] ∷ ys) pre
Closes-bare k f rest xs ys pre l h reads b = record {
  later = λ w.
      let m = made w in
      ap (λ n. map item_unmade n.later.items) (is w)
      ∙ map-append item_unmade (Opening P empty_head [] [] None true ∷ m.run.items ++ Closing P [] ∷ []) m.later.items
      ∙ ap (λ zs. Opening P empty_head [] [] None false ∷ zs ++ map item_unmade m.later.items) (map-append item_unmade m.run.items (Closing P [] ∷ []))
      ∙ (λ j. Opening P empty_head [] [] None false ∷ (map item_unmade (((before w).run ∙ reads w) j) ++ Closing P [] ∷ []) ++ (before w).later j)
      ∙ ap (λ zs. Opening P empty_head [] [] None false ∷ zs) (append_assoc (map item_unmade xs) (Closing P [] ∷ []) ys);
  white = λ w. ap (λ n. n.pre) (is w) ∙ (before w).white;
}
  where
    made : Progress → Made
    made w = made_of (Flow k) (parts_of (followed_by f rest)) w

    before : (w : Progress) → RunBefore (made w) (made_of (Content []) (parts_of f) w) (spelling f) ys pre
    before w = run-followed_by k f rest ys pre l b w

    is : (w : Progress) → run_closed w (made w) ≡ paragraph_before (source_span w (spelling f)) (made w)
    is w = ap (λ s. run_ended s w (made w)) (before w).source_is ∙ run_ended-paragraph (spelling f) w (made w) h
