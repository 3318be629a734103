-- Content that has something isn't written as whitespace, leaves no whitespace, and no forest
-- without held elements has owners.
use Rattle.std.proofs.Common.{◌≡◌, ℕ, Bool, true, false, not, ◌||◌, ◌==◌, if◌then◌else◌, List, [], ◌∷◌, ◌++◌, map, refl, sym, ap, ◌∙◌, subst, arith, inl, inr}
use Rattle.std.proofs.lemmas.Bool.{and_parts, cases_Bool}
use Rattle.std.proofs.lemmas.Grind.{common_steps}
use Rattle.std.specs.Prelude.{chars}
use Rattle.model_spelling.specs.Grammar.{Attr as Spelled, start_text}
use Rattle.model_spelling.specs.Forest.{Forest, Nothing, Text, Remark, Void, RawElement, Element, spelling}
use Rattle.model_spelling.specs.Written.{decoded_from}
use Rattle.ve_kinds.specs.declared.kind.Kind.{Kind}
use Rattle.ve_base.specs.declared.head.Head.{Head}
use Rattle.ve_base.specs.declared.marks.Mark.{Mark}
use Rattle.model_items.specs.declared.plain_item.PlainItem.{PlainItem}
use Rattle.model_items.specs.declared.plain_item.PlainItem.TheVariants.{Char, Opening, Closing}
use Rattle.model_page.specs.Elements.{is_white_char, is_white, is_held}
use Rattle.model_page.specs.Parts.{Ended, Single, Parent, parts_of}
use Rattle.model_page.specs.Fit.{Around, Flow, Structural, Content, Fit, Annotation, Leaf, Branch, Whole, around_in, note_kind, fit_of}
use Rattle.ve_kinds.specs.Table.{is_inline_leaf}
use Rattle.model_page.specs.Heads.{characters, head_with, whole_head}
use Rattle.model_page.specs.Pieces.{Made, Progress, past, source_span, leaf, in_run, before_run, run_dropped, with_white, paragraph_before, run_ended, leaf_before}
use Rattle.model_page.specs.Convert.{leaf_made, element_source, element_made, inside_of, inside_piece, marked_around, words_before, marks_at, made_of}
use Rattle.model_page_write.specs.Nodes.{Nodes, Empty, Letter, Node}
use Rattle.model_page_write.specs.Written.{has_content}
use Rattle.model_page_law.proofs.EscapeLemmas.{decoded-byte, decoded-nil}
use Rattle.model_page_law.proofs.InlinedLemmas.{is_white-parts}
use Rattle.model_page_law.proofs.ContentLemmas.{Reads, content_items, parts_if_false}
use Rattle.model_page_law.proofs.BlockReads.{Loose, white_chars, leaf_made-inline}
use Rattle.model_page_law.proofs.CleanLemmas.{Clean}

-- ---- whitespace

-- whitespace characters without marks
abbrev Blank : List PlainItem → Type 0
Blank [] = Unit {0}
Blank (Char c [] ∷ items) = (is_white_char c ≡ true) × Blank items
Blank (Char c (m ∷ ms) ∷ items) = ⊥
Blank (Opening kind head marks pre origin generated ∷ items) = ⊥
Blank (Closing kind pre ∷ items) = ⊥

has_content-Blank : (n : Nodes) → Blank (content_items n) → has_content n ≡ false
has_content-Blank Empty b = refl
has_content-Blank (Letter c [] later) b = (λ i. not (b.0 i) || not true || has_content-Blank later b.1 i)
has_content-Blank (Letter c (m ∷ ms) later) b = absurd b
has_content-Blank (Node s inside pre later) b = absurd b

Blank-letters : (text : List ℕ) (items : List PlainItem) → is_white text ≡ true → Blank items → Blank (map (λ c. Char c []) text ++ items)
Blank-letters [] items h b = b
Blank-letters (c ∷ cs) items h b = let p = and_parts (is_white_char c) (is_white cs) h in (p.0, Blank-letters cs items p.1 b)

not_ampersand : (c : ℕ) → is_white_char c ≡ true → (c == 38) ≡ false
not_ampersand c h = grind (arith, common_steps)

decoded-blank : (text : List ℕ) → is_white text ≡ true → decoded_from 0 text ≡ text
decoded-blank [] h = decoded-nil
decoded-blank (c ∷ cs) h =
    let p = and_parts (is_white_char c) (is_white cs) h in decoded-byte c cs (not_ampersand c p.0) ∙ ap (λ s. c ∷ s) (decoded-blank cs p.1)

characters-blank : (text : List ℕ) → is_white text ≡ true → characters text ≡ text
characters-blank text h = ap chars (decoded-blank text h) ∙ white_chars text h

Blank-made_of : (k : Kind) (f : Forest) → Loose k f → is_white (spelling f) ≡ true → (w : Progress) → Blank (made_of (Content []) (parts_of f) w).run.items
Blank-made_of k Nothing l h w = tt
Blank-made_of k (Text text rest) l h w =
    let p = is_white-parts text (spelling rest) h in
    let after : Progress = past w text [] in
    subst (λ cs. Blank (map (λ c. Char c []) cs ++ (made_of (Content []) (parts_of rest) after).run.items)) (sym (characters-blank text p.0))
    (Blank-letters text (made_of (Content []) (parts_of rest) after).run.items p.0 (Blank-made_of k rest l p.1 after))
Blank-made_of k (Remark text rest) l h w = absurd l
Blank-made_of k (RawElement name attrs text rest) l h w = absurd l
Blank-made_of k (Void name attrs slash rest) l h w = cc
Blank-made_of k (Element name attrs children rest) l h w = cc

-- content that has something is not written as whitespace
pub content-not_white : (k : Kind) (n : Nodes) (f : Forest) → Loose k f → Reads [] f (content_items n) → has_content n ≡ true → is_white (spelling f) ≡ false
content-not_white k n f l reads has =
    elim (cases_Bool (is_white (spelling f))) [
      | inr e ↦ e
      | inl e ↦
          let w : Progress = record { at = 0; owners = []; editable = false } in
          let none : has_content n ≡ false = has_content-Blank n (subst Blank (reads w) (Blank-made_of k f l e w)) in
          absurd (true_is_false (sym has ∙ none))
    ]
  where
    true_is_false : true ≡ false → ⊥
    true_is_false e = cc

-- ---- content leaves no whitespace

pub Loose-pre : (k : Kind) (f : Forest) → Loose k f → (w : Progress) → (made_of (Content []) (parts_of f) w).pre ≡ []
Loose-pre k Nothing l w = refl
Loose-pre k (Text text rest) l w = Loose-pre k rest l (past w text [])
Loose-pre k (Remark text rest) l w = absurd l
Loose-pre k (RawElement name attrs text rest) l w = absurd l
Loose-pre k (Void name attrs slash rest) l w =
    let part : List ℕ = start_text name attrs slash in
    let fit = l.1 in
    ap (λ x. (made_of (Content []) x w).pre) (parts_if_false (is_held attrs) _ (Single name attrs part (parts_of rest)) l.0)
    ∙ ap (λ m. m.pre) (leaf_made-inline (Content []) attrs part (made_of (Content []) (parts_of rest)) w fit.0 (fit_of (Content []) name Ended) fit.1 fit.3)
    ∙ Loose-pre k rest l.2 (past w part [])
Loose-pre k (Element name attrs children rest) l w =
    let part : List ℕ = element_source name attrs (parts_of children) in
    let inside : Made = made_of (marked_around (Content []) name attrs) (parts_of children) (inside_of w name attrs) in
    ap (λ x. (made_of (Content []) x w).pre) (parts_if_false (is_held attrs) _ (Parent name attrs (parts_of children) (parts_of rest)) l.0)
    ∙ ap (λ t. (element_made (Content []) name attrs part (λ a. made_of a (parts_of children)) (made_of (Content []) (parts_of rest)) w t).pre) l.2
    ∙ Loose-pre k rest l.3 (past w part inside.owners)

-- ---- no owners

pub run_ended-owners : (part : List ℕ) (w : Progress) (m : Made) → (run_ended part w m).owners ≡ m.owners
run_ended-owners [] w m = refl
run_ended-owners (b ∷ bs) w m = chosen (is_white (b ∷ bs)) (with_white (chars (b ∷ bs)) (run_dropped m)) (paragraph_before (source_span w (b ∷ bs)) m) refl refl
  where
    chosen : (c : Bool) (x y : Made) → x.owners ≡ m.owners → y.owners ≡ m.owners → (if c then x else y).owners ≡ m.owners
    chosen true x y e f = e
    chosen false x y e f = f

leaf_before-owners : (w : Progress) (kind : Kind) (head : Head) (marks : List Mark) (part : List ℕ) (m : Made) → m.owners ≡ [] → (leaf_before w kind head marks part [] m).owners ≡ []
leaf_before-owners w kind head marks part m e =
    chosen (is_inline_leaf kind) (in_run (leaf kind head marks (source_span w part)) part [] m) (before_run (past w part []) (leaf kind head marks (source_span w part)) [] m)
    e (run_ended-owners m.source (past w part []) m ∙ e)
  where
    chosen : (c : Bool) (x y : Made) → x.owners ≡ [] → y.owners ≡ [] → (if c then x else y).owners ≡ []
    chosen true x y e f = e
    chosen false x y e f = f

leaf_made-owners : (around : Around) (attrs : List Spelled) (part : List ℕ) (later : Progress → Made) (w : Progress) (fit : Fit) → ((v : Progress) → (later v).owners ≡ []) →
    (leaf_made around attrs part later w fit).owners ≡ []
leaf_made-owners around attrs part later w (Leaf kind) h = leaf_before-owners w kind (head_with attrs) (marks_at around) part (later (past w part [])) (h (past w part []))
leaf_made-owners around attrs part later w (Whole kind) h = leaf_before-owners w kind (whole_head part) (marks_at around) part (later (past w part [])) (h (past w part []))
leaf_made-owners around attrs part later w Annotation h = leaf_before-owners w (note_kind around) (whole_head part) (marks_at around) part (later (past w part [])) (h (past w part []))
leaf_made-owners around attrs part later w (Branch kind) h = leaf_before-owners w (note_kind around) (whole_head part) (marks_at around) part (later (past w part [])) (h (past w part []))

inside_piece-owners : (around : Around) (w : Progress) (m : Made) → (inside_piece around w m).owners ≡ m.owners
inside_piece-owners (Content marks) w m = refl
inside_piece-owners (Flow kind) w m = run_ended-owners m.source w m
inside_piece-owners (Structural kind) w m = refl

element_made-owners : (around : Around) (name : List ℕ) (attrs : List Spelled) (part : List ℕ) (children : Around → Progress → Made) (later : Progress → Made) (w : Progress) (fit : Fit) →
    ((a : Around) (v : Progress) → (children a v).owners ≡ []) → ((v : Progress) → (later v).owners ≡ []) → (element_made around name attrs part children later w fit).owners ≡ []
element_made-owners around name attrs part children later w Annotation g h =
    let inside : Made = children (marked_around around name attrs) (inside_of w name attrs) in
    (λ i. g (marked_around around name attrs) (inside_of w name attrs) i ++ h (past w part inside.owners) i)
element_made-owners around name attrs part children later w (Branch kind) g h =
    let at : Progress = inside_of w name attrs in
    let inside : Made = inside_piece (around_in kind) at (children (around_in kind) at) in
    let after : Progress = past w part inside.owners in
    (λ i. (inside_piece-owners (around_in kind) at (children (around_in kind) at) ∙ g (around_in kind) at) i ++ (run_ended-owners (later after).source after (later after) ∙ h after) i)
element_made-owners around name attrs part children later w (Leaf kind) g h = leaf_made-owners around attrs part later w (Leaf kind) h
element_made-owners around name attrs part children later w (Whole kind) g h = leaf_made-owners around attrs part later w (Whole kind) h

words_before-owners : (around : Around) (text : List ℕ) (m : Made) → (words_before around text m).owners ≡ m.owners
words_before-owners (Content marks) text m = refl
words_before-owners (Flow kind) text m = refl
words_before-owners (Structural kind) text m = refl

pub Clean-owners : (f : Forest) → Clean f → (around : Around) (w : Progress) → (made_of around (parts_of f) w).owners ≡ []
Clean-owners Nothing c around w = refl
Clean-owners (Text text rest) c around w =
    words_before-owners around text (made_of around (parts_of rest) (past w text [])) ∙ Clean-owners rest c.3 around (past w text [])
Clean-owners (Remark text rest) c around w = absurd c
Clean-owners (RawElement name attrs text rest) c around w = absurd c
Clean-owners (Void name attrs slash rest) c around w =
    let part : List ℕ = start_text name attrs slash in
    ap (λ x. (made_of around x w).owners) (parts_if_false (is_held attrs) _ (Single name attrs part (parts_of rest)) c.0.1)
    ∙ leaf_made-owners around attrs part (made_of around (parts_of rest)) w (fit_of around name Ended) (Clean-owners rest c.2 around)
Clean-owners (Element name attrs children rest) c around w =
    ap (λ x. (made_of around x w).owners) (parts_if_false (is_held attrs) _ (Parent name attrs (parts_of children) (parts_of rest)) c.0.1)
    ∙ element_made-owners around name attrs (element_source name attrs (parts_of children)) (λ a. made_of a (parts_of children)) (made_of around (parts_of rest)) w (fit_of around name (parts_of children))
    (Clean-owners children c.1) (Clean-owners rest c.2 around)
