-- The limit on marks is the position of the 65th mark of the first item that has one.
use Rattle.std.specs.Option.{option_or}
use Rattle.std.specs.Prelude.{chars, nat_lt, slice_get}
use Rattle.std.proofs.Common.{◌≡◌, ◌≤◌, ℕ, zero, suc, ◌+◌, Bool, true, false, ◌&&◌, if◌then◌else◌, List, [], ◌∷◌, ◌++◌, length, map, Option, Some, None, refl, sym, ap, ◌∙◌, arith}
use Rattle.std.proofs.lemmas.Bool.{ltb-false, ltb-true}
use Rattle.std.proofs.lemmas.List.{length-append}
use Rattle.ve_base.specs.Limits.{max_marks}
use Rattle.ve_base.specs.declared.marks.Mark.{Mark}
use Rattle.ve_kinds.specs.Table.{is_content_branch, is_flow, may_hold}
use Rattle.ve_kinds.specs.Tags.{kind_of_tag}
use Rattle.ve_kinds.specs.declared.kind.Kind.{Kind}
use Rattle.ve_kinds.specs.declared.kind.Kind.TheVariants.{AlienBlock}
use Rattle.model_spelling.specs.Forest.{spelling}
use Rattle.model_spelling.specs.Grammar.{Attr as Spelled, Comment, start_text, token_text}
use Rattle.model_page.specs.Convert.{element_source, marked_around, marks_at}
use Rattle.model_page.specs.Fit.{Annotation, Around, Branch, Content, Fit, Flow, Leaf, Structural, Whole, around_in, fit_in_block, fit_in_content, fit_of, has_child, is_convertible}
use Rattle.model_page.specs.Heads.{attrs_of, characters}
use Rattle.model_page.specs.Limits.{marked_at}
use Rattle.model_page.specs.Parts.{Ended, Group, Note, Parent, Parts, Single, Words}
use Rattle.model_page.specs.Tags.{is_inline_tag}
use Rattle.model_page_write.specs.Written.{is_empty}
use Rattle.model_page_law.proofs.MarkedLemmas.{FitsContent, FitsContent-kind, Texted}
use Rattle.model_limit_law.specs.Counted.{mark_places}
use Rattle.model_limit_law.proofs.FirstLemmas.{first_marked, past_none}

-- ---- lists of positions

or_assoc : (a b c : Option ℕ) → option_or (option_or a b) c ≡ option_or a (option_or b c)
or_assoc None b c = refl
or_assoc (Some n) b c = refl

pub first_marked-append : (xs ys : List (List ℕ)) → first_marked (xs ++ ys) ≡ option_or (first_marked xs) (first_marked ys)
first_marked-append [] ys = refl
first_marked-append (x ∷ xs) ys = ap (option_or (slice_get x max_marks)) (first_marked-append xs ys) ∙ sym (or_assoc (slice_get x max_marks) (first_marked xs) (first_marked ys))

letters_none : (outer text : List ℕ) (rest : List (List ℕ)) → slice_get outer max_marks ≡ None → first_marked (map (λ (c : ℕ). outer) text ++ rest) ≡ first_marked rest
letters_none outer [] rest e = refl
letters_none outer (c ∷ text) rest e = ap (λ o. option_or o (first_marked (map (λ (d : ℕ). outer) text ++ rest))) e ∙ letters_none outer text rest e

one_none : (outer : List ℕ) (rest : List (List ℕ)) → slice_get outer max_marks ≡ None → first_marked (outer ∷ rest) ≡ first_marked rest
one_none outer rest e = ap (λ o. option_or o (first_marked rest)) e

one_some : (outer : List ℕ) (rest : List (List ℕ)) (at : ℕ) → slice_get outer max_marks ≡ Some at → first_marked (outer ∷ rest) ≡ Some at
one_some outer rest at e = ap (λ o. option_or o (first_marked rest)) e

letters_some : (outer text : List ℕ) (rest : List (List ℕ)) (at : ℕ) → is_empty text ≡ false → slice_get outer max_marks ≡ Some at → first_marked (map (λ (c : ℕ). outer) text ++ rest) ≡ Some at
letters_some outer [] rest at h e = cc
letters_some outer (c ∷ text) rest at h e = one_some outer (map (λ (d : ℕ). outer) text ++ rest) at e

kept_at : (xs ys : List ℕ) (n at : ℕ) → slice_get xs n ≡ Some at → slice_get (xs ++ ys) n ≡ Some at
kept_at [] ys n at e = cc
kept_at (x ∷ xs) ys zero at e = e
kept_at (x ∷ xs) ys (suc n) at e = kept_at xs ys n at e

added_at : (xs : List ℕ) (n at : ℕ) → length xs ≡ n → slice_get (xs ++ at ∷ []) n ≡ Some at
added_at [] zero at e = refl
added_at [] (suc n) at e = cc
added_at (x ∷ xs) zero at e = cc
added_at (x ∷ xs) (suc n) at e = added_at xs n at (omega (arith, e))

-- ---- what an element becomes

-- a mark has something in it
abbrev pub MayMark : Parts → Fit → Type 0
MayMark children Annotation = has_child children ≡ true
MayMark children _ = Unit {0}

content_marks : (children : Parts) (fit : Fit) → FitsContent children fit → MayMark children fit
content_marks children Annotation f = f
content_marks children (Leaf kind) f = tt
content_marks children (Branch kind) f = tt
content_marks children (Whole kind) f = tt

block_marks : (parent : Kind) (children : Parts) (kind : Option Kind) → MayMark children (fit_in_block parent children kind)
block_marks parent children None = tt
block_marks parent children (Some kind) =
    elim (may_hold parent kind && is_convertible kind children) as (λ b. MayMark children (if b then Branch kind else Whole AlienBlock)) [ true ↦ tt | false ↦ tt ]

pub may_mark : (around : Around) (name : List ℕ) (children : Parts) → MayMark children (fit_of around name children)
may_mark (Content marks) name children = content_marks children (fit_in_content name children (kind_of_tag name)) (FitsContent-kind name children (kind_of_tag name))
may_mark (Flow parent) name children =
    elim (is_inline_tag name) as (λ b. MayMark children (if b then fit_in_content name children (kind_of_tag name) else fit_in_block parent children (kind_of_tag name))) [
      | true ↦ content_marks children (fit_in_content name children (kind_of_tag name)) (FitsContent-kind name children (kind_of_tag name))
      | false ↦ block_marks parent children (kind_of_tag name)
    ]
may_mark (Structural parent) name children = block_marks parent children (kind_of_tag name)

-- ---- where 65 marks are open, the first part has them

abbrev pub places_by : List ℕ → Around → List ℕ → List Spelled → Parts → Parts → ℕ → ℕ → ℕ → Fit → List (List ℕ)
places_by outer around name attrs children later at inside end fit = elim fit [
  | Annotation ↦ mark_places (outer ++ at ∷ []) (marked_around around name attrs) children inside ++ mark_places outer around later end
  | Branch kind ↦ mark_places [] (around_in kind) children inside ++ mark_places outer around later end
  | _ ↦ outer ∷ mark_places outer around later end
]

leads : (parts : Parts) → has_child parts ≡ true → Texted parts → (outer : List ℕ) (marks : List Mark) (at n : ℕ) → slice_get outer max_marks ≡ Some n → first_marked (mark_places outer (Content marks) parts at) ≡ Some n
leads Ended c t outer marks at n e = cc
leads (Words text later) c t outer marks at n e = letters_some outer (characters text) (mark_places outer (Content marks) later (at + length text)) n t.0 e
leads (Note text later) c t outer marks at n e = one_some outer (mark_places outer (Content marks) later (at + length (token_text (Comment text)))) n e
leads (Group nodes later) c t outer marks at n e = one_some outer (mark_places outer (Content marks) later (at + length (spelling nodes))) n e
leads (Single name attrs source later) c t outer marks at n e = one_some outer (mark_places outer (Content marks) later (at + length source)) n e
leads (Parent name attrs children later) c t outer marks at n e =
    by (fit_of (Content marks) name children) (FitsContent-kind name children (kind_of_tag name)) (λ f. leads children f t.0)
  where
    inside : ℕ
    inside = at + length (start_text name attrs false)

    end : ℕ
    end = at + length (element_source name attrs children)

    by : (fit : Fit) → FitsContent children fit →
        (has_child children ≡ true → (o : List ℕ) (ms : List Mark) (p k : ℕ) → slice_get o max_marks ≡ Some k → first_marked (mark_places o (Content ms) children p) ≡ Some k) →
        first_marked (places_by outer (Content marks) name attrs children later at inside end fit) ≡ Some n
    by Annotation f inner =
        let ms = marks ++ record { tag = chars name; attrs = attrs_of attrs } ∷ [] in
        first_marked-append (mark_places (outer ++ at ∷ []) (Content ms) children inside) (mark_places outer (Content marks) later end)
        ∙ ap (λ o. option_or o (first_marked (mark_places outer (Content marks) later end))) (inner f (outer ++ at ∷ []) ms inside n (kept_at outer (at ∷ []) max_marks n e))
    by (Branch kind) f inner = absurd f
    by (Leaf kind) f inner = one_some outer (mark_places outer (Content marks) later end) n e
    by (Whole kind) f inner = one_some outer (mark_places outer (Content marks) later end) n e

-- ---- all parts

abbrev pub Even : List ℕ → Around → Type 0
Even outer around = length outer ≡ length (marks_at around)

pub even_in : (kind : Kind) → Even [] (around_in kind)
even_in kind = by (is_content_branch kind) (is_flow kind)
  where
    by : (b c : Bool) → Even [] (if b then Content [] else (if c then Flow kind else Structural kind))
    by true c = refl
    by false true = refl
    by false false = refl

pub even_more : (outer : List ℕ) (around : Around) (name : List ℕ) (attrs : List Spelled) (at : ℕ) → Even outer around → Even (outer ++ at ∷ []) (marked_around around name attrs)
even_more outer around name attrs at e =
    let more = length-append outer (at ∷ []) in
    let marks = length-append (marks_at around) (record { tag = chars name; attrs = attrs_of attrs } ∷ []) in
    omega (arith, e, more, marks)

-- the limit at an element, by what it becomes
abbrev pub limit_by : Around → List ℕ → List Spelled → Parts → Parts → ℕ → ℕ → ℕ → Fit → Option ℕ
limit_by around name attrs children later at inside end fit = elim fit [
  | Annotation ↦
      if nat_lt (length (marks_at around)) max_marks
      then option_or (marked_at (marked_around around name attrs) children inside) (marked_at around later end)
      else Some at
  | Branch kind ↦ option_or (marked_at (around_in kind) children inside) (marked_at around later end)
  | _ ↦ marked_at around later end
]

-- that what stands in an element is the first position of it
abbrev Agrees : Parts → Type 0
Agrees parts = (outer : List ℕ) (around : Around) (at : ℕ) → Even outer around → length outer ≤ max_marks → marked_at around parts at ≡ first_marked (mark_places outer around parts at)

both_agree : (a b : Option ℕ) (xs ys : List (List ℕ)) → a ≡ first_marked xs → b ≡ first_marked ys → option_or a b ≡ first_marked (xs ++ ys)
both_agree a b xs ys e f = ap (λ o. option_or o b) e ∙ ap (option_or (first_marked xs)) f ∙ sym (first_marked-append xs ys)

element_agrees : (outer : List ℕ) (around : Around) (name : List ℕ) (attrs : List Spelled) (children later : Parts) (at inside end : ℕ) (fit : Fit) → MayMark children fit → Texted children →
    Even outer around → length outer ≤ max_marks → Agrees children → marked_at around later end ≡ first_marked (mark_places outer around later end) →
    limit_by around name attrs children later at inside end fit ≡ first_marked (places_by outer around name attrs children later at inside end fit)
element_agrees outer around name attrs children later at inside end Annotation f t e few inner rest = by (nat_lt (length (marks_at around)) max_marks) refl
  where
    by : (b : Bool) → nat_lt (length (marks_at around)) max_marks ≡ b →
        (if b then option_or (marked_at (marked_around around name attrs) children inside) (marked_at around later end) else Some at)
        ≡ first_marked (mark_places (outer ++ at ∷ []) (marked_around around name attrs) children inside ++ mark_places outer around later end)
    by true l =
        let low = ltb-true (length (marks_at around)) max_marks l in
        let long = length-append outer (at ∷ []) in
        both_agree _ _ (mark_places (outer ++ at ∷ []) (marked_around around name attrs) children inside) (mark_places outer around later end)
        (inner (outer ++ at ∷ []) (marked_around around name attrs) inside (even_more outer around name attrs at e) (omega (arith, low, long, e)))
        rest
    by false l =
        let high = ltb-false (length (marks_at around)) max_marks l in
        let full : length outer ≡ max_marks = omega (arith, high, few, e) in
        sym (first_marked-append (mark_places (outer ++ at ∷ []) (marked_around around name attrs) children inside) (mark_places outer around later end)
        ∙ ap (λ o. option_or o (first_marked (mark_places outer around later end)))
        (leads children f t (outer ++ at ∷ []) (marks_at around ++ record { tag = chars name; attrs = attrs_of attrs } ∷ []) inside at (added_at outer max_marks at full)))
element_agrees outer around name attrs children later at inside end (Branch kind) f t e few inner rest =
    both_agree _ _ (mark_places [] (around_in kind) children inside) (mark_places outer around later end) (inner [] (around_in kind) inside (even_in kind) (omega arith)) rest
element_agrees outer around name attrs children later at inside end (Leaf kind) f t e few inner rest = rest ∙ sym (one_none outer (mark_places outer around later end) (past_none outer max_marks few))
element_agrees outer around name attrs children later at inside end (Whole kind) f t e few inner rest = rest ∙ sym (one_none outer (mark_places outer around later end) (past_none outer max_marks few))

pub marked_at-places : (parts : Parts) → Texted parts → Agrees parts
marked_at-places Ended t outer around at e few = refl
marked_at-places (Words text later) t outer around at e few =
    marked_at-places later t.1 outer around (at + length text) e few
    ∙ sym (letters_none outer (characters text) (mark_places outer around later (at + length text)) (past_none outer max_marks few))
marked_at-places (Note text later) t outer around at e few =
    let end = at + length (token_text (Comment text)) in
    marked_at-places later t outer around end e few ∙ sym (one_none outer (mark_places outer around later end) (past_none outer max_marks few))
marked_at-places (Group nodes later) t outer around at e few =
    let end = at + length (spelling nodes) in
    marked_at-places later t outer around end e few ∙ sym (one_none outer (mark_places outer around later end) (past_none outer max_marks few))
marked_at-places (Single name attrs source later) t outer around at e few =
    let end = at + length source in
    marked_at-places later t outer around end e few ∙ sym (one_none outer (mark_places outer around later end) (past_none outer max_marks few))
marked_at-places (Parent name attrs children later) t outer around at e few =
    let inside = at + length (start_text name attrs false) in
    let end = at + length (element_source name attrs children) in
    element_agrees outer around name attrs children later at inside end (fit_of around name children) (may_mark around name children) t.0 e few
    (marked_at-places children t.0) (marked_at-places later t.1 outer around end e few)
