-- Where an annotation of a fragment is inside of too many marks, some item has too many.
use Rattle.std.specs.List.{AllByRecursion, list_all}
use Rattle.std.specs.Option.{option_or}
use Rattle.std.specs.Prelude.{IsUtf8, chars, nat_le, nat_lt}
use Rattle.std.proofs.Common.{◌≡◌, ◌≤◌, inl, inr, ◌⊎◌, ℕ, ◌+◌, ◌-◌, Bool, true, false, ◌&&◌, if◌then◌else◌, List, [], ◌∷◌, ◌++◌, length, map, Option, Some, None, refl, sym, ap, ◌∙◌, subst, arith}
use Rattle.std.proofs.lemmas.Bool.{cases_Bool, leb-true, ltb-false, ltb-true}
use Rattle.std.proofs.lemmas.List.{length-append}
use Rattle.ve_kinds.specs.declared.kind.Kind.{Kind}
use Rattle.ve_kinds.specs.declared.kind.Kind.TheVariants.{AlienBlock, P, Ref}
use Rattle.ve_kinds.specs.Table.{is_flow, is_inline_leaf, may_hold}
use Rattle.ve_kinds.specs.Tags.{kind_of_tag}
use Rattle.ve_base.specs.Empty.{empty_head}
use Rattle.ve_base.specs.Limits.{max_marks}
use Rattle.ve_base.specs.declared.head.Head.{Head}
use Rattle.ve_base.specs.declared.marks.Mark.{Mark}
use Rattle.model_items.specs.declared.plain_item.PlainItem.{PlainItem}
use Rattle.model_items.specs.declared.plain_item.PlainItem.TheVariants.{Char, Closing, Opening}
use Rattle.model_spelling.specs.Forest.{Forest, is_forest, spelling}
use Rattle.model_spelling.specs.Grammar.{Attr as Spelled, Comment, start_text, token_text}
use Rattle.model_page.specs.Convert.{element_made, element_source, group_made, inside_of, inside_piece, leaf_made, made_of, marked_around, marks_at, words_before}
use Rattle.model_page.specs.Elements.{is_white}
use Rattle.model_page.specs.Fit.{Annotation, Around, Branch, Content, Fit, Flow, Leaf, Structural, Whole, around_in, fit_in_block, fit_of, group_kind, has_child, is_convertible, is_generated, note_kind}
use Rattle.model_page.specs.Fragment.{context_of, fragment_items, item_unmade, pieces_in}
use Rattle.model_page.specs.Heads.{attrs_of, characters, head_with, whole_head}
use Rattle.model_page.specs.Limits.{fragment_limit, marked_at}
use Rattle.model_page.specs.Parts.{Ended, Group, Note, Parent, Parts, Single, Words, parts_of, source_of}
use Rattle.model_page.specs.Pieces.{Made, Owner, Piece, Progress, SourceSpan, before_run, chars_piece, in_run, items_after, leaf, leaf_before, node, paragraph_before, past, run_closed, run_dropped, run_ended, source_span, with_white}
use Rattle.model_page.specs.ReferenceNodes.{RefNode, ref_of}
use Rattle.model_page_write.specs.Written.{is_empty}
use Rattle.model_page_law.proofs.InlinedLemmas.{Faithful, Faithful-parts_of, characters-nonempty, is_white-parts}
use Rattle.model_page_law.proofs.MarkedLemmas.{FitsContent, FitsContent-kind, Texted, inline-whole_kind}
use Rattle.model_page_law.proofs.PartsUtf8.{all_utf8}
use Rattle.model_page_law.proofs.Premises.{AllUtf8}
use Rattle.model_world_law.specs.Standing.{has_few_marks}

-- some item has too many
abbrev Over : List PlainItem → Type 0
Over items = list_all has_few_marks items ≡ false

over-left : (xs ys : List PlainItem) → Over xs → Over (xs ++ ys)
over-left [] ys h = cc
over-left (x ∷ xs) ys h = by (has_few_marks x) h (over-left xs ys)
  where
    by : (b : Bool) → (b && list_all has_few_marks xs) ≡ false → (Over xs → Over (xs ++ ys)) → (b && list_all has_few_marks (xs ++ ys)) ≡ false
    by true h rest = rest h
    by false h rest = refl

over-right : (xs ys : List PlainItem) → Over ys → Over (xs ++ ys)
over-right [] ys h = h
over-right (x ∷ xs) ys h = by (has_few_marks x) (over-right xs ys h)
  where
    by : (b : Bool) → Over (xs ++ ys) → (b && list_all has_few_marks (xs ++ ys)) ≡ false
    by true rest = rest
    by false rest = refl

over-after : (white : List ℕ) (items : List PlainItem) → Over items → Over (items_after white items)
over-after white [] h = h
over-after white (Char c marks ∷ items) h = h
over-after white (Opening kind head marks pre origin generated ∷ items) h = h
over-after white (Closing kind pre ∷ items) h = h

TooMany : List Mark → Type 0
TooMany marks = nat_le (length marks) max_marks ≡ false

over-first : (x : PlainItem) (items : List PlainItem) → has_few_marks x ≡ false → Over (x ∷ items)
over-first x items h = ap (λ b. b && list_all has_few_marks items) h

-- ---- whitespace

colored : (a b : List ℕ) → is_white a ≡ false → is_white (a ++ b) ≡ false
colored a b h = elim (cases_Bool (is_white (a ++ b))) [
  | inl white ↦ absurd (let e : true ≡ false = sym (is_white-parts a b white).0 ∙ h in cc)
  | inr other ↦ other
]

colored_later : (a b : List ℕ) → is_white b ≡ false → is_white (a ++ b) ≡ false
colored_later a b h = elim (cases_Bool (is_white (a ++ b))) [
  | inl white ↦ absurd (let e : true ≡ false = sym (is_white-parts a b white).1 ∙ h in cc)
  | inr other ↦ other
]

-- ---- what is made, by where it stands: the run of content, the run or what comes later in a flow
-- parent, what comes later in a structural one

abbrev IsOver : Around → Made → Type 0
IsOver (Content marks) m = Over m.run.items
IsOver (Flow kind) m = (Over m.run.items × (is_white m.source ≡ false)) ⊎ Over m.later.items
IsOver (Structural kind) m = Over m.later.items

closed_later : (source : List ℕ) (w : Progress) (m : Made) → Over m.later.items → Over (run_ended source w m).later.items
closed_later [] w m h = h
closed_later (b ∷ bs) w m h =
    elim (is_white (b ∷ bs)) as (λ c. Over (if c then with_white (chars (b ∷ bs)) (run_dropped m) else paragraph_before (source_span w (b ∷ bs)) m).later.items) [
      | true ↦ over-after (chars (b ∷ bs)) m.later.items h
      | false ↦ over-right (node P empty_head [] true (source_span w (b ∷ bs)) m.run []).items m.later.items h
    ]

closed_run : (source : List ℕ) (w : Progress) (m : Made) → Over m.run.items → is_white source ≡ false → Over (run_ended source w m).later.items
closed_run [] w m h c = cc
closed_run (b ∷ bs) w m h c =
    subst (λ d. Over (if d then with_white (chars (b ∷ bs)) (run_dropped m) else paragraph_before (source_span w (b ∷ bs)) m).later.items) (sym c)
    (over-left (m.run.items ++ Closing P [] ∷ []) m.later.items (over-left m.run.items (Closing P [] ∷ []) h))

flow_closed : (kind : Kind) (w : Progress) (m : Made) → IsOver (Flow kind) m → Over (run_closed w m).later.items
flow_closed kind w m h = elim h [
  | inl run ↦ closed_run m.source w m run.0 run.1
  | inr later ↦ closed_later m.source w m later
]

inside_over : (around : Around) (w : Progress) (m : Made) → IsOver around m → Over (inside_piece around w m).later.items
inside_over (Content marks) w m h = h
inside_over (Flow kind) w m h = flow_closed kind w m h
inside_over (Structural kind) w m h = h

-- ---- a part before what is over

in_run_rest : (around : Around) (piece : Piece) (source : List ℕ) (owners : List Owner) (m : Made) → IsOver around m → IsOver around (in_run piece source owners m)
in_run_rest (Content marks) piece source owners m h = over-right piece.items m.run.items h
in_run_rest (Flow kind) piece source owners m h = elim h [
  | inl run ↦ inl (over-right piece.items m.run.items run.0, colored_later source m.source run.1)
  | inr later ↦ inr later
]
in_run_rest (Structural kind) piece source owners m h = h

abbrev NotContent : Around → Type 0
NotContent (Content marks) = ⊥
NotContent _ = Unit {0}

before_run_rest : (around : Around) (w : Progress) (piece : Piece) (owners : List Owner) (m : Made) → NotContent around → IsOver around m → IsOver around (before_run w piece owners m)
before_run_rest (Content marks) w piece owners m n h = absurd n
before_run_rest (Flow kind) w piece owners m n h = inr (over-right piece.items (run_closed w m).later.items (flow_closed kind w m h))
before_run_rest (Structural kind) w piece owners m n h = over-right piece.items (run_closed w m).later.items (closed_later m.source w m h)

-- a leaf of content is inline
abbrev InlineIn : Around → Kind → Type 0
InlineIn (Content marks) kind = is_inline_leaf kind ≡ true
InlineIn _ kind = Unit {0}

leaf_rest : (around : Around) (w : Progress) (kind : Kind) (head : Head) (marks : List Mark) (source : List ℕ) (owners : List Owner) (m : Made) → InlineIn around kind → IsOver around m →
    IsOver around (leaf_before w kind head marks source owners m)
leaf_rest (Content outer) w kind head marks source owners m i h =
    subst (λ b. Over (if b then in_run (leaf kind head marks (source_span w source)) source owners m else before_run (past w source owners) (leaf kind head marks (source_span w source)) owners m).run.items) (sym i)
    (in_run_rest (Content outer) (leaf kind head marks (source_span w source)) source owners m h)
leaf_rest (Flow k) w kind head marks source owners m i h =
    elim (is_inline_leaf kind) as (λ b. IsOver (Flow k) (if b then in_run (leaf kind head marks (source_span w source)) source owners m else before_run (past w source owners) (leaf kind head marks (source_span w source)) owners m)) [
      | true ↦ in_run_rest (Flow k) (leaf kind head marks (source_span w source)) source owners m h
      | false ↦ before_run_rest (Flow k) (past w source owners) (leaf kind head marks (source_span w source)) owners m tt h
    ]
leaf_rest (Structural k) w kind head marks source owners m i h =
    elim (is_inline_leaf kind) as (λ b. IsOver (Structural k) (if b then in_run (leaf kind head marks (source_span w source)) source owners m else before_run (past w source owners) (leaf kind head marks (source_span w source)) owners m)) [
      | true ↦ h
      | false ↦ before_run_rest (Structural k) (past w source owners) (leaf kind head marks (source_span w source)) owners m tt h
    ]

words_rest : (around : Around) (text : List ℕ) (m : Made) → IsOver around m → IsOver around (words_before around text m)
words_rest (Structural kind) text m h = over-after (chars text) m.later.items h
words_rest (Flow kind) text m h = in_run_rest (Flow kind) (chars_piece [] (characters text)) text [] m h
words_rest (Content marks) text m h = in_run_rest (Content marks) (chars_piece marks (characters text)) text [] m h

note_inline : (around : Around) → InlineIn around (note_kind around)
note_inline (Content marks) = refl
note_inline (Flow kind) = tt
note_inline (Structural kind) = tt

group_inline : (around : Around) (nodes : Forest) → InlineIn around (group_kind around nodes)
group_inline (Content marks) nodes = inline-whole_kind (is_generated nodes)
group_inline (Flow kind) nodes = tt
group_inline (Structural kind) nodes = tt

ref_inline : (around : Around) → InlineIn around Ref
ref_inline (Content marks) = refl
ref_inline (Flow kind) = tt
ref_inline (Structural kind) = tt

group_rest : (around : Around) (nodes : Forest) (later : Progress → Made) (w : Progress) (r : Option RefNode) → ((p : Progress) → IsOver around (later p)) → IsOver around (group_made around nodes later w r)
group_rest around nodes later w (Some r) h =
    leaf_rest around w Ref r.head (marks_at around) (spelling nodes) r.owners (later (past w (spelling nodes) r.owners)) (ref_inline around) (h (past w (spelling nodes) r.owners))
group_rest around nodes later w None h =
    leaf_rest around w (group_kind around nodes) (whole_head (spelling nodes)) (marks_at around) (spelling nodes) [] (later (past w (spelling nodes) [])) (group_inline around nodes) (h (past w (spelling nodes) []))

-- what an element may become there
abbrev FitsIn : Around → Parts → Fit → Type 0
FitsIn (Content marks) children fit = FitsContent children fit
FitsIn (Flow kind) children fit = Unit {0}
FitsIn (Structural kind) children Annotation = ⊥
FitsIn (Structural kind) children _ = Unit {0}

block_fit : (parent k : Kind) (children : Parts) (kind : Option Kind) → FitsIn (Structural k) children (fit_in_block parent children kind)
block_fit parent k children None = tt
block_fit parent k children (Some kind) = elim (may_hold parent kind && is_convertible kind children) as (λ b. FitsIn (Structural k) children (if b then Branch kind else Whole AlienBlock)) [ true ↦ tt | false ↦ tt ]

fits_in : (around : Around) (name : List ℕ) (children : Parts) → FitsIn around children (fit_of around name children)
fits_in (Content marks) name children = FitsContent-kind name children (kind_of_tag name)
fits_in (Flow kind) name children = tt
fits_in (Structural kind) name children = block_fit kind kind children (kind_of_tag name)

single_rest : (around : Around) (attrs : List Spelled) (source : List ℕ) (later : Progress → Made) (w : Progress) (children : Parts) (fit : Fit) → FitsIn around children fit →
    ((p : Progress) → IsOver around (later p)) → IsOver around (leaf_made around attrs source later w fit)
single_rest (Content marks) attrs source later w children (Leaf kind) f h = leaf_rest (Content marks) w kind (head_with attrs) marks source [] (later (past w source [])) f (h (past w source []))
single_rest (Content marks) attrs source later w children (Whole kind) f h = leaf_rest (Content marks) w kind (whole_head source) marks source [] (later (past w source [])) f (h (past w source []))
single_rest (Flow k) attrs source later w children (Leaf kind) f h = leaf_rest (Flow k) w kind (head_with attrs) [] source [] (later (past w source [])) tt (h (past w source []))
single_rest (Flow k) attrs source later w children (Whole kind) f h = leaf_rest (Flow k) w kind (whole_head source) [] source [] (later (past w source [])) tt (h (past w source []))
single_rest (Structural k) attrs source later w children (Leaf kind) f h = leaf_rest (Structural k) w kind (head_with attrs) [] source [] (later (past w source [])) tt (h (past w source []))
single_rest (Structural k) attrs source later w children (Whole kind) f h = leaf_rest (Structural k) w kind (whole_head source) [] source [] (later (past w source [])) tt (h (past w source []))
single_rest around attrs source later w children Annotation f h =
    leaf_rest around w (note_kind around) (whole_head source) (marks_at around) source [] (later (past w source [])) (note_inline around) (h (past w source []))
single_rest around attrs source later w children (Branch kind) f h =
    leaf_rest around w (note_kind around) (whole_head source) (marks_at around) source [] (later (past w source [])) (note_inline around) (h (past w source []))

-- ---- the first item inside of too many marks

leaf_first : (w : Progress) (kind : Kind) (head : Head) (marks : List Mark) (source : List ℕ) (owners : List Owner) (m : Made) → TooMany marks → is_inline_leaf kind ≡ true → Over (leaf_before w kind head marks source owners m).run.items
unfolding TooMany
leaf_first w kind head marks source owners m many i =
    subst (λ b. Over (if b then in_run (leaf kind head marks (source_span w source)) source owners m else before_run (past w source owners) (leaf kind head marks (source_span w source)) owners m).run.items) (sym i)
    (over-first (Opening kind head marks [] None false) (Closing kind [] ∷ m.run.items) many)

chars_first : (marks : List Mark) (text : List ℕ) (m : Made) (source : List ℕ) → TooMany marks → is_empty text ≡ false → Over (in_run (chars_piece marks text) source [] m).run.items
unfolding TooMany
chars_first marks [] m source many e = cc
chars_first marks (c ∷ text) m source many e = over-first (Char c marks) (map (λ d. Char d marks) text ++ m.run.items) many

group_first : (marks : List Mark) (nodes : Forest) (later : Progress → Made) (w : Progress) (r : Option RefNode) → TooMany marks → Over (group_made (Content marks) nodes later w r).run.items
group_first marks nodes later w (Some r) many = leaf_first w Ref r.head marks (spelling nodes) r.owners (later (past w (spelling nodes) r.owners)) many refl
group_first marks nodes later w None many =
    leaf_first w (group_kind (Content marks) nodes) (whole_head (spelling nodes)) marks (spelling nodes) [] (later (past w (spelling nodes) [])) many (inline-whole_kind (is_generated nodes))

single_first : (marks : List Mark) (attrs : List Spelled) (source : List ℕ) (later : Progress → Made) (w : Progress) (children : Parts) (fit : Fit) → FitsContent children fit → TooMany marks →
    Over (leaf_made (Content marks) attrs source later w fit).run.items
single_first marks attrs source later w children (Leaf kind) f many = leaf_first w kind (head_with attrs) marks source [] (later (past w source [])) many f
single_first marks attrs source later w children (Whole kind) f many = leaf_first w kind (whole_head source) marks source [] (later (past w source [])) many f
single_first marks attrs source later w children Annotation f many = leaf_first w (note_kind (Content marks)) (whole_head source) marks source [] (later (past w source [])) many refl
single_first marks attrs source later w children (Branch kind) f many = leaf_first w (note_kind (Content marks)) (whole_head source) marks source [] (later (past w source [])) many refl

one_more : (marks : List Mark) (m : Mark) → max_marks ≤ length marks → TooMany (marks ++ m ∷ [])
unfolding TooMany
one_more marks m low =
    let long : length (marks ++ m ∷ []) ≡ length marks + 1 = length-append marks (m ∷ []) in
    elim (cases_Bool (nat_le (length (marks ++ m ∷ [])) max_marks)) [
      | inl few ↦ absurd (let high = leb-true (length (marks ++ m ∷ [])) max_marks few in omega arith)
      | inr many ↦ many
    ]

many_more : (marks : List Mark) (m : Mark) → TooMany marks → TooMany (marks ++ m ∷ [])
unfolding TooMany
many_more marks m many = one_more marks m (let low = Rattle.std.proofs.lemmas.Bool.leb-false (length marks) max_marks many in omega arith)

first_over : (parts : Parts) → has_child parts ≡ true → Texted parts → (marks : List Mark) → TooMany marks → (w : Progress) → Over (made_of (Content marks) parts w).run.items
first_over Ended c t marks many w = cc
first_over (Words text later) c t marks many w = chars_first marks (characters text) (made_of (Content marks) later (past w text [])) text many t.0
first_over (Note text later) c t marks many w = single_first marks [] (token_text (Comment text)) (made_of (Content marks) later) w Ended (Whole (note_kind (Content marks))) refl many
first_over (Group nodes later) c t marks many w = group_first marks nodes (made_of (Content marks) later) w (ref_of w (Content marks) nodes) many
first_over (Single name attrs source later) c t marks many w =
    single_first marks attrs source (made_of (Content marks) later) w Ended (fit_of (Content marks) name Ended) (FitsContent-kind name Ended (kind_of_tag name)) many
first_over (Parent name attrs children later) c t marks many w =
    by (fit_of (Content marks) name children) (FitsContent-kind name children (kind_of_tag name)) (λ h. first_over children h t.0)
  where
    by : (fit : Fit) → FitsContent children fit → (has_child children ≡ true → (ms : List Mark) → TooMany ms → (p : Progress) → Over (made_of (Content ms) children p).run.items) →
        Over (element_made (Content marks) name attrs (element_source name attrs children) (λ a. made_of a children) (made_of (Content marks) later) w fit).run.items
    by Annotation f inner =
        let ms = marks ++ record { tag = chars name; attrs = attrs_of attrs } ∷ [] in
        let inside = made_of (Content ms) children (inside_of w name attrs) in
        over-left inside.run.items (made_of (Content marks) later (past w (element_source name attrs children) inside.owners)).run.items
        (inner f ms (many_more marks (record { tag = chars name; attrs = attrs_of attrs }) many) (inside_of w name attrs))
    by (Branch kind) f inner = absurd f
    by (Leaf kind) f inner = single_first marks attrs (element_source name attrs children) (made_of (Content marks) later) w children (Leaf kind) f many
    by (Whole kind) f inner = single_first marks attrs (element_source name attrs children) (made_of (Content marks) later) w children (Whole kind) f many

-- ---- all parts

-- what a limit at an element says, by what the element becomes
abbrev SomeIn : Around → List ℕ → List Spelled → Parts → Parts → (inside end n : ℕ) → Fit → Type 0
SomeIn around name attrs children later inside end n Annotation =
    (nat_lt (length (marks_at around)) max_marks ≡ false) ⊎ ((marked_at (marked_around around name attrs) children inside ≡ Some n) ⊎ (marked_at around later end ≡ Some n))
SomeIn around name attrs children later inside end n (Branch kind) = (marked_at (around_in kind) children inside ≡ Some n) ⊎ (marked_at around later end ≡ Some n)
SomeIn around name attrs children later inside end n (Leaf kind) = marked_at around later end ≡ Some n
SomeIn around name attrs children later inside end n (Whole kind) = marked_at around later end ≡ Some n

one_of : (a b : Option ℕ) (n : ℕ) → option_or a b ≡ Some n → (a ≡ Some n) ⊎ (b ≡ Some n)
one_of None b n h = inr h
one_of (Some m) b n h = inl h

chosen : (c : Bool) (a b : Option ℕ) (at n : ℕ) → (if c then option_or a b else Some at) ≡ Some n → (c ≡ false) ⊎ ((a ≡ Some n) ⊎ (b ≡ Some n))
chosen true a b at n h = inr (one_of a b n h)
chosen false a b at n h = inl refl

some_in : (around : Around) (name : List ℕ) (attrs : List Spelled) (children later : Parts) (at inside end n : ℕ) (fit : Fit) →
    (elim fit as (λ _. Option ℕ) [
      | Annotation ↦
          if nat_lt (length (marks_at around)) max_marks
          then option_or (marked_at (marked_around around name attrs) children inside) (marked_at around later end)
          else Some at
      | Branch kind ↦ option_or (marked_at (around_in kind) children inside) (marked_at around later end)
      | Leaf kind ↦ marked_at around later end
      | Whole kind ↦ marked_at around later end
    ]) ≡ Some n → SomeIn around name attrs children later inside end n fit
some_in around name attrs children later at inside end n Annotation h = chosen (nat_lt (length (marks_at around)) max_marks) _ _ at n h
some_in around name attrs children later at inside end n (Branch kind) h = one_of (marked_at (around_in kind) children inside) (marked_at around later end) n h
some_in around name attrs children later at inside end n (Leaf kind) h = h
some_in around name attrs children later at inside end n (Whole kind) h = h

-- what stands in an annotation is over
annotation_over : (around : Around) (name : List ℕ) (attrs : List Spelled) (children : Parts) (source : List ℕ) (later : Progress → Made) (w : Progress) → FitsIn around children Annotation → is_white source ≡ false →
    Over (made_of (marked_around around name attrs) children (inside_of w name attrs)).run.items →
    IsOver around (element_made around name attrs source (λ a. made_of a children) later w Annotation)
annotation_over (Content marks) name attrs children source later w f c h =
    let inside = made_of (marked_around (Content marks) name attrs) children (inside_of w name attrs) in
    over-left inside.run.items (later (past w source inside.owners)).run.items h
annotation_over (Flow kind) name attrs children source later w f c h =
    let inside = made_of (marked_around (Flow kind) name attrs) children (inside_of w name attrs) in
    let rest = later (past w source inside.owners) in
    inl (over-left inside.run.items rest.run.items h, colored source rest.source c)
annotation_over (Structural kind) name attrs children source later w f c h = absurd f

branch_over : (around : Around) (w : Progress) (kind : Kind) (head : Head) (span : SourceSpan) (inside : Piece) (pre : List ℕ) (owners : List Owner) (m : Made) → NotContent around → Over inside.items →
    IsOver around (before_run w (node kind head [] false span inside pre) owners m)
branch_over (Content marks) w kind head span inside pre owners m n h = absurd n
branch_over (Flow k) w kind head span inside pre owners m n h = inr (over-left (inside.items ++ Closing kind pre ∷ []) (run_closed w m).later.items (over-left inside.items (Closing kind pre ∷ []) h))
branch_over (Structural k) w kind head span inside pre owners m n h = over-left (inside.items ++ Closing kind pre ∷ []) (run_closed w m).later.items (over-left inside.items (Closing kind pre ∷ []) h)

branch_outside : (around : Around) (children : Parts) (kind : Kind) → FitsIn around children (Branch kind) → NotContent around
branch_outside (Content marks) children kind f = f
branch_outside (Flow k) children kind f = tt
branch_outside (Structural k) children kind f = tt

-- an annotation where as many marks are open as may be has a child, whose first item has too many
full_over : (around : Around) (name : List ℕ) (attrs : List Spelled) (children : Parts) (w : Progress) → FitsIn around children Annotation → Texted children → nat_lt (length (marks_at around)) max_marks ≡ false →
    Over (made_of (marked_around around name attrs) children w).run.items
full_over (Content marks) name attrs children w f t full =
    first_over children f t (marks ++ record { tag = chars name; attrs = attrs_of attrs } ∷ []) (one_more marks (record { tag = chars name; attrs = attrs_of attrs }) (ltb-false (length marks) max_marks full)) w
full_over (Flow kind) name attrs children w f t full = cc
full_over (Structural kind) name attrs children w f t full = cc

element_over : (around : Around) (name : List ℕ) (attrs : List Spelled) (source : List ℕ) (children later : Parts) (inside end n : ℕ) (w : Progress) (fit : Fit) → FitsIn around children fit → Texted children → is_white source ≡ false →
    ((a : Around) (at : ℕ) → marked_at a children at ≡ Some n → (p : Progress) → IsOver a (made_of a children p)) → ((at : ℕ) → marked_at around later at ≡ Some n → (p : Progress) → IsOver around (made_of around later p)) →
    SomeIn around name attrs children later inside end n fit → IsOver around (element_made around name attrs source (λ a. made_of a children) (made_of around later) w fit)
element_over around name attrs source children later inside end n w Annotation f t c g h some =
    let made = made_of (marked_around around name attrs) children (inside_of w name attrs) in
    elim some [
      | inl full ↦ annotation_over around name attrs children source (made_of around later) w f c (full_over around name attrs children (inside_of w name attrs) f t full)
      | inr either ↦ elim either [
        | inl first ↦ annotation_over around name attrs children source (made_of around later) w f c (g (marked_around around name attrs) inside first (inside_of w name attrs))
        | inr rest ↦ in_run_rest around made.run source made.owners (made_of around later (past w source made.owners)) (h end rest (past w source made.owners))
      ]
    ]
element_over around name attrs source children later inside end n w (Branch kind) f t c g h some =
    let p = inside_of w name attrs in
    let made = made_of (around_in kind) children p in
    let piece = inside_piece (around_in kind) p made in
    let suffix = past w source piece.owners in
    let block = node kind (head_with attrs) [] false (source_span w source) piece.later piece.pre in
    elim some [
      | inl first ↦ branch_over around suffix kind (head_with attrs) (source_span w source) piece.later piece.pre piece.owners (made_of around later suffix) (branch_outside around children kind f) (inside_over (around_in kind) p made (g (around_in kind) inside first p))
      | inr rest ↦ before_run_rest around suffix block piece.owners (made_of around later suffix) (branch_outside around children kind f) (h end rest suffix)
    ]
element_over around name attrs source children later inside end n w (Leaf kind) f t c g h some = single_rest around attrs source (made_of around later) w children (Leaf kind) f (h end some)
element_over around name attrs source children later inside end n w (Whole kind) f t c g h some = single_rest around attrs source (made_of around later) w children (Whole kind) f (h end some)

made_over : (around : Around) (parts : Parts) (at n : ℕ) → Texted parts → marked_at around parts at ≡ Some n → (w : Progress) → IsOver around (made_of around parts w)
made_over around Ended at n t h w = cc
made_over around (Words text later) at n t h w = words_rest around text (made_of around later (past w text [])) (made_over around later (at + length text) n t.1 h (past w text []))
made_over around (Note text later) at n t h w =
    leaf_rest around w (note_kind around) (whole_head (token_text (Comment text))) (marks_at around) (token_text (Comment text)) [] (made_of around later (past w (token_text (Comment text)) [])) (note_inline around)
    (made_over around later (at + length (token_text (Comment text))) n t h (past w (token_text (Comment text)) []))
made_over around (Group nodes later) at n t h w =
    group_rest around nodes (made_of around later) w (ref_of w around nodes) (λ p. made_over around later (at + length (spelling nodes)) n t h p)
made_over around (Single name attrs source later) at n t h w =
    single_rest around attrs source (made_of around later) w Ended (fit_of around name Ended) (fits_in around name Ended) (λ p. made_over around later (at + length source) n t h p)
made_over around (Parent name attrs children later) at n t h w =
    let inside = at + length (start_text name attrs false) in
    let end = at + length (element_source name attrs children) in
    element_over around name attrs (element_source name attrs children) children later inside end n w (fit_of around name children) (fits_in around name children) t.0 refl
    (λ a k e p. made_over a children k n t.0 e p) (λ k e p. made_over around later k n t.1 e p) (some_in around name attrs children later at inside end n (fit_of around name children) h)

-- ---- fragments

texted : (room : ℕ) (parts : Parts) → Faithful room parts → AllUtf8 parts → Texted parts
texted room Ended f u = tt
texted room (Words text later) f u = (characters-nonempty text u.0 f.0, texted room later f.1 u.1)
texted room (Note text later) f u = texted room later f u
texted room (Group nodes later) f u = texted room later f.1 u.1
texted room (Single name attrs source later) f u = texted room later f.1 u.1
texted room (Parent name attrs children later) f u = (texted (room - 1) children f.1 u.1, texted room later f.2 u.2)

-- whitespace has no annotations
white_none : (around : Around) (parts : Parts) (at n : ℕ) → is_white (source_of parts) ≡ true → marked_at around parts at ≡ Some n → ⊥
white_none around Ended at n white h = cc
white_none around (Words text later) at n white h = white_none around later (at + length text) n (is_white-parts text (source_of later) white).1 h
white_none around (Note text later) at n white h = cc
white_none around (Group nodes later) at n white h = white_none around later (at + length (spelling nodes)) n (is_white-parts (spelling nodes) (source_of later) white).1 h
white_none around (Single name attrs source later) at n white h = white_none around later (at + length source) n (is_white-parts source (source_of later) white).1 h
white_none around (Parent name attrs children later) at n white h = cc

over-unmade : (items : List PlainItem) → list_all has_few_marks (map item_unmade items) ≡ list_all has_few_marks items
over-unmade [] = refl
over-unmade (Char c marks ∷ items) = ap (λ b. has_few_marks (Char c marks) && b) (over-unmade items)
over-unmade (Closing kind pre ∷ items) = ap (λ b. has_few_marks (Closing kind pre) && b) (over-unmade items)
over-unmade (Opening kind head marks pre origin generated ∷ items) = ap (λ b. has_few_marks (Opening kind head marks pre origin generated) && b) (over-unmade items)

none_over : (items : List PlainItem) → Over items → AllByRecursion (λ item. has_few_marks item ≡ true) items → ⊥
none_over [] h p = cc
none_over (x ∷ items) h p = none_over items (sym (ap (λ b. b && list_all has_few_marks items) p.0) ∙ h) p.1

pub fragment_over : (stack : List Kind) (f : Forest) (n : ℕ) → is_forest 200 f ≡ true → IsUtf8 (spelling f) → fragment_limit stack f ≡ Some n → AllByRecursion (λ item. has_few_marks item ≡ true) (fragment_items stack f) → ⊥
fragment_over stack f n spelled u h few =
    let parts = parts_of f in
    let k = context_of parts stack in
    let t = texted 200 parts (Faithful-parts_of 200 f spelled) (all_utf8 f spelled u) in
    elim (cases_Bool (is_flow k && is_white (source_of parts))) [
      | inl white ↦ white_none (around_in k) parts 0 n (Rattle.std.proofs.lemmas.Bool.and_parts (is_flow k) (is_white (source_of parts)) white).1 h
      | inr other ↦
          let w : Progress = record { at = 0; owners = []; editable = false } in
          let items = (pieces_in k parts).later.items in
          let over = inside_over (around_in k) w (made_of (around_in k) parts w) (made_over (around_in k) parts 0 n t h w) in
          let plain : List PlainItem = Opening P empty_head [] [] None false ∷ map (λ c. Char c []) (chars (source_of parts)) ++ Closing P [] ∷ [] in
          none_over (map item_unmade items) (over-unmade items ∙ over)
          (subst (λ b. AllByRecursion (λ item. has_few_marks item ≡ true) (if b then plain else map item_unmade items)) other few)
    ]
