-- Signs that spell a lawful list are those of a forest, which is the list's tree.
use Rattle.std.proofs.Common.{◌≡◌, ℕ, zero, suc, Ok, List, [], ◌∷◌, ◌++◌, length, map, drop, replicate, refl, sym, ap, ◌∙◌, subst, append-nil, append_assoc, arith}
use Rattle.ve_kinds.specs.declared.kind.Kind.{Kind}
use Rattle.model_items.specs.declared.plain_item.PlainItem.{PlainItem}
use Rattle.model_items.specs.declared.plain_item.PlainItem.TheVariants.{Char, Opening, Closing}
use Rattle.ve_kinds.specs.Table.{is_content_branch}
use Rattle.model_items.specs.declared.law_fault.LawFault.{LawFault}
use Rattle.model_items.specs.Law.{State, finish, top, step, after, Lawful}
use Rattle.model_items.specs.Law as Law
use Rattle.model_items.proofs.LawLemmas.{if_ok, Ok-same, opened_before, closed_before, joined-ok, after_from_Lawful}
use Rattle.model_items.specs.Tree.{Forest, Empty, Run, Branch, with_char, first_forest, Reading, reading, tree_of, Shape, Letter, Begin, End, shape_of}
use Rattle.ve_repair.specs.Tokens.{Token}
use Rattle.ve_repair.specs.Tokens as T
use Rattle.ve_tree.specs.Named.{Named, NoNode, NamedRun, NamedBranch, unnumbered}
use Rattle.ve_repair.specs.Tokens.{tokens}
use Rattle.ve_repair.specs.Sizes.{signs_of}
use Rattle.ve_repair.specs.Spelled.{Sign, BeginOf, LettersOf, EndOf, token_of, sign_shapes, NoLetters, Proper}

-- an item's shape is all that is read of it
abbrev pub shape_with : Shape → Reading → Reading
shape_with Letter r = record { here = with_char r.here; outer = r.outer }
shape_with (End kind) r = record { here = Empty; outer = r.here ∷ r.outer }
shape_with (Begin kind) r = record { here = Branch kind r.here (first_forest r.outer); outer = drop 1 r.outer }

abbrev pub shape_reading : List Shape → Reading
shape_reading [] = record { here = Empty; outer = [] }
shape_reading (s ∷ ss) = shape_with s (shape_reading ss)

pub reading-shapes : (items : List PlainItem) → reading items ≡ shape_reading (map shape_of items)
reading-shapes [] = refl
reading-shapes (Char c marks ∷ items) = ap (shape_with Letter) (reading-shapes items)
reading-shapes (Closing kind pre ∷ items) = ap (shape_with (End kind)) (reading-shapes items)
reading-shapes (Opening kind head marks pre origin generated ∷ items) = ap (shape_with (Begin kind)) (reading-shapes items)

record Signed : Type 0 where
  here : Named
  outer : List Named

abbrev first_named : List Named → Named
first_named [] = NoNode
first_named (f ∷ fs) = f

abbrev signed : List Sign → Signed
signed [] = record { here = NoNode; outer = [] }
signed (BeginOf n kind ∷ ss) = record { here = NamedBranch n kind (signed ss).here (first_named (signed ss).outer); outer = drop 1 (signed ss).outer }
signed (LettersOf n count ∷ ss) = record { here = NamedRun n count (signed ss).here; outer = (signed ss).outer }
signed (EndOf kind ∷ ss) = record { here = NoNode; outer = (signed ss).here ∷ (signed ss).outer }

bare_all : Signed → Reading
bare_all r = record { here = unnumbered r.here; outer = map unnumbered r.outer }

first-bare : (fs : List Named) → unnumbered (first_named fs) ≡ first_forest (map unnumbered fs)
first-bare [] = refl
first-bare (f ∷ fs) = refl

drop-bare : (fs : List Named) → map unnumbered (drop 1 fs) ≡ drop 1 (map unnumbered fs)
drop-bare [] = refl
drop-bare (f ∷ fs) = refl

-- a text before what is no text
letters_more : (count : ℕ) (ss : List Shape) (f : Forest) (outer : List Forest) → shape_reading ss ≡ record { here = f; outer = outer } → with_char f ≡ Run 1 f →
    shape_reading (replicate (suc count) Letter ++ ss) ≡ record { here = Run (suc count) f; outer = outer }
letters_more zero ss f outer e h = ap (shape_with Letter) e ∙ (λ i. record { here = h i; outer = outer })
letters_more (suc count) ss f outer e h = ap (shape_with Letter) (letters_more count ss f outer e h)

no_letters : (ss : List Sign) → NoLetters ss → with_char (unnumbered (signed ss).here) ≡ Run 1 (unnumbered (signed ss).here)
no_letters [] h = refl
no_letters (BeginOf n kind ∷ ss) h = refl
no_letters (LettersOf n count ∷ ss) h = absurd h
no_letters (EndOf kind ∷ ss) h = refl

signed_reads : (ss : List Sign) → Proper ss → shape_reading (sign_shapes ss) ≡ bare_all (signed ss)
unfolding bare_all
signed_reads [] h = refl
signed_reads (BeginOf n kind ∷ ss) h =
    ap (shape_with (Begin kind)) (signed_reads ss h)
    ∙ (λ i. record { here = Branch kind (unnumbered (signed ss).here) (sym (first-bare (signed ss).outer) i); outer = sym (drop-bare (signed ss).outer) i })
signed_reads (LettersOf n zero ∷ ss) h = absurd h
signed_reads (LettersOf n (suc count) ∷ ss) h =
    letters_more count (sign_shapes ss) (unnumbered (signed ss).here) (map unnumbered (signed ss).outer) (signed_reads ss h.1) (no_letters ss h.0)
signed_reads (EndOf kind ∷ ss) h = ap (shape_with (End kind)) (signed_reads ss h)

-- every closing has its opening
abbrev Balanced : ℕ → List Shape → Type 0
Balanced depth [] = depth ≡ 0
Balanced depth (Letter ∷ ss) = Balanced depth ss
Balanced depth (Begin kind ∷ ss) = Balanced (suc depth) ss
Balanced zero (End kind ∷ ss) = ⊥
Balanced (suc depth) (End kind ∷ ss) = Balanced depth ss

balanced_from : (items : List PlainItem) (s : State) → after s items ≡ Ok finish → Balanced (length s.stack) (map shape_of items)
balanced_from [] s h = ap (λ (t : State). length t.stack) (Ok-same {E = LawFault} s finish h)
balanced_from (Char c marks ∷ items) s h =
    let p = joined-ok 1 (step s (Char c marks)) (λ next. after next items) finish h in
    let same = Ok-same {E = LawFault} s p.0 (if_ok (is_content_branch (top s.stack)) _ _ p.0 p.1).1 in
    balanced_from items s (subst (λ t. after t items ≡ Ok finish) (sym same) p.2)
balanced_from (Closing kind pre ∷ items) s h =
    let p = joined-ok 1 (step s (Closing kind pre)) (λ next. after next items) finish h in
    let before = closed_before s.stack s.seen kind p.0 p.1 in
    subst (λ kinds. Balanced (length kinds) (End kind ∷ map shape_of items)) (sym before.0) (balanced_from items p.0 p.2)
balanced_from (Opening kind head marks pre origin generated ∷ items) s h =
    let p = joined-ok 1 (step s (Opening kind head marks pre origin generated)) (λ next. after next items) finish h in
    let before = opened_before s p.0 kind p.1 in
    subst (λ kinds. Balanced (length kinds) (map shape_of items)) (sym (before.0)) (balanced_from items p.0 p.2)

flat : List Named → List Token
flat [] = []
flat (f ∷ fs) = T.End ∷ (tokens f ++ flat fs)

letters-balanced : (count depth : ℕ) (ss : List Shape) → Balanced depth (replicate count Letter ++ ss) → Balanced depth ss
letters-balanced zero depth ss h = h
letters-balanced (suc count) depth ss h = letters-balanced count depth ss h

branch_spells : (n : ℕ) (kind : Kind) (here : Named) (outer : List Named) (depth : ℕ) (ts : List Token) →
    tokens here ++ flat outer ≡ ts → length outer ≡ suc depth →
    (tokens (NamedBranch n kind here (first_named outer)) ++ flat (drop 1 outer) ≡ T.Begin n ∷ ts) × (length (drop 1 outer) ≡ depth)
unfolding flat
branch_spells n kind here [] depth ts e l = absurd (omega (arith, l))
branch_spells n kind here (f ∷ fs) depth ts e l =
    (ap (λ (us : List Token). T.Begin n ∷ us) (append_assoc (tokens here) (T.End ∷ tokens f) (flat fs) ∙ e), omega (arith, l))

signed_spells : (ss : List Sign) (depth : ℕ) → Balanced depth (sign_shapes ss) →
    (tokens (signed ss).here ++ flat (signed ss).outer ≡ map token_of ss) × (length (signed ss).outer ≡ depth)
unfolding flat
signed_spells [] depth h = (refl, sym h)
signed_spells (BeginOf n kind ∷ ss) depth h =
    let rest = signed_spells ss (suc depth) h in
    branch_spells n kind (signed ss).here (signed ss).outer depth (map token_of ss) rest.0 rest.1
signed_spells (LettersOf n count ∷ ss) depth h =
    let rest = signed_spells ss depth (letters-balanced count depth (sign_shapes ss) h) in
    (ap (λ (us : List Token). T.Letters n ∷ us) rest.0, rest.1)
signed_spells (EndOf kind ∷ ss) zero h = absurd h
signed_spells (EndOf kind ∷ ss) (suc depth) h =
    let rest = signed_spells ss depth h in
    (ap (λ (us : List Token). T.End ∷ us) rest.0, ap suc rest.1)

no_levels : (fs : List Named) → length fs ≡ 0 → flat fs ≡ []
unfolding flat
no_levels [] h = refl
no_levels (f ∷ fs) h = absurd (omega (arith, h))

-- the forest of signs that spell a lawful list
pub forest_of : List Sign → Named
forest_of ss = (signed ss).here

pub forest_spells : (ss : List Sign) (items : List PlainItem) → Proper ss → sign_shapes ss ≡ map shape_of items → Lawful items →
    (tokens (forest_of ss) ≡ map token_of ss) × (unnumbered (forest_of ss) ≡ tree_of items)
unfolding forest_of bare_all
forest_spells ss items proper e lawful =
    let balanced = subst (λ l. Balanced 0 l) (sym e) (balanced_from items Law.start (after_from_Lawful items lawful)) in
    let spelled = signed_spells ss 0 balanced in (
      sym (append-nil (tokens (signed ss).here)) ∙ ap (λ l. tokens (signed ss).here ++ l) (sym (no_levels (signed ss).outer spelled.1)) ∙ spelled.0,
      ap (λ (r : Reading). r.here) (sym (signed_reads ss proper) ∙ ap shape_reading e ∙ sym (reading-shapes items)),
    )

-- the forest written out is the signs
sign_flat : List Named → List Kind → List Sign
sign_flat [] ks = []
sign_flat (f ∷ fs) [] = []
sign_flat (f ∷ fs) (k ∷ ks) = EndOf k ∷ (signs_of f ++ sign_flat fs ks)

-- each opening has a closing of its kind
abbrev Matched : List Kind → List Shape → Type 0
Matched stack [] = stack ≡ []
Matched stack (Letter ∷ ss) = Matched stack ss
Matched stack (Begin kind ∷ ss) = Matched (kind ∷ stack) ss
Matched [] (End kind ∷ ss) = ⊥
Matched (k ∷ stack) (End kind ∷ ss) = (k ≡ kind) × Matched stack ss

matched_from : (items : List PlainItem) (s : State) → after s items ≡ Ok finish → Matched s.stack (map shape_of items)
matched_from [] s h = ap (λ (t : State). t.stack) (Ok-same {E = LawFault} s finish h)
matched_from (Char c marks ∷ items) s h =
    let p = joined-ok 1 (step s (Char c marks)) (λ next. after next items) finish h in
    let same = Ok-same {E = LawFault} s p.0 (if_ok (is_content_branch (top s.stack)) _ _ p.0 p.1).1 in
    matched_from items s (subst (λ t. after t items ≡ Ok finish) (sym same) p.2)
matched_from (Closing kind pre ∷ items) s h =
    let p = joined-ok 1 (step s (Closing kind pre)) (λ next. after next items) finish h in
    let before = closed_before s.stack s.seen kind p.0 p.1 in
    subst (λ kinds. Matched kinds (End kind ∷ map shape_of items)) (sym before.0) (refl, matched_from items p.0 p.2)
matched_from (Opening kind head marks pre origin generated ∷ items) s h =
    let p = joined-ok 1 (step s (Opening kind head marks pre origin generated)) (λ next. after next items) finish h in
    let before = opened_before s p.0 kind p.1 in
    subst (λ kinds. Matched kinds (map shape_of items)) (sym (before.0)) (matched_from items p.0 p.2)

letters-matched : (count : ℕ) (stack : List Kind) (ss : List Shape) → Matched stack (replicate count Letter ++ ss) → Matched stack ss
letters-matched zero stack ss h = h
letters-matched (suc count) stack ss h = letters-matched count stack ss h

branch_signs : (n : ℕ) (kind : Kind) (here : Named) (outer : List Named) (stack : List Kind) (ss : List Sign) →
    signs_of here ++ sign_flat outer (kind ∷ stack) ≡ ss → length outer ≡ suc (length stack) →
    (signs_of (NamedBranch n kind here (first_named outer)) ++ sign_flat (drop 1 outer) stack ≡ BeginOf n kind ∷ ss) × (length (drop 1 outer) ≡ length stack)
unfolding sign_flat
branch_signs n kind here [] stack ss e l = absurd (omega (arith, l))
branch_signs n kind here (f ∷ fs) stack ss e l =
    (ap (λ (us : List Sign). BeginOf n kind ∷ us) (append_assoc (signs_of here) (EndOf kind ∷ signs_of f) (sign_flat fs stack) ∙ e), omega (arith, l))

signed_back : (ss : List Sign) (stack : List Kind) → Matched stack (sign_shapes ss) →
    (signs_of (signed ss).here ++ sign_flat (signed ss).outer stack ≡ ss) × (length (signed ss).outer ≡ length stack)
unfolding sign_flat
signed_back [] stack h = (refl, ap length (sym h))
signed_back (BeginOf n kind ∷ ss) stack h =
    let rest = signed_back ss (kind ∷ stack) h in
    branch_signs n kind (signed ss).here (signed ss).outer stack ss rest.0 rest.1
signed_back (LettersOf n count ∷ ss) stack h =
    let rest = signed_back ss stack (letters-matched count stack (sign_shapes ss) h) in
    (ap (λ (us : List Sign). LettersOf n count ∷ us) rest.0, rest.1)
signed_back (EndOf kind ∷ ss) [] h = absurd h
signed_back (EndOf kind ∷ ss) (k ∷ stack) h =
    let rest = signed_back ss stack h.1 in
    ((λ i. EndOf (h.0 i) ∷ rest.0 i), ap suc rest.1)

no_flat : (fs : List Named) → length fs ≡ 0 → sign_flat fs [] ≡ []
unfolding sign_flat
no_flat [] h = refl
no_flat (f ∷ fs) h = absurd (omega (arith, h))

pub signs_back : (ss : List Sign) (items : List PlainItem) → Proper ss → sign_shapes ss ≡ map shape_of items → Lawful items → signs_of (forest_of ss) ≡ ss
unfolding forest_of
signs_back ss items proper e lawful =
    let matched = subst (λ l. Matched [] l) (sym e) (matched_from items Law.start (after_from_Lawful items lawful)) in
    let back = signed_back ss [] matched in
    sym (append-nil (signs_of (signed ss).here)) ∙ ap (λ l. signs_of (signed ss).here ++ l) (sym (no_flat (signed ss).outer back.1)) ∙ back.0
