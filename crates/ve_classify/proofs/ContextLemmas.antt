-- Nodes that fit a kind, and the innermost kind that fits.
use Rattle.std.proofs.Common.{◌≡◌, ℕ, zero, suc, ◌+◌, ◌<◌, ◌≤◌, Bool, true, false, not, ◌&&◌, ◌||◌, List, [], ◌∷◌, ◌++◌, length, drop, Option, Some, None, refl, sym, ap, ◌∙◌, subst, arith, if◌then◌else◌}
use Rattle.std.specs.Prelude.{slice_get}
use Rattle.model_spelling.specs.Grammar as g
use Rattle.model_spelling.specs.Forest.{Forest, Nothing, Text, Remark, Void, RawElement, Element, Spells, spelling}
use Rattle.model_spelling.specs.ForestNodes.{ForestNode, forest_size, forest_nodes}
use Rattle.model_spelling.proofs.ForestLaws.{length_forest_nodes}
use Rattle.ve_kinds.specs.declared.kind.Kind.{Kind}
use Rattle.ve_kinds.specs.declared.kind.Kind.TheVariants.{Root}
use Rattle.ve_kinds.specs.Table.{is_content_branch, is_flow}
use Rattle.model_page.specs.Elements.{is_white, about_of, is_held}
use Rattle.model_page.specs.Parts.{Parts, Ended, Words, Note, Group, Single, Parent, about_in, is_shared, with_held, parts_of, source_of}
use Rattle.model_page.specs.Fit.{has_inline_tags}
use Rattle.model_page.specs.Tags.{is_inline_tag}
use Rattle.model_page.specs.Fragment.{fits_content, fits_structural, may_hold_tag, fits_in, context_of}
use Rattle.ve_html_tree.specs.Nodes.{ShowNodes}
use Rattle.ve_html_tree.specs.declared.node.Node.{Node}
use Rattle.ve_classify.specs.Standing.{ShownFrom, Stands}
use Rattle.ve_classify.specs.Fits.{OfSiblings}
use Rattle.ve_classify.proofs.StandLemmas.{shown_count}
use Rattle.ve_classify.proofs.LeadLemmas.{whole_stands}
use Rattle.ve_classify.proofs.FitSteps.{Steps}
use Rattle.ve_classify.proofs.SourceLemmas.{parts_of-source}
use Rattle.ve_classify.specs.Context.{OfRead, context_in, fits_kind, token_inline, token_stands}

-- ---- content, node by node

not_or : (i s : Bool) → not (not i || s) ≡ (i && not s)
not_or true s = refl
not_or false s = refl

and_true : (b : Bool) → (b && true) ≡ b
and_true true = refl
and_true false = refl

and_assoc : (a b c : Bool) → ((a && b) && c) ≡ (a && (b && c))
and_assoc true b c = refl
and_assoc false b c = refl

-- an element before nodes, whose tag stands within a line or does not
abbrev IsTagged : (Forest → Forest) → Bool → Type 0
IsTagged element i = (nodes : Forest) → has_inline_tags (element nodes) ≡ (i && has_inline_tags nodes)

alone : (element : Forest → Forest) (i : Bool) (p : Parts) → IsTagged element i → fits_content (Group (element Nothing) p) ≡ (i && fits_content p)
alone element i p t = ap (λ (b : Bool). b && fits_content p) (t Nothing ∙ and_true i)

joined : (element : Forest → Forest) (i : Bool) (nodes : Forest) (later : Parts) → IsTagged element i → fits_content (Group (element nodes) later) ≡ (i && (has_inline_tags nodes && fits_content later))
joined element i nodes later t = ap (λ (b : Bool). b && fits_content later) (t nodes) ∙ and_assoc i (has_inline_tags nodes) (fits_content later)

either : (c : Bool) (a b : Parts) (v : Bool) → fits_content a ≡ v → fits_content b ≡ v → fits_content (if c then a else b) ≡ v
either true a b v e f = e
either false a b v e f = f

held_content : (about : Option (List ℕ)) (element : Forest → Forest) (i : Bool) (p : Parts) → IsTagged element i → fits_content (with_held about element p) ≡ (i && fits_content p)
held_content about element i Ended t = alone element i Ended t
held_content about element i (Words text Ended) t = alone element i (Words text Ended) t
held_content about element i (Words text (Words u later)) t = alone element i (Words text (Words u later)) t
held_content about element i (Words text (Note u later)) t = alone element i (Words text (Note u later)) t
held_content about element i (Words text (Group nodes later)) t =
    either (is_white text && is_shared about (about_in nodes)) (Group (element (Text text nodes)) later) (Group (element Nothing) (Words text (Group nodes later))) (i && (has_inline_tags nodes && fits_content later)) (joined element i (Text text nodes) later t) (alone element i (Words text (Group nodes later)) t)
held_content about element i (Words text (Single name attrs source later)) t = alone element i (Words text (Single name attrs source later)) t
held_content about element i (Words text (Parent name attrs children later)) t = alone element i (Words text (Parent name attrs children later)) t
held_content about element i (Note text later) t = alone element i (Note text later) t
held_content about element i (Group nodes later) t =
    either (is_shared about (about_in nodes)) (Group (element nodes) later) (Group (element Nothing) (Group nodes later)) (i && (has_inline_tags nodes && fits_content later)) (joined element i nodes later t) (alone element i (Group nodes later) t)
held_content about element i (Single name attrs source later) t = alone element i (Single name attrs source later) t
held_content about element i (Parent name attrs children later) t = alone element i (Parent name attrs children later) t

content_by : (h : Bool) (held other : Parts) (v : Bool) → fits_content held ≡ v → fits_content other ≡ v → fits_content (if h then held else other) ≡ v
content_by true held other v e f = e
content_by false held other v e f = f

pub content_steps : Steps (λ f. fits_content (parts_of f)) token_inline (λ a b. a && b)
content_steps Nothing e = absurd cc
content_steps (Text text rest) e = refl
content_steps (Remark text rest) e = refl
content_steps (Void name attrs slash rest) e = content_by (is_held attrs) _ _ (is_inline_tag name && fits_content (parts_of rest)) (held_content (about_of attrs) (Void name attrs slash) (is_inline_tag name) (parts_of rest) (λ nodes. not_or (is_inline_tag name) _)) refl
content_steps (RawElement name attrs text rest) e = content_by (is_held attrs) _ _ (is_inline_tag name && fits_content (parts_of rest)) (held_content (about_of attrs) (RawElement name attrs text) (is_inline_tag name) (parts_of rest) (λ nodes. not_or (is_inline_tag name) _)) refl
content_steps (Element name attrs children rest) e = content_by (is_held attrs) _ _ (is_inline_tag name && fits_content (parts_of rest)) (held_content (about_of attrs) (Element name attrs children) (is_inline_tag name) (parts_of rest) (λ nodes. not_or (is_inline_tag name) _)) refl

-- ---- a structural kind, node by node

neither : (k : Kind) (c : Bool) (a b : Parts) → fits_structural k a ≡ false → fits_structural k b ≡ false → fits_structural k (if c then a else b) ≡ false
neither k true a b e f = e
neither k false a b e f = f

held_structural : (k : Kind) (about : Option (List ℕ)) (element : Forest → Forest) (p : Parts) → fits_structural k (with_held about element p) ≡ false
held_structural k about element Ended = refl
held_structural k about element (Words text Ended) = refl
held_structural k about element (Words text (Words u later)) = refl
held_structural k about element (Words text (Note u later)) = refl
held_structural k about element (Words text (Group nodes later)) = neither k (is_white text && is_shared about (about_in nodes)) _ _ refl refl
held_structural k about element (Words text (Single name attrs source later)) = refl
held_structural k about element (Words text (Parent name attrs children later)) = refl
held_structural k about element (Note text later) = refl
held_structural k about element (Group nodes later) = neither k (is_shared about (about_in nodes)) _ _ refl refl
held_structural k about element (Single name attrs source later) = refl
held_structural k about element (Parent name attrs children later) = refl

structural_by : (k : Kind) (h : Bool) (held other : Parts) (m v : Bool) → fits_structural k held ≡ false → fits_structural k other ≡ (m && v) → fits_structural k (if h then held else other) ≡ ((not h && m) && v)
structural_by k true held other m v e f = e
structural_by k false held other m v e f = f

pub structural_steps : (k : Kind) → Steps (λ f. fits_structural k (parts_of f)) (token_stands k) (λ a b. a && b)
structural_steps k Nothing e = absurd cc
structural_steps k (Text text rest) e = refl
structural_steps k (Remark text rest) e = refl
structural_steps k (Void name attrs slash rest) e = structural_by k (is_held attrs) _ _ (may_hold_tag k name) (fits_structural k (parts_of rest)) (held_structural k (about_of attrs) (Void name attrs slash) (parts_of rest)) refl
structural_steps k (RawElement name attrs text rest) e = structural_by k (is_held attrs) _ _ (may_hold_tag k name) (fits_structural k (parts_of rest)) (held_structural k (about_of attrs) (RawElement name attrs text) (parts_of rest)) refl
structural_steps k (Element name attrs children rest) e = structural_by k (is_held attrs) _ _ (may_hold_tag k name) (fits_structural k (parts_of rest)) (held_structural k (about_of attrs) (Element name attrs children) (parts_of rest)) refl

-- ---- all of a forest

-- what is answered of the siblings from the first node on is answered of the forest
pub of_all : {A : Type 0} → (text : List ℕ) (nodes : List Node) (ask : Forest → A) (result : A) → OfSiblings nodes 0 (length nodes) ask result → OfRead text nodes ask result
of_all text nodes ask result given = λ f s shown.
    let stands = whole_stands f nodes shown s.allowed in
    given f 0 [] stands.shown (omega (arith, shown_count nodes (forest_nodes 0 0 f) shown, length_forest_nodes 0 0 f))

white_all : (text : List ℕ) (f : Forest) → Spells text f → is_white text ≡ is_white (source_of (parts_of f))
white_all text f s = ap is_white s.text_is ∙ sym (ap is_white (parts_of-source f))

pub branch_fits : (text : List ℕ) (nodes : List Node) (k : Kind) (b c : Bool) → b ≡ is_content_branch k → b ≡ true → OfRead text nodes (λ f. fits_content (parts_of f)) c → OfRead text nodes (fits_kind k) c
branch_fits text nodes k b c e t given = λ f s shown. given f s shown ∙ sym (rw (sym e ∙ t) refl)

pub flow_fits : (text : List ℕ) (nodes : List Node) (k : Kind) (b d : Bool) → b ≡ is_content_branch k → b ≡ false → d ≡ is_flow k → d ≡ true → OfRead text nodes (fits_kind k) true
flow_fits text nodes k b d e n h t = λ f s shown. sym (rw (sym e ∙ n, sym h ∙ t) refl)

other_fits : (k : Kind) (p : Parts) → is_content_branch k ≡ false → is_flow k ≡ false → fits_in p k ≡ (fits_structural k p && not (is_white (source_of p)))
other_fits k p e h = rw (e, h) refl

and_not : (a b : Bool) → b ≡ true → (a && not b) ≡ false
and_not true b e = ap not e
and_not false b e = refl

and_so : (a b : Bool) → b ≡ false → (a && not b) ≡ a
and_so true b e = ap not e
and_so false b e = refl

pub white_fits : (text : List ℕ) (nodes : List Node) (k : Kind) (b d w : Bool) → b ≡ is_content_branch k → b ≡ false → d ≡ is_flow k → d ≡ false → w ≡ is_white text → w ≡ true → OfRead text nodes (fits_kind k) false
white_fits text nodes k b d w e n h u v t = λ f s shown.
    sym (other_fits k (parts_of f) (sym e ∙ n) (sym h ∙ u) ∙ and_not (fits_structural k (parts_of f)) (is_white (source_of (parts_of f))) (sym (white_all text f s) ∙ sym v ∙ t))

pub structural_fits : (text : List ℕ) (nodes : List Node) (k : Kind) (b d w c : Bool) → b ≡ is_content_branch k → b ≡ false → d ≡ is_flow k → d ≡ false → w ≡ is_white text → w ≡ false → OfRead text nodes (λ f. fits_structural k (parts_of f)) c → OfRead text nodes (fits_kind k) c
structural_fits text nodes k b d w c e n h u v t given = λ f s shown.
    given f s shown ∙ sym (other_fits k (parts_of f) (sym e ∙ n) (sym h ∙ u) ∙ and_so (fits_structural k (parts_of f)) (is_white (source_of (parts_of f))) (sym (white_all text f s) ∙ sym v ∙ t))

-- ---- the innermost kind

pub drop_at : (stack : List Kind) (n : ℕ) (k : Kind) → slice_get stack n ≡ Some k → drop n stack ≡ k ∷ drop (n + 1) stack
drop_at [] n k e = absurd cc
drop_at (x ∷ stack) zero k e = ap (λ (y : Kind). y ∷ stack) cc
drop_at (x ∷ stack) (suc n) k e = let m : suc n + 1 ≡ suc (n + 1) = omega arith in drop_at stack n k e ∙ ap (λ (i : ℕ). k ∷ drop i (x ∷ stack)) (sym m)

-- the answer is that of the kinds from here on
abbrev pub LeftOf : List ℕ → List Node → List Kind → ℕ → Type 0
LeftOf text nodes stack n = (f : Forest) → Spells text f → ShowNodes nodes (forest_nodes 0 0 f) → context_in stack f ≡ context_in (drop n stack) f

found_by : (p : Parts) (stack : List Kind) (k : Kind) (outer : List Kind) → stack ≡ k ∷ outer → fits_in p k ≡ true → context_of p stack ≡ k
found_by p stack k outer e t = ap (context_of p) e ∙ rw t refl

passed_by : (p : Parts) (stack : List Kind) (k : Kind) (outer : List Kind) → stack ≡ k ∷ outer → fits_in p k ≡ false → context_of p stack ≡ context_of p outer
passed_by p stack k outer e t = ap (context_of p) e ∙ rw t refl

pub found : (text : List ℕ) (nodes : List Node) (stack : List Kind) (n : ℕ) (k : Kind) (b : Bool) → LeftOf text nodes stack n → slice_get stack n ≡ Some k → OfRead text nodes (fits_kind k) b → b ≡ true → OfRead text nodes (context_in stack) k
found text nodes stack n k b left is fits t = λ f s shown.
    sym (left f s shown ∙ found_by (parts_of f) (drop n stack) k (drop (n + 1) stack) (drop_at stack n k is) (sym (fits f s shown) ∙ t))

pub passed : (text : List ℕ) (nodes : List Node) (stack : List Kind) (n : ℕ) (k : Kind) (b : Bool) → LeftOf text nodes stack n → slice_get stack n ≡ Some k → OfRead text nodes (fits_kind k) b → b ≡ false → LeftOf text nodes stack (n + 1)
passed text nodes stack n k b left is fits t = λ f s shown.
    left f s shown ∙ passed_by (parts_of f) (drop n stack) k (drop (n + 1) stack) (drop_at stack n k is) (sym (fits f s shown) ∙ t)

pub none_left : (text : List ℕ) (nodes : List Node) (stack : List Kind) (n : ℕ) → LeftOf text nodes stack n → drop n stack ≡ [] → OfRead text nodes (context_in stack) Root
none_left text nodes stack n left e = λ f s shown. sym (left f s shown ∙ ap (context_of (parts_of f)) e)
