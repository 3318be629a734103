-- The loops over a range of siblings, and the fit of the first part.
use Rattle.std.proofs.Common.{◌≡◌, ℕ, ◌+◌, ◌<◌, ◌≤◌, Bool, true, false, not, ◌&&◌, ◌||◌, List, [], ◌∷◌, Option, Some, refl, sym, ap, ◌∙◌, subst, arith, if◌then◌else◌}
use Rattle.std.specs.Prelude.{slice_get}
use Rattle.model_spelling.specs.Grammar as g
use Rattle.model_spelling.specs.Grammar.{Attr, start_text, end_text}
use Rattle.model_spelling.specs.Forest.{Forest, Nothing, Text, Remark, Void, RawElement, Element}
use Rattle.model_spelling.specs.ForestNodes.{ForestNode, forest_size}
use Rattle.model_page.specs.Elements.{is_white, about_of, is_held}
use Rattle.model_page.specs.Parts.{Parts, Ended, Words, Note, Group, Single, Parent, about_in, is_shared, with_held, parts_of}
use Rattle.model_page.specs.Fit.{has_blocks_alone, some_element}
use Rattle.model_page.specs.Tags.{is_inline_tag}
use Rattle.ve_html_scan.specs.Shown.{ShowsToken}
use Rattle.ve_html_tree.specs.declared.node.Node.{Node}
use Rattle.ve_classify.specs.declared.fits.GroupTest.{GroupTest}
use Rattle.ve_classify.specs.Standing.{ShownFrom, has_node}
use Rattle.ve_classify.specs.Standing.{rest_of, first_count}
use Rattle.ve_classify.specs.Fits.{element_passes, token_passes, token_block}
use Rattle.ve_classify.proofs.StandLemmas.{first_of, first_token, first_length, shown_rest, count_rest}
use Rattle.ve_classify.proofs.GroupSteps.{asked_first}

-- ---- a range of siblings

-- The rest of a range, from the number n on: what is asked of the whole is what is asked of the
-- rest.
pub record Range (nodes : List Node) (n to : ℕ) (more : List ForestNode) (ask : Forest → Bool) (value : Bool) : Type 0 where
  pub forest : Forest
  pub at : ℕ
  pub shown : ShownFrom nodes n at forest more
  pub to_is : to ≡ n + forest_size forest
  pub same : value ≡ ask forest

abbrev pub RangeOf : List Node → ℕ → ℕ → ℕ → (Forest → Bool) → Type 0
RangeOf nodes from to n ask = (f : Forest) (at : ℕ) (more : List ForestNode) → ShownFrom nodes from at f more → to ≡ from + forest_size f → Range nodes n to more ask (ask f)

pub whole_range : (nodes : List Node) (from to : ℕ) (ask : Forest → Bool) → RangeOf nodes from to from ask
whole_range nodes from to ask = λ f at more s e. record { forest = f; at = at; shown = s; to_is = e; same = refl }

some_left : (f : Forest) (n to : ℕ) → n < to → to ≡ n + forest_size f → has_node f ≡ true
some_left Nothing n to lt e = absurd (omega (arith, lt, e))
some_left (Text text rest) n to lt e = refl
some_left (Remark text rest) n to lt e = refl
some_left (Void name attrs slash rest) n to lt e = refl
some_left (RawElement name attrs text rest) n to lt e = refl
some_left (Element name attrs children rest) n to lt e = refl

nothing_left : (f : Forest) (n to : ℕ) → to ≤ n → to ≡ n + forest_size f → f ≡ Nothing
nothing_left Nothing n to le e = refl
nothing_left (Text text rest) n to le e = absurd (omega (arith, le, e))
nothing_left (Remark text rest) n to le e = absurd (omega (arith, le, e))
nothing_left (Void name attrs slash rest) n to le e = absurd (omega (arith, le, e))
nothing_left (RawElement name attrs [] rest) n to le e = absurd (omega (arith, le, e))
nothing_left (RawElement name attrs (b ∷ bs) rest) n to le e = absurd (omega (arith, le, e))
nothing_left (Element name attrs children rest) n to le e = absurd (omega (arith, le, e))

-- what is asked of siblings goes by their first token and the others
abbrev pub Steps : (Forest → Bool) → (g.Token → Bool) → (Bool → Bool → Bool) → Type 0
Steps ask token join = (f : Forest) → has_node f ≡ true → ask f ≡ join (token (first_token f)) (ask (rest_of f))

module _ (nodes : List Node) (from to n : ℕ) (ask : Forest → Bool) (token : g.Token → Bool) (join : Bool → Bool → Bool) (steps : Steps ask token join) (x : Node) (is : slice_get nodes n ≡ Some x) where
  -- the first token of the rest
  pub range_first : (b : Bool) → n < to → ((k : g.Token) → ShowsToken x.token k → b ≡ token k) → (more : List ForestNode) (value : Bool) → (r : Range nodes n to more ask value) → value ≡ join b (ask (rest_of r.forest))
  range_first b lt asks more value r =
      let some = some_left r.forest n to lt r.to_is in
      r.same ∙ steps r.forest some ∙ ap (λ t. join t (ask (rest_of r.forest))) (sym (asked_first nodes n r.at r.forest more x (λ k. b ≡ token k) some r.shown is asks))

  pub range_more : (b : Bool) → n < to → ((k : g.Token) → ShowsToken x.token k → b ≡ token k) → ((y : Bool) → join b y ≡ y) → RangeOf nodes from to n ask → RangeOf nodes from to x.next ask
  range_more b lt asks passes w = λ f at more s e.
      let r = w f at more s e in
      let some = some_left r.forest n to lt r.to_is in
      let first = first_of nodes n r.at r.forest more some r.shown in
      let same : first.node ≡ x = cc (first.is, is) in
      let next : x.next ≡ n + first_count r.forest = sym (ap (λ (y : Node). y.next) same) ∙ first.next in
      record {
        forest = rest_of r.forest;
        at = r.at + first_length r.forest;
        shown = subst (λ k. ShownFrom nodes k (r.at + first_length r.forest) (rest_of r.forest) more) (sym next) (shown_rest nodes n r.at r.forest more r.shown);
        to_is = omega (arith, next, r.to_is, count_rest r.forest);
        same = range_first b lt asks more (ask f) r ∙ passes (ask (rest_of r.forest));
      }

pub range_ends : (nodes : List Node) (from to n : ℕ) (ask : Forest → Bool) (b : Bool) → ask Nothing ≡ b → to ≤ n → RangeOf nodes from to n ask →
    (f : Forest) (at : ℕ) (more : List ForestNode) → ShownFrom nodes from at f more → to ≡ from + forest_size f → b ≡ ask f
range_ends nodes from to n ask b none le w f at more s e =
    let r = w f at more s e in sym (r.same ∙ ap ask (nothing_left r.forest n to le r.to_is) ∙ none)

-- ---- what is asked

pub some_steps : (test : GroupTest) → Steps (some_element (element_passes test)) (token_passes test) (λ a b. a || b)
some_steps test Nothing e = absurd cc
some_steps test (Text text rest) e = refl
some_steps test (Remark text rest) e = refl
some_steps test (Void name attrs slash rest) e = refl
some_steps test (RawElement name attrs text rest) e = refl
some_steps test (Element name attrs children rest) e = refl

chosen : (c : Bool) (a b : Parts) (v : Bool) → has_blocks_alone a ≡ v → has_blocks_alone b ≡ v → has_blocks_alone (if c then a else b) ≡ v
chosen true a b v e f = e
chosen false a b v e f = f

held_words : (element : Forest → Forest) (text : List ℕ) (nodes : Forest) (later : Parts) (w s : Bool) → is_white text ≡ w → has_blocks_alone (if w && s then Group (element (Text text nodes)) later else Group (element Nothing) (Words text (Group nodes later))) ≡ (is_white text && has_blocks_alone later)
held_words element text nodes later true true e = rw e refl
held_words element text nodes later true false e = refl
held_words element text nodes later false s e = refl

held_blocks : (about : Option (List ℕ)) (element : Forest → Forest) (parts : Parts) → has_blocks_alone (with_held about element parts) ≡ has_blocks_alone parts
held_blocks about element Ended = refl
held_blocks about element (Words text Ended) = refl
held_blocks about element (Words text (Words t later)) = refl
held_blocks about element (Words text (Note t later)) = refl
held_blocks about element (Words text (Group nodes later)) = held_words element text nodes later (is_white text) (is_shared about (about_in nodes)) refl
held_blocks about element (Words text (Single name attrs source later)) = refl
held_blocks about element (Words text (Parent name attrs children later)) = refl
held_blocks about element (Note text later) = refl
held_blocks about element (Group nodes later) = chosen (is_shared about (about_in nodes)) _ _ (has_blocks_alone later) refl refl
held_blocks about element (Single name attrs source later) = refl
held_blocks about element (Parent name attrs children later) = refl

block_by : (h : Bool) (held other : Parts) (inline : Bool) (v : Bool) → has_blocks_alone held ≡ v → has_blocks_alone other ≡ (inline && v) → has_blocks_alone (if h then held else other) ≡ ((h || inline) && v)
block_by true held other inline v e f = e
block_by false held other inline v e f = f

pub block_steps : Steps (λ f. has_blocks_alone (parts_of f)) token_block (λ a b. a && b)
block_steps Nothing e = absurd cc
block_steps (Text text rest) e = refl
block_steps (Remark text rest) e = refl
block_steps (Void name attrs slash rest) e = block_by (is_held attrs) _ _ (not (is_inline_tag name)) (has_blocks_alone (parts_of rest)) (held_blocks (about_of attrs) (Void name attrs slash) (parts_of rest)) refl
block_steps (RawElement name attrs text rest) e = block_by (is_held attrs) _ _ (not (is_inline_tag name)) (has_blocks_alone (parts_of rest)) (held_blocks (about_of attrs) (RawElement name attrs text) (parts_of rest)) refl
block_steps (Element name attrs children rest) e = block_by (is_held attrs) _ _ (not (is_inline_tag name)) (has_blocks_alone (parts_of rest)) (held_blocks (about_of attrs) (Element name attrs children) (parts_of rest)) refl
