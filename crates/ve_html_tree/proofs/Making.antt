-- The tokens of a forest make its nodes.
use Rattle.std.proofs.Common.{◌≡◌, ℕ, zero, suc, ◌+◌, ◌-◌, Bool, true, false, not, ◌&&◌, List, [], ◌∷◌, ◌++◌, length, refl, sym, ap, ◌∙◌, arith, append_assoc, add-zero}
use Rattle.std.proofs.lemmas.List.{length-append, append-nil}
use Rattle.model_spelling.specs.Grammar.{Attr, Start, End, Chars, Raw, Comment, token_text, start_text, end_text, is_text, is_start, is_verbatim, comment_close}
use Rattle.ve_kinds.specs.Tags.{is_void}
use Rattle.model_spelling.specs.Tokens.{Placed}
use Rattle.model_spelling.specs.Forest.{Forest, Nothing, Text, Remark, Void, RawElement, Element, starts_with_text, spelling, is_forest}
use Rattle.model_spelling.specs.ForestNodes.{ForestNode, forest_size, single_node, forest_nodes}
use Rattle.model_spelling.proofs.AttrReading.{and_left, and_right}
use Rattle.model_spelling.proofs.ForestLaws.{placed, tokens_in, length_forest_nodes, raw_not_void}
use Rattle.model_spelling.proofs.Back.{element_parts, raw_parts}
use Rattle.ve_html_tree.specs.Building.{Built, building, node_begun, closed_node, closed_at, around, closed_innermost, built_with}

-- what these tokens make
abbrev pub taken_all : List Placed → Built → Built
taken_all [] b = b
taken_all (t ∷ ts) b = taken_all ts (built_with t.token t.from t.to b)

taken_then : (xs ys : List Placed) (b : Built) → taken_all (xs ++ ys) b ≡ taken_all ys (taken_all xs b)
taken_then [] ys b = refl
taken_then (x ∷ xs) ys b = taken_then xs ys (built_with x.token x.from x.to b)

-- ---- nodes that follow one another

abbrev end_row : ℕ → ℕ → ℕ → ForestNode → List ForestNode → List ForestNode
end_row from to next r cs = closed_node from to next r ∷ cs

close_here : (rs cs : List ForestNode) (r : ForestNode) (from to next : ℕ) → closed_at (length rs) from to next (rs ++ (r ∷ cs)) ≡ rs ++ end_row from to next r cs
close_here [] cs r from to next = refl
close_here (x ∷ rs) cs r from to next = ap (λ (l : List ForestNode). x ∷ l) (close_here rs cs r from to next)

closing : (rs cs : List ForestNode) (r : ForestNode) (from to next : ℕ) (ks : List ℕ) → next ≡ length rs + 1 + length cs → closed_innermost from to ((rs ++ (r ∷ [])) ++ cs) (length rs ∷ ks) ≡ building (rs ++ end_row from to next r cs) ks
closing rs cs r from to next ks e =
    let whole : (rs ++ (r ∷ [])) ++ cs ≡ rs ++ (r ∷ cs) = append_assoc rs (r ∷ []) cs in
    let len : length ((rs ++ (r ∷ [])) ++ cs) ≡ next = omega (arith, e, length-append (rs ++ (r ∷ [])) cs, length-append rs (r ∷ [])) in
    ap (λ (l : List ForestNode). building (closed_at (length rs) from to (length ((rs ++ (r ∷ [])) ++ cs)) l) ks) whole
    ∙ ap (λ (n : ℕ). building (closed_at (length rs) from to n (rs ++ (r ∷ cs))) ks) len
    ∙ ap (λ (l : List ForestNode). building l ks) (close_here rs cs r from to next)

after : (rs ms : List ForestNode) (n at : ℕ) (f : Forest) (ks : List ℕ) → n ≡ length rs + length ms → building ((rs ++ ms) ++ forest_nodes (length (rs ++ ms)) at f) ks ≡ building (rs ++ (ms ++ forest_nodes n at f)) ks
after rs ms n at f ks e =
    let len : length (rs ++ ms) ≡ n = omega (arith, e, length-append rs ms) in
    ap (λ (k : ℕ). building ((rs ++ ms) ++ forest_nodes k at f) ks) len ∙ ap (λ (l : List ForestNode). building l ks) (append_assoc rs ms (forest_nodes n at f))

same_row : (rs more : List ForestNode) (r s : ForestNode) (ks : List ℕ) → r ≡ s → building (rs ++ (r ∷ more)) ks ≡ building (rs ++ (s ∷ more)) ks
same_row rs more r s ks e = ap (λ (x : ForestNode). building (rs ++ (x ∷ more)) ks) e

-- ---- the nodes of leaves

text_row : (text : List ℕ) (at n : ℕ) → node_begun (Chars text) at (at + length text) (n + 1) ≡ single_node (Chars text) n at 0 (length text)
text_row text at n = rw (add-zero at) refl

raw_row : (text : List ℕ) (at n : ℕ) → node_begun (Raw text) at (at + length text) (n + 1) ≡ single_node (Raw text) n at 0 (length text)
raw_row text at n = rw (add-zero at) refl

comment_row : (text : List ℕ) (at n : ℕ) → node_begun (Comment text) at (at + length (token_text (Comment text))) (n + 1) ≡ single_node (Comment text) n at 4 (length text)
comment_row text at n =
    let inner : at + length (token_text (Comment text)) - 3 ≡ at + 4 + length text = omega (arith, length-append (60 ∷ 33 ∷ 45 ∷ 45 ∷ text) (45 ∷ 45 ∷ 62 ∷ [])) in
    ap (λ (k : ℕ). record { token = Comment text; from = at; to = at + length (token_text (Comment text)); inner_from = at + 4; inner_to = k; next = n + 1 }) inner

void_row : (name : List ℕ) (attrs : List Attr) (slash : Bool) (at n : ℕ) → node_begun (Start name attrs slash) at (at + length (start_text name attrs slash)) (n + 1) ≡ single_node (Start name attrs slash) n at (length (start_text name attrs slash)) 0
void_row name attrs slash at n = rw (add-zero (at + length (start_text name attrs slash))) refl

-- ---- start tags

opened_void : (name : List ℕ) (attrs : List Attr) (slash : Bool) (from to : ℕ) (rs : List ForestNode) (ks : List ℕ) → is_void name ≡ true
    → built_with (Start name attrs slash) from to (building rs ks) ≡ building (rs ++ (node_begun (Start name attrs slash) from to (length rs + 1) ∷ [])) ks
opened_void name attrs slash from to rs ks v = rw v refl

opened_element : (name : List ℕ) (attrs : List Attr) (slash : Bool) (from to : ℕ) (rs : List ForestNode) (ks : List ℕ) → is_void name ≡ false
    → built_with (Start name attrs slash) from to (building rs ks) ≡ building (rs ++ (node_begun (Start name attrs slash) from to (around ks) ∷ [])) (length rs ∷ ks)
opened_element name attrs slash from to rs ks v = rw v refl

-- the tokens of a forest, that may be spelled, make its nodes
pub makes : (f : Forest) (room at : ℕ) (rs : List ForestNode) (ks : List ℕ) → is_forest room f ≡ true → taken_all (tokens_in at f) (building rs ks) ≡ building (rs ++ forest_nodes (length rs) at f) ks
makes Nothing room at rs ks e = ap (λ (l : List ForestNode). building l ks) (sym (append-nil rs))
makes (Text text f) room at rs ks e =
    let r : ForestNode = node_begun (Chars text) at (at + length text) (length rs + 1) in
    makes f room (at + length text) (rs ++ (r ∷ [])) ks (and_right (is_text text && not (starts_with_text f)) (is_forest room f) e)
    ∙ after rs (r ∷ []) (length rs + 1) (at + length text) f ks refl
    ∙ same_row rs (forest_nodes (length rs + 1) (at + length text) f) r (single_node (Chars text) (length rs) at 0 (length text)) ks (text_row text at (length rs))
makes (Remark text f) room at rs ks e =
    let to : ℕ = at + length (token_text (Comment text)) in
    let r : ForestNode = node_begun (Comment text) at to (length rs + 1) in
    makes f room to (rs ++ (r ∷ [])) ks (and_right (is_verbatim comment_close text) (is_forest room f) e)
    ∙ after rs (r ∷ []) (length rs + 1) to f ks refl
    ∙ same_row rs (forest_nodes (length rs + 1) to f) r (single_node (Comment text) (length rs) at 4 (length text)) ks (comment_row text at (length rs))
makes (Void name attrs slash f) zero at rs ks e = absurd cc
makes (Void name attrs slash f) (suc room) at rs ks e =
    let to : ℕ = at + length (start_text name attrs slash) in
    let r : ForestNode = node_begun (Start name attrs slash) at to (length rs + 1) in
    let p = and_left (is_void name && is_start name attrs slash) (is_forest (suc room) f) e in
    ap (taken_all (tokens_in to f)) (opened_void name attrs slash at to rs ks (and_left (is_void name) (is_start name attrs slash) p))
    ∙ makes f (suc room) to (rs ++ (r ∷ [])) ks (and_right (is_void name && is_start name attrs slash) (is_forest (suc room) f) e)
    ∙ after rs (r ∷ []) (length rs + 1) to f ks refl
    ∙ same_row rs (forest_nodes (length rs + 1) to f) r (single_node (Start name attrs slash) (length rs) at (length (start_text name attrs slash)) 0) ks (void_row name attrs slash at (length rs))
makes (RawElement name attrs [] f) zero at rs ks e = absurd cc
makes (RawElement name attrs (b ∷ bs) f) zero at rs ks e = absurd cc
makes (RawElement name attrs [] f) (suc room) at rs ks e =
    let p = raw_parts room name attrs [] f e in
    let from : ℕ = at + length (start_text name attrs false) in
    let to : ℕ = from + length (end_text name) in
    let r : ForestNode = node_begun (Start name attrs false) at from (around ks) in
    let n : length rs + 1 ≡ length rs + 1 + 0 = omega arith in
    ap (λ (b : Built). taken_all (tokens_in to f) (built_with (End name) from to b)) (opened_element name attrs false at from rs ks (raw_not_void name p.raw))
    ∙ ap (λ (l : List ForestNode). taken_all (tokens_in to f) (closed_innermost from to l (length rs ∷ ks))) (sym (append-nil (rs ++ (r ∷ []))))
    ∙ ap (taken_all (tokens_in to f)) (closing rs [] r from to (length rs + 1) ks n)
    ∙ makes f (suc room) to (rs ++ end_row from to (length rs + 1) r []) ks p.rest_is
    ∙ after rs (end_row from to (length rs + 1) r []) (length rs + 1) to f ks refl
makes (RawElement name attrs (b ∷ bs) f) (suc room) at rs ks e =
    let p = raw_parts room name attrs (b ∷ bs) f e in
    let from : ℕ = at + length (start_text name attrs false) in
    let end : ℕ = from + length (b ∷ bs) in
    let to : ℕ = end + length (end_text name) in
    let r : ForestNode = node_begun (Start name attrs false) at from (around ks) in
    let inner : ForestNode = node_begun (Raw (b ∷ bs)) from end (length (rs ++ (r ∷ [])) + 1) in
    let leaf_is : ForestNode = single_node (Raw (b ∷ bs)) (length rs + 1) from 0 (length (b ∷ bs)) in
    let number : length (rs ++ (r ∷ [])) ≡ length rs + 1 = length-append rs (r ∷ []) in
    let same : inner ≡ leaf_is = ap (λ (k : ℕ). node_begun (Raw (b ∷ bs)) from end (k + 1)) number ∙ raw_row (b ∷ bs) from (length rs + 1) in
    let n : length rs + 2 ≡ length rs + 1 + 1 = omega arith in
    ap (λ (x : Built). taken_all (tokens_in to f) (built_with (End name) end to (built_with (Raw (b ∷ bs)) from end x))) (opened_element name attrs false at from rs ks (raw_not_void name p.raw))
    ∙ ap (taken_all (tokens_in to f)) (closing rs (inner ∷ []) r end to (length rs + 2) ks n)
    ∙ makes f (suc room) to (rs ++ end_row end to (length rs + 2) r (inner ∷ [])) ks p.rest_is
    ∙ after rs (end_row end to (length rs + 2) r (inner ∷ [])) (length rs + 2) to f ks refl
    ∙ ap (λ (x : ForestNode). building (rs ++ (closed_node end to (length rs + 2) r ∷ (x ∷ forest_nodes (length rs + 2) to f))) ks) same
makes (Element name attrs children f) zero at rs ks e = absurd cc
makes (Element name attrs children f) (suc room) at rs ks e =
    let p = element_parts room name attrs children f e in
    let from : ℕ = at + length (start_text name attrs false) in
    let end : ℕ = from + length (spelling children) in
    let to : ℕ = end + length (end_text name) in
    let r : ForestNode = node_begun (Start name attrs false) at from (around ks) in
    let next : ℕ = length rs + 1 + forest_size children in
    let inner : List ForestNode = forest_nodes (length rs + 1) from children in
    let number : length (rs ++ (r ∷ [])) ≡ length rs + 1 = length-append rs (r ∷ []) in
    let many : length inner ≡ forest_size children = length_forest_nodes (length rs + 1) from children in
    let n : next ≡ length rs + 1 + length inner = omega (arith, many) in
    let m : next ≡ length rs + length (end_row end to next r inner) = omega (arith, many) in
    ap (taken_all (tokens_in from children ++ (placed (End name) end ∷ tokens_in to f))) (opened_element name attrs false at from rs ks p.not_void)
    ∙ taken_then (tokens_in from children) (placed (End name) end ∷ tokens_in to f) (building (rs ++ (r ∷ [])) (length rs ∷ ks))
    ∙ ap (λ (b : Built). taken_all (tokens_in to f) (built_with (End name) end to b)) (makes children room from (rs ++ (r ∷ [])) (length rs ∷ ks) p.children_are)
    ∙ ap (λ (k : ℕ). taken_all (tokens_in to f) (closed_innermost end to ((rs ++ (r ∷ [])) ++ forest_nodes k from children) (length rs ∷ ks))) number
    ∙ ap (taken_all (tokens_in to f)) (closing rs inner r end to next ks n)
    ∙ makes f (suc room) to (rs ++ end_row end to next r inner) ks p.rest_is
    ∙ after rs (end_row end to next r inner) next to f ks m
