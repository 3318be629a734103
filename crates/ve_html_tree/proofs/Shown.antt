-- Nodes of the forest that are shown, as nodes are appended and ended.
use Rattle.ve_kinds.specs.Tags.{is_void}
use Rattle.ve_html_tree.specs.declared.open.Opened.{Opened}
use Rattle.ve_html_tree.specs.Opened.{open_node_numbers_from, open_node_numbers, opens, LinkedFrom, AreLinked}
use Rattle.ve_html_tree.proofs.Links.{leaf_numbers, leaf_opens, leaf_links}
use Rattle.std.proofs.Common.{IfErr}
use Rattle.model_spelling.specs.Faults.{ForestFault}
use Rattle.ve_html_tree.specs.Seen.{IsFirstFault, fault_met, StepsTo}
use Rattle.ve_html_tree.specs.declared.fault.HtmlFault.{HtmlFault}
use Rattle.ve_html_tree.specs.declared.fault.HtmlFault.TheVariants as faults
use Rattle.std.proofs.Common.{Bor, cond, Bool, Result, Ok, Err, OnOk}
use Rattle.model_spelling.specs.Faults.{OpenElement, after_token}
use Rattle.ve_html_scan.specs.declared.attr_tokens.AttrTokens.{AttrTokens}
use Rattle.ve_html_scan.specs.declared.token.Span.{Span}
use Rattle.ve_html_tree.specs.Building.{Built, building, built_with, around}
use Rattle.std.proofs.Common.{◌≡◌, ℕ, zero, suc, ◌+◌, List, [], ◌∷◌, ◌++◌, length, refl, sym, ap, ◌∙◌, arith, subst}
use Rattle.model_spelling.specs.Grammar as g
use Rattle.model_spelling.specs.ForestNodes.{ForestNode}
use Rattle.ve_html_scan.specs.Shown.{ShowsToken, token_span}
use Rattle.ve_html_scan.specs.declared.token.Token.{Token}
use Rattle.ve_html_scan.specs.declared.token.Token.TheVariants as lent
use Rattle.ve_html_tree.specs.declared.node.Node.{Node}
use Rattle.ve_html_tree.specs.Building.{node_begun, closed_node, closed_at}
use Rattle.ve_html_tree.specs.Nodes.{HasText, ShowsNode, ShowNodes, node_of, ended_node, ended_at}

pub length_shows : (ns : List Node) (rs : List ForestNode) → ShowNodes ns rs → length ns ≡ length rs
length_shows [] [] s = refl
length_shows [] (r ∷ rs) s = absurd s
length_shows (n ∷ ns) [] s = absurd s
length_shows (n ∷ ns) (r ∷ rs) s = omega (arith, length_shows ns rs s.1)

push_shows : (ns : List Node) (rs : List ForestNode) (n : Node) (r : ForestNode) → ShowNodes ns rs → ShowsNode n r → ShowNodes (ns ++ n ∷ []) (rs ++ r ∷ [])
push_shows [] [] n r s h = (h, tt)
push_shows [] (q ∷ rs) n r s h = absurd s
push_shows (m ∷ ns) [] n r s h = absurd s
push_shows (m ∷ ns) (q ∷ rs) n r s h = (s.0, push_shows ns rs n r s.1 h)

end_shows : (n : Node) (r : ForestNode) (from to next : ℕ) → ShowsNode n r → ShowsNode (ended_node from to next n) (closed_node from to next r)
end_shows n r from to next h = record { token = h.token; token_from = h.token_from; token_to = h.token_to; from = h.from; to = refl; inner_from = h.inner_from; inner_to = refl; next = refl }

close_shows : (ns : List Node) (rs : List ForestNode) (k from to next : ℕ) → ShowNodes ns rs → ShowNodes (ended_at k from to next ns) (closed_at k from to next rs)
close_shows [] [] k from to next s = s
close_shows [] (r ∷ rs) k from to next s = absurd s
close_shows (n ∷ ns) [] k from to next s = absurd s
close_shows (n ∷ ns) (r ∷ rs) zero from to next s = (end_shows n r from to next s.0, s.1)
close_shows (n ∷ ns) (r ∷ rs) (suc k) from to next s = (s.0, close_shows ns rs k from to next s.1)

node_shows : (t : Token) (k : g.Token) (next : ℕ) → HasText t k → ShowsToken t k → ShowsNode (node_of t next) (node_begun k (token_span t).from (token_span t).to next)
node_shows (lent.StartTag name attrs span) (g.Start m attributes slash) number w h = record { token = h; token_from = refl; token_to = w; from = refl; to = refl; inner_from = refl; inner_to = refl; next = refl }
node_shows (lent.StartTag name attrs span) (g.End m) number w h = absurd h
node_shows (lent.StartTag name attrs span) (g.Chars x) number w h = absurd h
node_shows (lent.StartTag name attrs span) (g.Raw x) number w h = absurd h
node_shows (lent.StartTag name attrs span) (g.Comment x) number w h = absurd h
node_shows (lent.EndTag name span) (g.Start m attributes slash) number w h = absurd h
node_shows (lent.EndTag name span) (g.End m) number w h = record { token = h; token_from = refl; token_to = w; from = refl; to = refl; inner_from = refl; inner_to = refl; next = refl }
node_shows (lent.EndTag name span) (g.Chars x) number w h = absurd h
node_shows (lent.EndTag name span) (g.Raw x) number w h = absurd h
node_shows (lent.EndTag name span) (g.Comment x) number w h = absurd h
node_shows (lent.Chars text span) (g.Start m attributes slash) number w h = absurd h
node_shows (lent.Chars text span) (g.End m) number w h = absurd h
node_shows (lent.Chars text span) (g.Chars x) number w h = record { token = h; token_from = refl; token_to = w; from = refl; to = refl; inner_from = refl; inner_to = refl; next = refl }
node_shows (lent.Chars text span) (g.Raw x) number w h = absurd h
node_shows (lent.Chars text span) (g.Comment x) number w h = absurd h
node_shows (lent.Raw text span) (g.Start m attributes slash) number w h = absurd h
node_shows (lent.Raw text span) (g.End m) number w h = absurd h
node_shows (lent.Raw text span) (g.Chars x) number w h = absurd h
node_shows (lent.Raw text span) (g.Raw x) number w h = record { token = h; token_from = refl; token_to = w; from = refl; to = refl; inner_from = refl; inner_to = refl; next = refl }
node_shows (lent.Raw text span) (g.Comment x) number w h = absurd h
node_shows (lent.Comment text span) (g.Start m attributes slash) number w h = absurd h
node_shows (lent.Comment text span) (g.End m) number w h = absurd h
node_shows (lent.Comment text span) (g.Chars x) number w h = absurd h
node_shows (lent.Comment text span) (g.Raw x) number w h = absurd h
node_shows (lent.Comment text span) (g.Comment x) number w h = record { token = h; token_from = refl; token_to = w; from = refl; to = refl; inner_from = refl; inner_to = refl; next = refl }

-- ---- the rows after a step, where it was one

on_ok : {A E : Type 0} {P Q : Type 0} (r : Result A E) → OnOk r P → (P → Q) → OnOk r Q
on_ok (Ok x) p f = f p
on_ok (Err e) p f = tt

on_ok2 : {A E : Type 0} (P Q : Type 0) (r : Result A E) → OnOk r P → OnOk r Q → OnOk r (P × Q)
on_ok2 P Q (Ok x) p q = (p, q)
on_ok2 P Q (Err e) p q = tt

abbrev pub row_at : g.Token → Token → ℕ → ForestNode
row_at k t next = node_begun k (token_span t).from (token_span t).to next

pub pushed_shows : {A E : Type 0} (r : Result A E) (new old : List Node) (t : Token) (k : g.Token) (rs : List ForestNode) (next : ℕ) → OnOk r (new ≡ old ++ node_of t next ∷ []) → HasText t k → ShowsToken t k → ShowNodes old rs → OnOk r (ShowNodes new (rs ++ row_at k t next ∷ []))
pushed_shows (Ok x) new old t k rs next is w h s = subst (λ (l : List Node). ShowNodes l (rs ++ row_at k t next ∷ [])) (sym is) (push_shows old rs (node_of t next) (row_at k t next) s (node_shows t k next w h))
pushed_shows (Err f) new old t k rs next is w h s = tt

pub ended_shows : {A E : Type 0} (r : Result A E) (new old : List Node) (rs : List ForestNode) (k from to : ℕ) → OnOk r (new ≡ ended_at k from to (length old) old) → ShowNodes old rs → OnOk r (ShowNodes new (closed_at k from to (length rs) rs))
ended_shows (Ok x) new old rs k from to is s =
    subst (λ (l : List Node). ShowNodes l (closed_at k from to (length rs) rs)) (sym is)
    (subst (λ (n : ℕ). ShowNodes (ended_at k from to n old) (closed_at k from to (length rs) rs)) (sym (length_shows old rs s)) (close_shows old rs k from to (length rs) s))
ended_shows (Err f) new old rs k from to is s = tt

-- ---- what a start tag does

around_by : (ns : List Node) (bound count k : ℕ) → LinkedFrom ns bound count k → around (open_node_numbers_from ns count k) ≡ k
around_by ns bound zero k l = sym l
around_by ns bound (suc count) k l = refl

-- the link of a start tag's node
abbrev pub link_of : Bool → ℕ → ℕ → ℕ
link_of v n around = cond v (n + 1) around

start_by : (name : Bor (List ℕ)) (attrs : AttrTokens) (span : Span) (k : g.Token) (from to : ℕ) (rs : List ForestNode) (ks : List ℕ) → ShowsToken (lent.StartTag name attrs span) k
    → (rs ++ node_begun k from to (link_of (is_void name.now) (length rs) (around ks)) ∷ [] ≡ (built_with k from to (building rs ks)).nodes) × ((built_with k from to (building rs ks)).open_ ≡ cond (is_void name.now) ks (length rs ∷ ks))
start_by name attrs span (g.Start m attributes slash) from to rs ks h =
    (ap (λ (x : List ℕ). rs ++ node_begun (g.Start m attributes slash) from to (link_of (is_void x) (length rs) (around ks)) ∷ []) h.0, ap (λ (x : List ℕ). cond (is_void x) ks (length rs ∷ ks)) (sym h.0))
start_by name attrs span (g.End m) from to rs ks h = absurd h
start_by name attrs span (g.Chars x) from to rs ks h = absurd h
start_by name attrs span (g.Raw x) from to rs ks h = absurd h
start_by name attrs span (g.Comment x) from to rs ks h = absurd h

module _ {A E : Type 0} (r : Result A E) (new old : List Node) (t : Token) (name : Bor (List ℕ)) (attrs : AttrTokens) (span : Span) (k : g.Token) (rs : List ForestNode) (o : Opened) (is : t ≡ lent.StartTag name attrs span) (h : ShowsToken t k) (s : ShowNodes old rs) where
  start_taken : (rs ++ row_at k t (link_of (is_void name.now) (length rs) (around (open_node_numbers old o))) ∷ [] ≡ (built_with k (token_span t).from (token_span t).to (building rs (open_node_numbers old o))).nodes)
      × ((built_with k (token_span t).from (token_span t).to (building rs (open_node_numbers old o))).open_ ≡ cond (is_void name.now) (open_node_numbers old o) (length rs ∷ open_node_numbers old o))
  start_taken = start_by name attrs span k (token_span t).from (token_span t).to rs (open_node_numbers old o) (subst (λ (x : Token). ShowsToken x k) is h)

  pub start_rows : AreLinked old o → HasText t k → OnOk r (new ≡ old ++ node_of t (link_of (is_void name.now) (length old) o.innermost) ∷ []) → OnOk r (ShowNodes new (built_with k (token_span t).from (token_span t).to (building rs (open_node_numbers old o))).nodes)
  start_rows l w e =
      let link : link_of (is_void name.now) (length old) o.innermost ≡ link_of (is_void name.now) (length rs) (around (open_node_numbers old o)) =
      ap (λ (n : ℕ). link_of (is_void name.now) n o.innermost) (length_shows old rs s) ∙ ap (link_of (is_void name.now) (length rs)) (sym (around_by old (length old) o.count o.innermost l)) in
      subst (λ (l2 : List ForestNode). OnOk r (ShowNodes new l2)) (ap (λ (n : ℕ). rs ++ row_at k t n ∷ []) link ∙ start_taken.0) (pushed_shows r new old t k rs (link_of (is_void name.now) (length old) o.innermost) e w h s)

  pub start_numbers : (ks : List ℕ) → OnOk r (ks ≡ cond (is_void name.now) (open_node_numbers old o) (length old ∷ open_node_numbers old o)) → OnOk r ((built_with k (token_span t).from (token_span t).to (building rs (open_node_numbers old o))).open_ ≡ ks)
  start_numbers ks e = on_ok r e (λ x. start_taken.1 ∙ ap (λ (n : ℕ). cond (is_void name.now) (open_node_numbers old o) (n ∷ open_node_numbers old o)) (sym (length_shows old rs s)) ∙ sym x)

-- ---- what an end tag does

end_by : (name : Bor (List ℕ)) (span : Span) (k : g.Token) (from to : ℕ) (rs : List ForestNode) (j : ℕ) (ks : List ℕ) → ShowsToken (lent.EndTag name span) k → built_with k from to (building rs (j ∷ ks)) ≡ building (closed_at j from to (length rs) rs) ks
end_by name span (g.Start m attributes slash) from to rs j ks h = absurd h
end_by name span (g.End m) from to rs j ks h = refl
end_by name span (g.Chars x) from to rs j ks h = absurd h
end_by name span (g.Raw x) from to rs j ks h = absurd h
end_by name span (g.Comment x) from to rs j ks h = absurd h

module _ {A E : Type 0} (r : Result A E) (t : Token) (name : Bor (List ℕ)) (span : Span) (k : g.Token) (rs : List ForestNode) (ks more : List ℕ) (j : ℕ) (is : t ≡ lent.EndTag name span) (h : ShowsToken t k) (first : OnOk r (ks ≡ j ∷ more)) where
  end_taken : ks ≡ j ∷ more → built_with k (token_span t).from (token_span t).to (building rs ks) ≡ building (closed_at j span.from span.to (length rs) rs) more
  end_taken e =
      ap (λ (l : List ℕ). built_with k (token_span t).from (token_span t).to (building rs l)) e
      ∙ ap (λ (x : Token). built_with k (token_span x).from (token_span x).to (building rs (j ∷ more))) is
      ∙ end_by name span k span.from span.to rs j more (subst (λ (x : Token). ShowsToken x k) is h)

  pub end_rows : (new old : List Node) → ShowNodes old rs → OnOk r (new ≡ ended_at j span.from span.to (length old) old) → OnOk r (ShowNodes new (built_with k (token_span t).from (token_span t).to (building rs ks)).nodes)
  end_rows new old s e =
      on_ok r (on_ok2 (ks ≡ j ∷ more) (ShowNodes new (closed_at j span.from span.to (length rs) rs)) r first (ended_shows r new old rs j span.from span.to e s)) (λ p. subst (λ (b : Built). ShowNodes new b.nodes) (sym (end_taken p.0)) p.1)

  pub end_numbers : OnOk r ((built_with k (token_span t).from (token_span t).to (building rs ks)).open_ ≡ more)
  end_numbers = on_ok r first (λ e. ap (λ (b : Built). b.open_) (end_taken e))

-- ---- what another token does

-- a token that isn't a tag
abbrev pub IsLeaf : Token → Type 0
IsLeaf (lent.StartTag name attrs span) = ⊥
IsLeaf (lent.EndTag name span) = ⊥
IsLeaf (lent.Chars text span) = Unit {0}
IsLeaf (lent.Raw text span) = Unit {0}
IsLeaf (lent.Comment text span) = Unit {0}

leaf_taken : (t : Token) (k : g.Token) (from to : ℕ) (rs : List ForestNode) (ks : List ℕ) (os : List OpenElement) → IsLeaf t → ShowsToken t k
    → (after_token k from os ≡ Ok os) × ((built_with k from to (building rs ks)).nodes ≡ rs ++ node_begun k from to (length rs + 1) ∷ []) × ((built_with k from to (building rs ks)).open_ ≡ ks)
leaf_taken (lent.StartTag name attrs span) k from to rs ks os l h = absurd l
leaf_taken (lent.EndTag name span) k from to rs ks os l h = absurd l
leaf_taken (lent.Chars text span) (g.Start m attributes slash) from to rs ks os l h = absurd h
leaf_taken (lent.Chars text span) (g.End m) from to rs ks os l h = absurd h
leaf_taken (lent.Chars text span) (g.Chars x) from to rs ks os l h = (refl, refl, refl)
leaf_taken (lent.Chars text span) (g.Raw x) from to rs ks os l h = absurd h
leaf_taken (lent.Chars text span) (g.Comment x) from to rs ks os l h = absurd h
leaf_taken (lent.Raw text span) (g.Start m attributes slash) from to rs ks os l h = absurd h
leaf_taken (lent.Raw text span) (g.End m) from to rs ks os l h = absurd h
leaf_taken (lent.Raw text span) (g.Chars x) from to rs ks os l h = absurd h
leaf_taken (lent.Raw text span) (g.Raw x) from to rs ks os l h = (refl, refl, refl)
leaf_taken (lent.Raw text span) (g.Comment x) from to rs ks os l h = absurd h
leaf_taken (lent.Comment text span) (g.Start m attributes slash) from to rs ks os l h = absurd h
leaf_taken (lent.Comment text span) (g.End m) from to rs ks os l h = absurd h
leaf_taken (lent.Comment text span) (g.Chars x) from to rs ks os l h = absurd h
leaf_taken (lent.Comment text span) (g.Raw x) from to rs ks os l h = absurd h
leaf_taken (lent.Comment text span) (g.Comment x) from to rs ks os l h = (refl, refl, refl)

pub leaf_is : (t : Token) → ((name : Bor (List ℕ)) (attrs : AttrTokens) (span : Span) → t ≡ lent.StartTag name attrs span → ⊥) → ((name : Bor (List ℕ)) (span : Span) → t ≡ lent.EndTag name span → ⊥) → IsLeaf t
leaf_is (lent.StartTag name attrs span) start end = start name attrs span refl
leaf_is (lent.EndTag name span) start end = end name span refl
leaf_is (lent.Chars text span) start end = tt
leaf_is (lent.Raw text span) start end = tt
leaf_is (lent.Comment text span) start end = tt

leaf_fault : {A : Type 0} (r : Result A HtmlFault) (os more : List OpenElement) (read : Result (List OpenElement) ForestFault) → read ≡ Ok os → OnOk r (more ≡ os) → IfErr r (λ e. e ≡ faults.Memory) → StepsTo r more read
leaf_fault (Ok x) os more read e same m = e ∙ ap (λ (l : List OpenElement). Ok l) (sym same)
leaf_fault (Err f) os more read e same m = subst (λ (x : HtmlFault). IsFirstFault x (fault_met read)) (sym m) tt

module _ {A : Type 0} (r : Result A HtmlFault) (new old : List Node) (t : Token) (o : Opened) (next : ℕ) (leaf : IsLeaf t) (l : AreLinked old o) (e : OnOk r (new ≡ old ++ node_of t next ∷ [])) where
  pub leaf_goes : (k : g.Token) → ShowsToken t k → IfErr r (λ e. e ≡ faults.Memory) → StepsTo r (opens new o) (after_token k (token_span t).from (opens old o))
  leaf_goes k h m =
      leaf_fault r (opens old o) (opens new o) (after_token k (token_span t).from (opens old o)) (leaf_taken t k (token_span t).from (token_span t).to [] [] (opens old o) leaf h).0
      (on_ok r e (λ x. ap (λ (ns : List Node). opens ns o) x ∙ leaf_opens old (node_of t next) o l)) m

  pub leaf_rows : (k : g.Token) (rs : List ForestNode) → next ≡ length old + 1 → ShowsToken t k → HasText t k → ShowNodes old rs → OnOk r (ShowNodes new (built_with k (token_span t).from (token_span t).to (building rs (open_node_numbers old o))).nodes)
  leaf_rows k rs n h w s =
      let link : next ≡ length rs + 1 = omega (arith, n, length_shows old rs s) in
      subst (λ (l2 : List ForestNode). OnOk r (ShowNodes new l2)) (ap (λ (i : ℕ). rs ++ row_at k t i ∷ []) link ∙ sym (leaf_taken t k (token_span t).from (token_span t).to rs (open_node_numbers old o) [] leaf h).1) (pushed_shows r new old t k rs next e w h s)

  pub leaf_built : (k : g.Token) (rs : List ForestNode) → ShowsToken t k → OnOk r ((built_with k (token_span t).from (token_span t).to (building rs (open_node_numbers old o))).open_ ≡ open_node_numbers new o)
  leaf_built k rs h = on_ok r e (λ x. (leaf_taken t k (token_span t).from (token_span t).to rs (open_node_numbers old o) [] leaf h).2 ∙ sym (leaf_numbers old (node_of t next) o l) ∙ ap (λ (ns : List Node). open_node_numbers ns o) (sym x))

  pub leaf_linked : OnOk r (AreLinked new o)
  leaf_linked = on_ok r e (λ x. subst (λ (ns : List Node). AreLinked ns o) (sym x) (leaf_links old (node_of t next) o l))
