-- The nodes of the top level of a source, one after the other.
use Rattle.std.proofs.Common.{◌≡◌, ℕ, zero, suc, ◌+◌, ◌<◌, ◌≤◌, Bool, true, false, List, [], ◌∷◌, ◌++◌, length, drop, refl, sym, ap, ◌∙◌, subst, arith, Some, drop-drop}
use Rattle.std.specs.Prelude.{◌&&◌, is_some, option_map, unwrap_or, slice_get}
use Rattle.std.proofs.lemmas.List.{drop_all}
use Rattle.model_spelling.specs.Forest.{Forest, Nothing, Text, Remark, Void, RawElement, Element, Spells}
use Rattle.model_spelling.specs.ForestNodes.{ForestNode, forest_nodes, forest_size}
use Rattle.model_spelling.specs.Grammar.{Token, Start, Chars, Raw, Comment}
use Rattle.model_spelling.specs.Parsed.{forest_of}
use Rattle.model_spelling.proofs.Back.{reads_back}
use Rattle.model_spelling.proofs.ForestLaws.{length_forest_nodes}
use Rattle.model_page_write.specs.Written.{is_inline_source}
use Rattle.ve_html_scan.specs.Shown.{ShowsToken}
use Rattle.ve_html_tree.specs.declared.node.Node.{Node}
use Rattle.ve_html_tree.specs.Nodes.{ShowNodes, ShowsNode}
use Rattle.ve_write.proofs.SiblingLemmas.{found_at}
use Rattle.ve_write.specs.Inline.{is_inline_token}

-- ---- nodes that show nodes

shown_after : (ns : List Node) (xs ys : List ForestNode) → ShowNodes ns (xs ++ ys) → ShowNodes (drop (length xs) ns) ys
shown_after ns [] ys h = h
shown_after (n ∷ ns) (x ∷ xs) ys h = shown_after ns xs ys h.1
shown_after [] (x ∷ xs) ys h = absurd h

-- the first node of the top level, and what comes after it
pub record FirstShown (nodes : List Node) (n : ℕ) (rest : Forest) (node : Node) : Type 0 where
  pub token : Token
  pub shows : ShowsToken node.token token
  pub after : Forest
  pub byte : ℕ
  pub is : is_inline_source rest ≡ (is_inline_token token && is_inline_source after)
  pub shown : ShowNodes (drop node.next nodes) (forest_nodes node.next byte after)
  pub more : n < node.next

moved : (nodes : List Node) (k next byte : ℕ) (f : Forest) → k ≡ next → ShowNodes (drop k nodes) (forest_nodes k byte f) → ShowNodes (drop next nodes) (forest_nodes next byte f)
moved nodes k next byte f e h = subst (λ m. ShowNodes (drop m nodes) (forest_nodes m byte f)) e h

past : (nodes : List Node) (n m byte : ℕ) (xs : List ForestNode) (f : Forest) → length xs ≡ m → ShowNodes (drop (n + 1) nodes) (xs ++ forest_nodes (n + 1 + m) byte f) →
    ShowNodes (drop (n + 1 + m) nodes) (forest_nodes (n + 1 + m) byte f)
past nodes n m byte xs f len h =
    let a : ShowNodes (drop (length xs) (drop (n + 1) nodes)) (forest_nodes (n + 1 + m) byte f) = shown_after (drop (n + 1) nodes) xs (forest_nodes (n + 1 + m) byte f) h in
    subst (λ l. ShowNodes l (forest_nodes (n + 1 + m) byte f)) (ap (λ k. drop k (drop (n + 1) nodes)) len ∙ drop-drop m (n + 1) nodes) a

raw_past : (nodes : List Node) (n to : ℕ) (x : ForestNode) (rest : Forest) → ShowNodes (drop (n + 1) nodes) (x ∷ forest_nodes (n + 2) to rest) → ShowNodes (drop (n + 2) nodes) (forest_nodes (n + 2) to rest)
raw_past nodes n to x rest h =
    let two : n + 1 + 1 ≡ n + 2 = omega arith in
    subst (λ l. ShowNodes l (forest_nodes (n + 2) to rest)) (drop-drop 1 (n + 1) nodes ∙ ap (λ k. drop k nodes) two) (shown_after (drop (n + 1) nodes) (x ∷ []) (forest_nodes (n + 2) to rest) h)

pub first_shown : (nodes : List Node) (n byte : ℕ) (rest : Forest) (node : Node) → ShowNodes (node ∷ drop (n + 1) nodes) (forest_nodes n byte rest) → FirstShown nodes n rest node
first_shown nodes n byte Nothing node h = absurd h
first_shown nodes n byte (Text text rest) node h = record {
  token = Chars text;
  shows = h.0.token;
  after = rest;
  byte = _;
  is = refl;
  shown = moved nodes (n + 1) node.next _ rest (sym h.0.next) h.1;
  more = omega (arith, h.0.next);
}
first_shown nodes n byte (Remark text rest) node h = record {
  token = Comment text;
  shows = h.0.token;
  after = rest;
  byte = _;
  is = refl;
  shown = moved nodes (n + 1) node.next _ rest (sym h.0.next) h.1;
  more = omega (arith, h.0.next);
}
first_shown nodes n byte (Void name attrs slash rest) node h = record {
  token = Start name attrs slash;
  shows = h.0.token;
  after = rest;
  byte = _;
  is = refl;
  shown = moved nodes (n + 1) node.next _ rest (sym h.0.next) h.1;
  more = omega (arith, h.0.next);
}
first_shown nodes n byte (RawElement name attrs [] rest) node h = record {
  token = Start name attrs false;
  shows = h.0.token;
  after = rest;
  byte = _;
  is = refl;
  shown = moved nodes (n + 1) node.next _ rest (sym h.0.next) h.1;
  more = omega (arith, h.0.next);
}
first_shown nodes n byte (RawElement name attrs (b ∷ bs) rest) node h = record {
  token = Start name attrs false;
  shows = h.0.token;
  after = rest;
  byte = _;
  is = refl;
  shown = moved nodes (n + 2) node.next _ rest (sym h.0.next) (raw_past nodes n _ _ rest h.1);
  more = omega (arith, h.0.next);
}
first_shown nodes n byte (Element name attrs children rest) node h = record {
  token = Start name attrs false;
  shows = h.0.token;
  after = rest;
  byte = _;
  is = refl;
  shown = moved nodes (n + 1 + forest_size children) node.next _ rest (sym h.0.next) (past nodes n (forest_size children) _ (forest_nodes (n + 1) _ children) rest (length_forest_nodes (n + 1) _ children) h.1);
  more = omega (arith, h.0.next);
}

-- ---- going on

-- what is left of a forest, which is inline where the forest is
pub record Left (nodes : List Node) (n : ℕ) (f : Forest) : Type 0 where
  pub rest : Forest
  pub byte : ℕ
  pub shown : ShowNodes (drop n nodes) (forest_nodes n byte rest)
  pub same : is_inline_source f ≡ is_inline_source rest

pub all_left : (nodes : List Node) (f : Forest) → ShowNodes nodes (forest_nodes 0 0 f) → Left nodes 0 f
all_left nodes f h = record { rest = f; byte = 0; shown = h; same = refl }

pub first_left : (nodes : List Node) (n : ℕ) (node : Node) (f : Forest) → slice_get nodes n ≡ Some node → (l : Left nodes n f) → FirstShown nodes n l.rest node
first_left nodes n node f found l = first_shown nodes n l.byte l.rest node (subst (λ ns. ShowNodes ns (forest_nodes n l.byte l.rest)) (found_at nodes n node found) l.shown)

pub more_left : (nodes : List Node) (n : ℕ) (node : Node) (f : Forest) (b : Bool) → slice_get nodes n ≡ Some node → ((k : Token) → ShowsToken node.token k → b ≡ is_inline_token k) → b ≡ true →
    Left nodes n f → Left nodes node.next f
more_left nodes n node f b found test passes l =
    let x = first_left nodes n node f found l in
    record {
      rest = x.after;
      byte = x.byte;
      shown = x.shown;
      same = l.same ∙ x.is ∙ ap (λ c. c && is_inline_source x.after) (sym (test x.token x.shows) ∙ passes);
    }

pub not_left : (nodes : List Node) (n : ℕ) (node : Node) (f : Forest) (b : Bool) → slice_get nodes n ≡ Some node → ((k : Token) → ShowsToken node.token k → b ≡ is_inline_token k) → b ≡ false →
    Left nodes n f → false ≡ is_inline_source f
not_left nodes n node f b found test fails l =
    let x = first_left nodes n node f found l in
    sym (l.same ∙ x.is ∙ ap (λ c. c && is_inline_source x.after) (sym (test x.token x.shows) ∙ fails))

none_shown : (n byte : ℕ) (rest : Forest) → ShowNodes [] (forest_nodes n byte rest) → is_inline_source rest ≡ true
none_shown n byte Nothing h = refl
none_shown n byte (Text text rest) h = absurd h
none_shown n byte (Remark text rest) h = absurd h
none_shown n byte (Void name attrs slash rest) h = absurd h
none_shown n byte (RawElement name attrs [] rest) h = absurd h
none_shown n byte (RawElement name attrs (b ∷ bs) rest) h = absurd h
none_shown n byte (Element name attrs children rest) h = absurd h

pub none_left : (nodes : List Node) (n : ℕ) (f : Forest) → length nodes ≤ n → Left nodes n f → true ≡ is_inline_source f
none_left nodes n f le l = sym (l.same ∙ none_shown n l.byte l.rest (subst (λ ns. ShowNodes ns (forest_nodes n l.byte l.rest)) (drop_all n nodes le) l.shown))

-- ---- a source that is read

pub read_is : (text : List ℕ) (b : Bool) (f : Forest) → Spells text f → b ≡ is_inline_source f → b ≡ unwrap_or (option_map is_inline_source (forest_of text)) false
read_is text b f s e = e ∙ sym (ap (λ t. unwrap_or (option_map is_inline_source (forest_of t)) false) s.text_is ∙ ap (λ o. unwrap_or (option_map is_inline_source o) false) (reads_back 200 f (omega arith) s.allowed))
