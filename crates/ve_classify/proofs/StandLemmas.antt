-- Steps over siblings, as their nodes show them.
use Rattle.std.proofs.Common.{◌≡◌, ℕ, zero, suc, ◌+◌, ◌<◌, ◌≤◌, Bool, true, false, not, ◌&&◌, List, [], ◌∷◌, ◌++◌, length, drop, Some, refl, sym, ap, ◌∙◌, subst, arith, append_assoc}
use Rattle.std.specs.Prelude.{slice_get}
use Rattle.std.proofs.lemmas.List.{length-append, drop-drop}
use Rattle.model_spelling.specs.Grammar as g
use Rattle.model_spelling.specs.Grammar.{Attr, Comment, token_text, start_text, end_text, is_text, is_start, is_verbatim, comment_close}
use Rattle.ve_kinds.specs.Tags.{is_void}
use Rattle.model_spelling.specs.Forest.{Forest, Nothing, Text, Remark, Void, RawElement, Element, starts_with_text, spelling, is_forest, then_forest}
use Rattle.model_spelling.specs.ForestNodes.{ForestNode, forest_size, single_node, forest_nodes}
use Rattle.model_spelling.proofs.AttrReading.{and_right}
use Rattle.model_spelling.proofs.ForestLaws.{spelling_then, length_forest_nodes}
use Rattle.model_spelling.proofs.Back.{element_parts, raw_parts}
use Rattle.ve_html_scan.specs.Shown.{ShowsToken}
use Rattle.ve_html_tree.specs.Nodes.{ShowsNode, ShowNodes}
use Rattle.ve_html_tree.specs.declared.node.Node.{Node}
use Rattle.ve_classify.specs.Standing.{StartsPast, ShownFrom, Stands, has_node}
use Rattle.ve_classify.specs.Standing.{rest_of, first_count}

-- ---- a node and those after it

pub record FirstShown (nodes : List Node) (n : ℕ) (r : ForestNode) (rs : List ForestNode) : Type 0 where
  pub node : Node
  pub is : slice_get nodes n ≡ Some node
  pub shows : ShowsNode node r
  pub rest : ShowNodes (drop (n + 1) nodes) rs

pub first_shown : (nodes : List Node) (n : ℕ) (r : ForestNode) (rs : List ForestNode) → ShowNodes (drop n nodes) (r ∷ rs) → FirstShown nodes n r rs
first_shown [] zero r rs h = absurd h
first_shown [] (suc n) r rs h = absurd h
first_shown (x ∷ xs) zero r rs h = record { node = x; is = refl; shows = h.0; rest = h.1 }
first_shown (x ∷ xs) (suc n) r rs h =
    let f = first_shown xs n r rs h in
    let e : suc (n + 1) ≡ suc n + 1 = omega arith in
    record { node = f.node; is = f.is; shows = f.shows; rest = subst (λ (k : ℕ). ShowNodes (drop k (x ∷ xs)) rs) e f.rest }

-- the nodes show no more forest_nodes than they are
pub shown_count : (nodes : List Node) (rs : List ForestNode) → ShowNodes nodes rs → length nodes ≡ length rs
shown_count [] [] h = refl
shown_count [] (r ∷ rs) h = absurd h
shown_count (n ∷ ns) [] h = absurd h
shown_count (n ∷ ns) (r ∷ rs) h = let e = shown_count ns rs h.1 in omega arith

pub shows_after : (xs : List Node) (rs more : List ForestNode) → ShowNodes xs (rs ++ more) → ShowNodes (drop (length rs) xs) more
shows_after xs [] more h = h
shows_after [] (r ∷ rs) more h = absurd h
shows_after (x ∷ xs) (r ∷ rs) more h = shows_after xs rs more h.1

-- ---- one forest after another

same_nodes : (n m at bt : ℕ) (f : Forest) → n ≡ m → at ≡ bt → forest_nodes n at f ≡ forest_nodes m bt f
same_nodes n m at bt f e d = ap (λ (k : ℕ). forest_nodes k at f) e ∙ ap (λ (k : ℕ). forest_nodes m k f) d

pub nodes_then : (n at : ℕ) (f h : Forest) → forest_nodes n at (then_forest f h) ≡ forest_nodes n at f ++ forest_nodes (n + forest_size f) (at + length (spelling f)) h
nodes_then n at Nothing h = same_nodes n (n + 0) at (at + 0) h (omega arith) (omega arith)
nodes_then n at (Text text f) h =
    ap (λ (l : List ForestNode). single_node (g.Chars text) n at 0 (length text) ∷ l) (nodes_then (n + 1) (at + length text) f h
    ∙ ap (λ (l : List ForestNode). forest_nodes (n + 1) (at + length text) f ++ l) (same_nodes _ _ _ _ h (omega arith) (omega (arith, length-append text (spelling f)))))
nodes_then n at (Remark text f) h =
    ap (λ (l : List ForestNode). single_node (Comment text) n at 4 (length text) ∷ l) (nodes_then (n + 1) (at + length (token_text (Comment text))) f h
    ∙ ap (λ (l : List ForestNode). forest_nodes (n + 1) (at + length (token_text (Comment text))) f ++ l) (same_nodes _ _ _ _ h (omega arith) (omega (arith, length-append (token_text (Comment text)) (spelling f)))))
nodes_then n at (Void name attrs slash f) h =
    let len : ℕ = length (start_text name attrs slash) in
    ap (λ (l : List ForestNode). single_node (g.Start name attrs slash) n at len 0 ∷ l) (nodes_then (n + 1) (at + len) f h
    ∙ ap (λ (l : List ForestNode). forest_nodes (n + 1) (at + len) f ++ l) (same_nodes _ _ _ _ h (omega arith) (omega (arith, length-append (start_text name attrs slash) (spelling f)))))
nodes_then n at (RawElement name attrs [] f) h =
    let from : ℕ = at + length (start_text name attrs false) in
    let to : ℕ = from + length (end_text name) in
    let r : ForestNode = record { token = g.Start name attrs false; from = at; to = to; inner_from = from; inner_to = from; next = n + 1 } in
    ap (λ (l : List ForestNode). r ∷ l) (nodes_then (n + 1) to f h
    ∙ ap (λ (l : List ForestNode). forest_nodes (n + 1) to f ++ l) (same_nodes _ _ _ _ h (omega arith) (omega (arith, length-append (start_text name attrs false ++ []) (end_text name), length-append (start_text name attrs false) [], length-append (start_text name attrs false ++ [] ++ end_text name) (spelling f)))))
nodes_then n at (RawElement name attrs (b ∷ bs) f) h =
    let from : ℕ = at + length (start_text name attrs false) in
    let end : ℕ = from + length (b ∷ bs) in
    let to : ℕ = end + length (end_text name) in
    let r : ForestNode = record { token = g.Start name attrs false; from = at; to = to; inner_from = from; inner_to = end; next = n + 2 } in
    ap (λ (l : List ForestNode). r ∷ (single_node (g.Raw (b ∷ bs)) (n + 1) from 0 (length (b ∷ bs)) ∷ l)) (nodes_then (n + 2) to f h
    ∙ ap (λ (l : List ForestNode). forest_nodes (n + 2) to f ++ l) (same_nodes _ _ _ _ h (omega arith) (omega (arith, length-append (start_text name attrs false ++ (b ∷ bs)) (end_text name), length-append (start_text name attrs false) (b ∷ bs), length-append (start_text name attrs false ++ (b ∷ bs) ++ end_text name) (spelling f)))))
nodes_then n at (Element name attrs children f) h =
    let from : ℕ = at + length (start_text name attrs false) in
    let end : ℕ = from + length (spelling children) in
    let to : ℕ = end + length (end_text name) in
    let next : ℕ = n + 1 + forest_size children in
    let r : ForestNode = record { token = g.Start name attrs false; from = at; to = to; inner_from = from; inner_to = end; next = next } in
    ap (λ (l : List ForestNode). r ∷ (forest_nodes (n + 1) from children ++ l)) (nodes_then next to f h
    ∙ ap (λ (l : List ForestNode). forest_nodes next to f ++ l) (same_nodes _ _ _ _ h (omega arith) (omega (arith, length-append (start_text name attrs false ++ spelling children) (end_text name), length-append (start_text name attrs false) (spelling children), length-append (start_text name attrs false ++ spelling children ++ end_text name) (spelling f)))))
    ∙ ap (λ (l : List ForestNode). r ∷ l) (sym (append_assoc (forest_nodes (n + 1) from children) (forest_nodes next to f) _))

pub shown_first : (nodes : List Node) (n at : ℕ) (f h : Forest) (more : List ForestNode) → ShownFrom nodes n at (then_forest f h) more → ShownFrom nodes n at f (forest_nodes (n + forest_size f) (at + length (spelling f)) h ++ more)
shown_first nodes n at f h more s =
    subst (ShowNodes (drop n nodes)) (append_assoc (forest_nodes n at f) _ more) (subst (λ (l : List ForestNode). ShowNodes (drop n nodes) (l ++ more)) (nodes_then n at f h) s)

pub shown_after : (nodes : List Node) (n at : ℕ) (f h : Forest) (more : List ForestNode) → ShownFrom nodes n at (then_forest f h) more → ShownFrom nodes (n + forest_size f) (at + length (spelling f)) h more
shown_after nodes n at f h more s =
    let b = shows_after (drop n nodes) (forest_nodes n at f) (forest_nodes (n + forest_size f) (at + length (spelling f)) h ++ more) (shown_first nodes n at f h more s) in
    let k : n + length (forest_nodes n at f) ≡ n + forest_size f = omega (arith, length_forest_nodes n at f) in
    subst (λ (l : List Node). ShowNodes l (forest_nodes (n + forest_size f) (at + length (spelling f)) h ++ more)) (drop-drop (length (forest_nodes n at f)) n nodes ∙ ap (λ (i : ℕ). drop i nodes) k) b

-- ---- the first node

-- the first node alone
abbrev pub first_node : Forest → Forest
first_node Nothing = Nothing
first_node (Text text rest) = Text text Nothing
first_node (Remark text rest) = Remark text Nothing
first_node (Void name attrs slash rest) = Void name attrs slash Nothing
first_node (RawElement name attrs text rest) = RawElement name attrs text Nothing
first_node (Element name attrs children rest) = Element name attrs children Nothing

abbrev pub first_token : Forest → g.Token
first_token Nothing = g.Chars []
first_token (Text text rest) = g.Chars text
first_token (Remark text rest) = Comment text
first_token (Void name attrs slash rest) = g.Start name attrs slash
first_token (RawElement name attrs text rest) = g.Start name attrs false
first_token (Element name attrs children rest) = g.Start name attrs false

pub first_then : (f : Forest) → then_forest (first_node f) (rest_of f) ≡ f
first_then Nothing = refl
first_then (Text text rest) = refl
first_then (Remark text rest) = refl
first_then (Void name attrs slash rest) = refl
first_then (RawElement name attrs text rest) = refl
first_then (Element name attrs children rest) = refl

pub first_count_is : (f : Forest) → forest_size (first_node f) ≡ first_count f
first_count_is Nothing = refl
first_count_is (Text text rest) = refl
first_count_is (Remark text rest) = refl
first_count_is (Void name attrs slash rest) = refl
first_count_is (RawElement name attrs text rest) = refl
first_count_is (Element name attrs children rest) = omega arith

-- how long the first node is
abbrev pub first_length : Forest → ℕ
first_length f = length (spelling (first_node f))

-- the first node of siblings, as it is shown
pub record First (nodes : List Node) (n at : ℕ) (f : Forest) : Type 0 where
  pub node : Node
  pub is : slice_get nodes n ≡ Some node
  pub token : ShowsToken node.token (first_token f)
  pub next : node.next ≡ n + first_count f
  pub from : node.span.from ≡ at
  pub to : node.span.to ≡ at + first_length f

pub first_of : (nodes : List Node) (n at : ℕ) (f : Forest) (more : List ForestNode) → has_node f ≡ true → ShownFrom nodes n at f more → First nodes n at f
first_of nodes n at Nothing more e h = absurd cc
first_of nodes n at (Text text rest) more e h =
    let s = first_shown nodes n _ _ h in
    record { node = s.node; is = s.is; token = s.shows.token; next = s.shows.next; from = s.shows.from; to = omega (arith, s.shows.to, length-append text []) }
first_of nodes n at (Remark text rest) more e h =
    let s = first_shown nodes n _ _ h in
    record { node = s.node; is = s.is; token = s.shows.token; next = s.shows.next; from = s.shows.from; to = omega (arith, s.shows.to, length-append (token_text (Comment text)) []) }
first_of nodes n at (Void name attrs slash rest) more e h =
    let s = first_shown nodes n _ _ h in
    record { node = s.node; is = s.is; token = s.shows.token; next = s.shows.next; from = s.shows.from; to = omega (arith, s.shows.to, length-append (start_text name attrs slash) []) }
first_of nodes n at (RawElement name attrs [] rest) more e h =
    let s = first_shown nodes n _ _ h in
    record { node = s.node; is = s.is; token = s.shows.token; next = s.shows.next; from = s.shows.from; to = omega (arith, s.shows.to, length-append (start_text name attrs false ++ []) (end_text name), length-append (start_text name attrs false) [], length-append (start_text name attrs false ++ [] ++ end_text name) []) }
first_of nodes n at (RawElement name attrs (b ∷ bs) rest) more e h =
    let s = first_shown nodes n _ _ h in
    record { node = s.node; is = s.is; token = s.shows.token; next = s.shows.next; from = s.shows.from; to = omega (arith, s.shows.to, length-append (start_text name attrs false ++ (b ∷ bs)) (end_text name), length-append (start_text name attrs false) (b ∷ bs), length-append (start_text name attrs false ++ (b ∷ bs) ++ end_text name) []) }
first_of nodes n at (Element name attrs children rest) more e h =
    let s = first_shown nodes n _ _ h in
    record { node = s.node; is = s.is; token = s.shows.token; next = omega (arith, s.shows.next); from = s.shows.from; to = omega (arith, s.shows.to, length-append (start_text name attrs false ++ spelling children) (end_text name), length-append (start_text name attrs false) (spelling children), length-append (start_text name attrs false ++ spelling children ++ end_text name) []) }

-- ---- the siblings after the first node

pub shown_rest : (nodes : List Node) (n at : ℕ) (f : Forest) (more : List ForestNode) → ShownFrom nodes n at f more → ShownFrom nodes (n + first_count f) (at + first_length f) (rest_of f) more
shown_rest nodes n at f more s =
    subst (λ (k : ℕ). ShownFrom nodes (n + k) (at + first_length f) (rest_of f) more) (first_count_is f)
    (shown_after nodes n at (first_node f) (rest_of f) more (subst (λ (x : Forest). ShownFrom nodes n at x more) (sym (first_then f)) s))

pub count_rest : (f : Forest) → forest_size f ≡ first_count f + forest_size (rest_of f)
count_rest Nothing = refl
count_rest (Text text rest) = refl
count_rest (Remark text rest) = refl
count_rest (Void name attrs slash rest) = refl
count_rest (RawElement name attrs [] rest) = refl
count_rest (RawElement name attrs (b ∷ bs) rest) = refl
count_rest (Element name attrs children rest) = refl

pub length_rest : (f : Forest) → length (spelling f) ≡ first_length f + length (spelling (rest_of f))
length_rest f = ap (λ (x : Forest). length (spelling x)) (sym (first_then f)) ∙ ap (λ (l : List ℕ). length l) (spelling_then (first_node f) (rest_of f)) ∙ length-append (spelling (first_node f)) (spelling (rest_of f))

pub allowed_rest : (room : ℕ) (f : Forest) → is_forest room f ≡ true → is_forest room (rest_of f) ≡ true
allowed_rest room Nothing e = refl
allowed_rest room (Text text rest) e = and_right (is_text text && not (starts_with_text rest)) (is_forest room rest) e
allowed_rest room (Remark text rest) e = and_right (is_verbatim comment_close text) (is_forest room rest) e
allowed_rest zero (Void name attrs slash rest) e = absurd cc
allowed_rest (suc room) (Void name attrs slash rest) e = and_right (is_void name && is_start name attrs slash) (is_forest (suc room) rest) e
allowed_rest zero (RawElement name attrs text rest) e = absurd cc
allowed_rest (suc room) (RawElement name attrs text rest) e = (raw_parts room name attrs text rest e).rest_is
allowed_rest zero (Element name attrs children rest) e = absurd cc
allowed_rest (suc room) (Element name attrs children rest) e = (element_parts room name attrs children rest e).rest_is

pub stands_rest : (nodes : List Node) (n at : ℕ) (f : Forest) (more : List ForestNode) → Stands nodes n at f more → Stands nodes (n + first_count f) (at + first_length f) (rest_of f) more
stands_rest nodes n at f more s = record {
  shown = shown_rest nodes n at f more s.shown;
  past = subst (λ (k : ℕ). StartsPast k more) (omega (arith, length_rest f)) s.past;
  room = s.room;
  allowed = allowed_rest s.room f s.allowed;
}

-- ---- the children of an element

pub past_lower : (a b : ℕ) (rs : List ForestNode) → b ≤ a → StartsPast a rs → StartsPast b rs
past_lower a b [] le p = tt
past_lower a b (r ∷ rs) le p = omega (arith, le, p)

starts_at : (n at b : ℕ) (f : Forest) (more : List ForestNode) → has_node f ≡ true → b < at → StartsPast b (forest_nodes n at f ++ more)
starts_at n at b Nothing more e lt = absurd cc
starts_at n at b (Text text rest) more e lt = lt
starts_at n at b (Remark text rest) more e lt = lt
starts_at n at b (Void name attrs slash rest) more e lt = lt
starts_at n at b (RawElement name attrs [] rest) more e lt = lt
starts_at n at b (RawElement name attrs (c ∷ cs) rest) more e lt = lt
starts_at n at b (Element name attrs children rest) more e lt = lt

pub none_left : (f : Forest) → has_node f ≡ false → f ≡ Nothing
none_left Nothing e = refl
none_left (Text text rest) e = absurd cc
none_left (Remark text rest) e = absurd cc
none_left (Void name attrs slash rest) e = absurd cc
none_left (RawElement name attrs text rest) e = absurd cc
none_left (Element name attrs children rest) e = absurd cc

past_children : (n at b : ℕ) (rest : Forest) (more : List ForestNode) (some : Bool) → has_node rest ≡ some → b < at → StartsPast (at + length (spelling rest)) more → StartsPast b (forest_nodes n at rest ++ more)
past_children n at b rest more true e lt p = starts_at n at b rest more e lt
past_children n at b rest more false e lt p =
    subst (λ (f : Forest). StartsPast b (forest_nodes n at f ++ more)) (sym (none_left rest e)) (past_lower (at + length (spelling rest)) b more (omega arith) p)

pub record Allowed (f : Forest) : Type 0 where
  pub room : ℕ
  pub is : is_forest room f ≡ true

pub allowed_in : (room : ℕ) (name : List ℕ) (attrs : List Attr) (children rest : Forest) → is_forest room (Element name attrs children rest) ≡ true → Allowed children
allowed_in zero name attrs children rest e = absurd cc
allowed_in (suc room) name attrs children rest e = record { room = room; is = (element_parts room name attrs children rest e).children_are }

pub stands_children : (nodes : List Node) (n at : ℕ) (name : List ℕ) (attrs : List Attr) (children rest : Forest) (more : List ForestNode) →
    Stands nodes n at (Element name attrs children rest) more →
    Stands nodes (n + 1) (at + length (start_text name attrs false)) children (forest_nodes (n + 1 + forest_size children) (at + length (start_text name attrs false) + length (spelling children) + length (end_text name)) rest ++ more)
stands_children nodes n at name attrs children rest more s =
    let from : ℕ = at + length (start_text name attrs false) in
    let end : ℕ = from + length (spelling children) in
    let to : ℕ = end + length (end_text name) in
    let whole = length-append (start_text name attrs false ++ spelling children ++ end_text name) (spelling rest) in
    let inner = length-append (start_text name attrs false ++ spelling children) (end_text name) in
    let start = length-append (start_text name attrs false) (spelling children) in
    let tail = length-append (60 ∷ 47 ∷ name) (62 ∷ []) in
    let f = first_shown nodes n _ _ s.shown in record {
      shown = subst (ShowNodes (drop (n + 1) nodes)) (append_assoc (forest_nodes (n + 1) from children) (forest_nodes (n + 1 + forest_size children) to rest) more) f.rest;
      past = past_children (n + 1 + forest_size children) to end rest more (has_node rest) refl (omega (arith, tail)) (subst (λ (k : ℕ). StartsPast k more) (omega (arith, whole, inner, start)) s.past);
      room = (allowed_in s.room name attrs children rest s.allowed).room;
      allowed = (allowed_in s.room name attrs children rest s.allowed).is;
    }
