-- A page that was read and is written again is that page.
use Rattle.std.proofs.Common.{◌≡◌, ℕ, zero, suc, ◌+◌, ◌-◌, Bool, true, false, not, ◌&&◌, ◌||◌, if◌then◌else◌, List, [], ◌∷◌, ◌++◌, length, take, drop, Option, Some, None, refl, sym, ap, ◌∙◌, append_assoc, length-append, arith}
use Rattle.std.proofs.lemmas.List.{append-nil, take_at, drop_at}
use Rattle.std.specs.Prelude.{encode_utf8_all, unwrap_or, slice_get, flat_map}
use Rattle.model_spelling.specs.Forest.{Forest, spelling}
use Rattle.ve_kinds.specs.declared.kind.Kind.TheVariants.{P, Root, InternalList, InternalItem}
use Rattle.model_items.specs.declared.plain_item.PlainItem.{PlainItem}
use Rattle.model_items.specs.declared.plain_item.PlainItem.TheVariants.{Opening, Closing}
use Rattle.ve_kinds.specs.Table.{kind_same}
use Rattle.model_items.specs.Same.{list_same}
use Rattle.ve_kinds.specs.Table.{is_content_branch}
use Rattle.model_page.specs.Elements.{is_white_char}
use Rattle.model_spelling.specs.Parsed.{forest_of}
use Rattle.model_page.specs.Parts.{parts_of}
use Rattle.model_page.specs.References.{Body}
use Rattle.ve_base.specs.Empty.{empty_head}
use Rattle.model_page.specs.Pieces.{SourceSpan, Owner, Made, Progress}
use Rattle.model_page.specs.Convert.{made_of}
use Rattle.model_page.specs.Fit.{Flow}
use Rattle.model_page.specs.PageItems.{with_origins, item_head, body_made, or_nothing, internal_item, internal_list, page_made, items_of_page as page_items, slice, Opened, page_opened}
use Rattle.model_page_write.specs.Nodes.{Carried, body_carried, carried_from, carried_items, Start, Nodes, Empty, Letter, Node, carried_nodes, start_item, node_list_items, node_items}
use Rattle.model_page_write.specs.Written.{is_empty, stays_inline, has_content, all_stay_inline, white_after, is_bare, Writer, fresh_text, original_of, content, blocks}
use Rattle.model_page_write.specs.PageText.{node_with, without_pre, carried_same, is_kept, part_at, original_at, page_writer, write}
use Rattle.model_page_law.proofs.SourceLemmas.{parts_of-source}
use Rattle.model_page_law.proofs.NodesLemmas.{followed}
use Rattle.model_page_law.proofs.ShapeLemmas.{plain, openings, plain-followed, Shaped, Fine-made_of, Fine-run_closed}
use Rattle.model_page_law.proofs.TileLemmas.{white_of, Tiles, Closed-in_flow}
use Rattle.model_page_law.proofs.SameLemmas.{Itself-list, Itself-carried_items}
use Rattle.model_page_law.proofs.PlaceLemmas.{with_origin, numbered_nodes, with_origins-nodes, with_body, bearing, carried_from-plain, nodes_of-carried_items, Below, Below-append, Below-more, Below-with_origins, node_with-node}

-- ---- lists

slice_get-append : {A : Type 0} (xs ys : List A) (y : A) (n : ℕ) → length xs ≡ n → slice_get (xs ++ y ∷ ys) n ≡ Some y
slice_get-append [] ys y zero e = refl
slice_get-append [] ys y (suc n) e = cc
slice_get-append (x ∷ xs) ys y zero e = cc
slice_get-append (x ∷ xs) ys y (suc n) e = slice_get-append xs ys y n (omega (arith, e))

slice-part : (prefix part suffix : List ℕ) (from to : ℕ) → length prefix ≡ from → from + length part ≡ to → slice (prefix ++ (part ++ suffix)) from to ≡ part
slice-part prefix part suffix from to e f =
    ap (λ s. take (to - from) s) (drop_at prefix (part ++ suffix) from e) ∙ take_at part suffix (to - from) (omega (arith, f))

-- ---- what is bare stays so with origins and bodies

-- the nodes with origins and bodies, and then the last one
abbrev pub placed : (ℕ → Option Body) → ℕ → ℕ → Nodes → Nodes → Nodes
placed bodies place k last n = bearing bodies place (followed (numbered_nodes k n) last)

has_content-placed : (bodies : ℕ → Option Body) (place k : ℕ) (n : Nodes) → has_content (bearing bodies place (numbered_nodes k n)) ≡ has_content n
has_content-placed bodies place k Empty = refl
has_content-placed bodies place k (Letter c marks later) = ap (λ b. not (is_white_char c) || not (is_empty marks) || b) (has_content-placed bodies (suc place) k later)
has_content-placed bodies place k (Node s inside pre later) = refl

all_stay_inline-placed : (bodies : ℕ → Option Body) (place k : ℕ) (n : Nodes) → all_stay_inline (bearing bodies place (numbered_nodes k n)) ≡ all_stay_inline n
all_stay_inline-placed bodies place k Empty = refl
all_stay_inline-placed bodies place k (Letter c marks later) = all_stay_inline-placed bodies (suc place) k later
all_stay_inline-placed bodies place k (Node s inside pre later) =
    ap (λ b. stays_inline s && b) (all_stay_inline-placed bodies (suc (suc place + length (plain (numbered_nodes (suc k) inside)))) (suc k + openings inside) later)

-- the internal list
abbrev pub last_start : List ℕ → Start
last_start pre = record { kind = InternalList; head = empty_head; marks = []; pre = pre; origin = None; generated = false; body = None }

abbrev pub last_node : List ℕ → Nodes → Nodes
last_node pre inside = Node (last_start pre) inside [] Empty

white_after-placed : (bodies : ℕ → Option Body) (place k : ℕ) (pre : List ℕ) (x n : Nodes) → white_after (placed bodies place k (last_node pre x) n) [] ≡ white_after n pre
white_after-placed bodies place k pre x Empty = refl
white_after-placed bodies place k pre x (Letter c marks later) = refl
white_after-placed bodies place k pre x (Node s inside p later) = refl

-- each generated node is bare
abbrev pub Bared : Bool → List ℕ → Nodes → Type 0
Bared before closing Empty = Unit {0}
Bared before closing (Letter c marks later) = Unit {0}
Bared before closing (Node s inside pre later) =
    (s.generated ≡ true → is_bare before s inside (white_after later closing) ≡ true) × Bared (is_bare before s inside (white_after later closing)) closing later

is_bare-placed : (bodies : ℕ → Option Body) (place place2 k k2 : ℕ) (last : List ℕ) (x : Nodes) (before : Bool) (s : Start) (inside later : Nodes) →
    is_bare before (with_body (bodies place) (with_origin k s)) (bearing bodies (suc place) (numbered_nodes (suc k) inside)) (white_after (placed bodies place2 k2 (last_node last x) later) [])
    ≡ is_bare before s inside (white_after later last)
is_bare-placed bodies place place2 k k2 last x before s inside later = λ i.
    kind_same s.kind P && s.generated && is_empty s.head.attrs && is_empty s.pre
    && has_content-placed bodies (suc place) (suc k) inside i && all_stay_inline-placed bodies (suc place) (suc k) inside i
    && is_empty (white_after-placed bodies place2 k2 last x later i) && not before

-- ---- a node that is as it was first read

not_unbare : (generated bare : Bool) → (generated ≡ true → bare ≡ true) → (generated && not bare) ≡ false
not_unbare true bare h = ap not (h refl)
not_unbare false bare h = refl

if_false : {A : Type 0} (c : Bool) (x y : A) → c ≡ false → (if c then x else y) ≡ y
if_false true x y e = cc
if_false false x y e = refl

if_true : {A : Type 0} (c : Bool) (x y : A) → c ≡ true → (if c then x else y) ≡ x
if_true true x y e = refl
if_true false x y e = cc

kept-itself : (first : List Carried) (k : ℕ) (items : List Carried) → node_with k first ≡ items → is_kept first k items ≡ true
kept-itself first k items e =
    ap (λ xs. list_same carried_same (without_pre items) (without_pre xs)) e ∙ Itself-list carried_same Itself-carried_items (without_pre items)

original-kept : (o : Opened) (first : List Carried) (k : ℕ) (items : List Carried) (part : List ℕ) (s : SourceSpan) → node_with k first ≡ items →
    slice_get o.spans k ≡ Some s → slice o.page s.from s.to ≡ part → original_at o first (Some k) items ≡ Some part
original-kept o first k items part s e f g =
    if_true (is_kept first k items) _ _ (kept-itself first k items e) ∙ ap (λ m. Some (part_at o.page m)) f ∙ ap (λ b. Some b) g

unwrapped : (o : Option (List ℕ)) (x d : List ℕ) → o ≡ Some x → unwrap_or o d ≡ x
unwrapped o x d e = ap (λ p. unwrap_or p d) e

-- ---- the page is written

-- The list, the spans and the bytes of the page, each in two parts; the second begins at the node.
pub record Standing (o : Opened) (items : List Carried) (k at : ℕ) (spans : List SourceSpan) (source : List ℕ) : Type 0 where
  pub before : List Carried
  pub first : carried_items o.items ≡ before ++ items
  pub below : Below k before
  pub done : List SourceSpan
  pub all_spans : o.spans ≡ done ++ spans
  pub count : length done ≡ k
  pub prefix : List ℕ
  pub suffix : List ℕ
  pub page : o.page ≡ prefix ++ (source ++ suffix)
  pub byte : length prefix ≡ at

pub blocks-Tiles : (o : Opened) (bodies : ℕ → Option Body) (last : List ℕ) (x : Nodes) (n : Nodes) (k place at : ℕ) (before : Bool) (spans : List SourceSpan) (source : List ℕ) →
    Standing o (node_list_items (placed bodies place k (last_node last x) n)) k at spans source →
    Tiles at spans source n → Bared before last n →
    blocks (page_writer o) before [] (placed bodies place k (last_node last x) n) ≡ source ++ encode_utf8_all last
blocks-Tiles o bodies last x Empty k place at before spans source st t b =
    append-nil (encode_utf8_all last ++ []) ∙ append-nil (encode_utf8_all last) ∙ ap (λ s. s ++ encode_utf8_all last) (sym t.0)
blocks-Tiles o bodies last x (Letter c marks later) k place at before spans source st t b = absurd t
blocks-Tiles o bodies last x (Node s inside pre later) k place at before spans source st t b =
    let w : Writer = page_writer o in
    let part : List ℕ = t.0 in
    let rest : List ℕ = t.1 in
    let inner : List SourceSpan = t.2 in
    let after : List SourceSpan = t.3 in
    let white : List ℕ = white_of s in
    let k2 : ℕ = suc k + openings inside in
    let inside2 : Nodes = bearing bodies (suc place) (numbered_nodes (suc k) inside) in
    let place2 : ℕ = suc (suc place + length (plain (numbered_nodes (suc k) inside))) in
    let later2 : Nodes = placed bodies place2 k2 (last_node last x) later in
    let s2 : Start = with_body (bodies place) (with_origin k s) in
    let items : List Carried = node_items s2 inside2 pre in
    let bare : Bool = is_bare before s inside (white_after later last) in
    let bare2 : Bool = is_bare before s2 inside2 (white_after later2 []) in
    let same_bare : bare2 ≡ bare = is_bare-placed bodies place place2 k k2 last x before s inside later in
    let span : SourceSpan = record { from = at + length white; to = at + length white + length part } in
    let closing : Carried = record { item = Closing s.kind pre; body = None } in
    let is_first : node_with k (carried_items o.items) ≡ items =
    ap (node_with k) st.first ∙ node_with-node k st.before s2 inside2 pre later2 st.below refl in
    let all_spans : o.spans ≡ st.done ++ span ∷ (inner ++ after) = st.all_spans ∙ ap (λ xs. st.done ++ xs) t.5 in
    let prefix : List ℕ = st.prefix ++ white in
    let page : o.page ≡ prefix ++ (part ++ (rest ++ st.suffix)) =
    st.page ∙ ap (λ y. st.prefix ++ (y ++ st.suffix)) t.4
    ∙ ap (λ y. st.prefix ++ y) (append_assoc white (part ++ rest) st.suffix ∙ ap (λ y. white ++ y) (append_assoc part rest st.suffix))
    ∙ sym (append_assoc st.prefix white (part ++ (rest ++ st.suffix))) in
    let prefix_length : length prefix ≡ at + length white = length-append st.prefix white ∙ ap (λ m. m + length white) st.byte in
    let is_part : slice o.page span.from span.to ≡ part =
    ap (λ y. slice y span.from span.to) page ∙ slice-part prefix part (rest ++ st.suffix) span.from span.to prefix_length refl in
    let original : original_of w bare2 s2 items ≡ Some part =
    if_false (s.generated && not bare2) _ _ (not_unbare s.generated bare2 (λ g. same_bare ∙ b.0 g))
    ∙ original-kept o (carried_items o.items) k items part span is_first (ap (λ xs. slice_get xs k) all_spans ∙ slice_get-append st.done (inner ++ after) span k st.count) is_part in
    let fresh : List ℕ = fresh_text w bare2 s2 (if is_content_branch s.kind then content w [] inside2 else blocks w false pre inside2) pre in
    let next : Standing o (node_list_items later2) k2 (at + length white + length part) after rest = record {
      before = st.before ++ items;
      first =
          st.first
          ∙ ap (λ ys. st.before ++ start_item s2 ∷ ys) (sym (append_assoc (node_list_items inside2) (closing ∷ []) (node_list_items later2)))
          ∙ sym (append_assoc st.before items (node_list_items later2));
      below =
          Below-append k2 st.before items (Below-more k k2 st.before (omega arith) st.below)
          (Below-more (k + suc (openings inside + 0)) k2 items (omega arith) (Below-with_origins bodies place k (Node s inside pre Empty)));
      done = st.done ++ span ∷ inner;
      all_spans = all_spans ∙ sym (append_assoc st.done (span ∷ inner) after);
      count = let e = length-append st.done (span ∷ inner) in let f = st.count in let g = t.6 in omega (arith, e, f, g);
      prefix = prefix ++ part;
      suffix = st.suffix;
      page = page ∙ sym (append_assoc prefix part (rest ++ st.suffix));
      byte = length-append prefix part ∙ ap (λ m. m + length part) prefix_length;
    } in
    ap (λ y. white ++ y ++ blocks w bare2 [] later2) (unwrapped (original_of w bare2 s2 items) part fresh original)
    ∙ ap (λ c. white ++ part ++ blocks w c [] later2) same_bare
    ∙ ap (λ y. white ++ part ++ y) (blocks-Tiles o bodies last x later k2 place2 (at + length white + length part) bare after rest next t.7 b.1)
    ∙ sym (append_assoc (white ++ part) rest (encode_utf8_all last))
    ∙ ap (λ y. y ++ encode_utf8_all last) (append_assoc white part rest ∙ sym t.4)

-- ---- the internal list

pub record Listed (items : List PlainItem) : Type 0 where
  pub nodes : Nodes
  pub are : items ≡ plain nodes

abbrev body_place : Progress
body_place = record { at = 0; owners = []; editable = false }

Shaped-body_made : (f : Forest) → Shaped (body_made f).later
Shaped-body_made f = (Fine-run_closed body_place (made_of (Flow InternalItem) (parts_of f) body_place) (Fine-made_of (Flow InternalItem) (parts_of f) body_place)).later

Listed-owners : (owners : List Owner) → Listed (flat_map internal_item owners)
Listed-owners [] = record { nodes = Empty; are = refl }
Listed-owners (o ∷ owners) =
    let f : Forest = or_nothing (forest_of o.html) in
    let body = body_made f in
    let shape = Shaped-body_made f in
    let more = Listed-owners owners in
    let s : Start = record { kind = InternalItem; head = item_head o.key; marks = []; pre = []; origin = None; generated = false; body = None } in
    let n : Nodes = Node s shape.nodes body.pre Empty in
    record {
      nodes = followed n more.nodes;
      are =
          ap (λ xs. (Opening InternalItem (item_head o.key) [] [] None false ∷ xs ++ Closing InternalItem body.pre ∷ []) ++ flat_map internal_item owners) shape.items
          ∙ ap (λ xs. plain n ++ xs) more.are
          ∙ sym (plain-followed n more.nodes);
    }

-- ---- the law

pub record PageNodes (m : Made) (n : Nodes) : Type 0 where
  pub inside : Nodes
  pub are : page_items m ≡ plain (followed (numbered_nodes 0 n) (last_node m.pre inside))

items-nodes : (m : Made) (n : Nodes) → m.later.items ≡ plain n → PageNodes m n
items-nodes m n e =
    let l = Listed-owners m.owners in
    record {
      inside = l.nodes;
      are =
          ap (λ xs. with_origins 0 xs ++ internal_list m.pre m.owners) e
          ∙ ap (λ xs. xs ++ internal_list m.pre m.owners) (with_origins-nodes 0 n)
          ∙ ap (λ xs. plain (numbered_nodes 0 n) ++ (Opening InternalList empty_head [] m.pre None false ∷ xs ++ Closing InternalList [] ∷ [])) l.are
          ∙ sym (plain-followed (numbered_nodes 0 n) (last_node m.pre l.nodes));
    }

-- the nodes of a page
abbrev pub nodes_made : (at : ℕ) (f : Forest) → Nodes
nodes_made at f = (Closed-in_flow Root (parts_of f) (record { at = at; owners = []; editable = true })).nodes

-- A page is its head, its body and its tail. Where each generated paragraph is bare, its items are
-- written as the page.
pub write-opened : (head tail : List ℕ) (f : Forest) (to : ℕ) → length head + length (spelling f) ≡ to →
    Bared false (page_made (length head) f).pre (nodes_made (length head) f) →
    let page : List ℕ = head ++ (spelling f ++ tail) in
    let o : Opened = page_opened page (record { from = length head; to = to }) (page_made (length head) f) in
    write o o.items ≡ page
write-opened head tail f to at_end bare =
    let page : List ℕ = head ++ (spelling f ++ tail) in
    let w : Progress = record { at = length head; owners = []; editable = true } in
    let m : Made = page_made (length head) f in
    let c = Closed-in_flow Root (parts_of f) w in
    let o : Opened = page_opened page (record { from = length head; to = to }) m in
    let p = items-nodes m c.nodes c.items in
    let bodies : ℕ → Option Body = body_carried o.items in
    let all : Nodes = placed bodies 0 0 (last_node m.pre p.inside) c.nodes in
    let source : c.rest ++ encode_utf8_all m.pre ≡ spelling f = c.spelled ∙ parts_of-source f in
    let are : carried_items o.items ≡ node_list_items all =
    ap (carried_from bodies 0) p.are ∙ carried_from-plain bodies 0 (followed (numbered_nodes 0 c.nodes) (last_node m.pre p.inside)) in
    let standing : Standing o (node_list_items all) 0 (length head) m.later.spans c.rest = record {
      before = [];
      first = are;
      below = tt;
      done = [];
      all_spans = refl;
      count = refl;
      prefix = head;
      suffix = encode_utf8_all m.pre ++ tail;
      page = ap (λ s. head ++ (s ++ tail)) (sym source) ∙ ap (λ s. head ++ s) (append_assoc c.rest (encode_utf8_all m.pre) tail);
      byte = refl;
    } in
    let body : blocks (page_writer o) false [] (carried_nodes (carried_items o.items)) ≡ spelling f =
    ap (λ xs. blocks (page_writer o) false [] (carried_nodes xs)) (ap (carried_from bodies 0) p.are)
    ∙ ap (blocks (page_writer o) false []) (nodes_of-carried_items bodies 0 (followed (numbered_nodes 0 c.nodes) (last_node m.pre p.inside)))
    ∙ blocks-Tiles o bodies m.pre p.inside c.nodes 0 0 (length head) false m.later.spans c.rest standing c.tiles bare
    ∙ source in
    let before : take (length head) page ≡ head = take_at head (spelling f ++ tail) (length head) refl in
    let beyond : drop to page ≡ tail =
    ap (drop to) (sym (append_assoc head (spelling f) tail)) ∙ drop_at (head ++ spelling f) tail to (length-append head (spelling f) ∙ at_end) in
    (λ i. before i ++ body i ++ beyond i) ∙ append_assoc head (spelling f) tail
