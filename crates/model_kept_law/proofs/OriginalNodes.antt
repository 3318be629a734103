-- A node that is kept has the bytes of a node of the first page, whose source is known.
use Rattle.std.proofs.Common.{◌≡◌, ℕ, zero, suc, ◌+◌, ◌≤◌, ◌==◌, Bool, true, false, if◌then◌else◌, List, [], ◌∷◌, ◌++◌, length, take, drop, map, Option, Some, None, Result, Ok, Err, refl, sym, ap, ◌∙◌, subst, append_assoc, append-nil, length-append, length-take-le, arith, ◌⊎◌, inl, inr, eqb-true}
use Rattle.std.proofs.lemmas.List.{map-append}
use Rattle.std.proofs.lemmas.Bool.{and_parts}
use Rattle.std.specs.Prelude.{slice_get, option_map, unwrap_or, flat_map}
use Rattle.model_spelling.specs.declared.scan_fault.ScanFault.{ScanFault}
use Rattle.model_spelling.specs.Forest.{Forest, spelling, is_forest}
use Rattle.model_spelling.specs.Parsed.{forest_of}
use Rattle.model_spelling.specs.Page.{body_at}
use Rattle.model_spelling.proofs.Proved.{law_reads_right, law_body_inside}
use Rattle.ve_kinds.specs.Table.{is_leaf}
use Rattle.ve_kinds.specs.declared.kind.Kind.TheVariants.{Root, InternalItem, InternalList}
use Rattle.model_items.specs.declared.plain_item.PlainItem.{PlainItem}
use Rattle.model_items.specs.declared.plain_item.PlainItem.TheVariants.{Char, Opening, Closing}
use Rattle.model_items.specs.Same.{list_same, option_same, item_same}
use Rattle.model_items.proofs.SameLemmas.{Means-item_same}
use Rattle.model_page.specs.References.{Body}
use Rattle.model_page.specs.Fragment.{item_unmade}
use Rattle.model_page.specs.Parts.{parts_of}
use Rattle.model_page.specs.Pieces.{SourceSpan, Owner, Made, Progress}
use Rattle.model_page.specs.PageItems.{slice, with_origins, body_made, or_nothing, internal_item, internal_list, items_of_page, Opened, page_opened, opened_forest, opened_body, opened_page, page_made}
use Rattle.model_page_write.specs.Nodes.{Carried, body_carried, carried_from, carried_items, Start, Nodes, Empty, Letter, Node, carried_nodes, start_item, node_list_items, node_items}
use Rattle.model_page_write.specs.PageText.{node_from, node_with, without_pre, body_same, carried_same, is_kept, part_at, original_at}
use Rattle.model_page_law.specs.Origins.{origins_of}
use Rattle.model_page_law.proofs.OriginLemmas.{origins_of-append}
use Rattle.model_page_law.proofs.NestLemmas.{unplaced}
use Rattle.model_page_law.proofs.LawfulLemmas.{flow_holds}
use Rattle.model_page_law.proofs.OneLemmas.{spelled-Neat}
use Rattle.model_page_law.proofs.SourceLemmas.{parts_of-source}
use Rattle.model_page_law.proofs.ShapeLemmas.{plain, openings}
use Rattle.model_page_law.proofs.PlaceLemmas.{with_origin, numbered_nodes, with_origins-nodes, with_body, bearing, carried_from-append, carried_from-plain, nodes_of-carried_items}
use Rattle.model_page_law.proofs.KeptLemmas.{cut}
use Rattle.model_page_law.proofs.NodesRead.{said_items}
use Rattle.model_kept_law.specs.Readable.{names_reference, has_references}
use Rattle.model_kept_law.proofs.ApartParts.{Apart}
use Rattle.model_kept_law.proofs.Unreferred.{unreferred_apart}
use Rattle.model_kept_law.proofs.OwnSource.{OwnBlock}
use Rattle.model_kept_law.proofs.ReadParts.{parts_read}
use Rattle.model_kept_law.proofs.WholeParts.{MayStand, NoWhole}
use Rattle.model_kept_law.proofs.SourceRows.{In, Ground, Own, RowOf, Rows, Sourced, sourced_flow}

-- ---- what is said of nodes

-- the items but for origins and the flag, where no origin is
said_numbered : (page : Ground) (spans : List SourceSpan) (bodies : ℕ → Option Body) (place k : ℕ) (n : Nodes) → Rows page spans n →
    said_items (bearing bodies place (numbered_nodes k n)) ≡ map item_unmade (plain n)
said_numbered page spans bodies place k Empty r = refl
said_numbered page spans bodies place k (Letter c marks later) r = ap (λ xs. Char c marks ∷ xs) (said_numbered page spans bodies (suc place) k later r)
said_numbered page spans bodies place k (Node s inside pre later) r =
    let place2 : ℕ = suc (suc place + length (plain (numbered_nodes (suc k) inside))) in
    (λ i. Opening s.kind s.head s.marks s.pre (sym r.4.origin i) false ∷ said_numbered page r.1 bodies (suc place) (suc k) inside r.5 i ++ Closing s.kind pre ∷ said_numbered page r.2 bodies place2 (suc k + openings inside) later r.6 i)
    ∙ ap (λ xs. Opening s.kind s.head s.marks s.pre s.origin false ∷ xs) (sym (map-append item_unmade (plain inside) (Closing s.kind pre ∷ plain later)))

said_bearing : (bodies : ℕ → Option Body) (place : ℕ) (n : Nodes) → said_items (bearing bodies place n) ≡ said_items n
said_bearing bodies place Empty = refl
said_bearing bodies place (Letter c marks later) = ap (λ xs. Char c marks ∷ xs) (said_bearing bodies (suc place) later)
said_bearing bodies place (Node s inside pre later) =
    (λ i. Opening s.kind s.head s.marks s.pre None false ∷ said_bearing bodies (suc place) inside i ++ Closing s.kind pre ∷ said_bearing bodies (suc (suc place + length (plain inside))) later i)

Rows-count : (page : Ground) (spans : List SourceSpan) (n : Nodes) → Rows page spans n → length spans ≡ openings n
Rows-count page spans Empty r = ap length r
Rows-count page spans (Letter c marks later) r = Rows-count page spans later r
Rows-count page spans (Node s inside pre later) r =
    let i = Rows-count page r.1 inside r.5 in
    let l = Rows-count page r.2 later r.6 in
    ap length r.3 ∙ ap suc (length-append r.1 r.2 ∙ (λ j. i j + l j))

-- ---- the node of an origin

-- the spans stand from this position on
record At (all : List SourceSpan) (k : ℕ) (spans : List SourceSpan) : Type 0 where
  done : List SourceSpan
  more : List SourceSpan
  is : all ≡ done ++ (spans ++ more)
  count : length done ≡ k

At-left : (all : List SourceSpan) (k : ℕ) (a b : List SourceSpan) → At all k (a ++ b) → At all k a
At-left all k a b s = record { done = s.done; more = b ++ s.more; is = s.is ∙ ap (λ t. s.done ++ t) (append_assoc a b s.more); count = s.count }

At-right : (all : List SourceSpan) (k : ℕ) (a b : List SourceSpan) → At all k (a ++ b) → At all (k + length a) b
At-right all k a b s = record {
  done = s.done ++ a;
  more = s.more;
  is = s.is ∙ ap (λ t. s.done ++ t) (append_assoc a b s.more) ∙ sym (append_assoc s.done a (b ++ s.more));
  count = length-append s.done a ∙ ap (λ n. n + length a) s.count;
}

slice_get-append : (xs ys : List SourceSpan) (y : SourceSpan) (n : ℕ) → length xs ≡ n → slice_get (xs ++ y ∷ ys) n ≡ Some y
slice_get-append [] ys y zero e = refl
slice_get-append [] ys y (suc n) e = cc
slice_get-append (x ∷ xs) ys y zero e = cc
slice_get-append (x ∷ xs) ys y (suc n) e = slice_get-append xs ys y n (omega (arith, e))

node_from-items_of : (n : Nodes) (rest : List Carried) (depth : ℕ) → node_from (node_list_items n ++ rest) depth ≡ node_list_items n ++ node_from rest depth
node_from-items_of Empty rest depth = refl
node_from-items_of (Letter c marks later) rest depth = ap (λ xs. record { item = Char c marks; body = None } ∷ xs) (node_from-items_of later rest depth)
node_from-items_of (Node s inside pre later) rest depth =
    let closing : Carried = record { item = Closing s.kind pre; body = None } in
    ap (λ xs. start_item s ∷ node_from xs (suc depth)) (append_assoc (node_list_items inside) (closing ∷ node_list_items later) rest)
    ∙ ap (λ xs. start_item s ∷ xs) (node_from-items_of inside (closing ∷ node_list_items later ++ rest) (suc depth))
    ∙ ap (λ xs. start_item s ∷ node_list_items inside ++ closing ∷ xs) (node_from-items_of later rest depth)
    ∙ ap (λ xs. start_item s ∷ xs) (sym (append_assoc (node_list_items inside) (closing ∷ node_list_items later) (node_from rest depth)))

list_if_true : (c : Bool) (xs ys : List Carried) → c ≡ true → (if c then xs else ys) ≡ xs
list_if_true true xs ys e = refl
list_if_true false xs ys e = cc

list_if_false : (c : Bool) (xs ys : List Carried) → c ≡ false → (if c then xs else ys) ≡ ys
list_if_false true xs ys e = cc
list_if_false false xs ys e = refl

-- a node of the first page, with its span and what is known of its source
record Found (page : Ground) (all : List SourceSpan) (k : ℕ) (items : List Carried) : Type 0 where
  start : Start
  inside : Nodes
  pre : List ℕ
  are : items ≡ node_items start inside pre
  span : SourceSpan
  at : slice_get all k ≡ Some span
  source : List ℕ
  is : slice page.bytes span.from span.to ≡ source
  first : List PlainItem
  said : map item_unmade first ≡ said_items inside
  own : MayStand start.kind → NoWhole first → Own start.kind start.head start.generated first pre source
  block : page.refers ≡ false → start.generated ≡ false → is_leaf start.kind ≡ false → (start.marks ≡ []) × OwnBlock start.kind start.head first pre source

abbrev Search : Ground → List SourceSpan → ℕ → List Carried → List Carried → Type 0
Search page all k items rest = (node_with k (items ++ rest) ≡ node_with k rest) ⊎ Found page all k (node_with k (items ++ rest))

found_same : (page : Ground) (all : List SourceSpan) (k : ℕ) (xs ys : List Carried) → xs ≡ ys → Found page all k ys → Found page all k xs
found_same page all k xs ys e f = subst (Found page all k) (sym e) f

search_node : (page : Ground) (all : List SourceSpan) (bodies : ℕ → Option Body) (place k0 k : ℕ) (s : Start) (inside : Nodes) (pre : List ℕ) (outer rest : List Carried) (span : SourceSpan) (inner : List SourceSpan) (c : Bool) →
    (k0 == k) ≡ c → slice_get all k0 ≡ Some span → RowOf page span s inside pre → Rows page inner inside →
    let s2 : Start = with_body (bodies place) (with_origin k0 s) in
    let inside2 : Nodes = bearing bodies (suc place) (numbered_nodes (suc k0) inside) in
    let closing : Carried = record { item = Closing s.kind pre; body = None } in
    ((more : List Carried) → Search page all k (node_list_items inside2) more) → Search page all k outer rest →
    Search page all k (start_item s2 ∷ node_list_items inside2 ++ closing ∷ outer) rest
search_node page all bodies place k0 k s inside pre outer rest span inner true e g row rows f h =
    let s2 : Start = with_body (bodies place) (with_origin k0 s) in
    let inside2 : Nodes = bearing bodies (suc place) (numbered_nodes (suc k0) inside) in
    let closing : Carried = record { item = Closing s.kind pre; body = None } in
    let same : k0 ≡ k = eqb-true k0 k e in
    let is : node_with k (start_item s2 ∷ (node_list_items inside2 ++ closing ∷ outer) ++ rest) ≡ node_items s2 inside2 pre =
    list_if_true (k0 == k) _ _ e
    ∙ ap (λ xs. start_item s2 ∷ node_from xs 0) (append_assoc (node_list_items inside2) (closing ∷ outer) rest)
    ∙ ap (λ xs. start_item s2 ∷ xs) (node_from-items_of inside2 (closing ∷ outer ++ rest) 0) in
    inr (record {
      start = s2;
      inside = inside2;
      pre = pre;
      are = is;
      span = span;
      at = ap (λ n. slice_get all n) (sym same) ∙ g;
      source = row.source;
      is = row.is;
      first = plain inside;
      said = sym (said_numbered page inner bodies (suc place) (suc k0) inside rows);
      own = row.own;
      block = row.block;
    })
search_node page all bodies place k0 k s inside pre outer rest span inner false e g row rows f h =
    let s2 : Start = with_body (bodies place) (with_origin k0 s) in
    let inside2 : Nodes = bearing bodies (suc place) (numbered_nodes (suc k0) inside) in
    let closing : Carried = record { item = Closing s.kind pre; body = None } in
    let passed : node_with k (start_item s2 ∷ (node_list_items inside2 ++ closing ∷ outer) ++ rest) ≡ node_with k (node_list_items inside2 ++ (closing ∷ outer ++ rest)) =
    list_if_false (k0 == k) _ _ e ∙ ap (node_with k) (append_assoc (node_list_items inside2) (closing ∷ outer) rest) in
    elim (f (closing ∷ outer ++ rest)) [
      | inr x ↦ inr (found_same page all k _ _ passed x)
      | inl x ↦ elim h [
        | inr y ↦ inr (found_same page all k _ _ (passed ∙ x) y)
        | inl y ↦ inl (passed ∙ x ∙ y)
      ]
    ]

search_nodes : (page : Ground) (all : List SourceSpan) (bodies : ℕ → Option Body) (k : ℕ) (n : Nodes) (spans : List SourceSpan) (place k0 : ℕ) → At all k0 spans → Rows page spans n → (rest : List Carried) →
    Search page all k (node_list_items (bearing bodies place (numbered_nodes k0 n))) rest
search_nodes page all bodies k Empty spans place k0 a r rest = inl refl
search_nodes page all bodies k (Letter c marks later) spans place k0 a r rest = search_nodes page all bodies k later spans (suc place) k0 a r rest
search_nodes page all bodies k (Node s inside pre later) spans place k0 a r rest =
    let place2 : ℕ = suc (suc place + length (plain (numbered_nodes (suc k0) inside))) in
    let here : At all k0 ((r.0 ∷ []) ++ (r.1 ++ r.2)) = subst (At all k0) r.3 a in
    let within : At all (suc k0) (r.1 ++ r.2) = subst (λ m. At all m (r.1 ++ r.2)) (omega arith) (At-right all k0 (r.0 ∷ []) (r.1 ++ r.2) here) in
    let inner : At all (suc k0) r.1 = At-left all (suc k0) r.1 r.2 within in
    let after : At all (suc k0 + openings inside) r.2 = subst (λ m. At all (suc k0 + m) r.2) (Rows-count page r.1 inside r.5) (At-right all (suc k0) r.1 r.2 within) in
    let own : slice_get all k0 ≡ Some r.0 = ap (λ xs. slice_get xs k0) here.is ∙ slice_get-append here.done ((r.1 ++ r.2) ++ here.more) r.0 k0 here.count in
    search_node page all bodies place k0 k s inside pre (node_list_items (bearing bodies place2 (numbered_nodes (suc k0 + openings inside) later))) rest r.0 r.1 (k0 == k) refl own r.4 r.5
    (λ more. search_nodes page all bodies k inside r.1 (suc place) (suc k0) inner r.5 more)
    (search_nodes page all bodies k later r.2 place2 (suc k0 + openings inside) after r.6 rest)

-- ---- the list of an opened page

-- no item has an origin
unplaced_node : (bodies : ℕ → Option Body) (k place : ℕ) (items : List PlainItem) → origins_of items ≡ [] → node_with k (carried_from bodies place items) ≡ []
unplaced_node bodies k place [] e = refl
unplaced_node bodies k place (Char c marks ∷ items) e = unplaced_node bodies k (suc place) items e
unplaced_node bodies k place (Closing kind pre ∷ items) e = unplaced_node bodies k (suc place) items e
unplaced_node bodies k place (Opening kind head marks pre None generated ∷ items) e = unplaced_node bodies k (suc place) items e
unplaced_node bodies k place (Opening kind head marks pre (Some j) generated ∷ items) e = cc

item_unplaced : (o : Owner) → origins_of (internal_item o) ≡ []
item_unplaced o =
    let f : Forest = or_nothing (forest_of o.html) in
    let w : Progress = record { at = 0; owners = []; editable = false } in
    origins_of-append (body_made f).later.items (Closing InternalItem (body_made f).pre ∷ [])
    ∙ append-nil (origins_of (body_made f).later.items)
    ∙ unplaced InternalItem (body_made f).later.items [] [] (flow_holds InternalItem (refl, refl, refl, refl) (parts_of f) w)

items_unplaced : (owners : List Owner) → origins_of (flat_map internal_item owners) ≡ []
items_unplaced [] = refl
items_unplaced (o ∷ owners) = origins_of-append (internal_item o) (flat_map internal_item owners) ∙ (λ i. item_unplaced o i ++ items_unplaced owners i)

list_unplaced : (pre : List ℕ) (owners : List Owner) → origins_of (internal_list pre owners) ≡ []
list_unplaced pre owners = origins_of-append (flat_map internal_item owners) (Closing InternalList [] ∷ []) ∙ append-nil (origins_of (flat_map internal_item owners)) ∙ items_unplaced owners

abbrev Listed : Ground → List SourceSpan → ℕ → List Carried → Type 0
Listed page all k items = (node_with k items ≡ []) ⊎ Found page all k (node_with k items)

made_found : (page : Ground) (from : ℕ) (f : Forest) → is_forest 200 f ≡ true → (page.refers ≡ false → Apart (parts_of f)) → In page.bytes from (spelling f) → (k : ℕ) → Listed page (page_made from f).later.spans k (carried_items (items_of_page (page_made from f)))
made_found page from f h apart i k =
    let m : Made = page_made from f in
    let w : Progress = record { at = from; owners = []; editable = true } in
    let src : Sourced page m.later = sourced_flow page (parts_of f) (parts_read f (spelled-Neat f 200 h)) apart Root (refl, refl, refl, refl) w (subst (In page.bytes from) (sym (parts_of-source f)) i) in
    let items : List PlainItem = items_of_page m in
    let bodies : ℕ → Option Body = body_carried items in
    let n : Nodes = numbered_nodes 0 src.nodes in
    let last : List PlainItem = internal_list m.pre m.owners in
    let more : List Carried = carried_from bodies (0 + length (plain n)) last in
    let are : carried_items items ≡ node_list_items (bearing bodies 0 n) ++ more =
    ap (carried_from bodies 0) (ap (λ xs. with_origins 0 xs ++ last) src.items ∙ ap (λ xs. xs ++ last) (with_origins-nodes 0 src.nodes))
    ∙ carried_from-append bodies 0 (plain n) last
    ∙ ap (λ xs. xs ++ more) (carried_from-plain bodies 0 n) in
    let all : List SourceSpan = m.later.spans in
    let s = search_nodes page all bodies k src.nodes all 0 0 (record { done = []; more = []; is = sym (append-nil all); count = refl }) src.rows more in
    subst (Listed page all k) (sym are) (elim s [
      | inl e ↦ inl (e ∙ unplaced_node bodies k (0 + length (plain n)) last (list_unplaced m.pre m.owners))
      | inr x ↦ inr x
    ])

abbrev pub ground : Opened → Ground
ground o = record { bytes = o.page; refers = has_references o }

forest_found : (page : List ℕ) (from to : ℕ) → from ≤ to → to ≤ length page → (read : Option Forest) → forest_of (slice page from to) ≡ read → (o : Opened) →
    opened_forest page (record { from = from; to = to }) read ≡ Some o → (k : ℕ) → Listed (ground o) o.spans k (carried_items o.items)
forest_found page from to le fits None e o h k = cc
forest_found page from to le fits (Some f) e o h k =
    let spells = law_reads_right (slice page from to) f e in
    let first : Opened = page_opened page (record { from = from; to = to }) (page_made from f) in
    let is : first ≡ o = let s : ◌≡◌ {A = Option Opened} (Some first) (Some o) = h in ap (λ x. unwrap_or x first) s in
    let stands : In page from (spelling f) = record {
      prefix = take from page;
      suffix = drop to page;
      is = sym (cut page from to le) ∙ ap (λ s. take from page ++ (s ++ drop to page)) (sym spells.0);
      byte = length-take-le from page (omega (arith, le, fits));
    } in
    let refers : has_references first ≡ names_reference f = ap (λ r. unwrap_or (option_map names_reference r) false) e in
    subst (λ x. Listed (ground x) x.spans k (carried_items x.items)) is (made_found (ground first) from f spells.1 (λ c. unreferred_apart f (sym refers ∙ c)) stands k)

body_found : (page : List ℕ) (read : Result (ℕ × ℕ) ScanFault) → body_at page ≡ read → (o : Opened) → opened_body page read ≡ Some o → (k : ℕ) → Listed (ground o) o.spans k (carried_items o.items)
body_found page (Err f) e o h k = cc
body_found page (Ok body) e o h k = let p = law_body_inside page body.0 body.1 e in forest_found page body.0 body.1 p.0 p.1 (forest_of (slice page body.0 body.1)) refl o h k

-- ---- a node that is as one of the first page

same_items : (xs ys : List Carried) → list_same carried_same xs ys ≡ true → map (λ c. c.item) xs ≡ map (λ c. c.item) ys
same_items [] [] e = refl
same_items [] (y ∷ ys) e = cc
same_items (x ∷ xs) [] e = cc
same_items (x ∷ xs) (y ∷ ys) e =
    let p = and_parts (carried_same x y) (list_same carried_same xs ys) e in
    let q = and_parts (item_same x.item y.item) (option_same body_same x.body y.body) p.0 in
    (λ i. Means-item_same.equal x.item y.item q.0 i ∷ same_items xs ys p.1 i)

abbrev items_in : List Carried → List PlainItem
items_in cs = map (λ c. c.item) cs

items_in-nodes : (n : Nodes) → items_in (node_list_items n) ≡ plain n
items_in-nodes Empty = refl
items_in-nodes (Letter c marks later) = ap (λ xs. Char c marks ∷ xs) (items_in-nodes later)
items_in-nodes (Node s inside pre later) =
    ap (λ xs. Opening s.kind s.head s.marks s.pre s.origin s.generated ∷ xs)
    (map-append (λ c. c.item) (node_list_items inside) (record { item = Closing s.kind pre; body = None } ∷ node_list_items later) ∙ (λ i. items_in-nodes inside i ++ Closing s.kind pre ∷ items_in-nodes later i))

-- without the whitespace before it
abbrev unled : Start → Start
unled s = record { kind = s.kind; head = s.head; marks = s.marks; pre = []; origin = s.origin; generated = s.generated; body = s.body }

nothing : ℕ → Option Body
nothing k = None

start_in : Nodes → Start → Start
start_in (Node s inside pre later) d = s
start_in Empty d = d
start_in (Letter c marks later) d = d

inside_in : Nodes → Nodes
inside_in (Node s inside pre later) = inside
inside_in Empty = Empty
inside_in (Letter c marks later) = Empty

pre_in : Nodes → List ℕ
pre_in (Node s inside pre later) = pre
pre_in Empty = []
pre_in (Letter c marks later) = []

-- the same but for origins inside, and for what stands before
record Alike (s t : Start) (inside other : Nodes) (pre closing : List ℕ) : Type 0 where
  kind : s.kind ≡ t.kind
  head : s.head ≡ t.head
  marks : s.marks ≡ t.marks
  generated : s.generated ≡ t.generated
  items : said_items inside ≡ said_items other
  closes : pre ≡ closing

alike : (s t : Start) (inside other : Nodes) (pre closing : List ℕ) → plain (Node (unled s) inside pre Empty) ≡ plain (Node (unled t) other closing Empty) → Alike s t inside other pre closing
unfolding start_in inside_in pre_in
alike s t inside other pre closing e =
    let a : Nodes = Node (unled s) inside pre Empty in
    let b : Nodes = Node (unled t) other closing Empty in
    let same : bearing nothing 0 a ≡ bearing nothing 0 b = sym (nodes_of-carried_items nothing 0 a) ∙ ap (λ xs. carried_nodes (carried_from nothing 0 xs)) e ∙ nodes_of-carried_items nothing 0 b in
    let start : with_body (nothing 0) (unled s) ≡ with_body (nothing 0) (unled t) = ap (λ n. start_in n s) same in
    record {
      kind = ap (λ x. x.kind) start;
      head = ap (λ x. x.head) start;
      marks = ap (λ x. x.marks) start;
      generated = ap (λ x. x.generated) start;
      items = sym (said_bearing nothing 1 inside) ∙ ap (λ n. said_items (inside_in n)) same ∙ said_bearing nothing 1 other;
      closes = ap pre_in same;
    }

-- what is known of a node that has these original bytes
pub record Kept (refers : Bool) (s : Start) (inside : Nodes) (pre part : List ℕ) : Type 0 where
  pub items : List PlainItem
  pub said : map item_unmade items ≡ said_items inside
  pub own : MayStand s.kind → NoWhole items → Own s.kind s.head s.generated items pre part
  pub block : refers ≡ false → s.generated ≡ false → is_leaf s.kind ≡ false → (s.marks ≡ []) × OwnBlock s.kind s.head items pre part

some_same : (x y : List ℕ) → ◌≡◌ {A = Option (List ℕ)} (Some x) (Some y) → x ≡ y
some_same x y e = ap (λ o. unwrap_or o x) e

kept_by : (o : Opened) (k : ℕ) (s : Start) (inside : Nodes) (pre part : List ℕ) (c : Bool) → is_kept (carried_items o.items) k (node_items s inside pre) ≡ c → Listed (ground o) o.spans k (carried_items o.items) →
    (if c then Some (part_at o.page (slice_get o.spans k)) else None) ≡ Some part → Kept (has_references o) s inside pre part
kept_by o k s inside pre part false e f h = cc
kept_by o k s inside pre part true e (inl x) h = absurd (let g : false ≡ true = ap (λ ys. list_same carried_same (without_pre (node_items s inside pre)) (without_pre ys)) (sym x) ∙ e in cc)
kept_by o k s inside pre part true e (inr x) h =
    let g : list_same carried_same (without_pre (node_items s inside pre)) (without_pre (node_items x.start x.inside x.pre)) ≡ true =
    ap (λ ys. list_same carried_same (without_pre (node_items s inside pre)) (without_pre ys)) (sym x.are) ∙ e in
    let same : plain (Node (unled s) inside pre Empty) ≡ plain (Node (unled x.start) x.inside x.pre Empty) =
    sym (items_in-nodes (Node (unled s) inside pre Empty)) ∙ same_items (without_pre (node_items s inside pre)) (without_pre (node_items x.start x.inside x.pre)) g ∙ items_in-nodes (Node (unled x.start) x.inside x.pre Empty) in
    let a = alike s x.start inside x.inside pre x.pre same in
    let bytes : x.source ≡ part = sym x.is ∙ ap (part_at o.page) (sym x.at) ∙ some_same (part_at o.page (slice_get o.spans k)) part h in
    record {
      items = x.first;
      said = x.said ∙ sym a.items;
      own = λ may none.
          let own = x.own (subst MayStand a.kind may) none in
          subst (λ y. Own s.kind s.head s.generated x.first pre y) bytes
          (subst (λ y. Own s.kind s.head s.generated x.first y x.source) (sym a.closes)
          (subst (λ y. Own s.kind s.head y x.first x.pre x.source) (sym a.generated)
          (subst (λ y. Own s.kind y x.start.generated x.first x.pre x.source) (sym a.head)
          (subst (λ y. Own y x.start.head x.start.generated x.first x.pre x.source) (sym a.kind) own))));
      block = λ calm made branch.
          let own = x.block calm (sym a.generated ∙ made) (ap is_leaf (sym a.kind) ∙ branch) in (
            a.marks ∙ own.0,
            subst (λ y. OwnBlock s.kind s.head x.first pre y) bytes
                (subst (λ y. OwnBlock s.kind s.head x.first y x.source) (sym a.closes)
                (subst (λ y. OwnBlock s.kind y x.first x.pre x.source) (sym a.head)
                (subst (λ y. OwnBlock y x.start.head x.first x.pre x.source) (sym a.kind) own.1))),
          );
    }

kept_of : (o : Opened) → ((k : ℕ) → Listed (ground o) o.spans k (carried_items o.items)) → (origin : Option ℕ) (s : Start) (inside : Nodes) (pre part : List ℕ) →
    original_at o (carried_items o.items) origin (node_items s inside pre) ≡ Some part → Kept (has_references o) s inside pre part
kept_of o f None s inside pre part h = cc
kept_of o f (Some k) s inside pre part h = kept_by o k s inside pre part (is_kept (carried_items o.items) k (node_items s inside pre)) refl (f k) h

pub kept_source : (page : List ℕ) (o : Opened) → opened_page page ≡ Some o → (s : Start) (inside : Nodes) (pre part : List ℕ) →
    original_at o (carried_items o.items) s.origin (node_items s inside pre) ≡ Some part → Kept (has_references o) s inside pre part
kept_source page o h s inside pre part e = kept_of o (λ k. body_found page (body_at page) refl o h k) s.origin s inside pre part e
