-- Nodes with their origins and the bodies that they carry, and the node of an origin.
use Rattle.std.proofs.Common.{◌≡◌, ℕ, suc, ◌+◌, ◌<◌, ◌≤◌, Bool, true, false, if◌then◌else◌, ◌==◌, List, [], ◌∷◌, ◌++◌, length, Option, Some, None, refl, sym, ap, ◌∙◌, append_assoc, arith}
use Rattle.std.proofs.lemmas.List.{append-nil}
use Rattle.std.proofs.lemmas.Grind.{common_steps}
use Rattle.model_items.specs.declared.plain_item.PlainItem.{PlainItem}
use Rattle.model_items.specs.declared.plain_item.PlainItem.TheVariants.{Char, Opening, Closing}
use Rattle.model_items.specs.Same.{option_same}
use Rattle.model_page.specs.References.{Body}
use Rattle.model_page.specs.PageItems.{with_origins}
use Rattle.model_page_write.specs.Nodes.{Carried, carried_from, Start, Nodes, Empty, Letter, Node, carried_nodes, start_item, node_list_items, node_items}
use Rattle.model_page_write.specs.PageText.{has_origin, node_from, node_with}
use Rattle.model_page_law.proofs.NodesLemmas.{nodes_of-items_of}
use Rattle.model_page_law.proofs.ShapeLemmas.{plain, openings}

-- ---- origins

abbrev pub with_origin : ℕ → Start → Start
with_origin k s = record { kind = s.kind; head = s.head; marks = s.marks; pre = s.pre; origin = Some k; generated = s.generated; body = s.body }

abbrev pub numbered_nodes : ℕ → Nodes → Nodes
numbered_nodes k Empty = Empty
numbered_nodes k (Letter c marks later) = Letter c marks (numbered_nodes k later)
numbered_nodes k (Node s inside pre later) =
    Node (with_origin k s) (numbered_nodes (suc k) inside) pre (numbered_nodes (suc k + openings inside) later)

pub with_origins-plain : (k : ℕ) (n : Nodes) (rest : List PlainItem) → with_origins k (plain n ++ rest) ≡ plain (numbered_nodes k n) ++ with_origins (k + openings n) rest
with_origins-plain k Empty rest = ap (λ m. with_origins m rest) (omega arith)
with_origins-plain k (Letter c marks later) rest = ap (λ xs. Char c marks ∷ xs) (with_origins-plain k later rest)
with_origins-plain k (Node s inside pre later) rest =
    let opened : PlainItem = Opening s.kind s.head s.marks s.pre (Some k) s.generated in
    let k2 : ℕ = suc k + openings inside in
    ap (λ xs. opened ∷ with_origins (suc k) xs) (append_assoc (plain inside) (Closing s.kind pre ∷ plain later) rest)
    ∙ ap (λ xs. opened ∷ xs) (with_origins-plain (suc k) inside (Closing s.kind pre ∷ plain later ++ rest))
    ∙ ap (λ xs. opened ∷ plain (numbered_nodes (suc k) inside) ++ Closing s.kind pre ∷ xs) (with_origins-plain k2 later rest)
    ∙ ap (λ m. opened ∷ plain (numbered_nodes (suc k) inside) ++ Closing s.kind pre ∷ (plain (numbered_nodes k2 later) ++ with_origins m rest)) (omega arith)
    ∙ ap (λ xs. opened ∷ xs) (sym (append_assoc (plain (numbered_nodes (suc k) inside)) (Closing s.kind pre ∷ plain (numbered_nodes k2 later)) (with_origins (k + suc (openings inside + openings later)) rest)))

pub with_origins-nodes : (k : ℕ) (n : Nodes) → with_origins k (plain n) ≡ plain (numbered_nodes k n)
with_origins-nodes k n = ap (with_origins k) (sym (append-nil (plain n))) ∙ with_origins-plain k n [] ∙ append-nil (plain (numbered_nodes k n))

-- ---- bodies

abbrev pub with_body : Option Body → Start → Start
with_body body s = record { kind = s.kind; head = s.head; marks = s.marks; pre = s.pre; origin = s.origin; generated = s.generated; body = body }

-- the nodes with what they carry; the first item's position is `at`
abbrev pub bearing : (ℕ → Option Body) → ℕ → Nodes → Nodes
bearing bodies at Empty = Empty
bearing bodies at (Letter c marks later) = Letter c marks (bearing bodies (suc at) later)
bearing bodies at (Node s inside pre later) =
    Node (with_body (bodies at) s) (bearing bodies (suc at) inside) pre (bearing bodies (suc (suc at + length (plain inside))) later)

pub carried_from-append : (bodies : ℕ → Option Body) (at : ℕ) (xs ys : List PlainItem) → carried_from bodies at (xs ++ ys) ≡ carried_from bodies at xs ++ carried_from bodies (at + length xs) ys
carried_from-append bodies at [] ys = ap (λ n. carried_from bodies n ys) (omega arith)
carried_from-append bodies at (Char c marks ∷ xs) ys =
    ap (λ zs. record { item = Char c marks; body = None } ∷ zs) (carried_from-append bodies (suc at) xs ys)
    ∙ ap (λ n. record { item = Char c marks; body = None } ∷ carried_from bodies (suc at) xs ++ carried_from bodies n ys) (omega arith)
carried_from-append bodies at (Closing kind pre ∷ xs) ys =
    ap (λ zs. record { item = Closing kind pre; body = None } ∷ zs) (carried_from-append bodies (suc at) xs ys)
    ∙ ap (λ n. record { item = Closing kind pre; body = None } ∷ carried_from bodies (suc at) xs ++ carried_from bodies n ys) (omega arith)
carried_from-append bodies at (Opening kind head marks pre origin generated ∷ xs) ys =
    ap (λ zs. record { item = Opening kind head marks pre origin generated; body = bodies at } ∷ zs) (carried_from-append bodies (suc at) xs ys)
    ∙ ap (λ n. record { item = Opening kind head marks pre origin generated; body = bodies at } ∷ carried_from bodies (suc at) xs ++ carried_from bodies n ys) (omega arith)

pub carried_from-plain : (bodies : ℕ → Option Body) (at : ℕ) (n : Nodes) → carried_from bodies at (plain n) ≡ node_list_items (bearing bodies at n)
carried_from-plain bodies at Empty = refl
carried_from-plain bodies at (Letter c marks later) = ap (λ xs. record { item = Char c marks; body = None } ∷ xs) (carried_from-plain bodies (suc at) later)
carried_from-plain bodies at (Node s inside pre later) =
    let opening : Carried = start_item (with_body (bodies at) s) in
    let closing : Carried = record { item = Closing s.kind pre; body = None } in
    ap (λ xs. opening ∷ xs) (carried_from-append bodies (suc at) (plain inside) (Closing s.kind pre ∷ plain later))
    ∙ ap (λ xs. opening ∷ xs ++ closing ∷ carried_from bodies (suc (suc at + length (plain inside))) (plain later)) (carried_from-plain bodies (suc at) inside)
    ∙ ap (λ xs. opening ∷ node_list_items (bearing bodies (suc at) inside) ++ closing ∷ xs) (carried_from-plain bodies (suc (suc at + length (plain inside))) later)

pub nodes_of-carried_items : (bodies : ℕ → Option Body) (at : ℕ) (n : Nodes) → carried_nodes (carried_from bodies at (plain n)) ≡ bearing bodies at n
nodes_of-carried_items bodies at n = ap carried_nodes (carried_from-plain bodies at n) ∙ nodes_of-items_of (bearing bodies at n)

-- ---- the node of an origin

node_from-items_of : (n : Nodes) (rest : List Carried) (depth : ℕ) → node_from (node_list_items n ++ rest) depth ≡ node_list_items n ++ node_from rest depth
node_from-items_of Empty rest depth = refl
node_from-items_of (Letter c marks later) rest depth = ap (λ xs. record { item = Char c marks; body = None } ∷ xs) (node_from-items_of later rest depth)
node_from-items_of (Node s inside pre later) rest depth =
    let closing : Carried = record { item = Closing s.kind pre; body = None } in
    ap (λ xs. start_item s ∷ node_from xs (suc depth)) (append_assoc (node_list_items inside) (closing ∷ node_list_items later) rest)
    ∙ ap (λ xs. start_item s ∷ xs) (node_from-items_of inside (closing ∷ node_list_items later ++ rest) (suc depth))
    ∙ ap (λ xs. start_item s ∷ node_list_items inside ++ closing ∷ xs) (node_from-items_of later rest depth)
    ∙ ap (λ xs. start_item s ∷ xs) (sym (append_assoc (node_list_items inside) (closing ∷ node_list_items later) (node_from rest depth)))

-- no item has the origin k or a greater one
abbrev pub Below : ℕ → List Carried → Type 0
Below k [] = Unit {0}
Below k (c ∷ cs) = ((j : ℕ) → k ≤ j → has_origin j c.item ≡ false) × Below k cs

pub Below-append : (k : ℕ) (xs ys : List Carried) → Below k xs → Below k ys → Below k (xs ++ ys)
Below-append k [] ys h g = g
Below-append k (x ∷ xs) ys h g = (h.0, Below-append k xs ys h.1 g)

pub Below-more : (k m : ℕ) (xs : List Carried) → k ≤ m → Below k xs → Below m xs
Below-more k m [] l h = tt
Below-more k m (x ∷ xs) l h = ((λ j g. h.0 j (omega (arith, l, g))), Below-more k m xs l h.1)

pub other_origin : (k j : ℕ) → k < j → option_same (λ m n. m == n) (Some k) (Some j) ≡ false
other_origin k j l = grind (arith, common_steps)

pub Below-with_origins : (bodies : ℕ → Option Body) (at k : ℕ) (n : Nodes) → Below (k + openings n) (node_list_items (bearing bodies at (numbered_nodes k n)))
Below-with_origins bodies at k Empty = tt
Below-with_origins bodies at k (Letter c marks later) = ((λ j l. refl), Below-with_origins bodies (suc at) k later)
Below-with_origins bodies at k (Node s inside pre later) =
    let k2 : ℕ = suc k + openings inside in
    let all : ℕ = k + suc (openings inside + openings later) in
    let inner : List Carried = node_list_items (bearing bodies (suc at) (numbered_nodes (suc k) inside)) in
    let place : ℕ = suc (suc at + length (plain (numbered_nodes (suc k) inside))) in
    let outer : List Carried = node_list_items (bearing bodies place (numbered_nodes k2 later)) in (
      (λ j l. other_origin k j (omega (arith, l))),
      Below-append all inner (record { item = Closing s.kind pre; body = None } ∷ outer)
          (Below-more k2 all inner (omega arith) (Below-with_origins bodies (suc at) (suc k) inside))
          ((λ j l. refl), Below-more (k2 + openings later) all outer (omega arith) (Below-with_origins bodies place k2 later)),
    )

pub chosen_list : (c : Bool) (xs ys : List Carried) → c ≡ true → (if c then xs else ys) ≡ xs
chosen_list true xs ys e = refl
chosen_list false xs ys e = cc

pub other_list : (c : Bool) (xs ys : List Carried) → c ≡ false → (if c then xs else ys) ≡ ys
other_list true xs ys e = cc
other_list false xs ys e = refl

node_with-append : (k : ℕ) (xs ys : List Carried) → Below k xs → node_with k (xs ++ ys) ≡ node_with k ys
node_with-append k [] ys h = refl
node_with-append k (x ∷ xs) ys h = other_list (has_origin k x.item) _ _ (h.0 k (omega arith)) ∙ node_with-append k xs ys h.1

pub has_origin-itself : (k : ℕ) → option_same (λ m n. m == n) (Some k) (Some k) ≡ true
has_origin-itself k = grind (arith, common_steps)

-- the node of the origin k, where no item before it has that origin or a greater one
pub node_with-node : (k : ℕ) (xs : List Carried) (s : Start) (inside : Nodes) (pre : List ℕ) (later : Nodes) → Below k xs → s.origin ≡ Some k →
    node_with k (xs ++ node_list_items (Node s inside pre later)) ≡ node_items s inside pre
node_with-node k xs s inside pre later h e =
    let closing : Carried = record { item = Closing s.kind pre; body = None } in
    node_with-append k xs (node_list_items (Node s inside pre later)) h
    ∙ chosen_list (has_origin k (start_item s).item) _ _ (ap (λ o. option_same (λ m n. m == n) o (Some k)) e ∙ has_origin-itself k)
    ∙ ap (λ ys. start_item s ∷ ys) (node_from-items_of inside (closing ∷ node_list_items later) 0)
