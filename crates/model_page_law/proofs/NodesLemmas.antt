-- A list of items that nodes give is read back as these nodes.
use Rattle.std.proofs.Common.{◌≡◌, List, [], ◌∷◌, ◌++◌, None, refl, sym, ap, ◌∙◌, append_assoc}
use Rattle.std.proofs.lemmas.List.{append-nil}
use Rattle.model_items.specs.declared.plain_item.PlainItem.TheVariants.{Char, Closing}
use Rattle.model_page_write.specs.Nodes.{Carried, Nodes, Empty, Letter, Node, nodes_ending_with, nodes_ending, carried_nodes, start_item, node_list_items}

abbrev pub followed : Nodes → Nodes → Nodes
followed Empty rest = rest
followed (Letter c marks later) rest = Letter c marks (followed later rest)
followed (Node start inside pre later) rest = Node start inside pre (followed later rest)

pub followed-empty : (n : Nodes) → followed n Empty ≡ n
followed-empty Empty = refl
followed-empty (Letter c marks later) = ap (Letter c marks) (followed-empty later)
followed-empty (Node start inside pre later) = ap (Node start inside pre) (followed-empty later)

pub items_of-followed : (n rest : Nodes) → node_list_items (followed n rest) ≡ node_list_items n ++ node_list_items rest
items_of-followed Empty rest = refl
items_of-followed (Letter c marks later) rest = ap (λ xs. record { item = Char c marks; body = None } ∷ xs) (items_of-followed later rest)
items_of-followed (Node start inside pre later) rest =
    ap (λ xs. start_item start ∷ node_list_items inside ++ record { item = Closing start.kind pre; body = None } ∷ xs) (items_of-followed later rest)
    ∙ ap (λ xs. start_item start ∷ xs) (sym (append_assoc (node_list_items inside) (record { item = Closing start.kind pre; body = None } ∷ node_list_items later) (node_list_items rest)))

pub ending-items_of : (n : Nodes) (rest : List Carried) → nodes_ending (node_list_items n ++ rest) ≡ record { here = followed n (nodes_ending rest).here; outer = (nodes_ending rest).outer }
ending-items_of Empty rest = refl
ending-items_of (Letter c marks later) rest = ap (nodes_ending_with None (Char c marks)) (ending-items_of later rest)
ending-items_of (Node start inside pre later) rest =
    let closing : Carried = record { item = Closing start.kind pre; body = None } in
    ap (λ xs. nodes_ending (start_item start ∷ xs)) (append_assoc (node_list_items inside) (closing ∷ node_list_items later) rest)
    ∙ ap (nodes_ending_with start.body (start_item start).item) (ending-items_of inside (closing ∷ node_list_items later ++ rest))
    ∙ ap (λ e. nodes_ending_with start.body (start_item start).item (record { here = followed inside Empty; outer = record { pre = pre; later = e.here } ∷ e.outer })) (ending-items_of later rest)
    ∙ ap (λ n. record { here = Node start n pre (followed later (nodes_ending rest).here); outer = (nodes_ending rest).outer }) (followed-empty inside)

pub nodes_of-items_of : (n : Nodes) → carried_nodes (node_list_items n) ≡ n
nodes_of-items_of n =
    ap carried_nodes (sym (append-nil (node_list_items n))) ∙ ap (λ e. e.here) (ending-items_of n []) ∙ followed-empty n
