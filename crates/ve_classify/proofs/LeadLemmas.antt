-- The nodes of a text that was read lead on, and its forest stands at the first of them.
use Rattle.std.proofs.Common.{◌≡◌, ℕ, zero, suc, ◌+◌, ◌<◌, ◌≤◌, true, false, List, [], ◌∷◌, ◌++◌, length, Some, sym, ap, subst, arith, append-nil}
use Rattle.std.specs.Prelude.{slice_get}
use Rattle.model_spelling.specs.Grammar.{Comment, token_text, start_text, end_text}
use Rattle.model_spelling.specs.Forest.{Forest, Nothing, Text, Remark, Void, RawElement, Element, spelling, is_forest}
use Rattle.model_spelling.specs.ForestNodes.{ForestNode, forest_size, forest_nodes}
use Rattle.model_spelling.proofs.ForestLaws.{length_forest_nodes}
use Rattle.ve_html_tree.specs.Nodes.{ShowNodes}
use Rattle.ve_html_tree.specs.declared.node.Node.{Node}
use Rattle.ve_classify.specs.Standing.{LeadsOn, Stands}
use Rattle.ve_classify.proofs.StandLemmas.{shown_count}

-- forest_nodes from the number n on, each of which leads on, and to none past the end
abbrev LeadFrom : ℕ → ℕ → List ForestNode → Type 0
LeadFrom n end [] = Unit {0}
LeadFrom n end (r ∷ rs) = (n < r.next) × (r.next ≤ end) × LeadFrom (n + 1) end rs

wider : (n end more : ℕ) (rs : List ForestNode) → end ≤ more → LeadFrom n end rs → LeadFrom n more rs
wider n end more [] le l = tt
wider n end more (r ∷ rs) le l = (l.0, omega (arith, l.1, le), wider (n + 1) end more rs le l.2)

from_here : (n m end : ℕ) (rs : List ForestNode) → n ≡ m → LeadFrom n end rs → LeadFrom m end rs
from_here n m end rs e l = subst (λ (k : ℕ). LeadFrom k end rs) e l

appended : (n m end : ℕ) (xs ys : List ForestNode) → m ≡ n + length xs → LeadFrom n end xs → LeadFrom m end ys → LeadFrom n end (xs ++ ys)
appended n m end [] ys e l k = from_here m n end ys (omega (arith, e)) k
appended n m end (x ∷ xs) ys e l k = (l.0, l.1, appended (n + 1) m end xs ys (omega (arith, e)) l.2 k)

nodes_lead : (n at : ℕ) (f : Forest) → LeadFrom n (n + forest_size f) (forest_nodes n at f)
nodes_lead n at Nothing = tt
nodes_lead n at (Text text rest) = (omega arith, omega arith, wider (n + 1) (n + 1 + forest_size rest) (n + (1 + forest_size rest)) (forest_nodes (n + 1) (at + length text) rest) (omega arith) (nodes_lead (n + 1) (at + length text) rest))
nodes_lead n at (Remark text rest) =
    let to : ℕ = at + length (token_text (Comment text)) in
    (omega arith, omega arith, wider (n + 1) (n + 1 + forest_size rest) (n + (1 + forest_size rest)) (forest_nodes (n + 1) to rest) (omega arith) (nodes_lead (n + 1) to rest))
nodes_lead n at (Void name attrs slash rest) =
    let to : ℕ = at + length (start_text name attrs slash) in
    (omega arith, omega arith, wider (n + 1) (n + 1 + forest_size rest) (n + (1 + forest_size rest)) (forest_nodes (n + 1) to rest) (omega arith) (nodes_lead (n + 1) to rest))
nodes_lead n at (RawElement name attrs [] rest) =
    let to : ℕ = at + length (start_text name attrs false) + length (end_text name) in
    (omega arith, omega arith, wider (n + 1) (n + 1 + forest_size rest) (n + (1 + forest_size rest)) (forest_nodes (n + 1) to rest) (omega arith) (nodes_lead (n + 1) to rest))
nodes_lead n at (RawElement name attrs (b ∷ bs) rest) =
    let to : ℕ = at + length (start_text name attrs false) + length (b ∷ bs) + length (end_text name) in
    let l = wider (n + 2) (n + 2 + forest_size rest) (n + (2 + forest_size rest)) (forest_nodes (n + 2) to rest) (omega arith) (nodes_lead (n + 2) to rest) in
    (omega arith, omega arith, (omega arith, omega arith, from_here (n + 2) (n + 1 + 1) (n + (2 + forest_size rest)) (forest_nodes (n + 2) to rest) (omega arith) l))
nodes_lead n at (Element name attrs children rest) =
    let from : ℕ = at + length (start_text name attrs false) in
    let to : ℕ = from + length (spelling children) + length (end_text name) in
    let next : ℕ = n + 1 + forest_size children in
    let end : ℕ = n + (1 + forest_size children + forest_size rest) in
    let inner = wider (n + 1) (n + 1 + forest_size children) end (forest_nodes (n + 1) from children) (omega arith) (nodes_lead (n + 1) from children) in
    let outer = wider next (next + forest_size rest) end (forest_nodes next to rest) (omega arith) (nodes_lead next to rest) in
    (omega arith, omega arith, appended (n + 1) next end (forest_nodes (n + 1) from children) (forest_nodes next to rest) (omega (arith, length_forest_nodes (n + 1) from children)) inner outer)

leads_from : (nodes : List Node) (rs : List ForestNode) (n end : ℕ) → ShowNodes nodes rs → LeadFrom n end rs → (k : ℕ) (x : Node) → slice_get nodes k ≡ Some x → (n + k < x.next) × (x.next ≤ end)
leads_from [] [] n end s l zero x e = absurd cc
leads_from [] [] n end s l (suc k) x e = absurd cc
leads_from [] (r ∷ rs) n end s l k x e = absurd s
leads_from (y ∷ ys) [] n end s l k x e = absurd s
leads_from (y ∷ ys) (r ∷ rs) n end s l zero x e =
    let same : y ≡ x = cc in
    (omega (arith, l.0, s.0.next, ap (λ (z : Node). z.next) same), omega (arith, l.1, s.0.next, ap (λ (z : Node). z.next) same))
leads_from (y ∷ ys) (r ∷ rs) n end s l (suc k) x e =
    let rest = leads_from ys rs (n + 1) end s.1 l.2 k x e in
    (omega (arith, rest.0), rest.1)

pub leads_on : (f : Forest) (nodes : List Node) → ShowNodes nodes (forest_nodes 0 0 f) → LeadsOn nodes
leads_on f nodes s = λ n x e.
    let many = shown_count nodes (forest_nodes 0 0 f) s in
    let l = leads_from nodes (forest_nodes 0 0 f) 0 (0 + forest_size f) s (nodes_lead 0 0 f) n x e in
    (omega (arith, l.0), omega (arith, l.1, many, length_forest_nodes 0 0 f))

pub whole_stands : (f : Forest) (nodes : List Node) → ShowNodes nodes (forest_nodes 0 0 f) → is_forest 200 f ≡ true → Stands nodes 0 0 f []
whole_stands f nodes s e = record { shown = subst (ShowNodes nodes) (sym (append-nil (forest_nodes 0 0 f))) s; past = tt; room = 200; allowed = e }
