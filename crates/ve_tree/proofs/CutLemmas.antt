-- Landmarks where children of a node give way to others: those in them go, and those behind them
-- move.
use Rattle.std.proofs.Common.{◌≡◌, ◌+◌, ℕ, suc, Some, List, ◌∷◌, ◌++◌, sym, ap, ◌∙◌, append_assoc, arith}
use Rattle.model_items.specs.Tree.{item_count}
use Rattle.ve_arena.specs.declared.node.NodeWhat.TheVariants as what
use Rattle.ve_tree.specs.Named.{Named, NoNode, NamedRun, NamedBranch, unnumbered}
use Rattle.ve_tree.specs.Places.{NodePlace, node_places}
use Rattle.ve_tree.specs.Rows.{beside}

pub places_beside : (f g : Named) (p at : ℕ) → node_places p at (beside f g) ≡ node_places p at f ++ node_places p (at + item_count (unnumbered f)) g
places_beside NoNode g p at = let same : at ≡ at + 0 = omega arith in ap (λ start. node_places p start g) same
places_beside (NamedRun n count later) g p at =
    let place : at + count + item_count (unnumbered later) ≡ at + (count + item_count (unnumbered later)) = omega arith in
    ap (λ (all : List NodePlace). record { number = n; parent = Some p; sort = what.Run; from = at; to = at + count } ∷ all)
    (places_beside later g p (at + count) ∙ ap (λ start. node_places p (at + count) later ++ node_places p start g) place)
places_beside (NamedBranch n kind inside later) g p at =
    let len = item_count (unnumbered inside) + 2 in
    let place : at + len + item_count (unnumbered later) ≡ at + (len + item_count (unnumbered later)) = omega arith in
    ap (λ (all : List NodePlace). record { number = n; parent = Some p; sort = what.Node kind; from = at; to = at + len } ∷ all)
    (ap (λ all. node_places n (suc at) inside ++ all) (places_beside later g p (at + len) ∙ ap (λ start. node_places p (at + len) later ++ node_places p start g) place)
    ∙ sym (append_assoc (node_places n (suc at) inside) (node_places p (at + len) later) (node_places p (at + (len + item_count (unnumbered later))) g)))
