-- Forests beside forests and within nodes: their numbers, tops and characters.
use Rattle.std.proofs.Common.{◌≡◌, List, [], ◌∷◌, ◌++◌, refl, sym, ap, ◌∙◌, append_assoc}
use Rattle.model_items.specs.Tree.{HasWholeRuns}
use Rattle.ve_tree.specs.Named.{Named, NoNode, NamedRun, NamedBranch, unnumbered, heads, node_numbers, Shows}
use Rattle.ve_tree.specs.Rows.{beside, Round, within}
use Rattle.ve_tree.proofs.GrownLemmas.{Slots}

-- siblings and others after them
pub heads-beside : (f g : Named) → heads (beside f g) ≡ heads f ++ heads g
heads-beside NoNode g = refl
heads-beside (NamedRun n count later) g = ap (λ l. n ∷ l) (heads-beside later g)
heads-beside (NamedBranch n kind inside later) g = ap (λ l. n ∷ l) (heads-beside later g)

pub numbers-beside : (f g : Named) → node_numbers (beside f g) ≡ node_numbers f ++ node_numbers g
numbers-beside NoNode g = refl
numbers-beside (NamedRun n count later) g = ap (λ l. n ∷ l) (numbers-beside later g)
numbers-beside (NamedBranch n kind inside later) g =
    ap (λ l. n ∷ (node_numbers inside ++ l)) (numbers-beside later g) ∙ ap (λ l. n ∷ l) (sym (append_assoc (node_numbers inside) (node_numbers later) (node_numbers g)))

pub shows_left : (slots : Slots) (f g : Named) → Shows slots (beside f g) → Shows slots f
shows_left slots NoNode g s = tt
shows_left slots (NamedRun n count later) g s = (s.0, shows_left slots later g s.1)
shows_left slots (NamedBranch n kind inside later) g s = (s.0, s.1, shows_left slots later g s.2)

pub shows_right : (slots : Slots) (f g : Named) → Shows slots (beside f g) → Shows slots g
shows_right slots NoNode g s = s
shows_right slots (NamedRun n count later) g s = shows_right slots later g s.1
shows_right slots (NamedBranch n kind inside later) g s = shows_right slots later g s.2

pub whole_right : (f g : Named) → HasWholeRuns (unnumbered (beside f g)) → HasWholeRuns (unnumbered g)
whole_right NoNode g h = h
whole_right (NamedRun n count later) g h = whole_right later g h.2
whole_right (NamedBranch n kind inside later) g h = whole_right later g h.1

pub whole_inside : (rs : List Round) (x : Named) → HasWholeRuns (unnumbered (within rs x)) → HasWholeRuns (unnumbered x)
whole_inside [] x h = h
whole_inside (r ∷ rs) x h = (whole_right r.before (NamedBranch r.number r.kind x r.after) (whole_inside rs (beside r.before (NamedBranch r.number r.kind x r.after)) h)).0
