-- Where a reading begins, what it leaves right of it, and the nodes that it made.
use Rattle.std.proofs.Common.{◌≡◌, ◌≤◌, ◌+◌, ℕ, Option, Some, None, IsSome, List, [], ◌∷◌, ◌++◌, map, refl, sym, ap, ◌∙◌, subst, arith, append_assoc, append-nil}
use Rattle.model_items.specs.Tree.{item_count}
use Rattle.ve_arena.specs.declared.node.NodeId.{NodeId}
use Rattle.ve_arena.specs.Arena.{slot_at}
use Rattle.ve_tree.specs.Links.{number_of, last_of, last_or}
use Rattle.ve_tree.specs.Named.{Named, NoNode, NamedRun, NamedBranch, unnumbered}
use Rattle.ve_tree.proofs.WalkLemmas.{Slots}
use Rattle.ve_repair.specs.declared.cursor.Cursor.{Cursor}
use Rattle.ve_repair.specs.Spelled.{Sign, BeginOf, LettersOf, EndOf, NoLetters}
use Rattle.ve_repair.specs.Sizes.{signs_of}
use Rattle.ve_repair.specs.Closing.{IsRowFrom, AreLeft, AreSomeLeft}
use Rattle.ve_repair.specs.Cursors.{Spot, items_in, cut_by, Round, outer_of, left_signs, IsRowUnder, AreRows, IsAt}

-- the items of a forest's signs
pub items_signs : (f : Named) (ss : List Sign) → items_in (signs_of f ++ ss) ≡ item_count (unnumbered f) + items_in ss
items_signs NoNode ss = omega arith
items_signs (NamedRun n count later) ss = let e = items_signs later ss in omega (arith, e)
items_signs (NamedBranch n kind inside later) ss =
    let a = ap items_in (append_assoc (signs_of inside) (EndOf kind ∷ signs_of later) ss) in
    let b = items_signs inside (EndOf kind ∷ (signs_of later ++ ss)) in
    let c = items_signs later ss in
    omega (arith, a, b, c)

row_from : (slots : Slots) (p : ℕ) (next : Option NodeId) (f : Named) → IsRowUnder slots p next f → IsRowFrom slots next f
row_from slots p next f r = record { next_is = r.next_is; inner = p; edge = r.edge; row = r.row; shown = r.shown; runs = r.runs }

row_items : (f : Named) (rs : List Round) → item_count (unnumbered f) ≤ items_in (left_signs f rs)
row_items f [] = let e = items_signs f [] in let s = ap items_in (append-nil (signs_of f)) in omega (arith, e, s)
row_items f (r ∷ rs) = let e = items_signs f (EndOf r.kind ∷ left_signs r.later rs) in omega (arith, e)

-- The tokens right of a cursor before a bracket, level by level.
rows_left : (slots : Slots) (most : ℕ) (p : NodeId) (next : Option NodeId) (f : Named) (rs : List Round) (os : List NodeId) → AreRows slots p.0 next f rs → items_in (left_signs f rs) ≤ most →
    map number_of os ≡ map outer_of rs → ((q : ℕ) → last_of p.0 (map outer_of rs) ≡ q → IsSome (slot_at slots q)) → AreLeft slots most (p ∷ os) next (f ∷ map (λ r. r.later) rs)
rows_left slots most p next f [] [] h few same root = (row_from slots p.0 next f h, (let e = row_items f [] in omega (arith, e, few)), root p.0 refl, λ node here. tt)
rows_left slots most p next f [] (o ∷ os) h few same root = absurd (cc)
rows_left slots most p next f (r ∷ rs) [] h few same root = absurd (cc)
rows_left slots most p next f (r ∷ rs) (o ∷ os) h few same root =
    let number : o.0 ≡ r.outer = cc in
    let others : map number_of os ≡ map outer_of rs = cc in (
      row_from slots p.0 next f h.0,
      (let e = row_items f (r ∷ rs) in omega (arith, e, few)),
      h.1,
      λ node here.
          rows_left slots most o node.after r.later rs os (subst (λ q. AreRows slots q node.after r.later rs) (sym number) (h.2 node here).1)
          (let e = items_signs f (EndOf r.kind ∷ left_signs r.later rs) in omega (arith, e, few)) others
          (λ q e. root q (ap (λ m. last_of m (map outer_of rs)) (sym number) ∙ e)),
    )

pub cut_none : (k : ℕ) (ss : List Sign) → NoLetters (cut_by k ss) → cut_by k ss ≡ ss
cut_none k [] h = refl
cut_none k (BeginOf n kind ∷ ss) h = refl
cut_none k (LettersOf n count ∷ ss) h = absurd h
cut_none k (EndOf kind ∷ ss) h = refl

pub ends_left : (slots : Slots) (at : Cursor) (spot : Spot) (most : ℕ) (os : List NodeId) → IsAt slots at spot → NoLetters spot.rest → items_in spot.rest ≤ most →
    map number_of os ≡ spot.open_nodes → ((q : ℕ) → last_or None spot.open_nodes ≡ Some q → IsSome (slot_at slots q)) → AreSomeLeft slots most os at.next
ends_left slots at spot most os h end few same root = by_nodes os (same ∙ h.open_is)
  where
    fit : items_in (left_signs h.row h.rounds) ≤ most
    fit =
        let e = ap items_in (h.rest_is ∙ cut_none at.inside (left_signs h.row h.rounds) (subst NoLetters h.rest_is end)) in
        omega (arith, e, few)

    by_nodes : (os : List NodeId) → map number_of os ≡ at.parent.0 ∷ map outer_of h.rounds → AreSomeLeft slots most os at.next
    by_nodes [] e = absurd (cc)
    by_nodes (o ∷ os) e =
        let number : o.0 ≡ at.parent.0 = cc in
        let others : map number_of os ≡ map outer_of h.rounds = cc in
        record {
          rows = h.row ∷ map (λ r. r.later) h.rounds;
          left = rows_left slots most o at.next h.row h.rounds os (subst (λ q. AreRows slots q at.next h.row h.rounds) (sym number) h.rows) fit others
              (λ q e. root q (ap (last_or None) (h.open_is ∙ ap (λ m. m ∷ map outer_of h.rounds) (sym number)) ∙ ap (λ m. Some m) e));
        }
