-- The rows that are found right of a script are what stands there, and the code's stacks and
-- positions are those of the piece.
use Rattle.std.proofs.Common.{◌≡◌, ℕ, Option, Some, None, List, [], ◌∷◌, ◌++◌, map, option_map, refl, sym, ap, ◌∙◌, subst}
use Rattle.std.proofs.lemmas.List.{map-append}
use Rattle.ve_base.specs.declared.value.Value.{Value}
use Rattle.model_items.specs.declared.item.Item.{Item}
use Rattle.ve_arena.specs.declared.node.NodeId.{NodeId}
use Rattle.ve_arena.specs.declared.node.NodeWhat.{NodeWhat}
use Rattle.ve_arena.specs.declared.node.ArenaNode.{ArenaNode}
use Rattle.ve_arena.specs.Arena.{slot_at, IsLive, node_under}
use Rattle.ve_tree.specs.Links.{number_of, links_of, first_or, AreSiblings}
use Rattle.ve_tree.specs.Named.{Named, NoNode, NamedRun, NamedBranch, heads, IsShown, Shows}
use Rattle.ve_tree.specs.IsTree.{unvalued}
use Rattle.ve_tx.specs.Operation.{Operation, bare}
use Rattle.ve_repair.specs.declared.range.ChangedRange.{ChangedRange}
use Rattle.ve_repair.specs.declared.start.Start.{Start}
use Rattle.ve_repair.specs.declared.script.How.TheVariants.{Put}
use Rattle.ve_repair.specs.Agree.{steps_of}
use Rattle.ve_repair.specs.Begun.{HasBegun}
use Rattle.ve_repair.specs.Bounded.{IsPlanned}
use Rattle.ve_repair.specs.Change.{new_list}
use Rattle.ve_repair.specs.Closing.{IsRowFrom, AreLeft}
use Rattle.ve_repair.specs.Courses.{supply_of}
use Rattle.ve_repair.specs.Cursor.{passed_signs, coming_signs}
use Rattle.ve_repair.specs.Cursors.{Round, outer_of, left_signs, IsRowUnder, AreRows}
use Rattle.ve_repair.specs.Ending.{right_tokens}
use Rattle.ve_repair.specs.Frees.{nodes_of}
use Rattle.ve_repair.specs.Matching.{IsChanged}
use Rattle.ve_repair.specs.Plan.{Stacks, script_stacks}
use Rattle.ve_repair.specs.Ready.{nums, onto}
use Rattle.ve_repair.specs.Reader.{Slots, Reading, HasMade}
use Rattle.ve_repair.specs.Scene.{Scene, IsReadPiece}
use Rattle.ve_repair.specs.Sizes.{signs_of}
use Rattle.ve_repair.specs.Sizing.{Sizing, len_under}
use Rattle.ve_repair.specs.Spelled.{EndOf, NoLetters, token_of}
use Rattle.ve_repair.specs.Tokens.{End}
use Rattle.ve_repair.proofs.BegunLemmas.{start_has_begun}
use Rattle.ve_repair.proofs.CanPlanLemmas as plan_of
use Rattle.ve_repair.proofs.ChangedLemmas.{tokens-signs}
use Rattle.ve_repair.proofs.ReadEndsLemmas.{cut_none}

-- the sort and the length under a number are one
one_shown : (slots : Slots) (n m : ℕ) (a b : NodeWhat) (k l : ℕ) (xs ys : List ℕ) → n ≡ m → IsShown slots n a k xs → IsShown slots m b l ys → (a ≡ b) × (k ≡ l)
one_shown slots n m a b k l xs ys e x y =
    let sorts : ◌≡◌ {A = Option NodeWhat} (Some a) (Some b) = sym x.sort_is ∙ ap (λ n. option_map (λ node. node.what) (slot_at slots n)) e ∙ y.sort_is in
    let lens : ◌≡◌ {A = Option ℕ} (Some k) (Some l) = sym x.len_is ∙ ap (λ n. option_map (λ node. node.len) (slot_at slots n)) e ∙ y.len_is in
    (cc, cc)

-- the arena has siblings up to the last one
abbrev IsRow : Slots → ℕ → Option ℕ → Named → Type 0
IsRow slots p edge f = AreSiblings (links_of slots).parent (links_of slots).before (links_of slots).after p edge (heads f) None

-- It has one row from a node on.
one_row : (slots : Slots) (f g : Named) (p q : ℕ) (a b : Option ℕ) → first_or (heads f) None ≡ first_or (heads g) None → IsRow slots p a f → IsRow slots q b g →
    Shows slots f → Shows slots g → f ≡ g
one_row slots NoNode NoNode p q a b e x y s t = refl
one_row slots NoNode (NamedRun m l more) p q a b e x y s t = absurd (cc)
one_row slots NoNode (NamedBranch m k within more) p q a b e x y s t = absurd (cc)
one_row slots (NamedRun n count later) NoNode p q a b e x y s t = absurd (cc)
one_row slots (NamedBranch n kind inside later) NoNode p q a b e x y s t = absurd (cc)
one_row slots (NamedRun n count later) (NamedBranch m k within more) p q a b e x y s t =
    let same : n ≡ m = cc in
    let bad = (one_shown slots n m _ _ _ _ _ _ same s.0 t.0).0 in absurd (cc)
one_row slots (NamedBranch n kind inside later) (NamedRun m l more) p q a b e x y s t =
    let same : n ≡ m = cc in
    let bad = (one_shown slots n m _ _ _ _ _ _ same s.0 t.0).0 in absurd (cc)
one_row slots (NamedRun n count later) (NamedRun m l more) p q a b e x y s t =
    let same : n ≡ m = cc in
    let len = (one_shown slots n m _ _ _ _ _ _ same s.0 t.0).1 in
    let next = sym x.2 ∙ ap (links_of slots).after same ∙ y.2 in
    let rest = one_row slots later more p q (Some n) (Some m) next x.3 y.3 s.1 t.1 in
    λ i. NamedRun (same i) (len i) (rest i)
one_row slots (NamedBranch n kind inside later) (NamedBranch m k within more) p q a b e x y s t =
    let same : n ≡ m = cc in
    let sort = (one_shown slots n m _ _ _ _ _ _ same s.0 t.0).0 in
    let kinds : kind ≡ k = cc in
    let first = sym s.0.children.first ∙ ap (links_of slots).first same ∙ t.0.children.first in
    let in_ = one_row slots inside within n m None None first s.0.children.row t.0.children.row s.1 t.1 in
    let next = sym x.2 ∙ ap (links_of slots).after same ∙ y.2 in
    let rest = one_row slots later more p q (Some n) (Some m) next x.3 y.3 s.2 t.2 in
    λ i. NamedBranch (same i) (kinds i) (in_ i) (rest i)

same_row : (slots : Slots) (p : ℕ) (next : Option NodeId) (f g : Named) → IsRowUnder slots p next f → IsRowFrom slots next g → g ≡ f
same_row slots p next f g x y = one_row slots g f y.inner p y.edge x.edge (sym y.next_is ∙ x.next_is) y.row x.row y.shown x.shown

-- a node that is there
pub record There (slots : Slots) (n : NodeId) : Type 0 where
  pub node : ArenaNode
  pub is : node_under slots n ≡ Some node

pub there : (slots : Slots) (n : NodeId) → IsLive slots n → There slots n
there slots n h = by (node_under slots n) refl h
  where
    by : (o : Option ArenaNode) → node_under slots n ≡ o → IsLive slots n → There slots n
    by None e h = absurd (cc)
    by (Some node) e h = record { node = node; is = e }

-- The rows that are left are those that stand right of a cursor, level by level.
rows_are : (slots : Slots) (most : ℕ) (o : NodeId) (os : List NodeId) (p : ℕ) (next : Option NodeId) (f : Named) (rs : List Round) (gs : List Named) →
    o.0 ≡ p → map number_of os ≡ map outer_of rs → AreRows slots p next f rs → AreLeft slots most (o ∷ os) next gs → gs ≡ f ∷ map (λ r. r.later) rs
rows_are slots most o os p next f rs [] e same h left = absurd left
rows_are slots most o [] p next f [] (g ∷ []) e same h left = ap (λ x. x ∷ []) (same_row slots p next f g h left.0)
rows_are slots most o [] p next f [] (g ∷ (g2 ∷ gs)) e same h left = absurd (let t = there slots o left.2 in left.3 t.node t.is)
rows_are slots most o (o2 ∷ os) p next f [] (g ∷ gs) e same h left = absurd (cc)
rows_are slots most o [] p next f (r ∷ rs) (g ∷ gs) e same h left = absurd (cc)
rows_are slots most o (o2 ∷ os) p next f (r ∷ rs) (g ∷ gs) e same h left =
    let t = there slots o left.2 in
    let number : o2.0 ≡ r.outer = cc in
    let others : map number_of os ≡ map outer_of rs = cc in
    let row = same_row slots p next f g h.0 left.0 in
    let rest = rows_are slots most o2 os r.outer t.node.after r.later rs gs number others (h.2 t.node (ap (slot_at slots) (sym e) ∙ t.is)).1 (left.3 t.node t.is) in
    λ i. row i ∷ rest i

-- their tokens
row_tokens : (f : Named) (rs : List Round) → right_tokens (f ∷ map (λ r. r.later) rs) ≡ map token_of (left_signs f rs)
row_tokens f [] = tokens-signs f
row_tokens f (r ∷ rs) =
    (λ i. tokens-signs f i ++ End ∷ row_tokens r.later rs i)
    ∙ sym (map-append token_of (signs_of f) (EndOf r.kind ∷ left_signs r.later rs))

module _ (old : Slots) (root : NodeId) (items : List Item) (tx : List Operation) (r : ChangedRange) (start : Start) (s : Stacks) (z : Sizing) (scene : Scene old root items tx r start s z)
    (mid : Slots) (r1 : Reading) (p : IsReadPiece scene.tree.named root.0 (map bare tx) scene.range.changed scene.starts.place mid r1) (made : HasMade old mid (nodes_of Put r1.script))
    (is_changed : (values : List Value) → IsChanged (supply_of (steps_of r1.script)) root old (unvalued items) (new_list values tx items) scene.tree (passed_signs scene.starts.place) p.ss p.rights p.acts)
    (rows : List Named) (left : AreLeft mid (len_under mid root) (script_stacks r1.script s).old r1.at.next rows) where
  begun : HasBegun scene.tree.named root.0 (passed_signs scene.starts.place) (coming_signs scene.starts.place) start.place s z
  begun = start_has_begun scene.tree.named root.0 r.from start s z scene.starts scene.tree.apart

  open_is : map number_of (script_stacks r1.script s).old ≡ r1.at.parent.0 ∷ map outer_of p.at.rounds
  open_is = plan_of.stacks_end old root items tx r start s z scene mid r1 p made is_changed ∙ p.at.open_is

  found : rows ≡ p.at.row ∷ map (λ r. r.later) p.at.rounds
  found = by (script_stacks r1.script s).old open_is left
    where
      by : (os : List NodeId) → map number_of os ≡ r1.at.parent.0 ∷ map outer_of p.at.rounds →
          AreLeft mid (len_under mid root) os r1.at.next rows → rows ≡ p.at.row ∷ map (λ r. r.later) p.at.rounds
      by [] e h = absurd (cc)
      by (o ∷ os) e h =
          let number : o.0 ≡ r1.at.parent.0 = cc in
          let others : map number_of os ≡ map outer_of p.at.rounds = cc in
          rows_are mid (len_under mid root) o os r1.at.parent.0 r1.at.next p.at.row p.at.rounds rows number others p.at.rows h

  rights_are : p.rights ≡ left_signs p.at.row p.at.rounds
  rights_are = p.at.rest_is ∙ cut_none r1.at.inside (left_signs p.at.row p.at.rounds) (subst NoLetters p.at.rest_is p.piece.right_whole)

  pub planned_as : IsPlanned root (passed_signs scene.starts.place) p.rights r1.script rows s z
  planned_as = record {
    past = onto (nums (map token_of (passed_signs scene.starts.place))) (root.0 ∷ []);
    right = [];
    agrees = begun.agrees [];
    rows = ap right_tokens found ∙ row_tokens p.at.row p.at.rounds ∙ ap (map token_of) (sym rights_are);
    starts = begun.starts;
  }
