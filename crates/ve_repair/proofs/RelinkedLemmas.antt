-- The nodes once a script's writes are made, and how many steps that took.
use Rattle.std.proofs.Common.{◌≡◌, ◌≤◌, ◌+◌, ◌*◌, ℕ, Option, Some, None, IsSome, option_map, List, [], ◌∷◌, length, map, All, refl, sym, ap, ◌∙◌, subst, arith, append-nil}
use Rattle.model_items.specs.declared.item.Item.{Item}
use Rattle.model_items.specs.Plain.{plain_list}
use Rattle.model_change.specs.Touch.{touch}
use Rattle.ve_base.specs.declared.value.Value.{Value}
use Rattle.ve_arena.specs.declared.node.NodeId.{NodeId}
use Rattle.ve_arena.specs.declared.node.ArenaNode.{ArenaNode}
use Rattle.ve_arena.specs.Arena.{slot_at, IsLive}
use Rattle.ve_tree.specs.IsTree.{unvalued}
use Rattle.ve_tree.specs.Links.{AllApart, number_of}
use Rattle.ve_tree.specs.Named.{Named}
use Rattle.ve_tx.specs.Operation.{Operation, bare, by_value}
use Rattle.ve_repair.specs.declared.range.ChangedRange.{ChangedRange}
use Rattle.ve_repair.specs.declared.script.How.TheVariants.{Put, Cut}
use Rattle.ve_repair.specs.declared.script.Step.{Step}
use Rattle.ve_repair.specs.declared.start.Start.{Start}
use Rattle.ve_repair.specs.declared.write.Write.{Write}
use Rattle.ve_repair.specs.Agree.{steps_of}
use Rattle.ve_repair.specs.Assembly.{CanPlan, AreAllWrites, all_writes}
use Rattle.ve_repair.specs.Bounded.{IsChangeBy}
use Rattle.ve_repair.specs.Change.{new_list}
use Rattle.ve_repair.specs.Charged.{made_count, freed_count}
use Rattle.ve_repair.specs.Courses.{supply_of}
use Rattle.ve_repair.specs.Frees.{nodes_of, IsFreed}
use Rattle.ve_repair.specs.Kept.{KeepsNumbers}
use Rattle.ve_repair.specs.Labels.{StayLive}
use Rattle.ve_repair.specs.Lengths.{HaveLengths}
use Rattle.ve_repair.specs.Matching.{IsChanged}
use Rattle.ve_repair.specs.Moved.{act_place}
use Rattle.ve_repair.specs.Plan.{Stacks}
use Rattle.ve_repair.specs.Reader.{Slots, Reading, Keeps, HasMade}
use Rattle.ve_repair.specs.Repaired.{IsTreeAfter}
use Rattle.ve_repair.specs.Scene.{Scene, IsReadPiece}
use Rattle.ve_repair.specs.Sizes.{Sized, HaveSizes, signs_of, sizes}
use Rattle.ve_repair.specs.Sizing.{Sizing}
use Rattle.ve_repair.specs.Spelled.{Sign}
use Rattle.ve_repair.specs.Whole.{script_of, IsCarriedOut}
use Rattle.ve_repair.specs.Writes.{NamesLive, CarriedOut, weight}
use Rattle.ve_repair.proofs.BoundLemmas.{steps_are_bounded, made_are_bounded}
use Rattle.ve_repair.proofs.ChangeLemmas.{shapes-plain}
use Rattle.ve_repair.proofs.LengthCostLemmas.{tree_lengths}
use Rattle.ve_repair.proofs.MatchingLemmas.{op_places, numbers_are_kept}
use Rattle.ve_repair.proofs.SceneLemmas.{place, changed, lefts, is_changed, can_plan, names_live, planned_as, carried}
use Rattle.ve_repair.proofs.WholeLemmas.{change_repairs}

-- lengths of nodes that stay
some_len : (o : Option ArenaNode) (len : ℕ) → option_map (λ node. node.len) o ≡ Some len → IsSome o
some_len None len e = absurd (cc)
some_len (Some node) len e = refl

sizes_still : (old new : Slots) (zs : List Sized) → Keeps old new → HaveSizes old zs → HaveSizes new zs
sizes_still old new [] k h = tt
sizes_still old new (z ∷ zs) k h = (ap (option_map (λ node. node.len)) (k z.node (some_len (slot_at old z.node) z.len h.0)) ∙ h.0, sizes_still old new zs k h.1)

pub lengths_still : (old new : Slots) (root : ℕ) (f : Named) → Keeps old new → HaveLengths old root f → HaveLengths new root f
lengths_still old new root f k h = record {
  nodes = sizes_still old new (sizes (signs_of f) [] 0) k h.nodes;
  all = ap (option_map (λ node. node.len)) (k root (some_len (slot_at old root) _ h.all)) ∙ h.all;
}

module _ (old : Slots) (root : NodeId) (items : List Item) (tx : List Operation) (r : ChangedRange) (start : Start) (s : Stacks) (z : Sizing) (scene : Scene old root items tx r start s z)
    (mid : Slots) (r1 : Reading)
    (p : IsReadPiece scene.tree.named root.0 (map bare tx) (changed old root items tx r start s z scene) (place old root items tx r start s z scene) mid r1)
    (made : HasMade old mid (nodes_of Put r1.script)) where
  abbrev left_signs : List Sign
  left_signs = lefts old root items tx r start s z scene

  abbrev pub change : (values : List Value) → IsChanged (supply_of (steps_of r1.script)) root old (unvalued items) (new_list values tx items) scene.tree left_signs p.ss p.rights p.acts
  change = is_changed old root items tx r start s z scene mid r1 p made

  by_transaction : (values : List Value) →
      IsChangeBy (supply_of (steps_of r1.script)) root old (unvalued items) (new_list values tx items) scene.tree left_signs p.ss p.rights p.acts (by_value values tx) (plain_list values items)
  by_transaction values = record {
    changed = change values;
    moves = λ x. op_places tx p.piece.numbers values x ∙ ap (λ l. act_place l x) p.piece.all_are;
    old_shapes = shapes-plain values [] items;
    new_shapes = refl;
  }

  pub made_steps : (values : List Value) → 2 * made_count r1.script ≤ 8 * touch (by_value values tx) (plain_list values items)
  made_steps values =
      made_are_bounded (supply_of (steps_of r1.script)) root old (unvalued items) (new_list values tx items) scene.tree left_signs p.ss p.rights p.acts (by_value values tx) (plain_list values items)
      (record {
        change = (change values).change;
        moves = (by_transaction values).moves;
        old_shapes = (by_transaction values).old_shapes;
        new_shapes = (by_transaction values).new_shapes;
      }) r1.script [] (append-nil (steps_of r1.script) ∙ p.script)

  module _ (ws : List Write) (are_all : AreAllWrites mid root r1 s z ws) where
    can : CanPlan mid root r1 s z
    can = can_plan old root items tx r start s z scene mid r1 p made

    are : ws ≡ all_writes mid r1.script can.left.rows s z
    are = are_all can.left.rows can.left.left

    pub live : All (NamesLive mid) ws
    live = names_live old root items tx r start s z scene mid r1 p made ws can.left.rows can.left.left are

    module _ (written new : Slots) (c : CarriedOut mid written ws) (freed : IsFreed written new (nodes_of Cut r1.script)) where
      is_carried : (values : List Value) → IsCarriedOut root left_signs p.rights (script_of (supply_of (steps_of r1.script)) p.acts p.ss) old new (change values).forest.named (new_list values tx items)
      is_carried values =
          subst (λ l. IsCarriedOut root left_signs p.rights l old new (change values).forest.named (new_list values tx items)) p.script
          (carried old root items tx r start s z scene mid r1 p made ws can.left.rows can.left.left are values written new c freed)

      pub tree_after : IsTreeAfter new root tx items
      tree_after values =
          change_repairs (supply_of (steps_of r1.script)) root old new (unvalued items) (new_list values tx items) scene.tree left_signs p.ss p.rights p.acts (change values).change (change values).forest
          (change values).distinct (change values).made (is_carried values)

      pub numbers_after : KeepsNumbers old new root tx items
      numbers_after =
          numbers_are_kept (supply_of (steps_of r1.script)) root old new (unvalued items) (new_list [] tx items) scene.tree left_signs p.ss p.rights p.acts
          (record { changed = change []; carried = is_carried [] }) tx p.piece.numbers items p.piece.all_are

    pub all_steps : (values : List Value) → made_count r1.script + weight ws + freed_count r1.script ≤ 8 * touch (by_value values tx) (plain_list values items)
    all_steps values =
        subst (λ l. made_count r1.script + weight l + freed_count r1.script ≤ 8 * touch (by_value values tx) (plain_list values items)) (sym are)
        (steps_are_bounded (supply_of (steps_of r1.script)) root old mid (unvalued items) (new_list values tx items) scene.tree left_signs p.ss p.rights p.acts (by_value values tx) (plain_list values items)
        (by_transaction values) (lengths_still old mid root.0 scene.tree.named made.keeps (tree_lengths old root (unvalued items) scene.tree))
        r1.script can.left.rows s z p.script (planned_as old root items tx r start s z scene mid r1 p made ws can.left.rows can.left.left are))

-- steps, where nodes were made and freed
pub steps_undone : (before read after t : ℕ) (xs : List Step) → 2 * made_count xs ≤ 8 * t → read ≤ before + made_count xs + 1 → after ≡ read + length (nodes_of Put xs) → after ≤ before + 8 * (t + 2)
steps_undone before read after t xs few paid is = omega (arith, few, paid, is)

-- or made, written and freed
pub steps_done : (before read carried after t : ℕ) (ws vs : List Write) (xs ys : List Step) → vs ≡ ws → ys ≡ xs → made_count xs + weight ws + freed_count xs ≤ 8 * t → read + 0 ≡ before + made_count xs →
    carried ≡ read + weight vs → after ≡ carried + length (nodes_of Cut ys) → after ≤ before + 8 * (t + 2)
steps_done before read carried after t ws vs xs ys ew es few paid wrote freed =
    let w = ap weight ew in
    let f : length (nodes_of Cut ys) ≡ freed_count xs = ap freed_count es in
    omega (arith, few, paid, wrote, freed, w, f)

pub as_carried : (mid written : Slots) (vs ws : List Write) → vs ≡ ws → CarriedOut mid written vs → CarriedOut mid written ws
as_carried mid written vs ws e c = subst (CarriedOut mid written) e c

pub freed_of : (written new : Slots) (xs ys : List Step) → ys ≡ xs → IsFreed written new (nodes_of Cut ys) → IsFreed written new (nodes_of Cut xs)
freed_of written new xs ys e f = subst (λ l. IsFreed written new (nodes_of Cut l)) e f

pub gone_live : (mid written : Slots) (xs ys : List Step) → ys ≡ xs → StayLive mid written → All (IsLive mid) (nodes_of Cut xs) → All (IsLive written) (nodes_of Cut ys)
gone_live mid written xs ys e stay live_now = subst (λ l. All (IsLive written) (nodes_of Cut l)) (sym e) (λ k d within. stay _ (live_now k d within))

pub gone_apart : (xs ys : List Step) → ys ≡ xs → AllApart (map number_of (nodes_of Cut xs)) → AllApart (map number_of (nodes_of Cut ys))
gone_apart xs ys e h = subst (λ l. AllApart (map number_of (nodes_of Cut l))) (sym e) h
