-- Once all planned writes are made and what goes is freed, the script of a changed range is carried
-- out.
use Rattle.std.proofs.Common.{◌≡◌, List, map, subst}
use Rattle.model_items.specs.declared.item.Item.{Item}
use Rattle.ve_arena.specs.declared.node.NodeId.{NodeId}
use Rattle.ve_base.specs.declared.value.Value.{Value}
use Rattle.ve_tree.specs.Named.{Named}
use Rattle.ve_tree.specs.IsTree.{unvalued}
use Rattle.ve_tx.specs.Operation.{Operation, bare}
use Rattle.ve_repair.specs.declared.range.ChangedRange.{ChangedRange}
use Rattle.ve_repair.specs.declared.start.Start.{Start}
use Rattle.ve_repair.specs.declared.write.Write.{Write}
use Rattle.ve_repair.specs.declared.script.How.TheVariants.{Put, Cut}
use Rattle.ve_repair.specs.Agree.{steps_of}
use Rattle.ve_repair.specs.Assembly.{all_writes}
use Rattle.ve_repair.specs.Bounded.{IsPlanned}
use Rattle.ve_repair.specs.Change.{new_list}
use Rattle.ve_repair.specs.Closing.{AreLeft}
use Rattle.ve_repair.specs.Courses.{supply_of}
use Rattle.ve_repair.specs.Cursor.{passed_signs, coming_signs}
use Rattle.ve_repair.specs.Begun.{HasBegun}
use Rattle.ve_repair.specs.Frees.{nodes_of, IsFreed}
use Rattle.ve_repair.specs.Matching.{IsChanged}
use Rattle.ve_repair.specs.Plan.{Stacks, script_stacks}
use Rattle.ve_repair.specs.Reader.{Slots, Reading, HasMade}
use Rattle.ve_repair.specs.Scene.{Scene, IsReadPiece}
use Rattle.ve_repair.specs.Sizing.{Sizing, len_under}
use Rattle.ve_repair.specs.Spelled.{token_of}
use Rattle.ve_repair.specs.Tokens.{old_side}
use Rattle.ve_repair.specs.Whole.{IsCarriedOut}
use Rattle.ve_repair.specs.Writes.{CarriedOut}
use Rattle.ve_repair.proofs.BegunLemmas.{start_has_begun}
use Rattle.ve_repair.proofs.CarriedOutLemmas.{carried_out}

module _ (old : Slots) (root : NodeId) (items : List Item) (tx : List Operation) (r : ChangedRange) (start : Start) (s : Stacks) (z : Sizing) (scene : Scene old root items tx r start s z)
    (mid : Slots) (r1 : Reading) (p : IsReadPiece scene.tree.named root.0 (map bare tx) scene.range.changed scene.starts.place mid r1) (made : HasMade old mid (nodes_of Put r1.script))
    (ws : List Write) (rows : List Named) (left : AreLeft mid (len_under mid root) (script_stacks r1.script s).old r1.at.next rows) (are : ws ≡ all_writes mid r1.script rows s z)
    (is_changed : (values : List Value) → IsChanged (supply_of (steps_of r1.script)) root old (unvalued items) (new_list values tx items) scene.tree (passed_signs scene.starts.place) p.ss p.rights p.acts)
    (planned_as : IsPlanned root (passed_signs scene.starts.place) p.rights r1.script rows s z) where
  begun : HasBegun scene.tree.named root.0 (passed_signs scene.starts.place) (coming_signs scene.starts.place) start.place s z
  begun = start_has_begun scene.tree.named root.0 r.from start s z scene.starts scene.tree.apart

  pub carried : (values : List Value) (written new : Slots) → CarriedOut mid written ws → IsFreed written new (nodes_of Cut r1.script) →
      IsCarriedOut root (passed_signs scene.starts.place) p.rights (steps_of r1.script) old new (is_changed values).forest.named (new_list values tx items)
  carried values written new c freed =
      carried_out (supply_of (steps_of r1.script)) root old (unvalued items) (new_list values tx items) scene.tree (passed_signs scene.starts.place) p.ss p.rights p.acts
      (is_changed values) r1.script p.script mid made p.begun p.texts rows s z written new
      (begun.agrees (old_side (steps_of r1.script) (map token_of p.rights))) planned_as.rows planned_as.starts (subst (CarriedOut mid written) are c) freed
