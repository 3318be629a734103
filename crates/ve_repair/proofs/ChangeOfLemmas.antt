-- The reader's script is a change of the tree, whatever the values are.
use Rattle.std.proofs.Common.{◌≡◌, ℕ, List, [], ◌∷◌, ◌++◌, map, sym, ap, ◌∙◌, subst, refl}
use Rattle.model_items.specs.declared.item.Item.{Item}
use Rattle.model_items.specs.Tree.{shape_of}
use Rattle.model_items.specs.Plain.{plain_list}
use Rattle.ve_base.specs.declared.value.Value.{Value}
use Rattle.ve_arena.specs.declared.node.NodeId.{NodeId}
use Rattle.ve_tree.specs.Links.{AllApart}
use Rattle.ve_tree.specs.Named.{node_numbers}
use Rattle.ve_tree.specs.IsTree.{unvalued}
use Rattle.ve_tx.specs.Operation.{Operation, bare}
use Rattle.ve_repair.specs.declared.range.ChangedRange.{ChangedRange}
use Rattle.ve_repair.specs.declared.start.Start.{Start}
use Rattle.ve_repair.specs.declared.script.How.TheVariants.{Put}
use Rattle.ve_repair.specs.Acts.{Act, new_piece, acts_of}
use Rattle.ve_repair.specs.Agree.{steps_of}
use Rattle.ve_repair.specs.Change.{new_list}
use Rattle.ve_repair.specs.Changed.{IsChangeOf}
use Rattle.ve_repair.specs.Courses.{supply_of}
use Rattle.ve_repair.specs.Cursor.{passed_signs}
use Rattle.ve_repair.specs.Frees.{nodes_of}
use Rattle.ve_repair.specs.Matching.{IsChanged}
use Rattle.ve_repair.specs.Plan.{Stacks}
use Rattle.ve_repair.specs.Reader.{Slots, Reading, HasMade}
use Rattle.ve_repair.specs.Scene.{Scene, IsPiece, IsReadPiece}
use Rattle.ve_repair.specs.Sizing.{Sizing}
use Rattle.ve_repair.specs.Spelled.{Sign, sign_shapes, Proper, AllFrom}
use Rattle.ve_repair.specs.Tokens.{puts}
use Rattle.ve_repair.proofs.ActLemmas.{acts_give}
use Rattle.ve_repair.proofs.AllActsLemmas.{all_piece}
use Rattle.ve_repair.proofs.ChangeLemmas.{shapes-plain, edited-shapes, old_is}
use Rattle.ve_repair.proofs.ChangedLemmas.{shapes-append, change_has_forest}
use Rattle.ve_repair.proofs.PutsLemmas.{puts_apart, puts_new}
use Rattle.ve_repair.proofs.PieceSignsLemmas.{tree_signs, tree_proper, tree_texts}

module _ (old : Slots) (root : NodeId) (items : List Item) (tx : List Operation) (r : ChangedRange) (start : Start) (s : Stacks) (z : Sizing) (scene : Scene old root items tx r start s z) where
  -- what the transaction makes of the old list's shapes
  new_shapes : (values : List Value) (ns : List ℕ) → new_piece (acts_of (map bare tx) ns) (map shape_of (unvalued items)) ≡ map shape_of (new_list values tx items)
  new_shapes values ns =
      acts_give (map bare tx) ns items (old_is tx items (map bare tx) refl scene.applies)
      ∙ sym (edited-shapes values tx (plain_list values items) items (shapes-plain values [] items))

  -- a piece of the tree, and what the operations do with it
  module _ (ss rights : List Sign) (acts : List Act) (p : IsPiece scene.tree.named (map bare tx) scene.range.changed (passed_signs scene.starts.place) ss rights acts) where
    -- the old list's shapes, in three parts
    old_shapes : sign_shapes (passed_signs scene.starts.place) ++ (sign_shapes ss ++ sign_shapes rights) ≡ map shape_of (unvalued items)
    old_shapes =
        ap (λ l. sign_shapes (passed_signs scene.starts.place) ++ l) (sym (shapes-append ss rights))
        ∙ sym (shapes-append (passed_signs scene.starts.place) (ss ++ rights))
        ∙ ap sign_shapes (sym p.signs) ∙ tree_signs old root (unvalued items) scene.tree

    pub piece_is_change : (values : List Value) → IsChangeOf scene.tree.named (passed_signs scene.starts.place) ss rights acts (new_list values tx items)
    piece_is_change values = record {
      signs = p.signs;
      proper = subst Proper p.signs (tree_proper old root (unvalued items) scene.tree);
      left_whole = p.left_whole;
      right_whole = p.right_whole;
      uses = p.uses;
      texts = tree_texts old root (unvalued items) scene.tree (passed_signs scene.starts.place) ss rights p.signs;
      lawful = scene.lawful values;
      shapes = sym (all_piece (passed_signs scene.starts.place) acts ss rights p.uses)
          ∙ (λ i. new_piece (sym p.all_are i) (old_shapes i)) ∙ new_shapes values p.numbers;
    }

  module _ (mid : Slots) (r1 : Reading) (p : IsReadPiece scene.tree.named root.0 (map bare tx) scene.range.changed scene.starts.place mid r1)
      (made : HasMade old mid (nodes_of Put r1.script)) where
    pub is_change_of : (values : List Value) → IsChangeOf scene.tree.named (passed_signs scene.starts.place) p.ss p.rights p.acts (new_list values tx items)
    is_change_of = piece_is_change p.ss p.rights p.acts p.piece

    -- the change, for each list of values
    pub is_changed : (values : List Value) →
        IsChanged (supply_of (steps_of r1.script)) root old (unvalued items) (new_list values tx items) scene.tree (passed_signs scene.starts.place) p.ss p.rights p.acts
    is_changed values = record {
      change = is_change_of values;
      forest = change_has_forest (supply_of (steps_of r1.script)) scene.tree.named (passed_signs scene.starts.place) p.ss p.rights p.acts (new_list values tx items)
          (is_change_of values);
      distinct = subst (λ l. AllApart (puts l)) p.script (puts_apart old mid r1.script made);
      made = subst (λ l. AllFrom (puts l) (root.0 ∷ node_numbers scene.tree.named)) p.script (puts_new old mid root (unvalued items) scene.tree r1.script made);
    }
