-- Where a reader stops for want of memory it has made no more nodes than the whole script has.
use Rattle.std.proofs.Common.{◌≤◌, ◌*◌, ◌-◌, ◌≡◌, ℕ, List, [], length, map, refl, ap, ◌∙◌, subst, arith}
use Rattle.model_items.specs.declared.item.Item.{Item}
use Rattle.model_items.specs.Plain.{plain_list}
use Rattle.model_change.specs.Touch.{touch}
use Rattle.ve_base.specs.declared.value.Value.{Value}
use Rattle.ve_arena.specs.declared.node.NodeId.{NodeId}
use Rattle.ve_tree.specs.IsTree.{unvalued}
use Rattle.ve_tx.specs.Operation.{Operation, bare, by_value}
use Rattle.ve_repair.specs.declared.range.ChangedRange.{ChangedRange}
use Rattle.ve_repair.specs.declared.script.Step.{Step}
use Rattle.ve_repair.specs.declared.start.Start.{Start}
use Rattle.ve_repair.specs.Acts.{Act, marks}
use Rattle.ve_repair.specs.Change.{new_list}
use Rattle.ve_repair.specs.Charged.{made_count}
use Rattle.ve_repair.specs.Courses.{with_stays, all_openings}
use Rattle.ve_repair.specs.Moved.{act_place}
use Rattle.ve_repair.specs.Partly.{IsPartEnd, IsPartOut}
use Rattle.ve_repair.specs.Plan.{Stacks}
use Rattle.ve_repair.specs.Reader.{Slots}
use Rattle.ve_repair.specs.Scene.{Scene, IsPiece, open_round, piece_acts}
use Rattle.ve_repair.specs.Script.{script_for, first_reader}
use Rattle.ve_repair.specs.Sizing.{Sizing}
use Rattle.ve_repair.specs.Spelled.{Sign}
use Rattle.ve_repair.specs.Tokens.{puts}
use Rattle.ve_repair.specs.Whole.{script_of}
use Rattle.ve_repair.proofs.ActsOfLemmas.{AreOf}
use Rattle.ve_repair.proofs.BoundLemmas.{makes_are_bounded}
use Rattle.ve_repair.proofs.ChangeLemmas.{shapes-plain}
use Rattle.ve_repair.proofs.ChangeOfLemmas.{piece_is_change}
use Rattle.ve_repair.proofs.MatchingLemmas.{op_places}
use Rattle.ve_repair.proofs.PartPieceLemmas.{zeros, zeros_count, piece_unnumbered}
use Rattle.ve_repair.proofs.SceneLemmas.{place, changed, front, lefts, comings, of_signs, is_piece, behind_proper}
use Rattle.ve_repair.proofs.SceneOfLemmas.{course}

module _ (old : Slots) (root : NodeId) (items : List Item) (tx : List Operation) (r : ChangedRange) (start : Start) (s : Stacks) (z : Sizing) (scene : Scene old root items tx r start s z) where
  -- the nodes that the acts of a piece make
  piece_makes : (ss rights : List Sign) (acts : List Act) → IsPiece scene.tree.named (map bare tx) (changed old root items tx r start s z scene) (lefts old root items tx r start s z scene) ss rights acts →
      (values : List Value) → 6 * length (puts (script_of (λ k. 0) acts ss)) ≤ 8 * touch (by_value values tx) (plain_list values items)
  piece_makes ss rights acts p values =
      makes_are_bounded (λ k. 0) root old (unvalued items) (new_list values tx items) scene.tree (lefts old root items tx r start s z scene) ss rights acts (by_value values tx) (plain_list values items)
      (record {
        change = piece_is_change old root items tx r start s z scene ss rights acts p values;
        moves = λ x. op_places tx p.numbers values x ∙ ap (λ l. act_place l x) p.all_are;
        old_shapes = shapes-plain values [] items;
        new_shapes = refl;
      })

  module _ (xs : List Step) (h : IsPartEnd (changed old root items tx r start s z scene) (with_stays (r.from - start.place) (course old root items tx r start s z scene)) xs) where
    abbrev numbers : List ℕ
    numbers = zeros (all_openings (changed old root items tx r start s z scene))

    counted : length numbers ≡ all_openings (changed old root items tx r start s z scene)
    counted = zeros_count (all_openings (changed old root items tx r start s z scene))

    abbrev acts : List Act
    acts = piece_acts (front old root items tx r start s z scene) (changed old root items tx r start s z scene) numbers h.tail

    abbrev signs : AreOf acts (open_round root.0 (place old root items tx r start s z scene).round) (comings old root items tx r start s z scene)
    signs = of_signs old root items tx r start s z scene numbers counted h.tail h.few h.whole

    piece : IsPiece scene.tree.named (map bare tx) (changed old root items tx r start s z scene) (lefts old root items tx r start s z scene) signs.ss signs.rights acts
    piece = is_piece old root items tx r start s z scene numbers counted h.tail h.few h.whole

    -- the script so far has no more than that
    part_of_piece : made_count xs ≤ length (puts (script_of (λ k. 0) acts signs.ss))
    part_of_piece =
        subst (λ ms. made_count xs ≤ length (puts (script_for (λ k. 0) ms (first_reader 0))))
        (ap (λ l. marks l (comings old root items tx r start s z scene))
        (piece_unnumbered (front old root items tx r start s z scene) (changed old root items tx r start s z scene) h.tail (all_openings (changed old root items tx r start s z scene)))
        ∙ signs.marks_are) h.part

    ended_steps : (values : List Value) → 2 * made_count xs ≤ 8 * touch (by_value values tx) (plain_list values items)
    ended_steps values =
        let bound = piece_makes signs.ss signs.rights acts piece values in
        omega (arith, part_of_piece, bound)

  pub part_steps : (xs : List Step) → IsPartOut (changed old root items tx r start s z scene) (with_stays (r.from - start.place) (course old root items tx r start s z scene)) xs →
      (values : List Value) → 2 * made_count xs ≤ 8 * touch (by_value values tx) (plain_list values items)
  part_steps xs h values = ended_steps xs (h (behind_proper old root items tx r start s z scene)) values
