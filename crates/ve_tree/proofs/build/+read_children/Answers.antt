use Rattle.std.proofs.Common.{◌≡◌, ◌≤◌, ◌<◌, ◌+◌, ◌*◌, ◌-◌, ℕ, Some, List, refl, rules, sym, ap, ◌∙◌, subst, arith, length, slice_get}
use Rattle.model_items.specs.declared.item.Item.{Item}
use Rattle.model_items.specs.Law.{Lawful}
use Rattle.ve_arena.specs.declared.node.NodeWhat.TheVariants as what
use Rattle.ve_arena.specs.Arena.{Changes, with_len}
use Rattle.ve_tree.specs.IsTree.{unvalued}
use Rattle.ve_tree.specs.Grown.{id_of, reading_from, count_from, IsChar, ReadChildren, IsRunFrom}
use Rattle.ve_tree.proofs.ReachedLemmas.{Reached, reached_start, next_apart, steps_reached, steps_char, steps_closing, steps_inner, new_childless, inner_begun, reached_run, begins_inside, reached_branch}
use Rattle.ve_tree.proofs.build.+read_children.Goals as goal

-- an item of the list, where the list is seen to be the same
item_of : (items same : List Item) (left m : ℕ) (x y : Item) → same ≡ items → m ≡ left - 1 → slice_get same (left - 1) ≡ Some x → x ≡ y → slice_get items m ≡ Some y
item_of items same left m x y e n found is = ap (slice_get items) n ∙ ap (λ l. slice_get l (left - 1)) (sym e) ∙ found ∙ ap (λ (x : Item). Some x) is

pub sibling-init : goal.sibling-init
sibling-init g t c = record {
  same = refl;
  counted = omega arith;
  reached = reached_start c.args.arena.now.slots c.args.parent.0 c.args.rest.now.items c.args.rest.now.left c.args.steps.now c.requires.childless c.requires.begun;
  first = refl;
}

pub returns-in-Opening-clause-steps : goal.returns-in-Opening-clause-steps
returns-in-Opening-clause-steps g t c = steps_reached _ _ _ _ _ _ _ _ c.sibling.invariant.reached

pub make_first-requires-clause-next_apart : goal.make_first-requires-clause-next_apart
make_first-requires-clause-next_apart g t c = next_apart _ _ _ _ _ _ _ _ c.requires.childless c.sibling.invariant.reached

pub returns-in_err-run-in-Char-clause-steps : goal.returns-in_err-run-in-Char-clause-steps
returns-in_err-run-in-Char-clause-steps g t c =
    let some : 0 < c.sibling.rest.left = search rules in
    steps_char _ _ _ _ _ _ _ _ c.make_first.new.steps c.sibling.invariant.reached (c.sibling.rest.left - 1) c.last.result
    (omega (arith, some)) (item_of _ _ c.sibling.rest.left _ c.last.result _ c.sibling.invariant.same refl c.last.ensures refl) (subst IsChar (sym c.in-Char.is) tt) c.in_err-run-in-Char.ensures.steps

pub sibling-preserved-in-Char : goal.sibling-preserved-in-Char
sibling-preserved-in-Char g t c =
    let some : 0 < c.sibling.rest.left = search rules in
    let same = c.sibling.invariant.same in
    let run = subst (λ items. IsRunFrom items c.pass_run-count.new.rest.left c.sibling.rest.left) same c.pass_run-count.ensures.run in
    let write = subst (λ len. Changes c.make_first.new.arena.slots c.set_len.new.self.slots (id_of c.in_ok-run-in-Char.run'.0) (with_len len)) c.pass_run-count.ensures.count c.set_len.ensures.write in
    record {
      same = c.pass_run-count.ensures.items ∙ same;
      counted = omega (arith, c.sibling.invariant.counted, c.in_ok-run-in-Char.ensures.counted, c.set_len.ensures.step);
      reached = subst (λ s. Reached c.args.arena.now.slots c.set_len.new.self.slots c.args.parent.0 c.args.rest.now.items c.args.rest.now.left c.pass_run-count.new.rest.left c.args.steps.now s)
          (sym c.set_len.ensures.step)
          (reached_run _ _ c.make_first.new.arena.slots c.set_len.new.self.slots _ c.in_ok-run-in-Char.run'.0 _ _ _ _ _ c.make_first.new.steps c.pass_run-count.new.rest.left
          c.requires.childless c.requires.within c.sibling.invariant.reached (c.sibling.rest.left - 1) c.last.result
          (omega (arith, some)) (item_of _ _ c.sibling.rest.left _ c.last.result _ same refl c.last.ensures refl) (subst IsChar (sym c.in-Char.is) tt)
          c.in_ok-run-in-Char.ensures.vacant c.in_ok-run-in-Char.ensures.made run write c.in_ok-run-in-Char.ensures.steps);
      first = c.set_len.ensures.first ∙ c.in_ok-run-in-Char.ensures.first ∙ c.sibling.invariant.first;
    }

pub make_first-requires-in-Closing-clause-next_apart : goal.make_first-requires-in-Closing-clause-next_apart
make_first-requires-in-Closing-clause-next_apart g t c = next_apart _ _ _ _ _ _ _ _ c.requires.childless c.sibling.invariant.reached

pub returns-in_err-node-in-Closing-clause-steps : goal.returns-in_err-node-in-Closing-clause-steps
returns-in_err-node-in-Closing-clause-steps g t c =
    let some : 0 < c.sibling.rest.left = search rules in
    steps_closing _ _ _ _ _ _ _ _ c.make_first-in-Closing.new.steps c.sibling.invariant.reached (c.sibling.rest.left - 1) c.in-Closing.kind c.in-Closing.pre
    (omega (arith, some)) (item_of _ _ c.sibling.rest.left _ c.last.result _ c.sibling.invariant.same refl c.last.ensures c.in-Closing.is) c.in_err-node-in-Closing.ensures.steps

pub read_children-requires : goal.read_children-requires
read_children-requires g t c κs within =
    let some : 0 < c.sibling.rest.left = search rules in
    let same = c.pass.ensures.items ∙ c.sibling.invariant.same in
    let size : length c.pass.new.self.items ≡ length c.args.rest.now.items = ap (λ (l : List Item). length l) same in (
      omega (arith, some, c.pass.ensures.left, c.sibling.invariant.reached.count, c.decreases),
      (
        within,
        (
          new_childless c.sibling.arena.slots c.make_first-in-Closing.new.arena.slots c.in_ok-node-in-Closing.node.0 c.args.parent.0 (what.Node c.in-Closing.kind) c.in_ok-node-in-Closing.ensures.made,
          (
            omega (arith, c.sibling.invariant.reached.count, c.requires.within, size, c.pass.ensures.left),
            (
              subst (λ items. Lawful (unvalued items)) (sym same) c.requires.lawful,
              ap (λ items. (reading_from items c.pass.new.self.left).here) same
                  ∙ inner_begun _ _ _ _ _ _ _ _ c.sibling.invariant.reached c.pass.new.self.left c.in-Closing.kind c.in-Closing.pre
                  (omega (arith, some, c.pass.ensures.left)) (item_of _ _ c.sibling.rest.left _ c.last.result _ c.sibling.invariant.same c.pass.ensures.left c.last.ensures c.in-Closing.is),
            ),
          ),
        ),
      ),
    )

pub returns-in_err-read_children-in-Closing-clause-steps : goal.returns-in_err-read_children-in-Closing-clause-steps
returns-in_err-read_children-in-Closing-clause-steps g t c =
    let some : 0 < c.sibling.rest.left = search rules in
    let same = c.pass.ensures.items ∙ c.sibling.invariant.same in
    steps_inner _ _ _ _ _ _ _ _ c.make_first-in-Closing.new.steps c.read_children.new.steps c.sibling.invariant.reached c.pass.new.self.left c.in-Closing.kind c.in-Closing.pre
    (omega (arith, some, c.pass.ensures.left)) (item_of _ _ c.sibling.rest.left _ c.last.result _ c.sibling.invariant.same c.pass.ensures.left c.last.ensures c.in-Closing.is)
    c.in_ok-node-in-Closing.ensures.steps
    (subst (λ items. c.read_children.new.steps + 6 * count_from items c.pass.new.self.left ≤ c.make_first-in-Closing.new.steps + 6 * count_from items 0) same
    c.in_err-read_children-in-Closing.ensures.steps)

pub pass-requires-in-Closing : goal.pass-requires-in-Closing
pass-requires-in-Closing g t c =
    let some : 0 < c.sibling.rest.left = search rules in
    let same = c.pass.ensures.items ∙ c.sibling.invariant.same in
    begins_inside _ _ _ _ _ _ _ _ _ _ _ _ c.requires.within c.requires.lawful c.sibling.invariant.reached c.pass.new.self.left c.in-Closing.kind c.in-Closing.pre
    (omega (arith, some, c.pass.ensures.left)) (item_of _ _ c.sibling.rest.left _ c.last.result _ c.sibling.invariant.same c.pass.ensures.left c.last.ensures c.in-Closing.is)
    (subst (λ items. ReadChildren c.make_first-in-Closing.new.arena.slots c.read_children.new.arena.slots c.in_ok-node-in-Closing.node.0 items c.read_children.new.rest.left c.pass.new.self.left) same
    c.in_ok-read_children-in-Closing.ensures.read)

pub sibling-preserved : goal.sibling-preserved
sibling-preserved g t c =
    let some : 0 < c.sibling.rest.left = search rules in
    let same = c.pass.ensures.items ∙ c.sibling.invariant.same in
    let from = c.read_children.new.rest.left in
    let len : c.left-end.result - c.left-in-Closing.result ≡ c.sibling.rest.left - (from - 1) = omega (arith, c.left-end.ensures, c.left-in-Closing.ensures, c.pass-in-Closing.ensures.left) in
    let write = subst (λ len. Changes c.read_children.new.arena.slots c.set_len-in-Closing.new.self.slots (id_of c.in_ok-node-in-Closing.node.0) (with_len len)) len c.set_len-in-Closing.ensures.write in
    let read = subst (λ items. ReadChildren c.make_first-in-Closing.new.arena.slots c.read_children.new.arena.slots c.in_ok-node-in-Closing.node.0 items from c.pass.new.self.left) same
    c.in_ok-read_children-in-Closing.ensures.read in
    let steps = subst (λ items. c.read_children.new.steps + 6 * count_from items c.pass.new.self.left ≤ c.make_first-in-Closing.new.steps + 6 * count_from items from) same
    c.in_ok-read_children-in-Closing.ensures.steps_ok in
    let reached = reached_branch _ _ c.make_first-in-Closing.new.arena.slots c.read_children.new.arena.slots c.set_len-in-Closing.new.self.slots _ c.in_ok-node-in-Closing.node.0 _ _ _ _ _
    c.make_first-in-Closing.new.steps c.read_children.new.steps from
    c.requires.childless c.requires.within c.requires.lawful c.sibling.invariant.reached c.pass.new.self.left c.in-Closing.kind c.in-Closing.pre
    (omega (arith, some, c.pass.ensures.left)) (item_of _ _ c.sibling.rest.left _ c.last.result _ c.sibling.invariant.same c.pass.ensures.left c.last.ensures c.in-Closing.is)
    c.in_ok-node-in-Closing.ensures.vacant c.in_ok-node-in-Closing.ensures.made read write c.in_ok-node-in-Closing.ensures.steps steps in
    record {
      same = c.pass-in-Closing.ensures.items ∙ c.in_ok-read_children-in-Closing.ensures.items ∙ same;
      counted = omega (arith, c.sibling.invariant.counted, c.in_ok-node-in-Closing.ensures.counted, c.in_ok-read_children-in-Closing.ensures.counted, c.set_len-in-Closing.ensures.step);
      reached = subst (λ at. Reached c.args.arena.now.slots c.set_len-in-Closing.new.self.slots c.args.parent.0 c.args.rest.now.items c.args.rest.now.left at c.args.steps.now c.set_len-in-Closing.new.steps)
          (sym c.pass-in-Closing.ensures.left)
          (subst (λ s. Reached c.args.arena.now.slots c.set_len-in-Closing.new.self.slots c.args.parent.0 c.args.rest.now.items c.args.rest.now.left (from - 1) c.args.steps.now s)
          (sym c.set_len-in-Closing.ensures.step) reached);
      first = c.set_len-in-Closing.ensures.first ∙ c.in_ok-read_children-in-Closing.ensures.first ∙ c.in_ok-node-in-Closing.ensures.first ∙ c.sibling.invariant.first;
    }
