use Rattle.std.proofs.Common.{Fits, w64, rules, ◌≤◌, ◌<◌, ◌^◌, ◌≡◌, ◌+◌, ◌-◌, ℕ, List, Some, length, arith, refl, sym, subst}
use Rattle.ve_arena.specs.declared.node.NodeId.{NodeId}
use Rattle.ve_tree.specs.Way.{BeginsBefore}
use Rattle.ve_tree.specs.Gaps.{IsGap}
use Rattle.model_items.specs.declared.plain_item.PlainItem.{PlainItem}
use Rattle.ve_tree.specs.IsTree.{IsTree}
use Rattle.ve_tree.proofs.ClimbLemmas.{root_whole}
use Rattle.ve_tree.proofs.LandmarkLemmas.{landmark_begins}
use Rattle.ve_tree.proofs.GapLemmas.{begins_within, starts_within, numbered_landmark, gap_between, gap_at_end, root_order}
use Rattle.ve_tree.proofs.mark.gap_after.Goals as goal
use Rattle.ve_tree.proofs.mark.gap_after.Goals.{in-Some, in-None, then-n-root+in_ok-first, else-n-root+in_ok-first-2}

pub overflow_sub-from : goal.overflow_sub-from
overflow_sub-from c = starts_within c.requires.tree c.requires.are (λ items tree. root_whole tree c.node.result.now c.node.ensures) c.in_ok-n.ensures.some

pub next_ahead-requires-clause-begins : goal.next_ahead-requires-clause-begins
next_ahead-requires-clause-begins c = λ items tree.
    let begins = c.requires.are c.in_ok-n.n c.in_ok-n.start (numbered_landmark c.in_ok-n.ensures.some) items tree in
    let whole = root_whole tree c.node.result.now c.node.ensures in
    subst (λ (all : ℕ). BeginsBefore tree (length items) c.in_ok-n.n (all - c.in_ok-n.start)) (sym whole)
    (landmark_begins tree (length items) c.in_ok-n.n c.in_ok-n.start begins c.if-n-root.true (begins_within tree c.in_ok-n.n c.in_ok-n.start begins))

pub overflow_sub-to : goal.overflow_sub-to
overflow_sub-to c = starts_within c.requires.tree c.requires.are (λ items tree. root_whole tree c.node.result.now c.node.ensures) c.in-Some.ensures.some

pub returns-clause-gap : goal.returns-clause-gap
returns-clause-gap c =
    let whole : (items : List PlainItem) → IsTree c.args.arena.now.slots c.args.root items → c.node.result.now.len ≡ length items = λ items tree. root_whole tree c.node.result.now c.node.ensures in
    let within : c.in_ok-n.start ≤ c.node.result.now.len = starts_within c.requires.tree c.requires.are whole c.in_ok-n.ensures.some in
    let all : Fits w64 c.node.result.now.len = search rules in
    let fits : c.node.result.now.len < 2 ^ 64 = omega (arith, all) in
    elim c.match-get.branch [
      | in-Some w ↦
          subst (λ (to : ℕ). IsGap c.args.arena.now.slots c.args.root c.args.marks.now (record { next = c.args.k + 1; from = c.node.result.now.len - c.in_ok-n.start; to = to })) (sym w.to-is)
          (gap_between _ _ c.args.marks.now c.args.k (c.args.k + 1) _ _ c.in_ok-n.start w.in-Some.end c.node.result.now.len c.requires.are whole fits within
          (starts_within c.requires.tree c.requires.are whole w.in-Some.ensures.some) c.in_ok-n.ensures.some (omega arith) w.in-Some.ensures.some)
      | in-None w ↦
          subst (λ (to : ℕ). IsGap c.args.arena.now.slots c.args.root c.args.marks.now (record { next = c.args.k + 1; from = c.node.result.now.len - c.in_ok-n.start; to = to })) (sym w.to-is)
          (gap_at_end _ _ c.args.marks.now c.args.k (c.args.k + 1) _ c.in_ok-n.start c.node.result.now.len c.requires.are whole fits within c.in_ok-n.ensures.some (omega arith) (w.in-None.ensures.none refl))
    ]

pub returns-clause-order : goal.returns-clause-order
returns-clause-order c =
    let begins = c.requires.are c.in_ok-n.n c.in_ok-n.start (numbered_landmark c.in_ok-n.ensures.some) c.requires.tree.items c.requires.tree.tree in
    let whole = root_whole c.requires.tree.tree c.node.result.now c.node.ensures in
    elim c.if-n-root.branch [
      | then-n-root+in_ok-first w ↦ subst (λ (first : NodeId × ℕ). first.1 ≤ c.node.result.now.len - c.in_ok-n.start) (sym w.first-is) (omega (arith, w.in_ok-first.ensures.farther))
      | else-n-root+in_ok-first-2 w ↦ subst (λ (first : NodeId × ℕ). first.1 ≤ c.node.result.now.len - c.in_ok-n.start) (sym w.first-is)
          (root_order c.requires.tree c.in_ok-n.n c.in_ok-n.start c.node.result.now.len (Some _) w.if-n-root.false begins whole w.in_ok-first-2.ensures)
    ]
