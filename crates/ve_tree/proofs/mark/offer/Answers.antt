use Rattle.std.proofs.Common.{Fits, w64, rules, arith, ℕ, subst}
use Rattle.ve_tree.specs.Gaps.{IsGap}
use Rattle.ve_tree.proofs.ClimbLemmas.{listed_live}
use Rattle.ve_tree.proofs.NearLemmas.{listed}
use Rattle.ve_tree.proofs.LandmarkLemmas.{ahead}
use Rattle.ve_tree.proofs.GapLemmas.{gap_filled, has_space}
use Rattle.ve_tree.proofs.mark.offer.Goals as goal

pub node-requires : goal.node-requires
node-requires c =
    let b = c.requires.begins c.requires.tree.items c.requires.tree.tree in
    listed_live c.requires.tree.tree b.place c.args.n (listed c.requires.tree.tree b.place b.listed) b.number_is

pub overflow_add-space : goal.overflow_add-space
overflow_add-space c =
    let from : Fits w64 c.args.gap.from = search rules in
    let a = ahead c.requires.tree.tree c.args.n c.args.left c.node.result.now (c.requires.begins c.requires.tree.items c.requires.tree.tree) c.node.ensures in
    omega (arith, from, a.within, c.requires.after)

pub insert-requires-clause-space : goal.insert-requires-clause-space
insert-requires-clause-space c =
    has_space c.args.arena.now.slots c.args.root c.args.marks.now c.args.gap c.args.left c.requires.tree c.requires.gap c.requires.after c.requires.before

pub returns-clause-gap : goal.returns-clause-gap
returns-clause-gap c =
    subst (λ (next : ℕ). IsGap c.args.arena.now.slots c.args.root c.insert.new.self (record { next = next; from = c.args.left; to = c.args.gap.to })) (omega arith)
    (gap_filled c.args.arena.now.slots c.args.root c.args.n c.args.marks.now c.insert.new.self c.args.gap c.args.left c.requires.gap c.requires.after c.requires.before c.requires.begins
    c.in_ok-insert.ensures.ok)
