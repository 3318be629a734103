use Rattle.std.proofs.Common.{sym, subst, refl, arith}
use Rattle.ve_arena.specs.Arena.{ArenaView}
use Rattle.ve_repair.specs.Range.{KeepItems, IsChangedRange}
use Rattle.ve_tree.specs.IsTree.{unvalued}
use Rattle.ve_repair.specs.Change.{new_list}
use Rattle.ve_repair.specs.Kept.{KeepsNumbers}
use Rattle.ve_repair.proofs.ChangeLemmas.{sizes_within}
use Rattle.ve_repair.proofs.UnchangedLemmas.{keeps_numbers}
use Rattle.ve_repair.proofs.MendingLemmas.{may_follow, from_within, to_fits, len_fits, kept_tree, tree_of_after, on_err}
use Rattle.ve_repair.proofs.mending.relink.Goals as goal

pub changed_range-requires : goal.changed_range-requires
changed_range-requires g c = record { fits = sizes_within c.args.tx.now c.ops.result.now c.ops.ensures.ops c.ops.ensures.normal }

pub returns-in_default-clause-tree : goal.returns-in_default-clause-tree
returns-in_default-clause-tree g c =
    tree_of_after c.args.tree.now c.args.tx.now c.args.list.now.items (subst KeepItems c.ops.ensures.ops c.in_default.ensures.none) c.requires.tree

pub returns-in_default-clause-numbers : goal.returns-in_default-clause-numbers
returns-in_default-clause-numbers g c =
    keeps_numbers c.args.tree.now.arena.slots c.args.tree.now.root c.args.tx.now c.args.list.now.items (subst KeepItems c.ops.ensures.ops c.in_default.ensures.none)

pub start_at-requires-clause-place : goal.start_at-requires-clause-place
start_at-requires-clause-place g c = record {
  items = unvalued c.args.list.now.items;
  tree_of = c.requires.tree;
  within = from_within c.args.tx.now c.args.list.now.items c.in-Some.range c.requires.applies c.ops.ensures.normal (subst (λ l. IsChangedRange l c.in-Some.range) c.ops.ensures.ops c.in-Some.ensures.some);
}

pub returns-in_err-relink_nodes-clause-kept : goal.returns-in_err-relink_nodes-clause-kept
returns-in_err-relink_nodes-clause-kept g c =
    on_err c.from_residual-in_err-relink_nodes.result _ (λ others. kept_tree c.args.tree.now _ others c.in_err-relink_nodes.ensures.kept refl refl)

pub returns-in_err-relink_nodes-clause-same : goal.returns-in_err-relink_nodes-clause-same
returns-in_err-relink_nodes-clause-same g c = on_err c.from_residual-in_err-relink_nodes.result _ c.in_err-relink_nodes.ensures.kept

pub overflow_add-range : goal.overflow_add-range
overflow_add-range g c =
    let fits = to_fits c.args.tx.now c.args.list.now.items c.in-Some.range c.requires.applies c.ops.ensures.normal
    (subst (λ l. IsChangedRange l c.in-Some.range) c.ops.ensures.ops c.in-Some.ensures.some) in
    omega (arith, fits)

pub overflow_add-range-2 : goal.overflow_add-range-2
overflow_add-range-2 g c =
    let fits = len_fits c.args.tx.now c.in-Some.range c.ops.ensures.normal (subst (λ l. IsChangedRange l c.in-Some.range) c.ops.ensures.ops c.in-Some.ensures.some) in
    omega (arith, fits)

pub follow-requires-clause-tree : goal.follow-requires-clause-tree
follow-requires-clause-tree g c = record {
  items = new_list c.requires.applies.values c.args.tx.now c.args.list.now.items;
  tree = c.in_ok-relink_nodes.ensures.links c.requires.applies.values;
}

pub follow-requires-clause-may : goal.follow-requires-clause-may
follow-requires-clause-may g c =
    may_follow c.args.tree.now.arena.slots c.relink_nodes.new.arena.slots c.args.tree.now.root c.args.tx.now c.args.list.now.items c.in-Some.range c.args.tree.now.landmarks c.requires.applies
    c.ops.ensures.normal (subst (λ l. IsChangedRange l c.in-Some.range) c.ops.ensures.ops c.in-Some.ensures.some) c.requires.tree.links
    c.in_ok-relink_nodes.ensures.links c.in_ok-relink_nodes.ensures.numbers c.requires.tree.landmarks

pub returns-clause-tree : goal.returns-clause-tree
returns-clause-tree g c = λ values.
    c.follow.ensures.tree (new_list values c.args.tx.now c.args.list.now.items) (c.in_ok-relink_nodes.ensures.links values)

pub returns-clause-numbers : goal.returns-clause-numbers
returns-clause-numbers g c =
    subst (λ (arena : ArenaView). KeepsNumbers c.args.tree.now.arena.slots arena.slots c.args.tree.now.root c.args.tx.now c.args.list.now.items) (sym c.follow.ensures.arena)
    c.in_ok-relink_nodes.ensures.numbers
