use Rattle.std.proofs.Common.{All, sym, subst, arith}
use Rattle.ve_repair.specs.Reader.{Reading, IsPaid, IsPaidOrOne}
use Rattle.ve_repair.specs.Writes.{NamesLive}
use Rattle.ve_repair.proofs.PartLemmas.{part_steps}
use Rattle.ve_repair.proofs.RelinkedLemmas.{live, tree_after, numbers_after, all_steps, made_steps, steps_undone, steps_done, as_carried, freed_of, gone_live, gone_apart}
use Rattle.ve_repair.proofs.SceneLemmas.{can_plan, all_lead, cut_live, cut_apart, place_within}
use Rattle.ve_repair.proofs.SceneOfLemmas.{scene_of, of_ok, of_err, on_err, may_read_slice, made_first, piece_of_slice, part_of_slice}
use Rattle.ve_repair.proofs.assembly.relink_nodes.Goals as goal

pub overflow_sub-range : goal.overflow_sub-range
overflow_sub-range g c =
    place_within c.args.arena.now.slots c.args.root c.args.list.now.items c.args.tx.now c.args.range c.args.begun.start c.args.begun.plan.stacks c.args.begun.sizes
    (scene_of c.args.arena.now.slots c.args.root c.args.list.now.items c.args.tx.now c.args.range c.args.begun.start c.args.begun.plan.stacks c.args.begun.sizes c.requires.tree c.requires.applies c.requires.lawful c.ops-ops.ensures.normal c.requires.range c.requires.start)

pub read_all-read-requires : goal.read_all-read-requires
read_all-read-requires g c = record {
  reads =
      may_read_slice c.args.arena.now.slots c.args.root c.args.list.now.items c.args.tx.now c.args.range c.args.begun.start c.args.begun.plan.stacks c.args.begun.sizes
      (scene_of c.args.arena.now.slots c.args.root c.args.list.now.items c.args.tx.now c.args.range c.args.begun.start c.args.begun.plan.stacks c.args.begun.sizes c.requires.tree c.requires.applies c.requires.lawful c.ops-ops.ensures.normal c.requires.range c.requires.start)
      c.new-reader.result c.ops-ops.result.now c.new-reader.ensures c.ops-ops.ensures.ops;
}

pub undone-requires : goal.undone-requires
undone-requires g c = record {
  made = record {
    before = c.args.arena.now.slots;
    made = (made_first c.args.arena.now.slots c.args.root c.args.list.now.items c.args.tx.now c.args.range c.args.begun.start c.args.begun.plan.stacks c.args.begun.sizes (scene_of c.args.arena.now.slots c.args.root c.args.list.now.items c.args.tx.now c.args.range c.args.begun.start c.args.begun.plan.stacks c.args.begun.sizes c.requires.tree c.requires.applies c.requires.lawful c.ops-ops.ensures.normal c.requires.range c.requires.start) c.read_all-read.new.arena.slots c.new-reader.result c.read_all-read.new.reader c.new-reader.ensures c.read_all-read.ensures.made);
  };
}

pub returns-then-is_err-clause-kept : goal.returns-then-is_err-clause-kept
returns-then-is_err-clause-kept g c =
    on_err c.undone.result _ (c.undone.ensures.same c.args.arena.now.slots (made_first c.args.arena.now.slots c.args.root c.args.list.now.items c.args.tx.now c.args.range c.args.begun.start c.args.begun.plan.stacks c.args.begun.sizes (scene_of c.args.arena.now.slots c.args.root c.args.list.now.items c.args.tx.now c.args.range c.args.begun.start c.args.begun.plan.stacks c.args.begun.sizes c.requires.tree c.requires.applies c.requires.lawful c.ops-ops.ensures.normal c.requires.range c.requires.start) c.read_all-read.new.arena.slots c.new-reader.result c.read_all-read.new.reader c.new-reader.ensures c.read_all-read.ensures.made))

pub returns-then-is_err-clause-counted : goal.returns-then-is_err-clause-counted
returns-then-is_err-clause-counted g c =
    let paid = (subst (λ (x : Reading). IsPaidOrOne c.args.steps.now x.script c.read_all-read.new.steps c.read_all-read.new.reader.script) c.new-reader.ensures (of_err c.read_all-read.result _ (sym c.if-is_err.ensures.value) c.read_all-read.ensures.at_most)) in
    omega (arith, paid.1, c.undone.ensures.steps)

pub returns-then-is_err-clause-steps : goal.returns-then-is_err-clause-steps
returns-then-is_err-clause-steps g c = λ values.
    let paid = (subst (λ (x : Reading). IsPaidOrOne c.args.steps.now x.script c.read_all-read.new.steps c.read_all-read.new.reader.script) c.new-reader.ensures (of_err c.read_all-read.result _ (sym c.if-is_err.ensures.value) c.read_all-read.ensures.at_most)) in
    let few = part_steps c.args.arena.now.slots c.args.root c.args.list.now.items c.args.tx.now c.args.range c.args.begun.start c.args.begun.plan.stacks c.args.begun.sizes
    (scene_of c.args.arena.now.slots c.args.root c.args.list.now.items c.args.tx.now c.args.range c.args.begun.start c.args.begun.plan.stacks c.args.begun.sizes c.requires.tree c.requires.applies c.requires.lawful c.ops-ops.ensures.normal c.requires.range c.requires.start)
    c.read_all-read.new.reader.script
    (part_of_slice c.args.arena.now.slots c.args.root c.args.list.now.items c.args.tx.now c.args.range c.args.begun.start c.args.begun.plan.stacks c.args.begun.sizes
    (scene_of c.args.arena.now.slots c.args.root c.args.list.now.items c.args.tx.now c.args.range c.args.begun.start c.args.begun.plan.stacks c.args.begun.sizes c.requires.tree c.requires.applies c.requires.lawful c.ops-ops.ensures.normal c.requires.range c.requires.start)
    c.new-reader.result c.read_all-read.new.reader.script c.ops-ops.result.now c.new-reader.ensures c.ops-ops.ensures.ops
    (of_err c.read_all-read.result _ (sym c.if-is_err.ensures.value) c.read_all-read.ensures.part)) values in
    steps_undone c.args.steps.now c.read_all-read.new.steps c.undone.new.steps _ c.read_all-read.new.reader.script few (let one = paid.0 in omega (arith, one)) c.undone.ensures.steps

pub planned-requires-clause-can : goal.planned-requires-clause-can
planned-requires-clause-can g c =
    can_plan c.args.arena.now.slots c.args.root c.args.list.now.items c.args.tx.now c.args.range c.args.begun.start c.args.begun.plan.stacks c.args.begun.sizes
    (scene_of c.args.arena.now.slots c.args.root c.args.list.now.items c.args.tx.now c.args.range c.args.begun.start c.args.begun.plan.stacks c.args.begun.sizes c.requires.tree c.requires.applies c.requires.lawful c.ops-ops.ensures.normal c.requires.range c.requires.start)
    c.read_all-read.new.arena.slots c.read_all-read.new.reader
    (piece_of_slice c.args.arena.now.slots c.args.root c.args.list.now.items c.args.tx.now c.args.range c.args.begun.start c.args.begun.plan.stacks c.args.begun.sizes
    (scene_of c.args.arena.now.slots c.args.root c.args.list.now.items c.args.tx.now c.args.range c.args.begun.start c.args.begun.plan.stacks c.args.begun.sizes c.requires.tree c.requires.applies c.requires.lawful c.ops-ops.ensures.normal c.requires.range c.requires.start)
    c.read_all-read.new.arena.slots c.new-reader.result c.read_all-read.new.reader c.ops-ops.result.now c.new-reader.ensures c.ops-ops.ensures.ops
    (of_ok c.read_all-read.result _ (sym c.if-is_err.ensures.value) c.read_all-read.ensures.read))
    (made_first c.args.arena.now.slots c.args.root c.args.list.now.items c.args.tx.now c.args.range c.args.begun.start c.args.begun.plan.stacks c.args.begun.sizes (scene_of c.args.arena.now.slots c.args.root c.args.list.now.items c.args.tx.now c.args.range c.args.begun.start c.args.begun.plan.stacks c.args.begun.sizes c.requires.tree c.requires.applies c.requires.lawful c.ops-ops.ensures.normal c.requires.range c.requires.start) c.read_all-read.new.arena.slots c.new-reader.result c.read_all-read.new.reader c.new-reader.ensures c.read_all-read.ensures.made)

pub undone-requires-in_default : goal.undone-requires-in_default
undone-requires-in_default g c = record {
  made = record {
    before = c.args.arena.now.slots;
    made = (made_first c.args.arena.now.slots c.args.root c.args.list.now.items c.args.tx.now c.args.range c.args.begun.start c.args.begun.plan.stacks c.args.begun.sizes (scene_of c.args.arena.now.slots c.args.root c.args.list.now.items c.args.tx.now c.args.range c.args.begun.start c.args.begun.plan.stacks c.args.begun.sizes c.requires.tree c.requires.applies c.requires.lawful c.ops-ops.ensures.normal c.requires.range c.requires.start) c.read_all-read.new.arena.slots c.new-reader.result c.read_all-read.new.reader c.new-reader.ensures c.read_all-read.ensures.made);
  };
}

pub returns-in_default-clause-kept : goal.returns-in_default-clause-kept
returns-in_default-clause-kept g c =
    on_err c.undone-in_default.result _ (c.undone-in_default.ensures.same c.args.arena.now.slots (made_first c.args.arena.now.slots c.args.root c.args.list.now.items c.args.tx.now c.args.range c.args.begun.start c.args.begun.plan.stacks c.args.begun.sizes (scene_of c.args.arena.now.slots c.args.root c.args.list.now.items c.args.tx.now c.args.range c.args.begun.start c.args.begun.plan.stacks c.args.begun.sizes c.requires.tree c.requires.applies c.requires.lawful c.ops-ops.ensures.normal c.requires.range c.requires.start) c.read_all-read.new.arena.slots c.new-reader.result c.read_all-read.new.reader c.new-reader.ensures c.read_all-read.ensures.made))

pub returns-in_default-clause-steps : goal.returns-in_default-clause-steps
returns-in_default-clause-steps g c = λ values.
    let paid = (subst (λ (x : Reading). IsPaid c.args.steps.now x.script c.read_all-read.new.steps c.read_all-read.new.reader.script) c.new-reader.ensures (of_ok c.read_all-read.result _ (sym c.if-is_err.ensures.value) c.read_all-read.ensures.paid)) in
    let few = made_steps c.args.arena.now.slots c.args.root c.args.list.now.items c.args.tx.now c.args.range c.args.begun.start c.args.begun.plan.stacks c.args.begun.sizes
    (scene_of c.args.arena.now.slots c.args.root c.args.list.now.items c.args.tx.now c.args.range c.args.begun.start c.args.begun.plan.stacks c.args.begun.sizes c.requires.tree c.requires.applies c.requires.lawful c.ops-ops.ensures.normal c.requires.range c.requires.start)
    c.read_all-read.new.arena.slots c.read_all-read.new.reader
    (piece_of_slice c.args.arena.now.slots c.args.root c.args.list.now.items c.args.tx.now c.args.range c.args.begun.start c.args.begun.plan.stacks c.args.begun.sizes
    (scene_of c.args.arena.now.slots c.args.root c.args.list.now.items c.args.tx.now c.args.range c.args.begun.start c.args.begun.plan.stacks c.args.begun.sizes c.requires.tree c.requires.applies c.requires.lawful c.ops-ops.ensures.normal c.requires.range c.requires.start)
    c.read_all-read.new.arena.slots c.new-reader.result c.read_all-read.new.reader c.ops-ops.result.now c.new-reader.ensures c.ops-ops.ensures.ops
    (of_ok c.read_all-read.result _ (sym c.if-is_err.ensures.value) c.read_all-read.ensures.read))
    (made_first c.args.arena.now.slots c.args.root c.args.list.now.items c.args.tx.now c.args.range c.args.begun.start c.args.begun.plan.stacks c.args.begun.sizes (scene_of c.args.arena.now.slots c.args.root c.args.list.now.items c.args.tx.now c.args.range c.args.begun.start c.args.begun.plan.stacks c.args.begun.sizes c.requires.tree c.requires.applies c.requires.lawful c.ops-ops.ensures.normal c.requires.range c.requires.start) c.read_all-read.new.arena.slots c.new-reader.result c.read_all-read.new.reader c.new-reader.ensures c.read_all-read.ensures.made) values in
    steps_undone c.args.steps.now c.read_all-read.new.steps c.undone-in_default.new.steps _ c.read_all-read.new.reader.script few (omega (arith, paid)) c.undone-in_default.ensures.steps

pub carry_out-requires-clause-live : goal.carry_out-requires-clause-live
carry_out-requires-clause-live g c =
    subst (All (NamesLive c.read_all-read.new.arena.slots)) (sym c.as_slice.ensures.value)
    (live c.args.arena.now.slots c.args.root c.args.list.now.items c.args.tx.now c.args.range c.args.begun.start c.args.begun.plan.stacks c.args.begun.sizes
    (scene_of c.args.arena.now.slots c.args.root c.args.list.now.items c.args.tx.now c.args.range c.args.begun.start c.args.begun.plan.stacks c.args.begun.sizes c.requires.tree c.requires.applies c.requires.lawful c.ops-ops.ensures.normal c.requires.range c.requires.start)
    c.read_all-read.new.arena.slots c.read_all-read.new.reader
    (piece_of_slice c.args.arena.now.slots c.args.root c.args.list.now.items c.args.tx.now c.args.range c.args.begun.start c.args.begun.plan.stacks c.args.begun.sizes
    (scene_of c.args.arena.now.slots c.args.root c.args.list.now.items c.args.tx.now c.args.range c.args.begun.start c.args.begun.plan.stacks c.args.begun.sizes c.requires.tree c.requires.applies c.requires.lawful c.ops-ops.ensures.normal c.requires.range c.requires.start)
    c.read_all-read.new.arena.slots c.new-reader.result c.read_all-read.new.reader c.ops-ops.result.now c.new-reader.ensures c.ops-ops.ensures.ops
    (of_ok c.read_all-read.result _ (sym c.if-is_err.ensures.value) c.read_all-read.ensures.read))
    (made_first c.args.arena.now.slots c.args.root c.args.list.now.items c.args.tx.now c.args.range c.args.begun.start c.args.begun.plan.stacks c.args.begun.sizes (scene_of c.args.arena.now.slots c.args.root c.args.list.now.items c.args.tx.now c.args.range c.args.begun.start c.args.begun.plan.stacks c.args.begun.sizes c.requires.tree c.requires.applies c.requires.lawful c.ops-ops.ensures.normal c.requires.range c.requires.start) c.read_all-read.new.arena.slots c.new-reader.result c.read_all-read.new.reader c.new-reader.ensures c.read_all-read.ensures.made)
    c.in-Ok.writes.items c.in-Ok.ensures)

pub carry_out-requires-clause-leads : goal.carry_out-requires-clause-leads
carry_out-requires-clause-leads g c =
    all_lead c.args.arena.now.slots c.args.root c.args.list.now.items c.args.tx.now c.args.range c.args.begun.start c.args.begun.plan.stacks c.args.begun.sizes
    (scene_of c.args.arena.now.slots c.args.root c.args.list.now.items c.args.tx.now c.args.range c.args.begun.start c.args.begun.plan.stacks c.args.begun.sizes c.requires.tree c.requires.applies c.requires.lawful c.ops-ops.ensures.normal c.requires.range c.requires.start)
    c.read_all-read.new.arena.slots c.read_all-read.new.reader
    (piece_of_slice c.args.arena.now.slots c.args.root c.args.list.now.items c.args.tx.now c.args.range c.args.begun.start c.args.begun.plan.stacks c.args.begun.sizes
    (scene_of c.args.arena.now.slots c.args.root c.args.list.now.items c.args.tx.now c.args.range c.args.begun.start c.args.begun.plan.stacks c.args.begun.sizes c.requires.tree c.requires.applies c.requires.lawful c.ops-ops.ensures.normal c.requires.range c.requires.start)
    c.read_all-read.new.arena.slots c.new-reader.result c.read_all-read.new.reader c.ops-ops.result.now c.new-reader.ensures c.ops-ops.ensures.ops
    (of_ok c.read_all-read.result _ (sym c.if-is_err.ensures.value) c.read_all-read.ensures.read))
    (made_first c.args.arena.now.slots c.args.root c.args.list.now.items c.args.tx.now c.args.range c.args.begun.start c.args.begun.plan.stacks c.args.begun.sizes (scene_of c.args.arena.now.slots c.args.root c.args.list.now.items c.args.tx.now c.args.range c.args.begun.start c.args.begun.plan.stacks c.args.begun.sizes c.requires.tree c.requires.applies c.requires.lawful c.ops-ops.ensures.normal c.requires.range c.requires.start) c.read_all-read.new.arena.slots c.new-reader.result c.read_all-read.new.reader c.new-reader.ensures c.read_all-read.ensures.made)

pub free_nodes-requires-clause-live : goal.free_nodes-requires-clause-live
free_nodes-requires-clause-live g c =
    gone_live c.read_all-read.new.arena.slots c.carry_out.new.arena.slots c.read_all-read.new.reader.script c.script.result.now c.script.ensures c.carry_out.ensures.carried.live
    (cut_live c.args.arena.now.slots c.args.root c.args.list.now.items c.args.tx.now c.args.range c.args.begun.start c.args.begun.plan.stacks c.args.begun.sizes
    (scene_of c.args.arena.now.slots c.args.root c.args.list.now.items c.args.tx.now c.args.range c.args.begun.start c.args.begun.plan.stacks c.args.begun.sizes c.requires.tree c.requires.applies c.requires.lawful c.ops-ops.ensures.normal c.requires.range c.requires.start)
    c.read_all-read.new.arena.slots c.read_all-read.new.reader
    (piece_of_slice c.args.arena.now.slots c.args.root c.args.list.now.items c.args.tx.now c.args.range c.args.begun.start c.args.begun.plan.stacks c.args.begun.sizes
    (scene_of c.args.arena.now.slots c.args.root c.args.list.now.items c.args.tx.now c.args.range c.args.begun.start c.args.begun.plan.stacks c.args.begun.sizes c.requires.tree c.requires.applies c.requires.lawful c.ops-ops.ensures.normal c.requires.range c.requires.start)
    c.read_all-read.new.arena.slots c.new-reader.result c.read_all-read.new.reader c.ops-ops.result.now c.new-reader.ensures c.ops-ops.ensures.ops
    (of_ok c.read_all-read.result _ (sym c.if-is_err.ensures.value) c.read_all-read.ensures.read))
    (made_first c.args.arena.now.slots c.args.root c.args.list.now.items c.args.tx.now c.args.range c.args.begun.start c.args.begun.plan.stacks c.args.begun.sizes (scene_of c.args.arena.now.slots c.args.root c.args.list.now.items c.args.tx.now c.args.range c.args.begun.start c.args.begun.plan.stacks c.args.begun.sizes c.requires.tree c.requires.applies c.requires.lawful c.ops-ops.ensures.normal c.requires.range c.requires.start) c.read_all-read.new.arena.slots c.new-reader.result c.read_all-read.new.reader c.new-reader.ensures c.read_all-read.ensures.made))

pub free_nodes-requires-clause-apart : goal.free_nodes-requires-clause-apart
free_nodes-requires-clause-apart g c =
    gone_apart c.read_all-read.new.reader.script c.script.result.now c.script.ensures
    (cut_apart c.args.arena.now.slots c.args.root c.args.list.now.items c.args.tx.now c.args.range c.args.begun.start c.args.begun.plan.stacks c.args.begun.sizes
    (scene_of c.args.arena.now.slots c.args.root c.args.list.now.items c.args.tx.now c.args.range c.args.begun.start c.args.begun.plan.stacks c.args.begun.sizes c.requires.tree c.requires.applies c.requires.lawful c.ops-ops.ensures.normal c.requires.range c.requires.start)
    c.read_all-read.new.arena.slots c.read_all-read.new.reader
    (piece_of_slice c.args.arena.now.slots c.args.root c.args.list.now.items c.args.tx.now c.args.range c.args.begun.start c.args.begun.plan.stacks c.args.begun.sizes
    (scene_of c.args.arena.now.slots c.args.root c.args.list.now.items c.args.tx.now c.args.range c.args.begun.start c.args.begun.plan.stacks c.args.begun.sizes c.requires.tree c.requires.applies c.requires.lawful c.ops-ops.ensures.normal c.requires.range c.requires.start)
    c.read_all-read.new.arena.slots c.new-reader.result c.read_all-read.new.reader c.ops-ops.result.now c.new-reader.ensures c.ops-ops.ensures.ops
    (of_ok c.read_all-read.result _ (sym c.if-is_err.ensures.value) c.read_all-read.ensures.read))
    (made_first c.args.arena.now.slots c.args.root c.args.list.now.items c.args.tx.now c.args.range c.args.begun.start c.args.begun.plan.stacks c.args.begun.sizes (scene_of c.args.arena.now.slots c.args.root c.args.list.now.items c.args.tx.now c.args.range c.args.begun.start c.args.begun.plan.stacks c.args.begun.sizes c.requires.tree c.requires.applies c.requires.lawful c.ops-ops.ensures.normal c.requires.range c.requires.start) c.read_all-read.new.arena.slots c.new-reader.result c.read_all-read.new.reader c.new-reader.ensures c.read_all-read.ensures.made))

pub returns-clause-links : goal.returns-clause-links
returns-clause-links g c =
    tree_after c.args.arena.now.slots c.args.root c.args.list.now.items c.args.tx.now c.args.range c.args.begun.start c.args.begun.plan.stacks c.args.begun.sizes
    (scene_of c.args.arena.now.slots c.args.root c.args.list.now.items c.args.tx.now c.args.range c.args.begun.start c.args.begun.plan.stacks c.args.begun.sizes c.requires.tree c.requires.applies c.requires.lawful c.ops-ops.ensures.normal c.requires.range c.requires.start)
    c.read_all-read.new.arena.slots c.read_all-read.new.reader
    (piece_of_slice c.args.arena.now.slots c.args.root c.args.list.now.items c.args.tx.now c.args.range c.args.begun.start c.args.begun.plan.stacks c.args.begun.sizes
    (scene_of c.args.arena.now.slots c.args.root c.args.list.now.items c.args.tx.now c.args.range c.args.begun.start c.args.begun.plan.stacks c.args.begun.sizes c.requires.tree c.requires.applies c.requires.lawful c.ops-ops.ensures.normal c.requires.range c.requires.start)
    c.read_all-read.new.arena.slots c.new-reader.result c.read_all-read.new.reader c.ops-ops.result.now c.new-reader.ensures c.ops-ops.ensures.ops
    (of_ok c.read_all-read.result _ (sym c.if-is_err.ensures.value) c.read_all-read.ensures.read))
    (made_first c.args.arena.now.slots c.args.root c.args.list.now.items c.args.tx.now c.args.range c.args.begun.start c.args.begun.plan.stacks c.args.begun.sizes (scene_of c.args.arena.now.slots c.args.root c.args.list.now.items c.args.tx.now c.args.range c.args.begun.start c.args.begun.plan.stacks c.args.begun.sizes c.requires.tree c.requires.applies c.requires.lawful c.ops-ops.ensures.normal c.requires.range c.requires.start) c.read_all-read.new.arena.slots c.new-reader.result c.read_all-read.new.reader c.new-reader.ensures c.read_all-read.ensures.made)
    c.in-Ok.writes.items c.in-Ok.ensures c.carry_out.new.arena.slots c.free_nodes.new.arena.slots
    (as_carried c.read_all-read.new.arena.slots c.carry_out.new.arena.slots c.as_slice.result.now c.in-Ok.writes.items c.as_slice.ensures.value c.carry_out.ensures.carried)
    (freed_of c.carry_out.new.arena.slots c.free_nodes.new.arena.slots c.read_all-read.new.reader.script c.script.result.now c.script.ensures c.free_nodes.ensures.freed)

pub returns-clause-numbers : goal.returns-clause-numbers
returns-clause-numbers g c =
    numbers_after c.args.arena.now.slots c.args.root c.args.list.now.items c.args.tx.now c.args.range c.args.begun.start c.args.begun.plan.stacks c.args.begun.sizes
    (scene_of c.args.arena.now.slots c.args.root c.args.list.now.items c.args.tx.now c.args.range c.args.begun.start c.args.begun.plan.stacks c.args.begun.sizes c.requires.tree c.requires.applies c.requires.lawful c.ops-ops.ensures.normal c.requires.range c.requires.start)
    c.read_all-read.new.arena.slots c.read_all-read.new.reader
    (piece_of_slice c.args.arena.now.slots c.args.root c.args.list.now.items c.args.tx.now c.args.range c.args.begun.start c.args.begun.plan.stacks c.args.begun.sizes
    (scene_of c.args.arena.now.slots c.args.root c.args.list.now.items c.args.tx.now c.args.range c.args.begun.start c.args.begun.plan.stacks c.args.begun.sizes c.requires.tree c.requires.applies c.requires.lawful c.ops-ops.ensures.normal c.requires.range c.requires.start)
    c.read_all-read.new.arena.slots c.new-reader.result c.read_all-read.new.reader c.ops-ops.result.now c.new-reader.ensures c.ops-ops.ensures.ops
    (of_ok c.read_all-read.result _ (sym c.if-is_err.ensures.value) c.read_all-read.ensures.read))
    (made_first c.args.arena.now.slots c.args.root c.args.list.now.items c.args.tx.now c.args.range c.args.begun.start c.args.begun.plan.stacks c.args.begun.sizes (scene_of c.args.arena.now.slots c.args.root c.args.list.now.items c.args.tx.now c.args.range c.args.begun.start c.args.begun.plan.stacks c.args.begun.sizes c.requires.tree c.requires.applies c.requires.lawful c.ops-ops.ensures.normal c.requires.range c.requires.start) c.read_all-read.new.arena.slots c.new-reader.result c.read_all-read.new.reader c.new-reader.ensures c.read_all-read.ensures.made)
    c.in-Ok.writes.items c.in-Ok.ensures c.carry_out.new.arena.slots c.free_nodes.new.arena.slots
    (as_carried c.read_all-read.new.arena.slots c.carry_out.new.arena.slots c.as_slice.result.now c.in-Ok.writes.items c.as_slice.ensures.value c.carry_out.ensures.carried)
    (freed_of c.carry_out.new.arena.slots c.free_nodes.new.arena.slots c.read_all-read.new.reader.script c.script.result.now c.script.ensures c.free_nodes.ensures.freed)

pub returns-clause-steps : goal.returns-clause-steps
returns-clause-steps g c = λ values.
    let paid = (subst (λ (x : Reading). IsPaid c.args.steps.now x.script c.read_all-read.new.steps c.read_all-read.new.reader.script) c.new-reader.ensures (of_ok c.read_all-read.result _ (sym c.if-is_err.ensures.value) c.read_all-read.ensures.paid)) in
    let few = all_steps c.args.arena.now.slots c.args.root c.args.list.now.items c.args.tx.now c.args.range c.args.begun.start c.args.begun.plan.stacks c.args.begun.sizes
    (scene_of c.args.arena.now.slots c.args.root c.args.list.now.items c.args.tx.now c.args.range c.args.begun.start c.args.begun.plan.stacks c.args.begun.sizes c.requires.tree c.requires.applies c.requires.lawful c.ops-ops.ensures.normal c.requires.range c.requires.start)
    c.read_all-read.new.arena.slots c.read_all-read.new.reader
    (piece_of_slice c.args.arena.now.slots c.args.root c.args.list.now.items c.args.tx.now c.args.range c.args.begun.start c.args.begun.plan.stacks c.args.begun.sizes
    (scene_of c.args.arena.now.slots c.args.root c.args.list.now.items c.args.tx.now c.args.range c.args.begun.start c.args.begun.plan.stacks c.args.begun.sizes c.requires.tree c.requires.applies c.requires.lawful c.ops-ops.ensures.normal c.requires.range c.requires.start)
    c.read_all-read.new.arena.slots c.new-reader.result c.read_all-read.new.reader c.ops-ops.result.now c.new-reader.ensures c.ops-ops.ensures.ops
    (of_ok c.read_all-read.result _ (sym c.if-is_err.ensures.value) c.read_all-read.ensures.read))
    (made_first c.args.arena.now.slots c.args.root c.args.list.now.items c.args.tx.now c.args.range c.args.begun.start c.args.begun.plan.stacks c.args.begun.sizes (scene_of c.args.arena.now.slots c.args.root c.args.list.now.items c.args.tx.now c.args.range c.args.begun.start c.args.begun.plan.stacks c.args.begun.sizes c.requires.tree c.requires.applies c.requires.lawful c.ops-ops.ensures.normal c.requires.range c.requires.start) c.read_all-read.new.arena.slots c.new-reader.result c.read_all-read.new.reader c.new-reader.ensures c.read_all-read.ensures.made)
    c.in-Ok.writes.items c.in-Ok.ensures values in
    steps_done c.args.steps.now c.read_all-read.new.steps c.carry_out.new.steps c.free_nodes.new.steps _ c.in-Ok.writes.items c.as_slice.result.now c.read_all-read.new.reader.script c.script.result.now
    c.as_slice.ensures.value c.script.ensures few paid c.carry_out.ensures.steps c.free_nodes.ensures.steps
