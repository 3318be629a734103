use Rattle.std.proofs.Common.{◌+◌, length, None, Some, ap, arith}
use Rattle.ve_tx.proofs.ValuesLemmas.{extends_on}
use Rattle.ve_tx.proofs.StageLemmas.{stage-same, list-counts, stage-first, stage-listed, stage-cites, stage-below, stage-opening, stage-all, stage-passes, stage-retain, stage-replace, stage-long, stage-inside, stage-allowed, stage-attribute}
use Rattle.ve_tx.proofs.making.new_splices.Goals.{in-Retain+in_ok-settle-in-Retain, in-Replace+in_ok-items-in-Replace+in_ok-push-in-Replace, in-Attribute+in_ok-present-in-Attribute+in_ok-next-in-Attribute}
use Rattle.ve_tx.proofs.making.new_splices.Goals as goal

pub loop-i-init : goal.loop-i-init
loop-i-init c = stage-first c.args.store.now c.args.ops.now c.args.kept.now c.args.list.now.items c.requires.list c.requires.cites c.requires.normal c.requires.applies c.new-splices.result.items c.new-splices.ensures.items

pub settle-requires-clause-list : goal.settle-requires-clause-list
settle-requires-clause-list c = stage-listed c.args.store.now c.args.ops.now c.args.kept.now c.args.list.now.items c.requires.list c.requires.cites c.requires.normal c.requires.applies
    c.loop-i.store c.loop-i.splices.items c.loop-i.at c.loop-i.head c.loop-i.i c.loop-i.invariant

pub settle-requires-clause-within : goal.settle-requires-clause-within
settle-requires-clause-within c = stage-below c.args.store.now c.args.ops.now c.args.kept.now c.args.list.now.items c.requires.list c.requires.cites c.requires.normal c.requires.applies
    c.loop-i.store c.loop-i.splices.items c.loop-i.at c.loop-i.head c.loop-i.i c.loop-i.invariant

pub settle-requires-clause-opening : goal.settle-requires-clause-opening
settle-requires-clause-opening c = stage-opening c.args.store.now c.args.ops.now c.args.kept.now c.args.list.now.items c.requires.list c.requires.cites c.requires.normal c.requires.applies
    c.loop-i.store c.loop-i.splices.items c.loop-i.at c.loop-i.head c.loop-i.i c.loop-i.invariant

pub returns-in_err-settle-in-Retain-clause-extends : goal.returns-in_err-settle-in-Retain-clause-extends
returns-in_err-settle-in-Retain-clause-extends c =
    extends_on c.args.store.now c.loop-i.store c.settle.new.store c.loop-i.invariant.made.extends c.in_err-settle-in-Retain.ensures.extends

pub overflow_add-at : goal.overflow_add-at
overflow_add-at c =
    let many = list-counts c.args.store.now c.args.ops.now c.args.kept.now c.args.list.now.items c.requires.list c.requires.cites c.requires.normal c.requires.applies in
    let long = stage-passes c.args.store.now c.args.ops.now c.args.kept.now c.args.list.now.items c.requires.list c.requires.cites c.requires.normal c.requires.applies
    c.loop-i.store c.loop-i.splices.items c.loop-i.at c.loop-i.head c.loop-i.i c.loop-i.invariant
    c.index-ops-i.result c.loop-i-test.true c.index-ops-i.is c.in-Retain.count c.in-Retain.is in
    omega arith

pub overflow_add-at-in-Replace : goal.overflow_add-at-in-Replace
overflow_add-at-in-Replace c =
    let many = list-counts c.args.store.now c.args.ops.now c.args.kept.now c.args.list.now.items c.requires.list c.requires.cites c.requires.normal c.requires.applies in
    let long = stage-long c.args.store.now c.args.ops.now c.args.kept.now c.args.list.now.items c.requires.list c.requires.cites c.requires.normal c.requires.applies
    c.loop-i.store c.loop-i.splices.items c.loop-i.at c.loop-i.head c.loop-i.i c.loop-i.invariant
    c.index-ops-i.result c.loop-i-test.true c.index-ops-i.is c.in-Replace.removed c.in-Replace.inserted (length c.as_slice-removed.result.now) c.in-Replace.is (ap length c.as_slice-removed.ensures) in
    omega arith

pub get-requires : goal.get-requires
get-requires c = stage-inside c.args.store.now c.args.ops.now c.args.kept.now c.args.list.now.items c.requires.list c.requires.cites c.requires.normal c.requires.applies
    c.loop-i.store c.loop-i.splices.items c.loop-i.at c.loop-i.head c.loop-i.i c.loop-i.invariant
    c.index-ops-i.result c.loop-i-test.true c.index-ops-i.is c.in-Attribute.name c.in-Attribute.from c.in-Attribute.to c.in-Attribute.is

pub present_head-requires : goal.present_head-requires
present_head-requires c = stage-cites c.args.store.now c.args.ops.now c.args.kept.now c.args.list.now.items c.requires.list c.requires.cites c.requires.normal c.requires.applies
    c.loop-i.store c.loop-i.splices.items c.loop-i.at c.loop-i.head c.loop-i.i c.loop-i.invariant c.get.result c.get.ensures

pub changed-requires-clause-present : goal.changed-requires-clause-present
changed-requires-clause-present c =
    (stage-allowed c.args.store.now c.args.ops.now c.args.kept.now c.args.list.now.items c.requires.list c.requires.cites c.requires.normal c.requires.applies
    c.loop-i.store c.loop-i.splices.items c.loop-i.at c.loop-i.head c.loop-i.i c.loop-i.invariant
    c.index-ops-i.result c.loop-i-test.true c.index-ops-i.is c.in-Attribute.name c.in-Attribute.from c.in-Attribute.to c.get.result c.in_ok-present-in-Attribute.present c.in-Attribute.is c.get.ensures
    c.in_ok-present-in-Attribute.ensures).0

pub changed-requires-clause-free : goal.changed-requires-clause-free
changed-requires-clause-free c =
    (stage-allowed c.args.store.now c.args.ops.now c.args.kept.now c.args.list.now.items c.requires.list c.requires.cites c.requires.normal c.requires.applies
    c.loop-i.store c.loop-i.splices.items c.loop-i.at c.loop-i.head c.loop-i.i c.loop-i.invariant
    c.index-ops-i.result c.loop-i-test.true c.index-ops-i.is c.in-Attribute.name c.in-Attribute.from c.in-Attribute.to c.get.result c.in_ok-present-in-Attribute.present c.in-Attribute.is c.get.ensures
    c.in_ok-present-in-Attribute.ensures).1

pub loop-i-preserved : goal.loop-i-preserved
loop-i-preserved c = elim c.match-ops-i.branch [
  | in-Retain+in_ok-settle-in-Retain w ↦
      stage-same c.args.store.now c.args.ops.now c.args.kept.now c.args.list.now.items w.settle.new.store c.match-ops-i.store w.settle.new.splices.items c.match-ops-i.splices.items (c.loop-i.at + w.in-Retain.count) c.match-ops-i.at None c.match-ops-i.head (c.loop-i.i + 1)
      w.store-is (ap (λ v. v.items) w.splices-is) w.at-is w.head-is
      (stage-retain c.args.store.now c.args.ops.now c.args.kept.now c.args.list.now.items c.requires.list c.requires.cites c.requires.normal c.requires.applies
      c.loop-i.store c.loop-i.splices.items c.loop-i.at c.loop-i.head c.loop-i.i c.loop-i.invariant
      c.index-ops-i.result c.loop-i-test.true c.index-ops-i.is w.in-Retain.count w.settle.new.store w.settle.new.splices.items w.in-Retain.is
      w.in_ok-settle-in-Retain.ensures.extends w.in_ok-settle-in-Retain.ensures.splices w.in_ok-settle-in-Retain.ensures.store)
  | in-Replace+in_ok-items-in-Replace+in_ok-push-in-Replace w ↦
      stage-same c.args.store.now c.args.ops.now c.args.kept.now c.args.list.now.items c.loop-i.store c.match-ops-i.store w.push.new.self.items c.match-ops-i.splices.items (c.loop-i.at + length w.as_slice-removed.result.now) c.match-ops-i.at c.loop-i.head c.match-ops-i.head (c.loop-i.i + 1)
      w.store-is (ap (λ v. v.items) w.splices-is) w.at-is w.head-is
      (stage-replace c.args.store.now c.args.ops.now c.args.kept.now c.args.list.now.items c.requires.list c.requires.cites c.requires.normal c.requires.applies
      c.loop-i.store c.loop-i.splices.items c.loop-i.at c.loop-i.head c.loop-i.i c.loop-i.invariant
      c.index-ops-i.result c.loop-i-test.true c.index-ops-i.is w.in-Replace.removed w.in-Replace.inserted w.in_ok-items-in-Replace.items w.push.new.self.items (length w.as_slice-removed.result.now) w.in-Replace.is
      w.in_ok-items-in-Replace.ensures (ap length w.as_slice-removed.ensures) w.in_ok-push-in-Replace.ensures.items)
  | in-Attribute+in_ok-present-in-Attribute+in_ok-next-in-Attribute w ↦
      stage-same c.args.store.now c.args.ops.now c.args.kept.now c.args.list.now.items c.loop-i.store c.match-ops-i.store c.loop-i.splices.items c.match-ops-i.splices.items c.loop-i.at c.match-ops-i.at (Some w.in_ok-next-in-Attribute.next) c.match-ops-i.head (c.loop-i.i + 1)
      w.store-is (ap (λ v. v.items) w.splices-is) w.at-is w.head-is
      (stage-attribute c.args.store.now c.args.ops.now c.args.kept.now c.args.list.now.items c.requires.list c.requires.cites c.requires.normal c.requires.applies
      c.loop-i.store c.loop-i.splices.items c.loop-i.at c.loop-i.head c.loop-i.i c.loop-i.invariant
      c.index-ops-i.result c.loop-i-test.true c.index-ops-i.is w.in-Attribute.name w.in-Attribute.from w.in-Attribute.to w.get.result w.in_ok-present-in-Attribute.present w.in_ok-next-in-Attribute.next w.position_at.result w.in-Attribute.is
      w.get.ensures w.in_ok-present-in-Attribute.ensures w.position_at.ensures w.in_ok-next-in-Attribute.ensures)
]

pub returns-clause-changed : goal.returns-clause-changed
returns-clause-changed c = (stage-all c.args.store.now c.args.ops.now c.args.kept.now c.args.list.now.items c.requires.list c.requires.cites c.requires.normal c.requires.applies
    c.loop-i.store c.loop-i.splices.items c.loop-i.at c.loop-i.head c.loop-i.i c.loop-i.invariant (omega (arith, c.loop-i-test.false))).changed

pub returns-clause-range : goal.returns-clause-range
returns-clause-range c = (stage-all c.args.store.now c.args.ops.now c.args.kept.now c.args.list.now.items c.requires.list c.requires.cites c.requires.normal c.requires.applies
    c.loop-i.store c.loop-i.splices.items c.loop-i.at c.loop-i.head c.loop-i.i c.loop-i.invariant (omega (arith, c.loop-i-test.false))).range

pub returns-clause-within : goal.returns-clause-within
returns-clause-within c = (stage-all c.args.store.now c.args.ops.now c.args.kept.now c.args.list.now.items c.requires.list c.requires.cites c.requires.normal c.requires.applies
    c.loop-i.store c.loop-i.splices.items c.loop-i.at c.loop-i.head c.loop-i.i c.loop-i.invariant (omega (arith, c.loop-i-test.false))).within

pub returns-clause-thrifty : goal.returns-clause-thrifty
returns-clause-thrifty c = (stage-all c.args.store.now c.args.ops.now c.args.kept.now c.args.list.now.items c.requires.list c.requires.cites c.requires.normal c.requires.applies
    c.loop-i.store c.loop-i.splices.items c.loop-i.at c.loop-i.head c.loop-i.i c.loop-i.invariant (omega (arith, c.loop-i-test.false))).count

pub returns-clause-store : goal.returns-clause-store
returns-clause-store c = (stage-all c.args.store.now c.args.ops.now c.args.kept.now c.args.list.now.items c.requires.list c.requires.cites c.requires.normal c.requires.applies
    c.loop-i.store c.loop-i.splices.items c.loop-i.at c.loop-i.head c.loop-i.i c.loop-i.invariant (omega (arith, c.loop-i-test.false))).store
