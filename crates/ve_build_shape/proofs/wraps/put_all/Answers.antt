use Rattle.std.proofs.Common.{◌≡◌, length, List, ap, arith}
use Rattle.std.proofs.lemmas.List.{length-map}
use Rattle.ve_kinds.specs.declared.kind.Kind.{Kind}
use Rattle.std.specs.Prelude.{All}
use Rattle.ve_base.specs.declared.value.Value.{Value}
use Rattle.model_items.specs.Plain.{plain, plain_list, CitesWell}
use Rattle.ve_edits.specs.Collected.{Makes}
use Rattle.ve_build_shape.specs.Round.{AreBrackets, edits_round}
use Rattle.ve_build_shape.proofs.RoundLemmas.{all_collected, room_ends}
use Rattle.ve_build_shape.proofs.wraps.put_all.Goals as goal

pub change-requires-clause-within : goal.change-requires-clause-within
change-requires-clause-within c =
    let n = length-map c.args.doc.list.now.items (plain c.args.doc.store.now) in
    let after = c.requires.fits.after in
    let outer = ap (λ (l : List Kind). length l) c.as_slice-outer_kinds.ensures in
    let order = room_ends (plain_list c.args.doc.store.now c.args.doc.list.now.items) (length c.args.plan.now.unwrap_each) c.args.from c.args.to c.args.nodes.now c.requires.fits.nodes in
    let before = c.requires.fits.before in
    omega (arith, n, after, before, order, outer)

pub returns : goal.returns
returns c =
    let items = c.args.doc.list.now.items in
    let plan = c.args.plan.now in
    let outer : length c.as_slice-outer_kinds.result.now ≡ length plan.unwrap_outer = ap (λ (l : List Kind). length l) c.as_slice-outer_kinds.ensures in
    let each : length c.as_slice-each_kinds.result.now ≡ length plan.unwrap_each = ap (λ (l : List Kind). length l) c.as_slice-each_kinds.ensures in
    let made : (values : List Value) → All (CitesWell values) items → AreBrackets values plan.wrap_outer c.args.outer.now → AreBrackets values plan.wrap_each c.args.each.now →
    Makes values items (edits_round (plain_list values items) c.args.from c.args.to plan c.args.nodes.now) c.change-2.new.self = λ values listed one two.
    all_collected values items c.args.from c.args.to (length c.as_slice-outer_kinds.result.now) (length c.as_slice-each_kinds.result.now) plan c.args.nodes.now c.args.outer.now c.args.each.now
    c.as_slice-openings.result.now c.as_slice-closings.result.now c.new-edits.result c.change.new.self c.put_round_each.new.edits c.change-2.new.self outer each
    c.as_slice-openings.ensures c.as_slice-closings.ensures listed one two (c.new-edits.ensures.makes values items) c.in_ok-change.ensures.makes
    c.in_ok-put_round_each.ensures.puts c.in_ok-change-2.ensures.makes in
    record {
      means = λ values listed one two. c.in_ok-tx.ensures.means values (edits_round (plain_list values items) c.args.from c.args.to plan c.args.nodes.now) (made values listed one two);
      cites = λ values listed one two. c.in_ok-tx.ensures.cites values (edits_round (plain_list values items) c.args.from c.args.to plan c.args.nodes.now) (made values listed one two);
    }
