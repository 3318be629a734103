use Rattle.std.proofs.Common.{◌≡◌, None, sym, ◌∙◌, arith}
use Rattle.model_items.specs.Plain.{plain, plain_list}
use Rattle.ve_edits.proofs.BracketLemmas.{slice_get-plain}
use Rattle.ve_build_shape.proofs.NodeLemmas.{nodes_more, nodes_stop, nodes_done, no_depth}
use Rattle.ve_build_shape.proofs.nodes.nodes_in.Goals as goal

pub returns-in_default : goal.returns-in_default
returns-in_default c = λ values.
    let items = c.args.doc.list.now.items in
    let l = c.loop-at in
    let x = c.get-item.result in
    let none : c.depth_past.result ≡ None = no_depth c.depth_past.result c.in_default.not-Some in
    nodes_stop (plain_list values items) l.depth l.at c.args.to (plain values x) l.nodes.items (omega arith) (slice_get-plain values items l.at x c.get-item.ensures)
    (sym (c.depth_past.ensures.means values) ∙ none)
    ∙ l.invariant.means values

pub loop-at-preserved : goal.loop-at-preserved
loop-at-preserved c =
    let items = c.args.doc.list.now.items in
    let l = c.loop-at in
    let x = c.get-item.result in
    record {
      few = let few = l.invariant.few in let more = c.in-Some.ensures.few in omega (arith, few, more);
      means = λ values.
          nodes_more (plain_list values items) l.depth c.in-Some.deeper l.at c.args.to (plain values x) l.nodes.items c.note.new.nodes.items (omega arith)
          (slice_get-plain values items l.at x c.get-item.ensures) (sym (c.in-Some.ensures.means values)) (c.in_ok-note.ensures values)
          ∙ l.invariant.means values;
    }

pub returns : goal.returns
returns c = λ values.
    let l = c.loop-at in
    nodes_done (plain_list values c.args.doc.list.now.items) l.depth l.at c.args.to l.nodes.items (omega arith) ∙ l.invariant.means values
