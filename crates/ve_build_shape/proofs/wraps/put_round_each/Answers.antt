use Rattle.std.proofs.Common.{◌+◌, List, ℕ, take, drop, sym, subst, arith}
use Rattle.std.proofs.lemmas.List.{take_all, take_more}
use Rattle.model_items.specs.Plain.{plain_list}
use Rattle.ve_build_shape.specs.Round.{HaveRoom, PutsRound}
use Rattle.ve_build_shape.proofs.RoundLemmas.{puts_more, room_next}
use Rattle.ve_build_shape.proofs.wraps.put_round_each.Goals as goal

pub loop-i-preserved : goal.loop-i-preserved
loop-i-preserved c =
    let l = c.loop-i in
    let items = c.args.doc.list.now.items in
    let P = plain_list c.args.doc.store.now items in
    let nodes = c.args.nodes.now in
    record {
      room =
          subst (λ (n : ℕ). HaveRoom P c.args.count n c.args.end (drop (l.i + 1) nodes)) (sym c.in_ok-put_round.ensures.at)
          (room_next P c.args.count l.edits.at c.args.end nodes l.i _ (omega arith) l.invariant.room);
      puts =
          puts_more items c.args.count c.args.brackets.now (take l.i nodes) (take (l.i + 1) nodes) _ c.args.edits.now l.edits c.put_round.new.edits
          (take_more nodes l.i _ (omega arith)) l.invariant.puts c.in_ok-put_round.ensures.puts;
    }

pub returns-clause-puts : goal.returns-clause-puts
returns-clause-puts c =
    let l = c.loop-i in
    let nodes = c.args.nodes.now in
    subst (λ (ns : List ℕ). PutsRound c.args.doc.list.now.items c.args.count c.args.brackets.now ns c.args.edits.now l.edits) (take_all l.i nodes (omega arith)) l.invariant.puts
