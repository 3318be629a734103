use Rattle.std.proofs.Common.{drop, take}
use Rattle.ve_offsets.specs.Docs.{page_items}
use Rattle.ve_build_shape.specs.Round.{HaveRoom, PutsRound}
use Rattle.ve_build_shape.proofs.wraps.put_round_each.Given as goal

abbrev pub invariant-loop-i : goal.invariant-loop-i
invariant-loop-i l = record {
  room : HaveRoom (page_items l.fn.doc) l.fn.count l.edits.at l.fn.end (drop l.i l.fn.nodes);
  puts : PutsRound l.fn.doc.list.now.items l.fn.count l.fn.brackets (take l.i l.fn.nodes) l.fn.edits l.edits;
}
