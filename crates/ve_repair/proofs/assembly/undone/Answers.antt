use Rattle.ve_repair.proofs.UndoneLemmas.{freed_of, made_live, made_undone}
use Rattle.ve_repair.proofs.assembly.undone.Goals as goal

pub free_nodes-requires-clause-live : goal.free_nodes-requires-clause-live
free_nodes-requires-clause-live g c =
    made_live c.requires.made.before c.args.arena.now.slots c.args.reader.now.script c.script.result.now c.script.ensures c.requires.made.made

pub returns-clause-same : goal.returns-clause-same
returns-clause-same g c = λ before made.
    made_undone before c.args.arena.now.slots c.free_nodes.new.arena.slots c.args.reader.now.script made
    (freed_of c.args.arena.now.slots c.free_nodes.new.arena.slots c.args.reader.now.script c.script.result.now c.script.ensures c.free_nodes.ensures.freed)
