use Rattle.std.proofs.Common.{◌∙◌, sym, ap}
use Rattle.ve_repair.specs.Reader.{Reading}
use Rattle.ve_repair.proofs.MakeLemmas.{makes_still}
use Rattle.ve_repair.proofs.ReaderLemmas.{ends_none}
use Rattle.ve_repair.proofs.StoppedLemmas.{err_so, stopped_end}
use Rattle.ve_repair.proofs.read.ChangeReader.end_run.Goals as goal

pub returns-in_default-clause-ends : goal.returns-in_default-clause-ends
returns-in_default-clause-ends g c = ends_none c.args.arena.now.slots c.args.self.now (sym (ap (λ (r : Reading). r.run) c.self.view_is) ∙ c.in_default.is)

pub returns-clause-made : goal.returns-clause-made
returns-clause-made g c =
    makes_still c.args.arena.now.slots c.make_node.new.arena.slots c.args.self.now.script c.make_node.new.self.script c.end_with-2.new.self.script c.make_node.ensures.made c.end_with-2.ensures.same

pub returns-clause-stopped : goal.returns-clause-stopped
returns-clause-stopped g c =
    err_so c.end_with-2.result _ _
    (stopped_end c.args.self.now c.make_node.new.self c.in_ok-n.n c.in-Some.run' c.end_with-2.new.self.script
    (sym (ap (λ (r : Reading). r.run) c.self.view_is) ∙ c.in-Some.is) c.in_default-kept.is c.in_ok-n.ensures.reader)
    c.end_with-2.ensures.err
