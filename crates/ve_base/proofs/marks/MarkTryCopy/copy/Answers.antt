use Rattle.ve_base.proofs.PartsLemmas.{equal_mark}
use Rattle.ve_base.proofs.marks.MarkTryCopy.copy.Goals as goal

pub returns : goal.returns
returns c = equal_mark (record { tag = c.in_ok-copy.field-0; attrs = c.in_ok-copy-2.field-0 }) c.args.self.now c.in_ok-copy.ensures c.in_ok-copy-2.ensures
