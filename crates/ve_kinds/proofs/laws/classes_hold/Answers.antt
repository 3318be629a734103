use Rattle.ve_kinds.proofs.LawLemmas.{leaves_are_empty, inline_in_content, flow_holds}
use Rattle.ve_kinds.proofs.laws.classes_hold.Goals as goal

pub returns : goal.returns
returns c = record { leaves = leaves_are_empty; content = inline_in_content; flow = flow_holds }
