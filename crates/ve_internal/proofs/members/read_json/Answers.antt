use Rattle.std.proofs.Common.{sym}
use Rattle.ve_internal.proofs.members.read_json.Goals as goal

pub returns-in-Ok : goal.returns-in-Ok
returns-in-Ok c = sym c.in-Ok.ensures.ok

pub returns-else-is_memory : goal.returns-else-is_memory
returns-else-is_memory c = sym (c.in-Err.ensures.err (λ m. let yes = c.is_memory.ensures.1 m in cc (yes, c.if-is_memory.false)))
