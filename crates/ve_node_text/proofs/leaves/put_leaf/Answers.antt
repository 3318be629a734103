use Rattle.std.proofs.lemmas.Result.{on_ok_weaker}
use Rattle.ve_html_write.proofs.EscapedUtf8.{more_utf8}
use Rattle.ve_node_text.proofs.leaves.put_leaf.Goals as goal

pub returns-in_default-clause-utf8 : goal.returns-in_default-clause-utf8
returns-in_default-clause-utf8 c = on_ok_weaker c.push.result (λ e u. more_utf8 _ _ _ e c.as_bytes.ensures.utf8 u) c.push.ensures.ok
