use Rattle.std.proofs.lemmas.Result.{on_ok_weaker}
use Rattle.ve_html_write.proofs.EscapedUtf8.{more_utf8}
use Rattle.ve_node_text.proofs.reference.put_reference.Goals as goal

pub returns-clause-utf8 : goal.returns-clause-utf8
returns-clause-utf8 c =
    on_ok_weaker c.put_end.result (λ f u. f (more_utf8 _ _ _ c.in_ok-push.ensures.ok c.as_bytes.ensures.utf8 (c.in_ok-push_start_of.ensures.utf8 u))) c.put_end.ensures.utf8
