use Rattle.std.proofs.Common.{IsUtf8, sym, subst}
use Rattle.std.proofs.lemmas.Result.{on_ok_weaker}
use Rattle.ve_html_write.proofs.EscapedUtf8.{more_utf8}
use Rattle.ve_html_write.proofs.tags.put_end.Goals as goal

pub returns-clause-utf8 : goal.returns-clause-utf8
returns-clause-utf8 c = on_ok_weaker c.push.result (λ e u. more_utf8 _ _ _ e (subst IsUtf8 (sym c.as_slice.ensures) c.in_ok-bytes.ensures.utf8) u) c.push.ensures.ok
