use Rattle.std.proofs.Common.{IsUtf8, sym, subst}
use Rattle.std.proofs.lemmas.Result.{on_ok_weaker}
use Rattle.std.proofs.lemmas.Str.{IsUtf8-nil}
use Rattle.ve_html_write.proofs.EscapedUtf8.{more_utf8}
use Rattle.ve_html_write.proofs.texts.put_text.Goals as goal

pub returns-clause-utf8 : goal.returns-clause-utf8
returns-clause-utf8 c =
    let piece : IsUtf8 c.push_escaped.new.out = c.in_ok-push_escaped.ensures.utf8 c.as_bytes.ensures.utf8 (subst IsUtf8 (sym c.new-piece.ensures) IsUtf8-nil) in
    on_ok_weaker c.push.result (λ e u. more_utf8 _ _ _ e (subst IsUtf8 (sym c.as_slice.ensures) piece) u) c.push.ensures.ok
