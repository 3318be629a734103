use Rattle.std.proofs.Common.{IsUtf8, refl}
use Rattle.std.proofs.lemmas.Result.{on_ok_weaker}
use Rattle.ve_html_write.proofs.EscapedUtf8.{more_utf8, ascii_all_utf8}
use Rattle.ve_html_write.proofs.tags.push_attr.Goals as goal

pub returns-clause-utf8 : goal.returns-clause-utf8
returns-clause-utf8 c =
    on_ok_weaker c.push-4.result (λ e u.
    let space : IsUtf8 c.push.new.self = more_utf8 _ _ _ c.in_ok-push.ensures.ok (ascii_all_utf8 _ refl) u in
    let name : IsUtf8 c.push-2.new.self = more_utf8 _ _ _ c.in_ok-push-2.ensures.ok c.as_bytes.ensures.utf8 space in
    let equals : IsUtf8 c.push-3.new.self = more_utf8 _ _ _ c.in_ok-push-3.ensures.ok (ascii_all_utf8 _ refl) name in
    let value : IsUtf8 c.push_escaped.new.out = c.in_ok-push_escaped.ensures.utf8 c.as_bytes-2.ensures.utf8 equals in
    more_utf8 _ _ _ e (ascii_all_utf8 _ refl) value)
    c.push-4.ensures.ok
