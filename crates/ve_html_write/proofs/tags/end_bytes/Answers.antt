use Rattle.std.proofs.Common.{IsUtf8, refl, sym, subst}
use Rattle.std.proofs.lemmas.Str.{IsUtf8-nil}
use Rattle.ve_html_write.proofs.EscapedUtf8.{more_utf8, ascii_all_utf8}
use Rattle.ve_html_write.proofs.tags.end_bytes.Goals as goal

pub returns-clause-utf8 : goal.returns-clause-utf8
returns-clause-utf8 c =
    let before : IsUtf8 c.push.new.self = more_utf8 _ _ _ c.in_ok-push.ensures.ok (ascii_all_utf8 _ refl) (subst IsUtf8 (sym c.new-bytes.ensures) IsUtf8-nil) in
    let tag : IsUtf8 c.push-2.new.self = more_utf8 _ _ _ c.in_ok-push-2.ensures.ok c.as_bytes.ensures.utf8 before in
    more_utf8 _ _ _ c.in_ok-push-3.ensures.ok (ascii_all_utf8 _ refl) tag
