use Rattle.std.proofs.Common.{IsUtf8, refl, sym, subst}
use Rattle.std.proofs.lemmas.Str.{IsUtf8-nil}
use Rattle.ve_html_write.proofs.EscapedUtf8.{more_utf8, ascii_all_utf8}
use Rattle.ve_html_write.proofs.StartTag.{start_begun, start_done}
use Rattle.ve_html_write.proofs.tags.start_bytes.Goals as goal

pub returns-clause-ok : goal.returns-clause-ok
returns-clause-ok c = start_done c.push-3.new.self c.loop-attr.bytes c.args.tag.now c.as_slice-attr-items.result.now c.args.attrs.now c.loop-attr.attr-index c.in_ok-push-3.ensures.ok c.loop-attr.invariant.is c.loop-attr-test.false c.as_slice-attr-items.ensures.items

pub loop-attr-init : goal.loop-attr-init
loop-attr-init c =
    let before : IsUtf8 c.push.new.self = more_utf8 _ _ _ c.in_ok-push.ensures.ok (ascii_all_utf8 _ refl) (subst IsUtf8 (sym c.new-bytes.ensures) IsUtf8-nil) in
    record {
      is = start_begun _ _ _ _ c.args.tag.now c.in_ok-push-2.ensures.ok c.in_ok-push.ensures.ok c.new-bytes.ensures c.as_bytes.ensures.value;
      utf8 = more_utf8 _ _ _ c.in_ok-push-2.ensures.ok c.as_bytes.ensures.utf8 before;
    }

pub returns-clause-utf8 : goal.returns-clause-utf8
returns-clause-utf8 c = more_utf8 _ _ _ c.in_ok-push-3.ensures.ok (ascii_all_utf8 _ refl) c.loop-attr.invariant.utf8
