use Rattle.std.proofs.Common.{IsUtf8, sym, subst}
use Rattle.std.proofs.lemmas.Result.{on_ok_weaker}
use Rattle.std.proofs.lemmas.Str.{IsUtf8-append, IsUtf8-nil}
use Rattle.ve_write.proofs.page.write_knowing.Goals as goal

pub put_list-requires-clause-lent : goal.put_list-requires-clause-lent
put_list-requires-clause-lent c = record { first = c.requires.first; lawful = c.requires.lawful; rows = c.in_ok-refs.ensures }

pub put_list-requires-clause-known : goal.put_list-requires-clause-known
put_list-requires-clause-known c = record { items = c.requires.known }

pub returns-clause-utf8 : goal.returns-clause-utf8
returns-clause-utf8 c =
    let head : IsUtf8 c.push.new.self = subst IsUtf8 (sym c.in_ok-push.ensures.ok) (IsUtf8-append _ _ (subst IsUtf8 (sym c.new-text.ensures) IsUtf8-nil) c.as_bytes.ensures.utf8) in
    let text : IsUtf8 c.push-2.new.self = subst IsUtf8 (sym c.in_ok-push-2.ensures.ok) (IsUtf8-append _ _ (c.in_ok-put_list.ensures.utf8 head) c.as_bytes-2.ensures.utf8) in
    on_ok_weaker c.push-3.result (λ e u. subst IsUtf8 (sym e) (IsUtf8-append _ _ u (subst IsUtf8 (sym c.as_slice.ensures) text))) c.push-3.ensures.ok
