use Rattle.std.proofs.Common.{IsUtf8, sym, subst}
use Rattle.std.proofs.lemmas.Result.{on_ok_weaker}
use Rattle.std.proofs.lemmas.Str.{IsUtf8-append, IsUtf8-nil}
use Rattle.ve_write.proofs.range.write_fresh_range.Goals as goal

pub returns-clause-utf8 : goal.returns-clause-utf8
returns-clause-utf8 c =
    let text : IsUtf8 c.put_range.new.out = c.in_ok-put_range.ensures.utf8 (subst IsUtf8 (sym c.new-text.ensures) IsUtf8-nil) in
    on_ok_weaker c.push.result (λ e u. subst IsUtf8 (sym e) (IsUtf8-append _ _ u (subst IsUtf8 (sym c.as_slice.ensures) text))) c.push.ensures.ok
