use Rattle.std.proofs.Common.{IsUtf8, sym, subst}
use Rattle.std.proofs.lemmas.Result.{on_ok_weaker}
use Rattle.std.proofs.lemmas.Str.{IsUtf8-append}
use Rattle.ve_write.proofs.OriginalLemmas.{nothing_known}
use Rattle.ve_write.proofs.content.put_inline_leaf.Goals as goal

pub original_at-requires-clause-known : goal.original_at-requires-clause-known
original_at-requires-clause-known c = nothing_known _ _ _ _ c.nothing.ensures

pub returns-in-Some-clause-utf8 : goal.returns-in-Some-clause-utf8
returns-in-Some-clause-utf8 c = on_ok_weaker c.push.result (λ e u. subst IsUtf8 (sym e) (IsUtf8-append _ _ u c.as_bytes.ensures.utf8)) c.push.ensures.ok
