use Rattle.std.proofs.Common.{IsUtf8, sym, subst}
use Rattle.std.proofs.lemmas.Str.{IsUtf8-nil}
use Rattle.ve_write.proofs.CarriedLemmas.{body_read}
use Rattle.ve_write.proofs.bodies.body_text.Goals as goal

pub returns : goal.returns
returns c =
    body_read c.args.store.now c.args.list.now.items c.args.at c.new-spelled.result c.put_body.new.out c.as_slice.result.now c.in-Ok.text.now c.in_ok-from_str.field-0
    c.new-spelled.ensures c.in_ok-put_body.ensures.text c.as_slice.ensures c.in-Ok.ensures.cases.0 c.in-Ok.ensures.cases.1 c.in_ok-from_str.ensures

pub unreachable-requires : goal.unreachable-requires
unreachable-requires c =
    c.in_default.ensures.cases.0 (subst IsUtf8 (sym c.as_slice.ensures) (c.in_ok-put_body.ensures.utf8 (subst IsUtf8 (sym c.new-spelled.ensures) IsUtf8-nil)))
