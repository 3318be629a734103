use Rattle.std.proofs.Common.{◌≡◌, sym, ap, ◌∙◌, None, Some}
use Rattle.ve_tx.specs.Order.{without, stands, place_of}
use Rattle.ve_tx.proofs.OrderLemmas.{found, missing, removed, without_none}
use Rattle.ve_tx.proofs.order.Chunk.take_out.Goals as goal

pub returns-in_default-clause-left : goal.returns-in_default-clause-left
returns-in_default-clause-left c =
    let none : place_of c.args.number c.args.self.now ≡ None = cc (c.in_default.ensures.place, c.as_slice.ensures.value, c.self.view_is) in
    sym (without_none c.args.number c.args.self.now (missing c.args.number c.args.self.now none))

pub returns-in_default-clause-stood : goal.returns-in_default-clause-stood
returns-in_default-clause-stood c =
    let none : place_of c.args.number c.args.self.now ≡ None = cc (c.in_default.ensures.place, c.as_slice.ensures.value, c.self.view_is) in
    sym (missing c.args.number c.args.self.now none)

pub returns-clause-left : goal.returns-clause-left
returns-clause-left c =
    let at : place_of c.args.number c.self.inside.numbers.items ≡ Some c.in-Some.place = cc (c.in-Some.ensures.place, c.as_slice.ensures.value) in
    c.remove.ensures.items ∙ removed c.args.number c.self.inside.numbers.items c.in-Some.place at ∙ ap (without c.args.number) c.self.view_is

pub returns-clause-stood : goal.returns-clause-stood
returns-clause-stood c =
    let at : place_of c.args.number c.self.inside.numbers.items ≡ Some c.in-Some.place = cc (c.in-Some.ensures.place, c.as_slice.ensures.value) in
    sym (found c.args.number c.self.inside.numbers.items c.in-Some.place at) ∙ ap (stands c.args.number) c.self.view_is
