use Rattle.std.proofs.Common.{◌≡◌, Some, sym, ap, ◌∙◌, arith}
use Rattle.ve_base.specs.declared.attrs.Attr.{Attr}
use Rattle.model_change.specs.Attributes.{value_of}
use Rattle.ve_tx.specs.Looked.{place_from}
use Rattle.ve_tx.proofs.LookedLemmas.{found-place, placed-within, placed-value, unplaced}
use Rattle.ve_tx.proofs.lookup.Lookup.value.Goals as goal

pub offset_bounds-attrs-at : goal.offset_bounds-attrs-at
offset_bounds-attrs-at c =
    let attrs = c.self.inside.attrs.now in
    let placed : place_from 0 c.args.name.now attrs ≡ Some c.in-Some.at.now =
    sym (found-place c.self.inside.positions attrs c.args.name.now c.as_str.result c.self.invariant c.as_str.ensures.bytes c.as_str.ensures.chars) ∙ sym c.in-Some.ensures.value in
    let within = placed-within c.args.name.now attrs c.in-Some.at.now placed in
    omega (arith, within, c.self.told)

pub bounds-attrs-at : goal.bounds-attrs-at
bounds-attrs-at c =
    let attrs = c.self.inside.attrs.now in
    placed-within c.args.name.now attrs c.in-Some.at.now
    (sym (found-place c.self.inside.positions attrs c.args.name.now c.as_str.result c.self.invariant c.as_str.ensures.bytes c.as_str.ensures.chars) ∙ sym c.in-Some.ensures.value)

pub returns-in-Some : goal.returns-in-Some
returns-in-Some c =
    let attrs = c.self.inside.attrs.now in
    ap (λ (a : Attr). Some a.value) (sym c.index-attrs-at.is)
    ∙ placed-value c.args.name.now attrs c.in-Some.at.now c.index-attrs-at.result
    (sym (found-place c.self.inside.positions attrs c.args.name.now c.as_str.result c.self.invariant c.as_str.ensures.bytes c.as_str.ensures.chars) ∙ sym c.in-Some.ensures.value)
    c.index-attrs-at.is
    ∙ ap (value_of c.args.name.now) c.self.view_is

pub returns-in-None : goal.returns-in-None
returns-in-None c =
    let attrs = c.self.inside.attrs.now in
    unplaced 0 c.args.name.now attrs
    (sym (found-place c.self.inside.positions attrs c.args.name.now c.as_str.result c.self.invariant c.as_str.ensures.bytes c.as_str.ensures.chars) ∙ sym c.in-None.ensures.value)
    ∙ ap (value_of c.args.name.now) c.self.view_is
