use Rattle.std.proofs.Common.{◌≡◌, ◌+◌, ◌++◌, ◌∷◌, [], take, ap, sym, ◌∙◌, subst, arith}
use Rattle.std.proofs.lemmas.List.{take_more, take_all, map-append}
use Rattle.ve_base.specs.declared.attrs.Attr.{Attr}
use Rattle.ve_base.specs.Names.{names, NamesApart}
use Rattle.ve_base.proofs.NamesLemmas.{NamesApart-push}
use Rattle.ve_tx.specs.Noted.{HaveSameNames}
use Rattle.ve_json.proofs.ApartLemmas.{apart_all, noted_twice, one_more_last}
use Rattle.ve_json.proofs.attributes.are_apart.Goals as goal

pub returns-then-not-is_new : goal.returns-then-not-is_new
returns-then-not-is_new c =
    sym (noted_twice c.args.attrs.now c.loop-attr.attr-index c.attr-item.result c.loop-attr.names c.in_ok-is_new.is_new c.loop-attr-test.true c.attr-item.is c.loop-attr.invariant.names c.in_ok-is_new.ensures.new.1 c.if-not-is_new.true)

pub returns : goal.returns
returns c = sym (apart_all c.args.attrs.now (subst NamesApart (take_all c.loop-attr.attr-index c.args.attrs.now (omega (arith, c.loop-attr-test.false))) c.loop-attr.invariant.apart))

pub loop-attr-preserved : goal.loop-attr-preserved
loop-attr-preserved c =
    let i = c.loop-attr.attr-index in
    let more : take (i + 1) c.args.attrs.now ≡ take i c.args.attrs.now ++ c.attr-item.result ∷ [] = take_more c.args.attrs.now i c.attr-item.result c.loop-attr-test.true ∙ ap (λ (a : Attr). take i c.args.attrs.now ++ a ∷ []) (sym c.attr-item.is) in
    record {
      names = subst (HaveSameNames c.note.new.self) (sym (map-append (λ (a : Attr). a.name) (take i c.args.attrs.now) (c.attr-item.result ∷ [])) ∙ ap names (sym more))
          (one_more_last c.attr-item.result.name c.loop-attr.names c.note.new.self (names (take i c.args.attrs.now)) c.loop-attr.invariant.names c.in_ok-is_new.ensures.noted);
      apart = subst NamesApart (sym more) (NamesApart-push (take i c.args.attrs.now) c.attr-item.result c.loop-attr.invariant.apart (λ h. c.in_ok-is_new.ensures.new.0 c.if-not-is_new.false ((c.loop-attr.invariant.names c.attr-item.result.name).1 h)));
    }
